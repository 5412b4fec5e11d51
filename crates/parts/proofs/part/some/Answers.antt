-- By its shape.
use Rattle.definition.specs.Grammar.{some}
use Rattle.parts.proofs.Lines.{from, plus, plus_t, then_past, stops}
use Rattle.steps.proofs.Modes.{fine, not_fine}
use Rattle.parts.proofs.part.some.Goals as goal

pub returns-then-isnt-clause-read : goal.returns-then-isnt-clause-read
returns-then-isnt-clause-read g c = stops (from c.args.x.now c.args.s c.args.lent.now c.requires) c.args.x.now.entrypoint c.args.d c.args.may (some g.P.Part.prog) tt (not_fine _ c.if-isnt.ensures)

pub read-s-requires : goal.read-s-requires
read-s-requires g c = (plus_t (from c.args.x.now c.args.s c.args.lent.now c.requires) (c.trivia-s.ensures.0 c.args.x.now.src.now c.args.lent.now.notes)).wf

pub many-s-requires : goal.many-s-requires
many-s-requires g c = (then_past c.args.x.now.entrypoint c.args.d c.args.may g.P.Part.prog (fine _ c.if-isnt.ensures) (plus (plus_t (from c.args.x.now c.args.s c.args.lent.now c.requires) (c.trivia-s.ensures.0 c.args.x.now.src.now c.args.lent.now.notes)) c.read-s.ensures.read)).wf

pub returns-clause-read : goal.returns-clause-read
returns-clause-read g c = (plus (then_past c.args.x.now.entrypoint c.args.d c.args.may g.P.Part.prog (fine _ c.if-isnt.ensures) (plus (plus_t (from c.args.x.now c.args.s c.args.lent.now c.requires) (c.trivia-s.ensures.0 c.args.x.now.src.now c.args.lent.now.notes)) c.read-s.ensures.read)) c.many-s.ensures.read)
