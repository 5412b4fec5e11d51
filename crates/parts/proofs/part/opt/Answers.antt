-- By its shape.
use mathlib.Core.Path.{ap, ◌∙◌}
use Rattle.definition.specs.Prog.{opt}
use Rattle.notes.specs.Change.{with_mode}
use Rattle.parts.proofs.Lines.{from, plus, plus_t, stops, tries, waives, waived_on, waived_back}
use Rattle.steps.proofs.Modes.{failed, fine, not_failed, not_fine}
use Rattle.parts.proofs.part.opt.Goals as goal

pub returns-then-isnt-clause-read : goal.returns-then-isnt-clause-read
returns-then-isnt-clause-read g c = stops (from c.args.x.now c.args.s c.args.lent.now c.requires) c.args.x.now.entrypoint c.args.d c.args.may (opt g.P.Part.prog) tt (not_fine _ c.if-isnt.ensures)

pub read-s-requires : goal.read-s-requires
read-s-requires g c = (plus_t (tries c.args.x.now.entrypoint c.args.d c.args.may (opt g.P.Part.prog) (from c.args.x.now c.args.s c.args.lent.now c.requires) (fine _ c.if-isnt.ensures) (c.mark-m.ensures c.args.lent.now.notes)).here (c.trivia-s.ensures.0 c.args.x.now.src.now c.args.lent.now.notes)).wf

pub returns-then-isnt-2-clause-read : goal.returns-then-isnt-2-clause-read
returns-then-isnt-2-clause-read g c = waives c.args.x.now.entrypoint c.args.d c.args.may g.P.Part.prog (from c.args.x.now c.args.s c.args.lent.now c.requires) (fine _ c.if-isnt.ensures) (c.mark-m.ensures c.args.lent.now.notes) (plus (plus_t (from c.args.x.now c.args.s c.args.lent.now c.requires) (c.trivia-s.ensures.0 c.args.x.now.src.now c.args.lent.now.notes)) c.read-s.ensures.read) (waived_on _ _ (not_failed _ c.if-isnt-2.ensures))

pub returns-clause-read : goal.returns-clause-read
returns-clause-read g c = waives c.args.x.now.entrypoint c.args.d c.args.may g.P.Part.prog (from c.args.x.now c.args.s c.args.lent.now c.requires) (fine _ c.if-isnt.ensures) (c.mark-m.ensures c.args.lent.now.notes) (plus (plus_t (from c.args.x.now c.args.s c.args.lent.now c.requires) (c.trivia-s.ensures.0 c.args.x.now.src.now c.args.lent.now.notes)) c.read-s.ensures.read) (ap (with_mode 0) (c.rewind-s.ensures c.read-s.new.lent.notes) ∙ waived_back _ _ (failed _ c.if-isnt-2.ensures))
