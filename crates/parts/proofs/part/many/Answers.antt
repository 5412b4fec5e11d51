-- By its shape.
use mathlib.Core.Path.{refl}
use mathlib.Core.Bool.{true}
use Rattle.definition.specs.Prog.{many}
use Rattle.notes.proofs.Sticky.{sticky_exec}
use Rattle.parts.specs.Reads.{reads}
use Rattle.parts.proofs.Lines.{from, plus, plus_t, stops, turns, turns_more, turns_undone, turns_over}
use Rattle.steps.proofs.Modes.{fine, not_fine}
use Rattle.parts.proofs.part.many.Goals as goal

pub returns-then-isnt-clause-read : goal.returns-then-isnt-clause-read
returns-then-isnt-clause-read g c = stops (from c.args.x.now c.args.s c.args.lent.now c.requires) c.args.x.now.entrypoint c.args.d c.args.may (many g.P.Part.prog) tt (not_fine _ c.if-isnt.ensures)

pub loop-turn-init : goal.loop-turn-init
loop-turn-init g c = turns (reads c.args.x.now.entrypoint c.args.d true g.P.Part.prog) _ _ _ _ (λ p. sticky_exec p _ c.args.x.now.entrypoint c.args.d g.P.Part.prog true) c.requires (fine _ c.if-isnt.ensures) refl

pub read-s-requires : goal.read-s-requires
read-s-requires g c = (plus_t c.loop-turn.invariant.here (c.trivia-s.ensures.0 c.args.x.now.src.now c.loop-turn.lent.notes)).wf

pub returns-then-isnt-2-clause-read : goal.returns-then-isnt-2-clause-read
returns-then-isnt-2-clause-read g c = turns_undone c.loop-turn.invariant c.loop-turn-test.true (plus (plus_t c.loop-turn.invariant.here (c.trivia-s.ensures.0 c.args.x.now.src.now c.loop-turn.lent.notes)) c.read-s.ensures.read) (not_fine _ c.if-isnt-2.ensures) (c.mark-m.ensures c.loop-turn.lent.notes) (c.undone.ensures c.read-s.new.lent.notes)

pub loop-turn-preserved : goal.loop-turn-preserved
loop-turn-preserved g c = turns_more c.loop-turn.invariant c.loop-turn-test.true (plus (plus_t c.loop-turn.invariant.here (c.trivia-s.ensures.0 c.args.x.now.src.now c.loop-turn.lent.notes)) c.read-s.ensures.read) (fine _ c.if-isnt-2.ensures) c.read-s.ensures.lists

pub returns-clause-read : goal.returns-clause-read
returns-clause-read g c = turns_over c.loop-turn.invariant c.loop-turn-test.false
