-- An optional row.
use mathlib.Core.Path.{ap, ◌∙◌}
use Rattle.kinds.specs.Sets.{set_of}
use Rattle.definition.specs.Prog.{eat}
use Rattle.notes.specs.Change.{with_mode}
use Rattle.notes.specs.Means.{names_of}
use Rattle.parts.specs.Parts.{optionally}
use Rattle.parts.proofs.Lines.{from, plus_e, plus_t, stops, waives, waived_on, waived_back}
use Rattle.steps.proofs.Modes.{failed, fine, not_failed, not_fine}
use Rattle.parts.proofs.tuples.maybe.Goals as goal

pub returns-then-isnt-clause-read : goal.returns-then-isnt-clause-read
unfolding names_of
returns-then-isnt-clause-read c = stops (from c.args.x.now c.args.s c.args.lent.now c.requires.0) c.args.x.now.entrypoint c.args.d c.args.may (optionally c.args.set) tt (not_fine _ c.if-isnt.ensures)

pub returns-then-isnt-2-clause-read : goal.returns-then-isnt-2-clause-read
unfolding names_of
returns-then-isnt-2-clause-read c = waives c.args.x.now.entrypoint c.args.d c.args.may (eat (set_of c.args.set) (names_of c.args.set)) (from c.args.x.now c.args.s c.args.lent.now c.requires.0) (fine _ c.if-isnt.ensures) (c.mark-m.ensures c.args.lent.now.notes) (plus_e (plus_t (from c.args.x.now c.args.s c.args.lent.now c.requires.0) (c.trivia-s.ensures.0 c.args.x.now.src.now c.args.lent.now.notes)) c.expect-s.ensures.step) (waived_on _ _ (not_failed _ c.if-isnt-2.ensures))

pub returns-clause-read : goal.returns-clause-read
unfolding names_of
returns-clause-read c = waives c.args.x.now.entrypoint c.args.d c.args.may (eat (set_of c.args.set) (names_of c.args.set)) (from c.args.x.now c.args.s c.args.lent.now c.requires.0) (fine _ c.if-isnt.ensures) (c.mark-m.ensures c.args.lent.now.notes) (plus_e (plus_t (from c.args.x.now c.args.s c.args.lent.now c.requires.0) (c.trivia-s.ensures.0 c.args.x.now.src.now c.args.lent.now.notes)) c.expect-s.ensures.step) (ap (with_mode 0) (c.rewind-s.ensures c.expect-s.new.lent.notes) ∙ waived_back _ _ (failed _ c.if-isnt-2.ensures))
