use mathlib.Core.Option.{some}
use mathlib.Core.Path.{refl, sym, ap, ◌∙◌}
use Rattle.kinds.specs.Sets.{set_of}
use Rattle.kinds.proofs.Named.{kind_in_right}
use Rattle.notes.specs.Means.{source, names_of}
use Rattle.notes.specs.Did.{hits}
use Rattle.notes.proofs.Sticky.{sticky}
use Rattle.steps.proofs.Modes.{fine, not_fine}
use Rattle.steps.proofs.Next.{next_hit, next_lacks, next_end}
use Rattle.steps.proofs.Eating.{not_ok_e, eat_missed}
use Rattle.steps.proofs.state.State.expect.Goals as goal

pub returns-then-isnt-clause-step : goal.returns-then-isnt-clause-step
returns-then-isnt-clause-step c = record { events = λ bytes. not_ok_e _ (λ p. (sticky p (source bytes c.args.rows.now.ids.now c.args.rows.now.ends.now)).at_eat (set_of c.args.set) (names_of c.args.code)) c.requires.0.1 c.requires.0.2 (not_fine _ c.if-isnt.ensures); errors = refl; scratch = refl }

pub returns-then-at-rows-clause-step : goal.returns-then-at-rows-clause-step
returns-then-at-rows-clause-step c = record { events = λ bytes. eat_missed (set_of c.args.set) (names_of c.args.code) (fine _ c.if-isnt.ensures) (refl, c.peek-at.ensures, ap hits (next_end (set_of c.args.set) c.peek-at.ensures c.if-at-rows.true)) c.requires.0.2 (c.miss.ensures (source bytes c.args.rows.now.ids.now c.args.rows.now.ends.now) c.requires.0.1 c.peek-at.ensures); errors = refl; scratch = refl }

pub returns-then-not-has-clause-step : goal.returns-then-not-has-clause-step
returns-then-not-has-clause-step c = record { events = λ bytes. eat_missed (set_of c.args.set) (names_of c.args.code) (fine _ c.if-isnt.ensures) (refl, c.peek-at.ensures, ap hits (next_lacks (set_of c.args.set) c.peek-at.ensures c.if-at-rows.false (sym (c.if-not-has.true) ∙ c.has.ensures))) c.requires.0.2 (c.miss-then-not-has.ensures (source bytes c.args.rows.now.ids.now c.args.rows.now.ends.now) c.requires.0.1 c.peek-at.ensures); errors = refl; scratch = refl }

pub returns-clause-step : goal.returns-clause-step
returns-clause-step c = record { events = λ bytes. c.take.ensures (set_of c.args.set) (names_of c.args.code) (next_hit (set_of c.args.set) c.peek-at.ensures _ c.if-at-rows.false (kind_in_right c.args.set _ (sym (c.has.ensures) ∙ c.if-not-has.false) ∙ ap some (sym c.kind_in.ensures))) bytes c.args.lent.now.notes c.requires.0.1; errors = refl; scratch = refl }
