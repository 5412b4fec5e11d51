use mathlib.Core.Option.{some}
use mathlib.Core.Path.{refl, sym, ap, ◌∙◌}
use Rattle.kinds.specs.Sets.{set_of}
use Rattle.kinds.proofs.Named.{kind_in_right}
use Rattle.notes.specs.Means.{source, names_of}
use Rattle.notes.proofs.Sticky.{sticky}
use Rattle.steps.specs.Steps.{whole}
use Rattle.steps.proofs.Modes.{fine, not_fine}
use Rattle.steps.proofs.Next.{next_hit}
use Rattle.steps.proofs.Branch.{seen_in, seen_has}
use Rattle.steps.proofs.Eating.{not_ok_e, unless_there, unless_none}
use Rattle.steps.proofs.state.State.unless.Goals as goal

pub returns-then-isnt-clause-step : goal.returns-then-isnt-clause-step
returns-then-isnt-clause-step c = record { events = λ bytes. not_ok_e _ (λ p. (sticky p (source bytes c.args.rows.now.ids.now c.args.rows.now.ends.now)).at_unless (set_of c.args.set)) c.requires.1 c.requires.2 (not_fine _ c.if-isnt.ensures); errors = refl; scratch = refl }

pub returns-then-not-sees-clause-step : goal.returns-then-not-sees-clause-step
returns-then-not-sees-clause-step c = record { events = λ bytes. unless_none (set_of c.args.set) (fine _ c.if-isnt.ensures) c.requires.1 (c.mark-m.ensures c.args.lent.now.notes) (c.rewind.ensures c.args.lent.now.notes) (sym c.sees.ensures ∙ c.if-not-sees.true) (c.trivia-self.ensures.0 bytes c.args.lent.now.notes c.requires.1); errors = refl; scratch = refl }

pub returns-clause-step : goal.returns-clause-step
returns-clause-step c = record { events = λ bytes. unless_there (set_of c.args.set) (fine _ c.if-isnt.ensures) c.requires.1 (c.mark-m.ensures c.args.lent.now.notes) (c.rewind-self.ensures c.args.lent.now.notes) (names_of c.args.set) c.peek-at.result (sym c.sees.ensures ∙ c.if-not-sees.false) (c.take-self.ensures (set_of c.args.set) (names_of c.args.set) (next_hit (set_of c.args.set) c.peek-at.ensures _ (seen_in (set_of c.args.set) c.args.rows.now.ids.now (whole c.args.self c.args.lent.now.notes) (sym c.sees.ensures ∙ c.if-not-sees.false) c.peek-at.ensures) (kind_in_right c.args.set _ (seen_has (set_of c.args.set) c.args.rows.now.ids.now (whole c.args.self c.args.lent.now.notes) (sym c.sees.ensures ∙ c.if-not-sees.false) c.peek-at.ensures) ∙ ap some (sym c.kind_in.ensures))) bytes c.args.lent.now.notes c.requires.1) c.peek-at.ensures (c.unexpected.ensures (source bytes c.args.rows.now.ids.now c.args.rows.now.ends.now) (whole c.rewind-self.result c.args.lent.now.notes)); errors = refl; scratch = refl }
