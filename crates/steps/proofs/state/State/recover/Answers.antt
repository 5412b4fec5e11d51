use native.Mathlib.Omega.{arith}
use mathlib.Core.Path.{◌∙◌, sym, refl}
use Rattle.kinds.specs.Sets.{set_of}
use Rattle.notes.specs.Change.{with_mode}
use Rattle.notes.specs.Reading.{source_of}
use Rattle.notes.proofs.Core.{sound}
use Rattle.steps.specs.Steps.{whole}
use Rattle.steps.proofs.Modes.{is_fine, isnt_fine, stopped, not_stopped}
use Rattle.steps.proofs.Next.{next_has, next_lacks, next_end}
use Rattle.steps.proofs.Ends.{recover_stopped, recover_end, recover_found, recover_failed, recover_skips}
use Rattle.steps.proofs.state.State.recover.Goals as goal

pub returns-then-is_stopped-clause-step : goal.returns-then-is_stopped-clause-step
returns-then-is_stopped-clause-step c = record { both = recover_stopped c.args.d c.args.optional (set_of c.args.set) c.requires.0.0 c.requires.0.1 c.requires.0.2 (stopped _ c.if-is_stopped.ensures); scratch = refl }

pub returns-then-at-x-clause-step : goal.returns-then-at-x-clause-step
returns-then-at-x-clause-step c = record { both = recover_end c.args.d c.args.optional (set_of c.args.set) c.requires.0.0 c.requires.0.1 c.requires.0.2 (not_stopped _ c.if-is_stopped.ensures) (next_end (set_of c.args.set) c.peek-at.ensures c.if-at-x.true); scratch = refl }

pub choose-self-requires : goal.choose-self-requires
choose-self-requires c = (sound c.first_names.new.notes (with_mode 0 (whole c.args.self c.args.lent.now.notes)) (c.first_names.ensures (source_of c.args.x.now) (with_mode 0 (whole c.args.self c.args.lent.now.notes)) c.requires.0.0 c.peek-at.ensures).ok, omega (arith, (c.first_names.ensures (source_of c.args.x.now) (with_mode 0 (whole c.args.self c.args.lent.now.notes)) c.requires.0.0 c.peek-at.ensures).ercap, c.requires.0.2))

pub swallow-requires : goal.swallow-requires
swallow-requires c = ((c.choose-self.ensures (with_mode 0 (whole c.args.self c.args.lent.now.notes)) refl (c.first_names.ensures (source_of c.args.x.now) (with_mode 0 (whole c.args.self c.args.lent.now.notes)) c.requires.0.0 c.peek-at.ensures).ok).ok, omega (arith, (c.choose-self.ensures (with_mode 0 (whole c.args.self c.args.lent.now.notes)) refl (c.first_names.ensures (source_of c.args.x.now) (with_mode 0 (whole c.args.self c.args.lent.now.notes)) c.requires.0.0 c.peek-at.ensures).ok).evcap, (c.first_names.ensures (source_of c.args.x.now) (with_mode 0 (whole c.args.self c.args.lent.now.notes)) c.requires.0.0 c.peek-at.ensures).evcap, c.requires.0.1), (c.choose-self.ensures (with_mode 0 (whole c.args.self c.args.lent.now.notes)) refl (c.first_names.ensures (source_of c.args.x.now) (with_mode 0 (whole c.args.self c.args.lent.now.notes)) c.requires.0.0 c.peek-at.ensures).ok).fits)

pub returns-then-not-has-clause-step : goal.returns-then-not-has-clause-step
returns-then-not-has-clause-step c = record { both = recover_skips c.args.d c.args.optional (set_of c.args.set) c.requires.0.0 c.requires.0.1 c.requires.0.2 (not_stopped _ c.if-is_stopped.ensures) (next_lacks (set_of c.args.set) c.peek-at.ensures c.if-at-x.false (sym (c.if-not-has.true) ∙ c.has.ensures)) (c.first_names.ensures (source_of c.args.x.now) (with_mode 0 (whole c.args.self c.args.lent.now.notes)) c.requires.0.0 c.peek-at.ensures) (c.choose-self.ensures (with_mode 0 (whole c.args.self c.args.lent.now.notes)) refl (c.first_names.ensures (source_of c.args.x.now) (with_mode 0 (whole c.args.self c.args.lent.now.notes)) c.requires.0.0 c.peek-at.ensures).ok) c.swallow.ensures.step.both; scratch = c.swallow.ensures.step.scratch }

pub returns-then-is-clause-step : goal.returns-then-is-clause-step
returns-then-is-clause-step c = record { both = recover_found c.args.d c.args.optional (set_of c.args.set) c.requires.0.0 c.requires.0.1 c.requires.0.2 (is_fine _ c.if-is.ensures) (next_has (set_of c.args.set) c.peek-at.ensures c.if-at-x.false (sym (c.if-not-has.false) ∙ c.has.ensures)); scratch = refl }

pub returns-clause-step : goal.returns-clause-step
returns-clause-step c = record { both = recover_failed c.args.d c.args.optional (set_of c.args.set) c.requires.0.0 c.requires.0.1 c.requires.0.2 (not_stopped _ c.if-is_stopped.ensures) (isnt_fine _ c.if-is.ensures) (next_has (set_of c.args.set) c.peek-at.ensures c.if-at-x.false (sym (c.if-not-has.false) ∙ c.has.ensures)) (c.choose-self-2.ensures (with_mode 0 (whole c.args.self c.args.lent.now.notes)) refl c.requires.0.0); scratch = refl }
