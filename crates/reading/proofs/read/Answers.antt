-- By what the settings text gives for the edition.
use native.Mathlib.Omega.{arith}
use mathlib.Core.Path.{refl, sym, ap, ◌∙◌}
use Rattle.std.specs.Prelude.{Err}
use Rattle.definition.specs.Answer.{After}
use Rattle.refusals.specs.Judge.{desk}
use Rattle.settings.specs.Settings.{Reply}
use Rattle.settings.specs.Answer.{reply_of}
use Rattle.settings.proofs.History.{chosen_fits}
use Rattle.reading.specs.Reading.{under}
use Rattle.reading.proofs.read.Goals as goal

pub limits-limits-requires : goal.limits-limits-requires
limits-limits-requires c = chosen_fits c.args.text.now c.args.edition c.args.fuel c.in-Ok.values (omega (arith, c.ranges.fuel)) (sym (sym (ap reply_of c.in-Ok.is) ∙ c.choose.ensures))

pub returns-in-Err-Unknown : goal.returns-in-Err-Unknown
returns-in-Err-Unknown c =
    rw c.into.ensures (ap (λ (a : After). record { line = 0; after = a }) (c.unknown.ensures c.args.fuel c.args.scratch.now c.args.events.now c.args.errors.now refl)
    ∙ ap (λ (r : Reply). under r (desk c.args.src.now c.args.ids.now c.args.starts.now c.args.ends.now c.args.fuel c.args.scratch.now c.args.events.now c.args.errors.now)) (sym (ap reply_of (c.in-Err-Unknown.is ∙ ap Err c.in-Err-Unknown.field-0-is)) ∙ c.choose.ensures))
