-- 18 behind the refusals before it.
use mathlib.Core.Path.{refl, sym, ap, ◌∙◌}
use Rattle.refusals.specs.Judge.{desk, number_of}
use Rattle.desk.proofs.Answering.{numbered}
use Rattle.reading.proofs.Naming.{refused_before, refused_last}
use Rattle.reading.proofs.unknown.Goals as goal

pub returns-in-Err : goal.returns-in-Err
returns-in-Err c = λ fuel sc ev er h. refused_before (desk c.args.src.now c.args.ids.now c.args.starts.now c.args.ends.now fuel sc ev er) (sym (ap number_of c.in-Err.is) ∙ c.judged.ensures fuel sc ev er h) (numbered c.in-Err.refusal)

pub returns-in-Ok : goal.returns-in-Ok
returns-in-Ok c = λ fuel sc ev er h. refused_last (desk c.args.src.now c.args.ids.now c.args.starts.now c.args.ends.now fuel sc ev er) (sym (ap number_of c.in-Ok.is) ∙ c.judged.ensures fuel sc ev er h) refl
