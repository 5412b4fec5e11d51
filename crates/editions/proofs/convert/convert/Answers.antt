-- `editions::convert::convert` meets its contract, by what the first pass found.
use mathlib.Core.Path.{refl}
use Rattle.std.proofs.Common.{rules}
use Rattle.std.proofs.lemmas.Result.{err_from_is_err_and}
use Rattle.editions.proofs.Judging.{refused_by, made_by}
use Rattle.editions.proofs.convert.convert.Goals as goal

pub returns-in_err-judge : goal.returns-in_err-judge
returns-in_err-judge c =
    let p = err_from_is_err_and c.from_residual.result c.from_residual.ensures.1 in
    rw (p.1, p.2) (refused_by c.args.up c.args.text.now c.args.room.now c.judge.ensures _ c.in_err-judge.was)

pub returns : goal.returns
returns c =
    made_by c.args.up c.args.text.now c.args.room.now c.judge.ensures c.in_ok-judge.was c.write.ensures refl refl c.fill.ensures (λ e. search rules)
