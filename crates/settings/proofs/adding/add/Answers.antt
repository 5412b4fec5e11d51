-- `settings::adding::add` meets its contract, by what all lines of the old text read to.
use mathlib.Core.Path.{ap, ◌∙◌}
use Rattle.std.specs.Prelude.{Err}
use Rattle.std.proofs.lemmas.Result.{err_from_is_err_and}
use Rattle.settings.specs.Answer.{grown_of}
use Rattle.settings.proofs.Growing.{added_bad, added_line}
use Rattle.settings.proofs.adding.add.Goals as goal

pub returns-in_err-last : goal.returns-in_err-last
returns-in_err-last c =
    let y = err_from_is_err_and _ c.from_residual.ensures.1 in
    ap (λ r. grown_of r c.args.room.now) (y.1 ∙ ap Err y.2) ∙ added_bad c.args.text.now c.args.values c.args.room.now c.args.values c.read_all.ensures c.in_err-last.was

pub returns : goal.returns
returns c = c.add_line.ensures ∙ added_line c.args.text.now c.args.values c.args.room.now c.args.values c.read_all.ensures c.in_ok-last.was
