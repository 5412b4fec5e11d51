-- `settings::lines::choose` meets its contract, by what all lines read to.
use mathlib.Core.Path.{ap, ◌∙◌}
use Rattle.std.specs.Prelude.{Err}
use Rattle.std.proofs.lemmas.Result.{err_from_is_err_and}
use Rattle.settings.specs.Answer.{reply_of}
use Rattle.settings.proofs.Choosing.{chosen_bad, chosen_none, chosen_named}
use Rattle.settings.proofs.lines.choose.Goals as goal

pub returns-in_err-last : goal.returns-in_err-last
returns-in_err-last c =
    let y = err_from_is_err_and _ c.from_residual.ensures.1 in
    ap reply_of (y.1 ∙ ap Err y.2) ∙ chosen_bad c.args.text.now c.args.edition c.args.fuel c.read_all.ensures c.in_err-last.was

pub returns-then-edition-eq0 : goal.returns-then-edition-eq0
returns-then-edition-eq0 c = chosen_none c.args.text.now c.args.edition c.args.fuel c.read_all.ensures c.in_ok-last.was c.then-edition-eq0.either

pub returns : goal.returns
returns c = chosen_named c.args.text.now c.args.edition c.args.fuel c.read_all.ensures c.in_ok-last.was c.if-edition-eq0.false c.if-last-edition.false
