-- `kinds::kind_in` meets its contract: in all sets but the two that are searched, a kind that has the id is the id.
use Rattle.std.proofs.Common.{ap, ◌∙◌, rules}
use Rattle.std.specs.Option.{unwrap_or}
use Rattle.kinds.proofs.Named.{found, plain_kind}
use Rattle.kinds.proofs.kind_in.Goals as goal

pub returns-then-set-eq-ARITHMETIC : goal.returns-then-set-eq-ARITHMETIC
returns-then-set-eq-ARITHMETIC c = c.unwrap_or.ensures ∙ ap (λ o. unwrap_or o c.args.id) c.matched.ensures ∙ found c.args.set c.args.id

pub returns : goal.returns
returns c = plain_kind _ _ (search rules) (search rules)
