-- `end_of` meets its contract.
use mathlib.Core.Path.{ap}
use lib.ListN.{get_or}
use Rattle.tokens.proofs.Lookups.{ends, end_none, end_some}
use Rattle.tokens.proofs.lookup.end_of.Goals as goal

pub returns-then-id-eq-NONE : goal.returns-then-id-eq-NONE
returns-then-id-eq-NONE c = end_none _ _ (ap (λ t. get_or t c.args.state 0) ends) c.if-id-eq-NONE.true

pub returns-else-id-eq-NONE : goal.returns-else-id-eq-NONE
returns-else-id-eq-NONE c = end_some _ _ (ap (λ t. get_or t c.args.state 0) ends) c.if-id-eq-NONE.false
