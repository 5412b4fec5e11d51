-- `key_at` meets its contract.
use mathlib.Core.Path.{ap}
use lib.ListN.{get_or}
use Rattle.tokens.proofs.Lookups.{keys}
use Rattle.tokens.proofs.keywords.key_at.Goals as goal

pub returns : goal.returns
returns c = ap (λ t. get_or t c.args.place 0) keys
