-- `is_pair` meets its contract.
use mathlib.Core.Path.{◌∙◌}
use Prim.Native.Nat.{◌+◌, ◌*◌}
use Rattle.tokens.proofs.Lookups.{any_listed}
use Rattle.tokens.proofs.lookup.is_pair.Goals as goal

pub returns : goal.returns
returns c = c.contains.ensures.value ∙ any_listed (c.args.a * 88 + c.args.b)
