-- `class_of` meets its contract.
use mathlib.Core.Path.{ap₂}
use Prim.Native.Nat.{◌+◌, ◌*◌}
use lib.ListN.{get_or}
use Rattle.tokens.proofs.Lookups.{classes}
use Rattle.tokens.proofs.lookup.class_of.Goals as goal

pub returns : goal.returns
returns c = ap₂ (λ t n. get_or t (n * 256 + c.args.b) 0) classes c.number.ensures.value
