-- `slot_at` meets its contract.
use mathlib.Core.Path.{subst, sym}
use Prim.Native.Nat.{◌<◌}
use Rattle.tokens.proofs.Tests.{slot_small}
use Rattle.tokens.proofs.keywords.slot_at.Goals as goal

pub returns-clause-low : goal.returns-clause-low
returns-clause-low c = subst (λ n. n < 40) (sym c.key_at.ensures) (slot_small c.args.place c.requires)
