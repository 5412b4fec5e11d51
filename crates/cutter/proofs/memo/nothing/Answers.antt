-- `nothing` meets its contract: state 0 ends no row.
use mathlib.Core.Path.{refl}
use native.Mathlib.Omega.{arith}
use Rattle.tokens.proofs.Runs.{hop_zero}
use Rattle.cutter.proofs.memo.nothing.Goals as goal

pub returns : goal.returns
returns c = (refl, λ s. record { quote = record { small = omega arith; within = omega arith; hop = hop_zero 0 0 s }; slash = record { small = omega arith; within = omega arith; hop = hop_zero 0 0 s }; star = record { small = omega arith; within = omega arith; hop = hop_zero 0 0 s }; hex = record { small = omega arith; within = omega arith; hop = hop_zero 1 0 s } })
