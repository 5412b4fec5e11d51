-- `fill` meets its contract. The invariant: the rows from `at` on are those from the n-th on, and n rows are written.
use Prim.Native.Nat.{◌-◌, ◌≤◌}
use mathlib.Core.Path.{◌≡◌}
use lib.ListN.{length, drop}
use Rattle.cutter.specs.Rows.{rows, cutting}
use Rattle.cutter.specs.Made.{Stands}
use Rattle.cutter.proofs.Fills.{wrote}
use Rattle.cutter.proofs.pass.fill.Given as goal

abbrev pub invariant-loop-at : goal.invariant-loop-at
invariant-loop-at l = (l.at ≤ length l.source) × (l.n ≤ length (cutting l.source)) × (rows l.at 0 l.place (drop l.at l.source) ≡ drop l.n (cutting l.source))
    × (l.ids ≡ wrote (λ x. x.0) (cutting l.source) l.n l.initial.ids) × (l.starts ≡ wrote (λ x. x.1) (cutting l.source) l.n l.initial.starts)
    × (l.ends ≡ wrote (λ x. x.2) (cutting l.source) l.n l.initial.ends) × Stands l.memo l.at l.source

abbrev pub decreases-loop-at : goal.decreases-loop-at
decreases-loop-at l = length l.source - l.at
