-- Where the memo stands in the source.
use Prim.Native.Nat.{ℕ, ◌+◌}
use mathlib.Core.Path.{◌≡◌, sym, subst}
use mathlib.Core.List.{List}
use native.Mathlib.Omega.{arith}
use lib.ListN.{drop}
use Rattle.cutter.specs.Made.{Holds, Stands}
use Rattle.cutter.specs.declared.memo.Memo.{Memo}

-- it stands at a place where it holds, and the other way round
pub stands : (o : Memo) (at : ℕ) (s : List ℕ) → o.from ≡ at → Holds o (drop at s) → Stands o at s
stands o at s e h = record { until = omega (arith, e); holds = subst (λ n. Holds o (drop n s)) (sym e) h }

-- further on it stands still
pub onwards : {o : Memo} {at : ℕ} {s : List ℕ} (n : ℕ) → Stands o at s → Stands o (at + n) s
onwards n st = record { until = omega (arith, st.until); holds = st.holds }
