-- Where rows stand: each begins past the one before it, so a row's begin tells it from the others. Assumes nothing.
use Prim.Native.Nat.{ℕ, zero, suc, ◌+◌, ◌-◌, ◌≤◌, ◌<◌}
use mathlib.Core.Path.{◌≡◌, sym, ap, ◌∙◌}
use mathlib.Core.List.{◌∷◌}
use native.Mathlib.Omega.{arith}
use native.Mathlib.Nat.{add-zero, add-suc}
use native.Mathlib.Decide.{dec_lt}
use lib.ListN.{length, get_or, get_or-eq_default}
use Rattle.kinds.specs.Kinds as k
use Rattle.definition.specs.Render.{Source, starts_at, ends_at, id_at}
use Rattle.notes.specs.Means.{Rows}
use Rattle.notes.proofs.Lists.{get_d_any}

-- where row `at` begins and ends, by its index
abbrev pub starts : Source → ℕ → ℕ
starts x at = get_or (0 ∷ x.ends) at 0

abbrev pub ends : Source → ℕ → ℕ
ends x at = get_or x.ends at (starts x at)

module _ {x : Source} (w : Rows x) where
  climbs : (j k : ℕ) → j + k ≤ length x.ids → starts x j + k ≤ starts x (j + k)
  climbs j zero h = omega (arith, ap (starts x) (add-zero j))
  climbs j (suc k) h =
      rw (add-suc j k) (omega (arith, climbs j k (omega arith), w.lines.rising (j + k) (omega arith)))

  later : (j k : ℕ) → j ≤ k → k ≤ length x.ids → starts x j + (k - j) ≤ starts x k
  later j k h g = let e : j + (k - j) ≡ k = omega arith in rw e at (climbs j (k - j) (omega arith))

  module _ (at : ℕ) (h : at ≤ length x.ids) where
    there : length x.ids - (length x.ids - at) ≡ at
    there = omega arith

    pub starts_is : starts_at x (length x.ids - at) ≡ starts x at
    starts_is = ap (λ (i : ℕ). get_or (0 ∷ x.ends) i (length x.bytes)) there ∙ get_d_any (0 ∷ x.ends) at (length x.bytes) 0 (omega (arith, w.lines.level))

    pub ends_is : ends_at x (length x.ids - at) ≡ ends x at
    ends_is = ap (λ (i : ℕ). get_or x.ends i (length x.bytes)) there ∙ go (dec_lt at (length x.ids))
      where
        go : Dec (at < length x.ids) → get_or x.ends at (length x.bytes) ≡ ends x at
        go (yes l) = get_d_any x.ends at (length x.bytes) (starts x at) (omega (arith, w.lines.level))
        go (no n) =
            let e : length x.ids ≡ at = omega arith in
            ap (λ (d : ℕ). get_or x.ends at d) (sym w.whole ∙ ap (starts x) e)

    pub id_is : id_at x (length x.ids - at) ≡ get_or x.ids at k.UNKNOWN
    id_is = ap (λ (i : ℕ). get_or x.ids i k.UNKNOWN) there

    -- a row's text is a part of the source
    pub forward : starts x at ≤ ends x at
    forward = go (dec_lt at (length x.ids))
      where
        go : Dec (at < length x.ids) → starts x at ≤ ends x at
        go (yes l) = omega (arith, w.lines.rising at l, get_d_any x.ends at 0 (starts x at) (omega (arith, w.lines.level)))
        go (no n) = omega (arith, get_or-eq_default x.ends (starts x at) {n = at} (omega (arith, w.lines.level)))

    pub within : ends x at ≤ length x.bytes
    within = go (dec_lt at (length x.ids))
      where
        go : Dec (at < length x.ids) → ends x at ≤ length x.bytes
        go (yes l) = omega (arith, later (suc at) (length x.ids) l (omega arith), get_d_any x.ends at 0 (starts x at) (omega (arith, w.lines.level)), w.whole)
        go (no n) =
            let e : length x.ids ≡ at = omega arith in
            omega (arith, get_or-eq_default x.ends (starts x at) {n = at} (omega (arith, w.lines.level)), ap (starts x) e, w.whole)

  -- rows have begins of their own
  pub own : (p q : ℕ) → p ≤ length x.ids → q ≤ length x.ids → starts_at x p ≡ starts_at x q → p ≡ q
  own p q h g e =
      let N = length x.ids in
      let s : (n : ℕ) → n ≤ N → starts_at x n ≡ starts x (N - n) = λ n l. get_d_any (0 ∷ x.ends) (N - n) (length x.bytes) 0 (omega (arith, w.lines.level)) in
      go (dec_lt p q) (dec_lt q p) (sym (s p h) ∙ e ∙ s q g)
    where
      go : Dec (p < q) → Dec (q < p) → starts x (length x.ids - p) ≡ starts x (length x.ids - q) → p ≡ q
      go (yes l) d t = absurd (omega (arith, later (length x.ids - q) (length x.ids - p) (omega arith) (omega arith)))
      go (no n) (yes l) t = absurd (omega (arith, later (length x.ids - p) (length x.ids - q) (omega arith) (omega arith)))
      go (no n) (no m) t = omega arith
