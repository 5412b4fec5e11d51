-- THE LAW: where none of the refusals 1 to 6 is given, the rows tile the source, the starts say nothing that the ends do not, and the scratch is
-- enough. Assumes nothing.
use Prim.Native.Nat.{ℕ, zero, suc, ◌+◌, ◌*◌, ◌≤◌, ◌<◌}
use mathlib.Core.Path.{◌≡◌, refl, sym, ap, ap₂, subst, ◌∙◌}
use mathlib.Core.List.{List, [], ◌∷◌}
use mathlib.Core.Bool.{Bool, true, false, ◌&&◌}
use native.Mathlib.Omega.{arith}
use lib.Dec.{T, eqb, ltb, eqb→eq, ltb→lt}
use lib.ListN.{length, get_or, take}
use borrow.Author.Tests.{ltb-true, not-false}
use Rattle.kinds.specs.Sets.{is_id}
use Rattle.definition.specs.Answer.{Desk, any, no_id, tile, refusal}
use Rattle.definition.proofs.Every.{and_left, and_right}
use Rattle.definition.proofs.Cut.{rows_of}
use Rattle.notes.specs.Means.{source, Rows}

neither : (a b : Bool) → elim a [ true ↦ true | false ↦ b ] ≡ false → (a ≡ false) × (b ≡ false)
neither true b e = absurd (subst (λ (b : Bool). T b) e tt)
neither false b e = (refl, e)

known : (ids : List ℕ) → any no_id ids ≡ false → (k : ℕ) → get_or ids k 0 < 82
known [] e k = omega arith
known (i ∷ is) e zero = ltb-true i 82 (not-false (is_id i) (neither (no_id i) (any no_id is) e).0)
known (i ∷ is) e (suc k) = known is (neither (no_id i) (any no_id is) e).1 k

-- rows that tile from q on
record Tiled (q z : ℕ) (ss es : List ℕ) : Type 0 where
  rising : (k : ℕ) → k < length es → get_or (q ∷ es) k 0 < get_or es k 0
  whole : get_or (q ∷ es) (length es) 0 ≡ z
  starts : ss ≡ take (length es) (q ∷ es)

tiled : (q z : ℕ) (ss es : List ℕ) → T (tile q z ss es) → Tiled q z ss es
tiled q z [] [] t = record { rising = λ k h. absurd (omega arith); whole = eqb→eq q z t; starts = refl }
tiled q z [] (e ∷ es) t = absurd t
tiled q z (s ∷ ss) [] t = absurd t
tiled q z (s ∷ ss) (e ∷ es) t = go (and_left (eqb s q && ltb s e) (tile e z ss es) t) (tiled e z ss es (and_right (eqb s q && ltb s e) (tile e z ss es) t))
  where
    go : T (eqb s q && ltb s e) → Tiled e z ss es → Tiled q z (s ∷ ss) (e ∷ es)
    go here more = record { rising = rise; whole = more.whole; starts = ap₂ (λ (i : ℕ) (l : List ℕ). i ∷ l) begins more.starts }
      where
        begins : s ≡ q
        begins = eqb→eq s q (and_left (eqb s q) (ltb s e) here)

        rise : (k : ℕ) → k < suc (length es) → get_or (q ∷ e ∷ es) k 0 < get_or (e ∷ es) k 0
        rise zero h = omega (arith, begins, ltb→lt s e (and_right (eqb s q) (ltb s e) here))
        rise (suc k) h = more.rising k (omega arith)

pub record Judged (d : Desk) : Type 0 where
  pub rows : Rows (source d.bytes d.ids d.ends)
  pub starts : d.starts ≡ take (length d.ends) (0 ∷ d.ends)
  pub scratch : 2 * (length d.ids + 1) ≤ 64 * length d.scratch

pub judged_rows : (d : Desk) → refusal d ≡ 0 → Judged d
judged_rows d e =
    let r = rows_of d e in
    let t : Tiled 0 (length d.bytes) d.starts d.ends = tiled 0 (length d.bytes) d.starts d.ends r.0.tiled in
    record {
      rows = record {
        lines = record {
          level = sym r.0.ends_level;
          few = r.0.short.1;
          known = known d.ids r.0.ids_known;
          rising = λ k h. t.rising k (omega (arith, r.0.ends_level));
        };
        small = r.0.short.0;
        whole = ap (λ (n : ℕ). get_or (0 ∷ d.ends) n 0) r.0.ends_level ∙ t.whole;
      };
      starts = t.starts;
      scratch = omega (arith, r.1);
    }
