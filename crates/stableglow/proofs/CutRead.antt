-- What `stableglow_cut` writes, `stableglow_read` takes: rows that were cut are never refused 2, 3 or 4, nor 1 while there are at most 65,536.
use Prim.Native.Nat.{ℕ, ◌+◌, ◌-◌, ◌≤◌, max}
use mathlib.Core.Path.{◌≡◌, refl, sym, ap, ap₂, ◌∙◌, subst}
use mathlib.Core.List.{List, [], ◌∷◌, ◌++◌, map}
use mathlib.Core.Bool.{Bool, true, false, cond, not, ◌&&◌, ◌||◌}
use native.Mathlib.Omega.{arith}
use native.Mathlib.Nat.{max-le}
use lib.Dec.{eqb, ltb}
use lib.ListN.{length, take, drop, length-map}
use borrow.Author.Tests.{eq-eqb, lt-ltb, le-ltb, ltb-false}
use Rattle.definition.specs.Answer.{Desk, no_id, tile, words, first_of, refusal, any}
use Rattle.cutter.specs.Rows.{After, cutting, put, refused, cut}
use Rattle.cutter.specs.Tiles.{Tiles, Ids}
use Rattle.cutter.proofs.Tiling.{tiles}
use Rattle.cutter.proofs.EachRow.{ids}

abbrev Rows : Type 0
Rows = List (ℕ × ℕ × ℕ)

-- the first cells of a list that rows were written to
first_cells : (xs lent : List ℕ) (n : ℕ) → n ≡ length xs → take n (put xs lent) ≡ xs
first_cells xs lent n e = ap (λ m. take m (put xs lent)) e ∙ go xs (drop (length xs) lent)
  where
    go : (ys zs : List ℕ) → take (length ys) (ys ++ zs) ≡ ys
    go [] zs = refl
    go (y ∷ ys) zs = ap (λ l. y ∷ l) (go ys zs)

-- rows that tile, in the words of refusal 4
tile_from : (rs : Rows) (a z : ℕ) → Tiles a z rs → tile a z (map (λ r. r.1) rs) (map (λ r. r.2) rs) ≡ true
tile_from [] a z t = eq-eqb a z t
tile_from (r ∷ rs) a z t =
    ap₂ (λ x y. x && y && tile r.2 z (map (λ q. q.1) rs) (map (λ q. q.2) rs)) (eq-eqb r.1 a t.0) (lt-ltb r.1 r.2 t.1)
    ∙ tile_from rs r.2 z t.2

-- ids, in the words of refusal 3
ids_from : (rs : Rows) → Ids rs → any no_id (map (λ r. r.0) rs) ≡ false
ids_from [] t = refl
ids_from (r ∷ rs) t = ap (λ (b : Bool). elim (not b) [ true ↦ true | false ↦ any no_id (map (λ q. q.0) rs) ]) (lt-ltb r.0 82 t.0) ∙ ids_from rs t.1

-- the desk is handed a source and the rows that were cut from it: as many cells of each list as `cut` counted
pub record Handed (s lent-ids lent-starts lent-ends : List ℕ) (d : Desk) : Type 0 where
  pub answered : (cut s lent-ids lent-starts lent-ends).number ≡ 0
  pub bytes : d.bytes ≡ s
  pub ids : d.ids ≡ take (cut s lent-ids lent-starts lent-ends).count (cut s lent-ids lent-starts lent-ends).ids
  pub starts : d.starts ≡ take (cut s lent-ids lent-starts lent-ends).count (cut s lent-ids lent-starts lent-ends).starts
  pub ends : d.ends ≡ take (cut s lent-ids lent-starts lent-ends).count (cut s lent-ids lent-starts lent-ends).ends

-- an answer is the source's rows
record Cells (s : List ℕ) (a : After) : Type 0 where
  few : length s ≤ 1048576
  ids : take a.count a.ids ≡ map (λ r. r.0) (cutting s)
  starts : take a.count a.starts ≡ map (λ r. r.1) (cutting s)
  ends : take a.count a.ends ≡ map (λ r. r.2) (cutting s)

cells : (s i b e : List ℕ) → (cut s i b e).number ≡ 0 → Cells s (cut s i b e)
unfolding cut
cells s i b e = go (ltb 1048576 (length s)) (ltb (length i) n || ltb (length b) n || ltb (length e) n) refl
  where
    n : ℕ
    n = length (cutting s)

    given : After
    given = record { number = 0; count = n; ids = put (map (λ r. r.0) (cutting s)) i; starts = put (map (λ r. r.1) (cutting s)) b; ends = put (map (λ r. r.2) (cutting s)) e }

    go : (long small : Bool) → ltb 1048576 (length s) ≡ long
        → (cond long (refused 1 i b e) (cond small (refused 13 i b e) given)).number ≡ 0
        → Cells s (cond long (refused 1 i b e) (cond small (refused 13 i b e) given))
    go true small l z = absurd (omega (arith, z))
    go false true l z = absurd (omega (arith, z))
    go false false l z =
        record {
          few = ltb-false 1048576 (length s) l;
          ids = first_cells (map (λ r. r.0) (cutting s)) i n (sym (length-map (cutting s) (λ r. r.0)));
          starts = first_cells (map (λ r. r.1) (cutting s)) b n (sym (length-map (cutting s) (λ r. r.1)));
          ends = first_cells (map (λ r. r.2) (cutting s)) e n (sym (length-map (cutting s) (λ r. r.2)));
        }

pub record Takes (d : Desk) (rows : ℕ) : Type 0 where
  pub not_two : refusal d ≡ 2 → ⊥
  pub not_three : refusal d ≡ 3 → ⊥
  pub not_four : refusal d ≡ 4 → ⊥
  pub not_one : rows ≤ 65536 → refusal d ≡ 1 → ⊥

-- the second, third and fourth ground do not apply
abbrev rest : Bool → Bool → ℕ
rest a g = first_of ((a, 1) ∷ (false, 2) ∷ (false, 3) ∷ (false, 4) ∷ (g, 6) ∷ [])

rest_not : (a g : Bool) → (rest a g ≡ 2 → ⊥) × (rest a g ≡ 3 → ⊥) × (rest a g ≡ 4 → ⊥) × (a ≡ false → rest a g ≡ 1 → ⊥)
rest_not true g = (λ e. omega (arith, e), λ e. omega (arith, e), λ e. omega (arith, e), λ e. let z : ◌≡◌ {A = ℕ} 0 1 = cc in absurd (omega arith))
rest_not false true = (λ e. omega (arith, e), λ e. omega (arith, e), λ e. omega (arith, e), λ _ e. omega (arith, e))
rest_not false false = (λ e. omega (arith, e), λ e. omega (arith, e), λ e. omega (arith, e), λ _ e. omega (arith, e))

-- lists of one length, which is small
same_lengths : (n a b : ℕ) → n ≡ a → n ≡ b → not (eqb n a && eqb n b) ≡ false
same_lengths n a b e f = ap₂ (λ x y. not (x && y)) (eq-eqb n a e) (eq-eqb n b f)

small_enough : (z n a b : ℕ) → n ≡ a → n ≡ b → z ≤ 1048576 → n ≤ 65536 → (ltb 1048576 z || ltb 65536 (max n (max a b))) ≡ false
small_enough z n a b e f h l =
    ap₂ (λ x y. x || y) (le-ltb 1048576 z h) (le-ltb 65536 (max n (max a b)) (max-le l (max-le (subst (λ x. x ≤ 65536) e l) (subst (λ x. x ≤ 65536) f l))))

-- THE THEOREM: whatever the room that was lent to `cut`, and whatever the fuel, scratch and room that the desk is lent
pub takes : (s lent-ids lent-starts lent-ends : List ℕ) (d : Desk) → Handed s lent-ids lent-starts lent-ends d → Takes d (length d.ids)
takes s i b e d h =
    let c = cells s i b e h.answered in
    let rs = cutting s in
    let is : d.ids ≡ map (λ r. r.0) rs = h.ids ∙ c.ids in
    let bs : d.starts ≡ map (λ r. r.1) rs = h.starts ∙ c.starts in
    let es : d.ends ≡ map (λ r. r.2) rs = h.ends ∙ c.ends in
    let n = length d.ids in
    let nb : n ≡ length d.starts = ap length is ∙ length-map rs (λ r. r.0) ∙ sym (ap length bs ∙ length-map rs (λ r. r.1)) in
    let ne : n ≡ length d.ends = ap length is ∙ length-map rs (λ r. r.0) ∙ sym (ap length es ∙ length-map rs (λ r. r.2)) in
    let z = length d.bytes in
    let ze : z ≡ length s = ap length h.bytes in
    let first = ltb 1048576 z || ltb 65536 (max n (max (length d.starts) (length d.ends))) in
    let sixth = ltb (length d.scratch) (words n) in
    let two : not (eqb n (length d.starts) && eqb n (length d.ends)) ≡ false = same_lengths n (length d.starts) (length d.ends) nb ne in
    let three : any no_id d.ids ≡ false = ap (any no_id) is ∙ ids_from rs (ids s) in
    let four : not (tile 0 z d.starts d.ends) ≡ false =
    ap not ((λ j. tile 0 (ze j) (bs j) (es j)) ∙ tile_from rs 0 (length s) (tiles s)) in
    let w : refusal d ≡ rest first sixth = λ j. first_of ((first, 1) ∷ (two j, 2) ∷ (three j, 3) ∷ (four j, 4) ∷ (sixth, 6) ∷ []) in
    let q = rest_not first sixth in
    record {
      not_two = λ f. q.0 (sym w ∙ f);
      not_three = λ f. q.1 (sym w ∙ f);
      not_four = λ f. q.2 (sym w ∙ f);
      not_one = λ l f. q.3 (small_enough z n (length d.starts) (length d.ends) nb ne (subst (λ x. x ≤ 1048576) (sym ze) c.few) l) (sym w ∙ f);
    }
