-- Error records in their list: where each begins, its names and its line; the line of an event by its sort. Assumes nothing.
use Prim.Native.Nat.{ℕ, suc, ◌+◌, ◌-◌, ◌≤◌, ◌<◌, min}
use mathlib.Core.Path.{◌≡◌, sym, ap, ◌∙◌}
use mathlib.Core.Logic.{⊎_elim}
use mathlib.Core.List.{List, [], ◌∷◌, ◌++◌, map, append_assoc, append-nil}
use mathlib.Core.Bool.{Bool, cond}
use native.Mathlib.Nat.{sub-zero, min-le_left, min-eq_left, min-eq_right, le_of_lt}
use native.Mathlib.Omega.{arith}
use borrow.Author.Tests.{eq-eqb, ne_eqb, lt-ltb, le-ltb}
use lib.Dec.{eqb}
use lib.ListN.{length, get_or, take, drop, length-drop, length-take, drop_of_length-le}
use lib.Seq.{drop-length, take_all, take-length, take-take}
use Rattle.kinds.specs.Spelling.{kind_text, name_text}
use Rattle.shapes.specs.Sort as Sort
use Rattle.shapes.proofs.Laws.{next_within, next_rest}
use Rattle.shapes.specs.Shapes.{HEAD, FORM, COUNT, next_record}
use Rattle.listing.proofs.Either.{either}
use Rattle.listing.proofs.Rest.{rest, rest_is}
use Rattle.listing.proofs.Written.{led_append}
use Rattle.listing.specs.Numbers.{decimal}
use Rattle.listing.specs.Listing.{led, joined, last_field, node_line, names_of, place_of, item_of, error_fields, error_line, records_from, event_line}
use Rattle.listing.specs.Written.{Stands}

-- taking or dropping more than there is takes or drops all
module _ (l : List ℕ) (n : ℕ) where
  drop_least : drop (min (length l) n) l ≡ drop n l
  drop_least =
      ⊎_elim
      (λ h. ap (λ (k : ℕ). drop k l) (min-eq_left (le_of_lt h)) ∙ drop-length l ∙ sym (drop_of_length-le l (le_of_lt h)))
      (λ h. ap (λ (k : ℕ). drop k l) (min-eq_right h))
      (either (length l) n)

  take_least : take (min (length l) n) l ≡ take n l
  take_least =
      ⊎_elim
      (λ h. ap (λ (k : ℕ). take k l) (min-eq_left (le_of_lt h)) ∙ take-length l ∙ sym (take_all n l (le_of_lt h)))
      (λ h. ap (λ (k : ℕ). take k l) (min-eq_right h))
      (either (length l) n)

take_twice : (m n : ℕ) (l : List ℕ) → take (min n m) l ≡ take m (take n l)
take_twice m n l =
    ⊎_elim
    (λ h. ap (λ (k : ℕ). take k l) (min-eq_left (le_of_lt h)) ∙ sym (take_all m (take n l) (omega (arith, length-take n l, min-le_left n (length l)))))
    (λ h. ap (λ (k : ℕ). take k l) (min-eq_right h) ∙ sym (take-take m n l h))
    (either n m)

module _ (l : List ℕ) {from count n : ℕ} (f : from ≡ min (length l) HEAD) (c : count ≡ min (get_or l COUNT 0) 85) (e : n ≡ min (length l - from) count) where
  pub names : take (from + n - from) (drop from l) ≡ names_of l
  unfolding names_of
  names =
      let k : from + n - from ≡ min (length (drop from l)) count = omega (arith, e, ap (λ (m : ℕ). min m count) (length-drop from l)) in
      ap (λ (k : ℕ). take k (drop from l)) k
      ∙ take_least (drop from l) count
      ∙ ap (λ (r : List ℕ). take count r) (ap (λ (k : ℕ). drop k l) f ∙ drop_least l HEAD)
      ∙ ap (λ (k : ℕ). take k (drop HEAD l)) c
      ∙ take_twice 85 (get_or l COUNT 0) (drop HEAD l)

pub few : (l : List ℕ) → length (names_of l) ≤ 85
unfolding names_of
few l = omega (arith, length-take 85 (take (get_or l COUNT 0) (drop HEAD l)), min-le_left 85 (length (take (get_or l COUNT 0) (drop HEAD l))))

-- i records are passed
pub record Passing (l : List ℕ) (k at i : ℕ) : Type 0 where
  pub so_far : i ≤ k
  pub within : at ≤ length l
  pub is : records_from (k - i) (drop at l) ≡ records_from k l

pub passing : (l : List ℕ) (k : ℕ) → Passing l k 0 0
passing l k = record { so_far = omega arith; within = omega arith; is = ap (λ (n : ℕ). records_from n l) (sub-zero k) }

module _ {l : List ℕ} {k at i : ℕ} (g : Passing l k at i) where
  pub passing_on : {n : ℕ} → i < k → n ≡ next_record l at → Passing l k n (i + 1)
  passing_on {n} h e =
      let one_less : suc (k - (i + 1)) ≡ k - i = omega arith in
      record {
        so_far = omega arith;
        within = omega (arith, e, next_within l at);
        is =
            ap (λ (m : ℕ). records_from (k - (i + 1)) (drop m l)) e
            ∙ ap (records_from (k - (i + 1))) (next_rest l at)
            ∙ ap (λ (m : ℕ). records_from m (drop at l)) one_less
            ∙ g.is;
      }

  pub passed : k ≤ i → Stands l k at
  passed h =
      let none : 0 ≡ k - i = omega arith in
      record { within = g.within; is = ap (λ (n : ℕ). records_from n (drop at l)) none ∙ g.is }

-- the place, in form 9 alone
place_by : (l : List ℕ) {b : Bool} → eqb (get_or l FORM 0) 9 ≡ b → led 9 (place_of l) ≡ led 9 (cond b (decimal (get_or l (HEAD + get_or l COUNT 0) 0) ∷ []) [])
unfolding place_of
place_by l e = ap (λ (b : Bool). led 9 (cond b (decimal (get_or l (HEAD + get_or l COUNT 0) 0) ∷ []) [])) e

pub no_place : (l : List ℕ) {f : ℕ} → f ≡ get_or l FORM 0 → (f ≡ 9 → ⊥) → [] ≡ led 9 (place_of l)
no_place l e h = sym (place_by l (ne_eqb (get_or l FORM 0) 9 (λ q. h (e ∙ q))))

pub a_place : (l : List ℕ) {f c n : ℕ} → f ≡ get_or l FORM 0 → f ≡ 9 → c ≡ get_or l COUNT 0 → n ≡ get_or l (HEAD + c) 0 → 9 ∷ decimal n ≡ led 9 (place_of l)
a_place l {f} {c} {n} e h p q =
    ap (λ (i : ℕ). 9 ∷ decimal i) (q ∙ ap (λ (i : ℕ). get_or l (HEAD + i) 0) p)
    ∙ ap (λ (t : List ℕ). 9 ∷ t) (sym (append-nil (decimal (get_or l (HEAD + get_or l COUNT 0) 0))))
    ∙ sym (place_by l (eq-eqb (get_or l FORM 0) 9 (sym e ∙ h)))

-- the pieces of an error line are those of the record
pub error_text : (l : List ℕ) {form start end : ℕ} {ns : List ℕ} → form ≡ get_or l FORM 0 → start ≡ get_or l 0 0 → end ≡ get_or l 1 0 → ns ≡ names_of l
    → led 9 (map decimal (form ∷ start ∷ end ∷ [])) ++ (9 ∷ (joined (map name_text ns) ++ led 9 (place_of l))) ≡ led 9 (error_fields l)
error_text l {form} {start} {end} {ns} f s e n =
    sym (led_append 9 (map decimal (form ∷ start ∷ end ∷ [])) (joined (map name_text ns) ∷ place_of l)) ∙ rw (f, s, e, n)

pub behind_error : (edition : ℕ) (l : List ℕ) {item : ℕ} → item ≡ item_of l
    → 88 ∷ ((led 9 (error_fields l) ++ led 9 (last_field edition item)) ++ (10 ∷ [])) ≡ error_line edition l
unfolding error_line
behind_error edition l {item} i =
    ap (λ (t : List ℕ). 88 ∷ (t ++ (10 ∷ []))) (sym (led_append 9 (error_fields l) (last_field edition item)) ∙ ap (λ (n : ℕ). led 9 (error_fields l ++ last_field edition n)) i)

-- the field of edition 2
pub no_field : (edition n : ℕ) → edition < 2 → [] ≡ led 9 (last_field edition n)
unfolding last_field
no_field edition n h = rw (lt-ltb edition 2 h)

pub a_field : (edition n : ℕ) → 2 ≤ edition → 9 ∷ decimal n ≡ led 9 (last_field edition n)
unfolding last_field
a_field edition n h = rw (le-ltb edition 2 h) (ap (λ (t : List ℕ). 9 ∷ t) (sym (append-nil (decimal n))))

-- it stands behind the others
pub behind_kind : (edition letter kind start end depth : ℕ)
    → letter ∷ (9 ∷ (((kind_text kind ++ led 9 (map decimal (start ∷ end ∷ []))) ++ led 9 (last_field edition depth)) ++ (10 ∷ []))) ≡ node_line edition letter kind start end depth
behind_kind edition letter kind start end depth =
    ap (λ (t : List ℕ). letter ∷ (9 ∷ (t ++ (10 ∷ []))))
    (append_assoc (kind_text kind) (led 9 (map decimal (start ∷ end ∷ []))) (led 9 (last_field edition depth))
    ∙ ap (λ (t : List ℕ). kind_text kind ++ t) (sym (led_append 9 (map decimal (start ∷ end ∷ [])) (last_field edition depth))))

-- the line of an event by its sort
module _ (edition : ℕ) (errors : List ℕ) (sort second start end depth : ℕ) where
  abbrev pub as_sort : ℕ → List ℕ
  as_sort x = event_line edition errors x second start end depth

  pub of_sort : (x : ℕ) → sort ≡ x → as_sort x ≡ as_sort sort
  of_sort x e = ap as_sort (sym e)

  pub no_sort : (sort ≡ Sort.BEGIN → ⊥) → (sort ≡ Sort.TOKEN → ⊥) → (sort ≡ Sort.END → ⊥) → (sort ≡ Sort.ERROR → ⊥) → as_sort sort ≡ []
  unfolding event_line
  no_sort a b c d = rw (ne_eqb sort Sort.BEGIN a, ne_eqb sort Sort.TOKEN b, ne_eqb sort Sort.END c, ne_eqb sort Sort.ERROR d)

  pub of_record : {at : ℕ} → Stands errors second at → sort ≡ Sort.ERROR → error_line edition (rest errors at) ≡ as_sort sort
  unfolding event_line
  of_record {at} s e = ap (error_line edition) (rest_is errors at ∙ s.is) ∙ of_sort Sort.ERROR e
