-- Events and records in a list of numbers: how long they are, read back, and passed over.
use Prim.Native.Nat.{ℕ, suc, ◌+◌, ◌*◌, ◌≤◌, min}
use mathlib.Core.Path.{◌≡◌, refl, ap, ap₂, sym, ◌∙◌}
use mathlib.Core.Bool.{Bool, true, false}
use mathlib.Core.List.{List, [], ◌∷◌, ◌++◌, append_assoc}
use native.Mathlib.Omega.{arith}
use native.Mathlib.Numerals.{add-four}
use native.Mathlib.Nat.{add-suc, min-eq_left, min-eq_right, min-le_left, le_of_lt}
use borrow.Author.Tests.{ltb-true, ltb-false}
use lib.Dec.{eqb, ltb}
use lib.ListN.{length, get_or, drop, replicate, length-append, drop_of_length-le}
use lib.Seq.{drop-append_seam, drop-length, drop-drop, get_or-append-add, get_or-drop}
use Rattle.shapes.specs.Shapes.{EVENT, Entry, event, flat, entries, HEAD, FORM, COUNT, Rec, Owned, flat_records, owned, of_item, bare, items_in, behind, record_size, next_record}

pub event_length : (sort kind start end depth : ℕ) → length (event sort kind start end depth) ≡ EVENT
event_length sort kind start end depth = refl

pub flat_length : (es : List Entry) → length (flat es) ≡ EVENT * length es
flat_length [] = refl
flat_length (e ∷ es) = omega (arith, flat_length es)

pub entries_flat : (es : List Entry) → entries (flat es) ≡ es
entries_flat [] = refl
entries_flat (e ∷ es) = ap (λ (l : List Entry). e ∷ l) (entries_flat es)

pub add_head : (n : ℕ) → n + HEAD ≡ suc (suc (suc (suc (suc n))))
add_head n = add-suc n 4 ∙ ap suc (add-four n)

-- THE NEXT RECORD, of any list
drop_least : (l : List ℕ) (n : ℕ) → drop (min (length l) n) l ≡ drop n l
drop_least l n = go (ltb (length l) n) refl
  where
    go : (t : Bool) → ltb (length l) n ≡ t → drop (min (length l) n) l ≡ drop n l
    go true e =
        let h : length l ≤ n = le_of_lt (ltb-true (length l) n e) in
        ap (λ (k : ℕ). drop k l) (min-eq_left h) ∙ drop-length l ∙ sym (drop_of_length-le l h)
    go false e = ap (λ (k : ℕ). drop k l) (min-eq_right (ltb-false (length l) n e))

-- a record has its head, its names, and at most one number more
module _ (form names : ℕ) where
  by_form : (b : Bool) → let n : ℕ = elim b as (λ _. ℕ) [ true ↦ suc names | false ↦ names ] + HEAD in (HEAD ≤ n) × (n ≤ names + HEAD + 1)
  by_form true = omega arith
  by_form false = omega arith

  pub size_least : HEAD ≤ record_size form names
  size_least = (by_form (eqb form 9)).0

  pub size_most : record_size form names ≤ names + HEAD + 1
  size_most = (by_form (eqb form 9)).1

module _ (l : List ℕ) (at : ℕ) where
  abbrev size : ℕ
  size = record_size (get_or l (at + FORM) 0) (get_or l (at + COUNT) 0)

  pub next_within : next_record l at ≤ length l
  next_within = min-le_left (length l) (at + size)

  pub next_past : at + HEAD ≤ length l → at + HEAD ≤ next_record l at
  next_past h = omega (arith, size_least (get_or l (at + FORM) 0) (get_or l (at + COUNT) 0))

  -- from it on stands what stands behind the record
  pub next_rest : drop (next_record l at) l ≡ drop (record_size (get_or (drop at l) FORM 0) (get_or (drop at l) COUNT 0)) (drop at l)
  next_rest =
      let here = record_size (get_or (drop at l) FORM 0) (get_or (drop at l) COUNT 0) in
      let n : at + size ≡ at + here = ap (λ (k : ℕ). at + k) (sym (ap₂ record_size (get_or-drop at l FORM 0) (get_or-drop at l COUNT 0))) in
      drop_least l (at + size) ∙ ap (λ (k : ℕ). drop k l) n ∙ sym (drop-drop here at l)

-- records as numbers, one list behind another
pub flat_append : (a b : List Owned) → flat_records (a ++ b) ≡ flat_records a ++ flat_records b
flat_append [] b = refl
flat_append (e ∷ a) b =
    ap (λ (l : List ℕ). e.0.0 ∷ e.0.1 ∷ e.0.2 ∷ e.1 ∷ length e.0.3 ∷ l)
    (ap (λ (l : List ℕ). e.0.3 ++ (e.0.4 ++ l)) (flat_append a b)
    ∙ ap (λ (l : List ℕ). e.0.3 ++ l) (sym (append_assoc e.0.4 (flat_records a) (flat_records b)))
    ∙ sym (append_assoc e.0.3 (e.0.4 ++ flat_records a) (flat_records b)))

-- A record that stands behind p, with others behind it and as many numbers behind its count as its form has: what stands behind the next place are the others
module _ (p : List ℕ) (e : Owned) (qs : List Owned) (w : behind e.0.2 (length e.0.3) ≡ length (e.0.3 ++ e.0.4)) where
  abbrev q : Rec
  q = e.0

  abbrev own : List ℕ
  own = q.0 ∷ q.1 ∷ q.2 ∷ e.1 ∷ length q.3 ∷ q.3 ++ q.4

  abbrev here : List ℕ
  here = p ++ own

  abbrev all : List ℕ
  all = p ++ flat_records (e ∷ qs)

  parted : all ≡ here ++ flat_records qs
  parted =
      ap (λ (t : List ℕ). p ++ (q.0 ∷ q.1 ∷ q.2 ∷ e.1 ∷ length q.3 ∷ t)) (sym (append_assoc q.3 q.4 (flat_records qs)))
      ∙ sym (append_assoc p own (flat_records qs))

  next_is : next_record all (length p) ≡ length here
  next_is =
      let long : length here ≡ length p + record_size q.2 (length q.3) = omega (arith, length-append p own, w) in
      let more : length here ≤ length all = omega (arith, ap length parted, length-append here (flat_records qs)) in
      let at-form = get_or-append-add p (flat_records (e ∷ qs)) FORM 0 in
      let at_count = get_or-append-add p (flat_records (e ∷ qs)) COUNT 0 in
      ap (min (length all)) (ap (λ (k : ℕ). length p + k) (ap₂ record_size at-form at_count) ∙ sym long) ∙ min-eq_right more

  pub next_begins : drop (next_record all (length p)) all ≡ flat_records qs
  next_begins = ap₂ (λ (i : ℕ) (l : List ℕ). drop i l) next_is parted ∙ drop-append_seam here (flat_records qs)

-- RECORDS AND THEIR NUMBERS

pub owned_split : (l : List Owned) → owned (bare l) (items_in l) ≡ l
owned_split [] = refl
owned_split (e ∷ l) = ap (λ (k : List Owned). e ∷ k) (owned_split l)

pub bare_append : (a b : List Owned) → bare (a ++ b) ≡ bare a ++ bare b
bare_append [] b = refl
bare_append (e ∷ a) b = ap (λ (l : List Rec). e.0 ∷ l) (bare_append a b)

pub items_append : (a b : List Owned) → items_in (a ++ b) ≡ items_in a ++ items_in b
items_append [] b = refl
items_append (e ∷ a) b = ap (λ (l : List ℕ). e.1 ∷ l) (items_append a b)

pub items_length : (a : List Owned) → length (items_in a) ≡ length (bare a)
items_length [] = refl
items_length (e ∷ a) = ap suc (items_length a)

pub bare_length : (a : List Owned) → length (bare a) ≡ length a
bare_length [] = refl
bare_length (e ∷ a) = ap suc (bare_length a)

pub bare_of : (i : ℕ) (l : List Rec) → bare (of_item i l) ≡ l
bare_of i [] = refl
bare_of i (q ∷ l) = ap (λ (k : List Rec). q ∷ k) (bare_of i l)

pub items_of : (i : ℕ) (l : List Rec) → items_in (of_item i l) ≡ replicate (length l) i
items_of i [] = refl
items_of i (q ∷ l) = ap (λ (k : List ℕ). i ∷ k) (items_of i l)

pub of_append : (i : ℕ) (a b : List Rec) → of_item i (a ++ b) ≡ of_item i a ++ of_item i b
of_append i [] b = refl
of_append i (q ∷ a) b = ap (λ (k : List Owned). (q, i) ∷ k) (of_append i a b)

-- the numbers change nothing in how many numbers records have
abbrev pub lengths : List Rec → ℕ
lengths [] = 0
lengths (q ∷ l) = HEAD + length q.3 + length q.4 + lengths l

pub flat_lengths : (a : List Owned) → length (flat_records a) ≡ lengths (bare a)
flat_lengths [] = refl
flat_lengths (e ∷ a) = omega (arith, flat_lengths a, length-append e.0.3 (e.0.4 ++ flat_records a), length-append e.0.4 (flat_records a))

pub bare_owned : (l : List Rec) (is : List ℕ) → bare (owned l is) ≡ l
bare_owned [] is = refl
bare_owned (q ∷ l) [] = ap (λ (k : List Rec). q ∷ k) (bare_owned l [])
bare_owned (q ∷ l) (i ∷ is) = ap (λ (k : List Rec). q ∷ k) (bare_owned l is)
