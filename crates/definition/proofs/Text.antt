-- Form 9: exactly where the text is not UTF-8, junk at item position aside ("Form 10 looks at no text"); and its record, which alone has a place.
use Prim.Native.Nat.{ℕ, suc, ◌+◌, ◌≤◌, ◌<◌}
use mathlib.Core.Path.{◌≡◌, refl, sym, ap, ◌∙◌}
use mathlib.Core.List.{List, [], ◌∷◌, ◌++◌, append-nil}
use mathlib.Core.Bool.{Bool, true, false}
use lib.Dec.{eqb, ltb}
use lib.ListN.{length, length-append}
use native.Mathlib.Omega.{arith}
use borrow.Author.Tests.{ne_eqb}
use Rattle.kinds.specs.Kinds as kinds
use Rattle.shapes.specs.Shapes.{Rec, Owned, flat_records, behind}
use Rattle.utf8.specs.Utf8.{utf8, bad_byte}
use Rattle.utf8.proofs.Place.{bad_within}
use Rattle.definition.specs.Run.{Limits, Choice, wanted, unwanted, stray}
use Rattle.definition.specs.Render.{form_found, form_slash, form_unknown, form_wanted, form_unwanted, form_of, choice_names, place_of, Source, starts_at, ends_at, id_at, text_at, record_of}

either : (n m k : ℕ) (x : Bool) → n ≤ k → m ≤ k → (elim x as (λ _. ℕ) [ true ↦ n | false ↦ m ]) ≤ k
either n m k true h g = h
either n m k false h g = g

found : (L : Limits) (t : List ℕ) → form_found L t ≤ 8
found L [] = omega arith
found L (b ∷ bs) = either 2 1 8 (ltb L.quote (suc (length bs))) (omega arith) (omega arith)

slash : (t : List ℕ) → form_slash t ≤ 8
slash [] = omega arith
slash (b ∷ bs) = either 6 8 8 (eqb b 42) (omega arith) (omega arith)

unknown : (L : Limits) (t : List ℕ) → form_unknown L t ≤ 8
unknown L [] = found L []
unknown L (b ∷ bs) =
    either (form_slash bs) _ 8 (eqb b 47) (slash bs) (either 7 (form_found L (b ∷ bs)) 8 (eqb b 34) (omega arith) (found L (b ∷ bs)))

unmatched : (L : Limits) (i : ℕ) (t : List ℕ) → form_wanted L i t ≤ 8
unmatched L i t = either (form_unknown L t) (form_found L t) 8 (eqb i kinds.UNKNOWN) (unknown L t) (found L t)

matched : (t : List ℕ) → form_unwanted t ≤ 8
matched [] = omega arith
matched (b ∷ bs) = omega arith

only : (x : Bool) (f : ℕ) → f ≤ 8 → ◌≡◌ {A = ℕ} (elim x as (λ _. ℕ) [ true ↦ f | false ↦ 9 ]) 9 → x ≡ false
only true f h e = absurd (omega (arith, h, e))
only false f h e = refl

pub form_9_only : (L : Limits) (i : ℕ) (t : List ℕ) (c : Choice) → form_of L i t c ≡ 9 → utf8 t ≡ false
form_9_only L i t (wanted ns) e = only (utf8 t) (form_wanted L i t) (unmatched L i t) e
form_9_only L i t unwanted e = only (utf8 t) (form_unwanted t) (matched t) e
form_9_only L i t stray e = absurd (omega (arith, e))

pub form_9_where : (L : Limits) (i : ℕ) (t : List ℕ) (c : Choice) → (c ≡ stray → ⊥) → utf8 t ≡ false → form_of L i t c ≡ 9
form_9_where L i t (wanted ns) n h = rw (form_of, h)
form_9_where L i t unwanted n h = rw (form_of, h)
form_9_where L i t stray n h = absurd (n refl)

-- REQUEST (vi): "Form 9 records carry that place in the source as one added number after their count of 0"; (x): behind the form stands the number of the item
module _ (L : Limits) (x : Source) (n : ℕ) (c : Choice) (item : ℕ) where
  abbrev f : ℕ
  f = form_of L (id_at x n) (text_at x n) c

  none_named : (c : Choice) → choice_names 9 c ≡ []
  none_named (wanted ns) = refl
  none_named unwanted = refl
  none_named stray = refl

  pub form_9_record : f ≡ 9 → (l : List Owned) → flat_records ((record_of L x n c, item) ∷ l) ≡ starts_at x n ∷ ends_at x n ∷ 9 ∷ item ∷ 0 ∷ (starts_at x n + bad_byte (text_at x n)) ∷ flat_records l
  form_9_record e l =
      ap (λ (i : ℕ). let ns = choice_names i c in starts_at x n ∷ ends_at x n ∷ i ∷ item ∷ length ns ∷ ns ++ (place_of i (starts_at x n) (text_at x n) ++ flat_records l)) e
      ∙ ap (λ (ns : List ℕ). starts_at x n ∷ ends_at x n ∷ 9 ∷ item ∷ length ns ∷ ns ++ ((starts_at x n + bad_byte (text_at x n)) ∷ flat_records l)) (none_named c)

  -- the place is that of a byte of the text
  pub form_9_place : f ≡ 9 → bad_byte (text_at x n) < length (text_at x n)
  form_9_place e = bad_within (text_at x n) (form_9_only L (id_at x n) (text_at x n) c e)

  -- "Forms other than 9 stay as they were."
  pub other_records : (f ≡ 9 → ⊥) → (l : List Owned) → flat_records ((record_of L x n c, item) ∷ l) ≡ starts_at x n ∷ ends_at x n ∷ f ∷ item ∷ length (choice_names f c) ∷ choice_names f c ++ flat_records l
  other_records h l =
      ap (λ (b : Bool). starts_at x n ∷ ends_at x n ∷ f ∷ item ∷ length (choice_names f c) ∷ choice_names f c ++ (elim b as (λ _. List ℕ) [ true ↦ (starts_at x n + bad_byte (text_at x n)) ∷ [] | false ↦ [] ] ++ flat_records l)) (ne_eqb f 9 h)

-- where a record's next one begins, by its form and its count
sized : (b : Bool) (ns : List ℕ) (p : ℕ) → ◌≡◌ {A = ℕ} (elim b as (λ _. ℕ) [ true ↦ suc (length ns) | false ↦ length ns ]) (length (ns ++ elim b as (λ _. List ℕ) [ true ↦ p ∷ [] | false ↦ [] ]))
sized true ns p = omega (arith, length-append ns (p ∷ []))
sized false ns p = sym (ap length (append-nil ns))

pub behind_is : (L : Limits) (x : Source) (n : ℕ) (c : Choice) → let r : Rec = record_of L x n c in behind r.2 (length r.3) ≡ length (r.3 ++ r.4)
behind_is L x n c =
    let f = form_of L (id_at x n) (text_at x n) c in
    sized (eqb f 9) (choice_names f c) (starts_at x n + bad_byte (text_at x n))
