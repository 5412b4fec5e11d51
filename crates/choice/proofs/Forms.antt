-- The form of an error, by the tests that the code makes of a row's id and text. Assumes nothing.
use Prim.Native.Nat.{ℕ, suc, ◌≤◌, ◌<◌}
use mathlib.Core.Path.{◌≡◌, refl, sym, ap, ap₂, ◌∙◌}
use mathlib.Core.List.{List, [], ◌∷◌}
use mathlib.Core.Bool.{Bool, true, false}
use native.Mathlib.Omega.{arith}
use borrow.Author.Tests.{lt-ltb, le-ltb, eq-eqb, ne_eqb}
use lib.ListN.{length, get_or}
use Rattle.kinds.specs.Kinds as k
use Rattle.utf8.specs.Utf8.{utf8}
use Rattle.definition.specs.Run.{Limits, wanted, unwanted}
use Rattle.definition.specs.Render.{form_found, form_slash, form_unknown, form_wanted, form_unwanted, form_of, choice_names}
use Rattle.choice.specs.Choice.{choice_of}

module _ (L : Limits) where
  -- what was found
  pub found_none : (t : List ℕ) → length t ≡ 0 → 3 ≡ form_found L t
  found_none [] h = refl
  found_none (b ∷ t) h = absurd (omega arith)

  pub found_long : (t : List ℕ) → L.quote < length t → 2 ≡ form_found L t
  found_long [] h = absurd (omega arith)
  found_long (b ∷ t) h = ap (λ (c : Bool). elim c [ true ↦ 2 | false ↦ 1 ]) (sym (lt-ltb L.quote (suc (length t)) h))

  pub found_short : (t : List ℕ) → (length t ≡ 0 → ⊥) → length t ≤ L.quote → 1 ≡ form_found L t
  found_short [] n h = absurd (n refl)
  found_short (b ∷ t) n h = ap (λ (c : Bool). elim c [ true ↦ 2 | false ↦ 1 ]) (sym (le-ltb L.quote (suc (length t)) h))

  -- an unknown row
  pub unknown_none : (t : List ℕ) → length t ≡ 0 → form_found L t ≡ form_unknown L t
  unknown_none [] h = refl
  unknown_none (b ∷ t) h = absurd (omega arith)

  pub unknown_quote : (t : List ℕ) → (length t ≡ 0 → ⊥) → get_or t 0 0 ≡ 34 → 7 ≡ form_unknown L t
  unknown_quote [] n e = absurd (n refl)
  unknown_quote (b ∷ t) n e = ap (λ (i : ℕ). form_unknown L (i ∷ t)) (sym e)

  pub unknown_other : (t : List ℕ) → (get_or t 0 0 ≡ 34 → ⊥) → (get_or t 0 0 ≡ 47 → ⊥) → form_found L t ≡ form_unknown L t
  unknown_other [] q h = refl
  unknown_other (b ∷ t) q h = ap₂ (λ (c d : Bool). elim c [ true ↦ form_slash t | false ↦ elim d [ true ↦ 7 | false ↦ form_found L (b ∷ t) ] ]) (sym (ne_eqb b 47 h)) (sym (ne_eqb b 34 q))

  slash : (t : List ℕ) → (length t ≡ 0 → ⊥) → get_or t 0 0 ≡ 47 → form_slash (lib.ListN.drop 1 t) ≡ form_unknown L t
  slash [] n e = absurd (n refl)
  slash (b ∷ t) n e = ap (λ (i : ℕ). form_unknown L (i ∷ t)) (sym e)

  slash_star : (t : List ℕ) → 1 < length t → get_or t 1 0 ≡ 42 → 6 ≡ form_slash (lib.ListN.drop 1 t)
  slash_star [] h e = absurd (omega arith)
  slash_star (b ∷ []) h e = absurd (omega arith)
  slash_star (b ∷ c ∷ t) h e = ap (λ (i : ℕ). form_slash (i ∷ t)) (sym e)

  slash_other : (t : List ℕ) → (get_or t 1 0 ≡ 42 → ⊥) → 8 ≡ form_slash (lib.ListN.drop 1 t)
  slash_other [] n = refl
  slash_other (b ∷ []) n = refl
  slash_other (b ∷ c ∷ t) n = ap (λ (d : Bool). elim d [ true ↦ 6 | false ↦ 8 ]) (sym (ne_eqb c 42 n))

  slash_end : (t : List ℕ) → length t ≤ 1 → 8 ≡ form_slash (lib.ListN.drop 1 t)
  slash_end [] h = refl
  slash_end (b ∷ []) h = refl
  slash_end (b ∷ c ∷ t) h = absurd (omega arith)

  module _ (t : List ℕ) (n : length t ≡ 0 → ⊥) (e : get_or t 0 0 ≡ 47) where
    pub unknown_comment : 1 < length t → get_or t 1 0 ≡ 42 → 6 ≡ form_unknown L t
    unknown_comment h q = slash_star t h q ∙ slash t n e

    pub unknown_regexp : (get_or t 1 0 ≡ 42 → ⊥) → 8 ≡ form_unknown L t
    unknown_regexp q = slash_other t q ∙ slash t n e

    pub unknown_slash : length t ≤ 1 → 8 ≡ form_unknown L t
    unknown_slash h = slash_end t h ∙ slash t n e

  -- any row
  pub form_bad : (i : ℕ) (t : List ℕ) (e : Bool) → utf8 t ≡ false → 9 ≡ form_of L i t (choice_of e [])
  form_bad i t true u = ap (λ (c : Bool). elim c [ true ↦ form_wanted L i t | false ↦ 9 ]) (sym u)
  form_bad i t false u = ap (λ (c : Bool). elim c [ true ↦ form_unwanted t | false ↦ 9 ]) (sym u)

  module _ (i : ℕ) (t : List ℕ) (u : utf8 t ≡ true) where
    unwanted_is : form_unwanted t ≡ form_of L i t unwanted
    unwanted_is = ap (λ (c : Bool). elim c [ true ↦ form_unwanted t | false ↦ 9 ]) (sym u)

    wanted_is : form_wanted L i t ≡ form_of L i t (wanted [])
    wanted_is = ap (λ (c : Bool). elim c [ true ↦ form_wanted L i t | false ↦ 9 ]) (sym u)

    pub form_end : (e : Bool) → e ≡ false → length t ≡ 0 → 5 ≡ form_of L i t (choice_of e [])
    form_end e q h = go t h ∙ unwanted_is ∙ ap (λ (c : Bool). form_of L i t (choice_of c [])) (sym q)
      where
        go : (l : List ℕ) → length l ≡ 0 → 5 ≡ form_unwanted l
        go [] h = refl
        go (b ∷ l) h = absurd (omega arith)

    pub form_text : (e : Bool) → e ≡ false → (length t ≡ 0 → ⊥) → 4 ≡ form_of L i t (choice_of e [])
    form_text e q h = go t h ∙ unwanted_is ∙ ap (λ (c : Bool). form_of L i t (choice_of c [])) (sym q)
      where
        go : (l : List ℕ) → (length l ≡ 0 → ⊥) → 4 ≡ form_unwanted l
        go [] h = absurd (h refl)
        go (b ∷ l) h = refl

    pub form_unknown_row : (e : Bool) → e ≡ true → i ≡ k.UNKNOWN → form_unknown L t ≡ form_of L i t (choice_of e [])
    form_unknown_row e q h = ap (λ (c : Bool). elim c [ true ↦ form_unknown L t | false ↦ form_found L t ]) (sym (eq-eqb i k.UNKNOWN h)) ∙ wanted_is ∙ ap (λ (c : Bool). form_of L i t (choice_of c [])) (sym q)

    pub form_known_row : (e : Bool) → e ≡ true → (i ≡ k.UNKNOWN → ⊥) → form_found L t ≡ form_of L i t (choice_of e [])
    form_known_row e q h = ap (λ (c : Bool). elim c [ true ↦ form_unknown L t | false ↦ form_found L t ]) (sym (ne_eqb i k.UNKNOWN h)) ∙ wanted_is ∙ ap (λ (c : Bool). form_of L i t (choice_of c [])) (sym q)

-- the names
pub names_off : (e : Bool) (f : ℕ) (ns : List ℕ) → e ≡ false → [] ≡ choice_names f (choice_of e ns)
names_off e f ns q = ap (λ (b : Bool). choice_names f (choice_of b ns)) (sym q)

pub names_some : (e : Bool) (f : ℕ) (ns : List ℕ) → e ≡ true → f < 4 → ns ≡ choice_names f (choice_of e ns)
names_some e f ns q h = ap (λ (b : Bool). elim b [ true ↦ ns | false ↦ [] ]) (sym (lt-ltb f 4 h)) ∙ ap (λ (b : Bool). choice_names f (choice_of b ns)) (sym q)

pub names_none : (e : Bool) (f : ℕ) (ns : List ℕ) → e ≡ true → 4 ≤ f → [] ≡ choice_names f (choice_of e ns)
names_none e f ns q h = ap (λ (b : Bool). elim b [ true ↦ ns | false ↦ [] ]) (sym (le-ltb f 4 h)) ∙ ap (λ (b : Bool). choice_names f (choice_of b ns)) (sym q)
