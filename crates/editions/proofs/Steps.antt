-- One line: what its sort and the open nodes ask for, and the place of its last tab. Assumes nothing.
use Prim.Native.Nat.{ℕ, zero, suc, ◌+◌, ◌-◌, ◌≤◌, ◌<◌}
use mathlib.Core.Path.{◌≡◌, refl, sym, ap, ap₂, subst, ◌∙◌}
use mathlib.Core.List.{List, [], ◌∷◌, ◌++◌, append-nil}
use mathlib.Core.Bool.{Bool, true, false, cond, ◌&&◌}
use mathlib.Core.Option.{none, some}
use native.Mathlib.Numerals.{add-one}
use native.Mathlib.Omega.{arith}
use borrow.Author.Tests.{eq-eqb, ne_eqb}
use lib.Dec.{eqb}
use lib.ListN.{length, get_or, take, drop}
use lib.Seq.{drop-cons, drop-length, take-length}
use Rattle.shapes.specs.Sort as Sort
use Rattle.listing.specs.Numbers.{decimal}
use Rattle.listing.specs.Lines.{parted}
use Rattle.listing.proofs.Rest.{rest, rest_is}
use Rattle.editions.specs.Words.{equal}
use Rattle.editions.specs.Sorts.{RESULT, ALONE, sort_of}
use Rattle.editions.specs.Editions.{opened, field, allowed, right, ends, shed_from, shed, stray, becomes, head_text, from, to, head_step}
use Rattle.editions.specs.Editions.{up_as, up_step, down_as, down_from, down_step, step_at}
use Rattle.editions.proofs.Texts.{equal_same}

-- COUNTING

module _ (s d : ℕ) where
  pub error_field : s ≡ Sort.ERROR → 0 ≡ field s d
  unfolding field
  error_field e = sym (ap (λ (s : ℕ). field s d) e)

  module _ (n : ℕ) (none_open : d ≡ 0) where
    pub result_ends : s ≡ RESULT → true ≡ ends s n d
    unfolding ends
    result_ends e = rw (eq-eqb d 0 none_open, eq-eqb s RESULT e)

    pub alone_ends : (s ≡ RESULT → ⊥) → s ≡ ALONE → eqb n 2 ≡ ends s n d
    unfolding ends
    alone_ends no_result e = rw (eq-eqb d 0 none_open, ne_eqb s RESULT no_result, eq-eqb s ALONE e)

-- THE LAST TAB

shed_at : (m : ℕ) (l : List ℕ) (j : ℕ) → j < length l → get_or l j 0 ≡ m → shed m (drop (j + 1) l) ≡ none → shed m l ≡ some (take j l, drop (j + 1) l)
shed_at m [] j h e f = absurd (omega arith)
shed_at m (b ∷ bs) zero h e f =
    ap (shed_from m b bs) f ∙ ap (λ (t : Bool). cond t (some ([], bs)) none) (eq-eqb b m e)
shed_at m (b ∷ bs) (suc j) h e f =
    let i : suc j + 1 ≡ suc (j + 1) = omega arith in
    ap (shed_from m b bs) (shed_at m bs j (omega arith) e (ap (λ (n : ℕ). shed m (drop n (b ∷ bs))) (sym i) ∙ f))
    ∙ ap (λ (n : ℕ). some (b ∷ take j bs, drop n (b ∷ bs))) (sym i)

bare_on : (m : ℕ) (l : List ℕ) (j : ℕ) → j < length l → (get_or l j 0 ≡ m → ⊥) → shed m (drop (j + 1) l) ≡ none → shed m (drop j l) ≡ none
bare_on m l j h ne f =
    ap (shed m) (drop-cons l j 0 h)
    ∙ ap (shed_from m (get_or l j 0) (drop (suc j) l)) (ap (λ (n : ℕ). shed m (drop n l)) (sym (add-one j)) ∙ f)
    ∙ ap (λ (t : Bool). cond t (some ([], drop (suc j) l)) none) (ne_eqb _ _ ne)

-- no mark stands from i on, and one before it, or none
module _ (m : ℕ) (l : List ℕ) (i : ℕ) (bare : shed m (drop i l) ≡ none) where
  pub mark_at : 0 < i → i ≤ length l → get_or l (i - 1) 0 ≡ m → (i - 1 < length l) × (shed m l ≡ some (take (i - 1) l, drop (i - 1 + 1) l))
  mark_at h k e =
      let n : i ≡ i - 1 + 1 = omega arith in
      (omega arith, shed_at m l (i - 1) (omega arith) e (sym (ap (λ (n : ℕ). shed m (drop n l)) n) ∙ bare))

  pub mark_before : 0 < i → i ≤ length l → (get_or l (i - 1) 0 ≡ m → ⊥) → shed m (drop (i - 1) l) ≡ none
  mark_before h k e =
      let n : i ≡ i - 1 + 1 = omega arith in
      bare_on m l (i - 1) (omega arith) e (sym (ap (λ (n : ℕ). shed m (drop n l)) n) ∙ bare)

  pub no_mark : i ≤ 0 → shed m l ≡ none
  no_mark h = let e : 0 ≡ i = omega arith in ap (λ (n : ℕ). shed m (drop n l)) e ∙ bare

pub bare_end : (m : ℕ) (l : List ℕ) → shed m (drop (length l) l) ≡ none
bare_end m l = ap (shed m) (drop-length l)

-- WHAT A LINE BECOMES

-- the `L` line of the edition, which the code has as a text
no_head : (up : Bool) (l : List ℕ) → equal l (head_text (from up)) ≡ false → stray ≡ head_step up l
unfolding head_step
no_head up l e = sym (ap (λ (t : Bool). cond t (becomes false 0 (head_text (to up))) stray) e)

a_head : (up : Bool) (l : List ℕ) → equal l (head_text (from up)) ≡ true → becomes false 0 (take 1 l ++ (9 ∷ decimal (to up))) ≡ head_step up l
unfolding head_step
a_head up l e =
    ap (λ (l : List ℕ). becomes false 0 (take 1 l ++ (9 ∷ decimal (to up)))) (equal_same l (head_text (from up)) e)
    ∙ sym (ap (λ (t : Bool). cond t (becomes false 0 (head_text (to up))) stray) e)

head_long : (up : Bool) (l : List ℕ) → equal l (head_text (from up)) ≡ true → 1 ≤ length l
head_long up l e = omega (arith, ap length (equal_same l (head_text (from up)) e))

module _ (d : ℕ) (l : List ℕ) {s : ℕ} (e : s ≡ sort_of (parted 9 l)) where
  up_as_lem : (t : Bool) → allowed s d ≡ t → cond t (becomes false (opened s d) (l ++ (9 ∷ decimal (field s d)))) stray ≡ up_step d l
  unfolding up_step
  up_as_lem t f = sym (ap (λ (t : Bool). cond t (becomes false (opened s d) (l ++ (9 ∷ decimal (field s d)))) stray) f) ∙ ap (λ (s : ℕ). up_as s d l) e

  pub up_stray : allowed s d ≡ false → stray ≡ up_step d l
  up_stray f = up_as_lem false f

  pub up_event : allowed s d ≡ true → {a n : ℕ} → a ≡ opened s d → n ≡ field s d → becomes false a (take (length l) l ++ (9 ∷ decimal n)) ≡ up_step d l
  up_event f {a} {n} i j =
      ap (λ (t : List ℕ). becomes false a (t ++ (9 ∷ decimal n))) (take-length l)
      ∙ ap₂ (λ (a n : ℕ). becomes false a (l ++ (9 ∷ decimal n))) i j
      ∙ up_as_lem true f

pub no_tab : (d : ℕ) (l : List ℕ) → shed 9 l ≡ none → stray ≡ down_step d l
unfolding down_step
no_tab d l m = sym (ap (down_from d) m)

module _ (d : ℕ) (l : List ℕ) (tab : ℕ) (m : shed 9 l ≡ some (take tab l, drop (tab + 1) l)) {s : ℕ} (e : s ≡ sort_of (parted 9 (take tab l))) where
  down_as_lem : (t u : Bool) → allowed s d ≡ t → right s d (rest l (tab + 1)) ≡ u → cond (t && u) (becomes false (opened s d) (take tab l)) stray ≡ down_step d l
  unfolding down_step
  down_as_lem t u f i =
      sym (ap₂ (λ (t u : Bool). cond (t && u) (becomes false (opened s d) (take tab l)) stray) f i)
      ∙ ap (λ (f : List ℕ). down_as s d (take tab l, f)) (rest_is l (tab + 1))
      ∙ ap (λ (s : ℕ). down_as s d (take tab l, drop (tab + 1) l)) e
      ∙ sym (ap (down_from d) m)

  pub down_stray : allowed s d ≡ false → stray ≡ down_step d l
  down_stray f = down_as_lem false (right s d (rest l (tab + 1))) f refl

  module _ (f : allowed s d ≡ true) where
    pub down_wrong : right s d (rest l (tab + 1)) ≡ false → stray ≡ down_step d l
    down_wrong i = down_as_lem true false f i

    pub down_event : right s d (rest l (tab + 1)) ≡ true → {a : ℕ} → a ≡ opened s d → becomes false a (take tab l ++ []) ≡ down_step d l
    down_event i {a} j =
        ap₂ (λ (a : ℕ) (t : List ℕ). becomes false a t) j (append-nil (take tab l))
        ∙ down_as_lem true true f i

module _ (up : Bool) (n d : ℕ) (l : List ℕ) where
  pub first_line : n ≡ 1 → head_step up l ≡ step_at up n d l
  unfolding step_at
  first_line e = rw (eq-eqb n 1 e)

  module _ (h : n ≡ 1 → ⊥) {s : ℕ} (e : s ≡ sort_of (parted 9 l)) where
    ends_as : (t : Bool) → ends s n d ≡ t → cond t (becomes true 0 l) (cond up (up_step d l) (down_step d l)) ≡ step_at up n d l
    unfolding step_at
    ends_as t f =
        rw (ne_eqb n 1 h)
        (sym (ap (λ (t : Bool). cond t (becomes true 0 l) (cond up (up_step d l) (down_step d l))) f)
        ∙ ap (λ (s : ℕ). cond (ends s n d) (becomes true 0 l) (cond up (up_step d l) (down_step d l))) e)

    pub last_line : ends s n d ≡ true → becomes true 0 (take (length l) l ++ []) ≡ step_at up n d l
    last_line f = ap (becomes true 0) (append-nil (take (length l) l) ∙ take-length l) ∙ ends_as true f

    module _ (f : ends s n d ≡ false) where
      pub line_up : up ≡ true → up_step d l ≡ step_at up n d l
      line_up u = sym (ap (λ (t : Bool). cond t (up_step d l) (down_step d l)) u) ∙ ends_as false f

      pub line_down : up ≡ false → down_step d l ≡ step_at up n d l
      line_down u = sym (ap (λ (t : Bool). cond t (up_step d l) (down_step d l)) u) ∙ ends_as false f

-- both, where the way is known; nothing is kept of a line that is none, and its letter of one
pub no_head_as : {up way : Bool} (l : List ℕ) → up ≡ way → equal l (head_text (from way)) ≡ false → (stray ≡ head_step up l) × (0 ≤ length l)
no_head_as {up} {way} l u e = subst (λ (w : Bool). (stray ≡ head_step w l) × (0 ≤ length l)) (sym u) (no_head way l e, omega arith)

pub a_head_as : {up way : Bool} (l : List ℕ) → up ≡ way → equal l (head_text (from way)) ≡ true
    → (becomes false 0 (take 1 l ++ (9 ∷ decimal (to way))) ≡ head_step up l) × (1 ≤ length l)
a_head_as {up} {way} l u e =
    subst (λ (w : Bool). (becomes false 0 (take 1 l ++ (9 ∷ decimal (to way))) ≡ head_step w l) × (1 ≤ length l)) (sym u) (a_head way l e, head_long way l e)
