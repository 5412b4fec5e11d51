-- From one edition to the other and back: the same bytes, but for the items of errors; and which field is refused. Assumes nothing.
use Prim.Native.Nat.{ℕ, suc, ◌≤◌, ◌<◌}
use mathlib.Core.Path.{◌≡◌, refl, sym, ap, ap₂, subst, ◌∙◌}
use mathlib.Core.List.{List, [], ◌∷◌, ◌++◌}
use mathlib.Core.Bool.{Bool, true, false, cond, not, ◌&&◌}
use mathlib.Core.Option.{Option, none, some}
use native.Mathlib.Omega.{arith}
use borrow.Author.Tests.{eq-eqb, ne_eqb, eqb-true, eqb-false, lt-ltb, ltb-false}
use lib.Dec.{eqb, ltb}
use Rattle.shapes.specs.Sort as Sort
use Rattle.listing.specs.Numbers.{decimal}
use Rattle.listing.specs.Lines.{parted}
use Rattle.listing.proofs.Lent.{in_parts}
use Rattle.listing.proofs.Marks.{Free, free_one, free_append, free_decimal, AllFree}
use Rattle.editions.specs.Words.{equal, plain}
use Rattle.editions.specs.Fields.{plains, node, error}
use Rattle.editions.specs.Sorts.{RESULT, ALONE, NODES, KINDS, lettered, sort_of}
use Rattle.editions.specs.Editions.{opened, field, allowed, right, ends, shed, Step, stray, becomes, head_text, from, to, head_step}
use Rattle.editions.specs.Editions.{up_step, down_from, down_step, step_at, Made, bad, lines, only, ahead, next, opened_behind, made, made_of, ended}
use Rattle.editions.proofs.Steps.{error_field}
use Rattle.editions.proofs.Texts.{equal_same}
use Rattle.editions.proofs.Marks.{free_front, pieces_free, parted_ended, ended_parted, bare_free, shed_field, shed_sound}

-- LINES ONE AFTER THE OTHER

-- the lines, from line n on, become those others
pub data Goes : Bool → ℕ → ℕ → List (List ℕ) → List (List ℕ) → Type 0 where
  last : {up : Bool} {n d k : ℕ} {l t : List ℕ} → step_at up n d l ≡ becomes true k t → Goes up n d (l ∷ []) (t ∷ [])
  more : {up : Bool} {n d k : ℕ} {l t : List ℕ} {ls ts : List (List ℕ)} → step_at up n d l ≡ becomes false k t → Goes up (suc n) k ls ts → Goes up n d (l ∷ ls) (t ∷ ts)

-- what is made is made of lines, each with its line feed
pub record Came (up : Bool) (n d : ℕ) (ps ts : List (List ℕ)) : Type 0 where
  pub all : List (List ℕ)
  pub is : ps ≡ all ++ ([] ∷ [])
  pub goes : Goes up n d all ts

only_alone : (n : ℕ) (t : List ℕ) (ls ts : List (List ℕ)) → only n t ls ≡ lines ts → (ls ≡ [] ∷ []) × (ts ≡ t ∷ [])
only_alone n t [] ts e = absurd (let z : ◌≡◌ {A = ℕ} 0 1 = cc in omega arith)
only_alone n t ([] ∷ []) ts e = (refl, cc)
only_alone n t ([] ∷ l ∷ ls) ts e = absurd (let z : ◌≡◌ {A = ℕ} 0 1 = cc in omega arith)
only_alone n t ((b ∷ l) ∷ ls) ts e = absurd (let z : ◌≡◌ {A = ℕ} 0 1 = cc in omega arith)

pub came : (up : Bool) (n d : ℕ) (ps ts : List (List ℕ)) → made up n d ps ≡ lines ts → Came up n d ps ts
came up n d [] ts e = absurd (let z : ◌≡◌ {A = ℕ} 0 1 = cc in omega arith)
came up n d (l ∷ []) ts e = absurd (let z : ◌≡◌ {A = ℕ} 0 1 = cc in omega arith)
came up n d (l ∷ k ∷ ls) ts e = go (step_at up n d l) refl e (λ c us f. came up (suc n) c (k ∷ ls) us f)
  where
    go : (s : Step) → step_at up n d l ≡ s → next n s (k ∷ ls) (made up (suc n) (opened_behind s) (k ∷ ls)) ≡ lines ts
        → ((c : ℕ) (us : List (List ℕ)) → made up (suc n) c (k ∷ ls) ≡ lines us → Came up (suc n) c (k ∷ ls) us)
        → Came up n d (l ∷ k ∷ ls) ts
    go stray i e f = absurd (let z : ◌≡◌ {A = ℕ} 0 1 = cc in omega arith)
    go (becomes true c t) i e f =
        let o = only_alone (suc n) t (k ∷ ls) ts e in
        record {
          all = l ∷ [];
          is = ap (λ (qs : List (List ℕ)). l ∷ qs) o.0;
          goes = subst (λ (us : List (List ℕ)). Goes up n d (l ∷ []) us) (sym o.1) (last i);
        }
    go (becomes false c t) i e f = behind (made up (suc n) c (k ∷ ls)) refl e
      where
        behind : (m : Made) → made up (suc n) c (k ∷ ls) ≡ m → ahead (t ∷ []) m ≡ lines ts → Came up n d (l ∷ k ∷ ls) ts
        behind (bad n) j e = absurd (let z : ◌≡◌ {A = ℕ} 0 1 = cc in omega arith)
        behind (lines us) j e =
            let r = f c us j in
            let w : t ∷ us ≡ ts = cc in
            record {
              all = l ∷ r.all;
              is = ap (λ (qs : List (List ℕ)). l ∷ qs) r.is;
              goes = subst (λ (vs : List (List ℕ)). Goes up n d (l ∷ r.all) vs) w (more i r.goes);
            }

-- a line before others, of which there is one at least
pub made_more : (up : Bool) (n d : ℕ) (l : List ℕ) (ks : List (List ℕ))
    → made up n d (l ∷ (ks ++ ([] ∷ []))) ≡ next n (step_at up n d l) (ks ++ ([] ∷ [])) (made up (suc n) (opened_behind (step_at up n d l)) (ks ++ ([] ∷ [])))
made_more up n d l [] = refl
made_more up n d l (k ∷ ks) = refl

pub makes : {up : Bool} {n d : ℕ} {ls ts : List (List ℕ)} → Goes up n d ls ts → made up n d (ls ++ ([] ∷ [])) ≡ lines ts
makes {up} {n} {d} (last {t = t} e) =
    ap (λ (s : Step). next n s ([] ∷ []) (made up (suc n) (opened_behind s) ([] ∷ []))) e
makes {up} {n} {d} (more {k = k} {l = l} {t = t} {ls = ls} e g) =
    made_more up n d l ls
    ∙ ap (λ (s : Step). next n s (ls ++ ([] ∷ [])) (made up (suc n) (opened_behind s) (ls ++ ([] ∷ [])))) e
    ∙ ap (ahead (t ∷ [])) (makes g)

-- AN EVENT'S LETTER

-- what the fields behind a letter are asked for: a node, an error, numbers of a line that ends the listing, or nothing where it is no letter
pub data Asks : (List (List ℕ) → ℕ) → Type 0 where
  of_node : (from to s : ℕ) → s ≤ 4 → Asks (λ (fs : List (List ℕ)). cond (node from to fs) s 0)
  of_error : Asks (λ (fs : List (List ℕ)). cond (error fs) Sort.ERROR 0)
  of_last : (k s : ℕ) → 4 < s → Asks (λ (fs : List (List ℕ)). cond (plains k fs) s 0)
  of_none : Asks (λ (fs : List (List ℕ)). 0)

either_asks : (t : Bool) (f g : List (List ℕ) → ℕ) → Asks f → Asks g → Asks (λ (fs : List (List ℕ)). cond t (f fs) (g fs))
either_asks true f g a b = a
either_asks false f g a b = b

pub asks : (c : ℕ) → Asks (lettered c)
unfolding lettered
asks c =
    either_asks (eqb c 66) _ _ (of_node NODES KINDS Sort.BEGIN (omega arith))
    (either_asks (eqb c 84) _ _ (of_node 0 NODES Sort.TOKEN (omega arith))
    (either_asks (eqb c 69) _ _ (of_node NODES KINDS Sort.END (omega arith))
    (either_asks (eqb c 88) _ _ of_error
    (either_asks (eqb c 82) _ _ (of_last 3 RESULT (omega arith))
    (either_asks (eqb c 78) _ _ (of_last 1 ALONE (omega arith))
    (either_asks (eqb c 70) _ _ (of_last 1 ALONE (omega arith)) of_none))))))

pub no_event : (d s : ℕ) → 4 < s → (t : Bool) → {A : Type 0} → allowed (cond t s 0) d ≡ true → A
unfolding allowed
no_event d s h true e = absurd (let x = ne_eqb s 0 (λ i. omega arith) in let y = lt-ltb 4 s h in let z : ◌≡◌ {A = ℕ} 0 1 = cc in omega arith)
no_event d s h false e = absurd (let z : ◌≡◌ {A = ℕ} 0 1 = cc in omega arith)

low : (s : ℕ) (t : Bool) → s ≤ 4 → cond t s 0 ≤ 4
low s true h = h
low s false h = omega arith

-- what one letter begins is an event, or what another does: never both
letter_same : {f : List (List ℕ) → ℕ} → Asks f → (fs gs : List (List ℕ)) (d : ℕ) → allowed (f fs) d ≡ true → f gs ≤ 4
letter_same (of_node from to s h) fs gs d e = low s (node from to gs) h
letter_same of_error fs gs d e = low Sort.ERROR (error gs) (omega arith)
letter_same (of_last k s h) fs gs d e = no_event d s h (plains k fs) e
letter_same of_none fs gs d e = omega arith

no_zero : (d : ℕ) → {A : Type 0} → allowed 0 d ≡ true → A
unfolding allowed
no_zero d e = absurd (let z : ◌≡◌ {A = ℕ} 0 1 = cc in omega arith)

-- a field more does not make an event a line that ends the listing
sort_same : (fs gs : List (List ℕ)) (d : ℕ) → allowed (sort_of fs) d ≡ true → sort_of (fs ++ gs) ≤ 4
unfolding sort_of
sort_same [] gs d e = no_zero d e
sort_same ([] ∷ fs) gs d e = no_zero d e
sort_same ((c ∷ []) ∷ fs) gs d e = letter_same (asks c) fs (fs ++ gs) d e
sort_same ((c ∷ b ∷ l) ∷ fs) gs d e = no_zero d e

pub goes_on : (s n d : ℕ) → s ≤ 4 → ends s n d ≡ false
unfolding ends
goes_on s n d h = rw (ne_eqb s RESULT (λ i. omega arith), ne_eqb s ALONE (λ i. omega arith)) (go (eqb d 0))
  where
    go : (t : Bool) → (t && false) ≡ false
    go true = refl
    go false = refl

pub event_most : (s d : ℕ) → allowed s d ≡ true → s ≤ 4
unfolding allowed
event_most s d e = go (eqb s 0) (ltb Sort.ERROR s) refl e
  where
    go : (t u : Bool) → ltb Sort.ERROR s ≡ u → cond t false (cond u false (cond (eqb s Sort.END) (ltb 0 d) true)) ≡ true → s ≤ 4
    go true u i e = absurd (let z : ◌≡◌ {A = ℕ} 0 1 = cc in omega arith)
    go false true i e = absurd (let z : ◌≡◌ {A = ℕ} 0 1 = cc in omega arith)
    go false false i e = ltb-false Sort.ERROR s i

-- ONE LINE

equal_self : (t : List ℕ) → equal t t ≡ true
equal_self [] = refl
equal_self (b ∷ t) = ap₂ (λ (x y : Bool). x && y) (eq-eqb b b refl) (equal_self t)

-- an event with a field behind it: the field decides
module _ (n d : ℕ) (l f : List ℕ) (event : allowed (sort_of (parted 9 l)) d ≡ true) (free : Free 9 f) where
  fields_behind : parted 9 (l ++ (9 ∷ f)) ≡ parted 9 l ++ (f ∷ [])
  fields_behind = in_parts 9 l f ∙ ap (λ (gs : List (List ℕ)). parted 9 l ++ gs) free

  field_down : down_step d (l ++ (9 ∷ f)) ≡ cond (right (sort_of (parted 9 l)) d f) (becomes false (opened (sort_of (parted 9 l)) d) l) stray
  unfolding down_step
  field_down =
      ap (down_from d) (shed_field 9 l f (bare_free 9 f free))
      ∙ ap (λ (t : Bool). cond (t && right (sort_of (parted 9 l)) d f) (becomes false (opened (sort_of (parted 9 l)) d) l) stray) event

  -- line n reads where its field is the counted depth, or an item, and nowhere else
  pub field_decides : (n ≡ 1 → ⊥) → step_at false n d (l ++ (9 ∷ f)) ≡ cond (right (sort_of (parted 9 l)) d f) (becomes false (opened (sort_of (parted 9 l)) d) l) stray
  unfolding step_at
  field_decides h =
      rw (ne_eqb n 1 h)
      (ap (λ (gs : List (List ℕ)). cond (ends (sort_of gs) n d) (becomes true 0 (l ++ (9 ∷ f))) (down_step d (l ++ (9 ∷ f)))) fields_behind
      ∙ ap (λ (t : Bool). cond t (becomes true 0 (l ++ (9 ∷ f))) (down_step d (l ++ (9 ∷ f)))) (goes_on (sort_of (parted 9 l ++ (f ∷ []))) n d (sort_same (parted 9 l) (f ∷ []) d event))
      ∙ field_down)

-- the field that is written is the right one
pub own_right : (s d : ℕ) → right s d (decimal (field s d)) ≡ true
unfolding right field plain decimal
own_right s d = go (eqb s Sort.ERROR) refl
  where
    go : (t : Bool) → eqb s Sort.ERROR ≡ t → right s d (decimal (field s d)) ≡ true
    go true e = ap (λ (s : ℕ). right s d (decimal (field s d))) (eqb-true s Sort.ERROR e)
    go false e = ap (λ (t : Bool). cond t (plain (decimal (field s d))) (equal (decimal (field s d)) (decimal (field s d)))) e ∙ equal_self (decimal (field s d))

head_self : (up : Bool) → head_step (not up) (head_text (to up)) ≡ becomes false 0 (head_text (from up))
unfolding head_step decimal
head_self true = refl
head_self false = refl

head_back : (up : Bool) (l t : List ℕ) (b : Bool) (k : ℕ) → head_step up l ≡ becomes b k t → head_step (not up) t ≡ becomes b k l
unfolding head_step
head_back up l t b k e = go (equal l (head_text (from up))) refl e
  where
    go : (x : Bool) → equal l (head_text (from up)) ≡ x → cond x (becomes false 0 (head_text (to up))) stray ≡ becomes b k t → head_step (not up) t ≡ becomes b k l
    go true i e =
        let s : l ≡ head_text (from up) = equal_same l (head_text (from up)) i in
        let w : t ≡ head_text (to up) = cc in
        let v : becomes false 0 (head_text (from up)) ≡ becomes b k l = cc in
        ap (head_step (not up)) w ∙ head_self up ∙ v
    go false i e = absurd (let z : ◌≡◌ {A = ℕ} 0 1 = cc in omega arith)

up_down : (n d : ℕ) (l t : List ℕ) (b : Bool) (k : ℕ) → step_at true n d l ≡ becomes b k t → step_at false n d t ≡ becomes b k l
unfolding step_at up_step
up_down n d l t b k e = go (eqb n 1) refl e
  where
    events : (n ≡ 1 → ⊥) → (x : Bool) → allowed (sort_of (parted 9 l)) d ≡ x
        → cond x (becomes false (opened (sort_of (parted 9 l)) d) (l ++ (9 ∷ decimal (field (sort_of (parted 9 l)) d)))) stray ≡ becomes b k t
        → step_at false n d t ≡ becomes b k l
    events h true i e =
        let s = sort_of (parted 9 l) in
        let w : t ≡ l ++ (9 ∷ decimal (field (sort_of (parted 9 l)) d)) = cc in
        let v : becomes false (opened (sort_of (parted 9 l)) d) l ≡ becomes b k l = cc in
        ap (step_at false n d) w
        ∙ field_decides n d l (decimal (field (sort_of (parted 9 l)) d)) i (free_decimal 9 (omega arith) (field (sort_of (parted 9 l)) d)) h
        ∙ ap (λ (x : Bool). cond x (becomes false (opened (sort_of (parted 9 l)) d) l) stray) (own_right (sort_of (parted 9 l)) d)
        ∙ v
    events h false i e = absurd (let z : ◌≡◌ {A = ℕ} 0 1 = cc in omega arith)

    rest : (n ≡ 1 → ⊥) → (x : Bool) → ends (sort_of (parted 9 l)) n d ≡ x → cond x (becomes true 0 l) (up_step d l) ≡ becomes b k t
        → cond (ends (sort_of (parted 9 t)) n d) (becomes true 0 t) (down_step d t) ≡ becomes b k l
    rest h true i e =
        let w : t ≡ l = cc in
        let v : becomes true 0 l ≡ becomes b k l = cc in
        ap (λ (u : List ℕ). cond (ends (sort_of (parted 9 u)) n d) (becomes true 0 u) (down_step d u)) w
        ∙ ap (λ (x : Bool). cond x (becomes true 0 l) (down_step d l)) i
        ∙ v
    rest h false i e =
        sym (ap (λ (x : Bool). cond x (head_step false t) (cond (ends (sort_of (parted 9 t)) n d) (becomes true 0 t) (down_step d t))) (ne_eqb n 1 h))
        ∙ events h (allowed (sort_of (parted 9 l)) d) refl e

    go : (x : Bool) → eqb n 1 ≡ x
        → cond x (head_step true l) (cond (ends (sort_of (parted 9 l)) n d) (becomes true 0 l) (up_step d l)) ≡ becomes b k t
        → cond x (head_step false t) (cond (ends (sort_of (parted 9 t)) n d) (becomes true 0 t) (down_step d t)) ≡ becomes b k l
    go true i e = head_back true l t b k e
    go false i e = rest (eqb-false n 1 i) (ends (sort_of (parted 9 l)) n d) refl e

-- an event of edition 1, which is not the first line, gets its field
pub event_up : (n d : ℕ) (a : List ℕ) → (n ≡ 1 → ⊥) → allowed (sort_of (parted 9 a)) d ≡ true
    → step_at true n d a ≡ becomes false (opened (sort_of (parted 9 a)) d) (a ++ (9 ∷ decimal (field (sort_of (parted 9 a)) d)))
unfolding step_at up_step
event_up n d a h u =
    ap (λ (x : Bool). cond x (head_step true a) (cond (ends (sort_of (parted 9 a)) n d) (becomes true 0 a) (up_step d a))) (ne_eqb n 1 h)
    ∙ ap (λ (x : Bool). cond x (becomes true 0 a) (up_step d a)) (goes_on (sort_of (parted 9 a)) n d (event_most (sort_of (parted 9 a)) d u))
    ∙ ap (λ (x : Bool). cond x (becomes false (opened (sort_of (parted 9 a)) d) (a ++ (9 ∷ decimal (field (sort_of (parted 9 a)) d)))) stray) u

-- the `L` line
pub head_step_lem : (up : Bool) → step_at up 1 0 (head_text (from up)) ≡ becomes false 0 (head_text (to up))
unfolding decimal step_at head_step
head_step_lem true = refl
head_step_lem false = refl

-- a line that ends the listing stays as it is
pub end_stays : (up : Bool) (n d : ℕ) (l : List ℕ) → (n ≡ 1 → ⊥) → ends (sort_of (parted 9 l)) n d ≡ true → step_at up n d l ≡ becomes true 0 l
unfolding step_at
end_stays up n d l h i =
    ap (λ (x : Bool). cond x (head_step up l) (cond (ends (sort_of (parted 9 l)) n d) (becomes true 0 l) (cond up (up_step d l) (down_step d l)))) (ne_eqb n 1 h)
    ∙ ap (λ (x : Bool). cond x (becomes true 0 l) (cond up (up_step d l) (down_step d l))) i

-- the same line, but for the item of an error, which is then 0
pub data But : List ℕ → List ℕ → Type 0 where
  same : {l : List ℕ} → But l l
  item : (a f : List ℕ) → sort_of (parted 9 a) ≡ Sort.ERROR → But (a ++ (9 ∷ f)) (a ++ (9 ∷ decimal 0))

record Again (n d : ℕ) (l t : List ℕ) (b : Bool) (k : ℕ) : Type 0 where
  line : List ℕ
  step : step_at true n d t ≡ becomes b k line
  but : But l line

-- the line before its last field has this sort, and the field is right
but_of : (d : ℕ) (a f : List ℕ) → right (sort_of (parted 9 a)) d f ≡ true → But (a ++ (9 ∷ f)) (a ++ (9 ∷ decimal (field (sort_of (parted 9 a)) d)))
unfolding right
but_of d a f r = go (eqb (sort_of (parted 9 a)) Sort.ERROR) refl
  where
    go : (t : Bool) → eqb (sort_of (parted 9 a)) Sort.ERROR ≡ t → But (a ++ (9 ∷ f)) (a ++ (9 ∷ decimal (field (sort_of (parted 9 a)) d)))
    go true i =
        let s : sort_of (parted 9 a) ≡ Sort.ERROR = eqb-true (sort_of (parted 9 a)) Sort.ERROR i in
        subst (λ (n : ℕ). But (a ++ (9 ∷ f)) (a ++ (9 ∷ decimal n))) (error_field (sort_of (parted 9 a)) d s) (item a f s)
    go false i =
        let w : equal f (decimal (field (sort_of (parted 9 a)) d)) ≡ true =
        sym (ap (λ (t : Bool). cond t (plain f) (equal f (decimal (field (sort_of (parted 9 a)) d)))) i) ∙ r in
        subst (λ (g : List ℕ). But (a ++ (9 ∷ f)) (a ++ (9 ∷ g))) (equal_same f (decimal (field (sort_of (parted 9 a)) d)) w) same

down_up : (n d : ℕ) (l t : List ℕ) (b : Bool) (k : ℕ) → step_at false n d l ≡ becomes b k t → Again n d l t b k
unfolding step_at down_step
down_up n d l t b k e = go (eqb n 1) refl e
  where
    event : (n ≡ 1 → ⊥) → (a f : List ℕ) → shed 9 l ≡ some (a, f) → (x y : Bool) → allowed (sort_of (parted 9 a)) d ≡ x → right (sort_of (parted 9 a)) d f ≡ y
        → cond (x && y) (becomes false (opened (sort_of (parted 9 a)) d) a) stray ≡ becomes b k t → Again n d l t b k
    event h a f i true true u v e =
        let w : t ≡ a = cc in
        let z : becomes false (opened (sort_of (parted 9 a)) d) (a ++ (9 ∷ decimal (field (sort_of (parted 9 a)) d)))
        ≡ becomes b k (a ++ (9 ∷ decimal (field (sort_of (parted 9 a)) d))) = cc in
        record {
          line = a ++ (9 ∷ decimal (field (sort_of (parted 9 a)) d));
          step = ap (step_at true n d) w ∙ event_up n d a h u ∙ z;
          but = subst (λ (m : List ℕ). But m (a ++ (9 ∷ decimal (field (sort_of (parted 9 a)) d)))) (sym (shed_sound 9 l a f i)) (but_of d a f v);
        }
    event h a f i true false u v e = absurd (let z : ◌≡◌ {A = ℕ} 0 1 = cc in omega arith)
    event h a f i false y u v e = absurd (let z : ◌≡◌ {A = ℕ} 0 1 = cc in omega arith)

    tabs : (n ≡ 1 → ⊥) → (o : Option (List ℕ × List ℕ)) → shed 9 l ≡ o → down_from d o ≡ becomes b k t → Again n d l t b k
    tabs h none i e = absurd (let z : ◌≡◌ {A = ℕ} 0 1 = cc in omega arith)
    tabs h (some (a, f)) i e = event h a f i (allowed (sort_of (parted 9 a)) d) (right (sort_of (parted 9 a)) d f) refl refl e

    rest : (n ≡ 1 → ⊥) → (x : Bool) → ends (sort_of (parted 9 l)) n d ≡ x → cond x (becomes true 0 l) (down_step d l) ≡ becomes b k t → Again n d l t b k
    rest h true i e =
        let w : t ≡ l = cc in
        let z : becomes true 0 l ≡ becomes b k l = cc in
        record {
          line = l;
          step = ap (step_at true n d) w ∙ end_stays true n d l h i ∙ z;
          but = same;
        }
    rest h false i e = tabs h (shed 9 l) refl e

    go : (x : Bool) → eqb n 1 ≡ x → cond x (head_step false l) (cond (ends (sort_of (parted 9 l)) n d) (becomes true 0 l) (down_step d l)) ≡ becomes b k t
        → Again n d l t b k
    go true i e =
        record {
          line = l;
          step =
              ap (λ (x : Bool). cond x (head_step true t) (cond (ends (sort_of (parted 9 t)) n d) (becomes true 0 t) (up_step d t))) i
              ∙ head_back false l t b k e;
          but = same;
        }
    go false i e = rest (eqb-false n 1 i) (ends (sort_of (parted 9 l)) n d) refl e

-- WHAT IS WRITTEN HAS NO LINE FEED

abbrev FreeOf : Step → Type 0
FreeOf stray = Unit
FreeOf (becomes b k t) = Free 10 t

either_free : (t : Bool) (a b : Step) → FreeOf a → FreeOf b → FreeOf (cond t a b)
either_free true a b f g = f
either_free false a b f g = g

pub head_free : (edition : ℕ) → Free 10 (head_text edition)
head_free edition = free_one 10 76 (9 ∷ decimal edition) refl (free_one 10 9 (decimal edition) refl (free_decimal 10 (omega arith) edition))

down_free : (d : ℕ) (l : List ℕ) → Free 10 l → (o : Option (List ℕ × List ℕ)) → shed 9 l ≡ o → FreeOf (down_from d o)
down_free d l f none i = tt
down_free d l f (some (a, g)) i =
    either_free (allowed (sort_of (parted 9 a)) d && right (sort_of (parted 9 a)) d g) (becomes false (opened (sort_of (parted 9 a)) d) a) stray
    (free_front 10 a (9 ∷ g) (subst (Free 10) (shed_sound 9 l a g i) f))
    tt

step_free : (up : Bool) (n d : ℕ) (l : List ℕ) → Free 10 l → FreeOf (step_at up n d l)
unfolding step_at head_step up_step down_step
step_free up n d l f =
    either_free (eqb n 1) (head_step up l) (cond (ends (sort_of (parted 9 l)) n d) (becomes true 0 l) (cond up (up_step d l) (down_step d l)))
    (either_free (equal l (head_text (from up))) (becomes false 0 (head_text (to up))) stray (head_free (to up)) tt)
    (either_free (ends (sort_of (parted 9 l)) n d) (becomes true 0 l) (cond up (up_step d l) (down_step d l)) f
    (either_free up (up_step d l) (down_step d l)
    (either_free (allowed (sort_of (parted 9 l)) d)
    (becomes false (opened (sort_of (parted 9 l)) d) (l ++ (9 ∷ decimal (field (sort_of (parted 9 l)) d)))) stray
    (free_append 10 l (9 ∷ decimal (field (sort_of (parted 9 l)) d)) f
    (free_one 10 9 (decimal (field (sort_of (parted 9 l)) d)) refl (free_decimal 10 (omega arith) (field (sort_of (parted 9 l)) d))))
    tt)
    (down_free d l f (shed 9 l) refl)))

goes_free : {up : Bool} {n d : ℕ} {ls ts : List (List ℕ)} → Goes up n d ls ts → AllFree 10 ls → AllFree 10 ts
goes_free (last {up = up} {n = n} {d = d} {l = l} e) f = (subst FreeOf e (step_free up n d l f.0), tt)
goes_free (more {up = up} {n = n} {d = d} {l = l} e g) f = (subst FreeOf e (step_free up n d l f.0), goes_free g f.1)

all_front : (m : ℕ) (ls ks : List (List ℕ)) → AllFree m (ls ++ ks) → AllFree m ls
all_front m [] ks e = tt
all_front m (l ∷ ls) ks e = (e.0, all_front m ls ks e.1)

-- THE WHOLE LISTING

flip_up : {n d : ℕ} {ls ts : List (List ℕ)} → Goes true n d ls ts → Goes false n d ts ls
flip_up (last {n = n} {d = d} {k = k} {l = l} {t = t} e) = last (up_down n d l t true k e)
flip_up (more {n = n} {d = d} {k = k} {l = l} {t = t} e g) = more (up_down n d l t false k e) (flip_up g)

-- lines of which each is the same but for an item
pub data Buts : List (List ℕ) → List (List ℕ) → Type 0 where
  none_left : Buts [] []
  one_more : {l m : List ℕ} {ls ms : List (List ℕ)} → But l m → Buts ls ms → Buts (l ∷ ls) (m ∷ ms)

record Agains (n d : ℕ) (ls ts : List (List ℕ)) : Type 0 where
  all : List (List ℕ)
  goes : Goes true n d ts all
  buts : Buts ls all

flip_down : {n d : ℕ} {ls ts : List (List ℕ)} → Goes false n d ls ts → Agains n d ls ts
flip_down (last {n = n} {d = d} {k = k} {l = l} {t = t} e) =
    let a = down_up n d l t true k e in record { all = a.line ∷ []; goes = last a.step; buts = one_more a.but none_left }
flip_down (more {n = n} {d = d} {k = k} {l = l} {t = t} e g) =
    let a = down_up n d l t false k e in
    let r = flip_down g in
    record { all = a.line ∷ r.all; goes = more a.step r.goes; buts = one_more a.but r.buts }

pub remade : (up : Bool) (ls ts : List (List ℕ)) → AllFree 10 ls → Goes up 1 0 ls ts → made_of up (ended ls) ≡ lines ts
unfolding made_of
remade up ls ts f g = ap (made up 1 0) (parted_ended ls f) ∙ makes g

-- the lines of a text that converts, of which what is written has no line feed either
record Parted (up : Bool) (text : List ℕ) (ts : List (List ℕ)) : Type 0 where
  all : List (List ℕ)
  goes : Goes up 1 0 all ts
  free : AllFree 10 ts
  is : ended all ≡ text

parts : (up : Bool) (text : List ℕ) (ts : List (List ℕ)) → made_of up text ≡ lines ts → Parted up text ts
unfolding made_of
parts up text ts e =
    let c = came up 1 0 (parted 10 text) ts e in
    record {
      all = c.all;
      goes = c.goes;
      free = goes_free c.goes (all_front 10 c.all ([] ∷ []) (subst (AllFree 10) c.is (pieces_free 10 text)));
      is = ended_parted text c.all c.is;
    }

-- "From 1 to 2 and back gives the same bytes"
pub record Returns (text : List ℕ) (ts : List (List ℕ)) : Type 0 where
  pub all : List (List ℕ)
  pub converts : made_of false (ended ts) ≡ lines all
  pub bytes : ended all ≡ text

pub up_and_back : (text : List ℕ) (ts : List (List ℕ)) → made_of true text ≡ lines ts → Returns text ts
up_and_back text ts e =
    let p = parts true text ts e in
    record { all = p.all; converts = remade false ts p.all p.free (flip_up p.goes); bytes = p.is }

-- "the way from 2 to 1 and back now gives the same bytes but for that field"
pub record ReturnsBut (text : List ℕ) (ts : List (List ℕ)) : Type 0 where
  pub before : List (List ℕ)
  pub after : List (List ℕ)
  pub bytes : ended before ≡ text
  pub converts : made_of true (ended ts) ≡ lines after
  pub but : Buts before after

pub down_and_back : (text : List ℕ) (ts : List (List ℕ)) → made_of false text ≡ lines ts → ReturnsBut text ts
down_and_back text ts e =
    let p = parts false text ts e in
    let a = flip_down p.goes in
    record { before = p.all; after = a.all; bytes = p.is; converts = remade true ts a.all p.free a.goes; but = a.buts }
