-- Which line of an edition 2 listing is refused for its last field, over a listing of lines that read but for that. Assumes nothing.
use Prim.Native.Nat.{ℕ, zero, suc, ◌≤◌, ◌<◌}
use mathlib.Core.Path.{◌≡◌, refl, sym, ap, ap₂, subst, ◌∙◌}
use mathlib.Core.List.{List, [], ◌∷◌, ◌++◌}
use mathlib.Core.Bool.{Bool, true, false, cond, not, ◌&&◌}
use mathlib.Core.Option.{Option, none, some}
use native.Mathlib.Omega.{arith}
use borrow.Author.Tests.{ne_eqb}
use lib.Dec.{eqb}
use lib.ListN.{length, length-append}
use Rattle.shapes.specs.Sort as Sort
use Rattle.listing.specs.Lines.{parted}
use Rattle.listing.proofs.Lent.{in_parts}
use Rattle.listing.proofs.Marks.{Free, free_one, free_append, both, AllFree}
use Rattle.listing.proofs.Pieces.{one_piece}
use Rattle.editions.specs.Words.{plain, kind_among}
use Rattle.editions.specs.Fields.{plains, node, form_of, error}
use Rattle.editions.specs.Sorts.{sort_of}
use Rattle.editions.specs.Editions.{opened, allowed, right, ends, shed, Step, stray, becomes, head_text, head_step, up_step, down_from, down_step, step_at}
use Rattle.editions.specs.Editions.{Made, bad, lines, ahead, next, opened_behind, made, made_of, ended, refused, answered, converted}
use Rattle.editions.proofs.Marks.{parted_ended, shed_sound}
use Rattle.editions.proofs.Back.{Goes, last, more, came, made_more, Asks, of_node, of_error, of_last, of_none, asks, no_event}
use Rattle.editions.proofs.Back.{goes_on, event_most, field_decides, head_step_lem, end_stays, head_free}

-- A LINE WITHOUT ITS LAST FIELD

-- how many fields stand behind the letter: three of a node, and of an error four at least
plains_count : (n : ℕ) (fs : List (List ℕ)) → plains n fs ≡ true → length fs ≡ n
plains_count zero [] e = refl
plains_count zero (f ∷ fs) e = absurd (let z : ◌≡◌ {A = ℕ} 0 1 = cc in omega arith)
plains_count (suc n) [] e = absurd (let z : ◌≡◌ {A = ℕ} 0 1 = cc in omega arith)
plains_count (suc n) (f ∷ fs) e = ap suc (plains_count n fs (both (plain f) (plains n fs) e).1)

node_count : (from to : ℕ) (fs : List (List ℕ)) → node from to fs ≡ true → length fs ≡ 3
node_count from to [] e = absurd (let z : ◌≡◌ {A = ℕ} 0 1 = cc in omega arith)
node_count from to (k ∷ fs) e = ap suc (plains_count 2 fs (both (plains 2 fs) (kind_among from to k) e).0)

error_least : (fs : List (List ℕ)) → error fs ≡ true → 4 ≤ length fs
error_least [] e = absurd (let z : ◌≡◌ {A = ℕ} 0 1 = cc in omega arith)
error_least (a ∷ []) e = absurd (let z : ◌≡◌ {A = ℕ} 0 1 = cc in omega arith)
error_least (a ∷ b ∷ []) e = absurd (let z : ◌≡◌ {A = ℕ} 0 1 = cc in omega arith)
error_least (a ∷ b ∷ c ∷ []) e =
    let x = (both (not (eqb (form_of a) 0) && plain b && plain c) false e).1 in
    absurd (let z : ◌≡◌ {A = ℕ} 0 1 = cc in omega arith)
error_least (a ∷ b ∷ c ∷ d ∷ fs) e = omega arith

-- an event without its last fields is none
shorter : {f : List (List ℕ) → ℕ} → Asks f → (fs gs : List (List ℕ)) (d : ℕ) → length fs < 4 → 0 < length gs
    → allowed (f (fs ++ gs)) d ≡ true → allowed (f fs) d ≡ false
unfolding allowed
shorter (of_node from to s h) fs gs d i j e = go (node from to (fs ++ gs)) (node from to fs) refl refl e
  where
    go : (x y : Bool) → node from to (fs ++ gs) ≡ x → node from to fs ≡ y → allowed (cond x s 0) d ≡ true → allowed (cond y s 0) d ≡ false
    go true true p q e = absurd (omega (arith, node_count from to (fs ++ gs) p, node_count from to fs q, length-append fs gs))
    go true false p q e = refl
    go false y p q e = absurd (let z : ◌≡◌ {A = ℕ} 0 1 = cc in omega arith)
shorter of_error fs gs d i j e = go (error fs) refl
  where
    go : (y : Bool) → error fs ≡ y → allowed (cond y Sort.ERROR 0) d ≡ false
    go true q = absurd (omega (arith, error_least fs q))
    go false q = refl
shorter (of_last k s h) fs gs d i j e = no_event d s h (plains k (fs ++ gs)) e
shorter of_none fs gs d i j e = refl

sort_shorter : (ps gs : List (List ℕ)) (d : ℕ) → length ps ≤ 4 → 0 < length gs → allowed (sort_of (ps ++ gs)) d ≡ true → allowed (sort_of ps) d ≡ false
unfolding sort_of allowed
sort_shorter [] gs d i j e = refl
sort_shorter ([] ∷ fs) gs d i j e = refl
sort_shorter ((c ∷ []) ∷ fs) gs d i j e = shorter (asks c) fs gs d (omega arith) j e
sort_shorter ((c ∷ b ∷ l) ∷ fs) gs d i j e = refl

-- the line has its letter and at most four fields; an error of form 9 with its place has five
abbrev pub Placeless : List ℕ → Type 0
Placeless l = length (parted 9 l) ≤ 5

some_piece : (l : List ℕ) → 0 < length (parted 9 l)
some_piece l = one_piece (λ (ps : List (List ℕ)). 0 < length ps) (λ p ps. omega arith) 9 l

module _ (n d : ℕ) (l : List ℕ) (event : allowed (sort_of (parted 9 l)) d ≡ true) (short : Placeless l) where
  bare_down : (o : Option (List ℕ × List ℕ)) → shed 9 l ≡ o → down_from d o ≡ stray
  bare_down none i = refl
  bare_down (some (a, f)) i =
      let e : parted 9 l ≡ parted 9 a ++ parted 9 f = ap (parted 9) (shed_sound 9 l a f i) ∙ in_parts 9 a f in
      let s : length (parted 9 a) ≤ 4 = omega (arith, short, ap length e, length-append (parted 9 a) (parted 9 f), some_piece f) in
      let w : allowed (sort_of (parted 9 a)) d ≡ false =
      sort_shorter (parted 9 a) (parted 9 f) d s (some_piece f) (sym (ap (λ (ps : List (List ℕ)). allowed (sort_of ps) d) e) ∙ event) in
      ap (λ (t : Bool). cond (t && right (sort_of (parted 9 a)) d f) (becomes false (opened (sort_of (parted 9 a)) d) a) stray) w

  -- an event of edition 1 does not read in edition 2
  pub bare_stray : (n ≡ 1 → ⊥) → step_at false n d l ≡ stray
  unfolding step_at down_step
  bare_stray h =
      rw (ne_eqb n 1 h)
      (ap (λ (t : Bool). cond t (becomes true 0 l) (down_step d l)) (goes_on (sort_of (parted 9 l)) n d (event_most (sort_of (parted 9 l)) d event))
      ∙ bare_down (shed 9 l) refl)

-- WHAT STANDS BEHIND EACH EVENT

-- a field, or none where it is left out
abbrev pub behind : List ℕ → Option (List ℕ) → List ℕ
behind l none = l
behind l (some f) = l ++ (9 ∷ f)

-- the field is there, and is the counted depth or an item
abbrev pub is_right : ℕ → ℕ → Option (List ℕ) → Bool
is_right sort d none = false
is_right sort d (some f) = right sort d f

-- the lines from line n on, each with what o has for it behind it, but for the last one
abbrev pub fielded : (ℕ → Option (List ℕ)) → ℕ → List (List ℕ) → List (List ℕ)
fielded o n [] = []
fielded o n (l ∷ []) = l ∷ []
fielded o n (l ∷ k ∷ ls) = behind l (o n) ∷ fielded o (suc n) (k ∷ ls)

-- the number of the first line whose field is not right; or the lines without their fields
abbrev pub first_wrong : (ℕ → Option (List ℕ)) → ℕ → ℕ → List (List ℕ) → Made
first_wrong o n d [] = bad n
first_wrong o n d (l ∷ []) = lines (l ∷ [])
first_wrong o n d (l ∷ k ∷ ls) =
    cond (is_right (sort_of (parted 9 l)) d (o n)) (ahead (l ∷ []) (first_wrong o (suc n) (opened (sort_of (parted 9 l)) d) (k ∷ ls))) (bad n)

-- a field has neither tab nor line feed; where it is left out, no place of form 9 stands in its stead (decision 121)
abbrev pub Fit : List ℕ → Option (List ℕ) → Type 0
Fit l none = Placeless l
Fit l (some f) = Free 9 f × Free 10 f

abbrev pub Fits : (ℕ → Option (List ℕ)) → ℕ → List (List ℕ) → Type 0
Fits o n [] = Unit
Fits o n (l ∷ ls) = Fit l (o n) × Fits o (suc n) ls

line_decides : (n d : ℕ) (l : List ℕ) (o : Option (List ℕ)) → (n ≡ 1 → ⊥) → allowed (sort_of (parted 9 l)) d ≡ true → Fit l o
    → step_at false n d (behind l o) ≡ cond (is_right (sort_of (parted 9 l)) d o) (becomes false (opened (sort_of (parted 9 l)) d) l) stray
line_decides n d l none h e f = bare_stray n d l e f h
line_decides n d l (some g) h e f = field_decides n d l g e f.0 h

-- ALL LINES

-- what a line of edition 1 that converts is: an event, or one that ends the listing
module _ (n d : ℕ) (l t : List ℕ) (k : ℕ) (h : n ≡ 1 → ⊥) where
  of_up : {b : Bool} → step_at true n d l ≡ becomes b k t → cond (ends (sort_of (parted 9 l)) n d) (becomes true 0 l) (up_step d l) ≡ becomes b k t
  unfolding step_at
  of_up e = sym (ap (λ (x : Bool). cond x (head_step true l) (cond (ends (sort_of (parted 9 l)) n d) (becomes true 0 l) (up_step d l))) (ne_eqb n 1 h)) ∙ e

  was_end : step_at true n d l ≡ becomes true k t → ends (sort_of (parted 9 l)) n d ≡ true
  unfolding up_step
  was_end e = go (ends (sort_of (parted 9 l)) n d) (allowed (sort_of (parted 9 l)) d) _ _ (of_up e)
    where
      go : (x y : Bool) (m : ℕ) (u : List ℕ) → cond x (becomes true 0 l) (cond y (becomes false m u) stray) ≡ becomes true k t → x ≡ true
      go true y m u e = refl
      go false true m u e = absurd (let z : ◌≡◌ {A = ℕ} 0 1 = cc in omega arith)
      go false false m u e = absurd (let z : ◌≡◌ {A = ℕ} 0 1 = cc in omega arith)

  was_event : step_at true n d l ≡ becomes false k t → (allowed (sort_of (parted 9 l)) d ≡ true) × (opened (sort_of (parted 9 l)) d ≡ k)
  unfolding up_step
  was_event e = go (ends (sort_of (parted 9 l)) n d) (allowed (sort_of (parted 9 l)) d) _ _ (of_up e)
    where
      go : (x y : Bool) (m : ℕ) (u : List ℕ) → cond x (becomes true 0 l) (cond y (becomes false m u) stray) ≡ becomes false k t → (y ≡ true) × (m ≡ k)
      go true y m u e = absurd (let z : ◌≡◌ {A = ℕ} 0 1 = cc in omega arith)
      go false true m u e = (refl, cc)
      go false false m u e = absurd (let z : ◌≡◌ {A = ℕ} 0 1 = cc in omega arith)

some_line : {up : Bool} {n d : ℕ} {ls ts : List (List ℕ)} → Goes up n d ls ts → ls ≡ [] → ⊥
some_line (last e) i = let z : ◌≡◌ {A = ℕ} 0 1 = cc in omega arith
some_line (more e g) i = let z : ◌≡◌ {A = ℕ} 0 1 = cc in omega arith

decides : (o : ℕ → Option (List ℕ)) (n d : ℕ) (ls ts : List (List ℕ)) → (n ≡ 0 → ⊥) → Goes true (suc n) d ls ts → Fits o (suc n) ls
    → made false (suc n) d (fielded o (suc n) ls ++ ([] ∷ [])) ≡ first_wrong o (suc n) d ls
decides o n d [] ts h g f = elim g [ ]
decides o n d (l ∷ []) [] h g f = elim g [ ]
decides o n d (l ∷ j ∷ ls) [] h g f = elim g [ ]
decides o n d (l ∷ []) (t ∷ []) h (last {k = k} e) f =
    ap (λ (s : Step). next (suc n) s ([] ∷ []) (made false (suc (suc n)) (opened_behind s) ([] ∷ [])))
    (end_stays false (suc n) d l (λ i. omega arith) (was_end (suc n) d l t k (λ i. omega arith) e))
decides o n d (l ∷ []) (t ∷ ts) h (more e g) f = absurd (some_line g refl)
decides o n d (l ∷ j ∷ ls) (t ∷ ts) h (more {k = k} e g) f =
    let w = was_event (suc n) d l t k (λ i. omega arith) e in
    let rest = fielded o (suc (suc n)) (j ∷ ls) ++ ([] ∷ []) in
    made_more false (suc n) d (behind l (o (suc n))) (fielded o (suc (suc n)) (j ∷ ls))
    ∙ ap (λ (s : Step). next (suc n) s rest (made false (suc (suc n)) (opened_behind s) rest)) (line_decides (suc n) d l (o (suc n)) (λ i. omega arith) w.0 f.0)
    ∙ go (is_right (sort_of (parted 9 l)) d (o (suc n))) (opened (sort_of (parted 9 l)) d) rest
    (decides o (suc n) (opened (sort_of (parted 9 l)) d) (j ∷ ls) ts (λ i. omega arith) (subst (λ (c : ℕ). Goes true (suc (suc n)) c (j ∷ ls) ts) (sym w.1) g) f.1)
  where
    go : (x : Bool) (c : ℕ) (ps : List (List ℕ)) {m : Made} → made false (suc (suc n)) c ps ≡ m
        → next (suc n) (cond x (becomes false c l) stray) ps (made false (suc (suc n)) (opened_behind (cond x (becomes false c l) stray)) ps) ≡ cond x (ahead (l ∷ []) m) (bad (suc n))
    go true c ps e = ap (ahead (l ∷ [])) e
    go false c ps e = refl

fielded_free : (o : ℕ → Option (List ℕ)) (n : ℕ) (ls : List (List ℕ)) → AllFree 10 ls → Fits o n ls → AllFree 10 (fielded o n ls)
fielded_free o n [] e f = tt
fielded_free o n (l ∷ []) e f = e
fielded_free o n (l ∷ k ∷ ls) e f = (go (o n) f.0, fielded_free o (suc n) (k ∷ ls) e.1 f.1)
  where
    go : (p : Option (List ℕ)) → Fit l p → Free 10 (behind l p)
    go none f = e.0
    go (some g) f = free_append 10 l (9 ∷ g) e.0 (free_one 10 9 g refl f.1)

-- lines behind the `L` line that are made of others: those go
same_before : (t : List ℕ) (ls ks : List (List ℕ)) → ls ++ (t ∷ []) ≡ ks ++ (t ∷ []) → ls ≡ ks
same_before t [] [] e = refl
same_before t [] (k ∷ ks) e = absurd (omega (arith, ap length e, length-append ks (t ∷ [])))
same_before t (l ∷ ls) [] e = absurd (omega (arith, ap length e, length-append ls (t ∷ [])))
same_before t (l ∷ ls) (k ∷ ks) e =
    let x : l ≡ k = cc in
    let y : ls ++ (t ∷ []) ≡ ks ++ (t ∷ []) = cc in
    ap₂ (λ (a : List ℕ) (bs : List (List ℕ)). a ∷ bs) x (same_before t ls ks y)

behind_head : (up : Bool) (edition other : ℕ) (ls : List (List ℕ)) → AllFree 10 ls → step_at up 1 0 (head_text edition) ≡ becomes false 0 (head_text other)
    → made_of up (ended (head_text edition ∷ ls)) ≡ ahead (head_text other ∷ []) (made up 2 0 (ls ++ ([] ∷ [])))
unfolding made_of
behind_head up edition other ls e h =
    ap (made up 1 0) (parted_ended (head_text edition ∷ ls) (head_free edition, e))
    ∙ made_more up 1 0 (head_text edition) ls
    ∙ ap (λ (s : Step). next 1 s (ls ++ ([] ∷ [])) (made up 2 (opened_behind s) (ls ++ ([] ∷ [])))) h

-- Lines that stand behind the `L` line of a listing of edition 1 which converts, each event with a field behind it or none: in edition 2 they are refused
-- 16 at the first whose field is not the counted depth, or no item, or left out, and nowhere else; where there is none, they become what they were
pub fields_decide : (ls ts : List (List ℕ)) → AllFree 10 ls → made_of true (ended (head_text 1 ∷ ls)) ≡ lines ts → (o : ℕ → Option (List ℕ)) → Fits o 2 ls
    → (room : List ℕ) → converted false (ended (head_text 2 ∷ fielded o 2 ls)) room ≡ answered (ahead (head_text 1 ∷ []) (first_wrong o 2 0 ls)) room
unfolding converted
fields_decide ls ts e m o f room = go (made true 2 0 (ls ++ ([] ∷ []))) refl (sym (behind_head true 1 2 ls e (head_step_lem true)) ∙ m)
  where
    go : (k : Made) → made true 2 0 (ls ++ ([] ∷ [])) ≡ k → ahead (head_text 2 ∷ []) k ≡ lines ts
        → answered (made_of false (ended (head_text 2 ∷ fielded o 2 ls))) room ≡ answered (ahead (head_text 1 ∷ []) (first_wrong o 2 0 ls)) room
    go (bad n) i j = absurd (let z : ◌≡◌ {A = ℕ} 0 1 = cc in omega arith)
    go (lines us) i j =
        let c = came true 2 0 (ls ++ ([] ∷ [])) us i in
        let g : Goes true 2 0 ls us = subst (λ (ks : List (List ℕ)). Goes true 2 0 ks us) (sym (same_before [] ls c.all c.is)) c.goes in
        ap (λ (k : Made). answered k room)
        (behind_head false 2 1 (fielded o 2 ls) (fielded_free o 2 ls e f) (head_step_lem false)
        ∙ ap (ahead (head_text 1 ∷ [])) (decides o 1 0 ls us (λ i. omega arith) g f))

-- the refusal is 16 with exactly that line's number, and the room is as it was lent
pub wrong_line : (ls ts : List (List ℕ)) → AllFree 10 ls → made_of true (ended (head_text 1 ∷ ls)) ≡ lines ts → (o : ℕ → Option (List ℕ)) → Fits o 2 ls
    → (n : ℕ) → first_wrong o 2 0 ls ≡ bad n → (room : List ℕ) → converted false (ended (head_text 2 ∷ fielded o 2 ls)) room ≡ refused 16 n room
wrong_line ls ts e m o f n w room = fields_decide ls ts e m o f room ∙ ap (λ (k : Made). answered (ahead (head_text 1 ∷ []) k) room) w
