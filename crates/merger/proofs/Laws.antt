-- Laws of the merger: the promise leaves one outcome; what is no ERROR begin and no ERROR end stays, in its order; every ERROR end has its begin's
-- span; a list with no two neighbouring ERROR nodes, whose ERROR ends have their begins' spans, is its own finished list. That neighbours in their order
-- are joined from the first one's start to the last one's end, and that a reader's are in their order, is proved of the definition (theorems, proofs/Joined).
use Prim.Native.Nat.{ℕ, zero, suc, ◌%◌}
use mathlib.Core.Path.{◌≡◌, refl, ap, ap₂, sym, ◌∙◌}
use mathlib.Core.List.{List, [], ◌∷◌}
use mathlib.Core.Bool.{Bool, true, false, ◌&&◌, ◌||◌}
use lib.Dec.{eqb}
use lib.ListN.{length}
use borrow.Author.Tests.{eqb-true, eq-eqb}
use native.Mathlib.Omega.{arith}
use Rattle.shapes.specs.Sort as Sort
use Rattle.shapes.specs.Shapes.{EVENT, Entry, flat, entries}
use Rattle.definition.specs.Merge.{error_of, Span, Mark, opens, joins, closes, keeps, ended, marked, marks, paired, reach, error_event, merge, finished, Returned, merging}
use Rattle.merger.specs.Answer.{returning}
use Rattle.shapes.specs.declared.refusal.Refusal.{Refusal}
use Rattle.shapes.proofs.Refused.{answer_at, refused_back}
use Rattle.std.specs.Prelude.{Result, Ok, Err}
use Rattle.merger.proofs.Bools.{never, and_left, and_right, sort_of, kind_of}

-- ONE OUTCOME
answer_of : Returned → Result ℕ Refusal
answer_of z = answer_at z.number z.count

answer_back : (r : Result ℕ Refusal) (l : List ℕ) → answer_of (returning r l) ≡ r
unfolding answer_of
answer_back (Ok n) l = refl
answer_back (Err e) l = refused_back e 0

room_back : (r : Result ℕ Refusal) (l : List ℕ) → (returning r l).room ≡ l
room_back (Ok n) l = refl
room_back (Err e) l = refl

pub one_outcome : (events lent : List ℕ) (r r' : Result ℕ Refusal) (l l' : List ℕ) → returning r l ≡ merging events lent → returning r' l' ≡ merging events lent → (r ≡ r') × (l ≡ l')
one_outcome events lent r r' l l' p q =
    let same : returning r l ≡ returning r' l' = p ∙ sym q in
    (sym (answer_back r l) ∙ ap answer_of same ∙ answer_back r' l', sym (room_back r l) ∙ ap (λ (z : Returned). z.room) same ∙ room_back r' l')

-- WHAT STAYS
abbrev pub when : Bool → Entry → List Entry → List Entry
when true e es = e ∷ es
when false e es = es

abbrev pub only : (Entry → Bool) → List Entry → List Entry
only p [] = []
only p (e ∷ es) = when (p e) e (only p es)

kept : List Mark → List Entry
kept [] = []
kept (opens d z ∷ ms) = kept ms
kept (joins z ∷ ms) = kept ms
kept (closes d ∷ ms) = kept ms
kept (keeps e ∷ ms) = e ∷ kept ms

kept_ended : (d : ℕ) (ms : List Mark) → kept (ended d ms) ≡ kept ms
unfolding kept
kept_ended i [] = refl
kept_ended i (opens d z ∷ ms) = refl
kept_ended i (joins z ∷ ms) = refl
kept_ended i (closes d ∷ ms) = refl
kept_ended i (keeps e ∷ ms) = refl

-- p holds of no ERROR begin and no ERROR end
module _ (p : Entry → Bool) (begin : (e : Entry) → error_of Sort.BEGIN e ≡ true → p e ≡ false) (end : (e : Entry) → error_of Sort.END e ≡ true → p e ≡ false) where
  dropped : (e : Entry) (es : List Entry) → p e ≡ false → only p (e ∷ es) ≡ only p es
  dropped e es h = ap (λ (t : Bool). when t e (only p es)) h

  of_merge : (ms : List Mark) (st : List Span) → only p (merge ms st) ≡ only p (kept ms)
  unfolding kept
  of_merge [] st = refl
  of_merge (opens d z ∷ ms) st = let y = reach ms 0 z in dropped (error_event Sort.BEGIN y d) (merge ms (y ∷ st)) (begin (error_event Sort.BEGIN y d) refl) ∙ of_merge ms (y ∷ st)
  of_merge (joins z ∷ ms) st = of_merge ms st
  of_merge (closes d ∷ ms) [] = of_merge ms []
  of_merge (closes d ∷ ms) (z ∷ st) = dropped (error_event Sort.END z d) (merge ms st) (end (error_event Sort.END z d) refl) ∙ of_merge ms st
  of_merge (keeps e ∷ ms) st = ap (when (p e) e) (of_merge ms st)

  of_marks : (es : List Entry) → only p (kept (marks es)) ≡ only p es
  unfolding kept
  of_marks [] = refl
  of_marks (e ∷ es) = go (error_of Sort.BEGIN e) (error_of Sort.END e) refl refl (of_marks es)
    where
      go : (a b : Bool) → error_of Sort.BEGIN e ≡ a → error_of Sort.END e ≡ b → only p (kept (marks es)) ≡ only p es → only p (kept (marked a b e (marks es))) ≡ only p (e ∷ es)
      go true b h g r = r ∙ sym (dropped e es (begin e h))
      go false true h g r = ap (only p) (kept_ended e.4 (marks es)) ∙ r ∙ sym (dropped e es (end e g))
      go false false h g r = ap (when (p e) e) r

  pub stays : (l : List ℕ) → only p (finished l) ≡ only p (entries l)
  stays l = of_merge (marks (entries l)) [] ∙ of_marks (entries l)

-- token and error events
abbrev pub leaf : Entry → Bool
leaf e = eqb e.0 2 || eqb e.0 4

pub leaves_stay : (l : List ℕ) → only leaf (finished l) ≡ only leaf (entries l)
leaves_stay = stays leaf (no 1 refl) (no 3 refl)
  where
    no : (s : ℕ) → eqb s 2 || eqb s 4 ≡ false → (e : Entry) → error_of s e ≡ true → leaf e ≡ false
    no s c e h = ap (λ (n : ℕ). eqb n 2 || eqb n 4) (sort_of s e h) ∙ c

-- SPANS
-- every ERROR end has the span of its begin; st has those of the nodes that are open
abbrev pub closing : Entry → (List Span → Bool) → List Span → Bool
closing e f [] = false
closing e f (z ∷ st) = eqb e.2 z.0 && eqb e.3 z.1 && f st

abbrev pub spanned_by : Bool → Bool → Entry → (List Span → Bool) → List Span → Bool
spanned_by true t e f st = f ((e.2, e.3) ∷ st)
spanned_by false true e f st = closing e f st
spanned_by false false e f st = f st

abbrev pub spanned : List Entry → List Span → Bool
spanned [] st = true
spanned (e ∷ es) st = spanned_by (error_of Sort.BEGIN e) (error_of Sort.END e) e (spanned es) st

-- what is kept is no ERROR begin and no ERROR end
Plain : List Mark → Type 0
Plain [] = Unit
Plain (opens d z ∷ ms) = Plain ms
Plain (joins z ∷ ms) = Plain ms
Plain (closes d ∷ ms) = Plain ms
Plain (keeps e ∷ ms) = (error_of Sort.BEGIN e ≡ false) × (error_of Sort.END e ≡ false) × Plain ms

plain_ended : (d : ℕ) (ms : List Mark) → Plain ms → Plain (ended d ms)
unfolding Plain
plain_ended i [] h = h
plain_ended i (opens d z ∷ ms) h = h
plain_ended i (joins z ∷ ms) h = h
plain_ended i (closes d ∷ ms) h = h
plain_ended i (keeps e ∷ ms) h = h

plain : (es : List Entry) → Plain (marks es)
unfolding Plain
plain [] = tt
plain (e ∷ es) = go (error_of Sort.BEGIN e) (error_of Sort.END e) refl refl (plain es)
  where
    go : (a b : Bool) → error_of Sort.BEGIN e ≡ a → error_of Sort.END e ≡ b → Plain (marks es) → Plain (marked a b e (marks es))
    go true b h g r = r
    go false true h g r = plain_ended e.4 (marks es) r
    go false false h g r = (h, g, r)

both : (a b c : Bool) → a ≡ true → b ≡ true → c ≡ true → a && b && c ≡ true
both a b c p q r = ap (λ (t : Bool). t && b && c) p ∙ ap (λ (t : Bool). true && t && c) q ∙ r

spanned_merge : (ms : List Mark) (st : List Span) → paired ms (length st) ≡ true → Plain ms → spanned (merge ms st) st ≡ true
unfolding Plain
spanned_merge [] st h p = refl
spanned_merge (opens d z ∷ ms) st h p = spanned_merge ms (reach ms 0 z ∷ st) h p
spanned_merge (joins z ∷ ms) [] h p = never h
spanned_merge (joins z ∷ ms) (y ∷ st) h p = spanned_merge ms (y ∷ st) h p
spanned_merge (closes d ∷ ms) [] h p = never h
spanned_merge (closes d ∷ ms) (z ∷ st) h p = both (eqb z.0 z.0) (eqb z.1 z.1) (spanned (merge ms st) st) (eq-eqb z.0 z.0 refl) (eq-eqb z.1 z.1 refl) (spanned_merge ms st h p)
spanned_merge (keeps e ∷ ms) st h p =
    ap (λ (t : Bool). spanned_by t (error_of Sort.END e) e (spanned (merge ms st)) st) p.0
    ∙ ap (λ (t : Bool). spanned_by false t e (spanned (merge ms st)) st) p.1
    ∙ spanned_merge ms st h p.2

pub ends_have_spans : (l : List ℕ) → paired (marks (entries l)) 0 ≡ true → spanned (finished l) [] ≡ true
ends_have_spans l h = spanned_merge (marks (entries l)) [] h (plain (entries l))

-- NO NEIGHBOURS
abbrev pub apart : List Mark → Bool
apart [] = true
apart (opens d z ∷ ms) = apart ms
apart (joins z ∷ ms) = false
apart (closes d ∷ ms) = apart ms
apart (keeps e ∷ ms) = apart ms

reach_apart : (ms : List Mark) (h : ℕ) (z : Span) → apart ms ≡ true → reach ms h z ≡ z
reach_apart [] h z a = refl
reach_apart (opens d y ∷ ms) h z a = reach_apart ms (suc h) z a
reach_apart (joins y ∷ ms) h z a = never a
reach_apart (closes d ∷ ms) zero z a = refl
reach_apart (closes d ∷ ms) (suc h) z a = reach_apart ms h z a
reach_apart (keeps e ∷ ms) h z a = reach_apart ms h z a

ended_apart : (d : ℕ) (ms : List Mark) → apart (ended d ms) ≡ true → (ended d ms ≡ closes d ∷ ms) × (apart ms ≡ true)
ended_apart i [] a = (refl, refl)
ended_apart i (opens d z ∷ ms) a = never a
ended_apart i (joins z ∷ ms) a = never a
ended_apart i (closes d ∷ ms) a = (refl, a)
ended_apart i (keeps e ∷ ms) a = (refl, a)

error_is : (s : ℕ) (e : Entry) → error_of s e ≡ true → error_event s (e.2, e.3) e.4 ≡ e
error_is s e h =
    ap₂ (λ (a b : ℕ). (a, b, e.2, e.3, e.4)) (sym (sort_of s e h)) (sym (kind_of s e h))

-- an ERROR end with the span z
end_is : (z : Span) (e : Entry) (t : Bool) → error_of Sort.END e ≡ true → eqb e.2 z.0 && eqb e.3 z.1 && t ≡ true → (error_event Sort.END z e.4 ≡ e) × (t ≡ true)
end_is z e t h s =
    let ab = and_left (eqb e.2 z.0 && eqb e.3 z.1) t s in
    let a = eqb-true e.2 z.0 (and_left (eqb e.2 z.0) (eqb e.3 z.1) ab) in
    let b = eqb-true e.3 z.1 (and_right (eqb e.2 z.0) (eqb e.3 z.1) ab) in
    (ap₂ (λ (i j : ℕ). error_event Sort.END (i, j) e.4) (sym a) (sym b) ∙ error_is 3 e h, and_right (eqb e.2 z.0 && eqb e.3 z.1) t s)

same : (es : List Entry) (st : List Span) → apart (marks es) ≡ true → spanned es st ≡ true → merge (marks es) st ≡ es
same [] st a s = refl
same (e ∷ es) st a s = go (error_of Sort.BEGIN e) (error_of Sort.END e) st refl refl a s (same es)
  where
    go : (p q : Bool) (st : List Span) → error_of Sort.BEGIN e ≡ p → error_of Sort.END e ≡ q → apart (marked p q e (marks es)) ≡ true → spanned_by p q e (spanned es) st ≡ true
        → ((st : List Span) → apart (marks es) ≡ true → spanned es st ≡ true → merge (marks es) st ≡ es) → merge (marked p q e (marks es)) st ≡ e ∷ es
    go true q st h g a s r =
        ap (λ (y : Span). error_event Sort.BEGIN y e.4 ∷ merge (marks es) (y ∷ st)) (reach_apart (marks es) 0 (e.2, e.3) a)
        ∙ ap₂ (λ (f : Entry) (fs : List Entry). f ∷ fs) (error_is 1 e h) (r ((e.2, e.3) ∷ st) a s)
    go false true [] h g a s r = never s
    go false true (z ∷ st) h g a s r =
        let c = ended_apart e.4 (marks es) a in
        let i = end_is z e (spanned es st) g s in
        ap (λ (ms : List Mark). merge ms (z ∷ st)) c.0 ∙ ap₂ (λ (f : Entry) (fs : List Entry). f ∷ fs) i.0 (r st c.1 i.1)
    go false false st h g a s r = ap (λ (fs : List Entry). e ∷ fs) (r st a s)

flat_entries : (l : List ℕ) → length l % EVENT ≡ 0 → flat (entries l) ≡ l
flat_entries [] h = refl
flat_entries (a ∷ []) h = absurd (omega arith)
flat_entries (a ∷ b ∷ []) h = absurd (omega arith)
flat_entries (a ∷ b ∷ c ∷ []) h = absurd (omega arith)
flat_entries (a ∷ b ∷ c ∷ d ∷ []) h = absurd (omega arith)
flat_entries (a ∷ b ∷ c ∷ d ∷ e ∷ l) h = ap (λ (t : List ℕ). a ∷ b ∷ c ∷ d ∷ e ∷ t) (flat_entries l (omega arith))

pub unchanged : (l : List ℕ) → length l % EVENT ≡ 0 → apart (marks (entries l)) ≡ true → spanned (entries l) [] ≡ true → flat (finished l) ≡ l
unchanged l h a s = ap flat (same (entries l) [] a s) ∙ flat_entries l h
