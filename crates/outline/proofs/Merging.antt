-- The merger's finished list is the list without each ERROR end that an ERROR begin follows, and without that begin, the spans of ERROR nodes apart. So a
-- list that nests is merged, its merged list nests, and the two have the same rules.
use Prim.Native.Nat.{ℕ, suc, ◌%◌}
use mathlib.Core.Path.{◌≡◌, refl, ap, ap₂, sym, ◌∙◌, subst}
use mathlib.Core.List.{List, [], ◌∷◌}
use mathlib.Core.Bool.{Bool, true, false, ◌&&◌}
use lib.Dec.{T, eqb, ltb}
use lib.ListN.{length, drop}
use borrow.Author.Tests.{eqb-true}
use native.Mathlib.Omega.{arith}
use Rattle.shapes.specs.Shapes.{EVENT, Entry, entries}
use Rattle.shapes.proofs.Laws.{entries_flat, flat_length}
use Rattle.kinds.specs.Kinds as kd
use Rattle.shapes.specs.Shapes as W
use Rattle.definition.specs.Merge as M
use Rattle.definition.specs.Merge.{error_of, Span, Mark, ended, marked, marks, paired, merge, finished, well_formed}
use Rattle.theorems.proofs.Depth.{merged_sound}
use Rattle.outline.specs.Shape.{event, shown, events}
use Rattle.outline.specs.declared.shape.Event.{Event}
use Rattle.outline.specs.declared.shape.Event.TheVariants.{Opens, Row, Closes, Tells}
use Rattle.outline.specs.Rules.{Rule, deepest, nests, rules, all_named, flat, refusing, Given, judged, fitting, listing}
use Rattle.outline.specs.Forest.{joins, merged, blank, blanks}
use Rattle.outline.proofs.Numbers.{form}
use Rattle.outline.proofs.Walking.{never}
use Rattle.outline.proofs.Growing.{and_left, and_right}
use Rattle.outline.proofs.Joining.{merged_alike}

pub events_of : (es : List Entry) → events (W.flat es) ≡ shown es
events_of es = ap shown (entries_flat es)

-- what an event is to the merger
abbrev Plain : Event → Type 0
Plain (Opens k a b) = eqb k kd.ERROR ≡ false
Plain (Row k a b) = Unit
Plain (Closes k) = eqb k kd.ERROR ≡ false
Plain Tells = Unit

data Part (e : Entry) : Type 0 where
  begins : event e ≡ Opens kd.ERROR e.2 e.3 → error_of 1 e ≡ true → Part e
  ends : event e ≡ Closes kd.ERROR → error_of 1 e ≡ false → error_of 3 e ≡ true → Part e
  other : Plain (event e) → error_of 1 e ≡ false → error_of 3 e ≡ false → Part e

part : (e : Entry) → Part e
part e = go (eqb e.0 1) (eqb e.0 2) (eqb e.0 3) (eqb e.1 kd.ERROR) refl refl refl refl
  where
    is : {x y z : Bool} → eqb e.0 1 ≡ x → eqb e.0 2 ≡ y → eqb e.0 3 ≡ z → event e ≡ form e x y z
    is {x} p q r = ap (λ (t : Bool). form e t (eqb e.0 2) (eqb e.0 3)) p ∙ ap₂ (λ (t u : Bool). form e x t u) q r

    and_false : (b : Bool) → b && false ≡ false
    and_false true = refl
    and_false false = refl

    tests : (s : ℕ) {x k : Bool} → eqb e.0 s ≡ x → eqb e.1 kd.ERROR ≡ k → error_of s e ≡ x && k
    tests s p q = ap₂ ◌&&◌ p q

    go : (x y z k : Bool) → eqb e.0 1 ≡ x → eqb e.0 2 ≡ y → eqb e.0 3 ≡ z → eqb e.1 kd.ERROR ≡ k → Part e
    go true y z true p q r s = begins (is p q r ∙ ap (λ (k : ℕ). Opens k e.2 e.3) (eqb-true e.1 kd.ERROR s)) (tests 1 p s)
    go true y z false p q r s = other (subst Plain (sym (is p q r)) s) (tests 1 p s) (tests 3 r s ∙ and_false z)
    go false true true k p q r s = absurd (omega (arith, eqb-true e.0 2 q, eqb-true e.0 3 r))
    go false true false k p q r s = other (subst Plain (sym (is p q r)) tt) (tests 1 p s) (tests 3 r s)
    go false false true true p q r s = ends (is p q r ∙ ap Closes (eqb-true e.1 kd.ERROR s)) (tests 1 p s) (tests 3 r s)
    go false false true false p q r s = other (subst Plain (sym (is p q r)) s) (tests 1 p s) (tests 3 r s)
    go false false false k p q r s = other (subst Plain (sym (is p q r)) tt) (tests 1 p s) (tests 3 r s)

marks_begin : (e : Entry) (es : List Entry) → error_of 1 e ≡ true → marks (e ∷ es) ≡ M.opens e.4 (e.2, e.3) ∷ marks es
marks_begin e es p = ap (λ (t : Bool). marked t (error_of 3 e) e (marks es)) p

marks_end : (e : Entry) (es : List Entry) → error_of 1 e ≡ false → error_of 3 e ≡ true → marks (e ∷ es) ≡ ended e.4 (marks es)
marks_end e es p q = ap₂ (λ (t u : Bool). marked t u e (marks es)) p q

marks_other : (e : Entry) (es : List Entry) → error_of 1 e ≡ false → error_of 3 e ≡ false → marks (e ∷ es) ≡ M.keeps e ∷ marks es
marks_other e es p q = ap₂ (λ (t u : Bool). marked t u e (marks es)) p q

-- WHAT THE MARKS LEAVE, the spans of ERROR nodes left out

abbrev dim : Event → Event
dim (Opens k a b) = Opens k (blank k a) (blank k b)
dim (Row k a b) = Row k a b
dim (Closes k) = Closes k
dim Tells = Tells

blanks_one : (e : Event) (es : List Event) → blanks (e ∷ es) ≡ dim e ∷ blanks es
blanks_one (Opens k a b) es = refl
blanks_one (Row k a b) es = refl
blanks_one (Closes k) es = refl
blanks_one Tells es = refl

abbrev left : List Mark → List Event
left [] = []
left (M.opens d z ∷ ms) = Opens kd.ERROR 0 0 ∷ left ms
left (M.joins z ∷ ms) = left ms
left (M.closes d ∷ ms) = Closes kd.ERROR ∷ left ms
left (M.keeps e ∷ ms) = dim (event e) ∷ left ms

merge_leaves : (ms : List Mark) (st : List Span) → paired ms (length st) ≡ true → blanks (shown (merge ms st)) ≡ left ms
merge_leaves [] st h = refl
merge_leaves (M.opens d z ∷ ms) st h = ap (λ (es : List Event). Opens kd.ERROR 0 0 ∷ es) (merge_leaves ms (M.reach ms 0 z ∷ st) h)
merge_leaves (M.joins z ∷ ms) [] h = never cc
merge_leaves (M.joins z ∷ ms) (y ∷ st) h = merge_leaves ms (y ∷ st) h
merge_leaves (M.closes d ∷ ms) [] h = never cc
merge_leaves (M.closes d ∷ ms) (y ∷ st) h = ap (λ (es : List Event). Closes kd.ERROR ∷ es) (merge_leaves ms st h)
merge_leaves (M.keeps e ∷ ms) st h = blanks_one (event e) (shown (merge ms st)) ∙ ap (λ (es : List Event). dim (event e) ∷ es) (merge_leaves ms st h)

ended_twice : (i j : ℕ) (ms : List Mark) → left (ended i (ended j ms)) ≡ Closes kd.ERROR ∷ left (ended j ms)
ended_twice i j [] = refl
ended_twice i j (M.opens d z ∷ ms) = refl
ended_twice i j (M.joins z ∷ ms) = refl
ended_twice i j (M.closes d ∷ ms) = refl
ended_twice i j (M.keeps e ∷ ms) = refl

joins_never : (k : ℕ) (es : List Event) → eqb k kd.ERROR ≡ false → joins k es ≡ false
joins_never k [] p = refl
joins_never k (Opens j a b ∷ es) p = ap (λ (t : Bool). t && eqb j kd.ERROR) p
joins_never k (Row j a b ∷ es) p = refl
joins_never k (Closes j ∷ es) p = refl
joins_never k (Tells ∷ es) p = refl

plain_joins : (e : Event) (es : List Event) → Plain e → joins kd.ERROR (e ∷ es) ≡ false
plain_joins (Opens k a b) es p = p
plain_joins (Row k a b) es p = refl
plain_joins (Closes k) es p = refl
plain_joins Tells es p = refl

plain_merged : (e : Event) (es : List Event) → Plain e → blanks (merged (e ∷ es)) ≡ dim e ∷ blanks (merged es)
plain_merged (Opens k a b) es p = refl
plain_merged (Row k a b) es p = refl
plain_merged (Closes k) es p = ap (λ (t : Bool). blanks (elim t [ true ↦ drop 1 (merged es) | false ↦ Closes k ∷ merged es ])) (joins_never k es p)
plain_merged Tells es p = refl

-- an ERROR end, with what follows it
abbrev after_end : Bool → List Event → List Event
after_end t es = blanks (elim t [ true ↦ drop 1 (merged es) | false ↦ Closes kd.ERROR ∷ merged es ])

-- the marks of a list, and those behind an ERROR end, whatever its depth
abbrev Leaves : List Mark → List Event → Type 0
Leaves ms es = (left ms ≡ blanks (merged es)) × ((i : ℕ) → left (ended i ms) ≡ after_end (joins kd.ERROR es) es)

marks_leave : (es : List Entry) → Leaves (marks es) (shown es)
marks_leave [] = (refl, λ i. refl)
marks_leave (e ∷ es) = go (part e) (marks_leave es)
  where
    as_opens : Leaves (marks es) (shown es) → Leaves (M.opens e.4 (e.2, e.3) ∷ marks es) (Opens kd.ERROR e.2 e.3 ∷ shown es)
    as_opens h = (ap (λ (x : List Event). Opens kd.ERROR 0 0 ∷ x) h.0, λ i. h.0)

    as_closes : Leaves (marks es) (shown es) → Leaves (ended e.4 (marks es)) (Closes kd.ERROR ∷ shown es)
    as_closes h = (h.1 e.4, λ i. ended_twice i e.4 (marks es) ∙ ap (λ (x : List Event). Closes kd.ERROR ∷ x) (h.1 e.4))

    as_kept : Plain (event e) → Leaves (marks es) (shown es) → Leaves (M.keeps e ∷ marks es) (event e ∷ shown es)
    as_kept p h =
        let same = ap (λ (x : List Event). dim (event e) ∷ x) h.0 ∙ sym (plain_merged (event e) (shown es) p) in
        (same, λ i. ap (λ (x : List Event). Closes kd.ERROR ∷ x) same ∙ ap (λ (t : Bool). after_end t (event e ∷ shown es)) (sym (plain_joins (event e) (shown es) p)))

    moved : {ms : List Mark} {x : Event} → marks (e ∷ es) ≡ ms → event e ≡ x → Leaves ms (x ∷ shown es) → Leaves (marks (e ∷ es)) (event e ∷ shown es)
    moved {ms} {x} p q h = subst (λ (y : Event). Leaves (marks (e ∷ es)) (y ∷ shown es)) (sym q) (subst (λ (ns : List Mark). Leaves ns (x ∷ shown es)) (sym p) h)

    go : Part e → Leaves (marks es) (shown es) → Leaves (marks (e ∷ es)) (event e ∷ shown es)
    go (begins p q) h = moved (marks_begin e es q) p (as_opens h)
    go (ends p q r) h = moved (marks_end e es q r) p (as_closes h)
    go (other p q r) h = moved (marks_other e es q r) refl (as_kept p h)

-- THEOREM: the finished list is the merged one, spans of ERROR nodes apart
pub finished_is_merged : (l : List ℕ) → paired (marks (entries l)) 0 ≡ true → blanks (events (W.flat (finished l))) ≡ blanks (merged (events l))
finished_is_merged l h =
    ap blanks (events_of (finished l))
    ∙ merge_leaves (marks (entries l)) [] h
    ∙ (marks_leave (entries l)).0

-- A LIST THAT NESTS IS MERGED, and the merged list nests

merged_nests : (es : List Event) (js : List ℕ) → nests es js ≡ true → nests (merged es) js ≡ true
merged_nests [] js h = h
merged_nests (Opens k a b ∷ es) js h = ap₂ ◌&&◌ (and_left (ltb (length js) deepest) (nests es (k ∷ js)) h) (merged_nests es (k ∷ js) (and_right (ltb (length js) deepest) (nests es (k ∷ js)) h))
merged_nests (Row k a b ∷ es) js h = merged_nests es js h
merged_nests (Tells ∷ es) js h = merged_nests es js h
merged_nests (Closes k ∷ es) [] h = never cc
merged_nests (Closes k ∷ []) (j ∷ js) h = h
merged_nests (Closes k ∷ Row i a b ∷ es) (j ∷ js) h = ap₂ ◌&&◌ (and_left (eqb j k) (nests es js) h) (merged_nests es js (and_right (eqb j k) (nests es js) h))
merged_nests (Closes k ∷ Tells ∷ es) (j ∷ js) h = ap₂ ◌&&◌ (and_left (eqb j k) (nests es js) h) (merged_nests es js (and_right (eqb j k) (nests es js) h))
merged_nests (Closes k ∷ Closes i ∷ es) (j ∷ js) h = ap₂ ◌&&◌ (and_left (eqb j k) (nests (Closes i ∷ es) js) h) (merged_nests (Closes i ∷ es) js (and_right (eqb j k) (nests (Closes i ∷ es) js) h))
merged_nests (Closes k ∷ Opens i a b ∷ es) (j ∷ js) h =
    let p : j ≡ k = eqb-true j k (and_left (eqb j k) (nests (Opens i a b ∷ es) js) h) in
    let q : nests (Opens i a b ∷ es) js ≡ true = and_right (eqb j k) (nests (Opens i a b ∷ es) js) h in
    go (eqb k kd.ERROR && eqb i kd.ERROR) refl p (and_left (eqb j k) (nests (Opens i a b ∷ es) js) h) (merged_nests es (i ∷ js) (and_right (ltb (length js) deepest) (nests es (i ∷ js)) q)) (merged_nests (Opens i a b ∷ es) js q)
  where
    go : (t : Bool) → eqb k kd.ERROR && eqb i kd.ERROR ≡ t → j ≡ k → eqb j k ≡ true → nests (merged es) (i ∷ js) ≡ true → nests (merged (Opens i a b ∷ es)) js ≡ true → nests (elim t as (λ _. List Event) [ true ↦ merged es | false ↦ Closes k ∷ Opens i a b ∷ merged es ]) (j ∷ js) ≡ true
    go true e p r f g =
        let x : k ≡ kd.ERROR = eqb-true k kd.ERROR (and_left (eqb k kd.ERROR) (eqb i kd.ERROR) e) in
        let y : i ≡ kd.ERROR = eqb-true i kd.ERROR (and_right (eqb k kd.ERROR) (eqb i kd.ERROR) e) in
        ap (λ (n : ℕ). nests (merged es) (n ∷ js)) (p ∙ x ∙ sym y) ∙ f
    go false e p r f g = ap₂ ◌&&◌ r g

nests_blank : (es : List Event) (js : List ℕ) → nests (blanks es) js ≡ nests es js
nests_blank [] js = refl
nests_blank (Opens k a b ∷ es) js = ap (λ (t : Bool). ltb (length js) deepest && t) (nests_blank es (k ∷ js))
nests_blank (Row k a b ∷ es) js = nests_blank es js
nests_blank (Closes k ∷ es) [] = refl
nests_blank (Closes k ∷ es) (j ∷ js) = ap (λ (t : Bool). eqb j k && t) (nests_blank es js)
nests_blank (Tells ∷ es) js = nests_blank es js

-- how many ERROR nodes are open
abbrev errors : List ℕ → ℕ
errors [] = 0
errors (j ∷ js) = elim (eqb j kd.ERROR) [ true ↦ suc (errors js) | false ↦ errors js ]

ended_pairs : (i : ℕ) (ms : List Mark) (h : ℕ) → paired ms h ≡ true → paired (ended i ms) (suc h) ≡ true
ended_pairs i [] h e = e
ended_pairs i (M.opens d z ∷ ms) h e = e
ended_pairs i (M.joins z ∷ ms) h e = e
ended_pairs i (M.closes d ∷ ms) h e = e
ended_pairs i (M.keeps q ∷ ms) h e = e

-- what other events do to the nodes that are open
plain_pairs : (e : Event) (es : List Event) (js : List ℕ) (ms : List Mark) → Plain e → nests (e ∷ es) js ≡ true → ((is : List ℕ) → nests es is ≡ true → paired ms (errors is) ≡ true) → paired ms (errors js) ≡ true
plain_pairs (Opens k a b) es js ms p h H = ap (λ (t : Bool). paired ms (elim t [ true ↦ suc (errors js) | false ↦ errors js ])) (sym p) ∙ H (k ∷ js) (and_right (ltb (length js) deepest) (nests es (k ∷ js)) h)
plain_pairs (Row k a b) es js ms p h H = H js h
plain_pairs (Closes k) es [] ms p h H = never cc
plain_pairs (Closes k) es (j ∷ js) ms p h H =
    let e : j ≡ k = eqb-true j k (and_left (eqb j k) (nests es js) h) in
    ap (λ (t : Bool). paired ms (elim t [ true ↦ suc (errors js) | false ↦ errors js ])) (ap (λ (n : ℕ). eqb n kd.ERROR) e ∙ p) ∙ H js (and_right (eqb j k) (nests es js) h)
plain_pairs Tells es js ms p h H = H js h

end_pairs : (i : ℕ) (es : List Event) (js : List ℕ) (ms : List Mark) → nests (Closes kd.ERROR ∷ es) js ≡ true → ((is : List ℕ) → nests es is ≡ true → paired ms (errors is) ≡ true) → paired (ended i ms) (errors js) ≡ true
end_pairs i es [] ms h H = never cc
end_pairs i es (j ∷ js) ms h H =
    ap (λ (t : Bool). paired (ended i ms) (elim t [ true ↦ suc (errors js) | false ↦ errors js ])) (and_left (eqb j kd.ERROR) (nests es js) h)
    ∙ ended_pairs i ms (errors js) (H js (and_right (eqb j kd.ERROR) (nests es js) h))

nests_pairs : (es : List Entry) (js : List ℕ) → nests (shown es) js ≡ true → paired (marks es) (errors js) ≡ true
nests_pairs [] [] h = refl
nests_pairs [] (j ∷ js) h = never cc
nests_pairs (e ∷ es) js h = go (part e) (λ is. nests_pairs es is)
  where
    go : Part e → ((is : List ℕ) → nests (shown es) is ≡ true → paired (marks es) (errors is) ≡ true) → paired (marks (e ∷ es)) (errors js) ≡ true
    go (begins p q) H =
        ap (λ (ms : List Mark). paired ms (errors js)) (marks_begin e es q)
        ∙ H (kd.ERROR ∷ js) (and_right (ltb (length js) deepest) (nests (shown es) (kd.ERROR ∷ js)) (ap (λ (x : Event). nests (x ∷ shown es) js) (sym p) ∙ h))
    go (ends p q r) H = ap (λ (ms : List Mark). paired ms (errors js)) (marks_end e es q r) ∙ end_pairs e.4 (shown es) js (marks es) (ap (λ (x : Event). nests (x ∷ shown es) js) (sym p) ∙ h) H
    go (other p q r) H = ap (λ (ms : List Mark). paired ms (errors js)) (marks_other e es q r) ∙ plain_pairs (event e) (shown es) js (marks es) p h H

module _ (l : List ℕ) (w : well_formed l ≡ true) (n : nests (events l) [] ≡ true) where
  -- THEOREM: what `rules` does not refuse 9 or 15 for its nesting, the merger does not refuse 10
  pub nesting_pairs : paired (marks (entries l)) 0 ≡ true
  nesting_pairs = nests_pairs (entries l) [] n

  -- THEOREM: the merged list is no case of refusal 9
  pub finished_well_formed : well_formed (W.flat (finished l)) ≡ true
  finished_well_formed =
      let n : length (W.flat (finished l)) % EVENT ≡ 0 = omega (arith, flat_length (finished l)) in
      ap (λ (i : ℕ). eqb i 0 && M.sound 0 (entries (W.flat (finished l)))) n ∙ ap (M.sound 0) (entries_flat (finished l)) ∙ truth (M.sound 0 (finished l)) (merged_sound l w nesting_pairs)
    where
      truth : (t : Bool) → T t → t ≡ true
      truth true h = refl
      truth false h = absurd h

  -- THEOREM: the merged list nests
  pub finished_nests : nests (events (W.flat (finished l))) [] ≡ true
  finished_nests =
      sym (nests_blank (events (W.flat (finished l))) [])
      ∙ ap (λ (es : List Event). nests es []) (finished_is_merged l nesting_pairs)
      ∙ nests_blank (merged (events l)) []
      ∙ merged_nests (events l) [] n

  -- THEOREM: the rules of the merged list are the list's
  pub finished_rules : rules (events (W.flat (finished l))) ≡ rules (events l)
  finished_rules = merged_alike (events l) (events (W.flat (finished l))) n (finished_is_merged l nesting_pairs)

  -- what is judged before the room is the same for both
  pub finished_judged : (x : Given) → judged (W.flat (finished l)) x ≡ judged l x
  finished_judged x =
      ap₂ (λ (s t : Bool). refusing 9 s (refusing 15 t (refusing 15 (all_named (rules (events (W.flat (finished l))))) x))) finished_well_formed finished_nests
      ∙ ap (λ (rs : List Rule). refusing 15 (all_named rs) x) finished_rules
      ∙ sym (ap₂ (λ (s t : Bool). refusing 9 s (refusing 15 t (refusing 15 (all_named (rules (events l))) x))) w n)

  -- THEOREM: the list of rules of the merged list, or its refusal, is the list's
  pub finished_listing : (room : ℕ) → listing (W.flat (finished l)) room ≡ listing l room
  finished_listing room =
      finished_judged (fitting room (length (rules (events (W.flat (finished l))))) (flat (rules (events (W.flat (finished l))))))
      ∙ ap (λ (rs : List Rule). judged l (fitting room (length rs) (flat rs))) finished_rules
