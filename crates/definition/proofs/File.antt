-- A reading that did not stop has no error exactly where the rows, trivia aside, are none or more items from first to last.
use Prim.Native.Nat.{ℕ, zero, suc, ◌+◌, ◌≤◌, ◌<◌}
use mathlib.Core.Path.{◌≡◌, refl, ap, sym, ◌∙◌, subst}
use mathlib.Core.Logic.{◌↔◌}
use mathlib.Core.List.{List, [], ◌∷◌}
use mathlib.Core.Bool.{false}
use mathlib.Core.Option.{Option, none, some}
use lib.ListN.{length}
use native.Mathlib.Omega.{arith}
use Rattle.kinds.specs.Sets.{pick}
use Rattle.definition.specs.Prog.{Prog}
use Rattle.definition.specs.Grammar.{item_of}
use Rattle.definition.specs.Run.{State, Mode, ok, failed, stopped, Event, Choice, stray, Next, end, other, hit, sought, skip, trivia, turn, put, run, Limits, rule_keywords, item_keywords, read_item, stray_item, item_at, errors, flush, again, item, items, start, read}
use Rattle.definition.specs.Ford.{strip, Res, Items, no_more, one_item}
use Rattle.definition.proofs.Gap.{gap}
use Rattle.definition.proofs.Peg.{Peg}
use Rattle.definition.proofs.Every.{never}
use Rattle.definition.proofs.Induct.{exec_kept, run_kept}
use Rattle.definition.proofs.Order.{Running, ordered}
use Rattle.definition.proofs.Grows.{bads, Unsaid, unsaid, gap_bads, seek_bads, sought_hit}
use Rattle.definition.proofs.Shrink.{size, strip_gap, strip_head, not_failed, strip_le, size_nil}
use Rattle.definition.proofs.Agree.{nil_cons}
use Rattle.definition.proofs.Det.{det, yes_no}
use Rattle.definition.proofs.First.{dies_no}
use Rattle.definition.proofs.Published.{an_item, item_dies, to_ford, from_ford}
use Rattle.definition.proofs.Doom.{Off, off_miss, next_off}
use Rattle.definition.proofs.Accept.{Fresh, accepted, unblamed}

-- the loop over items
pub items_end : (L : Limits) → (n : ℕ) (s : State) → s.rest ≡ [] → items L (suc n) s ≡ s
items_end L n s = go s.rest s
  where
    go : (r : List ℕ) (s : State) → r ≡ [] → items L (suc n) (put r s.out s) ≡ put r s.out s
    go [] s e = refl
    go (i ∷ is) s e = nil_cons e

pub items_step : (L : Limits) → (n : ℕ) (s : State) (i : ℕ) (is : List ℕ) → s.rest ≡ i ∷ is → s.mode ≡ ok → items L (suc n) s ≡ items L n (item L s)
items_step L n s i is = go s.rest s.mode s
  where
    go : (r : List ℕ) (m : Mode) (s : State) → r ≡ i ∷ is → m ≡ ok → items L (suc n) (turn m (put r s.out s)) ≡ items L n (item L (turn m (put r s.out s)))
    go [] m s e k = nil_cons (sym e)
    go (j ∷ js) ok s e k = refl
    go (j ∷ js) failed s e k = not_failed k
    go (j ∷ js) (stopped w) s e k = Rattle.definition.proofs.Shrink.not_stopped w k

pub items_stopped : (L : Limits) → (n : ℕ) (s : State) → Running (items L n s).mode → Running s.mode
items_stopped L zero s r = r
items_stopped L (suc n) s r = go s.rest s.mode s r
  where
    go : (r : List ℕ) (m : Mode) (s : State) → Running (items L (suc n) (turn m (put r s.out s))).mode → Running m
    go [] m s r = r
    go (j ∷ js) ok s r = tt
    go (j ∷ js) failed s r = tt
    go (j ∷ js) (stopped w) s r = r

pub errors_bads : (c : List (ℕ × Choice)) (o : List Event) → bads (errors c o) ≡ length c + bads o
errors_bads [] o = omega arith
errors_bads (e ∷ c) o = let h = errors_bads c (Event.bad e.0 e.1 ∷ o) in omega arith

no_chosen : (c : List (ℕ × Choice)) (o : List Event) → bads (errors c o) ≡ bads o → c ≡ []
no_chosen [] o e = refl
no_chosen (x ∷ c) o e = absurd (omega (arith, errors_bads (x ∷ c) o))

pub reads_unsaid : (L : Limits) (p : Prog) (s : State) → bads (read_item L p s).out ≡ bads s.out
unfolding read_item
reads_unsaid L p s = exec_kept (ordered Unsaid unsaid) L.depth (run L.entrypoint L.depth) (run_kept (ordered Unsaid unsaid) L.entrypoint L.depth) p false s

pub trivia_fresh : (s : State) → Fresh s → Fresh (trivia s)
trivia_fresh s f = record { is_ok = f.is_ok; no_want = f.no_want; no_unwant = f.no_unwant; no_chosen = f.no_chosen; no_cache = f.no_cache }

-- what `again` and `flush` leave
pub after_item : (u : State) → Running u.mode → Fresh (again (flush u)) × ((again (flush u)).rest ≡ u.rest) × ((again (flush u)).out ≡ errors u.chosen u.out)
after_item u = go u.mode u
  where
    go : (m : Mode) (u : State) → Running m → Fresh (again (flush (turn m u))) × ((again (flush (turn m u))).rest ≡ u.rest) × ((again (flush (turn m u))).out ≡ errors u.chosen u.out)
    go ok u r = (record { is_ok = refl; no_want = refl; no_unwant = refl; no_chosen = refl; no_cache = refl }, refl, refl)
    go failed u r = (record { is_ok = refl; no_want = refl; no_unwant = refl; no_chosen = refl; no_cache = refl }, refl, refl)
    go (stopped w) u r = absurd r

pub again_running : (u : State) → Running (again (flush u)).mode → Running u.mode
again_running u = go u.mode u
  where
    go : (m : Mode) (u : State) → Running (again (flush (turn m u))).mode → Running m
    go ok u r = tt
    go failed u r = tt
    go (stopped w) u r = r

-- a stray item says so
stray_said : (s : State) → bads s.out < bads (stray_item s).out
stray_said s = omega (arith, seek_bads rule_keywords s.rest (Event.opened (length s.rest) ∷ Event.bad (length s.rest) stray ∷ s.out))

pub item_grows : (L : Limits) → (x : Next) (s : State) → bads s.out ≤ bads (item_at L x s).out
item_grows L end s = omega arith
item_grows L other s = omega (arith, stray_said s)
item_grows L (hit a is) s = omega (arith, reads_unsaid L (item_of a) s)

-- one item: what it leaves, if nothing stopped
flushed : (L : Limits) → (x : Next) (t : State) → Running (again (flush (item_at L x t))).mode → bads t.out ≤ bads (again (flush (item_at L x t))).out
flushed L x t r =
    let u : State = item_at L x t in
    let z = after_item u (again_running u r) in
    omega (arith, item_grows L x t, errors_bads u.chosen u.out, ap bads z.2)

items_grow : (L : Limits) → (n : ℕ) (s : State) → Running (items L n s).mode → bads s.out ≤ bads (items L n s).out
items_grow L zero s r = omega arith
items_grow L (suc n) s r = go s.rest s.mode s (items_grow L n) r
  where
    go : (r : List ℕ) (m : Mode) (s : State) → ((u : State) → Running (items L n u).mode → bads u.out ≤ bads (items L n u).out) → let t : State = turn m (put r s.out s) in Running (items L (suc n) t).mode → bads t.out ≤ bads (items L (suc n) t).out
    go [] m s H r = omega arith
    go (j ∷ js) failed s H r = omega arith
    go (j ∷ js) (stopped w) s H r = omega arith
    go (j ∷ js) ok s H r =
        let t : State = turn ok (put (j ∷ js) s.out s) in
        let h = H (item L t) r in
        let k = flushed L (sought item_keywords (trivia t).rest) (trivia t) (items_stopped L n (item L t) r) in
        omega (arith, gap_bads ok (j ∷ js) s.out)

pub pick_of : (S : List ℕ) (i a : ℕ) (is js : List ℕ) → sought S (i ∷ js) ≡ hit a is → pick S i ≡ some a
pick_of S i a is js = go (pick S i)
  where
    go : (x : Option ℕ) → ◌≡◌ {A = Next} (elim x [ none ↦ other | some b ↦ hit b js ]) (hit a is) → x ≡ some a
    go none e = never cc
    go (some b) e = cc

pub sought_end : (S l : List ℕ) → sought S l ≡ end → l ≡ []
sought_end S [] e = refl
sought_end S (i ∷ is) e = at (pick S i) e
  where
    at : (x : Option ℕ) → ◌≡◌ {A = Next} (elim x [ none ↦ other | some b ↦ hit b is ]) end → ◌≡◌ {A = List ℕ} (i ∷ is) []
    at none e = never cc
    at (some b) e = never cc

-- the row at hand begins an item
pub here : (s : State) → Fresh s → (a : ℕ) (is : List ℕ) → sought item_keywords (trivia s).rest ≡ hit a is → (i : ℕ) × (pick item_keywords i ≡ some a) × (strip (trivia s).rest ≡ i ∷ strip is)
here s f a is h =
    let p = sought_hit item_keywords (trivia s).rest a is h in
    (p.0, pick_of item_keywords p.0 a is is (ap (sought item_keywords) (sym p.1) ∙ h), strip_gap s.mode s.rest ∙ strip_head s.rest p.0 is (sym (gap_ok s.mode f.is_ok) ∙ p.1))
  where
    gap_ok : (m : Mode) → m ≡ ok → gap m s.rest ≡ skip s.rest
    gap_ok ok e = refl
    gap_ok failed e = not_failed e
    gap_ok (stopped v) e = Rattle.definition.proofs.Shrink.not_stopped v e

-- no error: items from here to the last row
sound_items : (L : Limits) → (n : ℕ) (s : State) → Fresh s → size s ≤ n → Running (items L n s).mode → bads (items L n s).out ≡ bads s.out → Items L.entrypoint (strip s.rest)
sound_items L zero s f l r e = subst (Items L.entrypoint) (sym (size_nil (strip s.rest) l)) no_more
sound_items L (suc n) s f l r e = by_rest s.rest refl (sound_items L n)
  where
    t : State
    t = trivia s

    by_next : (x : Next) → sought item_keywords (trivia s).rest ≡ x → let v : State = again (flush (item_at L x (trivia s))) in ((u : State) → Fresh u → size u ≤ n → Running (items L n u).mode → bads (items L n u).out ≡ bads u.out → Items L.entrypoint (strip u.rest)) → Running (items L n v).mode → bads (items L n v).out ≡ bads s.out → Items L.entrypoint (strip s.rest)
    by_next end h H r e = subst (Items L.entrypoint) (ap strip (sym (sought_end item_keywords (trivia s).rest h)) ∙ strip_gap s.mode s.rest) no_more
    by_next other h H r e =
        let u : State = stray_item (trivia s) in
        let v : State = again (flush u) in
        let rv = items_stopped L n v r in
        let z = after_item u (again_running u rv) in
        absurd (omega (arith, items_grow L n v r, stray_said (trivia s), errors_bads u.chosen u.out, ap bads z.2, gap_bads s.mode s.rest s.out))
    by_next (hit a is) h H r e =
        let u : State = read_item L (item_of a) (trivia s) in
        let v : State = again (flush u) in
        let rv = items_stopped L n v r in
        let z = after_item u (again_running u rv) in
        let g = items_grow L n v r in
        let c : u.chosen ≡ [] = no_chosen u.chosen u.out (omega (arith, errors_bads u.chosen u.out, ap bads z.2, reads_unsaid L (item_of a) (trivia s), gap_bads s.mode s.rest s.out)) in
        let b = here s f a is h in
        let p = accepted L (trivia s) b.0 a (strip is) b.1 b.2 (trivia_fresh s f) (again_running u rv, c) in
        let w : Items L.entrypoint (strip v.rest) = H v z.0 (omega (arith, p.1, ap (λ (q : List ℕ). length (strip q)) z.1, ap length (strip_gap s.mode s.rest))) r (omega (arith, errors_bads u.chosen u.out, ap bads z.2, reads_unsaid L (item_of a) (trivia s), gap_bads s.mode s.rest s.out, ap length c)) in
        one_item (to_ford (subst (λ (q : List ℕ). Peg L.entrypoint an_item q (Res.yes (strip u.rest))) (strip_gap s.mode s.rest) p.0)).1 (subst (λ (q : List ℕ). Items L.entrypoint (strip q)) z.1 w)

    by_rest : (q : List ℕ) → s.rest ≡ q → ((u : State) → Fresh u → size u ≤ n → Running (items L n u).mode → bads (items L n u).out ≡ bads u.out → Items L.entrypoint (strip u.rest)) → Items L.entrypoint (strip s.rest)
    by_rest [] h H = subst (λ (q : List ℕ). Items L.entrypoint (strip q)) (sym h) no_more
    by_rest (i ∷ is) h H =
        let k = items_step L n s i is h f.is_ok in
        by_next (sought item_keywords (trivia s).rest) refl H (subst (λ (u : State). Running u.mode) k r) (ap (λ (u : State). bads u.out) (sym k) ∙ e)

-- items from here to the last row: no error
full_items : (L : Limits) → (n : ℕ) (s : State) → Fresh s → Running (items L n s).mode → Items L.entrypoint (strip s.rest) → bads (items L n s).out ≡ bads s.out
full_items L zero s f r w = refl
full_items L (suc n) s f r w = by_rest s.rest refl (full_items L n)
  where
    off : (q : List ℕ) → Items L.entrypoint (strip q) → Off (sought item_keywords (strip q)) → ⊥
    off q w o = go (strip q) w o
      where
        go : (l : List ℕ) → Items L.entrypoint l → Off (sought item_keywords l) → ⊥
        go l no_more o = o
        go l (one_item {r' = r'} g rs) o = yes_no r' (det (from_ford an_item g) Res.no (dies_no item_keywords l an_item (item_dies L.entrypoint) (off_miss (sought item_keywords l) o)))

    behind : (l r' : List ℕ) → Items L.entrypoint l → Peg L.entrypoint an_item l (Res.yes r') → Items L.entrypoint r'
    behind l r' no_more d = absurd (yes_no r' (det d Res.no (dies_no item_keywords [] an_item (item_dies L.entrypoint) tt)))
    behind l r' (one_item {r' = r₁} g rs) d = let e = det (from_ford an_item g) (Res.yes r') d in let y : r₁ ≡ r' = cc in subst (Items L.entrypoint) y rs

    skip_skip : (m : Mode) → m ≡ ok → sought item_keywords (gap m s.rest) ≡ Rattle.definition.specs.Run.next item_keywords s.rest
    skip_skip ok e = refl
    skip_skip failed e = not_failed e
    skip_skip (stopped v) e = Rattle.definition.proofs.Shrink.not_stopped v e

    items_t : Items L.entrypoint (strip (trivia s).rest)
    items_t = subst (Items L.entrypoint) (sym (strip_gap s.mode s.rest)) w

    by_next : (x : Next) → sought item_keywords (trivia s).rest ≡ x → let v : State = again (flush (item_at L x (trivia s))) in ((u : State) → Fresh u → Running (items L n u).mode → Items L.entrypoint (strip u.rest) → bads (items L n u).out ≡ bads u.out) → Running (items L n v).mode → bads (items L n v).out ≡ bads s.out
    by_next end h H r =
        let u : State = trivia s in
        let v : State = again (flush u) in
        let rv = items_stopped L n v r in
        let z = after_item u (again_running u rv) in
        let k = H v z.0 r (subst (λ (q : List ℕ). Items L.entrypoint (strip q)) (sym z.1) items_t) in
        omega (arith, k, ap bads z.2, errors_bads u.chosen u.out, gap_bads s.mode s.rest s.out, ap length f.no_chosen)
    by_next other h H r = absurd (off s.rest w (next_off item_keywords s.rest (sym (skip_skip s.mode f.is_ok) ∙ h)))
    by_next (hit a is) h H r =
        let u : State = read_item L (item_of a) (trivia s) in
        let v : State = again (flush u) in
        let rv = items_stopped L n v r in
        let ru = again_running u rv in
        let z = after_item u ru in
        let b = here s f a is h in
        let c : u.chosen ≡ [] = unblamed L (trivia s) b.0 a (strip is) b.1 b.2 (trivia_fresh s f) ru items_t in
        let q = accepted L (trivia s) b.0 a (strip is) b.1 b.2 (trivia_fresh s f) (ru, c) in
        let k = H v z.0 r (subst (λ (q : List ℕ). Items L.entrypoint (strip q)) (sym z.1) (behind (strip (trivia s).rest) (strip u.rest) items_t q.0)) in
        omega (arith, k, ap bads z.2, errors_bads u.chosen u.out, reads_unsaid L (item_of a) (trivia s), gap_bads s.mode s.rest s.out, ap length c)

    by_rest : (q : List ℕ) → s.rest ≡ q → ((u : State) → Fresh u → Running (items L n u).mode → Items L.entrypoint (strip u.rest) → bads (items L n u).out ≡ bads u.out) → bads (items L (suc n) s).out ≡ bads s.out
    by_rest [] h H = ap (λ (u : State). bads u.out) (items_end L n s h)
    by_rest (i ∷ is) h H =
        let k = items_step L n s i is h f.is_ok in
        ap (λ (u : State). bads u.out) k ∙ by_next (sought item_keywords (trivia s).rest) refl H (subst (λ (u : State). Running u.mode) k r)

pub start_fresh : (r : List ℕ) (f : ℕ) → Fresh (start r f)
start_fresh r f = record { is_ok = refl; no_want = refl; no_unwant = refl; no_chosen = refl; no_cache = refl }

-- THE THEOREM: a reading that did not stop has no error exactly where the PEG accepts every item.
pub no_error_iff_accepted : (L : Limits) (r : List ℕ) (f : ℕ) → Running (read L r f).mode → (bads (read L r f).out ≡ 0) ↔ (Items L.entrypoint) (strip r)
no_error_iff_accepted L r f h = ((λ e. sound_items L (length r) (start r f) (start_fresh r f) (strip_le r) h e), λ w. full_items L (length r) (start r f) (start_fresh r f) h w)
