-- What a reading writes: no more nodes are open at once than its limit allows and one, and a RULE_DECL node that closed as such has an IDENT row directly
-- in it. Events stand the last first, so each closing is met before its opening.
use Prim.Native.Nat.{ℕ, zero, suc, ◌+◌, ◌≤◌}
use mathlib.Core.Path.{◌≡◌, refl, ap, sym, ◌∙◌, subst}
use mathlib.Core.Logic.{◌⊎◌, inl, inr}
use mathlib.Core.List.{List, [], ◌∷◌, map}
use mathlib.Core.Bool.{Bool, true, false, ◌&&◌, not}
use mathlib.Core.Option.{Option, none, some}
use lib.Dec.{T, eqb}
use lib.ListN.{length}
use native.Mathlib.Omega.{arith}
use Rattle.kinds.specs.Kinds as kd
use Rattle.kinds.specs.Sets.{id_of, kind_of, trivial}
use Rattle.definition.specs.Prog.{Production, RULE_DECL, RULE_MODS, Prog, eat, unless, ifnext, opt, many, then, ◌⨟◌, ◌⫽◌, last, recover, node, memo}
use Rattle.definition.specs.Grammar.{grammar, kind, item_of, one}
use Rattle.definition.specs.Run.{State, Reader, Limits, Event, opened, leaf, closed, bad, Choice, stray, Mode, ok, failed, stopped, Next, end, other, hit, next, sought, skip, past, trivia_out, trivia, seek_out, skip_to, turn, put, back, begin, finish, if_ok, eat_row, eats, refuse_row, branch, or_else, alts, go_on, loop, fails, known, remember, memo_row, choose, first_names, swallow, recovered, recovery, exec, run, errors, rule_keywords, item_keywords, read_item, stray_item, item_at, flush, again, item, items, start, read}
use Rattle.definition.proofs.Gap.{gap_out}
use Rattle.definition.proofs.Every.{productions, each_but}
use Rattle.definition.proofs.Agree.{nil_cons}
use Rattle.definition.proofs.Grows.{grows}
use Rattle.definition.proofs.Shrink.{strict_exec, run_ok, not_failed, not_stopped}
use Rattle.definition.proofs.Tidy.{charge_same}
use Rattle.theorems.proofs.Bound.{charged}
use Rattle.outline.proofs.Walking.{never}

-- the nodes whose closing was met, the innermost first: whether an IDENT row directly in it is still to come
abbrev pub met : ℕ → List Bool → List Bool
met a [] = []
met a (b ∷ ns) = (b && not (eqb a kd.IDENT)) ∷ ns

module _ (most : ℕ) where
  -- back over the events: at most so many nodes are open, every closing has its opening, and where a node is opened, its IDENT row was met if it had to be
  abbrev pub Sound : List Bool → List Event → Type 0
  Sound ns [] = ns ≡ []
  Sound [] (opened n ∷ w) = ⊥
  Sound (b ∷ ns) (opened n ∷ w) = (b ≡ false) × Sound ns w
  Sound ns (leaf a n ∷ w) = Sound (met a ns) w
  Sound ns (closed a n m ∷ w) = (suc (length ns) ≤ most) × Sound (eqb a kd.RULE_DECL ∷ ns) w
  Sound ns (bad n c ∷ w) = Sound ns w

  -- fewer rows that are still to come
  abbrev Fewer : List Bool → List Bool → Type 0
  Fewer [] [] = Unit
  Fewer [] (c ∷ ms) = ⊥
  Fewer (b ∷ ns) [] = ⊥
  Fewer (b ∷ ns) (c ∷ ms) = (b ≡ false → c ≡ false) × Fewer ns ms

  fewer_same : (ns : List Bool) → Fewer ns ns
  fewer_same [] = tt
  fewer_same (b ∷ ns) = (λ e. e, fewer_same ns)

  fewer_met : (a : ℕ) (ns : List Bool) → Fewer ns (met a ns)
  fewer_met a [] = tt
  fewer_met a (b ∷ ns) = (λ e. ap (λ (x : Bool). x && not (eqb a kd.IDENT)) e, fewer_same ns)

  met_fewer : (a : ℕ) (ns ms : List Bool) → Fewer ns ms → Fewer (met a ns) (met a ms)
  met_fewer a [] [] f = tt
  met_fewer a [] (c ∷ ms) f = absurd f
  met_fewer a (b ∷ ns) [] f = absurd f
  met_fewer a (b ∷ ns) (c ∷ ms) f = (go b c (not (eqb a kd.IDENT)) f.0, f.1)
    where
      go : (b c x : Bool) → (b ≡ false → c ≡ false) → b && x ≡ false → c && x ≡ false
      go true true x g e = e
      go true false x g e = refl
      go false c x g e = ap (λ (y : Bool). y && x) (g refl)

  fewer_length : (ns ms : List Bool) → Fewer ns ms → length ms ≡ length ns
  fewer_length [] [] f = refl
  fewer_length [] (c ∷ ms) f = absurd f
  fewer_length (b ∷ ns) [] f = absurd f
  fewer_length (b ∷ ns) (c ∷ ms) f = ap suc (fewer_length ns ms f.1)

  fewer_nil : (ns ms : List Bool) → Fewer ns ms → ns ≡ [] → ms ≡ []
  fewer_nil [] [] f e = refl
  fewer_nil [] (c ∷ ms) f e = absurd f
  fewer_nil (b ∷ ns) ms f e = nil_cons e

  fewer_sound : (w : List Event) (ns ms : List Bool) → Fewer ns ms → Sound ns w → Sound ms w
  fewer_sound [] ns ms f h = fewer_nil ns ms f h
  fewer_sound (opened n ∷ w) [] ms f h = absurd h
  fewer_sound (opened n ∷ w) (b ∷ ns) [] f h = absurd f
  fewer_sound (opened n ∷ w) (b ∷ ns) (c ∷ ms) f h = (f.0 h.0, fewer_sound w ns ms f.1 h.1)
  fewer_sound (leaf a n ∷ w) ns ms f h = fewer_sound w (met a ns) (met a ms) (met_fewer a ns ms f) h
  fewer_sound (closed a n m ∷ w) ns ms f h = (omega (arith, h.0, fewer_length ns ms f), fewer_sound w (eqb a kd.RULE_DECL ∷ ns) (eqb a kd.RULE_DECL ∷ ms) (λ e. e, f) h.1)
  fewer_sound (bad n c ∷ w) ns ms f h = fewer_sound w ns ms f h

  -- ROWS

  leaf_sound : (ns : List Bool) (a n : ℕ) (o : List Event) → Sound ns o → Sound ns (leaf a n ∷ o)
  leaf_sound ns a n o h = fewer_sound o ns (met a ns) (fewer_met a ns) h

  trivia_sound : (ns : List Bool) (r : List ℕ) (o : List Event) → Sound ns o → Sound ns (trivia_out r o)
  trivia_sound ns [] o h = h
  trivia_sound ns (i ∷ is) o h = go (trivial i) (trivia_sound ns is (leaf i (suc (length is)) ∷ o) (leaf_sound ns i (suc (length is)) o h))
    where
      go : (b : Bool) → Sound ns (trivia_out is (leaf i (suc (length is)) ∷ o)) → Sound ns (elim b as (λ _. List Event) [ true ↦ trivia_out is (leaf i (suc (length is)) ∷ o) | false ↦ o ])
      go true g = g
      go false g = h

  gap_sound : (ns : List Bool) (m : Mode) (r : List ℕ) (o : List Event) → Sound ns o → Sound ns (gap_out m r o)
  gap_sound ns ok r o h = trivia_sound ns r o h
  gap_sound ns failed r o h = h
  gap_sound ns (stopped w) r o h = h

  seek_sound : (ns : List Bool) (S r : List ℕ) (o : List Event) → Sound ns o → Sound ns (seek_out S r o)
  seek_sound ns S [] o h = h
  seek_sound ns S (i ∷ is) o h = go (past (next S (i ∷ is))) (seek_sound ns S is (leaf (kind_of i) (suc (length is)) ∷ o) (leaf_sound ns (kind_of i) (suc (length is)) o h))
    where
      go : (b : Bool) → Sound ns (seek_out S is (leaf (kind_of i) (suc (length is)) ∷ o)) → Sound ns (elim b as (λ _. List Event) [ true ↦ o | false ↦ seek_out S is (leaf (kind_of i) (suc (length is)) ∷ o) ])
      go true g = h
      go false g = g

  trivia_keeps : (ns : List Bool) (s : State) → Sound ns s.out → Sound ns (trivia s).out
  trivia_keeps ns s h = gap_sound ns s.mode s.rest s.out h

  -- NODES

  begin_sound : (d : ℕ) (ns : List Bool) (s : State) → Sound ns s.out → Sound (false ∷ ns) (begin d s).out
  begin_sound d ns s h = (refl, subst (Sound ns) (sym (charge_same 0 d s.fuel (trivia s)).3) (trivia_keeps ns s h))

  finish_sound : (o : Bool) (a n : ℕ) (u : State) (ns : List Bool) → suc (length ns) ≤ most → Sound (false ∷ ns) u.out → (u.mode ≡ ok → Sound (eqb a kd.RULE_DECL ∷ ns) u.out) → Sound ns (finish o a n u).out
  finish_sound o a n u ns l h g = go o u.mode u h g
    where
      go : (o : Bool) (m : Mode) (u : State) → Sound (false ∷ ns) u.out → (m ≡ ok → Sound (eqb a kd.RULE_DECL ∷ ns) u.out) → Sound ns (finish o a n (turn m u)).out
      go o ok u h g = (l, g refl)
      go true failed u h g = (l, h)
      go true (stopped w) u h g = (l, h)
      go false failed u h g = (l, h)
      go false (stopped w) u h g = (l, h)

  -- PROGRAMS, where d more nodes may be opened

  module _ (d : ℕ) where
    abbrev Keeps : State → State → Type 0
    Keeps s t = (ns : List Bool) → length ns + suc d ≤ most → Sound ns s.out → Sound ns t.out

    abbrev pub Low : Reader → Type 0
    Low f = (s : State) → Keeps s (f s)

    guarded : (f : Reader) → Low f → Low (if_ok f)
    guarded f F s = go s.mode s
      where
        go : (m : Mode) (s : State) → Keeps (turn m s) (if_ok f (turn m s))
        go ok s = F (turn ok s)
        go failed s = λ ns l h. h
        go (stopped w) s = λ ns l h. h

    after : (f : Reader) → Low f → (s : State) → Keeps s (f (trivia s))
    after f F s ns l h = F (trivia s) ns l (trivia_keeps ns s h)

    eat_low : (N : List ℕ) (x : Next) → Low (eat_row N x)
    eat_low N end s ns l h = h
    eat_low N other s ns l h = h
    eat_low N (hit a is) s ns l h = leaf_sound ns a (suc (length is)) (trivia s).out (trivia_keeps ns s h)

    refuse_low : (x : Next) → Low (refuse_row x)
    refuse_low end s ns l h = h
    refuse_low other s ns l h = h
    refuse_low (hit a is) s ns l h = h

    branch_low : (N : List ℕ) (f : Reader) → Low f → (x : Next) → Low (branch N f x)
    branch_low N f F end s = λ ns l h. h
    branch_low N f F other s = λ ns l h. h
    branch_low N f F (hit a is) s = after f F s

    or_else_low : (g : Reader) → Low g → (s t : State) → Keeps s t → Keeps s (or_else g s t)
    or_else_low g G s t = go t.mode t
      where
        go : (m : Mode) (t : State) → Keeps s (turn m t) → Keeps s (or_else g s (turn m t))
        go ok t k = k
        go failed t k = G (turn ok (back s (turn failed t)))
        go (stopped w) t k = k

    alts_low : (f g : Reader) → Low f → Low g → Low (alts f g)
    alts_low f g F G = guarded (λ s. or_else g s (f (trivia s))) (λ s. or_else_low g G s (f (trivia s)) (after f F s))

    go_on_low : (g : Reader) → Low g → (s t : State) → Keeps s t → Keeps s (go_on g s t)
    go_on_low g G s t = go t.mode t
      where
        go : (m : Mode) (t : State) → Keeps s (turn m t) → Keeps s (go_on g s (turn m t))
        go ok t k ns l h = G (turn ok t) ns l (k ns l h)
        go failed t k ns l h = h
        go (stopped w) t k ns l h = h

    loop_low : (f : Reader) → Low f → (n : ℕ) → Low (loop f n)
    loop_low f F zero s = λ ns l h. h
    loop_low f F (suc n) s = go_on_low (loop f n) (loop_low f F n) s (f (trivia s)) (after f F s)

    remember_low : (r a : ℕ) → Low (remember r a)
    remember_low r a t = go t.mode t
      where
        go : (m : Mode) (t : State) → Keeps (turn m t) (remember r a (turn m t))
        go ok t ns l h = h
        go failed t ns l h = h
        go (stopped w) t ns l h = h

    memo_low : (a : ℕ) (f : Reader) → Low f → (b : Bool) → Low (memo_row a f b)
    memo_low a f F true s ns l h = h
    memo_low a f F false s ns l h = remember_low (length s.rest) a (f s) ns l (F s ns l h)

    swallow_low : (e : ℕ) (o : Bool) (S : List ℕ) → Low (swallow e o S)
    swallow_low e o S s ns l h =
        let t : State = begin e s in
        let u : Sound (false ∷ ns) (skip_to S t).out = seek_sound (false ∷ ns) S t.rest t.out (begin_sound e ns s h) in
        finish_sound o kd.ERROR (length t.rest) (skip_to S t) ns (omega (arith, l)) u (λ e. u)

    first_names_same : (c : List (ℕ × Choice)) (S : List ℕ) (s : State) → (first_names c S s).out ≡ s.out
    first_names_same [] S s = refl
    first_names_same (e ∷ c) S s = refl

    recovered_low : (e : ℕ) (o : Bool) (S : List ℕ) (x : Next) (m : Mode) → Low (recovered e o S x m)
    recovered_low e o S end m s ns l h = h
    recovered_low e o S (hit a is) ok s ns l h = h
    recovered_low e o S (hit a is) failed s ns l h = h
    recovered_low e o S (hit a is) (stopped w) s ns l h = h
    recovered_low e o S other m s ns l h =
        swallow_low e o S (choose (first_names s.chosen S s)) ns l (subst (Sound ns) (sym (first_names_same s.chosen S s)) h)

    recovery_low : (e : ℕ) (o : Bool) (S : List ℕ) → Low (recovery e o S)
    recovery_low e o S s = go s.mode s
      where
        go : (m : Mode) (s : State) → Keeps (turn m s) (recovery e o S (turn m s))
        go ok s = recovered_low e o S (next S s.rest) ok (turn ok s)
        go failed s = recovered_low e o S (next S s.rest) failed (turn ok s)
        go (stopped w) s = λ ns l h. h

    module _ (call : Bool → Production → Reader) (C : (o : Bool) (a : Production) → Low (call o a)) where
      exec_low : (p : Prog) (o : Bool) → Low (exec d call p o)
      exec_low (eat S N) o s = guarded (λ s. eat_row N (next S s.rest) s) (λ s. eat_low N (next S s.rest) s) s
      exec_low (unless S) o s = guarded (λ s. refuse_row (next S s.rest) s) (λ s. refuse_low (next S s.rest) s) s
      exec_low (ifnext S p) o s = guarded (λ s. branch (map id_of S) (exec d call p o) (next S s.rest) s) (λ s. branch_low (map id_of S) (exec d call p o) (exec_low p o) (next S s.rest) s) s
      exec_low (opt p) o s = alts_low (exec d call p true) (λ t. t) (exec_low p true) (λ t ns l h. h) s
      exec_low (many p) o s = guarded (λ s. loop (exec d call p true) (suc (length s.rest)) s) (λ s. loop_low (exec d call p true) (exec_low p true) (suc (length s.rest)) s) s
      exec_low (then p) o s = guarded (λ s. exec d call p o (trivia s)) (after (exec d call p o) (exec_low p o)) s
      exec_low (p ⨟ q) o s = λ ns l h. exec_low q o (exec d call p o s) ns l (exec_low p o s ns l h)
      exec_low (p ⫽ q) o s = alts_low (exec d call p true) (exec d call q o) (exec_low p true) (exec_low q o) s
      exec_low (last p) o s = alts_low (exec d call p true) fails (exec_low p true) (guarded (turn failed) (λ t ns l h. h)) s
      exec_low (recover S) o s = recovery_low d o S s
      exec_low (node a) o s = C o a s
      exec_low (memo a) o s = guarded (λ s. memo_row (kind a) (call o a) (known s.cache (length s.rest) (kind a)) s) (λ s. memo_low (kind a) (call o a) (C o a) (known s.cache (length s.rest) (kind a)) s) s

  -- THE RULE'S NAME: where a rule's program ends in good order, an IDENT row was taken directly in its node

  hit_is : (a : ℕ) (r : List ℕ) (b : ℕ) (is : List ℕ) → sought (a ∷ []) r ≡ hit b is → b ≡ a
  hit_is a [] b is e = never cc
  hit_is a (i ∷ r) b is e = go (eqb i (id_of a)) e
    where
      go : (t : Bool) → ◌≡◌ {A = Next} (elim (elim t as (λ _. Option ℕ) [ true ↦ some a | false ↦ none ]) as (λ _. Next) [ none ↦ other | some c ↦ hit c r ]) (hit b is) → b ≡ a
      go true e = cc
      go false e = never cc

  -- a row of the one kind that was expected
  ate : (a : ℕ) (N : List ℕ) (s : State) → (eats (a ∷ []) N s).mode ≡ ok → (n : ℕ) × ((eats (a ∷ []) N s).out ≡ leaf a n ∷ (trivia s).out)
  ate a N s = go s.mode s
    where
      at : (s : State) (x : Next) → next (a ∷ []) s.rest ≡ x → (eat_row N x s).mode ≡ ok → (n : ℕ) × ((eat_row N x s).out ≡ leaf a n ∷ (trivia s).out)
      at s end p e = not_failed e
      at s other p e = not_failed e
      at s (hit b is) p e = (suc (length is), ap (λ (c : ℕ). leaf c (suc (length is)) ∷ (trivia s).out) (hit_is a (skip s.rest) b is p))

      go : (m : Mode) (s : State) → (eats (a ∷ []) N (turn m s)).mode ≡ ok → (n : ℕ) × ((eats (a ∷ []) N (turn m s)).out ≡ leaf a n ∷ (trivia (turn m s)).out)
      go ok s e = at (turn ok s) (next (a ∷ []) s.rest) refl e
      go failed s e = not_failed e
      go (stopped w) s e = not_stopped w e

  -- what stands behind the first step
  abbrev second : Prog → Prog
  second (eat S N) = eat S N
  second (unless S) = unless S
  second (ifnext S p) = ifnext S p
  second (opt p) = opt p
  second (many p) = many p
  second (then p) = then p
  second (p ⨟ q) = q
  second (p ⫽ q) = p ⫽ q
  second (last p) = last p
  second (recover S) = recover S
  second (node a) = node a
  second (memo a) = memo a

  module _ (E : Bool) (d : ℕ) (R : (o : Bool) (a : Production) → Low d (run E d o a)) where
    runs : (p : Prog) (o : Bool) → Low d (exec d (run E d) p o)
    runs = exec_low d (run E d) R

    named : (o : Bool) (t : State) (ns : List Bool) → suc (length ns) + suc d ≤ most → Sound (false ∷ ns) t.out → (exec d (run E d) (grammar E RULE_DECL) o t).mode ≡ ok → Sound (true ∷ ns) (exec d (run E d) (grammar E RULE_DECL) o t).out
    unfolding grammar
    named o t ns l h e =
        let tail : Prog = second (second (second (grammar E RULE_DECL))) in
        let u : State = exec d (run E d) (one kd.RULE_KW) o (exec d (run E d) (opt (node RULE_MODS)) o t) in
        let v : State = exec d (run E d) (one kd.IDENT) o u in
        let a = ate kd.IDENT (id_of kd.IDENT ∷ []) u (strict_exec d (run E d) (grows E d) (λ o b s e. (run_ok E d o b s e).0) (λ o b s e. (run_ok E d o b s e).1) tail tt o v e) in
        let before : Sound (false ∷ ns) u.out = runs (one kd.RULE_KW) o (exec d (run E d) (opt (node RULE_MODS)) o t) (false ∷ ns) l (runs (opt (node RULE_MODS)) o t (false ∷ ns) l h) in
        runs tail o v (true ∷ ns) l (subst (Sound (true ∷ ns)) (sym a.1) (trivia_keeps (false ∷ ns) u before))

    body : (o : Bool) (a : Production) (t : State) (ns : List Bool) → suc (length ns) + suc d ≤ most → Sound (false ∷ ns) t.out → let u : State = exec d (run E d) (grammar E a) o t in u.mode ≡ ok → Sound (eqb (kind a) kd.RULE_DECL ∷ ns) u.out
    unfolding productions kind
    body o a t ns l h = go (each_but RULE_DECL (λ a. not (eqb (kind a) kd.RULE_DECL)) tt a)
      where
        untrue : (b : Bool) → T (not b) → b ≡ false
        untrue true x = absurd x
        untrue false x = refl

        go : T (not (eqb (kind a) kd.RULE_DECL)) ⊎ (a ≡ RULE_DECL) → let u : State = exec d (run E d) (grammar E a) o t in u.mode ≡ ok → Sound (eqb (kind a) kd.RULE_DECL ∷ ns) u.out
        go (inl x) = λ e. subst (λ (b : Bool). Sound (b ∷ ns) (exec d (run E d) (grammar E a) o t).out) (sym (untrue (eqb (kind a) kd.RULE_DECL) x)) (runs (grammar E a) o t (false ∷ ns) l h)
        go (inr x) = subst (λ (b : Production). let u : State = exec d (run E d) (grammar E b) o t in u.mode ≡ ok → Sound (eqb (kind b) kd.RULE_DECL ∷ ns) u.out) (sym x) (named o t ns l h)

  run_low : (E : Bool) (d : ℕ) (o : Bool) (a : Production) → Low d (run E d o a)
  run_low E zero o a s ns l h =
      let t : State = begin zero s in
      let u = begin_sound zero ns s h in
      let c = charged s.fuel (trivia s) in
      finish_sound o (kind a) (length t.rest) t ns (omega (arith, l)) u (λ e. not_stopped c.0 (sym c.1 ∙ e))
  run_low E (suc d) o a s ns l h =
      let t : State = begin (suc d) s in
      let u = begin_sound (suc d) ns s h in
      finish_sound o (kind a) (length t.rest) (exec d (run E d) (grammar E a) o t) ns (omega (arith, l)) (runs E d (run_low E d) (grammar E a) o t (false ∷ ns) (omega (arith, l)) u) (body E d (run_low E d) o a t ns (omega (arith, l)) u)

-- A WHOLE READING: as many nodes are open as the limit allows, and the one that is too deep

module _ (L : Limits) where
  abbrev pub most_open : ℕ
  most_open = suc L.depth

  abbrev Whole : List Event → Type 0
  Whole o = Sound most_open [] o

  reads_whole : (p : Prog) (s : State) → Whole s.out → Whole (read_item L p s).out
  unfolding read_item
  reads_whole p s h = exec_low most_open L.depth (run L.entrypoint L.depth) (run_low most_open L.entrypoint L.depth) p false s [] (omega arith) h

  stray_whole : (s : State) → Whole s.out → Whole (stray_item s).out
  stray_whole s h =
      let n : ℕ = length s.rest in
      (omega arith, seek_sound most_open (false ∷ []) rule_keywords s.rest (opened n ∷ bad n stray ∷ s.out) (refl, h))

  errors_whole : (c : List (ℕ × Choice)) (o : List Event) → Whole o → Whole (errors c o)
  errors_whole [] o h = h
  errors_whole (e ∷ c) o h = errors_whole c (bad e.0 e.1 ∷ o) h

  flush_whole : (u : State) → Whole u.out → Whole (again (flush u)).out
  flush_whole u = go u.mode u
    where
      go : (m : Mode) (u : State) → Whole u.out → Whole (again (flush (turn m u))).out
      go ok u h = errors_whole u.chosen u.out h
      go failed u h = errors_whole u.chosen u.out h
      go (stopped w) u h = errors_whole u.chosen u.out h

  item_whole : (s : State) → Whole s.out → Whole (item L s).out
  item_whole s h =
      let x : Next = sought item_keywords (trivia s).rest in
      flush_whole (item_at L x (trivia s)) (at x (trivia s) (trivia_keeps most_open [] s h))
    where
      at : (x : Next) (t : State) → Whole t.out → Whole (item_at L x t).out
      at end t h = h
      at other t h = stray_whole t h
      at (hit a is) t h = reads_whole (item_of a) t h

  items_whole : (n : ℕ) (s : State) → Whole s.out → Whole (items L n s).out
  items_whole zero s h = h
  items_whole (suc n) s h = go s.rest s.mode s (items_whole n) h
    where
      go : (r : List ℕ) (m : Mode) (s : State) → ((u : State) → Whole u.out → Whole (items L n u).out) → Whole s.out → Whole (items L (suc n) (turn m (put r s.out s))).out
      go [] m s H h = h
      go (i ∷ is) failed s H h = h
      go (i ∷ is) (stopped w) s H h = h
      go (i ∷ is) ok s H h = let t : State = turn ok (put (i ∷ is) s.out s) in H (item L t) (item_whole t h)

  pub read_whole : (r : List ℕ) (f : ℕ) → Whole (read L r f).out
  read_whole r f = items_whole (length r) (start r f) refl
