-- A program that takes a row whenever it ends in good order, and one that ends so only where it began so: two tests over the syntax.
use Prim.Native.Nat.{ℕ, zero, suc, ◌≤◌, ◌<◌}
use mathlib.Core.Path.{◌≡◌, refl, ap, sym, ◌∙◌, subst}
use mathlib.Core.Logic.{◌⊎◌, inl, inr}
use mathlib.Core.List.{List, [], ◌∷◌, ◌++◌}
use mathlib.Core.Bool.{Bool, true, false, ◌&&◌, ◌||◌}
use lib.Dec.{T}
use lib.ListN.{length, length-append}
use native.Mathlib.Omega.{arith}
use Rattle.kinds.specs.Sets.{trivial}
use Rattle.definition.specs.Prog.{Production, Prog, eat, unless, ifnext, opt, many, then, ◌⨟◌, ◌⫽◌, last, recover, node, memo}
use Rattle.definition.specs.Grammar.{grammar, kind}
use Rattle.definition.specs.Run.{State, Reader, Mode, ok, failed, stopped, Stop, spent, deep, Next, end, other, hit, next, skip, trivia, turn, back, halted, charge, begin, finish, if_ok, eat_row, or_else, fails, known, remember, memo_row, exec, run}
use Rattle.definition.specs.Ford.{strip}
use Rattle.definition.proofs.Gap.{gap}
use Rattle.definition.proofs.Every.{and_left, and_right, or_cases, productions, each, never}
use Rattle.definition.proofs.Induct.{exec_kept}
use Rattle.definition.proofs.Order.{ordered, Running}
use Rattle.definition.proofs.Grows.{End, Grown, grown, grows, sought_hit, run_zero}

-- it ends in good order only where it began so
abbrev pub strict : Prog → Bool
strict (eat S N) = true
strict (unless S) = true
strict (ifnext S p) = true
strict (opt p) = true
strict (many p) = true
strict (then p) = true
strict (p ⨟ q) = strict p && strict q
strict (p ⫽ q) = true
strict (last p) = true
strict (recover S) = false
strict (node a) = true
strict (memo a) = true

-- it takes a row if it ends in good order
abbrev pub taking : Prog → Bool
taking (eat S N) = true
taking (unless S) = false
taking (ifnext S p) = false
taking (opt p) = false
taking (many p) = false
taking (then p) = taking p
taking (p ⨟ q) = taking q || (taking p && strict q)
taking (p ⫽ q) = taking p && taking q
taking (last p) = taking p
taking (recover S) = false
taking (node a) = true
taking (memo a) = true

pub not_failed : {A : Type 0} → failed ≡ ok → A
not_failed e = never cc

pub not_stopped : {A : Type 0} (w : Stop) → stopped w ≡ ok → A
not_stopped w e = never cc

-- what stands behind `if_ok`: r where the state s is OK
pub if_ok_ok : (r s : State) → (if_ok (λ _. r) s).mode ≡ ok → (s.mode ≡ ok) × (if_ok (λ _. r) s ≡ r)
if_ok_ok r s = go s.mode s
  where
    go : (m : Mode) (s : State) → (if_ok (λ _. r) (turn m s)).mode ≡ ok → (m ≡ ok) × (if_ok (λ _. r) (turn m s) ≡ r)
    go ok s e = (refl, refl)
    go failed s e = not_failed e
    go (stopped w) s e = not_stopped w e

-- trivia aside
pub strip_skip : (r : List ℕ) → strip (skip r) ≡ strip r
strip_skip [] = refl
strip_skip (i ∷ is) = go (trivial i) (strip_skip is) refl
  where
    go : (b : Bool) → strip (skip is) ≡ strip is → trivial i ≡ b → strip (elim b as (λ _. List ℕ) [ true ↦ skip is | false ↦ i ∷ is ]) ≡ (elim b as (λ _. List ℕ) [ true ↦ strip is | false ↦ i ∷ strip is ])
    go true h e = h
    go false h e = ap (λ (c : Bool). elim c as (λ _. List ℕ) [ true ↦ strip is | false ↦ i ∷ strip is ]) e

pub strip_gap : (m : Mode) (r : List ℕ) → strip (gap m r) ≡ strip r
strip_gap ok r = strip_skip r
strip_gap failed r = refl
strip_gap (stopped w) r = refl

-- the first row that `skip` leaves is no trivia
pub strip_head : (r : List ℕ) (i : ℕ) (is : List ℕ) → skip r ≡ i ∷ is → strip r ≡ i ∷ strip is
strip_head [] i is e = never cc
strip_head (j ∷ js) i is e = go (trivial j) (strip_head js i is) e
  where
    go : (b : Bool) → (skip js ≡ i ∷ is → strip js ≡ i ∷ strip is) → ◌≡◌ {A = List ℕ} (elim b [ true ↦ skip js | false ↦ j ∷ js ]) (i ∷ is) → (elim b as (λ _. List ℕ) [ true ↦ strip js | false ↦ j ∷ strip js ]) ≡ i ∷ strip is
    go true h e = h e
    go false h e = let z : j ≡ i = cc in let y : js ≡ is = cc in ap (λ (l : List ℕ). j ∷ strip l) y ∙ ap (λ (x : ℕ). x ∷ strip is) z

pub strip_append : (x r : List ℕ) → strip (x ++ r) ≡ strip x ++ strip r
strip_append [] r = refl
strip_append (i ∷ is) r = go (trivial i) (strip_append is r)
  where
    go : (b : Bool) → strip (is ++ r) ≡ strip is ++ strip r → (elim b as (λ _. List ℕ) [ true ↦ strip (is ++ r) | false ↦ i ∷ strip (is ++ r) ]) ≡ (elim b as (λ _. List ℕ) [ true ↦ strip is | false ↦ i ∷ strip is ]) ++ strip r
    go true h = h
    go false h = ap (λ (l : List ℕ). i ∷ l) h

pub strip_end : (a b : List ℕ) → End a b → length (strip a) ≤ length (strip b)
strip_end a b p = omega (arith, length-append (strip p.0) (strip a), ap length (sym (strip_append p.0 a) ∙ ap strip p.1))

pub strip_le : (r : List ℕ) → length (strip r) ≤ length r
strip_le [] = omega arith
strip_le (i ∷ is) = go (trivial i) (strip_le is)
  where
    go : (b : Bool) → length (strip is) ≤ length is → length {A = ℕ} (elim b as (λ _. List ℕ) [ true ↦ strip is | false ↦ i ∷ strip is ]) ≤ suc (length is)
    go true h = omega arith
    go false h = omega arith

pub size_nil : (l : List ℕ) → length l ≤ 0 → l ≡ []
size_nil [] h = refl
size_nil (x ∷ l) h = absurd (omega arith)

abbrev pub size : State → ℕ
size s = length (strip s.rest)

size_trivia : (s : State) → size (trivia s) ≡ size s
size_trivia s = ap length (strip_gap s.mode s.rest)

or_else_ok : (g : Reader) (s t : State) → (or_else g s t).mode ≡ ok → ((t.mode ≡ ok) × (or_else g s t ≡ t)) ⊎ ((or_else g s t ≡ g (turn ok (back s t))))
or_else_ok g s t = go t.mode t
  where
    go : (m : Mode) (t : State) → (or_else g s (turn m t)).mode ≡ ok → ((m ≡ ok) × (or_else g s (turn m t) ≡ turn m t)) ⊎ ((or_else g s (turn m t) ≡ g (turn ok (back s (turn m t)))))
    go ok t e = inl (refl, refl)
    go failed t e = inr refl
    go (stopped w) t e = not_stopped w e

pub eat_row_small : (S N : List ℕ) (s : State) (x : Next) → next S s.rest ≡ x → (eat_row N x s).mode ≡ ok → size (eat_row N x s) < size s
eat_row_small S N s end h e = not_failed e
eat_row_small S N s other h e = not_failed e
eat_row_small S N s (hit a is) h e =
    let p = sought_hit S (skip s.rest) a is h in
    omega (arith, ap length (strip_head s.rest p.0 is p.1))

remember_ok : (r a : ℕ) (t : State) → (remember r a t).mode ≡ ok → (t.mode ≡ ok) × ((remember r a t).rest ≡ t.rest)
remember_ok r a t = go t.mode t
  where
    go : (m : Mode) (t : State) → (remember r a (turn m t)).mode ≡ ok → (m ≡ ok) × ((remember r a (turn m t)).rest ≡ t.rest)
    go ok t e = (refl, refl)
    go failed t e = not_failed e
    go (stopped w) t e = not_stopped w e

finish_ok : (o : Bool) (a n : ℕ) (t : State) → (finish o a n t).mode ≡ ok → (t.mode ≡ ok) × ((finish o a n t).rest ≡ t.rest)
finish_ok o a n t = go o t.mode t
  where
    go : (o : Bool) (m : Mode) (t : State) → (finish o a n (turn m t)).mode ≡ ok → (m ≡ ok) × ((finish o a n (turn m t)).rest ≡ t.rest)
    go o ok t e = (refl, refl)
    go true failed t e = not_failed e
    go false failed t e = not_failed e
    go true (stopped w) t e = not_stopped w e
    go false (stopped w) t e = not_stopped w e

halted_ok : {A : Type 0} (w : Stop) (m : Mode) → halted w m ≡ ok → A
halted_ok w ok e = not_stopped w e
halted_ok w failed e = not_stopped w e
halted_ok w (stopped v) e = not_stopped v e

charge_ok : (d f : ℕ) (t : State) → (charge d f t).mode ≡ ok → t.mode ≡ ok
charge_ok d zero t e = halted_ok spent t.mode e
charge_ok zero (suc f) t e = halted_ok deep t.mode e
charge_ok (suc d) (suc f) t e = e

pub charge_rest : (d f : ℕ) (t : State) → (charge d f t).rest ≡ t.rest
charge_rest d zero t = refl
charge_rest zero (suc f) t = refl
charge_rest (suc d) (suc f) t = refl

module _ (d : ℕ) (call : Bool → Production → Reader)
    (cg : (o : Bool) (a : Production) (s : State) → Grown s (call o a s))
    (cs : (o : Bool) (a : Production) (s : State) → (call o a s).mode ≡ ok → s.mode ≡ ok)
    (ct : (o : Bool) (a : Production) (s : State) → (call o a s).mode ≡ ok → size (call o a s) < size s) where
  pub exec_grown : (p : Prog) (o : Bool) (s : State) → Grown s (exec d call p o s)
  exec_grown = exec_kept (ordered Grown grown) d call cg

  pub strict_exec : (p : Prog) → T (strict p) → (o : Bool) (s : State) → (exec d call p o s).mode ≡ ok → s.mode ≡ ok
  strict_exec (eat S N) t o s e = (if_ok_ok _ s e).0
  strict_exec (unless S) t o s e = (if_ok_ok _ s e).0
  strict_exec (ifnext S p) t o s e = (if_ok_ok _ s e).0
  strict_exec (opt p) t o s e = (if_ok_ok _ s e).0
  strict_exec (many p) t o s e = (if_ok_ok _ s e).0
  strict_exec (then p) t o s e = (if_ok_ok _ s e).0
  strict_exec (p ⨟ q) t o s e = strict_exec p (and_left (strict p) (strict q) t) o s (strict_exec q (and_right (strict p) (strict q) t) o (exec d call p o s) e)
  strict_exec (p ⫽ q) t o s e = (if_ok_ok _ s e).0
  strict_exec (last p) t o s e = (if_ok_ok _ s e).0
  strict_exec (recover S) t o s e = absurd t
  strict_exec (node a) t o s e = cs o a s e
  strict_exec (memo a) t o s e = (if_ok_ok _ s e).0

  pub shrinks : (p : Prog) → T (taking p) → (o : Bool) (s : State) → (exec d call p o s).mode ≡ ok → size (exec d call p o s) < size s
  shrinks (eat S N) t o s e =
      let g = if_ok_ok _ s e in
      let h = eat_row_small S N s (next S s.rest) refl (ap (λ (u : State). u.mode) (sym g.1) ∙ e) in
      omega (arith, ap size g.1)
  shrinks (unless S) t o s e = absurd t
  shrinks (ifnext S p) t o s e = absurd t
  shrinks (opt p) t o s e = absurd t
  shrinks (many p) t o s e = absurd t
  shrinks (then p) t o s e =
      let g = if_ok_ok _ s e in
      let h = shrinks p t o (trivia s) (ap (λ (u : State). u.mode) (sym g.1) ∙ e) in
      omega (arith, ap size g.1, size_trivia s)
  shrinks (p ⨟ q) t o s e =
      let u : State = exec d call p o s in
      let gp = strip_end u.rest s.rest (exec_grown p o s).rows in
      let gq = strip_end (exec d call q o u).rest u.rest (exec_grown q o u).rows in
      go (or_cases (taking q) (taking p && strict q) t) gp gq (λ t'. shrinks q t' o u e) (λ t' e'. shrinks p t' o s e')
    where
      go : T (taking q) ⊎ T (taking p && strict q) → size (exec d call p o s) ≤ size s → size (exec d call (p ⨟ q) o s) ≤ size (exec d call p o s) → (T (taking q) → size (exec d call (p ⨟ q) o s) < size (exec d call p o s)) → (T (taking p) → (exec d call p o s).mode ≡ ok → size (exec d call p o s) < size s) → size (exec d call (p ⨟ q) o s) < size s
      go (inl t) a b c f = let z = c t in omega arith
      go (inr t) a b c f = let z = f (and_left (taking p) (strict q) t) (strict_exec q (and_right (taking p) (strict q) t) o (exec d call p o s) e) in omega arith
  shrinks (p ⫽ q) t o s e =
      let g = if_ok_ok (or_else (exec d call q o) s (exec d call p true (trivia s))) s e in
      let u : State = exec d call p true (trivia s) in
      go (or_else_ok (exec d call q o) s u (ap (λ (u : State). u.mode) (sym g.1) ∙ e)) (ap size g.1) (size_trivia s) (shrinks p (and_left (taking p) (taking q) t) true (trivia s)) (shrinks q (and_right (taking p) (taking q) t) o (turn ok (back s u))) (ap (λ (u : State). u.mode) (sym g.1) ∙ e)
    where
      go : let u : State = exec d call p true (trivia s) in let v : State = or_else (exec d call q o) s u in let w : State = exec d call q o (turn ok (back s u)) in
          ((u.mode ≡ ok) × (v ≡ u)) ⊎ (v ≡ w) → size (exec d call (p ⫽ q) o s) ≡ size v → size (trivia s) ≡ size s → (u.mode ≡ ok → size u < size (trivia s)) → (w.mode ≡ ok → size w < size s) → v.mode ≡ ok → size (exec d call (p ⫽ q) o s) < size s
      go (inl x) a b c f e = let z = c x.0 in omega (arith, ap size x.1)
      go (inr x) a b c f e = let z = f (ap (λ (u : State). u.mode) (sym x) ∙ e) in omega (arith, ap size x)
  shrinks (last p) t o s e =
      let g = if_ok_ok _ s e in
      let u : State = exec d call p true (trivia s) in
      go (or_else_ok fails s u (ap (λ (u : State). u.mode) (sym g.1) ∙ e)) (ap size g.1) (size_trivia s) (shrinks p t true (trivia s)) (ap (λ (u : State). u.mode) (sym g.1) ∙ e)
    where
      go : let u : State = exec d call p true (trivia s) in let v : State = or_else fails s u in
          ((u.mode ≡ ok) × (v ≡ u)) ⊎ (v ≡ fails (turn ok (back s u))) → size (exec d call (last p) o s) ≡ size v → size (trivia s) ≡ size s → (u.mode ≡ ok → size u < size (trivia s)) → v.mode ≡ ok → size (exec d call (last p) o s) < size s
      go (inl x) a b c e = let z = c x.0 in omega (arith, ap size x.1)
      go (inr x) a b c e = not_failed (ap (λ (u : State). u.mode) (sym x) ∙ e)
  shrinks (recover S) t o s e = absurd t
  shrinks (node a) t o s e = ct o a s e
  shrinks (memo a) t o s e =
      let g = if_ok_ok _ s e in
      go (known s.cache (length s.rest) (kind a)) (ap size g.1) (ap (λ (u : State). u.mode) (sym g.1) ∙ e)
    where
      go : (b : Bool) → size (exec d call (memo a) o s) ≡ size (memo_row (kind a) (call o a) b s) → (memo_row (kind a) (call o a) b s).mode ≡ ok → size (exec d call (memo a) o s) < size s
      go true h e = not_failed e
      go false h e =
          let g = remember_ok (length s.rest) (kind a) (call o a s) e in
          let z = ct o a s g.0 in
          omega (arith, ap (λ (l : List ℕ). length (strip l)) g.1)

pub strict_productions : (E : Bool) (a : Production) → T (strict (grammar E a))
unfolding productions grammar
strict_productions E = each (λ a. strict (grammar E a)) tt

pub taking_productions : (E : Bool) (a : Production) → T (taking (grammar E a))
unfolding productions grammar
taking_productions E = each (λ a. taking (grammar E a)) tt

pub run_ok : (E : Bool) (d : ℕ) (o : Bool) (a : Production) (s : State) → (run E d o a s).mode ≡ ok → (s.mode ≡ ok) × (size (run E d o a s) < size s)
run_ok E zero o a s e = absurd (run_zero E o a s (subst Running (sym e) tt))
run_ok E (suc d) o a s e =
    let t : State = begin (suc d) s in
    let u : State = exec d (run E d) (grammar E a) o t in
    let f = finish_ok o (kind a) (length t.rest) u e in
    let cs : (o : Bool) (b : Production) (s : State) → (run E d o b s).mode ≡ ok → s.mode ≡ ok = λ o b s e. (run_ok E d o b s e).0 in
    let ct : (o : Bool) (b : Production) (s : State) → (run E d o b s).mode ≡ ok → size (run E d o b s) < size s = λ o b s e. (run_ok E d o b s e).1 in
    let h = shrinks d (run E d) (grows E d) cs ct (grammar E a) (taking_productions E a) o t f.0 in
    let m = strict_exec d (run E d) (grows E d) cs ct (grammar E a) (strict_productions E a) o t f.0 in
    (charge_ok (suc d) s.fuel (trivia s) m, omega (arith, ap (λ (l : List ℕ). length (strip l)) f.1, size_begin d s))
  where
    size_begin : (d : ℕ) (s : State) → size (begin (suc d) s) ≡ size s
    size_begin d s = ap (λ (l : List ℕ). length (strip l)) (charge_rest (suc d) s.fuel (trivia s)) ∙ size_trivia s
