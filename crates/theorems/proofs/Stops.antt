-- What a stop and a full depth leave to be done: no node is begun once the reader is stopped, and `recover`'s node is never the one that is too deep.
use Prim.Native.Nat.{ℕ, zero, suc}
use mathlib.Core.Path.{◌≡◌, refl, ap, sym, ◌∙◌, subst}
use mathlib.Core.Logic.{◌⊎◌, inl, inr}
use mathlib.Core.List.{List, map}
use mathlib.Core.Bool.{Bool, true, false, ◌&&◌, ◌||◌}
use lib.Dec.{T, eqb}
use lib.ListN.{length}
use Rattle.kinds.specs.Kinds as kinds
use Rattle.kinds.specs.Sets.{id_of}
use Rattle.definition.specs.Prog.{Production, IMPORT_STMT, INCLUDE_STMT, Prog, eat, unless, ifnext, opt, many, then, ◌⨟◌, ◌⫽◌, last, recover, node, memo}
use Rattle.definition.specs.Grammar.{grammar, kind, rule_decl, item_of}
use Rattle.definition.specs.Run.{State, Limits, Reader, Mode, ok, failed, stopped, Next, end, other, hit, next, turn, back, if_ok, trivia, eat_row, branch, or_else, alts, go_on, loop, known, remember, memo_row, fails, begin, finish, nodes, exec, run, read_item}
use Rattle.definition.specs.Remaining.{Running}
use Rattle.definition.proofs.Every.{productions, each, and_left, and_right, or_cases}
use Rattle.theorems.proofs.Bound.{idle, idle_productions, recovery_stopped, idles, charged}

-- RECOVER: each stands right behind a node; b says whether one stands right before
unfoldable pub is_node : Prog → Bool
is_node (eat S N) = false
is_node (unless S) = false
is_node (ifnext S p) = false
is_node (opt p) = false
is_node (many p) = false
is_node (then p) = false
is_node (p ⨟ q) = false
is_node (p ⫽ q) = false
is_node (last p) = false
is_node (recover S) = false
is_node (node a) = true
is_node (memo a) = false

unfoldable pub behind : Bool → Prog → Bool
behind b (eat S N) = true
behind b (unless S) = true
behind b (ifnext S p) = behind false p
behind b (opt p) = behind false p
behind b (many p) = behind false p
behind b (then p) = behind false p
behind b (p ⨟ q) = behind b p && behind (is_node p) q
behind b (p ⫽ q) = behind false p && behind false q
behind b (last p) = behind false p
behind b (recover S) = b
behind b (node a) = true
behind b (memo a) = true

-- what holds of the three sorts of items holds of any item
any_sort : (C : Prog → Type 0) → C rule_decl → C (node IMPORT_STMT) → C (node INCLUDE_STMT) → (a : ℕ) → C (item_of a)
any_sort C r m n a = go (eqb a kinds.IMPORT_KW) (eqb a kinds.INCLUDE_KW)
  where
    go : (x y : Bool) → C (elim x as (λ _. Prog) [ true ↦ node IMPORT_STMT | false ↦ elim y as (λ _. Prog) [ true ↦ node INCLUDE_STMT | false ↦ rule_decl ] ])
    go true y = m
    go false true = n
    go false false = r

pub recover_behind_node : (E : Bool) → ((a : Production) → T (behind false (grammar E a))) × ((a : ℕ) → T (behind false (item_of a)))
unfolding productions grammar is_node behind
recover_behind_node E = (each (λ a. behind false (grammar E a)) tt, any_sort (λ p. T (behind false p)) tt tt tt)

finish_mode : (o : Bool) (a n : ℕ) (s : State) → (finish o a n s).mode ≡ s.mode
finish_mode o a n s = go o s.mode s
  where
    go : (o : Bool) (m : Mode) (s : State) → (finish o a n (turn m s)).mode ≡ m
    go o ok s = refl
    go true failed s = refl
    go false failed s = refl
    go true (stopped w) s = refl
    go false (stopped w) s = refl

-- and where no more node may be opened, that node stops the reader, and `recover` behind it does nothing
pub recover_never_deep : (E : Bool) (o : Bool) (a : Production) (S : List ℕ) (s : State) → exec zero (run E zero) (node a ⨟ recover S) o s ≡ run E zero o a s
recover_never_deep E o a S s =
    let t : State = begin zero s in
    let w = charged s.fuel (trivia s) in
    recovery_stopped zero o S w.0 (run E zero o a s) (finish_mode o (kind a) (length t.rest) t ∙ w.1)

-- NO BEGIN AFTER A STOP: productions that are left alone once the reader is stopped
abbrev pub calm : (Bool → Production → Reader) → Bool → Production → Reader
calm call o a s = elim s.mode [ ok ↦ call o a s | failed ↦ call o a s | stopped w ↦ s ]

abbrev pub calm_run : (E : Bool) → ℕ → Bool → Production → Reader
calm_run E zero o a s = nodes zero o (kind a) (λ t. t) s
calm_run E (suc d) o a s = nodes (suc d) o (kind a) (λ t. exec d (calm (λ o b u. calm_run E d o b u)) (grammar E a) o t) s

-- what never stops
steady : Prog → Bool
steady (eat S N) = true
steady (unless S) = false
steady (ifnext S p) = false
steady (opt p) = false
steady (many p) = steady p
steady (then p) = false
steady (p ⨟ q) = steady p && steady q
steady (p ⫽ q) = false
steady (last p) = false
steady (recover S) = false
steady (node a) = false
steady (memo a) = false

-- what follows a part does nothing where the reader is stopped, or the part never stops
safe : Prog → Bool
safe (eat S N) = true
safe (unless S) = true
safe (ifnext S p) = safe p
safe (opt p) = safe p
safe (many p) = safe p
safe (then p) = safe p
safe (p ⨟ q) = safe p && safe q && (idle q || steady p)
safe (p ⫽ q) = safe p && safe q
safe (last p) = safe p
safe (recover S) = true
safe (node a) = true
safe (memo a) = true

safe_productions : (E : Bool) (a : Production) → T (safe (grammar E a))
unfolding productions grammar safe steady
safe_productions E = each (λ a. safe (grammar E a)) tt

eat_runs : (N : List ℕ) (x : Next) (s : State) → s.mode ≡ ok → Running (eat_row N x s).mode
eat_runs N end s e = tt
eat_runs N other s e = tt
eat_runs N (hit a is) s e = subst Running (sym e) tt

if_ok_runs : (f : Reader) → ((s : State) → s.mode ≡ ok → Running (f s).mode) → (s : State) → Running s.mode → Running (if_ok f s).mode
if_ok_runs f h s = go s.mode s
  where
    go : (m : Mode) (s : State) → Running m → Running (if_ok f (turn m s)).mode
    go ok s r = h (turn ok s) refl
    go failed s r = tt
    go (stopped w) s r = absurd r

loop_runs : (f : Reader) → ((s : State) → Running s.mode → Running (f s).mode) → (n : ℕ) (s : State) → s.mode ≡ ok → Running (loop f n s).mode
loop_runs f h zero s e = subst Running (sym e) tt
loop_runs f h (suc n) s e = go (f (trivia s)) (h (trivia s) (subst Running (sym e) tt)) (loop_runs f h n)
  where
    go : (t : State) → Running t.mode → ((u : State) → u.mode ≡ ok → Running (loop f n u).mode) → Running (go_on (loop f n) s t).mode
    go t = by t.mode t
      where
        by : (m : Mode) (t : State) → Running m → ((u : State) → u.mode ≡ ok → Running (loop f n u).mode) → Running (go_on (loop f n) s (turn m t)).mode
        by ok t r H = H (turn ok t) refl
        by failed t r H = tt
        by (stopped w) t r H = absurd r

-- two readers that do the same unless stopped
abbrev Same : Reader → Reader → Type 0
Same f g = (s : State) → Running s.mode → f s ≡ g s

running : (s : State) → s.mode ≡ ok → Running s.mode
running s e = subst Running (sym e) tt

if_ok_same : (f g : Reader) → ((s : State) → s.mode ≡ ok → f s ≡ g s) → (s : State) → if_ok f s ≡ if_ok g s
if_ok_same f g h s = go s.mode s
  where
    go : (m : Mode) (s : State) → if_ok f (turn m s) ≡ if_ok g (turn m s)
    go ok s = h (turn ok s) refl
    go failed s = refl
    go (stopped w) s = refl

branch_same : (N : List ℕ) (f g : Reader) → Same f g → (x : Next) (s : State) → s.mode ≡ ok → branch N f x s ≡ branch N g x s
branch_same N f g h end s e = refl
branch_same N f g h other s e = refl
branch_same N f g h (hit a is) s e = h (trivia s) (running s e)

or_else_same : (f g : Reader) → Same f g → (s t : State) → or_else f s t ≡ or_else g s t
or_else_same f g h s t = go t.mode t
  where
    go : (m : Mode) (t : State) → or_else f s (turn m t) ≡ or_else g s (turn m t)
    go ok t = refl
    go failed t = h (turn ok (back s (turn failed t))) tt
    go (stopped w) t = refl

alt_same : (f g : Reader) → Same f g → (p q : Reader) → Same p q → (s : State) → alts f p s ≡ alts g q s
alt_same f g h p q k = if_ok_same _ _ (λ s e. ap (or_else p s) (h (trivia s) (running s e)) ∙ or_else_same p q k s (g (trivia s)))

loop_same : (f g : Reader) → Same f g → (n : ℕ) (s : State) → s.mode ≡ ok → loop f n s ≡ loop g n s
loop_same f g h zero s e = refl
loop_same f g h (suc n) s e = ap (go_on (loop f n) s) (h (trivia s) (running s e)) ∙ go (g (trivia s)) (loop_same f g h n)
  where
    go : (t : State) → ((u : State) → u.mode ≡ ok → loop f n u ≡ loop g n u) → go_on (loop f n) s t ≡ go_on (loop g n) s t
    go t = by t.mode t
      where
        by : (m : Mode) (t : State) → ((u : State) → u.mode ≡ ok → loop f n u ≡ loop g n u) → go_on (loop f n) s (turn m t) ≡ go_on (loop g n) s (turn m t)
        by ok t H = H (turn ok t) refl
        by failed t H = refl
        by (stopped w) t H = refl

memo_same : (a : ℕ) (f g : Reader) → Same f g → (b : Bool) (s : State) → s.mode ≡ ok → memo_row a f b s ≡ memo_row a g b s
memo_same a f g h true s e = refl
memo_same a f g h false s e = ap (remember (length s.rest) a) (h s (running s e))

call_same : (call : Bool → Production → Reader) (o : Bool) (a : Production) → Same (calm call o a) (call o a)
call_same call o a s = go s.mode s
  where
    go : (m : Mode) (s : State) → Running m → calm call o a (turn m s) ≡ call o a (turn m s)
    go ok s r = refl
    go failed s r = refl
    go (stopped w) s r = absurd r

module _ (d : ℕ) (quiet call : Bool → Production → Reader) (H : (o : Bool) (a : Production) → Same (quiet o a) (call o a)) where
  abbrev calls : Bool → Production → Reader
  calls = calm quiet

  steady_runs : (p : Prog) → T (steady p) → (o : Bool) (s : State) → Running s.mode → Running (exec d call p o s).mode
  unfolding steady
  steady_runs (eat S N) t o s r = if_ok_runs (λ s. eat_row N (next S s.rest) s) (λ s e. eat_runs N (next S s.rest) s e) s r
  steady_runs (unless S) t o s r = absurd t
  steady_runs (ifnext S p) t o s r = absurd t
  steady_runs (opt p) t o s r = absurd t
  steady_runs (many p) t o s r = if_ok_runs (λ s. loop (exec d call p true) (suc (length s.rest)) s) (λ s e. loop_runs (exec d call p true) (steady_runs p t true) (suc (length s.rest)) s e) s r
  steady_runs (then p) t o s r = absurd t
  steady_runs (p ⨟ q) t o s r = steady_runs q (and_right (steady p) (steady q) t) o (exec d call p o s) (steady_runs p (and_left (steady p) (steady q) t) o s r)
  steady_runs (p ⫽ q) t o s r = absurd t
  steady_runs (last p) t o s r = absurd t
  steady_runs (recover S) t o s r = absurd t
  steady_runs (node a) t o s r = absurd t
  steady_runs (memo a) t o s r = absurd t

  -- what follows p, at the state that p came to
  follows : (p q : Prog) (o : Bool) → T (idle q || steady p) → Same (exec d calls q o) (exec d call q o) → (s : State) → Running s.mode → exec d calls q o (exec d call p o s) ≡ exec d call q o (exec d call p o s)
  follows p q o t h s r = go (or_cases (idle q) (steady p) t)
    where
      by : (m : Mode) (u : State) → u.mode ≡ m → T (idle q) → exec d calls q o u ≡ exec d call q o u
      by ok u e i = h u (subst Running (sym e) tt)
      by failed u e i = h u (subst Running (sym e) tt)
      by (stopped w) u e i = idles d calls w q i o u e ∙ sym (idles d call w q i o u e)

      go : T (idle q) ⊎ T (steady p) → exec d calls q o (exec d call p o s) ≡ exec d call q o (exec d call p o s)
      go (inl i) = by (exec d call p o s).mode (exec d call p o s) refl i
      go (inr i) = h (exec d call p o s) (steady_runs p i o s r)

  calm_same : (p : Prog) → T (safe p) → (o : Bool) → Same (exec d calls p o) (exec d call p o)
  unfolding safe
  calm_same (eat S N) t o s r = refl
  calm_same (unless S) t o s r = refl
  calm_same (ifnext S p) t o s r = if_ok_same _ _ (λ s e. branch_same (map id_of S) (exec d calls p o) (exec d call p o) (calm_same p t o) (next S s.rest) s e) s
  calm_same (opt p) t o s r = alt_same (exec d calls p true) (exec d call p true) (calm_same p t true) (λ t. t) (λ t. t) (λ t r. refl) s
  calm_same (many p) t o s r = if_ok_same _ _ (λ s e. loop_same (exec d calls p true) (exec d call p true) (calm_same p t true) (suc (length s.rest)) s e) s
  calm_same (then p) t o s r = if_ok_same _ _ (λ s e. calm_same p t o (trivia s) (running s e)) s
  calm_same (p ⨟ q) t o s r =
      let a = and_left (safe p && safe q) (idle q || steady p) t in
      let b = and_right (safe p && safe q) (idle q || steady p) t in
      ap (exec d calls q o) (calm_same p (and_left (safe p) (safe q) a) o s r) ∙ follows p q o b (calm_same q (and_right (safe p) (safe q) a) o) s r
  calm_same (p ⫽ q) t o s r = alt_same (exec d calls p true) (exec d call p true) (calm_same p (and_left (safe p) (safe q) t) true) (exec d calls q o) (exec d call q o) (calm_same q (and_right (safe p) (safe q) t) o) s
  calm_same (last p) t o s r = alt_same (exec d calls p true) (exec d call p true) (calm_same p t true) fails fails (λ t r. refl) s
  calm_same (recover S) t o s r = refl
  calm_same (node a) t o s r = call_same quiet o a s r ∙ H o a s r
  calm_same (memo a) t o s r = if_ok_same _ _ (λ s e. memo_same (kind a) (calls o a) (call o a) (λ s r. call_same quiet o a s r ∙ H o a s r) (known s.cache (length s.rest) (kind a)) s e) s

calm_run_is : (E : Bool) (d : ℕ) (o : Bool) (a : Production) (s : State) → calm_run E d o a s ≡ run E d o a s
calm_run_is E zero o a s = refl
calm_run_is E (suc d) o a s = ap (finish o (kind a) (length (begin (suc d) s).rest)) (by (begin (suc d) s).mode (begin (suc d) s) refl (λ o b u r. calm_run_is E d o b u))
  where
    by : (m : Mode) (t : State) → t.mode ≡ m → ((o : Bool) (b : Production) → Same (calm_run E d o b) (run E d o b)) → exec d (calm (calm_run E d)) (grammar E a) o t ≡ exec d (run E d) (grammar E a) o t
    by ok t e H = calm_same d (calm_run E d) (run E d) H (grammar E a) (safe_productions E a) o t (subst Running (sym e) tt)
    by failed t e H = calm_same d (calm_run E d) (run E d) H (grammar E a) (safe_productions E a) o t (subst Running (sym e) tt)
    by (stopped w) t e H = idles d (calm (calm_run E d)) w (grammar E a) (idle_productions E a) o t e ∙ sym (idles d (run E d) w (grammar E a) (idle_productions E a) o t e)

-- THE THEOREM: an item read by productions that are left alone once the reader is stopped is the item as the definition reads it
pub no_begin_after_stop : (L : Limits) (a : ℕ) (s : State) → Running s.mode → exec L.depth (calm (calm_run L.entrypoint L.depth)) (item_of a) false s ≡ read_item L (item_of a) s
unfolding read_item safe
no_begin_after_stop L a s r = calm_same L.depth (calm_run L.entrypoint L.depth) (run L.entrypoint L.depth) (λ o b u r. calm_run_is L.entrypoint L.depth o b u) (item_of a) (any_sort (λ p. T (safe p)) tt tt tt a) false s r
