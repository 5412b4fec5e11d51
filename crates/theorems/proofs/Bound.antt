-- A repetition's bound is never what ends it; and a node that is too deep has a body that does nothing. So the bounded definition is the module's.
use Prim.Native.Nat.{ℕ, zero, suc, ◌<◌}
use mathlib.Core.Path.{◌≡◌, refl, ap, sym, ◌∙◌}
use mathlib.Core.List.{List}
use mathlib.Core.Bool.{Bool, true, false, ◌&&◌, not}
use lib.Dec.{T}
use lib.ListN.{length}
use native.Mathlib.Omega.{arith}
use Rattle.definition.specs.Prog.{Production, Prog, eat, unless, ifnext, opt, many, then, ◌⨟◌, ◌⫽◌, last, recover, node, memo}
use Rattle.definition.specs.Grammar.{grammar, kind}
use Rattle.definition.specs.Run.{State, Reader, Mode, ok, failed, stopped, Stop, spent, deep, trivia, turn, halted, charge, begin, finish, nodes, if_ok, go_on, loop, recovery, exec, run}
use Rattle.definition.proofs.Every.{and_left, and_right, productions, each, never}
use Rattle.definition.proofs.Grows.{grows}
use Rattle.definition.proofs.Shrink.{taking, size, strip_gap, strip_le, run_ok, shrinks}
use Rattle.definition.proofs.Agree.{loose, sound, sound_productions}

-- p stands in a program
pub data Within (p : Prog) : Prog → Type 0 where
  here : Within p p
  in_ifnext : {S : List ℕ} {q : Prog} → Within p q → Within p (ifnext S q)
  in_opt : {q : Prog} → Within p q → Within p (opt q)
  in_many : {q : Prog} → Within p q → Within p (many q)
  in_then : {q : Prog} → Within p q → Within p (then q)
  in_last : {q : Prog} → Within p q → Within p (last q)
  in_first : {q r : Prog} → Within p q → Within p (q ⨟ r)
  in_second : {q r : Prog} → Within p r → Within p (q ⨟ r)
  in_left : {q r : Prog} → Within p q → Within p (q ⫽ r)
  in_right : {q r : Prog} → Within p r → Within p (q ⫽ r)

-- what is repeated takes a row
repeated : (p q : Prog) → Within (many p) q → T (sound q) → T (taking p)
repeated p _ here t = and_right (not (loose p)) (taking p) (and_left (not (loose p) && taking p) (sound p) t)
repeated p _ (in_ifnext {q = q} w) t = repeated p q w t
repeated p _ (in_opt {q = q} w) t = repeated p q w (and_right (not (loose q)) (sound q) t)
repeated p _ (in_many {q = q} w) t = repeated p q w (and_right (not (loose q) && taking q) (sound q) t)
repeated p _ (in_then {q = q} w) t = repeated p q w t
repeated p _ (in_last {q = q} w) t = repeated p q w (and_right (not (loose q)) (sound q) t)
repeated p _ (in_first {q = q} {r = r} w) t = repeated p q w (and_left (sound q) (sound r) t)
repeated p _ (in_second {q = q} {r = r} w) t = repeated p r w (and_right (sound q) (sound r) t)
repeated p _ (in_left {q = q} {r = r} w) t = repeated p q w (and_left (sound q) (sound r) (and_right (not (loose q) && not (loose r)) (sound q && sound r) t))
repeated p _ (in_right {q = q} {r = r} w) t = repeated p r w (and_right (sound q) (sound r) (and_right (not (loose q) && not (loose r)) (sound q && sound r) t))

-- any two bounds over the rows that are left
module _ (f : Reader) (F : (s : State) → (f s).mode ≡ ok → size (f s) < size s) where
  go_on_same : (g g' : Reader) (s t : State) → (t.mode ≡ ok → g t ≡ g' t) → go_on g s t ≡ go_on g' s t
  go_on_same g g' s t = go t.mode t
    where
      go : (m : Mode) (t : State) → (m ≡ ok → g (turn m t) ≡ g' (turn m t)) → go_on g s (turn m t) ≡ go_on g' s (turn m t)
      go ok t e = e refl
      go failed t e = refl
      go (stopped w) t e = refl

  bounds : (n m : ℕ) (s : State) → size s < n → size s < m → loop f n s ≡ loop f m s
  bounds zero m s a b = absurd (omega (arith, a))
  bounds (suc n) zero s a b = absurd (omega (arith, b))
  bounds (suc n) (suc m) s a b = go_on_same (loop f n) (loop f m) s (f (trivia s)) (λ e. let z = F (trivia s) e in let g = ap length (strip_gap s.mode s.rest) in bounds n m (f (trivia s)) (omega (arith, a, z, g)) (omega (arith, b, z, g)))

-- THE THEOREM: a repetition of the grammar does the same under every bound over the rows that are left
pub bound_never_ends : (E : Bool) (d : ℕ) (a : Production) (p : Prog) → Within (many p) (grammar E a) → (s : State) (n : ℕ) → length s.rest < n → let f : Reader = exec d (run E d) p true in loop f n s ≡ loop f (suc (length s.rest)) s
bound_never_ends E d a p w s n l =
    let f : Reader = exec d (run E d) p true in
    let F : (s : State) → (f s).mode ≡ ok → size (f s) < size s = shrinks d (run E d) (grows E d) (λ o b s e. (run_ok E d o b s e).0) (λ o b s e. (run_ok E d o b s e).1) p (repeated p (grammar E a) w (sound_productions E a)) true in
    bounds f F n (suc (length s.rest)) s (omega (arith, l, strip_le s.rest)) (omega (arith, strip_le s.rest))

-- a program that does nothing where the reader is stopped: no node is entered unguarded
abbrev pub idle : Prog → Bool
idle (eat S N) = true
idle (unless S) = true
idle (ifnext S p) = true
idle (opt p) = true
idle (many p) = true
idle (then p) = true
idle (p ⨟ q) = idle p && idle q
idle (p ⫽ q) = true
idle (last p) = true
idle (recover S) = true
idle (node a) = false
idle (memo a) = true

pub idle_productions : (E : Bool) (a : Production) → T (idle (grammar E a))
unfolding productions grammar
idle_productions E = each (λ a. idle (grammar E a)) tt

if_ok_stopped : (r : State) (w : Stop) (s : State) → s.mode ≡ stopped w → if_ok (λ _. r) s ≡ s
if_ok_stopped r w s = go s.mode s
  where
    go : (m : Mode) (s : State) → m ≡ stopped w → if_ok (λ _. r) (turn m s) ≡ turn m s
    go ok s e = never cc
    go failed s e = refl
    go (stopped v) s e = refl

pub recovery_stopped : (d : ℕ) (o : Bool) (S : List ℕ) (w : Stop) (s : State) → s.mode ≡ stopped w → recovery d o S s ≡ s
recovery_stopped d o S w s = go s.mode s
  where
    go : (m : Mode) (s : State) → m ≡ stopped w → recovery d o S (turn m s) ≡ turn m s
    go ok s e = never cc
    go failed s e = never cc
    go (stopped v) s e = refl

module _ (d : ℕ) (call : Bool → Production → Reader) (w : Stop) where
  pub idles : (p : Prog) → T (idle p) → (o : Bool) (s : State) → s.mode ≡ stopped w → exec d call p o s ≡ s
  idles (eat S N) t o s e = if_ok_stopped _ w s e
  idles (unless S) t o s e = if_ok_stopped _ w s e
  idles (ifnext S p) t o s e = if_ok_stopped _ w s e
  idles (opt p) t o s e = if_ok_stopped _ w s e
  idles (many p) t o s e = if_ok_stopped _ w s e
  idles (then p) t o s e = if_ok_stopped _ w s e
  idles (p ⨟ q) t o s e =
      let x = idles p (and_left (idle p) (idle q) t) o s e in
      ap (exec d call q o) x ∙ idles q (and_right (idle p) (idle q) t) o s e
  idles (p ⫽ q) t o s e = if_ok_stopped _ w s e
  idles (last p) t o s e = if_ok_stopped _ w s e
  idles (recover S) t o s e = recovery_stopped d o S w s e
  idles (node a) t o s e = absurd t
  idles (memo a) t o s e = if_ok_stopped _ w s e

halted_stops : (v : Stop) (m : Mode) → (w : Stop) × (halted v m ≡ stopped w)
halted_stops v ok = (v, refl)
halted_stops v failed = (v, refl)
halted_stops v (stopped w) = (w, refl)

pub charged : (f : ℕ) (t : State) → (w : Stop) × ((charge zero f t).mode ≡ stopped w)
charged zero t = halted_stops spent t.mode
charged (suc f) t = halted_stops deep t.mode

-- THE THEOREM: the body of a node that is too deep does nothing, whatever the productions that it calls would do
pub too_deep_idles : (E : Bool) (d : ℕ) (call : Bool → Production → Reader) (o : Bool) (a : Production) (s : State) → run E zero o a s ≡ nodes zero o (kind a) (exec d call (grammar E a) o) s
too_deep_idles E d call o a s =
    let t : State = begin zero s in
    let w = charged s.fuel (trivia s) in
    ap (finish o (kind a) (length t.rest)) (sym (idles d call w.0 (grammar E a) (idle_productions E a) o t w.1))

abbrev pub less : ℕ → ℕ
less zero = zero
less (suc d) = d

-- at every depth a production is its node around its program
pub whatever_depth : (E : Bool) (d : ℕ) (o : Bool) (a : Production) (s : State) → run E d o a s ≡ nodes d o (kind a) (exec (less d) (run E (less d)) (grammar E a) o) s
whatever_depth E zero o a s = too_deep_idles E zero (run E zero) o a s
whatever_depth E (suc d) o a s = refl
