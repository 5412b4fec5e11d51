-- The fuel that a finished reading used is the least that finishes it: with less, the reading ends out of fuel.
use Prim.Native.Nat.{ℕ, zero, suc, ◌+◌, ◌-◌, ◌≤◌, ◌<◌}
use mathlib.Core.Path.{◌≡◌, refl, ap, sym, ◌∙◌, subst}
use mathlib.Core.Logic.{◌⊎◌, inl, inr}
use mathlib.Core.List.{List, [], ◌∷◌, map}
use mathlib.Core.Bool.{Bool, true, false, not}
use lib.Dec.{T, ltb, ltb→lt, nltb→le}
use lib.ListN.{length}
use native.Mathlib.Nat.{suc-add, zero-add, le_refl}
use native.Mathlib.Omega.{arith}
use Rattle.kinds.specs.Kinds as kinds
use Rattle.kinds.specs.Sets.{id_of}
use Rattle.definition.specs.Prog.{Prog}
use Rattle.definition.specs.Grammar.{item_of}
use Rattle.definition.specs.Run.{State, Reader, Limits, Draft, Event, Choice, Mode, ok, failed, stopped, Stop, spent, deep, Next, end, other, hit, next, sought, trivia, turn, put, back, pay, charge, halted, begin, finish, nodes, skip_to, swallow, first_names, choose, recovered, recovery, if_ok, or_else, go_on, loop, branch, eat_row, refuse_row, memo_row, remember, known, fails, run, item_keywords, read_item, stray_item, item_at, flush, again, item, items, start, read, begin_steps}
use Rattle.definition.proofs.Induct.{Kept, exec_kept, run_kept}
use Rattle.definition.proofs.Order.{Running, Order, ordered, steps, loop_up, finish_up}
use Rattle.definition.proofs.Frame.{h, Framed, frames, trivia_h, skip_to_h, begin_h, first_names_h, running_live}
use Rattle.definition.proofs.Whole.{item_h, item_at_h}
use Rattle.theorems.proofs.Fuel.{fuel_left, fuel_exact, more_fuel, less_fuel}
use Rattle.definition.specs.Render.{item_numbers}
use Rattle.definition.proofs.Numbers.{numbers_fuel}

-- a stop stands, and fuel does not grow
pub record Ebb (s t : State) : Type 0 where
  pub stops : (w : Stop) → s.mode ≡ stopped w → t.mode ≡ stopped w
  pub fuels : t.fuel ≤ s.fuel

not_both : (m : Mode) (w : Stop) {A : Type 0} → Running m → m ≡ stopped w → A
not_both m w r e = absurd (subst Running e r)

quiet : (s t : State) → t.mode ≡ s.mode → t.fuel ≡ s.fuel → Ebb s t
quiet s t a b = record { stops = λ w e. a ∙ e; fuels = omega (arith, b) }

ebbing : Order Ebb
ebbing = record {
  same = λ s. quiet s s refl refl;
  trans = λ s t u p q. record { stops = λ w e. q.stops w (p.stops w e); fuels = omega (arith, p.fuels, q.fuels) };
  at_turn = λ m s r. record { stops = λ w e. not_both s.mode w r e; fuels = le_refl s.fuel };
  at_note = λ w u s. quiet s _ refl refl;
  at_choose = λ s. quiet s _ refl refl;
  at_count = λ s. quiet s _ refl refl;
  at_pay = λ s f e. record { stops = λ w e. e; fuels = omega (arith, e) };
  at_keep = λ r a s. quiet s _ refl refl;
  at_emit = λ x p s. quiet s _ refl refl;
  at_trivia = λ s. quiet s _ refl refl;
  at_take = λ S s a is m e. quiet s _ refl refl;
  at_skip = λ S s. quiet s _ refl refl;
  at_back = λ s t p. record { stops = p.stops; fuels = p.fuels };
}

module _ (j : ℕ) (q : List Event) (b : List ℕ) (dr : List Draft) where
  abbrev H : State → State
  H = h (suc j) q b dr

  abbrev F : Reader → Type 0
  F = Framed (suc j) q b dr

  abbrev E : Reader → Type 0
  E f = (s : State) → Ebb s (f s)

  -- the reading with less fuel has stopped: out of fuel, and the other has used more than it had; or both are too deep
  abbrev Gone : State → State → Type 0
  Gone t t' = ((t.mode ≡ stopped spent) × (t'.fuel < suc j)) ⊎ ((t.mode ≡ stopped deep) × (t'.mode ≡ stopped deep))

  abbrev Halts : Reader → Type 0
  Halts f = (s : State) → Running s.mode → (w : Stop) → (f s).mode ≡ stopped w → Gone (f s) (f (H s))

  gone_on : (t t' u u' : State) → Ebb t u → Ebb t' u' → Gone t t' → Gone u u'
  gone_on t t' u u' a c (inl z) = inl (a.stops spent z.0, omega (arith, c.fuels, z.1))
  gone_on t t' u u' a c (inr z) = inr (a.stops deep z.0, c.stops deep z.1)

  -- f, then g
  seq_halts : (f g : Reader) → F f → E g → Halts f → Halts g → Halts (λ s. g (f s))
  seq_halts f g F e A B s r w z = go (f s).mode refl
    where
      both : Running (f s).mode → Gone (g (f s)) (g (f (H s)))
      both k = subst (λ (u : State). Gone (g (f s)) (g u)) (sym (F s (running_live (suc j) q b dr (f s).mode k)).1) (B (f s) k w z)

      go : (m : Mode) → (f s).mode ≡ m → Gone (g (f s)) (g (f (H s)))
      go ok x = both (subst Running (sym x) tt)
      go failed x = both (subst Running (sym x) tt)
      go (stopped v) x = gone_on (f s) (f (H s)) (g (f s)) (g (f (H s))) (e (f s)) (e (f (H s))) (A s r v x)

  -- a step that good order alone lets happen
  guarded : (f : Reader) → ((s : State) → (w : Stop) → (f (turn ok s)).mode ≡ stopped w → Gone (f (turn ok s)) (f (H (turn ok s)))) → Halts (if_ok f)
  guarded f g s = go s.mode s
    where
      go : (m : Mode) (s : State) → Running m → (w : Stop) → (if_ok f (turn m s)).mode ≡ stopped w → Gone (if_ok f (turn m s)) (if_ok f (H (turn m s)))
      go ok s r w z = g s w z
      go failed s r w z = not_both failed w tt z
      go (stopped v) s r w z = absurd r

  after : (f : Reader) → Halts f → (s : State) (w : Stop) → (f (trivia (turn ok s))).mode ≡ stopped w → Gone (f (trivia (turn ok s))) (f (trivia (H (turn ok s))))
  after f A s w z = subst (λ (u : State). Gone (f (trivia (turn ok s))) (f u)) (sym (trivia_h (suc j) q b dr (turn ok s))) (A (trivia (turn ok s)) tt w z)

  framed_after : (f : Reader) → F f → (s : State) → Running (f (trivia s)).mode → f (trivia (H s)) ≡ H (f (trivia s))
  framed_after f F s k = ap f (trivia_h (suc j) q b dr s) ∙ (F (trivia s) (running_live (suc j) q b dr (f (trivia s)).mode k)).1

  or_else_ebb : (g : Reader) → E g → (s t : State) → Ebb t (or_else g s t)
  or_else_ebb g e s t = go t.mode t
    where
      go : (m : Mode) (t : State) → Ebb (turn m t) (or_else g s (turn m t))
      go ok t = quiet (turn ok t) (turn ok t) refl refl
      go failed t = let u : State = turn ok (back s (turn failed t)) in record { stops = λ w z. not_both failed w tt z; fuels = (e u).fuels }
      go (stopped w) t = quiet (turn (stopped w) t) (turn (stopped w) t) refl refl

  go_on_ebb : (g : Reader) → E g → (s t : State) → Ebb t (go_on g s t)
  go_on_ebb g e s t = go t.mode t
    where
      go : (m : Mode) (t : State) → Ebb (turn m t) (go_on g s (turn m t))
      go ok t = e (turn ok t)
      go failed t = record { stops = λ w z. not_both failed w tt z; fuels = le_refl t.fuel }
      go (stopped w) t = quiet (turn (stopped w) t) (back s (turn (stopped w) t)) refl refl

  remember_ebb : (r a : ℕ) (t : State) → Ebb t (remember r a t)
  remember_ebb r a t = go t.mode t
    where
      go : (m : Mode) (t : State) → Ebb (turn m t) (remember r a (turn m t))
      go ok t = quiet (turn ok t) (turn ok t) refl refl
      go failed t = quiet (turn failed t) (remember r a (turn failed t)) refl refl
      go (stopped w) t = quiet (turn (stopped w) t) (turn (stopped w) t) refl refl

  -- t and t' are what the first part came to, from the bookmark s
  or_else_halts : (g : Reader) → E g → Halts g → (s t t' : State) → (Running t.mode → t' ≡ H t) → ((w : Stop) → t.mode ≡ stopped w → Gone t t') → (w : Stop) → (or_else g s t).mode ≡ stopped w → Gone (or_else g s t) (or_else g (H s) t')
  or_else_halts g e B s t t' = go t.mode t
    where
      go : (m : Mode) (t : State) → (Running m → t' ≡ H (turn m t)) → ((w : Stop) → m ≡ stopped w → Gone (turn m t) t') → (w : Stop) → (or_else g s (turn m t)).mode ≡ stopped w → Gone (or_else g s (turn m t)) (or_else g (H s) t')
      go ok t x y w z = not_both ok w tt z
      go failed t x y w z = subst (λ (u : State). Gone (or_else g s (turn failed t)) (or_else g (H s) u)) (sym (x tt)) (B (turn ok (back s t)) tt w z)
      go (stopped v) t x y w z = gone_on (turn (stopped v) t) t' (turn (stopped v) t) (or_else g (H s) t') (quiet (turn (stopped v) t) (turn (stopped v) t) refl refl) (or_else_ebb g e (H s) t') (y v refl)

  go_on_halts : (g : Reader) → E g → Halts g → (s t t' : State) → (Running t.mode → t' ≡ H t) → ((w : Stop) → t.mode ≡ stopped w → Gone t t') → (w : Stop) → (go_on g s t).mode ≡ stopped w → Gone (go_on g s t) (go_on g (H s) t')
  go_on_halts g e B s t t' = go t.mode t
    where
      go : (m : Mode) (t : State) → (Running m → t' ≡ H (turn m t)) → ((w : Stop) → m ≡ stopped w → Gone (turn m t) t') → (w : Stop) → (go_on g s (turn m t)).mode ≡ stopped w → Gone (go_on g s (turn m t)) (go_on g (H s) t')
      go ok t x y w z = subst (λ (u : State). Gone (g (turn ok t)) (go_on g (H s) u)) (sym (x tt)) (B (turn ok t) tt w z)
      go failed t x y w z = not_both ok w tt z
      go (stopped v) t x y w z = gone_on (turn (stopped v) t) t' (back s (turn (stopped v) t)) (go_on g (H s) t') (quiet (turn (stopped v) t) (back s (turn (stopped v) t)) refl refl) (go_on_ebb g e (H s) t') (y v refl)

  alt_halts : (f g : Reader) → F f → E g → Halts f → Halts g → Halts (if_ok (λ s. or_else g s (f (trivia s))))
  alt_halts f g Ff e A B = guarded (λ s. or_else g s (f (trivia s))) (λ s w z. or_else_halts g e B (turn ok s) (f (trivia (turn ok s))) (f (trivia (H (turn ok s)))) (framed_after f Ff (turn ok s)) (after f A s) w z)

  loop_any : (f : Reader) → F f → E f → Halts f → (n : ℕ) → Halts (loop f n)
  loop_any f Ff e A zero s r w z = not_both s.mode w r z
  loop_any f Ff e A (suc n) s r w z = go_on_halts (loop f n) (loop_up Ebb (steps Ebb ebbing) f e n) (loop_any f Ff e A n) s (f (trivia s)) (f (trivia (H s))) (framed_after f Ff s) (λ v y. subst (λ (u : State). Gone (f (trivia s)) (f u)) (sym (trivia_h (suc j) q b dr s)) (A (trivia s) r v y)) w z

  memo_halts : (a : ℕ) (f : Reader) → Halts f → (x : Bool) (s : State) (w : Stop) → (memo_row a f x (turn ok s)).mode ≡ stopped w → Gone (memo_row a f x (turn ok s)) (memo_row a f x (H (turn ok s)))
  memo_halts a f A true s w z = not_both failed w tt z
  memo_halts a f A false s w z =
      let t : State = f (turn ok s) in
      gone_on t (f (H (turn ok s))) (remember (length s.rest) a t) (remember (length s.rest) a (f (H (turn ok s)))) (remember_ebb (length s.rest) a t) (remember_ebb (length s.rest) a (f (H (turn ok s)))) (A (turn ok s) tt w (forget t.mode t z))
    where
      forget : (m : Mode) (t : State) → (remember (length s.rest) a (turn m t)).mode ≡ stopped w → m ≡ stopped w
      forget ok t z = z
      forget failed t z = z
      forget (stopped v) t z = z

  halted_is : (w : Stop) (m : Mode) → Running m → halted w m ≡ stopped w
  halted_is w ok r = refl
  halted_is w failed r = refl
  halted_is w (stopped v) r = absurd r

  less_one : (d : ℕ) (t : State) → (charge d (suc j) t).fuel < suc j
  less_one zero t = omega arith
  less_one (suc d) t = omega arith

  charge_gone : (d f : ℕ) (t t' : State) → Running t.mode → t'.mode ≡ t.mode → (w : Stop) → (charge d f t).mode ≡ stopped w → (((charge d f t).mode ≡ stopped spent) × ((charge d (f + suc j) t').fuel < suc j)) ⊎ (((charge d f t).mode ≡ stopped deep) × ((charge d (f + suc j) t').mode ≡ stopped deep))
  charge_gone d zero t t' r e w z = inl (halted_is spent t.mode r, subst (λ (n : ℕ). (charge d n t').fuel < suc j) (sym (zero-add (suc j))) (less_one d t'))
  charge_gone zero (suc f) t t' r e w z = inr (halted_is deep t.mode r, ap (λ (n : ℕ). (charge zero n t').mode) (suc-add f (suc j)) ∙ ap (halted deep) e ∙ halted_is deep t.mode r)
  charge_gone (suc d) (suc f) t t' r e w z = not_both t.mode w r z

  begin_halts : (d : ℕ) → Halts (begin d)
  begin_halts d s r w z = charge_gone d s.fuel (trivia s) (trivia (H s)) r refl w z

  finish_halts : (o : Bool) (a n : ℕ) → Halts (finish o a n)
  finish_halts o a n s = go o s.mode s
    where
      go : (o : Bool) (m : Mode) (s : State) → Running m → (w : Stop) → (finish o a n (turn m s)).mode ≡ stopped w → Gone (finish o a n (turn m s)) (finish o a n (H (turn m s)))
      go o ok s r w z = not_both ok w tt z
      go true failed s r w z = not_both failed w tt z
      go false failed s r w z = not_both failed w tt z
      go o (stopped v) s r w z = absurd r

  node_halts : (d : ℕ) (o : Bool) (a : ℕ) (f : Reader) → E f → F f → Halts f → Halts (nodes d o a f)
  node_halts d o a f e Ff A = seq_halts (begin d) (λ t. finish o a (length t.rest) (f t)) (begin_h (suc j) q b dr d) (λ t. ebbing.trans t (f t) (finish o a (length t.rest) (f t)) (e t) (finish_up Ebb ebbing o a (length t.rest) (f t))) (begin_halts d) (λ t r w z. seq_halts f (finish o a (length t.rest)) Ff (finish_up Ebb ebbing o a (length t.rest)) A (finish_halts o a (length t.rest)) t r w z)

  skip_halts : (S : List ℕ) → Halts (skip_to S)
  skip_halts S s r w z = not_both s.mode w r z

  recovered_halts : (d : ℕ) (o : Bool) (S : List ℕ) (x : Next) (m : Mode) (s : State) → Running m → (w : Stop) → (recovered d o S x m (turn ok s)).mode ≡ stopped w → Gone (recovered d o S x m (turn ok s)) (recovered d o S x m (H (turn ok s)))
  recovered_halts d o S end m s r w z = not_both ok w tt z
  recovered_halts d o S (hit a is) ok s r w z = not_both ok w tt z
  recovered_halts d o S (hit a is) failed s r w z = not_both ok w tt z
  recovered_halts d o S (hit a is) (stopped v) s r w z = absurd r
  recovered_halts d o S other m s r w z =
      let u : State = first_names s.chosen S (turn ok s) in
      subst (λ (x : State). Gone (swallow d o S (choose u)) (swallow d o S (choose x))) (sym (first_names_h (suc j) q b dr s.chosen S (turn ok s))) (node_halts d o kinds.ERROR (skip_to S) (λ t. ebbing.at_skip S t) (λ t l. (l, skip_to_h (suc j) q b dr S t)) (skip_halts S) (choose u) (run_on s.chosen) w z)
    where
      run_on : (c : List (ℕ × Choice)) → Running (choose (first_names c S (turn ok s))).mode
      run_on [] = tt
      run_on (e ∷ c) = tt

  recovery_halts : (d : ℕ) (o : Bool) (S : List ℕ) → Halts (recovery d o S)
  recovery_halts d o S s = go s.mode s
    where
      go : (m : Mode) (s : State) → Running m → (w : Stop) → (recovery d o S (turn m s)).mode ≡ stopped w → Gone (recovery d o S (turn m s)) (recovery d o S (H (turn m s)))
      go ok s r w z = recovered_halts d o S (next S s.rest) ok s tt w z
      go failed s r w z = recovered_halts d o S (next S s.rest) failed s tt w z
      go (stopped v) s r w z = absurd r

  abbrev All : Reader → Type 0
  All f = E f × F f × Halts f

  KE : Kept E
  KE = ordered Ebb ebbing

  KF : Kept F
  KF = frames (suc j) q b dr

  eat_halts : (N : List ℕ) (x : Next) (s : State) (w : Stop) {A : Type 0} → (eat_row N x (turn ok s)).mode ≡ stopped w → A
  eat_halts N end s w z = not_both failed w tt z
  eat_halts N other s w z = not_both failed w tt z
  eat_halts N (hit a is) s w z = not_both ok w tt z

  refuse_halts : (x : Next) (s : State) (w : Stop) {A : Type 0} → (refuse_row x (turn ok s)).mode ≡ stopped w → A
  refuse_halts end s w z = not_both ok w tt z
  refuse_halts other s w z = not_both ok w tt z
  refuse_halts (hit a is) s w z = not_both failed w tt z

  branch_halts : (N : List ℕ) (f : Reader) → Halts f → (x : Next) (s : State) (w : Stop) → (branch N f x (turn ok s)).mode ≡ stopped w → Gone (branch N f x (turn ok s)) (branch N f x (H (turn ok s)))
  branch_halts N f A end s w z = not_both ok w tt z
  branch_halts N f A other s w z = not_both ok w tt z
  branch_halts N f A (hit a is) s w z = after f A s w z

  id_halts : Halts (λ s. s)
  id_halts s r w z = not_both s.mode w r z

  fails_halts : Halts fails
  fails_halts = guarded (λ s. turn failed s) (λ s w z. not_both failed w tt z)

  halting : Kept All
  halting = record {
    at_id = (KE.at_id, KF.at_id, id_halts);
    at_eat = λ S N. (KE.at_eat S N, KF.at_eat S N, guarded (λ s. eat_row N (next S s.rest) s) (λ s w z. eat_halts N (next S s.rest) s w z));
    at_unless = λ S. (KE.at_unless S, KF.at_unless S, guarded (λ s. refuse_row (next S s.rest) s) (λ s w z. refuse_halts (next S s.rest) s w z));
    at_ifnext = λ S f A. (KE.at_ifnext S f A.0, KF.at_ifnext S f A.1, guarded (λ s. branch (map id_of S) f (next S s.rest) s) (λ s w z. branch_halts (map id_of S) f A.2 (next S s.rest) s w z));
    at_opt = λ f A. (KE.at_opt f A.0, KF.at_opt f A.1, alt_halts f (λ t. t) A.1 KE.at_id A.2 id_halts);
    at_many = λ f A. (KE.at_many f A.0, KF.at_many f A.1, guarded (λ s. loop f (suc (length s.rest)) s) (λ s w z. loop_any f A.1 A.0 A.2 (suc (length s.rest)) (turn ok s) tt w z));
    at_then = λ f A. (KE.at_then f A.0, KF.at_then f A.1, guarded (λ s. f (trivia s)) (λ s w z. after f A.2 s w z));
    at_seq = λ f g A B. (KE.at_seq f g A.0 B.0, KF.at_seq f g A.1 B.1, seq_halts f g A.1 B.0 A.2 B.2);
    at_alt = λ f g A B. (KE.at_alt f g A.0 B.0, KF.at_alt f g A.1 B.1, alt_halts f g A.1 B.0 A.2 B.2);
    at_fail = (KE.at_fail, KF.at_fail, fails_halts);
    at_recover = λ d o S. (KE.at_recover d o S, KF.at_recover d o S, recovery_halts d o S);
    at_memo = λ a f A. (KE.at_memo a f A.0, KF.at_memo a f A.1, guarded (λ s. memo_row a f (known s.cache (length s.rest) a) s) (λ s w z. memo_halts a f A.2 (known s.cache (length s.rest) a) s w z));
    at_node = λ d o a f A. (KE.at_node d o a f A.0, KF.at_node d o a f A.1, node_halts d o a f A.0 A.1 A.2);
  }

  reads_all : (L : Limits) (p : Prog) → All (read_item L p)
  unfolding read_item
  reads_all L p = exec_kept halting L.depth (run L.entrypoint L.depth) (run_kept halting L.entrypoint L.depth) p false

  -- items
  end_ebb : (u : State) → Ebb u (again (flush u))
  end_ebb u = go u.mode u
    where
      go : (m : Mode) (u : State) → Ebb (turn m u) (again (flush (turn m u)))
      go ok u = quiet (turn ok u) _ refl refl
      go failed u = record { stops = λ w z. not_both failed w tt z; fuels = le_refl u.fuel }
      go (stopped w) u = quiet (turn (stopped w) u) _ refl refl

  end_halts : Halts (λ u. again (flush u))
  end_halts u = go u.mode u
    where
      go : (m : Mode) (u : State) → Running m → (w : Stop) → (again (flush (turn m u))).mode ≡ stopped w → Gone (again (flush (turn m u))) (again (flush (H (turn m u))))
      go ok u r w z = not_both ok w tt z
      go failed u r w z = not_both ok w tt z
      go (stopped v) u r w z = absurd r

  item_at_ebb : (L : Limits) (x : Next) → E (item_at L x)
  item_at_ebb L end s = quiet s s refl refl
  item_at_ebb L other s = quiet s (stray_item s) refl refl
  item_at_ebb L (hit a is) s = (reads_all L (item_of a)).0 s

  item_at_halts : (L : Limits) (x : Next) → Halts (item_at L x)
  item_at_halts L end s r w z = not_both s.mode w r z
  item_at_halts L other s r w z = not_both s.mode w r z
  item_at_halts L (hit a is) s r w z = (reads_all L (item_of a)).2 s r w z

  item_ebb : (L : Limits) → E (item L)
  item_ebb L s = let x : Next = sought item_keywords (trivia s).rest in let u : State = item_at L x (trivia s) in ebbing.trans s u (item L s) (ebbing.trans s (trivia s) u (ebbing.at_trivia s) (item_at_ebb L x (trivia s))) (end_ebb u)

  item_halts : (L : Limits) → Halts (item L)
  item_halts L s r w z =
      let x : Next = sought item_keywords (trivia s).rest in
      subst (λ (u : State). Gone (item L s) (again (flush (item_at L (sought item_keywords u.rest) u)))) (sym (trivia_h (suc j) q b dr s)) (seq_halts (item_at L x) (λ u. again (flush u)) (item_at_h L (suc j) q b dr x) end_ebb (item_at_halts L x) end_halts (trivia s) r w z)

  items_ebb : (L : Limits) (n : ℕ) → E (items L n)
  items_ebb L zero s = quiet s s refl refl
  items_ebb L (suc n) s = go s.rest s.mode s (items_ebb L n)
    where
      go : (r : List ℕ) (o : Mode) (s : State) → E (items L n) → let t : State = turn o (put r s.out s) in Ebb t (items L (suc n) t)
      go [] o s e = ebbing.same (turn o (put [] s.out s))
      go (i ∷ is) failed s e = ebbing.same (turn failed (put (i ∷ is) s.out s))
      go (i ∷ is) (stopped w) s e = ebbing.same (turn (stopped w) (put (i ∷ is) s.out s))
      go (i ∷ is) ok s e = let t : State = turn ok (put (i ∷ is) s.out s) in ebbing.trans t (item L t) (items L n (item L t)) (item_ebb L t) (e (item L t))

  pub items_halts : (L : Limits) (n : ℕ) → Halts (items L n)
  items_halts L zero s r w z = not_both s.mode w r z
  items_halts L (suc n) s r w z = go s.rest s.mode s (items_halts L n) r w z
    where
      go : (l : List ℕ) (o : Mode) (s : State) → Halts (items L n) → let t : State = turn o (put l s.out s) in Running o → (w : Stop) → (items L (suc n) t).mode ≡ stopped w → Gone (items L (suc n) t) (items L (suc n) (H t))
      go [] o s A r w z = not_both o w r z
      go (i ∷ is) failed s A r w z = not_both failed w tt z
      go (i ∷ is) (stopped v) s A r w z = absurd r
      go (i ∷ is) ok s A r w z = seq_halts (item L) (items L n) (item_h L (suc j) q b dr) (items_ebb L n) (item_halts L) A (turn ok (put (i ∷ is) s.out s)) tt w z

-- request (xiii), whole: at a fixed depth limit, on less fuel than a finished reading used the reading ends out of fuel
pub too_little : (L : Limits) (r : List ℕ) (f g : ℕ) → Running (read L r f).mode → g < begin_steps L r f → (read L r g).mode ≡ stopped spent
too_little L r f g z l = by (read L r g).mode refl
  where
    j : ℕ
    j = (f - g) - 1

    e : g + suc ((f - g) - 1) ≡ f
    e = omega (arith, l, fuel_exact L r f z)

    by : (m : Mode) → (read L r g).mode ≡ m → (read L r g).mode ≡ stopped spent
    by ok x = absurd (less_fuel L r f g z l (subst Running (sym x) tt))
    by failed x = absurd (less_fuel L r f g z l (subst Running (sym x) tt))
    by (stopped w) x = at (items_halts ((f - g) - 1) [] [] [] L (length r) (start r g) tt w x)
      where
        at : (((read L r g).mode ≡ stopped spent) × ((read L r (g + suc ((f - g) - 1))).fuel < suc ((f - g) - 1))) ⊎ (((read L r g).mode ≡ stopped deep) × ((read L r (g + suc ((f - g) - 1))).mode ≡ stopped deep)) → (read L r g).mode ≡ stopped spent
        at (inl y) = y.0
        at (inr y) = not_both (read L r f).mode deep z (ap (λ (n : ℕ). (read L r n).mode) (sym e) ∙ y.1)

-- and the fuel that it used finishes it, and any more: it is the least that does
pub enough_fuel : (L : Limits) (r : List ℕ) (f g : ℕ) → Running (read L r f).mode → begin_steps L r f ≤ g → g < f → Running (read L r g).mode
enough_fuel L r f g z l k = by (read L r g).mode refl
  where
    e : g + suc ((f - g) - 1) ≡ f
    e = omega (arith, k)

    by : (m : Mode) → (read L r g).mode ≡ m → Running (read L r g).mode
    by ok x = subst Running (sym x) tt
    by failed x = subst Running (sym x) tt
    by (stopped w) x = absurd (at (items_halts ((f - g) - 1) [] [] [] L (length r) (start r g) tt w x))
      where
        at : (((read L r g).mode ≡ stopped spent) × ((read L r (g + suc ((f - g) - 1))).fuel < suc ((f - g) - 1))) ⊎ (((read L r g).mode ≡ stopped deep) × ((read L r (g + suc ((f - g) - 1))).mode ≡ stopped deep)) → ⊥
        at (inl y) = omega (arith, y.1, ap (λ (n : ℕ). (read L r n).fuel) e, fuel_exact L r f z, l, k)
        at (inr y) = not_both (read L r f).mode deep z (ap (λ (n : ℕ). (read L r n).mode) (sym e) ∙ y.1)

-- on any fuel that is not less than was used, the reading is the same in all but the fuel left
pub same_reading : (L : Limits) (r : List ℕ) (f g : ℕ) → Running (read L r f).mode → begin_steps L r f ≤ g → read L r g ≡ pay (g - begin_steps L r f) (read L r f)
same_reading L r f g z l = paid (by (ltb g f) (ltb→lt g f) (nltb→le g f))
  where
    larger : f ≤ g → (a : ℕ) × (read L r g ≡ pay a (read L r f))
    larger m = let e : f + (g - f) ≡ g = omega (arith, m) in (_, ap (read L r) (sym e) ∙ more_fuel L r f (g - f) z)

    smaller : g < f → (a : ℕ) × (read L r g ≡ pay a (read L r f))
    smaller m = let e : g + (f - g) ≡ f = omega (arith, m) in ((read L r g).fuel, ap (pay (read L r g).fuel) (sym (ap (read L r) (sym e) ∙ more_fuel L r g (f - g) (enough_fuel L r f g z l m))))

    by : (b : Bool) → (T b → g < f) → (T (not b) → f ≤ g) → (a : ℕ) × (read L r g ≡ pay a (read L r f))
    by true m n = smaller (m tt)
    by false m n = larger (n tt)

    paid : ((a : ℕ) × (read L r g ≡ pay a (read L r f))) → read L r g ≡ pay (g - begin_steps L r f) (read L r f)
    paid q = q.1 ∙ ap (λ (a : ℕ). pay a (read L r f)) (sym (ap (λ (s : State). s.fuel) q.1) ∙ fuel_left L r g ∙ ap (λ (s : State). g - length s.begun) q.1)

-- and so are the numbers of the items
pub same_numbers : (L : Limits) (r : List ℕ) (f g : ℕ) → Running (read L r f).mode → begin_steps L r f ≤ g → item_numbers L r g ≡ item_numbers L r f
same_numbers L r f g z l = by (ltb g f) (ltb→lt g f) (nltb→le g f)
  where
    by : (b : Bool) → (T b → g < f) → (T (not b) → f ≤ g) → item_numbers L r g ≡ item_numbers L r f
    by true m n = let e : g + (f - g) ≡ f = omega (arith, m tt) in sym (ap (item_numbers L r) (sym e) ∙ numbers_fuel L r g (f - g) (enough_fuel L r f g z l (m tt)))
    by false m n = let e : f + (g - f) ≡ g = omega (arith, n tt) in ap (item_numbers L r) (sym e) ∙ numbers_fuel L r f (g - f) z
