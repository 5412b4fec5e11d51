-- More fuel, and more events written before, change nothing else: the reading is the same, with the fuel and the events added.
use Prim.Native.Nat.{ℕ, zero, suc, ◌+◌}
use mathlib.Core.Path.{◌≡◌, refl, ap, ◌∙◌}
use mathlib.Core.List.{List, [], ◌∷◌, ◌++◌, map}
use mathlib.Core.Bool.{Bool, true, false}
use lib.ListN.{length}
use native.Mathlib.Nat.{suc-add, zero-add}
use Rattle.kinds.specs.Kinds as kinds
use Rattle.kinds.specs.Sets.{id_of, kind_of, trivial}
use Rattle.definition.specs.Prog.{Production}
use Rattle.definition.specs.Run.{count, Draft, mark, State, Reader, Mode, ok, failed, stopped, Stop, spent, deep, Event, opened, leaf, Choice, Next, end, other, hit, next, past, put, turn, emit, take, back, halted, if_ok, trivia, trivia_out, unexpected, choose, charge, begin, finish, seek, seek_out, skip_to, swallow, first_names, recovered, recovery, eat_row, refuse_row, branch, or_else, loop, go_on, known, remember, memo_row, nodes, run}
use Rattle.definition.specs.Remaining.{Running}
use Rattle.definition.proofs.Gap.{gap, gap_out}
use Rattle.definition.proofs.Induct.{Kept, run_kept}

-- drafts, with the events q written before them, after the drafts m
abbrev pub behind : List Event → List Draft → List Draft → List Draft
behind q m [] = m
behind q m (d ∷ ds) = (d.0 ++ q, d.1) ∷ behind q m ds

module _ (k : ℕ) (q : List Event) (b : List ℕ) (dr : List Draft) where
  abbrev pub h : State → State
  h s = record { rest = s.rest; mode = s.mode; fuel = s.fuel + k; out = s.out ++ q; want = s.want; unwant = s.unwant; chosen = s.chosen; cache = s.cache; begun = s.begun ++ b; drafts = behind q dr s.drafts }

  -- the reader is not stopped, or no fuel is added
  abbrev pub Live : Mode → Type 0
  Live ok = Unit
  Live failed = Unit
  Live (stopped w) = k ≡ 0

  abbrev pub Framed : Reader → Type 0
  Framed f = (s : State) → Live (f s).mode → Live s.mode × (f (h s) ≡ h (f s))

  pub running_live : (m : Mode) → Running m → Live m
  running_live ok r = tt
  running_live failed r = tt
  running_live (stopped w) r = absurd r

  -- by cases of a test, on both sides of an equation
  by_test : (b : Bool) (x y : List Event) {x' y' : List Event} → x' ≡ x ++ q → y' ≡ y ++ q → ◌≡◌ {A = List Event} (elim b [ true ↦ x' | false ↦ y' ]) ((elim b as (λ _. List Event) [ true ↦ x | false ↦ y ]) ++ q)
  by_test true x y e e' = e
  by_test false x y e e' = e'

  trivia_out_q : (r : List ℕ) (o : List Event) → trivia_out r (o ++ q) ≡ trivia_out r o ++ q
  trivia_out_q [] o = refl
  trivia_out_q (i ∷ is) o = by_test (trivial i) (trivia_out is (leaf i _ ∷ o)) o (trivia_out_q is (leaf i _ ∷ o)) refl

  gap_out_q : (m : Mode) (r : List ℕ) (o : List Event) → gap_out m r (o ++ q) ≡ gap_out m r o ++ q
  gap_out_q ok r o = trivia_out_q r o
  gap_out_q failed r o = refl
  gap_out_q (stopped w) r o = refl

  seek_out_q : (S r : List ℕ) (o : List Event) → seek_out S r (o ++ q) ≡ seek_out S r o ++ q
  seek_out_q S [] o = refl
  seek_out_q S (i ∷ is) o = by_test (past (next S (i ∷ is))) o (seek_out S is (leaf (kind_of i) _ ∷ o)) refl (seek_out_q S is (leaf (kind_of i) _ ∷ o))

  pub trivia_h : (s : State) → trivia (h s) ≡ h (trivia s)
  trivia_h s = ap (λ (o : List Event). mark (put (gap s.mode s.rest) o (h s))) (gap_out_q s.mode s.rest s.out)

  pub skip_to_h : (S : List ℕ) (s : State) → skip_to S (h s) ≡ h (skip_to S s)
  skip_to_h S s = ap (λ (o : List Event). mark (put (seek S s.rest) o (h s))) (seek_out_q S s.rest s.out)

  -- a step that good order alone lets happen
  guarded : (f : Reader) → ((s : State) → Live (f (turn ok s)).mode → f (h (turn ok s)) ≡ h (f (turn ok s))) → Framed (if_ok f)
  guarded f g s = go s.mode s
    where
      go : (m : Mode) (s : State) → Live (if_ok f (turn m s)).mode → Live m × (if_ok f (h (turn m s)) ≡ h (if_ok f (turn m s)))
      go ok s l = (tt, g s l)
      go failed s l = (tt, refl)
      go (stopped w) s l = (l, refl)

  -- f after trivia, from good order
  after : (f : Reader) → Framed f → (s : State) → Live (f (trivia s)).mode → f (trivia (h s)) ≡ h (f (trivia s))
  after f F s l = ap f (trivia_h s) ∙ (F (trivia s) l).1

  eat_row_h : (N : List ℕ) (x : Next) (s : State) → eat_row N x (h s) ≡ h (eat_row N x s)
  eat_row_h N end s = refl
  eat_row_h N other s = refl
  eat_row_h N (hit a is) s = ap (take a is) (trivia_h s)

  refuse_row_h : (x : Next) (s : State) → refuse_row x (h s) ≡ h (refuse_row x s)
  refuse_row_h end s = ap (back (h s)) (trivia_h s)
  refuse_row_h other s = ap (back (h s)) (trivia_h s)
  refuse_row_h (hit a is) s = ap (λ (t : State). turn failed (unexpected (back (h s) (take a is t)))) (trivia_h s)

  branch_h : (N : List ℕ) (f : Reader) → Framed f → (x : Next) (s : State) → Live (branch N f x s).mode → branch N f x (h s) ≡ h (branch N f x s)
  branch_h N f F end s l = refl
  branch_h N f F other s l = refl
  branch_h N f F (hit a is) s l = after f F s l

  or_else_live : (g : Reader) (s t : State) → Live (or_else g s t).mode → Live t.mode
  or_else_live g s t = go t.mode t
    where
      go : (m : Mode) (t : State) → Live (or_else g s (turn m t)).mode → Live m
      go ok t l = tt
      go failed t l = tt
      go (stopped w) t l = l

  or_else_h : (g : Reader) → Framed g → (s t : State) → Live (or_else g s t).mode → or_else g (h s) (h t) ≡ h (or_else g s t)
  or_else_h g G s t = go t.mode t
    where
      go : (m : Mode) (t : State) → Live (or_else g s (turn m t)).mode → or_else g (h s) (h (turn m t)) ≡ h (or_else g s (turn m t))
      go ok t l = refl
      go failed t l = (G (turn ok (back s t)) l).1
      go (stopped w) t l = refl

  go_on_live : (g : Reader) (s t : State) → Live (go_on g s t).mode → Live t.mode
  go_on_live g s t = go t.mode t
    where
      go : (m : Mode) (t : State) → Live (go_on g s (turn m t)).mode → Live m
      go ok t l = tt
      go failed t l = tt
      go (stopped w) t l = l

  go_on_h : (g : Reader) → ((u : State) → Live (g u).mode → g (h u) ≡ h (g u)) → (s t : State) → Live (go_on g s t).mode → go_on g (h s) (h t) ≡ h (go_on g s t)
  go_on_h g G s t = go t.mode t
    where
      go : (m : Mode) (t : State) → Live (go_on g s (turn m t)).mode → go_on g (h s) (h (turn m t)) ≡ h (go_on g s (turn m t))
      go ok t l = G (turn ok t) l
      go failed t l = refl
      go (stopped w) t l = refl

  loop_h : (f : Reader) → Framed f → (n : ℕ) (s : State) → Live (loop f n s).mode → loop f n (h s) ≡ h (loop f n s)
  loop_h f F zero s l = refl
  loop_h f F (suc n) s l =
      ap (go_on (loop f n) (h s)) (after f F s (go_on_live (loop f n) s (f (trivia s)) l)) ∙ go_on_h (loop f n) (loop_h f F n) s (f (trivia s)) l

  remember_live : (r a : ℕ) (t : State) → Live (remember r a t).mode → Live t.mode
  remember_live r a t = go t.mode t
    where
      go : (m : Mode) (t : State) → Live (remember r a (turn m t)).mode → Live m
      go ok t l = tt
      go failed t l = tt
      go (stopped w) t l = l

  remember_h : (r a : ℕ) (t : State) → remember r a (h t) ≡ h (remember r a t)
  remember_h r a t = go t.mode t
    where
      go : (m : Mode) (t : State) → remember r a (h (turn m t)) ≡ h (remember r a (turn m t))
      go ok t = refl
      go failed t = refl
      go (stopped w) t = refl

  memo_row_h : (a : ℕ) (f : Reader) → Framed f → (b : Bool) (s : State) → Live (memo_row a f b s).mode → memo_row a f b (h s) ≡ h (memo_row a f b s)
  memo_row_h a f F true s l = refl
  memo_row_h a f F false s l = ap (remember _ a) (F s (remember_live _ a (f s) l)).1 ∙ remember_h _ a (f s)

  halted_live : (w : Stop) (m : Mode) → Live (halted w m) → (k ≡ 0) × Live m
  halted_live w ok l = (l, tt)
  halted_live w failed l = (l, tt)
  halted_live w (stopped v) l = (l, l)

  charge_h : (d f : ℕ) (t : State) → Live (charge d f t).mode → Live t.mode × (charge d (f + k) (h t) ≡ h (charge d f t))
  charge_h d zero t l = ((halted_live spent t.mode l).1, ap (λ (n : ℕ). charge d n (h t)) (zero-add k ∙ (halted_live spent t.mode l).0))
  charge_h zero (suc f) t l = ((halted_live deep t.mode l).1, ap (λ (n : ℕ). charge zero n (h t)) (suc-add f k))
  charge_h (suc d) (suc f) t l = (l, ap (λ (n : ℕ). charge (suc d) n (h t)) (suc-add f k))

  pub begin_h : (d : ℕ) → Framed (begin d)
  begin_h d s l = let c = charge_h d s.fuel (trivia s) l in (c.0, ap (begin_at d) (trivia_h s) ∙ ap (λ (u : State). emit (opened (length (gap s.mode s.rest))) (count u)) c.1)
    where
      begin_at : ℕ → State → State
      begin_at d t = emit (opened (length t.rest)) (count (charge d t.fuel t))

  pub finish_live : (o : Bool) (a n : ℕ) (s : State) → Live (finish o a n s).mode → Live s.mode
  finish_live o a n s = go o s.mode s
    where
      go : (o : Bool) (m : Mode) (s : State) → Live (finish o a n (turn m s)).mode → Live m
      go o ok s l = tt
      go o failed s l = tt
      go true (stopped w) s l = l
      go false (stopped w) s l = l

  finish_h : (o : Bool) (a n : ℕ) (s : State) → finish o a n (h s) ≡ h (finish o a n s)
  finish_h o a n s = go o s.mode s
    where
      go : (o : Bool) (m : Mode) (s : State) → finish o a n (h (turn m s)) ≡ h (finish o a n (turn m s))
      go o ok s = refl
      go true failed s = refl
      go false failed s = refl
      go true (stopped w) s = refl
      go false (stopped w) s = refl

  nodes_h : (d : ℕ) (o : Bool) (a : ℕ) (f : Reader) → Framed f → Framed (nodes d o a f)
  nodes_h d o a f F s l =
      let t : State = begin d s in
      let F' : Live t.mode × (f (h t) ≡ h (f t)) = F t (finish_live o a (length t.rest) (f t) l) in
      let B = begin_h d s F'.0 in
      (B.0, ap (λ (u : State). finish o a (length u.rest) (f u)) B.1 ∙ ap (finish o a _) F'.1 ∙ finish_h o a _ (f t))

  swallow_h : (d : ℕ) (o : Bool) (S : List ℕ) (s : State) → Live (swallow d o S s).mode → swallow d o S (h s) ≡ h (swallow d o S s)
  swallow_h d o S s l =
      let t : State = begin d s in
      let B = begin_h d s (finish_live o kinds.ERROR (length t.rest) (skip_to S t) l) in
      ap (λ (u : State). finish o kinds.ERROR (length u.rest) (skip_to S u)) B.1 ∙ ap (finish o kinds.ERROR (length t.rest)) (skip_to_h S t) ∙ finish_h o kinds.ERROR (length t.rest) (skip_to S t)

  pub first_names_h : (c : List (ℕ × Choice)) (S : List ℕ) (s : State) → first_names c S (h s) ≡ h (first_names c S s)
  first_names_h [] S s = refl
  first_names_h (e ∷ es) S s = refl

  recovered_h : (d : ℕ) (o : Bool) (S : List ℕ) (x : Next) (m : Mode) (s : State) → Live (recovered d o S x m s).mode → recovered d o S x m (h s) ≡ h (recovered d o S x m s)
  recovered_h d o S end m s l = refl
  recovered_h d o S (hit a is) ok s l = refl
  recovered_h d o S (hit a is) failed s l = refl
  recovered_h d o S (hit a is) (stopped w) s l = refl
  recovered_h d o S other m s l = ap (λ (u : State). swallow d o S (choose u)) (first_names_h s.chosen S s) ∙ swallow_h d o S (choose (first_names s.chosen S s)) l

  recovery_h : (d : ℕ) (o : Bool) (S : List ℕ) → Framed (recovery d o S)
  recovery_h d o S s = go s.mode s
    where
      go : (m : Mode) (s : State) → Live (recovery d o S (turn m s)).mode → Live m × (recovery d o S (h (turn m s)) ≡ h (recovery d o S (turn m s)))
      go ok s l = (tt, recovered_h d o S (next S s.rest) ok (turn ok s) l)
      go failed s l = (tt, recovered_h d o S (next S s.rest) failed (turn ok s) l)
      go (stopped w) s l = (l, refl)

  pub frames : Kept Framed
  frames = record {
    at_id = λ s l. (l, refl);
    at_eat = λ S N. guarded (λ s. eat_row N (next S s.rest) s) (λ s l. eat_row_h N (next S s.rest) (turn ok s));
    at_unless = λ S. guarded (λ s. refuse_row (next S s.rest) s) (λ s l. refuse_row_h (next S s.rest) (turn ok s));
    at_ifnext = λ S f F. guarded (λ s. branch (map id_of S) f (next S s.rest) s) (λ s l. branch_h (map id_of S) f F (next S s.rest) (turn ok s) l);
    at_opt = λ f F. guarded (λ s. or_else (λ t. t) s (f (trivia s))) (λ s l. alt_h f (λ t. t) F (λ s l. (l, refl)) (turn ok s) l);
    at_many = λ f F. guarded (λ s. loop f (suc (length s.rest)) s) (λ s l. loop_h f F (suc (length s.rest)) (turn ok s) l);
    at_then = λ f F. guarded (λ s. f (trivia s)) (λ s l. after f F (turn ok s) l);
    at_seq = λ f g F G s l. let b = G (f s) l in let a = F s b.0 in (a.0, ap g a.1 ∙ b.1);
    at_alt = λ f g F G. guarded (λ s. or_else g s (f (trivia s))) (λ s l. alt_h f g F G (turn ok s) l);
    at_fail = guarded (λ s. turn failed s) (λ s l. refl);
    at_recover = recovery_h;
    at_memo = λ a f F. guarded (λ s. memo_row a f (known s.cache (length s.rest) a) s) (λ s l. memo_row_h a f F (known s.cache (length s.rest) a) (turn ok s) l);
    at_node = nodes_h;
  }
    where
      alt_h : (f g : Reader) → Framed f → Framed g → (s : State) → Live (or_else g s (f (trivia s))).mode → or_else g (h s) (f (trivia (h s))) ≡ h (or_else g s (f (trivia s)))
      alt_h f g F G s l = ap (or_else g (h s)) (after f F s (or_else_live g s (f (trivia s)) l)) ∙ or_else_h g G s (f (trivia s)) l

-- Fuel: a reading that does not stop is the same with more fuel, but for the fuel that is left.
pub more_fuel : (E : Bool) (d : ℕ) (o : Bool) (a : Production) (k : ℕ) (q : List Event) (b : List ℕ) (dr : List Draft) → Framed k q b dr (run E d o a)
more_fuel E d o a k q b dr = run_kept (frames k q b dr) E d o a
