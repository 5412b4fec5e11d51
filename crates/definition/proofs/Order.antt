-- An order on states that each small change respects is respected by every program: from what a state is to what it becomes. Where names are
-- respected only if they pass a test, it is so for programs whose names do (`StepsIf`).
use Prim.Native.Nat.{ℕ, zero, suc}
use mathlib.Core.Path.{◌≡◌, refl, sym, subst}
use mathlib.Core.List.{List, [], ◌∷◌, map}
use mathlib.Core.Bool.{Bool, true, false}
use mathlib.Core.Option.{Option}
use lib.Dec.{T}
use lib.ListN.{length}
use native.Mathlib.Omega.{arith}
use Rattle.kinds.specs.Kinds as kinds
use Rattle.kinds.specs.Sets.{id_of}
use Rattle.definition.specs.Run.{count, State, Reader, Mode, ok, failed, stopped, Stop, spent, deep, Event, opened, leaf, closed, bad, Choice, Next, end, other, hit, next, turn, pay, note, keep, emit, take, back, halt, if_ok, trivia, expected, unexpected, choose, charge, begin, finish, unless_optional, skip_to, swallow, first_names, recovered, recovery, eat_row, refuse_row, branch, or_else, loop, go_on, known, remember, memo_row, nodes, halted}
pub use Rattle.definition.specs.Remaining.{Running}
use Rattle.definition.proofs.Induct.{Kept, JoinedIf, KeptIf}

pub halted_not : (w : Stop) (m : Mode) → Running (halted w m) → ⊥
halted_not w ok r = r
halted_not w failed r = r
halted_not w (stopped v) r = r

abbrev pub Plain : Event → Type 0
Plain (opened n) = Unit
Plain (leaf a n) = Unit
Plain (closed a n m) = Unit
Plain (bad n c) = ⊥

-- what each small change, and a node, keeps
pub record Steps (Q : State → State → Type 0) : Type 0 where
  pub same : (s : State) → Q s s
  pub trans : (s t u : State) → Q s t → Q t u → Q s u
  pub at_turn : (m : Mode) (s : State) → Running s.mode → Q s (turn m s)
  pub at_expected : (N : List ℕ) (s : State) → Q s (expected N s)
  pub at_unexpected : (S : List ℕ) (s : State) (a : ℕ) (is : List ℕ) → next S s.rest ≡ hit a is → Q s (unexpected s)
  pub at_choose : (s : State) → Q s (choose s)
  pub at_keep : (r a : ℕ) (s : State) → Q s (keep ((r, a) ∷ s.cache) s)
  pub at_trivia : (s : State) → Q s (trivia s)
  pub at_take : (S : List ℕ) (s : State) (a : ℕ) (is : List ℕ) → s.mode ≡ ok → next S s.rest ≡ hit a is → Q s (take a is (trivia s))
  pub at_skip : (S : List ℕ) (s : State) → Q s (skip_to S s)
  pub at_back : (s t : State) → Q s t → Q s (back s t)
  pub at_node : (d : ℕ) (o : Bool) (a : ℕ) (f : Reader) → ((s : State) → Q s (f s)) → (s : State) → Q s (nodes d o a f s)

-- the same, where the names that are entered pass a test
pub record StepsIf (c : List ℕ → Bool) (Q : State → State → Type 0) : Type 0 where
  pub same : (s : State) → Q s s
  pub trans : (s t u : State) → Q s t → Q t u → Q s u
  pub at_turn : (m : Mode) (s : State) → Running s.mode → Q s (turn m s)
  pub at_expected : (N : List ℕ) → T (c N) → (s : State) → Q s (expected N s)
  pub at_unexpected : (S : List ℕ) (s : State) (a : ℕ) (is : List ℕ) → next S s.rest ≡ hit a is → Q s (unexpected s)
  pub at_choose : (s : State) → Q s (choose s)
  pub at_keep : (r a : ℕ) (s : State) → Q s (keep ((r, a) ∷ s.cache) s)
  pub at_trivia : (s : State) → Q s (trivia s)
  pub at_take : (S : List ℕ) (s : State) (a : ℕ) (is : List ℕ) → s.mode ≡ ok → next S s.rest ≡ hit a is → Q s (take a is (trivia s))
  pub at_skip : (S : List ℕ) (s : State) → Q s (skip_to S s)
  pub at_back : (s t : State) → Q s t → Q s (back s t)
  pub at_node : (d : ℕ) (o : Bool) (a : ℕ) (f : Reader) → ((s : State) → Q s (f s)) → (s : State) → Q s (nodes d o a f s)

-- and with a node around skipped rows in place of any node
pub record PartsIf (c : List ℕ → Bool) (Q : State → State → Type 0) : Type 0 where
  pub same : (s : State) → Q s s
  pub trans : (s t u : State) → Q s t → Q t u → Q s u
  pub at_turn : (m : Mode) (s : State) → Running s.mode → Q s (turn m s)
  pub at_expected : (N : List ℕ) → T (c N) → (s : State) → Q s (expected N s)
  pub at_unexpected : (S : List ℕ) (s : State) (a : ℕ) (is : List ℕ) → next S s.rest ≡ hit a is → Q s (unexpected s)
  pub at_choose : (s : State) → Q s (choose s)
  pub at_keep : (r a : ℕ) (s : State) → Q s (keep ((r, a) ∷ s.cache) s)
  pub at_trivia : (s : State) → Q s (trivia s)
  pub at_take : (S : List ℕ) (s : State) (a : ℕ) (is : List ℕ) → s.mode ≡ ok → next S s.rest ≡ hit a is → Q s (take a is (trivia s))
  pub at_back : (s t : State) → Q s t → Q s (back s t)
  pub at_swallow : (d : ℕ) (o : Bool) (S : List ℕ) (s : State) → Q s (swallow d o S s)

pub record Order (Q : State → State → Type 0) : Type 0 where
  pub same : (s : State) → Q s s
  pub trans : (s t u : State) → Q s t → Q t u → Q s u
  pub at_turn : (m : Mode) (s : State) → Running s.mode → Q s (turn m s)
  pub at_note : (w : Option (ℕ × List ℕ)) (u : Option ℕ) (s : State) → Q s (note w u s.chosen s)
  pub at_choose : (s : State) → Q s (choose s)
  pub at_count : (s : State) → Q s (count s)
  pub at_pay : (s : State) (f : ℕ) → s.fuel ≡ suc f → Q s (pay f s)
  pub at_keep : (r a : ℕ) (s : State) → Q s (keep ((r, a) ∷ s.cache) s)
  pub at_emit : (e : Event) → Plain e → (s : State) → Q s (emit e s)
  pub at_trivia : (s : State) → Q s (trivia s)
  pub at_take : (S : List ℕ) (s : State) (a : ℕ) (is : List ℕ) → s.mode ≡ ok → next S s.rest ≡ hit a is → Q s (take a is (trivia s))
  pub at_skip : (S : List ℕ) (s : State) → Q s (skip_to S s)
  pub at_back : (s t : State) → Q s t → Q s (back s t)

abbrev pub Up : (State → State → Type 0) → Reader → Type 0
Up Q f = (s : State) → Q s (f s)

module _ {c : List ℕ → Bool} (Q : State → State → Type 0) (O : PartsIf c Q) where
  guarded : (f : Reader) → ((s : State) → s.mode ≡ ok → Q s (f s)) → Up Q (if_ok f)
  guarded f g s = go s.mode s
    where
      go : (m : Mode) (s : State) → Q (turn m s) (if_ok f (turn m s))
      go ok s = g (turn ok s) refl
      go failed s = O.same (turn failed s)
      go (stopped w) s = O.same (turn (stopped w) s)

  running : (m : Mode) → m ≡ ok → Running m
  running m e = subst Running (sym e) tt

  -- f after trivia
  after : (f : Reader) → Up Q f → (s : State) → Q s (f (trivia s))
  after f F s = O.trans s (trivia s) (f (trivia s)) (O.at_trivia s) (F (trivia s))

  eat_row_up : (S N : List ℕ) → T (c N) → (s : State) → s.mode ≡ ok → (x : Next) → next S s.rest ≡ x → Q s (eat_row N x s)
  eat_row_up S N t s e end h = O.trans s (expected N s) (turn failed (expected N s)) (O.at_expected N t s) (O.at_turn failed (expected N s) (running s.mode e))
  eat_row_up S N t s e other h = O.trans s (expected N s) (turn failed (expected N s)) (O.at_expected N t s) (O.at_turn failed (expected N s) (running s.mode e))
  eat_row_up S N t s e (hit a is) h = O.at_take S s a is e h

  refuse_row_up : (S : List ℕ) (s : State) → s.mode ≡ ok → (x : Next) → next S s.rest ≡ x → Q s (refuse_row x s)
  refuse_row_up S s e end h = O.at_back s (trivia s) (O.at_trivia s)
  refuse_row_up S s e other h = O.at_back s (trivia s) (O.at_trivia s)
  refuse_row_up S s e (hit a is) h =
      let b : State = back s (take a is (trivia s)) in
      O.trans s (unexpected b) (turn failed (unexpected b)) (O.trans s b (unexpected b) (O.at_back s (take a is (trivia s)) (O.at_take S s a is e h)) (O.at_unexpected S b a is h)) (O.at_turn failed (unexpected b) (running s.mode e))

  branch_up : (N : List ℕ) → T (c N) → (f : Reader) → Up Q f → (s : State) (x : Next) → Q s (branch N f x s)
  branch_up N t f F s end = O.same s
  branch_up N t f F s other = O.at_expected N t s
  branch_up N t f F s (hit a is) = after f F s

  or_else_up : (g : Reader) → Up Q g → (s t : State) → Q s t → Q s (or_else g s t)
  or_else_up g G s t = go t.mode t
    where
      go : (m : Mode) (t : State) → Q s (turn m t) → Q s (or_else g s (turn m t))
      go ok t h = h
      go failed t h =
          let b : State = back s (turn failed t) in
          O.trans s (turn ok b) (g (turn ok b)) (O.trans s b (turn ok b) (O.at_back s (turn failed t) h) (O.at_turn ok b tt)) (G (turn ok b))
      go (stopped w) t h = h

  go_on_up : (g : Reader) → Up Q g → (s t : State) → Q s t → Q s (go_on g s t)
  go_on_up g G s t = go t.mode t
    where
      go : (m : Mode) (t : State) → Q s (turn m t) → Q s (go_on g s (turn m t))
      go ok t h = O.trans s (turn ok t) (g (turn ok t)) h (G (turn ok t))
      go failed t h = let b : State = back s (turn failed t) in O.trans s b (turn ok b) (O.at_back s (turn failed t) h) (O.at_turn ok b tt)
      go (stopped w) t h = O.at_back s (turn (stopped w) t) h

  loop_if : (f : Reader) → Up Q f → (n : ℕ) → Up Q (loop f n)
  loop_if f F zero s = O.same s
  loop_if f F (suc n) s = go_on_up (loop f n) (loop_if f F n) s (f (trivia s)) (after f F s)

  remember_up : (r a : ℕ) → Up Q (remember r a)
  remember_up r a t = go t.mode t
    where
      go : (m : Mode) (t : State) → Q (turn m t) (remember r a (turn m t))
      go ok t = O.same (turn ok t)
      go failed t = O.at_keep r a (turn failed t)
      go (stopped w) t = O.same (turn (stopped w) t)

  memo_row_up : (a : ℕ) (f : Reader) → Up Q f → (s : State) → s.mode ≡ ok → (b : Bool) → Q s (memo_row a f b s)
  memo_row_up a f F s e true = O.at_turn failed s (running s.mode e)
  memo_row_up a f F s e false = O.trans s (f s) (remember (length s.rest) a (f s)) (F s) (remember_up (length s.rest) a (f s))

  first_names_up : (p : List (ℕ × Choice)) (S : List ℕ) → T (c (map id_of S)) → Up Q (first_names p S)
  first_names_up [] S t s = O.at_expected (map id_of S) t s
  first_names_up (e ∷ es) S t s = O.same s

  recovered_up : (d : ℕ) (o : Bool) (S : List ℕ) → T (c (map id_of S)) → (x : Next) (m : Mode) → Up Q (recovered d o S x m)
  recovered_up d o S k end m s = O.same s
  recovered_up d o S k (hit a is) ok s = O.same s
  recovered_up d o S k (hit a is) failed s = O.at_choose s
  recovered_up d o S k (hit a is) (stopped w) s = O.at_choose s
  recovered_up d o S k other m s =
      let t : State = first_names s.chosen S s in
      O.trans s (choose t) (swallow d o S (choose t)) (O.trans s t (choose t) (first_names_up s.chosen S k s) (O.at_choose t)) (O.at_swallow d o S (choose t))

  recover_up : (d : ℕ) (o : Bool) (S : List ℕ) → T (c (map id_of S)) → Up Q (recovery d o S)
  recover_up d o S k s = go s.mode s
    where
      go : (m : Mode) (s : State) → Q (turn m s) (recovery d o S (turn m s))
      go ok s = recovered_up d o S k (next S s.rest) ok (turn ok s)
      go failed s = O.trans (turn failed s) (turn ok s) (recovered d o S (next S s.rest) failed (turn ok s)) (O.at_turn ok (turn failed s) tt) (recovered_up d o S k (next S s.rest) failed (turn ok s))
      go (stopped w) s = O.same (turn (stopped w) s)

  pub joined_if : JoinedIf c (Up Q)
  joined_if = record {
    at_eat = λ S N t. guarded (λ s. eat_row N (next S s.rest) s) (λ s e. eat_row_up S N t s e (next S s.rest) refl);
    at_unless = λ S. guarded (λ s. refuse_row (next S s.rest) s) (λ s e. refuse_row_up S s e (next S s.rest) refl);
    at_ifnext = λ S t f F. guarded (λ s. branch (map id_of S) f (next S s.rest) s) (λ s e. branch_up (map id_of S) t f F s (next S s.rest));
    at_opt = λ f F. guarded (λ s. or_else (λ t. t) s (f (trivia s))) (λ s e. or_else_up (λ t. t) (λ t. O.same t) s (f (trivia s)) (after f F s));
    at_many = λ f F. guarded (λ s. loop f (suc (length s.rest)) s) (λ s e. loop_if f F (suc (length s.rest)) s);
    at_then = λ f F. guarded (λ s. f (trivia s)) (λ s e. after f F s);
    at_seq = λ f g F G s. O.trans s (f s) (g (f s)) (F s) (G (f s));
    at_alt = λ f g F G. guarded (λ s. or_else g s (f (trivia s))) (λ s e. or_else_up g G s (f (trivia s)) (after f F s));
    at_fail = guarded (λ s. turn failed s) (λ s e. O.at_turn failed s (running s.mode e));
    at_recover = recover_up;
    at_memo = λ a f F. guarded (λ s. memo_row a f (known s.cache (length s.rest) a) s) (λ s e. memo_row_up a f F s e (known s.cache (length s.rest) a));
  }

module _ {c : List ℕ → Bool} (Q : State → State → Type 0) (O : StepsIf c Q) where
  swallow_if : (d : ℕ) (o : Bool) (S : List ℕ) → Up Q (swallow d o S)
  swallow_if d o S = O.at_node d o kinds.ERROR (skip_to S) (λ t. O.at_skip S t)

  parts_if : PartsIf c Q
  parts_if = record { same = O.same; trans = O.trans; at_turn = O.at_turn; at_expected = O.at_expected; at_unexpected = O.at_unexpected; at_choose = O.at_choose; at_keep = O.at_keep; at_trivia = O.at_trivia; at_take = O.at_take; at_back = O.at_back; at_swallow = swallow_if }

  pub stepped_if : KeptIf c (Up Q)
  stepped_if = record { joined = joined_if Q parts_if; at_id = O.same; at_node = O.at_node }

module _ (Q : State → State → Type 0) (O : Steps Q) where
  whatever : StepsIf (λ N. true) Q
  whatever = record { same = O.same; trans = O.trans; at_turn = O.at_turn; at_expected = λ N t. O.at_expected N; at_unexpected = O.at_unexpected; at_choose = O.at_choose; at_keep = O.at_keep; at_trivia = O.at_trivia; at_take = O.at_take; at_skip = O.at_skip; at_back = O.at_back; at_node = O.at_node }

  pub loop_up : (f : Reader) → Up Q f → (n : ℕ) → Up Q (loop f n)
  loop_up = loop_if Q (parts_if Q whatever)

  pub swallow_up : (d : ℕ) (o : Bool) (S : List ℕ) → Up Q (swallow d o S)
  swallow_up = swallow_if Q whatever

  pub stepped : Kept (Up Q)
  stepped =
      let K = joined_if Q (parts_if Q whatever) in
      record { at_id = O.same; at_eat = λ S N. K.at_eat S N tt; at_unless = K.at_unless; at_ifnext = λ S. K.at_ifnext S tt; at_opt = K.at_opt; at_many = K.at_many; at_then = K.at_then; at_seq = K.at_seq; at_alt = K.at_alt; at_fail = K.at_fail; at_recover = λ d o S. K.at_recover d o S tt; at_memo = K.at_memo; at_node = O.at_node }

-- a step at a time, the writing of an event one of them
module _ (Q : State → State → Type 0) (O : Order Q) where
  halt_up : (w : Stop) → Up Q (halt w)
  halt_up w s = go s.mode s
    where
      go : (m : Mode) (s : State) → Q (turn m s) (halt w (turn m s))
      go ok s = O.at_turn (stopped w) (turn ok s) tt
      go failed s = O.at_turn (stopped w) (turn failed s) tt
      go (stopped v) s = O.same (turn (stopped v) s)

  charge_up : (d f : ℕ) (s : State) → s.fuel ≡ f → Q s (charge d f s)
  charge_up d zero s e = halt_up spent s
  charge_up zero (suc f) s e = O.trans s (pay _ s) (halt deep (pay _ s)) (O.at_pay s _ (omega (arith, e))) (halt_up deep (pay _ s))
  charge_up (suc d) (suc f) s e = O.at_pay s _ (omega (arith, e))

  pub begin_up : (d : ℕ) → Up Q (begin d)
  begin_up d s =
      let t : State = trivia s in
      let v : State = charge d s.fuel t in
      let u : State = count v in
      O.trans s u (emit (opened (length t.rest)) u) (O.trans s v u (O.trans s t v (O.at_trivia s) (charge_up d s.fuel t refl)) (O.at_count v)) (O.at_emit (opened (length t.rest)) tt u)

  pub finish_up : (o : Bool) (a n : ℕ) → Up Q (finish o a n)
  finish_up o a n s = go o s.mode s
    where
      shut : (o : Bool) (b : ℕ) (s : State) → Q s (emit (closed b n (length s.rest)) (unless_optional o s))
      shut true b s = O.at_emit (closed b n (length s.rest)) tt s
      shut false b s = O.trans s (choose s) (emit (closed b n (length s.rest)) (choose s)) (O.at_choose s) (O.at_emit (closed b n (length s.rest)) tt (choose s))

      go : (o : Bool) (m : Mode) (s : State) → Q (turn m s) (finish o a n (turn m s))
      go o ok s = O.at_emit (closed a n (length s.rest)) tt (turn ok s)
      go o failed s = shut o kinds.ERROR (turn failed s)
      go o (stopped w) s = shut o kinds.ERROR (turn (stopped w) s)

  nodes_up : (d : ℕ) (o : Bool) (a : ℕ) (f : Reader) → Up Q f → Up Q (nodes d o a f)
  nodes_up d o a f F s =
      let t : State = begin d s in
      O.trans s (f t) (finish o a (length t.rest) (f t)) (O.trans s t (f t) (begin_up d s) (F t)) (finish_up o a (length t.rest) (f t))

  pub steps : Steps Q
  steps = record { same = O.same; trans = O.trans; at_turn = O.at_turn; at_expected = λ N s. O.at_note _ _ s; at_unexpected = λ S s a is h. O.at_note _ _ s; at_choose = O.at_choose; at_keep = O.at_keep; at_trivia = O.at_trivia; at_take = O.at_take; at_skip = O.at_skip; at_back = O.at_back; at_node = nodes_up }

  pub recovery_up : (d : ℕ) (o : Bool) (S : List ℕ) → Up Q (recovery d o S)
  recovery_up d o S = recover_up Q (parts_if Q (whatever Q steps)) d o S tt

  pub ordered : Kept (Up Q)
  ordered = stepped Q steps
