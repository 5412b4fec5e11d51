-- Once a room is exceeded it stays the one, whatever a combinator or a production does. Assumes nothing.
use Prim.Native.Nat.{ℕ, suc}
use mathlib.Core.Path.{◌≡◌, refl, sym, ◌∙◌}
use mathlib.Core.Bool.{Bool}
use mathlib.Core.List.{List, [], ◌∷◌}
use mathlib.Core.Option.{none}
use lib.ListN.{length}
use Rattle.definition.specs.Prog.{Production, Prog}
use Rattle.definition.specs.Run as P
use Rattle.definition.specs.Run.{leaf, closed, Mode, ok, failed, stopped}
use Rattle.definition.specs.Render.{Source}
use Rattle.definition.proofs.Induct.{Kept, exec_kept, run_kept}
use Rattle.definition.proofs.Order.{Order, ordered, begin_up, finish_up}
use Rattle.kinds.specs.Kinds as k
use Rattle.definition.proofs.Gap.{gap, gap_out}
use Rattle.notes.specs.Means.{Past, over_of}
use Rattle.notes.proofs.Core.{Sticky, sticky_mark}

module _ (p : Past) (x : Source) where
  abbrev pub Sticks : P.Reader → Type 0
  Sticks f = (a : P.State) → Sticky p x a (f a)

  pub sticky_trans : (a b c : P.State) → Sticky p x a b → Sticky p x b c → Sticky p x a c
  sticky_trans a b c k l n = l (λ z. n (sym (k n) ∙ z)) ∙ k n

  pub sticky_trivia : Sticks P.trivia
  unfolding over_of
  sticky_trivia a = sticky_mark p x (P.put (gap a.mode a.rest) (gap_out a.mode a.rest a.out) a)

  pub sticky_take : (i : ℕ) (is : List ℕ) → Sticks (P.take i is)
  unfolding over_of
  sticky_take i is a = sticky_mark p x (P.put is (leaf i (suc (length is)) ∷ a.out) a)

  pub sticky_choose : Sticks P.choose
  unfolding over_of
  sticky_choose a = sticky_mark p x (P.note none none (P.decide a.want a.unwant a.chosen) a)

  pub sticky_shut : (i n : ℕ) → Sticks (λ a. P.emit (closed i n (length a.rest)) a)
  unfolding over_of
  sticky_shut i n a = sticky_mark p x (P.put a.rest (closed i n (length a.rest) ∷ a.out) a)

  pub sticky_skip : (S : List ℕ) → Sticks (P.skip_to S)
  unfolding over_of
  sticky_skip S a = sticky_mark p x (P.put (P.seek S a.rest) (P.seek_out S a.rest a.out) a)

  pub sticking : Order (Sticky p x)
  unfolding over_of
  sticking =
      record {
        same = λ a n. refl;
        trans = sticky_trans;
        at_turn = λ m a r n. refl;
        at_note = λ w u a n. refl;
        at_choose = sticky_choose;
        at_count = λ a n. refl;
        at_pay = λ a f e n. refl;
        at_keep = λ r k a n. refl;
        at_emit = λ e q a. sticky_mark p x (P.put a.rest (e ∷ a.out) a);
        at_trivia = sticky_trivia;
        at_take = λ S a i is e h. sticky_trans a (P.trivia a) (P.take i is (P.trivia a)) (sticky_trivia a) (sticky_take i is (P.trivia a));
        at_skip = sticky_skip;
        at_back = λ a t k. k;
      }

  pub sticky : Kept Sticks
  sticky = ordered (Sticky p x) sticking

  pub sticky_begin : (d : ℕ) → Sticks (P.begin d)
  sticky_begin = begin_up (Sticky p x) sticking

  pub sticky_finish : (o : Bool) (i n : ℕ) → Sticks (P.finish o i n)
  sticky_finish = finish_up (Sticky p x) sticking

  pub sticky_run : (E : Bool) (d : ℕ) (o : Bool) (i : Production) → Sticks (P.run E d o i)
  sticky_run = run_kept sticky

  pub sticky_exec : (E : Bool) (d : ℕ) (g : Prog) (o : Bool) → Sticks (P.exec d (P.run E d) g o)
  sticky_exec E d g o = exec_kept sticky d (P.run E d) (run_kept sticky E d) g o

  -- steps that the combinators are made of
  pub sticky_or_else : (g : P.Reader) → Sticks g → (s t : P.State) → Sticky p x t (P.or_else g s t)
  unfolding over_of
  sticky_or_else g G s t = go t.mode t
    where
      go : (m : Mode) (t : P.State) → Sticky p x (P.turn m t) (P.or_else g s (P.turn m t))
      go ok t = λ n. refl
      go failed t = G (P.turn ok (P.back s t))
      go (stopped w) t = λ n. refl

  pub sticky_go_on : (g : P.Reader) → Sticks g → (s t : P.State) → Sticky p x t (P.go_on g s t)
  unfolding over_of
  sticky_go_on g G s t = go t.mode t
    where
      go : (m : Mode) (t : P.State) → Sticky p x (P.turn m t) (P.go_on g s (P.turn m t))
      go ok t = G (P.turn ok t)
      go failed t = λ n. refl
      go (stopped w) t = λ n. refl

  pub sticky_expected : (N : List ℕ) → Sticks (P.expected N)
  unfolding over_of
  sticky_expected N a n = refl

  pub sticky_names : (S : List ℕ) → Sticks (λ a. P.first_names a.chosen S a)
  unfolding over_of
  sticky_names S a = go a.chosen
    where
      go : (c : List (ℕ × P.Choice)) → Sticky p x a (P.first_names c S a)
      go [] = λ n. refl
      go (e ∷ c) = λ n. refl

  pub sticky_turn : (m : Mode) → Sticks (P.turn m)
  unfolding over_of
  sticky_turn m a n = refl

  pub sticky_since : (m : Mode) (a c : P.State) → Sticky p x a c → Sticky p x (P.turn m a) c
  unfolding over_of
  sticky_since m a c k = k

  pub sticky_swallowed : (d : ℕ) (o : Bool) (S : List ℕ) → Sticks (λ a. P.swallow d o S (P.choose (P.first_names a.chosen S a)))
  sticky_swallowed d o S a =
      let u : P.State = P.first_names a.chosen S a in
      sticky_trans a u (P.swallow d o S (P.choose u)) (sticky_names S a) (sticky_trans u (P.choose u) (P.swallow d o S (P.choose u)) (sticky_choose u) (sticky.at_node d o k.ERROR (P.skip_to S) (sticky_skip S) (P.choose u)))

  pub back_over : (m : Mode) (a t : P.State) → over_of p x (P.turn m (P.back a t)) ≡ over_of p x t
  unfolding over_of
  back_over m a t = refl

  pub sticky_fail : (N : List ℕ) → Sticks (λ a. P.turn failed (P.expected N a))
  unfolding over_of
  sticky_fail N a n = refl

  pub sticky_returned : (f : P.Reader) → Sticks f → Sticks (λ a. P.back a (f a))
  unfolding over_of
  sticky_returned f F a = F a

  pub sticky_refused : (f : P.Reader) → Sticks f → Sticks (λ a. P.turn failed (P.unexpected (P.back a (f a))))
  unfolding over_of
  sticky_refused f F a = F a

  pub sticky_back : (m : Mode) (f : P.Reader) → Sticks f → Sticks (λ a. P.turn m (P.back a (f a)))
  unfolding over_of
  sticky_back m f F a = F a

  pub sticky_past : (f : P.Reader) → Sticks f → Sticks (λ a. f (P.trivia a))
  sticky_past f F a = sticky_trans a (P.trivia a) (f (P.trivia a)) (sticky_trivia a) (F (P.trivia a))
