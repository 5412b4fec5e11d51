-- What every reader does: it takes rows off the front, adds events and pending errors, never leaves a stop, and fuel does not grow.
use Prim.Native.Nat.{ℕ, suc, ◌≤◌, zero}
use mathlib.Core.Path.{◌≡◌, refl, ap, sym, ◌∙◌, subst}
use mathlib.Core.List.{List, [], ◌∷◌, ◌++◌, append_assoc, append-nil}
use mathlib.Core.Bool.{Bool, true, false}
use mathlib.Core.Option.{Option, none, some}
use lib.ListN.{length}
use native.Mathlib.Nat.{le_refl}
use native.Mathlib.Omega.{arith}
use Rattle.kinds.specs.Sets.{kind_of, pick, trivial}
use Rattle.definition.specs.Prog.{Production}
use Rattle.definition.specs.Run.{State, Mode, ok, failed, stopped, Stop, Event, leaf, Choice, Next, other, hit, next, sought, skip, past, trivia_out, seek, seek_out, pending, add, decide, run, wanted, unwanted, spent, deep, trivia, charge, begin, finish}
pub use Rattle.definition.specs.Render.{bads}
use Rattle.definition.specs.Grammar.{kind}
use Rattle.definition.proofs.Gap.{gap, gap_out}
use Rattle.definition.proofs.Every.{never}
use Rattle.definition.proofs.Induct.{run_kept}
use Rattle.definition.proofs.Order.{Order, ordered, Running, Plain, halted_not, finish_up}

-- a is an end of b
abbrev pub End : {A : Type 0} → List A → List A → Type 0
End {A} a b = (x : List A) × (x ++ a ≡ b)

pub end_refl : {A : Type 0} (a : List A) → End a a
end_refl a = ([], refl)

pub end_trans : {A : Type 0} (a b c : List A) → End a b → End b c → End a c
end_trans a b c p q = (q.0 ++ p.0, append_assoc q.0 p.0 a ∙ ap (λ (l : List _). q.0 ++ l) p.1 ∙ q.1)

pub end_cons : {A : Type 0} (x : A) (a b : List A) → End a b → End a (x ∷ b)
end_cons x a b p = (x ∷ p.0, ap (λ (l : List _). x ∷ l) p.1)

pub skip_end : (r : List ℕ) → End (skip r) r
skip_end [] = end_refl []
skip_end (i ∷ is) = go (trivial i) (skip_end is)
  where
    go : (b : Bool) → End (skip is) is → End (elim b as (λ _. List ℕ) [ true ↦ skip is | false ↦ i ∷ is ]) (i ∷ is)
    go true h = end_cons i (skip is) is h
    go false h = end_refl (i ∷ is)

pub gap_end : (m : Mode) (r : List ℕ) → End (gap m r) r
gap_end ok r = skip_end r
gap_end failed r = end_refl r
gap_end (stopped w) r = end_refl r

pub trivia_out_end : (r : List ℕ) (o : List Event) → End o (trivia_out r o)
trivia_out_end [] o = end_refl o
trivia_out_end (i ∷ is) o = go (trivial i) (trivia_out_end is (leaf i (suc (length is)) ∷ o))
  where
    go : (b : Bool) → End (leaf i (suc (length is)) ∷ o) (trivia_out is (leaf i (suc (length is)) ∷ o)) → End o (elim b as (λ _. List Event) [ true ↦ trivia_out is (leaf i (suc (length is)) ∷ o) | false ↦ o ])
    go true h = end_trans o (leaf i (suc (length is)) ∷ o) (trivia_out is (leaf i (suc (length is)) ∷ o)) (end_cons (leaf i (suc (length is))) o o (end_refl o)) h
    go false h = end_refl o

pub gap_out_end : (m : Mode) (r : List ℕ) (o : List Event) → End o (gap_out m r o)
gap_out_end ok r o = trivia_out_end r o
gap_out_end failed r o = end_refl o
gap_out_end (stopped w) r o = end_refl o

pub seek_end : (S r : List ℕ) → End (seek S r) r
seek_end S [] = end_refl []
seek_end S (i ∷ is) = go (past (next S (i ∷ is))) (seek_end S is)
  where
    go : (b : Bool) → End (seek S is) is → End (elim b as (λ _. List ℕ) [ true ↦ i ∷ is | false ↦ seek S is ]) (i ∷ is)
    go true h = end_refl (i ∷ is)
    go false h = end_cons i (seek S is) is h

pub seek_out_end : (S r : List ℕ) (o : List Event) → End o (seek_out S r o)
seek_out_end S [] o = end_refl o
seek_out_end S (i ∷ is) o = go (past (next S (i ∷ is))) (seek_out_end S is (leaf (kind_of i) (suc (length is)) ∷ o))
  where
    go : (b : Bool) → End (leaf (kind_of i) (suc (length is)) ∷ o) (seek_out S is (leaf (kind_of i) (suc (length is)) ∷ o)) → End o (elim b as (λ _. List Event) [ true ↦ o | false ↦ seek_out S is (leaf (kind_of i) (suc (length is)) ∷ o) ])
    go true h = end_refl o
    go false h = end_trans o (leaf (kind_of i) (suc (length is)) ∷ o) (seek_out S is (leaf (kind_of i) (suc (length is)) ∷ o)) (end_cons (leaf (kind_of i) (suc (length is))) o o (end_refl o)) h

-- what `hit` says of the rows
pub sought_hit : (S r : List ℕ) (a : ℕ) (is : List ℕ) → sought S r ≡ hit a is → (i : ℕ) × (r ≡ i ∷ is)
sought_hit S [] a is e = never cc
sought_hit S (i ∷ js) a is e = go (pick S i) e
  where
    go : (x : Option ℕ) → ◌≡◌ {A = Next} (elim x [ none ↦ other | some b ↦ hit b js ]) (hit a is) → (j : ℕ) × (◌≡◌ {A = List ℕ} (i ∷ js) (j ∷ is))
    go none e = never cc
    go (some b) e = let z : js ≡ is = cc in (i, ap (λ (l : List ℕ). i ∷ l) z)

pub take_end : (S r : List ℕ) (a : ℕ) (is : List ℕ) → next S r ≡ hit a is → End is r
take_end S r a is e =
    let p = sought_hit S (skip r) a is e in
    end_trans is (skip r) r (p.0 ∷ [], sym p.1) (skip_end r)

-- pending errors are added behind
abbrev pub Front : {A : Type 0} → List A → List A → Type 0
Front {A} a b = (x : List A) × (a ++ x ≡ b)

front_refl : {A : Type 0} (a : List A) → Front a a
front_refl a = ([], append-nil a)

front_trans : {A : Type 0} (a b c : List A) → Front a b → Front b c → Front a c
front_trans a b c p q = (p.0 ++ q.0, sym (append_assoc a p.0 q.0) ∙ ap (λ (l : List _). l ++ q.0) p.1 ∙ q.1)

add_front : (r : ℕ) (e : Choice) (es : List (ℕ × Choice)) → Front es (add r e es)
add_front r e es = go (pending r es)
  where
    go : (b : Bool) → Front es (elim b as (λ _. List (ℕ × Choice)) [ true ↦ es | false ↦ es ++ ((r, e) ∷ []) ])
    go true = front_refl es
    go false = ((r, e) ∷ [], refl)

decide_front : (w : Option (ℕ × List ℕ)) (u : Option ℕ) (es : List (ℕ × Choice)) → Front es (decide w u es)
decide_front none none es = front_refl es
decide_front none (some u) es = add_front u unwanted es
decide_front (some w) none es = add_front w.0 (wanted w.1) es
decide_front (some w) (some u) es = go (lib.Dec.ltb u w.0)
  where
    go : (b : Bool) → Front es (elim b as (λ _. List (ℕ × Choice)) [ true ↦ add u unwanted es | false ↦ add w.0 (wanted w.1) es ])
    go true = add_front u unwanted es
    go false = add_front w.0 (wanted w.1) es

pub record Grown (s t : State) : Type 0 where
  pub rows : End t.rest s.rest
  pub events : End s.out t.out
  pub errors : Front s.chosen t.chosen
  pub fuels : t.fuel ≤ s.fuel
  pub stops : (w : Stop) → s.mode ≡ stopped w → t.mode ≡ stopped w

still : (s t : State) → t.rest ≡ s.rest → t.out ≡ s.out → t.chosen ≡ s.chosen → t.fuel ≡ s.fuel → t.mode ≡ s.mode → Grown s t
still s t a b c d e = record { rows = ([], a); events = ([], sym b); errors = ([], append-nil s.chosen ∙ sym c); fuels = omega arith; stops = λ w h. e ∙ h }

not_running : (m : Mode) (w : Stop) → Running m → m ≡ stopped w → ⊥
not_running m w r e = subst Running e r

pub grown : Order Grown
grown = record {
  same = λ s. still s s refl refl refl refl refl;
  trans = λ s t u p q. record {
    rows = end_trans u.rest t.rest s.rest q.rows p.rows;
    events = end_trans s.out t.out u.out p.events q.events;
    errors = front_trans s.chosen t.chosen u.chosen p.errors q.errors;
    fuels = omega (arith, p.fuels, q.fuels);
    stops = λ w e. q.stops w (p.stops w e);
  };
  at_turn = λ m s r. record { rows = end_refl s.rest; events = end_refl s.out; errors = front_refl s.chosen; fuels = le_refl s.fuel; stops = λ w e. absurd (not_running s.mode w r e) };
  at_note = λ w u s. still s _ refl refl refl refl refl;
  at_choose = λ s. record { rows = end_refl s.rest; events = end_refl s.out; errors = decide_front s.want s.unwant s.chosen; fuels = le_refl s.fuel; stops = λ w e. e };
  at_pay = λ s f e. record { rows = end_refl s.rest; events = end_refl s.out; errors = front_refl s.chosen; fuels = omega arith; stops = λ w e. e };
  at_keep = λ r a s. still s _ refl refl refl refl refl;
  at_count = λ s. still s _ refl refl refl refl refl;
  at_emit = λ x p s. record { rows = end_refl s.rest; events = end_cons x s.out s.out (end_refl s.out); errors = front_refl s.chosen; fuels = le_refl s.fuel; stops = λ w e. e };
  at_trivia = λ s. record { rows = gap_end s.mode s.rest; events = gap_out_end s.mode s.rest s.out; errors = front_refl s.chosen; fuels = le_refl s.fuel; stops = λ w e. e };
  at_take = λ S s a is m e. record { rows = take_end S s.rest a is e; events = end_cons _ s.out _ (gap_out_end s.mode s.rest s.out); errors = front_refl s.chosen; fuels = le_refl s.fuel; stops = λ w e. e };
  at_skip = λ S s. record { rows = seek_end S s.rest; events = seek_out_end S s.rest s.out; errors = front_refl s.chosen; fuels = le_refl s.fuel; stops = λ w e. e };
  at_back = λ s t p. record { rows = end_refl s.rest; events = end_refl s.out; errors = p.errors; fuels = p.fuels; stops = p.stops };
}

pub grows : (E : Bool) (d : ℕ) (o : Bool) (a : Production) (s : State) → Grown s (run E d o a s)
grows E d o a = run_kept (ordered Grown grown) E d o a

pub running_before : (s t : State) → Grown s t → Running t.mode → Running s.mode
running_before s t g r = go s.mode refl
  where
    go : (m : Mode) → s.mode ≡ m → Running m
    go ok e = tt
    go failed e = tt
    go (stopped w) e = subst Running (g.stops w e) r

charge_not : (f : ℕ) (t : State) → Running (charge zero f t).mode → ⊥
charge_not zero t r = halted_not spent t.mode r
charge_not (suc f) t r = halted_not deep t.mode r

-- with no depth left a production stops
pub run_zero : (E : Bool) (o : Bool) (a : Production) (s : State) → Running (run E zero o a s).mode → ⊥
run_zero E o a s r = let t : State = begin zero s in charge_not s.fuel (trivia s) (running_before t (finish o (kind a) (length t.rest) t) (finish_up Grown grown o (kind a) (length t.rest) t) r)

-- no error event is written inside an item
abbrev pub Unsaid : State → State → Type 0
Unsaid s t = bads t.out ≡ bads s.out

trivia_bads : (r : List ℕ) (o : List Event) → bads (trivia_out r o) ≡ bads o
trivia_bads [] o = refl
trivia_bads (i ∷ is) o = go (trivial i) (trivia_bads is (leaf i (suc (length is)) ∷ o))
  where
    go : (b : Bool) → bads (trivia_out is (leaf i (suc (length is)) ∷ o)) ≡ bads o → bads (elim b as (λ _. List Event) [ true ↦ trivia_out is (leaf i (suc (length is)) ∷ o) | false ↦ o ]) ≡ bads o
    go true h = h
    go false h = refl

pub gap_bads : (m : Mode) (r : List ℕ) (o : List Event) → bads (gap_out m r o) ≡ bads o
gap_bads ok r o = trivia_bads r o
gap_bads failed r o = refl
gap_bads (stopped w) r o = refl

pub seek_bads : (S r : List ℕ) (o : List Event) → bads (seek_out S r o) ≡ bads o
seek_bads S [] o = refl
seek_bads S (i ∷ is) o = go (past (next S (i ∷ is))) (seek_bads S is (leaf (kind_of i) (suc (length is)) ∷ o))
  where
    go : (b : Bool) → bads (seek_out S is (leaf (kind_of i) (suc (length is)) ∷ o)) ≡ bads o → bads (elim b as (λ _. List Event) [ true ↦ o | false ↦ seek_out S is (leaf (kind_of i) (suc (length is)) ∷ o) ]) ≡ bads o
    go true h = refl
    go false h = h

plain_bads : (e : Event) (o : List Event) → Plain e → bads (e ∷ o) ≡ bads o
plain_bads (Event.opened n) o p = refl
plain_bads (leaf a n) o p = refl
plain_bads (Event.closed a n m) o p = refl
plain_bads (Event.bad n c) o p = absurd p

pub unsaid : Order Unsaid
unsaid = record {
  same = λ s. refl;
  trans = λ s t u p q. q ∙ p;
  at_turn = λ m s r. refl;
  at_note = λ w u s. refl;
  at_choose = λ s. refl;
  at_pay = λ s f e. refl;
  at_keep = λ r a s. refl;
  at_count = λ s. refl;
  at_emit = λ e p s. plain_bads e s.out p;
  at_trivia = λ s. gap_bads s.mode s.rest s.out;
  at_take = λ S s a is m e. gap_bads s.mode s.rest s.out;
  at_skip = λ S s. seek_bads S s.rest s.out;
  at_back = λ s t p. refl;
}
