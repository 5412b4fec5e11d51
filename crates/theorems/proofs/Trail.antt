-- What a reading writes goes from row to row: each token event is of the next row, a node is opened at the row that is next, and its closing names that row
-- and the row that is next then.
use Prim.Native.Nat.{ℕ, zero, suc}
use mathlib.Core.Path.{◌≡◌, refl, ap, ap₂, sym, ◌∙◌, subst}
use mathlib.Core.List.{List, [], ◌∷◌, ◌++◌, append-nil, append_assoc}
use mathlib.Core.Bool.{Bool, true, false}
use lib.ListN.{length}
use Rattle.kinds.specs.Kinds as kinds
use Rattle.kinds.specs.Sets.{kind_of, trivial}
use Rattle.definition.specs.Prog.{Prog}
use Rattle.definition.specs.Grammar.{item_of}
use Rattle.definition.specs.Run.{State, Reader, Limits, Event, opened, leaf, closed, bad, Choice, stray, Mode, ok, failed, stopped, Next, end, other, hit, next, sought, skip, past, trivia_out, trivia, seek, seek_out, take, turn, put, begin, finish, nodes, errors, run, rule_keywords, item_keywords, read_item, stray_item, item_at, flush, again, item, items, start, read}
use Rattle.definition.proofs.Gap.{gap, gap_out}
use Rattle.definition.proofs.Induct.{exec_kept, run_kept}
use Rattle.definition.proofs.Order.{Steps, stepped}
use Rattle.definition.proofs.Grows.{sought_hit}
use Rattle.definition.proofs.Shrink.{charge_rest}
use Rattle.definition.proofs.Tidy.{charge_same}

-- back over w, from its last event to its first: from q rows left to p, the nodes still to be opened having their begin rows in the first list, and after
-- it in the second
abbrev pub Trail : ℕ → List ℕ → List Event → ℕ → List ℕ → Type 0
Trail q st [] p st' = (q ≡ p) × (st ≡ st')
Trail q [] (opened n ∷ w) p st' = ⊥
Trail q (a ∷ st) (opened n ∷ w) p st' = (n ≡ q) × (a ≡ n) × Trail q st w p st'
Trail q st (leaf k n ∷ w) p st' = (n ≡ suc q) × Trail n st w p st'
Trail q st (closed k n m ∷ w) p st' = (m ≡ q) × Trail q (n ∷ st) w p st'
Trail q st (bad n c ∷ w) p st' = Trail q st w p st'

trail_trans : (w v : List Event) (q p u : ℕ) (a b c : List ℕ) → Trail q a w p b → Trail p b v u c → Trail q a (w ++ v) u c
trail_trans [] v q p u a b c x y = subst (λ (i : ℕ). Trail i a v u c) (sym x.0) (subst (λ (l : List ℕ). Trail p l v u c) (sym x.1) y)
trail_trans (opened n ∷ w) v q p u [] b c x y = absurd x
trail_trans (opened n ∷ w) v q p u (i ∷ a) b c x y = (x.0, x.1, trail_trans w v q p u a b c x.2 y)
trail_trans (leaf k n ∷ w) v q p u a b c x y = (x.0, trail_trans w v n p u a b c x.1 y)
trail_trans (closed k n m ∷ w) v q p u a b c x y = (x.0, trail_trans w v q p u (n ∷ a) b c x.1 y)
trail_trans (bad n k ∷ w) v q p u a b c x y = trail_trans w v q p u a b c x y

-- from p rows left and the events a to q rows left and the events b
pub record Went (p : ℕ) (a : List Event) (q : ℕ) (b : List Event) : Type 0 where
  pub new : List Event
  pub joins : new ++ a ≡ b
  pub trail : (st : List ℕ) → Trail q st new p st

stays : (p : ℕ) (a : List Event) → Went p a p a
stays p a = record { new = []; joins = refl; trail = λ st. (refl, refl) }

went_trans : (p q u : ℕ) (a b c : List Event) → Went p a q b → Went q b u c → Went p a u c
went_trans p q u a b c f g = record { new = g.new ++ f.new; joins = append_assoc g.new f.new a ∙ ap (λ (l : List Event). g.new ++ l) f.joins ∙ g.joins; trail = λ st. trail_trans g.new f.new u q p st st st (g.trail st) (f.trail st) }

a_leaf : (k q : ℕ) (o : List Event) → Went (suc q) o q (leaf k (suc q) ∷ o)
a_leaf k q o = record { new = leaf k (suc q) ∷ []; joins = refl; trail = λ st. (refl, (refl, refl)) }

a_bad : (p n : ℕ) (c : Choice) (o : List Event) → Went p o p (bad n c ∷ o)
a_bad p n c o = record { new = bad n c ∷ []; joins = refl; trail = λ st. (refl, refl) }

a_node : (k n m : ℕ) (o b : List Event) → Went n (opened n ∷ o) m b → Went n o m (closed k n m ∷ b)
a_node k n m o b p = record { new = closed k n m ∷ (p.new ++ (opened n ∷ [])); joins = ap (λ (x : List Event). closed k n m ∷ x) (append_assoc p.new (opened n ∷ []) o ∙ p.joins); trail = λ st. (refl, trail_trans p.new (opened n ∷ []) m n n (n ∷ st) (n ∷ st) st (p.trail (n ∷ st)) (refl, refl, (refl, refl))) }

trivia_went : (r : List ℕ) (o : List Event) → Went (length r) o (length (skip r)) (trivia_out r o)
trivia_went [] o = stays 0 o
trivia_went (i ∷ is) o = go (trivial i) (trivia_went is (leaf i (suc (length is)) ∷ o))
  where
    go : (b : Bool) → Went (length is) (leaf i (suc (length is)) ∷ o) (length (skip is)) (trivia_out is (leaf i (suc (length is)) ∷ o)) → Went (suc (length is)) o (length {A = ℕ} (elim b as (λ _. List ℕ) [ true ↦ skip is | false ↦ i ∷ is ])) (elim b as (λ _. List Event) [ true ↦ trivia_out is (leaf i (suc (length is)) ∷ o) | false ↦ o ])
    go true h = went_trans (suc (length is)) (length is) (length (skip is)) o (leaf i (suc (length is)) ∷ o) (trivia_out is (leaf i (suc (length is)) ∷ o)) (a_leaf i (length is) o) h
    go false h = stays (suc (length is)) o

gap_went : (m : Mode) (r : List ℕ) (o : List Event) → Went (length r) o (length (gap m r)) (gap_out m r o)
gap_went ok r o = trivia_went r o
gap_went failed r o = stays (length r) o
gap_went (stopped w) r o = stays (length r) o

seek_went : (S r : List ℕ) (o : List Event) → Went (length r) o (length (seek S r)) (seek_out S r o)
seek_went S [] o = stays 0 o
seek_went S (i ∷ is) o = go (past (next S (i ∷ is))) (seek_went S is (leaf (kind_of i) (suc (length is)) ∷ o))
  where
    go : (b : Bool) → Went (length is) (leaf (kind_of i) (suc (length is)) ∷ o) (length (seek S is)) (seek_out S is (leaf (kind_of i) (suc (length is)) ∷ o)) → Went (suc (length is)) o (length {A = ℕ} (elim b as (λ _. List ℕ) [ true ↦ i ∷ is | false ↦ seek S is ])) (elim b as (λ _. List Event) [ true ↦ o | false ↦ seek_out S is (leaf (kind_of i) (suc (length is)) ∷ o) ])
    go true h = stays (suc (length is)) o
    go false h = went_trans (suc (length is)) (length is) (length (seek S is)) o (leaf (kind_of i) (suc (length is)) ∷ o) (seek_out S is (leaf (kind_of i) (suc (length is)) ∷ o)) (a_leaf (kind_of i) (length is) o) h

abbrev Goes : State → State → Type 0
Goes s t = Went (length s.rest) s.out (length t.rest) t.out

goes_trans : (s t u : State) → Goes s t → Goes t u → Goes s u
goes_trans s t u = went_trans (length s.rest) (length t.rest) (length u.rest) s.out t.out u.out

trivia_goes : (s : State) → Goes s (trivia s)
trivia_goes s = gap_went s.mode s.rest s.out

take_goes : (S : List ℕ) (s : State) (a : ℕ) (is : List ℕ) → s.mode ≡ ok → next S s.rest ≡ hit a is → Goes s (take a is (trivia s))
take_goes S s a is m e =
    let q = sought_hit S (skip s.rest) a is e in
    let n : length (trivia s).rest ≡ suc (length is) = ap (λ (x : Mode). length (gap x s.rest)) m ∙ ap length q.1 in
    went_trans (length s.rest) (suc (length is)) (length is) s.out (trivia s).out (leaf a (suc (length is)) ∷ (trivia s).out) (subst (λ (i : ℕ). Went (length s.rest) s.out i (trivia s).out) n (trivia_goes s)) (a_leaf a (length is) (trivia s).out)

finish_out : (o : Bool) (a n : ℕ) (s : State) → ((finish o a n s).rest ≡ s.rest) × ((k : ℕ) × ((finish o a n s).out ≡ closed k n (length s.rest) ∷ s.out))
finish_out o a n s = go o s.mode s
  where
    go : (o : Bool) (m : Mode) (s : State) → let t : State = finish o a n (turn m s) in (t.rest ≡ s.rest) × ((k : ℕ) × (t.out ≡ closed k n (length s.rest) ∷ s.out))
    go o ok s = (refl, (a, refl))
    go true failed s = (refl, (kinds.ERROR, refl))
    go true (stopped w) s = (refl, (kinds.ERROR, refl))
    go false failed s = (refl, (kinds.ERROR, refl))
    go false (stopped w) s = (refl, (kinds.ERROR, refl))

node_goes : (d : ℕ) (o : Bool) (a : ℕ) (f : Reader) → ((s : State) → Goes s (f s)) → (s : State) → Goes s (nodes d o a f s)
node_goes d o a f F s =
    let t : State = begin d s in
    let u : State = f t in
    let n : ℕ = length t.rest in
    let z = finish_out o a n u in
    let e : length t.rest ≡ length (trivia s).rest = ap length (charge_rest d s.fuel (trivia s)) in
    let w : t.out ≡ opened n ∷ (trivia s).out = ap₂ (λ (i : ℕ) (x : List Event). opened i ∷ x) (sym e) (charge_same 0 d s.fuel (trivia s)).3 in
    let inner : Went n (trivia s).out (length u.rest) (closed z.1.0 n (length u.rest) ∷ u.out) = a_node z.1.0 n (length u.rest) (trivia s).out u.out (subst (λ (x : List Event). Went n x (length u.rest) u.out) w (F t)) in
    let whole = went_trans (length s.rest) n (length u.rest) s.out (trivia s).out (closed z.1.0 n (length u.rest) ∷ u.out) (subst (λ (i : ℕ). Went (length s.rest) s.out i (trivia s).out) (sym e) (trivia_goes s)) inner in
    subst (λ (x : List Event). Went (length s.rest) s.out (length (nodes d o a f s).rest) x) (sym z.1.1) (subst (λ (i : ℕ). Went (length s.rest) s.out i (closed z.1.0 n (length u.rest) ∷ u.out)) (sym (ap length z.0)) whole)

going : Steps Goes
going = record {
  same = λ s. stays (length s.rest) s.out;
  trans = goes_trans;
  at_turn = λ m s r. stays (length s.rest) s.out;
  at_expected = λ ns s. stays (length s.rest) s.out;
  at_unexpected = λ S s a is h. stays (length s.rest) s.out;
  at_choose = λ s. stays (length s.rest) s.out;
  at_keep = λ r a s. stays (length s.rest) s.out;
  at_trivia = trivia_goes;
  at_take = take_goes;
  at_skip = λ S s. seek_went S s.rest s.out;
  at_back = λ s t p. stays (length s.rest) s.out;
  at_node = node_goes;
}

reads_goes : (L : Limits) (p : Prog) (s : State) → Goes s (read_item L p s)
unfolding read_item
reads_goes L p s = exec_kept (stepped Goes going) L.depth (run L.entrypoint L.depth) (run_kept (stepped Goes going) L.entrypoint L.depth) p false s

stray_goes : (s : State) → Goes s (stray_item s)
stray_goes s =
    let n : ℕ = length s.rest in
    went_trans n n (length (seek rule_keywords s.rest)) s.out (bad n stray ∷ s.out) (stray_item s).out (a_bad n n stray s.out) (a_node kinds.ERROR n (length (seek rule_keywords s.rest)) (bad n stray ∷ s.out) (seek_out rule_keywords s.rest (opened n ∷ bad n stray ∷ s.out)) (seek_went rule_keywords s.rest (opened n ∷ bad n stray ∷ s.out)))

errors_went : (p : ℕ) (c : List (ℕ × Choice)) (o : List Event) → Went p o p (errors c o)
errors_went p [] o = stays p o
errors_went p (e ∷ c) o = went_trans p p p o (bad e.0 e.1 ∷ o) (errors c (bad e.0 e.1 ∷ o)) (a_bad p e.0 e.1 o) (errors_went p c (bad e.0 e.1 ∷ o))

flush_goes : (u : State) → Goes u (again (flush u))
flush_goes u = go u.mode u
  where
    go : (m : Mode) (u : State) → Goes (turn m u) (again (flush (turn m u)))
    go ok u = errors_went (length u.rest) u.chosen u.out
    go failed u = errors_went (length u.rest) u.chosen u.out
    go (stopped w) u = errors_went (length u.rest) u.chosen u.out

item_goes : (L : Limits) (s : State) → Goes s (item L s)
item_goes L s =
    let x : Next = sought item_keywords (trivia s).rest in
    let u : State = item_at L x (trivia s) in
    goes_trans s u (item L s) (goes_trans s (trivia s) u (trivia_goes s) (at x (trivia s))) (flush_goes u)
  where
    at : (x : Next) (t : State) → Goes t (item_at L x t)
    at end t = stays (length t.rest) t.out
    at other t = stray_goes t
    at (hit a is) t = reads_goes L (item_of a) t

items_goes : (L : Limits) (n : ℕ) (s : State) → Goes s (items L n s)
items_goes L zero s = stays (length s.rest) s.out
items_goes L (suc n) s = go s.rest s.mode s (items_goes L n)
  where
    go : (r : List ℕ) (o : Mode) (s : State) → ((u : State) → Goes u (items L n u)) → let t : State = turn o (put r s.out s) in Goes t (items L (suc n) t)
    go [] o s H = stays 0 s.out
    go (i ∷ is) failed s H = stays (suc (length is)) s.out
    go (i ∷ is) (stopped w) s H = stays (suc (length is)) s.out
    go (i ∷ is) ok s H = let t : State = turn ok (put (i ∷ is) s.out s) in goes_trans t (item L t) (items L n (item L t)) (item_goes L t) (H (item L t))

-- a whole reading
pub read_trail : (L : Limits) (r : List ℕ) (f : ℕ) → let t : State = read L r f in Trail (length t.rest) [] t.out (length r) []
read_trail L r f =
    let t : State = read L r f in
    let w = items_goes L (length r) (start r f) in
    subst (λ (o : List Event). Trail (length t.rest) [] o (length r) []) (sym (append-nil w.new) ∙ w.joins) (w.trail [])
