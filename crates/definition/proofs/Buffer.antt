-- The event buffer: what a writing does to it, also while nodes are open.
use Prim.Native.Nat.{ℕ, zero, suc, ◌+◌, ◌-◌, ◌*◌, ◌≤◌, ◌<◌}
use mathlib.Core.Path.{◌≡◌, refl, ap, ap₂, sym, ◌∙◌, subst}
use mathlib.Core.List.{List, [], ◌∷◌, ◌++◌, append-nil, append_assoc}
use mathlib.Core.Bool.{Bool, true, false}
use lib.Dec.{eqb}
use lib.ListN.{length, get_or, set, length-set, length-append}
use native.Mathlib.Omega.{arith}
use Rattle.kinds.specs.Kinds as kinds
use Rattle.kinds.specs.Sets.{kind_of, trivial}
use Rattle.shapes.specs.Sort as Sort
use Rattle.shapes.specs.Shapes.{EVENT, KIND, END, DEPTH, Entry, event, flat}
use Rattle.definition.specs.Prog.{Prog}
use Rattle.definition.specs.Grammar.{item_of}
use Rattle.definition.specs.Run.{State, Reader, Limits, Event, opened, leaf, closed, bad, Mode, ok, failed, stopped, next, past, trivia_out, trivia, seek_out, turn, charge, begin, finish, nodes, exec, run, Choice, stray, Next, end, other, hit, sought, seek, errors, rule_keywords, item_keywords, read_item, stray_item, item_at, flush, again, item}
use Rattle.definition.specs.Render.{Source, starts_at, ends_at, span_end, bads, render, inside}
use Rattle.definition.specs.Buffer.{height, cell, next_depth, patch, buffered, buffer}
use Rattle.definition.specs.Open.{Nest, Adds, Open}
use Rattle.definition.proofs.Gap.{gap_out}
use Rattle.definition.proofs.Induct.{exec_kept, run_kept}
use Rattle.definition.proofs.Order.{Steps, stepped}
use Rattle.definition.proofs.Tidy.{nest_trans}

-- APPENDING
module _ (x : Source) where
  pub buffer_none : buffer x [] ≡ []
  unfolding buffered
  buffer_none = refl

  pub buffer_opened : (n : ℕ) (o : List Event) → buffer x (opened n ∷ o) ≡ buffer x o ++ event Sort.BEGIN 0 (starts_at x n) (starts_at x n) (cell (height o))
  unfolding buffered
  buffer_opened n o = refl

  pub buffer_leaf : (a n : ℕ) (o : List Event) → buffer x (leaf a n ∷ o) ≡ buffer x o ++ event Sort.TOKEN a (starts_at x n) (ends_at x n) (cell (height o))
  unfolding buffered
  buffer_leaf a n o = refl

  pub buffer_bad : (n : ℕ) (c : Choice) (o : List Event) → buffer x (bad n c ∷ o) ≡ buffer x o ++ event Sort.ERROR (bads o) (starts_at x n) (ends_at x n) (cell (height o))
  unfolding buffered
  buffer_bad n c o = refl

event_more : (l q : List ℕ) (n : ℕ) → length q ≡ EVENT → length l ≡ EVENT * n → length (l ++ q) ≡ EVENT * suc n
event_more l q n h k = length-append l q ∙ omega arith

buffered_length : (x : Source) (st : List (ℕ × ℕ)) (o : List Event) → length (buffered x st o) ≡ EVENT * length o
unfolding buffered
buffered_length x st [] = refl
buffered_length x [] (opened n ∷ es) = event_more (buffered x [] es) _ (length es) refl (buffered_length x [] es)
buffered_length x (t ∷ st) (opened n ∷ es) = event_more (buffered x st es) _ (length es) refl (buffered_length x st es)
buffered_length x st (leaf a n ∷ es) = event_more (buffered x st es) _ (length es) refl (buffered_length x st es)
buffered_length x st (closed a n m ∷ es) = event_more (buffered x ((a, span_end x n m) ∷ st) es) _ (length es) refl (buffered_length x ((a, span_end x n m) ∷ st) es)
buffered_length x st (bad n c ∷ es) = event_more (buffered x st es) _ (length es) refl (buffered_length x st es)

pub buffer_length : (x : Source) (o : List Event) → length (buffer x o) ≡ EVENT * length o
buffer_length x o = buffered_length x [] o

-- CLOSING
set_before : (l q : List ℕ) (i a : ℕ) → i < length l → set (l ++ q) i a ≡ set l i a ++ q
set_before [] q i a h = absurd (omega (arith, h))
set_before (y ∷ l) q zero a h = refl
set_before (y ∷ l) q (suc i) a h = ap (λ (t : List ℕ). y ∷ t) (set_before l q i a (omega (arith, h)))

set_after : (l q : List ℕ) (i a : ℕ) → set (l ++ q) (length l + i) a ≡ l ++ set q i a
set_after [] q i a = ap (λ (j : ℕ). set q j a) (native.Mathlib.Nat.zero-add i)
set_after (y ∷ l) q i a = ap (λ (j : ℕ). set (y ∷ l ++ q) j a) (native.Mathlib.Nat.suc-add (length l) i) ∙ ap (λ (t : List ℕ). y ∷ t) (set_after l q i a)

patch_before : (p a e : ℕ) (l q : List ℕ) → EVENT ≤ p → p ≤ length l → patch p a e (l ++ q) ≡ patch p a e l ++ q
patch_before p a e l q h g =
    ap (λ (t : List ℕ). set t (p - EVENT + END) e) (set_before l q (p - EVENT + KIND) a (omega (arith, h, g)))
    ∙ set_before (set l (p - EVENT + KIND) a) q (p - EVENT + END) e (omega (arith, h, g, length-set l (p - EVENT + KIND) a))

-- the provisional event is the last
patch_last : (k a e s d : ℕ) (l : List ℕ) → length l ≡ EVENT * k → patch (EVENT * suc k) a e (l ++ event Sort.BEGIN 0 s s d) ≡ l ++ event Sort.BEGIN a s e d
patch_last k a e s d l h =
    let i₁ : EVENT * suc k - EVENT + KIND ≡ length l + KIND = omega (arith, h) in
    let i₂ : EVENT * suc k - EVENT + END ≡ length l + END = omega (arith, h) in
    ap₂ (λ (i j : ℕ). set (set (l ++ event Sort.BEGIN 0 s s d) i a) j e) i₁ i₂
    ∙ ap (λ (t : List ℕ). set t (length l + END) e) (set_after l (event Sort.BEGIN 0 s s d) KIND a)
    ∙ set_after l (event Sort.BEGIN a s s d) END e

module _ (x : Source) (t : ℕ × ℕ) (n : ℕ) (before : List Event) where
  abbrev spot : ℕ
  spot = EVENT * suc (length before)

  abbrev all : List Event → List Event
  all inner = inner ++ (opened n ∷ before)

  deep : (st : List (ℕ × ℕ)) (inner : List Event) → spot ≤ length (buffered x st (all inner))
  deep st inner = omega (arith, buffered_length x st (all inner), length-append inner (opened n ∷ before))

  one_more : (st st' : List (ℕ × ℕ)) (inner : List Event) (q : List ℕ) → buffered x st' (all inner) ≡ patch spot t.0 t.1 (buffered x st (all inner)) → buffered x st' (all inner) ++ q ≡ patch spot t.0 t.1 (buffered x st (all inner) ++ q)
  one_more st st' inner q h = ap (λ (l : List ℕ). l ++ q) h ∙ sym (patch_before spot t.0 t.1 (buffered x st (all inner)) q (omega arith) (deep st inner))

  -- a closing more at the stack's bottom reaches the opening that inner leaves open
  reaches : (st : List (ℕ × ℕ)) (inner : List Event) → Nest (length st) inner 0 → buffered x (st ++ (t ∷ [])) (all inner) ≡ patch spot t.0 t.1 (buffered x st (all inner))
  unfolding buffered
  reaches [] [] p = sym (patch_last (length before) t.0 t.1 (starts_at x n) (cell (height before)) (buffered x [] before) (buffered_length x [] before))
  reaches (u ∷ st) [] p = absurd (omega (arith, p))
  reaches [] (opened m ∷ w) p = absurd p
  reaches (u ∷ st) (opened m ∷ w) p = one_more st (st ++ (t ∷ [])) w (event Sort.BEGIN u.0 (starts_at x m) u.1 (cell (height (all w)))) (reaches st w p)
  reaches st (leaf a m ∷ w) p = one_more st (st ++ (t ∷ [])) w (event Sort.TOKEN a (starts_at x m) (ends_at x m) (cell (height (all w)))) (reaches st w p)
  reaches st (closed a m k ∷ w) p = one_more ((a, span_end x m k) ∷ st) (((a, span_end x m k) ∷ st) ++ (t ∷ [])) w (event Sort.END a (starts_at x m) (span_end x m k) (cell (height (all w) - 1))) (reaches ((a, span_end x m k) ∷ st) w p)
  reaches st (bad m c ∷ w) p = one_more st (st ++ (t ∷ [])) w (event Sort.ERROR (bads (all w)) (starts_at x m) (ends_at x m) (cell (height (all w)))) (reaches st w p)

pub buffer_closed : (x : Source) (a n m j : ℕ) (inner before : List Event) → Nest 0 inner 0 → let o : List Event = inner ++ (opened j ∷ before) in
    buffer x (closed a n m ∷ o) ≡ patch (EVENT * suc (length before)) a (span_end x n m) (buffer x o) ++ event Sort.END a (starts_at x n) (span_end x n m) (cell (height o - 1))
unfolding buffered
buffer_closed x a n m j inner before p = ap (λ (l : List ℕ). l ++ event Sort.END a (starts_at x n) (span_end x n m) (cell (height (inner ++ (opened j ∷ before)) - 1))) (reaches x (a, span_end x n m) j before [] inner p)

-- THE DEPTH, out of what stands before the place
cell_suc : (n : ℕ) → cell (cell n + 1) ≡ cell (suc n)
cell_suc n = native.Mathlib.Nat.mod-add-mod n 4294967296 1 ∙ ap cell (native.Mathlib.Numerals.add-one n)

-- the last event's sort and depth
last_of : (l : List ℕ) (n : ℕ) (b : List ℕ) (s a c e d : ℕ) → length b ≡ EVENT * n → lib.ListN.take (EVENT * suc n) l ≡ b ++ event s a c e d → (get_or l (EVENT * suc n - EVENT) 0 ≡ s) × (get_or l (EVENT * suc n - EVENT + DEPTH) 0 ≡ d)
last_of l n b s a c e d h t = (ap (λ (i : ℕ). get_or l i 0) (sym (native.Mathlib.Nat.add-zero (EVENT * suc n - EVENT))) ∙ at 0 (omega arith), at DEPTH (omega arith))
  where
    at : (i : ℕ) → i < EVENT → get_or l (EVENT * suc n - EVENT + i) 0 ≡ get_or (event s a c e d) i 0
    at i k =
        sym (lib.Seq.get_or-take (EVENT * suc n) l (EVENT * suc n - EVENT + i) 0 (omega (arith, k)))
        ∙ ap₂ (λ (m : List ℕ) (j : ℕ). get_or m j 0) t (omega (arith, h))
        ∙ lib.Seq.get_or-append-add b (event s a c e d) i 0

next_behind : (l : List ℕ) (n : ℕ) (s d : ℕ) → (get_or l (EVENT * suc n - EVENT) 0 ≡ s) × (get_or l (EVENT * suc n - EVENT + DEPTH) 0 ≡ d) → next_depth l (EVENT * suc n) ≡ elim (eqb s Sort.BEGIN) [ true ↦ cell (d + 1) | false ↦ d ]
next_behind l n s d p =
    ap (λ (c : Bool). elim c [ true ↦ 1 | false ↦ elim (eqb (get_or l (EVENT * suc n - EVENT) 0) Sort.BEGIN) [ true ↦ cell (get_or l (EVENT * suc n - EVENT + DEPTH) 0 + 1) | false ↦ get_or l (EVENT * suc n - EVENT + DEPTH) 0 ] ]) (borrow.Author.Tests.le-ltb (EVENT * suc n) EVENT (omega arith))
    ∙ ap₂ (λ (i j : ℕ). elim (eqb i Sort.BEGIN) [ true ↦ cell (j + 1) | false ↦ j ]) p.0 p.1

pub next_is : (x : Source) (l : List ℕ) (o : List Event) → lib.ListN.take (EVENT * length o) l ≡ buffer x o → next_depth l (EVENT * length o) ≡ cell (height o)
unfolding buffered
next_is x l [] t = refl
next_is x l (opened n ∷ o) t = next_behind l (length o) Sort.BEGIN (cell (height o)) (last_of l (length o) (buffered x [] o) Sort.BEGIN 0 (starts_at x n) (starts_at x n) (cell (height o)) (buffered_length x [] o) t) ∙ cell_suc (height o)
next_is x l (leaf a n ∷ o) t = next_behind l (length o) Sort.TOKEN (cell (height o)) (last_of l (length o) (buffered x [] o) Sort.TOKEN a (starts_at x n) (ends_at x n) (cell (height o)) (buffered_length x [] o) t)
next_is x l (closed a n m ∷ o) t = let st : List (ℕ × ℕ) = (a, span_end x n m) ∷ [] in next_behind l (length o) Sort.END (cell (height o - 1)) (last_of l (length o) (buffered x st o) Sort.END a (starts_at x n) (span_end x n m) (cell (height o - 1)) (buffered_length x st o) t)
next_is x l (bad n c ∷ o) t = next_behind l (length o) Sort.ERROR (cell (height o)) (last_of l (length o) (buffered x [] o) Sort.ERROR (bads o) (starts_at x n) (ends_at x n) (cell (height o)) (buffered_length x [] o) t)

-- FINISHED: where every node is closed, and none lies so deep that a cell cannot hold its depth
abbrev pub Low : ℕ → List Event → Type 0
Low m [] = 1 ≤ m
Low m (e ∷ o) = (height (e ∷ o) ≤ m) × Low m o

pub low_here : (m : ℕ) (o : List Event) → Low m o → height o ≤ m
low_here m [] l = l
low_here m (e ∷ o) l = l.0

-- what w leaves open is counted
pub height_nest : (h : ℕ) (w a : List Event) → Nest h w 0 → height (w ++ a) ≡ height a + h
height_nest h [] a p = omega (arith, p)
height_nest zero (opened n ∷ w) a p = absurd p
height_nest (suc h) (opened n ∷ w) a p = omega (arith, height_nest h w a p)
height_nest h (leaf k n ∷ w) a p = height_nest h w a p
height_nest h (closed k n m ∷ w) a p = omega (arith, height_nest (suc h) w a p)
height_nest h (bad n c ∷ w) a p = height_nest h w a p

pub cell_small : (n : ℕ) → n < 4294967296 → cell n ≡ n
cell_small n h = omega (arith, h)

module _ (x : Source) (m : ℕ) (small : m < 4294967296) where
  level : (h : ℕ) (o : List Event) → Nest h o 0 → Low m o → suc h ≡ cell (height o)
  level h o p l =
      let e : height o ≡ suc h = ap height (sym (append-nil o)) ∙ height_nest h o [] p ∙ omega arith in
      sym (cell_small (height o) (omega (arith, low_here m o l, small)) ∙ e)

  behind : (h : ℕ) (o : List Event) → Nest (suc h) o 0 → Low m o → suc h ≡ cell (height o - 1)
  behind h o p l =
      let e : height o ≡ suc (suc h) = ap height (sym (append-nil o)) ∙ height_nest (suc h) o [] p ∙ omega arith in
      sym (cell_small (height o - 1) (omega (arith, low_here m o l, small)) ∙ omega (arith, e))

  entry_on : (l : List ℕ) (s a b c : ℕ) {d d' : ℕ} (z : List Entry) → d ≡ d' → l ++ flat ((s, a, b, c, d) ∷ z) ≡ (l ++ event s a b c d') ++ flat z
  entry_on l s a b c {d} z e = ap (λ (i : ℕ). l ++ flat ((s, a, b, c, i) ∷ z)) e ∙ sym (append_assoc l (event s a b c _) (flat z))

  finished : (st : List (ℕ × ℕ)) (o : List Event) (z : List Entry) → Nest (length st) o 0 → Low m o → flat (render x st o z) ≡ buffered x st o ++ flat z
  unfolding buffered
  finished st [] z p l = refl
  finished [] (opened n ∷ es) z p l = absurd p
  finished (t ∷ st) (opened n ∷ es) z p l = finished st es ((Sort.BEGIN, t.0, starts_at x n, t.1, suc (length st)) ∷ z) p l.1 ∙ entry_on (buffered x st es) Sort.BEGIN t.0 (starts_at x n) t.1 z (level (length st) es p l.1)
  finished st (leaf a n ∷ es) z p l = finished st es ((Sort.TOKEN, a, starts_at x n, ends_at x n, suc (length st)) ∷ z) p l.1 ∙ entry_on (buffered x st es) Sort.TOKEN a (starts_at x n) (ends_at x n) z (level (length st) es p l.1)
  finished st (closed a n j ∷ es) z p l = finished ((a, span_end x n j) ∷ st) es ((Sort.END, a, starts_at x n, span_end x n j, suc (length st)) ∷ z) p l.1 ∙ entry_on (buffered x ((a, span_end x n j) ∷ st) es) Sort.END a (starts_at x n) (span_end x n j) z (behind (length st) es p l.1)
  finished st (bad n c ∷ es) z p l = finished st es ((Sort.ERROR, bads es, starts_at x n, ends_at x n, suc (length st)) ∷ z) p l.1 ∙ entry_on (buffered x st es) Sort.ERROR (bads es) (starts_at x n) (ends_at x n) z (level (length st) es p l.1)

  pub buffer_finished : (o : List Event) → Nest 0 o 0 → Low m o → buffer x o ≡ flat (inside x o)
  buffer_finished o p l = sym (finished [] o [] p l ∙ append-nil (buffered x [] o))

-- BALANCE: what any reader adds is nested, every closing with its opening. No hypothesis on the state.
abbrev pub Adding : State → State → Type 0
Adding s t = Adds s.out t.out

pub none_added : (a : List Event) → Adds a a
none_added a = record { new = []; joins = refl; nest = λ h. refl }

adds_trans : (a b c : List Event) → Adds a b → Adds b c → Adds a c
adds_trans a b c p q = record { new = q.new ++ p.new; joins = append_assoc q.new p.new a ∙ ap (λ (l : List Event). q.new ++ l) p.joins ∙ q.joins; nest = λ h. nest_trans q.new p.new h h h (q.nest h) (p.nest h) }

leaf_added : (k n : ℕ) (o : List Event) → Adds o (leaf k n ∷ o)
leaf_added k n o = record { new = leaf k n ∷ []; joins = refl; nest = λ h. refl }

node_added : (a n m j : ℕ) (o b : List Event) → Adds (opened j ∷ o) b → Adds o (closed a n m ∷ b)
node_added a n m j o b p = record { new = closed a n m ∷ (p.new ++ (opened j ∷ [])); joins = ap (λ (x : List Event). closed a n m ∷ x) (append_assoc p.new (opened j ∷ []) o ∙ p.joins); nest = λ h. nest_trans p.new (opened j ∷ []) (suc h) (suc h) h (p.nest (suc h)) refl }

trivia_added : (r : List ℕ) (o : List Event) → Adds o (trivia_out r o)
trivia_added [] o = none_added o
trivia_added (i ∷ is) o = go (trivial i) (trivia_added is (leaf i (suc (length is)) ∷ o))
  where
    go : (b : Bool) → Adds (leaf i (suc (length is)) ∷ o) (trivia_out is (leaf i (suc (length is)) ∷ o)) → Adds o (elim b as (λ _. List Event) [ true ↦ trivia_out is (leaf i (suc (length is)) ∷ o) | false ↦ o ])
    go true h = adds_trans o (leaf i (suc (length is)) ∷ o) (trivia_out is (leaf i (suc (length is)) ∷ o)) (leaf_added i (suc (length is)) o) h
    go false h = none_added o

gap_added : (m : Mode) (r : List ℕ) (o : List Event) → Adds o (gap_out m r o)
gap_added ok r o = trivia_added r o
gap_added failed r o = none_added o
gap_added (stopped w) r o = none_added o

seek_added : (S r : List ℕ) (o : List Event) → Adds o (seek_out S r o)
seek_added S [] o = none_added o
seek_added S (i ∷ is) o = go (past (next S (i ∷ is))) (seek_added S is (leaf (kind_of i) (suc (length is)) ∷ o))
  where
    go : (b : Bool) → Adds (leaf (kind_of i) (suc (length is)) ∷ o) (seek_out S is (leaf (kind_of i) (suc (length is)) ∷ o)) → Adds o (elim b as (λ _. List Event) [ true ↦ o | false ↦ seek_out S is (leaf (kind_of i) (suc (length is)) ∷ o) ])
    go true h = none_added o
    go false h = adds_trans o (leaf (kind_of i) (suc (length is)) ∷ o) (seek_out S is (leaf (kind_of i) (suc (length is)) ∷ o)) (leaf_added (kind_of i) (suc (length is)) o) h

-- a begin writes its opening, after trivia
pub begin_out : (d : ℕ) (s : State) → (begin d s).out ≡ opened (length (trivia s).rest) ∷ (trivia s).out
begin_out d s = go d s.fuel
  where
    go : (d f : ℕ) → opened (length (trivia s).rest) ∷ (charge d f (trivia s)).out ≡ opened (length (trivia s).rest) ∷ (trivia s).out
    go d zero = refl
    go zero (suc f) = refl
    go (suc d) (suc f) = refl

-- a finish writes its closing, with the node's kind only in good order
abbrev pub closing : Mode → ℕ → ℕ
closing ok a = a
closing failed a = kinds.ERROR
closing (stopped w) a = kinds.ERROR

pub finish_out : (o : Bool) (a n : ℕ) (s : State) → (finish o a n s).out ≡ closed (closing s.mode a) n (length s.rest) ∷ s.out
finish_out o a n s = go o s.mode s
  where
    go : (o : Bool) (m : Mode) (s : State) → let t : State = finish o a n (turn m s) in t.out ≡ closed (closing m a) n (length s.rest) ∷ s.out
    go o ok s = refl
    go true failed s = refl
    go true (stopped w) s = refl
    go false failed s = refl
    go false (stopped w) s = refl

nodes_added : (d : ℕ) (o : Bool) (a : ℕ) (f : Reader) → ((s : State) → Adding s (f s)) → (s : State) → Adding s (nodes d o a f s)
nodes_added d o a f F s =
    let t : State = begin d s in
    let u : State = f t in
    let n : ℕ = length t.rest in
    let k : ℕ = closing u.mode a in
    subst (Adds s.out) (sym (finish_out o a n u)) (adds_trans s.out (trivia s).out (closed k n (length u.rest) ∷ u.out) (gap_added s.mode s.rest s.out) (node_added k n (length u.rest) (length (trivia s).rest) (trivia s).out u.out (subst (λ (x : List Event). Adds x u.out) (begin_out d s) (F t))))

pub adding : Steps Adding
adding = record {
  same = λ s. none_added s.out;
  trans = λ s t u p q. adds_trans s.out t.out u.out p q;
  at_turn = λ m s r. none_added s.out;
  at_expected = λ ns s. none_added s.out;
  at_unexpected = λ S s a is h. none_added s.out;
  at_choose = λ s. none_added s.out;
  at_keep = λ r a s. none_added s.out;
  at_trivia = λ s. gap_added s.mode s.rest s.out;
  at_take = λ S s a is m e. adds_trans s.out (trivia s).out (leaf a (suc (length is)) ∷ (trivia s).out) (gap_added s.mode s.rest s.out) (leaf_added a (suc (length is)) (trivia s).out);
  at_skip = λ S s. seek_added S s.rest s.out;
  at_back = λ s t p. none_added s.out;
  at_node = nodes_added;
}

pub exec_adds : (E : Bool) (d : ℕ) (p : Prog) (o : Bool) (s : State) → Adding s (exec d (run E d) p o s)
exec_adds E d p o = exec_kept (stepped Adding adding) d (run E d) (run_kept (stepped Adding adding) E d) p o

-- CLOSING, as the code meets it: o is what stood written when the node's opening had been, b what stands when its body has run. The opening
-- ends at EVENT * length o.
pub buffer_closes : (x : Source) (a n m j : ℕ) (before o b : List Event) → o ≡ opened j ∷ before → Adds o b →
    buffer x (closed a n m ∷ b) ≡ patch (EVENT * length o) a (span_end x n m) (buffer x b) ++ event Sort.END a (starts_at x n) (span_end x n m) (cell (height b - 1))
buffer_closes x a n m j before o b e p =
    let q : p.new ++ (opened j ∷ before) ≡ b = ap (λ (l : List Event). p.new ++ l) (sym e) ∙ p.joins in
    let l : EVENT * suc (length before) ≡ EVENT * length o = ap (λ (l : List Event). EVENT * length l) (sym e) in
    ap (λ (l : List Event). buffer x (closed a n m ∷ l)) (sym q)
    ∙ buffer_closed x a n m j p.new before (p.nest 0)
    ∙ ap₂ (λ (i : ℕ) (l : List Event). patch i a (span_end x n m) (buffer x l) ++ event Sort.END a (starts_at x n) (span_end x n m) (cell (height l - 1))) l q

pub buffer_shut : (x : Source) (a n m p : ℕ) (o : List Event) → Open p o → buffer x (closed a n m ∷ o) ≡ patch p a (span_end x n m) (buffer x o) ++ event Sort.END a (starts_at x n) (span_end x n m) (cell (height o - 1))
buffer_shut x a n m p o w = buffer_closes x a n m w.row w.before (opened w.row ∷ w.before) o refl w.added ∙ ap (λ (i : ℕ). patch i a (span_end x n m) (buffer x o) ++ event Sort.END a (starts_at x n) (span_end x n m) (cell (height o - 1))) (sym w.place)

-- a body that adds leaves its node's opening open
pub begun_open : (d p : ℕ) (s : State) (b : List Event) → p ≡ EVENT * length (begin d s).out → Adds (begin d s).out b → Open p b
begun_open d p s b e w = record { row = length (trivia s).rest; before = (trivia s).out; added = subst (λ (l : List Event). Adds l b) (begin_out d s) w; place = e ∙ ap (λ (l : List Event). EVENT * length l) (begin_out d s) }

-- a node: what the buffer holds when it is closed, by what it held when its body f had run
pub buffer_node : (x : Source) (d : ℕ) (o : Bool) (a : ℕ) (f : Reader) → ((s : State) → Adding s (f s)) → (s : State) → let t : State = begin d s in let u : State = f t in let n : ℕ = length t.rest in let k : ℕ = closing u.mode a in let e : ℕ = span_end x n (length u.rest) in
    buffer x (nodes d o a f s).out ≡ patch (EVENT * length t.out) k e (buffer x u.out) ++ event Sort.END k (starts_at x n) e (cell (height u.out - 1))
buffer_node x d o a f F s =
    let t : State = begin d s in
    let u : State = f t in
    let n : ℕ = length t.rest in
    ap (buffer x) (finish_out o a n u) ∙ buffer_closes x (closing u.mode a) n (length u.rest) (length (trivia s).rest) (trivia s).out t.out u.out (begin_out d s) (F t)

-- what a reader adds leaves what was written: the buffer before is the buffer's beginning after, so the code may go back by its length
module _ (x : Source) (a : List Event) where
  grown : (st : List (ℕ × ℕ)) (w : List Event) → Nest (length st) w 0 → (q : List ℕ) × (buffered x st (w ++ a) ≡ buffered x [] a ++ q)
  unfolding buffered
  grown [] [] p = ([], sym (append-nil (buffered x [] a)))
  grown (u ∷ st) [] p = absurd (omega (arith, p))
  grown [] (opened m ∷ w) p = absurd p
  grown (u ∷ st) (opened m ∷ w) p = let g = grown st w p in let l : List ℕ = event Sort.BEGIN u.0 (starts_at x m) u.1 (cell (height (w ++ a))) in (g.0 ++ l, ap (λ (i : List ℕ). i ++ l) g.1 ∙ append_assoc (buffered x [] a) g.0 l)
  grown st (leaf k m ∷ w) p = let g = grown st w p in let l : List ℕ = event Sort.TOKEN k (starts_at x m) (ends_at x m) (cell (height (w ++ a))) in (g.0 ++ l, ap (λ (i : List ℕ). i ++ l) g.1 ∙ append_assoc (buffered x [] a) g.0 l)
  grown st (closed k m j ∷ w) p = let g = grown ((k, span_end x m j) ∷ st) w p in let l : List ℕ = event Sort.END k (starts_at x m) (span_end x m j) (cell (height (w ++ a) - 1)) in (g.0 ++ l, ap (λ (i : List ℕ). i ++ l) g.1 ∙ append_assoc (buffered x [] a) g.0 l)
  grown st (bad m c ∷ w) p = let g = grown st w p in let l : List ℕ = event Sort.ERROR (bads (w ++ a)) (starts_at x m) (ends_at x m) (cell (height (w ++ a))) in (g.0 ++ l, ap (λ (i : List ℕ). i ++ l) g.1 ∙ append_assoc (buffered x [] a) g.0 l)

  pub buffer_grows : (b : List Event) → Adds a b → (q : List ℕ) × (buffer x b ≡ buffer x a ++ q)
  buffer_grows b p = let g = grown [] p.new (p.nest 0) in (g.0, ap (buffer x) (sym p.joins) ∙ g.1)

  pub buffer_back : (b : List Event) → Adds a b → lib.ListN.take (EVENT * length a) (buffer x b) ≡ buffer x a
  buffer_back b p = let g = buffer_grows b p in ap (lib.ListN.take (EVENT * length a)) g.1 ∙ lib.Seq.take_at (buffer x a) g.0 (EVENT * length a) (buffered_length x [] a)

-- an open node's depth stands in its begin event
pub begin_depth : (x : Source) (l : List ℕ) (p : ℕ) (o : List Event) → Open p o → lib.ListN.take (EVENT * length o) l ≡ buffer x o → get_or l (p - EVENT + DEPTH) 0 ≡ cell (height o - 1)
begin_depth x l p o w t =
    let before : List Event = w.before in
    let b : List Event = opened w.row ∷ before in
    let e : height o ≡ suc (height before) = ap height (sym w.added.joins) ∙ height_nest 0 w.added.new b (w.added.nest 0) ∙ omega arith in
    let n : EVENT * length b ≤ EVENT * length o = omega (arith, ap length w.added.joins, length-append w.added.new b) in
    let u : lib.ListN.take (EVENT * length b) l ≡ buffer x b = sym (lib.Seq.take-take (EVENT * length b) (EVENT * length o) l n) ∙ ap (lib.ListN.take (EVENT * length b)) t ∙ buffer_back x b o w.added in
    let d = (last_of l (length before) (buffer x before) Sort.BEGIN 0 (starts_at x w.row) (starts_at x w.row) (cell (height before)) (buffer_length x before) (u ∙ buffer_opened x w.row before)).1 in
    ap (λ (i : ℕ). get_or l (i - EVENT + DEPTH) 0) w.place ∙ d ∙ ap cell (omega (arith, e))

-- items and the whole reading, at every moment between items
errors_added : (c : List (ℕ × Choice)) (o : List Event) → Adds o (errors c o)
errors_added [] o = none_added o
errors_added (e ∷ c) o = adds_trans o (bad e.0 e.1 ∷ o) (errors c (bad e.0 e.1 ∷ o)) (record { new = bad e.0 e.1 ∷ []; joins = refl; nest = λ h. refl }) (errors_added c (bad e.0 e.1 ∷ o))

reads_adds : (L : Limits) (p : Prog) (s : State) → Adding s (read_item L p s)
unfolding read_item
reads_adds L p s = exec_adds L.entrypoint L.depth p false s

stray_adds : (s : State) → Adding s (stray_item s)
stray_adds s =
    let n : ℕ = length s.rest in
    let o : List Event = bad n stray ∷ s.out in
    adds_trans s.out o (stray_item s).out (record { new = bad n stray ∷ []; joins = refl; nest = λ h. refl }) (node_added kinds.ERROR n (length (seek rule_keywords s.rest)) n o (seek_out rule_keywords s.rest (opened n ∷ o)) (seek_added rule_keywords s.rest (opened n ∷ o)))

flush_adds : (u : State) → Adding u (again (flush u))
flush_adds u = go u.mode u
  where
    go : (m : Mode) (u : State) → Adding (turn m u) (again (flush (turn m u)))
    go ok u = errors_added u.chosen u.out
    go failed u = errors_added u.chosen u.out
    go (stopped w) u = errors_added u.chosen u.out

pub item_adds : (L : Limits) (s : State) → Adding s (item L s)
item_adds L s =
    let x : Next = sought item_keywords (trivia s).rest in
    let u : State = item_at L x (trivia s) in
    adds_trans s.out u.out (item L s).out (adds_trans s.out (trivia s).out u.out (gap_added s.mode s.rest s.out) (at x (trivia s))) (flush_adds u)
  where
    at : (x : Next) (t : State) → Adding t (item_at L x t)
    at end t = none_added t.out
    at other t = stray_adds t
    at (hit a is) t = reads_adds L (item_of a) t
