-- No reading comes deeper than the limit allows: SOURCE_FILE, the nodes that may be open besides, the one that stops the reader, and no more.
use Prim.Native.Nat.{ℕ, zero, suc, ◌+◌, ◌≤◌, ◌<◌}
use mathlib.Core.Path.{◌≡◌, refl, ap, sym, ◌∙◌, subst}
use mathlib.Core.List.{List, [], ◌∷◌}
use mathlib.Core.Bool.{Bool, true, false}
use lib.ListN.{length}
use native.Mathlib.Omega.{arith}
use Rattle.kinds.specs.Kinds as kinds
use Rattle.kinds.specs.Sets.{kind_of, trivial}
use Rattle.shapes.specs.Shapes.{flat}
use Rattle.definition.specs.Prog.{Production, Prog}
use Rattle.definition.specs.Grammar.{grammar, kind, item_of}
use Rattle.definition.specs.Run.{State, Reader, Limits, Event, opened, leaf, closed, bad, Mode, ok, failed, stopped, Choice, Next, end, other, hit, next, sought, past, trivia_out, trivia, seek_out, skip_to, swallow, if_ok, turn, keep, back, expected, unexpected, choose, begin, nodes, exec, run, errors, rule_keywords, item_keywords, read_item, stray_item, item_at, flush, again, item, items, start, read}
use Rattle.definition.specs.Render.{Source, inside}
use Rattle.definition.specs.Buffer.{height, buffer}
use Rattle.definition.specs.Open.{Adds}
use Rattle.definition.proofs.Gap.{gap_out}
use Rattle.definition.proofs.Induct.{exec_joined_if, any_enter}
use Rattle.definition.proofs.Order.{PartsIf, joined_if}
use Rattle.definition.proofs.Tidy.{read_tidy}
use Rattle.definition.proofs.Buffer.{Low, low_here, height_nest, Adding, none_added, adding, begin_out, closing, finish_out, buffer_finished, item_adds}

adds_height : (a b : List Event) → Adds a b → height b ≡ height a
adds_height a b p = ap height (sym p.joins) ∙ height_nest 0 p.new a (p.nest 0) ∙ omega arith

-- a row written where it is low
leaf_low : (m k n : ℕ) (o : List Event) → Low m o → Low m (leaf k n ∷ o)
leaf_low m k n o l = (low_here m o l, l)

trivia_low : (m : ℕ) (r : List ℕ) (o : List Event) → Low m o → Low m (trivia_out r o)
trivia_low m [] o l = l
trivia_low m (i ∷ is) o l = go (trivial i) (trivia_low m is (leaf i (suc (length is)) ∷ o) (leaf_low m i (suc (length is)) o l))
  where
    go : (b : Bool) → Low m (trivia_out is (leaf i (suc (length is)) ∷ o)) → Low m (elim b as (λ _. List Event) [ true ↦ trivia_out is (leaf i (suc (length is)) ∷ o) | false ↦ o ])
    go true h = h
    go false h = l

gap_low : (m : ℕ) (d : Mode) (r : List ℕ) (o : List Event) → Low m o → Low m (gap_out d r o)
gap_low m ok r o l = trivia_low m r o l
gap_low m failed r o l = l
gap_low m (stopped w) r o l = l

seek_low : (m : ℕ) (S r : List ℕ) (o : List Event) → Low m o → Low m (seek_out S r o)
seek_low m S [] o l = l
seek_low m S (i ∷ is) o l = go (past (next S (i ∷ is))) (seek_low m S is (leaf (kind_of i) (suc (length is)) ∷ o) (leaf_low m (kind_of i) (suc (length is)) o l))
  where
    go : (b : Bool) → Low m (seek_out S is (leaf (kind_of i) (suc (length is)) ∷ o)) → Low m (elim b as (λ _. List Event) [ true ↦ o | false ↦ seek_out S is (leaf (kind_of i) (suc (length is)) ∷ o) ])
    go true h = l
    go false h = h

-- from s to t no more than k nodes are opened in one another
abbrev pub Within : ℕ → State → State → Type 0
Within k s t = Adding s t × ((m : ℕ) → Low m s.out → height s.out + k ≤ m → Low m t.out)

within_trans : (k : ℕ) (s t u : State) → Within k s t → Within k t u → Within k s u
within_trans k s t u p q = (adding.trans s t u p.0 q.0, λ m l h. q.1 m (p.1 m l h) (omega (arith, h, adds_height s.out t.out p.0)))

within_still : (k : ℕ) (s t : State) → t.out ≡ s.out → Within k s t
within_still k s t e = (subst (Adds s.out) (sym e) (none_added s.out), λ m l h. subst (Low m) (sym e) l)

-- a node more
node_within : (k d : ℕ) (o : Bool) (a : ℕ) (f : Reader) → ((s : State) → Within k s (f s)) → (s : State) → Within (suc k) s (nodes d o a f s)
node_within k d o a f F s = (adding.at_node d o a f (λ t. (F t).0) s, λ m l h. subst (Low m) (sym (finish_out o a (length t.rest) (f t))) (shut m l h))
  where
    t : State
    t = begin d s

    base : List Event
    base = (trivia s).out

    shut : (m : ℕ) → Low m s.out → height s.out + suc k ≤ m → Low m (closed (closing (f t).mode a) (length t.rest) (length (f t).rest) ∷ (f t).out)
    shut m l h =
        let g : Low m base = gap_low m s.mode s.rest s.out l in
        let e : height base ≡ height s.out = adds_height s.out base (adding.at_trivia s) in
        let b : Low m t.out = subst (Low m) (sym (begin_out d s)) (omega (arith, h, e), g) in
        let z : height t.out ≡ suc (height base) = ap height (begin_out d s) in
        let w : Low m (f t).out = (F t).1 m b (omega (arith, h, e, z)) in
        (omega (arith, low_here m (f t).out w), w)

skip_within : (S : List ℕ) (s : State) → Within 0 s (skip_to S s)
skip_within S s = (adding.at_skip S s, λ m l h. seek_low m S s.rest s.out l)

widen : (k : ℕ) (s t : State) → Within 1 s t → Within (suc k) s t
widen k s t p = (p.0, λ m l h. p.1 m l (omega (arith, h)))

parts_within : (k : ℕ) → PartsIf (λ N. true) (Within (suc k))
parts_within k = record {
  same = λ s. within_still (suc k) s s refl;
  trans = within_trans (suc k);
  at_turn = λ m s r. within_still (suc k) s (turn m s) refl;
  at_expected = λ N t s. within_still (suc k) s (expected N s) refl;
  at_unexpected = λ S s a is h. within_still (suc k) s (unexpected s) refl;
  at_choose = λ s. within_still (suc k) s (choose s) refl;
  at_keep = λ r a s. within_still (suc k) s (keep ((r, a) ∷ s.cache) s) refl;
  at_trivia = λ s. (adding.at_trivia s, λ m l h. gap_low m s.mode s.rest s.out l);
  at_take = λ S s a is e h. (adding.at_take S s a is e h, λ m l g. leaf_low m a (suc (length is)) (trivia s).out (gap_low m s.mode s.rest s.out l));
  at_back = λ s t p. within_still (suc k) s (back s t) refl;
  at_swallow = λ d o S s. widen k s (swallow d o S s) (node_within 0 d o kinds.ERROR (skip_to S) (skip_within S) s);
}

-- a program whose productions open no more
exec_within : (E : Bool) (k d : ℕ) → ((o : Bool) (a : Production) (s : State) → Within (suc k) s (run E d o a s)) → (p : Prog) (o : Bool) (s : State) → Within (suc k) s (exec d (run E d) p o s)
exec_within E k d c p = exec_joined_if (joined_if (Within (suc k)) (parts_within k)) d (run E d) c p (any_enter p)

run_within : (E : Bool) (d : ℕ) (o : Bool) (a : Production) (s : State) → Within (suc d) s (run E d o a s)
run_within E zero o a = node_within 0 zero o (kind a) (λ t. t) (λ t. within_still 0 t t refl)
run_within E (suc d) o a = node_within (suc d) (suc d) o (kind a) (exec d (run E d) (grammar E a) o) (exec_within E d d (run_within E d) (grammar E a) o)

-- ITEMS
module _ (L : Limits) where
  abbrev most : ℕ
  most = suc L.depth

  item_within : (p : Prog) (s : State) → Within most s (read_item L p s)
  unfolding read_item
  item_within p = exec_within L.entrypoint L.depth L.depth (run_within L.entrypoint L.depth) p false

  errors_low : (m : ℕ) (c : List (ℕ × Choice)) (o : List Event) → Low m o → Low m (errors c o)
  errors_low m [] o l = l
  errors_low m (e ∷ c) o l = errors_low m c (bad e.0 e.1 ∷ o) (low_here m o l, l)

  stray_low : (m : ℕ) (s : State) → Low m s.out → height s.out + most ≤ m → Low m (stray_item s).out
  stray_low m s l h =
      let n : ℕ = length s.rest in
      let o : List Event = opened n ∷ bad n Choice.stray ∷ s.out in
      let b : Low m o = (omega (arith, h), (low_here m s.out l, l)) in
      let w : Low m (seek_out rule_keywords s.rest o) = seek_low m rule_keywords s.rest o b in
      (omega (arith, low_here m (seek_out rule_keywords s.rest o) w), w)

  item_low : (m : ℕ) (s : State) → Low m s.out → height s.out + most ≤ m → Low m (item L s).out
  item_low m s l h =
      let t : State = trivia s in
      let x : Next = sought item_keywords t.rest in
      let e : height t.out ≡ height s.out = adds_height s.out t.out (adding.at_trivia s) in
      after (item_at L x t) (at x t (gap_low m s.mode s.rest s.out l) (omega (arith, h, e)))
    where
      at : (x : Next) (t : State) → Low m t.out → height t.out + most ≤ m → Low m (item_at L x t).out
      at end t l h = l
      at other t l h = stray_low m t l h
      at (hit a is) t l h = (item_within (item_of a) t).1 m l h

      after : (u : State) → Low m u.out → Low m (again (flush u)).out
      after u = go u.mode u
        where
          go : (d : Mode) (u : State) → Low m u.out → Low m (again (flush (turn d u))).out
          go ok u l = errors_low m u.chosen u.out l
          go failed u l = errors_low m u.chosen u.out l
          go (stopped w) u l = errors_low m u.chosen u.out l

  items_low : (m n : ℕ) (s : State) → Low m s.out → height s.out + most ≤ m → Low m (items L n s).out
  items_low m zero s l h = l
  items_low m (suc n) s l h = go (λ t. items_low m n t) s.rest s.mode s l h
    where
      go : ((t : State) → Low m t.out → height t.out + most ≤ m → Low m (items L n t).out) → (r : List ℕ) (d : Mode) (s : State) → Low m s.out → height s.out + most ≤ m → Low m (elim r as (λ _. State) [ [] ↦ turn d s | i ∷ is ↦ if_ok (λ t. items L n (item L t)) (turn d s) ]).out
      go f [] d s l h = l
      go f (i ∷ is) ok s l h = f (item L (turn ok s)) (item_low m (turn ok s) l h) (omega (arith, h, adds_height s.out (item L (turn ok s)).out (item_adds L (turn ok s))))
      go f (i ∷ is) failed s l h = l
      go f (i ∷ is) (stopped w) s l h = l

  -- THE THEOREM: of the nodes open around any event of a reading there are at most two more than the limit allows besides SOURCE_FILE
  pub standing_low : (r : List ℕ) (f n : ℕ) → Low (L.depth + 2) (items L n (start r f)).out
  standing_low r f n = items_low (L.depth + 2) n (start r f) (omega arith) (omega arith)

  pub read_low : (r : List ℕ) (f : ℕ) → Low (L.depth + 2) (read L r f).out
  read_low r f = standing_low r f (length r)

  -- so the buffer of a finished reading holds its events
  pub buffer_read : (x : Source) → L.depth + 2 < 4294967296 → (r : List ℕ) (f : ℕ) → buffer x (read L r f).out ≡ flat (inside x (read L r f).out)
  buffer_read x h r f = buffer_finished x (L.depth + 2) h (read L r f).out (read_tidy L r f).1 (read_low r f)
