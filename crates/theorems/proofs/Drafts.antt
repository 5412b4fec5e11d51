-- What stands written and chosen at any moment of a reading names rows of the file alone. So the remaining rows, as a file of their own, never
-- take more room than they take behind what was written before: the rooms of the whole are enough for them.
use Prim.Native.Nat.{ℕ, zero, suc, ◌+◌, ◌≤◌}
use mathlib.Core.Path.{◌≡◌, refl, ap, ap₂, sym, subst, ◌∙◌}
use mathlib.Core.List.{List, [], ◌∷◌, ◌++◌, map}
use mathlib.Core.Bool.{Bool, true, false}
use lib.Dec.{eqb}
use lib.ListN.{length, length-append}
use native.Mathlib.Omega.{arith}
use Rattle.utf8.specs.Utf8.{bad_byte}
use Rattle.shapes.specs.Shapes.{HEAD}
use Rattle.definition.specs.Prog.{Prog}
use Rattle.definition.specs.Grammar.{item_of}
use Rattle.definition.specs.Run.{State, Reader, Limits, Draft, Event, opened, leaf, closed, bad, Choice, stray, Mode, ok, failed, stopped, Next, end, other, hit, sought, trivia, take, turn, put, charge, begin, finish, choose, nodes, item_keywords, run, read_item, stray_item, item_at, flush, again, item, items, start, read}
use Rattle.definition.specs.Render.{Source, starts_at, id_at, text_at, form_of, choice_names, place_of, size_of, said, held, moments, used}
use Rattle.definition.proofs.Induct.{exec_kept, run_kept}
use Rattle.definition.proofs.Order.{Steps, stepped}
use Rattle.definition.proofs.Frame.{h, behind}
use Rattle.definition.proofs.Tidy.{Ins, ins_append, ChosenIn, Within, Wrote, Tidy, tidying, charge_same, begin_in, node_tidy, stray_tidy, flush_tidy, trivia_tidy, items_tidied}
use Rattle.theorems.proofs.Rooms.{Fits}
use Rattle.definition.proofs.Shown.{Before, later, id_later, text_later}

module _ (N : ℕ) where
  abbrev pub DraftsIn : List Draft → Type 0
  DraftsIn [] = Unit
  DraftsIn (d ∷ ds) = Ins N d.0 × ChosenIn N d.1 × DraftsIn ds

  abbrev Good : State → Type 0
  Good s = Within N s × Ins N s.out × DraftsIn s.drafts

  abbrev Sure : State → State → Type 0
  Sure s t = Tidy N s t × (Good s → DraftsIn t.drafts)

  wrote_ins : (a b : List Event) → Wrote N a b → Ins N a → Ins N b
  wrote_ins a b w i = subst (Ins N) w.joins (ins_append N w.new a w.ins i)

  goes : (s t : State) → Sure s t → Good s → Good t
  goes s t p g = let k = p.0 g.0 in (k.within, wrote_ins s.out t.out k.wrote g.1, p.1 g)

  -- a step that ends with a draft, after the drafts ds
  marked : (s t : State) (ds : List Draft) → t.drafts ≡ (t.out, t.chosen) ∷ ds → Tidy N s t → (Good s → DraftsIn ds) → Sure s t
  marked s t ds e p q = (p, λ g. let k = p g.0 in subst DraftsIn (sym e) (wrote_ins s.out t.out k.wrote g.1, k.within.chose, q g))

  kept : (s t : State) → t.drafts ≡ s.drafts → Tidy N s t → Sure s t
  kept s t e p = (p, λ g. subst DraftsIn (sym e) g.2)

  trivia_sure : (s : State) → Sure s (trivia s)
  trivia_sure s = marked s (trivia s) s.drafts refl (trivia_tidy N s) (λ g. g.2)

  charge_drafts : (d f : ℕ) (t : State) → (charge d f t).drafts ≡ t.drafts
  charge_drafts d zero t = refl
  charge_drafts zero (suc f) t = refl
  charge_drafts (suc d) (suc f) t = refl

  begin_good : (d : ℕ) (s : State) → Good s → Good (begin d s)
  begin_good d s g =
      let b = begin_in N d s g.0 in
      let c = charge_same N d s.fuel (trivia s) in
      let o : Ins N (begin d s).out = subst (Ins N) (sym b.3) (b.0.rows, wrote_ins s.out (trivia s).out b.2 g.1) in
      (b.0, o, (o, b.0.chose, subst DraftsIn (sym (charge_drafts d s.fuel (trivia s))) ((trivia_sure s).1 g)))

  finish_drafts : (o : Bool) (a n : ℕ) (u : State) → n ≤ N → length u.rest ≤ n → Good u → DraftsIn (finish o a n u).drafts
  finish_drafts o a n u l m g = go o u.mode u m g
    where
      go : (o : Bool) (x : Mode) (u : State) → length u.rest ≤ n → Good (turn x u) → DraftsIn (finish o a n (turn x u)).drafts
      go o ok u m g = (((l, m), g.1), g.0.chose, g.2)
      go true failed u m g = (((l, m), g.1), g.0.chose, g.2)
      go true (stopped w) u m g = (((l, m), g.1), g.0.chose, g.2)
      go false failed u m g = let c = ((tidying N).at_choose (turn failed u) g.0).within.chose in (((l, m), g.1), c, (g.1, c, g.2))
      go false (stopped w) u m g = let c = ((tidying N).at_choose (turn (stopped w) u) g.0).within.chose in (((l, m), g.1), c, (g.1, c, g.2))

  node_sure : (d : ℕ) (o : Bool) (a : ℕ) (f : Reader) → ((s : State) → Sure s (f s)) → (s : State) → Sure s (nodes d o a f s)
  node_sure d o a f F s = (
    node_tidy N d o a f (λ s. (F s).0) s,
    λ g.
        let t : State = begin d s in
        let b = begin_good d s g in
        finish_drafts o a (length t.rest) (f t) b.0.rows ((F t).0 b.0).shorter (goes t (f t) (F t) b),
  )

  sure : Steps Sure
  sure = record {
    same = λ s. kept s s refl ((tidying N).same s);
    trans = λ s t u p q. ((tidying N).trans s t u p.0 q.0, λ g. q.1 (goes s t p g));
    at_turn = λ m s r. kept s (turn m s) refl ((tidying N).at_turn m s r);
    at_expected = λ ns s. kept s _ refl ((tidying N).at_expected ns s);
    at_unexpected = λ S s a is h. kept s _ refl ((tidying N).at_unexpected S s a is h);
    at_choose = λ s. marked s (choose s) s.drafts refl ((tidying N).at_choose s) (λ g. g.2);
    at_keep = λ r a s. kept s _ refl ((tidying N).at_keep r a s);
    at_trivia = trivia_sure;
    at_take = λ S s a is m e. marked s (take a is (trivia s)) (trivia s).drafts refl ((tidying N).at_take S s a is m e) (λ g. (trivia_sure s).1 g);
    at_skip = λ S s. marked s _ s.drafts refl ((tidying N).at_skip S s) (λ g. g.2);
    at_back = λ s t p. ((tidying N).at_back s t p.0, λ g. p.1 g);
    at_node = node_sure;
  }

  -- items
  reads_sure : (L : Limits) (p : Prog) (s : State) → Sure s (read_item L p s)
  unfolding read_item
  reads_sure L p s = exec_kept (stepped Sure sure) L.depth (run L.entrypoint L.depth) (run_kept (stepped Sure sure) L.entrypoint L.depth) p false s

  stray_sure : (s : State) → Sure s (stray_item s)
  stray_sure s =
      let n : ℕ = length s.rest in
      let o : List Event = opened n ∷ bad n stray ∷ s.out in
      let t : State = stray_item s in (
        stray_tidy N s,
        λ g.
            let i : Ins N (bad n stray ∷ s.out) = (g.0.rows, g.1) in
            let j : Ins N o = (g.0.rows, i) in
            let c = g.0.chose in
            let z : Ins N t.out = wrote_ins s.out t.out (stray_tidy N s g.0).wrote g.1 in
            (z, c, (z.1, c, (j, c, (i, c, (g.1, (g.0.rows, c), g.2))))),
      )

  flush_sure : (u : State) → Sure u (again (flush u))
  flush_sure u = go u.mode u
    where
      go : (m : Mode) (u : State) → Sure (turn m u) (again (flush (turn m u)))
      go ok u = marked (turn ok u) _ u.drafts refl (flush_tidy N (turn ok u)) (λ g. g.2)
      go failed u = marked (turn failed u) _ u.drafts refl (flush_tidy N (turn failed u)) (λ g. g.2)
      go (stopped w) u = marked (turn (stopped w) u) _ u.drafts refl (flush_tidy N (turn (stopped w) u)) (λ g. g.2)

  item_sure : (L : Limits) (s : State) → Sure s (item L s)
  item_sure L s =
      let x : Next = sought item_keywords (trivia s).rest in
      let u : State = item_at L x (trivia s) in
      sure.trans s u (item L s) (sure.trans s (trivia s) u (trivia_sure s) (at x (trivia s))) (flush_sure u)
    where
      at : (x : Next) (t : State) → Sure t (item_at L x t)
      at end t = sure.same t
      at other t = stray_sure t
      at (hit a is) t = reads_sure L (item_of a) t

  items_sure : (L : Limits) (n : ℕ) (s : State) → Sure s (items L n s)
  items_sure L zero s = sure.same s
  items_sure L (suc n) s = go s.rest s.mode s (items_sure L n)
    where
      go : (r : List ℕ) (o : Mode) (s : State) → ((u : State) → Sure u (items L n u)) → let t : State = turn o (put r s.out s) in Sure t (items L (suc n) t)
      go [] o s H = sure.same (turn o (put [] s.out s))
      go (i ∷ is) failed s H = sure.same (turn failed (put (i ∷ is) s.out s))
      go (i ∷ is) (stopped w) s H = sure.same (turn (stopped w) (put (i ∷ is) s.out s))
      go (i ∷ is) ok s H = let t : State = turn ok (put (i ∷ is) s.out s) in sure.trans t (item L t) (items L n (item L t)) (item_sure L t) (H (item L t))

pub read_drafts : (L : Limits) (r : List ℕ) (f : ℕ) → DraftsIn (length r) (read L r f).drafts
read_drafts L r f = (items_sure (length r) L (length r) (start r f)).1 (record { rows = omega arith; wants = tt; unwants = tt; chose = tt }, tt, (tt, tt, tt))

-- one number, wherever the text stands
place_length : (f a b : ℕ) (t : List ℕ) → length (place_of f a t) ≡ length (place_of f b t)
place_length f a b t = go (eqb f 9)
  where
    go : (d : Bool) → ◌≡◌ {A = ℕ} (length {A = ℕ} (elim d as (λ _. List ℕ) [ true ↦ (a + bad_byte t) ∷ [] | false ↦ [] ])) (length {A = ℕ} (elim d as (λ _. List ℕ) [ true ↦ (b + bad_byte t) ∷ [] | false ↦ [] ]))
    go true = refl
    go false = refl

-- the rooms taken behind what was written before
module _ (pre a e : List ℕ) (B : Before pre a e) (y : Source) (L : Limits) where
  abbrev N : ℕ
  N = length y.ids

  abbrev x : Source
  x = later pre a e y

  size_later : (n : ℕ) (c : Choice) → n ≤ N → size_of L x n c ≡ size_of L y n c
  size_later n c l =
      let f = form_of L (id_at y n) (text_at y n) c in
      ap₂ (λ (i : ℕ) (t : List ℕ). let g = form_of L i t c in HEAD + length (choice_names g c) + length (place_of g (starts_at x n) t)) (id_later pre a e B y n l) (text_later pre a e B y n l)
      ∙ ap (λ (i : ℕ). HEAD + length (choice_names f c) + i) (place_length f (starts_at x n) (starts_at y n) (text_at y n))

  said_later : (w : List Event) → Ins N w → said L x w ≡ said L y w
  said_later [] i = refl
  said_later (opened n ∷ w) i = said_later w i.1
  said_later (leaf k n ∷ w) i = said_later w i.1
  said_later (closed k n m ∷ w) i = said_later w i.1
  said_later (bad n c ∷ w) i = ap₂ ◌+◌ (size_later n c i.0) (said_later w i.1)

  held_later : (c : List (ℕ × Choice)) → ChosenIn N c → held L x c ≡ held L y c
  held_later [] i = refl
  held_later (q ∷ c) i = ap₂ ◌+◌ (size_later q.0 q.1 i.0) (held_later c i.1)

  said_append : (w q : List Event) → said L x (w ++ q) ≡ said L x w + said L x q
  said_append [] q = omega arith
  said_append (opened n ∷ w) q = said_append w q
  said_append (leaf k n ∷ w) q = said_append w q
  said_append (closed k n m ∷ w) q = said_append w q
  said_append (bad n c ∷ w) q = omega (arith, said_append w q)

  fits_drafts : (v r : ℕ) (q : List Event) (m ds : List Draft) → DraftsIn N ds → Fits v r (map (used L x) (behind q m ds)) → Fits v r (map (used L y) ds)
  fits_drafts v r q m [] i f = tt
  fits_drafts v r q m (d ∷ ds) i f =
      (omega (arith, f.0, length-append d.0 q), omega (arith, f.1, said_append d.0 q, said_later d.0 i.0, held_later d.1 i.1), fits_drafts v r q m ds i.2 f.2)

  -- THE THEOREM: what fits behind the events q fits alone
  pub fits_alone : (v r f : ℕ) (q : List Event) (b : List ℕ) (m : List Draft) → let t : State = read L y.ids f in Fits v r (moments L x (h 0 q b m t)) → Fits v r (moments L y t)
  fits_alone v r f q b m g =
      let t : State = read L y.ids f in
      let i = (items_tidied L y.ids f (length y.ids)).0 in
      (omega (arith, g.0, length-append t.out q), omega (arith, g.1, said_append t.out q, said_later t.out i), fits_drafts v r q m t.drafts (read_drafts L y.ids f) g.2)
