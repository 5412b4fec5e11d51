-- What a reading writes: every row that it names is one of the file's, and every node that it closes it has opened.
use Prim.Native.Nat.{ℕ, zero, suc, ◌≤◌}
use mathlib.Core.Path.{◌≡◌, refl, ap, ap₂, sym, ◌∙◌, subst}
use mathlib.Core.List.{List, [], ◌∷◌, ◌++◌, append-nil, append_assoc}
use mathlib.Core.Bool.{Bool, true, false}
use mathlib.Core.Option.{Option, none, some}
use lib.Dec.{ltb, eqb}
use lib.ListN.{length}
use native.Mathlib.Omega.{arith}
use Rattle.kinds.specs.Kinds as kinds
use Rattle.kinds.specs.Sets.{kind_of, trivial}
use Rattle.definition.specs.Prog.{Prog}
use Rattle.definition.specs.Grammar.{item_of}
use Rattle.definition.specs.Run.{State, Reader, Limits, Event, opened, leaf, closed, bad, Choice, wanted, unwanted, stray, Mode, ok, failed, stopped, Next, end, other, hit, next, sought, skip, past, trivia_out, trivia, seek, seek_out, skip_to, take, turn, put, charge, begin, finish, nodes, further, furthest, join, pending, add, decide, choose, errors, run, rule_keywords, item_keywords, read_item, stray_item, item_at, flush, again, item, items, start, read}
use Rattle.definition.specs.Open.{Nest}
use Rattle.definition.proofs.Gap.{gap, gap_out}
use Rattle.definition.proofs.Induct.{exec_kept, run_kept}
use Rattle.definition.proofs.Order.{Steps, stepped}
use Rattle.definition.proofs.Grows.{gap_end, seek_end, skip_end, take_end}
use Rattle.definition.proofs.Shrink.{charge_rest}
use Rattle.definition.proofs.Takes.{end_length}

pub nest_trans : (w v : List Event) (a b c : ℕ) → Nest a w b → Nest b v c → Nest a (w ++ v) c
nest_trans [] v a b c p q = subst (λ (x : ℕ). Nest x v c) (sym p) q
nest_trans (opened n ∷ w) v zero b c p q = absurd p
nest_trans (opened n ∷ w) v (suc a) b c p q = nest_trans w v a b c p q
nest_trans (leaf k n ∷ w) v a b c p q = nest_trans w v a b c p q
nest_trans (closed k n m ∷ w) v a b c p q = nest_trans w v (suc a) b c p q
nest_trans (bad n k ∷ w) v a b c p q = nest_trans w v a b c p q

module _ (N : ℕ) where
  abbrev pub In : Event → Type 0
  In (opened n) = n ≤ N
  In (leaf a n) = n ≤ N
  In (closed a n m) = (n ≤ N) × (m ≤ n)
  In (bad n c) = n ≤ N

  abbrev pub Ins : List Event → Type 0
  Ins [] = Unit
  Ins (e ∷ es) = In e × Ins es

  pub ins_append : (w v : List Event) → Ins w → Ins v → Ins (w ++ v)
  ins_append [] v p q = q
  ins_append (e ∷ w) v p q = (p.0, ins_append w v p.1 q)

  abbrev pub WantIn : Option (ℕ × List ℕ) → Type 0
  WantIn none = Unit
  WantIn (some w) = w.0 ≤ N

  abbrev pub UnwantIn : Option ℕ → Type 0
  UnwantIn none = Unit
  UnwantIn (some u) = u ≤ N

  abbrev pub ChosenIn : List (ℕ × Choice) → Type 0
  ChosenIn [] = Unit
  ChosenIn (e ∷ es) = (e.0 ≤ N) × ChosenIn es

  pub record Within (s : State) : Type 0 where
    pub rows : length s.rest ≤ N
    pub wants : WantIn s.want
    pub unwants : UnwantIn s.unwant
    pub chose : ChosenIn s.chosen

  -- events written, all of the file's rows, and nested
  pub record Wrote (a b : List Event) : Type 0 where
    pub new : List Event
    pub joins : new ++ a ≡ b
    pub ins : Ins new
    pub nest : (h : ℕ) → Nest h new h

  pub nothing : (a : List Event) → Wrote a a
  nothing a = record { new = []; joins = refl; ins = tt; nest = λ h. refl }

  pub wrote_trans : (a b c : List Event) → Wrote a b → Wrote b c → Wrote a c
  wrote_trans a b c p q = record { new = q.new ++ p.new; joins = append_assoc q.new p.new a ∙ ap (λ (l : List Event). q.new ++ l) p.joins ∙ q.joins; ins = ins_append q.new p.new q.ins p.ins; nest = λ h. nest_trans q.new p.new h h h (q.nest h) (p.nest h) }

  a_leaf : (k n : ℕ) (o : List Event) → n ≤ N → Wrote o (leaf k n ∷ o)
  a_leaf k n o l = record { new = leaf k n ∷ []; joins = refl; ins = (l, tt); nest = λ h. refl }

  a_bad : (n : ℕ) (c : Choice) (o : List Event) → n ≤ N → Wrote o (bad n c ∷ o)
  a_bad n c o l = record { new = bad n c ∷ []; joins = refl; ins = (l, tt); nest = λ h. refl }

  -- a node: its opening, what stands in it, its closing
  a_node : (a n m : ℕ) (o b : List Event) → n ≤ N → m ≤ n → Wrote (opened n ∷ o) b → Wrote o (closed a n m ∷ b)
  a_node a n m o b l k p = record { new = closed a n m ∷ (p.new ++ (opened n ∷ [])); joins = ap (λ (x : List Event). closed a n m ∷ x) (append_assoc p.new (opened n ∷ []) o ∙ p.joins); ins = ((l, k), ins_append p.new (opened n ∷ []) p.ins (l, tt)); nest = λ h. nest_trans p.new (opened n ∷ []) (suc h) (suc h) h (p.nest (suc h)) refl }

  trivia_wrote : (r : List ℕ) (o : List Event) → length r ≤ N → Wrote o (trivia_out r o)
  trivia_wrote [] o l = nothing o
  trivia_wrote (i ∷ is) o l = go (trivial i) (trivia_wrote is (leaf i (suc (length is)) ∷ o) (omega (arith, l)))
    where
      go : (b : Bool) → Wrote (leaf i (suc (length is)) ∷ o) (trivia_out is (leaf i (suc (length is)) ∷ o)) → Wrote o (elim b as (λ _. List Event) [ true ↦ trivia_out is (leaf i (suc (length is)) ∷ o) | false ↦ o ])
      go true h = wrote_trans o (leaf i (suc (length is)) ∷ o) (trivia_out is (leaf i (suc (length is)) ∷ o)) (a_leaf i (suc (length is)) o l) h
      go false h = nothing o

  gap_wrote : (m : Mode) (r : List ℕ) (o : List Event) → length r ≤ N → Wrote o (gap_out m r o)
  gap_wrote ok r o l = trivia_wrote r o l
  gap_wrote failed r o l = nothing o
  gap_wrote (stopped w) r o l = nothing o

  seek_wrote : (S r : List ℕ) (o : List Event) → length r ≤ N → Wrote o (seek_out S r o)
  seek_wrote S [] o l = nothing o
  seek_wrote S (i ∷ is) o l = go (past (next S (i ∷ is))) (seek_wrote S is (leaf (kind_of i) (suc (length is)) ∷ o) (omega (arith, l)))
    where
      go : (b : Bool) → Wrote (leaf (kind_of i) (suc (length is)) ∷ o) (seek_out S is (leaf (kind_of i) (suc (length is)) ∷ o)) → Wrote o (elim b as (λ _. List Event) [ true ↦ o | false ↦ seek_out S is (leaf (kind_of i) (suc (length is)) ∷ o) ])
      go true h = nothing o
      go false h = wrote_trans o (leaf (kind_of i) (suc (length is)) ∷ o) (seek_out S is (leaf (kind_of i) (suc (length is)) ∷ o)) (a_leaf (kind_of i) (suc (length is)) o l) h

  further_in : (r : ℕ) (ns : List ℕ) (w : Option (ℕ × List ℕ)) → r ≤ N → WantIn w → WantIn (further r ns w)
  further_in r ns none l h = l
  further_in r ns (some w) l h = go (ltb r w.0) (eqb r w.0)
    where
      go : (a b : Bool) → WantIn (elim a as (λ _. Option (ℕ × List ℕ)) [ true ↦ some (r, join [] ns) | false ↦ elim b as (λ _. Option (ℕ × List ℕ)) [ true ↦ some (r, join w.1 ns) | false ↦ some w ] ])
      go true b = l
      go false true = l
      go false false = h

  furthest_in : (r : ℕ) (u : Option ℕ) → r ≤ N → UnwantIn u → UnwantIn (furthest r u)
  furthest_in r none l h = l
  furthest_in r (some u) l h = go (ltb r u)
    where
      go : (a : Bool) → UnwantIn (elim a as (λ _. Option ℕ) [ true ↦ some r | false ↦ some u ])
      go true = l
      go false = h

  chosen_append : (a : List (ℕ × Choice)) (r : ℕ) (c : Choice) → ChosenIn a → r ≤ N → ChosenIn (a ++ ((r, c) ∷ []))
  chosen_append [] r c h l = (l, tt)
  chosen_append (e ∷ a) r c h l = (h.0, chosen_append a r c h.1 l)

  add_in : (r : ℕ) (c : Choice) (es : List (ℕ × Choice)) → r ≤ N → ChosenIn es → ChosenIn (add r c es)
  add_in r c es l h = go (pending r es)
    where
      go : (b : Bool) → ChosenIn (elim b as (λ _. List (ℕ × Choice)) [ true ↦ es | false ↦ es ++ ((r, c) ∷ []) ])
      go true = h
      go false = chosen_append es r c h l

  pub decide_in : (w : Option (ℕ × List ℕ)) (u : Option ℕ) (es : List (ℕ × Choice)) → WantIn w → UnwantIn u → ChosenIn es → ChosenIn (decide w u es)
  decide_in none none es a b c = c
  decide_in none (some u) es a b c = add_in u unwanted es b c
  decide_in (some w) none es a b c = add_in w.0 (wanted w.1) es a c
  decide_in (some w) (some u) es a b c = go (ltb u w.0)
    where
      go : (x : Bool) → ChosenIn (elim x as (λ _. List (ℕ × Choice)) [ true ↦ add u unwanted es | false ↦ add w.0 (wanted w.1) es ])
      go true = add_in u unwanted es b c
      go false = add_in w.0 (wanted w.1) es a c

  skip_le : (r : List ℕ) → length (skip r) ≤ length r
  skip_le r = end_length (skip r) r (skip_end r)

  -- the step from s to t
  pub record KeptIn (s t : State) : Type 0 where
    pub within : Within t
    pub shorter : length t.rest ≤ length s.rest
    pub wrote : Wrote s.out t.out

  abbrev pub Tidy : State → State → Type 0
  Tidy s t = Within s → KeptIn s t

  moved : (s t : State) → t.want ≡ s.want → t.unwant ≡ s.unwant → t.chosen ≡ s.chosen → length t.rest ≤ length s.rest → (Within s → Wrote s.out t.out) → Tidy s t
  moved s t a b c l w i = record { within = record { rows = omega (arith, l, i.rows); wants = subst WantIn (sym a) i.wants; unwants = subst UnwantIn (sym b) i.unwants; chose = subst ChosenIn (sym c) i.chose }; shorter = l; wrote = w i }

  tidy_trans : (s t u : State) → Tidy s t → Tidy t u → Tidy s u
  tidy_trans s t u p q i = let a = p i in let b = q a.within in record { within = b.within; shorter = omega (arith, a.shorter, b.shorter); wrote = wrote_trans s.out t.out u.out a.wrote b.wrote }

  choose_tidy : (s : State) → Tidy s (choose s)
  choose_tidy s i = record { within = record { rows = i.rows; wants = tt; unwants = tt; chose = decide_in s.want s.unwant s.chosen i.wants i.unwants i.chose }; shorter = omega arith; wrote = nothing s.out }

  pub trivia_tidy : (s : State) → Tidy s (trivia s)
  trivia_tidy s = moved s (trivia s) refl refl refl (end_length (gap s.mode s.rest) s.rest (gap_end s.mode s.rest)) (λ i. gap_wrote s.mode s.rest s.out i.rows)

  pub charge_same : (d f : ℕ) (t : State) → ((charge d f t).want ≡ t.want) × ((charge d f t).unwant ≡ t.unwant) × ((charge d f t).chosen ≡ t.chosen) × ((charge d f t).out ≡ t.out)
  charge_same d zero t = (refl, refl, refl, refl)
  charge_same zero (suc f) t = (refl, refl, refl, refl)
  charge_same (suc d) (suc f) t = (refl, refl, refl, refl)

  -- what a begin leaves; its opening stands written
  pub begin_in : (d : ℕ) (s : State) → Within s → Within (begin d s) × (length (begin d s).rest ≤ length s.rest) × Wrote s.out (trivia s).out × ((begin d s).out ≡ opened (length (begin d s).rest) ∷ (trivia s).out)
  begin_in d s i =
      let a = trivia_tidy s i in
      let c = charge_same d s.fuel (trivia s) in
      let e = charge_rest d s.fuel (trivia s) in (
        record { rows = omega (arith, a.within.rows, ap length e); wants = subst WantIn (sym c.0) i.wants; unwants = subst UnwantIn (sym c.1) i.unwants; chose = subst ChosenIn (sym c.2) i.chose },
        omega (arith, a.shorter, ap length e),
        a.wrote,
        ap₂ (λ (n : ℕ) (o : List Event). opened n ∷ o) (sym (ap length e)) c.3,
      )

  pub finish_in : (o : Bool) (a n : ℕ) (s : State) → Within s → Within (finish o a n s) × ((finish o a n s).rest ≡ s.rest) × ((k : ℕ) × ((finish o a n s).out ≡ closed k n (length s.rest) ∷ s.out))
  finish_in o a n s = go o s.mode s
    where
      plain : (m : Mode) (s : State) → Within (turn m s) → (t : State) → t.rest ≡ s.rest → t.want ≡ s.want → t.unwant ≡ s.unwant → t.chosen ≡ s.chosen → Within t
      plain m s i t a b c d = record { rows = omega (arith, i.rows, ap length a); wants = subst WantIn (sym b) i.wants; unwants = subst UnwantIn (sym c) i.unwants; chose = subst ChosenIn (sym d) i.chose }

      go : (o : Bool) (m : Mode) (s : State) → Within (turn m s) → let t : State = finish o a n (turn m s) in Within t × (t.rest ≡ s.rest) × ((k : ℕ) × (t.out ≡ closed k n (length s.rest) ∷ s.out))
      go o ok s i = (plain ok s i (finish o a n (turn ok s)) refl refl refl refl, refl, (a, refl))
      go true failed s i = (plain failed s i (finish true a n (turn failed s)) refl refl refl refl, refl, (kinds.ERROR, refl))
      go true (stopped w) s i = (plain (stopped w) s i (finish true a n (turn (stopped w) s)) refl refl refl refl, refl, (kinds.ERROR, refl))
      go false failed s i = let j = (choose_tidy (turn failed s) i).within in (record { rows = j.rows; wants = tt; unwants = tt; chose = j.chose }, refl, (kinds.ERROR, refl))
      go false (stopped w) s i = let j = (choose_tidy (turn (stopped w) s) i).within in (record { rows = j.rows; wants = tt; unwants = tt; chose = j.chose }, refl, (kinds.ERROR, refl))

  pub node_tidy : (d : ℕ) (o : Bool) (a : ℕ) (f : Reader) → ((s : State) → Tidy s (f s)) → (s : State) → Tidy s (nodes d o a f s)
  node_tidy d o a f F s i =
      let t : State = begin d s in
      let b = begin_in d s i in
      let p = F t b.0 in
      let u : State = f t in
      let z = finish_in o a (length t.rest) u p.within in
      record {
        within = z.0;
        shorter = omega (arith, b.1, p.shorter, ap length z.1);
        wrote = subst (Wrote s.out) (sym z.2.1) (wrote_trans s.out (trivia s).out (closed z.2.0 (length t.rest) (length u.rest) ∷ u.out) b.2 (a_node z.2.0 (length t.rest) (length u.rest) (trivia s).out u.out b.0.rows p.shorter (subst (λ (x : List Event). Wrote x u.out) b.3 p.wrote)));
      }

  pub tidying : Steps Tidy
  tidying = record {
    same = λ s. moved s s refl refl refl (omega arith) (λ i. nothing s.out);
    trans = tidy_trans;
    at_turn = λ m s r. moved s (turn m s) refl refl refl (omega arith) (λ i. nothing s.out);
    at_expected = λ ns s i. record { within = record { rows = i.rows; wants = further_in (length (skip s.rest)) ns s.want (omega (arith, skip_le s.rest, i.rows)) i.wants; unwants = i.unwants; chose = i.chose }; shorter = omega arith; wrote = nothing s.out };
    at_unexpected = λ S s a is h i. record { within = record { rows = i.rows; wants = i.wants; unwants = furthest_in (length (skip s.rest)) s.unwant (omega (arith, skip_le s.rest, i.rows)) i.unwants; chose = i.chose }; shorter = omega arith; wrote = nothing s.out };
    at_choose = choose_tidy;
    at_keep = λ r a s. moved s _ refl refl refl (omega arith) (λ i. nothing s.out);
    at_trivia = trivia_tidy;
    at_take = λ S s a is m e. moved s (take a is (trivia s)) refl refl refl (end_length is s.rest (take_end S s.rest a is e)) (λ i. wrote_trans s.out (trivia s).out (leaf a (suc (length is)) ∷ (trivia s).out) (gap_wrote s.mode s.rest s.out i.rows) (a_leaf a (suc (length is)) (trivia s).out (took S s a is e i.rows)));
    at_skip = λ S s. moved s (skip_to S s) refl refl refl (end_length (seek S s.rest) s.rest (seek_end S s.rest)) (λ i. seek_wrote S s.rest s.out i.rows);
    at_back = λ s t p i. let a = p i in record { within = record { rows = i.rows; wants = a.within.wants; unwants = a.within.unwants; chose = a.within.chose }; shorter = omega arith; wrote = nothing s.out };
    at_node = node_tidy;
  }
    where
      took : (S : List ℕ) (s : State) (a : ℕ) (is : List ℕ) → next S s.rest ≡ hit a is → length s.rest ≤ N → suc (length is) ≤ N
      took S s a is e l = let q = Rattle.definition.proofs.Grows.sought_hit S (skip s.rest) a is e in omega (arith, l, ap length q.1, skip_le s.rest)

  errors_wrote : (c : List (ℕ × Choice)) (o : List Event) → ChosenIn c → Wrote o (errors c o)
  errors_wrote [] o h = nothing o
  errors_wrote (e ∷ c) o h = wrote_trans o (bad e.0 e.1 ∷ o) (errors c (bad e.0 e.1 ∷ o)) (a_bad e.0 e.1 o h.0) (errors_wrote c (bad e.0 e.1 ∷ o) h.1)

  pub reads_tidy : (L : Limits) (p : Prog) (s : State) → Tidy s (read_item L p s)
  unfolding read_item
  reads_tidy L p s = exec_kept (stepped Tidy tidying) L.depth (run L.entrypoint L.depth) (run_kept (stepped Tidy tidying) L.entrypoint L.depth) p false s

  pub stray_tidy : (s : State) → Tidy s (stray_item s)
  stray_tidy s = moved s (stray_item s) refl refl refl (end_length (seek rule_keywords s.rest) s.rest (seek_end rule_keywords s.rest)) (λ i. wrote_trans s.out (bad n stray ∷ s.out) (stray_item s).out (a_bad n stray s.out i.rows) (a_node kinds.ERROR n (length (seek rule_keywords s.rest)) (bad n stray ∷ s.out) (seek_out rule_keywords s.rest (opened n ∷ bad n stray ∷ s.out)) i.rows (end_length (seek rule_keywords s.rest) s.rest (seek_end rule_keywords s.rest)) (seek_wrote rule_keywords s.rest (opened n ∷ bad n stray ∷ s.out) i.rows)))
    where
      n : ℕ
      n = length s.rest

  pub flush_tidy : (u : State) → Tidy u (again (flush u))
  flush_tidy u = go u.mode u
    where
      go : (m : Mode) (u : State) → Tidy (turn m u) (again (flush (turn m u)))
      go ok u i = record { within = record { rows = i.rows; wants = tt; unwants = tt; chose = tt }; shorter = omega arith; wrote = errors_wrote u.chosen u.out i.chose }
      go failed u i = record { within = record { rows = i.rows; wants = tt; unwants = tt; chose = tt }; shorter = omega arith; wrote = errors_wrote u.chosen u.out i.chose }
      go (stopped w) u i = record { within = record { rows = i.rows; wants = tt; unwants = tt; chose = tt }; shorter = omega arith; wrote = errors_wrote u.chosen u.out i.chose }

  pub item_tidy : (L : Limits) (s : State) → Tidy s (item L s)
  item_tidy L s =
      let x : Next = sought item_keywords (trivia s).rest in
      let u : State = item_at L x (trivia s) in
      tidy_trans s u (item L s) (tidy_trans s (trivia s) u (trivia_tidy s) (at x (trivia s))) (flush_tidy u)
    where
      at : (x : Next) (t : State) → Tidy t (item_at L x t)
      at end t = tidying.same t
      at other t = stray_tidy t
      at (hit a is) t = reads_tidy L (item_of a) t

  pub items_tidy : (L : Limits) (n : ℕ) (s : State) → Tidy s (items L n s)
  items_tidy L zero s = tidying.same s
  items_tidy L (suc n) s = go s.rest s.mode s (items_tidy L n)
    where
      go : (r : List ℕ) (o : Mode) (s : State) → ((u : State) → Tidy u (items L n u)) → let t : State = turn o (put r s.out s) in Tidy t (items L (suc n) t)
      go [] o s H = tidying.same (turn o (put [] s.out s))
      go (i ∷ is) failed s H = tidying.same (turn failed (put (i ∷ is) s.out s))
      go (i ∷ is) (stopped w) s H = tidying.same (turn (stopped w) (put (i ∷ is) s.out s))
      go (i ∷ is) ok s H = let t : State = turn ok (put (i ∷ is) s.out s) in tidy_trans t (item L t) (items L n (item L t)) (item_tidy L t) (H (item L t))

-- what is written after n items, and by a whole reading
pub items_tidied : (L : Limits) (r : List ℕ) (f n : ℕ) → let o : List Event = (items L n (start r f)).out in Ins (length r) o × Nest 0 o 0
items_tidied L r f n =
    let w = (items_tidy (length r) L n (start r f) (record { rows = omega arith; wants = tt; unwants = tt; chose = tt })).wrote in
    let e : w.new ≡ (items L n (start r f)).out = sym (append-nil w.new) ∙ w.joins in
    (subst (Ins (length r)) e w.ins, subst (λ (o : List Event). Nest 0 o 0) e (w.nest 0))

pub read_tidy : (L : Limits) (r : List ℕ) (f : ℕ) → Ins (length r) (read L r f).out × Nest 0 (read L r f).out 0
read_tidy L r f = items_tidied L r f (length r)
