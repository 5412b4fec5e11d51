-- While no error has been chosen, the reader and the PEG agree; and what the cache holds fails in the PEG.
use Prim.Native.Nat.{ℕ, zero, suc, ◌<◌}
use mathlib.Core.Path.{◌≡◌, refl, ap, sym, ◌∙◌, subst}
use mathlib.Core.Logic.{◌⊎◌, inl, inr}
use mathlib.Core.List.{List, [], ◌∷◌, ◌++◌, map}
use mathlib.Core.Bool.{Bool, true, false, ◌&&◌, ◌||◌, not}
use mathlib.Core.Option.{Option, none, some}
use lib.Dec.{T, eqb, ltb, eqb→eq}
use lib.ListN.{length, length-append}
use native.Mathlib.Omega.{arith}
use Rattle.kinds.specs.Kinds as kinds
use Rattle.kinds.specs.Sets.{id_of, pick}
use Rattle.definition.specs.Prog.{Production, Prog, eat, unless, ifnext, opt, many, then, ◌⨟◌, ◌⫽◌, last, recover, node, memo}
use Rattle.definition.specs.Grammar.{grammar, kind}
use Rattle.definition.specs.Run.{State, Reader, Mode, ok, failed, stopped, Stop, spent, deep, Choice, wanted, unwanted, Next, end, other, hit, next, sought, skip, trivia, turn, take, back, expected, unexpected, further, furthest, join, choose, decide, halted, charge, begin, finish, if_ok, fails, eat_row, refuse_row, branch, or_else, go_on, loop, known, remember, memo_row, nodes, first_names, swallow, recovered, recovery, exec, run}
use Rattle.definition.specs.Ford.{strip, Res}
use Rattle.definition.proofs.Gap.{gap}
use Rattle.definition.proofs.Peg.{Miss, Peg, eat_yes, eat_no, unless_yes, unless_no, ifnext_hit, ifnext_miss, opt_yes, opt_no, many_yes, many_no, then_is, seq_yes, seq_no, alt_yes, alt_no, last_is, recover_is, node_is, memo_is}
use Rattle.definition.proofs.Order.{Running, steps, loop_up, swallow_up}
use Rattle.definition.proofs.Grows.{End, Front, Grown, grown, grows, sought_hit, take_end, gap_end, end_trans, running_before, run_zero}
use Rattle.definition.proofs.Every.{and_left, and_right, productions, each, each_if, kind_inj, never}
use Rattle.definition.proofs.Shrink.{taking, not_failed, strip_gap, strip_head, strip_skip, strip_end, size, run_ok, exec_grown, shrinks, charge_rest, strip_le, size_nil}

-- it may end in good order at the source's end although the PEG fails: a `recover` there comes to nothing
abbrev pub loose : Prog → Bool
loose (eat S N) = false
loose (unless S) = false
loose (ifnext S p) = loose p
loose (opt p) = false
loose (many p) = false
loose (then p) = loose p
loose (p ⨟ q) = loose q || (loose p && not (taking q))
loose (p ⫽ q) = false
loose (last p) = false
loose (recover S) = true
loose (node a) = eqb (kind a) kinds.CONDITION_BLK
loose (memo a) = eqb (kind a) kinds.CONDITION_BLK

-- what may be tried and undone is not loose, and what is repeated takes rows
abbrev pub sound : Prog → Bool
sound (eat S N) = true
sound (unless S) = true
sound (ifnext S p) = sound p
sound (opt p) = not (loose p) && sound p
sound (many p) = (not (loose p) && taking p) && sound p
sound (then p) = sound p
sound (p ⨟ q) = sound p && sound q
sound (p ⫽ q) = (not (loose p) && not (loose q)) && (sound p && sound q)
sound (last p) = not (loose p) && sound p
sound (recover S) = true
sound (node a) = true
sound (memo a) = true

-- an error can be chosen
abbrev pub noted : Option (ℕ × List ℕ) → Option ℕ → Bool
noted (some w) u = true
noted none (some u) = true
noted none none = false

further_noted : (r : ℕ) (ns : List ℕ) (w : Option (ℕ × List ℕ)) (u : Option ℕ) → T (noted (further r ns w) u)
further_noted r ns none u = tt
further_noted r ns (some w) u = go (ltb r w.0) (eqb r w.0)
  where
    go : (a b : Bool) → T (noted (elim a as (λ _. Option (ℕ × List ℕ)) [ true ↦ some (r, join [] ns) | false ↦ elim b as (λ _. Option (ℕ × List ℕ)) [ true ↦ some (r, join w.1 ns) | false ↦ some w ] ]) u)
    go true b = tt
    go false true = tt
    go false false = tt

furthest_noted : (r : ℕ) (w : Option (ℕ × List ℕ)) (u : Option ℕ) → T (noted w (furthest r u))
furthest_noted r (some w) u = tt
furthest_noted r none none = tt
furthest_noted r none (some u) = go (ltb r u)
  where
    go : (a : Bool) → T (noted none (elim a as (λ _. Option ℕ) [ true ↦ some r | false ↦ some u ]))
    go true = tt
    go false = tt

pub nil_cons : {A B : Type 0} {x : A} {xs : List A} → ◌≡◌ {A = List A} (x ∷ xs) [] → B
nil_cons e = never cc

-- the first choice gives an error
pub decide_some : {A : Type 0} (w : Option (ℕ × List ℕ)) (u : Option ℕ) → T (noted w u) → decide w u [] ≡ [] → A
decide_some none none t e = absurd t
decide_some none (some u) t e = nil_cons e
decide_some (some w) none t e = nil_cons e
decide_some (some w) (some u) t e = go (ltb u w.0) e
  where
    go : {A : Type 0} (b : Bool) → ◌≡◌ {A = List (ℕ × Choice)} (elim b [ true ↦ (u, unwanted) ∷ [] | false ↦ (w.0, wanted w.1) ∷ [] ]) [] → A
    go true e = nil_cons e
    go false e = nil_cons e

-- sets and rows, trivia aside
pub next_hit : (S r : List ℕ) (a : ℕ) (is : List ℕ) → next S r ≡ hit a is → sought S (strip r) ≡ hit a (strip is)
next_hit S r a is e =
    let p = sought_hit S (skip r) a is e in
    ap (sought S) (strip_head r p.0 is p.1) ∙ go (pick S p.0) (ap (sought S) (sym p.1) ∙ e)
  where
    go : (x : Option ℕ) → ◌≡◌ {A = Next} (elim x [ none ↦ other | some b ↦ hit b is ]) (hit a is) → ◌≡◌ {A = Next} (elim x [ none ↦ other | some b ↦ hit b (strip is) ]) (hit a (strip is))
    go none e = never cc
    go (some b) e = let z : b ≡ a = cc in ap (λ (c : ℕ). hit c (strip is)) z

pub next_miss : (S r : List ℕ) → Miss (next S r) → Miss (sought S (strip r))
next_miss S r m = go (skip r) refl m
  where
    at : (i : ℕ) (is : List ℕ) (x : Option ℕ) → Miss (elim x as (λ _. Next) [ none ↦ other | some b ↦ hit b is ]) → Miss (elim x as (λ _. Next) [ none ↦ other | some b ↦ hit b (strip is) ])
    at i is none m = tt
    at i is (some b) m = m

    go : (l : List ℕ) → skip r ≡ l → Miss (sought S l) → Miss (sought S (strip r))
    go [] e m = subst (λ (l : List ℕ). Miss (sought S l)) (ap strip (sym e) ∙ strip_skip r) tt
    go (i ∷ is) e m = subst (λ (l : List ℕ). Miss (sought S l)) (sym (strip_head r i is e)) (at i is (pick S i) m)

pub next_end : (S r : List ℕ) → next S r ≡ end → strip r ≡ []
next_end S r e = go (skip r) refl e
  where
    at : {A : Type 0} (is : List ℕ) (x : Option ℕ) → ◌≡◌ {A = Next} (elim x [ none ↦ other | some b ↦ hit b is ]) end → A
    at is none e = never cc
    at is (some b) e = never cc

    go : (l : List ℕ) → skip r ≡ l → sought S l ≡ end → strip r ≡ []
    go [] h e = sym (strip_skip r) ∙ ap strip h
    go (i ∷ is) h e = at is (pick S i) e

pub not_ok : {A : Type 0} → ok ≡ failed → A
not_ok e = not_failed (sym e)

pub not_stop : {A : Type 0} (w : Stop) → stopped w ≡ failed → A
not_stop w e = never cc

-- the reader goes on, and nothing has been chosen
abbrev pub Fine : State → Type 0
Fine t = Running t.mode × (t.chosen ≡ [])

pub front_nil : {A : Type 0} (a b : List A) → Front a b → b ≡ [] → a ≡ []
front_nil [] b p e = refl
front_nil (x ∷ a) b p e = nil_cons (p.1 ∙ e)

pub fine_before : (s t : State) → Grown s t → Fine t → Fine s
fine_before s t g f = (running_before s t g f.0, front_nil s.chosen t.chosen g.errors f.1)

abbrev pub Quiet : Mode → List (ℕ × ℕ) → Type 0
Quiet ok [] = Unit
Quiet ok (e ∷ es) = ⊥
Quiet failed c = ⊥
Quiet (stopped w) c = ⊥

-- a failure, or a remembered one, has left something to choose
abbrev pub Told : State → Type 0
Told s = Quiet s.mode s.cache ⊎ T (noted s.want s.unwant)

-- two ends of one length are one
append_same : (x y a b : List ℕ) → x ++ a ≡ y ++ b → length a ≡ length b → a ≡ b
append_same [] [] a b e l = e
append_same [] (j ∷ y) a b e l = absurd (omega (arith, ap length e, length-append y b))
append_same (i ∷ x) [] a b e l = absurd (omega (arith, ap length e, length-append x a))
append_same (i ∷ x) (j ∷ y) a b e l = let z : x ++ a ≡ y ++ b = cc in append_same x y a b z l

end_same : (a b R : List ℕ) → End a R → End b R → length a ≡ length b → a ≡ b
end_same a b R p q l = append_same p.0 q.0 a b (p.1 ∙ sym q.1) l

-- only condition_blk is loose, and every production is sound
loose_production : (E : Bool) (a : Production) → T (loose (grammar E a)) → T (loose (node a))
unfolding productions grammar kind
loose_production E = each_if (λ a. loose (grammar E a)) (λ a. loose (node a)) tt

pub sound_productions : (E : Bool) (a : Production) → T (sound (grammar E a))
unfolding productions grammar kind
sound_productions E = each (λ a. sound (grammar E a)) tt

pub to_memo : {E : Bool} {a : Production} {r : List ℕ} {x : Res} → Peg E (node a) r x → Peg E (memo a) r x
to_memo (node_is d) = memo_is d

pub of_node : (E : Bool) {a : Production} {r : List ℕ} {x : Res} → Peg E (node a) r x → Peg E (grammar E a) r x
of_node E (node_is d) = d

module _ (E : Bool) (R : List ℕ) where
  -- what the cache holds fails in the PEG
  abbrev pub Valid : List (ℕ × ℕ) → Type 0
  Valid c = (a : Production) (r : List ℕ) → End r R → known c (length r) (kind a) ≡ true → Peg E (grammar E a) (strip r) Res.no

  pub record Inv (s : State) : Type 0 where
    pub rows : End s.rest R
    pub clear : s.chosen ≡ []
    pub valid : Valid s.cache
    pub told : Told s

  -- from r the PEG comes to r'; or it fails, and a `recover` at the end let it pass
  abbrev pub Won : Prog → List ℕ → List ℕ → Type 0
  Won p r r' = Peg E p r (Res.yes r') ⊎ (T (loose p) × Peg E p r Res.no × (r' ≡ []))

  pub record Sim (p : Prog) (s t : State) : Type 0 where
    pub inv : Inv t
    pub good : s.mode ≡ ok → t.mode ≡ ok → Won p (strip s.rest) (strip t.rest)
    pub bad : s.mode ≡ ok → t.mode ≡ failed → Peg E p (strip s.rest) Res.no
    pub late : s.mode ≡ failed → t.mode ≡ ok → T (loose p) × (strip t.rest ≡ [])

  abbrev pub Good : Prog → Reader → Type 0
  Good p f = (s : State) → Inv s → Fine (f s) → Sim p s (f s)

  -- the same from good order
  abbrev pub OkSim : Prog → State → State → Type 0
  OkSim p s t = Inv t × (t.mode ≡ ok → Won p (strip s.rest) (strip t.rest)) × (t.mode ≡ failed → Peg E p (strip s.rest) Res.no)

  pub guarded : (p : Prog) (f : Reader) → ((s : State) → s.mode ≡ ok → Inv s → Fine (f s) → OkSim p s (f s)) → Good p (if_ok f)
  guarded p f g s = go s.mode s
    where
      go : (m : Mode) (s : State) → Inv (turn m s) → Fine (if_ok f (turn m s)) → Sim p (turn m s) (if_ok f (turn m s))
      go ok s i h = let x = g (turn ok s) refl i h in record { inv = x.0; good = λ _. x.1; bad = λ _. x.2; late = λ e. not_ok e }
      go failed s i h = record { inv = i; good = λ e. not_failed e; bad = λ e. not_failed e; late = λ _ e. not_failed e }
      go (stopped w) s i h = absurd h.0

  pub inv_trivia : (s : State) → Inv s → Inv (trivia s)
  inv_trivia s i = record { rows = end_trans (gap s.mode s.rest) s.rest R (gap_end s.mode s.rest) i.rows; clear = i.clear; valid = i.valid; told = i.told }

  inv_take : (S : List ℕ) (s : State) (a : ℕ) (is : List ℕ) → next S s.rest ≡ hit a is → Inv s → Inv (take a is (trivia s))
  inv_take S s a is h i = record { rows = end_trans is s.rest R (take_end S s.rest a is h) i.rows; clear = i.clear; valid = i.valid; told = i.told }

  inv_back : (s t : State) → Inv s → Inv t → Inv (back s t)
  inv_back s t i j = record { rows = i.rows; clear = j.clear; valid = j.valid; told = j.told }

  pub inv_failed : (s : State) → Inv s → T (noted s.want s.unwant) → Inv (turn failed s)
  inv_failed s i n = record { rows = i.rows; clear = i.clear; valid = i.valid; told = inr n }

  inv_expected : (N : List ℕ) (s : State) → Inv s → Inv (expected N s)
  inv_expected N s i = record { rows = i.rows; clear = i.clear; valid = i.valid; told = inr (further_noted _ N s.want s.unwant) }

  inv_unexpected : (s : State) → Inv s → Inv (unexpected s)
  inv_unexpected s i = record { rows = i.rows; clear = i.clear; valid = i.valid; told = inr (furthest_noted _ s.want s.unwant) }

  -- undoing a failure
  pub noted_failed : (t : State) → t.mode ≡ failed → Inv t → T (noted t.want t.unwant)
  noted_failed t e i = go i.told
    where
      quiet_failed : (m : Mode) (c : List (ℕ × ℕ)) → m ≡ failed → Quiet m c → ⊥
      quiet_failed ok [] e q = not_ok e
      quiet_failed ok (x ∷ c) e q = q
      quiet_failed failed c e q = q
      quiet_failed (stopped w) c e q = q

      go : Told t → T (noted t.want t.unwant)
      go (inl q) = absurd (quiet_failed t.mode t.cache e q)
      go (inr n) = n

  pub inv_undone : (s t : State) → Inv s → t.mode ≡ failed → Inv t → Inv (turn ok (back s t))
  inv_undone s t i e j = record { rows = i.rows; clear = j.clear; valid = j.valid; told = inr (noted_failed t e j) }

  eat_sim : (S N : List ℕ) (s : State) → s.mode ≡ ok → Inv s → (x : Next) → next S s.rest ≡ x → OkSim (eat S N) s (eat_row N x s)
  eat_sim S N s m i end h = (inv_failed (expected N s) (inv_expected N s i) (further_noted _ N s.want s.unwant), λ e. not_failed e, λ _. eat_no (next_miss S s.rest (subst Miss (sym h) tt)))
  eat_sim S N s m i other h = (inv_failed (expected N s) (inv_expected N s i) (further_noted _ N s.want s.unwant), λ e. not_failed e, λ _. eat_no (next_miss S s.rest (subst Miss (sym h) tt)))
  eat_sim S N s m i (hit a is) h = (
    inv_take S s a is h i,
    (λ _. inl (eat_yes a (next_hit S s.rest a is h))),
    λ e. not_ok (sym m ∙ e),
  )

  unless_sim : (S : List ℕ) (s : State) → s.mode ≡ ok → Inv s → (x : Next) → next S s.rest ≡ x → OkSim (unless S) s (refuse_row x s)
  unless_sim S s m i end h = (inv_back s (trivia s) i (inv_trivia s i), (λ _. inl (unless_yes (next_miss S s.rest (subst Miss (sym h) tt)))), λ e. not_ok (sym m ∙ e))
  unless_sim S s m i other h = (inv_back s (trivia s) i (inv_trivia s i), (λ _. inl (unless_yes (next_miss S s.rest (subst Miss (sym h) tt)))), λ e. not_ok (sym m ∙ e))
  unless_sim S s m i (hit a is) h =
      let b : State = back s (take a is (trivia s)) in
      (inv_failed (unexpected b) (inv_unexpected b (inv_back s (take a is (trivia s)) i (inv_take S s a is h i))) (furthest_noted _ s.want s.unwant), (λ e. not_failed e), λ _. unless_no a (strip is) (next_hit S s.rest a is h))

  -- f past trivia
  pub after : (p : Prog) (f : Reader) → Good p f → (s : State) → s.mode ≡ ok → Inv s → Fine (f (trivia s)) → OkSim p s (f (trivia s))
  after p f F s m i h =
      let x = F (trivia s) (inv_trivia s i) h in (
        x.inv,
        (λ e. subst (λ (l : List ℕ). Won p l (strip (f (trivia s)).rest)) (strip_gap s.mode s.rest) (x.good m e)),
        λ e. subst (λ (l : List ℕ). Peg E p l Res.no) (strip_gap s.mode s.rest) (x.bad m e),
      )

  -- a result carried over to a program that has the same results and is loose where the first is
  carry : (p q : Prog) (r r' : List ℕ) → (T (loose p) → T (loose q)) → ((x : Res) → Peg E p r x → Peg E q r x) → Won p r r' → Won q r r'
  carry p q r r' l f (inl d) = inl (f (Res.yes r') d)
  carry p q r r' l f (inr x) = inr (l x.0, f Res.no x.1, x.2)

  carried : (p q : Prog) (s t : State) → (T (loose p) → T (loose q)) → ((x : Res) → Peg E p (strip s.rest) x → Peg E q (strip s.rest) x) → OkSim p s t → OkSim q s t
  carried p q s t l f x = (x.0, (λ e. carry p q (strip s.rest) (strip t.rest) l f (x.1 e)), λ e. f Res.no (x.2 e))

  branch_sim : (S : List ℕ) (p : Prog) (f : Reader) → Good p f → (s : State) → s.mode ≡ ok → Inv s → (x : Next) → next S s.rest ≡ x → Fine (branch (map id_of S) f x s) → OkSim (ifnext S p) s (branch (map id_of S) f x s)
  branch_sim S p f F s m i end h w = (i, (λ _. inl (ifnext_miss (next_miss S s.rest (subst Miss (sym h) tt)))), λ e. not_ok (sym m ∙ e))
  branch_sim S p f F s m i other h w = (inv_expected (map id_of S) s i, (λ _. inl (ifnext_miss (next_miss S s.rest (subst Miss (sym h) tt)))), λ e. not_ok (sym m ∙ e))
  branch_sim S p f F s m i (hit a is) h w = carried p (ifnext S p) s (f (trivia s)) (λ l. l) (λ x d. ifnext_hit a (strip is) (next_hit S s.rest a is h) d) (after p f F s m i w)

  not_loose : {A : Type 0} (b : Bool) → T (not b) → T b → A
  not_loose true n t = absurd n
  not_loose false n t = absurd t

  -- the PEG's own result, of a program that is not loose
  pub firm : (p : Prog) (r r' : List ℕ) → T (not (loose p)) → Won p r r' → Peg E p r (Res.yes r')
  firm p r r' n (inl d) = d
  firm p r r' n (inr x) = not_loose (loose p) n x.0

  pub alt_sim : (p q : Prog) (g : Reader) → T (not (loose p)) → T (not (loose q)) → Good q g → ((s : State) → Grown s (g s)) → (s : State) → Inv s → (t : State) → (Fine t → OkSim p s t) → Fine (or_else g s t) → OkSim (p ⫽ q) s (or_else g s t)
  alt_sim p q g np nq G gg s i t = go t.mode t
    where
      go : (m : Mode) (t : State) → (Fine (turn m t) → OkSim p s (turn m t)) → Fine (or_else g s (turn m t)) → OkSim (p ⫽ q) s (or_else g s (turn m t))
      go ok t A h = let x = A h in (x.0, (λ e. inl (alt_yes (firm p _ _ np (x.1 e)))), λ e. not_ok e)
      go failed t A h =
          let u : State = turn ok (back s (turn failed t)) in
          let x = A (tt, (fine_before u (g u) (gg u) h).1) in
          let y = G u (inv_undone s (turn failed t) i refl x.0) h in
          (y.inv, (λ e. inl (alt_no (x.2 refl) (firm q _ _ nq (y.good refl e)))), λ e. alt_no (x.2 refl) (y.bad refl e))
      go (stopped w) t A h = absurd h.0

  opt_sim : (p : Prog) → T (not (loose p)) → (s : State) → Inv s → (t : State) → (Fine t → OkSim p s t) → Fine (or_else (λ u. u) s t) → OkSim (opt p) s (or_else (λ u. u) s t)
  opt_sim p np s i t = go t.mode t
    where
      go : (m : Mode) (t : State) → (Fine (turn m t) → OkSim p s (turn m t)) → Fine (or_else (λ u. u) s (turn m t)) → OkSim (opt p) s (or_else (λ u. u) s (turn m t))
      go ok t A h = let x = A h in (x.0, (λ e. inl (opt_yes (firm p _ _ np (x.1 e)))), λ e. not_ok e)
      go failed t A h = let x = A (tt, h.1) in (inv_undone s (turn failed t) i refl x.0, (λ e. inl (opt_no (x.2 refl))), λ e. not_ok e)
      go (stopped w) t A h = absurd h.0

  last_sim : (p : Prog) → T (not (loose p)) → (s : State) → Inv s → (t : State) → (Fine t → OkSim p s t) → Fine (or_else fails s t) → OkSim (last p) s (or_else fails s t)
  last_sim p np s i t = go t.mode t
    where
      go : (m : Mode) (t : State) → (Fine (turn m t) → OkSim p s (turn m t)) → Fine (or_else fails s (turn m t)) → OkSim (last p) s (or_else fails s (turn m t))
      go ok t A h = let x = A h in (x.0, (λ e. inl (last_is (firm p _ _ np (x.1 e)))), λ e. not_ok e)
      go failed t A h =
          let x = A (tt, h.1) in
          let u : State = turn ok (back s (turn failed t)) in
          (inv_failed u (inv_undone s (turn failed t) i refl x.0) (noted_failed (turn failed t) refl x.0), (λ e. not_failed e), λ e. last_is (x.2 refl))
      go (stopped w) t A h = absurd h.0

  pub loop_sim : (p : Prog) (f : Reader) → T (not (loose p)) → Good p f → ((s : State) → Grown s (f s)) → ((s : State) → (f s).mode ≡ ok → size (f s) < size s) → (n : ℕ) (s : State) → s.mode ≡ ok → Inv s → size s < n → Fine (loop f n s) → OkSim (many p) s (loop f n s)
  loop_sim p f np F fg fs zero s m i l h = absurd (omega arith)
  loop_sim p f np F fg fs (suc n) s m i l h =
      go (f (trivia s)).mode (f (trivia s)) (after p f F s m i) (λ e. let z = fs (trivia s) e in omega (arith, ap length (strip_gap s.mode s.rest))) (loop_sim p f np F fg fs n) h
    where
      go : (m : Mode) (t : State) → (Fine (turn m t) → OkSim p s (turn m t)) → (m ≡ ok → size t < size s) → ((s : State) → s.mode ≡ ok → Inv s → size s < n → Fine (loop f n s) → OkSim (many p) s (loop f n s)) → Fine (go_on (loop f n) s (turn m t)) → OkSim (many p) s (go_on (loop f n) s (turn m t))
      go ok t A B C h =
          let x = A (fine_before (turn ok t) (loop f n (turn ok t)) (loop_up Grown (steps Grown grown) f fg n (turn ok t)) h) in
          let d = firm p _ _ np (x.1 refl) in
          let b = B refl in
          let y = C (turn ok t) refl x.0 (omega arith) h in
          (y.0, (λ e. carry_many d (y.1 e)), λ e. many_yes d (y.2 e))
        where
          carry_many : {r r₁ r₂ : List ℕ} → Peg E p r (Res.yes r₁) → Won (many p) r₁ r₂ → Won (many p) r r₂
          carry_many d (inl e) = inl (many_yes d e)
          carry_many d (inr x) = absurd x.0
      go failed t A B C h = let x = A (tt, h.1) in (inv_undone s (turn failed t) i refl x.0, (λ e. inl (many_no (x.2 refl))), λ e. not_ok e)
      go (stopped w) t A B C h = absurd h.0

  pub or_left : (a b : Bool) → T a → T (a || b)
  or_left true b t = tt
  or_left false b t = absurd t

  -- nothing is left, so a program behind takes nothing; and one that must take a row does not end in good order
  lost : (p q : Prog) (u t : State) → Grown u t → (T (taking q) → size t < size u) → T (loose p) → strip u.rest ≡ [] → T (loose (p ⨟ q)) × (strip t.rest ≡ [])
  lost p q u t g k l e =
      let z = strip_end t.rest u.rest g.rows in
      (go (loose q) (loose p) (taking q) l k, size_nil (strip t.rest) (omega (arith, ap length e)))
    where
      go : (a b c : Bool) → T b → (T c → size t < size u) → T (a || (b && not c))
      go true b c l k = tt
      go false true true l k = let z = k tt in absurd (omega (arith, ap length e))
      go false true false l k = tt
      go false false c l k = absurd l

  seq_sim : (p q : Prog) (f g : Reader) → Good p f → Good q g → ((s : State) → Grown s (g s)) → ((s : State) → (g s).mode ≡ ok → T (taking q) → size (g s) < size s) → Good (p ⨟ q) (λ s. g (f s))
  seq_sim p q f g F G gg gk s i h =
      let u : State = f s in
      let fu = fine_before u (g u) (gg u) h in
      let x = F s i fu in
      let y = G u x.inv h in
      record { inv = y.inv; good = λ m e. good' x y m e u.mode refl fu.0; bad = λ m e. bad' x y m e u.mode refl fu.0; late = λ m e. late' x y m e u.mode refl fu.0 }
    where
      both : {r r₁ r₂ : List ℕ} → Peg E p r (Res.yes r₁) → Won q r₁ r₂ → Won (p ⨟ q) r r₂
      both d (inl e) = inl (seq_yes d e)
      both d (inr x) = inr (or_left (loose q) (loose p && not (taking q)) x.0, seq_yes d x.1, x.2)

      good₁ : (f s).mode ≡ ok → (g (f s)).mode ≡ ok → Sim q (f s) (g (f s)) → Won p (strip s.rest) (strip (f s).rest) → Won (p ⨟ q) (strip s.rest) (strip (g (f s)).rest)
      good₁ m e y (inl d) = both d (y.good m e)
      good₁ m e y (inr x) = let z = lost p q (f s) (g (f s)) (gg (f s)) (gk (f s) e) x.0 x.2 in inr (z.0, seq_no x.1, z.1)

      good' : Sim p s (f s) → Sim q (f s) (g (f s)) → s.mode ≡ ok → (g (f s)).mode ≡ ok → (m : Mode) → (f s).mode ≡ m → Running m → Won (p ⨟ q) (strip s.rest) (strip (g (f s)).rest)
      good' x y n e ok m r = good₁ m e y (x.good n m)
      good' x y n e failed m r = let z = y.late m e in inr (or_left (loose q) (loose p && not (taking q)) z.0, seq_no (x.bad n m), z.1)
      good' x y n e (stopped w) m r = absurd r

      bad₁ : (f s).mode ≡ ok → (g (f s)).mode ≡ failed → Sim q (f s) (g (f s)) → Won p (strip s.rest) (strip (f s).rest) → Peg E (p ⨟ q) (strip s.rest) Res.no
      bad₁ m e y (inl d) = seq_yes d (y.bad m e)
      bad₁ m e y (inr x) = seq_no x.1

      bad' : Sim p s (f s) → Sim q (f s) (g (f s)) → s.mode ≡ ok → (g (f s)).mode ≡ failed → (m : Mode) → (f s).mode ≡ m → Running m → Peg E (p ⨟ q) (strip s.rest) Res.no
      bad' x y n e ok m r = bad₁ m e y (x.good n m)
      bad' x y n e failed m r = seq_no (x.bad n m)
      bad' x y n e (stopped w) m r = absurd r

      late' : Sim p s (f s) → Sim q (f s) (g (f s)) → s.mode ≡ failed → (g (f s)).mode ≡ ok → (m : Mode) → (f s).mode ≡ m → Running m → T (loose (p ⨟ q)) × (strip (g (f s)).rest ≡ [])
      late' x y n e ok m r = let z = x.late n m in lost p q (f s) (g (f s)) (gg (f s)) (gk (f s) e) z.0 z.1
      late' x y n e failed m r = let z = y.late m e in (or_left (loose q) (loose p && not (taking q)) z.0, z.1)
      late' x y n e (stopped w) m r = absurd r

  -- a choice, with something to choose and nothing pending, is no state of a reading without errors
  pub chose : {A : Type 0} (u t : State) → u.chosen ≡ [] → T (noted u.want u.unwant) → Grown (choose u) t → t.chosen ≡ [] → A
  chose u t c n g h =
      decide_some u.want u.unwant n (subst (λ (l : List (ℕ × Choice)). decide u.want u.unwant l ≡ []) c (front_nil _ t.chosen g.errors h))

  swallowed : {A : Type 0} (d : ℕ) (o : Bool) (S : List ℕ) (c : List (ℕ × Choice)) (s : State) → s.chosen ≡ c → s.chosen ≡ [] → (swallow d o S (choose (first_names c S s))).chosen ≡ [] → A
  swallowed d o S [] s e i h =
      let u : State = expected (map id_of S) s in
      chose u (swallow d o S (choose u)) i (further_noted _ (map id_of S) s.want s.unwant) (swallow_up Grown (steps Grown grown) d o S (choose u)) h
  swallowed d o S (x ∷ c) s e i h = nil_cons (sym e ∙ i)

  pub grown_refl : (s : State) → Grown s s
  grown_refl s = grown.same s

  pub recover_sim : (d : ℕ) (o : Bool) (S : List ℕ) → Good (recover S) (recovery d o S)
  recover_sim d o S s = go s.mode s
    where
      was_ok : (x : Next) (s : State) → next S s.rest ≡ x → Inv (turn ok s) → Fine (recovered d o S x ok (turn ok s)) → Sim (recover S) (turn ok s) (recovered d o S x ok (turn ok s))
      was_ok end s e i h = record { inv = i; good = λ _ _. inl recover_is; bad = λ _ e. not_ok e; late = λ e. not_ok e }
      was_ok other s e i h = swallowed d o S s.chosen (turn ok s) refl i.clear h.1
      was_ok (hit a is) s e i h = record { inv = i; good = λ _ _. inl recover_is; bad = λ _ e. not_ok e; late = λ e. not_ok e }

      was_failed : (x : Next) (s : State) → next S s.rest ≡ x → Inv (turn failed s) → Fine (recovered d o S x failed (turn ok s)) → Sim (recover S) (turn failed s) (recovered d o S x failed (turn ok s))
      was_failed end s e i h = record { inv = record { rows = i.rows; clear = i.clear; valid = i.valid; told = inr (noted_failed (turn failed s) refl i) }; good = λ e. not_failed e; bad = λ e. not_failed e; late = λ _ _. (tt, next_end S s.rest e) }
      was_failed other s e i h = swallowed d o S s.chosen (turn ok s) refl i.clear h.1
      was_failed (hit a is) s e i h = chose (turn ok s) (choose (turn ok s)) i.clear (noted_failed (turn failed s) refl i) (grown_refl (choose (turn ok s))) h.1

      go : (m : Mode) (s : State) → Inv (turn m s) → Fine (recovery d o S (turn m s)) → Sim (recover S) (turn m s) (recovery d o S (turn m s))
      go ok s i h = was_ok (next S s.rest) s refl i h
      go failed s i h = was_failed (next S s.rest) s refl i h
      go (stopped w) s i h = absurd h.0

  -- a failure that is remembered
  valid_more : (c : List (ℕ × ℕ)) (a : Production) (r : List ℕ) → End r R → Peg E (grammar E a) (strip r) Res.no → Valid c → Valid ((length r, kind a) ∷ c)
  valid_more c a r p d v b r' p' = go (eqb (length r') (length r)) (eqb (kind b) (kind a)) (eqb→eq (length r') (length r)) (eqb→eq (kind b) (kind a))
    where
      go : (x y : Bool) → (T x → length r' ≡ length r) → (T y → kind b ≡ kind a) → ◌≡◌ {A = Bool} (elim (x && y) [ true ↦ true | false ↦ known c (length r') (kind b) ]) true → Peg E (grammar E b) (strip r') Res.no
      go true true l k e =
          subst (λ (l : List ℕ). Peg E (grammar E b) (strip l) Res.no) (sym (end_same r' r R p' p (l tt))) (subst (λ (q : Production). Peg E (grammar E q) (strip r) Res.no) (sym (kind_inj b a (k tt))) d)
      go true false l k e = v b r' p' e
      go false y l k e = v b r' p' e

  hit_noted : (s : State) → s.mode ≡ ok → (n a : ℕ) → known s.cache n a ≡ true → Told s → T (noted s.want s.unwant)
  hit_noted s m n a e (inr t) = t
  hit_noted s m n a e (inl q) = absurd (go s.mode s.cache e q)
    where
      go : (m : Mode) (c : List (ℕ × ℕ)) → known c n a ≡ true → Quiet m c → ⊥
      go ok [] e q = never cc
      go ok (x ∷ c) e q = q
      go failed c e q = q
      go (stopped w) c e q = q

  memo_sim : (a : Production) (f : Reader) → Good (node a) f → ((s : State) → Grown s (f s)) → (s : State) → s.mode ≡ ok → Inv s → (b : Bool) → known s.cache (length s.rest) (kind a) ≡ b → Fine (memo_row (kind a) f b s) → OkSim (memo a) s (memo_row (kind a) f b s)
  memo_sim a f F fg s m i true e h =
      (inv_failed s i (hit_noted s m (length s.rest) (kind a) e i.told), (λ e. not_failed e), λ _. memo_is (i.valid a s.rest i.rows e))
  memo_sim a f F fg s m i false e h = go (f s).mode (f s) (F s i) h
    where
      go : (n : Mode) (t : State) → (Fine (turn n t) → Sim (node a) s (turn n t)) → Fine (remember (length s.rest) (kind a) (turn n t)) → OkSim (memo a) s (remember (length s.rest) (kind a) (turn n t))
      go ok t A h = let x = A h in (x.inv, (λ e. carry (node a) (memo a) (strip s.rest) (strip t.rest) (λ l. l) (λ _ d. to_memo d) (x.good m e)), λ e. not_ok e)
      go failed t A h =
          let x = A h in
          let d = x.bad m refl in
          (record { rows = x.inv.rows; clear = x.inv.clear; valid = valid_more t.cache a s.rest i.rows (of_node E d) x.inv.valid; told = inr (noted_failed (turn failed t) refl x.inv) }, (λ e. not_failed e), λ _. to_memo d)
      go (stopped w) t A h = absurd h.0

  -- a node's ends
  pub begun : (d f : ℕ) (s : State) → Inv s → Running (charge d f s).mode → Inv (charge d f s) × ((charge d f s).mode ≡ s.mode)
  begun d zero s i r = absurd (go s.mode r)
    where
      go : (m : Mode) → Running (halted spent m) → ⊥
      go ok r = r
      go failed r = r
      go (stopped w) r = r
  begun zero (suc f) s i r = absurd (go s.mode r)
    where
      go : (m : Mode) → Running (halted deep m) → ⊥
      go ok r = r
      go failed r = r
      go (stopped w) r = r
  begun (suc d) (suc f) s i r = (record { rows = i.rows; clear = i.clear; valid = i.valid; told = i.told }, refl)

  -- an ending node that chose nothing left the state as it was, but for the event
  pub ended : (o : Bool) (a n : ℕ) (u : State) → (Fine u → Inv u) → Fine (finish o a n u) → Fine u × Inv (finish o a n u) × ((finish o a n u).mode ≡ u.mode) × ((finish o a n u).rest ≡ u.rest)
  ended o a n u = go o u.mode u
    where
      go : (o : Bool) (m : Mode) (u : State) → (Fine (turn m u) → Inv (turn m u)) → Fine (finish o a n (turn m u)) → Fine (turn m u) × Inv (finish o a n (turn m u)) × ((finish o a n (turn m u)).mode ≡ m) × ((finish o a n (turn m u)).rest ≡ u.rest)
      go o ok u A h = let i = A h in (h, record { rows = i.rows; clear = i.clear; valid = i.valid; told = i.told }, refl, refl)
      go true failed u A h = let i = A h in (h, record { rows = i.rows; clear = i.clear; valid = i.valid; told = i.told }, refl, refl)
      go false failed u A h =
          let c = front_nil u.chosen (decide u.want u.unwant u.chosen) (grown.at_choose u).errors h.1 in
          let i = A (tt, c) in
          chose (turn failed u) (choose (turn failed u)) c (noted_failed (turn failed u) refl i) (grown_refl (choose (turn failed u))) h.1
      go true (stopped w) u A h = absurd h.0
      go false (stopped w) u A h = absurd h.0

  nodes_sim : (d : ℕ) (o : Bool) (a : Production) (f : Reader) → Good (grammar E a) f → ((s : State) → Grown s (f s)) → Good (node a) (nodes d o (kind a) f)
  nodes_sim d o a f F fg s i h =
      let t : State = begin d s in
      let c : State = charge d s.fuel (trivia s) in
      let z = ended o (kind a) (length t.rest) (f t) (λ k. (F t (t_inv (fine_before t (f t) (fg t) k).0) k).inv) h in
      let b = begun d s.fuel (trivia s) (inv_trivia s i) (fine_before t (f t) (fg t) z.0).0 in
      let x = F t (t_inv (fine_before t (f t) (fg t) z.0).0) z.0 in
      let r : strip t.rest ≡ strip s.rest = ap strip (charge_rest d s.fuel (trivia s)) ∙ strip_gap s.mode s.rest in
      record {
        inv = z.1;
        good = λ m e. subst (λ (l : List ℕ). Won (node a) (strip s.rest) (strip l)) (sym z.3) (carry (grammar E a) (node a) _ _ (loose_production E a) (λ _ g. node_is g) (subst (λ (l : List ℕ). Won (grammar E a) l (strip (f t).rest)) r (x.good (b.1 ∙ m) (sym z.2 ∙ e))));
        bad = λ m e. node_is (subst (λ (l : List ℕ). Peg E (grammar E a) l Res.no) r (x.bad (b.1 ∙ m) (sym z.2 ∙ e)));
        late = λ m e. let y = x.late (b.1 ∙ m) (sym z.2 ∙ e) in (loose_production E a y.0, ap strip z.3 ∙ y.1);
      }
    where
      t_inv : Running (begin d s).mode → Inv (begin d s)
      t_inv r = let j = (begun d s.fuel (trivia s) (inv_trivia s i) r).0 in record { rows = j.rows; clear = j.clear; valid = j.valid; told = j.told }

  module _ (d : ℕ) (call : Bool → Production → Reader)
      (cg : (o : Bool) (a : Production) (s : State) → Grown s (call o a s))
      (cs : (o : Bool) (a : Production) (s : State) → (call o a s).mode ≡ ok → s.mode ≡ ok)
      (ct : (o : Bool) (a : Production) (s : State) → (call o a s).mode ≡ ok → size (call o a s) < size s)
      (cm : (o : Bool) (a : Production) → Good (node a) (call o a)) where
    pub exec_sim : (p : Prog) → T (sound p) → (o : Bool) → Good p (exec d call p o)
    exec_sim (eat S N) t o = guarded (eat S N) _ (λ s m i h. eat_sim S N s m i (next S s.rest) refl)
    exec_sim (unless S) t o = guarded (unless S) _ (λ s m i h. unless_sim S s m i (next S s.rest) refl)
    exec_sim (ifnext S p) t o = guarded (ifnext S p) _ (λ s m i h. branch_sim S p (exec d call p o) (exec_sim p t o) s m i (next S s.rest) refl h)
    exec_sim (opt p) t o =
        let f : Reader = exec d call p true in
        guarded (opt p) _ (λ s m i h. opt_sim p (and_left (not (loose p)) (sound p) t) s i (f (trivia s)) (after p f (exec_sim p (and_right (not (loose p)) (sound p) t) true) s m i) h)
    exec_sim (many p) t o =
        let f : Reader = exec d call p true in
        let t₁ = and_left (not (loose p) && taking p) (sound p) t in
        guarded (many p) _ (λ s m i h. loop_sim p f (and_left (not (loose p)) (taking p) t₁) (exec_sim p (and_right (not (loose p) && taking p) (sound p) t) true) (exec_grown d call cg cs ct p true) (shrinks d call cg cs ct p (and_right (not (loose p)) (taking p) t₁) true) (suc (length s.rest)) s m i (omega (arith, strip_le s.rest)) h)
    exec_sim (then p) t o =
        let f : Reader = exec d call p o in
        guarded (then p) _ (λ s m i h. carried p (then p) s (f (trivia s)) (λ l. l) (λ _ e. then_is e) (after p f (exec_sim p t o) s m i h))
    exec_sim (p ⨟ q) t o = seq_sim p q (exec d call p o) (exec d call q o) (exec_sim p (and_left (sound p) (sound q) t) o) (exec_sim q (and_right (sound p) (sound q) t) o) (exec_grown d call cg cs ct q o) (λ s e k. shrinks d call cg cs ct q k o s e)
    exec_sim (p ⫽ q) t o =
        let f : Reader = exec d call p true in
        let t₁ = and_left (not (loose p) && not (loose q)) (sound p && sound q) t in
        let t₂ = and_right (not (loose p) && not (loose q)) (sound p && sound q) t in
        guarded (p ⫽ q) _ (λ s m i h. alt_sim p q (exec d call q o) (and_left (not (loose p)) (not (loose q)) t₁) (and_right (not (loose p)) (not (loose q)) t₁) (exec_sim q (and_right (sound p) (sound q) t₂) o) (exec_grown d call cg cs ct q o) s i (f (trivia s)) (after p f (exec_sim p (and_left (sound p) (sound q) t₂) true) s m i) h)
    exec_sim (last p) t o =
        let f : Reader = exec d call p true in
        guarded (last p) _ (λ s m i h. last_sim p (and_left (not (loose p)) (sound p) t) s i (f (trivia s)) (after p f (exec_sim p (and_right (not (loose p)) (sound p) t) true) s m i) h)
    exec_sim (recover S) t o = recover_sim d o S
    exec_sim (node a) t o = cm o a
    exec_sim (memo a) t o = guarded (memo a) _ (λ s m i h. memo_sim a (call o a) (cm o a) (cg o a) s m i (known s.cache (length s.rest) (kind a)) refl h)

  pub run_sim : (d : ℕ) (o : Bool) (a : Production) → Good (node a) (run E d o a)
  run_sim zero o a s i h = absurd (run_zero E o a s h.0)
  run_sim (suc d) o a s i h = nodes_sim (suc d) o a (exec d (run E d) (grammar E a) o) (exec_sim d (run E d) (grows E d) cs ct (λ o b s i h. run_sim d o b s i h) (grammar E a) (sound_productions E a) o) (exec_grown d (run E d) (grows E d) cs ct (grammar E a) o) s i h
    where
      cs : (o : Bool) (b : Production) (s : State) → (run E d o b s).mode ≡ ok → s.mode ≡ ok
      cs o b s e = (run_ok E d o b s e).0

      ct : (o : Bool) (b : Production) (s : State) → (run E d o b s).mode ≡ ok → size (run E d o b s) < size s
      ct o b s e = (run_ok E d o b s e).1
