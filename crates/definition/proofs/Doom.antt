-- Where an error is chosen, the PEG fails; told of a set of productions, where no `for` and no `with` that they can come to fails its own.
use Prim.Native.Nat.{ℕ, zero, suc, ◌<◌}
use mathlib.Core.Path.{◌≡◌, refl, ap, sym, ◌∙◌, subst}
use mathlib.Core.Logic.{◌⊎◌, inl, inr}
use mathlib.Core.List.{List, [], ◌∷◌, map}
use mathlib.Core.Bool.{Bool, true, false, ◌&&◌, ◌||◌, not}
use mathlib.Core.Option.{Option, none, some}
use lib.Dec.{T, eqb, ltb, eqb→eq}
use lib.ListN.{length}
use native.Mathlib.Omega.{arith}
use Rattle.kinds.specs.Kinds as kinds
use Rattle.kinds.specs.Sets.{id_of, pick}
use Rattle.definition.specs.Prog.{Production, CONDITION_BLK, FOR_EXPR, WITH_EXPR, Prog, eat, unless, ifnext, opt, many, then, ◌⨟◌, ◌⫽◌, last, recover, node, memo}
use Rattle.definition.specs.Grammar.{grammar, kind}
use Rattle.definition.specs.Run.{State, Reader, Mode, ok, failed, stopped, Next, end, other, hit, next, sought, skip, trivia, turn, back, begin, finish, if_ok, fails, eat_row, refuse_row, branch, or_else, go_on, loop, known, remember, memo_row, nodes, recovered, recovery, exec, run}
use Rattle.definition.specs.Ford.{strip, Res}
use Rattle.definition.proofs.Peg.{Miss, Peg, eat_yes, ifnext_hit, then_is, seq_yes, seq_no, alt_no, recover_is, node_is}
use Rattle.definition.proofs.Order.{Running, finish_up}
use Rattle.definition.proofs.Grows.{Grown, grown, grows, sought_hit, running_before, run_zero}
use Rattle.definition.proofs.Every.{and_left, and_right, or_cases, productions, each, each_if, is, kind_inj, clash, never}
use Rattle.definition.proofs.Shrink.{taking, not_failed, strip_gap, strip_head, size, run_ok, exec_grown, charge_rest}
use Rattle.definition.proofs.Agree as agree
use Rattle.definition.proofs.Agree.{loose, sound, Fine, Won, not_ok, nil_cons, next_miss, next_hit, exec_sim, run_sim, to_memo, sound_productions}
use Rattle.definition.proofs.Only.{Others, bare, for_rest, only_for, only_with, bare_for, bare_with}
use Rattle.definition.proofs.First.{dies, dies_no, sub, sub_miss}

-- productions that an optional part may enter
abbrev pub inner : Production → Bool
inner a = not (eqb (kind a) kinds.RULE_DECL) && not (eqb (kind a) kinds.CONDITION_BLK)

-- a program of such productions alone, in which nothing recovers
abbrev pub plain : Prog → Bool
plain (eat S N) = true
plain (unless S) = true
plain (ifnext S p) = plain p
plain (opt p) = plain p
plain (many p) = plain p
plain (then p) = plain p
plain (p ⨟ q) = plain p && plain q
plain (p ⫽ q) = plain p && plain q
plain (last p) = plain p
plain (recover S) = false
plain (node a) = inner a
plain (memo a) = inner a

-- it ends in a `recover`, of the set `trail`
abbrev pub trailing : Prog → Bool
trailing (eat S N) = false
trailing (unless S) = false
trailing (ifnext S p) = trailing p
trailing (opt p) = false
trailing (many p) = false
trailing (then p) = trailing p
trailing (p ⨟ q) = trailing q
trailing (p ⫽ q) = trailing q
trailing (last p) = false
trailing (recover S) = true
trailing (node a) = eqb (kind a) kinds.CONDITION_BLK
trailing (memo a) = eqb (kind a) kinds.CONDITION_BLK

abbrev pub trail : Prog → List ℕ
trail (eat S N) = []
trail (unless S) = []
trail (ifnext S p) = trail p
trail (opt p) = []
trail (many p) = []
trail (then p) = trail p
trail (p ⨟ q) = trail q
trail (p ⫽ q) = trail q
trail (last p) = []
trail (recover S) = S
trail (node a) = kinds.R_BRACE ∷ []
trail (memo a) = kinds.R_BRACE ∷ []

abbrev pub echo : List ℕ → Prog → Bool
echo S (recover S') = sub S' S
echo S (eat S' N) = false
echo S (unless S') = false
echo S (ifnext S' p) = false
echo S (opt p) = false
echo S (many p) = false
echo S (then p) = false
echo S (p ⨟ q) = false
echo S (p ⫽ q) = false
echo S (last p) = false
echo S (node a) = false
echo S (memo a) = false

-- what follows a `recover` fails where a row of its set is not next, or is another such `recover`; what may be undone is plain
abbrev pub fit : (E : Bool) → Bool → Prog → Bool
fit E o (eat S N) = true
fit E o (unless S) = true
fit E o (ifnext S p) = fit E o p
fit E o (opt p) = plain p
fit E o (many p) = plain p
fit E o (then p) = fit E o p
fit E o (p ⨟ q) = (fit E o p && fit E o q) && (not (trailing p) || (dies E (trail p) q || echo (trail p) q))
fit E o (p ⫽ q) = plain p && fit E o q
fit E o (last p) = plain p
fit E o (recover S) = true
fit E o (node a) = not o || inner a
fit E o (memo a) = not o || inner a

-- it does nothing in failure
abbrev pub blocked : Prog → Bool
blocked (eat S N) = true
blocked (unless S) = true
blocked (ifnext S p) = true
blocked (opt p) = true
blocked (many p) = true
blocked (then p) = true
blocked (p ⨟ q) = blocked p && blocked q
blocked (p ⫽ q) = true
blocked (last p) = true
blocked (recover S) = false
blocked (node a) = false
blocked (memo a) = true

-- the productions of a rule's part before its condition
abbrev pub heads : Production → Bool
heads a = ltb kinds.RULE_DECL (kind a) && ltb (kind a) kinds.CONDITION_BLK

-- it takes rows of certain sets alone, and calls certain productions alone
abbrev pub low : (List ℕ → Bool) → (Production → Bool) → Prog → Bool
low e u (eat S N) = e S
low e u (unless S) = true
low e u (ifnext S p) = low e u p
low e u (opt p) = low e u p
low e u (many p) = low e u p
low e u (then p) = low e u p
low e u (p ⨟ q) = low e u p && low e u q
low e u (p ⫽ q) = low e u p && low e u q
low e u (last p) = low e u p
low e u (recover S) = true
low e u (node a) = u a
low e u (memo a) = u a

-- for_expr and with_expr: a keyword first
pub record Keyed (E : Bool) (a : Production) : Type 0 where
  pub word : ℕ
  pub names : List ℕ
  pub rest : Prog
  pub is : grammar E a ≡ eat (word ∷ []) names ⨟ rest
  pub own : id_of word ≡ word
  pub no_brace : word ≡ kinds.R_BRACE → ⊥
  pub behind : T (not (heads a))
  pub still : T (blocked rest)
  pub ends : T (not (trailing (grammar E a)))
  pub fits : T (fit E true (grammar E a))
  pub alone : Others E word a (word ∷ []) names rest
  pub bare_rest : T (bare word rest)

for_keyed : (E : Bool) → Keyed E FOR_EXPR
unfolding grammar id_of kind for_rest
for_keyed E = record { alone = only_for E; bare_rest = bare_for E; word = kinds.FOR_KW; names = kinds.EXPRESSION ∷ []; rest = for_rest (grammar E FOR_EXPR); is = refl; own = refl; no_brace = λ e. omega arith; behind = tt; still = tt; ends = tt; fits = tt }

with_keyed : (E : Bool) → Keyed E WITH_EXPR
unfolding grammar id_of kind for_rest
with_keyed E = record { alone = only_with E; bare_rest = bare_with E; word = kinds.WITH_KW; names = kinds.EXPRESSION ∷ []; rest = for_rest (grammar E WITH_EXPR); is = refl; own = refl; no_brace = λ e. omega arith; behind = tt; still = tt; ends = tt; fits = tt }

-- every production that an optional part may enter is plain or one of the two
sort : (E : Bool) (a : Production) → T (inner a) → T (plain (grammar E a)) ⊎ Keyed E a
unfolding productions grammar kind
sort E a t = go (or_cases (is FOR_EXPR a) (plain_or_with a) (each_if inner (λ a. is FOR_EXPR a || plain_or_with a) tt a t))
  where
    plain_or_with : Production → Bool
    plain_or_with a = is WITH_EXPR a || plain (grammar E a)

    at : {k : Production} → Keyed E k → T (is k a) → Keyed E a
    at {k = k} K e = subst (Keyed E) (sym (kind_inj a k (eqb→eq (kind a) (kind k) e))) K

    or_with : T (is WITH_EXPR a) ⊎ T (plain (grammar E a)) → T (plain (grammar E a)) ⊎ Keyed E a
    or_with (inl e) = inr (at (with_keyed E) e)
    or_with (inr p) = inl p

    go : T (is FOR_EXPR a) ⊎ T (plain_or_with a) → T (plain (grammar E a)) ⊎ Keyed E a
    go (inl e) = inr (at (for_keyed E) e)
    go (inr e) = or_with (or_cases (is WITH_EXPR a) (plain (grammar E a)) e)

fit_productions : (E : Bool) (a : Production) → T (fit E false (grammar E a))
unfolding productions grammar kind id_of
fit_productions E = each (λ a. fit E false (grammar E a)) tt

trail_production : (E : Bool) (a : Production) → T (trailing (grammar E a)) → T (trailing (node a)) × (trail (grammar E a) ≡ trail (node a))
unfolding productions grammar kind
trail_production E a t =
    let e = each_if (λ a. trailing (grammar E a)) (is CONDITION_BLK) tt a t in
    (e, ap (λ (b : Production). trail (grammar E b)) (kind_inj a CONDITION_BLK (eqb→eq (kind a) (kind CONDITION_BLK) e)))

if_ok_failed : (r s : State) → s.mode ≡ failed → if_ok (λ _. r) s ≡ s
if_ok_failed r s = go s.mode s
  where
    go : (m : Mode) (s : State) → m ≡ failed → if_ok (λ _. r) (turn m s) ≡ turn m s
    go ok s e = not_ok e
    go failed s e = refl
    go (stopped w) s e = refl

-- a row is next, and it is not of the set
abbrev pub Off : Next → Type 0
Off end = ⊥
Off other = Unit
Off (hit a is) = ⊥

pub off_miss : (x : Next) → Off x → Miss x
off_miss end o = tt
off_miss other o = tt
off_miss (hit a is) o = o

pub sub_off : (S' S r : List ℕ) → T (sub S' S) → Off (sought S r) → Off (sought S' r)
sub_off S' S [] t o = absurd o
sub_off S' S (i ∷ is) t o = go (pick S' i) (sub_miss S' S (i ∷ is) t (off_miss (sought S (i ∷ is)) o))
  where
    go : (x : Option ℕ) → Miss (elim x as (λ _. Next) [ none ↦ other | some b ↦ hit b is ]) → Off (elim x as (λ _. Next) [ none ↦ other | some b ↦ hit b is ])
    go none m = tt
    go (some b) m = m

pub next_off : (S r : List ℕ) → next S r ≡ other → Off (sought S (strip r))
next_off S r e = go (sought S (strip r)) (next_miss S r (subst Miss (sym e) tt)) refl
  where
    empty : (l : List ℕ) → sought S l ≡ end → l ≡ []
    empty [] e = refl
    empty (i ∷ is) e = at (pick S i) e
      where
        at : (x : Option ℕ) → ◌≡◌ {A = Next} (elim x [ none ↦ other | some b ↦ hit b is ]) end → ◌≡◌ {A = List ℕ} (i ∷ is) []
        at none e = never cc
        at (some b) e = never cc

    full : {A : Type 0} (l : List ℕ) → skip r ≡ l → sought S l ≡ other → strip r ≡ [] → A
    full [] h e f = never cc
    full (i ∷ is) h e f = nil_cons (sym (strip_head r i is h) ∙ f)

    go : (x : Next) → Miss x → sought S (strip r) ≡ x → Off x
    go end m h = full (skip r) refl e (empty (strip r) h)
    go other m h = tt
    go (hit a is) m h = m

pub begin_strip : (d : ℕ) (s : State) → strip (begin d s).rest ≡ strip s.rest
begin_strip d s = ap strip (charge_rest d s.fuel (trivia s)) ∙ strip_gap s.mode s.rest

pub begin_inv : (E : Bool) (R : List ℕ) (d : ℕ) (s : State) → agree.Inv E R s → Running (begin d s).mode → agree.Inv E R (begin d s) × ((begin d s).mode ≡ s.mode)
begin_inv E R d s i r = let j = agree.begun E R d s.fuel (trivia s) (agree.inv_trivia E R s i) r in (record { rows = j.0.rows; clear = j.0.clear; valid = j.0.valid; told = j.0.told }, j.1)

-- where the reader is in good order, its rows are on the way
abbrev pub Zone : (List ℕ → Type 0) → Mode → List ℕ → Type 0
Zone W ok r = W r
Zone W failed r = Unit
Zone W (stopped w) r = ⊥

pub eat_word : {E : Bool} (w : ℕ) (N r r' : List ℕ) → id_of w ≡ w → Peg E (eat (w ∷ []) N) r (Res.yes r') → r ≡ w ∷ r'
eat_word w N r r' own (eat_yes a e) =
    let p = sought_hit (w ∷ []) r a r' e in
    p.1 ∙ ap (λ (i : ℕ). i ∷ r') (go p.0 (eqb p.0 (id_of w)) (eqb→eq p.0 (id_of w)) (ap (sought (w ∷ [])) (sym p.1) ∙ e) ∙ own)
  where
    go : (i : ℕ) (b : Bool) → (T b → i ≡ id_of w) → ◌≡◌ {A = Next} (elim (elim b as (λ _. Option ℕ) [ true ↦ some w | false ↦ none ]) [ none ↦ other | some c ↦ hit c r' ]) (hit a r') → i ≡ id_of w
    go i true h e = h tt
    go i false h e = never cc

-- productions that call one another alone, and rows that their programs stay within; no `for` and no `with` on the way fails its
-- production
module _ (E : Bool) (R : List ℕ) (takes : List ℕ → Bool) (calls : Production → Bool) (Way : List ℕ → Type 0) (at_end : Way [])
    (onward : (p : Prog) → T (low takes calls p) → (r r' : List ℕ) → Peg E p r (Res.yes r') → Way r → Way r')
    (shut : (a : Production) → T (calls a) → T (low takes calls (grammar E a)))
    (whole : (a : Production) (K : Keyed E a) → T (calls a) → (r : List ℕ) → Way (K.word ∷ r) → Peg E (grammar E a) (K.word ∷ r) Res.no → ⊥) where
  pub record Inv (s : State) : Type 0 where
    pub base : agree.Inv E R s
    pub zone : Zone Way s.mode (strip s.rest)

  pub record Sim (p : Prog) (s t : State) : Type 0 where
    pub inv : Inv t
    pub good : s.mode ≡ ok → t.mode ≡ ok → Won E R p (strip s.rest) (strip t.rest)
    pub bad : s.mode ≡ ok → t.mode ≡ failed → Peg E p (strip s.rest) Res.no

  abbrev Good : Prog → Reader → Type 0
  Good p f = (s : State) → Inv s → Fine (f s) → Sim p s (f s)

  abbrev OkSim : Prog → State → State → Type 0
  OkSim p s t = Inv t × (t.mode ≡ ok → Won E R p (strip s.rest) (strip t.rest)) × (t.mode ≡ failed → Peg E p (strip s.rest) Res.no)

  lift : (p : Prog) (f : Reader) → T (low takes calls p) → agree.Good E R p f → Good p f
  lift p f l F s i h = let x = F s i.base h in record { inv = record { base = x.inv; zone = go (f s).mode refl h.0 x }; good = x.good; bad = x.bad }
    where
      from : (m : Mode) → s.mode ≡ m → Zone Way m (strip s.rest) → (f s).mode ≡ ok → agree.Sim E R p s (f s) → Way (strip (f s).rest)
      from ok e z k x = won (x.good e k)
        where
          won : Won E R p (strip s.rest) (strip (f s).rest) → Way (strip (f s).rest)
          won (inl d) = onward p l (strip s.rest) (strip (f s).rest) d z
          won (inr y) = subst Way (sym y.2) at_end
      from failed e z k x = subst Way (sym (x.late e k).1) at_end
      from (stopped w) e z k x = absurd z

      go : (m : Mode) → (f s).mode ≡ m → Running m → agree.Sim E R p s (f s) → Zone Way m (strip (f s).rest)
      go ok e r x = from s.mode refl i.zone e x
      go failed e r x = tt
      go (stopped w) e r x = absurd r

  inv_trivia : (s : State) → Inv s → Inv (trivia s)
  inv_trivia s i = record { base = agree.inv_trivia E R s i.base; zone = subst (Zone Way s.mode) (sym (strip_gap s.mode s.rest)) i.zone }

  on_way : (s : State) → s.mode ≡ ok → Inv s → Way (strip s.rest)
  on_way s m i = subst (λ (n : Mode). Zone Way n (strip s.rest)) m i.zone

  inv_undone : (s t : State) → s.mode ≡ ok → Inv s → t.mode ≡ failed → Inv t → Inv (turn ok (back s t))
  inv_undone s t m i e j = record { base = agree.inv_undone E R s t i.base e j.base; zone = on_way s m i }

  after : (p : Prog) (f : Reader) → Good p f → (s : State) → s.mode ≡ ok → Inv s → Fine (f (trivia s)) → OkSim p s (f (trivia s))
  after p f F s m i h =
      let x = F (trivia s) (inv_trivia s i) h in (
        x.inv,
        (λ e. subst (λ (l : List ℕ). Won E R p l (strip (f (trivia s)).rest)) (strip_gap s.mode s.rest) (x.good m e)),
        λ e. subst (λ (l : List ℕ). Peg E p l Res.no) (strip_gap s.mode s.rest) (x.bad m e),
      )

  begin_in : (d : ℕ) (s : State) → Inv s → Running (begin d s).mode → Inv (begin d s) × ((begin d s).mode ≡ s.mode)
  begin_in d s i r =
      let j = begin_inv E R d s i.base r in
      (record { base = j.0; zone = subst (λ (l : List ℕ). Zone Way (begin d s).mode l) (sym (begin_strip d s)) (subst (λ (n : Mode). Zone Way n (strip s.rest)) (sym j.1) i.zone) }, j.1)

  -- the PEG fails; or it goes on, and a row that the last `recover` looks for is not next
  abbrev pub Bad : Prog → List ℕ → Type 0
  Bad p r = Peg E p r Res.no ⊎ ((r' : List ℕ) × Peg E p r (Res.yes r') × T (trailing p) × Off (sought (trail p) r'))

  abbrev Calm : State → Type 0
  Calm t = t.chosen ≡ []

  -- nothing chosen
  abbrev pub Quietly : Reader → Type 0
  Quietly f = (s : State) → Inv s → Running (f s).mode → Calm (f s)

  abbrev pub Doomed : Prog → Reader → Type 0
  Doomed p f = (s : State) → s.mode ≡ ok → Inv s → Running (f s).mode → Calm (f s) ⊎ Bad p (strip s.rest)

  q_guard : (f : Reader) → ((s : State) → s.mode ≡ ok → Inv s → Running (f s).mode → Calm (f s)) → Quietly (if_ok f)
  q_guard f g s = go s.mode s
    where
      go : (m : Mode) (s : State) → Inv (turn m s) → Running (if_ok f (turn m s)).mode → Calm (if_ok f (turn m s))
      go ok s i r = g (turn ok s) refl i r
      go failed s i r = i.base.clear
      go (stopped w) s i r = i.base.clear

  d_guard : (p : Prog) (f : Reader) → Doomed p f → Doomed p (if_ok f)
  d_guard p f g s = go s.mode s
    where
      go : (m : Mode) (s : State) → m ≡ ok → Inv (turn m s) → Running (if_ok f (turn m s)).mode → Calm (if_ok f (turn m s)) ⊎ Bad p (strip s.rest)
      go ok s e i r = g (turn ok s) refl i r
      go failed s e i r = not_failed e
      go (stopped w) s e i r = inl i.base.clear

  eat_calm : (N : List ℕ) (x : Next) (s : State) → (eat_row N x s).chosen ≡ s.chosen
  eat_calm N end s = refl
  eat_calm N other s = refl
  eat_calm N (hit a is) s = refl

  refuse_calm : (x : Next) (s : State) → (refuse_row x s).chosen ≡ s.chosen
  refuse_calm end s = refl
  refuse_calm other s = refl
  refuse_calm (hit a is) s = refl

  q_branch : (N : List ℕ) (f : Reader) → Quietly f → (x : Next) (s : State) → Inv s → Running (branch N f x s).mode → Calm (branch N f x s)
  q_branch N f F end s i r = i.base.clear
  q_branch N f F other s i r = i.base.clear
  q_branch N f F (hit a is) s i r = F (trivia s) (inv_trivia s i) r

  q_or_else : (g : Reader) → Quietly g → (s t : State) → s.mode ≡ ok → Inv s → (Running t.mode → Calm t) → (Fine t → Inv t) → Running (or_else g s t).mode → Calm (or_else g s t)
  q_or_else g G s t m₀ i = go t.mode t
    where
      go : (m : Mode) (t : State) → (Running m → Calm t) → (Fine (turn m t) → Inv (turn m t)) → Running (or_else g s (turn m t)).mode → Calm (or_else g s (turn m t))
      go ok t A I r = A tt
      go failed t A I r = G (turn ok (back s (turn failed t))) (inv_undone s (turn failed t) m₀ i refl (I (tt, A tt))) r
      go (stopped w) t A I r = absurd r

  q_id : Quietly (λ s. s)
  q_id s i r = i.base.clear

  q_fails : Quietly fails
  q_fails = q_guard (turn failed) (λ s m i r. i.base.clear)

  q_loop : (p : Prog) (f : Reader) → Good p f → Quietly f → ((s : State) → Grown s (f s)) → (n : ℕ) (s : State) → s.mode ≡ ok → Inv s → Running (loop f n s).mode → Calm (loop f n s)
  q_loop p f H F fg zero s m i r = i.base.clear
  q_loop p f H F fg (suc n) s m i r = go (f (trivia s)).mode (f (trivia s)) (F (trivia s) (inv_trivia s i)) (λ h. (after p f H s m i h).0) (q_loop p f H F fg n) r
    where
      go : (m : Mode) (t : State) → (Running m → Calm t) → (Fine (turn m t) → Inv (turn m t)) → ((s : State) → s.mode ≡ ok → Inv s → Running (loop f n s).mode → Calm (loop f n s)) → Running (go_on (loop f n) s (turn m t)).mode → Calm (go_on (loop f n) s (turn m t))
      go ok t A I C r = C (turn ok t) refl (I (tt, A tt)) r
      go failed t A I C r = A tt
      go (stopped w) t A I C r = absurd r

  remember_calm : (n a : ℕ) (t : State) → ((remember n a t).chosen ≡ t.chosen) × ((remember n a t).mode ≡ t.mode)
  remember_calm n a t = go t.mode t
    where
      go : (m : Mode) (t : State) → ((remember n a (turn m t)).chosen ≡ t.chosen) × ((remember n a (turn m t)).mode ≡ m)
      go ok t = (refl, refl)
      go failed t = (refl, refl)
      go (stopped w) t = (refl, refl)

  calm_as : {X : Type 0} (t u : State) → u.chosen ≡ t.chosen → Calm t ⊎ X → Calm u ⊎ X
  calm_as t u e (inl c) = inl (e ∙ c)
  calm_as t u e (inr b) = inr b

  q_memo : (a : ℕ) (f : Reader) → Quietly f → (b : Bool) (s : State) → Inv s → Running (memo_row a f b s).mode → Calm (memo_row a f b s)
  q_memo a f F true s i r = i.base.clear
  q_memo a f F false s i r =
      let z = remember_calm (length s.rest) a (f s) in
      z.0 ∙ F s i (subst Running z.1 r)

  q_seq : (p : Prog) (f g : Reader) → Good p f → Quietly f → Quietly g → ((s : State) → Grown s (g s)) → Quietly (λ s. g (f s))
  q_seq p f g H F G gg s i r =
      let ru = running_before (f s) (g (f s)) (gg (f s)) r in
      G (f s) (H s i (ru, F s i ru)).inv r

  -- the end of a node in an optional part chooses nothing
  finish_calm : (a n : ℕ) (u : State) → ((finish true a n u).chosen ≡ u.chosen) × ((finish true a n u).mode ≡ u.mode)
  finish_calm a n u = go u.mode u
    where
      go : (m : Mode) (u : State) → ((finish true a n (turn m u)).chosen ≡ u.chosen) × ((finish true a n (turn m u)).mode ≡ m)
      go ok u = (refl, refl)
      go failed u = (refl, refl)
      go (stopped w) u = (refl, refl)

  q_nodes : (d : ℕ) (a : ℕ) (f : Reader) → ((s : State) → Grown s (f s)) → Quietly f → Quietly (nodes d true a f)
  q_nodes d a f fg F s i r =
      let t : State = begin d s in
      let z = finish_calm a (length t.rest) (f t) in
      let rf = subst Running z.1 r in
      z.0 ∙ F t (begin_in d s i (running_before t (f t) (fg t) rf)).0 rf

  bad_as : (p q : Prog) (r : List ℕ) → ((x : Res) → Peg E p r x → Peg E q r x) → (T (trailing p) → T (trailing q) × (trail p ≡ trail q)) → Bad p r → Bad q r
  bad_as p q r f t (inl n) = inl (f Res.no n)
  bad_as p q r f t (inr x) = let y = t x.2 in inr (x.0, f (Res.yes x.0) x.1, y.0, subst (λ (l : List ℕ). Off (sought l x.0)) y.1 x.3)

  bad_in : (p q : Prog) (r : List ℕ) (t : State) → ((x : Res) → Peg E p r x → Peg E q r x) → (T (trailing p) → T (trailing q) × (trail p ≡ trail q)) → Calm t ⊎ Bad p r → Calm t ⊎ Bad q r
  bad_in p q r t f h (inl c) = inl c
  bad_in p q r t f h (inr b) = inr (bad_as p q r f h b)

  d_after : (p : Prog) (f : Reader) → Doomed p f → (s : State) → s.mode ≡ ok → Inv s → Running (f (trivia s)).mode → Calm (f (trivia s)) ⊎ Bad p (strip s.rest)
  d_after p f F s m i r = subst (λ (l : List ℕ). Calm (f (trivia s)) ⊎ Bad p l) (strip_gap s.mode s.rest) (F (trivia s) m (inv_trivia s i) r)

  d_branch : (S : List ℕ) (p : Prog) (f : Reader) → Doomed p f → (x : Next) (s : State) → next S s.rest ≡ x → s.mode ≡ ok → Inv s → Running (branch (map id_of S) f x s).mode → Calm (branch (map id_of S) f x s) ⊎ Bad (ifnext S p) (strip s.rest)
  d_branch S p f F end s e m i r = inl i.base.clear
  d_branch S p f F other s e m i r = inl i.base.clear
  d_branch S p f F (hit a is) s e m i r = bad_in p (ifnext S p) (strip s.rest) (f (trivia s)) (λ x d. ifnext_hit a (strip is) (next_hit S s.rest a is e) d) (λ t. (t, refl)) (d_after p f F s m i r)

  d_or_else : (p q : Prog) (g : Reader) → Doomed q g → (s t : State) → s.mode ≡ ok → Inv s → (Running t.mode → Calm t) → (Fine t → OkSim p s t) → Running (or_else g s t).mode → Calm (or_else g s t) ⊎ Bad (p ⫽ q) (strip s.rest)
  d_or_else p q g G s t m₀ i = go t.mode t
    where
      go : (m : Mode) (t : State) → (Running m → Calm t) → (Fine (turn m t) → OkSim p s (turn m t)) → Running (or_else g s (turn m t)).mode → Calm (or_else g s (turn m t)) ⊎ Bad (p ⫽ q) (strip s.rest)
      go ok t A I r = inl (A tt)
      go failed t A I r =
          let x = I (tt, A tt) in
          let u : State = turn ok (back s (turn failed t)) in
          bad_in q (p ⫽ q) (strip s.rest) (g u) (λ _ d. alt_no (x.2 refl) d) (λ t. (t, refl)) (G u refl (inv_undone s (turn failed t) m₀ i refl x.0) r)
      go (stopped w) t A I r = absurd r

  d_recover : (d : ℕ) (o : Bool) (S : List ℕ) → Doomed (recover S) (recovery d o S)
  d_recover d o S s = go s.mode s
    where
      at : (x : Next) (s : State) → next S s.rest ≡ x → Inv (turn ok s) → Calm (recovered d o S x ok (turn ok s)) ⊎ Bad (recover S) (strip s.rest)
      at end s e i = inl i.base.clear
      at other s e i = inr (inr (strip s.rest, recover_is, tt, next_off S s.rest e))
      at (hit a is) s e i = inl i.base.clear

      go : (m : Mode) (s : State) → m ≡ ok → Inv (turn m s) → Running (recovery d o S (turn m s)).mode → Calm (recovery d o S (turn m s)) ⊎ Bad (recover S) (strip s.rest)
      go ok s e i r = at (next S s.rest) s refl i
      go failed s e i r = not_failed e
      go (stopped w) s e i r = inl i.base.clear

  -- a row that a `recover` looked for was not next: what follows fails, or looks for it too
  pub follow : (p q : Prog) (r : List ℕ) → T (not (trailing p) || (dies E (trail p) q || echo (trail p) q)) → Bad p r → Bad (p ⨟ q) r
  follow p q r t (inl n) = inl (seq_no n)
  follow p q r t (inr x) = go (or_cases (not (trailing p)) (dies E (trail p) q || echo (trail p) q) t)
    where
      echoed : (q : Prog) → T (echo (trail p) q) → Bad (p ⨟ q) r
      echoed (recover S) e = inr (x.0, seq_yes x.1 recover_is, tt, sub_off S (trail p) x.0 e x.3)
      echoed (eat S N) e = absurd e
      echoed (unless S) e = absurd e
      echoed (ifnext S p) e = absurd e
      echoed (opt p) e = absurd e
      echoed (many p) e = absurd e
      echoed (then p) e = absurd e
      echoed (p ⨟ q) e = absurd e
      echoed (p ⫽ q) e = absurd e
      echoed (last p) e = absurd e
      echoed (node a) e = absurd e
      echoed (memo a) e = absurd e

      on : T (dies E (trail p) q) ⊎ T (echo (trail p) q) → Bad (p ⨟ q) r
      on (inl d) = inl (seq_yes x.1 (dies_no (trail p) x.0 q d (off_miss (sought (trail p) x.0) x.3)))
      on (inr e) = echoed q e

      go : T (not (trailing p)) ⊎ T (dies E (trail p) q || echo (trail p) q) → Bad (p ⨟ q) r
      go (inl n) = clash (trailing p) n x.2
      go (inr t) = on (or_cases (dies E (trail p) q) (echo (trail p) q) t)

  d_seq : (p q : Prog) (f g : Reader) → T (not (trailing p) || (dies E (trail p) q || echo (trail p) q)) → Good p f → Doomed p f → Doomed q g → ((s : State) → Grown s (g s)) → Doomed (p ⨟ q) (λ s. g (f s))
  d_seq p q f g t H F G gg s m i r =
      let ru = running_before (f s) (g (f s)) (gg (f s)) r in
      on ru (F s m i ru)
    where
      then_q : (d : Sim p s (f s)) → (f s).mode ≡ ok → Won E R p (strip s.rest) (strip (f s).rest) → Calm (g (f s)) ⊎ Bad (p ⨟ q) (strip s.rest)
      then_q x e (inr y) = inr (inl (seq_no y.1))
      then_q x e (inl d) = on_q (G (f s) e x.inv r)
        where
          on_q : Calm (g (f s)) ⊎ Bad q (strip (f s).rest) → Calm (g (f s)) ⊎ Bad (p ⨟ q) (strip s.rest)
          on_q (inl c) = inl c
          on_q (inr (inl n)) = inr (inl (seq_yes d n))
          on_q (inr (inr y)) = inr (inr (y.0, seq_yes d y.1, y.2, y.3))

      by_mode : Sim p s (f s) → (n : Mode) → (f s).mode ≡ n → Running n → Calm (g (f s)) ⊎ Bad (p ⨟ q) (strip s.rest)
      by_mode x ok e k = then_q x e (x.good m e)
      by_mode x failed e k = inr (inl (seq_no (x.bad m e)))
      by_mode x (stopped w) e k = absurd k

      on : Running (f s).mode → Calm (f s) ⊎ Bad p (strip s.rest) → Calm (g (f s)) ⊎ Bad (p ⨟ q) (strip s.rest)
      on ru (inr b) = inr (follow p q (strip s.rest) t b)
      on ru (inl c) = by_mode (H s i (ru, c)) (f s).mode refl ru

  d_memo : (a : Production) (f : Reader) → Doomed (node a) f → (b : Bool) (s : State) → s.mode ≡ ok → Inv s → Running (memo_row (kind a) f b s).mode → Calm (memo_row (kind a) f b s) ⊎ Bad (memo a) (strip s.rest)
  d_memo a f F true s m i r = inl i.base.clear
  d_memo a f F false s m i r =
      let z = remember_calm (length s.rest) (kind a) (f s) in
      bad_in (node a) (memo a) (strip s.rest) (remember (length s.rest) (kind a) (f s)) (λ _ d. to_memo d) (λ t. (t, refl)) (calm_as (f s) (remember (length s.rest) (kind a) (f s)) z.0 (F s m i (subst Running z.1 r)))

  -- a node outside optional parts
  d_nodes : (d : ℕ) (a : Production) (f : Reader) → ((s : State) → Grown s (f s)) → Good (grammar E a) f → Doomed (grammar E a) f → Doomed (node a) (nodes d false (kind a) f)
  d_nodes d a f fg H F s m i r = go (f t).mode refl
    where
      t : State
      t = begin d s

      v : State
      v = nodes d false (kind a) f s

      finish_ok' : (u : State) (n : ℕ) → u.mode ≡ ok → (finish false (kind a) n u).chosen ≡ u.chosen
      finish_ok' u n = on u.mode u
        where
          on : (m : Mode) (u : State) → m ≡ ok → (finish false (kind a) n (turn m u)).chosen ≡ u.chosen
          on ok u e = refl
          on failed u e = not_failed e
          on (stopped w) u e = Rattle.definition.proofs.Shrink.not_stopped w e

      ru : Running (f (begin d s)).mode
      ru = running_before (f (begin d s)) (nodes d false (kind a) f s) (finish_up Grown grown false (kind a) (length (begin d s).rest) (f (begin d s))) r

      b : Inv (begin d s) × ((begin d s).mode ≡ s.mode)
      b = begin_in d s i (running_before (begin d s) (f (begin d s)) (fg (begin d s)) ru)

      body : Calm (f (begin d s)) ⊎ Bad (grammar E a) (strip s.rest)
      body = subst (λ (l : List ℕ). Calm (f (begin d s)) ⊎ Bad (grammar E a) l) (begin_strip d s) (F (begin d s) (b.1 ∙ m) b.0 ru)

      on : (n : Mode) → (f (begin d s)).mode ≡ n → Running n → Calm (f (begin d s)) ⊎ Bad (grammar E a) (strip s.rest) → Calm (nodes d false (kind a) f s) ⊎ Bad (node a) (strip s.rest)
      on n e k (inr x) = inr (bad_as (grammar E a) (node a) (strip s.rest) (λ _ g. node_is g) (trail_production E a) x)
      on ok e k (inl c) = inl (finish_ok' (f (begin d s)) (length (begin d s).rest) e ∙ c)
      on failed e k (inl c) = inr (inl (node_is (subst (λ (l : List ℕ). Peg E (grammar E a) l Res.no) (begin_strip d s) ((H (begin d s) b.0 (ru, c)).bad (b.1 ∙ m) e))))
      on (stopped w) e k (inl c) = absurd k

      go : (n : Mode) → (f (begin d s)).mode ≡ n → Calm (nodes d false (kind a) f s) ⊎ Bad (node a) (strip s.rest)
      go n e = on n e (subst Running e ru) body

  module _ (d : ℕ) (call : Bool → Production → Reader)
      (cg : (o : Bool) (a : Production) (s : State) → Grown s (call o a s))
      (cs : (o : Bool) (a : Production) (s : State) → (call o a s).mode ≡ ok → s.mode ≡ ok)
      (ct : (o : Bool) (a : Production) (s : State) → (call o a s).mode ≡ ok → size (call o a s) < size s)
      (cm : (o : Bool) (a : Production) → agree.Good E R (node a) (call o a))
      (cq : (a : Production) → T (calls a) → T (inner a) → Quietly (call true a))
      (cd : (a : Production) → T (calls a) → Doomed (node a) (call false a)) where
    sim : (p : Prog) → T (sound p) → T (low takes calls p) → (o : Bool) → Good p (exec d call p o)
    sim p t l o = lift p (exec d call p o) l (exec_sim E R d call cg cs ct cm p t o)

    calm_exec : (p : Prog) → T (sound p) → T (plain p) → T (low takes calls p) → Quietly (exec d call p true)
    calm_exec (eat S N) t k l = q_guard _ (λ s m i r. eat_calm N (next S s.rest) s ∙ i.base.clear)
    calm_exec (unless S) t k l = q_guard _ (λ s m i r. refuse_calm (next S s.rest) s ∙ i.base.clear)
    calm_exec (ifnext S p) t k l = q_guard _ (λ s m i r. q_branch (map id_of S) (exec d call p true) (calm_exec p t k l) (next S s.rest) s i r)
    calm_exec (opt p) t k l =
        let f : Reader = exec d call p true in
        let t₁ = and_right (not (loose p)) (sound p) t in
        q_guard (λ s. or_else (λ u. u) s (f (trivia s))) (λ s m i r. q_or_else (λ u. u) q_id s (f (trivia s)) m i (calm_exec p t₁ k l (trivia s) (inv_trivia s i)) (λ h. (after p f (sim p t₁ l true) s m i h).0) r)
    calm_exec (many p) t k l =
        let f : Reader = exec d call p true in
        let t₁ = and_right (not (loose p) && taking p) (sound p) t in
        q_guard (λ s. loop f (suc (length s.rest)) s) (λ s m i r. q_loop p f (sim p t₁ l true) (calm_exec p t₁ k l) (exec_grown d call cg cs ct p true) (suc (length s.rest)) s m i r)
    calm_exec (then p) t k l = q_guard _ (λ s m i r. calm_exec p t k l (trivia s) (inv_trivia s i) r)
    calm_exec (p ⨟ q) t k l =
        let t₁ = and_left (sound p) (sound q) t in
        let t₂ = and_right (sound p) (sound q) t in
        q_seq p (exec d call p true) (exec d call q true) (sim p t₁ (and_left (low takes calls p) (low takes calls q) l) true) (calm_exec p t₁ (and_left (plain p) (plain q) k) (and_left (low takes calls p) (low takes calls q) l)) (calm_exec q t₂ (and_right (plain p) (plain q) k) (and_right (low takes calls p) (low takes calls q) l)) (exec_grown d call cg cs ct q true)
    calm_exec (p ⫽ q) t k l =
        let f : Reader = exec d call p true in
        let t₂ = and_right (not (loose p) && not (loose q)) (sound p && sound q) t in
        let tp = and_left (sound p) (sound q) t₂ in
        q_guard (λ s. or_else (exec d call q true) s (f (trivia s))) (λ s m i r. q_or_else (exec d call q true) (calm_exec q (and_right (sound p) (sound q) t₂) (and_right (plain p) (plain q) k) (and_right (low takes calls p) (low takes calls q) l)) s (f (trivia s)) m i (calm_exec p tp (and_left (plain p) (plain q) k) (and_left (low takes calls p) (low takes calls q) l) (trivia s) (inv_trivia s i)) (λ h. (after p f (sim p tp (and_left (low takes calls p) (low takes calls q) l) true) s m i h).0) r)
    calm_exec (last p) t k l =
        let f : Reader = exec d call p true in
        let t₁ = and_right (not (loose p)) (sound p) t in
        q_guard (λ s. or_else fails s (f (trivia s))) (λ s m i r. q_or_else fails q_fails s (f (trivia s)) m i (calm_exec p t₁ k l (trivia s) (inv_trivia s i)) (λ h. (after p f (sim p t₁ l true) s m i h).0) r)
    calm_exec (recover S) t k l = absurd k
    calm_exec (node a) t k l = cq a l k
    calm_exec (memo a) t k l = q_guard _ (λ s m i r. q_memo (kind a) (call true a) (cq a l k) (known s.cache (length s.rest) (kind a)) s i r)

    node_doom : (o : Bool) (a : Production) → T (not o || inner a) → T (calls a) → Doomed (node a) (call o a)
    node_doom false a t l = cd a l
    node_doom true a t l = λ s m i r. inl (cq a l t s i r)

    pub doom_exec : (p : Prog) (o : Bool) → T (sound p) → T (fit E o p) → T (low takes calls p) → Doomed p (exec d call p o)
    doom_exec (eat S N) o t k l = d_guard (eat S N) _ (λ s m i r. inl (eat_calm N (next S s.rest) s ∙ i.base.clear))
    doom_exec (unless S) o t k l = d_guard (unless S) _ (λ s m i r. inl (refuse_calm (next S s.rest) s ∙ i.base.clear))
    doom_exec (ifnext S p) o t k l = d_guard (ifnext S p) _ (λ s m i r. d_branch S p (exec d call p o) (doom_exec p o t k l) (next S s.rest) s refl m i r)
    doom_exec (opt p) o t k l = λ s m i r. inl (calm_exec (opt p) t k l s i r)
    doom_exec (many p) o t k l = λ s m i r. inl (calm_exec (many p) t k l s i r)
    doom_exec (then p) o t k l = d_guard (then p) _ (λ s m i r. bad_in p (then p) (strip s.rest) (exec d call p o (trivia s)) (λ _ g. then_is g) (λ t. (t, refl)) (d_after p (exec d call p o) (doom_exec p o t k l) s m i r))
    doom_exec (p ⨟ q) o t k l =
        let k₁ = and_left (fit E o p && fit E o q) (not (trailing p) || (dies E (trail p) q || echo (trail p) q)) k in
        d_seq p q (exec d call p o) (exec d call q o) (and_right (fit E o p && fit E o q) (not (trailing p) || (dies E (trail p) q || echo (trail p) q)) k) (sim p (and_left (sound p) (sound q) t) (and_left (low takes calls p) (low takes calls q) l) o) (doom_exec p o (and_left (sound p) (sound q) t) (and_left (fit E o p) (fit E o q) k₁) (and_left (low takes calls p) (low takes calls q) l)) (doom_exec q o (and_right (sound p) (sound q) t) (and_right (fit E o p) (fit E o q) k₁) (and_right (low takes calls p) (low takes calls q) l)) (exec_grown d call cg cs ct q o)
    doom_exec (p ⫽ q) o t k l =
        let f : Reader = exec d call p true in
        let t₂ = and_right (not (loose p) && not (loose q)) (sound p && sound q) t in
        let tp = and_left (sound p) (sound q) t₂ in
        d_guard (p ⫽ q) (λ s. or_else (exec d call q o) s (f (trivia s))) (λ s m i r. d_or_else p q (exec d call q o) (doom_exec q o (and_right (sound p) (sound q) t₂) (and_right (plain p) (fit E o q) k) (and_right (low takes calls p) (low takes calls q) l)) s (f (trivia s)) m i (calm_exec p tp (and_left (plain p) (fit E o q) k) (and_left (low takes calls p) (low takes calls q) l) (trivia s) (inv_trivia s i)) (λ h. after p f (sim p tp (and_left (low takes calls p) (low takes calls q) l) true) s m i h) r)
    doom_exec (last p) o t k l = λ s m i r. inl (calm_exec (last p) t k l s i r)
    doom_exec (recover S) o t k l = d_recover d o S
    doom_exec (node a) o t k l = node_doom o a k l
    doom_exec (memo a) o t k l = d_guard (memo a) _ (λ s m i r. d_memo a (call o a) (node_doom o a k l) (known s.cache (length s.rest) (kind a)) s m i r)

    blocked_same : (p : Prog) (o : Bool) → T (blocked p) → (s : State) → s.mode ≡ failed → exec d call p o s ≡ s
    blocked_same (eat S N) o t s e = if_ok_failed _ s e
    blocked_same (unless S) o t s e = if_ok_failed _ s e
    blocked_same (ifnext S p) o t s e = if_ok_failed _ s e
    blocked_same (opt p) o t s e = if_ok_failed _ s e
    blocked_same (many p) o t s e = if_ok_failed _ s e
    blocked_same (then p) o t s e = if_ok_failed _ s e
    blocked_same (p ⨟ q) o t s e = ap (exec d call q o) (blocked_same p o (and_left (blocked p) (blocked q) t) s e) ∙ blocked_same q o (and_right (blocked p) (blocked q) t) s e
    blocked_same (p ⫽ q) o t s e = if_ok_failed _ s e
    blocked_same (last p) o t s e = if_ok_failed _ s e
    blocked_same (recover S) o t s e = absurd t
    blocked_same (node a) o t s e = absurd t
    blocked_same (memo a) o t s e = if_ok_failed _ s e

    -- for_expr and with_expr: a choice inside is behind their keyword
    keyed_calm : (a : Production) → Keyed E a → T (calls a) → T (sound (grammar E a)) → Quietly (exec d call (grammar E a) true)
    keyed_calm a K l t s i r = by_mode s.mode refl
      where
        w : ℕ
        w = K.word

        first : State
        first = exec d call (eat (K.word ∷ []) K.names) true s

        as_seq : exec d call (grammar E a) true s ≡ exec d call K.rest true (exec d call (eat (K.word ∷ []) K.names) true s)
        as_seq = ap (λ (p : Prog). exec d call p true s) K.is

        first_calm : (exec d call (eat (K.word ∷ []) K.names) true s).chosen ≡ s.chosen
        first_calm = go s.mode s
          where
            go : (m : Mode) (s : State) → (exec d call (eat (K.word ∷ []) K.names) true (turn m s)).chosen ≡ s.chosen
            go ok s = eat_calm K.names (next (K.word ∷ []) s.rest) (turn ok s)
            go failed s = refl
            go (stopped w) s = refl

        still_calm : (exec d call (eat (K.word ∷ []) K.names) true s).mode ≡ failed → Calm (exec d call (grammar E a) true s)
        still_calm e = ap (λ (u : State). u.chosen) (as_seq ∙ blocked_same K.rest true K.still (exec d call (eat (K.word ∷ []) K.names) true s) e) ∙ first_calm ∙ i.base.clear

        rf : Running (exec d call (eat (K.word ∷ []) K.names) true s).mode
        rf = running_before (exec d call (eat (K.word ∷ []) K.names) true s) (exec d call K.rest true (exec d call (eat (K.word ∷ []) K.names) true s)) (exec_grown d call cg cs ct K.rest true (exec d call (eat (K.word ∷ []) K.names) true s)) (subst (λ (u : State). Running u.mode) as_seq r)

        at_word : s.mode ≡ ok → (exec d call (eat (K.word ∷ []) K.names) true s).mode ≡ ok → (r' : List ℕ) × (strip s.rest ≡ K.word ∷ r')
        at_word m e = go ((exec_sim E R d call cg cs ct cm (eat (K.word ∷ []) K.names) tt true s i.base (rf, first_calm ∙ i.base.clear)).good m e)
          where
            go : Won E R (eat (K.word ∷ []) K.names) (strip s.rest) (strip (exec d call (eat (K.word ∷ []) K.names) true s).rest) → (r' : List ℕ) × (strip s.rest ≡ K.word ∷ r')
            go (inl g) = (strip (exec d call (eat (K.word ∷ []) K.names) true s).rest, eat_word K.word K.names (strip s.rest) (strip (exec d call (eat (K.word ∷ []) K.names) true s).rest) K.own g)
            go (inr x) = absurd x.0

        found : s.mode ≡ ok → (exec d call (eat (K.word ∷ []) K.names) true s).mode ≡ ok → Calm (exec d call (grammar E a) true s) ⊎ Bad (grammar E a) (strip s.rest) → Calm (exec d call (grammar E a) true s)
        found m e (inl c) = c
        found m e (inr (inr x)) = clash (trailing (grammar E a)) K.ends x.2
        found m e (inr (inl n)) =
            let q = at_word m e in
            absurd (whole a K l q.0 (subst Way q.1 (on_way s m i)) (subst (λ (l : List ℕ). Peg E (grammar E a) l Res.no) q.1 n))

        by_first : s.mode ≡ ok → (n : Mode) → (exec d call (eat (K.word ∷ []) K.names) true s).mode ≡ n → Running n → Calm (exec d call (grammar E a) true s)
        by_first m ok e k = found m e (doom_exec (grammar E a) true t K.fits (shut a l) s m i r)
        by_first m failed e k = still_calm e
        by_first m (stopped w) e k = absurd k

        by_mode : (n : Mode) → s.mode ≡ n → Calm (exec d call (grammar E a) true s)
        by_mode ok m = by_first m (exec d call (eat (K.word ∷ []) K.names) true s).mode refl rf
        by_mode failed m = ap (λ (u : State). u.chosen) (as_seq ∙ ap (exec d call K.rest true) (if_ok_failed _ s m) ∙ blocked_same K.rest true K.still s m) ∙ i.base.clear
        by_mode (stopped w) m = absurd (subst Running m (running_before s (exec d call (grammar E a) true s) (exec_grown d call cg cs ct (grammar E a) true s) r))

  pub run_both : (d : ℕ) → ((a : Production) → T (calls a) → T (inner a) → Quietly (run E d true a)) × ((a : Production) → T (calls a) → Doomed (node a) (run E d false a))
  run_both zero = ((λ a l t s i r. absurd (run_zero E true a s r)), λ a l s m i r. absurd (run_zero E false a s r))
  run_both (suc d) = step (run_both d)
    where
      cs : (o : Bool) (b : Production) (s : State) → (run E d o b s).mode ≡ ok → s.mode ≡ ok
      cs o b s e = (run_ok E d o b s e).0

      ct : (o : Bool) (b : Production) (s : State) → (run E d o b s).mode ≡ ok → size (run E d o b s) < size s
      ct o b s e = (run_ok E d o b s e).1

      inside : ((a : Production) → T (calls a) → T (inner a) → Quietly (run E d true a)) × ((a : Production) → T (calls a) → Doomed (node a) (run E d false a)) → (a : Production) → T (calls a) → T (plain (grammar E a)) ⊎ Keyed E a → Quietly (exec d (run E d) (grammar E a) true)
      inside h a l (inl p) = calm_exec d (run E d) (grows E d) cs ct (run_sim E R d) h.0 h.1 (grammar E a) (sound_productions E a) p (shut a l)
      inside h a l (inr K) = keyed_calm d (run E d) (grows E d) cs ct (run_sim E R d) h.0 h.1 a K l (sound_productions E a)

      step : ((a : Production) → T (calls a) → T (inner a) → Quietly (run E d true a)) × ((a : Production) → T (calls a) → Doomed (node a) (run E d false a)) → ((a : Production) → T (calls a) → T (inner a) → Quietly (run E (suc d) true a)) × ((a : Production) → T (calls a) → Doomed (node a) (run E (suc d) false a))
      step h = (
        (λ a l t. q_nodes (suc d) (kind a) (exec d (run E d) (grammar E a) true) (exec_grown d (run E d) (grows E d) cs ct (grammar E a) true) (inside h a l (sort E a t))),
        λ a l. d_nodes (suc d) a (exec d (run E d) (grammar E a) false) (exec_grown d (run E d) (grows E d) cs ct (grammar E a) false) (lift (grammar E a) (exec d (run E d) (grammar E a) false) (shut a l) (exec_sim E R d (run E d) (grows E d) cs ct (run_sim E R d) (grammar E a) (sound_productions E a) false)) (doom_exec d (run E d) (grows E d) cs ct (run_sim E R d) h.0 h.1 (grammar E a) false (sound_productions E a) (fit_productions E a) (shut a l)),
      )
