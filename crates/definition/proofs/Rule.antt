-- An accepted item is read without an error: the reader goes through the rule's parts as the PEG does, and within its condition no row
-- behind the rule's last brace is reached, since nothing there takes a brace.
use Prim.Native.Nat.{ℕ, zero, suc, ◌<◌}
use mathlib.Core.Path.{◌≡◌, refl, ap, sym, ◌∙◌, subst}
use mathlib.Core.Logic.{◌⊎◌, inl, inr}
use mathlib.Core.List.{List, [], ◌∷◌, ◌++◌}
use mathlib.Core.Bool.{Bool, true, false, ◌||◌, not}
use mathlib.Core.Option.{Option, none, some}
use lib.Dec.{T, ltb}
use lib.ListN.{length, length-append}
use native.Mathlib.Omega.{arith}
use Rattle.kinds.specs.Kinds as kinds
use Rattle.kinds.specs.Sets.{id_of, pick}
use Rattle.definition.specs.Prog.{Production, RULE_DECL, CONDITION_BLK, IMPORT_STMT, INCLUDE_STMT, Prog, eat, then, ◌⨟◌, recover, node}
use Rattle.definition.specs.Grammar.{grammar, kind, one, rule_decl}
use Rattle.definition.specs.Run.{State, Reader, Limits, Mode, ok, failed, stopped, Next, end, other, hit, next, sought, skip, trivia, turn, begin, finish, eat_row, recovered, recovery, exec, run, read_item}
use Rattle.definition.specs.Ford.{strip, Res}
use Rattle.definition.proofs.Peg.{Miss, Peg, eat_yes, eat_no, unless_yes, unless_no, ifnext_hit, ifnext_miss, opt_yes, opt_no, many_yes, many_no, then_is, seq_yes, seq_no, alt_yes, alt_no, last_is, recover_is, node_is, memo_is}
use Rattle.definition.proofs.Order.{Running, finish_up, recovery_up}
use Rattle.definition.proofs.Grows.{End, end_refl, end_trans, end_cons, gap_end, skip_end, Grown, grown, grows, sought_hit, running_before, run_zero}
use Rattle.definition.proofs.Every.{and_left, and_right, either_way, productions, all, each_if, clash, never}
use Rattle.definition.proofs.Shrink.{not_failed, not_stopped, size, run_ok, exec_grown, charge_rest}
use Rattle.definition.proofs.Agree.{sound, Inv, Won, nil_cons, next_miss, exec_sim, run_sim, of_node}
use Rattle.definition.proofs.Only.{Each, none_left, one_more, each}
use Rattle.definition.proofs.Det.{det, yes_no}
use Rattle.definition.proofs.First.{dies}
use Rattle.definition.proofs.Doom as doom
use Rattle.definition.proofs.Doom.{heads, low, fit, trailing, trail, echo, Keyed, Off, next_off, begin_strip, begin_inv, eat_word}

-- the productions of the condition, and the sets that have no brace
abbrev conds : Production → Bool
conds a = ltb kinds.HEX_JUMP (kind a)

abbrev any : List ℕ → Bool
any S = true

abbrev spared : Option ℕ → Bool
spared none = true
spared (some a) = false

abbrev spares : List ℕ → Bool
spares S = spared (pick S kinds.R_BRACE)

shut_heads : (E : Bool) (a : Production) → T (heads a) → T (low any heads (grammar E a))
unfolding productions grammar kind
shut_heads E = each_if heads (λ a. low any heads (grammar E a)) tt

shut_conds : (E : Bool) (a : Production) → T (conds a) → T (low spares conds (grammar E a))
unfolding productions grammar kind id_of
shut_conds E =
    each_if conds (λ a. low spares conds (grammar E a)) (either_way (λ E. T (all (λ a. not (conds a) || low spares conds (grammar E a)) productions)) tt tt E)

-- what takes no brace does not pass one
abbrev Past : List ℕ → List ℕ → Type 0
Past r r' = End r' r × ((z : List ℕ) → End (kinds.R_BRACE ∷ z) r → End (kinds.R_BRACE ∷ z) r')

past_same : (r r' : List ℕ) → ◌≡◌ {A = Res} (Res.yes r) (Res.yes r') → Past r r'
past_same r r' e = let y : r ≡ r' = cc in subst (λ (l : List ℕ). Past r l) y (end_refl r, λ z p. p)

past_trans : (a b c : List ℕ) → Past a b → Past b c → Past a c
past_trans a b c p q = (end_trans c b a q.0 p.0, λ z x. q.1 z (p.1 z x))

past_eat : (S r is r' : List ℕ) (a : ℕ) → sought S r ≡ hit a is → ◌≡◌ {A = Res} (Res.yes is) (Res.yes r') → T (spares S) → Past r r'
past_eat S r is r' a e h t =
    let p = sought_hit S r a is e in
    let y : is ≡ r' = cc in
    subst (λ (l : List ℕ). Past r l) y (subst (λ (l : List ℕ). Past l is) (sym p.1) (end_cons p.0 is is (end_refl is), λ z x. go p.0 z x.0 x.1 (subst (λ (l : List ℕ). sought S l ≡ hit a is) p.1 e)))
  where
    not_here : (i : ℕ) (x : Option ℕ) → T (spared x) → ◌≡◌ {A = Next} (elim x as (λ _. Next) [ none ↦ other | some b ↦ hit b is ]) (hit a is) → ⊥
    not_here i none t e = never cc
    not_here i (some b) t e = t

    go : (i : ℕ) (z x : List ℕ) → x ++ (kinds.R_BRACE ∷ z) ≡ i ∷ is → sought S (i ∷ is) ≡ hit a is → End (kinds.R_BRACE ∷ z) is
    go i z [] k f = let y : i ≡ kinds.R_BRACE = cc in absurd (not_here i (pick S kinds.R_BRACE) t (subst (λ (j : ℕ). sought S (j ∷ is) ≡ hit a is) y f))
    go i z (j ∷ x) k f = let y : x ++ (kinds.R_BRACE ∷ z) ≡ is = cc in (x, y)

stays : {E : Bool} {p : Prog} {r : List ℕ} {x : Res} → Peg E p r x → (r' : List ℕ) → x ≡ Res.yes r' → T (low spares conds p) → Past r r'
stays {r = r} (eat_yes {S = S₁} a {is = is} f) r' e t = past_eat S₁ r is r' a f e t
stays (eat_no m) r' e t = absurd (yes_no r' (sym e))
stays {r = r} (unless_yes m) r' e t = past_same r r' e
stays (unless_no a is f) r' e t = absurd (yes_no r' (sym e))
stays (ifnext_hit a is f d) r' e t = stays d r' e t
stays {r = r} (ifnext_miss m) r' e t = past_same r r' e
stays (opt_yes d) r' e t = stays d r' e t
stays {r = r} (opt_no d) r' e t = past_same r r' e
stays {r = r} (many_yes {r' = r₁} d d') r' e t = past_trans r r₁ r' (stays d r₁ refl t) (stays d' r' e t)
stays {r = r} (many_no d) r' e t = past_same r r' e
stays (then_is d) r' e t = stays d r' e t
stays {r = r} (seq_yes {p = p₁} {q = q₁} {r' = r₁} d d') r' e t = past_trans r r₁ r' (stays d r₁ refl (and_left (low spares conds p₁) (low spares conds q₁) t)) (stays d' r' e (and_right (low spares conds p₁) (low spares conds q₁) t))
stays (seq_no d) r' e t = absurd (yes_no r' (sym e))
stays (alt_yes {p = p₁} {q = q₁} d) r' e t = stays d r' e (and_left (low spares conds p₁) (low spares conds q₁) t)
stays (alt_no {p = p₁} {q = q₁} d d') r' e t = stays d' r' e (and_right (low spares conds p₁) (low spares conds q₁) t)
stays (last_is d) r' e t = stays d r' e t
stays {r = r} recover_is r' e t = past_same r r' e
stays {E} (node_is {a = a} d) r' e t = stays d r' e (shut_conds E a t)
stays {E} (memo_is {a = a} d) r' e t = stays d r' e (shut_conds E a t)

-- a `for` or a `with` of the rows a to b is accepted, or stands in b
at_word : {E : Bool} (w : ℕ) (k : Production) (S N : List ℕ) (q : Prog) {a b : List ℕ} → Each E w k S N q a b → (r₀ : List ℕ) → End (w ∷ r₀) a → ((r₁ : List ℕ) × Peg E (grammar E k) (w ∷ r₀) (Res.yes r₁)) ⊎ End (w ∷ r₀) b
at_word w k S N q none_left r₀ p = inr p
at_word {E} w k S N q {b = b} (one_more {i = i} {is = is} h d) r₀ p = go p.0 p.1 (at_word w k S N q d r₀)
  where
    go : (x : List ℕ) → x ++ (w ∷ r₀) ≡ i ∷ is → (End (w ∷ r₀) is → ((r₁ : List ℕ) × Peg E (grammar E k) (w ∷ r₀) (Res.yes r₁)) ⊎ End (w ∷ r₀) b) → ((r₁ : List ℕ) × Peg E (grammar E k) (w ∷ r₀) (Res.yes r₁)) ⊎ End (w ∷ r₀) b
    go [] z c = let y : i ≡ w = cc in let g = h y in inl (g.0, subst (λ (l : List ℕ). Peg E (grammar E k) l (Res.yes g.0)) (sym z) g.1)
    go (y ∷ x) z c = let t : x ++ (w ∷ r₀) ≡ is = cc in c (x, t)

-- each within the other: the first rows are one
heads_same : (w v : ℕ) (r z : List ℕ) → End (w ∷ r) (v ∷ z) → End (v ∷ z) (w ∷ r) → w ≡ v
heads_same w v r z p q = go p.0 p.1
  where
    go : (x : List ℕ) → x ++ (w ∷ r) ≡ v ∷ z → w ≡ v
    go [] e = cc
    go (y ∷ x) e = absurd (omega (arith, ap length e, length-append x (w ∷ r), ap length q.1, length-append q.0 (v ∷ z)))

-- the condition's rows, down to the rule's brace
module _ (E : Bool) (C z : List ℕ) (g : Peg E (node CONDITION_BLK) C (Res.yes (kinds.R_BRACE ∷ z))) where
  abbrev Way : List ℕ → Type 0
  Way r = (r ≡ []) ⊎ (End r C × End (kinds.R_BRACE ∷ z) r)

  onward : (p : Prog) → T (low spares conds p) → (r r' : List ℕ) → Peg E p r (Res.yes r') → Way r → Way r'
  onward p l r r' d (inr w) = let y = stays d r' refl l in inr (end_trans r' r C y.0 w.0, y.1 z w.1)
  onward p l r r' d (inl e) = let y = stays d r' refl l in inl (go r' y.0.0 (y.0.1 ∙ e))
    where
      go : (r x : List ℕ) → x ++ r ≡ [] → r ≡ []
      go r [] e = e
      go r (j ∷ x) e = nil_cons e

  whole : (a : Production) (K : Keyed E a) → T (conds a) → (r : List ℕ) → Way (K.word ∷ r) → Peg E (grammar E a) (K.word ∷ r) Res.no → ⊥
  unfolding kind
  whole a K t r (inl e) n = nil_cons e
  whole a K t r (inr w) n = go (at_word K.word a (K.word ∷ []) K.names K.rest (each E K.word a (K.word ∷ []) K.names K.rest K.alone K.bare_rest g (inl tt)) r w.0)
    where
      go : ((r₁ : List ℕ) × Peg E (grammar E a) (K.word ∷ r) (Res.yes r₁)) ⊎ End (K.word ∷ r) (kinds.R_BRACE ∷ z) → ⊥
      go (inl y) = yes_no y.0 (det y.1 Res.no n)
      go (inr y) = K.no_brace (heads_same K.word kinds.R_BRACE r z y w.1)

whole_heads : {E : Bool} (a : Production) (K : Keyed E a) → T (heads a) → (r : List ℕ) → Unit {0} → Peg E (grammar E a) (K.word ∷ r) Res.no → ⊥
whole_heads a K t r w n = clash (heads a) K.behind t

-- the PEG fails; or it goes on, and a row that the last `recover` looks for is not next
abbrev Fault : (E : Bool) → Prog → List ℕ → Type 0
Fault E p r = Peg E p r Res.no ⊎ ((r' : List ℕ) × Peg E p r (Res.yes r') × T (trailing p) × Off (sought (trail p) r'))

follow : (E : Bool) (p q : Prog) (r : List ℕ) → T (not (trailing p) || (dies E (trail p) q || echo (trail p) q)) → Fault E p r → Fault E (p ⨟ q) r
follow E = doom.follow E [] any heads (λ _. Unit {0}) tt (λ p l r r' d w. tt) (shut_heads E) whole_heads

seq_inv : {E : Bool} {p q : Prog} {r r' : List ℕ} → Peg E (p ⨟ q) r (Res.yes r') → (r₁ : List ℕ) × Peg E p r (Res.yes r₁) × Peg E q r₁ (Res.yes r')
seq_inv (seq_yes {r' = r₁} d e) = (r₁, d, e)

then_inv : {E : Bool} {p : Prog} {r : List ℕ} {x : Res} → Peg E (then p) r x → Peg E p r x
then_inv (then_is d) = d

recover_inv : {E : Bool} {S r r' : List ℕ} → Peg E (recover S) r (Res.yes r') → r ≡ r'
recover_inv {r = r} {r' = r'} d = let e = det recover_is (Res.yes r') d in let y : r ≡ r' = cc in y

-- an import or an include, and its keyword
pub data Statement : Production → ℕ → Type 0 where
  import : Statement IMPORT_STMT kinds.IMPORT_KW
  include : Statement INCLUDE_STMT kinds.INCLUDE_KW

pub statement_is : (E : Bool) (a : Production) (k : ℕ) → Statement a k → grammar E a ≡ (one k ⨟ one kinds.STRING_LIT)
unfolding grammar
statement_is E a k import = refl
statement_is E a k include = refl

-- a rule's parts, one behind the other
data Spine (E : Bool) : Prog → Type 0 where
  part : {p q : Prog} → T (sound p) → T (fit E false p) → T (low any heads p) → T (not (trailing q)) → T (not (trailing p) || (dies E (trail p) q || echo (trail p) q)) → Spine E q → Spine E (p ⨟ q)
  close : {N : List ℕ} → Spine E (then (node CONDITION_BLK ⨟ recover (kinds.R_BRACE ∷ [])) ⨟ eat (kinds.R_BRACE ∷ []) N)

spine : (E : Bool) → Spine E (grammar E RULE_DECL)
unfolding grammar kind id_of
spine E = part tt tt tt tt tt (part tt tt tt tt tt (part tt tt tt tt tt (part tt tt tt tt tt (part tt tt tt tt tt (part tt tt tt tt tt (part tt tt tt tt tt close))))))

module _ (E : Bool) (R : List ℕ) (d : ℕ) where
  cs : (o : Bool) (b : Production) (s : State) → (run E d o b s).mode ≡ ok → s.mode ≡ ok
  cs o b s e = (run_ok E d o b s e).0

  ct : (o : Bool) (b : Production) (s : State) → (run E d o b s).mode ≡ ok → size (run E d o b s) < size s
  ct o b s e = (run_ok E d o b s e).1

  abbrev go_in : Prog → Reader
  go_in p s = exec d (run E d) p false s

  gr : (p : Prog) (s : State) → Grown s (exec d (run E d) p false s)
  gr p s = exec_grown d (run E d) (grows E d) cs ct p false s

  abbrev At : Prog → State → List ℕ → Type 0
  At q u r' = (u.mode ≡ ok) × Inv E R u × Peg E q (strip u.rest) (Res.yes r')

  -- one part: where it is in order or the PEG fails, it is in order
  along : (p q : Prog) → T (sound p) → T (not (trailing q)) → T (not (trailing p) || (dies E (trail p) q || echo (trail p) q)) → (s : State) (r' : List ℕ) → s.mode ≡ ok → Inv E R s → Running (go_in p s).mode → Peg E (p ⨟ q) (strip s.rest) (Res.yes r') → ((go_in p s).chosen ≡ []) ⊎ Fault E p (strip s.rest) → At q (go_in p s) r'
  along p q sp nq tr s r' m i r g (inr x) = absurd (no_fault (follow E p q (strip s.rest) tr x))
    where
      no_fault : Fault E (p ⨟ q) (strip s.rest) → ⊥
      no_fault (inl n) = yes_no r' (det g Res.no n)
      no_fault (inr y) = clash (trailing q) nq y.2
  along p q sp nq tr s r' m i r g (inl c) = by_mode (go_in p s).mode refl r
    where
      won : (go_in p s).mode ≡ ok → Won E R p (strip s.rest) (strip (go_in p s).rest) → At q (go_in p s) r'
      won e (inl y) =
          let k = det (seq_inv g).1 (Res.yes (strip (go_in p s).rest)) y in
          let h : (seq_inv g).0 ≡ strip (go_in p s).rest = cc in
          (e, (exec_sim E R d (run E d) (grows E d) cs ct (run_sim E R d) p sp false s i (r, c)).inv, subst (λ (l : List ℕ). Peg E q l (Res.yes r')) h (seq_inv g).2)
      won e (inr y) = absurd (yes_no (seq_inv g).0 (det (seq_inv g).1 Res.no y.1))

      by_mode : (n : Mode) → (go_in p s).mode ≡ n → Running n → At q (go_in p s) r'
      by_mode ok e k = won e ((exec_sim E R d (run E d) (grows E d) cs ct (run_sim E R d) p sp false s i (r, c)).good m e)
      by_mode failed e k = absurd (yes_no (seq_inv g).0 (det (seq_inv g).1 Res.no ((exec_sim E R d (run E d) (grows E d) cs ct (run_sim E R d) p sp false s i (r, c)).bad m e)))
      by_mode (stopped w) e k = absurd k

  -- a row that is eaten
  word : (w : ℕ) → id_of w ≡ w → (N : List ℕ) (u : State) (r' : List ℕ) → At (eat (w ∷ []) N) u r' → let t : State = go_in (eat (w ∷ []) N) u in (t.chosen ≡ []) × (t.mode ≡ ok) × End (w ∷ t.rest) u.rest
  word w own N u r' h = go u.mode u h.0 h.1.clear h.2
    where
      at : (x : Next) (u : State) → next (w ∷ []) u.rest ≡ x → u.mode ≡ ok → u.chosen ≡ [] → Peg E (eat (w ∷ []) N) (strip u.rest) (Res.yes r') → let t : State = eat_row N x u in (t.chosen ≡ []) × (t.mode ≡ ok) × End (w ∷ t.rest) u.rest
      at end u e m c g = absurd (yes_no r' (det g Res.no (eat_no (next_miss (w ∷ []) u.rest (subst Miss (sym e) tt)))))
      at other u e m c g = absurd (yes_no r' (det g Res.no (eat_no (next_miss (w ∷ []) u.rest (subst Miss (sym e) tt)))))
      at (hit a is) u e m c g = (c, m, subst (λ (l : List ℕ). End l u.rest) (eat_word {E = E} w N (skip u.rest) is own (eat_yes a e)) (skip_end u.rest))

      go : (n : Mode) (u : State) → n ≡ ok → u.chosen ≡ [] → Peg E (eat (w ∷ []) N) (strip u.rest) (Res.yes r') → let t : State = go_in (eat (w ∷ []) N) (turn n u) in (t.chosen ≡ []) × (t.mode ≡ ok) × End (w ∷ t.rest) u.rest
      go ok u m c g = at (next (w ∷ []) u.rest) (turn ok u) refl refl c g
      go failed u m c g = not_failed m
      go (stopped v) u m c g = not_stopped v m

  -- the condition
  condition : (s : State) (z : List ℕ) → Peg E (node CONDITION_BLK) (strip s.rest) (Res.yes (kinds.R_BRACE ∷ z)) → s.mode ≡ ok → Inv E R s → let p : Prog = then (node CONDITION_BLK ⨟ recover (kinds.R_BRACE ∷ [])) in Running (go_in p s).mode → ((go_in p s).chosen ≡ []) ⊎ Fault E p (strip s.rest)
  unfolding kind id_of
  condition s z g m i r =
      let C : List ℕ = strip s.rest in
      let b = doom.run_both E R spares conds (Way E C z g) (inl refl) (onward E C z g) (shut_conds E) (whole E C z g) d in
      doom.doom_exec E R spares conds (Way E C z g) (inl refl) (onward E C z g) (shut_conds E) (whole E C z g) d (run E d) (grows E d) cs ct (run_sim E R d) b.0 b.1 (then (node CONDITION_BLK ⨟ recover (kinds.R_BRACE ∷ []))) false tt tt tt s m (record { base = i; zone = subst (λ (n : Mode). doom.Zone (Way E C z g) n C) (sym m) (inr (end_refl C, (stays g (kinds.R_BRACE ∷ z) refl tt).0)) }) r

  closing : (N : List ℕ) (s : State) (r' : List ℕ) → s.mode ≡ ok → Inv E R s → let q : Prog = then (node CONDITION_BLK ⨟ recover (kinds.R_BRACE ∷ [])) ⨟ eat (kinds.R_BRACE ∷ []) N in Running (go_in q s).mode → Peg E q (strip s.rest) (Res.yes r') → ((go_in q s).chosen ≡ []) × ((go_in q s).mode ≡ ok) × End (kinds.R_BRACE ∷ (go_in q s).rest) s.rest
  unfolding kind id_of grammar
  closing N s r' m i r g =
      let p : Prog = then (node CONDITION_BLK ⨟ recover (kinds.R_BRACE ∷ [])) in
      let q : Prog = eat (kinds.R_BRACE ∷ []) N in
      let u : State = go_in p s in
      let ru = running_before u (go_in q u) (gr q u) r in
      let v = seq_inv g in
      let w = seq_inv (then_inv v.1) in
      let c : Peg E (node CONDITION_BLK) (strip s.rest) (Res.yes (kinds.R_BRACE ∷ r')) = subst (λ (l : List ℕ). Peg E (node CONDITION_BLK) (strip s.rest) (Res.yes l)) (recover_inv w.2 ∙ eat_word kinds.R_BRACE N v.0 r' refl v.2) w.1 in
      let a = along p q tt tt tt s r' m i ru g (condition s r' c m i ru) in
      let b = word kinds.R_BRACE refl N u r' a in
      (b.0, b.1, end_trans (kinds.R_BRACE ∷ (go_in q u).rest) u.rest s.rest b.2 (gr p s).rows)

  walk : {q : Prog} → Spine E q → (s : State) (r' : List ℕ) → s.mode ≡ ok → Inv E R s → Running (go_in q s).mode → Peg E q (strip s.rest) (Res.yes r') → ((go_in q s).chosen ≡ []) × ((go_in q s).mode ≡ ok) × End (kinds.R_BRACE ∷ (go_in q s).rest) s.rest
  walk (part {p = p} {q = q} t₁ t₂ t₃ t₄ t₅ sp) s r' m i r g =
      let u : State = go_in p s in
      let ru = running_before u (go_in q u) (gr q u) r in
      let both = doom.run_both E R any heads (λ _. Unit {0}) tt (λ p l r r' d w. tt) (shut_heads E) whole_heads d in
      let a = along p q t₁ t₄ t₅ s r' m i ru g (doom.doom_exec E R any heads (λ _. Unit {0}) tt (λ p l r r' d w. tt) (shut_heads E) whole_heads d (run E d) (grows E d) cs ct (run_sim E R d) both.0 both.1 p false t₁ t₂ t₃ s m (record { base = i; zone = zone s.mode m }) ru) in
      let w = walk sp u r' a.0 a.1 r a.2 in
      (w.0, w.1, end_trans (kinds.R_BRACE ∷ (go_in q u).rest) u.rest s.rest w.2 (gr p s).rows)
    where
      zone : (n : Mode) → n ≡ ok → doom.Zone (λ _. Unit {0}) n (strip s.rest)
      zone ok e = tt
      zone failed e = tt
      zone (stopped w) e = not_stopped w e
  walk (close {N = N}) s r' m i r g = closing N s r' m i r g

  finish_ok : (a n : ℕ) (u : State) → u.mode ≡ ok → ((finish false a n u).chosen ≡ u.chosen) × ((finish false a n u).mode ≡ ok) × ((finish false a n u).rest ≡ u.rest)
  finish_ok a n u = go u.mode u
    where
      go : (m : Mode) (u : State) → m ≡ ok → ((finish false a n (turn m u)).chosen ≡ u.chosen) × ((finish false a n (turn m u)).mode ≡ ok) × ((finish false a n (turn m u)).rest ≡ u.rest)
      go ok u e = (refl, refl, refl)
      go failed u e = not_failed e
      go (stopped w) u e = not_stopped w e

  -- a production's rows from where it begins to its last row w, where the PEG takes them
  abbrev Walks : Production → ℕ → Type 0
  Walks a w = (t : State) (r' : List ℕ) → t.mode ≡ ok → Inv E R t → let u : State = go_in (grammar E a) t in Running u.mode → Peg E (grammar E a) (strip t.rest) (Res.yes r') → (u.chosen ≡ []) × (u.mode ≡ ok) × End (w ∷ u.rest) t.rest

  node_run : (a : Production) (w : ℕ) → Walks a w → (s : State) (r' : List ℕ) → s.mode ≡ ok → Inv E R s → let v : State = run E (suc d) false a s in Running v.mode → Peg E (node a) (strip s.rest) (Res.yes r') → (v.chosen ≡ []) × (v.mode ≡ ok) × End (w ∷ v.rest) s.rest
  node_run a k walks s r' m i r g =
      let t : State = begin (suc d) s in
      let u : State = go_in (grammar E a) t in
      let n : ℕ = length t.rest in
      let v : State = finish false (kind a) n u in
      let ru = running_before u v (finish_up Grown grown false (kind a) n u) r in
      let b = begin_inv E R (suc d) s i (running_before t u (gr (grammar E a) t) ru) in
      let w = walks t r' (b.1 ∙ m) b.0 ru (subst (λ (l : List ℕ). Peg E (grammar E a) l (Res.yes r')) (sym (begin_strip (suc d) s)) (of_node E g)) in
      let f = finish_ok (kind a) n u w.1 in
      let e : End t.rest s.rest = subst (λ (l : List ℕ). End l s.rest) (sym (charge_rest (suc d) s.fuel (trivia s))) (gap_end s.mode s.rest) in
      (f.0 ∙ w.0, f.1, subst (λ (l : List ℕ). End (k ∷ l) s.rest) (sym f.2) (end_trans (k ∷ u.rest) t.rest s.rest w.2 e))

  -- an import or an include: two rows
  statement_walks : (a : Production) (k : ℕ) → Statement a k → id_of k ≡ k → Walks a kinds.STRING_LIT
  unfolding id_of
  statement_walks a k st own = subst Goes (sym (statement_is E a k st)) two
    where
      Goes : Prog → Type 0
      Goes p = (t : State) (r' : List ℕ) → t.mode ≡ ok → Inv E R t → let u : State = go_in p t in Running u.mode → Peg E p (strip t.rest) (Res.yes r') → (u.chosen ≡ []) × (u.mode ≡ ok) × End (kinds.STRING_LIT ∷ u.rest) t.rest

      two : Goes (one k ⨟ one kinds.STRING_LIT)
      two s r' m i r g =
          let p : Prog = one k in
          let q : Prog = one kinds.STRING_LIT in
          let u : State = go_in p s in
          let ru = running_before u (go_in q u) (gr q u) r in
          let v = seq_inv g in
          let c = word k own (id_of k ∷ []) s v.0 (m, i, v.1) in
          let a = along p q tt tt tt s r' m i ru g (inl c.0) in
          let b = word kinds.STRING_LIT refl (id_of kinds.STRING_LIT ∷ []) u r' a in
          (b.0, b.1, end_trans (kinds.STRING_LIT ∷ (go_in q u).rest) u.rest s.rest b.2 (gr p s).rows)

abbrev pub rule_ends : List ℕ
rule_ends = kinds.GLOBAL_KW ∷ kinds.PRIVATE_KW ∷ kinds.RULE_KW ∷ kinds.IMPORT_KW ∷ kinds.INCLUDE_KW ∷ []

recovered_calm : (D : ℕ) (v : State) → v.mode ≡ ok → v.chosen ≡ [] → (Off (sought rule_ends (strip v.rest)) → ⊥) → let t : State = recovery D false rule_ends v in (t.chosen ≡ []) × (t.rest ≡ v.rest)
recovered_calm D v = go v.mode v
  where
    at : (x : Next) (v : State) → next rule_ends v.rest ≡ x → v.chosen ≡ [] → (Off (sought rule_ends (strip v.rest)) → ⊥) → let t : State = recovered D false rule_ends x ok (turn ok v) in (t.chosen ≡ []) × (t.rest ≡ v.rest)
    at end v e c n = (c, refl)
    at (hit a is) v e c n = (c, refl)
    at other v e c n = absurd (n (next_off rule_ends v.rest e))

    go : (m : Mode) (v : State) → m ≡ ok → v.chosen ≡ [] → (Off (sought rule_ends (strip v.rest)) → ⊥) → let t : State = recovery D false rule_ends (turn m v) in (t.chosen ≡ []) × (t.rest ≡ v.rest)
    go ok v e c n = at (next rule_ends v.rest) v refl c n
    go failed v e c n = not_failed e
    go (stopped w) v e c n = not_stopped w e

-- a node that the PEG accepts: no error is chosen, and the reader stands right behind its last row w
node_calm : {E : Bool} (D : ℕ) (a : Production) (w : ℕ) (s : State) (r' : List ℕ) → ((d : ℕ) → Walks E s.rest d a w) → s.mode ≡ ok → Inv E s.rest s → let v : State = run E D false a s in Running v.mode → Peg E (node a) (strip s.rest) (Res.yes r') → (v.chosen ≡ []) × (v.mode ≡ ok) × (strip v.rest ≡ r') × End (w ∷ v.rest) s.rest
node_calm {E} zero a w s r' h m i r g = absurd (run_zero E false a s r)
node_calm {E} (suc d) a w s r' h m i r g =
    let v : State = run E (suc d) false a s in
    let z = node_run E s.rest d a w (h d) s r' m i r g in
    (z.0, z.1, same (strip v.rest) ((run_sim E s.rest (suc d) false a s i (r, z.0)).good m z.1), z.2)
  where
    same : (l : List ℕ) → Won E s.rest (node a) (strip s.rest) l → l ≡ r'
    same l (inl d) = let e = det d (Res.yes r') g in let y : l ≡ r' = cc in y
    same l (inr x) = absurd (yes_no r' (det g Res.no x.1))

-- THE THEOREM: a rule that the PEG accepts, whose next row past trivia begins an item or is none: no error is chosen, and the reader stands
-- right behind the rule's last brace
pub rule_calm : (L : Limits) (s : State) (r' : List ℕ) → s.mode ≡ ok → Inv L.entrypoint s.rest s → let v : State = read_item L rule_decl s in Running v.mode → Peg L.entrypoint (node RULE_DECL) (strip s.rest) (Res.yes r') → (Off (sought rule_ends r') → ⊥) → (v.chosen ≡ []) × (strip v.rest ≡ r') × End (kinds.R_BRACE ∷ v.rest) s.rest
unfolding read_item
rule_calm L s r' m i r g n =
    let D : ℕ = L.depth in
    let v : State = run L.entrypoint D false RULE_DECL s in
    let rv = running_before v (recovery D false rule_ends v) (recovery_up Grown grown D false rule_ends v) r in
    let w = node_calm D RULE_DECL kinds.R_BRACE s r' (λ d. walk L.entrypoint s.rest d (spine L.entrypoint)) m i rv g in
    let x = recovered_calm D v w.1 w.0 (λ o. n (subst (λ (l : List ℕ). Off (sought rule_ends l)) w.2 o)) in
    (x.0, ap strip x.1 ∙ w.2, subst (λ (l : List ℕ). End (kinds.R_BRACE ∷ l) s.rest) (sym x.1) w.3)

own_id : (a : Production) (k : ℕ) → Statement a k → id_of k ≡ k
unfolding id_of
own_id a k import = refl
own_id a k include = refl

-- THE THEOREM: an import or include that the PEG accepts, whatever comes behind it: no error is chosen, and the reader stands right behind its string
pub statement_calm : (L : Limits) (a : Production) (k : ℕ) → Statement a k → (s : State) (r' : List ℕ) → s.mode ≡ ok → Inv L.entrypoint s.rest s → let v : State = read_item L (node a) s in Running v.mode → Peg L.entrypoint (node a) (strip s.rest) (Res.yes r') → (v.chosen ≡ []) × (strip v.rest ≡ r') × End (kinds.STRING_LIT ∷ v.rest) s.rest
unfolding read_item
statement_calm L a k t s r' m i r g = let w = node_calm L.depth a kinds.STRING_LIT s r' (λ d. statement_walks L.entrypoint s.rest d a k t (own_id a k t)) m i r g in (w.0, w.2, w.3)
