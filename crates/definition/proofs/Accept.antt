-- An item is read without an error exactly where the PEG accepts it.
use Prim.Native.Nat.{ℕ, zero, suc, ◌<◌}
use mathlib.Core.Path.{◌≡◌, refl, sym, ◌∙◌, subst}
use mathlib.Core.Logic.{◌⊎◌, inl, inr}
use mathlib.Core.List.{List, [], ◌∷◌}
use mathlib.Core.Bool.{Bool, true, false, not}
use mathlib.Core.Option.{Option, none, some}
use lib.Dec.{T, eqb, eqb→eq}
use lib.ListN.{length}
use native.Mathlib.Omega.{arith}
use Rattle.kinds.specs.Kinds as kinds
use Rattle.kinds.specs.Sets.{id_of, pick}
use Rattle.definition.specs.Prog.{Production, RULE_DECL, IMPORT_STMT, INCLUDE_STMT, Prog, recover, node}
use Rattle.definition.specs.Grammar.{grammar, kind, rule_decl, item_of}
use Rattle.definition.specs.Run.{State, Reader, Mode, ok, failed, stopped, turn, choose, known, sought, begin, finish, exec, run, Limits, rule_keywords, item_keywords, read_item}
use Rattle.definition.specs.Ford.{strip, Res, Items, no_more, one_item}
use Rattle.definition.proofs.Peg.{Miss, Peg, alt_yes, alt_no, last_is, recover_is}
use Rattle.definition.proofs.Every.{clash, never}
use Rattle.definition.proofs.Order.{Running, recovery_up}
use Rattle.definition.proofs.Grows.{Grown, grown, grows, end_refl, running_before, run_zero}
use Rattle.definition.proofs.Shrink.{strip_end, size, run_ok, exec_grown, not_failed}
use Rattle.definition.proofs.Agree.{loose, Fine, Inv, Sim, Won, fine_before, front_nil, not_ok, noted_failed, chose, recover_sim, exec_sim, run_sim, sound_productions, ended, nil_cons, grown_refl}
use Rattle.definition.proofs.Det.{det, yes_no}
use Rattle.definition.proofs.First.{dies_no}
use Rattle.definition.proofs.Published.{an_item, item_dies, from_ford}
use Rattle.definition.proofs.Doom.{Off, off_miss, begin_inv}
use Rattle.definition.proofs.Rule.{Statement, import, include, rule_ends, rule_calm, statement_calm}

-- the state between items
pub record Fresh (s : State) : Type 0 where
  pub is_ok : s.mode ≡ ok
  pub no_want : s.want ≡ none
  pub no_unwant : s.unwant ≡ none
  pub no_chosen : s.chosen ≡ []
  pub no_cache : s.cache ≡ []

pub fresh_inv : (E : Bool) (s : State) → Fresh s → Inv E s.rest s
fresh_inv E s f = record { rows = end_refl s.rest; clear = f.no_chosen; valid = λ a r p e. go s.cache f.no_cache a r e; told = quiet s.mode s.cache f.is_ok f.no_cache }
  where
    go : (c : List (ℕ × ℕ)) → c ≡ [] → (a : Production) (r : List ℕ) → known c (length r) (kind a) ≡ true → Peg E (grammar E a) (strip r) Res.no
    go [] h a r e = never cc
    go (x ∷ c) h a r e = nil_cons h

    quiet : (m : Mode) (c : List (ℕ × ℕ)) → m ≡ ok → c ≡ [] → Rattle.definition.proofs.Agree.Quiet m c ⊎ T (Rattle.definition.proofs.Agree.noted s.want s.unwant)
    quiet ok [] e h = inl tt
    quiet ok (x ∷ c) e h = nil_cons h
    quiet failed c e h = not_failed e
    quiet (stopped w) c e h = Rattle.definition.proofs.Shrink.not_stopped w e

-- a node outside optional parts that fails has an error chosen
failing : (E : Bool) (R : List ℕ) (a n : ℕ) (u : State) → u.mode ≡ failed → (Fine u → Inv E R u) → Fine (finish false a n u) → ⊥
failing E R a n u = go u.mode u
  where
    go : (m : Mode) (u : State) → m ≡ failed → (Fine (turn m u) → Inv E R (turn m u)) → Fine (finish false a n (turn m u)) → ⊥
    go ok u e I h = not_ok e
    go failed u e I h =
        let c = front_nil u.chosen (choose u).chosen (grown.at_choose u).errors h.1 in
        let i = I (tt, c) in
        chose E R (turn failed u) (choose (turn failed u)) c (noted_failed E R (turn failed u) refl i) (grown_refl E R (choose (turn failed u))) h.1
    go (stopped w) u e I h = h.0

pub cs : (E : Bool) (d : ℕ) (o : Bool) (b : Production) (s : State) → (run E d o b s).mode ≡ ok → s.mode ≡ ok
cs E d o b s e = (run_ok E d o b s e).0

pub ct : (E : Bool) (d : ℕ) (o : Bool) (b : Production) (s : State) → (run E d o b s).mode ≡ ok → size (run E d o b s) < size s
ct E d o b s e = (run_ok E d o b s e).1

run_not_failed : (E : Bool) (R : List ℕ) (d : ℕ) (a : Production) (s : State) → Inv E R s → Fine (run E (suc d) false a s) → (run E (suc d) false a s).mode ≡ failed → ⊥
run_not_failed E R d a s i h e =
    let t : State = begin (suc d) s in
    let f : Reader = exec d (run E d) (grammar E a) false in
    let I : Fine (f t) → Inv E R (f t) = λ k. (exec_sim E R d (run E d) (grows E d) (cs E d) (ct E d) (run_sim E R d) (grammar E a) (sound_productions E a) false t (begin_inv E R (suc d) s i (running_before t (f t) (exec_grown d (run E d) (grows E d) (cs E d) (ct E d) (grammar E a) false t) k.0)).0 k).inv in
    let z = ended E R false (kind a) (length t.rest) (f t) I h in
    failing E R (kind a) (length t.rest) (f t) (sym z.2 ∙ e) I h

run_never_failed : (E : Bool) (R : List ℕ) (d : ℕ) (a : Production) (s : State) → Inv E R s → Fine (run E d false a s) → (run E d false a s).mode ≡ failed → ⊥
run_never_failed E R zero a s i h e = run_zero E false a s h.0
run_never_failed E R (suc d) a s i h e = run_not_failed E R d a s i h e

-- a node outside optional parts that has no error chosen: the PEG accepts it, and comes to the same row
node_accepted : (E : Bool) (D : ℕ) (a : Production) (s : State) → T (not (loose (node a))) → Fresh s → let u : State = run E D false a s in Fine u → (u.mode ≡ ok) × Peg E (node a) (strip s.rest) (Res.yes (strip u.rest)) × (size u < size s)
node_accepted E D a s t f h = by_mode (run E D false a s).mode refl h.0
  where
    x : Sim E s.rest (node a) s (run E D false a s)
    x = run_sim E s.rest D false a s (fresh_inv E s f) h

    won : (l : List ℕ) → Won E s.rest (node a) (strip s.rest) l → Peg E (node a) (strip s.rest) (Res.yes l)
    won l (inl d) = d
    won l (inr z) = clash (loose (node a)) t z.0

    by_mode : (n : Mode) → (run E D false a s).mode ≡ n → Running n → let u : State = run E D false a s in (u.mode ≡ ok) × Peg E (node a) (strip s.rest) (Res.yes (strip u.rest)) × (size u < size s)
    by_mode ok m k = (m, won _ (x.good f.is_ok m), (run_ok E D false a s m).1)
    by_mode failed m k = absurd (run_never_failed E s.rest D a s (fresh_inv E s f) h m)
    by_mode (stopped w) m k = absurd k

-- no error chosen: the PEG accepts the item, and comes to the same row
rule_accepted : (L : Limits) (s : State) → Fresh s → let v : State = read_item L rule_decl s in Fine v → Peg L.entrypoint (node RULE_DECL) (strip s.rest) (Res.yes (strip v.rest)) × (size v < size s)
unfolding kind read_item
rule_accepted L s f h = (won (end_mode (read_item L rule_decl s).mode refl h.0), omega (arith, n.2, strip_end (read_item L rule_decl s).rest u.rest (recovery_up Grown grown L.depth false rule_ends u).rows))
  where
    u : State
    u = run L.entrypoint L.depth false RULE_DECL s

    fu : Fine (run L.entrypoint L.depth false RULE_DECL s)
    fu = fine_before (run L.entrypoint L.depth false RULE_DECL s) (read_item L rule_decl s) (recovery_up Grown grown L.depth false rule_ends (run L.entrypoint L.depth false RULE_DECL s)) h

    n : (u.mode ≡ ok) × Peg L.entrypoint (node RULE_DECL) (strip s.rest) (Res.yes (strip u.rest)) × (size u < size s)
    n = node_accepted L.entrypoint L.depth RULE_DECL s tt f fu

    y : Sim L.entrypoint s.rest (recover rule_ends) (run L.entrypoint L.depth false RULE_DECL s) (read_item L rule_decl s)
    y = recover_sim L.entrypoint s.rest L.depth false rule_ends (run L.entrypoint L.depth false RULE_DECL s) (run_sim L.entrypoint s.rest L.depth false RULE_DECL s (fresh_inv L.entrypoint s f) fu).inv h

    same_place : (r r' : List ℕ) → Won L.entrypoint s.rest (recover rule_ends) r r' → r ≡ r'
    same_place r r' (inl d) = let e = det recover_is (Res.yes r') d in cc
    same_place r r' (inr z) = absurd (yes_no r (det recover_is Res.no z.1))

    won : (read_item L rule_decl s).mode ≡ ok → Peg L.entrypoint (node RULE_DECL) (strip s.rest) (Res.yes (strip (read_item L rule_decl s).rest))
    won e = subst (λ (l : List ℕ). Peg L.entrypoint (node RULE_DECL) (strip s.rest) (Res.yes l)) (same_place _ _ (y.good n.0 e)) n.1

    end_mode : (m : Mode) → (read_item L rule_decl s).mode ≡ m → Running m → (read_item L rule_decl s).mode ≡ ok
    end_mode ok e k = e
    end_mode failed e k = absurd (yes_no _ (det recover_is Res.no (y.bad n.0 e)))
    end_mode (stopped w) e k = absurd k

statement_accepted : (L : Limits) (a : Production) (k : ℕ) → Statement a k → (s : State) → Fresh s → let v : State = read_item L (node a) s in Fine v → Peg L.entrypoint (node a) (strip s.rest) (Res.yes (strip v.rest)) × (size v < size s)
unfolding kind read_item
statement_accepted L a k import s f h = let n = node_accepted L.entrypoint L.depth IMPORT_STMT s tt f h in (n.1, n.2)
statement_accepted L a k include s f h = let n = node_accepted L.entrypoint L.depth INCLUDE_STMT s tt f h in (n.1, n.2)

-- THE ITEM AT A ROW: where the row i, matched as a, is next, the item that it begins is one that the PEG accepts where no error is chosen; and where the
-- PEG accepts it, and an item or nothing is next behind it, no error is chosen
record Begun (a i : ℕ) : Type 0 where
  sure : (L : Limits) (s : State) (is : List ℕ) → strip s.rest ≡ i ∷ is → Fresh s → let v : State = read_item L (item_of a) s in Fine v → Peg L.entrypoint an_item (strip s.rest) (Res.yes (strip v.rest)) × (size v < size s)
  calm : (L : Limits) (s : State) (is r' : List ℕ) → strip s.rest ≡ i ∷ is → Fresh s → let v : State = read_item L (item_of a) s in Running v.mode → Peg L.entrypoint an_item (strip s.rest) (Res.yes r') → (Off (sought item_keywords r') → ⊥) → v.chosen ≡ []

-- where a row is next at which a production does not begin, it fails
rule_not : {E : Bool} (r : List ℕ) → Miss (sought rule_keywords r) → Peg E (node RULE_DECL) r Res.no
unfolding grammar id_of
rule_not r m = dies_no rule_keywords r (node RULE_DECL) tt m

statement_not : {E : Bool} (a : Production) (k : ℕ) → Statement a k → (r : List ℕ) → Miss (sought (k ∷ []) r) → Peg E (node a) r Res.no
unfolding grammar id_of
statement_not a k import r m = dies_no (k ∷ []) r (node IMPORT_STMT) tt m
statement_not a k include r m = dies_no (k ∷ []) r (node INCLUDE_STMT) tt m

-- so an item is of one sort, by its first row
only_rule : {E : Bool} (r r' : List ℕ) → Miss (sought (kinds.IMPORT_KW ∷ []) r) → Miss (sought (kinds.INCLUDE_KW ∷ []) r) → Peg E an_item r (Res.yes r') → Peg E (node RULE_DECL) r (Res.yes r')
only_rule r r' m n (alt_yes d) = d
only_rule r r' m n (alt_no d (alt_yes e)) = absurd (yes_no r' (det e Res.no (statement_not IMPORT_STMT kinds.IMPORT_KW import r m)))
only_rule r r' m n (alt_no d (alt_no e (last_is f))) = absurd (yes_no r' (det f Res.no (statement_not INCLUDE_STMT kinds.INCLUDE_KW include r n)))

only_import : {E : Bool} (r r' : List ℕ) → Miss (sought rule_keywords r) → Miss (sought (kinds.INCLUDE_KW ∷ []) r) → Peg E an_item r (Res.yes r') → Peg E (node IMPORT_STMT) r (Res.yes r')
only_import r r' m n (alt_yes d) = absurd (yes_no r' (det d Res.no (rule_not r m)))
only_import r r' m n (alt_no d (alt_yes e)) = e
only_import r r' m n (alt_no d (alt_no e (last_is f))) = absurd (yes_no r' (det f Res.no (statement_not INCLUDE_STMT kinds.INCLUDE_KW include r n)))

only_include : {E : Bool} (r r' : List ℕ) → Miss (sought rule_keywords r) → Miss (sought (kinds.IMPORT_KW ∷ []) r) → Peg E an_item r (Res.yes r') → Peg E (node INCLUDE_STMT) r (Res.yes r')
only_include r r' m n (alt_yes d) = absurd (yes_no r' (det d Res.no (rule_not r m)))
only_include r r' m n (alt_no d (alt_yes e)) = absurd (yes_no r' (det e Res.no (statement_not IMPORT_STMT kinds.IMPORT_KW import r n)))
only_include r r' m n (alt_no d (alt_no e (last_is f))) = f

begun_rule : (b : ℕ) → item_of b ≡ rule_decl → ((is : List ℕ) → Miss (sought (kinds.IMPORT_KW ∷ []) (b ∷ is)) × Miss (sought (kinds.INCLUDE_KW ∷ []) (b ∷ is))) → Begun b b
begun_rule b e m = record {
  sure = λ L s is z f h. let x = rule_accepted L s f (subst (λ (p : Prog). Fine (read_item L p s)) e h) in subst (λ (p : Prog). let v : State = read_item L p s in Peg L.entrypoint an_item (strip s.rest) (Res.yes (strip v.rest)) × (size v < size s)) (sym e) (alt_yes x.0, x.1);
  calm = λ L s is r' z f k g n. subst (λ (p : Prog). (read_item L p s).chosen ≡ []) (sym e) (rule_calm L s r' f.is_ok (fresh_inv L.entrypoint s f) (subst (λ (p : Prog). Running (read_item L p s).mode) e k) (only_rule (strip s.rest) r' (subst (λ (l : List ℕ). Miss (sought (kinds.IMPORT_KW ∷ []) l)) (sym z) (m is).0) (subst (λ (l : List ℕ). Miss (sought (kinds.INCLUDE_KW ∷ []) l)) (sym z) (m is).1) g) n).0;
}

begun_import : Begun kinds.IMPORT_KW kinds.IMPORT_KW
unfolding id_of
begun_import = record {
  sure = λ L s is z f h. let x = statement_accepted L IMPORT_STMT kinds.IMPORT_KW import s f h in (alt_no (rule_not (strip s.rest) (subst (λ (l : List ℕ). Miss (sought rule_keywords l)) (sym z) tt)) (alt_yes x.0), x.1);
  calm = λ L s is r' z f k g n. (statement_calm L IMPORT_STMT kinds.IMPORT_KW import s r' f.is_ok (fresh_inv L.entrypoint s f) k (only_import (strip s.rest) r' (subst (λ (l : List ℕ). Miss (sought rule_keywords l)) (sym z) tt) (subst (λ (l : List ℕ). Miss (sought (kinds.INCLUDE_KW ∷ []) l)) (sym z) tt) g)).0;
}

begun_include : Begun kinds.INCLUDE_KW kinds.INCLUDE_KW
unfolding id_of
begun_include = record {
  sure = λ L s is z f h. let x = statement_accepted L INCLUDE_STMT kinds.INCLUDE_KW include s f h in let m = statement_not IMPORT_STMT kinds.IMPORT_KW import (strip s.rest) (subst (λ (l : List ℕ). Miss (sought (kinds.IMPORT_KW ∷ []) l)) (sym z) tt) in (alt_no (rule_not (strip s.rest) (subst (λ (l : List ℕ). Miss (sought rule_keywords l)) (sym z) tt)) (alt_no m (last_is x.0)), x.1);
  calm = λ L s is r' z f k g n. (statement_calm L INCLUDE_STMT kinds.INCLUDE_KW include s r' f.is_ok (fresh_inv L.entrypoint s f) k (only_include (strip s.rest) r' (subst (λ (l : List ℕ). Miss (sought rule_keywords l)) (sym z) tt) (subst (λ (l : List ℕ). Miss (sought (kinds.IMPORT_KW ∷ []) l)) (sym z) tt) g)).0;
}

-- what holds of each row of a set, by the kind with which the set matches it
abbrev pub Each : (ℕ → ℕ → Type 0) → List ℕ → Type 0
Each C [] = Unit
Each C (b ∷ S) = C b (id_of b) × Each C S

pub each_at : (C : ℕ → ℕ → Type 0) (S : List ℕ) → Each C S → (i a : ℕ) → pick S i ≡ some a → C a i
each_at C [] h i a e = never cc
each_at C (b ∷ S) h i a e = go (eqb i (id_of b)) (eqb→eq i (id_of b)) e (each_at C S h.1 i a)
  where
    go : (x : Bool) → (T x → i ≡ id_of b) → ◌≡◌ {A = Option ℕ} (elim x [ true ↦ some b | false ↦ pick S i ]) (some a) → (pick S i ≡ some a → C a i) → C a i
    go true z e H = let y : b ≡ a = cc in subst (λ (c : ℕ). C c i) y (subst (C b) (sym (z tt)) h.0)
    go false z e H = H e

five : Each Begun item_keywords
unfolding id_of
five = (begun_rule kinds.GLOBAL_KW refl (λ is. (tt, tt)), (begun_rule kinds.PRIVATE_KW refl (λ is. (tt, tt)), (begun_rule kinds.RULE_KW refl (λ is. (tt, tt)), (begun_import, (begun_include, tt)))))

-- no error chosen: the PEG accepts the item, and comes to the same row
pub accepted : (L : Limits) (s : State) (i a : ℕ) (is : List ℕ) → pick item_keywords i ≡ some a → strip s.rest ≡ i ∷ is → Fresh s → let v : State = read_item L (item_of a) s in Fine v → Peg L.entrypoint an_item (strip s.rest) (Res.yes (strip v.rest)) × (size v < size s)
accepted L s i a is e z f h = (each_at Begun item_keywords five i a e).sure L s is z f h

-- the PEG accepts the item and all behind it: no error is chosen
pub unblamed : (L : Limits) (s : State) (i a : ℕ) (is : List ℕ) → pick item_keywords i ≡ some a → strip s.rest ≡ i ∷ is → Fresh s → let v : State = read_item L (item_of a) s in Running v.mode → Items L.entrypoint (strip s.rest) → v.chosen ≡ []
unblamed L s i a is p e f h w = go (strip s.rest) refl w
  where
    next_item : (r : List ℕ) → Items L.entrypoint r → Off (sought item_keywords r) → ⊥
    next_item r no_more o = o
    next_item r (one_item {r' = r'} g w) o = yes_no r' (det (from_ford an_item g) Res.no (dies_no item_keywords r an_item (item_dies L.entrypoint) (off_miss (sought item_keywords r) o)))

    go : (r : List ℕ) → strip s.rest ≡ r → Items L.entrypoint r → (read_item L (item_of a) s).chosen ≡ []
    go r z no_more = nil_cons (sym e ∙ z)
    go r z (one_item {r' = r'} g w) = (each_at Begun item_keywords five i a p).calm L s is r' e f h (subst (λ (l : List ℕ). Peg L.entrypoint an_item l (Res.yes r')) (sym z) (from_ford an_item g)) (next_item r' w)
