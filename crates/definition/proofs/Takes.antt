-- Every item that does not stop the reader takes at least one row.
use Prim.Native.Nat.{ℕ, zero, suc, ◌≤◌, ◌<◌}
use mathlib.Core.Path.{◌≡◌, refl, ap, ap₂, sym, ◌∙◌, subst}
use mathlib.Core.Logic.{◌⊎◌, inl, inr}
use mathlib.Core.List.{List, [], ◌∷◌, ◌++◌}
use mathlib.Core.Bool.{Bool, true, false}
use lib.ListN.{length, length-append}
use native.Mathlib.Omega.{arith}
use Rattle.kinds.specs.Kinds as kinds
use Rattle.kinds.specs.Sets.{id_of, trivial}
use Rattle.definition.specs.Prog.{Production, RULE_DECL, RULE_MODS, IMPORT_STMT, INCLUDE_STMT, Prog, node, opt, last, ◌⨟◌}
use Rattle.definition.specs.Grammar.{grammar, kind, rule_decl, item_of, one}
use Rattle.definition.specs.Run.{State, Reader, Limits, Mode, ok, failed, stopped, Next, end, other, hit, sought, next, skip, past, trivia, turn, put, back, or_else, alts, opts, fails, eats, eat_row, begin, finish, charge, seek, exec, run, rule_keywords, item_keywords, read_item, stray_item, item_at, flush, again, item}
use Rattle.definition.specs.Ford.{strip}
use Rattle.definition.proofs.Gap.{gap}
use Rattle.definition.proofs.Every.{never}
use Rattle.definition.proofs.Induct.{exec_kept}
use Rattle.definition.proofs.Order.{Running, ordered, finish_up}
use Rattle.definition.proofs.Grows.{End, Grown, grown, grows, gap_end, seek_end, sought_hit, running_before, run_zero}
use Rattle.definition.proofs.Shrink.{size, strip_gap, strip_end, run_ok, not_failed, not_stopped, eat_row_small, charge_rest}
use Rattle.definition.proofs.Agree.{not_ok, not_stop, nil_cons}
use Rattle.definition.proofs.Only.{for_rest}
use Rattle.definition.proofs.Doom.{Off, sub_off}
use Rattle.definition.proofs.Rule.{Statement, import, include, statement_is}
use Rattle.definition.proofs.Accept.{Each, each_at}
use Rattle.definition.proofs.File.{after_item, again_running, pick_of, sought_end}

pub end_length : {A : Type 0} (a b : List A) → End a b → length a ≤ length b
end_length a b e = omega (arith, length-append e.0 a, ap length e.1)

-- fewer rows that are no trivia: fewer rows
pub fewer : (a b : List ℕ) → End a b → length (strip a) < length (strip b) → length a < length b
fewer a b e h = go e.0 e.1
  where
    go : (x : List ℕ) → x ++ a ≡ b → length a < length b
    go [] z = absurd (omega (arith, ap (λ (l : List ℕ). length (strip l)) z))
    go (y ∷ x) z = omega (arith, length-append x a, ap length z)

-- a state by its mode and rows
pub as_is : (s : State) (m : Mode) (r : List ℕ) → s.mode ≡ m → s.rest ≡ r → s ≡ turn m (put r s.out s)
as_is s m r a b = ap₂ (λ (m : Mode) (r : List ℕ). turn m (put r s.out s)) a b

pub charge_mode : (d f : ℕ) (t : State) → Running (charge d f t).mode → (charge d f t).mode ≡ t.mode
charge_mode d zero t r = go t.mode t r
  where
    go : (m : Mode) (t : State) → Running (charge d zero (turn m t)).mode → (charge d zero (turn m t)).mode ≡ m
    go ok t r = absurd r
    go failed t r = absurd r
    go (stopped w) t r = absurd r
charge_mode zero (suc f) t r = go t.mode t r
  where
    go : (m : Mode) (t : State) → Running (charge zero (suc f) (turn m t)).mode → (charge zero (suc f) (turn m t)).mode ≡ m
    go ok t r = absurd r
    go failed t r = absurd r
    go (stopped w) t r = absurd r
charge_mode (suc d) (suc f) t r = refl

finish_failed : (o : Bool) (a n : ℕ) (t : State) → (finish o a n t).mode ≡ failed → t.mode ≡ failed
finish_failed o a n t = go o t.mode t
  where
    go : (o : Bool) (m : Mode) (t : State) → (finish o a n (turn m t)).mode ≡ failed → m ≡ failed
    go o ok t e = e
    go o failed t e = refl
    go true (stopped w) t e = not_stop w e
    go false (stopped w) t e = not_stop w e

opts_never : (f : Reader) (s : State) → (opts f (turn ok s)).mode ≡ failed → ⊥
opts_never f s = go (f (trivia (turn ok s))).mode (f (trivia (turn ok s)))
  where
    go : (m : Mode) (t : State) → (or_else (λ u. u) (turn ok s) (turn m t)).mode ≡ failed → ⊥
    go ok t e = not_ok e
    go failed t e = not_ok e
    go (stopped w) t e = not_stop w e

-- an alternative whose first part does not fail
alts_never : (f g : Reader) (s : State) → ((f (trivia (turn ok s))).mode ≡ failed → ⊥) → (alts f g (turn ok s)).mode ≡ failed → ⊥
alts_never f g s h = go (f (trivia (turn ok s))).mode (f (trivia (turn ok s))) h
  where
    go : (m : Mode) (t : State) → (m ≡ failed → ⊥) → (or_else g (turn ok s) (turn m t)).mode ≡ failed → ⊥
    go ok t h e = not_ok e
    go failed t h e = h refl
    go (stopped w) t h e = not_stop w e

-- `private` or `global` in front: the modifiers do not fail
mods_private : (E : Bool) (d : ℕ) (call : Bool → Production → Reader) (is : List ℕ) (s : State) → (exec d call (grammar E RULE_MODS) true (turn ok (put (kinds.PRIVATE_KW ∷ is) s.out s))).mode ≡ failed → ⊥
unfolding grammar id_of
mods_private E d call is s =
    let w : State = put (kinds.PRIVATE_KW ∷ is) s.out s in
    let g : Reader = exec d call (last (one kinds.GLOBAL_KW ⨟ opt (one kinds.PRIVATE_KW))) true in
    alts_never (exec d call (one kinds.PRIVATE_KW ⨟ opt (one kinds.GLOBAL_KW)) true) g w (opts_never (exec d call (one kinds.GLOBAL_KW) true) (exec d call (one kinds.PRIVATE_KW) true (trivia (turn ok w))))

mods_global : (E : Bool) (d : ℕ) (call : Bool → Production → Reader) (is : List ℕ) (s : State) → (exec d call (grammar E RULE_MODS) true (turn ok (put (kinds.GLOBAL_KW ∷ is) s.out s))).mode ≡ failed → ⊥
unfolding grammar id_of
mods_global E d call is s =
    let w : State = turn ok (put (kinds.GLOBAL_KW ∷ is) s.out s) in
    let v : State = back w (exec d call (one kinds.PRIVATE_KW ⨟ opt (one kinds.GLOBAL_KW)) true (trivia w)) in
    alts_never (exec d call (one kinds.GLOBAL_KW ⨟ opt (one kinds.PRIVATE_KW)) true) fails v (opts_never (exec d call (one kinds.PRIVATE_KW) true) (exec d call (one kinds.GLOBAL_KW) true (trivia (turn ok v))))

-- the rule's first rows
module _ (d : ℕ) (call : Bool → Production → Reader) (cg : (o : Bool) (a : Production) (s : State) → Grown s (call o a s)) (ck : (o : Bool) (a : Production) (s : State) → (call o a s).mode ≡ ok → size (call o a s) < size s) where
  abbrev first_two : State → State
  first_two s = eats (kinds.RULE_KW ∷ []) (kinds.RULE_KW ∷ []) (opts (call true RULE_MODS) s)

  opts_end : (s : State) → Running (opts (call true RULE_MODS) (turn ok s)).mode → let u : State = opts (call true RULE_MODS) (turn ok s) in (u.mode ≡ ok) × ((size u < size s) ⊎ ((u.rest ≡ s.rest) × ((call true RULE_MODS (trivia (turn ok s))).mode ≡ failed)))
  opts_end s = go (call true RULE_MODS (trivia (turn ok s))).mode (call true RULE_MODS (trivia (turn ok s))) (λ e. omega (arith, ck true RULE_MODS (trivia (turn ok s)) e, ap length (strip_gap ok s.rest)))
    where
      go : (m : Mode) (t : State) → (m ≡ ok → size t < size s) → let u : State = or_else (λ x. x) (turn ok s) (turn m t) in Running u.mode → (u.mode ≡ ok) × ((size u < size s) ⊎ ((u.rest ≡ s.rest) × (m ≡ failed)))
      go ok t h r = (refl, inl (h refl))
      go failed t h r = (refl, inr (refl, refl))
      go (stopped w) t h r = absurd r

  eats_end : (u : State) → u.mode ≡ ok → let v : State = eats (kinds.RULE_KW ∷ []) (kinds.RULE_KW ∷ []) u in (size v < size u) ⊎ ((v.rest ≡ u.rest) × (next (kinds.RULE_KW ∷ []) u.rest ≡ other)) ⊎ ((v.rest ≡ u.rest) × (next (kinds.RULE_KW ∷ []) u.rest ≡ end))
  eats_end u e = subst (λ (x : State). let v : State = eats (kinds.RULE_KW ∷ []) (kinds.RULE_KW ∷ []) x in (size v < size x) ⊎ ((v.rest ≡ x.rest) × (next (kinds.RULE_KW ∷ []) x.rest ≡ other)) ⊎ ((v.rest ≡ x.rest) × (next (kinds.RULE_KW ∷ []) x.rest ≡ end))) (sym (as_is u ok u.rest e refl)) (go (next (kinds.RULE_KW ∷ []) u.rest) refl)
    where
      S : List ℕ
      S = kinds.RULE_KW ∷ []

      go : (x : Next) → next (kinds.RULE_KW ∷ []) u.rest ≡ x → let v : State = eat_row (kinds.RULE_KW ∷ []) x (turn ok u) in (size v < size u) ⊎ ((v.rest ≡ u.rest) × (x ≡ other)) ⊎ ((v.rest ≡ u.rest) × (x ≡ end))
      go end h = inr (inr (refl, refl))
      go other h = inr (inl (refl, refl))
      go (hit a is) h = inl (eat_row_small (kinds.RULE_KW ∷ []) (kinds.RULE_KW ∷ []) (turn ok u) (hit a is) h refl)

begin_ok : (d : ℕ) (s : State) → s.mode ≡ ok → Running (begin d s).mode → (begin d s).mode ≡ ok
begin_ok d s e r = charge_mode d s.fuel (trivia s) r ∙ e

pub gap_ok : (m : Mode) (r : List ℕ) → m ≡ ok → gap m r ≡ skip r
gap_ok ok r e = refl
gap_ok failed r e = not_failed e
gap_ok (stopped w) r e = not_stopped w e

begin_rows : (d : ℕ) (s : State) (i : ℕ) (is : List ℕ) → skip (i ∷ is) ≡ i ∷ is → s.mode ≡ ok → s.rest ≡ i ∷ is → (begin d s).rest ≡ i ∷ is
begin_rows d s i is k e h = charge_rest d s.fuel (trivia s) ∙ gap_ok s.mode s.rest e ∙ ap skip h ∙ k

pub exec_grows : (E : Bool) (d : ℕ) (p : Prog) (o : Bool) (s : State) → Grown s (exec d (run E d) p o s)
exec_grows E d p o s = exec_kept (ordered Grown grown) d (run E d) (grows E d) p o s

-- a production that starts at a row that is no trivia: its grammar is run there
starting : (E : Bool) (d : ℕ) (o : Bool) (a : Production) (s : State) (i : ℕ) (is : List ℕ) → skip (i ∷ is) ≡ i ∷ is → s.mode ≡ ok → s.rest ≡ i ∷ is → Running (run E (suc d) o a s).mode → let t : State = begin (suc d) s in (t.mode ≡ ok) × (t.rest ≡ i ∷ is)
starting E d o a s i is k e h r =
    let t : State = begin (suc d) s in
    let f : Reader = exec d (run E d) (grammar E a) o in
    let x = running_before (f t) (finish o (kind a) (length t.rest) (f t)) (finish_up Grown grown o (kind a) (length t.rest) (f t)) r in
    (begin_ok (suc d) s e (running_before t (f t) (exec_grows E d (grammar E a) o t) x), begin_rows (suc d) s i is k e h)

-- the modifiers do not fail at `private` or `global`
abbrev Mods : (E : Bool) → ℕ → Type 0
Mods E i = (d : ℕ) (is : List ℕ) (s : State) → s.mode ≡ ok → s.rest ≡ i ∷ is → (run E d true RULE_MODS s).mode ≡ failed → ⊥

mods_at : (E : Bool) (i : ℕ) → ((is : List ℕ) → skip (i ∷ is) ≡ i ∷ is) → ((d : ℕ) (call : Bool → Production → Reader) (is : List ℕ) (s : State) → (exec d call (grammar E RULE_MODS) true (turn ok (put (i ∷ is) s.out s))).mode ≡ failed → ⊥) → Mods E i
mods_at E i k m zero is s e h b = run_zero E true RULE_MODS s (subst Running (sym b) tt)
mods_at E i k m (suc d) is s e h b =
    let t : State = begin (suc d) s in
    let f : Reader = exec d (run E d) (grammar E RULE_MODS) true in
    let x = starting E d true RULE_MODS s i is (k is) e h (subst Running (sym b) tt) in
    m d (run E d) is t (ap (λ (y : State). (f y).mode) (sym (as_is t ok (i ∷ is) x.0 x.1)) ∙ finish_failed true (kind RULE_MODS) (length t.rest) (f t) b)

past_private : (E : Bool) → Mods E kinds.PRIVATE_KW
past_private E = mods_at E kinds.PRIVATE_KW (λ is. refl) (mods_private E)

past_global : (E : Bool) → Mods E kinds.GLOBAL_KW
past_global E = mods_at E kinds.GLOBAL_KW (λ is. refl) (mods_global E)

run_takes : (E : Bool) (d : ℕ) (s : State) (i : ℕ) (is : List ℕ) → skip (i ∷ is) ≡ i ∷ is → (Mods E i ⊎ (next (kinds.RULE_KW ∷ []) (i ∷ is) ≡ other → ⊥)) → s.mode ≡ ok → s.rest ≡ i ∷ is → Running (run E d false RULE_DECL s).mode → size (run E d false RULE_DECL s) < size s
unfolding grammar id_of for_rest
run_takes E zero s i is k m e h r = absurd (run_zero E false RULE_DECL s r)
run_takes E (suc d) s i is k m e h r = by_two (eats_end d (run E d) (grows E d) (λ o b x z. (run_ok E d o b x z).1) u ou.0) ou.1
  where
    t : State
    t = begin (suc d) s

    u : State
    u = opts (run E d true RULE_MODS) (begin (suc d) s)

    v : State
    v = first_two d (run E d) (grows E d) (λ o b x z. (run_ok E d o b x z).1) (begin (suc d) s)

    w : State
    w = run E (suc d) false RULE_DECL s

    x : ((begin (suc d) s).mode ≡ ok) × ((begin (suc d) s).rest ≡ i ∷ is)
    x = starting E d false RULE_DECL s i is k e h r

    vg : Grown v w
    vg = let f : State = exec d (run E d) (grammar E RULE_DECL) false t in grown.trans v f w (exec_grows E d (for_rest (for_rest (grammar E RULE_DECL))) false v) (finish_up Grown grown false (kind RULE_DECL) (length t.rest) f)

    ug : Grown u v
    ug = exec_grows E d (one kinds.RULE_KW) false u

    tu : Grown t u
    tu = exec_grows E d (opt (node RULE_MODS)) false t

    ou : (u.mode ≡ ok) × ((size u < size t) ⊎ ((u.rest ≡ t.rest) × ((run E d true RULE_MODS (trivia (turn ok t))).mode ≡ failed)))
    ou = subst (λ (y : State). Running (opts (run E d true RULE_MODS) y).mode → ((opts (run E d true RULE_MODS) y).mode ≡ ok) × ((size (opts (run E d true RULE_MODS) y) < size t) ⊎ (((opts (run E d true RULE_MODS) y).rest ≡ t.rest) × ((run E d true RULE_MODS (trivia (turn ok t))).mode ≡ failed)))) (sym (as_is t ok t.rest x.0 refl)) (opts_end d (run E d) (grows E d) (λ o b x z. (run_ok E d o b x z).1) t) (running_before u w (grown.trans u v w ug vg) r)

    ws : size w ≤ size v
    ws = strip_end w.rest v.rest vg.rows

    ts : size t ≡ size s
    ts = ap length (ap strip (x.1 ∙ sym h))

    us : size u ≤ size t
    us = strip_end u.rest t.rest tu.rows

    by_other : next (kinds.RULE_KW ∷ []) u.rest ≡ other → v.rest ≡ u.rest → (size u < size t) ⊎ ((u.rest ≡ t.rest) × ((run E d true RULE_MODS (trivia (turn ok t))).mode ≡ failed)) → size w < size s
    by_other n q (inl z) = omega (arith, ws, ts, us, ap (λ (l : List ℕ). length (strip l)) q)
    by_other n q (inr z) = absurd (go m)
      where
        go : Mods E i ⊎ (next (kinds.RULE_KW ∷ []) (i ∷ is) ≡ other → ⊥) → ⊥
        go (inl a) = a d is (trivia (turn ok t)) refl (ap skip x.1 ∙ k) z.1
        go (inr a) = a (ap (next (kinds.RULE_KW ∷ [])) (sym (z.0 ∙ x.1)) ∙ n)

    by_end : next (kinds.RULE_KW ∷ []) u.rest ≡ end → v.rest ≡ u.rest → (size u < size t) ⊎ ((u.rest ≡ t.rest) × ((run E d true RULE_MODS (trivia (turn ok t))).mode ≡ failed)) → size w < size s
    by_end n q (inl z) = omega (arith, ws, ts, us, ap (λ (l : List ℕ). length (strip l)) q)
    by_end n q (inr z) = nil_cons (sym (ap skip (z.0 ∙ x.1) ∙ k) ∙ sought_end (kinds.RULE_KW ∷ []) (skip u.rest) n)

    by_two : (size v < size u) ⊎ ((v.rest ≡ u.rest) × (next (kinds.RULE_KW ∷ []) u.rest ≡ other)) ⊎ ((v.rest ≡ u.rest) × (next (kinds.RULE_KW ∷ []) u.rest ≡ end)) → (size u < size t) ⊎ ((u.rest ≡ t.rest) × ((run E d true RULE_MODS (trivia (turn ok t))).mode ≡ failed)) → size w < size s
    by_two (inl z) p = omega (arith, ws, ts, us)
    by_two (inr (inl z)) p = by_other z.1 z.0 p
    by_two (inr (inr z)) p = by_end z.1 z.0 p

pub skip_skip : (r : List ℕ) → skip (skip r) ≡ skip r
skip_skip [] = refl
skip_skip (i ∷ is) = go (trivial i) refl (skip_skip is)
  where
    go : (b : Bool) → trivial i ≡ b → skip (skip is) ≡ skip is → skip (elim b as (λ _. List ℕ) [ true ↦ skip is | false ↦ i ∷ is ]) ≡ elim b as (λ _. List ℕ) [ true ↦ skip is | false ↦ i ∷ is ]
    go true e h = h
    go false e h = ap (λ (c : Bool). elim c as (λ _. List ℕ) [ true ↦ skip is | false ↦ i ∷ is ]) e

-- a rule keyword is next: reading the rule takes a row
rule_takes : (L : Limits) (s : State) (i : ℕ) (is : List ℕ) → skip (i ∷ is) ≡ i ∷ is → (Mods L.entrypoint i ⊎ (next (kinds.RULE_KW ∷ []) (i ∷ is) ≡ other → ⊥)) → s.mode ≡ ok → s.rest ≡ i ∷ is → let v : State = read_item L rule_decl s in Running v.mode → size v < size s
unfolding read_item for_rest
rule_takes L s i is k m e h r =
    let u : State = run L.entrypoint L.depth false RULE_DECL s in
    let g : Grown u (read_item L rule_decl s) = exec_grows L.entrypoint L.depth (for_rest rule_decl) false u in
    omega (arith, run_takes L.entrypoint L.depth s i is k m e h (running_before u (read_item L rule_decl s) g r), strip_end (read_item L rule_decl s).rest u.rest g.rows)

-- an import or include keyword is next: reading the statement takes a row
statement_takes : (E : Bool) (D : ℕ) (a : Production) (k : ℕ) → Statement a k → ((is : List ℕ) → skip (k ∷ is) ≡ k ∷ is) → ((is : List ℕ) → next (k ∷ []) (k ∷ is) ≡ hit k is) → (s : State) (is : List ℕ) → s.mode ≡ ok → s.rest ≡ k ∷ is → let v : State = run E D false a s in Running v.mode → size v < size s
statement_takes E zero a k st firm first s is e h r = absurd (run_zero E false a s r)
statement_takes E (suc d) a k st firm first s is e h r =
    let t : State = begin (suc d) s in
    let x = starting E d false a s k is (firm is) e h r in
    let u : State = exec d (run E d) (grammar E a) false t in
    let v : State = run E (suc d) false a s in
    let g = finish_up Grown grown false (kind a) (length t.rest) u in
    omega (arith, strip_end v.rest u.rest g.rows, subst (λ (p : Prog). size (exec d (run E d) p false t) < size t) (sym (statement_is E a k st)) (two t x.0 x.1), ap length (ap strip (x.1 ∙ sym h)))
  where
    two : (t : State) → t.mode ≡ ok → t.rest ≡ k ∷ is → size (exec d (run E d) (one k ⨟ one kinds.STRING_LIT) false t) < size t
    two t e h =
        let u : State = exec d (run E d) (one k) false t in
        omega (arith, strip_end (exec d (run E d) (one kinds.STRING_LIT) false u).rest u.rest (exec_grows E d (one kinds.STRING_LIT) false u).rows, subst (λ (y : State). size (eats (k ∷ []) (id_of k ∷ []) y) < size y) (sym (as_is t ok (k ∷ is) e h)) (eat_row_small (k ∷ []) (id_of k ∷ []) (turn ok (put (k ∷ is) t.out t)) (next (k ∷ []) (k ∷ is)) refl (ap (λ (x : Next). (eat_row (id_of k ∷ []) x (turn ok (put (k ∷ is) t.out t))).mode) (first is))))

-- a row at which an item begins is taken: over the set
abbrev Taken : ℕ → ℕ → Type 0
Taken a i = (L : Limits) (s : State) (is : List ℕ) → s.mode ≡ ok → s.rest ≡ i ∷ is → let v : State = read_item L (item_of a) s in Running v.mode → size v < size s

five : Each Taken item_keywords
unfolding read_item id_of
five = (
  λ L s is. rule_takes L s kinds.GLOBAL_KW is refl (inl (past_global L.entrypoint)),
  (
    λ L s is. rule_takes L s kinds.PRIVATE_KW is refl (inl (past_private L.entrypoint)),
    (
      λ L s is. rule_takes L s kinds.RULE_KW is refl (inr at_rule),
      (
        λ L s is. statement_takes L.entrypoint L.depth IMPORT_STMT kinds.IMPORT_KW import (λ l. refl) (λ l. refl) s is,
        (λ L s is. statement_takes L.entrypoint L.depth INCLUDE_STMT kinds.INCLUDE_KW include (λ l. refl) (λ l. refl) s is, tt),
      ),
    ),
  ),
)
  where
    at_rule : {is : List ℕ} → next (kinds.RULE_KW ∷ []) (kinds.RULE_KW ∷ is) ≡ other → ⊥
    at_rule n = never cc

pub reads_takes : (L : Limits) (s : State) (a : ℕ) (is : List ℕ) → s.mode ≡ ok → sought item_keywords s.rest ≡ hit a is → let v : State = read_item L (item_of a) s in Running v.mode → size v < size s
reads_takes L s a is e h =
    let q = sought_hit item_keywords s.rest a is h in
    each_at Taken item_keywords five q.0 a (pick_of item_keywords q.0 a is is (ap (sought item_keywords) (sym q.1) ∙ h)) L s is e q.1

pub reads_rows : (L : Limits) (p : Prog) (s : State) → End (read_item L p s).rest s.rest
unfolding read_item
reads_rows L p s = (exec_grows L.entrypoint L.depth p false s).rows

-- a row that begins no item begins no rule
pub no_rule : (r : List ℕ) → sought item_keywords r ≡ other → sought rule_keywords r ≡ other
unfolding id_of
no_rule r e = go (sought rule_keywords r) (sub_off rule_keywords item_keywords r tt (subst Off (sym e) tt)) refl
  where
    go : (x : Next) → Off x → sought rule_keywords r ≡ x → sought rule_keywords r ≡ other
    go end o z = absurd o
    go other o z = z
    go (hit a is) o z = absurd o

-- a stray item takes its first row
pub stray_takes : (s : State) → skip s.rest ≡ s.rest → sought item_keywords s.rest ≡ other → length (stray_item s).rest < length s.rest
stray_takes s = go s.rest
  where
    go : (r : List ℕ) → skip r ≡ r → sought item_keywords r ≡ other → length (seek rule_keywords r) < length r
    go [] k e = never cc
    go (i ∷ is) k e = at (past (next rule_keywords (i ∷ is))) (ap past (ap (sought rule_keywords) k ∙ no_rule (i ∷ is) e))
      where
        at : (b : Bool) → b ≡ false → length {A = ℕ} (elim b as (λ _. List ℕ) [ true ↦ i ∷ is | false ↦ seek rule_keywords is ]) < suc (length is)
        at true z = never cc
        at false z = omega (arith, end_length (seek rule_keywords is) is (seek_end rule_keywords is))

-- THE THEOREM: every item that does not stop the reader takes at least one row
pub item_takes : (L : Limits) (s : State) (i : ℕ) (is : List ℕ) → s.mode ≡ ok → s.rest ≡ i ∷ is → Running (item L s).mode → length (item L s).rest < length s.rest
item_takes L s i is e h r = go (sought item_keywords (trivia s).rest) refl r
  where
    t : State
    t = trivia s

    ts : length (trivia s).rest ≤ length s.rest
    ts = end_length (trivia s).rest s.rest (gap_end s.mode s.rest)

    go : (x : Next) → sought item_keywords (trivia s).rest ≡ x → let v : State = again (flush (item_at L x (trivia s))) in Running v.mode → length v.rest < length s.rest
    go end n r = let z = after_item (trivia s) (again_running (trivia s) r) in omega (arith, ap length z.1, ap length (sought_end item_keywords (trivia s).rest n), ap length h)
    go other n r =
        let u : State = stray_item (trivia s) in
        let z = after_item u (again_running u r) in
        omega (arith, ts, ap length z.1, stray_takes (trivia s) (ap skip (gap_ok s.mode s.rest e) ∙ skip_skip s.rest ∙ sym (gap_ok s.mode s.rest e)) n)
    go (hit a js) n r =
        let u : State = read_item L (item_of a) (trivia s) in
        let z = after_item u (again_running u r) in
        let k = reads_takes L (trivia s) a js e n (again_running u r) in
        omega (arith, ts, ap length z.1, fewer u.rest (trivia s).rest (reads_rows L (item_of a) (trivia s)) k)
