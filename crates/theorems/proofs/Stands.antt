-- Where the reader stands after an item: behind a run of rows that are no item, and behind an accepted one.
use Prim.Native.Nat.{ℕ, suc, ◌≤◌}
use mathlib.Core.Path.{◌≡◌, refl, ap, ap₂, sym, ◌∙◌, subst}
use mathlib.Core.List.{List, [], ◌∷◌, ◌++◌}
use mathlib.Core.Bool.{Bool, true, false}
use mathlib.Core.Option.{Option, none, some}
use lib.Dec.{T, eqb}
use lib.ListN.{length, length-append}
use native.Mathlib.Omega.{arith}
use Rattle.kinds.specs.Kinds as kinds
use Rattle.kinds.specs.Sets.{id_of, kind_of, pick, trivial}
use Rattle.definition.specs.Prog.{Production, RULE_DECL, IMPORT_STMT, INCLUDE_STMT, Prog, ◌⫽◌, last, node}
use Rattle.definition.specs.Grammar.{grammar, rule_decl, item_of}
use Rattle.definition.specs.Run.{State, Limits, Event, opened, leaf, closed, bad, Choice, stray, Mode, ok, failed, stopped, Next, end, other, hit, next, sought, skip, past, trivia_out, trivia, seek, seek_out, rule_keywords, statement_keywords, item_keywords, read_item, stray_item, item_at, errors, flush, again, item}
use Rattle.definition.specs.Ford.{strip, Res}
use Rattle.definition.proofs.Gap.{gap_out}
use Rattle.definition.proofs.Peg.{Miss, Peg, alt_yes, alt_no, last_is}
use Rattle.definition.specs.Remaining.{Keyless, Astray, Solid}
use Rattle.definition.proofs.Every.{never}
use Rattle.definition.proofs.Order.{Running}
use Rattle.definition.proofs.Grows.{End, end_trans, gap_end, bads, gap_bads}
use Rattle.definition.proofs.Shrink.{strip_append, strip_gap, not_failed, not_stopped}
use Rattle.definition.proofs.Doom.{Off}
use Rattle.definition.proofs.Rule.{Statement, import, include, rule_calm, statement_calm}
use Rattle.definition.proofs.Agree.{next_miss}
use Rattle.definition.proofs.Det.{det, yes_no}
use Rattle.definition.proofs.First.{dies, dies_no}
use Rattle.definition.proofs.Accept.{Each, each_at, Fresh, fresh_inv}
use Rattle.definition.proofs.File.{after_item, again_running, trivia_fresh, pick_of, reads_unsaid}
use Rattle.definition.proofs.Takes.{gap_ok}
use Rattle.theorems.proofs.Fuel.{again_free}

skip_false : (i : ℕ) (is : List ℕ) → trivial i ≡ false → skip (i ∷ is) ≡ i ∷ is
skip_false i is e = ap (λ (b : Bool). elim b as (λ _. List ℕ) [ true ↦ skip is | false ↦ i ∷ is ]) e

sought_none : (S : List ℕ) (i : ℕ) (is : List ℕ) → pick S i ≡ none → sought S (i ∷ is) ≡ other
sought_none S i is e = ap (λ (x : Option ℕ). elim x as (λ _. Next) [ none ↦ other | some b ↦ hit b is ]) e

solid_next : (j r : List ℕ) → Keyless j → Solid j → next rule_keywords (j ++ r) ≡ other
solid_next [] r k s = absurd s
solid_next (i ∷ []) r k s = ap (sought rule_keywords) (skip_false i r s) ∙ sought_none rule_keywords i r k.0
solid_next (i ∷ i' ∷ j) r k s = go (trivial i) (solid_next (i' ∷ j) r k.1 s)
  where
    go : (b : Bool) → next rule_keywords (i' ∷ j ++ r) ≡ other → sought rule_keywords (elim b as (λ _. List ℕ) [ true ↦ skip (i' ∷ j ++ r) | false ↦ i ∷ i' ∷ j ++ r ]) ≡ other
    go true h = h
    go false h = sought_none rule_keywords i (i' ∷ j ++ r) k.0

-- the events of the rows j, before the rows r
abbrev pub leaves : List ℕ → List ℕ → List Event → List Event
leaves [] r o = o
leaves (i ∷ j) r o = leaves j r (leaf (kind_of i) (suc (length (j ++ r))) ∷ o)

seek_here : (r : List ℕ) (a : ℕ) (is : List ℕ) (o : List Event) → next rule_keywords r ≡ hit a is → (seek rule_keywords r ≡ r) × (seek_out rule_keywords r o ≡ o)
seek_here [] a is o e = (refl, refl)
seek_here (i ∷ r) a is o e = go (past (next rule_keywords (i ∷ r))) (ap past e)
  where
    go : (b : Bool) → b ≡ true → (elim b as (λ _. List ℕ) [ true ↦ i ∷ r | false ↦ seek rule_keywords r ] ≡ i ∷ r) × (elim b as (λ _. List Event) [ true ↦ o | false ↦ seek_out rule_keywords r (leaf (kind_of i) (suc (length r)) ∷ o) ] ≡ o)
    go true z = (refl, refl)
    go false z = never cc

seek_step : (i : ℕ) (r : List ℕ) (o : List Event) → next rule_keywords (i ∷ r) ≡ other → (seek rule_keywords (i ∷ r) ≡ seek rule_keywords r) × (seek_out rule_keywords (i ∷ r) o ≡ seek_out rule_keywords r (leaf (kind_of i) (suc (length r)) ∷ o))
seek_step i r o e = go (past (next rule_keywords (i ∷ r))) (ap past e)
  where
    go : (b : Bool) → b ≡ false → (elim b as (λ _. List ℕ) [ true ↦ i ∷ r | false ↦ seek rule_keywords r ] ≡ seek rule_keywords r) × (elim b as (λ _. List Event) [ true ↦ o | false ↦ seek_out rule_keywords r (leaf (kind_of i) (suc (length r)) ∷ o) ] ≡ seek_out rule_keywords r (leaf (kind_of i) (suc (length r)) ∷ o))
    go true z = never cc
    go false z = (refl, refl)

seek_run : (j r : List ℕ) (a : ℕ) (is : List ℕ) (o : List Event) → Keyless j → Solid j → next rule_keywords r ≡ hit a is → (seek rule_keywords (j ++ r) ≡ r) × (seek_out rule_keywords (j ++ r) o ≡ leaves j r o)
seek_run [] r a is o k s e = absurd s
seek_run (i ∷ []) r a is o k s e =
    let p = seek_step i r o (solid_next (i ∷ []) r k s) in
    let q = seek_here r a is (leaf (kind_of i) (suc (length r)) ∷ o) e in
    (p.0 ∙ q.0, p.1 ∙ q.1)
seek_run (i ∷ i' ∷ j) r a is o k s e =
    let p = seek_step i (i' ∷ j ++ r) o (solid_next (i ∷ i' ∷ j) r k s) in
    let q = seek_run (i' ∷ j) r a is (leaf (kind_of i) (suc (length (i' ∷ j ++ r))) ∷ o) k.1 s e in
    (p.0 ∙ q.0, p.1 ∙ q.1)

-- a row that begins no rule and no statement begins no item
neither : (S S' : List ℕ) (i : ℕ) → pick S i ≡ none → pick S' i ≡ none → pick (S ++ S') i ≡ none
neither [] S' i e h = h
neither (a ∷ S) S' i e h = go (eqb i (id_of a)) e (λ z. neither S S' i z h)
  where
    go : (b : Bool) → ◌≡◌ {A = Option ℕ} (elim b [ true ↦ some a | false ↦ pick S i ]) none → (pick S i ≡ none → pick (S ++ S') i ≡ none) → ◌≡◌ {A = Option ℕ} (elim b [ true ↦ some a | false ↦ pick (S ++ S') i ]) none
    go true e H = never cc
    go false e H = H e

astray : (j r : List ℕ) → Keyless j → Solid j → Astray j → sought item_keywords (j ++ r) ≡ other
astray [] r k d n = absurd d
astray (i ∷ j) r k d n = sought_none item_keywords i (j ++ r) (neither rule_keywords statement_keywords i k.0 n)

-- THE THEOREM: a run of rows at item position, not empty, with no trivia at either end, no rule keyword in it and none that begins a statement in front,
-- whose next row past trivia is a rule keyword: the reader stands right behind it. It cost one error, one ERROR node and no fuel.
pub junk_run : (L : Limits) (s : State) (j r : List ℕ) (a : ℕ) (is : List ℕ) → Fresh s → skip s.rest ≡ j ++ r → Keyless j → Solid j → Astray j → next rule_keywords r ≡ hit a is → let v : State = item L s in let n : ℕ = length (j ++ r) in
    Fresh v × (v.rest ≡ r) × (v.fuel ≡ s.fuel) × (v.begun ≡ s.begun) × (v.out ≡ closed kinds.ERROR n (length r) ∷ leaves j r (opened n ∷ bad n stray ∷ trivia_out s.rest s.out))
junk_run L s j r a is f e k d b h = go (sought item_keywords (trivia s).rest) away
  where
    t : State
    t = trivia s

    rows : (trivia s).rest ≡ j ++ r
    rows = gap_ok s.mode s.rest f.is_ok ∙ e

    away : sought item_keywords (trivia s).rest ≡ other
    away = ap (sought item_keywords) rows ∙ astray j r k d b

    old : (m : Mode) → m ≡ ok → gap_out m s.rest s.out ≡ trivia_out s.rest s.out
    old ok z = refl
    old failed z = not_failed z
    old (stopped w) z = not_stopped w z

    u : State
    u = stray_item (trivia s)

    wrote : (q : List ℕ) (o : List Event) → q ≡ j ++ r → o ≡ trivia_out s.rest s.out → (closed kinds.ERROR (length q) (length (seek rule_keywords q)) ∷ seek_out rule_keywords q (opened (length q) ∷ bad (length q) stray ∷ o)) ≡ (closed kinds.ERROR (length (j ++ r)) (length r) ∷ leaves j r (opened (length (j ++ r)) ∷ bad (length (j ++ r)) stray ∷ trivia_out s.rest s.out))
    wrote q o x y =
        let n : ℕ = length (j ++ r) in
        let b : List Event = opened n ∷ bad n stray ∷ trivia_out s.rest s.out in
        let p = seek_run j r a is b k d h in
        ap₂ (λ (q : List ℕ) (o : List Event). closed kinds.ERROR (length q) (length (seek rule_keywords q)) ∷ seek_out rule_keywords q (opened (length q) ∷ bad (length q) stray ∷ o)) x y
        ∙ ap₂ (λ (q : List ℕ) (o : List Event). closed kinds.ERROR n (length q) ∷ o) p.0 p.1

    go : (x : Next) → x ≡ other → let v : State = again (flush (item_at L x (trivia s))) in Fresh v × (v.rest ≡ r) × (v.fuel ≡ s.fuel) × (v.begun ≡ s.begun) × (v.out ≡ closed kinds.ERROR (length (j ++ r)) (length r) ∷ leaves j r (opened (length (j ++ r)) ∷ bad (length (j ++ r)) stray ∷ trivia_out s.rest s.out))
    go end x = never cc
    go (hit b js) x = never cc
    go other x =
        let z = after_item u (subst Running (sym f.is_ok) tt) in
        let y = again_free u in
        (z.0, z.1 ∙ ap (seek rule_keywords) rows ∙ (seek_run j r a is [] k d h).0, y.0, y.1, z.2 ∙ ap (λ (c : List (ℕ × Choice)). errors c u.out) f.no_chosen ∙ wrote (trivia s).rest (trivia s).out rows (old s.mode f.is_ok))

-- an item that was read without an error to its last row w: no error is written, and the reader stands right behind that row
last_stands : (L : Limits) (s : State) (a : ℕ) (is r' : List ℕ) (w : ℕ) → Fresh s → sought item_keywords (trivia s).rest ≡ hit a is → (let u : State = read_item L (item_of a) (trivia s) in Running u.mode → (u.chosen ≡ []) × (strip u.rest ≡ r') × End (w ∷ u.rest) (trivia s).rest) → Running (item L s).mode → Fresh (item L s) × (strip (item L s).rest ≡ r') × End (w ∷ (item L s).rest) s.rest × (bads (item L s).out ≡ bads s.out)
last_stands L s a is r' w f e h = go (sought item_keywords (trivia s).rest) e
  where
    go : (x : Next) → x ≡ hit a is → let v : State = again (flush (item_at L x (trivia s))) in Running v.mode → Fresh v × (strip v.rest ≡ r') × End (w ∷ v.rest) s.rest × (bads v.out ≡ bads s.out)
    go end x r = never cc
    go other x r = never cc
    go (hit b js) x r = subst (λ (c : ℕ). let v : State = again (flush (read_item L (item_of c) (trivia s))) in Running v.mode → Fresh v × (strip v.rest ≡ r') × End (w ∷ v.rest) s.rest × (bads v.out ≡ bads s.out)) (same b js x) at r
      where
        same : (b : ℕ) (js : List ℕ) → ◌≡◌ {A = Next} (hit b js) (hit a is) → a ≡ b
        same b js x = cc

        at : let v : State = again (flush (read_item L (item_of a) (trivia s))) in Running v.mode → Fresh v × (strip v.rest ≡ r') × End (w ∷ v.rest) s.rest × (bads v.out ≡ bads s.out)
        at r =
            let u : State = read_item L (item_of a) (trivia s) in
            let v : State = again (flush u) in
            let z = after_item u (again_running u r) in
            let p = h (again_running u r) in
            let q : End (w ∷ v.rest) (trivia s).rest = subst (λ (l : List ℕ). End (w ∷ l) (trivia s).rest) (sym z.1) p.2 in
            (z.0, ap strip z.1 ∙ p.1, end_trans (w ∷ v.rest) (trivia s).rest s.rest q (gap_end s.mode s.rest), ap bads z.2 ∙ ap (λ (c : List (ℕ × Choice)). bads (errors c u.out)) p.0 ∙ reads_unsaid L (item_of a) (trivia s) ∙ gap_bads s.mode s.rest s.out)

solid_size : (x : List ℕ) → Solid x → 1 ≤ length (strip x)
solid_size [] d = absurd d
solid_size (i ∷ []) d = go (trivial i) d
  where
    go : (b : Bool) → b ≡ false → 1 ≤ length {A = ℕ} (elim b as (λ _. List ℕ) [ true ↦ [] | false ↦ i ∷ [] ])
    go true e = never cc
    go false e = omega arith
solid_size (i ∷ j ∷ x) d = go (trivial i) (solid_size (j ∷ x) d)
  where
    go : (b : Bool) → 1 ≤ length (strip (j ∷ x)) → 1 ≤ length {A = ℕ} (elim b as (λ _. List ℕ) [ true ↦ strip (j ∷ x) | false ↦ i ∷ strip (j ∷ x) ])
    go true h = h
    go false h = omega arith

-- right behind a row w that is no trivia: trivia aside, one place
one_place : (w : ℕ) → ((v : List ℕ) → strip (w ∷ v) ≡ w ∷ strip v) → (x p y v : List ℕ) → Solid x → x ++ y ≡ p ++ (w ∷ v) → strip v ≡ strip y → v ≡ y
one_place w firm [] p y v d e h = absurd d
one_place w firm (i ∷ []) [] y v d e h = cc
one_place w firm (i ∷ []) (k ∷ p) y v d e h = let z : y ≡ p ++ (w ∷ v) = cc in absurd (omega (arith, ap length h, ap length (ap strip z ∙ strip_append p (w ∷ v) ∙ ap (λ (l : List ℕ). strip p ++ l) (firm v)), length-append (strip p) (w ∷ strip v)))
one_place w firm (i ∷ j ∷ x) [] y v d e h = let z : (j ∷ x) ++ y ≡ v = cc in absurd (omega (arith, solid_size (j ∷ x) d, ap length h, ap length (sym (ap strip z) ∙ strip_append (j ∷ x) y), length-append (strip (j ∷ x)) (strip y)))
one_place w firm (i ∷ j ∷ x) (k ∷ p) y v d e h = let z : (j ∷ x) ++ y ≡ p ++ (w ∷ v) = cc in one_place w firm (j ∷ x) p y v d z h

-- an accepted item of the production q begins with one of its keywords K, by which it is read as p
abbrev Reads : Prog → ℕ → ℕ → Type 0
Reads p b i = (item_of b ≡ p) × (pick item_keywords i ≡ some b)

keyword_first : {E : Bool} (K : List ℕ) (q : Production) (p : Prog) → T (dies E K (node q)) → Each (Reads p) K → (r r' : List ℕ) → Peg E (node q) (strip r) (Res.yes r') → (a : ℕ) × (is : List ℕ) × (next item_keywords r ≡ hit a is) × (item_of a ≡ p)
keyword_first K q p t W r r' g = go (next K r) refl
  where
    none_there : Miss (next K r) → ⊥
    none_there m = yes_no r' (det g Res.no (dies_no K (strip r) (node q) t (next_miss K r m)))

    at : (a : ℕ) (is : List ℕ) → next K r ≡ hit a is → (l : List ℕ) → skip r ≡ l → sought K l ≡ hit a is → (a : ℕ) × (is : List ℕ) × (sought item_keywords l ≡ hit a is) × (item_of a ≡ p)
    at a is e [] z h = never cc
    at a is e (i ∷ l) z h =
        let x = each_at (Reads p) K W i a (pick_of K i a is l h) in
        (a, l, ap (λ (y : Option ℕ). elim y as (λ _. Next) [ none ↦ other | some b ↦ hit b l ]) x.1, x.0)

    go : (x : Next) → next K r ≡ x → (a : ℕ) × (is : List ℕ) × (next item_keywords r ≡ hit a is) × (item_of a ≡ p)
    go end e = absurd (none_there (subst Miss (sym e) tt))
    go other e = absurd (none_there (subst Miss (sym e) tt))
    go (hit a is) e = at a is e (skip r) refl e

-- an accepted item that is read without an error to its last row w, which the rows x end with: the reader stands right behind them
behind_last : (L : Limits) (s : State) (x r : List ℕ) (w a : ℕ) (is : List ℕ) (p : Prog) → ((v : List ℕ) → strip (w ∷ v) ≡ w ∷ strip v) → Fresh s → s.rest ≡ x ++ r → Solid x → next item_keywords s.rest ≡ hit a is → item_of a ≡ p → (let u : State = read_item L p (trivia s) in Running u.mode → (u.chosen ≡ []) × (strip u.rest ≡ strip r) × End (w ∷ u.rest) (trivia s).rest) → let v : State = item L s in Running v.mode → Fresh v × (v.rest ≡ r) × (bads v.out ≡ bads s.out)
behind_last L s x r w a is p firm f e d n q h k =
    let v : State = item L s in
    let z = last_stands L s a is (strip r) w f (ap (sought item_keywords) (gap_ok s.mode s.rest f.is_ok) ∙ n) (subst (λ (p : Prog). let u : State = read_item L p (trivia s) in Running u.mode → (u.chosen ≡ []) × (strip u.rest ≡ strip r) × End (w ∷ u.rest) (trivia s).rest) (sym q) h) k in
    (z.0, one_place w firm x z.2.0 r v.rest d (sym e ∙ sym z.2.1) z.1, z.3)

-- THE THEOREM: rows x at item position, the last of them no trivia, that the PEG accepts as a rule, whose next row past trivia begins an item or is none:
-- unless stopped, the reader stands right behind them, between two items, and no error is written
pub rule_stands : (L : Limits) (s : State) (x r : List ℕ) → Fresh s → s.rest ≡ x ++ r → Solid x → Peg L.entrypoint (node RULE_DECL) (strip s.rest) (Res.yes (strip r)) → (Off (sought item_keywords (strip r)) → ⊥) → let v : State = item L s in Running v.mode →
    Fresh v × (v.rest ≡ r) × (bads v.out ≡ bads s.out)
unfolding grammar id_of
rule_stands L s x r f e d g n k =
    let h = keyword_first rule_keywords RULE_DECL rule_decl tt ((refl, refl), ((refl, refl), ((refl, refl), tt))) s.rest (strip r) g in
    let t = trivia_fresh s f in
    let G = subst (λ (l : List ℕ). Peg L.entrypoint (node RULE_DECL) l (Res.yes (strip r))) (sym (strip_gap s.mode s.rest)) g in
    behind_last L s x r kinds.R_BRACE h.0 h.1 rule_decl (λ v. refl) f e d h.2 h.3 (λ u. rule_calm L (trivia s) (strip r) t.is_ok (fresh_inv L.entrypoint (trivia s) t) u G n) k

-- THE THEOREM: rows x at item position, the last of them no trivia, that the PEG accepts as an import or an include: unless stopped, the reader stands right
-- behind them, between two items, and no error is written, whatever the next row is
pub statement_stands : (L : Limits) (s : State) (x r : List ℕ) → Fresh s → s.rest ≡ x ++ r → Solid x → Peg L.entrypoint (node IMPORT_STMT ⫽ last (node INCLUDE_STMT)) (strip s.rest) (Res.yes (strip r)) → let v : State = item L s in Running v.mode →
    Fresh v × (v.rest ≡ r) × (bads v.out ≡ bads s.out)
unfolding grammar id_of
statement_stands L s x r f e d g k = by g
  where
    stands : (q : Production) (b : ℕ) → Statement q b → T (dies L.entrypoint (b ∷ []) (node q)) → Each (Reads (node q)) (b ∷ []) → Peg L.entrypoint (node q) (strip s.rest) (Res.yes (strip r)) → let v : State = item L s in Fresh v × (v.rest ≡ r) × (bads v.out ≡ bads s.out)
    stands q b st t W g =
        let h = keyword_first (b ∷ []) q (node q) t W s.rest (strip r) g in
        let F = trivia_fresh s f in
        let G = subst (λ (l : List ℕ). Peg L.entrypoint (node q) l (Res.yes (strip r))) (sym (strip_gap s.mode s.rest)) g in
        behind_last L s x r kinds.STRING_LIT h.0 h.1 (node q) (λ v. refl) f e d h.2 h.3 (λ u. statement_calm L q b st (trivia s) (strip r) F.is_ok (fresh_inv L.entrypoint (trivia s) F) u G) k

    by : Peg L.entrypoint (node IMPORT_STMT ⫽ last (node INCLUDE_STMT)) (strip s.rest) (Res.yes (strip r)) → let v : State = item L s in Fresh v × (v.rest ≡ r) × (bads v.out ≡ bads s.out)
    by (alt_yes g) = stands IMPORT_STMT kinds.IMPORT_KW import tt ((refl, refl), tt) g
    by (alt_no n (last_is g)) = stands INCLUDE_STMT kinds.INCLUDE_KW include tt ((refl, refl), tt) g
