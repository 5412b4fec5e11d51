-- The relation on the module's combinators is Ford's: `Peg p` is his relation on the expression of p.
use Prim.Native.Nat.{ℕ, zero, suc, ◌≤◌, ◌<◌}
use mathlib.Core.Path.{◌≡◌, refl, sym, subst}
use mathlib.Core.Logic.{◌⊎◌, inl, inr, ◌↔◌}
use mathlib.Core.List.{List, [], ◌∷◌}
use mathlib.Core.Bool.{Bool, true, false}
use mathlib.Core.Option.{Option, none, some}
use lib.Dec.{eqb, eqb→eq, eqb_refl, T}
use native.Mathlib.Nat.{le_refl}
use native.Mathlib.Omega.{arith}
use Rattle.kinds.specs.Sets.{id_of, pick}
use Rattle.definition.specs.Prog.{Production, RULE_DECL, IMPORT_STMT, INCLUDE_STMT, Prog, eat, unless, ifnext, opt, many, then, ◌⨟◌, ◌⫽◌, last, recover, node, memo}
use Rattle.definition.specs.Grammar.{grammar}
use Rattle.definition.specs.Run.{Next, end, other, hit, sought, item_keywords}
use Rattle.definition.proofs.Peg.{Miss, Peg, eat_yes, eat_no, unless_yes, unless_no, ifnext_hit, ifnext_miss, opt_yes, opt_no, many_yes, many_no, then_is, seq_yes, seq_no, alt_yes, alt_no, last_is, recover_is, node_is, memo_is}
use Rattle.definition.specs.Ford as Fo
use Rattle.definition.specs.Ford.{Exp, ε, tok, nt, ◌·◌, ◌∣◌, star, non, Ford, empty, term_yes, term_no, term_end, nonterm, seq_no₁, seq_no₂, choice₁, choice₂, repeat, rest, non_no, non_yes, one_of, ford, rules, Res, any_item, Items, no_more, one_item}
use Rattle.definition.proofs.Det.{yes_no, yes_is}
use Rattle.definition.proofs.First.{dies, dies_no}

abbrev pub Fd : (E : Bool) → Exp → List ℕ → ℕ → Res → Type 0
Fd E = Ford (rules E)

move : (E : Bool) {e : Exp} {r r' : List ℕ} {n : ℕ} {y : Res} → r ≡ r' → Fd E e r' n y → Fd E e r n y
move E {e = e} {n = n} {y = y} z h = subst (λ (l : List ℕ). Fd E e l n y) (sym z) h

pub det : (E : Bool) {e : Exp} {r : List ℕ} {n : ℕ} {x : Res} → Fd E e r n x → (m : ℕ) (y : Res) → Fd E e r m y → x ≡ y
det E empty m y empty = refl
det E (term_yes a) m y (term_yes b) = refl
det E (term_yes a) m y (term_no b) = absurd (b a)
det E (term_no a) m y (term_yes b) = absurd (a b)
det E (term_no a) m y (term_no b) = refl
det E term_end m y term_end = refl
det E (nonterm d) m y (nonterm g) = det E d _ y g
det E (Fo.Ford.seq_yes d e) m y (Fo.Ford.seq_yes g h) = det E e _ y (move E (yes_is (det E d _ _ g)) h)
det E (Fo.Ford.seq_yes d e) m y (seq_no₁ g) = absurd (yes_no _ (det E d _ _ g))
det E (Fo.Ford.seq_yes d e) m y (seq_no₂ g h) = det E e _ y (move E (yes_is (det E d _ _ g)) h)
det E (seq_no₁ d) m y (Fo.Ford.seq_yes g h) = absurd (yes_no _ (sym (det E d _ _ g)))
det E (seq_no₁ d) m y (seq_no₁ g) = refl
det E (seq_no₁ d) m y (seq_no₂ g h) = refl
det E (seq_no₂ d e) m y (Fo.Ford.seq_yes g h) = det E e _ y (move E (yes_is (det E d _ _ g)) h)
det E (seq_no₂ d e) m y (seq_no₁ g) = refl
det E (seq_no₂ d e) m y (seq_no₂ g h) = refl
det E (choice₁ d) m y (choice₁ g) = det E d _ _ g
det E (choice₁ d) m y (choice₂ g h) = absurd (yes_no _ (det E d _ _ g))
det E (choice₂ d e) m y (choice₁ g) = absurd (yes_no _ (sym (det E d _ _ g)))
det E (choice₂ d e) m y (choice₂ g h) = det E e _ y h
det E (repeat d e) m y (repeat g h) = det E e _ y (move E (yes_is (det E d _ _ g)) h)
det E (repeat d e) m y (rest g) = absurd (yes_no _ (det E d _ _ g))
det E (rest d) m y (repeat g h) = absurd (yes_no _ (sym (det E d _ _ g)))
det E (rest d) m y (rest g) = refl
det E (non_no d) m y (non_no g) = refl
det E (non_no d) m y (non_yes g) = absurd (yes_no _ (det E d _ _ g))
det E (non_yes d) m y (non_no g) = absurd (yes_no _ (sym (det E d _ _ g)))
det E (non_yes d) m y (non_yes g) = refl

abbrev Some : (E : Bool) → Exp → List ℕ → Res → Type 0
Some E e r x = (n : ℕ) × Fd E e r n x

-- one of a set
one_end : (E : Bool) (S : List ℕ) → Some E (one_of S) [] Res.no
one_end E [] = (_, non_no empty)
one_end E (b ∷ S) = (_, choice₂ term_end (one_end E S).1)

one_pick : (E : Bool) (S : List ℕ) (i : ℕ) (is : List ℕ) (x : Option ℕ) → pick S i ≡ x → Some E (one_of S) (i ∷ is) (elim x as (λ _. Res) [ none ↦ Res.no | some a ↦ Res.yes is ])
one_pick E [] i is x e = subst (λ (x : Option ℕ). Some E (one_of []) (i ∷ is) (elim x as (λ _. Res) [ none ↦ Res.no | some a ↦ Res.yes is ])) e (_, non_no empty)
one_pick E (b ∷ S) i is x e = go (eqb i (id_of b)) (λ t. eqb→eq i (id_of b) t) (λ z. subst (λ (j : ℕ). T (eqb i j)) (sym z) (eqb_refl i)) e (one_pick E S i is x)
  where
    go : (c : Bool) → (T c → i ≡ id_of b) → (id_of b ≡ i → T c) → ◌≡◌ {A = Option ℕ} (elim c [ true ↦ some b | false ↦ pick S i ]) x → (pick S i ≡ x → Some E (one_of S) (i ∷ is) (elim x as (λ _. Res) [ none ↦ Res.no | some a ↦ Res.yes is ])) → Some E (tok (id_of b) ∣ one_of S) (i ∷ is) (elim x as (λ _. Res) [ none ↦ Res.no | some a ↦ Res.yes is ])
    go true t f z H = subst (λ (x : Option ℕ). Some E (tok (id_of b) ∣ one_of S) (i ∷ is) (elim x as (λ _. Res) [ none ↦ Res.no | some a ↦ Res.yes is ])) z (_, choice₁ (term_yes (sym (t tt))))
    go false t f z H = (_, choice₂ (term_no f) (H z).1)

abbrev result : Next → Res
result end = Res.no
result other = Res.no
result (hit a is) = Res.yes is

one_is : (E : Bool) (S r : List ℕ) → Some E (one_of S) r (result (sought S r))
one_is E S [] = one_end E S
one_is E S (i ∷ is) = go (pick S i) (one_pick E S i is (pick S i) refl)
  where
    go : (x : Option ℕ) → Some E (one_of S) (i ∷ is) (elim x as (λ _. Res) [ none ↦ Res.no | some a ↦ Res.yes is ]) → Some E (one_of S) (i ∷ is) (result (elim x as (λ _. Next) [ none ↦ other | some b ↦ hit b is ]))
    go none z = z
    go (some a) z = z

one_hit : (E : Bool) (S r : List ℕ) (a : ℕ) (is : List ℕ) → sought S r ≡ hit a is → Some E (one_of S) r (Res.yes is)
one_hit E S r a is e = subst (λ (x : Next). Some E (one_of S) r (result x)) e (one_is E S r)

miss_no : (x : Next) → Miss x → result x ≡ Res.no
miss_no end m = refl
miss_no other m = refl
miss_no (hit a is) m = absurd m

one_miss : (E : Bool) (S r : List ℕ) → Miss (sought S r) → Some E (one_of S) r Res.no
one_miss E S r m = subst (Some E (one_of S) r) (miss_no (sought S r) m) (one_is E S r)

many_never : {E : Bool} {p : Prog} {r : List ℕ} → Peg E (many p) r Res.no → ⊥
many_never (many_yes d e) = many_never e

-- the PEG is Ford's
pub to_ford : {E : Bool} {p : Prog} {r : List ℕ} {x : Res} → Peg E p r x → Some E (ford p) r x
to_ford {E} (eat_yes {S = S} {r = r} a {is = is} e) = one_hit E S r a is e
to_ford {E} (eat_no {S = S} {r = r} m) = one_miss E S r m
to_ford {E} (unless_yes {S = S} {r = r} m) = (_, non_yes (one_miss E S r m).1)
to_ford {E} (unless_no {S = S} {r = r} a is e) = (_, non_no (one_hit E S r a is e).1)
to_ford {E} (ifnext_hit {S = S} {r = r} {x = Res.no} a is e d) = (_, choice₂ (seq_no₂ (non_yes (non_no (one_hit E S r a is e).1)) (to_ford d).1) (non_no (one_hit E S r a is e).1))
to_ford {E} (ifnext_hit {S = S} {r = r} {x = Res.yes y} a is e d) = (_, choice₁ (Fo.Ford.seq_yes (non_yes (non_no (one_hit E S r a is e).1)) (to_ford d).1))
to_ford {E} (ifnext_miss {S = S} {r = r} m) = (_, choice₂ (seq_no₁ (non_no (non_yes (one_miss E S r m).1))) (non_yes (one_miss E S r m).1))
to_ford (opt_yes d) = (_, choice₁ (to_ford d).1)
to_ford (opt_no d) = (_, choice₂ (to_ford d).1 empty)
to_ford (many_yes {x = Res.no} d e) = absurd (many_never e)
to_ford (many_yes {x = Res.yes y} d e) = (_, repeat (to_ford d).1 (to_ford e).1)
to_ford (many_no d) = (_, rest (to_ford d).1)
to_ford (then_is d) = to_ford d
to_ford (seq_yes {x = Res.no} d e) = (_, seq_no₂ (to_ford d).1 (to_ford e).1)
to_ford (seq_yes {x = Res.yes y} d e) = (_, Fo.Ford.seq_yes (to_ford d).1 (to_ford e).1)
to_ford (seq_no d) = (_, seq_no₁ (to_ford d).1)
to_ford (alt_yes d) = (_, choice₁ (to_ford d).1)
to_ford (alt_no d e) = (_, choice₂ (to_ford d).1 (to_ford e).1)
to_ford (last_is d) = to_ford d
to_ford recover_is = (_, empty)
to_ford (node_is d) = (_, nonterm (to_ford d).1)
to_ford (memo_is d) = (_, nonterm (to_ford d).1)

positive : (E : Bool) {e : Exp} {r : List ℕ} {n : ℕ} {x : Res} → Fd E e r n x → 1 ≤ n
positive E empty = omega arith
positive E (term_yes a) = omega arith
positive E (term_no a) = omega arith
positive E term_end = omega arith
positive E (nonterm d) = omega arith
positive E (Fo.Ford.seq_yes d e) = omega arith
positive E (seq_no₁ d) = omega arith
positive E (seq_no₂ d e) = omega arith
positive E (choice₁ d) = omega arith
positive E (choice₂ d e) = omega arith
positive E (repeat d e) = omega arith
positive E (rest d) = omega arith
positive E (non_no d) = omega arith
positive E (non_yes d) = omega arith

-- what a derivation is made of
record Failed (E : Bool) (e : Exp) (r : List ℕ) (n : ℕ) : Type 0 where
  m : ℕ
  less : m < n
  part : Fd E e r m Res.no

record Went (E : Bool) (e : Exp) (r : List ℕ) (n : ℕ) : Type 0 where
  m : ℕ
  less : m < n
  to : List ℕ
  part : Fd E e r m (Res.yes to)

record Both (E : Bool) (e e' : Exp) (r : List ℕ) (n : ℕ) (x : Res) : Type 0 where
  first : Went E e r n
  m : ℕ
  less : m < n
  second : Fd E e' first.to m x

record Else (E : Bool) (e e' : Exp) (r : List ℕ) (n : ℕ) (x : Res) : Type 0 where
  first : Failed E e r n
  m : ℕ
  less : m < n
  second : Fd E e' r m x

inv_seq : (E : Bool) {e e' : Exp} {r : List ℕ} {n : ℕ} {x : Res} → Fd E (e · e') r n x → (Failed E e r n × (x ≡ Res.no)) ⊎ Both E e e' r n x
inv_seq E (Fo.Ford.seq_yes {y = y} {n = n} {m = m} d g) = inr (record { first = record { m = n; less = omega arith; to = y; part = d }; m = m; less = omega arith; second = g })
inv_seq E (seq_no₁ {n = n} d) = inl (record { m = n; less = omega arith; part = d }, refl)
inv_seq E (seq_no₂ {y = y} {n = n} {m = m} d g) = inr (record { first = record { m = n; less = omega arith; to = y; part = d }; m = m; less = omega arith; second = g })

inv_choice : (E : Bool) {e e' : Exp} {r : List ℕ} {n : ℕ} {x : Res} → Fd E (e ∣ e') r n x → ((z : Went E e r n) × (x ≡ Res.yes z.to)) ⊎ Else E e e' r n x
inv_choice E (choice₁ {y = y} {n = n} d) = inl (record { m = n; less = omega arith; to = y; part = d }, refl)
inv_choice E (choice₂ {n = n} {m = m} d g) = inr (record { first = record { m = n; less = omega arith; part = d }; m = m; less = omega arith; second = g })

inv_star : (E : Bool) {e : Exp} {r : List ℕ} {n : ℕ} {x : Res} → Fd E (star e) r n x → (Failed E e r n × (x ≡ Res.yes r)) ⊎ Both E e (star e) r n x
inv_star E (repeat {y = y} {n = n} {m = m} d g) = inr (record { first = record { m = n; less = omega arith; to = y; part = d }; m = m; less = omega arith; second = g })
inv_star E (rest {n = n} d) = inl (record { m = n; less = omega arith; part = d }, refl)

inv_nt : (E : Bool) {A : Production} {r : List ℕ} {n : ℕ} {x : Res} → Fd E (nt A) r n x → (m : ℕ) × (m < n) × Fd E (rules E A) r m x
inv_nt E (nonterm {n = n} d) = (n, omega arith, d)

inv_empty : (E : Bool) {r : List ℕ} {n : ℕ} {x : Res} → Fd E ε r n x → x ≡ Res.yes r
inv_empty E empty = refl

-- where the PEG has a result, it is Ford's
same_result : {E : Bool} (p : Prog) (r : List ℕ) (n : ℕ) (x y : Res) → Peg E p r y → Fd E (ford p) r n x → Peg E p r x
same_result {E} p r n x y g d = subst (Peg E p r) (det E (to_ford g).1 n x d) g

abbrev Back : (E : Bool) → ℕ → Type 0
Back E N = (p : Prog) (r : List ℕ) (n : ℕ) (x : Res) → n ≤ N → Fd E (ford p) r n x → Peg E p r x

eat_has : {E : Bool} (S M r : List ℕ) (y : Next) → sought S r ≡ y → (x : Res) × Peg E (eat S M) r x
eat_has S M r end e = (Res.no, eat_no (subst Miss (sym e) tt))
eat_has S M r other e = (Res.no, eat_no (subst Miss (sym e) tt))
eat_has S M r (hit a is) e = (Res.yes is, eat_yes a e)

unless_has : {E : Bool} (S r : List ℕ) (y : Next) → sought S r ≡ y → (x : Res) × Peg E (unless S) r x
unless_has S r end e = (Res.yes r, unless_yes (subst Miss (sym e) tt))
unless_has S r other e = (Res.yes r, unless_yes (subst Miss (sym e) tt))
unless_has S r (hit a is) e = (Res.no, unless_no a is e)

-- `ifnext` where its token is next
ifnext_back : {E : Bool} (N : ℕ) → Back E N → (S : List ℕ) (p : Prog) (r : List ℕ) (n : ℕ) (x : Res) → n ≤ suc N → (a : ℕ) (is : List ℕ) → sought S r ≡ hit a is → Fd E (ford (ifnext S p)) r n x → Peg E (ifnext S p) r x
ifnext_back {E} N H S p r n x l a is e d = by (inv_choice E d)
  where
    there : Some E (non (non (one_of S))) r (Res.yes r)
    there = (_, non_yes (non_no (one_hit E S r a is e).1))

    by_yes : (z : Went E (non (non (one_of S)) · ford p) r n) → (Failed E (non (non (one_of S))) r z.m × (Res.yes z.to ≡ Res.no)) ⊎ Both E (non (non (one_of S))) (ford p) r z.m (Res.yes z.to) → Peg E (ifnext S p) r (Res.yes z.to)
    by_yes z (inl u) = absurd (yes_no z.to u.1)
    by_yes z (inr u) = let q : r ≡ u.first.to = yes_is (det E there.1 _ _ u.first.part) in ifnext_hit a is e (H p r u.m (Res.yes z.to) (omega (arith, l, z.less, u.less)) (move E q u.second))

    by_no : (z : Else E (non (non (one_of S)) · ford p) (non (one_of S)) r n x) → (Failed E (non (non (one_of S))) r z.first.m × (Res.no ≡ Res.no)) ⊎ Both E (non (non (one_of S))) (ford p) r z.first.m Res.no → Peg E (ifnext S p) r Res.no
    by_no z (inl u) = absurd (yes_no r (det E there.1 _ _ u.0.part))
    by_no z (inr u) = let q : r ≡ u.first.to = yes_is (det E there.1 _ _ u.first.part) in ifnext_hit a is e (H p r u.m Res.no (omega (arith, l, z.first.less, u.less)) (move E q u.second))

    by : ((z : Went E (non (non (one_of S)) · ford p) r n) × (x ≡ Res.yes z.to)) ⊎ Else E (non (non (one_of S)) · ford p) (non (one_of S)) r n x → Peg E (ifnext S p) r x
    by (inl z) = subst (Peg E (ifnext S p) r) (sym z.1) (by_yes z.0 (inv_seq E z.0.part))
    by (inr z) = subst (Peg E (ifnext S p) r) (det E (non_no (one_hit E S r a is e).1) _ _ z.second) (by_no z (inv_seq E z.first.part))

step : (E : Bool) (N : ℕ) → Back E N → Back E (suc N)
step E N H (eat S M) r n x l d = let g = eat_has S M r (sought S r) refl in same_result (eat S M) r n x g.0 g.1 d
step E N H (unless S) r n x l d = let g = unless_has S r (sought S r) refl in same_result (unless S) r n x g.0 g.1 d
step E N H (ifnext S p) r n x l d = go (sought S r) refl
  where
    go : (y : Next) → sought S r ≡ y → Peg E (ifnext S p) r x
    go end e = same_result (ifnext S p) r n x (Res.yes r) (ifnext_miss (subst Miss (sym e) tt)) d
    go other e = same_result (ifnext S p) r n x (Res.yes r) (ifnext_miss (subst Miss (sym e) tt)) d
    go (hit a is) e = ifnext_back N H S p r n x l a is e d
step E N H (opt p) r n x l d = by (inv_choice E d)
  where
    by : ((z : Went E (ford p) r n) × (x ≡ Res.yes z.to)) ⊎ Else E (ford p) ε r n x → Peg E (opt p) r x
    by (inl z) = subst (Peg E (opt p) r) (sym z.1) (opt_yes (H p r z.0.m (Res.yes z.0.to) (omega (arith, l, z.0.less)) z.0.part))
    by (inr z) = subst (Peg E (opt p) r) (sym (inv_empty E z.second)) (opt_no (H p r z.first.m Res.no (omega (arith, l, z.first.less)) z.first.part))
step E N H (many p) r n x l d = by (inv_star E d)
  where
    by : (Failed E (ford p) r n × (x ≡ Res.yes r)) ⊎ Both E (ford p) (star (ford p)) r n x → Peg E (many p) r x
    by (inl z) = subst (Peg E (many p) r) (sym z.1) (many_no (H p r z.0.m Res.no (omega (arith, l, z.0.less)) z.0.part))
    by (inr z) = many_yes (H p r z.first.m (Res.yes z.first.to) (omega (arith, l, z.first.less)) z.first.part) (H (many p) z.first.to z.m x (omega (arith, l, z.less)) z.second)
step E N H (then p) r n x l d = then_is (step E N H p r n x l d)
step E N H (p ⨟ q) r n x l d = by (inv_seq E d)
  where
    by : (Failed E (ford p) r n × (x ≡ Res.no)) ⊎ Both E (ford p) (ford q) r n x → Peg E (p ⨟ q) r x
    by (inl z) = subst (Peg E (p ⨟ q) r) (sym z.1) (seq_no (H p r z.0.m Res.no (omega (arith, l, z.0.less)) z.0.part))
    by (inr z) = seq_yes (H p r z.first.m (Res.yes z.first.to) (omega (arith, l, z.first.less)) z.first.part) (H q z.first.to z.m x (omega (arith, l, z.less)) z.second)
step E N H (p ⫽ q) r n x l d = by (inv_choice E d)
  where
    by : ((z : Went E (ford p) r n) × (x ≡ Res.yes z.to)) ⊎ Else E (ford p) (ford q) r n x → Peg E (p ⫽ q) r x
    by (inl z) = subst (Peg E (p ⫽ q) r) (sym z.1) (alt_yes (H p r z.0.m (Res.yes z.0.to) (omega (arith, l, z.0.less)) z.0.part))
    by (inr z) = alt_no (H p r z.first.m Res.no (omega (arith, l, z.first.less)) z.first.part) (H q r z.m x (omega (arith, l, z.less)) z.second)
step E N H (last p) r n x l d = last_is (step E N H p r n x l d)
step E N H (recover S) r n x l d = subst (Peg E (recover S) r) (sym (inv_empty E d)) recover_is
step E N H (node a) r n x l d = let z = inv_nt E d in node_is (H (grammar E a) r z.0 x (omega (arith, l, z.1)) z.2)
step E N H (memo a) r n x l d = let z = inv_nt E d in memo_is (H (grammar E a) r z.0 x (omega (arith, l, z.1)) z.2)

backs : (E : Bool) (N : ℕ) → Back E N
backs E zero p r n x l d = absurd (omega (arith, l, positive E d))
backs E (suc N) p r n x l d = step E N (backs E N) p r n x l d

pub from_ford : {E : Bool} (p : Prog) {r : List ℕ} {n : ℕ} {x : Res} → Fd E (ford p) r n x → Peg E p r x
from_ford {E} p {r} {n} {x} d = backs E n p r n x (le_refl n) d

-- THE THEOREM: document 01's reading of the combinators is the published relation
pub peg_is_ford : {E : Bool} (p : Prog) (r : List ℕ) (x : Res) → Peg E p r x ↔ ((n : ℕ) × Ford (rules E) (ford p) r n x)
peg_is_ford p r x = ((λ g. to_ford g), λ z. from_ford p z.1)

-- an item, in the module's words
abbrev pub an_item : Prog
an_item = node RULE_DECL ⫽ node IMPORT_STMT ⫽ last (node INCLUDE_STMT)

pub item_dies : (E : Bool) → T (dies E item_keywords an_item)
unfolding grammar id_of
item_dies E = tt

-- "a run of none or more" items "from first to last", in Ford's words: (rule_decl / import_stmt / include_stmt)* takes all

items_star : (E : Bool) {r : List ℕ} → Items E r → Some E (star any_item) r (Res.yes [])
items_star E no_more = (_, rest (to_ford (dies_no item_keywords [] an_item (item_dies E) tt)).1)
items_star E (one_item g is) = (_, repeat g (items_star E is).1)

star_items : (E : Bool) {r : List ℕ} {n : ℕ} → Fd E (star any_item) r n (Res.yes []) → Items E r
star_items E (repeat d e) = one_item d (star_items E e)
star_items E (rest d) = no_more

pub accepts_is_ford : (E : Bool) (r : List ℕ) → Items E r ↔ ((n : ℕ) × Ford (rules E) (star any_item) r n (Res.yes []))
accepts_is_ford E r = ((λ a. items_star E a), λ z. star_items E z.1)
