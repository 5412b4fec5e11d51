-- What is known of the errors that are chosen. An unexpected row is one that was matched inside `not`, so it is a row of the file and has text: form 5
-- ("Unexpected: 5 empty") cannot occur. What is expected has names, at least one, and none twice.
use Prim.Native.Nat.{ℕ, zero, suc, ◌-◌, ◌≤◌, ◌<◌}
use mathlib.Core.Path.{◌≡◌, refl, ap, sym, subst}
use mathlib.Core.List.{List, [], ◌∷◌, ◌++◌}
use mathlib.Core.Bool.{Bool, true, false, ◌&&◌}
use mathlib.Core.Option.{Option, none, some}
use lib.Dec.{eqb, ltb, T, eqb→eq, ltb→lt}
use lib.ListN.{length, get_or, drop, length-take, length-drop, length-append}
use native.Mathlib.Omega.{arith}
use borrow.Author.Tests.{eqb-false}
use Rattle.kinds.specs.Kinds as kinds
use Rattle.kinds.specs.Sets.{id_of, kind_of, trivial}
use Rattle.utf8.specs.Utf8.{utf8}
use Rattle.shapes.specs.Shapes.{Rec}
use Rattle.definition.specs.Prog.{Production, IMPORT_STMT, INCLUDE_STMT, node}
use Rattle.definition.specs.Grammar.{grammar, item_of, rule_decl}
use Rattle.definition.specs.Run.{State, Limits, Event, opened, leaf, closed, bad, Choice, wanted, unwanted, stray, Mode, ok, failed, stopped, Next, end, other, hit, next, sought, skip, past, trivia_out, trivia, seek_out, skip_to, turn, put, begin, finish, has, join, further, furthest, pending, add, decide, choose, errors, run, rule_keywords, item_keywords, read_item, stray_item, item_at, flush, again, item, items, start, read}
use Rattle.definition.specs.Render.{Source, id_at, text_at, form_found, form_slash, form_unknown, form_unwanted, form_of, record_of, records, Reading}
use Rattle.definition.specs.Answer.{Desk, tile, answer, given, source_of}
use Rattle.definition.proofs.Every.{and_left, and_right, never, productions, each}
use Rattle.definition.proofs.Gap.{gap_out}
use Rattle.definition.proofs.Induct.{enters, exec_kept_if, run_kept_if}
use Rattle.definition.proofs.Order.{StepsIf, stepped_if}
use Rattle.definition.proofs.Grows.{sought_hit}
use Rattle.definition.proofs.Tidy.{Ins, charge_same, read_tidy}
use Rattle.definition.proofs.Cut.{Rows, rows_of}
use Rattle.theorems.proofs.Answered.{given_is}

-- the number is not among those of the list
abbrev pub Fresh : List ℕ → ℕ → Type 0
Fresh [] n = Unit
Fresh (m ∷ l) n = (m ≡ n → ⊥) × Fresh l n

-- "A name is a token id or one of "expression", "operator", "pattern modifier"; names stand in order of first entry, none twice."
abbrev pub Names : List ℕ → Type 0
Names [] = Unit
Names (n ∷ ns) = (n < 85) × Fresh ns n × Names ns

-- what is expected has names; what is unexpected is a row, not the source's end
abbrev pub Row : ℕ → Choice → Type 0
Row n (wanted ns) = (1 ≤ length ns) × Names ns
Row n unwanted = 1 ≤ n
Row n stray = Unit

abbrev Wanted : Option (ℕ × List ℕ) → Type 0
Wanted none = Unit
Wanted (some w) = (1 ≤ length w.1) × Names w.1

abbrev Unwanted : Option ℕ → Type 0
Unwanted none = Unit
Unwanted (some u) = 1 ≤ u

abbrev Chosen : List (ℕ × Choice) → Type 0
Chosen [] = Unit
Chosen (e ∷ es) = Row e.0 e.1 × Chosen es

abbrev pub Written : List Event → Type 0
Written [] = Unit
Written (opened n ∷ es) = Written es
Written (leaf a n ∷ es) = Written es
Written (closed a n m ∷ es) = Written es
Written (bad n c ∷ es) = Row n c × Written es

record Rowed (s : State) : Type 0 where
  pub wants : Wanted s.want
  pub unwants : Unwanted s.unwant
  pub chose : Chosen s.chosen
  pub wrote : Written s.out

abbrev Keeps : State → State → Type 0
Keeps s t = Rowed s → Rowed t

alike : (s t : State) → t.want ≡ s.want → t.unwant ≡ s.unwant → t.chosen ≡ s.chosen → (Written s.out → Written t.out) → Keeps s t
alike s t w₀ a b w i = record { wants = subst Wanted (sym w₀) i.wants; unwants = subst Unwanted (sym a) i.unwants; chose = subst Chosen (sym b) i.chose; wrote = w i.wrote }

-- the names that the grammar enters: at least one, and each a name
below : List ℕ → Bool
below [] = true
below (n ∷ ns) = ltb n 85 && below ns

nameable : List ℕ → Bool
nameable [] = false
nameable (n ∷ ns) = below (n ∷ ns)

-- each production's names are so, by one computed test
grammar_names : (E : Bool) (a : Production) → T (enters nameable (grammar E a))
unfolding below nameable grammar productions id_of
grammar_names E a = each (λ a. enters nameable (grammar E a)) tt a

item_names : (a : ℕ) → T (enters nameable (item_of a))
unfolding below nameable id_of
item_names a = go (eqb a kinds.IMPORT_KW) (eqb a kinds.INCLUDE_KW)
  where
    go : (m n : Bool) → T (enters nameable (elim m [ true ↦ node IMPORT_STMT | false ↦ elim n [ true ↦ node INCLUDE_STMT | false ↦ rule_decl ] ]))
    go true n = tt
    go false true = tt
    go false false = tt

fresh_last : (ns : List ℕ) (n x : ℕ) → Fresh ns n → (x ≡ n → ⊥) → Fresh (ns ++ (x ∷ [])) n
fresh_last [] n x f h = (h, tt)
fresh_last (m ∷ ns) n x f h = (f.0, fresh_last ns n x f.1 h)

names_last : (ns : List ℕ) (x : ℕ) → Names ns → x < 85 → Fresh ns x → Names (ns ++ (x ∷ []))
names_last [] x k l f = (l, tt, tt)
names_last (n ∷ ns) x k l f = (k.0, fresh_last ns n x k.1 (λ e. f.0 (sym e)), names_last ns x k.2 l f.1)

new_name : (ns : List ℕ) (x : ℕ) → has ns x ≡ false → Fresh ns x
new_name [] x h = tt
new_name (n ∷ ns) x h = go (eqb x n) refl h (new_name ns x)
  where
    go : (b : Bool) → eqb x n ≡ b → elim b as (λ _. Bool) [ true ↦ true | false ↦ has ns x ] ≡ false → (has ns x ≡ false → Fresh ns x) → Fresh (n ∷ ns) x
    go true e h f = never cc
    go false e h f = ((λ q. eqb-false x n e (sym q)), f h)

join_names : (ns xs : List ℕ) → Names ns → T (below xs) → Names (join ns xs) × (length ns ≤ length (join ns xs))
unfolding below
join_names ns [] k t = (k, omega arith)
join_names ns (x ∷ xs) k t = go (has ns x) refl (λ ms i. join_names ms xs i (and_right (ltb x 85) (below xs) t))
  where
    go : (b : Bool) → has ns x ≡ b → ((ms : List ℕ) → Names ms → Names (join ms xs) × (length ms ≤ length (join ms xs))) → let l : List ℕ = elim b as (λ _. List ℕ) [ true ↦ join ns xs | false ↦ join (ns ++ (x ∷ [])) xs ] in Names l × (length ns ≤ length l)
    go true e f = f ns k
    go false e f =
        let i = f (ns ++ (x ∷ [])) (names_last ns x k (ltb→lt x 85 (and_left (ltb x 85) (below xs) t)) (new_name ns x e)) in
        (i.0, omega (arith, i.1, length-append ns (x ∷ [])))

some_names : (xs : List ℕ) → T (nameable xs) → (1 ≤ length (join [] xs)) × Names (join [] xs)
unfolding below nameable
some_names [] t = absurd t
some_names (x ∷ xs) t =
    let i = join_names (x ∷ []) xs (ltb→lt x 85 (and_left (ltb x 85) (below xs) t), tt, tt) (and_right (ltb x 85) (below xs) t) in (omega (arith, i.1), i.0)

any_below : (xs : List ℕ) → T (nameable xs) → T (below xs)
unfolding below nameable
any_below [] t = absurd t
any_below (x ∷ xs) t = t

further_names : (r : ℕ) (xs : List ℕ) (w : Option (ℕ × List ℕ)) → T (nameable xs) → Wanted w → Wanted (further r xs w)
further_names r xs none t h = some_names xs t
further_names r xs (some w) t h = go (ltb r w.0) (eqb r w.0)
  where
    go : (a b : Bool) → Wanted (elim a as (λ _. Option (ℕ × List ℕ)) [ true ↦ some (r, join [] xs) | false ↦ elim b as (λ _. Option (ℕ × List ℕ)) [ true ↦ some (r, join w.1 xs) | false ↦ some w ] ])
    go true b = some_names xs t
    go false true = let i = join_names w.1 xs h.1 (any_below xs t) in (omega (arith, i.1, h.0), i.0)
    go false false = h

furthest_row : (r : ℕ) (u : Option ℕ) → 1 ≤ r → Unwanted u → Unwanted (furthest r u)
furthest_row r none l h = l
furthest_row r (some u) l h = go (ltb r u)
  where
    go : (a : Bool) → Unwanted (elim a as (λ _. Option ℕ) [ true ↦ some r | false ↦ some u ])
    go true = l
    go false = h

chosen_append : (a : List (ℕ × Choice)) (r : ℕ) (c : Choice) → Chosen a → Row r c → Chosen (a ++ ((r, c) ∷ []))
chosen_append [] r c h l = (l, tt)
chosen_append (e ∷ a) r c h l = (h.0, chosen_append a r c h.1 l)

add_row : (r : ℕ) (c : Choice) (es : List (ℕ × Choice)) → Row r c → Chosen es → Chosen (add r c es)
add_row r c es l h = go (pending r es)
  where
    go : (b : Bool) → Chosen (elim b as (λ _. List (ℕ × Choice)) [ true ↦ es | false ↦ es ++ ((r, c) ∷ []) ])
    go true = h
    go false = chosen_append es r c h l

decide_row : (w : Option (ℕ × List ℕ)) (u : Option ℕ) (es : List (ℕ × Choice)) → Wanted w → Unwanted u → Chosen es → Chosen (decide w u es)
decide_row none none es a b c = c
decide_row none (some u) es a b c = add_row u unwanted es b c
decide_row (some w) none es a b c = add_row w.0 (wanted w.1) es a c
decide_row (some w) (some u) es a b c = go (ltb u w.0)
  where
    go : (x : Bool) → Chosen (elim x as (λ _. List (ℕ × Choice)) [ true ↦ add u unwanted es | false ↦ add w.0 (wanted w.1) es ])
    go true = add_row u unwanted es b c
    go false = add_row w.0 (wanted w.1) es a c

choose_keeps : (s : State) → Keeps s (choose s)
choose_keeps s i = record { wants = tt; unwants = tt; chose = decide_row s.want s.unwant s.chosen i.wants i.unwants i.chose; wrote = i.wrote }

trivia_writes : (r : List ℕ) (o : List Event) → Written o → Written (trivia_out r o)
trivia_writes [] o h = h
trivia_writes (i ∷ is) o h = go (trivial i) (trivia_writes is (leaf i (suc (length is)) ∷ o) h)
  where
    go : (b : Bool) → Written (trivia_out is (leaf i (suc (length is)) ∷ o)) → Written (elim b as (λ _. List Event) [ true ↦ trivia_out is (leaf i (suc (length is)) ∷ o) | false ↦ o ])
    go true g = g
    go false g = h

gap_writes : (m : Mode) (r : List ℕ) (o : List Event) → Written o → Written (gap_out m r o)
gap_writes ok r o h = trivia_writes r o h
gap_writes failed r o h = h
gap_writes (stopped w) r o h = h

seek_writes : (S r : List ℕ) (o : List Event) → Written o → Written (seek_out S r o)
seek_writes S [] o h = h
seek_writes S (i ∷ is) o h = go (past (next S (i ∷ is))) (seek_writes S is (leaf (kind_of i) (suc (length is)) ∷ o) h)
  where
    go : (b : Bool) → Written (seek_out S is (leaf (kind_of i) (suc (length is)) ∷ o)) → Written (elim b as (λ _. List Event) [ true ↦ o | false ↦ seek_out S is (leaf (kind_of i) (suc (length is)) ∷ o) ])
    go true g = h
    go false g = g

unexpected_row : (S : List ℕ) (s : State) (a : ℕ) (is : List ℕ) → next S s.rest ≡ hit a is → 1 ≤ length (skip s.rest)
unexpected_row S s a is h = let q = sought_hit S (skip s.rest) a is h in omega (arith, ap length q.1)

begin_keeps : (d : ℕ) (s : State) → Keeps s (begin d s)
begin_keeps d s =
    let c = charge_same 0 d s.fuel (trivia s) in
    alike s (begin d s) c.0 c.1 c.2 (λ h. subst Written (sym c.3) (gap_writes s.mode s.rest s.out h))

finish_keeps : (o : Bool) (a n : ℕ) (s : State) → Keeps s (finish o a n s)
finish_keeps o a n s = go o s.mode s
  where
    go : (o : Bool) (m : Mode) (s : State) → Keeps (turn m s) (finish o a n (turn m s))
    go o ok s i = record { wants = i.wants; unwants = i.unwants; chose = i.chose; wrote = i.wrote }
    go true failed s i = record { wants = i.wants; unwants = i.unwants; chose = i.chose; wrote = i.wrote }
    go true (stopped w) s i = record { wants = i.wants; unwants = i.unwants; chose = i.chose; wrote = i.wrote }
    go false failed s i = let j = choose_keeps (turn failed s) i in record { wants = tt; unwants = tt; chose = j.chose; wrote = i.wrote }
    go false (stopped w) s i = let j = choose_keeps (turn (stopped w) s) i in record { wants = tt; unwants = tt; chose = j.chose; wrote = i.wrote }

keeping : StepsIf nameable Keeps
keeping = record {
  same = λ s i. i;
  trans = λ s t u p q i. q (p i);
  at_turn = λ m s r. alike s (turn m s) refl refl refl (λ h. h);
  at_expected = λ ns t s i. record { wants = further_names (length (skip s.rest)) ns s.want t i.wants; unwants = i.unwants; chose = i.chose; wrote = i.wrote };
  at_unexpected = λ S s a is h i. record { wants = i.wants; unwants = furthest_row (length (skip s.rest)) s.unwant (unexpected_row S s a is h) i.unwants; chose = i.chose; wrote = i.wrote };
  at_choose = choose_keeps;
  at_keep = λ r a s. alike s _ refl refl refl (λ h. h);
  at_trivia = λ s. alike s (trivia s) refl refl refl (gap_writes s.mode s.rest s.out);
  at_take = λ S s a is m e. alike s _ refl refl refl (gap_writes s.mode s.rest s.out);
  at_skip = λ S s. alike s (skip_to S s) refl refl refl (seek_writes S s.rest s.out);
  at_back = λ s t p i. let j = p i in record { wants = j.wants; unwants = j.unwants; chose = j.chose; wrote = i.wrote };
  at_node = λ d o a f F s i. finish_keeps o a (length (begin d s).rest) (f (begin d s)) (F (begin d s) (begin_keeps d s i));
}

reads_keeps : (L : Limits) (a : ℕ) (s : State) → Keeps s (read_item L (item_of a) s)
unfolding read_item
reads_keeps L a s =
    exec_kept_if (stepped_if Keeps keeping) L.depth (run L.entrypoint L.depth) (run_kept_if (stepped_if Keeps keeping) L.entrypoint (grammar_names L.entrypoint) L.depth) (item_of a) (item_names a) false s

stray_keeps : (s : State) → Keeps s (stray_item s)
stray_keeps s = alike s (stray_item s) refl refl refl (λ h. seek_writes rule_keywords s.rest (opened (length s.rest) ∷ bad (length s.rest) stray ∷ s.out) (tt, h))

errors_write : (c : List (ℕ × Choice)) (o : List Event) → Chosen c → Written o → Written (errors c o)
errors_write [] o h g = g
errors_write (e ∷ c) o h g = errors_write c (bad e.0 e.1 ∷ o) h.1 (h.0, g)

flush_keeps : (u : State) → Keeps u (again (flush u))
flush_keeps u = go u.mode u
  where
    go : (m : Mode) (u : State) → Keeps (turn m u) (again (flush (turn m u)))
    go ok u i = record { wants = tt; unwants = tt; chose = tt; wrote = errors_write u.chosen u.out i.chose i.wrote }
    go failed u i = record { wants = tt; unwants = tt; chose = tt; wrote = errors_write u.chosen u.out i.chose i.wrote }
    go (stopped w) u i = record { wants = tt; unwants = tt; chose = tt; wrote = errors_write u.chosen u.out i.chose i.wrote }

item_keeps : (L : Limits) (s : State) → Keeps s (item L s)
item_keeps L s i = let x : Next = sought item_keywords (trivia s).rest in flush_keeps (item_at L x (trivia s)) (at x (trivia s) (keeping.at_trivia s i))
  where
    at : (x : Next) (t : State) → Keeps t (item_at L x t)
    at end t i = i
    at other t i = stray_keeps t i
    at (hit a is) t i = reads_keeps L a t i

items_keep : (L : Limits) (n : ℕ) (s : State) → Keeps s (items L n s)
items_keep L zero s = λ i. i
items_keep L (suc n) s = go s.rest s.mode s (items_keep L n)
  where
    go : (r : List ℕ) (o : Mode) (s : State) → ((u : State) → Keeps u (items L n u)) → let t : State = turn o (put r s.out s) in Keeps t (items L (suc n) t)
    go [] o s H i = i
    go (j ∷ js) failed s H i = i
    go (j ∷ js) (stopped w) s H i = i
    go (j ∷ js) ok s H i = let t : State = turn ok (put (j ∷ js) s.out s) in H (item L t) (item_keeps L t i)

pub read_rowed : (L : Limits) (r : List ℕ) (f : ℕ) → Written (read L r f).out
read_rowed L r f = (items_keep L (length r) (start r f) (record { wants = tt; unwants = tt; chose = tt; wrote = tt })).wrote

-- a row's text

pub tile_rises : (q z : ℕ) (ss es : List ℕ) → T (tile q z ss es) → (i : ℕ) → i < length es → get_or (q ∷ es) i z < get_or es i z
tile_rises q z ss [] t i l = absurd (omega (arith, l))
tile_rises q z [] (e ∷ es) t i l = absurd t
tile_rises q z (s ∷ ss) (e ∷ es) t zero l =
    let u = and_left (eqb s q && ltb s e) (tile e z ss es) t in
    omega (arith, eqb→eq s q (and_left (eqb s q) (ltb s e) u), ltb→lt s e (and_right (eqb s q) (ltb s e) u))
tile_rises q z (s ∷ ss) (e ∷ es) t (suc i) l = tile_rises e z ss es (and_right (eqb s q && ltb s e) (tile e z ss es) t) i (omega (arith, l))

pub tile_within : (q z : ℕ) (ss es : List ℕ) → T (tile q z ss es) → (i : ℕ) → i < length es → get_or es i z ≤ z
tile_within q z ss [] t i l = absurd (omega (arith, l))
tile_within q z [] (e ∷ es) t i l = absurd t
tile_within q z (s ∷ ss) (e ∷ []) t zero l = last e z ss (and_right (eqb s q && ltb s e) (tile e z ss []) t)
  where
    last : (e z : ℕ) (ss : List ℕ) → T (tile e z ss []) → e ≤ z
    last e z [] t = omega (arith, eqb→eq e z t)
    last e z (s ∷ ss) t = absurd t
tile_within q z (s ∷ ss) (e ∷ f ∷ es) t zero l =
    let u = and_right (eqb s q && ltb s e) (tile e z ss (f ∷ es)) t in
    omega (arith, tile_rises e z ss (f ∷ es) u zero (omega arith), tile_within e z ss (f ∷ es) u zero (omega arith))
tile_within q z (s ∷ ss) (e ∷ es) t (suc i) l = tile_within e z ss es (and_right (eqb s q && ltb s e) (tile e z ss es) t) i (omega (arith, l))

text_there : (d : Desk) → Rows d → (n : ℕ) → 1 ≤ n → n ≤ length d.ids → text_at (source_of d) n ≡ [] → ⊥
text_there d r n l h e =
    let i : ℕ = length d.ids - n in
    let z : ℕ = length d.bytes in
    let k : i < length d.ends = omega (arith, l, h, r.ends_level) in
    let a = tile_rises 0 z d.starts d.ends r.tiled i k in
    let b = tile_within 0 z d.starts d.ends r.tiled i k in
    let from : ℕ = get_or (0 ∷ d.ends) i z in
    let size : ℕ = get_or d.ends i z - from in
    omega (arith, a, b, ap length e, length-take size (drop from d.bytes), length-drop from d.bytes)

-- forms

found_no_5 : (L : Limits) (t : List ℕ) → form_found L t ≡ 5 → ⊥
found_no_5 L [] e = omega (arith, e)
found_no_5 L (b ∷ bs) e = go (ltb L.quote (suc (length bs))) e
  where
    go : (x : Bool) → ◌≡◌ {A = ℕ} (elim x as (λ _. ℕ) [ true ↦ 2 | false ↦ 1 ]) 5 → ⊥
    go true e = omega (arith, e)
    go false e = omega (arith, e)

slash_no_5 : (t : List ℕ) → form_slash t ≡ 5 → ⊥
slash_no_5 [] e = omega (arith, e)
slash_no_5 (b ∷ bs) e = go (eqb b 42) e
  where
    go : (x : Bool) → ◌≡◌ {A = ℕ} (elim x as (λ _. ℕ) [ true ↦ 6 | false ↦ 8 ]) 5 → ⊥
    go true e = omega (arith, e)
    go false e = omega (arith, e)

unknown_no_5 : (L : Limits) (t : List ℕ) → form_unknown L t ≡ 5 → ⊥
unknown_no_5 L [] e = found_no_5 L [] e
unknown_no_5 L (b ∷ bs) e = go (eqb b 47) (eqb b 34) e
  where
    go : (x y : Bool) → ◌≡◌ {A = ℕ} (elim x as (λ _. ℕ) [ true ↦ form_slash bs | false ↦ elim y as (λ _. ℕ) [ true ↦ 7 | false ↦ form_found L (b ∷ bs) ] ]) 5 → ⊥
    go true y e = slash_no_5 bs e
    go false true e = omega (arith, e)
    go false false e = found_no_5 L (b ∷ bs) e

form_no_5 : (L : Limits) (i : ℕ) (t : List ℕ) (c : Choice) → (c ≡ unwanted → t ≡ [] → ⊥) → form_of L i t c ≡ 5 → ⊥
form_no_5 L i t stray h e = omega (arith, e)
form_no_5 L i t (wanted ns) h e = go (utf8 t) (eqb i kinds.UNKNOWN) e
  where
    go : (x y : Bool) → ◌≡◌ {A = ℕ} (elim x as (λ _. ℕ) [ true ↦ elim y as (λ _. ℕ) [ true ↦ form_unknown L t | false ↦ form_found L t ] | false ↦ 9 ]) 5 → ⊥
    go true true e = unknown_no_5 L t e
    go true false e = found_no_5 L t e
    go false y e = omega (arith, e)
form_no_5 L i t unwanted h e = go t (utf8 t) (h refl) e
  where
    go : (t : List ℕ) (x : Bool) → (t ≡ [] → ⊥) → ◌≡◌ {A = ℕ} (elim x as (λ _. ℕ) [ true ↦ form_unwanted t | false ↦ 9 ]) 5 → ⊥
    go t false h e = omega (arith, e)
    go [] true h e = h refl
    go (b ∷ bs) true h e = omega (arith, e)

abbrev pub No5 : List Rec → Type 0
No5 [] = Unit
No5 (r ∷ rs) = (r.2 ≡ 5 → ⊥) × No5 rs

records_no_5 : (L : Limits) (d : Desk) → Rows d → (o : List Event) (l : List Rec) → Written o → Ins (length d.ids) o → No5 l → No5 (records L (source_of d) o l)
records_no_5 L d r [] l w i h = h
records_no_5 L d r (opened n ∷ o) l w i h = records_no_5 L d r o l w i.1 h
records_no_5 L d r (leaf a n ∷ o) l w i h = records_no_5 L d r o l w i.1 h
records_no_5 L d r (closed a n m ∷ o) l w i h = records_no_5 L d r o l w i.1 h
records_no_5 L d r (bad n c ∷ o) l w i h =
    let x : Source = source_of d in
    records_no_5 L d r o (record_of L x n c ∷ l) w.1 i.1 (form_no_5 L (id_at x n) (text_at x n) c (row c w.0), h)
  where
    row : (c : Choice) → Row n c → c ≡ unwanted → text_at (source_of d) n ≡ [] → ⊥
    row unwanted k e z = text_there d r n k i.0 z
    row (wanted ns) k e z = never cc
    row stray k e z = never cc

-- THE THEOREM: no error record has form 5
pub form_5_never : (L : Limits) (d : Desk) (R : Reading) → answer L d ≡ given R → No5 R.errors
form_5_never L d R e =
    let g = given_is L d R e in
    subst No5 (sym (ap (λ (r : Reading). r.errors) g.whole)) (records_no_5 L d (rows_of d g.unrefused).0 (read L d.ids d.fuel).out [] (read_rowed L d.ids d.fuel) (read_tidy L d.ids d.fuel).0 tt)
