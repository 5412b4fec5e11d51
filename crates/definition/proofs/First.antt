-- Which programs fail where the next row is not of a set: a test over the syntax, productions unrolled to a depth.
use Prim.Native.Nat.{ℕ, zero, suc}
use mathlib.Core.Path.{◌≡◌, sym, subst}
use mathlib.Core.List.{List, [], ◌∷◌}
use mathlib.Core.Bool.{Bool, true, false, ◌&&◌, not}
use mathlib.Core.Option.{Option, none, some}
use lib.Dec.{T, eqb, eqb→eq}
use Rattle.kinds.specs.Sets.{id_of, pick}
use Rattle.definition.specs.Prog.{Production, Prog, eat, unless, ifnext, opt, many, then, ◌⨟◌, ◌⫽◌, last, recover, node, memo}
use Rattle.definition.specs.Grammar.{grammar}
use Rattle.definition.specs.Run.{Next, other, hit, sought}
use Rattle.definition.specs.Ford.{Res}
use Rattle.definition.proofs.Peg.{Miss, Peg, eat_no, ifnext_miss, opt_no, then_is, seq_yes, seq_no, alt_no, last_is, recover_is, node_is}
use Rattle.definition.proofs.Every.{and_left, and_right, clash}

abbrev there : Option ℕ → Bool
there none = false
there (some a) = true

-- every row that S' takes, S takes
abbrev pub sub : List ℕ → List ℕ → Bool
sub [] S = true
sub (a ∷ S') S = there (pick S (id_of a)) && sub S' S

pub sub_miss : (S' S r : List ℕ) → T (sub S' S) → Miss (sought S r) → Miss (sought S' r)
sub_miss S' S [] t m = tt
sub_miss S' S (i ∷ is) t m = close (pick S' i) (none_too S' t (open' (pick S i) m))
  where
    open' : (x : Option ℕ) → Miss (elim x as (λ _. Next) [ none ↦ other | some b ↦ hit b is ]) → T (not (there x))
    open' none m = tt
    open' (some b) m = m

    close : (x : Option ℕ) → T (not (there x)) → Miss (elim x as (λ _. Next) [ none ↦ other | some b ↦ hit b is ])
    close none m = tt
    close (some b) m = m

    none_too : (L : List ℕ) → T (sub L S) → T (not (there (pick S i))) → T (not (there (pick L i)))
    none_too [] t n = tt
    none_too (a ∷ L) t n = at (eqb i (id_of a)) (eqb→eq i (id_of a)) (none_too L (and_right (there (pick S (id_of a))) (sub L S) t) n)
      where
        at : (b : Bool) → (T b → i ≡ id_of a) → T (not (there (pick L i))) → T (not (there (elim b as (λ _. Option ℕ) [ true ↦ some a | false ↦ pick L i ])))
        at true e h = clash (there (pick S i)) n (subst (λ (j : ℕ). T (there (pick S j))) (sym (e tt)) (and_left (there (pick S (id_of a))) (sub L S) t))
        at false e h = h

-- it fails; or it takes nothing and goes on
pub data Fate : Type 0 where
  dead same open-ended : Fate

abbrev first_of : Fate → Fate → Fate
first_of dead y = dead
first_of same y = y
first_of open-ended y = open-ended

abbrev else_of : Fate → Fate → Fate
else_of dead y = y
else_of same y = same
else_of open-ended y = open-ended

abbrev tried : Fate → Fate
tried dead = same
tried same = open-ended
tried open-ended = open-ended

abbrev if_sub : Bool → Fate → Fate
if_sub true x = x
if_sub false x = open-ended

abbrev pub fate : (List ℕ → Production → Fate) → List ℕ → Prog → Fate
fate c S (eat S' N) = if_sub (sub S' S) dead
fate c S (unless S') = open-ended
fate c S (ifnext S' p) = if_sub (sub S' S) same
fate c S (opt p) = tried (fate c S p)
fate c S (many p) = open-ended
fate c S (then p) = fate c S p
fate c S (p ⨟ q) = first_of (fate c S p) (fate c S q)
fate c S (p ⫽ q) = else_of (fate c S p) (fate c S q)
fate c S (last p) = fate c S p
fate c S (recover S') = same
fate c S (node a) = c S a
fate c S (memo a) = open-ended

abbrev pub fate_of : (E : Bool) → ℕ → List ℕ → Production → Fate
fate_of E zero S a = open-ended
fate_of E (suc n) S a = fate (λ S b. fate_of E n S b) S (grammar E a)

abbrev pub Meets : (E : Bool) → Fate → Prog → List ℕ → Type 0
Meets E dead p r = Peg E p r Res.no
Meets E same p r = Peg E p r (Res.yes r)
Meets E open-ended p r = Unit

module _ (E : Bool) (S r : List ℕ) (m : Miss (sought S r)) where
  meets_sub : (S' N : List ℕ) (b : Bool) → (T b → Miss (sought S' r)) → Meets E (if_sub b dead) (eat S' N) r
  meets_sub S' N true h = eat_no (h tt)
  meets_sub S' N false h = tt

  meets_if : (S' : List ℕ) (p : Prog) (b : Bool) → (T b → Miss (sought S' r)) → Meets E (if_sub b same) (ifnext S' p) r
  meets_if S' p true h = ifnext_miss (h tt)
  meets_if S' p false h = tt

  meets_opt : (p : Prog) (x : Fate) → Meets E x p r → Meets E (tried x) (opt p) r
  meets_opt p dead d = opt_no d
  meets_opt p same d = tt
  meets_opt p open-ended d = tt

  meets_then : (p : Prog) (x : Fate) → Meets E x p r → Meets E x (then p) r
  meets_then p dead d = then_is d
  meets_then p same d = then_is d
  meets_then p open-ended d = tt

  meets_last : (p : Prog) (x : Fate) → Meets E x p r → Meets E x (last p) r
  meets_last p dead d = last_is d
  meets_last p same d = last_is d
  meets_last p open-ended d = tt

  meets_node : (a : Production) (x : Fate) → Meets E x (grammar E a) r → Meets E x (node a) r
  meets_node a dead d = node_is d
  meets_node a same d = node_is d
  meets_node a open-ended d = tt

  meets_seq : (p q : Prog) (x y : Fate) → Meets E x p r → Meets E y q r → Meets E (first_of x y) (p ⨟ q) r
  meets_seq p q dead y d e = seq_no d
  meets_seq p q same dead d e = seq_yes d e
  meets_seq p q same same d e = seq_yes d e
  meets_seq p q same open-ended d e = tt
  meets_seq p q open-ended y d e = tt

  meets_alt : (p q : Prog) (x y : Fate) → Meets E x p r → Meets E y q r → Meets E (else_of x y) (p ⫽ q) r
  meets_alt p q dead dead d e = alt_no d e
  meets_alt p q dead same d e = alt_no d e
  meets_alt p q dead open-ended d e = tt
  meets_alt p q same y d e = Rattle.definition.proofs.Peg.alt_yes d
  meets_alt p q open-ended y d e = tt

  fate_meets : (c : List ℕ → Production → Fate) → ((a : Production) → Meets E (c S a) (node a) r) → (p : Prog) → Meets E (fate c S p) p r
  fate_meets c h (eat S' N) = meets_sub S' N (sub S' S) (λ t. sub_miss S' S r t m)
  fate_meets c h (unless S') = tt
  fate_meets c h (ifnext S' p) = meets_if S' p (sub S' S) (λ t. sub_miss S' S r t m)
  fate_meets c h (opt p) = meets_opt p (fate c S p) (fate_meets c h p)
  fate_meets c h (many p) = tt
  fate_meets c h (then p) = meets_then p (fate c S p) (fate_meets c h p)
  fate_meets c h (p ⨟ q) = meets_seq p q (fate c S p) (fate c S q) (fate_meets c h p) (fate_meets c h q)
  fate_meets c h (p ⫽ q) = meets_alt p q (fate c S p) (fate c S q) (fate_meets c h p) (fate_meets c h q)
  fate_meets c h (last p) = meets_last p (fate c S p) (fate_meets c h p)
  fate_meets c h (recover S') = recover_is
  fate_meets c h (node a) = h a
  fate_meets c h (memo a) = tt

  fate_of_meets : (n : ℕ) (a : Production) → Meets E (fate_of E n S a) (node a) r
  fate_of_meets zero a = tt
  fate_of_meets (suc n) a = meets_node a (fate_of E (suc n) S a) (fate_meets (fate_of E n) (fate_of_meets n) (grammar E a))

-- where the next row is not of S, p fails
abbrev is_dead : Fate → Bool
is_dead dead = true
is_dead same = false
is_dead open-ended = false

abbrev pub dies : (E : Bool) → List ℕ → Prog → Bool
dies E S p = is_dead (fate (fate_of E 3) S p)

pub dies_no : {E : Bool} (S r : List ℕ) (p : Prog) → T (dies E S p) → Miss (sought S r) → Peg E p r Res.no
dies_no {E} S r p t m = go (fate (fate_of E 3) S p) t (fate_meets E S r m (fate_of E 3) (fate_of_meets E S r m 3) p)
  where
    go : (x : Fate) → T (is_dead x) → Meets E x p r → Peg E p r Res.no
    go dead t d = d
    go same t d = absurd t
    go open-ended t d = absurd t
