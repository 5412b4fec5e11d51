-- Document 01's reading of the module's combinators, in one relation: "there `begin`, `end` and `recover` are left out, `cached` is its part, and
-- `if_next` is its part where its token is next and nothing elsewhere". A tool: the proofs go by the combinators, and proofs/Published has that it is
-- Ford's relation on the translated grammar, by which acceptance is stated. E says whether entrypoint is allowed.
use Prim.Native.Nat.{ℕ}
use mathlib.Core.Path.{◌≡◌}
use mathlib.Core.List.{List}
use mathlib.Core.Bool.{Bool}
use Rattle.definition.specs.Prog.{Production, Prog, eat, unless, ifnext, opt, many, then, ◌⨟◌, ◌⫽◌, last, recover, node, memo}
use Rattle.definition.specs.Grammar.{grammar}
use Rattle.definition.specs.Run.{Next, end, other, hit, sought}
use Rattle.definition.specs.Ford.{Res}

-- the next row is not in the set, or there is none
abbrev pub Miss : Next → Type 0
Miss end = Unit
Miss other = Unit
Miss (hit a is) = ⊥

pub data Peg (E : Bool) : Prog → List ℕ → Res → Type 0 where
  eat_yes : {S N r : List ℕ} (a : ℕ) {is : List ℕ} → sought S r ≡ hit a is → Peg E (eat S N) r (Res.yes is)
  eat_no : {S N r : List ℕ} → Miss (sought S r) → Peg E (eat S N) r Res.no
  unless_yes : {S r : List ℕ} → Miss (sought S r) → Peg E (unless S) r (Res.yes r)
  unless_no : {S r : List ℕ} (a : ℕ) (is : List ℕ) → sought S r ≡ hit a is → Peg E (unless S) r Res.no
  ifnext_hit : {S r : List ℕ} {p : Prog} {x : Res} (a : ℕ) (is : List ℕ) → sought S r ≡ hit a is → Peg E p r x → Peg E (ifnext S p) r x
  ifnext_miss : {S r : List ℕ} {p : Prog} → Miss (sought S r) → Peg E (ifnext S p) r (Res.yes r)
  opt_yes : {p : Prog} {r r' : List ℕ} → Peg E p r (Res.yes r') → Peg E (opt p) r (Res.yes r')
  opt_no : {p : Prog} {r : List ℕ} → Peg E p r Res.no → Peg E (opt p) r (Res.yes r)
  many_yes : {p : Prog} {r r' : List ℕ} {x : Res} → Peg E p r (Res.yes r') → Peg E (many p) r' x → Peg E (many p) r x
  many_no : {p : Prog} {r : List ℕ} → Peg E p r Res.no → Peg E (many p) r (Res.yes r)
  then_is : {p : Prog} {r : List ℕ} {x : Res} → Peg E p r x → Peg E (then p) r x
  seq_yes : {p q : Prog} {r r' : List ℕ} {x : Res} → Peg E p r (Res.yes r') → Peg E q r' x → Peg E (p ⨟ q) r x
  seq_no : {p q : Prog} {r : List ℕ} → Peg E p r Res.no → Peg E (p ⨟ q) r Res.no
  alt_yes : {p q : Prog} {r r' : List ℕ} → Peg E p r (Res.yes r') → Peg E (p ⫽ q) r (Res.yes r')
  alt_no : {p q : Prog} {r : List ℕ} {x : Res} → Peg E p r Res.no → Peg E q r x → Peg E (p ⫽ q) r x
  last_is : {p : Prog} {r : List ℕ} {x : Res} → Peg E p r x → Peg E (last p) r x
  recover_is : {S r : List ℕ} → Peg E (recover S) r (Res.yes r)
  node_is : {a : Production} {r : List ℕ} {x : Res} → Peg E (grammar E a) r x → Peg E (node a) r x
  memo_is : {a : Production} {r : List ℕ} {x : Res} → Peg E (grammar E a) r x → Peg E (memo a) r x
