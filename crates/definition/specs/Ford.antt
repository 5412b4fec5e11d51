-- Acceptance: "For acceptance PEG over the module's productions decides". Ford, "Parsing Expression Grammars" (POPL 2004), section 3: parsing
-- expressions and the relation (e, x) ⇒ (n, o), rule by rule. The outcome o is failure, or the input that is left (Ford writes the part that was
-- consumed). The grammar R gives each nonterminal its expression. Terminals are token ids.
use Rattle.std.specs.Prelude.{ℕ, suc, ◌+◌, ◌≡◌, List, [], ◌∷◌, Bool, true, false}
use Rattle.kinds.specs.Sets.{id_of, trivial}
use Rattle.definition.specs.Prog.{Production, RULE_DECL, IMPORT_STMT, INCLUDE_STMT, Prog, eat, unless, ifnext, opt, many, then, ◌⨟◌, ◌⫽◌, last, recover, node, memo}
use Rattle.definition.specs.Grammar.{grammar}

infixr 20 ◌·◌
infixr 15 ◌∣◌
pub data Exp : Type 0 where
  ε : Exp
  tok : ℕ → Exp
  nt : Production → Exp
  ◌·◌ ◌∣◌ : Exp → Exp → Exp
  star non : Exp → Exp

-- failure, or the rows that are left
pub data Res : Type 0 where
  no : Res
  yes : List ℕ → Res

pub data Ford (R : Production → Exp) : Exp → List ℕ → ℕ → Res → Type 0 where
  empty : {x : List ℕ} → Ford R ε x 1 (Res.yes x)
  term_yes : {a b : ℕ} {x : List ℕ} → a ≡ b → Ford R (tok a) (b ∷ x) 1 (Res.yes x)
  term_no : {a b : ℕ} {x : List ℕ} → (a ≡ b → ⊥) → Ford R (tok a) (b ∷ x) 1 Res.no
  term_end : {a : ℕ} → Ford R (tok a) [] 1 Res.no
  nonterm : {A : Production} {x : List ℕ} {n : ℕ} {o : Res} → Ford R (R A) x n o → Ford R (nt A) x (suc n) o
  seq_yes : {e₁ e₂ : Exp} {x y z : List ℕ} {n m : ℕ} → Ford R e₁ x n (Res.yes y) → Ford R e₂ y m (Res.yes z) → Ford R (e₁ · e₂) x (suc (n + m)) (Res.yes z)
  seq_no₁ : {e₁ e₂ : Exp} {x : List ℕ} {n : ℕ} → Ford R e₁ x n Res.no → Ford R (e₁ · e₂) x (suc n) Res.no
  seq_no₂ : {e₁ e₂ : Exp} {x y : List ℕ} {n m : ℕ} → Ford R e₁ x n (Res.yes y) → Ford R e₂ y m Res.no → Ford R (e₁ · e₂) x (suc (n + m)) Res.no
  choice₁ : {e₁ e₂ : Exp} {x y : List ℕ} {n : ℕ} → Ford R e₁ x n (Res.yes y) → Ford R (e₁ ∣ e₂) x (suc n) (Res.yes y)
  choice₂ : {e₁ e₂ : Exp} {x : List ℕ} {n m : ℕ} {o : Res} → Ford R e₁ x n Res.no → Ford R e₂ x m o → Ford R (e₁ ∣ e₂) x (suc (n + m)) o
  repeat : {e : Exp} {x y z : List ℕ} {n m : ℕ} → Ford R e x n (Res.yes y) → Ford R (star e) y m (Res.yes z) → Ford R (star e) x (suc (n + m)) (Res.yes z)
  rest : {e : Exp} {x : List ℕ} {n : ℕ} → Ford R e x n Res.no → Ford R (star e) x (suc n) (Res.yes x)
  non_no : {e : Exp} {x y : List ℕ} {n : ℕ} → Ford R e x n (Res.yes y) → Ford R (non e) x (suc n) Res.no
  non_yes : {e : Exp} {x : List ℕ} {n : ℕ} → Ford R e x n Res.no → Ford R (non e) x (suc n) (Res.yes x)

-- the module's combinators in Ford's: a set is a choice of tokens; "`begin`, `end` and `recover` are left out, `cached` is its part, and `if_next` is
-- its part where its token is next and nothing elsewhere", which is `&S e / !S` (proofs/Published)
abbrev pub one_of : List ℕ → Exp
one_of [] = non ε
one_of (a ∷ S) = tok (id_of a) ∣ one_of S

abbrev pub ford : Prog → Exp
ford (eat S N) = one_of S
ford (unless S) = non (one_of S)
ford (ifnext S p) = (non (non (one_of S)) · ford p) ∣ non (one_of S)
ford (opt p) = ford p ∣ ε
ford (many p) = star (ford p)
ford (then p) = ford p
ford (p ⨟ q) = ford p · ford q
ford (p ⫽ q) = ford p ∣ ford q
ford (last p) = ford p
ford (recover S) = ε
ford (node a) = nt a
ford (memo a) = nt a

-- the grammar of the editions in which entrypoint is allowed, or of those in which it is not
abbrev pub rules : Bool → Production → Exp
rules E a = ford (grammar E a)

-- the rows that are no trivia
abbrev pub strip : List ℕ → List ℕ
strip [] = []
strip (i ∷ is) = elim (trivial i) [ true ↦ strip is | false ↦ i ∷ strip is ]

-- "an accepted item may now be an import or include statement"
abbrev pub any_statement : Exp
any_statement = nt IMPORT_STMT ∣ nt INCLUDE_STMT

abbrev pub any_item : Exp
any_item = nt RULE_DECL ∣ any_statement

-- "The PEG accepts every item when the rows, trivia aside, are a run of none or more" items "from first to last."
pub data Items (E : Bool) : List ℕ → Type 0 where
  no_more : Items E []
  one_item : {r r' : List ℕ} {n : ℕ} → Ford (rules E) any_item r n (Res.yes r') → Items E r' → Items E r

abbrev pub Accepts : Bool → List ℕ → Type 0
Accepts E ids = Items E (strip ids)
