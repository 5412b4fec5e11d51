-- Parts of the grammar's lines that have a function of their own.
use Rattle.std.specs.Prelude.{ℕ, [], ◌∷◌}
use Rattle.kinds.specs.Kinds as k
use Rattle.kinds.specs.Sets.{set_of}
use Rattle.definition.specs.Prog.{Prog, EXPR, TERM, RANGE, PRIMARY_EXPR, BOOLEAN_EXPR, BOOLEAN_TERM, FOR_EXPR, OF_EXPR, WITH_EXPR, WITH_DECL, ITERABLE, BOOLEAN_EXPR_TUPLE, eat, unless, ifnext, opt, many, then, ◌⨟◌, ◌⫽◌, last, recover, node, memo}
use Rattle.definition.specs.Grammar.{one, named, cond, at_or_in, them}
use Rattle.notes.specs.Means.{names_of}
use Rattle.expr.specs.declared.Item.{Item}
use Rattle.expr.specs.declared.Item.TheVariants.{Ident, Term, Expr, PrimaryExpr, BooleanTerm, BooleanExpr}

-- what a repetition reads behind each separator
abbrev pub item_of : Item → Prog
item_of Ident = one k.IDENT
item_of Term = then (memo TERM)
item_of Expr = then (memo EXPR)
item_of PrimaryExpr = then (node PRIMARY_EXPR)
item_of BooleanTerm = then (node BOOLEAN_TERM)
item_of BooleanExpr = then (node BOOLEAN_EXPR)

abbrev pub listed : ℕ → ℕ → Item → Prog
listed sep code i = many (eat (set_of sep) (names_of code) ⨟ item_of i)

-- the alternatives of TERM from its last on, and from its sign on
abbrev pub dotted : Prog
dotted = last (node PRIMARY_EXPR ⨟ many (named k.EXPRESSION (k.DOT ∷ []) ⨟ then (node PRIMARY_EXPR)))

abbrev pub signed : Prog
signed =
    (named k.EXPRESSION (k.MINUS ∷ []) ⨟ then (memo TERM)) ⫽ (named k.EXPRESSION (k.BITWISE_NOT ∷ []) ⨟ then (memo TERM))
    ⫽ (named k.EXPRESSION (k.L_PAREN ∷ []) ⨟ then (memo EXPR) ⨟ one k.R_PAREN) ⫽ dotted

abbrev pub in_range : Prog
in_range = cond k.IN_KW (node RANGE)

abbrev pub index : Prog
index = cond k.L_BRACKET (memo EXPR ⨟ one k.R_BRACKET)

abbrev pub args : Prog
args = opt (node BOOLEAN_EXPR ⨟ many (one k.COMMA ⨟ then (node BOOLEAN_EXPR)))

-- the last two alternatives of BOOLEAN_TERM, and the last five
abbrev pub compared : Prog
compared =
    (memo EXPR ⨟ many (named k.EXPRESSION (k.EQ ∷ k.NE ∷ k.LE ∷ k.LT ∷ k.GE ∷ k.GT ∷ k.CONTAINS_KW ∷ k.ICONTAINS_KW ∷ k.STARTSWITH_KW
    ∷ k.ISTARTSWITH_KW ∷ k.ENDSWITH_KW ∷ k.IENDSWITH_KW ∷ k.IEQUALS_KW ∷ k.MATCHES_KW ∷ []) ⨟ then (memo EXPR)))
    ⫽ last (named k.EXPRESSION (k.L_PAREN ∷ []) ⨟ then (node BOOLEAN_EXPR) ⨟ one k.R_PAREN)

abbrev pub quantified : Prog
quantified = node FOR_EXPR ⫽ node OF_EXPR ⫽ node WITH_EXPR ⫽ compared

abbrev pub place : Prog
place = ifnext (k.AT_KW ∷ k.IN_KW ∷ []) at_or_in

abbrev pub over : Prog
over = (one k.OF_KW ⨟ them) ⫽ last (one k.IDENT ⨟ many (one k.COMMA ⨟ one k.IDENT) ⨟ one k.IN_KW ⨟ node ITERABLE)

abbrev pub which : Prog
which = (them ⨟ place) ⫽ last (node BOOLEAN_EXPR_TUPLE ⨟ unless (k.AT_KW ∷ k.IN_KW ∷ []))

abbrev pub body : Prog
body = one k.COLON ⨟ one k.L_PAREN ⨟ then (node BOOLEAN_EXPR ⨟ recover (k.R_PAREN ∷ [])) ⨟ one k.R_PAREN

-- of WITH_DECLS
abbrev pub more_decls : Prog
more_decls = many (one k.COMMA ⨟ node WITH_DECL)
