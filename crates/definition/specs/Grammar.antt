-- The module's productions, from rule_decl down to pattern_ident_tuple, in its order, then its two statements ("for events, errors and fuel the module decides").
use Rattle.std.specs.Prelude.{ℕ, List, [], ◌∷◌, map, Bool, true, false, eqb}
use Rattle.kinds.specs.Kinds as k
use Rattle.kinds.specs.Sets.{id_of}
use Rattle.definition.specs.Prog.{Production, RULE_DECL, RULE_MODS, RULE_TAGS, META_BLK, META_DEF, PATTERNS_BLK, PATTERN_DEF, PATTERN_MODS, PATTERN_MOD, HEX_PATTERN, HEX_SUB_PATTERN, HEX_ALTERNATIVE, HEX_JUMP, CONDITION_BLK, BOOLEAN_EXPR, BOOLEAN_TERM, EXPR, FUNC_CALL, RANGE, TERM, PRIMARY_EXPR, FOR_EXPR, OF_EXPR, WITH_EXPR, WITH_DECLS, WITH_DECL, QUANTIFIER, ITERABLE, BOOLEAN_EXPR_TUPLE, EXPR_TUPLE, PATTERN_IDENT_TUPLE, IMPORT_STMT, INCLUDE_STMT, Prog, eat, unless, ifnext, opt, many, then, ◌⨟◌, ◌⫽◌, last, recover, node, memo}

-- the forms that the module writes: `expect` of a set, and of one kind; `expect_d`; one_or_more; `cond`. Its `alt` is written p / q / last r
abbrev pub set : List ℕ → Prog
set S = eat S (map id_of S)

abbrev pub one : ℕ → Prog
one a = eat (a ∷ []) (id_of a ∷ [])

abbrev pub named : ℕ → List ℕ → Prog
named d S = eat S (d ∷ [])

abbrev pub some : Prog → Prog
some p = then p ⨟ many p

abbrev pub cond : ℕ → Prog → Prog
cond a p = ifnext (a ∷ []) (one a ⨟ then p)

abbrev pub at_or_in : Prog
at_or_in = (one k.AT_KW ⨟ then (memo EXPR)) ⫽ last (one k.IN_KW ⨟ then (node RANGE))

abbrev pub them : Prog
them = one k.THEM_KW ⫽ last (node PATTERN_IDENT_TUPLE)

abbrev pub hex_unit : Prog
hex_unit = one k.HEX_BYTE ⫽ last (node HEX_ALTERNATIVE)

-- one or more p between parentheses, a row of kind a between each two
abbrev pub tuple : ℕ → Prog → Prog
tuple a p = one k.L_PAREN ⨟ then p ⨟ many (one a ⨟ then p) ⨟ one k.R_PAREN

-- an item that begins with a rule keyword
abbrev pub rule_decl : Prog
rule_decl = node RULE_DECL ⨟ recover (k.GLOBAL_KW ∷ k.PRIVATE_KW ∷ k.RULE_KW ∷ k.IMPORT_KW ∷ k.INCLUDE_KW ∷ [])

-- an item by the kind of its first row: an import or an include, "with their nodes, fuel and recovery", behind which the module has none; else a rule
abbrev pub item_of : ℕ → Prog
item_of a =
    elim (eqb a k.IMPORT_KW) [
      | true ↦ node IMPORT_STMT
      | false ↦ elim (eqb a k.INCLUDE_KW) [ true ↦ node INCLUDE_STMT | false ↦ rule_decl ]
    ]

-- the rows that are a term by themselves: "From a settings edition that turns it off .. ENTRYPOINT_KW no longer begins a term."
abbrev pub plain_terms : Bool → List ℕ
plain_terms true = k.FLOAT_LIT ∷ k.INTEGER_LIT ∷ k.STRING_LIT ∷ k.REGEXP ∷ k.FILESIZE_KW ∷ k.ENTRYPOINT_KW ∷ []
plain_terms false = k.FLOAT_LIT ∷ k.INTEGER_LIT ∷ k.STRING_LIT ∷ k.REGEXP ∷ k.FILESIZE_KW ∷ []

-- the productions, where E says whether entrypoint is allowed; shut, so that no tactic computes with it unasked
unfoldable pub grammar : Bool → Production → Prog
grammar E RULE_DECL =
    opt (node RULE_MODS) ⨟ one k.RULE_KW ⨟ one k.IDENT
    ⨟ ifnext (k.COLON ∷ []) (node RULE_TAGS ⨟ recover (k.L_BRACE ∷ [])) ⨟ one k.L_BRACE
    ⨟ ifnext (k.META_KW ∷ []) (node META_BLK ⨟ recover (k.STRINGS_KW ∷ k.CONDITION_KW ∷ []))
    ⨟ ifnext (k.STRINGS_KW ∷ []) (node PATTERNS_BLK ⨟ recover (k.CONDITION_KW ∷ []))
    ⨟ then (node CONDITION_BLK ⨟ recover (k.R_BRACE ∷ [])) ⨟ one k.R_BRACE
grammar E RULE_MODS = (one k.PRIVATE_KW ⨟ opt (one k.GLOBAL_KW)) ⫽ last (one k.GLOBAL_KW ⨟ opt (one k.PRIVATE_KW))
grammar E RULE_TAGS = one k.COLON ⨟ some (one k.IDENT)
grammar E META_BLK = one k.META_KW ⨟ one k.COLON ⨟ some (node META_DEF)
grammar E META_DEF =
    one k.IDENT ⨟ one k.EQUAL
    ⨟ ((opt (one k.MINUS) ⨟ set (k.INTEGER_LIT ∷ k.FLOAT_LIT ∷ [])) ⫽ last (set (k.STRING_LIT ∷ k.TRUE_KW ∷ k.FALSE_KW ∷ [])))
grammar E PATTERNS_BLK = one k.STRINGS_KW ⨟ one k.COLON ⨟ some (node PATTERN_DEF)
grammar E PATTERN_DEF =
    one k.PATTERN_IDENT ⨟ one k.EQUAL ⨟ (one k.STRING_LIT ⫽ one k.REGEXP ⫽ last (node HEX_PATTERN)) ⨟ opt (node PATTERN_MODS)
grammar E PATTERN_MODS = some (node PATTERN_MOD)
grammar E PATTERN_MOD =
    named k.MODIFIER (k.ASCII_KW ∷ k.WIDE_KW ∷ k.NOCASE_KW ∷ k.PRIVATE_KW ∷ k.FULLWORD_KW ∷ [])
    ⫽ (named k.MODIFIER (k.BASE64_KW ∷ k.BASE64WIDE_KW ∷ []) ⨟ cond k.L_PAREN (one k.STRING_LIT ⨟ one k.R_PAREN))
    ⫽ last (named k.MODIFIER (k.XOR_KW ∷ [])
    ⨟ cond k.L_PAREN (one k.INTEGER_LIT ⨟ cond k.HYPHEN (one k.INTEGER_LIT) ⨟ one k.R_PAREN))
grammar E HEX_PATTERN = one k.L_BRACE ⨟ then (node HEX_SUB_PATTERN) ⨟ one k.R_BRACE
grammar E HEX_SUB_PATTERN = hex_unit ⨟ many (many (node HEX_JUMP) ⨟ hex_unit)
grammar E HEX_ALTERNATIVE = tuple k.PIPE (node HEX_SUB_PATTERN)
grammar E HEX_JUMP =
    one k.L_BRACKET
    ⨟ ((opt (one k.INTEGER_LIT) ⨟ one k.HYPHEN ⨟ opt (one k.INTEGER_LIT)) ⫽ last (one k.INTEGER_LIT)) ⨟ one k.R_BRACKET
grammar E CONDITION_BLK = one k.CONDITION_KW ⨟ one k.COLON ⨟ then (node BOOLEAN_EXPR ⨟ recover (k.R_BRACE ∷ []))
grammar E BOOLEAN_EXPR =
    then (node BOOLEAN_TERM) ⨟ many (named k.OPERATOR (k.AND_KW ∷ k.OR_KW ∷ []) ⨟ then (node BOOLEAN_TERM))
grammar E BOOLEAN_TERM =
    (named k.EXPRESSION (k.PATTERN_IDENT ∷ []) ⨟ ifnext (k.AT_KW ∷ k.IN_KW ∷ []) at_or_in)
    ⫽ named k.EXPRESSION (k.TRUE_KW ∷ k.FALSE_KW ∷ [])
    ⫽ (named k.EXPRESSION (k.NOT_KW ∷ k.DEFINED_KW ∷ []) ⨟ then (node BOOLEAN_TERM))
    ⫽ node FOR_EXPR ⫽ node OF_EXPR ⫽ node WITH_EXPR
    ⫽ (memo EXPR ⨟ many (named k.EXPRESSION (k.EQ ∷ k.NE ∷ k.LE ∷ k.LT ∷ k.GE ∷ k.GT ∷ k.CONTAINS_KW ∷ k.ICONTAINS_KW ∷ k.STARTSWITH_KW
    ∷ k.ISTARTSWITH_KW ∷ k.ENDSWITH_KW ∷ k.IENDSWITH_KW ∷ k.IEQUALS_KW ∷ k.MATCHES_KW ∷ []) ⨟ then (memo EXPR)))
    ⫽ last (named k.EXPRESSION (k.L_PAREN ∷ []) ⨟ then (node BOOLEAN_EXPR) ⨟ one k.R_PAREN)
grammar E EXPR =
    then (memo TERM)
    ⨟ many (named k.OPERATOR (k.ADD ∷ k.SUB ∷ k.MUL ∷ k.DIV ∷ k.MOD ∷ k.SHL ∷ k.SHR ∷ k.BITWISE_AND ∷ k.BITWISE_OR ∷ k.BITWISE_XOR ∷ [])
    ⨟ then (memo TERM))
grammar E FUNC_CALL =
    one k.IDENT ⨟ one k.L_PAREN ⨟ opt (node BOOLEAN_EXPR ⨟ many (one k.COMMA ⨟ then (node BOOLEAN_EXPR))) ⨟ one k.R_PAREN
grammar E RANGE = one k.L_PAREN ⨟ then (memo EXPR) ⨟ one k.DOT ⨟ one k.DOT ⨟ then (memo EXPR) ⨟ one k.R_PAREN
grammar E TERM =
    named k.EXPRESSION (plain_terms E)
    ⫽ (named k.EXPRESSION (k.PATTERN_COUNT ∷ []) ⨟ cond k.IN_KW (node RANGE))
    ⫽ (named k.EXPRESSION (k.PATTERN_OFFSET ∷ k.PATTERN_LENGTH ∷ []) ⨟ cond k.L_BRACKET (memo EXPR ⨟ one k.R_BRACKET))
    ⫽ (named k.EXPRESSION (k.MINUS ∷ []) ⨟ then (memo TERM))
    ⫽ (named k.EXPRESSION (k.BITWISE_NOT ∷ []) ⨟ then (memo TERM))
    ⫽ (named k.EXPRESSION (k.L_PAREN ∷ []) ⨟ then (memo EXPR) ⨟ one k.R_PAREN)
    ⫽ last (node PRIMARY_EXPR ⨟ many (named k.EXPRESSION (k.DOT ∷ []) ⨟ then (node PRIMARY_EXPR)))
grammar E PRIMARY_EXPR =
    node FUNC_CALL ⫽ (one k.IDENT ⨟ one k.L_BRACKET ⨟ then (memo EXPR) ⨟ one k.R_BRACKET) ⫽ last (one k.IDENT)
grammar E FOR_EXPR =
    named k.EXPRESSION (k.FOR_KW ∷ []) ⨟ then (node QUANTIFIER)
    ⨟ ((one k.OF_KW ⨟ them) ⫽ last (one k.IDENT ⨟ many (one k.COMMA ⨟ one k.IDENT) ⨟ one k.IN_KW ⨟ node ITERABLE))
    ⨟ one k.COLON ⨟ one k.L_PAREN ⨟ then (node BOOLEAN_EXPR ⨟ recover (k.R_PAREN ∷ [])) ⨟ one k.R_PAREN
grammar E OF_EXPR =
    then (node QUANTIFIER) ⨟ one k.OF_KW
    ⨟ ((them ⨟ ifnext (k.AT_KW ∷ k.IN_KW ∷ []) at_or_in) ⫽ last (node BOOLEAN_EXPR_TUPLE ⨟ unless (k.AT_KW ∷ k.IN_KW ∷ [])))
grammar E WITH_EXPR =
    named k.EXPRESSION (k.WITH_KW ∷ []) ⨟ then (node WITH_DECLS ⨟ recover (k.COLON ∷ k.L_PAREN ∷ [])) ⨟ one k.COLON
    ⨟ one k.L_PAREN ⨟ then (node BOOLEAN_EXPR ⨟ recover (k.R_PAREN ∷ [])) ⨟ one k.R_PAREN
grammar E WITH_DECLS = then (node WITH_DECL) ⨟ many (one k.COMMA ⨟ node WITH_DECL)
grammar E WITH_DECL = one k.IDENT ⨟ one k.EQUAL ⨟ then (memo EXPR)
grammar E QUANTIFIER =
    named k.EXPRESSION (k.ALL_KW ∷ k.NONE_KW ∷ k.ANY_KW ∷ []) ⫽ (memo TERM ⨟ one k.PERCENT) ⫽ last (memo EXPR ⨟ unless (k.PERCENT ∷ []))
grammar E ITERABLE = node RANGE ⫽ node EXPR_TUPLE ⫽ last (memo EXPR)
grammar E BOOLEAN_EXPR_TUPLE = tuple k.COMMA (node BOOLEAN_EXPR)
grammar E EXPR_TUPLE = tuple k.COMMA (memo EXPR)
grammar E PATTERN_IDENT_TUPLE =
    one k.L_PAREN ⨟ one k.PATTERN_IDENT ⨟ opt (one k.ASTERISK)
    ⨟ many (one k.COMMA ⨟ one k.PATTERN_IDENT ⨟ opt (one k.ASTERISK)) ⨟ one k.R_PAREN
grammar E IMPORT_STMT = one k.IMPORT_KW ⨟ one k.STRING_LIT
grammar E INCLUDE_STMT = one k.INCLUDE_KW ⨟ one k.STRING_LIT

-- the kind of a production's node
unfoldable pub kind : Production → ℕ
kind RULE_DECL = k.RULE_DECL
kind RULE_MODS = k.RULE_MODS
kind RULE_TAGS = k.RULE_TAGS
kind META_BLK = k.META_BLK
kind META_DEF = k.META_DEF
kind PATTERNS_BLK = k.PATTERNS_BLK
kind PATTERN_DEF = k.PATTERN_DEF
kind PATTERN_MODS = k.PATTERN_MODS
kind PATTERN_MOD = k.PATTERN_MOD
kind HEX_PATTERN = k.HEX_PATTERN
kind HEX_SUB_PATTERN = k.HEX_SUB_PATTERN
kind HEX_ALTERNATIVE = k.HEX_ALTERNATIVE
kind HEX_JUMP = k.HEX_JUMP
kind CONDITION_BLK = k.CONDITION_BLK
kind BOOLEAN_EXPR = k.BOOLEAN_EXPR
kind BOOLEAN_TERM = k.BOOLEAN_TERM
kind EXPR = k.EXPR
kind FUNC_CALL = k.FUNC_CALL
kind RANGE = k.RANGE
kind TERM = k.TERM
kind PRIMARY_EXPR = k.PRIMARY_EXPR
kind FOR_EXPR = k.FOR_EXPR
kind OF_EXPR = k.OF_EXPR
kind WITH_EXPR = k.WITH_EXPR
kind WITH_DECLS = k.WITH_DECLS
kind WITH_DECL = k.WITH_DECL
kind QUANTIFIER = k.QUANTIFIER
kind ITERABLE = k.ITERABLE
kind BOOLEAN_EXPR_TUPLE = k.BOOLEAN_EXPR_TUPLE
kind EXPR_TUPLE = k.EXPR_TUPLE
kind PATTERN_IDENT_TUPLE = k.PATTERN_IDENT_TUPLE
kind IMPORT_STMT = k.IMPORT_STMT
kind INCLUDE_STMT = k.INCLUDE_STMT
