-- The module's combinators as a data type, and the names of its productions ("Closures as productions: named functions, or a table and one
-- interpreter").
use Rattle.std.specs.Prelude.{ℕ, List, [], ◌∷◌}

-- "the productions from `rule_decl` down to `pattern_ident_tuple`", and `import_stmt` and `include_stmt` (request (ii))
pub data Production : Type 0 where
  RULE_DECL RULE_MODS RULE_TAGS META_BLK META_DEF : Production
  PATTERNS_BLK PATTERN_DEF PATTERN_MODS PATTERN_MOD : Production
  HEX_PATTERN HEX_SUB_PATTERN HEX_ALTERNATIVE HEX_JUMP : Production
  CONDITION_BLK BOOLEAN_EXPR BOOLEAN_TERM EXPR FUNC_CALL RANGE TERM PRIMARY_EXPR : Production
  FOR_EXPR OF_EXPR WITH_EXPR WITH_DECLS WITH_DECL QUANTIFIER : Production
  ITERABLE BOOLEAN_EXPR_TUPLE EXPR_TUPLE PATTERN_IDENT_TUPLE : Production
  IMPORT_STMT INCLUDE_STMT : Production

-- all of them, in the order of their kinds (docs/KINDS.md)
unfoldable pub productions : List Production
productions =
    RULE_DECL ∷ RULE_MODS ∷ RULE_TAGS ∷ META_BLK ∷ META_DEF ∷ PATTERNS_BLK ∷ PATTERN_DEF ∷ PATTERN_MODS ∷ PATTERN_MOD ∷ HEX_PATTERN ∷ HEX_SUB_PATTERN
    ∷ HEX_ALTERNATIVE ∷ HEX_JUMP ∷ CONDITION_BLK ∷ BOOLEAN_EXPR ∷ BOOLEAN_TERM ∷ EXPR ∷ FUNC_CALL ∷ RANGE ∷ TERM ∷ PRIMARY_EXPR
    ∷ FOR_EXPR ∷ OF_EXPR ∷ WITH_EXPR ∷ WITH_DECLS ∷ WITH_DECL ∷ QUANTIFIER ∷ ITERABLE ∷ BOOLEAN_EXPR_TUPLE ∷ EXPR_TUPLE ∷ PATTERN_IDENT_TUPLE
    ∷ IMPORT_STMT ∷ INCLUDE_STMT ∷ []

-- `expect_d` with its set and the names that it enters; `not`; `if_next`; `opt`; a repetition; `then`; the last alternative of an `alt`; one step
-- after another; an alternative before others; `recover`; a production; a `cached` production
infixr 20 ◌⨟◌
infixr 15 ◌⫽◌
pub data Prog : Type 0 where
  eat : List ℕ → List ℕ → Prog
  unless : List ℕ → Prog
  ifnext : List ℕ → Prog → Prog
  opt many then last : Prog → Prog
  ◌⨟◌ ◌⫽◌ : Prog → Prog → Prog
  recover : List ℕ → Prog
  node memo : Production → Prog
