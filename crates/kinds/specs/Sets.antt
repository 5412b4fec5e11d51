-- Ids, kinds and token sets (document 01, module 1): "A set with the row's id gives the first kind in the set that has it."
use Rattle.std.specs.Prelude.{ℕ, List, [], ◌∷◌, map, Bool, true, false, eqb, ltb, get_or}
use Rattle.std.proofs.Math.Option.{Option, none, some}
use Rattle.kinds.specs.Kinds as k

-- the number is an id
abbrev pub is_id : ℕ → Bool
is_id i = ltb i 82

-- "Trivia are WHITESPACE, NEWLINE and COMMENT": the ids 0 to 2
abbrev pub trivial : ℕ → Bool
trivial i = ltb i 3

-- "Several kinds share an id": the id that the rows of a token kind have
unfoldable pub id_of : ℕ → ℕ
id_of a =
    elim (eqb a k.MINUS) [
      | true ↦ k.HYPHEN
      | false ↦ elim (eqb a k.SUB) [
        | true ↦ k.HYPHEN
        | false ↦ elim (eqb a k.MUL) [
          | true ↦ k.ASTERISK
          | false ↦ elim (eqb a k.MOD) [
            | true ↦ k.PERCENT
            | false ↦ elim (eqb a k.BITWISE_OR) [
              | true ↦ k.PIPE
              | false ↦ a
            ]
          ]
        ]
      ]
    ]

-- "a skipped row as HYPHEN, ASTERISK or PERCENT": such a kind has the number of its id
abbrev pub kind_of : ℕ → ℕ
kind_of i = i

-- the first kind in the set that has the id
abbrev pub pick : List ℕ → ℕ → Option ℕ
pick [] i = none
pick (a ∷ S) i = elim (eqb i (id_of a)) [ true ↦ some a | false ↦ pick S i ]

-- the names that a set enters where it was expected without a description
abbrev pub ids_of : List ℕ → List ℕ
ids_of S = map id_of S

-- the module's sets in the order of its text, each once; the keywords at which an item begins; and the rows that are a term by themselves in an
-- edition that turns entrypoint off
abbrev pub sets : List (List ℕ)
sets =
    (k.IMPORT_KW ∷ [])
    ∷ (k.STRING_LIT ∷ [])
    ∷ (k.INCLUDE_KW ∷ [])
    ∷ (k.RULE_KW ∷ [])
    ∷ (k.IDENT ∷ [])
    ∷ (k.COLON ∷ [])
    ∷ (k.L_BRACE ∷ [])
    ∷ (k.META_KW ∷ [])
    ∷ (k.STRINGS_KW ∷ [])
    ∷ (k.R_BRACE ∷ [])
    ∷ (k.GLOBAL_KW ∷ k.PRIVATE_KW ∷ k.RULE_KW ∷ k.IMPORT_KW ∷ k.INCLUDE_KW ∷ [])
    ∷ (k.PRIVATE_KW ∷ [])
    ∷ (k.GLOBAL_KW ∷ [])
    ∷ (k.STRINGS_KW ∷ k.CONDITION_KW ∷ [])
    ∷ (k.EQUAL ∷ [])
    ∷ (k.MINUS ∷ [])
    ∷ (k.INTEGER_LIT ∷ k.FLOAT_LIT ∷ [])
    ∷ (k.STRING_LIT ∷ k.TRUE_KW ∷ k.FALSE_KW ∷ [])
    ∷ (k.CONDITION_KW ∷ [])
    ∷ (k.PATTERN_IDENT ∷ [])
    ∷ (k.REGEXP ∷ [])
    ∷ (k.ASCII_KW ∷ k.WIDE_KW ∷ k.NOCASE_KW ∷ k.PRIVATE_KW ∷ k.FULLWORD_KW ∷ [])
    ∷ (k.BASE64_KW ∷ k.BASE64WIDE_KW ∷ [])
    ∷ (k.L_PAREN ∷ [])
    ∷ (k.R_PAREN ∷ [])
    ∷ (k.XOR_KW ∷ [])
    ∷ (k.INTEGER_LIT ∷ [])
    ∷ (k.HYPHEN ∷ [])
    ∷ (k.HEX_BYTE ∷ [])
    ∷ (k.PIPE ∷ [])
    ∷ (k.L_BRACKET ∷ [])
    ∷ (k.R_BRACKET ∷ [])
    ∷ (k.AND_KW ∷ k.OR_KW ∷ [])
    ∷ (k.AT_KW ∷ k.IN_KW ∷ [])
    ∷ (k.TRUE_KW ∷ k.FALSE_KW ∷ [])
    ∷ (k.NOT_KW ∷ k.DEFINED_KW ∷ [])
    ∷ (k.EQ ∷ k.NE ∷ k.LE ∷ k.LT ∷ k.GE ∷ k.GT ∷ k.CONTAINS_KW ∷ k.ICONTAINS_KW ∷ k.STARTSWITH_KW ∷ k.ISTARTSWITH_KW ∷ k.ENDSWITH_KW ∷ k.IENDSWITH_KW ∷ k.IEQUALS_KW ∷ k.MATCHES_KW ∷ [])
    ∷ (k.AT_KW ∷ [])
    ∷ (k.IN_KW ∷ [])
    ∷ (k.ADD ∷ k.SUB ∷ k.MUL ∷ k.DIV ∷ k.MOD ∷ k.SHL ∷ k.SHR ∷ k.BITWISE_AND ∷ k.BITWISE_OR ∷ k.BITWISE_XOR ∷ [])
    ∷ (k.COMMA ∷ [])
    ∷ (k.DOT ∷ [])
    ∷ (k.FLOAT_LIT ∷ k.INTEGER_LIT ∷ k.STRING_LIT ∷ k.REGEXP ∷ k.FILESIZE_KW ∷ k.ENTRYPOINT_KW ∷ [])
    ∷ (k.PATTERN_COUNT ∷ [])
    ∷ (k.PATTERN_OFFSET ∷ k.PATTERN_LENGTH ∷ [])
    ∷ (k.BITWISE_NOT ∷ [])
    ∷ (k.FOR_KW ∷ [])
    ∷ (k.OF_KW ∷ [])
    ∷ (k.THEM_KW ∷ [])
    ∷ (k.WITH_KW ∷ [])
    ∷ (k.COLON ∷ k.L_PAREN ∷ [])
    ∷ (k.ALL_KW ∷ k.NONE_KW ∷ k.ANY_KW ∷ [])
    ∷ (k.PERCENT ∷ [])
    ∷ (k.ASTERISK ∷ [])
    ∷ (k.GLOBAL_KW ∷ k.PRIVATE_KW ∷ k.RULE_KW ∷ [])
    ∷ (k.FLOAT_LIT ∷ k.INTEGER_LIT ∷ k.STRING_LIT ∷ k.REGEXP ∷ k.FILESIZE_KW ∷ [])
    ∷ []

-- a number that no set has gives the empty set
abbrev pub set_of : ℕ → List ℕ
set_of n = get_or sets n []
