-- What a row is in each mode: the expressions of the crate's src/tokenizer/mod.rs, in its order. Keywords are identifiers whose text is listed (Rows).
use Rattle.std.specs.Prelude.{ℕ, List, [], ◌∷◌, ◌++◌}
use Rattle.kinds.specs.Kinds as k
use Rattle.tokens.specs.Classes as c
use Rattle.tokens.specs.Expr.{Expr, ε, one, but, ◌⨾◌, ◌∣◌, many, Tokens}

abbrev pub is : ℕ → Expr
is x = one (x ∷ [])

abbrev pub some' : Expr → Expr
some' r = r ⨾ many r

abbrev pub maybe : Expr → Expr
maybe r = ε ∣ r

-- [0-9], [0-7], [a-fA-F0-9], [[:alpha:]]
abbrev pub digits : List ℕ
digits = c.ZERO ∷ c.OCTAL ∷ c.DECIMAL ∷ []

abbrev pub octals : List ℕ
octals = c.ZERO ∷ c.OCTAL ∷ []

abbrev pub hexes : List ℕ
hexes = digits ++ (c.HEX ∷ c.BIG_B ∷ [])

abbrev pub letters : List ℕ
letters = c.HEX ∷ c.BIG_B ∷ c.KILO ∷ c.X ∷ c.O ∷ c.LETTER ∷ []

-- ([[:alpha:]]|\d|_)*
abbrev pub name : Expr
name = many (one (letters ++ digits ++ (c.DIGIT ∷ c.UNDERSCORE ∷ [])))

-- ([0-9]+_*)+
abbrev pub decimal : Expr
decimal = one digits ⨾ many (one (digits ++ (c.UNDERSCORE ∷ [])))

-- \\.
abbrev pub escape : Expr
escape = is c.BACKSLASH ⨾ but (c.LF ∷ [])

-- /\*[^*]*\*+([^/*][^*]*\*+)*/ ; `not` is what its [^..] leave out besides
abbrev pub block : List ℕ → Expr
block not =
    is c.SLASH ⨾ is c.STAR ⨾ many (but (c.STAR ∷ not)) ⨾ some' (is c.STAR)
    ⨾ many (but (c.SLASH ∷ c.STAR ∷ not) ⨾ many (but (c.STAR ∷ not)) ⨾ some' (is c.STAR))
    ⨾ is c.SLASH

-- //[^\n]*
abbrev pub line : Expr
line = is c.SLASH ⨾ is c.SLASH ⨾ many (but (c.LF ∷ []))

abbrev pub blanks : Tokens
blanks =
    (k.WHITESPACE, some' (is c.SPACE))
    ∷ (k.NEWLINE, is c.LF)
    ∷ (k.NEWLINE, is c.CR ⨾ maybe (is c.LF))
    ∷ []

abbrev pub signs : Tokens
signs =
    (k.SHL, is c.LESS ⨾ is c.LESS)
    ∷ (k.SHR, is c.GREATER ⨾ is c.GREATER)
    ∷ (k.EQ, is c.EQUALS ⨾ is c.EQUALS)
    ∷ (k.NE, is c.BANG ⨾ is c.EQUALS)
    ∷ (k.LE, is c.LESS ⨾ is c.EQUALS)
    ∷ (k.GE, is c.GREATER ⨾ is c.EQUALS)
    ∷ (k.LT, is c.LESS)
    ∷ (k.GT, is c.GREATER)
    ∷ (k.AMPERSAND, is c.AMPERSAND)
    ∷ (k.ASTERISK, is c.STAR)
    ∷ (k.BACKSLASH, is c.BACKSLASH)
    ∷ (k.COLON, is c.COLON)
    ∷ (k.COMMA, is c.COMMA)
    ∷ (k.DOT, is c.DOT)
    ∷ (k.EQUAL, is c.EQUALS)
    ∷ (k.PLUS, is c.PLUS)
    ∷ (k.HYPHEN, is c.MINUS)
    ∷ (k.PERCENT, is c.PERCENT)
    ∷ (k.PIPE, is c.PIPE)
    ∷ (k.CARET, is c.CARET)
    ∷ (k.TILDE, is c.TILDE)
    ∷ (k.L_BRACE, is c.L_BRACE)
    ∷ (k.R_BRACE, is c.R_BRACE)
    ∷ (k.L_PAREN, is c.L_PAREN)
    ∷ (k.R_PAREN, is c.R_PAREN)
    ∷ (k.L_BRACKET, is c.L_BRACKET)
    ∷ (k.R_BRACKET, is c.R_BRACKET)
    ∷ []

-- 0x([a-fA-F0-9]+_*)+ | 0o([0-7]+_*)+ | ([0-9]+_*)+(KB|MB)?
abbrev pub integer : Expr
integer =
    (is c.ZERO ⨾ is c.X ⨾ one hexes ⨾ many (one (hexes ++ (c.UNDERSCORE ∷ []))))
    ∣ (is c.ZERO ⨾ is c.O ⨾ one octals ⨾ many (one (octals ++ (c.UNDERSCORE ∷ []))))
    ∣ (decimal ⨾ maybe (is c.KILO ⨾ is c.BIG_B))

unfoldable pub normal : Tokens
normal =
    signs
    ++ ((k.PATTERN_IDENT, is c.DOLLAR ⨾ name)
    ∷ (k.PATTERN_COUNT, is c.HASH ⨾ name)
    ∷ (k.PATTERN_OFFSET, is c.AT ⨾ name)
    ∷ (k.PATTERN_LENGTH, is c.BANG ⨾ name)
    ∷ (k.IDENT, one (letters ++ (c.UNDERSCORE ∷ [])) ⨾ name)
    -- ([0-9]+_*)+\.([0-9_]+_*)+
    ∷ (k.FLOAT_LIT, decimal ⨾ is c.DOT ⨾ some' (one (digits ++ (c.UNDERSCORE ∷ []))))
    ∷ (k.INTEGER_LIT, integer)
    -- "(\\.|[^"\n\\])*"
    ∷ (k.STRING_LIT, is c.QUOTE ⨾ many (escape ∣ but (c.QUOTE ∷ c.LF ∷ c.BACKSLASH ∷ [])) ⨾ is c.QUOTE)
    -- """(\\.|[^"\\])*"""
    ∷ (
      k.STRING_LIT,
      is c.QUOTE ⨾ is c.QUOTE ⨾ is c.QUOTE ⨾ many (escape ∣ but (c.QUOTE ∷ c.BACKSLASH ∷ [])) ⨾ is c.QUOTE ⨾ is c.QUOTE ⨾ is c.QUOTE,
    )
    -- /(\\.|[^*/\\\n])(\\.|[^\\/\n])*/[[:alpha:]]{0,2}
    ∷ (
      k.REGEXP,
      is c.SLASH ⨾ (escape ∣ but (c.STAR ∷ c.SLASH ∷ c.BACKSLASH ∷ c.LF ∷ [])) ⨾ many (escape ∣ but (c.BACKSLASH ∷ c.SLASH ∷ c.LF ∷ []))
          ⨾ is c.SLASH ⨾ maybe (one letters ⨾ maybe (one letters)),
    )
    ∷ (k.COMMENT, block [])
    ∷ (k.COMMENT, line)
    ∷ [])
    ++ blanks

unfoldable pub hex : Tokens
hex =
    -- ~?[?0-9a-fA-F]{2}
    ((k.HEX_BYTE, maybe (is c.TILDE) ⨾ is c.NIBBLE ⨾ is c.NIBBLE)
    ∷ (k.PIPE, is c.PIPE)
    ∷ (k.L_PAREN, is c.L_PAREN)
    ∷ (k.R_PAREN, is c.R_PAREN)
    ∷ (k.L_BRACKET, is c.L_BRACKET)
    ∷ (k.R_BRACKET, is c.R_BRACKET)
    ∷ [])
    ++ blanks
    -- here the block comment's expression is over characters, not bytes
    ++ ((k.COMMENT, block (c.INVALID ∷ []))
    ∷ (k.COMMENT, line)
    ∷ [])

unfoldable pub jump : Tokens
jump =
    ((k.HYPHEN, is c.MINUS)
    -- 0x[a-fA-F0-9]+ | 0o[0-7]+ | [0-9]+
    ∷ (
      k.INTEGER_LIT,
      (is c.ZERO ⨾ is c.X ⨾ some' (one (digits ++ (c.HEX ∷ []))))
          ∣ (is c.ZERO ⨾ is c.O ⨾ some' (one octals))
          ∣ some' (one digits),
    )
    ∷ [])
    ++ blanks

-- what nothing matches: characters up to white space or a byte that begins none
unfoldable pub unknown : Tokens
unknown = (k.UNKNOWN, some' (but (c.INVALID ∷ c.SPACE ∷ c.BLANK ∷ c.LF ∷ c.CR ∷ []))) ∷ []
