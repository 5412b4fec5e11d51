-- The classes of characters, and of the bytes in each mode: ranges, of which the first that fits counts. Written by tools/cutter.py.
use Rattle.std.specs.Prelude.{ℕ, zero, suc, List, [], ◌∷◌, cond, ◌&&◌, leb}

-- a character that no expression names
abbrev pub OTHER : ℕ
OTHER = 0

-- a byte that begins no character
abbrev pub INVALID : ℕ
INVALID = 1

-- white space as the crate's expression lists it
abbrev pub SPACE : ℕ
SPACE = 2

-- other white space
abbrev pub BLANK : ℕ
BLANK = 3

abbrev pub LF : ℕ
LF = 4

abbrev pub CR : ℕ
CR = 5

-- a decimal digit of another script
abbrev pub DIGIT : ℕ
DIGIT = 6

abbrev pub ZERO : ℕ
ZERO = 7

-- 1 to 7
abbrev pub OCTAL : ℕ
OCTAL = 8

-- 8 and 9
abbrev pub DECIMAL : ℕ
DECIMAL = 9

-- a letter that is a hex digit, B left out (in jump mode B too)
abbrev pub HEX : ℕ
HEX = 10

-- B, which ends KB and MB
abbrev pub BIG_B : ℕ
BIG_B = 11

-- K and M
abbrev pub KILO : ℕ
KILO = 12

-- x
abbrev pub X : ℕ
X = 13

-- o
abbrev pub O : ℕ
O = 14

-- the other letters
abbrev pub LETTER : ℕ
LETTER = 15

abbrev pub UNDERSCORE : ℕ
UNDERSCORE = 16

abbrev pub BANG : ℕ
BANG = 17

abbrev pub QUOTE : ℕ
QUOTE = 18

abbrev pub HASH : ℕ
HASH = 19

abbrev pub DOLLAR : ℕ
DOLLAR = 20

abbrev pub PERCENT : ℕ
PERCENT = 21

abbrev pub AMPERSAND : ℕ
AMPERSAND = 22

abbrev pub L_PAREN : ℕ
L_PAREN = 23

abbrev pub R_PAREN : ℕ
R_PAREN = 24

abbrev pub STAR : ℕ
STAR = 25

abbrev pub PLUS : ℕ
PLUS = 26

abbrev pub COMMA : ℕ
COMMA = 27

abbrev pub MINUS : ℕ
MINUS = 28

abbrev pub DOT : ℕ
DOT = 29

abbrev pub SLASH : ℕ
SLASH = 30

abbrev pub COLON : ℕ
COLON = 31

abbrev pub LESS : ℕ
LESS = 32

abbrev pub EQUALS : ℕ
EQUALS = 33

abbrev pub GREATER : ℕ
GREATER = 34

abbrev pub AT : ℕ
AT = 35

abbrev pub L_BRACKET : ℕ
L_BRACKET = 36

abbrev pub BACKSLASH : ℕ
BACKSLASH = 37

abbrev pub R_BRACKET : ℕ
R_BRACKET = 38

abbrev pub CARET : ℕ
CARET = 39

abbrev pub L_BRACE : ℕ
L_BRACE = 40

abbrev pub PIPE : ℕ
PIPE = 41

abbrev pub R_BRACE : ℕ
R_BRACE = 42

abbrev pub TILDE : ℕ
TILDE = 43

-- in hex mode: a hex digit or ?
abbrev pub NIBBLE : ℕ
NIBBLE = 44

-- in the tables of bytes only: begins a character of several bytes
abbrev pub LEAD : ℕ
LEAD = 45

-- least, greatest and class of each range, one after the other
abbrev pub class_in : List ℕ → ℕ → ℕ
class_in [] x = OTHER
class_in (lo ∷ []) x = OTHER
class_in (lo ∷ hi ∷ []) x = OTHER
class_in (lo ∷ hi ∷ c ∷ rows) x = cond (leb lo x && leb x hi) c (class_in rows x)

unfoldable pub normal : List ℕ
normal =
    0x09 ∷ 0x09 ∷ SPACE ∷  -- 09
    0x0A ∷ 0x0A ∷ LF ∷  -- 0A
    0x0B ∷ 0x0C ∷ BLANK ∷  -- 0B to 0C
    0x0D ∷ 0x0D ∷ CR ∷  -- 0D
    0x20 ∷ 0x20 ∷ SPACE ∷  -- 20
    0x21 ∷ 0x21 ∷ BANG ∷  -- !
    0x22 ∷ 0x22 ∷ QUOTE ∷  -- "
    0x23 ∷ 0x23 ∷ HASH ∷  -- #
    0x24 ∷ 0x24 ∷ DOLLAR ∷  -- $
    0x25 ∷ 0x25 ∷ PERCENT ∷  -- %
    0x26 ∷ 0x26 ∷ AMPERSAND ∷  -- &
    0x28 ∷ 0x28 ∷ L_PAREN ∷  -- (
    0x29 ∷ 0x29 ∷ R_PAREN ∷  -- )
    0x2A ∷ 0x2A ∷ STAR ∷  -- *
    0x2B ∷ 0x2B ∷ PLUS ∷  -- +
    0x2C ∷ 0x2C ∷ COMMA ∷  -- ,
    0x2D ∷ 0x2D ∷ MINUS ∷  -- -
    0x2E ∷ 0x2E ∷ DOT ∷  -- .
    0x2F ∷ 0x2F ∷ SLASH ∷  -- /
    0x30 ∷ 0x30 ∷ ZERO ∷  -- 0
    0x31 ∷ 0x37 ∷ OCTAL ∷  -- 1 to 7
    0x38 ∷ 0x39 ∷ DECIMAL ∷  -- 8 to 9
    0x3A ∷ 0x3A ∷ COLON ∷  -- :
    0x3C ∷ 0x3C ∷ LESS ∷  -- <
    0x3D ∷ 0x3D ∷ EQUALS ∷  -- =
    0x3E ∷ 0x3E ∷ GREATER ∷  -- >
    0x40 ∷ 0x40 ∷ AT ∷  -- @
    0x41 ∷ 0x41 ∷ HEX ∷  -- A
    0x42 ∷ 0x42 ∷ BIG_B ∷  -- B
    0x43 ∷ 0x46 ∷ HEX ∷  -- C to F
    0x47 ∷ 0x4A ∷ LETTER ∷  -- G to J
    0x4B ∷ 0x4B ∷ KILO ∷  -- K
    0x4C ∷ 0x4C ∷ LETTER ∷  -- L
    0x4D ∷ 0x4D ∷ KILO ∷  -- M
    0x4E ∷ 0x5A ∷ LETTER ∷  -- N to Z
    0x5B ∷ 0x5B ∷ L_BRACKET ∷  -- [
    0x5C ∷ 0x5C ∷ BACKSLASH ∷  -- \
    0x5D ∷ 0x5D ∷ R_BRACKET ∷  -- ]
    0x5E ∷ 0x5E ∷ CARET ∷  -- ^
    0x5F ∷ 0x5F ∷ UNDERSCORE ∷  -- _
    0x61 ∷ 0x66 ∷ HEX ∷  -- a to f
    0x67 ∷ 0x6E ∷ LETTER ∷  -- g to n
    0x6F ∷ 0x6F ∷ O ∷  -- o
    0x70 ∷ 0x77 ∷ LETTER ∷  -- p to w
    0x78 ∷ 0x78 ∷ X ∷  -- x
    0x79 ∷ 0x7A ∷ LETTER ∷  -- y to z
    0x7B ∷ 0x7B ∷ L_BRACE ∷  -- {
    0x7C ∷ 0x7C ∷ PIPE ∷  -- |
    0x7D ∷ 0x7D ∷ R_BRACE ∷  -- }
    0x7E ∷ 0x7E ∷ TILDE ∷  -- ~
    0x80 ∷ 0xC1 ∷ INVALID ∷
    0xC2 ∷ 0xF4 ∷ LEAD ∷
    0xF5 ∷ 0xFF ∷ INVALID ∷
    []

unfoldable pub hex : List ℕ
hex =
    0x09 ∷ 0x09 ∷ SPACE ∷  -- 09
    0x0A ∷ 0x0A ∷ LF ∷  -- 0A
    0x0B ∷ 0x0C ∷ BLANK ∷  -- 0B to 0C
    0x0D ∷ 0x0D ∷ CR ∷  -- 0D
    0x20 ∷ 0x20 ∷ SPACE ∷  -- 20
    0x28 ∷ 0x28 ∷ L_PAREN ∷  -- (
    0x29 ∷ 0x29 ∷ R_PAREN ∷  -- )
    0x2A ∷ 0x2A ∷ STAR ∷  -- *
    0x2F ∷ 0x2F ∷ SLASH ∷  -- /
    0x30 ∷ 0x39 ∷ NIBBLE ∷  -- 0 to 9
    0x3F ∷ 0x3F ∷ NIBBLE ∷  -- ?
    0x41 ∷ 0x46 ∷ NIBBLE ∷  -- A to F
    0x5B ∷ 0x5B ∷ L_BRACKET ∷  -- [
    0x5D ∷ 0x5D ∷ R_BRACKET ∷  -- ]
    0x61 ∷ 0x66 ∷ NIBBLE ∷  -- a to f
    0x7C ∷ 0x7C ∷ PIPE ∷  -- |
    0x7E ∷ 0x7E ∷ TILDE ∷  -- ~
    0x80 ∷ 0xC1 ∷ INVALID ∷
    0xC2 ∷ 0xF4 ∷ LEAD ∷
    0xF5 ∷ 0xFF ∷ INVALID ∷
    []

unfoldable pub jump : List ℕ
jump =
    0x09 ∷ 0x09 ∷ SPACE ∷  -- 09
    0x0A ∷ 0x0A ∷ LF ∷  -- 0A
    0x0B ∷ 0x0C ∷ BLANK ∷  -- 0B to 0C
    0x0D ∷ 0x0D ∷ CR ∷  -- 0D
    0x20 ∷ 0x20 ∷ SPACE ∷  -- 20
    0x2D ∷ 0x2D ∷ MINUS ∷  -- -
    0x30 ∷ 0x30 ∷ ZERO ∷  -- 0
    0x31 ∷ 0x37 ∷ OCTAL ∷  -- 1 to 7
    0x38 ∷ 0x39 ∷ DECIMAL ∷  -- 8 to 9
    0x41 ∷ 0x46 ∷ HEX ∷  -- A to F
    0x61 ∷ 0x66 ∷ HEX ∷  -- a to f
    0x6F ∷ 0x6F ∷ O ∷  -- o
    0x78 ∷ 0x78 ∷ X ∷  -- x
    0x80 ∷ 0xC1 ∷ INVALID ∷
    0xC2 ∷ 0xF4 ∷ LEAD ∷
    0xF5 ∷ 0xFF ∷ INVALID ∷
    []

-- the three modes: 0 normal, 1 hex pattern, 2 hex jump
abbrev pub bytes_of : ℕ → List ℕ
bytes_of zero = normal
bytes_of (suc zero) = hex
bytes_of (suc (suc m)) = jump

-- the class of a byte
unfoldable pub class : ℕ → ℕ → ℕ
class m b = class_in (bytes_of m) b

-- characters past ASCII, in every mode: white space, and the decimal digits (Unicode's Nd) in runs of ten
unfoldable pub wides : List ℕ
wides =
    0x0085 ∷ 0x0085 ∷ BLANK ∷
    0x00A0 ∷ 0x00A0 ∷ SPACE ∷
    0x1680 ∷ 0x1680 ∷ BLANK ∷
    0x2000 ∷ 0x200A ∷ SPACE ∷
    0x2028 ∷ 0x2029 ∷ BLANK ∷
    0x202F ∷ 0x202F ∷ SPACE ∷
    0x205F ∷ 0x205F ∷ SPACE ∷
    0x3000 ∷ 0x3000 ∷ BLANK ∷
    0x0660 ∷ 0x0669 ∷ DIGIT ∷
    0x06F0 ∷ 0x06F9 ∷ DIGIT ∷
    0x07C0 ∷ 0x07C9 ∷ DIGIT ∷
    0x0966 ∷ 0x096F ∷ DIGIT ∷
    0x09E6 ∷ 0x09EF ∷ DIGIT ∷
    0x0A66 ∷ 0x0A6F ∷ DIGIT ∷
    0x0AE6 ∷ 0x0AEF ∷ DIGIT ∷
    0x0B66 ∷ 0x0B6F ∷ DIGIT ∷
    0x0BE6 ∷ 0x0BEF ∷ DIGIT ∷
    0x0C66 ∷ 0x0C6F ∷ DIGIT ∷
    0x0CE6 ∷ 0x0CEF ∷ DIGIT ∷
    0x0D66 ∷ 0x0D6F ∷ DIGIT ∷
    0x0DE6 ∷ 0x0DEF ∷ DIGIT ∷
    0x0E50 ∷ 0x0E59 ∷ DIGIT ∷
    0x0ED0 ∷ 0x0ED9 ∷ DIGIT ∷
    0x0F20 ∷ 0x0F29 ∷ DIGIT ∷
    0x1040 ∷ 0x1049 ∷ DIGIT ∷
    0x1090 ∷ 0x1099 ∷ DIGIT ∷
    0x17E0 ∷ 0x17E9 ∷ DIGIT ∷
    0x1810 ∷ 0x1819 ∷ DIGIT ∷
    0x1946 ∷ 0x194F ∷ DIGIT ∷
    0x19D0 ∷ 0x19D9 ∷ DIGIT ∷
    0x1A80 ∷ 0x1A89 ∷ DIGIT ∷
    0x1A90 ∷ 0x1A99 ∷ DIGIT ∷
    0x1B50 ∷ 0x1B59 ∷ DIGIT ∷
    0x1BB0 ∷ 0x1BB9 ∷ DIGIT ∷
    0x1C40 ∷ 0x1C49 ∷ DIGIT ∷
    0x1C50 ∷ 0x1C59 ∷ DIGIT ∷
    0xA620 ∷ 0xA629 ∷ DIGIT ∷
    0xA8D0 ∷ 0xA8D9 ∷ DIGIT ∷
    0xA900 ∷ 0xA909 ∷ DIGIT ∷
    0xA9D0 ∷ 0xA9D9 ∷ DIGIT ∷
    0xA9F0 ∷ 0xA9F9 ∷ DIGIT ∷
    0xAA50 ∷ 0xAA59 ∷ DIGIT ∷
    0xABF0 ∷ 0xABF9 ∷ DIGIT ∷
    0xFF10 ∷ 0xFF19 ∷ DIGIT ∷
    0x104A0 ∷ 0x104A9 ∷ DIGIT ∷
    0x10D30 ∷ 0x10D39 ∷ DIGIT ∷
    0x11066 ∷ 0x1106F ∷ DIGIT ∷
    0x110F0 ∷ 0x110F9 ∷ DIGIT ∷
    0x11136 ∷ 0x1113F ∷ DIGIT ∷
    0x111D0 ∷ 0x111D9 ∷ DIGIT ∷
    0x112F0 ∷ 0x112F9 ∷ DIGIT ∷
    0x11450 ∷ 0x11459 ∷ DIGIT ∷
    0x114D0 ∷ 0x114D9 ∷ DIGIT ∷
    0x11650 ∷ 0x11659 ∷ DIGIT ∷
    0x116C0 ∷ 0x116C9 ∷ DIGIT ∷
    0x11730 ∷ 0x11739 ∷ DIGIT ∷
    0x118E0 ∷ 0x118E9 ∷ DIGIT ∷
    0x11950 ∷ 0x11959 ∷ DIGIT ∷
    0x11C50 ∷ 0x11C59 ∷ DIGIT ∷
    0x11D50 ∷ 0x11D59 ∷ DIGIT ∷
    0x11DA0 ∷ 0x11DA9 ∷ DIGIT ∷
    0x16A60 ∷ 0x16A69 ∷ DIGIT ∷
    0x16AC0 ∷ 0x16AC9 ∷ DIGIT ∷
    0x16B50 ∷ 0x16B59 ∷ DIGIT ∷
    0x1D7CE ∷ 0x1D7D7 ∷ DIGIT ∷
    0x1D7D8 ∷ 0x1D7E1 ∷ DIGIT ∷
    0x1D7E2 ∷ 0x1D7EB ∷ DIGIT ∷
    0x1D7EC ∷ 0x1D7F5 ∷ DIGIT ∷
    0x1D7F6 ∷ 0x1D7FF ∷ DIGIT ∷
    0x1E140 ∷ 0x1E149 ∷ DIGIT ∷
    0x1E2F0 ∷ 0x1E2F9 ∷ DIGIT ∷
    0x1E950 ∷ 0x1E959 ∷ DIGIT ∷
    0x1FBF0 ∷ 0x1FBF9 ∷ DIGIT ∷
    []

unfoldable pub wide_class : ℕ → ℕ
wide_class x = class_in wides x
