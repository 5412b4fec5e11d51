-- docs/KINDS.md as names for numbers; tools/kinds.py writes this file from that page.
use Rattle.std.specs.Prelude.{ℕ}

-- ids that are no kind of their own spelling
abbrev pub AMPERSAND : ℕ
AMPERSAND = 53

abbrev pub BACKSLASH : ℕ
BACKSLASH = 55

abbrev pub CARET : ℕ
CARET = 56

abbrev pub PLUS : ℕ
PLUS = 64

abbrev pub TILDE : ℕ
TILDE = 65

-- kinds; an id that is spelled as a kind has its number
abbrev pub WHITESPACE : ℕ
WHITESPACE = 0

abbrev pub NEWLINE : ℕ
NEWLINE = 1

abbrev pub COMMENT : ℕ
COMMENT = 2

abbrev pub UNKNOWN : ℕ
UNKNOWN = 3

abbrev pub INVALID_UTF8 : ℕ
INVALID_UTF8 = 4

abbrev pub ALL_KW : ℕ
ALL_KW = 5

abbrev pub AND_KW : ℕ
AND_KW = 6

abbrev pub ANY_KW : ℕ
ANY_KW = 7

abbrev pub ASCII_KW : ℕ
ASCII_KW = 8

abbrev pub AT_KW : ℕ
AT_KW = 9

abbrev pub BASE64_KW : ℕ
BASE64_KW = 10

abbrev pub BASE64WIDE_KW : ℕ
BASE64WIDE_KW = 11

abbrev pub CONDITION_KW : ℕ
CONDITION_KW = 12

abbrev pub CONTAINS_KW : ℕ
CONTAINS_KW = 13

abbrev pub DEFINED_KW : ℕ
DEFINED_KW = 14

abbrev pub ENDSWITH_KW : ℕ
ENDSWITH_KW = 15

abbrev pub ENTRYPOINT_KW : ℕ
ENTRYPOINT_KW = 16

abbrev pub FALSE_KW : ℕ
FALSE_KW = 17

abbrev pub FILESIZE_KW : ℕ
FILESIZE_KW = 18

abbrev pub FOR_KW : ℕ
FOR_KW = 19

abbrev pub FULLWORD_KW : ℕ
FULLWORD_KW = 20

abbrev pub GLOBAL_KW : ℕ
GLOBAL_KW = 21

abbrev pub ICONTAINS_KW : ℕ
ICONTAINS_KW = 22

abbrev pub IENDSWITH_KW : ℕ
IENDSWITH_KW = 23

abbrev pub IEQUALS_KW : ℕ
IEQUALS_KW = 24

abbrev pub IMPORT_KW : ℕ
IMPORT_KW = 25

abbrev pub IN_KW : ℕ
IN_KW = 26

abbrev pub INCLUDE_KW : ℕ
INCLUDE_KW = 27

abbrev pub ISTARTSWITH_KW : ℕ
ISTARTSWITH_KW = 28

abbrev pub MATCHES_KW : ℕ
MATCHES_KW = 29

abbrev pub META_KW : ℕ
META_KW = 30

abbrev pub NOCASE_KW : ℕ
NOCASE_KW = 31

abbrev pub NONE_KW : ℕ
NONE_KW = 32

abbrev pub NOT_KW : ℕ
NOT_KW = 33

abbrev pub OF_KW : ℕ
OF_KW = 34

abbrev pub OR_KW : ℕ
OR_KW = 35

abbrev pub PRIVATE_KW : ℕ
PRIVATE_KW = 36

abbrev pub RULE_KW : ℕ
RULE_KW = 37

abbrev pub STARTSWITH_KW : ℕ
STARTSWITH_KW = 38

abbrev pub STRINGS_KW : ℕ
STRINGS_KW = 39

abbrev pub THEM_KW : ℕ
THEM_KW = 40

abbrev pub TRUE_KW : ℕ
TRUE_KW = 41

abbrev pub WIDE_KW : ℕ
WIDE_KW = 42

abbrev pub XOR_KW : ℕ
XOR_KW = 43

abbrev pub WITH_KW : ℕ
WITH_KW = 44

abbrev pub SHL : ℕ
SHL = 45

abbrev pub SHR : ℕ
SHR = 46

abbrev pub EQ : ℕ
EQ = 47

abbrev pub NE : ℕ
NE = 48

abbrev pub LT : ℕ
LT = 49

abbrev pub GT : ℕ
GT = 50

abbrev pub LE : ℕ
LE = 51

abbrev pub GE : ℕ
GE = 52

abbrev pub BITWISE_AND : ℕ
BITWISE_AND = 53

abbrev pub ASTERISK : ℕ
ASTERISK = 54

abbrev pub DIV : ℕ
DIV = 55

abbrev pub BITWISE_XOR : ℕ
BITWISE_XOR = 56

abbrev pub COMMA : ℕ
COMMA = 57

abbrev pub COLON : ℕ
COLON = 58

abbrev pub DOT : ℕ
DOT = 59

abbrev pub EQUAL : ℕ
EQUAL = 60

abbrev pub HYPHEN : ℕ
HYPHEN = 61

abbrev pub PERCENT : ℕ
PERCENT = 62

abbrev pub PIPE : ℕ
PIPE = 63

abbrev pub ADD : ℕ
ADD = 64

abbrev pub BITWISE_NOT : ℕ
BITWISE_NOT = 65

abbrev pub L_BRACE : ℕ
L_BRACE = 66

abbrev pub R_BRACE : ℕ
R_BRACE = 67

abbrev pub L_PAREN : ℕ
L_PAREN = 68

abbrev pub R_PAREN : ℕ
R_PAREN = 69

abbrev pub L_BRACKET : ℕ
L_BRACKET = 70

abbrev pub R_BRACKET : ℕ
R_BRACKET = 71

abbrev pub STRING_LIT : ℕ
STRING_LIT = 72

abbrev pub REGEXP : ℕ
REGEXP = 73

abbrev pub IDENT : ℕ
IDENT = 74

abbrev pub PATTERN_IDENT : ℕ
PATTERN_IDENT = 75

abbrev pub PATTERN_COUNT : ℕ
PATTERN_COUNT = 76

abbrev pub PATTERN_OFFSET : ℕ
PATTERN_OFFSET = 77

abbrev pub PATTERN_LENGTH : ℕ
PATTERN_LENGTH = 78

abbrev pub FLOAT_LIT : ℕ
FLOAT_LIT = 79

abbrev pub INTEGER_LIT : ℕ
INTEGER_LIT = 80

abbrev pub HEX_BYTE : ℕ
HEX_BYTE = 81

abbrev pub MINUS : ℕ
MINUS = 82

abbrev pub SUB : ℕ
SUB = 83

abbrev pub MUL : ℕ
MUL = 84

abbrev pub MOD : ℕ
MOD = 85

abbrev pub BITWISE_OR : ℕ
BITWISE_OR = 86

abbrev pub ERROR : ℕ
ERROR = 87

abbrev pub SOURCE_FILE : ℕ
SOURCE_FILE = 88

abbrev pub RULE_DECL : ℕ
RULE_DECL = 89

abbrev pub RULE_MODS : ℕ
RULE_MODS = 90

abbrev pub RULE_TAGS : ℕ
RULE_TAGS = 91

abbrev pub META_BLK : ℕ
META_BLK = 92

abbrev pub META_DEF : ℕ
META_DEF = 93

abbrev pub PATTERNS_BLK : ℕ
PATTERNS_BLK = 94

abbrev pub PATTERN_DEF : ℕ
PATTERN_DEF = 95

abbrev pub PATTERN_MODS : ℕ
PATTERN_MODS = 96

abbrev pub PATTERN_MOD : ℕ
PATTERN_MOD = 97

abbrev pub HEX_PATTERN : ℕ
HEX_PATTERN = 98

abbrev pub HEX_SUB_PATTERN : ℕ
HEX_SUB_PATTERN = 99

abbrev pub HEX_ALTERNATIVE : ℕ
HEX_ALTERNATIVE = 100

abbrev pub HEX_JUMP : ℕ
HEX_JUMP = 101

abbrev pub CONDITION_BLK : ℕ
CONDITION_BLK = 102

abbrev pub BOOLEAN_EXPR : ℕ
BOOLEAN_EXPR = 103

abbrev pub BOOLEAN_TERM : ℕ
BOOLEAN_TERM = 104

abbrev pub EXPR : ℕ
EXPR = 105

abbrev pub FUNC_CALL : ℕ
FUNC_CALL = 106

abbrev pub RANGE : ℕ
RANGE = 107

abbrev pub TERM : ℕ
TERM = 108

abbrev pub PRIMARY_EXPR : ℕ
PRIMARY_EXPR = 109

abbrev pub FOR_EXPR : ℕ
FOR_EXPR = 110

abbrev pub OF_EXPR : ℕ
OF_EXPR = 111

abbrev pub WITH_EXPR : ℕ
WITH_EXPR = 112

abbrev pub WITH_DECLS : ℕ
WITH_DECLS = 113

abbrev pub WITH_DECL : ℕ
WITH_DECL = 114

abbrev pub QUANTIFIER : ℕ
QUANTIFIER = 115

abbrev pub ITERABLE : ℕ
ITERABLE = 116

abbrev pub BOOLEAN_EXPR_TUPLE : ℕ
BOOLEAN_EXPR_TUPLE = 117

abbrev pub EXPR_TUPLE : ℕ
EXPR_TUPLE = 118

abbrev pub PATTERN_IDENT_TUPLE : ℕ
PATTERN_IDENT_TUPLE = 119

abbrev pub IMPORT_STMT : ℕ
IMPORT_STMT = 120

abbrev pub INCLUDE_STMT : ℕ
INCLUDE_STMT = 121

-- names that are no ids
abbrev pub EXPRESSION : ℕ
EXPRESSION = 82

abbrev pub OPERATOR : ℕ
OPERATOR = 83

abbrev pub MODIFIER : ℕ
MODIFIER = 84
