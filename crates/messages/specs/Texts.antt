-- The name text's parts by number: what a name is called, then joints and sentences; tools/texts.py writes this file from docs/KINDS.md.
use Prim.Native.String.{String}
use Rattle.std.specs.Prelude.{List, [], ◌∷◌}

-- a token id that has one spelling is described by it in backquotes; then "expression", "operator" and "pattern modifier"
abbrev pub names : List String
names =
    "white space" ∷
    "newline" ∷
    "comment" ∷
    "unknown token" ∷
    "invalid UTF-8" ∷
    "`all`" ∷
    "`and`" ∷
    "`any`" ∷
    "`ascii`" ∷
    "`at`" ∷
    "`base64`" ∷
    "`base64wide`" ∷
    "`condition`" ∷
    "`contains`" ∷
    "`defined`" ∷
    "`endswith`" ∷
    "`entrypoint`" ∷
    "`false`" ∷
    "`filesize`" ∷
    "`for`" ∷
    "`fullword`" ∷
    "`global`" ∷
    "`icontains`" ∷
    "`iendswith`" ∷
    "`iequals`" ∷
    "`import`" ∷
    "`in`" ∷
    "`include`" ∷
    "`istartswith`" ∷
    "`matches`" ∷
    "`meta`" ∷
    "`nocase`" ∷
    "`none`" ∷
    "`not`" ∷
    "`of`" ∷
    "`or`" ∷
    "`private`" ∷
    "`rule`" ∷
    "`startswith`" ∷
    "`strings`" ∷
    "`them`" ∷
    "`true`" ∷
    "`wide`" ∷
    "`xor`" ∷
    "`with`" ∷
    "`<<`" ∷
    "`>>`" ∷
    "`==`" ∷
    "`!=`" ∷
    "`<`" ∷
    "`>`" ∷
    "`<=`" ∷
    "`>=`" ∷
    "`&`" ∷
    "`*`" ∷
    "`\\`" ∷
    "`^`" ∷
    "`,`" ∷
    "`:`" ∷
    "`.`" ∷
    "`=`" ∷
    "`-`" ∷
    "`%`" ∷
    "`|`" ∷
    "`+`" ∷
    "`~`" ∷
    "`{`" ∷
    "`}`" ∷
    "`(`" ∷
    "`)`" ∷
    "`[`" ∷
    "`]`" ∷
    "string literal" ∷
    "regular expression" ∷
    "identifier" ∷
    "pattern identifier" ∷
    "pattern count" ∷
    "pattern offset" ∷
    "pattern length" ∷
    "float" ∷
    "integer" ∷
    "hex byte" ∷
    "expression" ∷
    "operator" ∷
    "pattern modifier" ∷
    []

abbrev pub joints : List String
joints =
    ", " ∷
    " or " ∷
    ", found `" ∷
    "`" ∷
    ", found end of file" ∷
    "expecting " ∷
    "unexpected `" ∷
    "unexpected end of file" ∷
    "unclosed comment" ∷
    "unclosed literal string" ∷
    "unclosed regular expression" ∷
    "invalid UTF-8 character" ∷
    "expecting import statement or rule definition" ∷
    []
