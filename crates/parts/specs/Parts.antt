-- Parts of lines that have a function of their own.
use Rattle.std.specs.Prelude.{ℕ}
use Rattle.kinds.specs.Kinds as k
use Rattle.kinds.specs.Sets.{set_of}
use Rattle.definition.specs.Prog.{Prog, eat, opt, many, ◌⨟◌}
use Rattle.definition.specs.Grammar.{one}
use Rattle.notes.specs.Means.{names_of}

-- a row of a set, or none
abbrev pub optionally : ℕ → Prog
optionally c = opt (eat (set_of c) (names_of c))

-- a part of PATTERN_IDENT_TUPLE
abbrev pub pattern_idents : Prog
pattern_idents = many (one k.COMMA ⨟ one k.PATTERN_IDENT ⨟ opt (one k.ASTERISK))
