-- Parts of the lines of patterns that have a function of their own.
use Rattle.kinds.specs.Kinds as k
use Rattle.definition.specs.Prog.{Prog, PATTERN_DEF, PATTERN_MODS, PATTERN_MOD, HEX_PATTERN, HEX_SUB_PATTERN, HEX_JUMP, opt, many, then, ◌⨟◌, ◌⫽◌, last, node}
use Rattle.definition.specs.Grammar.{one, some, cond, hex_unit}

-- of PATTERNS_BLK, PATTERN_DEF, PATTERN_MODS and PATTERN_MOD
abbrev pub pattern_defs : Prog
pattern_defs = some (node PATTERN_DEF)

abbrev pub pattern_value : Prog
pattern_value = one k.STRING_LIT ⫽ one k.REGEXP ⫽ last (node HEX_PATTERN)

abbrev pub any_mods : Prog
any_mods = opt (node PATTERN_MODS)

abbrev pub some_mods : Prog
some_mods = some (node PATTERN_MOD)

abbrev pub alphabet : Prog
alphabet = cond k.L_PAREN (one k.STRING_LIT ⨟ one k.R_PAREN)

abbrev pub xor_end : Prog
xor_end = cond k.HYPHEN (one k.INTEGER_LIT)

abbrev pub xor_range : Prog
xor_range = cond k.L_PAREN (one k.INTEGER_LIT ⨟ xor_end ⨟ one k.R_PAREN)

-- of HEX_SUB_PATTERN, HEX_ALTERNATIVE and HEX_JUMP
abbrev pub hex_jumps : Prog
hex_jumps = many (node HEX_JUMP)

abbrev pub hex_units : Prog
hex_units = many (hex_jumps ⨟ hex_unit)

abbrev pub hex_choices : Prog
hex_choices = many (one k.PIPE ⨟ then (node HEX_SUB_PATTERN))

abbrev pub jump_range : Prog
jump_range = (opt (one k.INTEGER_LIT) ⨟ one k.HYPHEN ⨟ opt (one k.INTEGER_LIT)) ⫽ last (one k.INTEGER_LIT)
