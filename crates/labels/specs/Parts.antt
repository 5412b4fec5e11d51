-- Parts of the grammar's lines of modifiers, tags and meta that have a function of their own.
use Rattle.std.specs.Prelude.{[], ◌∷◌}
use Rattle.kinds.specs.Kinds as k
use Rattle.definition.specs.Prog.{Prog, RULE_MODS, RULE_TAGS, META_BLK, META_DEF, ifnext, opt, ◌⨟◌, ◌⫽◌, last, recover, node}
use Rattle.definition.specs.Grammar.{set, one, some}

-- of RULE_DECL
abbrev pub any_rule_mods : Prog
any_rule_mods = opt (node RULE_MODS)

abbrev pub tags : Prog
tags = ifnext (k.COLON ∷ []) (node RULE_TAGS ⨟ recover (k.L_BRACE ∷ []))

abbrev pub metas : Prog
metas = ifnext (k.META_KW ∷ []) (node META_BLK ⨟ recover (k.STRINGS_KW ∷ k.CONDITION_KW ∷ []))

-- of RULE_TAGS, META_BLK and META_DEF
abbrev pub idents : Prog
idents = some (one k.IDENT)

abbrev pub meta_defs : Prog
meta_defs = some (node META_DEF)

abbrev pub meta_value : Prog
meta_value =
    (opt (one k.MINUS) ⨟ set (k.INTEGER_LIT ∷ k.FLOAT_LIT ∷ [])) ⫽ last (set (k.STRING_LIT ∷ k.TRUE_KW ∷ k.FALSE_KW ∷ []))
