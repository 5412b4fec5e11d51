-- Parts of the grammar's lines that have a function of their own, and the limits that an item is read by.
use Rattle.std.specs.Prelude.{ℕ, Bool, [], ◌∷◌}
use Rattle.kinds.specs.Kinds as k
use Rattle.definition.specs.Prog.{Prog, PATTERNS_BLK, CONDITION_BLK, BOOLEAN_EXPR, ifnext, then, ◌⨟◌, recover, node}
use Rattle.definition.specs.Grammar.{one}
use Rattle.definition.specs.Run as P
use Rattle.labels.specs.Parts.{any_rule_mods, tags, metas}

-- how many nodes may be open, and whether entrypoint is allowed
abbrev pub reach : P.Limits → ℕ × Bool
reach L = (L.depth, L.entrypoint)

-- of RULE_DECL
abbrev pub patterns : Prog
patterns = ifnext (k.STRINGS_KW ∷ []) (node PATTERNS_BLK ⨟ recover (k.CONDITION_KW ∷ []))

abbrev pub condition : Prog
condition = then (node CONDITION_BLK ⨟ recover (k.R_BRACE ∷ []))

abbrev pub head : Prog
head = any_rule_mods ⨟ one k.RULE_KW ⨟ one k.IDENT ⨟ tags ⨟ one k.L_BRACE

abbrev pub sections : Prog
sections = metas ⨟ patterns ⨟ condition ⨟ one k.R_BRACE

-- of CONDITION_BLK
abbrev pub boolean : Prog
boolean = then (node BOOLEAN_EXPR ⨟ recover (k.R_BRACE ∷ []))
