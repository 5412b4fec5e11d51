-- Hex patterns that hold one another, each by its shape; what falls is the depth.
use mathlib.Core.Bool.{true}
use Rattle.kinds.specs.Kinds as k
use Rattle.definition.specs.Prog.{then, ◌⨟◌, node}
use Rattle.definition.specs.Prog as G
use Rattle.definition.specs.Grammar.{one, hex_unit}
use Rattle.parts.specs.Reads.{reads}
use Rattle.patterns.specs.Parts.{hex_jumps}
use Rattle.parts.proofs.Lines.{Turns}
use Prim.Native.Nat.{◌+◌, ◌*◌}
use Rattle.patterns.proofs.hex.+hexes.Given as goal

abbrev pub decreases-hex_alternative : goal.decreases-hex_alternative
decreases-hex_alternative l = 8 * l.d + 0

abbrev pub decreases-hex_choices : goal.decreases-hex_choices
decreases-hex_choices l = 8 * l.d + 1

abbrev pub decreases-hex_sub_pattern : goal.decreases-hex_sub_pattern
decreases-hex_sub_pattern l = 8 * l.d + 0

abbrev pub decreases-hex_unit : goal.decreases-hex_unit
decreases-hex_unit l = 8 * l.d + 1

abbrev pub decreases-hex_units : goal.decreases-hex_units
decreases-hex_units l = 8 * l.d + 2

abbrev pub invariant-hex_choices-loop-turn : goal.invariant-hex_choices-loop-turn
invariant-hex_choices-loop-turn l = Turns (reads l.x.entrypoint l.d true (one k.PIPE ⨟ then (node G.HEX_SUB_PATTERN))) l.x l.initial.s l.s l.initial.lent l.lent l.turns l.turn

abbrev pub invariant-hex_units-loop-turn : goal.invariant-hex_units-loop-turn
invariant-hex_units-loop-turn l = Turns (reads l.x.entrypoint l.d true (hex_jumps ⨟ hex_unit)) l.x l.initial.s l.s l.initial.lent l.lent l.turns l.turn
