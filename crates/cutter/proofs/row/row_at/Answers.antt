-- `row_at` meets its contract.
use mathlib.Core.Path.{sym, ap, ◌∙◌}
use Rattle.tokens.specs.Modes.{number}
use Rattle.cutter.proofs.Cuts.{renamed, at_hex, at_jump, at_normal}
use Rattle.cutter.proofs.row.row_at.Goals as goal

pub returns-in-Normal : goal.returns-in-Normal
returns-in-Normal c = renamed c.normal_row.ensures (at_normal c.args.s.now c.args.place (sym c.mode_of.ensures ∙ ap number c.in-Normal.is))

pub returns-in-Hex : goal.returns-in-Hex
returns-in-Hex c = renamed c.hex_row.ensures (at_hex c.args.s.now c.args.place (sym c.mode_of.ensures ∙ ap number c.in-Hex.is))

pub returns-in-Jump : goal.returns-in-Jump
returns-in-Jump c = renamed c.jump_row.ensures (at_jump c.args.s.now c.args.place (sym c.mode_of.ensures ∙ ap number c.in-Jump.is))
