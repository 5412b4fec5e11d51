-- `jump_row` meets its contract.
use lib.ListN.{length}
use Rattle.tokens.proofs.Tests.{starts_jump}
use Rattle.cutter.proofs.Cuts.{of_start, in_bytes, by_found, renamed, jump_none, jump_some}
use Rattle.cutter.proofs.row.jump_row.Goals as goal

pub returns-in_default : goal.returns-in_default
returns-in_default c = renamed c.hex_row.ensures (jump_none _ (of_start 2 c.args.s.now starts_jump c.longest_from.ensures.0 c.in_default.is))

pub returns : goal.returns
returns c =
    let i = in_bytes (length c.args.s.now) _ _ c.longest_from.ensures.1 c.in-Some.is in
    by_found _ _ _ c.matching.ensures (jump_some _ _ _ (of_start 2 c.args.s.now starts_jump c.longest_from.ensures.0 c.in-Some.is)) i.0 i.1
