-- `hex_row` meets its contract.
use mathlib.Core.Path.{refl}
use lib.ListN.{length}
use Rattle.tokens.proofs.Tests.{starts_hex}
use Rattle.cutter.proofs.Cuts.{of_start, in_bytes, by_found, made_below, hex_bracket, hex_other}
use Rattle.cutter.proofs.row.hex_row.Goals as goal

pub returns-in_default : goal.returns-in_default
returns-in_default c = made_below c.normal_row-r.ensures (of_start 1 c.args.s.now starts_hex c.tried.ensures.0 c.in_default.is) refl

pub returns-then-id : goal.returns-then-id
returns-then-id c =
    let i = in_bytes (length c.args.s.now) _ _ c.tried.ensures.1 c.in-Some.is in
    by_found _ _ _ c.matching.ensures (hex_bracket _ _ _ (of_start 1 c.args.s.now starts_hex c.tried.ensures.0 c.in-Some.is) c.if-id.true) i.0 i.1

pub returns : goal.returns
returns c =
    let i = in_bytes (length c.args.s.now) _ _ c.tried.ensures.1 c.in-Some.is in
    by_found _ _ _ c.matching-2.ensures (hex_other _ _ _ (of_start 1 c.args.s.now starts_hex c.tried.ensures.0 c.in-Some.is) c.if-id.false) i.0 i.1
