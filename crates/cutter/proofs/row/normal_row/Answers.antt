-- `normal_row` meets its contract.
use mathlib.Core.Path.{ap, ap₂, ◌∙◌}
use lib.ListN.{length}
use Rattle.tokens.proofs.Tests.{starts_normal}
use Rattle.cutter.proofs.Cuts.{of_start, in_bytes, by_found, renamed, normal_none, normal_word, normal_other}
use Rattle.cutter.proofs.row.normal_row.Goals as goal

pub returns-in_default : goal.returns-in_default
returns-in_default c = renamed c.strange_row.ensures (normal_none _ _ (of_start 0 c.args.s.now starts_normal c.tried.ensures.0 c.in_default.is))

pub returns-then-id : goal.returns-then-id
returns-then-id c =
    let i = in_bytes (length c.args.s.now) _ _ c.tried.ensures.1 c.in-Some.is in
    by_found _ _ _ c.matching.ensures
    (ap₂ (λ x y. (x, c.in-Some.len, y)) c.id_of.ensures c.onward.ensures ∙ normal_word _ _ _ _ (of_start 0 c.args.s.now starts_normal c.tried.ensures.0 c.in-Some.is) c.if-id.true) i.0 i.1

pub returns : goal.returns
returns c =
    let i = in_bytes (length c.args.s.now) _ _ c.tried.ensures.1 c.in-Some.is in
    by_found _ _ _ c.matching-2.ensures
    (ap (λ y. (c.in-Some.id, c.in-Some.len, y)) c.onward-2.ensures ∙ normal_other _ _ _ _ (of_start 0 c.args.s.now starts_normal c.tried.ensures.0 c.in-Some.is) c.if-id.false) i.0 i.1
