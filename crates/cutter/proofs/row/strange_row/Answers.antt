-- `strange_row` meets its contract.
use mathlib.Core.Path.{sym, ap, ◌∙◌}
use native.Mathlib.Omega.{arith}
use lib.ListN.{length}
use Rattle.tokens.proofs.Tests.{starts_unknown}
use Rattle.cutter.proofs.Cuts.{of_start, in_bytes, by_missed, strange_some, strange_invalid, strange_white}
use Rattle.cutter.proofs.row.strange_row.Goals as goal

pub returns-then-glyph_at-eq-INVALID : goal.returns-then-glyph_at-eq-INVALID
returns-then-glyph_at-eq-INVALID c = by_missed _ _ c.unmatched.ensures (strange_invalid _ (of_start 0 c.args.s.now starts_unknown c.longest_from.ensures.0 c.in_default.is) (sym (ap (λ u. u.0) c.glyph_at.ensures.0) ∙ c.if-glyph_at-eq-INVALID.true)) (omega arith) c.requires.0 c.requires.1

pub returns-in_default : goal.returns-in_default
returns-in_default c = by_missed _ _ c.unmatched-in_default.ensures (strange_white _ (of_start 0 c.args.s.now starts_unknown c.longest_from.ensures.0 c.in_default.is) (λ e. c.if-glyph_at-eq-INVALID.false (ap (λ u. u.0) c.glyph_at.ensures.0 ∙ e))) (omega arith) c.requires.0 c.requires.1

pub returns : goal.returns
returns c =
    let i = in_bytes (length c.args.s.now) _ c.in-Some.len c.longest_from.ensures.1 c.in-Some.is in
    by_missed _ _ c.unmatched-2.ensures (strange_some _ _ _ (of_start 0 c.args.s.now starts_unknown c.longest_from.ensures.0 c.in-Some.is)) i.0 i.1 c.requires.1
