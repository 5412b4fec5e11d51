-- `settings::lines::read_all` meets its contract: the lines before the rest of the text read.
use mathlib.Core.List.{[], ◌∷◌}
use mathlib.Core.Path.{sym, ◌∙◌}
use Rattle.std.specs.Prelude.{Some, None}
use Rattle.std.proofs.Common.{rules}
use Rattle.std.proofs.lemmas.Bool.Decides.{Decides-eqb}
use Rattle.std.proofs.lemmas.Slice.Eq.{strip_suffix_is}
use Rattle.settings.proofs.Scanning.{scanned, cut_short, not_read, out_of_turn, read_on, all_read}
use Rattle.settings.proofs.EndedLines.{next_line}
use Rattle.listing.proofs.Splits.{looks}
use Rattle.settings.proofs.lines.read_all.Goals as goal

pub loop-part-init : goal.loop-part-init
loop-part-init c = scanned _ _ _ (search rules)

pub returns-in_default : goal.returns-in_default
returns-in_default c = cut_short c.loop-part.invariant (next_line 10 _ c.in-Some.part.now _ _ (looks 10 (λ x b p k. search rules)) c.in-Some.ensures.steps) (strip_suffix_is Decides-eqb c.in-Some.part.now (10 ∷ []) None c.in_default.ensures.cases)

pub returns-in_default-read_line : goal.returns-in_default-read_line
returns-in_default-read_line c = not_read c.loop-part.invariant (next_line 10 _ c.in-Some.part.now _ _ (looks 10 (λ x b p k. search rules)) c.in-Some.ensures.steps) _ (strip_suffix_is Decides-eqb c.in-Some.part.now (10 ∷ []) (Some c.in-Some-strip_suffix.line) c.in-Some-strip_suffix.ensures.cases) (sym c.in_default-read_line.is ∙ c.read_line.ensures)

pub returns-then-number-last : goal.returns-then-number-last
returns-then-number-last c = out_of_turn c.loop-part.invariant (next_line 10 _ c.in-Some.part.now _ _ (looks 10 (λ x b p k. search rules)) c.in-Some.ensures.steps) _ (strip_suffix_is Decides-eqb c.in-Some.part.now (10 ∷ []) (Some c.in-Some-strip_suffix.line) c.in-Some-strip_suffix.ensures.cases) (sym c.in-Some-read_line.is ∙ c.read_line.ensures) c.if-number-last.true

pub loop-part-preserved : goal.loop-part-preserved
loop-part-preserved c = read_on c.loop-part.invariant (next_line 10 _ c.in-Some.part.now _ _ (looks 10 (λ x b p k. search rules)) c.in-Some.ensures.steps) _ (strip_suffix_is Decides-eqb c.in-Some.part.now (10 ∷ []) (Some c.in-Some-strip_suffix.line) c.in-Some-strip_suffix.ensures.cases) (sym c.in-Some-read_line.is ∙ c.read_line.ensures) (search rules) c.if-number-last.false c.later-values.ensures

pub returns : goal.returns
returns c = all_read c.loop-part.invariant (search rules)
