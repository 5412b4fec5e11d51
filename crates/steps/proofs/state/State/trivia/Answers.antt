use mathlib.Core.Path.{refl, sym, ◌∙◌}
use Rattle.steps.proofs.Modes.{fine, not_fine}
use Rattle.steps.proofs.Taken.{skips, trivia_on, trivia_over, trivia_out, trivia_idle}
use Rattle.steps.proofs.state.State.trivia.Goals as goal

pub returns-then-isnt : goal.returns-then-isnt
returns-then-isnt c = (λ bytes n w. trivia_idle w c.requires.1.1 (not_fine _ c.if-isnt.ensures), refl)

pub returns-then-not-is_trivia : goal.returns-then-not-is_trivia
returns-then-not-is_trivia c = (λ bytes n w. trivia_over (c.loop-self.invariant.of bytes n w) (fine _ c.if-isnt.ensures) c.loop-self-test.true (sym c.is_trivia.ensures ∙ c.if-not-is_trivia.true), c.loop-self.invariant.mode)

pub loop-self-preserved : goal.loop-self-preserved
loop-self-preserved c = skips c.put-self.result _ c.loop-self.invariant c.put-self.ensures (λ bytes n k. trivia_on k (fine _ c.if-isnt.ensures) c.start_of-start.result c.loop-self-test.true (sym c.is_trivia.ensures ∙ c.if-not-is_trivia.false) c.start_of-start.ensures (c.put-self.ensures n))

pub returns : goal.returns
returns c = (λ bytes n w. trivia_out (c.loop-self.invariant.of bytes n w) (fine _ c.if-isnt.ensures) c.loop-self-test.false, c.loop-self.invariant.mode)
