use native.Mathlib.Omega.{arith}
use mathlib.Core.Path.{sym, ◌∙◌, refl}
use Rattle.kinds.specs.Sets.{set_of}
use Rattle.definition.specs.Run as P
use Rattle.notes.proofs.Peeks.{peeking, peeks_stop, peeks_end, peeks_shift, peeks_on_behind}
use Rattle.steps.proofs.Next.{next_has, next_lacks, next_end}
use Rattle.steps.proofs.Taken.{skips}
use Rattle.steps.proofs.Skips.{skip_on, skip_over}
use Rattle.steps.proofs.state.State.skip_to.Goals as goal

pub rows-preserved-then-seen-at : goal.rows-preserved-then-seen-at
rows-preserved-then-seen-at c = (skips c.put-self.result _ c.rows.invariant.0 c.put-self.ensures (λ bytes n k. skip_on (set_of c.args.set) k c.start_of-start.result c.rows-test.true (next_lacks (set_of c.args.set) (peeks_stop c.loop-seen.invariant c.if-seen-rows.false (sym c.is_trivia.ensures ∙ c.if-not-is_trivia.true)) c.if-seen-rows.false (sym c.if-has.false ∙ c.has.ensures)) c.start_of-start.ensures (c.put-self.ensures n)), peeks_on_behind c.rows-test.true)

pub rows-preserved : goal.rows-preserved
rows-preserved c = (skips c.put-self.result _ c.rows.invariant.0 c.put-self.ensures (λ bytes n k. skip_on (set_of c.args.set) k c.start_of-start.result c.rows-test.true (next_lacks (set_of c.args.set) (peeks_stop c.loop-seen.invariant c.if-seen-rows.false (sym c.is_trivia.ensures ∙ c.if-not-is_trivia.true)) c.if-seen-rows.false (sym c.if-has.false ∙ c.has.ensures)) c.start_of-start.ensures (c.put-self.ensures n)), peeks_shift c.loop-seen.invariant (omega (arith, c.if-seen-at.false)))

pub returns-after-rows : goal.returns-after-rows
returns-after-rows c = λ bytes n w. skip_over (set_of c.args.set) (c.rows.invariant.0.of bytes n w) P.Next.end refl (next_end (set_of c.args.set) (peeks_end (peeking (omega (arith, c.rows.invariant.1.ahead, c.rows.invariant.1.within))) c.rows-test.false) c.rows-test.false)

pub returns-then-seen-rows : goal.returns-then-seen-rows
returns-then-seen-rows c = λ bytes n w. skip_over (set_of c.args.set) (c.rows.invariant.0.of bytes n w) P.Next.end refl (next_end (set_of c.args.set) (peeks_end c.loop-seen.invariant c.if-seen-rows.true) c.if-seen-rows.true)

pub returns-then-has : goal.returns-then-has
returns-then-has c = λ bytes n w. skip_over (set_of c.args.set) (c.rows.invariant.0.of bytes n w) (P.Next.hit _ _) refl (next_has (set_of c.args.set) (peeks_stop c.loop-seen.invariant c.if-seen-rows.false (sym c.is_trivia.ensures ∙ c.if-not-is_trivia.true)) c.if-seen-rows.false (sym c.if-has.true ∙ c.has.ensures))
