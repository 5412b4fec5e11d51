use native.Mathlib.Omega.{arith}
use Rattle.notes.proofs.Furthest.{unexpected_further, unexpected_nearer}
use Rattle.notes.proofs.names.Notes.unexpected.Goals as goal

pub returns-then-self-at : goal.returns-then-self-at
returns-then-self-at c = λ x s w k. unexpected_further w k c.if-self-at.true

pub returns-else-self-at : goal.returns-else-self-at
returns-else-self-at c = λ x s w k. unexpected_nearer w k (omega (arith, c.if-self-at.false))
