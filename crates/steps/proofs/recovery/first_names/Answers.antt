use mathlib.Core.List.{List}
use mathlib.Core.Path.{subst}
use Prim.Native.Nat.{ℕ}
use Rattle.kinds.specs.Sets.{set_of}
use Rattle.definition.specs.Run as P
use Rattle.notes.specs.Whole.{beside}
use Rattle.notes.specs.Did.{Plain}
use Rattle.notes.proofs.Naming.{set_names}
use Rattle.steps.proofs.Ends.{names_first, names_pending}
use Rattle.steps.proofs.recovery.first_names.Goals as goal

pub returns-then-notes : goal.returns-then-notes
returns-then-notes c = λ x s w k. names_first (set_of c.args.set) c.if-notes.true (subst (λ (N : List ℕ). Plain (P.expected N) x (beside c.args.notes.now s) (beside c.expected.new.self s)) (set_names c.args.set c.requires.1) (c.expected.ensures x s w k))

pub returns-else-notes : goal.returns-else-notes
returns-else-notes c = λ x s w k. names_pending (set_of c.args.set) c.if-notes.false w
