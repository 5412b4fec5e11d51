use native.Mathlib.Omega.{arith}
use Rattle.notes.specs.Means.{names_of}
use Rattle.notes.proofs.Naming.{none_named}
use Rattle.notes.proofs.Furthest.{expected_nearer, expected_further, expected_again}
use Rattle.notes.proofs.names.Notes.expected.Goals as goal

pub returns-then-row-self : goal.returns-then-row-self
returns-then-row-self c = λ x s w k. expected_nearer w k (names_of c.args.code) c.if-row-self.true

pub enter-requires : goal.enter-requires
enter-requires c = (none_named c.args.self.now.codes c.requires.0.long, c.requires.1)

pub returns-then-self-row : goal.returns-then-self-row
returns-then-self-row c = λ x s w k. expected_further w k (names_of c.args.code) c.if-self-row.true (c.enter.ensures s)

pub returns : goal.returns
returns c = λ x s w k. expected_again w k (names_of c.args.code) (omega (arith, c.if-row-self.false, c.if-self-row.false)) (c.enter-2.ensures s)
