use native.Mathlib.Omega.{arith}
use mathlib.Core.Path.{sym, ◌∙◌}
use borrow.Author.Tests.{eq-eqb, ne_eqb}
use Rattle.notes.specs.Whole.{beside}
use Rattle.notes.proofs.Core.{blank}
use Rattle.notes.proofs.Naming.{mask_tests, enters_none, enters_one}
use Rattle.notes.proofs.names.Notes.enter.Goals as goal

pub returns-then-self-code-eq1 : goal.returns-then-self-code-eq1
returns-then-self-code-eq1 c = λ s. enters_none (beside c.args.self.now s) c.args.code c.requires.0 c.requires.1 (sym (mask_tests c.args.self.now.mask c.args.code c.requires.1) ∙ eq-eqb _ 1 c.if-self-code-eq1.true)

pub bounds-self-self : goal.bounds-self-self
bounds-self-self c = omega (arith, (enters_one (beside c.args.self.now blank) c.args.code c.requires.0 c.requires.1 (sym (mask_tests c.args.self.now.mask c.args.code c.requires.1) ∙ ne_eqb _ 1 c.if-self-code-eq1.false)).named.few)

pub returns : goal.returns
returns c = λ s. enters_one (beside c.args.self.now s) c.args.code c.requires.0 c.requires.1 (sym (mask_tests c.args.self.now.mask c.args.code c.requires.1) ∙ ne_eqb _ 1 c.if-self-code-eq1.false)
