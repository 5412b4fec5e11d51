-- By its shape.
use native.Mathlib.Omega.{arith}
use Rattle.definition.specs.Grammar.{grammar, kind}
use Rattle.notes.specs.Means.{names_of}
use Rattle.parts.proofs.Lines.{from, plus_e, asks_e}
use Rattle.labels.proofs.IdentPart.read.Goals as goal

pub expect-requires : goal.expect-requires
expect-requires c = (asks_e (from c.args.x.now c.args.s c.args.lent.now c.requires) c.args.x.now.tiled.lines, omega arith)

pub returns-clause-read : goal.returns-clause-read
unfolding grammar kind names_of
returns-clause-read c = plus_e (from c.args.x.now c.args.s c.args.lent.now c.requires) c.expect.ensures.step
