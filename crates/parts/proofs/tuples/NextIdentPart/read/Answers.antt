-- By its shape.
use native.Mathlib.Omega.{arith}
use Rattle.notes.specs.Means.{names_of}
use Rattle.parts.proofs.Lines.{from, plus, plus_e, asks_e, chain}
use Rattle.parts.proofs.tuples.NextIdentPart.read.Goals as goal

pub expect-s-requires : goal.expect-s-requires
expect-s-requires c = (asks_e (from c.args.x.now c.args.s c.args.lent.now c.requires) c.args.x.now.tiled.lines, omega arith)

pub expect-s-requires-2 : goal.expect-s-requires-2
expect-s-requires-2 c = (asks_e (plus_e (from c.args.x.now c.args.s c.args.lent.now c.requires) c.expect-s.ensures.step) c.args.x.now.tiled.lines, omega arith)

pub maybe-requires : goal.maybe-requires
maybe-requires c = ((plus_e (plus_e (from c.args.x.now c.args.s c.args.lent.now c.requires) c.expect-s.ensures.step) c.expect-s-2.ensures.step).wf, omega arith)

pub returns-clause-read : goal.returns-clause-read
unfolding names_of
returns-clause-read c = plus (plus_e (plus_e (from c.args.x.now c.args.s c.args.lent.now c.requires) c.expect-s.ensures.step) c.expect-s-2.ensures.step) c.maybe.ensures.read

pub returns-clause-lists : goal.returns-clause-lists
returns-clause-lists c = chain c.expect-s.ensures.lists (chain c.expect-s-2.ensures.lists c.maybe.ensures.lists)
