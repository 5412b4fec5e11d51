-- By its shape.
use native.Mathlib.Omega.{arith}
use Rattle.definition.specs.Grammar.{grammar, kind}
use Rattle.notes.specs.Means.{names_of}
use Rattle.parts.proofs.Lines.{from, plus, plus_e, asks_e}
use Rattle.grammar.proofs.rules.sections.Goals as goal

pub metas-s-requires : goal.metas-s-requires
metas-s-requires c = (from c.args.x.now c.args.s c.args.lent.now c.requires).wf

pub patterns-s-requires : goal.patterns-s-requires
patterns-s-requires c = (plus (from c.args.x.now c.args.s c.args.lent.now c.requires) c.metas-s.ensures.read).wf

pub condition-s-requires : goal.condition-s-requires
condition-s-requires c = (plus (plus (from c.args.x.now c.args.s c.args.lent.now c.requires) c.metas-s.ensures.read) c.patterns-s.ensures.read).wf

pub expect-s-requires : goal.expect-s-requires
expect-s-requires c = (asks_e (plus (plus (plus (from c.args.x.now c.args.s c.args.lent.now c.requires) c.metas-s.ensures.read) c.patterns-s.ensures.read) c.condition-s.ensures.read) c.args.x.now.tiled.lines, omega arith)

pub returns-clause-read : goal.returns-clause-read
unfolding grammar kind names_of
returns-clause-read c = (plus_e (plus (plus (plus (from c.args.x.now c.args.s c.args.lent.now c.requires) c.metas-s.ensures.read) c.patterns-s.ensures.read) c.condition-s.ensures.read) c.expect-s.ensures.step)
