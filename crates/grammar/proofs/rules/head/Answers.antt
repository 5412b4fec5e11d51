-- By its shape.
use native.Mathlib.Omega.{arith}
use Rattle.definition.specs.Grammar.{grammar, kind}
use Rattle.notes.specs.Means.{names_of}
use Rattle.parts.proofs.Lines.{from, plus, plus_e, asks_e}
use Rattle.grammar.proofs.rules.head.Goals as goal

pub any_rule_mods-s-requires : goal.any_rule_mods-s-requires
any_rule_mods-s-requires c = (from c.args.x.now c.args.s c.args.lent.now c.requires).wf

pub expect-s-requires : goal.expect-s-requires
expect-s-requires c = (asks_e (plus (from c.args.x.now c.args.s c.args.lent.now c.requires) c.any_rule_mods-s.ensures.read) c.args.x.now.tiled.lines, omega arith)

pub expect-s-requires-2 : goal.expect-s-requires-2
expect-s-requires-2 c = (asks_e (plus_e (plus (from c.args.x.now c.args.s c.args.lent.now c.requires) c.any_rule_mods-s.ensures.read) c.expect-s.ensures.step) c.args.x.now.tiled.lines, omega arith)

pub tags-s-requires : goal.tags-s-requires
tags-s-requires c = (plus_e (plus_e (plus (from c.args.x.now c.args.s c.args.lent.now c.requires) c.any_rule_mods-s.ensures.read) c.expect-s.ensures.step) c.expect-s-2.ensures.step).wf

pub expect-s-requires-3 : goal.expect-s-requires-3
expect-s-requires-3 c = (asks_e (plus (plus_e (plus_e (plus (from c.args.x.now c.args.s c.args.lent.now c.requires) c.any_rule_mods-s.ensures.read) c.expect-s.ensures.step) c.expect-s-2.ensures.step) c.tags-s.ensures.read) c.args.x.now.tiled.lines, omega arith)

pub returns-clause-read : goal.returns-clause-read
unfolding grammar kind names_of
returns-clause-read c = (plus_e (plus (plus_e (plus_e (plus (from c.args.x.now c.args.s c.args.lent.now c.requires) c.any_rule_mods-s.ensures.read) c.expect-s.ensures.step) c.expect-s-2.ensures.step) c.tags-s.ensures.read) c.expect-s-3.ensures.step)
