-- By its shape.
use native.Mathlib.Omega.{arith}
use Rattle.definition.specs.Prog as G
use Rattle.definition.specs.Grammar.{grammar, kind}
use Rattle.notes.specs.Means.{names_of}
use Rattle.parts.proofs.Exec.{begins, closes, makes, makes_none}
use Rattle.parts.proofs.Lines.{from, plus, plus_e, asks_e, ended}
use Rattle.grammar.proofs.rules.condition_blk.Goals as goal

pub begin-s-requires : goal.begin-s-requires
begin-s-requires c = (c.args.x.now.tiled.lines, ((from c.args.x.now c.args.s c.args.lent.now c.requires).wf.0.2.events, (from c.args.x.now c.args.s c.args.lent.now c.requires).wf.1.events), (from c.args.x.now c.args.s c.args.lent.now c.requires).wf.0.0.here)

pub end-requires : goal.end-requires
end-requires c = closes G.CONDITION_BLK c.args.may c.args.x.now.entrypoint c.args.d (from c.args.x.now c.args.s c.args.lent.now c.requires) (c.begin-s.ensures c.args.x.now.src.now c.args.lent.now.notes) (begins G.CONDITION_BLK c.args.may c.args.x.now.entrypoint c.args.d (from c.args.x.now c.args.s c.args.lent.now c.requires) (c.begin-s.ensures c.args.x.now.src.now c.args.lent.now.notes))

pub returns-then-d-eq0-clause-read : goal.returns-then-d-eq0-clause-read
unfolding grammar kind names_of
returns-then-d-eq0-clause-read c = makes_none G.CONDITION_BLK c.args.may c.args.x.now.entrypoint c.args.d (from c.args.x.now c.args.s c.args.lent.now c.requires) (c.begin-s.ensures c.args.x.now.src.now c.args.lent.now.notes) c.if-d-eq0.true (ended c.end.ensures.step)

pub expect-s-requires : goal.expect-s-requires
expect-s-requires c = (asks_e (begins G.CONDITION_BLK c.args.may c.args.x.now.entrypoint c.args.d (from c.args.x.now c.args.s c.args.lent.now c.requires) (c.begin-s.ensures c.args.x.now.src.now c.args.lent.now.notes)) c.args.x.now.tiled.lines, omega arith)

pub expect-s-requires-2 : goal.expect-s-requires-2
expect-s-requires-2 c = (asks_e (plus_e (begins G.CONDITION_BLK c.args.may c.args.x.now.entrypoint c.args.d (from c.args.x.now c.args.s c.args.lent.now c.requires) (c.begin-s.ensures c.args.x.now.src.now c.args.lent.now.notes)) c.expect-s.ensures.step) c.args.x.now.tiled.lines, omega arith)

pub boolean-s-requires : goal.boolean-s-requires
boolean-s-requires c = (plus_e (plus_e (begins G.CONDITION_BLK c.args.may c.args.x.now.entrypoint c.args.d (from c.args.x.now c.args.s c.args.lent.now c.requires) (c.begin-s.ensures c.args.x.now.src.now c.args.lent.now.notes)) c.expect-s.ensures.step) c.expect-s-2.ensures.step).wf

pub end-requires-2 : goal.end-requires-2
end-requires-2 c = closes G.CONDITION_BLK c.args.may c.args.x.now.entrypoint c.args.d (from c.args.x.now c.args.s c.args.lent.now c.requires) (c.begin-s.ensures c.args.x.now.src.now c.args.lent.now.notes) (plus (plus_e (plus_e (begins G.CONDITION_BLK c.args.may c.args.x.now.entrypoint c.args.d (from c.args.x.now c.args.s c.args.lent.now c.requires) (c.begin-s.ensures c.args.x.now.src.now c.args.lent.now.notes)) c.expect-s.ensures.step) c.expect-s-2.ensures.step) c.boolean-s.ensures.read)

pub returns-clause-read : goal.returns-clause-read
unfolding grammar kind names_of
returns-clause-read c = makes G.CONDITION_BLK c.args.may c.args.x.now.entrypoint c.args.d (from c.args.x.now c.args.s c.args.lent.now c.requires) (c.begin-s.ensures c.args.x.now.src.now c.args.lent.now.notes) c.if-d-eq0.false (plus (plus_e (plus_e (begins G.CONDITION_BLK c.args.may c.args.x.now.entrypoint c.args.d (from c.args.x.now c.args.s c.args.lent.now c.requires) (c.begin-s.ensures c.args.x.now.src.now c.args.lent.now.notes)) c.expect-s.ensures.step) c.expect-s-2.ensures.step) c.boolean-s.ensures.read) (ended c.end-2.ensures.step)
