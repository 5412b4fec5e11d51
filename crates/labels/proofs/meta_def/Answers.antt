-- By its shape.
use native.Mathlib.Omega.{arith}
use Rattle.definition.specs.Prog as G
use Rattle.definition.specs.Grammar.{grammar, kind}
use Rattle.notes.specs.Means.{names_of}
use Rattle.parts.proofs.Exec.{begins, closes, makes, makes_none}
use Rattle.parts.proofs.Lines.{from, plus, plus_e, asks_e, ended}
use Rattle.labels.proofs.meta_def.Goals as goal

pub end-requires : goal.end-requires
end-requires c = closes G.META_DEF c.args.may c.args.x.now.entrypoint c.args.d (from c.args.x.now c.args.s c.args.lent.now c.requires) (c.begin-s.ensures c.args.x.now.src.now c.args.lent.now.notes) (begins G.META_DEF c.args.may c.args.x.now.entrypoint c.args.d (from c.args.x.now c.args.s c.args.lent.now c.requires) (c.begin-s.ensures c.args.x.now.src.now c.args.lent.now.notes))

pub returns-then-d-eq0-clause-read : goal.returns-then-d-eq0-clause-read
unfolding grammar kind names_of
returns-then-d-eq0-clause-read c = makes_none G.META_DEF c.args.may c.args.x.now.entrypoint c.args.d (from c.args.x.now c.args.s c.args.lent.now c.requires) (c.begin-s.ensures c.args.x.now.src.now c.args.lent.now.notes) c.if-d-eq0.true (ended c.end.ensures.step)

pub expect-s-requires : goal.expect-s-requires
expect-s-requires c = (asks_e (begins G.META_DEF c.args.may c.args.x.now.entrypoint c.args.d (from c.args.x.now c.args.s c.args.lent.now c.requires) (c.begin-s.ensures c.args.x.now.src.now c.args.lent.now.notes)) c.args.x.now.tiled.lines, omega arith)

pub expect-s-requires-2 : goal.expect-s-requires-2
expect-s-requires-2 c = (asks_e (plus_e (begins G.META_DEF c.args.may c.args.x.now.entrypoint c.args.d (from c.args.x.now c.args.s c.args.lent.now c.requires) (c.begin-s.ensures c.args.x.now.src.now c.args.lent.now.notes)) c.expect-s.ensures.step) c.args.x.now.tiled.lines, omega arith)

pub meta_value-s-requires : goal.meta_value-s-requires
meta_value-s-requires c = (plus_e (plus_e (begins G.META_DEF c.args.may c.args.x.now.entrypoint c.args.d (from c.args.x.now c.args.s c.args.lent.now c.requires) (c.begin-s.ensures c.args.x.now.src.now c.args.lent.now.notes)) c.expect-s.ensures.step) c.expect-s-2.ensures.step).wf

pub end-requires-2 : goal.end-requires-2
end-requires-2 c = closes G.META_DEF c.args.may c.args.x.now.entrypoint c.args.d (from c.args.x.now c.args.s c.args.lent.now c.requires) (c.begin-s.ensures c.args.x.now.src.now c.args.lent.now.notes) (plus (plus_e (plus_e (begins G.META_DEF c.args.may c.args.x.now.entrypoint c.args.d (from c.args.x.now c.args.s c.args.lent.now c.requires) (c.begin-s.ensures c.args.x.now.src.now c.args.lent.now.notes)) c.expect-s.ensures.step) c.expect-s-2.ensures.step) c.meta_value-s.ensures.read)

pub returns-clause-read : goal.returns-clause-read
unfolding grammar kind names_of
returns-clause-read c = makes G.META_DEF c.args.may c.args.x.now.entrypoint c.args.d (from c.args.x.now c.args.s c.args.lent.now c.requires) (c.begin-s.ensures c.args.x.now.src.now c.args.lent.now.notes) c.if-d-eq0.false (plus (plus_e (plus_e (begins G.META_DEF c.args.may c.args.x.now.entrypoint c.args.d (from c.args.x.now c.args.s c.args.lent.now c.requires) (c.begin-s.ensures c.args.x.now.src.now c.args.lent.now.notes)) c.expect-s.ensures.step) c.expect-s-2.ensures.step) c.meta_value-s.ensures.read) (ended c.end-2.ensures.step)
