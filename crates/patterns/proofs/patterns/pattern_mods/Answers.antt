-- By its shape.
use Rattle.definition.specs.Prog as G
use Rattle.definition.specs.Grammar.{grammar, kind}
use Rattle.notes.specs.Means.{names_of}
use Rattle.parts.proofs.Exec.{begins, closes, makes, makes_none}
use Rattle.parts.proofs.Lines.{from, plus, ended}
use Rattle.patterns.proofs.patterns.pattern_mods.Goals as goal

pub end-requires : goal.end-requires
end-requires c = closes G.PATTERN_MODS c.args.may c.args.x.now.entrypoint c.args.d (from c.args.x.now c.args.s c.args.lent.now c.requires) (c.begin-s.ensures c.args.x.now.src.now c.args.lent.now.notes) (begins G.PATTERN_MODS c.args.may c.args.x.now.entrypoint c.args.d (from c.args.x.now c.args.s c.args.lent.now c.requires) (c.begin-s.ensures c.args.x.now.src.now c.args.lent.now.notes))

pub returns-then-d-eq0-clause-read : goal.returns-then-d-eq0-clause-read
unfolding grammar kind names_of
returns-then-d-eq0-clause-read c = makes_none G.PATTERN_MODS c.args.may c.args.x.now.entrypoint c.args.d (from c.args.x.now c.args.s c.args.lent.now c.requires) (c.begin-s.ensures c.args.x.now.src.now c.args.lent.now.notes) c.if-d-eq0.true (ended c.end.ensures.step)

pub some_mods-s-requires : goal.some_mods-s-requires
some_mods-s-requires c = (begins G.PATTERN_MODS c.args.may c.args.x.now.entrypoint c.args.d (from c.args.x.now c.args.s c.args.lent.now c.requires) (c.begin-s.ensures c.args.x.now.src.now c.args.lent.now.notes)).wf

pub end-requires-2 : goal.end-requires-2
end-requires-2 c = closes G.PATTERN_MODS c.args.may c.args.x.now.entrypoint c.args.d (from c.args.x.now c.args.s c.args.lent.now c.requires) (c.begin-s.ensures c.args.x.now.src.now c.args.lent.now.notes) (plus (begins G.PATTERN_MODS c.args.may c.args.x.now.entrypoint c.args.d (from c.args.x.now c.args.s c.args.lent.now c.requires) (c.begin-s.ensures c.args.x.now.src.now c.args.lent.now.notes)) c.some_mods-s.ensures.read)

pub returns-clause-read : goal.returns-clause-read
unfolding grammar kind names_of
returns-clause-read c = makes G.PATTERN_MODS c.args.may c.args.x.now.entrypoint c.args.d (from c.args.x.now c.args.s c.args.lent.now c.requires) (c.begin-s.ensures c.args.x.now.src.now c.args.lent.now.notes) c.if-d-eq0.false (plus (begins G.PATTERN_MODS c.args.may c.args.x.now.entrypoint c.args.d (from c.args.x.now c.args.s c.args.lent.now c.requires) (c.begin-s.ensures c.args.x.now.src.now c.args.lent.now.notes)) c.some_mods-s.ensures.read) (ended c.end-2.ensures.step)
