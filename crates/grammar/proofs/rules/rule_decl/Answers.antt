-- By its shape.
use Rattle.definition.specs.Prog as G
use Rattle.definition.specs.Grammar.{grammar, kind}
use Rattle.notes.specs.Means.{names_of}
use Rattle.parts.proofs.Exec.{begins, closes, makes, makes_none}
use Rattle.parts.proofs.Lines.{from, plus, ended}
use Rattle.grammar.proofs.rules.rule_decl.Goals as goal

pub begin-s-requires : goal.begin-s-requires
begin-s-requires c = (c.args.x.now.tiled.lines, ((from c.args.x.now c.args.s c.args.lent.now c.requires).wf.0.2.events, (from c.args.x.now c.args.s c.args.lent.now c.requires).wf.1.events), (from c.args.x.now c.args.s c.args.lent.now c.requires).wf.0.0.here)

pub end-requires : goal.end-requires
end-requires c = closes G.RULE_DECL c.args.may c.args.x.now.entrypoint c.args.d (from c.args.x.now c.args.s c.args.lent.now c.requires) (c.begin-s.ensures c.args.x.now.src.now c.args.lent.now.notes) (begins G.RULE_DECL c.args.may c.args.x.now.entrypoint c.args.d (from c.args.x.now c.args.s c.args.lent.now c.requires) (c.begin-s.ensures c.args.x.now.src.now c.args.lent.now.notes))

pub returns-then-d-eq0-clause-read : goal.returns-then-d-eq0-clause-read
unfolding grammar kind names_of
returns-then-d-eq0-clause-read c = makes_none G.RULE_DECL c.args.may c.args.x.now.entrypoint c.args.d (from c.args.x.now c.args.s c.args.lent.now c.requires) (c.begin-s.ensures c.args.x.now.src.now c.args.lent.now.notes) c.if-d-eq0.true (ended c.end.ensures.step)

pub head-s-requires : goal.head-s-requires
head-s-requires c = (begins G.RULE_DECL c.args.may c.args.x.now.entrypoint c.args.d (from c.args.x.now c.args.s c.args.lent.now c.requires) (c.begin-s.ensures c.args.x.now.src.now c.args.lent.now.notes)).wf

pub sections-s-requires : goal.sections-s-requires
sections-s-requires c = (plus (begins G.RULE_DECL c.args.may c.args.x.now.entrypoint c.args.d (from c.args.x.now c.args.s c.args.lent.now c.requires) (c.begin-s.ensures c.args.x.now.src.now c.args.lent.now.notes)) c.head-s.ensures.read).wf

pub end-requires-2 : goal.end-requires-2
end-requires-2 c = closes G.RULE_DECL c.args.may c.args.x.now.entrypoint c.args.d (from c.args.x.now c.args.s c.args.lent.now c.requires) (c.begin-s.ensures c.args.x.now.src.now c.args.lent.now.notes) (plus (plus (begins G.RULE_DECL c.args.may c.args.x.now.entrypoint c.args.d (from c.args.x.now c.args.s c.args.lent.now c.requires) (c.begin-s.ensures c.args.x.now.src.now c.args.lent.now.notes)) c.head-s.ensures.read) c.sections-s.ensures.read)

pub returns-clause-read : goal.returns-clause-read
unfolding grammar kind names_of
returns-clause-read c = makes G.RULE_DECL c.args.may c.args.x.now.entrypoint c.args.d (from c.args.x.now c.args.s c.args.lent.now c.requires) (c.begin-s.ensures c.args.x.now.src.now c.args.lent.now.notes) c.if-d-eq0.false (plus (plus (begins G.RULE_DECL c.args.may c.args.x.now.entrypoint c.args.d (from c.args.x.now c.args.s c.args.lent.now c.requires) (c.begin-s.ensures c.args.x.now.src.now c.args.lent.now.notes)) c.head-s.ensures.read) c.sections-s.ensures.read) (ended c.end-2.ensures.step)
