-- By its shape.
use native.Mathlib.Omega.{arith}
use mathlib.Core.Path.{sym, ◌∙◌}
use mathlib.Core.List.{[], ◌∷◌}
use Rattle.kinds.specs.Kinds as k
use Rattle.definition.specs.Prog.{◌⨟◌, recover, node}
use Rattle.definition.specs.Prog as G
use Rattle.definition.specs.Grammar.{grammar, kind}
use Rattle.notes.specs.Means.{names_of}
use Rattle.parts.proofs.Lines.{from, plus, plus_b, plus_p, plus_t, asks_s, enters, passes}
use Rattle.labels.proofs.tags.Goals as goal

pub returns-then-not-sees-clause-read : goal.returns-then-not-sees-clause-read
unfolding grammar kind names_of
returns-then-not-sees-clause-read c = passes (from c.args.x.now c.args.s c.args.lent.now c.requires) c.args.x.now.entrypoint c.args.d c.args.may (k.COLON ∷ []) (node G.RULE_TAGS ⨟ recover (k.L_BRACE ∷ [])) c.sees.ensures (c.if-not-sees.true) (plus_p (from c.args.x.now c.args.s c.args.lent.now c.requires) (c.pass.ensures c.args.x.now.src.now c.args.x.now.rows.ends.now (from c.args.x.now c.args.s c.args.lent.now c.requires).wf.0 (sym c.sees.ensures ∙ (c.if-not-sees.true))))

pub rule_tags-s-requires : goal.rule_tags-s-requires
rule_tags-s-requires c = (plus_t (from c.args.x.now c.args.s c.args.lent.now c.requires) (c.trivia-s.ensures.0 c.args.x.now.src.now c.args.lent.now.notes)).wf

pub recover-s-requires : goal.recover-s-requires
recover-s-requires c = (asks_s (plus (plus_t (from c.args.x.now c.args.s c.args.lent.now c.requires) (c.trivia-s.ensures.0 c.args.x.now.src.now c.args.lent.now.notes)) c.rule_tags-s.ensures.read), omega arith)

pub returns-clause-read : goal.returns-clause-read
unfolding grammar kind names_of
returns-clause-read c = enters (from c.args.x.now c.args.s c.args.lent.now c.requires) c.args.x.now.entrypoint c.args.d c.args.may (k.COLON ∷ []) (node G.RULE_TAGS ⨟ recover (k.L_BRACE ∷ [])) c.sees.ensures (c.if-not-sees.false) ((plus_b (plus (plus_t (from c.args.x.now c.args.s c.args.lent.now c.requires) (c.trivia-s.ensures.0 c.args.x.now.src.now c.args.lent.now.notes)) c.rule_tags-s.ensures.read) c.recover-s.ensures.step))
