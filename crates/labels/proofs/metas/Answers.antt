-- By its shape.
use native.Mathlib.Omega.{arith}
use mathlib.Core.Path.{sym, ◌∙◌}
use mathlib.Core.List.{[], ◌∷◌}
use Rattle.kinds.specs.Kinds as k
use Rattle.definition.specs.Prog.{◌⨟◌, recover, node}
use Rattle.definition.specs.Prog as G
use Rattle.definition.specs.Grammar.{grammar, kind}
use Rattle.notes.specs.Means.{names_of}
use Rattle.parts.proofs.Lines.{from, plus, plus_b, plus_p, plus_t, asks_s, enters, passes}
use Rattle.labels.proofs.metas.Goals as goal

pub returns-then-not-sees-clause-read : goal.returns-then-not-sees-clause-read
unfolding grammar kind names_of
returns-then-not-sees-clause-read c = passes (from c.args.x.now c.args.s c.args.lent.now c.requires) c.args.x.now.entrypoint c.args.d c.args.may (k.META_KW ∷ []) (node G.META_BLK ⨟ recover (k.STRINGS_KW ∷ k.CONDITION_KW ∷ [])) c.sees.ensures (c.if-not-sees.true) (plus_p (from c.args.x.now c.args.s c.args.lent.now c.requires) (c.pass.ensures c.args.x.now.src.now c.args.x.now.rows.ends.now (from c.args.x.now c.args.s c.args.lent.now c.requires).wf.0 (sym c.sees.ensures ∙ (c.if-not-sees.true))))

pub meta_blk-s-requires : goal.meta_blk-s-requires
meta_blk-s-requires c = (plus_t (from c.args.x.now c.args.s c.args.lent.now c.requires) (c.trivia-s.ensures.0 c.args.x.now.src.now c.args.lent.now.notes)).wf

pub recover-s-requires : goal.recover-s-requires
recover-s-requires c = (asks_s (plus (plus_t (from c.args.x.now c.args.s c.args.lent.now c.requires) (c.trivia-s.ensures.0 c.args.x.now.src.now c.args.lent.now.notes)) c.meta_blk-s.ensures.read), omega arith)

pub returns-clause-read : goal.returns-clause-read
unfolding grammar kind names_of
returns-clause-read c = enters (from c.args.x.now c.args.s c.args.lent.now c.requires) c.args.x.now.entrypoint c.args.d c.args.may (k.META_KW ∷ []) (node G.META_BLK ⨟ recover (k.STRINGS_KW ∷ k.CONDITION_KW ∷ [])) c.sees.ensures (c.if-not-sees.false) ((plus_b (plus (plus_t (from c.args.x.now c.args.s c.args.lent.now c.requires) (c.trivia-s.ensures.0 c.args.x.now.src.now c.args.lent.now.notes)) c.meta_blk-s.ensures.read) c.recover-s.ensures.step))
