-- By its shape.
use native.Mathlib.Omega.{arith}
use mathlib.Core.Path.{sym, ◌∙◌}
use mathlib.Core.List.{[], ◌∷◌}
use Rattle.kinds.specs.Kinds as k
use Rattle.definition.specs.Prog.{◌⨟◌, recover, node}
use Rattle.definition.specs.Prog as G
use Rattle.definition.specs.Grammar.{grammar, kind}
use Rattle.notes.specs.Means.{names_of}
use Rattle.parts.proofs.Lines.{from, plus, plus_b, plus_p, plus_t, asks_s, enters, passes}
use Rattle.grammar.proofs.rules.patterns.Goals as goal

pub returns-then-not-sees-clause-read : goal.returns-then-not-sees-clause-read
unfolding grammar kind names_of
returns-then-not-sees-clause-read c = passes (from c.args.x.now c.args.s c.args.lent.now c.requires) c.args.x.now.entrypoint c.args.d c.args.may (k.STRINGS_KW ∷ []) (node G.PATTERNS_BLK ⨟ recover (k.CONDITION_KW ∷ [])) c.sees.ensures (c.if-not-sees.true) (plus_p (from c.args.x.now c.args.s c.args.lent.now c.requires) (c.pass.ensures c.args.x.now.src.now c.args.x.now.rows.ends.now (from c.args.x.now c.args.s c.args.lent.now c.requires).wf.0 (sym c.sees.ensures ∙ (c.if-not-sees.true))))

pub trivia-s-requires : goal.trivia-s-requires
trivia-s-requires c = (c.args.x.now.tiled.lines, ((from c.args.x.now c.args.s c.args.lent.now c.requires).wf.0.2.events, (from c.args.x.now c.args.s c.args.lent.now c.requires).wf.1.events))

pub patterns_blk-s-requires : goal.patterns_blk-s-requires
patterns_blk-s-requires c = (plus_t (from c.args.x.now c.args.s c.args.lent.now c.requires) (c.trivia-s.ensures.0 c.args.x.now.src.now c.args.lent.now.notes)).wf

pub recover-s-requires : goal.recover-s-requires
recover-s-requires c = (asks_s (plus (plus_t (from c.args.x.now c.args.s c.args.lent.now c.requires) (c.trivia-s.ensures.0 c.args.x.now.src.now c.args.lent.now.notes)) c.patterns_blk-s.ensures.read), omega arith)

pub returns-clause-read : goal.returns-clause-read
unfolding grammar kind names_of
returns-clause-read c = enters (from c.args.x.now c.args.s c.args.lent.now c.requires) c.args.x.now.entrypoint c.args.d c.args.may (k.STRINGS_KW ∷ []) (node G.PATTERNS_BLK ⨟ recover (k.CONDITION_KW ∷ [])) c.sees.ensures (c.if-not-sees.false) ((plus_b (plus (plus_t (from c.args.x.now c.args.s c.args.lent.now c.requires) (c.trivia-s.ensures.0 c.args.x.now.src.now c.args.lent.now.notes)) c.patterns_blk-s.ensures.read) c.recover-s.ensures.step))
