-- By its shape.
use native.Mathlib.Omega.{arith}
use mathlib.Core.List.{[], ◌∷◌}
use Rattle.kinds.specs.Kinds as k
use Rattle.definition.specs.Prog.{◌⨟◌, recover, node}
use Rattle.definition.specs.Prog as G
use Rattle.definition.specs.Grammar.{grammar, kind}
use Rattle.notes.specs.Means.{names_of}
use Rattle.grammar.specs.Parts.{condition}
use Rattle.parts.proofs.Lines.{from, plus, plus_b, plus_t, asks_s, then_past, stops}
use Rattle.steps.proofs.Modes.{fine, not_fine}
use Rattle.grammar.proofs.rules.condition.Goals as goal

pub returns-then-isnt-clause-read : goal.returns-then-isnt-clause-read
unfolding grammar kind names_of
returns-then-isnt-clause-read c = stops (from c.args.x.now c.args.s c.args.lent.now c.requires) c.args.x.now.entrypoint c.args.d c.args.may condition tt (not_fine _ c.if-isnt.ensures)

pub trivia-s-requires : goal.trivia-s-requires
trivia-s-requires c = (c.args.x.now.tiled.lines, ((from c.args.x.now c.args.s c.args.lent.now c.requires).wf.0.2.events, (from c.args.x.now c.args.s c.args.lent.now c.requires).wf.1.events))

pub condition_blk-s-requires : goal.condition_blk-s-requires
condition_blk-s-requires c = (plus_t (from c.args.x.now c.args.s c.args.lent.now c.requires) (c.trivia-s.ensures.0 c.args.x.now.src.now c.args.lent.now.notes)).wf

pub recover-s-requires : goal.recover-s-requires
recover-s-requires c = (asks_s (plus (plus_t (from c.args.x.now c.args.s c.args.lent.now c.requires) (c.trivia-s.ensures.0 c.args.x.now.src.now c.args.lent.now.notes)) c.condition_blk-s.ensures.read), omega arith)

pub returns-clause-read : goal.returns-clause-read
unfolding grammar kind names_of
returns-clause-read c = then_past c.args.x.now.entrypoint c.args.d c.args.may (node G.CONDITION_BLK ⨟ recover (k.R_BRACE ∷ [])) (fine _ c.if-isnt.ensures) (plus_b (plus (plus_t (from c.args.x.now c.args.s c.args.lent.now c.requires) (c.trivia-s.ensures.0 c.args.x.now.src.now c.args.lent.now.notes)) c.condition_blk-s.ensures.read) c.recover-s.ensures.step)
