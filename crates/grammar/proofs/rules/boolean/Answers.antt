-- By its shape.
use native.Mathlib.Omega.{arith}
use mathlib.Core.List.{[], ◌∷◌}
use Rattle.kinds.specs.Kinds as k
use Rattle.definition.specs.Prog.{recover, node}
use Rattle.definition.specs.Prog as G
use Rattle.definition.specs.Grammar.{grammar, kind}
use Rattle.notes.specs.Means.{names_of}
use Rattle.grammar.specs.Parts.{boolean}
use Rattle.parts.proofs.Lines.{from, here, plus, plus_b, asks_s, regroups, stops}
use Rattle.steps.proofs.Modes.{fine, not_fine}
use Rattle.grammar.proofs.rules.boolean.Goals as goal

pub returns-then-isnt-clause-read : goal.returns-then-isnt-clause-read
unfolding grammar kind names_of
returns-then-isnt-clause-read c = stops (from c.args.x.now c.args.s c.args.lent.now c.requires) c.args.x.now.entrypoint c.args.d c.args.may boolean tt (not_fine _ c.if-isnt.ensures)

pub bool_expr-s-requires : goal.bool_expr-s-requires
bool_expr-s-requires c = (here (from c.args.x.now c.args.s c.args.lent.now c.requires)).wf

pub recover-s-requires : goal.recover-s-requires
recover-s-requires c = (asks_s (plus (here (from c.args.x.now c.args.s c.args.lent.now c.requires)) c.bool_expr-s.ensures.read), omega arith)

pub returns-clause-read : goal.returns-clause-read
unfolding grammar kind names_of
returns-clause-read c = (plus (from c.args.x.now c.args.s c.args.lent.now c.requires) (regroups c.args.x.now.entrypoint c.args.d c.args.may (node G.BOOLEAN_EXPR) (recover (k.R_BRACE ∷ [])) (fine _ c.if-isnt.ensures) (plus_b (plus (here (from c.args.x.now c.args.s c.args.lent.now c.requires)) c.bool_expr-s.ensures.read) c.recover-s.ensures.step)))
