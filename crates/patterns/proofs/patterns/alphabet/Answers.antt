-- By its shape.
use native.Mathlib.Omega.{arith}
use mathlib.Core.Path.{sym, ◌∙◌}
use mathlib.Core.List.{[], ◌∷◌}
use Rattle.kinds.specs.Kinds as k
use Rattle.definition.specs.Prog.{then, ◌⨟◌}
use Rattle.definition.specs.Grammar.{grammar, kind, one}
use Rattle.notes.specs.Means.{names_of}
use Rattle.parts.proofs.Lines.{from, here, plus, plus_e, plus_p, plus_t, asks_e, then_past, stops, enters, passes}
use Rattle.steps.proofs.Modes.{fine, not_fine}
use Rattle.patterns.proofs.patterns.alphabet.Goals as goal

pub returns-then-not-sees-clause-read : goal.returns-then-not-sees-clause-read
unfolding grammar kind names_of
returns-then-not-sees-clause-read c = passes (from c.args.x.now c.args.s c.args.lent.now c.requires) c.args.x.now.entrypoint c.args.d c.args.may (k.L_PAREN ∷ []) (one k.L_PAREN ⨟ then (one k.STRING_LIT ⨟ one k.R_PAREN)) c.sees.ensures (c.if-not-sees.true) (plus_p (from c.args.x.now c.args.s c.args.lent.now c.requires) (c.pass.ensures c.args.x.now.src.now c.args.x.now.rows.ends.now (from c.args.x.now c.args.s c.args.lent.now c.requires).wf.0 (sym c.sees.ensures ∙ (c.if-not-sees.true))))

pub expect-s-requires : goal.expect-s-requires
expect-s-requires c = (asks_e (plus_t (from c.args.x.now c.args.s c.args.lent.now c.requires) (c.trivia-s.ensures.0 c.args.x.now.src.now c.args.lent.now.notes)) c.args.x.now.tiled.lines, omega arith)

pub returns-then-isnt-clause-read : goal.returns-then-isnt-clause-read
unfolding grammar kind names_of
returns-then-isnt-clause-read c = enters (from c.args.x.now c.args.s c.args.lent.now c.requires) c.args.x.now.entrypoint c.args.d c.args.may (k.L_PAREN ∷ []) (one k.L_PAREN ⨟ then (one k.STRING_LIT ⨟ one k.R_PAREN)) c.sees.ensures (c.if-not-sees.false) (stops (plus_e (plus_t (from c.args.x.now c.args.s c.args.lent.now c.requires) (c.trivia-s.ensures.0 c.args.x.now.src.now c.args.lent.now.notes)) c.expect-s.ensures.step) c.args.x.now.entrypoint c.args.d c.args.may (then (one k.STRING_LIT ⨟ one k.R_PAREN)) tt (not_fine _ c.if-isnt.ensures))

pub trivia-s-requires-2 : goal.trivia-s-requires-2
trivia-s-requires-2 c = (c.args.x.now.tiled.lines, ((here (plus_e (plus_t (from c.args.x.now c.args.s c.args.lent.now c.requires) (c.trivia-s.ensures.0 c.args.x.now.src.now c.args.lent.now.notes)) c.expect-s.ensures.step)).wf.0.2.events, (here (plus_e (plus_t (from c.args.x.now c.args.s c.args.lent.now c.requires) (c.trivia-s.ensures.0 c.args.x.now.src.now c.args.lent.now.notes)) c.expect-s.ensures.step)).wf.1.events))

pub expect-s-requires-2 : goal.expect-s-requires-2
expect-s-requires-2 c = (asks_e (plus_t (here (plus_e (plus_t (from c.args.x.now c.args.s c.args.lent.now c.requires) (c.trivia-s.ensures.0 c.args.x.now.src.now c.args.lent.now.notes)) c.expect-s.ensures.step)) (c.trivia-s-2.ensures.0 c.args.x.now.src.now c.expect-s.new.lent.notes)) c.args.x.now.tiled.lines, omega arith)

pub expect-s-requires-3 : goal.expect-s-requires-3
expect-s-requires-3 c = (asks_e (plus_e (plus_t (here (plus_e (plus_t (from c.args.x.now c.args.s c.args.lent.now c.requires) (c.trivia-s.ensures.0 c.args.x.now.src.now c.args.lent.now.notes)) c.expect-s.ensures.step)) (c.trivia-s-2.ensures.0 c.args.x.now.src.now c.expect-s.new.lent.notes)) c.expect-s-2.ensures.step) c.args.x.now.tiled.lines, omega arith)

pub returns-clause-read : goal.returns-clause-read
unfolding grammar kind names_of
returns-clause-read c = enters (from c.args.x.now c.args.s c.args.lent.now c.requires) c.args.x.now.entrypoint c.args.d c.args.may (k.L_PAREN ∷ []) (one k.L_PAREN ⨟ then (one k.STRING_LIT ⨟ one k.R_PAREN)) c.sees.ensures (c.if-not-sees.false) ((plus (plus_e (plus_t (from c.args.x.now c.args.s c.args.lent.now c.requires) (c.trivia-s.ensures.0 c.args.x.now.src.now c.args.lent.now.notes)) c.expect-s.ensures.step) (then_past c.args.x.now.entrypoint c.args.d c.args.may (one k.STRING_LIT ⨟ one k.R_PAREN) (fine _ c.if-isnt.ensures) (plus_e (plus_e (plus_t (here (plus_e (plus_t (from c.args.x.now c.args.s c.args.lent.now c.requires) (c.trivia-s.ensures.0 c.args.x.now.src.now c.args.lent.now.notes)) c.expect-s.ensures.step)) (c.trivia-s-2.ensures.0 c.args.x.now.src.now c.expect-s.new.lent.notes)) c.expect-s-2.ensures.step) c.expect-s-3.ensures.step))))
