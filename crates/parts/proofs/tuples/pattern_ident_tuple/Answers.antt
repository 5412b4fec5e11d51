-- A node around its line.
use native.Mathlib.Omega.{arith}
use Rattle.definition.specs.Prog.{then, node}
use Rattle.definition.specs.Prog as G
use Rattle.definition.specs.Grammar.{grammar, kind}
use Rattle.notes.specs.Means.{names_of}
use Rattle.parts.proofs.Exec.{begins, closes, makes, makes_none}
use Rattle.parts.proofs.Lines.{from, plus, plus_e, plus_t, asks_e, then_past, stops, ended}
use Rattle.steps.proofs.Modes.{fine, not_fine}
use Rattle.parts.proofs.tuples.pattern_ident_tuple.Goals as goal

pub returns-then-isnt-clause-read : goal.returns-then-isnt-clause-read
unfolding grammar kind names_of
returns-then-isnt-clause-read c = stops (from c.args.x.now c.args.s c.args.lent.now c.requires) c.args.x.now.entrypoint c.args.d c.args.may (then (node G.PATTERN_IDENT_TUPLE)) tt (not_fine _ c.if-isnt.ensures)

pub end-requires : goal.end-requires
end-requires c = closes G.PATTERN_IDENT_TUPLE c.args.may c.args.x.now.entrypoint c.args.d (plus_t (from c.args.x.now c.args.s c.args.lent.now c.requires) (c.trivia-s.ensures.0 c.args.x.now.src.now c.args.lent.now.notes)) (c.begin-s.ensures c.args.x.now.src.now c.args.lent.now.notes) (begins G.PATTERN_IDENT_TUPLE c.args.may c.args.x.now.entrypoint c.args.d (plus_t (from c.args.x.now c.args.s c.args.lent.now c.requires) (c.trivia-s.ensures.0 c.args.x.now.src.now c.args.lent.now.notes)) (c.begin-s.ensures c.args.x.now.src.now c.args.lent.now.notes))

pub returns-then-d-eq0-clause-read : goal.returns-then-d-eq0-clause-read
unfolding grammar kind names_of
returns-then-d-eq0-clause-read c = then_past c.args.x.now.entrypoint c.args.d c.args.may (node G.PATTERN_IDENT_TUPLE) (fine _ c.if-isnt.ensures) (makes_none G.PATTERN_IDENT_TUPLE c.args.may c.args.x.now.entrypoint c.args.d (plus_t (from c.args.x.now c.args.s c.args.lent.now c.requires) (c.trivia-s.ensures.0 c.args.x.now.src.now c.args.lent.now.notes)) (c.begin-s.ensures c.args.x.now.src.now c.args.lent.now.notes) c.if-d-eq0.true (ended c.end.ensures.step))

pub expect-s-requires : goal.expect-s-requires
expect-s-requires c = (asks_e (begins G.PATTERN_IDENT_TUPLE c.args.may c.args.x.now.entrypoint c.args.d (plus_t (from c.args.x.now c.args.s c.args.lent.now c.requires) (c.trivia-s.ensures.0 c.args.x.now.src.now c.args.lent.now.notes)) (c.begin-s.ensures c.args.x.now.src.now c.args.lent.now.notes)) c.args.x.now.tiled.lines, omega arith)

pub expect-s-requires-2 : goal.expect-s-requires-2
expect-s-requires-2 c = (asks_e (plus_e (begins G.PATTERN_IDENT_TUPLE c.args.may c.args.x.now.entrypoint c.args.d (plus_t (from c.args.x.now c.args.s c.args.lent.now c.requires) (c.trivia-s.ensures.0 c.args.x.now.src.now c.args.lent.now.notes)) (c.begin-s.ensures c.args.x.now.src.now c.args.lent.now.notes)) c.expect-s.ensures.step) c.args.x.now.tiled.lines, omega arith)

pub maybe-s-requires : goal.maybe-s-requires
maybe-s-requires c = ((plus_e (plus_e (begins G.PATTERN_IDENT_TUPLE c.args.may c.args.x.now.entrypoint c.args.d (plus_t (from c.args.x.now c.args.s c.args.lent.now c.requires) (c.trivia-s.ensures.0 c.args.x.now.src.now c.args.lent.now.notes)) (c.begin-s.ensures c.args.x.now.src.now c.args.lent.now.notes)) c.expect-s.ensures.step) c.expect-s-2.ensures.step).wf, omega arith)

pub end-requires-2 : goal.end-requires-2
end-requires-2 c = closes G.PATTERN_IDENT_TUPLE c.args.may c.args.x.now.entrypoint c.args.d (plus_t (from c.args.x.now c.args.s c.args.lent.now c.requires) (c.trivia-s.ensures.0 c.args.x.now.src.now c.args.lent.now.notes)) (c.begin-s.ensures c.args.x.now.src.now c.args.lent.now.notes) (plus_e (plus (plus (plus_e (plus_e (begins G.PATTERN_IDENT_TUPLE c.args.may c.args.x.now.entrypoint c.args.d (plus_t (from c.args.x.now c.args.s c.args.lent.now c.requires) (c.trivia-s.ensures.0 c.args.x.now.src.now c.args.lent.now.notes)) (c.begin-s.ensures c.args.x.now.src.now c.args.lent.now.notes)) c.expect-s.ensures.step) c.expect-s-2.ensures.step) c.maybe-s.ensures.read) c.pattern_idents-s.ensures.read) c.expect-s-3.ensures.step)

pub returns-clause-read : goal.returns-clause-read
unfolding grammar kind names_of
returns-clause-read c = then_past c.args.x.now.entrypoint c.args.d c.args.may (node G.PATTERN_IDENT_TUPLE) (fine _ c.if-isnt.ensures) (makes G.PATTERN_IDENT_TUPLE c.args.may c.args.x.now.entrypoint c.args.d (plus_t (from c.args.x.now c.args.s c.args.lent.now c.requires) (c.trivia-s.ensures.0 c.args.x.now.src.now c.args.lent.now.notes)) (c.begin-s.ensures c.args.x.now.src.now c.args.lent.now.notes) c.if-d-eq0.false (plus_e (plus (plus (plus_e (plus_e (begins G.PATTERN_IDENT_TUPLE c.args.may c.args.x.now.entrypoint c.args.d (plus_t (from c.args.x.now c.args.s c.args.lent.now c.requires) (c.trivia-s.ensures.0 c.args.x.now.src.now c.args.lent.now.notes)) (c.begin-s.ensures c.args.x.now.src.now c.args.lent.now.notes)) c.expect-s.ensures.step) c.expect-s-2.ensures.step) c.maybe-s.ensures.read) c.pattern_idents-s.ensures.read) c.expect-s-3.ensures.step) (ended c.end-2.ensures.step))
