-- The productions of expressions, each by its shape; what falls is the depth, and at one depth the rank of a function.
use native.Mathlib.Omega.{arith}
use mathlib.Core.Path.{refl, sym, ap, ◌∙◌}
use mathlib.Core.Bool.{true}
use mathlib.Core.Logic.{inl, inr}
use mathlib.Core.List.{[], ◌∷◌}
use Prim.Native.Nat.{◌-◌}
use Rattle.kinds.specs.Kinds as k
use Rattle.kinds.specs.Sets.{set_of}
use Rattle.definition.specs.Prog.{eat, many, then, ◌⨟◌, recover, node, memo}
use Rattle.definition.specs.Prog as G
use Rattle.definition.specs.Run as P
use Rattle.definition.specs.Grammar.{grammar, kind, one, at_or_in}
use Rattle.notes.specs.Change.{with_mode}
use Rattle.shapes.specs.Mode.{number}
use Rattle.notes.specs.Means.{names_of}
use Rattle.notes.proofs.Sticky.{sticky_exec}
use Rattle.steps.specs.Steps.{whole}
use Rattle.steps.proofs.Branch as branch
use Rattle.parts.specs.Reads.{reads}
use Rattle.expr.specs.Parts.{dotted, signed, args, compared, quantified, over, which, body, item_of, listed, more_decls}
use Rattle.parts.proofs.Exec.{begins, closes, makes, makes_none}
use Rattle.parts.proofs.Lines.{from, here, plus, plus_e, plus_b, plus_p, plus_t, asks_e, asks_s, past_then, then_past, regroups, regrouped, stops, tries, goes, else, at_last, lost_on, lost_back, waives, waived_on, waived_back, enters, passes, turns, turns_more, turns_undone, turns_over, ended, chain}
use Rattle.parts.proofs.Known.{bit_in, bit_in_still, known_hit, known_through, known_failed}
use Rattle.expr.specs.declared.Item.TheVariants.{Ident, Term, Expr, PrimaryExpr, BooleanTerm, BooleanExpr}
use Rattle.expr.proofs.Told.{as_set, told, item_guarded}
use Rattle.steps.proofs.Modes.{failed, fine, not_failed, not_fine}
use Rattle.expr.proofs.+expressions.Goals as goal

pub all-returns-then-isnt-clause-read : goal.all-returns-then-isnt-clause-read
unfolding grammar kind names_of
all-returns-then-isnt-clause-read t c = stops (from c.args.x.now c.args.s c.args.lent.now c.requires) c.args.x.now.entrypoint c.args.d c.args.may quantified tt (not_fine _ c.if-isnt.ensures)

pub all-for_expr-s-requires : goal.all-for_expr-s-requires
all-for_expr-s-requires t c = (omega arith, ((tries c.args.x.now.entrypoint c.args.d c.args.may quantified (from c.args.x.now c.args.s c.args.lent.now c.requires) (fine _ c.if-isnt.ensures) (c.mark-m.ensures c.args.lent.now.notes)).here).wf)

pub all-returns-then-isnt-2-clause-read : goal.all-returns-then-isnt-2-clause-read
unfolding grammar kind names_of
all-returns-then-isnt-2-clause-read t c = goes (tries c.args.x.now.entrypoint c.args.d c.args.may quantified (from c.args.x.now c.args.s c.args.lent.now c.requires) (fine _ c.if-isnt.ensures) (c.mark-m.ensures c.args.lent.now.notes)) (λ g h. (past_then c.args.x.now.entrypoint c.args.d true (node G.FOR_EXPR) g c.for_expr-s.ensures.read)) (not_failed _ c.if-isnt-2.ensures)

pub all-of_expr-s-requires : goal.all-of_expr-s-requires
unfolding grammar kind names_of
all-of_expr-s-requires t c = (omega arith, ((else (tries c.args.x.now.entrypoint c.args.d c.args.may quantified (from c.args.x.now c.args.s c.args.lent.now c.requires) (fine _ c.if-isnt.ensures) (c.mark-m.ensures c.args.lent.now.notes)) (λ g h. (past_then c.args.x.now.entrypoint c.args.d true (node G.FOR_EXPR) g c.for_expr-s.ensures.read)) (failed _ c.if-isnt-2.ensures) (ap (with_mode 0) (c.rewind-s.ensures c.for_expr-s.new.lent.notes))).here).wf)

pub all-returns-then-isnt-3-clause-read : goal.all-returns-then-isnt-3-clause-read
unfolding grammar kind names_of
all-returns-then-isnt-3-clause-read t c = goes (else (tries c.args.x.now.entrypoint c.args.d c.args.may quantified (from c.args.x.now c.args.s c.args.lent.now c.requires) (fine _ c.if-isnt.ensures) (c.mark-m.ensures c.args.lent.now.notes)) (λ g h. (past_then c.args.x.now.entrypoint c.args.d true (node G.FOR_EXPR) g c.for_expr-s.ensures.read)) (failed _ c.if-isnt-2.ensures) (ap (with_mode 0) (c.rewind-s.ensures c.for_expr-s.new.lent.notes))) (λ g h. (past_then c.args.x.now.entrypoint c.args.d true (node G.OF_EXPR) g c.of_expr-s.ensures.read)) (not_failed _ c.if-isnt-3.ensures)

pub all-with_expr-s-requires : goal.all-with_expr-s-requires
unfolding grammar kind names_of
all-with_expr-s-requires t c = (omega arith, ((else (else (tries c.args.x.now.entrypoint c.args.d c.args.may quantified (from c.args.x.now c.args.s c.args.lent.now c.requires) (fine _ c.if-isnt.ensures) (c.mark-m.ensures c.args.lent.now.notes)) (λ g h. (past_then c.args.x.now.entrypoint c.args.d true (node G.FOR_EXPR) g c.for_expr-s.ensures.read)) (failed _ c.if-isnt-2.ensures) (ap (with_mode 0) (c.rewind-s.ensures c.for_expr-s.new.lent.notes))) (λ g h. (past_then c.args.x.now.entrypoint c.args.d true (node G.OF_EXPR) g c.of_expr-s.ensures.read)) (failed _ c.if-isnt-3.ensures) (ap (with_mode 0) (c.rewind-s-2.ensures c.of_expr-s.new.lent.notes))).here).wf)

pub all-returns-then-isnt-4-clause-read : goal.all-returns-then-isnt-4-clause-read
unfolding grammar kind names_of
all-returns-then-isnt-4-clause-read t c = goes (else (else (tries c.args.x.now.entrypoint c.args.d c.args.may quantified (from c.args.x.now c.args.s c.args.lent.now c.requires) (fine _ c.if-isnt.ensures) (c.mark-m.ensures c.args.lent.now.notes)) (λ g h. (past_then c.args.x.now.entrypoint c.args.d true (node G.FOR_EXPR) g c.for_expr-s.ensures.read)) (failed _ c.if-isnt-2.ensures) (ap (with_mode 0) (c.rewind-s.ensures c.for_expr-s.new.lent.notes))) (λ g h. (past_then c.args.x.now.entrypoint c.args.d true (node G.OF_EXPR) g c.of_expr-s.ensures.read)) (failed _ c.if-isnt-3.ensures) (ap (with_mode 0) (c.rewind-s-2.ensures c.of_expr-s.new.lent.notes))) (λ g h. (past_then c.args.x.now.entrypoint c.args.d true (node G.WITH_EXPR) g c.with_expr-s.ensures.read)) (not_failed _ c.if-isnt-4.ensures)

pub all-test-requires : goal.all-test-requires
unfolding grammar kind names_of
all-test-requires t c = (omega arith, ((else (else (else (tries c.args.x.now.entrypoint c.args.d c.args.may quantified (from c.args.x.now c.args.s c.args.lent.now c.requires) (fine _ c.if-isnt.ensures) (c.mark-m.ensures c.args.lent.now.notes)) (λ g h. (past_then c.args.x.now.entrypoint c.args.d true (node G.FOR_EXPR) g c.for_expr-s.ensures.read)) (failed _ c.if-isnt-2.ensures) (ap (with_mode 0) (c.rewind-s.ensures c.for_expr-s.new.lent.notes))) (λ g h. (past_then c.args.x.now.entrypoint c.args.d true (node G.OF_EXPR) g c.of_expr-s.ensures.read)) (failed _ c.if-isnt-3.ensures) (ap (with_mode 0) (c.rewind-s-2.ensures c.of_expr-s.new.lent.notes))) (λ g h. (past_then c.args.x.now.entrypoint c.args.d true (node G.WITH_EXPR) g c.with_expr-s.ensures.read)) (failed _ c.if-isnt-4.ensures) (ap (with_mode 0) (c.rewind-s-3.ensures c.with_expr-s.new.lent.notes))).here).wf)

pub all-returns-clause-read : goal.all-returns-clause-read
unfolding grammar kind names_of
all-returns-clause-read t c = (else (else (else (tries c.args.x.now.entrypoint c.args.d c.args.may quantified (from c.args.x.now c.args.s c.args.lent.now c.requires) (fine _ c.if-isnt.ensures) (c.mark-m.ensures c.args.lent.now.notes)) (λ g h. (past_then c.args.x.now.entrypoint c.args.d true (node G.FOR_EXPR) g c.for_expr-s.ensures.read)) (failed _ c.if-isnt-2.ensures) (ap (with_mode 0) (c.rewind-s.ensures c.for_expr-s.new.lent.notes))) (λ g h. (past_then c.args.x.now.entrypoint c.args.d true (node G.OF_EXPR) g c.of_expr-s.ensures.read)) (failed _ c.if-isnt-3.ensures) (ap (with_mode 0) (c.rewind-s-2.ensures c.of_expr-s.new.lent.notes))) (λ g h. (past_then c.args.x.now.entrypoint c.args.d true (node G.WITH_EXPR) g c.with_expr-s.ensures.read)) (failed _ c.if-isnt-4.ensures) (ap (with_mode 0) (c.rewind-s-3.ensures c.with_expr-s.new.lent.notes))).go c.test.ensures.read

pub and-returns-then-isnt-clause-read : goal.and-returns-then-isnt-clause-read
unfolding grammar kind names_of
and-returns-then-isnt-clause-read t c = stops (from c.args.x.now c.args.s c.args.lent.now c.requires) c.args.x.now.entrypoint c.args.d true more_decls tt (not_fine _ c.if-isnt.ensures)

pub and-loop-turn-init : goal.and-loop-turn-init
and-loop-turn-init t c = turns (reads c.args.x.now.entrypoint c.args.d true (one k.COMMA ⨟ node G.WITH_DECL)) _ _ _ _ (λ p. sticky_exec p _ c.args.x.now.entrypoint c.args.d (one k.COMMA ⨟ node G.WITH_DECL) true) c.requires (fine _ c.if-isnt.ensures) refl

pub and-trivia-s-requires : goal.and-trivia-s-requires
and-trivia-s-requires t c = (c.args.x.now.tiled.lines, (c.loop-turn.invariant.here.wf.0.2.events, c.loop-turn.invariant.here.wf.1.events))

pub and-expect-s-requires : goal.and-expect-s-requires
and-expect-s-requires t c = (asks_e (plus_t c.loop-turn.invariant.here (c.trivia-s.ensures.0 c.args.x.now.src.now c.loop-turn.lent.notes)) c.args.x.now.tiled.lines, omega arith)

pub and-decl-s-requires : goal.and-decl-s-requires
and-decl-s-requires t c = (omega arith, (plus_e (plus_t c.loop-turn.invariant.here (c.trivia-s.ensures.0 c.args.x.now.src.now c.loop-turn.lent.notes)) c.expect-s.ensures.step).wf)

pub and-returns-then-isnt-2-clause-read : goal.and-returns-then-isnt-2-clause-read
unfolding grammar kind names_of
and-returns-then-isnt-2-clause-read t c = turns_undone c.loop-turn.invariant c.loop-turn-test.true (plus (plus_e (plus_t c.loop-turn.invariant.here (c.trivia-s.ensures.0 c.args.x.now.src.now c.loop-turn.lent.notes)) c.expect-s.ensures.step) c.decl-s.ensures.read) (not_fine _ c.if-isnt-2.ensures) (c.mark-m.ensures c.loop-turn.lent.notes) (c.undone.ensures c.decl-s.new.lent.notes)

pub and-loop-turn-preserved : goal.and-loop-turn-preserved
unfolding grammar kind names_of
and-loop-turn-preserved t c = turns_more c.loop-turn.invariant c.loop-turn-test.true (plus (plus_e (plus_t c.loop-turn.invariant.here (c.trivia-s.ensures.0 c.args.x.now.src.now c.loop-turn.lent.notes)) c.expect-s.ensures.step) c.decl-s.ensures.read) (fine _ c.if-isnt-2.ensures) (chain c.expect-s.ensures.lists c.decl-s.ensures.lists)

pub and-returns-clause-read : goal.and-returns-clause-read
unfolding grammar kind names_of
and-returns-clause-read t c = turns_over c.loop-turn.invariant c.loop-turn-test.false

pub body-expect-s-requires : goal.body-expect-s-requires
body-expect-s-requires t c = (asks_e (from c.args.x.now c.args.s c.args.lent.now c.requires) c.args.x.now.tiled.lines, omega arith)

pub body-expect-s-requires-2 : goal.body-expect-s-requires-2
body-expect-s-requires-2 t c = (asks_e (plus_e (from c.args.x.now c.args.s c.args.lent.now c.requires) c.expect-s.ensures.step) c.args.x.now.tiled.lines, omega arith)

pub body-returns-then-isnt-clause-read : goal.body-returns-then-isnt-clause-read
unfolding grammar kind names_of
body-returns-then-isnt-clause-read t c = stops (plus_e (plus_e (from c.args.x.now c.args.s c.args.lent.now c.requires) c.expect-s.ensures.step) c.expect-s-2.ensures.step) c.args.x.now.entrypoint c.args.d c.args.may (then (node G.BOOLEAN_EXPR ⨟ (recover (k.R_PAREN ∷ []))) ⨟ one k.R_PAREN) tt (not_fine _ c.if-isnt.ensures)

pub body-bool_expr-s-requires : goal.body-bool_expr-s-requires
body-bool_expr-s-requires t c = (omega arith, (here (plus_e (plus_e (from c.args.x.now c.args.s c.args.lent.now c.requires) c.expect-s.ensures.step) c.expect-s-2.ensures.step)).wf)

pub body-recover-s-requires : goal.body-recover-s-requires
body-recover-s-requires t c = (asks_s (plus (here (plus_e (plus_e (from c.args.x.now c.args.s c.args.lent.now c.requires) c.expect-s.ensures.step) c.expect-s-2.ensures.step)) c.bool_expr-s.ensures.read), omega arith)

pub body-expect-requires : goal.body-expect-requires
body-expect-requires t c = (asks_e (plus (plus_e (plus_e (from c.args.x.now c.args.s c.args.lent.now c.requires) c.expect-s.ensures.step) c.expect-s-2.ensures.step) (regroups c.args.x.now.entrypoint c.args.d c.args.may (node G.BOOLEAN_EXPR) (recover (k.R_PAREN ∷ [])) (fine _ c.if-isnt.ensures) (plus_b (plus (here (plus_e (plus_e (from c.args.x.now c.args.s c.args.lent.now c.requires) c.expect-s.ensures.step) c.expect-s-2.ensures.step)) c.bool_expr-s.ensures.read) c.recover-s.ensures.step))) c.args.x.now.tiled.lines, omega arith)

pub body-returns-clause-read : goal.body-returns-clause-read
unfolding grammar kind names_of
body-returns-clause-read t c = (plus_e (plus (plus_e (plus_e (from c.args.x.now c.args.s c.args.lent.now c.requires) c.expect-s.ensures.step) c.expect-s-2.ensures.step) (regroups c.args.x.now.entrypoint c.args.d c.args.may (node G.BOOLEAN_EXPR) (recover (k.R_PAREN ∷ [])) (fine _ c.if-isnt.ensures) (plus_b (plus (here (plus_e (plus_e (from c.args.x.now c.args.s c.args.lent.now c.requires) c.expect-s.ensures.step) c.expect-s-2.ensures.step)) c.bool_expr-s.ensures.read) c.recover-s.ensures.step))) c.expect.ensures.step)

pub bool_expr-returns-then-isnt-clause-read : goal.bool_expr-returns-then-isnt-clause-read
unfolding grammar kind names_of
bool_expr-returns-then-isnt-clause-read t c = stops (from c.args.x.now c.args.s c.args.lent.now c.requires) c.args.x.now.entrypoint c.args.d c.args.may (then (node G.BOOLEAN_EXPR)) tt (not_fine _ c.if-isnt.ensures)

pub bool_expr-trivia-s-requires : goal.bool_expr-trivia-s-requires
bool_expr-trivia-s-requires t c = (c.args.x.now.tiled.lines, ((from c.args.x.now c.args.s c.args.lent.now c.requires).wf.0.2.events, (from c.args.x.now c.args.s c.args.lent.now c.requires).wf.1.events))

pub bool_expr-begin-s-requires : goal.bool_expr-begin-s-requires
bool_expr-begin-s-requires t c = (c.args.x.now.tiled.lines, ((plus_t (from c.args.x.now c.args.s c.args.lent.now c.requires) (c.trivia-s.ensures.0 c.args.x.now.src.now c.args.lent.now.notes)).wf.0.2.events, (plus_t (from c.args.x.now c.args.s c.args.lent.now c.requires) (c.trivia-s.ensures.0 c.args.x.now.src.now c.args.lent.now.notes)).wf.1.events), (plus_t (from c.args.x.now c.args.s c.args.lent.now c.requires) (c.trivia-s.ensures.0 c.args.x.now.src.now c.args.lent.now.notes)).wf.0.0.here)

pub bool_expr-end-requires : goal.bool_expr-end-requires
bool_expr-end-requires t c = closes G.BOOLEAN_EXPR c.args.may c.args.x.now.entrypoint c.args.d (plus_t (from c.args.x.now c.args.s c.args.lent.now c.requires) (c.trivia-s.ensures.0 c.args.x.now.src.now c.args.lent.now.notes)) (c.begin-s.ensures c.args.x.now.src.now c.args.lent.now.notes) (begins G.BOOLEAN_EXPR c.args.may c.args.x.now.entrypoint c.args.d (plus_t (from c.args.x.now c.args.s c.args.lent.now c.requires) (c.trivia-s.ensures.0 c.args.x.now.src.now c.args.lent.now.notes)) (c.begin-s.ensures c.args.x.now.src.now c.args.lent.now.notes))

pub bool_expr-returns-then-d-eq0-clause-read : goal.bool_expr-returns-then-d-eq0-clause-read
unfolding grammar kind names_of
bool_expr-returns-then-d-eq0-clause-read t c = then_past c.args.x.now.entrypoint c.args.d c.args.may (node G.BOOLEAN_EXPR) (fine _ c.if-isnt.ensures) (makes_none G.BOOLEAN_EXPR c.args.may c.args.x.now.entrypoint c.args.d (plus_t (from c.args.x.now c.args.s c.args.lent.now c.requires) (c.trivia-s.ensures.0 c.args.x.now.src.now c.args.lent.now.notes)) (c.begin-s.ensures c.args.x.now.src.now c.args.lent.now.notes) c.if-d-eq0.true (ended c.end.ensures.step))

pub bool_expr-bool_term-s-requires : goal.bool_expr-bool_term-s-requires
bool_expr-bool_term-s-requires t c = (omega (arith, c.if-d-eq0.false), (begins G.BOOLEAN_EXPR c.args.may c.args.x.now.entrypoint c.args.d (plus_t (from c.args.x.now c.args.s c.args.lent.now c.requires) (c.trivia-s.ensures.0 c.args.x.now.src.now c.args.lent.now.notes)) (c.begin-s.ensures c.args.x.now.src.now c.args.lent.now.notes)).wf)

pub bool_expr-more-s-requires : goal.bool_expr-more-s-requires
bool_expr-more-s-requires t c = (omega (arith, c.if-d-eq0.false), ((plus (begins G.BOOLEAN_EXPR c.args.may c.args.x.now.entrypoint c.args.d (plus_t (from c.args.x.now c.args.s c.args.lent.now c.requires) (c.trivia-s.ensures.0 c.args.x.now.src.now c.args.lent.now.notes)) (c.begin-s.ensures c.args.x.now.src.now c.args.lent.now.notes)) c.bool_term-s.ensures.read).wf, omega arith))

pub bool_expr-end-requires-2 : goal.bool_expr-end-requires-2
bool_expr-end-requires-2 t c = closes G.BOOLEAN_EXPR c.args.may c.args.x.now.entrypoint c.args.d (plus_t (from c.args.x.now c.args.s c.args.lent.now c.requires) (c.trivia-s.ensures.0 c.args.x.now.src.now c.args.lent.now.notes)) (c.begin-s.ensures c.args.x.now.src.now c.args.lent.now.notes) (plus (plus (begins G.BOOLEAN_EXPR c.args.may c.args.x.now.entrypoint c.args.d (plus_t (from c.args.x.now c.args.s c.args.lent.now c.requires) (c.trivia-s.ensures.0 c.args.x.now.src.now c.args.lent.now.notes)) (c.begin-s.ensures c.args.x.now.src.now c.args.lent.now.notes)) c.bool_term-s.ensures.read) c.more-s.ensures.read)

pub bool_expr-returns-clause-read : goal.bool_expr-returns-clause-read
unfolding grammar kind names_of
bool_expr-returns-clause-read t c = then_past c.args.x.now.entrypoint c.args.d c.args.may (node G.BOOLEAN_EXPR) (fine _ c.if-isnt.ensures) (makes G.BOOLEAN_EXPR c.args.may c.args.x.now.entrypoint c.args.d (plus_t (from c.args.x.now c.args.s c.args.lent.now c.requires) (c.trivia-s.ensures.0 c.args.x.now.src.now c.args.lent.now.notes)) (c.begin-s.ensures c.args.x.now.src.now c.args.lent.now.notes) c.if-d-eq0.false (plus (plus (begins G.BOOLEAN_EXPR c.args.may c.args.x.now.entrypoint c.args.d (plus_t (from c.args.x.now c.args.s c.args.lent.now c.requires) (c.trivia-s.ensures.0 c.args.x.now.src.now c.args.lent.now.notes)) (c.begin-s.ensures c.args.x.now.src.now c.args.lent.now.notes)) c.bool_term-s.ensures.read) c.more-s.ensures.read) (ended c.end-2.ensures.step))

pub bool_term-returns-then-isnt-clause-read : goal.bool_term-returns-then-isnt-clause-read
unfolding grammar kind names_of
bool_term-returns-then-isnt-clause-read t c = stops (from c.args.x.now c.args.s c.args.lent.now c.requires) c.args.x.now.entrypoint c.args.d c.args.may (then (node G.BOOLEAN_TERM)) tt (not_fine _ c.if-isnt.ensures)

pub bool_term-trivia-s-requires : goal.bool_term-trivia-s-requires
bool_term-trivia-s-requires t c = (c.args.x.now.tiled.lines, ((from c.args.x.now c.args.s c.args.lent.now c.requires).wf.0.2.events, (from c.args.x.now c.args.s c.args.lent.now c.requires).wf.1.events))

pub bool_term-begin-s-requires : goal.bool_term-begin-s-requires
bool_term-begin-s-requires t c = (c.args.x.now.tiled.lines, ((plus_t (from c.args.x.now c.args.s c.args.lent.now c.requires) (c.trivia-s.ensures.0 c.args.x.now.src.now c.args.lent.now.notes)).wf.0.2.events, (plus_t (from c.args.x.now c.args.s c.args.lent.now c.requires) (c.trivia-s.ensures.0 c.args.x.now.src.now c.args.lent.now.notes)).wf.1.events), (plus_t (from c.args.x.now c.args.s c.args.lent.now c.requires) (c.trivia-s.ensures.0 c.args.x.now.src.now c.args.lent.now.notes)).wf.0.0.here)

pub bool_term-end-requires : goal.bool_term-end-requires
bool_term-end-requires t c = closes G.BOOLEAN_TERM c.args.may c.args.x.now.entrypoint c.args.d (plus_t (from c.args.x.now c.args.s c.args.lent.now c.requires) (c.trivia-s.ensures.0 c.args.x.now.src.now c.args.lent.now.notes)) (c.begin-s.ensures c.args.x.now.src.now c.args.lent.now.notes) (begins G.BOOLEAN_TERM c.args.may c.args.x.now.entrypoint c.args.d (plus_t (from c.args.x.now c.args.s c.args.lent.now c.requires) (c.trivia-s.ensures.0 c.args.x.now.src.now c.args.lent.now.notes)) (c.begin-s.ensures c.args.x.now.src.now c.args.lent.now.notes))

pub bool_term-returns-then-d-eq0-clause-read : goal.bool_term-returns-then-d-eq0-clause-read
unfolding grammar kind names_of
bool_term-returns-then-d-eq0-clause-read t c = then_past c.args.x.now.entrypoint c.args.d c.args.may (node G.BOOLEAN_TERM) (fine _ c.if-isnt.ensures) (makes_none G.BOOLEAN_TERM c.args.may c.args.x.now.entrypoint c.args.d (plus_t (from c.args.x.now c.args.s c.args.lent.now c.requires) (c.trivia-s.ensures.0 c.args.x.now.src.now c.args.lent.now.notes)) (c.begin-s.ensures c.args.x.now.src.now c.args.lent.now.notes) c.if-d-eq0.true (ended c.end.ensures.step))

pub bool_term-fact-s-requires : goal.bool_term-fact-s-requires
bool_term-fact-s-requires t c = (omega (arith, c.if-d-eq0.false), (begins G.BOOLEAN_TERM c.args.may c.args.x.now.entrypoint c.args.d (plus_t (from c.args.x.now c.args.s c.args.lent.now c.requires) (c.trivia-s.ensures.0 c.args.x.now.src.now c.args.lent.now.notes)) (c.begin-s.ensures c.args.x.now.src.now c.args.lent.now.notes)).wf)

pub bool_term-end-requires-2 : goal.bool_term-end-requires-2
bool_term-end-requires-2 t c = closes G.BOOLEAN_TERM c.args.may c.args.x.now.entrypoint c.args.d (plus_t (from c.args.x.now c.args.s c.args.lent.now c.requires) (c.trivia-s.ensures.0 c.args.x.now.src.now c.args.lent.now.notes)) (c.begin-s.ensures c.args.x.now.src.now c.args.lent.now.notes) (plus (begins G.BOOLEAN_TERM c.args.may c.args.x.now.entrypoint c.args.d (plus_t (from c.args.x.now c.args.s c.args.lent.now c.requires) (c.trivia-s.ensures.0 c.args.x.now.src.now c.args.lent.now.notes)) (c.begin-s.ensures c.args.x.now.src.now c.args.lent.now.notes)) c.fact-s.ensures.read)

pub bool_term-returns-clause-read : goal.bool_term-returns-clause-read
unfolding grammar kind names_of
bool_term-returns-clause-read t c = then_past c.args.x.now.entrypoint c.args.d c.args.may (node G.BOOLEAN_TERM) (fine _ c.if-isnt.ensures) (makes G.BOOLEAN_TERM c.args.may c.args.x.now.entrypoint c.args.d (plus_t (from c.args.x.now c.args.s c.args.lent.now c.requires) (c.trivia-s.ensures.0 c.args.x.now.src.now c.args.lent.now.notes)) (c.begin-s.ensures c.args.x.now.src.now c.args.lent.now.notes) c.if-d-eq0.false (plus (begins G.BOOLEAN_TERM c.args.may c.args.x.now.entrypoint c.args.d (plus_t (from c.args.x.now c.args.s c.args.lent.now c.requires) (c.trivia-s.ensures.0 c.args.x.now.src.now c.args.lent.now.notes)) (c.begin-s.ensures c.args.x.now.src.now c.args.lent.now.notes)) c.fact-s.ensures.read) (ended c.end-2.ensures.step))

pub bools-returns-then-isnt-clause-read : goal.bools-returns-then-isnt-clause-read
unfolding grammar kind names_of
bools-returns-then-isnt-clause-read t c = stops (from c.args.x.now c.args.s c.args.lent.now c.requires) c.args.x.now.entrypoint c.args.d c.args.may (then (node G.BOOLEAN_EXPR_TUPLE)) tt (not_fine _ c.if-isnt.ensures)

pub bools-trivia-s-requires : goal.bools-trivia-s-requires
bools-trivia-s-requires t c = (c.args.x.now.tiled.lines, ((from c.args.x.now c.args.s c.args.lent.now c.requires).wf.0.2.events, (from c.args.x.now c.args.s c.args.lent.now c.requires).wf.1.events))

pub bools-begin-s-requires : goal.bools-begin-s-requires
bools-begin-s-requires t c = (c.args.x.now.tiled.lines, ((plus_t (from c.args.x.now c.args.s c.args.lent.now c.requires) (c.trivia-s.ensures.0 c.args.x.now.src.now c.args.lent.now.notes)).wf.0.2.events, (plus_t (from c.args.x.now c.args.s c.args.lent.now c.requires) (c.trivia-s.ensures.0 c.args.x.now.src.now c.args.lent.now.notes)).wf.1.events), (plus_t (from c.args.x.now c.args.s c.args.lent.now c.requires) (c.trivia-s.ensures.0 c.args.x.now.src.now c.args.lent.now.notes)).wf.0.0.here)

pub bools-end-requires : goal.bools-end-requires
bools-end-requires t c = closes G.BOOLEAN_EXPR_TUPLE c.args.may c.args.x.now.entrypoint c.args.d (plus_t (from c.args.x.now c.args.s c.args.lent.now c.requires) (c.trivia-s.ensures.0 c.args.x.now.src.now c.args.lent.now.notes)) (c.begin-s.ensures c.args.x.now.src.now c.args.lent.now.notes) (begins G.BOOLEAN_EXPR_TUPLE c.args.may c.args.x.now.entrypoint c.args.d (plus_t (from c.args.x.now c.args.s c.args.lent.now c.requires) (c.trivia-s.ensures.0 c.args.x.now.src.now c.args.lent.now.notes)) (c.begin-s.ensures c.args.x.now.src.now c.args.lent.now.notes))

pub bools-returns-then-d-eq0-clause-read : goal.bools-returns-then-d-eq0-clause-read
unfolding grammar kind names_of
bools-returns-then-d-eq0-clause-read t c = then_past c.args.x.now.entrypoint c.args.d c.args.may (node G.BOOLEAN_EXPR_TUPLE) (fine _ c.if-isnt.ensures) (makes_none G.BOOLEAN_EXPR_TUPLE c.args.may c.args.x.now.entrypoint c.args.d (plus_t (from c.args.x.now c.args.s c.args.lent.now c.requires) (c.trivia-s.ensures.0 c.args.x.now.src.now c.args.lent.now.notes)) (c.begin-s.ensures c.args.x.now.src.now c.args.lent.now.notes) c.if-d-eq0.true (ended c.end.ensures.step))

pub bools-expect-s-requires : goal.bools-expect-s-requires
bools-expect-s-requires t c = (asks_e (begins G.BOOLEAN_EXPR_TUPLE c.args.may c.args.x.now.entrypoint c.args.d (plus_t (from c.args.x.now c.args.s c.args.lent.now c.requires) (c.trivia-s.ensures.0 c.args.x.now.src.now c.args.lent.now.notes)) (c.begin-s.ensures c.args.x.now.src.now c.args.lent.now.notes)) c.args.x.now.tiled.lines, omega arith)

pub bools-bool_expr-s-requires : goal.bools-bool_expr-s-requires
bools-bool_expr-s-requires t c = (omega (arith, c.if-d-eq0.false), (plus_e (begins G.BOOLEAN_EXPR_TUPLE c.args.may c.args.x.now.entrypoint c.args.d (plus_t (from c.args.x.now c.args.s c.args.lent.now c.requires) (c.trivia-s.ensures.0 c.args.x.now.src.now c.args.lent.now.notes)) (c.begin-s.ensures c.args.x.now.src.now c.args.lent.now.notes)) c.expect-s.ensures.step).wf)

pub bools-more-s-requires : goal.bools-more-s-requires
bools-more-s-requires t c = (omega (arith, c.if-d-eq0.false), ((plus (plus_e (begins G.BOOLEAN_EXPR_TUPLE c.args.may c.args.x.now.entrypoint c.args.d (plus_t (from c.args.x.now c.args.s c.args.lent.now c.requires) (c.trivia-s.ensures.0 c.args.x.now.src.now c.args.lent.now.notes)) (c.begin-s.ensures c.args.x.now.src.now c.args.lent.now.notes)) c.expect-s.ensures.step) c.bool_expr-s.ensures.read).wf, omega arith))

pub bools-expect-s-requires-2 : goal.bools-expect-s-requires-2
bools-expect-s-requires-2 t c = (asks_e (plus (plus (plus_e (begins G.BOOLEAN_EXPR_TUPLE c.args.may c.args.x.now.entrypoint c.args.d (plus_t (from c.args.x.now c.args.s c.args.lent.now c.requires) (c.trivia-s.ensures.0 c.args.x.now.src.now c.args.lent.now.notes)) (c.begin-s.ensures c.args.x.now.src.now c.args.lent.now.notes)) c.expect-s.ensures.step) c.bool_expr-s.ensures.read) c.more-s.ensures.read) c.args.x.now.tiled.lines, omega arith)

pub bools-end-requires-2 : goal.bools-end-requires-2
bools-end-requires-2 t c = closes G.BOOLEAN_EXPR_TUPLE c.args.may c.args.x.now.entrypoint c.args.d (plus_t (from c.args.x.now c.args.s c.args.lent.now c.requires) (c.trivia-s.ensures.0 c.args.x.now.src.now c.args.lent.now.notes)) (c.begin-s.ensures c.args.x.now.src.now c.args.lent.now.notes) (plus_e (plus (plus (plus_e (begins G.BOOLEAN_EXPR_TUPLE c.args.may c.args.x.now.entrypoint c.args.d (plus_t (from c.args.x.now c.args.s c.args.lent.now c.requires) (c.trivia-s.ensures.0 c.args.x.now.src.now c.args.lent.now.notes)) (c.begin-s.ensures c.args.x.now.src.now c.args.lent.now.notes)) c.expect-s.ensures.step) c.bool_expr-s.ensures.read) c.more-s.ensures.read) c.expect-s-2.ensures.step)

pub bools-returns-clause-read : goal.bools-returns-clause-read
unfolding grammar kind names_of
bools-returns-clause-read t c = then_past c.args.x.now.entrypoint c.args.d c.args.may (node G.BOOLEAN_EXPR_TUPLE) (fine _ c.if-isnt.ensures) (makes G.BOOLEAN_EXPR_TUPLE c.args.may c.args.x.now.entrypoint c.args.d (plus_t (from c.args.x.now c.args.s c.args.lent.now c.requires) (c.trivia-s.ensures.0 c.args.x.now.src.now c.args.lent.now.notes)) (c.begin-s.ensures c.args.x.now.src.now c.args.lent.now.notes) c.if-d-eq0.false (plus_e (plus (plus (plus_e (begins G.BOOLEAN_EXPR_TUPLE c.args.may c.args.x.now.entrypoint c.args.d (plus_t (from c.args.x.now c.args.s c.args.lent.now c.requires) (c.trivia-s.ensures.0 c.args.x.now.src.now c.args.lent.now.notes)) (c.begin-s.ensures c.args.x.now.src.now c.args.lent.now.notes)) c.expect-s.ensures.step) c.bool_expr-s.ensures.read) c.more-s.ensures.read) c.expect-s-2.ensures.step) (ended c.end-2.ensures.step))

pub call-returns-then-isnt-clause-read : goal.call-returns-then-isnt-clause-read
unfolding grammar kind names_of
call-returns-then-isnt-clause-read t c = stops (from c.args.x.now c.args.s c.args.lent.now c.requires) c.args.x.now.entrypoint c.args.d c.args.may (then (node G.FUNC_CALL)) tt (not_fine _ c.if-isnt.ensures)

pub call-trivia-s-requires : goal.call-trivia-s-requires
call-trivia-s-requires t c = (c.args.x.now.tiled.lines, ((from c.args.x.now c.args.s c.args.lent.now c.requires).wf.0.2.events, (from c.args.x.now c.args.s c.args.lent.now c.requires).wf.1.events))

pub call-begin-s-requires : goal.call-begin-s-requires
call-begin-s-requires t c = (c.args.x.now.tiled.lines, ((plus_t (from c.args.x.now c.args.s c.args.lent.now c.requires) (c.trivia-s.ensures.0 c.args.x.now.src.now c.args.lent.now.notes)).wf.0.2.events, (plus_t (from c.args.x.now c.args.s c.args.lent.now c.requires) (c.trivia-s.ensures.0 c.args.x.now.src.now c.args.lent.now.notes)).wf.1.events), (plus_t (from c.args.x.now c.args.s c.args.lent.now c.requires) (c.trivia-s.ensures.0 c.args.x.now.src.now c.args.lent.now.notes)).wf.0.0.here)

pub call-end-requires : goal.call-end-requires
call-end-requires t c = closes G.FUNC_CALL c.args.may c.args.x.now.entrypoint c.args.d (plus_t (from c.args.x.now c.args.s c.args.lent.now c.requires) (c.trivia-s.ensures.0 c.args.x.now.src.now c.args.lent.now.notes)) (c.begin-s.ensures c.args.x.now.src.now c.args.lent.now.notes) (begins G.FUNC_CALL c.args.may c.args.x.now.entrypoint c.args.d (plus_t (from c.args.x.now c.args.s c.args.lent.now c.requires) (c.trivia-s.ensures.0 c.args.x.now.src.now c.args.lent.now.notes)) (c.begin-s.ensures c.args.x.now.src.now c.args.lent.now.notes))

pub call-returns-then-d-eq0-clause-read : goal.call-returns-then-d-eq0-clause-read
unfolding grammar kind names_of
call-returns-then-d-eq0-clause-read t c = then_past c.args.x.now.entrypoint c.args.d c.args.may (node G.FUNC_CALL) (fine _ c.if-isnt.ensures) (makes_none G.FUNC_CALL c.args.may c.args.x.now.entrypoint c.args.d (plus_t (from c.args.x.now c.args.s c.args.lent.now c.requires) (c.trivia-s.ensures.0 c.args.x.now.src.now c.args.lent.now.notes)) (c.begin-s.ensures c.args.x.now.src.now c.args.lent.now.notes) c.if-d-eq0.true (ended c.end.ensures.step))

pub call-expect-s-requires : goal.call-expect-s-requires
call-expect-s-requires t c = (asks_e (begins G.FUNC_CALL c.args.may c.args.x.now.entrypoint c.args.d (plus_t (from c.args.x.now c.args.s c.args.lent.now c.requires) (c.trivia-s.ensures.0 c.args.x.now.src.now c.args.lent.now.notes)) (c.begin-s.ensures c.args.x.now.src.now c.args.lent.now.notes)) c.args.x.now.tiled.lines, omega arith)

pub call-expect-s-requires-2 : goal.call-expect-s-requires-2
call-expect-s-requires-2 t c = (asks_e (plus_e (begins G.FUNC_CALL c.args.may c.args.x.now.entrypoint c.args.d (plus_t (from c.args.x.now c.args.s c.args.lent.now c.requires) (c.trivia-s.ensures.0 c.args.x.now.src.now c.args.lent.now.notes)) (c.begin-s.ensures c.args.x.now.src.now c.args.lent.now.notes)) c.expect-s.ensures.step) c.args.x.now.tiled.lines, omega arith)

pub call-end-requires-then-isnt-2 : goal.call-end-requires-then-isnt-2
call-end-requires-then-isnt-2 t c = closes G.FUNC_CALL c.args.may c.args.x.now.entrypoint c.args.d (plus_t (from c.args.x.now c.args.s c.args.lent.now c.requires) (c.trivia-s.ensures.0 c.args.x.now.src.now c.args.lent.now.notes)) (c.begin-s.ensures c.args.x.now.src.now c.args.lent.now.notes) (plus_e (plus_e (begins G.FUNC_CALL c.args.may c.args.x.now.entrypoint c.args.d (plus_t (from c.args.x.now c.args.s c.args.lent.now c.requires) (c.trivia-s.ensures.0 c.args.x.now.src.now c.args.lent.now.notes)) (c.begin-s.ensures c.args.x.now.src.now c.args.lent.now.notes)) c.expect-s.ensures.step) c.expect-s-2.ensures.step)

pub call-returns-then-isnt-2-clause-read : goal.call-returns-then-isnt-2-clause-read
unfolding grammar kind names_of
call-returns-then-isnt-2-clause-read t c = then_past c.args.x.now.entrypoint c.args.d c.args.may (node G.FUNC_CALL) (fine _ c.if-isnt.ensures) (makes G.FUNC_CALL c.args.may c.args.x.now.entrypoint c.args.d (plus_t (from c.args.x.now c.args.s c.args.lent.now c.requires) (c.trivia-s.ensures.0 c.args.x.now.src.now c.args.lent.now.notes)) (c.begin-s.ensures c.args.x.now.src.now c.args.lent.now.notes) c.if-d-eq0.false (stops (plus_e (plus_e (begins G.FUNC_CALL c.args.may c.args.x.now.entrypoint c.args.d (plus_t (from c.args.x.now c.args.s c.args.lent.now c.requires) (c.trivia-s.ensures.0 c.args.x.now.src.now c.args.lent.now.notes)) (c.begin-s.ensures c.args.x.now.src.now c.args.lent.now.notes)) c.expect-s.ensures.step) c.expect-s-2.ensures.step) c.args.x.now.entrypoint (c.args.d - 1) c.args.may (args ⨟ one k.R_PAREN) tt (not_fine _ c.if-isnt-2.ensures)) (ended c.end-then-isnt-2.ensures.step))

pub call-list-s-requires : goal.call-list-s-requires
call-list-s-requires t c = (omega (arith, c.if-d-eq0.false), (plus_e (plus_e (begins G.FUNC_CALL c.args.may c.args.x.now.entrypoint c.args.d (plus_t (from c.args.x.now c.args.s c.args.lent.now c.requires) (c.trivia-s.ensures.0 c.args.x.now.src.now c.args.lent.now.notes)) (c.begin-s.ensures c.args.x.now.src.now c.args.lent.now.notes)) c.expect-s.ensures.step) c.expect-s-2.ensures.step).wf)

pub call-expect-s-requires-3 : goal.call-expect-s-requires-3
call-expect-s-requires-3 t c = (asks_e (plus (plus_e (plus_e (begins G.FUNC_CALL c.args.may c.args.x.now.entrypoint c.args.d (plus_t (from c.args.x.now c.args.s c.args.lent.now c.requires) (c.trivia-s.ensures.0 c.args.x.now.src.now c.args.lent.now.notes)) (c.begin-s.ensures c.args.x.now.src.now c.args.lent.now.notes)) c.expect-s.ensures.step) c.expect-s-2.ensures.step) c.list-s.ensures.read) c.args.x.now.tiled.lines, omega arith)

pub call-end-requires-2 : goal.call-end-requires-2
call-end-requires-2 t c = closes G.FUNC_CALL c.args.may c.args.x.now.entrypoint c.args.d (plus_t (from c.args.x.now c.args.s c.args.lent.now c.requires) (c.trivia-s.ensures.0 c.args.x.now.src.now c.args.lent.now.notes)) (c.begin-s.ensures c.args.x.now.src.now c.args.lent.now.notes) (plus_e (plus (plus_e (plus_e (begins G.FUNC_CALL c.args.may c.args.x.now.entrypoint c.args.d (plus_t (from c.args.x.now c.args.s c.args.lent.now c.requires) (c.trivia-s.ensures.0 c.args.x.now.src.now c.args.lent.now.notes)) (c.begin-s.ensures c.args.x.now.src.now c.args.lent.now.notes)) c.expect-s.ensures.step) c.expect-s-2.ensures.step) c.list-s.ensures.read) c.expect-s-3.ensures.step)

pub call-returns-clause-read : goal.call-returns-clause-read
unfolding grammar kind names_of
call-returns-clause-read t c = then_past c.args.x.now.entrypoint c.args.d c.args.may (node G.FUNC_CALL) (fine _ c.if-isnt.ensures) (makes G.FUNC_CALL c.args.may c.args.x.now.entrypoint c.args.d (plus_t (from c.args.x.now c.args.s c.args.lent.now c.requires) (c.trivia-s.ensures.0 c.args.x.now.src.now c.args.lent.now.notes)) (c.begin-s.ensures c.args.x.now.src.now c.args.lent.now.notes) c.if-d-eq0.false (plus_e (plus (plus_e (plus_e (begins G.FUNC_CALL c.args.may c.args.x.now.entrypoint c.args.d (plus_t (from c.args.x.now c.args.s c.args.lent.now c.requires) (c.trivia-s.ensures.0 c.args.x.now.src.now c.args.lent.now.notes)) (c.begin-s.ensures c.args.x.now.src.now c.args.lent.now.notes)) c.expect-s.ensures.step) c.expect-s-2.ensures.step) c.list-s.ensures.read) c.expect-s-3.ensures.step) (ended c.end-2.ensures.step))

pub decl-begin-s-requires : goal.decl-begin-s-requires
decl-begin-s-requires t c = (c.args.x.now.tiled.lines, ((from c.args.x.now c.args.s c.args.lent.now c.requires).wf.0.2.events, (from c.args.x.now c.args.s c.args.lent.now c.requires).wf.1.events), (from c.args.x.now c.args.s c.args.lent.now c.requires).wf.0.0.here)

pub decl-end-requires : goal.decl-end-requires
decl-end-requires t c = closes G.WITH_DECL c.args.may c.args.x.now.entrypoint c.args.d (from c.args.x.now c.args.s c.args.lent.now c.requires) (c.begin-s.ensures c.args.x.now.src.now c.args.lent.now.notes) (begins G.WITH_DECL c.args.may c.args.x.now.entrypoint c.args.d (from c.args.x.now c.args.s c.args.lent.now c.requires) (c.begin-s.ensures c.args.x.now.src.now c.args.lent.now.notes))

pub decl-returns-then-d-eq0-clause-read : goal.decl-returns-then-d-eq0-clause-read
unfolding grammar kind names_of
decl-returns-then-d-eq0-clause-read t c = makes_none G.WITH_DECL c.args.may c.args.x.now.entrypoint c.args.d (from c.args.x.now c.args.s c.args.lent.now c.requires) (c.begin-s.ensures c.args.x.now.src.now c.args.lent.now.notes) c.if-d-eq0.true (ended c.end.ensures.step)

pub decl-expect-s-requires : goal.decl-expect-s-requires
decl-expect-s-requires t c = (asks_e (begins G.WITH_DECL c.args.may c.args.x.now.entrypoint c.args.d (from c.args.x.now c.args.s c.args.lent.now c.requires) (c.begin-s.ensures c.args.x.now.src.now c.args.lent.now.notes)) c.args.x.now.tiled.lines, omega arith)

pub decl-expect-s-requires-2 : goal.decl-expect-s-requires-2
decl-expect-s-requires-2 t c = (asks_e (plus_e (begins G.WITH_DECL c.args.may c.args.x.now.entrypoint c.args.d (from c.args.x.now c.args.s c.args.lent.now c.requires) (c.begin-s.ensures c.args.x.now.src.now c.args.lent.now.notes)) c.expect-s.ensures.step) c.args.x.now.tiled.lines, omega arith)

pub decl-expr-s-requires : goal.decl-expr-s-requires
decl-expr-s-requires t c = (omega (arith, c.if-d-eq0.false), (plus_e (plus_e (begins G.WITH_DECL c.args.may c.args.x.now.entrypoint c.args.d (from c.args.x.now c.args.s c.args.lent.now c.requires) (c.begin-s.ensures c.args.x.now.src.now c.args.lent.now.notes)) c.expect-s.ensures.step) c.expect-s-2.ensures.step).wf)

pub decl-end-requires-2 : goal.decl-end-requires-2
decl-end-requires-2 t c = closes G.WITH_DECL c.args.may c.args.x.now.entrypoint c.args.d (from c.args.x.now c.args.s c.args.lent.now c.requires) (c.begin-s.ensures c.args.x.now.src.now c.args.lent.now.notes) (plus (plus_e (plus_e (begins G.WITH_DECL c.args.may c.args.x.now.entrypoint c.args.d (from c.args.x.now c.args.s c.args.lent.now c.requires) (c.begin-s.ensures c.args.x.now.src.now c.args.lent.now.notes)) c.expect-s.ensures.step) c.expect-s-2.ensures.step) c.expr-s.ensures.read)

pub decl-returns-clause-read : goal.decl-returns-clause-read
unfolding grammar kind names_of
decl-returns-clause-read t c = makes G.WITH_DECL c.args.may c.args.x.now.entrypoint c.args.d (from c.args.x.now c.args.s c.args.lent.now c.requires) (c.begin-s.ensures c.args.x.now.src.now c.args.lent.now.notes) c.if-d-eq0.false (plus (plus_e (plus_e (begins G.WITH_DECL c.args.may c.args.x.now.entrypoint c.args.d (from c.args.x.now c.args.s c.args.lent.now c.requires) (c.begin-s.ensures c.args.x.now.src.now c.args.lent.now.notes)) c.expect-s.ensures.step) c.expect-s-2.ensures.step) c.expr-s.ensures.read) (ended c.end-2.ensures.step)

pub decls-returns-then-isnt-clause-read : goal.decls-returns-then-isnt-clause-read
unfolding grammar kind names_of
decls-returns-then-isnt-clause-read t c = stops (from c.args.x.now c.args.s c.args.lent.now c.requires) c.args.x.now.entrypoint c.args.d c.args.may (then (node G.WITH_DECLS)) tt (not_fine _ c.if-isnt.ensures)

pub decls-trivia-s-requires : goal.decls-trivia-s-requires
decls-trivia-s-requires t c = (c.args.x.now.tiled.lines, ((from c.args.x.now c.args.s c.args.lent.now c.requires).wf.0.2.events, (from c.args.x.now c.args.s c.args.lent.now c.requires).wf.1.events))

pub decls-begin-s-requires : goal.decls-begin-s-requires
decls-begin-s-requires t c = (c.args.x.now.tiled.lines, ((plus_t (from c.args.x.now c.args.s c.args.lent.now c.requires) (c.trivia-s.ensures.0 c.args.x.now.src.now c.args.lent.now.notes)).wf.0.2.events, (plus_t (from c.args.x.now c.args.s c.args.lent.now c.requires) (c.trivia-s.ensures.0 c.args.x.now.src.now c.args.lent.now.notes)).wf.1.events), (plus_t (from c.args.x.now c.args.s c.args.lent.now c.requires) (c.trivia-s.ensures.0 c.args.x.now.src.now c.args.lent.now.notes)).wf.0.0.here)

pub decls-end-requires : goal.decls-end-requires
decls-end-requires t c = closes G.WITH_DECLS c.args.may c.args.x.now.entrypoint c.args.d (plus_t (from c.args.x.now c.args.s c.args.lent.now c.requires) (c.trivia-s.ensures.0 c.args.x.now.src.now c.args.lent.now.notes)) (c.begin-s.ensures c.args.x.now.src.now c.args.lent.now.notes) (begins G.WITH_DECLS c.args.may c.args.x.now.entrypoint c.args.d (plus_t (from c.args.x.now c.args.s c.args.lent.now c.requires) (c.trivia-s.ensures.0 c.args.x.now.src.now c.args.lent.now.notes)) (c.begin-s.ensures c.args.x.now.src.now c.args.lent.now.notes))

pub decls-returns-then-d-eq0-clause-read : goal.decls-returns-then-d-eq0-clause-read
unfolding grammar kind names_of
decls-returns-then-d-eq0-clause-read t c = then_past c.args.x.now.entrypoint c.args.d c.args.may (node G.WITH_DECLS) (fine _ c.if-isnt.ensures) (makes_none G.WITH_DECLS c.args.may c.args.x.now.entrypoint c.args.d (plus_t (from c.args.x.now c.args.s c.args.lent.now c.requires) (c.trivia-s.ensures.0 c.args.x.now.src.now c.args.lent.now.notes)) (c.begin-s.ensures c.args.x.now.src.now c.args.lent.now.notes) c.if-d-eq0.true (ended c.end.ensures.step))

pub decls-end-requires-then-isnt-2 : goal.decls-end-requires-then-isnt-2
decls-end-requires-then-isnt-2 t c = closes G.WITH_DECLS c.args.may c.args.x.now.entrypoint c.args.d (plus_t (from c.args.x.now c.args.s c.args.lent.now c.requires) (c.trivia-s.ensures.0 c.args.x.now.src.now c.args.lent.now.notes)) (c.begin-s.ensures c.args.x.now.src.now c.args.lent.now.notes) (begins G.WITH_DECLS c.args.may c.args.x.now.entrypoint c.args.d (plus_t (from c.args.x.now c.args.s c.args.lent.now c.requires) (c.trivia-s.ensures.0 c.args.x.now.src.now c.args.lent.now.notes)) (c.begin-s.ensures c.args.x.now.src.now c.args.lent.now.notes))

pub decls-returns-then-isnt-2-clause-read : goal.decls-returns-then-isnt-2-clause-read
unfolding grammar kind names_of
decls-returns-then-isnt-2-clause-read t c = then_past c.args.x.now.entrypoint c.args.d c.args.may (node G.WITH_DECLS) (fine _ c.if-isnt.ensures) (makes G.WITH_DECLS c.args.may c.args.x.now.entrypoint c.args.d (plus_t (from c.args.x.now c.args.s c.args.lent.now c.requires) (c.trivia-s.ensures.0 c.args.x.now.src.now c.args.lent.now.notes)) (c.begin-s.ensures c.args.x.now.src.now c.args.lent.now.notes) c.if-d-eq0.false (stops (begins G.WITH_DECLS c.args.may c.args.x.now.entrypoint c.args.d (plus_t (from c.args.x.now c.args.s c.args.lent.now c.requires) (c.trivia-s.ensures.0 c.args.x.now.src.now c.args.lent.now.notes)) (c.begin-s.ensures c.args.x.now.src.now c.args.lent.now.notes)) c.args.x.now.entrypoint (c.args.d - 1) c.args.may (then (node G.WITH_DECL) ⨟ many (one k.COMMA ⨟ node G.WITH_DECL)) tt (not_fine _ c.if-isnt-2.ensures)) (ended c.end-then-isnt-2.ensures.step))

pub decls-trivia-s-requires-2 : goal.decls-trivia-s-requires-2
decls-trivia-s-requires-2 t c = (c.args.x.now.tiled.lines, ((here (begins G.WITH_DECLS c.args.may c.args.x.now.entrypoint c.args.d (plus_t (from c.args.x.now c.args.s c.args.lent.now c.requires) (c.trivia-s.ensures.0 c.args.x.now.src.now c.args.lent.now.notes)) (c.begin-s.ensures c.args.x.now.src.now c.args.lent.now.notes))).wf.0.2.events, (here (begins G.WITH_DECLS c.args.may c.args.x.now.entrypoint c.args.d (plus_t (from c.args.x.now c.args.s c.args.lent.now c.requires) (c.trivia-s.ensures.0 c.args.x.now.src.now c.args.lent.now.notes)) (c.begin-s.ensures c.args.x.now.src.now c.args.lent.now.notes))).wf.1.events))

pub decls-decl-s-requires : goal.decls-decl-s-requires
decls-decl-s-requires t c = (omega (arith, c.if-d-eq0.false), (plus_t (here (begins G.WITH_DECLS c.args.may c.args.x.now.entrypoint c.args.d (plus_t (from c.args.x.now c.args.s c.args.lent.now c.requires) (c.trivia-s.ensures.0 c.args.x.now.src.now c.args.lent.now.notes)) (c.begin-s.ensures c.args.x.now.src.now c.args.lent.now.notes))) (c.trivia-s-2.ensures.0 c.args.x.now.src.now c.args.lent.now.notes)).wf)

pub decls-and-s-requires : goal.decls-and-s-requires
decls-and-s-requires t c = (omega (arith, c.if-d-eq0.false), (plus (begins G.WITH_DECLS c.args.may c.args.x.now.entrypoint c.args.d (plus_t (from c.args.x.now c.args.s c.args.lent.now c.requires) (c.trivia-s.ensures.0 c.args.x.now.src.now c.args.lent.now.notes)) (c.begin-s.ensures c.args.x.now.src.now c.args.lent.now.notes)) (then_past c.args.x.now.entrypoint (c.args.d - 1) c.args.may (node G.WITH_DECL) (fine _ c.if-isnt-2.ensures) (plus (plus_t (here (begins G.WITH_DECLS c.args.may c.args.x.now.entrypoint c.args.d (plus_t (from c.args.x.now c.args.s c.args.lent.now c.requires) (c.trivia-s.ensures.0 c.args.x.now.src.now c.args.lent.now.notes)) (c.begin-s.ensures c.args.x.now.src.now c.args.lent.now.notes))) (c.trivia-s-2.ensures.0 c.args.x.now.src.now c.args.lent.now.notes)) c.decl-s.ensures.read))).wf)

pub decls-end-requires-2 : goal.decls-end-requires-2
decls-end-requires-2 t c = closes G.WITH_DECLS c.args.may c.args.x.now.entrypoint c.args.d (plus_t (from c.args.x.now c.args.s c.args.lent.now c.requires) (c.trivia-s.ensures.0 c.args.x.now.src.now c.args.lent.now.notes)) (c.begin-s.ensures c.args.x.now.src.now c.args.lent.now.notes) (plus (plus (begins G.WITH_DECLS c.args.may c.args.x.now.entrypoint c.args.d (plus_t (from c.args.x.now c.args.s c.args.lent.now c.requires) (c.trivia-s.ensures.0 c.args.x.now.src.now c.args.lent.now.notes)) (c.begin-s.ensures c.args.x.now.src.now c.args.lent.now.notes)) (then_past c.args.x.now.entrypoint (c.args.d - 1) c.args.may (node G.WITH_DECL) (fine _ c.if-isnt-2.ensures) (plus (plus_t (here (begins G.WITH_DECLS c.args.may c.args.x.now.entrypoint c.args.d (plus_t (from c.args.x.now c.args.s c.args.lent.now c.requires) (c.trivia-s.ensures.0 c.args.x.now.src.now c.args.lent.now.notes)) (c.begin-s.ensures c.args.x.now.src.now c.args.lent.now.notes))) (c.trivia-s-2.ensures.0 c.args.x.now.src.now c.args.lent.now.notes)) c.decl-s.ensures.read))) c.and-s.ensures.read)

pub decls-returns-clause-read : goal.decls-returns-clause-read
unfolding grammar kind names_of
decls-returns-clause-read t c = then_past c.args.x.now.entrypoint c.args.d c.args.may (node G.WITH_DECLS) (fine _ c.if-isnt.ensures) (makes G.WITH_DECLS c.args.may c.args.x.now.entrypoint c.args.d (plus_t (from c.args.x.now c.args.s c.args.lent.now c.requires) (c.trivia-s.ensures.0 c.args.x.now.src.now c.args.lent.now.notes)) (c.begin-s.ensures c.args.x.now.src.now c.args.lent.now.notes) c.if-d-eq0.false (plus (plus (begins G.WITH_DECLS c.args.may c.args.x.now.entrypoint c.args.d (plus_t (from c.args.x.now c.args.s c.args.lent.now c.requires) (c.trivia-s.ensures.0 c.args.x.now.src.now c.args.lent.now.notes)) (c.begin-s.ensures c.args.x.now.src.now c.args.lent.now.notes)) (then_past c.args.x.now.entrypoint (c.args.d - 1) c.args.may (node G.WITH_DECL) (fine _ c.if-isnt-2.ensures) (plus (plus_t (here (begins G.WITH_DECLS c.args.may c.args.x.now.entrypoint c.args.d (plus_t (from c.args.x.now c.args.s c.args.lent.now c.requires) (c.trivia-s.ensures.0 c.args.x.now.src.now c.args.lent.now.notes)) (c.begin-s.ensures c.args.x.now.src.now c.args.lent.now.notes))) (c.trivia-s-2.ensures.0 c.args.x.now.src.now c.args.lent.now.notes)) c.decl-s.ensures.read))) c.and-s.ensures.read) (ended c.end-2.ensures.step))

pub dot-returns-then-isnt-clause-read : goal.dot-returns-then-isnt-clause-read
unfolding grammar kind names_of
dot-returns-then-isnt-clause-read t c = stops (from c.args.x.now c.args.s c.args.lent.now c.requires) c.args.x.now.entrypoint c.args.d c.args.may dotted tt (not_fine _ c.if-isnt.ensures)

pub dot-primary-s-requires : goal.dot-primary-s-requires
dot-primary-s-requires t c = (omega arith, ((tries c.args.x.now.entrypoint c.args.d c.args.may dotted (from c.args.x.now c.args.s c.args.lent.now c.requires) (fine _ c.if-isnt.ensures) (c.mark-m.ensures c.args.lent.now.notes)).here).wf)

pub dot-more-s-requires : goal.dot-more-s-requires
dot-more-s-requires t c = (omega arith, ((past_then c.args.x.now.entrypoint c.args.d true (node G.PRIMARY_EXPR) ((tries c.args.x.now.entrypoint c.args.d c.args.may dotted (from c.args.x.now c.args.s c.args.lent.now c.requires) (fine _ c.if-isnt.ensures) (c.mark-m.ensures c.args.lent.now.notes)).good) c.primary-s.ensures.read).wf, omega arith))

pub dot-returns-then-isnt-2-clause-read : goal.dot-returns-then-isnt-2-clause-read
unfolding grammar kind names_of
dot-returns-then-isnt-2-clause-read t c = at_last (tries c.args.x.now.entrypoint c.args.d c.args.may dotted (from c.args.x.now c.args.s c.args.lent.now c.requires) (fine _ c.if-isnt.ensures) (c.mark-m.ensures c.args.lent.now.notes)) (λ g h. (plus (past_then c.args.x.now.entrypoint c.args.d true (node G.PRIMARY_EXPR) g c.primary-s.ensures.read) c.more-s.ensures.read)) (lost_on _ _ (not_failed _ c.if-isnt-2.ensures))

pub dot-returns-clause-read : goal.dot-returns-clause-read
unfolding grammar kind names_of
dot-returns-clause-read t c = at_last (tries c.args.x.now.entrypoint c.args.d c.args.may dotted (from c.args.x.now c.args.s c.args.lent.now c.requires) (fine _ c.if-isnt.ensures) (c.mark-m.ensures c.args.lent.now.notes)) (λ g h. (plus (past_then c.args.x.now.entrypoint c.args.d true (node G.PRIMARY_EXPR) g c.primary-s.ensures.read) c.more-s.ensures.read)) ((c.rewind-s.ensures c.more-s.new.lent.notes) ∙ lost_back _ _ (failed _ c.if-isnt-2.ensures))

pub each-expect-requires : goal.each-expect-requires
each-expect-requires t c = (asks_e (from c.args.x.now c.args.s c.args.lent.now c.requires) c.args.x.now.tiled.lines, omega arith)

pub each-term-requires : goal.each-term-requires
each-term-requires t c = (omega arith, (from c.args.x.now c.args.s c.args.lent.now c.requires).wf)

pub each-expr-requires : goal.each-expr-requires
each-expr-requires t c = (omega arith, (from c.args.x.now c.args.s c.args.lent.now c.requires).wf)

pub each-primary-requires : goal.each-primary-requires
each-primary-requires t c = (omega arith, (from c.args.x.now c.args.s c.args.lent.now c.requires).wf)

pub each-bool_term-requires : goal.each-bool_term-requires
each-bool_term-requires t c = (omega arith, (from c.args.x.now c.args.s c.args.lent.now c.requires).wf)

pub each-bool_expr-requires : goal.each-bool_expr-requires
each-bool_expr-requires t c = (omega arith, (from c.args.x.now c.args.s c.args.lent.now c.requires).wf)

pub each-returns-in-Ident-clause-read : goal.each-returns-in-Ident-clause-read
unfolding grammar kind names_of
each-returns-in-Ident-clause-read t c = told c.args.x.now.entrypoint c.args.d {v = Ident} c.in-Ident.is (plus_e (from c.args.x.now c.args.s c.args.lent.now c.requires) c.expect.ensures.step)

pub each-returns-in-Term-clause-read : goal.each-returns-in-Term-clause-read
unfolding grammar kind names_of
each-returns-in-Term-clause-read t c = told c.args.x.now.entrypoint c.args.d {v = Term} c.in-Term.is c.term.ensures.read

pub each-returns-in-Expr-clause-read : goal.each-returns-in-Expr-clause-read
unfolding grammar kind names_of
each-returns-in-Expr-clause-read t c = told c.args.x.now.entrypoint c.args.d {v = Expr} c.in-Expr.is c.expr.ensures.read

pub each-returns-in-PrimaryExpr-clause-read : goal.each-returns-in-PrimaryExpr-clause-read
unfolding grammar kind names_of
each-returns-in-PrimaryExpr-clause-read t c = told c.args.x.now.entrypoint c.args.d {v = PrimaryExpr} c.in-PrimaryExpr.is c.primary.ensures.read

pub each-returns-in-BooleanTerm-clause-read : goal.each-returns-in-BooleanTerm-clause-read
unfolding grammar kind names_of
each-returns-in-BooleanTerm-clause-read t c = told c.args.x.now.entrypoint c.args.d {v = BooleanTerm} c.in-BooleanTerm.is c.bool_term.ensures.read

pub each-returns-in-BooleanExpr-clause-read : goal.each-returns-in-BooleanExpr-clause-read
unfolding grammar kind names_of
each-returns-in-BooleanExpr-clause-read t c = told c.args.x.now.entrypoint c.args.d {v = BooleanExpr} c.in-BooleanExpr.is c.bool_expr.ensures.read

pub expr-returns-then-isnt-clause-read : goal.expr-returns-then-isnt-clause-read
unfolding grammar kind names_of
expr-returns-then-isnt-clause-read t c = stops (from c.args.x.now c.args.s c.args.lent.now c.requires) c.args.x.now.entrypoint c.args.d c.args.may (then (memo G.EXPR)) tt (not_fine _ c.if-isnt.ensures)

pub expr-trivia-s-requires : goal.expr-trivia-s-requires
expr-trivia-s-requires t c = (c.args.x.now.tiled.lines, ((from c.args.x.now c.args.s c.args.lent.now c.requires).wf.0.2.events, (from c.args.x.now c.args.s c.args.lent.now c.requires).wf.1.events))

pub expr-seen-requires : goal.expr-seen-requires
unfolding grammar kind names_of
expr-seen-requires t c = bit_in c.args.x.now.entrypoint c.args.d c.args.may G.EXPR refl (here (plus_t (from c.args.x.now c.args.s c.args.lent.now c.requires) (c.trivia-s.ensures.0 c.args.x.now.src.now c.args.lent.now.notes))) (inl (refl, refl))

pub expr-returns-then-seen-clause-read : goal.expr-returns-then-seen-clause-read
unfolding grammar kind names_of
expr-returns-then-seen-clause-read t c = then_past c.args.x.now.entrypoint c.args.d c.args.may (memo G.EXPR) (fine _ c.if-isnt.ensures) (plus (plus_t (from c.args.x.now c.args.s c.args.lent.now c.requires) (c.trivia-s.ensures.0 c.args.x.now.src.now c.args.lent.now.notes)) (known_hit c.args.x.now.entrypoint c.args.d c.args.may G.EXPR refl (here (plus_t (from c.args.x.now c.args.s c.args.lent.now c.requires) (c.trivia-s.ensures.0 c.args.x.now.src.now c.args.lent.now.notes))) (inl (refl, refl)) (ap number c.trivia-s.ensures.1 ∙ (fine _ c.if-isnt.ensures)) c.seen.ensures c.if-seen.true))

pub expr-sum-s-requires : goal.expr-sum-s-requires
expr-sum-s-requires t c = (omega arith, (plus_t (from c.args.x.now c.args.s c.args.lent.now c.requires) (c.trivia-s.ensures.0 c.args.x.now.src.now c.args.lent.now.notes)).wf)

pub expr-returns-then-isnt-2-clause-read : goal.expr-returns-then-isnt-2-clause-read
unfolding grammar kind names_of
expr-returns-then-isnt-2-clause-read t c = then_past c.args.x.now.entrypoint c.args.d c.args.may (memo G.EXPR) (fine _ c.if-isnt.ensures) (plus (plus_t (from c.args.x.now c.args.s c.args.lent.now c.requires) (c.trivia-s.ensures.0 c.args.x.now.src.now c.args.lent.now.notes)) (known_through c.args.x.now.entrypoint c.args.d c.args.may G.EXPR refl (here (plus_t (from c.args.x.now c.args.s c.args.lent.now c.requires) (c.trivia-s.ensures.0 c.args.x.now.src.now c.args.lent.now.notes))) (inl (refl, refl)) (ap number c.trivia-s.ensures.1 ∙ (fine _ c.if-isnt.ensures)) c.seen.ensures c.if-seen.false c.sum-s.ensures.read (not_failed _ c.if-isnt-2.ensures)))

pub expr-remembers-requires : goal.expr-remembers-requires
unfolding grammar kind names_of
expr-remembers-requires t c = bit_in_still c.args.x.now.entrypoint c.args.d c.args.may G.EXPR refl (here (plus_t (from c.args.x.now c.args.s c.args.lent.now c.requires) (c.trivia-s.ensures.0 c.args.x.now.src.now c.args.lent.now.notes))) (inl (refl, refl)) c.sum-s.ensures.read

pub expr-returns-clause-read : goal.expr-returns-clause-read
unfolding grammar kind names_of
expr-returns-clause-read t c = then_past c.args.x.now.entrypoint c.args.d c.args.may (memo G.EXPR) (fine _ c.if-isnt.ensures) (plus (plus_t (from c.args.x.now c.args.s c.args.lent.now c.requires) (c.trivia-s.ensures.0 c.args.x.now.src.now c.args.lent.now.notes)) (known_failed c.args.x.now.entrypoint c.args.d c.args.may G.EXPR refl (here (plus_t (from c.args.x.now c.args.s c.args.lent.now c.requires) (c.trivia-s.ensures.0 c.args.x.now.src.now c.args.lent.now.notes))) (inl (refl, refl)) (ap number c.trivia-s.ensures.1 ∙ (fine _ c.if-isnt.ensures)) c.seen.ensures c.if-seen.false c.sum-s.ensures.read (failed _ c.if-isnt-2.ensures) (c.remembers.ensures.0 (whole c.sum-s.result c.sum-s.new.lent.notes), c.remembers.ensures.1) c.remembers.auto.scratch))

pub exprs-returns-then-isnt-clause-read : goal.exprs-returns-then-isnt-clause-read
unfolding grammar kind names_of
exprs-returns-then-isnt-clause-read t c = stops (from c.args.x.now c.args.s c.args.lent.now c.requires) c.args.x.now.entrypoint c.args.d c.args.may (then (node G.EXPR_TUPLE)) tt (not_fine _ c.if-isnt.ensures)

pub exprs-trivia-s-requires : goal.exprs-trivia-s-requires
exprs-trivia-s-requires t c = (c.args.x.now.tiled.lines, ((from c.args.x.now c.args.s c.args.lent.now c.requires).wf.0.2.events, (from c.args.x.now c.args.s c.args.lent.now c.requires).wf.1.events))

pub exprs-begin-s-requires : goal.exprs-begin-s-requires
exprs-begin-s-requires t c = (c.args.x.now.tiled.lines, ((plus_t (from c.args.x.now c.args.s c.args.lent.now c.requires) (c.trivia-s.ensures.0 c.args.x.now.src.now c.args.lent.now.notes)).wf.0.2.events, (plus_t (from c.args.x.now c.args.s c.args.lent.now c.requires) (c.trivia-s.ensures.0 c.args.x.now.src.now c.args.lent.now.notes)).wf.1.events), (plus_t (from c.args.x.now c.args.s c.args.lent.now c.requires) (c.trivia-s.ensures.0 c.args.x.now.src.now c.args.lent.now.notes)).wf.0.0.here)

pub exprs-end-requires : goal.exprs-end-requires
exprs-end-requires t c = closes G.EXPR_TUPLE c.args.may c.args.x.now.entrypoint c.args.d (plus_t (from c.args.x.now c.args.s c.args.lent.now c.requires) (c.trivia-s.ensures.0 c.args.x.now.src.now c.args.lent.now.notes)) (c.begin-s.ensures c.args.x.now.src.now c.args.lent.now.notes) (begins G.EXPR_TUPLE c.args.may c.args.x.now.entrypoint c.args.d (plus_t (from c.args.x.now c.args.s c.args.lent.now c.requires) (c.trivia-s.ensures.0 c.args.x.now.src.now c.args.lent.now.notes)) (c.begin-s.ensures c.args.x.now.src.now c.args.lent.now.notes))

pub exprs-returns-then-d-eq0-clause-read : goal.exprs-returns-then-d-eq0-clause-read
unfolding grammar kind names_of
exprs-returns-then-d-eq0-clause-read t c = then_past c.args.x.now.entrypoint c.args.d c.args.may (node G.EXPR_TUPLE) (fine _ c.if-isnt.ensures) (makes_none G.EXPR_TUPLE c.args.may c.args.x.now.entrypoint c.args.d (plus_t (from c.args.x.now c.args.s c.args.lent.now c.requires) (c.trivia-s.ensures.0 c.args.x.now.src.now c.args.lent.now.notes)) (c.begin-s.ensures c.args.x.now.src.now c.args.lent.now.notes) c.if-d-eq0.true (ended c.end.ensures.step))

pub exprs-expect-s-requires : goal.exprs-expect-s-requires
exprs-expect-s-requires t c = (asks_e (begins G.EXPR_TUPLE c.args.may c.args.x.now.entrypoint c.args.d (plus_t (from c.args.x.now c.args.s c.args.lent.now c.requires) (c.trivia-s.ensures.0 c.args.x.now.src.now c.args.lent.now.notes)) (c.begin-s.ensures c.args.x.now.src.now c.args.lent.now.notes)) c.args.x.now.tiled.lines, omega arith)

pub exprs-expr-s-requires : goal.exprs-expr-s-requires
exprs-expr-s-requires t c = (omega (arith, c.if-d-eq0.false), (plus_e (begins G.EXPR_TUPLE c.args.may c.args.x.now.entrypoint c.args.d (plus_t (from c.args.x.now c.args.s c.args.lent.now c.requires) (c.trivia-s.ensures.0 c.args.x.now.src.now c.args.lent.now.notes)) (c.begin-s.ensures c.args.x.now.src.now c.args.lent.now.notes)) c.expect-s.ensures.step).wf)

pub exprs-more-s-requires : goal.exprs-more-s-requires
exprs-more-s-requires t c = (omega (arith, c.if-d-eq0.false), ((plus (plus_e (begins G.EXPR_TUPLE c.args.may c.args.x.now.entrypoint c.args.d (plus_t (from c.args.x.now c.args.s c.args.lent.now c.requires) (c.trivia-s.ensures.0 c.args.x.now.src.now c.args.lent.now.notes)) (c.begin-s.ensures c.args.x.now.src.now c.args.lent.now.notes)) c.expect-s.ensures.step) c.expr-s.ensures.read).wf, omega arith))

pub exprs-expect-s-requires-2 : goal.exprs-expect-s-requires-2
exprs-expect-s-requires-2 t c = (asks_e (plus (plus (plus_e (begins G.EXPR_TUPLE c.args.may c.args.x.now.entrypoint c.args.d (plus_t (from c.args.x.now c.args.s c.args.lent.now c.requires) (c.trivia-s.ensures.0 c.args.x.now.src.now c.args.lent.now.notes)) (c.begin-s.ensures c.args.x.now.src.now c.args.lent.now.notes)) c.expect-s.ensures.step) c.expr-s.ensures.read) c.more-s.ensures.read) c.args.x.now.tiled.lines, omega arith)

pub exprs-end-requires-2 : goal.exprs-end-requires-2
exprs-end-requires-2 t c = closes G.EXPR_TUPLE c.args.may c.args.x.now.entrypoint c.args.d (plus_t (from c.args.x.now c.args.s c.args.lent.now c.requires) (c.trivia-s.ensures.0 c.args.x.now.src.now c.args.lent.now.notes)) (c.begin-s.ensures c.args.x.now.src.now c.args.lent.now.notes) (plus_e (plus (plus (plus_e (begins G.EXPR_TUPLE c.args.may c.args.x.now.entrypoint c.args.d (plus_t (from c.args.x.now c.args.s c.args.lent.now c.requires) (c.trivia-s.ensures.0 c.args.x.now.src.now c.args.lent.now.notes)) (c.begin-s.ensures c.args.x.now.src.now c.args.lent.now.notes)) c.expect-s.ensures.step) c.expr-s.ensures.read) c.more-s.ensures.read) c.expect-s-2.ensures.step)

pub exprs-returns-clause-read : goal.exprs-returns-clause-read
unfolding grammar kind names_of
exprs-returns-clause-read t c = then_past c.args.x.now.entrypoint c.args.d c.args.may (node G.EXPR_TUPLE) (fine _ c.if-isnt.ensures) (makes G.EXPR_TUPLE c.args.may c.args.x.now.entrypoint c.args.d (plus_t (from c.args.x.now c.args.s c.args.lent.now c.requires) (c.trivia-s.ensures.0 c.args.x.now.src.now c.args.lent.now.notes)) (c.begin-s.ensures c.args.x.now.src.now c.args.lent.now.notes) c.if-d-eq0.false (plus_e (plus (plus (plus_e (begins G.EXPR_TUPLE c.args.may c.args.x.now.entrypoint c.args.d (plus_t (from c.args.x.now c.args.s c.args.lent.now c.requires) (c.trivia-s.ensures.0 c.args.x.now.src.now c.args.lent.now.notes)) (c.begin-s.ensures c.args.x.now.src.now c.args.lent.now.notes)) c.expect-s.ensures.step) c.expr-s.ensures.read) c.more-s.ensures.read) c.expect-s-2.ensures.step) (ended c.end-2.ensures.step))

pub fact-returns-then-isnt-clause-read : goal.fact-returns-then-isnt-clause-read
unfolding grammar kind names_of
fact-returns-then-isnt-clause-read t c = stops (from c.args.x.now c.args.s c.args.lent.now c.requires) c.args.x.now.entrypoint c.args.d c.args.may (grammar c.args.x.now.entrypoint G.BOOLEAN_TERM) tt (not_fine _ c.if-isnt.ensures)

pub fact-trivia-s-requires : goal.fact-trivia-s-requires
fact-trivia-s-requires t c = (c.args.x.now.tiled.lines, (((tries c.args.x.now.entrypoint c.args.d c.args.may (grammar c.args.x.now.entrypoint G.BOOLEAN_TERM) (from c.args.x.now c.args.s c.args.lent.now c.requires) (fine _ c.if-isnt.ensures) (c.mark-m.ensures c.args.lent.now.notes)).here).wf.0.2.events, ((tries c.args.x.now.entrypoint c.args.d c.args.may (grammar c.args.x.now.entrypoint G.BOOLEAN_TERM) (from c.args.x.now c.args.s c.args.lent.now c.requires) (fine _ c.if-isnt.ensures) (c.mark-m.ensures c.args.lent.now.notes)).here).wf.1.events))

pub fact-expect-s-requires : goal.fact-expect-s-requires
fact-expect-s-requires t c = (asks_e (plus_t ((tries c.args.x.now.entrypoint c.args.d c.args.may (grammar c.args.x.now.entrypoint G.BOOLEAN_TERM) (from c.args.x.now c.args.s c.args.lent.now c.requires) (fine _ c.if-isnt.ensures) (c.mark-m.ensures c.args.lent.now.notes)).here) (c.trivia-s.ensures.0 c.args.x.now.src.now c.args.lent.now.notes)) c.args.x.now.tiled.lines, omega arith)

pub fact-spot-s-requires : goal.fact-spot-s-requires
fact-spot-s-requires t c = (omega arith, (plus_e (plus_t ((tries c.args.x.now.entrypoint c.args.d c.args.may (grammar c.args.x.now.entrypoint G.BOOLEAN_TERM) (from c.args.x.now c.args.s c.args.lent.now c.requires) (fine _ c.if-isnt.ensures) (c.mark-m.ensures c.args.lent.now.notes)).here) (c.trivia-s.ensures.0 c.args.x.now.src.now c.args.lent.now.notes)) c.expect-s.ensures.step).wf)

pub fact-returns-then-isnt-2-clause-read : goal.fact-returns-then-isnt-2-clause-read
unfolding grammar kind names_of
fact-returns-then-isnt-2-clause-read t c = goes (tries c.args.x.now.entrypoint c.args.d c.args.may (grammar c.args.x.now.entrypoint G.BOOLEAN_TERM) (from c.args.x.now c.args.s c.args.lent.now c.requires) (fine _ c.if-isnt.ensures) (c.mark-m.ensures c.args.lent.now.notes)) (λ g h. (plus (plus_e (plus_t h (c.trivia-s.ensures.0 c.args.x.now.src.now c.args.lent.now.notes)) c.expect-s.ensures.step) c.spot-s.ensures.read)) (not_failed _ c.if-isnt-2.ensures)

pub fact-trivia-s-requires-2 : goal.fact-trivia-s-requires-2
unfolding grammar kind names_of
fact-trivia-s-requires-2 t c = (c.args.x.now.tiled.lines, (((else (tries c.args.x.now.entrypoint c.args.d c.args.may (grammar c.args.x.now.entrypoint G.BOOLEAN_TERM) (from c.args.x.now c.args.s c.args.lent.now c.requires) (fine _ c.if-isnt.ensures) (c.mark-m.ensures c.args.lent.now.notes)) (λ g h. (plus (plus_e (plus_t h (c.trivia-s.ensures.0 c.args.x.now.src.now c.args.lent.now.notes)) c.expect-s.ensures.step) c.spot-s.ensures.read)) (failed _ c.if-isnt-2.ensures) (ap (with_mode 0) (c.rewind-s.ensures c.spot-s.new.lent.notes))).here).wf.0.2.events, ((else (tries c.args.x.now.entrypoint c.args.d c.args.may (grammar c.args.x.now.entrypoint G.BOOLEAN_TERM) (from c.args.x.now c.args.s c.args.lent.now c.requires) (fine _ c.if-isnt.ensures) (c.mark-m.ensures c.args.lent.now.notes)) (λ g h. (plus (plus_e (plus_t h (c.trivia-s.ensures.0 c.args.x.now.src.now c.args.lent.now.notes)) c.expect-s.ensures.step) c.spot-s.ensures.read)) (failed _ c.if-isnt-2.ensures) (ap (with_mode 0) (c.rewind-s.ensures c.spot-s.new.lent.notes))).here).wf.1.events))

pub fact-expect-s-requires-2 : goal.fact-expect-s-requires-2
unfolding grammar kind names_of
fact-expect-s-requires-2 t c = (asks_e (plus_t ((else (tries c.args.x.now.entrypoint c.args.d c.args.may (grammar c.args.x.now.entrypoint G.BOOLEAN_TERM) (from c.args.x.now c.args.s c.args.lent.now c.requires) (fine _ c.if-isnt.ensures) (c.mark-m.ensures c.args.lent.now.notes)) (λ g h. (plus (plus_e (plus_t h (c.trivia-s.ensures.0 c.args.x.now.src.now c.args.lent.now.notes)) c.expect-s.ensures.step) c.spot-s.ensures.read)) (failed _ c.if-isnt-2.ensures) (ap (with_mode 0) (c.rewind-s.ensures c.spot-s.new.lent.notes))).here) (c.trivia-s-2.ensures.0 c.args.x.now.src.now c.spot-s.new.lent.notes)) c.args.x.now.tiled.lines, omega arith)

pub fact-returns-then-isnt-3-clause-read : goal.fact-returns-then-isnt-3-clause-read
unfolding grammar kind names_of
fact-returns-then-isnt-3-clause-read t c = goes (else (tries c.args.x.now.entrypoint c.args.d c.args.may (grammar c.args.x.now.entrypoint G.BOOLEAN_TERM) (from c.args.x.now c.args.s c.args.lent.now c.requires) (fine _ c.if-isnt.ensures) (c.mark-m.ensures c.args.lent.now.notes)) (λ g h. (plus (plus_e (plus_t h (c.trivia-s.ensures.0 c.args.x.now.src.now c.args.lent.now.notes)) c.expect-s.ensures.step) c.spot-s.ensures.read)) (failed _ c.if-isnt-2.ensures) (ap (with_mode 0) (c.rewind-s.ensures c.spot-s.new.lent.notes))) (λ g h. (plus_e (plus_t h (c.trivia-s-2.ensures.0 c.args.x.now.src.now c.spot-s.new.lent.notes)) c.expect-s-2.ensures.step)) (not_failed _ c.if-isnt-3.ensures)

pub fact-trivia-s-requires-3 : goal.fact-trivia-s-requires-3
unfolding grammar kind names_of
fact-trivia-s-requires-3 t c = (c.args.x.now.tiled.lines, (((else (else (tries c.args.x.now.entrypoint c.args.d c.args.may (grammar c.args.x.now.entrypoint G.BOOLEAN_TERM) (from c.args.x.now c.args.s c.args.lent.now c.requires) (fine _ c.if-isnt.ensures) (c.mark-m.ensures c.args.lent.now.notes)) (λ g h. (plus (plus_e (plus_t h (c.trivia-s.ensures.0 c.args.x.now.src.now c.args.lent.now.notes)) c.expect-s.ensures.step) c.spot-s.ensures.read)) (failed _ c.if-isnt-2.ensures) (ap (with_mode 0) (c.rewind-s.ensures c.spot-s.new.lent.notes))) (λ g h. (plus_e (plus_t h (c.trivia-s-2.ensures.0 c.args.x.now.src.now c.spot-s.new.lent.notes)) c.expect-s-2.ensures.step)) (failed _ c.if-isnt-3.ensures) (ap (with_mode 0) (c.rewind-s-2.ensures c.expect-s-2.new.lent.notes))).here).wf.0.2.events, ((else (else (tries c.args.x.now.entrypoint c.args.d c.args.may (grammar c.args.x.now.entrypoint G.BOOLEAN_TERM) (from c.args.x.now c.args.s c.args.lent.now c.requires) (fine _ c.if-isnt.ensures) (c.mark-m.ensures c.args.lent.now.notes)) (λ g h. (plus (plus_e (plus_t h (c.trivia-s.ensures.0 c.args.x.now.src.now c.args.lent.now.notes)) c.expect-s.ensures.step) c.spot-s.ensures.read)) (failed _ c.if-isnt-2.ensures) (ap (with_mode 0) (c.rewind-s.ensures c.spot-s.new.lent.notes))) (λ g h. (plus_e (plus_t h (c.trivia-s-2.ensures.0 c.args.x.now.src.now c.spot-s.new.lent.notes)) c.expect-s-2.ensures.step)) (failed _ c.if-isnt-3.ensures) (ap (with_mode 0) (c.rewind-s-2.ensures c.expect-s-2.new.lent.notes))).here).wf.1.events))

pub fact-expect-s-requires-3 : goal.fact-expect-s-requires-3
unfolding grammar kind names_of
fact-expect-s-requires-3 t c = (asks_e (plus_t ((else (else (tries c.args.x.now.entrypoint c.args.d c.args.may (grammar c.args.x.now.entrypoint G.BOOLEAN_TERM) (from c.args.x.now c.args.s c.args.lent.now c.requires) (fine _ c.if-isnt.ensures) (c.mark-m.ensures c.args.lent.now.notes)) (λ g h. (plus (plus_e (plus_t h (c.trivia-s.ensures.0 c.args.x.now.src.now c.args.lent.now.notes)) c.expect-s.ensures.step) c.spot-s.ensures.read)) (failed _ c.if-isnt-2.ensures) (ap (with_mode 0) (c.rewind-s.ensures c.spot-s.new.lent.notes))) (λ g h. (plus_e (plus_t h (c.trivia-s-2.ensures.0 c.args.x.now.src.now c.spot-s.new.lent.notes)) c.expect-s-2.ensures.step)) (failed _ c.if-isnt-3.ensures) (ap (with_mode 0) (c.rewind-s-2.ensures c.expect-s-2.new.lent.notes))).here) (c.trivia-s-3.ensures.0 c.args.x.now.src.now c.expect-s-2.new.lent.notes)) c.args.x.now.tiled.lines, omega arith)

pub fact-bool_term-s-requires : goal.fact-bool_term-s-requires
unfolding grammar kind names_of
fact-bool_term-s-requires t c = (omega arith, (plus_e (plus_t ((else (else (tries c.args.x.now.entrypoint c.args.d c.args.may (grammar c.args.x.now.entrypoint G.BOOLEAN_TERM) (from c.args.x.now c.args.s c.args.lent.now c.requires) (fine _ c.if-isnt.ensures) (c.mark-m.ensures c.args.lent.now.notes)) (λ g h. (plus (plus_e (plus_t h (c.trivia-s.ensures.0 c.args.x.now.src.now c.args.lent.now.notes)) c.expect-s.ensures.step) c.spot-s.ensures.read)) (failed _ c.if-isnt-2.ensures) (ap (with_mode 0) (c.rewind-s.ensures c.spot-s.new.lent.notes))) (λ g h. (plus_e (plus_t h (c.trivia-s-2.ensures.0 c.args.x.now.src.now c.spot-s.new.lent.notes)) c.expect-s-2.ensures.step)) (failed _ c.if-isnt-3.ensures) (ap (with_mode 0) (c.rewind-s-2.ensures c.expect-s-2.new.lent.notes))).here) (c.trivia-s-3.ensures.0 c.args.x.now.src.now c.expect-s-2.new.lent.notes)) c.expect-s-3.ensures.step).wf)

pub fact-returns-then-isnt-4-clause-read : goal.fact-returns-then-isnt-4-clause-read
unfolding grammar kind names_of
fact-returns-then-isnt-4-clause-read t c = goes (else (else (tries c.args.x.now.entrypoint c.args.d c.args.may (grammar c.args.x.now.entrypoint G.BOOLEAN_TERM) (from c.args.x.now c.args.s c.args.lent.now c.requires) (fine _ c.if-isnt.ensures) (c.mark-m.ensures c.args.lent.now.notes)) (λ g h. (plus (plus_e (plus_t h (c.trivia-s.ensures.0 c.args.x.now.src.now c.args.lent.now.notes)) c.expect-s.ensures.step) c.spot-s.ensures.read)) (failed _ c.if-isnt-2.ensures) (ap (with_mode 0) (c.rewind-s.ensures c.spot-s.new.lent.notes))) (λ g h. (plus_e (plus_t h (c.trivia-s-2.ensures.0 c.args.x.now.src.now c.spot-s.new.lent.notes)) c.expect-s-2.ensures.step)) (failed _ c.if-isnt-3.ensures) (ap (with_mode 0) (c.rewind-s-2.ensures c.expect-s-2.new.lent.notes))) (λ g h. (plus (plus_e (plus_t h (c.trivia-s-3.ensures.0 c.args.x.now.src.now c.expect-s-2.new.lent.notes)) c.expect-s-3.ensures.step) c.bool_term-s.ensures.read)) (not_failed _ c.if-isnt-4.ensures)

pub fact-all-requires : goal.fact-all-requires
unfolding grammar kind names_of
fact-all-requires t c = (omega arith, ((else (else (else (tries c.args.x.now.entrypoint c.args.d c.args.may (grammar c.args.x.now.entrypoint G.BOOLEAN_TERM) (from c.args.x.now c.args.s c.args.lent.now c.requires) (fine _ c.if-isnt.ensures) (c.mark-m.ensures c.args.lent.now.notes)) (λ g h. (plus (plus_e (plus_t h (c.trivia-s.ensures.0 c.args.x.now.src.now c.args.lent.now.notes)) c.expect-s.ensures.step) c.spot-s.ensures.read)) (failed _ c.if-isnt-2.ensures) (ap (with_mode 0) (c.rewind-s.ensures c.spot-s.new.lent.notes))) (λ g h. (plus_e (plus_t h (c.trivia-s-2.ensures.0 c.args.x.now.src.now c.spot-s.new.lent.notes)) c.expect-s-2.ensures.step)) (failed _ c.if-isnt-3.ensures) (ap (with_mode 0) (c.rewind-s-2.ensures c.expect-s-2.new.lent.notes))) (λ g h. (plus (plus_e (plus_t h (c.trivia-s-3.ensures.0 c.args.x.now.src.now c.expect-s-2.new.lent.notes)) c.expect-s-3.ensures.step) c.bool_term-s.ensures.read)) (failed _ c.if-isnt-4.ensures) (ap (with_mode 0) (c.rewind-s-3.ensures c.bool_term-s.new.lent.notes))).here).wf)

pub fact-returns-clause-read : goal.fact-returns-clause-read
unfolding grammar kind names_of
fact-returns-clause-read t c = (else (else (else (tries c.args.x.now.entrypoint c.args.d c.args.may (grammar c.args.x.now.entrypoint G.BOOLEAN_TERM) (from c.args.x.now c.args.s c.args.lent.now c.requires) (fine _ c.if-isnt.ensures) (c.mark-m.ensures c.args.lent.now.notes)) (λ g h. (plus (plus_e (plus_t h (c.trivia-s.ensures.0 c.args.x.now.src.now c.args.lent.now.notes)) c.expect-s.ensures.step) c.spot-s.ensures.read)) (failed _ c.if-isnt-2.ensures) (ap (with_mode 0) (c.rewind-s.ensures c.spot-s.new.lent.notes))) (λ g h. (plus_e (plus_t h (c.trivia-s-2.ensures.0 c.args.x.now.src.now c.spot-s.new.lent.notes)) c.expect-s-2.ensures.step)) (failed _ c.if-isnt-3.ensures) (ap (with_mode 0) (c.rewind-s-2.ensures c.expect-s-2.new.lent.notes))) (λ g h. (plus (plus_e (plus_t h (c.trivia-s-3.ensures.0 c.args.x.now.src.now c.expect-s-2.new.lent.notes)) c.expect-s-3.ensures.step) c.bool_term-s.ensures.read)) (failed _ c.if-isnt-4.ensures) (ap (with_mode 0) (c.rewind-s-3.ensures c.bool_term-s.new.lent.notes))).go c.all.ensures.read

pub for_expr-returns-then-isnt-clause-read : goal.for_expr-returns-then-isnt-clause-read
unfolding grammar kind names_of
for_expr-returns-then-isnt-clause-read t c = stops (from c.args.x.now c.args.s c.args.lent.now c.requires) c.args.x.now.entrypoint c.args.d c.args.may (then (node G.FOR_EXPR)) tt (not_fine _ c.if-isnt.ensures)

pub for_expr-trivia-s-requires : goal.for_expr-trivia-s-requires
for_expr-trivia-s-requires t c = (c.args.x.now.tiled.lines, ((from c.args.x.now c.args.s c.args.lent.now c.requires).wf.0.2.events, (from c.args.x.now c.args.s c.args.lent.now c.requires).wf.1.events))

pub for_expr-begin-s-requires : goal.for_expr-begin-s-requires
for_expr-begin-s-requires t c = (c.args.x.now.tiled.lines, ((plus_t (from c.args.x.now c.args.s c.args.lent.now c.requires) (c.trivia-s.ensures.0 c.args.x.now.src.now c.args.lent.now.notes)).wf.0.2.events, (plus_t (from c.args.x.now c.args.s c.args.lent.now c.requires) (c.trivia-s.ensures.0 c.args.x.now.src.now c.args.lent.now.notes)).wf.1.events), (plus_t (from c.args.x.now c.args.s c.args.lent.now c.requires) (c.trivia-s.ensures.0 c.args.x.now.src.now c.args.lent.now.notes)).wf.0.0.here)

pub for_expr-end-requires : goal.for_expr-end-requires
for_expr-end-requires t c = closes G.FOR_EXPR c.args.may c.args.x.now.entrypoint c.args.d (plus_t (from c.args.x.now c.args.s c.args.lent.now c.requires) (c.trivia-s.ensures.0 c.args.x.now.src.now c.args.lent.now.notes)) (c.begin-s.ensures c.args.x.now.src.now c.args.lent.now.notes) (begins G.FOR_EXPR c.args.may c.args.x.now.entrypoint c.args.d (plus_t (from c.args.x.now c.args.s c.args.lent.now c.requires) (c.trivia-s.ensures.0 c.args.x.now.src.now c.args.lent.now.notes)) (c.begin-s.ensures c.args.x.now.src.now c.args.lent.now.notes))

pub for_expr-returns-then-d-eq0-clause-read : goal.for_expr-returns-then-d-eq0-clause-read
unfolding grammar kind names_of
for_expr-returns-then-d-eq0-clause-read t c = then_past c.args.x.now.entrypoint c.args.d c.args.may (node G.FOR_EXPR) (fine _ c.if-isnt.ensures) (makes_none G.FOR_EXPR c.args.may c.args.x.now.entrypoint c.args.d (plus_t (from c.args.x.now c.args.s c.args.lent.now c.requires) (c.trivia-s.ensures.0 c.args.x.now.src.now c.args.lent.now.notes)) (c.begin-s.ensures c.args.x.now.src.now c.args.lent.now.notes) c.if-d-eq0.true (ended c.end.ensures.step))

pub for_expr-expect-s-requires : goal.for_expr-expect-s-requires
for_expr-expect-s-requires t c = (asks_e (begins G.FOR_EXPR c.args.may c.args.x.now.entrypoint c.args.d (plus_t (from c.args.x.now c.args.s c.args.lent.now c.requires) (c.trivia-s.ensures.0 c.args.x.now.src.now c.args.lent.now.notes)) (c.begin-s.ensures c.args.x.now.src.now c.args.lent.now.notes)) c.args.x.now.tiled.lines, omega arith)

pub for_expr-end-requires-then-isnt-2 : goal.for_expr-end-requires-then-isnt-2
for_expr-end-requires-then-isnt-2 t c = closes G.FOR_EXPR c.args.may c.args.x.now.entrypoint c.args.d (plus_t (from c.args.x.now c.args.s c.args.lent.now c.requires) (c.trivia-s.ensures.0 c.args.x.now.src.now c.args.lent.now.notes)) (c.begin-s.ensures c.args.x.now.src.now c.args.lent.now.notes) (plus_e (begins G.FOR_EXPR c.args.may c.args.x.now.entrypoint c.args.d (plus_t (from c.args.x.now c.args.s c.args.lent.now c.requires) (c.trivia-s.ensures.0 c.args.x.now.src.now c.args.lent.now.notes)) (c.begin-s.ensures c.args.x.now.src.now c.args.lent.now.notes)) c.expect-s.ensures.step)

pub for_expr-returns-then-isnt-2-clause-read : goal.for_expr-returns-then-isnt-2-clause-read
unfolding grammar kind names_of
for_expr-returns-then-isnt-2-clause-read t c = then_past c.args.x.now.entrypoint c.args.d c.args.may (node G.FOR_EXPR) (fine _ c.if-isnt.ensures) (makes G.FOR_EXPR c.args.may c.args.x.now.entrypoint c.args.d (plus_t (from c.args.x.now c.args.s c.args.lent.now c.requires) (c.trivia-s.ensures.0 c.args.x.now.src.now c.args.lent.now.notes)) (c.begin-s.ensures c.args.x.now.src.now c.args.lent.now.notes) c.if-d-eq0.false (stops (plus_e (begins G.FOR_EXPR c.args.may c.args.x.now.entrypoint c.args.d (plus_t (from c.args.x.now c.args.s c.args.lent.now c.requires) (c.trivia-s.ensures.0 c.args.x.now.src.now c.args.lent.now.notes)) (c.begin-s.ensures c.args.x.now.src.now c.args.lent.now.notes)) c.expect-s.ensures.step) c.args.x.now.entrypoint (c.args.d - 1) c.args.may (then (node G.QUANTIFIER) ⨟ over ⨟ body) tt (not_fine _ c.if-isnt-2.ensures)) (ended c.end-then-isnt-2.ensures.step))

pub for_expr-quant-s-requires : goal.for_expr-quant-s-requires
for_expr-quant-s-requires t c = (omega (arith, c.if-d-eq0.false), (plus_e (begins G.FOR_EXPR c.args.may c.args.x.now.entrypoint c.args.d (plus_t (from c.args.x.now c.args.s c.args.lent.now c.requires) (c.trivia-s.ensures.0 c.args.x.now.src.now c.args.lent.now.notes)) (c.begin-s.ensures c.args.x.now.src.now c.args.lent.now.notes)) c.expect-s.ensures.step).wf)

pub for_expr-over-s-requires : goal.for_expr-over-s-requires
for_expr-over-s-requires t c = (omega (arith, c.if-d-eq0.false), (plus (plus_e (begins G.FOR_EXPR c.args.may c.args.x.now.entrypoint c.args.d (plus_t (from c.args.x.now c.args.s c.args.lent.now c.requires) (c.trivia-s.ensures.0 c.args.x.now.src.now c.args.lent.now.notes)) (c.begin-s.ensures c.args.x.now.src.now c.args.lent.now.notes)) c.expect-s.ensures.step) c.quant-s.ensures.read).wf)

pub for_expr-body-s-requires : goal.for_expr-body-s-requires
for_expr-body-s-requires t c = (omega (arith, c.if-d-eq0.false), (plus (plus (plus_e (begins G.FOR_EXPR c.args.may c.args.x.now.entrypoint c.args.d (plus_t (from c.args.x.now c.args.s c.args.lent.now c.requires) (c.trivia-s.ensures.0 c.args.x.now.src.now c.args.lent.now.notes)) (c.begin-s.ensures c.args.x.now.src.now c.args.lent.now.notes)) c.expect-s.ensures.step) c.quant-s.ensures.read) c.over-s.ensures.read).wf)

pub for_expr-end-requires-2 : goal.for_expr-end-requires-2
for_expr-end-requires-2 t c = closes G.FOR_EXPR c.args.may c.args.x.now.entrypoint c.args.d (plus_t (from c.args.x.now c.args.s c.args.lent.now c.requires) (c.trivia-s.ensures.0 c.args.x.now.src.now c.args.lent.now.notes)) (c.begin-s.ensures c.args.x.now.src.now c.args.lent.now.notes) (plus (plus (plus (plus_e (begins G.FOR_EXPR c.args.may c.args.x.now.entrypoint c.args.d (plus_t (from c.args.x.now c.args.s c.args.lent.now c.requires) (c.trivia-s.ensures.0 c.args.x.now.src.now c.args.lent.now.notes)) (c.begin-s.ensures c.args.x.now.src.now c.args.lent.now.notes)) c.expect-s.ensures.step) c.quant-s.ensures.read) c.over-s.ensures.read) c.body-s.ensures.read)

pub for_expr-returns-clause-read : goal.for_expr-returns-clause-read
unfolding grammar kind names_of
for_expr-returns-clause-read t c = then_past c.args.x.now.entrypoint c.args.d c.args.may (node G.FOR_EXPR) (fine _ c.if-isnt.ensures) (makes G.FOR_EXPR c.args.may c.args.x.now.entrypoint c.args.d (plus_t (from c.args.x.now c.args.s c.args.lent.now c.requires) (c.trivia-s.ensures.0 c.args.x.now.src.now c.args.lent.now.notes)) (c.begin-s.ensures c.args.x.now.src.now c.args.lent.now.notes) c.if-d-eq0.false (plus (plus (plus (plus_e (begins G.FOR_EXPR c.args.may c.args.x.now.entrypoint c.args.d (plus_t (from c.args.x.now c.args.s c.args.lent.now c.requires) (c.trivia-s.ensures.0 c.args.x.now.src.now c.args.lent.now.notes)) (c.begin-s.ensures c.args.x.now.src.now c.args.lent.now.notes)) c.expect-s.ensures.step) c.quant-s.ensures.read) c.over-s.ensures.read) c.body-s.ensures.read) (ended c.end-2.ensures.step))

pub how-returns-then-isnt-clause-read : goal.how-returns-then-isnt-clause-read
unfolding grammar kind names_of
how-returns-then-isnt-clause-read t c = stops (from c.args.x.now c.args.s c.args.lent.now c.requires) c.args.x.now.entrypoint c.args.d c.args.may (grammar c.args.x.now.entrypoint G.QUANTIFIER) tt (not_fine _ c.if-isnt.ensures)

pub how-trivia-s-requires : goal.how-trivia-s-requires
how-trivia-s-requires t c = (c.args.x.now.tiled.lines, (((tries c.args.x.now.entrypoint c.args.d c.args.may (grammar c.args.x.now.entrypoint G.QUANTIFIER) (from c.args.x.now c.args.s c.args.lent.now c.requires) (fine _ c.if-isnt.ensures) (c.mark-m.ensures c.args.lent.now.notes)).here).wf.0.2.events, ((tries c.args.x.now.entrypoint c.args.d c.args.may (grammar c.args.x.now.entrypoint G.QUANTIFIER) (from c.args.x.now c.args.s c.args.lent.now c.requires) (fine _ c.if-isnt.ensures) (c.mark-m.ensures c.args.lent.now.notes)).here).wf.1.events))

pub how-expect-s-requires : goal.how-expect-s-requires
how-expect-s-requires t c = (asks_e (plus_t ((tries c.args.x.now.entrypoint c.args.d c.args.may (grammar c.args.x.now.entrypoint G.QUANTIFIER) (from c.args.x.now c.args.s c.args.lent.now c.requires) (fine _ c.if-isnt.ensures) (c.mark-m.ensures c.args.lent.now.notes)).here) (c.trivia-s.ensures.0 c.args.x.now.src.now c.args.lent.now.notes)) c.args.x.now.tiled.lines, omega arith)

pub how-returns-then-isnt-2-clause-read : goal.how-returns-then-isnt-2-clause-read
unfolding grammar kind names_of
how-returns-then-isnt-2-clause-read t c = goes (tries c.args.x.now.entrypoint c.args.d c.args.may (grammar c.args.x.now.entrypoint G.QUANTIFIER) (from c.args.x.now c.args.s c.args.lent.now c.requires) (fine _ c.if-isnt.ensures) (c.mark-m.ensures c.args.lent.now.notes)) (λ g h. (plus_e (plus_t h (c.trivia-s.ensures.0 c.args.x.now.src.now c.args.lent.now.notes)) c.expect-s.ensures.step)) (not_failed _ c.if-isnt-2.ensures)

pub how-term-s-requires : goal.how-term-s-requires
unfolding grammar kind names_of
how-term-s-requires t c = (omega arith, ((else (tries c.args.x.now.entrypoint c.args.d c.args.may (grammar c.args.x.now.entrypoint G.QUANTIFIER) (from c.args.x.now c.args.s c.args.lent.now c.requires) (fine _ c.if-isnt.ensures) (c.mark-m.ensures c.args.lent.now.notes)) (λ g h. (plus_e (plus_t h (c.trivia-s.ensures.0 c.args.x.now.src.now c.args.lent.now.notes)) c.expect-s.ensures.step)) (failed _ c.if-isnt-2.ensures) (ap (with_mode 0) (c.rewind-s.ensures c.expect-s.new.lent.notes))).here).wf)

pub how-expect-s-requires-2 : goal.how-expect-s-requires-2
unfolding grammar kind names_of
how-expect-s-requires-2 t c = (asks_e (past_then c.args.x.now.entrypoint c.args.d true (memo G.TERM) ((else (tries c.args.x.now.entrypoint c.args.d c.args.may (grammar c.args.x.now.entrypoint G.QUANTIFIER) (from c.args.x.now c.args.s c.args.lent.now c.requires) (fine _ c.if-isnt.ensures) (c.mark-m.ensures c.args.lent.now.notes)) (λ g h. (plus_e (plus_t h (c.trivia-s.ensures.0 c.args.x.now.src.now c.args.lent.now.notes)) c.expect-s.ensures.step)) (failed _ c.if-isnt-2.ensures) (ap (with_mode 0) (c.rewind-s.ensures c.expect-s.new.lent.notes))).good) c.term-s.ensures.read) c.args.x.now.tiled.lines, omega arith)

pub how-returns-then-isnt-3-clause-read : goal.how-returns-then-isnt-3-clause-read
unfolding grammar kind names_of
how-returns-then-isnt-3-clause-read t c = goes (else (tries c.args.x.now.entrypoint c.args.d c.args.may (grammar c.args.x.now.entrypoint G.QUANTIFIER) (from c.args.x.now c.args.s c.args.lent.now c.requires) (fine _ c.if-isnt.ensures) (c.mark-m.ensures c.args.lent.now.notes)) (λ g h. (plus_e (plus_t h (c.trivia-s.ensures.0 c.args.x.now.src.now c.args.lent.now.notes)) c.expect-s.ensures.step)) (failed _ c.if-isnt-2.ensures) (ap (with_mode 0) (c.rewind-s.ensures c.expect-s.new.lent.notes))) (λ g h. (plus_e (past_then c.args.x.now.entrypoint c.args.d true (memo G.TERM) g c.term-s.ensures.read) c.expect-s-2.ensures.step)) (not_failed _ c.if-isnt-3.ensures)

pub how-expr-s-requires : goal.how-expr-s-requires
unfolding grammar kind names_of
how-expr-s-requires t c = (omega arith, ((else (else (tries c.args.x.now.entrypoint c.args.d c.args.may (grammar c.args.x.now.entrypoint G.QUANTIFIER) (from c.args.x.now c.args.s c.args.lent.now c.requires) (fine _ c.if-isnt.ensures) (c.mark-m.ensures c.args.lent.now.notes)) (λ g h. (plus_e (plus_t h (c.trivia-s.ensures.0 c.args.x.now.src.now c.args.lent.now.notes)) c.expect-s.ensures.step)) (failed _ c.if-isnt-2.ensures) (ap (with_mode 0) (c.rewind-s.ensures c.expect-s.new.lent.notes))) (λ g h. (plus_e (past_then c.args.x.now.entrypoint c.args.d true (memo G.TERM) g c.term-s.ensures.read) c.expect-s-2.ensures.step)) (failed _ c.if-isnt-3.ensures) (ap (with_mode 0) (c.rewind-s-2.ensures c.expect-s-2.new.lent.notes))).here).wf)

pub how-unless-s-requires : goal.how-unless-s-requires
unfolding grammar kind names_of
how-unless-s-requires t c = asks_e (past_then c.args.x.now.entrypoint c.args.d true (memo G.EXPR) ((else (else (tries c.args.x.now.entrypoint c.args.d c.args.may (grammar c.args.x.now.entrypoint G.QUANTIFIER) (from c.args.x.now c.args.s c.args.lent.now c.requires) (fine _ c.if-isnt.ensures) (c.mark-m.ensures c.args.lent.now.notes)) (λ g h. (plus_e (plus_t h (c.trivia-s.ensures.0 c.args.x.now.src.now c.args.lent.now.notes)) c.expect-s.ensures.step)) (failed _ c.if-isnt-2.ensures) (ap (with_mode 0) (c.rewind-s.ensures c.expect-s.new.lent.notes))) (λ g h. (plus_e (past_then c.args.x.now.entrypoint c.args.d true (memo G.TERM) g c.term-s.ensures.read) c.expect-s-2.ensures.step)) (failed _ c.if-isnt-3.ensures) (ap (with_mode 0) (c.rewind-s-2.ensures c.expect-s-2.new.lent.notes))).good) c.expr-s.ensures.read) c.args.x.now.tiled.lines

pub how-returns-then-isnt-4-clause-read : goal.how-returns-then-isnt-4-clause-read
unfolding grammar kind names_of
how-returns-then-isnt-4-clause-read t c = at_last (else (else (tries c.args.x.now.entrypoint c.args.d c.args.may (grammar c.args.x.now.entrypoint G.QUANTIFIER) (from c.args.x.now c.args.s c.args.lent.now c.requires) (fine _ c.if-isnt.ensures) (c.mark-m.ensures c.args.lent.now.notes)) (λ g h. (plus_e (plus_t h (c.trivia-s.ensures.0 c.args.x.now.src.now c.args.lent.now.notes)) c.expect-s.ensures.step)) (failed _ c.if-isnt-2.ensures) (ap (with_mode 0) (c.rewind-s.ensures c.expect-s.new.lent.notes))) (λ g h. (plus_e (past_then c.args.x.now.entrypoint c.args.d true (memo G.TERM) g c.term-s.ensures.read) c.expect-s-2.ensures.step)) (failed _ c.if-isnt-3.ensures) (ap (with_mode 0) (c.rewind-s-2.ensures c.expect-s-2.new.lent.notes))) (λ g h. (plus_e (past_then c.args.x.now.entrypoint c.args.d true (memo G.EXPR) g c.expr-s.ensures.read) c.unless-s.ensures.step)) (lost_on _ _ (not_failed _ c.if-isnt-4.ensures))

pub how-returns-clause-read : goal.how-returns-clause-read
unfolding grammar kind names_of
how-returns-clause-read t c = at_last (else (else (tries c.args.x.now.entrypoint c.args.d c.args.may (grammar c.args.x.now.entrypoint G.QUANTIFIER) (from c.args.x.now c.args.s c.args.lent.now c.requires) (fine _ c.if-isnt.ensures) (c.mark-m.ensures c.args.lent.now.notes)) (λ g h. (plus_e (plus_t h (c.trivia-s.ensures.0 c.args.x.now.src.now c.args.lent.now.notes)) c.expect-s.ensures.step)) (failed _ c.if-isnt-2.ensures) (ap (with_mode 0) (c.rewind-s.ensures c.expect-s.new.lent.notes))) (λ g h. (plus_e (past_then c.args.x.now.entrypoint c.args.d true (memo G.TERM) g c.term-s.ensures.read) c.expect-s-2.ensures.step)) (failed _ c.if-isnt-3.ensures) (ap (with_mode 0) (c.rewind-s-2.ensures c.expect-s-2.new.lent.notes))) (λ g h. (plus_e (past_then c.args.x.now.entrypoint c.args.d true (memo G.EXPR) g c.expr-s.ensures.read) c.unless-s.ensures.step)) ((c.rewind-s-3.ensures c.unless-s.new.lent.notes) ∙ lost_back _ _ (failed _ c.if-isnt-4.ensures))

pub id-returns-then-isnt-clause-read : goal.id-returns-then-isnt-clause-read
unfolding grammar kind names_of
id-returns-then-isnt-clause-read t c = stops (from c.args.x.now c.args.s c.args.lent.now c.requires) c.args.x.now.entrypoint c.args.d c.args.may (grammar c.args.x.now.entrypoint G.PRIMARY_EXPR) tt (not_fine _ c.if-isnt.ensures)

pub id-call-s-requires : goal.id-call-s-requires
id-call-s-requires t c = (omega arith, ((tries c.args.x.now.entrypoint c.args.d c.args.may (grammar c.args.x.now.entrypoint G.PRIMARY_EXPR) (from c.args.x.now c.args.s c.args.lent.now c.requires) (fine _ c.if-isnt.ensures) (c.mark-m.ensures c.args.lent.now.notes)).here).wf)

pub id-returns-then-isnt-2-clause-read : goal.id-returns-then-isnt-2-clause-read
unfolding grammar kind names_of
id-returns-then-isnt-2-clause-read t c = goes (tries c.args.x.now.entrypoint c.args.d c.args.may (grammar c.args.x.now.entrypoint G.PRIMARY_EXPR) (from c.args.x.now c.args.s c.args.lent.now c.requires) (fine _ c.if-isnt.ensures) (c.mark-m.ensures c.args.lent.now.notes)) (λ g h. (past_then c.args.x.now.entrypoint c.args.d true (node G.FUNC_CALL) g c.call-s.ensures.read)) (not_failed _ c.if-isnt-2.ensures)

pub id-trivia-s-requires : goal.id-trivia-s-requires
unfolding grammar kind names_of
id-trivia-s-requires t c = (c.args.x.now.tiled.lines, (((else (tries c.args.x.now.entrypoint c.args.d c.args.may (grammar c.args.x.now.entrypoint G.PRIMARY_EXPR) (from c.args.x.now c.args.s c.args.lent.now c.requires) (fine _ c.if-isnt.ensures) (c.mark-m.ensures c.args.lent.now.notes)) (λ g h. (past_then c.args.x.now.entrypoint c.args.d true (node G.FUNC_CALL) g c.call-s.ensures.read)) (failed _ c.if-isnt-2.ensures) (ap (with_mode 0) (c.rewind-s.ensures c.call-s.new.lent.notes))).here).wf.0.2.events, ((else (tries c.args.x.now.entrypoint c.args.d c.args.may (grammar c.args.x.now.entrypoint G.PRIMARY_EXPR) (from c.args.x.now c.args.s c.args.lent.now c.requires) (fine _ c.if-isnt.ensures) (c.mark-m.ensures c.args.lent.now.notes)) (λ g h. (past_then c.args.x.now.entrypoint c.args.d true (node G.FUNC_CALL) g c.call-s.ensures.read)) (failed _ c.if-isnt-2.ensures) (ap (with_mode 0) (c.rewind-s.ensures c.call-s.new.lent.notes))).here).wf.1.events))

pub id-expect-s-requires : goal.id-expect-s-requires
unfolding grammar kind names_of
id-expect-s-requires t c = (asks_e (plus_t ((else (tries c.args.x.now.entrypoint c.args.d c.args.may (grammar c.args.x.now.entrypoint G.PRIMARY_EXPR) (from c.args.x.now c.args.s c.args.lent.now c.requires) (fine _ c.if-isnt.ensures) (c.mark-m.ensures c.args.lent.now.notes)) (λ g h. (past_then c.args.x.now.entrypoint c.args.d true (node G.FUNC_CALL) g c.call-s.ensures.read)) (failed _ c.if-isnt-2.ensures) (ap (with_mode 0) (c.rewind-s.ensures c.call-s.new.lent.notes))).here) (c.trivia-s.ensures.0 c.args.x.now.src.now c.call-s.new.lent.notes)) c.args.x.now.tiled.lines, omega arith)

pub id-expect-s-requires-2 : goal.id-expect-s-requires-2
unfolding grammar kind names_of
id-expect-s-requires-2 t c = (asks_e (plus_e (plus_t ((else (tries c.args.x.now.entrypoint c.args.d c.args.may (grammar c.args.x.now.entrypoint G.PRIMARY_EXPR) (from c.args.x.now c.args.s c.args.lent.now c.requires) (fine _ c.if-isnt.ensures) (c.mark-m.ensures c.args.lent.now.notes)) (λ g h. (past_then c.args.x.now.entrypoint c.args.d true (node G.FUNC_CALL) g c.call-s.ensures.read)) (failed _ c.if-isnt-2.ensures) (ap (with_mode 0) (c.rewind-s.ensures c.call-s.new.lent.notes))).here) (c.trivia-s.ensures.0 c.args.x.now.src.now c.call-s.new.lent.notes)) c.expect-s.ensures.step) c.args.x.now.tiled.lines, omega arith)

pub id-expr-s-requires : goal.id-expr-s-requires
unfolding grammar kind names_of
id-expr-s-requires t c = (omega arith, (plus_e (plus_e (plus_t ((else (tries c.args.x.now.entrypoint c.args.d c.args.may (grammar c.args.x.now.entrypoint G.PRIMARY_EXPR) (from c.args.x.now c.args.s c.args.lent.now c.requires) (fine _ c.if-isnt.ensures) (c.mark-m.ensures c.args.lent.now.notes)) (λ g h. (past_then c.args.x.now.entrypoint c.args.d true (node G.FUNC_CALL) g c.call-s.ensures.read)) (failed _ c.if-isnt-2.ensures) (ap (with_mode 0) (c.rewind-s.ensures c.call-s.new.lent.notes))).here) (c.trivia-s.ensures.0 c.args.x.now.src.now c.call-s.new.lent.notes)) c.expect-s.ensures.step) c.expect-s-2.ensures.step).wf)

pub id-expect-s-requires-3 : goal.id-expect-s-requires-3
unfolding grammar kind names_of
id-expect-s-requires-3 t c = (asks_e (plus (plus_e (plus_e (plus_t ((else (tries c.args.x.now.entrypoint c.args.d c.args.may (grammar c.args.x.now.entrypoint G.PRIMARY_EXPR) (from c.args.x.now c.args.s c.args.lent.now c.requires) (fine _ c.if-isnt.ensures) (c.mark-m.ensures c.args.lent.now.notes)) (λ g h. (past_then c.args.x.now.entrypoint c.args.d true (node G.FUNC_CALL) g c.call-s.ensures.read)) (failed _ c.if-isnt-2.ensures) (ap (with_mode 0) (c.rewind-s.ensures c.call-s.new.lent.notes))).here) (c.trivia-s.ensures.0 c.args.x.now.src.now c.call-s.new.lent.notes)) c.expect-s.ensures.step) c.expect-s-2.ensures.step) c.expr-s.ensures.read) c.args.x.now.tiled.lines, omega arith)

pub id-returns-then-isnt-3-clause-read : goal.id-returns-then-isnt-3-clause-read
unfolding grammar kind names_of
id-returns-then-isnt-3-clause-read t c = goes (else (tries c.args.x.now.entrypoint c.args.d c.args.may (grammar c.args.x.now.entrypoint G.PRIMARY_EXPR) (from c.args.x.now c.args.s c.args.lent.now c.requires) (fine _ c.if-isnt.ensures) (c.mark-m.ensures c.args.lent.now.notes)) (λ g h. (past_then c.args.x.now.entrypoint c.args.d true (node G.FUNC_CALL) g c.call-s.ensures.read)) (failed _ c.if-isnt-2.ensures) (ap (with_mode 0) (c.rewind-s.ensures c.call-s.new.lent.notes))) (λ g h. (plus_e (plus (plus_e (plus_e (plus_t h (c.trivia-s.ensures.0 c.args.x.now.src.now c.call-s.new.lent.notes)) c.expect-s.ensures.step) c.expect-s-2.ensures.step) c.expr-s.ensures.read) c.expect-s-3.ensures.step)) (not_failed _ c.if-isnt-3.ensures)

pub id-trivia-s-requires-2 : goal.id-trivia-s-requires-2
unfolding grammar kind names_of
id-trivia-s-requires-2 t c = (c.args.x.now.tiled.lines, (((else (else (tries c.args.x.now.entrypoint c.args.d c.args.may (grammar c.args.x.now.entrypoint G.PRIMARY_EXPR) (from c.args.x.now c.args.s c.args.lent.now c.requires) (fine _ c.if-isnt.ensures) (c.mark-m.ensures c.args.lent.now.notes)) (λ g h. (past_then c.args.x.now.entrypoint c.args.d true (node G.FUNC_CALL) g c.call-s.ensures.read)) (failed _ c.if-isnt-2.ensures) (ap (with_mode 0) (c.rewind-s.ensures c.call-s.new.lent.notes))) (λ g h. (plus_e (plus (plus_e (plus_e (plus_t h (c.trivia-s.ensures.0 c.args.x.now.src.now c.call-s.new.lent.notes)) c.expect-s.ensures.step) c.expect-s-2.ensures.step) c.expr-s.ensures.read) c.expect-s-3.ensures.step)) (failed _ c.if-isnt-3.ensures) (ap (with_mode 0) (c.rewind-s-2.ensures c.expect-s-3.new.lent.notes))).here).wf.0.2.events, ((else (else (tries c.args.x.now.entrypoint c.args.d c.args.may (grammar c.args.x.now.entrypoint G.PRIMARY_EXPR) (from c.args.x.now c.args.s c.args.lent.now c.requires) (fine _ c.if-isnt.ensures) (c.mark-m.ensures c.args.lent.now.notes)) (λ g h. (past_then c.args.x.now.entrypoint c.args.d true (node G.FUNC_CALL) g c.call-s.ensures.read)) (failed _ c.if-isnt-2.ensures) (ap (with_mode 0) (c.rewind-s.ensures c.call-s.new.lent.notes))) (λ g h. (plus_e (plus (plus_e (plus_e (plus_t h (c.trivia-s.ensures.0 c.args.x.now.src.now c.call-s.new.lent.notes)) c.expect-s.ensures.step) c.expect-s-2.ensures.step) c.expr-s.ensures.read) c.expect-s-3.ensures.step)) (failed _ c.if-isnt-3.ensures) (ap (with_mode 0) (c.rewind-s-2.ensures c.expect-s-3.new.lent.notes))).here).wf.1.events))

pub id-expect-s-requires-4 : goal.id-expect-s-requires-4
unfolding grammar kind names_of
id-expect-s-requires-4 t c = (asks_e (plus_t ((else (else (tries c.args.x.now.entrypoint c.args.d c.args.may (grammar c.args.x.now.entrypoint G.PRIMARY_EXPR) (from c.args.x.now c.args.s c.args.lent.now c.requires) (fine _ c.if-isnt.ensures) (c.mark-m.ensures c.args.lent.now.notes)) (λ g h. (past_then c.args.x.now.entrypoint c.args.d true (node G.FUNC_CALL) g c.call-s.ensures.read)) (failed _ c.if-isnt-2.ensures) (ap (with_mode 0) (c.rewind-s.ensures c.call-s.new.lent.notes))) (λ g h. (plus_e (plus (plus_e (plus_e (plus_t h (c.trivia-s.ensures.0 c.args.x.now.src.now c.call-s.new.lent.notes)) c.expect-s.ensures.step) c.expect-s-2.ensures.step) c.expr-s.ensures.read) c.expect-s-3.ensures.step)) (failed _ c.if-isnt-3.ensures) (ap (with_mode 0) (c.rewind-s-2.ensures c.expect-s-3.new.lent.notes))).here) (c.trivia-s-2.ensures.0 c.args.x.now.src.now c.expect-s-3.new.lent.notes)) c.args.x.now.tiled.lines, omega arith)

pub id-returns-then-isnt-4-clause-read : goal.id-returns-then-isnt-4-clause-read
unfolding grammar kind names_of
id-returns-then-isnt-4-clause-read t c = at_last (else (else (tries c.args.x.now.entrypoint c.args.d c.args.may (grammar c.args.x.now.entrypoint G.PRIMARY_EXPR) (from c.args.x.now c.args.s c.args.lent.now c.requires) (fine _ c.if-isnt.ensures) (c.mark-m.ensures c.args.lent.now.notes)) (λ g h. (past_then c.args.x.now.entrypoint c.args.d true (node G.FUNC_CALL) g c.call-s.ensures.read)) (failed _ c.if-isnt-2.ensures) (ap (with_mode 0) (c.rewind-s.ensures c.call-s.new.lent.notes))) (λ g h. (plus_e (plus (plus_e (plus_e (plus_t h (c.trivia-s.ensures.0 c.args.x.now.src.now c.call-s.new.lent.notes)) c.expect-s.ensures.step) c.expect-s-2.ensures.step) c.expr-s.ensures.read) c.expect-s-3.ensures.step)) (failed _ c.if-isnt-3.ensures) (ap (with_mode 0) (c.rewind-s-2.ensures c.expect-s-3.new.lent.notes))) (λ g h. (plus_e (plus_t h (c.trivia-s-2.ensures.0 c.args.x.now.src.now c.expect-s-3.new.lent.notes)) c.expect-s-4.ensures.step)) (lost_on _ _ (not_failed _ c.if-isnt-4.ensures))

pub id-returns-clause-read : goal.id-returns-clause-read
unfolding grammar kind names_of
id-returns-clause-read t c = at_last (else (else (tries c.args.x.now.entrypoint c.args.d c.args.may (grammar c.args.x.now.entrypoint G.PRIMARY_EXPR) (from c.args.x.now c.args.s c.args.lent.now c.requires) (fine _ c.if-isnt.ensures) (c.mark-m.ensures c.args.lent.now.notes)) (λ g h. (past_then c.args.x.now.entrypoint c.args.d true (node G.FUNC_CALL) g c.call-s.ensures.read)) (failed _ c.if-isnt-2.ensures) (ap (with_mode 0) (c.rewind-s.ensures c.call-s.new.lent.notes))) (λ g h. (plus_e (plus (plus_e (plus_e (plus_t h (c.trivia-s.ensures.0 c.args.x.now.src.now c.call-s.new.lent.notes)) c.expect-s.ensures.step) c.expect-s-2.ensures.step) c.expr-s.ensures.read) c.expect-s-3.ensures.step)) (failed _ c.if-isnt-3.ensures) (ap (with_mode 0) (c.rewind-s-2.ensures c.expect-s-3.new.lent.notes))) (λ g h. (plus_e (plus_t h (c.trivia-s-2.ensures.0 c.args.x.now.src.now c.expect-s-3.new.lent.notes)) c.expect-s-4.ensures.step)) ((c.rewind-s-3.ensures c.expect-s-4.new.lent.notes) ∙ lost_back _ _ (failed _ c.if-isnt-4.ensures))

pub iter-begin-s-requires : goal.iter-begin-s-requires
iter-begin-s-requires t c = (c.args.x.now.tiled.lines, ((from c.args.x.now c.args.s c.args.lent.now c.requires).wf.0.2.events, (from c.args.x.now c.args.s c.args.lent.now c.requires).wf.1.events), (from c.args.x.now c.args.s c.args.lent.now c.requires).wf.0.0.here)

pub iter-end-requires : goal.iter-end-requires
iter-end-requires t c = closes G.ITERABLE c.args.may c.args.x.now.entrypoint c.args.d (from c.args.x.now c.args.s c.args.lent.now c.requires) (c.begin-s.ensures c.args.x.now.src.now c.args.lent.now.notes) (begins G.ITERABLE c.args.may c.args.x.now.entrypoint c.args.d (from c.args.x.now c.args.s c.args.lent.now c.requires) (c.begin-s.ensures c.args.x.now.src.now c.args.lent.now.notes))

pub iter-returns-then-d-eq0-clause-read : goal.iter-returns-then-d-eq0-clause-read
unfolding grammar kind names_of
iter-returns-then-d-eq0-clause-read t c = makes_none G.ITERABLE c.args.may c.args.x.now.entrypoint c.args.d (from c.args.x.now c.args.s c.args.lent.now c.requires) (c.begin-s.ensures c.args.x.now.src.now c.args.lent.now.notes) c.if-d-eq0.true (ended c.end.ensures.step)

pub iter-vals-s-requires : goal.iter-vals-s-requires
iter-vals-s-requires t c = (omega (arith, c.if-d-eq0.false), (begins G.ITERABLE c.args.may c.args.x.now.entrypoint c.args.d (from c.args.x.now c.args.s c.args.lent.now c.requires) (c.begin-s.ensures c.args.x.now.src.now c.args.lent.now.notes)).wf)

pub iter-end-requires-2 : goal.iter-end-requires-2
iter-end-requires-2 t c = closes G.ITERABLE c.args.may c.args.x.now.entrypoint c.args.d (from c.args.x.now c.args.s c.args.lent.now c.requires) (c.begin-s.ensures c.args.x.now.src.now c.args.lent.now.notes) (plus (begins G.ITERABLE c.args.may c.args.x.now.entrypoint c.args.d (from c.args.x.now c.args.s c.args.lent.now c.requires) (c.begin-s.ensures c.args.x.now.src.now c.args.lent.now.notes)) c.vals-s.ensures.read)

pub iter-returns-clause-read : goal.iter-returns-clause-read
unfolding grammar kind names_of
iter-returns-clause-read t c = makes G.ITERABLE c.args.may c.args.x.now.entrypoint c.args.d (from c.args.x.now c.args.s c.args.lent.now c.requires) (c.begin-s.ensures c.args.x.now.src.now c.args.lent.now.notes) c.if-d-eq0.false (plus (begins G.ITERABLE c.args.may c.args.x.now.entrypoint c.args.d (from c.args.x.now c.args.s c.args.lent.now c.requires) (c.begin-s.ensures c.args.x.now.src.now c.args.lent.now.notes)) c.vals-s.ensures.read) (ended c.end-2.ensures.step)

pub list-returns-then-isnt-clause-read : goal.list-returns-then-isnt-clause-read
unfolding grammar kind names_of
list-returns-then-isnt-clause-read t c = stops (from c.args.x.now c.args.s c.args.lent.now c.requires) c.args.x.now.entrypoint c.args.d c.args.may args tt (not_fine _ c.if-isnt.ensures)

pub list-bool_expr-s-requires : goal.list-bool_expr-s-requires
list-bool_expr-s-requires t c = (omega arith, ((tries c.args.x.now.entrypoint c.args.d c.args.may args (from c.args.x.now c.args.s c.args.lent.now c.requires) (fine _ c.if-isnt.ensures) (c.mark-m.ensures c.args.lent.now.notes)).here).wf)

pub list-more-s-requires : goal.list-more-s-requires
list-more-s-requires t c = (omega arith, ((past_then c.args.x.now.entrypoint c.args.d true (node G.BOOLEAN_EXPR) ((tries c.args.x.now.entrypoint c.args.d c.args.may args (from c.args.x.now c.args.s c.args.lent.now c.requires) (fine _ c.if-isnt.ensures) (c.mark-m.ensures c.args.lent.now.notes)).good) c.bool_expr-s.ensures.read).wf, omega arith))

pub list-returns-then-isnt-2-clause-read : goal.list-returns-then-isnt-2-clause-read
unfolding grammar kind names_of
list-returns-then-isnt-2-clause-read t c = waives c.args.x.now.entrypoint c.args.d c.args.may (node G.BOOLEAN_EXPR ⨟ many (one k.COMMA ⨟ then (node G.BOOLEAN_EXPR))) (from c.args.x.now c.args.s c.args.lent.now c.requires) (fine _ c.if-isnt.ensures) (c.mark-m.ensures c.args.lent.now.notes) (plus (past_then c.args.x.now.entrypoint c.args.d true (node G.BOOLEAN_EXPR) (fine _ c.if-isnt.ensures) c.bool_expr-s.ensures.read) c.more-s.ensures.read) (waived_on _ _ (not_failed _ c.if-isnt-2.ensures))

pub list-returns-clause-read : goal.list-returns-clause-read
unfolding grammar kind names_of
list-returns-clause-read t c = waives c.args.x.now.entrypoint c.args.d c.args.may (node G.BOOLEAN_EXPR ⨟ many (one k.COMMA ⨟ then (node G.BOOLEAN_EXPR))) (from c.args.x.now c.args.s c.args.lent.now c.requires) (fine _ c.if-isnt.ensures) (c.mark-m.ensures c.args.lent.now.notes) (plus (past_then c.args.x.now.entrypoint c.args.d true (node G.BOOLEAN_EXPR) (fine _ c.if-isnt.ensures) c.bool_expr-s.ensures.read) c.more-s.ensures.read) (ap (with_mode 0) (c.rewind-s.ensures c.more-s.new.lent.notes) ∙ waived_back _ _ (failed _ c.if-isnt-2.ensures))

pub lit-returns-then-isnt-clause-read : goal.lit-returns-then-isnt-clause-read
unfolding grammar kind names_of
lit-returns-then-isnt-clause-read t c = stops (from c.args.x.now c.args.s c.args.lent.now c.requires) c.args.x.now.entrypoint c.args.d c.args.may (grammar c.args.x.now.entrypoint G.TERM) tt (not_fine _ c.if-isnt.ensures)

pub lit-trivia-s-requires : goal.lit-trivia-s-requires
lit-trivia-s-requires t c = (c.args.x.now.tiled.lines, (((tries c.args.x.now.entrypoint c.args.d c.args.may (grammar c.args.x.now.entrypoint G.TERM) (from c.args.x.now c.args.s c.args.lent.now c.requires) (fine _ c.if-isnt.ensures) (c.mark-m.ensures c.args.lent.now.notes)).here).wf.0.2.events, ((tries c.args.x.now.entrypoint c.args.d c.args.may (grammar c.args.x.now.entrypoint G.TERM) (from c.args.x.now c.args.s c.args.lent.now c.requires) (fine _ c.if-isnt.ensures) (c.mark-m.ensures c.args.lent.now.notes)).here).wf.1.events))

pub lit-expect-s-requires : goal.lit-expect-s-requires
lit-expect-s-requires t c = (asks_e (plus_t ((tries c.args.x.now.entrypoint c.args.d c.args.may (grammar c.args.x.now.entrypoint G.TERM) (from c.args.x.now c.args.s c.args.lent.now c.requires) (fine _ c.if-isnt.ensures) (c.mark-m.ensures c.args.lent.now.notes)).here) (c.trivia-s.ensures.0 c.args.x.now.src.now c.args.lent.now.notes)) c.args.x.now.tiled.lines, omega arith)

pub lit-returns-then-isnt-2-clause-read : goal.lit-returns-then-isnt-2-clause-read
unfolding grammar kind names_of
lit-returns-then-isnt-2-clause-read t c = goes (tries c.args.x.now.entrypoint c.args.d c.args.may (grammar c.args.x.now.entrypoint G.TERM) (from c.args.x.now c.args.s c.args.lent.now c.requires) (fine _ c.if-isnt.ensures) (c.mark-m.ensures c.args.lent.now.notes)) (λ g h. (plus_e (plus_t h (c.trivia-s.ensures.0 c.args.x.now.src.now c.args.lent.now.notes)) (as_set (names_of 55) c.literals.ensures c.expect-s.ensures.step))) (not_failed _ c.if-isnt-2.ensures)

pub lit-trivia-s-requires-2 : goal.lit-trivia-s-requires-2
unfolding grammar kind names_of
lit-trivia-s-requires-2 t c = (c.args.x.now.tiled.lines, (((else (tries c.args.x.now.entrypoint c.args.d c.args.may (grammar c.args.x.now.entrypoint G.TERM) (from c.args.x.now c.args.s c.args.lent.now c.requires) (fine _ c.if-isnt.ensures) (c.mark-m.ensures c.args.lent.now.notes)) (λ g h. (plus_e (plus_t h (c.trivia-s.ensures.0 c.args.x.now.src.now c.args.lent.now.notes)) (as_set (names_of 55) c.literals.ensures c.expect-s.ensures.step))) (failed _ c.if-isnt-2.ensures) (ap (with_mode 0) (c.rewind-s.ensures c.expect-s.new.lent.notes))).here).wf.0.2.events, ((else (tries c.args.x.now.entrypoint c.args.d c.args.may (grammar c.args.x.now.entrypoint G.TERM) (from c.args.x.now c.args.s c.args.lent.now c.requires) (fine _ c.if-isnt.ensures) (c.mark-m.ensures c.args.lent.now.notes)) (λ g h. (plus_e (plus_t h (c.trivia-s.ensures.0 c.args.x.now.src.now c.args.lent.now.notes)) (as_set (names_of 55) c.literals.ensures c.expect-s.ensures.step))) (failed _ c.if-isnt-2.ensures) (ap (with_mode 0) (c.rewind-s.ensures c.expect-s.new.lent.notes))).here).wf.1.events))

pub lit-expect-s-requires-2 : goal.lit-expect-s-requires-2
unfolding grammar kind names_of
lit-expect-s-requires-2 t c = (asks_e (plus_t ((else (tries c.args.x.now.entrypoint c.args.d c.args.may (grammar c.args.x.now.entrypoint G.TERM) (from c.args.x.now c.args.s c.args.lent.now c.requires) (fine _ c.if-isnt.ensures) (c.mark-m.ensures c.args.lent.now.notes)) (λ g h. (plus_e (plus_t h (c.trivia-s.ensures.0 c.args.x.now.src.now c.args.lent.now.notes)) (as_set (names_of 55) c.literals.ensures c.expect-s.ensures.step))) (failed _ c.if-isnt-2.ensures) (ap (with_mode 0) (c.rewind-s.ensures c.expect-s.new.lent.notes))).here) (c.trivia-s-2.ensures.0 c.args.x.now.src.now c.expect-s.new.lent.notes)) c.args.x.now.tiled.lines, omega arith)

pub lit-span-s-requires : goal.lit-span-s-requires
unfolding grammar kind names_of
lit-span-s-requires t c = (omega arith, (plus_e (plus_t ((else (tries c.args.x.now.entrypoint c.args.d c.args.may (grammar c.args.x.now.entrypoint G.TERM) (from c.args.x.now c.args.s c.args.lent.now c.requires) (fine _ c.if-isnt.ensures) (c.mark-m.ensures c.args.lent.now.notes)) (λ g h. (plus_e (plus_t h (c.trivia-s.ensures.0 c.args.x.now.src.now c.args.lent.now.notes)) (as_set (names_of 55) c.literals.ensures c.expect-s.ensures.step))) (failed _ c.if-isnt-2.ensures) (ap (with_mode 0) (c.rewind-s.ensures c.expect-s.new.lent.notes))).here) (c.trivia-s-2.ensures.0 c.args.x.now.src.now c.expect-s.new.lent.notes)) c.expect-s-2.ensures.step).wf)

pub lit-returns-then-isnt-3-clause-read : goal.lit-returns-then-isnt-3-clause-read
unfolding grammar kind names_of
lit-returns-then-isnt-3-clause-read t c = goes (else (tries c.args.x.now.entrypoint c.args.d c.args.may (grammar c.args.x.now.entrypoint G.TERM) (from c.args.x.now c.args.s c.args.lent.now c.requires) (fine _ c.if-isnt.ensures) (c.mark-m.ensures c.args.lent.now.notes)) (λ g h. (plus_e (plus_t h (c.trivia-s.ensures.0 c.args.x.now.src.now c.args.lent.now.notes)) (as_set (names_of 55) c.literals.ensures c.expect-s.ensures.step))) (failed _ c.if-isnt-2.ensures) (ap (with_mode 0) (c.rewind-s.ensures c.expect-s.new.lent.notes))) (λ g h. (plus (plus_e (plus_t h (c.trivia-s-2.ensures.0 c.args.x.now.src.now c.expect-s.new.lent.notes)) c.expect-s-2.ensures.step) c.span-s.ensures.read)) (not_failed _ c.if-isnt-3.ensures)

pub lit-trivia-s-requires-3 : goal.lit-trivia-s-requires-3
unfolding grammar kind names_of
lit-trivia-s-requires-3 t c = (c.args.x.now.tiled.lines, (((else (else (tries c.args.x.now.entrypoint c.args.d c.args.may (grammar c.args.x.now.entrypoint G.TERM) (from c.args.x.now c.args.s c.args.lent.now c.requires) (fine _ c.if-isnt.ensures) (c.mark-m.ensures c.args.lent.now.notes)) (λ g h. (plus_e (plus_t h (c.trivia-s.ensures.0 c.args.x.now.src.now c.args.lent.now.notes)) (as_set (names_of 55) c.literals.ensures c.expect-s.ensures.step))) (failed _ c.if-isnt-2.ensures) (ap (with_mode 0) (c.rewind-s.ensures c.expect-s.new.lent.notes))) (λ g h. (plus (plus_e (plus_t h (c.trivia-s-2.ensures.0 c.args.x.now.src.now c.expect-s.new.lent.notes)) c.expect-s-2.ensures.step) c.span-s.ensures.read)) (failed _ c.if-isnt-3.ensures) (ap (with_mode 0) (c.rewind-s-2.ensures c.span-s.new.lent.notes))).here).wf.0.2.events, ((else (else (tries c.args.x.now.entrypoint c.args.d c.args.may (grammar c.args.x.now.entrypoint G.TERM) (from c.args.x.now c.args.s c.args.lent.now c.requires) (fine _ c.if-isnt.ensures) (c.mark-m.ensures c.args.lent.now.notes)) (λ g h. (plus_e (plus_t h (c.trivia-s.ensures.0 c.args.x.now.src.now c.args.lent.now.notes)) (as_set (names_of 55) c.literals.ensures c.expect-s.ensures.step))) (failed _ c.if-isnt-2.ensures) (ap (with_mode 0) (c.rewind-s.ensures c.expect-s.new.lent.notes))) (λ g h. (plus (plus_e (plus_t h (c.trivia-s-2.ensures.0 c.args.x.now.src.now c.expect-s.new.lent.notes)) c.expect-s-2.ensures.step) c.span-s.ensures.read)) (failed _ c.if-isnt-3.ensures) (ap (with_mode 0) (c.rewind-s-2.ensures c.span-s.new.lent.notes))).here).wf.1.events))

pub lit-expect-s-requires-3 : goal.lit-expect-s-requires-3
unfolding grammar kind names_of
lit-expect-s-requires-3 t c = (asks_e (plus_t ((else (else (tries c.args.x.now.entrypoint c.args.d c.args.may (grammar c.args.x.now.entrypoint G.TERM) (from c.args.x.now c.args.s c.args.lent.now c.requires) (fine _ c.if-isnt.ensures) (c.mark-m.ensures c.args.lent.now.notes)) (λ g h. (plus_e (plus_t h (c.trivia-s.ensures.0 c.args.x.now.src.now c.args.lent.now.notes)) (as_set (names_of 55) c.literals.ensures c.expect-s.ensures.step))) (failed _ c.if-isnt-2.ensures) (ap (with_mode 0) (c.rewind-s.ensures c.expect-s.new.lent.notes))) (λ g h. (plus (plus_e (plus_t h (c.trivia-s-2.ensures.0 c.args.x.now.src.now c.expect-s.new.lent.notes)) c.expect-s-2.ensures.step) c.span-s.ensures.read)) (failed _ c.if-isnt-3.ensures) (ap (with_mode 0) (c.rewind-s-2.ensures c.span-s.new.lent.notes))).here) (c.trivia-s-3.ensures.0 c.args.x.now.src.now c.span-s.new.lent.notes)) c.args.x.now.tiled.lines, omega arith)

pub lit-nth-s-requires : goal.lit-nth-s-requires
unfolding grammar kind names_of
lit-nth-s-requires t c = (omega arith, (plus_e (plus_t ((else (else (tries c.args.x.now.entrypoint c.args.d c.args.may (grammar c.args.x.now.entrypoint G.TERM) (from c.args.x.now c.args.s c.args.lent.now c.requires) (fine _ c.if-isnt.ensures) (c.mark-m.ensures c.args.lent.now.notes)) (λ g h. (plus_e (plus_t h (c.trivia-s.ensures.0 c.args.x.now.src.now c.args.lent.now.notes)) (as_set (names_of 55) c.literals.ensures c.expect-s.ensures.step))) (failed _ c.if-isnt-2.ensures) (ap (with_mode 0) (c.rewind-s.ensures c.expect-s.new.lent.notes))) (λ g h. (plus (plus_e (plus_t h (c.trivia-s-2.ensures.0 c.args.x.now.src.now c.expect-s.new.lent.notes)) c.expect-s-2.ensures.step) c.span-s.ensures.read)) (failed _ c.if-isnt-3.ensures) (ap (with_mode 0) (c.rewind-s-2.ensures c.span-s.new.lent.notes))).here) (c.trivia-s-3.ensures.0 c.args.x.now.src.now c.span-s.new.lent.notes)) c.expect-s-3.ensures.step).wf)

pub lit-returns-then-isnt-4-clause-read : goal.lit-returns-then-isnt-4-clause-read
unfolding grammar kind names_of
lit-returns-then-isnt-4-clause-read t c = goes (else (else (tries c.args.x.now.entrypoint c.args.d c.args.may (grammar c.args.x.now.entrypoint G.TERM) (from c.args.x.now c.args.s c.args.lent.now c.requires) (fine _ c.if-isnt.ensures) (c.mark-m.ensures c.args.lent.now.notes)) (λ g h. (plus_e (plus_t h (c.trivia-s.ensures.0 c.args.x.now.src.now c.args.lent.now.notes)) (as_set (names_of 55) c.literals.ensures c.expect-s.ensures.step))) (failed _ c.if-isnt-2.ensures) (ap (with_mode 0) (c.rewind-s.ensures c.expect-s.new.lent.notes))) (λ g h. (plus (plus_e (plus_t h (c.trivia-s-2.ensures.0 c.args.x.now.src.now c.expect-s.new.lent.notes)) c.expect-s-2.ensures.step) c.span-s.ensures.read)) (failed _ c.if-isnt-3.ensures) (ap (with_mode 0) (c.rewind-s-2.ensures c.span-s.new.lent.notes))) (λ g h. (plus (plus_e (plus_t h (c.trivia-s-3.ensures.0 c.args.x.now.src.now c.span-s.new.lent.notes)) c.expect-s-3.ensures.step) c.nth-s.ensures.read)) (not_failed _ c.if-isnt-4.ensures)

pub lit-sign-requires : goal.lit-sign-requires
unfolding grammar kind names_of
lit-sign-requires t c = (omega arith, ((else (else (else (tries c.args.x.now.entrypoint c.args.d c.args.may (grammar c.args.x.now.entrypoint G.TERM) (from c.args.x.now c.args.s c.args.lent.now c.requires) (fine _ c.if-isnt.ensures) (c.mark-m.ensures c.args.lent.now.notes)) (λ g h. (plus_e (plus_t h (c.trivia-s.ensures.0 c.args.x.now.src.now c.args.lent.now.notes)) (as_set (names_of 55) c.literals.ensures c.expect-s.ensures.step))) (failed _ c.if-isnt-2.ensures) (ap (with_mode 0) (c.rewind-s.ensures c.expect-s.new.lent.notes))) (λ g h. (plus (plus_e (plus_t h (c.trivia-s-2.ensures.0 c.args.x.now.src.now c.expect-s.new.lent.notes)) c.expect-s-2.ensures.step) c.span-s.ensures.read)) (failed _ c.if-isnt-3.ensures) (ap (with_mode 0) (c.rewind-s-2.ensures c.span-s.new.lent.notes))) (λ g h. (plus (plus_e (plus_t h (c.trivia-s-3.ensures.0 c.args.x.now.src.now c.span-s.new.lent.notes)) c.expect-s-3.ensures.step) c.nth-s.ensures.read)) (failed _ c.if-isnt-4.ensures) (ap (with_mode 0) (c.rewind-s-3.ensures c.nth-s.new.lent.notes))).here).wf)

pub lit-returns-clause-read : goal.lit-returns-clause-read
unfolding grammar kind names_of
lit-returns-clause-read t c = (else (else (else (tries c.args.x.now.entrypoint c.args.d c.args.may (grammar c.args.x.now.entrypoint G.TERM) (from c.args.x.now c.args.s c.args.lent.now c.requires) (fine _ c.if-isnt.ensures) (c.mark-m.ensures c.args.lent.now.notes)) (λ g h. (plus_e (plus_t h (c.trivia-s.ensures.0 c.args.x.now.src.now c.args.lent.now.notes)) (as_set (names_of 55) c.literals.ensures c.expect-s.ensures.step))) (failed _ c.if-isnt-2.ensures) (ap (with_mode 0) (c.rewind-s.ensures c.expect-s.new.lent.notes))) (λ g h. (plus (plus_e (plus_t h (c.trivia-s-2.ensures.0 c.args.x.now.src.now c.expect-s.new.lent.notes)) c.expect-s-2.ensures.step) c.span-s.ensures.read)) (failed _ c.if-isnt-3.ensures) (ap (with_mode 0) (c.rewind-s-2.ensures c.span-s.new.lent.notes))) (λ g h. (plus (plus_e (plus_t h (c.trivia-s-3.ensures.0 c.args.x.now.src.now c.span-s.new.lent.notes)) c.expect-s-3.ensures.step) c.nth-s.ensures.read)) (failed _ c.if-isnt-4.ensures) (ap (with_mode 0) (c.rewind-s-3.ensures c.nth-s.new.lent.notes))).go c.sign.ensures.read

pub more-returns-then-isnt-clause-read : goal.more-returns-then-isnt-clause-read
unfolding grammar kind names_of
more-returns-then-isnt-clause-read t c = stops (from c.args.x.now c.args.s c.args.lent.now c.requires.0) c.args.x.now.entrypoint c.args.d true (listed c.args.sep c.args.code c.args.item) tt (not_fine _ c.if-isnt.ensures)

pub more-loop-turn-init : goal.more-loop-turn-init
more-loop-turn-init t c = turns (reads c.args.x.now.entrypoint c.args.d true (eat (set_of c.args.sep) (names_of c.args.code) ⨟ item_of c.args.item)) _ _ _ _ (λ p. sticky_exec p _ c.args.x.now.entrypoint c.args.d (eat (set_of c.args.sep) (names_of c.args.code) ⨟ item_of c.args.item) true) c.requires.0 (fine _ c.if-isnt.ensures) refl

pub more-trivia-s-requires : goal.more-trivia-s-requires
more-trivia-s-requires t c = (c.args.x.now.tiled.lines, (c.loop-turn.invariant.here.wf.0.2.events, c.loop-turn.invariant.here.wf.1.events))

pub more-expect-s-requires : goal.more-expect-s-requires
more-expect-s-requires t c = (asks_e (plus_t c.loop-turn.invariant.here (c.trivia-s.ensures.0 c.args.x.now.src.now c.loop-turn.lent.notes)) c.args.x.now.tiled.lines, c.requires.1)

pub more-returns-then-isnt-2-clause-read : goal.more-returns-then-isnt-2-clause-read
unfolding grammar kind names_of
more-returns-then-isnt-2-clause-read t c = turns_undone c.loop-turn.invariant c.loop-turn-test.true (stops (plus_e (plus_t c.loop-turn.invariant.here (c.trivia-s.ensures.0 c.args.x.now.src.now c.loop-turn.lent.notes)) c.expect-s.ensures.step) c.args.x.now.entrypoint c.args.d true (item_of c.args.item) (item_guarded c.args.item) (not_fine _ c.if-isnt-2.ensures)) (not_fine _ c.if-isnt-2.ensures) (c.mark-m.ensures c.loop-turn.lent.notes) (c.undone.ensures c.expect-s.new.lent.notes)

pub more-each-s-requires : goal.more-each-s-requires
more-each-s-requires t c = (omega arith, (plus_e (plus_t c.loop-turn.invariant.here (c.trivia-s.ensures.0 c.args.x.now.src.now c.loop-turn.lent.notes)) c.expect-s.ensures.step).wf)

pub more-returns-then-isnt-3-clause-read : goal.more-returns-then-isnt-3-clause-read
unfolding grammar kind names_of
more-returns-then-isnt-3-clause-read t c = turns_undone c.loop-turn.invariant c.loop-turn-test.true (plus (plus_e (plus_t c.loop-turn.invariant.here (c.trivia-s.ensures.0 c.args.x.now.src.now c.loop-turn.lent.notes)) c.expect-s.ensures.step) c.each-s.ensures.read) (not_fine _ c.if-isnt-3.ensures) (c.mark-m.ensures c.loop-turn.lent.notes) (c.undone-then-isnt-3.ensures c.each-s.new.lent.notes)

pub more-loop-turn-preserved : goal.more-loop-turn-preserved
unfolding grammar kind names_of
more-loop-turn-preserved t c = turns_more c.loop-turn.invariant c.loop-turn-test.true (plus (plus_e (plus_t c.loop-turn.invariant.here (c.trivia-s.ensures.0 c.args.x.now.src.now c.loop-turn.lent.notes)) c.expect-s.ensures.step) c.each-s.ensures.read) (fine _ c.if-isnt-3.ensures) (chain c.expect-s.ensures.lists c.each-s.ensures.lists)

pub more-returns-clause-read : goal.more-returns-clause-read
unfolding grammar kind names_of
more-returns-clause-read t c = turns_over c.loop-turn.invariant c.loop-turn-test.false

pub nth-sees-requires : goal.nth-sees-requires
nth-sees-requires t c = (from c.args.x.now c.args.s c.args.lent.now c.requires).wf.0.0.here

pub nth-pass-requires : goal.nth-pass-requires
nth-pass-requires t c = (c.args.x.now.tiled.lines.few, (from c.args.x.now c.args.s c.args.lent.now c.requires).wf.0.0.here, (from c.args.x.now c.args.s c.args.lent.now c.requires).wf.0.1, omega arith)

pub nth-returns-then-not-sees-clause-read : goal.nth-returns-then-not-sees-clause-read
unfolding grammar kind names_of
nth-returns-then-not-sees-clause-read t c = passes (from c.args.x.now c.args.s c.args.lent.now c.requires) c.args.x.now.entrypoint c.args.d c.args.may (k.L_BRACKET ∷ []) (one k.L_BRACKET ⨟ then (memo G.EXPR ⨟ one k.R_BRACKET)) c.sees.ensures c.if-not-sees.true (plus_p (from c.args.x.now c.args.s c.args.lent.now c.requires) (c.pass.ensures c.args.x.now.src.now c.args.x.now.rows.ends.now ((from c.args.x.now c.args.s c.args.lent.now c.requires).wf.0) (sym c.sees.ensures ∙ c.if-not-sees.true)))

pub nth-trivia-s-requires : goal.nth-trivia-s-requires
nth-trivia-s-requires t c = (c.args.x.now.tiled.lines, ((from c.args.x.now c.args.s c.args.lent.now c.requires).wf.0.2.events, (from c.args.x.now c.args.s c.args.lent.now c.requires).wf.1.events))

pub nth-expect-s-requires : goal.nth-expect-s-requires
nth-expect-s-requires t c = (asks_e (plus_t (from c.args.x.now c.args.s c.args.lent.now c.requires) (c.trivia-s.ensures.0 c.args.x.now.src.now c.args.lent.now.notes)) c.args.x.now.tiled.lines, omega arith)

pub nth-expr-s-requires : goal.nth-expr-s-requires
nth-expr-s-requires t c = (omega arith, (plus_e (plus_t (from c.args.x.now c.args.s c.args.lent.now c.requires) (c.trivia-s.ensures.0 c.args.x.now.src.now c.args.lent.now.notes)) c.expect-s.ensures.step).wf)

pub nth-expect-s-requires-2 : goal.nth-expect-s-requires-2
nth-expect-s-requires-2 t c = (asks_e (plus (plus_e (plus_t (from c.args.x.now c.args.s c.args.lent.now c.requires) (c.trivia-s.ensures.0 c.args.x.now.src.now c.args.lent.now.notes)) c.expect-s.ensures.step) c.expr-s.ensures.read) c.args.x.now.tiled.lines, omega arith)

pub nth-returns-clause-read : goal.nth-returns-clause-read
unfolding grammar kind names_of
nth-returns-clause-read t c = enters (from c.args.x.now c.args.s c.args.lent.now c.requires) c.args.x.now.entrypoint c.args.d c.args.may (k.L_BRACKET ∷ []) (one k.L_BRACKET ⨟ then (memo G.EXPR ⨟ one k.R_BRACKET)) c.sees.ensures c.if-not-sees.false (regrouped c.args.x.now.entrypoint c.args.d c.args.may (memo G.EXPR) (one k.R_BRACKET) tt (λ a. reads c.args.x.now.entrypoint c.args.d c.args.may (one k.L_BRACKET) (P.trivia a)) (plus_e (plus (plus_e (plus_t (from c.args.x.now c.args.s c.args.lent.now c.requires) (c.trivia-s.ensures.0 c.args.x.now.src.now c.args.lent.now.notes)) c.expect-s.ensures.step) c.expr-s.ensures.read) c.expect-s-2.ensures.step))

pub of_expr-returns-then-isnt-clause-read : goal.of_expr-returns-then-isnt-clause-read
unfolding grammar kind names_of
of_expr-returns-then-isnt-clause-read t c = stops (from c.args.x.now c.args.s c.args.lent.now c.requires) c.args.x.now.entrypoint c.args.d c.args.may (then (node G.OF_EXPR)) tt (not_fine _ c.if-isnt.ensures)

pub of_expr-trivia-s-requires : goal.of_expr-trivia-s-requires
of_expr-trivia-s-requires t c = (c.args.x.now.tiled.lines, ((from c.args.x.now c.args.s c.args.lent.now c.requires).wf.0.2.events, (from c.args.x.now c.args.s c.args.lent.now c.requires).wf.1.events))

pub of_expr-begin-s-requires : goal.of_expr-begin-s-requires
of_expr-begin-s-requires t c = (c.args.x.now.tiled.lines, ((plus_t (from c.args.x.now c.args.s c.args.lent.now c.requires) (c.trivia-s.ensures.0 c.args.x.now.src.now c.args.lent.now.notes)).wf.0.2.events, (plus_t (from c.args.x.now c.args.s c.args.lent.now c.requires) (c.trivia-s.ensures.0 c.args.x.now.src.now c.args.lent.now.notes)).wf.1.events), (plus_t (from c.args.x.now c.args.s c.args.lent.now c.requires) (c.trivia-s.ensures.0 c.args.x.now.src.now c.args.lent.now.notes)).wf.0.0.here)

pub of_expr-end-requires : goal.of_expr-end-requires
of_expr-end-requires t c = closes G.OF_EXPR c.args.may c.args.x.now.entrypoint c.args.d (plus_t (from c.args.x.now c.args.s c.args.lent.now c.requires) (c.trivia-s.ensures.0 c.args.x.now.src.now c.args.lent.now.notes)) (c.begin-s.ensures c.args.x.now.src.now c.args.lent.now.notes) (begins G.OF_EXPR c.args.may c.args.x.now.entrypoint c.args.d (plus_t (from c.args.x.now c.args.s c.args.lent.now c.requires) (c.trivia-s.ensures.0 c.args.x.now.src.now c.args.lent.now.notes)) (c.begin-s.ensures c.args.x.now.src.now c.args.lent.now.notes))

pub of_expr-returns-then-d-eq0-clause-read : goal.of_expr-returns-then-d-eq0-clause-read
unfolding grammar kind names_of
of_expr-returns-then-d-eq0-clause-read t c = then_past c.args.x.now.entrypoint c.args.d c.args.may (node G.OF_EXPR) (fine _ c.if-isnt.ensures) (makes_none G.OF_EXPR c.args.may c.args.x.now.entrypoint c.args.d (plus_t (from c.args.x.now c.args.s c.args.lent.now c.requires) (c.trivia-s.ensures.0 c.args.x.now.src.now c.args.lent.now.notes)) (c.begin-s.ensures c.args.x.now.src.now c.args.lent.now.notes) c.if-d-eq0.true (ended c.end.ensures.step))

pub of_expr-quant-s-requires : goal.of_expr-quant-s-requires
of_expr-quant-s-requires t c = (omega (arith, c.if-d-eq0.false), (begins G.OF_EXPR c.args.may c.args.x.now.entrypoint c.args.d (plus_t (from c.args.x.now c.args.s c.args.lent.now c.requires) (c.trivia-s.ensures.0 c.args.x.now.src.now c.args.lent.now.notes)) (c.begin-s.ensures c.args.x.now.src.now c.args.lent.now.notes)).wf)

pub of_expr-expect-s-requires : goal.of_expr-expect-s-requires
of_expr-expect-s-requires t c = (asks_e (plus (begins G.OF_EXPR c.args.may c.args.x.now.entrypoint c.args.d (plus_t (from c.args.x.now c.args.s c.args.lent.now c.requires) (c.trivia-s.ensures.0 c.args.x.now.src.now c.args.lent.now.notes)) (c.begin-s.ensures c.args.x.now.src.now c.args.lent.now.notes)) c.quant-s.ensures.read) c.args.x.now.tiled.lines, omega arith)

pub of_expr-whom-s-requires : goal.of_expr-whom-s-requires
of_expr-whom-s-requires t c = (omega (arith, c.if-d-eq0.false), (plus_e (plus (begins G.OF_EXPR c.args.may c.args.x.now.entrypoint c.args.d (plus_t (from c.args.x.now c.args.s c.args.lent.now c.requires) (c.trivia-s.ensures.0 c.args.x.now.src.now c.args.lent.now.notes)) (c.begin-s.ensures c.args.x.now.src.now c.args.lent.now.notes)) c.quant-s.ensures.read) c.expect-s.ensures.step).wf)

pub of_expr-end-requires-2 : goal.of_expr-end-requires-2
of_expr-end-requires-2 t c = closes G.OF_EXPR c.args.may c.args.x.now.entrypoint c.args.d (plus_t (from c.args.x.now c.args.s c.args.lent.now c.requires) (c.trivia-s.ensures.0 c.args.x.now.src.now c.args.lent.now.notes)) (c.begin-s.ensures c.args.x.now.src.now c.args.lent.now.notes) (plus (plus_e (plus (begins G.OF_EXPR c.args.may c.args.x.now.entrypoint c.args.d (plus_t (from c.args.x.now c.args.s c.args.lent.now c.requires) (c.trivia-s.ensures.0 c.args.x.now.src.now c.args.lent.now.notes)) (c.begin-s.ensures c.args.x.now.src.now c.args.lent.now.notes)) c.quant-s.ensures.read) c.expect-s.ensures.step) c.whom-s.ensures.read)

pub of_expr-returns-clause-read : goal.of_expr-returns-clause-read
unfolding grammar kind names_of
of_expr-returns-clause-read t c = then_past c.args.x.now.entrypoint c.args.d c.args.may (node G.OF_EXPR) (fine _ c.if-isnt.ensures) (makes G.OF_EXPR c.args.may c.args.x.now.entrypoint c.args.d (plus_t (from c.args.x.now c.args.s c.args.lent.now c.requires) (c.trivia-s.ensures.0 c.args.x.now.src.now c.args.lent.now.notes)) (c.begin-s.ensures c.args.x.now.src.now c.args.lent.now.notes) c.if-d-eq0.false (plus (plus_e (plus (begins G.OF_EXPR c.args.may c.args.x.now.entrypoint c.args.d (plus_t (from c.args.x.now c.args.s c.args.lent.now c.requires) (c.trivia-s.ensures.0 c.args.x.now.src.now c.args.lent.now.notes)) (c.begin-s.ensures c.args.x.now.src.now c.args.lent.now.notes)) c.quant-s.ensures.read) c.expect-s.ensures.step) c.whom-s.ensures.read) (ended c.end-2.ensures.step))

pub over-returns-then-isnt-clause-read : goal.over-returns-then-isnt-clause-read
unfolding grammar kind names_of
over-returns-then-isnt-clause-read t c = stops (from c.args.x.now c.args.s c.args.lent.now c.requires) c.args.x.now.entrypoint c.args.d c.args.may over tt (not_fine _ c.if-isnt.ensures)

pub over-trivia-s-requires : goal.over-trivia-s-requires
over-trivia-s-requires t c = (c.args.x.now.tiled.lines, (((tries c.args.x.now.entrypoint c.args.d c.args.may over (from c.args.x.now c.args.s c.args.lent.now c.requires) (fine _ c.if-isnt.ensures) (c.mark-m.ensures c.args.lent.now.notes)).here).wf.0.2.events, ((tries c.args.x.now.entrypoint c.args.d c.args.may over (from c.args.x.now c.args.s c.args.lent.now c.requires) (fine _ c.if-isnt.ensures) (c.mark-m.ensures c.args.lent.now.notes)).here).wf.1.events))

pub over-expect-s-requires : goal.over-expect-s-requires
over-expect-s-requires t c = (asks_e (plus_t ((tries c.args.x.now.entrypoint c.args.d c.args.may over (from c.args.x.now c.args.s c.args.lent.now c.requires) (fine _ c.if-isnt.ensures) (c.mark-m.ensures c.args.lent.now.notes)).here) (c.trivia-s.ensures.0 c.args.x.now.src.now c.args.lent.now.notes)) c.args.x.now.tiled.lines, omega arith)

pub over-them-s-requires : goal.over-them-s-requires
over-them-s-requires t c = (plus_e (plus_t ((tries c.args.x.now.entrypoint c.args.d c.args.may over (from c.args.x.now c.args.s c.args.lent.now c.requires) (fine _ c.if-isnt.ensures) (c.mark-m.ensures c.args.lent.now.notes)).here) (c.trivia-s.ensures.0 c.args.x.now.src.now c.args.lent.now.notes)) c.expect-s.ensures.step).wf

pub over-returns-then-isnt-2-clause-read : goal.over-returns-then-isnt-2-clause-read
unfolding grammar kind names_of
over-returns-then-isnt-2-clause-read t c = goes (tries c.args.x.now.entrypoint c.args.d c.args.may over (from c.args.x.now c.args.s c.args.lent.now c.requires) (fine _ c.if-isnt.ensures) (c.mark-m.ensures c.args.lent.now.notes)) (λ g h. (plus (plus_e (plus_t h (c.trivia-s.ensures.0 c.args.x.now.src.now c.args.lent.now.notes)) c.expect-s.ensures.step) c.them-s.ensures.read)) (not_failed _ c.if-isnt-2.ensures)

pub over-trivia-s-requires-2 : goal.over-trivia-s-requires-2
unfolding grammar kind names_of
over-trivia-s-requires-2 t c = (c.args.x.now.tiled.lines, (((else (tries c.args.x.now.entrypoint c.args.d c.args.may over (from c.args.x.now c.args.s c.args.lent.now c.requires) (fine _ c.if-isnt.ensures) (c.mark-m.ensures c.args.lent.now.notes)) (λ g h. (plus (plus_e (plus_t h (c.trivia-s.ensures.0 c.args.x.now.src.now c.args.lent.now.notes)) c.expect-s.ensures.step) c.them-s.ensures.read)) (failed _ c.if-isnt-2.ensures) (ap (with_mode 0) (c.rewind-s.ensures c.them-s.new.lent.notes))).here).wf.0.2.events, ((else (tries c.args.x.now.entrypoint c.args.d c.args.may over (from c.args.x.now c.args.s c.args.lent.now c.requires) (fine _ c.if-isnt.ensures) (c.mark-m.ensures c.args.lent.now.notes)) (λ g h. (plus (plus_e (plus_t h (c.trivia-s.ensures.0 c.args.x.now.src.now c.args.lent.now.notes)) c.expect-s.ensures.step) c.them-s.ensures.read)) (failed _ c.if-isnt-2.ensures) (ap (with_mode 0) (c.rewind-s.ensures c.them-s.new.lent.notes))).here).wf.1.events))

pub over-expect-s-requires-2 : goal.over-expect-s-requires-2
unfolding grammar kind names_of
over-expect-s-requires-2 t c = (asks_e (plus_t ((else (tries c.args.x.now.entrypoint c.args.d c.args.may over (from c.args.x.now c.args.s c.args.lent.now c.requires) (fine _ c.if-isnt.ensures) (c.mark-m.ensures c.args.lent.now.notes)) (λ g h. (plus (plus_e (plus_t h (c.trivia-s.ensures.0 c.args.x.now.src.now c.args.lent.now.notes)) c.expect-s.ensures.step) c.them-s.ensures.read)) (failed _ c.if-isnt-2.ensures) (ap (with_mode 0) (c.rewind-s.ensures c.them-s.new.lent.notes))).here) (c.trivia-s-2.ensures.0 c.args.x.now.src.now c.them-s.new.lent.notes)) c.args.x.now.tiled.lines, omega arith)

pub over-more-s-requires : goal.over-more-s-requires
unfolding grammar kind names_of
over-more-s-requires t c = (omega arith, ((plus_e (plus_t ((else (tries c.args.x.now.entrypoint c.args.d c.args.may over (from c.args.x.now c.args.s c.args.lent.now c.requires) (fine _ c.if-isnt.ensures) (c.mark-m.ensures c.args.lent.now.notes)) (λ g h. (plus (plus_e (plus_t h (c.trivia-s.ensures.0 c.args.x.now.src.now c.args.lent.now.notes)) c.expect-s.ensures.step) c.them-s.ensures.read)) (failed _ c.if-isnt-2.ensures) (ap (with_mode 0) (c.rewind-s.ensures c.them-s.new.lent.notes))).here) (c.trivia-s-2.ensures.0 c.args.x.now.src.now c.them-s.new.lent.notes)) c.expect-s-2.ensures.step).wf, omega arith))

pub over-expect-s-requires-3 : goal.over-expect-s-requires-3
unfolding grammar kind names_of
over-expect-s-requires-3 t c = (asks_e (plus (plus_e (plus_t ((else (tries c.args.x.now.entrypoint c.args.d c.args.may over (from c.args.x.now c.args.s c.args.lent.now c.requires) (fine _ c.if-isnt.ensures) (c.mark-m.ensures c.args.lent.now.notes)) (λ g h. (plus (plus_e (plus_t h (c.trivia-s.ensures.0 c.args.x.now.src.now c.args.lent.now.notes)) c.expect-s.ensures.step) c.them-s.ensures.read)) (failed _ c.if-isnt-2.ensures) (ap (with_mode 0) (c.rewind-s.ensures c.them-s.new.lent.notes))).here) (c.trivia-s-2.ensures.0 c.args.x.now.src.now c.them-s.new.lent.notes)) c.expect-s-2.ensures.step) c.more-s.ensures.read) c.args.x.now.tiled.lines, omega arith)

pub over-iter-s-requires : goal.over-iter-s-requires
unfolding grammar kind names_of
over-iter-s-requires t c = (omega arith, (plus_e (plus (plus_e (plus_t ((else (tries c.args.x.now.entrypoint c.args.d c.args.may over (from c.args.x.now c.args.s c.args.lent.now c.requires) (fine _ c.if-isnt.ensures) (c.mark-m.ensures c.args.lent.now.notes)) (λ g h. (plus (plus_e (plus_t h (c.trivia-s.ensures.0 c.args.x.now.src.now c.args.lent.now.notes)) c.expect-s.ensures.step) c.them-s.ensures.read)) (failed _ c.if-isnt-2.ensures) (ap (with_mode 0) (c.rewind-s.ensures c.them-s.new.lent.notes))).here) (c.trivia-s-2.ensures.0 c.args.x.now.src.now c.them-s.new.lent.notes)) c.expect-s-2.ensures.step) c.more-s.ensures.read) c.expect-s-3.ensures.step).wf)

pub over-returns-then-isnt-3-clause-read : goal.over-returns-then-isnt-3-clause-read
unfolding grammar kind names_of
over-returns-then-isnt-3-clause-read t c = at_last (else (tries c.args.x.now.entrypoint c.args.d c.args.may over (from c.args.x.now c.args.s c.args.lent.now c.requires) (fine _ c.if-isnt.ensures) (c.mark-m.ensures c.args.lent.now.notes)) (λ g h. (plus (plus_e (plus_t h (c.trivia-s.ensures.0 c.args.x.now.src.now c.args.lent.now.notes)) c.expect-s.ensures.step) c.them-s.ensures.read)) (failed _ c.if-isnt-2.ensures) (ap (with_mode 0) (c.rewind-s.ensures c.them-s.new.lent.notes))) (λ g h. (plus (plus_e (plus (plus_e (plus_t h (c.trivia-s-2.ensures.0 c.args.x.now.src.now c.them-s.new.lent.notes)) c.expect-s-2.ensures.step) c.more-s.ensures.read) c.expect-s-3.ensures.step) c.iter-s.ensures.read)) (lost_on _ _ (not_failed _ c.if-isnt-3.ensures))

pub over-returns-clause-read : goal.over-returns-clause-read
unfolding grammar kind names_of
over-returns-clause-read t c = at_last (else (tries c.args.x.now.entrypoint c.args.d c.args.may over (from c.args.x.now c.args.s c.args.lent.now c.requires) (fine _ c.if-isnt.ensures) (c.mark-m.ensures c.args.lent.now.notes)) (λ g h. (plus (plus_e (plus_t h (c.trivia-s.ensures.0 c.args.x.now.src.now c.args.lent.now.notes)) c.expect-s.ensures.step) c.them-s.ensures.read)) (failed _ c.if-isnt-2.ensures) (ap (with_mode 0) (c.rewind-s.ensures c.them-s.new.lent.notes))) (λ g h. (plus (plus_e (plus (plus_e (plus_t h (c.trivia-s-2.ensures.0 c.args.x.now.src.now c.them-s.new.lent.notes)) c.expect-s-2.ensures.step) c.more-s.ensures.read) c.expect-s-3.ensures.step) c.iter-s.ensures.read)) ((c.rewind-s-2.ensures c.iter-s.new.lent.notes) ∙ lost_back _ _ (failed _ c.if-isnt-3.ensures))

pub primary-returns-then-isnt-clause-read : goal.primary-returns-then-isnt-clause-read
unfolding grammar kind names_of
primary-returns-then-isnt-clause-read t c = stops (from c.args.x.now c.args.s c.args.lent.now c.requires) c.args.x.now.entrypoint c.args.d c.args.may (then (node G.PRIMARY_EXPR)) tt (not_fine _ c.if-isnt.ensures)

pub primary-trivia-s-requires : goal.primary-trivia-s-requires
primary-trivia-s-requires t c = (c.args.x.now.tiled.lines, ((from c.args.x.now c.args.s c.args.lent.now c.requires).wf.0.2.events, (from c.args.x.now c.args.s c.args.lent.now c.requires).wf.1.events))

pub primary-begin-s-requires : goal.primary-begin-s-requires
primary-begin-s-requires t c = (c.args.x.now.tiled.lines, ((plus_t (from c.args.x.now c.args.s c.args.lent.now c.requires) (c.trivia-s.ensures.0 c.args.x.now.src.now c.args.lent.now.notes)).wf.0.2.events, (plus_t (from c.args.x.now c.args.s c.args.lent.now c.requires) (c.trivia-s.ensures.0 c.args.x.now.src.now c.args.lent.now.notes)).wf.1.events), (plus_t (from c.args.x.now c.args.s c.args.lent.now c.requires) (c.trivia-s.ensures.0 c.args.x.now.src.now c.args.lent.now.notes)).wf.0.0.here)

pub primary-end-requires : goal.primary-end-requires
primary-end-requires t c = closes G.PRIMARY_EXPR c.args.may c.args.x.now.entrypoint c.args.d (plus_t (from c.args.x.now c.args.s c.args.lent.now c.requires) (c.trivia-s.ensures.0 c.args.x.now.src.now c.args.lent.now.notes)) (c.begin-s.ensures c.args.x.now.src.now c.args.lent.now.notes) (begins G.PRIMARY_EXPR c.args.may c.args.x.now.entrypoint c.args.d (plus_t (from c.args.x.now c.args.s c.args.lent.now c.requires) (c.trivia-s.ensures.0 c.args.x.now.src.now c.args.lent.now.notes)) (c.begin-s.ensures c.args.x.now.src.now c.args.lent.now.notes))

pub primary-returns-then-d-eq0-clause-read : goal.primary-returns-then-d-eq0-clause-read
unfolding grammar kind names_of
primary-returns-then-d-eq0-clause-read t c = then_past c.args.x.now.entrypoint c.args.d c.args.may (node G.PRIMARY_EXPR) (fine _ c.if-isnt.ensures) (makes_none G.PRIMARY_EXPR c.args.may c.args.x.now.entrypoint c.args.d (plus_t (from c.args.x.now c.args.s c.args.lent.now c.requires) (c.trivia-s.ensures.0 c.args.x.now.src.now c.args.lent.now.notes)) (c.begin-s.ensures c.args.x.now.src.now c.args.lent.now.notes) c.if-d-eq0.true (ended c.end.ensures.step))

pub primary-id-s-requires : goal.primary-id-s-requires
primary-id-s-requires t c = (omega (arith, c.if-d-eq0.false), (begins G.PRIMARY_EXPR c.args.may c.args.x.now.entrypoint c.args.d (plus_t (from c.args.x.now c.args.s c.args.lent.now c.requires) (c.trivia-s.ensures.0 c.args.x.now.src.now c.args.lent.now.notes)) (c.begin-s.ensures c.args.x.now.src.now c.args.lent.now.notes)).wf)

pub primary-end-requires-2 : goal.primary-end-requires-2
primary-end-requires-2 t c = closes G.PRIMARY_EXPR c.args.may c.args.x.now.entrypoint c.args.d (plus_t (from c.args.x.now c.args.s c.args.lent.now c.requires) (c.trivia-s.ensures.0 c.args.x.now.src.now c.args.lent.now.notes)) (c.begin-s.ensures c.args.x.now.src.now c.args.lent.now.notes) (plus (begins G.PRIMARY_EXPR c.args.may c.args.x.now.entrypoint c.args.d (plus_t (from c.args.x.now c.args.s c.args.lent.now c.requires) (c.trivia-s.ensures.0 c.args.x.now.src.now c.args.lent.now.notes)) (c.begin-s.ensures c.args.x.now.src.now c.args.lent.now.notes)) c.id-s.ensures.read)

pub primary-returns-clause-read : goal.primary-returns-clause-read
unfolding grammar kind names_of
primary-returns-clause-read t c = then_past c.args.x.now.entrypoint c.args.d c.args.may (node G.PRIMARY_EXPR) (fine _ c.if-isnt.ensures) (makes G.PRIMARY_EXPR c.args.may c.args.x.now.entrypoint c.args.d (plus_t (from c.args.x.now c.args.s c.args.lent.now c.requires) (c.trivia-s.ensures.0 c.args.x.now.src.now c.args.lent.now.notes)) (c.begin-s.ensures c.args.x.now.src.now c.args.lent.now.notes) c.if-d-eq0.false (plus (begins G.PRIMARY_EXPR c.args.may c.args.x.now.entrypoint c.args.d (plus_t (from c.args.x.now c.args.s c.args.lent.now c.requires) (c.trivia-s.ensures.0 c.args.x.now.src.now c.args.lent.now.notes)) (c.begin-s.ensures c.args.x.now.src.now c.args.lent.now.notes)) c.id-s.ensures.read) (ended c.end-2.ensures.step))

pub quant-returns-then-isnt-clause-read : goal.quant-returns-then-isnt-clause-read
unfolding grammar kind names_of
quant-returns-then-isnt-clause-read t c = stops (from c.args.x.now c.args.s c.args.lent.now c.requires) c.args.x.now.entrypoint c.args.d c.args.may (then (node G.QUANTIFIER)) tt (not_fine _ c.if-isnt.ensures)

pub quant-trivia-s-requires : goal.quant-trivia-s-requires
quant-trivia-s-requires t c = (c.args.x.now.tiled.lines, ((from c.args.x.now c.args.s c.args.lent.now c.requires).wf.0.2.events, (from c.args.x.now c.args.s c.args.lent.now c.requires).wf.1.events))

pub quant-begin-s-requires : goal.quant-begin-s-requires
quant-begin-s-requires t c = (c.args.x.now.tiled.lines, ((plus_t (from c.args.x.now c.args.s c.args.lent.now c.requires) (c.trivia-s.ensures.0 c.args.x.now.src.now c.args.lent.now.notes)).wf.0.2.events, (plus_t (from c.args.x.now c.args.s c.args.lent.now c.requires) (c.trivia-s.ensures.0 c.args.x.now.src.now c.args.lent.now.notes)).wf.1.events), (plus_t (from c.args.x.now c.args.s c.args.lent.now c.requires) (c.trivia-s.ensures.0 c.args.x.now.src.now c.args.lent.now.notes)).wf.0.0.here)

pub quant-end-requires : goal.quant-end-requires
quant-end-requires t c = closes G.QUANTIFIER c.args.may c.args.x.now.entrypoint c.args.d (plus_t (from c.args.x.now c.args.s c.args.lent.now c.requires) (c.trivia-s.ensures.0 c.args.x.now.src.now c.args.lent.now.notes)) (c.begin-s.ensures c.args.x.now.src.now c.args.lent.now.notes) (begins G.QUANTIFIER c.args.may c.args.x.now.entrypoint c.args.d (plus_t (from c.args.x.now c.args.s c.args.lent.now c.requires) (c.trivia-s.ensures.0 c.args.x.now.src.now c.args.lent.now.notes)) (c.begin-s.ensures c.args.x.now.src.now c.args.lent.now.notes))

pub quant-returns-then-d-eq0-clause-read : goal.quant-returns-then-d-eq0-clause-read
unfolding grammar kind names_of
quant-returns-then-d-eq0-clause-read t c = then_past c.args.x.now.entrypoint c.args.d c.args.may (node G.QUANTIFIER) (fine _ c.if-isnt.ensures) (makes_none G.QUANTIFIER c.args.may c.args.x.now.entrypoint c.args.d (plus_t (from c.args.x.now c.args.s c.args.lent.now c.requires) (c.trivia-s.ensures.0 c.args.x.now.src.now c.args.lent.now.notes)) (c.begin-s.ensures c.args.x.now.src.now c.args.lent.now.notes) c.if-d-eq0.true (ended c.end.ensures.step))

pub quant-how-s-requires : goal.quant-how-s-requires
quant-how-s-requires t c = (omega (arith, c.if-d-eq0.false), (begins G.QUANTIFIER c.args.may c.args.x.now.entrypoint c.args.d (plus_t (from c.args.x.now c.args.s c.args.lent.now c.requires) (c.trivia-s.ensures.0 c.args.x.now.src.now c.args.lent.now.notes)) (c.begin-s.ensures c.args.x.now.src.now c.args.lent.now.notes)).wf)

pub quant-end-requires-2 : goal.quant-end-requires-2
quant-end-requires-2 t c = closes G.QUANTIFIER c.args.may c.args.x.now.entrypoint c.args.d (plus_t (from c.args.x.now c.args.s c.args.lent.now c.requires) (c.trivia-s.ensures.0 c.args.x.now.src.now c.args.lent.now.notes)) (c.begin-s.ensures c.args.x.now.src.now c.args.lent.now.notes) (plus (begins G.QUANTIFIER c.args.may c.args.x.now.entrypoint c.args.d (plus_t (from c.args.x.now c.args.s c.args.lent.now c.requires) (c.trivia-s.ensures.0 c.args.x.now.src.now c.args.lent.now.notes)) (c.begin-s.ensures c.args.x.now.src.now c.args.lent.now.notes)) c.how-s.ensures.read)

pub quant-returns-clause-read : goal.quant-returns-clause-read
unfolding grammar kind names_of
quant-returns-clause-read t c = then_past c.args.x.now.entrypoint c.args.d c.args.may (node G.QUANTIFIER) (fine _ c.if-isnt.ensures) (makes G.QUANTIFIER c.args.may c.args.x.now.entrypoint c.args.d (plus_t (from c.args.x.now c.args.s c.args.lent.now c.requires) (c.trivia-s.ensures.0 c.args.x.now.src.now c.args.lent.now.notes)) (c.begin-s.ensures c.args.x.now.src.now c.args.lent.now.notes) c.if-d-eq0.false (plus (begins G.QUANTIFIER c.args.may c.args.x.now.entrypoint c.args.d (plus_t (from c.args.x.now c.args.s c.args.lent.now c.requires) (c.trivia-s.ensures.0 c.args.x.now.src.now c.args.lent.now.notes)) (c.begin-s.ensures c.args.x.now.src.now c.args.lent.now.notes)) c.how-s.ensures.read) (ended c.end-2.ensures.step))

pub range-returns-then-isnt-clause-read : goal.range-returns-then-isnt-clause-read
unfolding grammar kind names_of
range-returns-then-isnt-clause-read t c = stops (from c.args.x.now c.args.s c.args.lent.now c.requires) c.args.x.now.entrypoint c.args.d c.args.may (then (node G.RANGE)) tt (not_fine _ c.if-isnt.ensures)

pub range-trivia-s-requires : goal.range-trivia-s-requires
range-trivia-s-requires t c = (c.args.x.now.tiled.lines, ((from c.args.x.now c.args.s c.args.lent.now c.requires).wf.0.2.events, (from c.args.x.now c.args.s c.args.lent.now c.requires).wf.1.events))

pub range-begin-s-requires : goal.range-begin-s-requires
range-begin-s-requires t c = (c.args.x.now.tiled.lines, ((plus_t (from c.args.x.now c.args.s c.args.lent.now c.requires) (c.trivia-s.ensures.0 c.args.x.now.src.now c.args.lent.now.notes)).wf.0.2.events, (plus_t (from c.args.x.now c.args.s c.args.lent.now c.requires) (c.trivia-s.ensures.0 c.args.x.now.src.now c.args.lent.now.notes)).wf.1.events), (plus_t (from c.args.x.now c.args.s c.args.lent.now c.requires) (c.trivia-s.ensures.0 c.args.x.now.src.now c.args.lent.now.notes)).wf.0.0.here)

pub range-end-requires : goal.range-end-requires
range-end-requires t c = closes G.RANGE c.args.may c.args.x.now.entrypoint c.args.d (plus_t (from c.args.x.now c.args.s c.args.lent.now c.requires) (c.trivia-s.ensures.0 c.args.x.now.src.now c.args.lent.now.notes)) (c.begin-s.ensures c.args.x.now.src.now c.args.lent.now.notes) (begins G.RANGE c.args.may c.args.x.now.entrypoint c.args.d (plus_t (from c.args.x.now c.args.s c.args.lent.now c.requires) (c.trivia-s.ensures.0 c.args.x.now.src.now c.args.lent.now.notes)) (c.begin-s.ensures c.args.x.now.src.now c.args.lent.now.notes))

pub range-returns-then-d-eq0-clause-read : goal.range-returns-then-d-eq0-clause-read
unfolding grammar kind names_of
range-returns-then-d-eq0-clause-read t c = then_past c.args.x.now.entrypoint c.args.d c.args.may (node G.RANGE) (fine _ c.if-isnt.ensures) (makes_none G.RANGE c.args.may c.args.x.now.entrypoint c.args.d (plus_t (from c.args.x.now c.args.s c.args.lent.now c.requires) (c.trivia-s.ensures.0 c.args.x.now.src.now c.args.lent.now.notes)) (c.begin-s.ensures c.args.x.now.src.now c.args.lent.now.notes) c.if-d-eq0.true (ended c.end.ensures.step))

pub range-expect-s-requires : goal.range-expect-s-requires
range-expect-s-requires t c = (asks_e (begins G.RANGE c.args.may c.args.x.now.entrypoint c.args.d (plus_t (from c.args.x.now c.args.s c.args.lent.now c.requires) (c.trivia-s.ensures.0 c.args.x.now.src.now c.args.lent.now.notes)) (c.begin-s.ensures c.args.x.now.src.now c.args.lent.now.notes)) c.args.x.now.tiled.lines, omega arith)

pub range-expr-s-requires : goal.range-expr-s-requires
range-expr-s-requires t c = (omega (arith, c.if-d-eq0.false), (plus_e (begins G.RANGE c.args.may c.args.x.now.entrypoint c.args.d (plus_t (from c.args.x.now c.args.s c.args.lent.now c.requires) (c.trivia-s.ensures.0 c.args.x.now.src.now c.args.lent.now.notes)) (c.begin-s.ensures c.args.x.now.src.now c.args.lent.now.notes)) c.expect-s.ensures.step).wf)

pub range-expect-s-requires-2 : goal.range-expect-s-requires-2
range-expect-s-requires-2 t c = (asks_e (plus (plus_e (begins G.RANGE c.args.may c.args.x.now.entrypoint c.args.d (plus_t (from c.args.x.now c.args.s c.args.lent.now c.requires) (c.trivia-s.ensures.0 c.args.x.now.src.now c.args.lent.now.notes)) (c.begin-s.ensures c.args.x.now.src.now c.args.lent.now.notes)) c.expect-s.ensures.step) c.expr-s.ensures.read) c.args.x.now.tiled.lines, omega arith)

pub range-expect-s-requires-3 : goal.range-expect-s-requires-3
range-expect-s-requires-3 t c = (asks_e (plus_e (plus (plus_e (begins G.RANGE c.args.may c.args.x.now.entrypoint c.args.d (plus_t (from c.args.x.now c.args.s c.args.lent.now c.requires) (c.trivia-s.ensures.0 c.args.x.now.src.now c.args.lent.now.notes)) (c.begin-s.ensures c.args.x.now.src.now c.args.lent.now.notes)) c.expect-s.ensures.step) c.expr-s.ensures.read) c.expect-s-2.ensures.step) c.args.x.now.tiled.lines, omega arith)

pub range-expr-s-requires-2 : goal.range-expr-s-requires-2
range-expr-s-requires-2 t c = (omega (arith, c.if-d-eq0.false), (plus_e (plus_e (plus (plus_e (begins G.RANGE c.args.may c.args.x.now.entrypoint c.args.d (plus_t (from c.args.x.now c.args.s c.args.lent.now c.requires) (c.trivia-s.ensures.0 c.args.x.now.src.now c.args.lent.now.notes)) (c.begin-s.ensures c.args.x.now.src.now c.args.lent.now.notes)) c.expect-s.ensures.step) c.expr-s.ensures.read) c.expect-s-2.ensures.step) c.expect-s-3.ensures.step).wf)

pub range-expect-s-requires-4 : goal.range-expect-s-requires-4
range-expect-s-requires-4 t c = (asks_e (plus (plus_e (plus_e (plus (plus_e (begins G.RANGE c.args.may c.args.x.now.entrypoint c.args.d (plus_t (from c.args.x.now c.args.s c.args.lent.now c.requires) (c.trivia-s.ensures.0 c.args.x.now.src.now c.args.lent.now.notes)) (c.begin-s.ensures c.args.x.now.src.now c.args.lent.now.notes)) c.expect-s.ensures.step) c.expr-s.ensures.read) c.expect-s-2.ensures.step) c.expect-s-3.ensures.step) c.expr-s-2.ensures.read) c.args.x.now.tiled.lines, omega arith)

pub range-end-requires-2 : goal.range-end-requires-2
range-end-requires-2 t c = closes G.RANGE c.args.may c.args.x.now.entrypoint c.args.d (plus_t (from c.args.x.now c.args.s c.args.lent.now c.requires) (c.trivia-s.ensures.0 c.args.x.now.src.now c.args.lent.now.notes)) (c.begin-s.ensures c.args.x.now.src.now c.args.lent.now.notes) (plus_e (plus (plus_e (plus_e (plus (plus_e (begins G.RANGE c.args.may c.args.x.now.entrypoint c.args.d (plus_t (from c.args.x.now c.args.s c.args.lent.now c.requires) (c.trivia-s.ensures.0 c.args.x.now.src.now c.args.lent.now.notes)) (c.begin-s.ensures c.args.x.now.src.now c.args.lent.now.notes)) c.expect-s.ensures.step) c.expr-s.ensures.read) c.expect-s-2.ensures.step) c.expect-s-3.ensures.step) c.expr-s-2.ensures.read) c.expect-s-4.ensures.step)

pub range-returns-clause-read : goal.range-returns-clause-read
unfolding grammar kind names_of
range-returns-clause-read t c = then_past c.args.x.now.entrypoint c.args.d c.args.may (node G.RANGE) (fine _ c.if-isnt.ensures) (makes G.RANGE c.args.may c.args.x.now.entrypoint c.args.d (plus_t (from c.args.x.now c.args.s c.args.lent.now c.requires) (c.trivia-s.ensures.0 c.args.x.now.src.now c.args.lent.now.notes)) (c.begin-s.ensures c.args.x.now.src.now c.args.lent.now.notes) c.if-d-eq0.false (plus_e (plus (plus_e (plus_e (plus (plus_e (begins G.RANGE c.args.may c.args.x.now.entrypoint c.args.d (plus_t (from c.args.x.now c.args.s c.args.lent.now c.requires) (c.trivia-s.ensures.0 c.args.x.now.src.now c.args.lent.now.notes)) (c.begin-s.ensures c.args.x.now.src.now c.args.lent.now.notes)) c.expect-s.ensures.step) c.expr-s.ensures.read) c.expect-s-2.ensures.step) c.expect-s-3.ensures.step) c.expr-s-2.ensures.read) c.expect-s-4.ensures.step) (ended c.end-2.ensures.step))

pub sign-returns-then-isnt-clause-read : goal.sign-returns-then-isnt-clause-read
unfolding grammar kind names_of
sign-returns-then-isnt-clause-read t c = stops (from c.args.x.now c.args.s c.args.lent.now c.requires) c.args.x.now.entrypoint c.args.d c.args.may signed tt (not_fine _ c.if-isnt.ensures)

pub sign-trivia-s-requires : goal.sign-trivia-s-requires
sign-trivia-s-requires t c = (c.args.x.now.tiled.lines, (((tries c.args.x.now.entrypoint c.args.d c.args.may signed (from c.args.x.now c.args.s c.args.lent.now c.requires) (fine _ c.if-isnt.ensures) (c.mark-m.ensures c.args.lent.now.notes)).here).wf.0.2.events, ((tries c.args.x.now.entrypoint c.args.d c.args.may signed (from c.args.x.now c.args.s c.args.lent.now c.requires) (fine _ c.if-isnt.ensures) (c.mark-m.ensures c.args.lent.now.notes)).here).wf.1.events))

pub sign-expect-s-requires : goal.sign-expect-s-requires
sign-expect-s-requires t c = (asks_e (plus_t ((tries c.args.x.now.entrypoint c.args.d c.args.may signed (from c.args.x.now c.args.s c.args.lent.now c.requires) (fine _ c.if-isnt.ensures) (c.mark-m.ensures c.args.lent.now.notes)).here) (c.trivia-s.ensures.0 c.args.x.now.src.now c.args.lent.now.notes)) c.args.x.now.tiled.lines, omega arith)

pub sign-term-s-requires : goal.sign-term-s-requires
sign-term-s-requires t c = (omega arith, (plus_e (plus_t ((tries c.args.x.now.entrypoint c.args.d c.args.may signed (from c.args.x.now c.args.s c.args.lent.now c.requires) (fine _ c.if-isnt.ensures) (c.mark-m.ensures c.args.lent.now.notes)).here) (c.trivia-s.ensures.0 c.args.x.now.src.now c.args.lent.now.notes)) c.expect-s.ensures.step).wf)

pub sign-returns-then-isnt-2-clause-read : goal.sign-returns-then-isnt-2-clause-read
unfolding grammar kind names_of
sign-returns-then-isnt-2-clause-read t c = goes (tries c.args.x.now.entrypoint c.args.d c.args.may signed (from c.args.x.now c.args.s c.args.lent.now c.requires) (fine _ c.if-isnt.ensures) (c.mark-m.ensures c.args.lent.now.notes)) (λ g h. (plus (plus_e (plus_t h (c.trivia-s.ensures.0 c.args.x.now.src.now c.args.lent.now.notes)) c.expect-s.ensures.step) c.term-s.ensures.read)) (not_failed _ c.if-isnt-2.ensures)

pub sign-trivia-s-requires-2 : goal.sign-trivia-s-requires-2
unfolding grammar kind names_of
sign-trivia-s-requires-2 t c = (c.args.x.now.tiled.lines, (((else (tries c.args.x.now.entrypoint c.args.d c.args.may signed (from c.args.x.now c.args.s c.args.lent.now c.requires) (fine _ c.if-isnt.ensures) (c.mark-m.ensures c.args.lent.now.notes)) (λ g h. (plus (plus_e (plus_t h (c.trivia-s.ensures.0 c.args.x.now.src.now c.args.lent.now.notes)) c.expect-s.ensures.step) c.term-s.ensures.read)) (failed _ c.if-isnt-2.ensures) (ap (with_mode 0) (c.rewind-s.ensures c.term-s.new.lent.notes))).here).wf.0.2.events, ((else (tries c.args.x.now.entrypoint c.args.d c.args.may signed (from c.args.x.now c.args.s c.args.lent.now c.requires) (fine _ c.if-isnt.ensures) (c.mark-m.ensures c.args.lent.now.notes)) (λ g h. (plus (plus_e (plus_t h (c.trivia-s.ensures.0 c.args.x.now.src.now c.args.lent.now.notes)) c.expect-s.ensures.step) c.term-s.ensures.read)) (failed _ c.if-isnt-2.ensures) (ap (with_mode 0) (c.rewind-s.ensures c.term-s.new.lent.notes))).here).wf.1.events))

pub sign-expect-s-requires-2 : goal.sign-expect-s-requires-2
unfolding grammar kind names_of
sign-expect-s-requires-2 t c = (asks_e (plus_t ((else (tries c.args.x.now.entrypoint c.args.d c.args.may signed (from c.args.x.now c.args.s c.args.lent.now c.requires) (fine _ c.if-isnt.ensures) (c.mark-m.ensures c.args.lent.now.notes)) (λ g h. (plus (plus_e (plus_t h (c.trivia-s.ensures.0 c.args.x.now.src.now c.args.lent.now.notes)) c.expect-s.ensures.step) c.term-s.ensures.read)) (failed _ c.if-isnt-2.ensures) (ap (with_mode 0) (c.rewind-s.ensures c.term-s.new.lent.notes))).here) (c.trivia-s-2.ensures.0 c.args.x.now.src.now c.term-s.new.lent.notes)) c.args.x.now.tiled.lines, omega arith)

pub sign-term-s-requires-2 : goal.sign-term-s-requires-2
unfolding grammar kind names_of
sign-term-s-requires-2 t c = (omega arith, (plus_e (plus_t ((else (tries c.args.x.now.entrypoint c.args.d c.args.may signed (from c.args.x.now c.args.s c.args.lent.now c.requires) (fine _ c.if-isnt.ensures) (c.mark-m.ensures c.args.lent.now.notes)) (λ g h. (plus (plus_e (plus_t h (c.trivia-s.ensures.0 c.args.x.now.src.now c.args.lent.now.notes)) c.expect-s.ensures.step) c.term-s.ensures.read)) (failed _ c.if-isnt-2.ensures) (ap (with_mode 0) (c.rewind-s.ensures c.term-s.new.lent.notes))).here) (c.trivia-s-2.ensures.0 c.args.x.now.src.now c.term-s.new.lent.notes)) c.expect-s-2.ensures.step).wf)

pub sign-returns-then-isnt-3-clause-read : goal.sign-returns-then-isnt-3-clause-read
unfolding grammar kind names_of
sign-returns-then-isnt-3-clause-read t c = goes (else (tries c.args.x.now.entrypoint c.args.d c.args.may signed (from c.args.x.now c.args.s c.args.lent.now c.requires) (fine _ c.if-isnt.ensures) (c.mark-m.ensures c.args.lent.now.notes)) (λ g h. (plus (plus_e (plus_t h (c.trivia-s.ensures.0 c.args.x.now.src.now c.args.lent.now.notes)) c.expect-s.ensures.step) c.term-s.ensures.read)) (failed _ c.if-isnt-2.ensures) (ap (with_mode 0) (c.rewind-s.ensures c.term-s.new.lent.notes))) (λ g h. (plus (plus_e (plus_t h (c.trivia-s-2.ensures.0 c.args.x.now.src.now c.term-s.new.lent.notes)) c.expect-s-2.ensures.step) c.term-s-2.ensures.read)) (not_failed _ c.if-isnt-3.ensures)

pub sign-trivia-s-requires-3 : goal.sign-trivia-s-requires-3
unfolding grammar kind names_of
sign-trivia-s-requires-3 t c = (c.args.x.now.tiled.lines, (((else (else (tries c.args.x.now.entrypoint c.args.d c.args.may signed (from c.args.x.now c.args.s c.args.lent.now c.requires) (fine _ c.if-isnt.ensures) (c.mark-m.ensures c.args.lent.now.notes)) (λ g h. (plus (plus_e (plus_t h (c.trivia-s.ensures.0 c.args.x.now.src.now c.args.lent.now.notes)) c.expect-s.ensures.step) c.term-s.ensures.read)) (failed _ c.if-isnt-2.ensures) (ap (with_mode 0) (c.rewind-s.ensures c.term-s.new.lent.notes))) (λ g h. (plus (plus_e (plus_t h (c.trivia-s-2.ensures.0 c.args.x.now.src.now c.term-s.new.lent.notes)) c.expect-s-2.ensures.step) c.term-s-2.ensures.read)) (failed _ c.if-isnt-3.ensures) (ap (with_mode 0) (c.rewind-s-2.ensures c.term-s-2.new.lent.notes))).here).wf.0.2.events, ((else (else (tries c.args.x.now.entrypoint c.args.d c.args.may signed (from c.args.x.now c.args.s c.args.lent.now c.requires) (fine _ c.if-isnt.ensures) (c.mark-m.ensures c.args.lent.now.notes)) (λ g h. (plus (plus_e (plus_t h (c.trivia-s.ensures.0 c.args.x.now.src.now c.args.lent.now.notes)) c.expect-s.ensures.step) c.term-s.ensures.read)) (failed _ c.if-isnt-2.ensures) (ap (with_mode 0) (c.rewind-s.ensures c.term-s.new.lent.notes))) (λ g h. (plus (plus_e (plus_t h (c.trivia-s-2.ensures.0 c.args.x.now.src.now c.term-s.new.lent.notes)) c.expect-s-2.ensures.step) c.term-s-2.ensures.read)) (failed _ c.if-isnt-3.ensures) (ap (with_mode 0) (c.rewind-s-2.ensures c.term-s-2.new.lent.notes))).here).wf.1.events))

pub sign-expect-s-requires-3 : goal.sign-expect-s-requires-3
unfolding grammar kind names_of
sign-expect-s-requires-3 t c = (asks_e (plus_t ((else (else (tries c.args.x.now.entrypoint c.args.d c.args.may signed (from c.args.x.now c.args.s c.args.lent.now c.requires) (fine _ c.if-isnt.ensures) (c.mark-m.ensures c.args.lent.now.notes)) (λ g h. (plus (plus_e (plus_t h (c.trivia-s.ensures.0 c.args.x.now.src.now c.args.lent.now.notes)) c.expect-s.ensures.step) c.term-s.ensures.read)) (failed _ c.if-isnt-2.ensures) (ap (with_mode 0) (c.rewind-s.ensures c.term-s.new.lent.notes))) (λ g h. (plus (plus_e (plus_t h (c.trivia-s-2.ensures.0 c.args.x.now.src.now c.term-s.new.lent.notes)) c.expect-s-2.ensures.step) c.term-s-2.ensures.read)) (failed _ c.if-isnt-3.ensures) (ap (with_mode 0) (c.rewind-s-2.ensures c.term-s-2.new.lent.notes))).here) (c.trivia-s-3.ensures.0 c.args.x.now.src.now c.term-s-2.new.lent.notes)) c.args.x.now.tiled.lines, omega arith)

pub sign-expr-s-requires : goal.sign-expr-s-requires
unfolding grammar kind names_of
sign-expr-s-requires t c = (omega arith, (plus_e (plus_t ((else (else (tries c.args.x.now.entrypoint c.args.d c.args.may signed (from c.args.x.now c.args.s c.args.lent.now c.requires) (fine _ c.if-isnt.ensures) (c.mark-m.ensures c.args.lent.now.notes)) (λ g h. (plus (plus_e (plus_t h (c.trivia-s.ensures.0 c.args.x.now.src.now c.args.lent.now.notes)) c.expect-s.ensures.step) c.term-s.ensures.read)) (failed _ c.if-isnt-2.ensures) (ap (with_mode 0) (c.rewind-s.ensures c.term-s.new.lent.notes))) (λ g h. (plus (plus_e (plus_t h (c.trivia-s-2.ensures.0 c.args.x.now.src.now c.term-s.new.lent.notes)) c.expect-s-2.ensures.step) c.term-s-2.ensures.read)) (failed _ c.if-isnt-3.ensures) (ap (with_mode 0) (c.rewind-s-2.ensures c.term-s-2.new.lent.notes))).here) (c.trivia-s-3.ensures.0 c.args.x.now.src.now c.term-s-2.new.lent.notes)) c.expect-s-3.ensures.step).wf)

pub sign-expect-s-requires-4 : goal.sign-expect-s-requires-4
unfolding grammar kind names_of
sign-expect-s-requires-4 t c = (asks_e (plus (plus_e (plus_t ((else (else (tries c.args.x.now.entrypoint c.args.d c.args.may signed (from c.args.x.now c.args.s c.args.lent.now c.requires) (fine _ c.if-isnt.ensures) (c.mark-m.ensures c.args.lent.now.notes)) (λ g h. (plus (plus_e (plus_t h (c.trivia-s.ensures.0 c.args.x.now.src.now c.args.lent.now.notes)) c.expect-s.ensures.step) c.term-s.ensures.read)) (failed _ c.if-isnt-2.ensures) (ap (with_mode 0) (c.rewind-s.ensures c.term-s.new.lent.notes))) (λ g h. (plus (plus_e (plus_t h (c.trivia-s-2.ensures.0 c.args.x.now.src.now c.term-s.new.lent.notes)) c.expect-s-2.ensures.step) c.term-s-2.ensures.read)) (failed _ c.if-isnt-3.ensures) (ap (with_mode 0) (c.rewind-s-2.ensures c.term-s-2.new.lent.notes))).here) (c.trivia-s-3.ensures.0 c.args.x.now.src.now c.term-s-2.new.lent.notes)) c.expect-s-3.ensures.step) c.expr-s.ensures.read) c.args.x.now.tiled.lines, omega arith)

pub sign-returns-then-isnt-4-clause-read : goal.sign-returns-then-isnt-4-clause-read
unfolding grammar kind names_of
sign-returns-then-isnt-4-clause-read t c = goes (else (else (tries c.args.x.now.entrypoint c.args.d c.args.may signed (from c.args.x.now c.args.s c.args.lent.now c.requires) (fine _ c.if-isnt.ensures) (c.mark-m.ensures c.args.lent.now.notes)) (λ g h. (plus (plus_e (plus_t h (c.trivia-s.ensures.0 c.args.x.now.src.now c.args.lent.now.notes)) c.expect-s.ensures.step) c.term-s.ensures.read)) (failed _ c.if-isnt-2.ensures) (ap (with_mode 0) (c.rewind-s.ensures c.term-s.new.lent.notes))) (λ g h. (plus (plus_e (plus_t h (c.trivia-s-2.ensures.0 c.args.x.now.src.now c.term-s.new.lent.notes)) c.expect-s-2.ensures.step) c.term-s-2.ensures.read)) (failed _ c.if-isnt-3.ensures) (ap (with_mode 0) (c.rewind-s-2.ensures c.term-s-2.new.lent.notes))) (λ g h. (plus_e (plus (plus_e (plus_t h (c.trivia-s-3.ensures.0 c.args.x.now.src.now c.term-s-2.new.lent.notes)) c.expect-s-3.ensures.step) c.expr-s.ensures.read) c.expect-s-4.ensures.step)) (not_failed _ c.if-isnt-4.ensures)

pub sign-dot-requires : goal.sign-dot-requires
unfolding grammar kind names_of
sign-dot-requires t c = (omega arith, ((else (else (else (tries c.args.x.now.entrypoint c.args.d c.args.may signed (from c.args.x.now c.args.s c.args.lent.now c.requires) (fine _ c.if-isnt.ensures) (c.mark-m.ensures c.args.lent.now.notes)) (λ g h. (plus (plus_e (plus_t h (c.trivia-s.ensures.0 c.args.x.now.src.now c.args.lent.now.notes)) c.expect-s.ensures.step) c.term-s.ensures.read)) (failed _ c.if-isnt-2.ensures) (ap (with_mode 0) (c.rewind-s.ensures c.term-s.new.lent.notes))) (λ g h. (plus (plus_e (plus_t h (c.trivia-s-2.ensures.0 c.args.x.now.src.now c.term-s.new.lent.notes)) c.expect-s-2.ensures.step) c.term-s-2.ensures.read)) (failed _ c.if-isnt-3.ensures) (ap (with_mode 0) (c.rewind-s-2.ensures c.term-s-2.new.lent.notes))) (λ g h. (plus_e (plus (plus_e (plus_t h (c.trivia-s-3.ensures.0 c.args.x.now.src.now c.term-s-2.new.lent.notes)) c.expect-s-3.ensures.step) c.expr-s.ensures.read) c.expect-s-4.ensures.step)) (failed _ c.if-isnt-4.ensures) (ap (with_mode 0) (c.rewind-s-3.ensures c.expect-s-4.new.lent.notes))).here).wf)

pub sign-returns-clause-read : goal.sign-returns-clause-read
unfolding grammar kind names_of
sign-returns-clause-read t c = (else (else (else (tries c.args.x.now.entrypoint c.args.d c.args.may signed (from c.args.x.now c.args.s c.args.lent.now c.requires) (fine _ c.if-isnt.ensures) (c.mark-m.ensures c.args.lent.now.notes)) (λ g h. (plus (plus_e (plus_t h (c.trivia-s.ensures.0 c.args.x.now.src.now c.args.lent.now.notes)) c.expect-s.ensures.step) c.term-s.ensures.read)) (failed _ c.if-isnt-2.ensures) (ap (with_mode 0) (c.rewind-s.ensures c.term-s.new.lent.notes))) (λ g h. (plus (plus_e (plus_t h (c.trivia-s-2.ensures.0 c.args.x.now.src.now c.term-s.new.lent.notes)) c.expect-s-2.ensures.step) c.term-s-2.ensures.read)) (failed _ c.if-isnt-3.ensures) (ap (with_mode 0) (c.rewind-s-2.ensures c.term-s-2.new.lent.notes))) (λ g h. (plus_e (plus (plus_e (plus_t h (c.trivia-s-3.ensures.0 c.args.x.now.src.now c.term-s-2.new.lent.notes)) c.expect-s-3.ensures.step) c.expr-s.ensures.read) c.expect-s-4.ensures.step)) (failed _ c.if-isnt-4.ensures) (ap (with_mode 0) (c.rewind-s-3.ensures c.expect-s-4.new.lent.notes))).go c.dot.ensures.read

pub span-sees-requires : goal.span-sees-requires
span-sees-requires t c = (from c.args.x.now c.args.s c.args.lent.now c.requires).wf.0.0.here

pub span-pass-requires : goal.span-pass-requires
span-pass-requires t c = (c.args.x.now.tiled.lines.few, (from c.args.x.now c.args.s c.args.lent.now c.requires).wf.0.0.here, (from c.args.x.now c.args.s c.args.lent.now c.requires).wf.0.1, omega arith)

pub span-returns-then-not-sees-clause-read : goal.span-returns-then-not-sees-clause-read
unfolding grammar kind names_of
span-returns-then-not-sees-clause-read t c = passes (from c.args.x.now c.args.s c.args.lent.now c.requires) c.args.x.now.entrypoint c.args.d c.args.may (k.IN_KW ∷ []) (one k.IN_KW ⨟ then (node G.RANGE)) c.sees.ensures c.if-not-sees.true (plus_p (from c.args.x.now c.args.s c.args.lent.now c.requires) (c.pass.ensures c.args.x.now.src.now c.args.x.now.rows.ends.now ((from c.args.x.now c.args.s c.args.lent.now c.requires).wf.0) (sym c.sees.ensures ∙ c.if-not-sees.true)))

pub span-trivia-s-requires : goal.span-trivia-s-requires
span-trivia-s-requires t c = (c.args.x.now.tiled.lines, ((from c.args.x.now c.args.s c.args.lent.now c.requires).wf.0.2.events, (from c.args.x.now c.args.s c.args.lent.now c.requires).wf.1.events))

pub span-expect-s-requires : goal.span-expect-s-requires
span-expect-s-requires t c = (asks_e (plus_t (from c.args.x.now c.args.s c.args.lent.now c.requires) (c.trivia-s.ensures.0 c.args.x.now.src.now c.args.lent.now.notes)) c.args.x.now.tiled.lines, omega arith)

pub span-range-s-requires : goal.span-range-s-requires
span-range-s-requires t c = (omega arith, (plus_e (plus_t (from c.args.x.now c.args.s c.args.lent.now c.requires) (c.trivia-s.ensures.0 c.args.x.now.src.now c.args.lent.now.notes)) c.expect-s.ensures.step).wf)

pub span-returns-clause-read : goal.span-returns-clause-read
unfolding grammar kind names_of
span-returns-clause-read t c = enters (from c.args.x.now c.args.s c.args.lent.now c.requires) c.args.x.now.entrypoint c.args.d c.args.may (k.IN_KW ∷ []) (one k.IN_KW ⨟ then (node G.RANGE)) c.sees.ensures c.if-not-sees.false ((plus (plus_e (plus_t (from c.args.x.now c.args.s c.args.lent.now c.requires) (c.trivia-s.ensures.0 c.args.x.now.src.now c.args.lent.now.notes)) c.expect-s.ensures.step) c.range-s.ensures.read))

pub spot-sees-requires : goal.spot-sees-requires
spot-sees-requires t c = (from c.args.x.now c.args.s c.args.lent.now c.requires).wf.0.0.here

pub spot-pass-requires : goal.spot-pass-requires
spot-pass-requires t c = (c.args.x.now.tiled.lines.few, (from c.args.x.now c.args.s c.args.lent.now c.requires).wf.0.0.here, (from c.args.x.now c.args.s c.args.lent.now c.requires).wf.0.1, omega arith)

pub spot-returns-then-not-sees-clause-read : goal.spot-returns-then-not-sees-clause-read
unfolding grammar kind names_of
spot-returns-then-not-sees-clause-read t c = passes (from c.args.x.now c.args.s c.args.lent.now c.requires) c.args.x.now.entrypoint c.args.d c.args.may (k.AT_KW ∷ k.IN_KW ∷ []) at_or_in c.sees.ensures c.if-not-sees.true (plus_p (from c.args.x.now c.args.s c.args.lent.now c.requires) (c.pass.ensures c.args.x.now.src.now c.args.x.now.rows.ends.now ((from c.args.x.now c.args.s c.args.lent.now c.requires).wf.0) (sym c.sees.ensures ∙ c.if-not-sees.true)))

pub spot-trivia-s-requires : goal.spot-trivia-s-requires
spot-trivia-s-requires t c = (c.args.x.now.tiled.lines, ((from c.args.x.now c.args.s c.args.lent.now c.requires).wf.0.2.events, (from c.args.x.now c.args.s c.args.lent.now c.requires).wf.1.events))

pub spot-trivia-s-requires-2 : goal.spot-trivia-s-requires-2
spot-trivia-s-requires-2 t c = (c.args.x.now.tiled.lines, (((tries c.args.x.now.entrypoint c.args.d c.args.may at_or_in (plus_t (from c.args.x.now c.args.s c.args.lent.now c.requires) (c.trivia-s.ensures.0 c.args.x.now.src.now c.args.lent.now.notes)) (ap number c.trivia-s.ensures.1 ∙ branch.good (k.AT_KW ∷ k.IN_KW ∷ []) c.args.x.now.rows.ids.now (whole c.args.s c.args.lent.now.notes) (sym c.sees.ensures ∙ c.if-not-sees.false)) (c.mark-m.ensures c.args.lent.now.notes)).here).wf.0.2.events, ((tries c.args.x.now.entrypoint c.args.d c.args.may at_or_in (plus_t (from c.args.x.now c.args.s c.args.lent.now c.requires) (c.trivia-s.ensures.0 c.args.x.now.src.now c.args.lent.now.notes)) (ap number c.trivia-s.ensures.1 ∙ branch.good (k.AT_KW ∷ k.IN_KW ∷ []) c.args.x.now.rows.ids.now (whole c.args.s c.args.lent.now.notes) (sym c.sees.ensures ∙ c.if-not-sees.false)) (c.mark-m.ensures c.args.lent.now.notes)).here).wf.1.events))

pub spot-expect-s-requires : goal.spot-expect-s-requires
spot-expect-s-requires t c = (asks_e (plus_t ((tries c.args.x.now.entrypoint c.args.d c.args.may at_or_in (plus_t (from c.args.x.now c.args.s c.args.lent.now c.requires) (c.trivia-s.ensures.0 c.args.x.now.src.now c.args.lent.now.notes)) (ap number c.trivia-s.ensures.1 ∙ branch.good (k.AT_KW ∷ k.IN_KW ∷ []) c.args.x.now.rows.ids.now (whole c.args.s c.args.lent.now.notes) (sym c.sees.ensures ∙ c.if-not-sees.false)) (c.mark-m.ensures c.args.lent.now.notes)).here) (c.trivia-s-2.ensures.0 c.args.x.now.src.now c.args.lent.now.notes)) c.args.x.now.tiled.lines, omega arith)

pub spot-expr-s-requires : goal.spot-expr-s-requires
spot-expr-s-requires t c = (omega arith, (plus_e (plus_t ((tries c.args.x.now.entrypoint c.args.d c.args.may at_or_in (plus_t (from c.args.x.now c.args.s c.args.lent.now c.requires) (c.trivia-s.ensures.0 c.args.x.now.src.now c.args.lent.now.notes)) (ap number c.trivia-s.ensures.1 ∙ branch.good (k.AT_KW ∷ k.IN_KW ∷ []) c.args.x.now.rows.ids.now (whole c.args.s c.args.lent.now.notes) (sym c.sees.ensures ∙ c.if-not-sees.false)) (c.mark-m.ensures c.args.lent.now.notes)).here) (c.trivia-s-2.ensures.0 c.args.x.now.src.now c.args.lent.now.notes)) c.expect-s.ensures.step).wf)

pub spot-returns-then-isnt-clause-read : goal.spot-returns-then-isnt-clause-read
unfolding grammar kind names_of
spot-returns-then-isnt-clause-read t c = enters (from c.args.x.now c.args.s c.args.lent.now c.requires) c.args.x.now.entrypoint c.args.d c.args.may (k.AT_KW ∷ k.IN_KW ∷ []) at_or_in c.sees.ensures c.if-not-sees.false (goes (tries c.args.x.now.entrypoint c.args.d c.args.may at_or_in (plus_t (from c.args.x.now c.args.s c.args.lent.now c.requires) (c.trivia-s.ensures.0 c.args.x.now.src.now c.args.lent.now.notes)) (ap number c.trivia-s.ensures.1 ∙ branch.good (k.AT_KW ∷ k.IN_KW ∷ []) c.args.x.now.rows.ids.now (whole c.args.s c.args.lent.now.notes) (sym c.sees.ensures ∙ c.if-not-sees.false)) (c.mark-m.ensures c.args.lent.now.notes)) (λ g h. (plus (plus_e (plus_t h (c.trivia-s-2.ensures.0 c.args.x.now.src.now c.args.lent.now.notes)) c.expect-s.ensures.step) c.expr-s.ensures.read)) (not_failed _ c.if-isnt.ensures))

pub spot-trivia-s-requires-3 : goal.spot-trivia-s-requires-3
unfolding grammar kind names_of
spot-trivia-s-requires-3 t c = (c.args.x.now.tiled.lines, (((else (tries c.args.x.now.entrypoint c.args.d c.args.may at_or_in (plus_t (from c.args.x.now c.args.s c.args.lent.now c.requires) (c.trivia-s.ensures.0 c.args.x.now.src.now c.args.lent.now.notes)) (ap number c.trivia-s.ensures.1 ∙ branch.good (k.AT_KW ∷ k.IN_KW ∷ []) c.args.x.now.rows.ids.now (whole c.args.s c.args.lent.now.notes) (sym c.sees.ensures ∙ c.if-not-sees.false)) (c.mark-m.ensures c.args.lent.now.notes)) (λ g h. (plus (plus_e (plus_t h (c.trivia-s-2.ensures.0 c.args.x.now.src.now c.args.lent.now.notes)) c.expect-s.ensures.step) c.expr-s.ensures.read)) (failed _ c.if-isnt.ensures) (ap (with_mode 0) (c.rewind-s.ensures c.expr-s.new.lent.notes))).here).wf.0.2.events, ((else (tries c.args.x.now.entrypoint c.args.d c.args.may at_or_in (plus_t (from c.args.x.now c.args.s c.args.lent.now c.requires) (c.trivia-s.ensures.0 c.args.x.now.src.now c.args.lent.now.notes)) (ap number c.trivia-s.ensures.1 ∙ branch.good (k.AT_KW ∷ k.IN_KW ∷ []) c.args.x.now.rows.ids.now (whole c.args.s c.args.lent.now.notes) (sym c.sees.ensures ∙ c.if-not-sees.false)) (c.mark-m.ensures c.args.lent.now.notes)) (λ g h. (plus (plus_e (plus_t h (c.trivia-s-2.ensures.0 c.args.x.now.src.now c.args.lent.now.notes)) c.expect-s.ensures.step) c.expr-s.ensures.read)) (failed _ c.if-isnt.ensures) (ap (with_mode 0) (c.rewind-s.ensures c.expr-s.new.lent.notes))).here).wf.1.events))

pub spot-expect-s-requires-2 : goal.spot-expect-s-requires-2
unfolding grammar kind names_of
spot-expect-s-requires-2 t c = (asks_e (plus_t ((else (tries c.args.x.now.entrypoint c.args.d c.args.may at_or_in (plus_t (from c.args.x.now c.args.s c.args.lent.now c.requires) (c.trivia-s.ensures.0 c.args.x.now.src.now c.args.lent.now.notes)) (ap number c.trivia-s.ensures.1 ∙ branch.good (k.AT_KW ∷ k.IN_KW ∷ []) c.args.x.now.rows.ids.now (whole c.args.s c.args.lent.now.notes) (sym c.sees.ensures ∙ c.if-not-sees.false)) (c.mark-m.ensures c.args.lent.now.notes)) (λ g h. (plus (plus_e (plus_t h (c.trivia-s-2.ensures.0 c.args.x.now.src.now c.args.lent.now.notes)) c.expect-s.ensures.step) c.expr-s.ensures.read)) (failed _ c.if-isnt.ensures) (ap (with_mode 0) (c.rewind-s.ensures c.expr-s.new.lent.notes))).here) (c.trivia-s-3.ensures.0 c.args.x.now.src.now c.expr-s.new.lent.notes)) c.args.x.now.tiled.lines, omega arith)

pub spot-range-s-requires : goal.spot-range-s-requires
unfolding grammar kind names_of
spot-range-s-requires t c = (omega arith, (plus_e (plus_t ((else (tries c.args.x.now.entrypoint c.args.d c.args.may at_or_in (plus_t (from c.args.x.now c.args.s c.args.lent.now c.requires) (c.trivia-s.ensures.0 c.args.x.now.src.now c.args.lent.now.notes)) (ap number c.trivia-s.ensures.1 ∙ branch.good (k.AT_KW ∷ k.IN_KW ∷ []) c.args.x.now.rows.ids.now (whole c.args.s c.args.lent.now.notes) (sym c.sees.ensures ∙ c.if-not-sees.false)) (c.mark-m.ensures c.args.lent.now.notes)) (λ g h. (plus (plus_e (plus_t h (c.trivia-s-2.ensures.0 c.args.x.now.src.now c.args.lent.now.notes)) c.expect-s.ensures.step) c.expr-s.ensures.read)) (failed _ c.if-isnt.ensures) (ap (with_mode 0) (c.rewind-s.ensures c.expr-s.new.lent.notes))).here) (c.trivia-s-3.ensures.0 c.args.x.now.src.now c.expr-s.new.lent.notes)) c.expect-s-2.ensures.step).wf)

pub spot-returns-then-isnt-2-clause-read : goal.spot-returns-then-isnt-2-clause-read
unfolding grammar kind names_of
spot-returns-then-isnt-2-clause-read t c = enters (from c.args.x.now c.args.s c.args.lent.now c.requires) c.args.x.now.entrypoint c.args.d c.args.may (k.AT_KW ∷ k.IN_KW ∷ []) at_or_in c.sees.ensures c.if-not-sees.false (at_last (else (tries c.args.x.now.entrypoint c.args.d c.args.may at_or_in (plus_t (from c.args.x.now c.args.s c.args.lent.now c.requires) (c.trivia-s.ensures.0 c.args.x.now.src.now c.args.lent.now.notes)) (ap number c.trivia-s.ensures.1 ∙ branch.good (k.AT_KW ∷ k.IN_KW ∷ []) c.args.x.now.rows.ids.now (whole c.args.s c.args.lent.now.notes) (sym c.sees.ensures ∙ c.if-not-sees.false)) (c.mark-m.ensures c.args.lent.now.notes)) (λ g h. (plus (plus_e (plus_t h (c.trivia-s-2.ensures.0 c.args.x.now.src.now c.args.lent.now.notes)) c.expect-s.ensures.step) c.expr-s.ensures.read)) (failed _ c.if-isnt.ensures) (ap (with_mode 0) (c.rewind-s.ensures c.expr-s.new.lent.notes))) (λ g h. (plus (plus_e (plus_t h (c.trivia-s-3.ensures.0 c.args.x.now.src.now c.expr-s.new.lent.notes)) c.expect-s-2.ensures.step) c.range-s.ensures.read)) (lost_on _ _ (not_failed _ c.if-isnt-2.ensures)))

pub spot-returns-clause-read : goal.spot-returns-clause-read
unfolding grammar kind names_of
spot-returns-clause-read t c = enters (from c.args.x.now c.args.s c.args.lent.now c.requires) c.args.x.now.entrypoint c.args.d c.args.may (k.AT_KW ∷ k.IN_KW ∷ []) at_or_in c.sees.ensures c.if-not-sees.false (at_last (else (tries c.args.x.now.entrypoint c.args.d c.args.may at_or_in (plus_t (from c.args.x.now c.args.s c.args.lent.now c.requires) (c.trivia-s.ensures.0 c.args.x.now.src.now c.args.lent.now.notes)) (ap number c.trivia-s.ensures.1 ∙ branch.good (k.AT_KW ∷ k.IN_KW ∷ []) c.args.x.now.rows.ids.now (whole c.args.s c.args.lent.now.notes) (sym c.sees.ensures ∙ c.if-not-sees.false)) (c.mark-m.ensures c.args.lent.now.notes)) (λ g h. (plus (plus_e (plus_t h (c.trivia-s-2.ensures.0 c.args.x.now.src.now c.args.lent.now.notes)) c.expect-s.ensures.step) c.expr-s.ensures.read)) (failed _ c.if-isnt.ensures) (ap (with_mode 0) (c.rewind-s.ensures c.expr-s.new.lent.notes))) (λ g h. (plus (plus_e (plus_t h (c.trivia-s-3.ensures.0 c.args.x.now.src.now c.expr-s.new.lent.notes)) c.expect-s-2.ensures.step) c.range-s.ensures.read)) ((c.rewind-s-2.ensures c.range-s.new.lent.notes) ∙ lost_back _ _ (failed _ c.if-isnt-2.ensures)))

pub sum-begin-s-requires : goal.sum-begin-s-requires
sum-begin-s-requires t c = (c.args.x.now.tiled.lines, ((from c.args.x.now c.args.s c.args.lent.now c.requires).wf.0.2.events, (from c.args.x.now c.args.s c.args.lent.now c.requires).wf.1.events), (from c.args.x.now c.args.s c.args.lent.now c.requires).wf.0.0.here)

pub sum-end-requires : goal.sum-end-requires
sum-end-requires t c = closes G.EXPR c.args.may c.args.x.now.entrypoint c.args.d (from c.args.x.now c.args.s c.args.lent.now c.requires) (c.begin-s.ensures c.args.x.now.src.now c.args.lent.now.notes) (begins G.EXPR c.args.may c.args.x.now.entrypoint c.args.d (from c.args.x.now c.args.s c.args.lent.now c.requires) (c.begin-s.ensures c.args.x.now.src.now c.args.lent.now.notes))

pub sum-returns-then-d-eq0-clause-read : goal.sum-returns-then-d-eq0-clause-read
unfolding grammar kind names_of
sum-returns-then-d-eq0-clause-read t c = makes_none G.EXPR c.args.may c.args.x.now.entrypoint c.args.d (from c.args.x.now c.args.s c.args.lent.now c.requires) (c.begin-s.ensures c.args.x.now.src.now c.args.lent.now.notes) c.if-d-eq0.true (ended c.end.ensures.step)

pub sum-term-s-requires : goal.sum-term-s-requires
sum-term-s-requires t c = (omega (arith, c.if-d-eq0.false), (begins G.EXPR c.args.may c.args.x.now.entrypoint c.args.d (from c.args.x.now c.args.s c.args.lent.now c.requires) (c.begin-s.ensures c.args.x.now.src.now c.args.lent.now.notes)).wf)

pub sum-more-s-requires : goal.sum-more-s-requires
sum-more-s-requires t c = (omega (arith, c.if-d-eq0.false), ((plus (begins G.EXPR c.args.may c.args.x.now.entrypoint c.args.d (from c.args.x.now c.args.s c.args.lent.now c.requires) (c.begin-s.ensures c.args.x.now.src.now c.args.lent.now.notes)) c.term-s.ensures.read).wf, omega arith))

pub sum-end-requires-2 : goal.sum-end-requires-2
sum-end-requires-2 t c = closes G.EXPR c.args.may c.args.x.now.entrypoint c.args.d (from c.args.x.now c.args.s c.args.lent.now c.requires) (c.begin-s.ensures c.args.x.now.src.now c.args.lent.now.notes) (plus (plus (begins G.EXPR c.args.may c.args.x.now.entrypoint c.args.d (from c.args.x.now c.args.s c.args.lent.now c.requires) (c.begin-s.ensures c.args.x.now.src.now c.args.lent.now.notes)) c.term-s.ensures.read) c.more-s.ensures.read)

pub sum-returns-clause-read : goal.sum-returns-clause-read
unfolding grammar kind names_of
sum-returns-clause-read t c = makes G.EXPR c.args.may c.args.x.now.entrypoint c.args.d (from c.args.x.now c.args.s c.args.lent.now c.requires) (c.begin-s.ensures c.args.x.now.src.now c.args.lent.now.notes) c.if-d-eq0.false (plus (plus (begins G.EXPR c.args.may c.args.x.now.entrypoint c.args.d (from c.args.x.now c.args.s c.args.lent.now c.requires) (c.begin-s.ensures c.args.x.now.src.now c.args.lent.now.notes)) c.term-s.ensures.read) c.more-s.ensures.read) (ended c.end-2.ensures.step)

pub term-returns-then-isnt-clause-read : goal.term-returns-then-isnt-clause-read
unfolding grammar kind names_of
term-returns-then-isnt-clause-read t c = stops (from c.args.x.now c.args.s c.args.lent.now c.requires) c.args.x.now.entrypoint c.args.d c.args.may (then (memo G.TERM)) tt (not_fine _ c.if-isnt.ensures)

pub term-trivia-s-requires : goal.term-trivia-s-requires
term-trivia-s-requires t c = (c.args.x.now.tiled.lines, ((from c.args.x.now c.args.s c.args.lent.now c.requires).wf.0.2.events, (from c.args.x.now c.args.s c.args.lent.now c.requires).wf.1.events))

pub term-seen-requires : goal.term-seen-requires
unfolding grammar kind names_of
term-seen-requires t c = bit_in c.args.x.now.entrypoint c.args.d c.args.may G.TERM refl (here (plus_t (from c.args.x.now c.args.s c.args.lent.now c.requires) (c.trivia-s.ensures.0 c.args.x.now.src.now c.args.lent.now.notes))) (inr (refl, refl))

pub term-returns-then-seen-clause-read : goal.term-returns-then-seen-clause-read
unfolding grammar kind names_of
term-returns-then-seen-clause-read t c = then_past c.args.x.now.entrypoint c.args.d c.args.may (memo G.TERM) (fine _ c.if-isnt.ensures) (plus (plus_t (from c.args.x.now c.args.s c.args.lent.now c.requires) (c.trivia-s.ensures.0 c.args.x.now.src.now c.args.lent.now.notes)) (known_hit c.args.x.now.entrypoint c.args.d c.args.may G.TERM refl (here (plus_t (from c.args.x.now c.args.s c.args.lent.now c.requires) (c.trivia-s.ensures.0 c.args.x.now.src.now c.args.lent.now.notes))) (inr (refl, refl)) (ap number c.trivia-s.ensures.1 ∙ (fine _ c.if-isnt.ensures)) c.seen.ensures c.if-seen.true))

pub term-unit-s-requires : goal.term-unit-s-requires
term-unit-s-requires t c = (omega arith, (plus_t (from c.args.x.now c.args.s c.args.lent.now c.requires) (c.trivia-s.ensures.0 c.args.x.now.src.now c.args.lent.now.notes)).wf)

pub term-returns-then-isnt-2-clause-read : goal.term-returns-then-isnt-2-clause-read
unfolding grammar kind names_of
term-returns-then-isnt-2-clause-read t c = then_past c.args.x.now.entrypoint c.args.d c.args.may (memo G.TERM) (fine _ c.if-isnt.ensures) (plus (plus_t (from c.args.x.now c.args.s c.args.lent.now c.requires) (c.trivia-s.ensures.0 c.args.x.now.src.now c.args.lent.now.notes)) (known_through c.args.x.now.entrypoint c.args.d c.args.may G.TERM refl (here (plus_t (from c.args.x.now c.args.s c.args.lent.now c.requires) (c.trivia-s.ensures.0 c.args.x.now.src.now c.args.lent.now.notes))) (inr (refl, refl)) (ap number c.trivia-s.ensures.1 ∙ (fine _ c.if-isnt.ensures)) c.seen.ensures c.if-seen.false c.unit-s.ensures.read (not_failed _ c.if-isnt-2.ensures)))

pub term-remembers-requires : goal.term-remembers-requires
unfolding grammar kind names_of
term-remembers-requires t c = bit_in_still c.args.x.now.entrypoint c.args.d c.args.may G.TERM refl (here (plus_t (from c.args.x.now c.args.s c.args.lent.now c.requires) (c.trivia-s.ensures.0 c.args.x.now.src.now c.args.lent.now.notes))) (inr (refl, refl)) c.unit-s.ensures.read

pub term-returns-clause-read : goal.term-returns-clause-read
unfolding grammar kind names_of
term-returns-clause-read t c = then_past c.args.x.now.entrypoint c.args.d c.args.may (memo G.TERM) (fine _ c.if-isnt.ensures) (plus (plus_t (from c.args.x.now c.args.s c.args.lent.now c.requires) (c.trivia-s.ensures.0 c.args.x.now.src.now c.args.lent.now.notes)) (known_failed c.args.x.now.entrypoint c.args.d c.args.may G.TERM refl (here (plus_t (from c.args.x.now c.args.s c.args.lent.now c.requires) (c.trivia-s.ensures.0 c.args.x.now.src.now c.args.lent.now.notes))) (inr (refl, refl)) (ap number c.trivia-s.ensures.1 ∙ (fine _ c.if-isnt.ensures)) c.seen.ensures c.if-seen.false c.unit-s.ensures.read (failed _ c.if-isnt-2.ensures) (c.remembers.ensures.0 (whole c.unit-s.result c.unit-s.new.lent.notes), c.remembers.ensures.1) c.remembers.auto.scratch))

pub test-returns-then-isnt-clause-read : goal.test-returns-then-isnt-clause-read
unfolding grammar kind names_of
test-returns-then-isnt-clause-read t c = stops (from c.args.x.now c.args.s c.args.lent.now c.requires) c.args.x.now.entrypoint c.args.d c.args.may compared tt (not_fine _ c.if-isnt.ensures)

pub test-expr-s-requires : goal.test-expr-s-requires
test-expr-s-requires t c = (omega arith, ((tries c.args.x.now.entrypoint c.args.d c.args.may compared (from c.args.x.now c.args.s c.args.lent.now c.requires) (fine _ c.if-isnt.ensures) (c.mark-m.ensures c.args.lent.now.notes)).here).wf)

pub test-more-s-requires : goal.test-more-s-requires
test-more-s-requires t c = (omega arith, ((past_then c.args.x.now.entrypoint c.args.d true (memo G.EXPR) ((tries c.args.x.now.entrypoint c.args.d c.args.may compared (from c.args.x.now c.args.s c.args.lent.now c.requires) (fine _ c.if-isnt.ensures) (c.mark-m.ensures c.args.lent.now.notes)).good) c.expr-s.ensures.read).wf, omega arith))

pub test-returns-then-isnt-2-clause-read : goal.test-returns-then-isnt-2-clause-read
unfolding grammar kind names_of
test-returns-then-isnt-2-clause-read t c = goes (tries c.args.x.now.entrypoint c.args.d c.args.may compared (from c.args.x.now c.args.s c.args.lent.now c.requires) (fine _ c.if-isnt.ensures) (c.mark-m.ensures c.args.lent.now.notes)) (λ g h. (plus (past_then c.args.x.now.entrypoint c.args.d true (memo G.EXPR) g c.expr-s.ensures.read) c.more-s.ensures.read)) (not_failed _ c.if-isnt-2.ensures)

pub test-trivia-s-requires : goal.test-trivia-s-requires
unfolding grammar kind names_of
test-trivia-s-requires t c = (c.args.x.now.tiled.lines, (((else (tries c.args.x.now.entrypoint c.args.d c.args.may compared (from c.args.x.now c.args.s c.args.lent.now c.requires) (fine _ c.if-isnt.ensures) (c.mark-m.ensures c.args.lent.now.notes)) (λ g h. (plus (past_then c.args.x.now.entrypoint c.args.d true (memo G.EXPR) g c.expr-s.ensures.read) c.more-s.ensures.read)) (failed _ c.if-isnt-2.ensures) (ap (with_mode 0) (c.rewind-s.ensures c.more-s.new.lent.notes))).here).wf.0.2.events, ((else (tries c.args.x.now.entrypoint c.args.d c.args.may compared (from c.args.x.now c.args.s c.args.lent.now c.requires) (fine _ c.if-isnt.ensures) (c.mark-m.ensures c.args.lent.now.notes)) (λ g h. (plus (past_then c.args.x.now.entrypoint c.args.d true (memo G.EXPR) g c.expr-s.ensures.read) c.more-s.ensures.read)) (failed _ c.if-isnt-2.ensures) (ap (with_mode 0) (c.rewind-s.ensures c.more-s.new.lent.notes))).here).wf.1.events))

pub test-expect-s-requires : goal.test-expect-s-requires
unfolding grammar kind names_of
test-expect-s-requires t c = (asks_e (plus_t ((else (tries c.args.x.now.entrypoint c.args.d c.args.may compared (from c.args.x.now c.args.s c.args.lent.now c.requires) (fine _ c.if-isnt.ensures) (c.mark-m.ensures c.args.lent.now.notes)) (λ g h. (plus (past_then c.args.x.now.entrypoint c.args.d true (memo G.EXPR) g c.expr-s.ensures.read) c.more-s.ensures.read)) (failed _ c.if-isnt-2.ensures) (ap (with_mode 0) (c.rewind-s.ensures c.more-s.new.lent.notes))).here) (c.trivia-s.ensures.0 c.args.x.now.src.now c.more-s.new.lent.notes)) c.args.x.now.tiled.lines, omega arith)

pub test-bool_expr-s-requires : goal.test-bool_expr-s-requires
unfolding grammar kind names_of
test-bool_expr-s-requires t c = (omega arith, (plus_e (plus_t ((else (tries c.args.x.now.entrypoint c.args.d c.args.may compared (from c.args.x.now c.args.s c.args.lent.now c.requires) (fine _ c.if-isnt.ensures) (c.mark-m.ensures c.args.lent.now.notes)) (λ g h. (plus (past_then c.args.x.now.entrypoint c.args.d true (memo G.EXPR) g c.expr-s.ensures.read) c.more-s.ensures.read)) (failed _ c.if-isnt-2.ensures) (ap (with_mode 0) (c.rewind-s.ensures c.more-s.new.lent.notes))).here) (c.trivia-s.ensures.0 c.args.x.now.src.now c.more-s.new.lent.notes)) c.expect-s.ensures.step).wf)

pub test-expect-s-requires-2 : goal.test-expect-s-requires-2
unfolding grammar kind names_of
test-expect-s-requires-2 t c = (asks_e (plus (plus_e (plus_t ((else (tries c.args.x.now.entrypoint c.args.d c.args.may compared (from c.args.x.now c.args.s c.args.lent.now c.requires) (fine _ c.if-isnt.ensures) (c.mark-m.ensures c.args.lent.now.notes)) (λ g h. (plus (past_then c.args.x.now.entrypoint c.args.d true (memo G.EXPR) g c.expr-s.ensures.read) c.more-s.ensures.read)) (failed _ c.if-isnt-2.ensures) (ap (with_mode 0) (c.rewind-s.ensures c.more-s.new.lent.notes))).here) (c.trivia-s.ensures.0 c.args.x.now.src.now c.more-s.new.lent.notes)) c.expect-s.ensures.step) c.bool_expr-s.ensures.read) c.args.x.now.tiled.lines, omega arith)

pub test-returns-then-isnt-3-clause-read : goal.test-returns-then-isnt-3-clause-read
unfolding grammar kind names_of
test-returns-then-isnt-3-clause-read t c = at_last (else (tries c.args.x.now.entrypoint c.args.d c.args.may compared (from c.args.x.now c.args.s c.args.lent.now c.requires) (fine _ c.if-isnt.ensures) (c.mark-m.ensures c.args.lent.now.notes)) (λ g h. (plus (past_then c.args.x.now.entrypoint c.args.d true (memo G.EXPR) g c.expr-s.ensures.read) c.more-s.ensures.read)) (failed _ c.if-isnt-2.ensures) (ap (with_mode 0) (c.rewind-s.ensures c.more-s.new.lent.notes))) (λ g h. (plus_e (plus (plus_e (plus_t h (c.trivia-s.ensures.0 c.args.x.now.src.now c.more-s.new.lent.notes)) c.expect-s.ensures.step) c.bool_expr-s.ensures.read) c.expect-s-2.ensures.step)) (lost_on _ _ (not_failed _ c.if-isnt-3.ensures))

pub test-returns-clause-read : goal.test-returns-clause-read
unfolding grammar kind names_of
test-returns-clause-read t c = at_last (else (tries c.args.x.now.entrypoint c.args.d c.args.may compared (from c.args.x.now c.args.s c.args.lent.now c.requires) (fine _ c.if-isnt.ensures) (c.mark-m.ensures c.args.lent.now.notes)) (λ g h. (plus (past_then c.args.x.now.entrypoint c.args.d true (memo G.EXPR) g c.expr-s.ensures.read) c.more-s.ensures.read)) (failed _ c.if-isnt-2.ensures) (ap (with_mode 0) (c.rewind-s.ensures c.more-s.new.lent.notes))) (λ g h. (plus_e (plus (plus_e (plus_t h (c.trivia-s.ensures.0 c.args.x.now.src.now c.more-s.new.lent.notes)) c.expect-s.ensures.step) c.bool_expr-s.ensures.read) c.expect-s-2.ensures.step)) ((c.rewind-s-2.ensures c.expect-s-2.new.lent.notes) ∙ lost_back _ _ (failed _ c.if-isnt-3.ensures))

pub unit-begin-s-requires : goal.unit-begin-s-requires
unit-begin-s-requires t c = (c.args.x.now.tiled.lines, ((from c.args.x.now c.args.s c.args.lent.now c.requires).wf.0.2.events, (from c.args.x.now c.args.s c.args.lent.now c.requires).wf.1.events), (from c.args.x.now c.args.s c.args.lent.now c.requires).wf.0.0.here)

pub unit-end-requires : goal.unit-end-requires
unit-end-requires t c = closes G.TERM c.args.may c.args.x.now.entrypoint c.args.d (from c.args.x.now c.args.s c.args.lent.now c.requires) (c.begin-s.ensures c.args.x.now.src.now c.args.lent.now.notes) (begins G.TERM c.args.may c.args.x.now.entrypoint c.args.d (from c.args.x.now c.args.s c.args.lent.now c.requires) (c.begin-s.ensures c.args.x.now.src.now c.args.lent.now.notes))

pub unit-returns-then-d-eq0-clause-read : goal.unit-returns-then-d-eq0-clause-read
unfolding grammar kind names_of
unit-returns-then-d-eq0-clause-read t c = makes_none G.TERM c.args.may c.args.x.now.entrypoint c.args.d (from c.args.x.now c.args.s c.args.lent.now c.requires) (c.begin-s.ensures c.args.x.now.src.now c.args.lent.now.notes) c.if-d-eq0.true (ended c.end.ensures.step)

pub unit-lit-s-requires : goal.unit-lit-s-requires
unit-lit-s-requires t c = (omega (arith, c.if-d-eq0.false), (begins G.TERM c.args.may c.args.x.now.entrypoint c.args.d (from c.args.x.now c.args.s c.args.lent.now c.requires) (c.begin-s.ensures c.args.x.now.src.now c.args.lent.now.notes)).wf)

pub unit-end-requires-2 : goal.unit-end-requires-2
unit-end-requires-2 t c = closes G.TERM c.args.may c.args.x.now.entrypoint c.args.d (from c.args.x.now c.args.s c.args.lent.now c.requires) (c.begin-s.ensures c.args.x.now.src.now c.args.lent.now.notes) (plus (begins G.TERM c.args.may c.args.x.now.entrypoint c.args.d (from c.args.x.now c.args.s c.args.lent.now c.requires) (c.begin-s.ensures c.args.x.now.src.now c.args.lent.now.notes)) c.lit-s.ensures.read)

pub unit-returns-clause-read : goal.unit-returns-clause-read
unfolding grammar kind names_of
unit-returns-clause-read t c = makes G.TERM c.args.may c.args.x.now.entrypoint c.args.d (from c.args.x.now c.args.s c.args.lent.now c.requires) (c.begin-s.ensures c.args.x.now.src.now c.args.lent.now.notes) c.if-d-eq0.false (plus (begins G.TERM c.args.may c.args.x.now.entrypoint c.args.d (from c.args.x.now c.args.s c.args.lent.now c.requires) (c.begin-s.ensures c.args.x.now.src.now c.args.lent.now.notes)) c.lit-s.ensures.read) (ended c.end-2.ensures.step)

pub vals-returns-then-isnt-clause-read : goal.vals-returns-then-isnt-clause-read
unfolding grammar kind names_of
vals-returns-then-isnt-clause-read t c = stops (from c.args.x.now c.args.s c.args.lent.now c.requires) c.args.x.now.entrypoint c.args.d c.args.may (grammar c.args.x.now.entrypoint G.ITERABLE) tt (not_fine _ c.if-isnt.ensures)

pub vals-range-s-requires : goal.vals-range-s-requires
vals-range-s-requires t c = (omega arith, ((tries c.args.x.now.entrypoint c.args.d c.args.may (grammar c.args.x.now.entrypoint G.ITERABLE) (from c.args.x.now c.args.s c.args.lent.now c.requires) (fine _ c.if-isnt.ensures) (c.mark-m.ensures c.args.lent.now.notes)).here).wf)

pub vals-returns-then-isnt-2-clause-read : goal.vals-returns-then-isnt-2-clause-read
unfolding grammar kind names_of
vals-returns-then-isnt-2-clause-read t c = goes (tries c.args.x.now.entrypoint c.args.d c.args.may (grammar c.args.x.now.entrypoint G.ITERABLE) (from c.args.x.now c.args.s c.args.lent.now c.requires) (fine _ c.if-isnt.ensures) (c.mark-m.ensures c.args.lent.now.notes)) (λ g h. (past_then c.args.x.now.entrypoint c.args.d true (node G.RANGE) g c.range-s.ensures.read)) (not_failed _ c.if-isnt-2.ensures)

pub vals-exprs-s-requires : goal.vals-exprs-s-requires
unfolding grammar kind names_of
vals-exprs-s-requires t c = (omega arith, ((else (tries c.args.x.now.entrypoint c.args.d c.args.may (grammar c.args.x.now.entrypoint G.ITERABLE) (from c.args.x.now c.args.s c.args.lent.now c.requires) (fine _ c.if-isnt.ensures) (c.mark-m.ensures c.args.lent.now.notes)) (λ g h. (past_then c.args.x.now.entrypoint c.args.d true (node G.RANGE) g c.range-s.ensures.read)) (failed _ c.if-isnt-2.ensures) (ap (with_mode 0) (c.rewind-s.ensures c.range-s.new.lent.notes))).here).wf)

pub vals-returns-then-isnt-3-clause-read : goal.vals-returns-then-isnt-3-clause-read
unfolding grammar kind names_of
vals-returns-then-isnt-3-clause-read t c = goes (else (tries c.args.x.now.entrypoint c.args.d c.args.may (grammar c.args.x.now.entrypoint G.ITERABLE) (from c.args.x.now c.args.s c.args.lent.now c.requires) (fine _ c.if-isnt.ensures) (c.mark-m.ensures c.args.lent.now.notes)) (λ g h. (past_then c.args.x.now.entrypoint c.args.d true (node G.RANGE) g c.range-s.ensures.read)) (failed _ c.if-isnt-2.ensures) (ap (with_mode 0) (c.rewind-s.ensures c.range-s.new.lent.notes))) (λ g h. (past_then c.args.x.now.entrypoint c.args.d true (node G.EXPR_TUPLE) g c.exprs-s.ensures.read)) (not_failed _ c.if-isnt-3.ensures)

pub vals-expr-s-requires : goal.vals-expr-s-requires
unfolding grammar kind names_of
vals-expr-s-requires t c = (omega arith, ((else (else (tries c.args.x.now.entrypoint c.args.d c.args.may (grammar c.args.x.now.entrypoint G.ITERABLE) (from c.args.x.now c.args.s c.args.lent.now c.requires) (fine _ c.if-isnt.ensures) (c.mark-m.ensures c.args.lent.now.notes)) (λ g h. (past_then c.args.x.now.entrypoint c.args.d true (node G.RANGE) g c.range-s.ensures.read)) (failed _ c.if-isnt-2.ensures) (ap (with_mode 0) (c.rewind-s.ensures c.range-s.new.lent.notes))) (λ g h. (past_then c.args.x.now.entrypoint c.args.d true (node G.EXPR_TUPLE) g c.exprs-s.ensures.read)) (failed _ c.if-isnt-3.ensures) (ap (with_mode 0) (c.rewind-s-2.ensures c.exprs-s.new.lent.notes))).here).wf)

pub vals-returns-then-isnt-4-clause-read : goal.vals-returns-then-isnt-4-clause-read
unfolding grammar kind names_of
vals-returns-then-isnt-4-clause-read t c = at_last (else (else (tries c.args.x.now.entrypoint c.args.d c.args.may (grammar c.args.x.now.entrypoint G.ITERABLE) (from c.args.x.now c.args.s c.args.lent.now c.requires) (fine _ c.if-isnt.ensures) (c.mark-m.ensures c.args.lent.now.notes)) (λ g h. (past_then c.args.x.now.entrypoint c.args.d true (node G.RANGE) g c.range-s.ensures.read)) (failed _ c.if-isnt-2.ensures) (ap (with_mode 0) (c.rewind-s.ensures c.range-s.new.lent.notes))) (λ g h. (past_then c.args.x.now.entrypoint c.args.d true (node G.EXPR_TUPLE) g c.exprs-s.ensures.read)) (failed _ c.if-isnt-3.ensures) (ap (with_mode 0) (c.rewind-s-2.ensures c.exprs-s.new.lent.notes))) (λ g h. (past_then c.args.x.now.entrypoint c.args.d true (memo G.EXPR) g c.expr-s.ensures.read)) (lost_on _ _ (not_failed _ c.if-isnt-4.ensures))

pub vals-returns-clause-read : goal.vals-returns-clause-read
unfolding grammar kind names_of
vals-returns-clause-read t c = at_last (else (else (tries c.args.x.now.entrypoint c.args.d c.args.may (grammar c.args.x.now.entrypoint G.ITERABLE) (from c.args.x.now c.args.s c.args.lent.now c.requires) (fine _ c.if-isnt.ensures) (c.mark-m.ensures c.args.lent.now.notes)) (λ g h. (past_then c.args.x.now.entrypoint c.args.d true (node G.RANGE) g c.range-s.ensures.read)) (failed _ c.if-isnt-2.ensures) (ap (with_mode 0) (c.rewind-s.ensures c.range-s.new.lent.notes))) (λ g h. (past_then c.args.x.now.entrypoint c.args.d true (node G.EXPR_TUPLE) g c.exprs-s.ensures.read)) (failed _ c.if-isnt-3.ensures) (ap (with_mode 0) (c.rewind-s-2.ensures c.exprs-s.new.lent.notes))) (λ g h. (past_then c.args.x.now.entrypoint c.args.d true (memo G.EXPR) g c.expr-s.ensures.read)) ((c.rewind-s-3.ensures c.expr-s.new.lent.notes) ∙ lost_back _ _ (failed _ c.if-isnt-4.ensures))

pub whom-returns-then-isnt-clause-read : goal.whom-returns-then-isnt-clause-read
unfolding grammar kind names_of
whom-returns-then-isnt-clause-read t c = stops (from c.args.x.now c.args.s c.args.lent.now c.requires) c.args.x.now.entrypoint c.args.d c.args.may which tt (not_fine _ c.if-isnt.ensures)

pub whom-trivia-s-requires : goal.whom-trivia-s-requires
whom-trivia-s-requires t c = (c.args.x.now.tiled.lines, (((tries c.args.x.now.entrypoint c.args.d c.args.may which (from c.args.x.now c.args.s c.args.lent.now c.requires) (fine _ c.if-isnt.ensures) (c.mark-m.ensures c.args.lent.now.notes)).here).wf.0.2.events, ((tries c.args.x.now.entrypoint c.args.d c.args.may which (from c.args.x.now c.args.s c.args.lent.now c.requires) (fine _ c.if-isnt.ensures) (c.mark-m.ensures c.args.lent.now.notes)).here).wf.1.events))

pub whom-them-s-requires : goal.whom-them-s-requires
whom-them-s-requires t c = (plus_t ((tries c.args.x.now.entrypoint c.args.d c.args.may which (from c.args.x.now c.args.s c.args.lent.now c.requires) (fine _ c.if-isnt.ensures) (c.mark-m.ensures c.args.lent.now.notes)).here) (c.trivia-s.ensures.0 c.args.x.now.src.now c.args.lent.now.notes)).wf

pub whom-spot-s-requires : goal.whom-spot-s-requires
whom-spot-s-requires t c = (omega arith, (plus (plus_t ((tries c.args.x.now.entrypoint c.args.d c.args.may which (from c.args.x.now c.args.s c.args.lent.now c.requires) (fine _ c.if-isnt.ensures) (c.mark-m.ensures c.args.lent.now.notes)).here) (c.trivia-s.ensures.0 c.args.x.now.src.now c.args.lent.now.notes)) c.them-s.ensures.read).wf)

pub whom-returns-then-isnt-2-clause-read : goal.whom-returns-then-isnt-2-clause-read
unfolding grammar kind names_of
whom-returns-then-isnt-2-clause-read t c = goes (tries c.args.x.now.entrypoint c.args.d c.args.may which (from c.args.x.now c.args.s c.args.lent.now c.requires) (fine _ c.if-isnt.ensures) (c.mark-m.ensures c.args.lent.now.notes)) (λ g h. (plus (plus (plus_t h (c.trivia-s.ensures.0 c.args.x.now.src.now c.args.lent.now.notes)) c.them-s.ensures.read) c.spot-s.ensures.read)) (not_failed _ c.if-isnt-2.ensures)

pub whom-bools-s-requires : goal.whom-bools-s-requires
unfolding grammar kind names_of
whom-bools-s-requires t c = (omega arith, ((else (tries c.args.x.now.entrypoint c.args.d c.args.may which (from c.args.x.now c.args.s c.args.lent.now c.requires) (fine _ c.if-isnt.ensures) (c.mark-m.ensures c.args.lent.now.notes)) (λ g h. (plus (plus (plus_t h (c.trivia-s.ensures.0 c.args.x.now.src.now c.args.lent.now.notes)) c.them-s.ensures.read) c.spot-s.ensures.read)) (failed _ c.if-isnt-2.ensures) (ap (with_mode 0) (c.rewind-s.ensures c.spot-s.new.lent.notes))).here).wf)

pub whom-unless-s-requires : goal.whom-unless-s-requires
unfolding grammar kind names_of
whom-unless-s-requires t c = asks_e (past_then c.args.x.now.entrypoint c.args.d true (node G.BOOLEAN_EXPR_TUPLE) ((else (tries c.args.x.now.entrypoint c.args.d c.args.may which (from c.args.x.now c.args.s c.args.lent.now c.requires) (fine _ c.if-isnt.ensures) (c.mark-m.ensures c.args.lent.now.notes)) (λ g h. (plus (plus (plus_t h (c.trivia-s.ensures.0 c.args.x.now.src.now c.args.lent.now.notes)) c.them-s.ensures.read) c.spot-s.ensures.read)) (failed _ c.if-isnt-2.ensures) (ap (with_mode 0) (c.rewind-s.ensures c.spot-s.new.lent.notes))).good) c.bools-s.ensures.read) c.args.x.now.tiled.lines

pub whom-returns-then-isnt-3-clause-read : goal.whom-returns-then-isnt-3-clause-read
unfolding grammar kind names_of
whom-returns-then-isnt-3-clause-read t c = at_last (else (tries c.args.x.now.entrypoint c.args.d c.args.may which (from c.args.x.now c.args.s c.args.lent.now c.requires) (fine _ c.if-isnt.ensures) (c.mark-m.ensures c.args.lent.now.notes)) (λ g h. (plus (plus (plus_t h (c.trivia-s.ensures.0 c.args.x.now.src.now c.args.lent.now.notes)) c.them-s.ensures.read) c.spot-s.ensures.read)) (failed _ c.if-isnt-2.ensures) (ap (with_mode 0) (c.rewind-s.ensures c.spot-s.new.lent.notes))) (λ g h. (plus_e (past_then c.args.x.now.entrypoint c.args.d true (node G.BOOLEAN_EXPR_TUPLE) g c.bools-s.ensures.read) c.unless-s.ensures.step)) (lost_on _ _ (not_failed _ c.if-isnt-3.ensures))

pub whom-returns-clause-read : goal.whom-returns-clause-read
unfolding grammar kind names_of
whom-returns-clause-read t c = at_last (else (tries c.args.x.now.entrypoint c.args.d c.args.may which (from c.args.x.now c.args.s c.args.lent.now c.requires) (fine _ c.if-isnt.ensures) (c.mark-m.ensures c.args.lent.now.notes)) (λ g h. (plus (plus (plus_t h (c.trivia-s.ensures.0 c.args.x.now.src.now c.args.lent.now.notes)) c.them-s.ensures.read) c.spot-s.ensures.read)) (failed _ c.if-isnt-2.ensures) (ap (with_mode 0) (c.rewind-s.ensures c.spot-s.new.lent.notes))) (λ g h. (plus_e (past_then c.args.x.now.entrypoint c.args.d true (node G.BOOLEAN_EXPR_TUPLE) g c.bools-s.ensures.read) c.unless-s.ensures.step)) ((c.rewind-s-2.ensures c.unless-s.new.lent.notes) ∙ lost_back _ _ (failed _ c.if-isnt-3.ensures))

pub with_expr-returns-then-isnt-clause-read : goal.with_expr-returns-then-isnt-clause-read
unfolding grammar kind names_of
with_expr-returns-then-isnt-clause-read t c = stops (from c.args.x.now c.args.s c.args.lent.now c.requires) c.args.x.now.entrypoint c.args.d c.args.may (then (node G.WITH_EXPR)) tt (not_fine _ c.if-isnt.ensures)

pub with_expr-trivia-s-requires : goal.with_expr-trivia-s-requires
with_expr-trivia-s-requires t c = (c.args.x.now.tiled.lines, ((from c.args.x.now c.args.s c.args.lent.now c.requires).wf.0.2.events, (from c.args.x.now c.args.s c.args.lent.now c.requires).wf.1.events))

pub with_expr-begin-s-requires : goal.with_expr-begin-s-requires
with_expr-begin-s-requires t c = (c.args.x.now.tiled.lines, ((plus_t (from c.args.x.now c.args.s c.args.lent.now c.requires) (c.trivia-s.ensures.0 c.args.x.now.src.now c.args.lent.now.notes)).wf.0.2.events, (plus_t (from c.args.x.now c.args.s c.args.lent.now c.requires) (c.trivia-s.ensures.0 c.args.x.now.src.now c.args.lent.now.notes)).wf.1.events), (plus_t (from c.args.x.now c.args.s c.args.lent.now c.requires) (c.trivia-s.ensures.0 c.args.x.now.src.now c.args.lent.now.notes)).wf.0.0.here)

pub with_expr-end-requires : goal.with_expr-end-requires
with_expr-end-requires t c = closes G.WITH_EXPR c.args.may c.args.x.now.entrypoint c.args.d (plus_t (from c.args.x.now c.args.s c.args.lent.now c.requires) (c.trivia-s.ensures.0 c.args.x.now.src.now c.args.lent.now.notes)) (c.begin-s.ensures c.args.x.now.src.now c.args.lent.now.notes) (begins G.WITH_EXPR c.args.may c.args.x.now.entrypoint c.args.d (plus_t (from c.args.x.now c.args.s c.args.lent.now c.requires) (c.trivia-s.ensures.0 c.args.x.now.src.now c.args.lent.now.notes)) (c.begin-s.ensures c.args.x.now.src.now c.args.lent.now.notes))

pub with_expr-returns-then-d-eq0-clause-read : goal.with_expr-returns-then-d-eq0-clause-read
unfolding grammar kind names_of
with_expr-returns-then-d-eq0-clause-read t c = then_past c.args.x.now.entrypoint c.args.d c.args.may (node G.WITH_EXPR) (fine _ c.if-isnt.ensures) (makes_none G.WITH_EXPR c.args.may c.args.x.now.entrypoint c.args.d (plus_t (from c.args.x.now c.args.s c.args.lent.now c.requires) (c.trivia-s.ensures.0 c.args.x.now.src.now c.args.lent.now.notes)) (c.begin-s.ensures c.args.x.now.src.now c.args.lent.now.notes) c.if-d-eq0.true (ended c.end.ensures.step))

pub with_expr-expect-s-requires : goal.with_expr-expect-s-requires
with_expr-expect-s-requires t c = (asks_e (begins G.WITH_EXPR c.args.may c.args.x.now.entrypoint c.args.d (plus_t (from c.args.x.now c.args.s c.args.lent.now c.requires) (c.trivia-s.ensures.0 c.args.x.now.src.now c.args.lent.now.notes)) (c.begin-s.ensures c.args.x.now.src.now c.args.lent.now.notes)) c.args.x.now.tiled.lines, omega arith)

pub with_expr-end-requires-then-isnt-2 : goal.with_expr-end-requires-then-isnt-2
with_expr-end-requires-then-isnt-2 t c = closes G.WITH_EXPR c.args.may c.args.x.now.entrypoint c.args.d (plus_t (from c.args.x.now c.args.s c.args.lent.now c.requires) (c.trivia-s.ensures.0 c.args.x.now.src.now c.args.lent.now.notes)) (c.begin-s.ensures c.args.x.now.src.now c.args.lent.now.notes) (plus_e (begins G.WITH_EXPR c.args.may c.args.x.now.entrypoint c.args.d (plus_t (from c.args.x.now c.args.s c.args.lent.now c.requires) (c.trivia-s.ensures.0 c.args.x.now.src.now c.args.lent.now.notes)) (c.begin-s.ensures c.args.x.now.src.now c.args.lent.now.notes)) c.expect-s.ensures.step)

pub with_expr-returns-then-isnt-2-clause-read : goal.with_expr-returns-then-isnt-2-clause-read
unfolding grammar kind names_of
with_expr-returns-then-isnt-2-clause-read t c = then_past c.args.x.now.entrypoint c.args.d c.args.may (node G.WITH_EXPR) (fine _ c.if-isnt.ensures) (makes G.WITH_EXPR c.args.may c.args.x.now.entrypoint c.args.d (plus_t (from c.args.x.now c.args.s c.args.lent.now c.requires) (c.trivia-s.ensures.0 c.args.x.now.src.now c.args.lent.now.notes)) (c.begin-s.ensures c.args.x.now.src.now c.args.lent.now.notes) c.if-d-eq0.false (stops (plus_e (begins G.WITH_EXPR c.args.may c.args.x.now.entrypoint c.args.d (plus_t (from c.args.x.now c.args.s c.args.lent.now c.requires) (c.trivia-s.ensures.0 c.args.x.now.src.now c.args.lent.now.notes)) (c.begin-s.ensures c.args.x.now.src.now c.args.lent.now.notes)) c.expect-s.ensures.step) c.args.x.now.entrypoint (c.args.d - 1) c.args.may (then (node G.WITH_DECLS ⨟ recover (k.COLON ∷ k.L_PAREN ∷ [])) ⨟ body) tt (not_fine _ c.if-isnt-2.ensures)) (ended c.end-then-isnt-2.ensures.step))

pub with_expr-decls-s-requires : goal.with_expr-decls-s-requires
with_expr-decls-s-requires t c = (omega (arith, c.if-d-eq0.false), (here (plus_e (begins G.WITH_EXPR c.args.may c.args.x.now.entrypoint c.args.d (plus_t (from c.args.x.now c.args.s c.args.lent.now c.requires) (c.trivia-s.ensures.0 c.args.x.now.src.now c.args.lent.now.notes)) (c.begin-s.ensures c.args.x.now.src.now c.args.lent.now.notes)) c.expect-s.ensures.step)).wf)

pub with_expr-recover-s-requires : goal.with_expr-recover-s-requires
with_expr-recover-s-requires t c = (asks_s (plus (here (plus_e (begins G.WITH_EXPR c.args.may c.args.x.now.entrypoint c.args.d (plus_t (from c.args.x.now c.args.s c.args.lent.now c.requires) (c.trivia-s.ensures.0 c.args.x.now.src.now c.args.lent.now.notes)) (c.begin-s.ensures c.args.x.now.src.now c.args.lent.now.notes)) c.expect-s.ensures.step)) c.decls-s.ensures.read), omega arith)

pub with_expr-body-s-requires : goal.with_expr-body-s-requires
with_expr-body-s-requires t c = (omega (arith, c.if-d-eq0.false), (plus (plus_e (begins G.WITH_EXPR c.args.may c.args.x.now.entrypoint c.args.d (plus_t (from c.args.x.now c.args.s c.args.lent.now c.requires) (c.trivia-s.ensures.0 c.args.x.now.src.now c.args.lent.now.notes)) (c.begin-s.ensures c.args.x.now.src.now c.args.lent.now.notes)) c.expect-s.ensures.step) (regroups c.args.x.now.entrypoint (c.args.d - 1) c.args.may (node G.WITH_DECLS) (recover (k.COLON ∷ k.L_PAREN ∷ [])) (fine _ c.if-isnt-2.ensures) (plus_b (plus (here (plus_e (begins G.WITH_EXPR c.args.may c.args.x.now.entrypoint c.args.d (plus_t (from c.args.x.now c.args.s c.args.lent.now c.requires) (c.trivia-s.ensures.0 c.args.x.now.src.now c.args.lent.now.notes)) (c.begin-s.ensures c.args.x.now.src.now c.args.lent.now.notes)) c.expect-s.ensures.step)) c.decls-s.ensures.read) c.recover-s.ensures.step))).wf)

pub with_expr-end-requires-2 : goal.with_expr-end-requires-2
with_expr-end-requires-2 t c = closes G.WITH_EXPR c.args.may c.args.x.now.entrypoint c.args.d (plus_t (from c.args.x.now c.args.s c.args.lent.now c.requires) (c.trivia-s.ensures.0 c.args.x.now.src.now c.args.lent.now.notes)) (c.begin-s.ensures c.args.x.now.src.now c.args.lent.now.notes) (plus (plus (plus_e (begins G.WITH_EXPR c.args.may c.args.x.now.entrypoint c.args.d (plus_t (from c.args.x.now c.args.s c.args.lent.now c.requires) (c.trivia-s.ensures.0 c.args.x.now.src.now c.args.lent.now.notes)) (c.begin-s.ensures c.args.x.now.src.now c.args.lent.now.notes)) c.expect-s.ensures.step) (regroups c.args.x.now.entrypoint (c.args.d - 1) c.args.may (node G.WITH_DECLS) (recover (k.COLON ∷ k.L_PAREN ∷ [])) (fine _ c.if-isnt-2.ensures) (plus_b (plus (here (plus_e (begins G.WITH_EXPR c.args.may c.args.x.now.entrypoint c.args.d (plus_t (from c.args.x.now c.args.s c.args.lent.now c.requires) (c.trivia-s.ensures.0 c.args.x.now.src.now c.args.lent.now.notes)) (c.begin-s.ensures c.args.x.now.src.now c.args.lent.now.notes)) c.expect-s.ensures.step)) c.decls-s.ensures.read) c.recover-s.ensures.step))) c.body-s.ensures.read)

pub with_expr-returns-clause-read : goal.with_expr-returns-clause-read
unfolding grammar kind names_of
with_expr-returns-clause-read t c = then_past c.args.x.now.entrypoint c.args.d c.args.may (node G.WITH_EXPR) (fine _ c.if-isnt.ensures) (makes G.WITH_EXPR c.args.may c.args.x.now.entrypoint c.args.d (plus_t (from c.args.x.now c.args.s c.args.lent.now c.requires) (c.trivia-s.ensures.0 c.args.x.now.src.now c.args.lent.now.notes)) (c.begin-s.ensures c.args.x.now.src.now c.args.lent.now.notes) c.if-d-eq0.false (plus (plus (plus_e (begins G.WITH_EXPR c.args.may c.args.x.now.entrypoint c.args.d (plus_t (from c.args.x.now c.args.s c.args.lent.now c.requires) (c.trivia-s.ensures.0 c.args.x.now.src.now c.args.lent.now.notes)) (c.begin-s.ensures c.args.x.now.src.now c.args.lent.now.notes)) c.expect-s.ensures.step) (regroups c.args.x.now.entrypoint (c.args.d - 1) c.args.may (node G.WITH_DECLS) (recover (k.COLON ∷ k.L_PAREN ∷ [])) (fine _ c.if-isnt-2.ensures) (plus_b (plus (here (plus_e (begins G.WITH_EXPR c.args.may c.args.x.now.entrypoint c.args.d (plus_t (from c.args.x.now c.args.s c.args.lent.now c.requires) (c.trivia-s.ensures.0 c.args.x.now.src.now c.args.lent.now.notes)) (c.begin-s.ensures c.args.x.now.src.now c.args.lent.now.notes)) c.expect-s.ensures.step)) c.decls-s.ensures.read) c.recover-s.ensures.step))) c.body-s.ensures.read) (ended c.end-2.ensures.step))
