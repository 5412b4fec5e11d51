-- Hex patterns that hold one another, each by its shape; what falls is the depth.
use native.Mathlib.Omega.{arith}
use mathlib.Core.Path.{refl, ap, ◌∙◌}
use mathlib.Core.Bool.{true}
use Rattle.kinds.specs.Kinds as k
use Rattle.definition.specs.Prog.{then, ◌⨟◌, node}
use Rattle.definition.specs.Prog as G
use Rattle.definition.specs.Grammar.{grammar, kind, one, hex_unit}
use Rattle.notes.specs.Change.{with_mode}
use Rattle.notes.specs.Means.{names_of}
use Rattle.notes.proofs.Sticky.{sticky_exec}
use Rattle.parts.specs.Reads.{reads}
use Rattle.patterns.specs.Parts.{hex_units, hex_choices, hex_jumps}
use Rattle.parts.proofs.Exec.{begins, closes, makes, makes_none}
use Rattle.parts.proofs.Lines.{from, plus, plus_e, plus_t, asks_e, then_past, stops, tries, goes, else, at_last, lost_on, lost_back, turns, turns_more, turns_undone, turns_over, ended, chain}
use Rattle.steps.proofs.Modes.{failed, fine, not_failed, not_fine}
use Rattle.patterns.proofs.hex.+hexes.Goals as goal

pub hex_alternative-end-requires : goal.hex_alternative-end-requires
hex_alternative-end-requires t c = closes G.HEX_ALTERNATIVE c.args.may c.args.x.now.entrypoint c.args.d (from c.args.x.now c.args.s c.args.lent.now c.requires) (c.begin-s.ensures c.args.x.now.src.now c.args.lent.now.notes) (begins G.HEX_ALTERNATIVE c.args.may c.args.x.now.entrypoint c.args.d (from c.args.x.now c.args.s c.args.lent.now c.requires) (c.begin-s.ensures c.args.x.now.src.now c.args.lent.now.notes))

pub hex_alternative-returns-then-d-eq0-clause-read : goal.hex_alternative-returns-then-d-eq0-clause-read
unfolding grammar kind names_of
hex_alternative-returns-then-d-eq0-clause-read t c = makes_none G.HEX_ALTERNATIVE c.args.may c.args.x.now.entrypoint c.args.d (from c.args.x.now c.args.s c.args.lent.now c.requires) (c.begin-s.ensures c.args.x.now.src.now c.args.lent.now.notes) c.if-d-eq0.true (ended c.end.ensures.step)

pub hex_alternative-expect-s-requires : goal.hex_alternative-expect-s-requires
hex_alternative-expect-s-requires t c = (asks_e (begins G.HEX_ALTERNATIVE c.args.may c.args.x.now.entrypoint c.args.d (from c.args.x.now c.args.s c.args.lent.now c.requires) (c.begin-s.ensures c.args.x.now.src.now c.args.lent.now.notes)) c.args.x.now.tiled.lines, omega arith)

pub hex_alternative-hex_sub_pattern-s-requires : goal.hex_alternative-hex_sub_pattern-s-requires
hex_alternative-hex_sub_pattern-s-requires t c = (omega (arith, c.if-d-eq0.false), (plus_e (begins G.HEX_ALTERNATIVE c.args.may c.args.x.now.entrypoint c.args.d (from c.args.x.now c.args.s c.args.lent.now c.requires) (c.begin-s.ensures c.args.x.now.src.now c.args.lent.now.notes)) c.expect-s.ensures.step).wf)

pub hex_alternative-hex_choices-s-requires : goal.hex_alternative-hex_choices-s-requires
hex_alternative-hex_choices-s-requires t c = (omega (arith, c.if-d-eq0.false), (plus (plus_e (begins G.HEX_ALTERNATIVE c.args.may c.args.x.now.entrypoint c.args.d (from c.args.x.now c.args.s c.args.lent.now c.requires) (c.begin-s.ensures c.args.x.now.src.now c.args.lent.now.notes)) c.expect-s.ensures.step) c.hex_sub_pattern-s.ensures.read).wf)

pub hex_alternative-expect-s-requires-2 : goal.hex_alternative-expect-s-requires-2
hex_alternative-expect-s-requires-2 t c = (asks_e (plus (plus (plus_e (begins G.HEX_ALTERNATIVE c.args.may c.args.x.now.entrypoint c.args.d (from c.args.x.now c.args.s c.args.lent.now c.requires) (c.begin-s.ensures c.args.x.now.src.now c.args.lent.now.notes)) c.expect-s.ensures.step) c.hex_sub_pattern-s.ensures.read) c.hex_choices-s.ensures.read) c.args.x.now.tiled.lines, omega arith)

pub hex_alternative-end-requires-2 : goal.hex_alternative-end-requires-2
hex_alternative-end-requires-2 t c = closes G.HEX_ALTERNATIVE c.args.may c.args.x.now.entrypoint c.args.d (from c.args.x.now c.args.s c.args.lent.now c.requires) (c.begin-s.ensures c.args.x.now.src.now c.args.lent.now.notes) (plus_e (plus (plus (plus_e (begins G.HEX_ALTERNATIVE c.args.may c.args.x.now.entrypoint c.args.d (from c.args.x.now c.args.s c.args.lent.now c.requires) (c.begin-s.ensures c.args.x.now.src.now c.args.lent.now.notes)) c.expect-s.ensures.step) c.hex_sub_pattern-s.ensures.read) c.hex_choices-s.ensures.read) c.expect-s-2.ensures.step)

pub hex_alternative-returns-clause-read : goal.hex_alternative-returns-clause-read
unfolding grammar kind names_of
hex_alternative-returns-clause-read t c = makes G.HEX_ALTERNATIVE c.args.may c.args.x.now.entrypoint c.args.d (from c.args.x.now c.args.s c.args.lent.now c.requires) (c.begin-s.ensures c.args.x.now.src.now c.args.lent.now.notes) c.if-d-eq0.false (plus_e (plus (plus (plus_e (begins G.HEX_ALTERNATIVE c.args.may c.args.x.now.entrypoint c.args.d (from c.args.x.now c.args.s c.args.lent.now c.requires) (c.begin-s.ensures c.args.x.now.src.now c.args.lent.now.notes)) c.expect-s.ensures.step) c.hex_sub_pattern-s.ensures.read) c.hex_choices-s.ensures.read) c.expect-s-2.ensures.step) (ended c.end-2.ensures.step)

pub hex_choices-returns-then-isnt-clause-read : goal.hex_choices-returns-then-isnt-clause-read
unfolding grammar kind names_of
hex_choices-returns-then-isnt-clause-read t c = stops (from c.args.x.now c.args.s c.args.lent.now c.requires) c.args.x.now.entrypoint c.args.d c.args.may hex_choices tt (not_fine _ c.if-isnt.ensures)

pub hex_choices-loop-turn-init : goal.hex_choices-loop-turn-init
hex_choices-loop-turn-init t c = turns (reads c.args.x.now.entrypoint c.args.d true (one k.PIPE ⨟ then (node G.HEX_SUB_PATTERN))) _ _ _ _ (λ p. sticky_exec p _ c.args.x.now.entrypoint c.args.d (one k.PIPE ⨟ then (node G.HEX_SUB_PATTERN)) true) c.requires (fine _ c.if-isnt.ensures) refl

pub hex_choices-expect-s-requires : goal.hex_choices-expect-s-requires
hex_choices-expect-s-requires t c = (asks_e (plus_t c.loop-turn.invariant.here (c.trivia-s.ensures.0 c.args.x.now.src.now c.loop-turn.lent.notes)) c.args.x.now.tiled.lines, omega arith)

pub hex_choices-hex_sub_pattern-s-requires : goal.hex_choices-hex_sub_pattern-s-requires
hex_choices-hex_sub_pattern-s-requires t c = (omega arith, (plus_e (plus_t c.loop-turn.invariant.here (c.trivia-s.ensures.0 c.args.x.now.src.now c.loop-turn.lent.notes)) c.expect-s.ensures.step).wf)

pub hex_choices-returns-then-isnt-2-clause-read : goal.hex_choices-returns-then-isnt-2-clause-read
unfolding grammar kind names_of
hex_choices-returns-then-isnt-2-clause-read t c = turns_undone c.loop-turn.invariant c.loop-turn-test.true (plus (plus_e (plus_t c.loop-turn.invariant.here (c.trivia-s.ensures.0 c.args.x.now.src.now c.loop-turn.lent.notes)) c.expect-s.ensures.step) c.hex_sub_pattern-s.ensures.read) (not_fine _ c.if-isnt-2.ensures) (c.mark-m.ensures c.loop-turn.lent.notes) (c.undone.ensures c.hex_sub_pattern-s.new.lent.notes)

pub hex_choices-loop-turn-preserved : goal.hex_choices-loop-turn-preserved
unfolding grammar kind names_of
hex_choices-loop-turn-preserved t c = turns_more c.loop-turn.invariant c.loop-turn-test.true (plus (plus_e (plus_t c.loop-turn.invariant.here (c.trivia-s.ensures.0 c.args.x.now.src.now c.loop-turn.lent.notes)) c.expect-s.ensures.step) c.hex_sub_pattern-s.ensures.read) (fine _ c.if-isnt-2.ensures) (chain c.expect-s.ensures.lists c.hex_sub_pattern-s.ensures.lists)

pub hex_choices-returns-clause-read : goal.hex_choices-returns-clause-read
unfolding grammar kind names_of
hex_choices-returns-clause-read t c = turns_over c.loop-turn.invariant c.loop-turn-test.false

pub hex_sub_pattern-returns-then-isnt-clause-read : goal.hex_sub_pattern-returns-then-isnt-clause-read
unfolding grammar kind names_of
hex_sub_pattern-returns-then-isnt-clause-read t c = stops (from c.args.x.now c.args.s c.args.lent.now c.requires) c.args.x.now.entrypoint c.args.d c.args.may (then (node G.HEX_SUB_PATTERN)) tt (not_fine _ c.if-isnt.ensures)

pub hex_sub_pattern-end-requires : goal.hex_sub_pattern-end-requires
hex_sub_pattern-end-requires t c = closes G.HEX_SUB_PATTERN c.args.may c.args.x.now.entrypoint c.args.d (plus_t (from c.args.x.now c.args.s c.args.lent.now c.requires) (c.trivia-s.ensures.0 c.args.x.now.src.now c.args.lent.now.notes)) (c.begin-s.ensures c.args.x.now.src.now c.args.lent.now.notes) (begins G.HEX_SUB_PATTERN c.args.may c.args.x.now.entrypoint c.args.d (plus_t (from c.args.x.now c.args.s c.args.lent.now c.requires) (c.trivia-s.ensures.0 c.args.x.now.src.now c.args.lent.now.notes)) (c.begin-s.ensures c.args.x.now.src.now c.args.lent.now.notes))

pub hex_sub_pattern-returns-then-d-eq0-clause-read : goal.hex_sub_pattern-returns-then-d-eq0-clause-read
unfolding grammar kind names_of
hex_sub_pattern-returns-then-d-eq0-clause-read t c = then_past c.args.x.now.entrypoint c.args.d c.args.may (node G.HEX_SUB_PATTERN) (fine _ c.if-isnt.ensures) (makes_none G.HEX_SUB_PATTERN c.args.may c.args.x.now.entrypoint c.args.d (plus_t (from c.args.x.now c.args.s c.args.lent.now c.requires) (c.trivia-s.ensures.0 c.args.x.now.src.now c.args.lent.now.notes)) (c.begin-s.ensures c.args.x.now.src.now c.args.lent.now.notes) c.if-d-eq0.true (ended c.end.ensures.step))

pub hex_sub_pattern-hex_unit-s-requires : goal.hex_sub_pattern-hex_unit-s-requires
hex_sub_pattern-hex_unit-s-requires t c = (omega (arith, c.if-d-eq0.false), (begins G.HEX_SUB_PATTERN c.args.may c.args.x.now.entrypoint c.args.d (plus_t (from c.args.x.now c.args.s c.args.lent.now c.requires) (c.trivia-s.ensures.0 c.args.x.now.src.now c.args.lent.now.notes)) (c.begin-s.ensures c.args.x.now.src.now c.args.lent.now.notes)).wf)

pub hex_sub_pattern-hex_units-s-requires : goal.hex_sub_pattern-hex_units-s-requires
hex_sub_pattern-hex_units-s-requires t c = (omega (arith, c.if-d-eq0.false), (plus (begins G.HEX_SUB_PATTERN c.args.may c.args.x.now.entrypoint c.args.d (plus_t (from c.args.x.now c.args.s c.args.lent.now c.requires) (c.trivia-s.ensures.0 c.args.x.now.src.now c.args.lent.now.notes)) (c.begin-s.ensures c.args.x.now.src.now c.args.lent.now.notes)) c.hex_unit-s.ensures.read).wf)

pub hex_sub_pattern-end-requires-2 : goal.hex_sub_pattern-end-requires-2
hex_sub_pattern-end-requires-2 t c = closes G.HEX_SUB_PATTERN c.args.may c.args.x.now.entrypoint c.args.d (plus_t (from c.args.x.now c.args.s c.args.lent.now c.requires) (c.trivia-s.ensures.0 c.args.x.now.src.now c.args.lent.now.notes)) (c.begin-s.ensures c.args.x.now.src.now c.args.lent.now.notes) (plus (plus (begins G.HEX_SUB_PATTERN c.args.may c.args.x.now.entrypoint c.args.d (plus_t (from c.args.x.now c.args.s c.args.lent.now c.requires) (c.trivia-s.ensures.0 c.args.x.now.src.now c.args.lent.now.notes)) (c.begin-s.ensures c.args.x.now.src.now c.args.lent.now.notes)) c.hex_unit-s.ensures.read) c.hex_units-s.ensures.read)

pub hex_sub_pattern-returns-clause-read : goal.hex_sub_pattern-returns-clause-read
unfolding grammar kind names_of
hex_sub_pattern-returns-clause-read t c = then_past c.args.x.now.entrypoint c.args.d c.args.may (node G.HEX_SUB_PATTERN) (fine _ c.if-isnt.ensures) (makes G.HEX_SUB_PATTERN c.args.may c.args.x.now.entrypoint c.args.d (plus_t (from c.args.x.now c.args.s c.args.lent.now c.requires) (c.trivia-s.ensures.0 c.args.x.now.src.now c.args.lent.now.notes)) (c.begin-s.ensures c.args.x.now.src.now c.args.lent.now.notes) c.if-d-eq0.false (plus (plus (begins G.HEX_SUB_PATTERN c.args.may c.args.x.now.entrypoint c.args.d (plus_t (from c.args.x.now c.args.s c.args.lent.now c.requires) (c.trivia-s.ensures.0 c.args.x.now.src.now c.args.lent.now.notes)) (c.begin-s.ensures c.args.x.now.src.now c.args.lent.now.notes)) c.hex_unit-s.ensures.read) c.hex_units-s.ensures.read) (ended c.end-2.ensures.step))

pub hex_unit-returns-then-isnt-clause-read : goal.hex_unit-returns-then-isnt-clause-read
unfolding grammar kind names_of
hex_unit-returns-then-isnt-clause-read t c = stops (from c.args.x.now c.args.s c.args.lent.now c.requires) c.args.x.now.entrypoint c.args.d c.args.may hex_unit tt (not_fine _ c.if-isnt.ensures)

pub hex_unit-expect-s-requires : goal.hex_unit-expect-s-requires
hex_unit-expect-s-requires t c = (asks_e (plus_t (tries c.args.x.now.entrypoint c.args.d c.args.may hex_unit (from c.args.x.now c.args.s c.args.lent.now c.requires) (fine _ c.if-isnt.ensures) (c.mark-m.ensures c.args.lent.now.notes)).here (c.trivia-s.ensures.0 c.args.x.now.src.now c.args.lent.now.notes)) c.args.x.now.tiled.lines, omega arith)

pub hex_unit-returns-then-isnt-2-clause-read : goal.hex_unit-returns-then-isnt-2-clause-read
unfolding grammar kind names_of
hex_unit-returns-then-isnt-2-clause-read t c = goes (tries c.args.x.now.entrypoint c.args.d c.args.may hex_unit (from c.args.x.now c.args.s c.args.lent.now c.requires) (fine _ c.if-isnt.ensures) (c.mark-m.ensures c.args.lent.now.notes)) (λ g h. (plus_e (plus_t h (c.trivia-s.ensures.0 c.args.x.now.src.now c.args.lent.now.notes)) c.expect-s.ensures.step)) (not_failed _ c.if-isnt-2.ensures)

pub hex_unit-trivia-s-requires-2 : goal.hex_unit-trivia-s-requires-2
unfolding grammar kind names_of
hex_unit-trivia-s-requires-2 t c = (c.args.x.now.tiled.lines, ((else (tries c.args.x.now.entrypoint c.args.d c.args.may hex_unit (from c.args.x.now c.args.s c.args.lent.now c.requires) (fine _ c.if-isnt.ensures) (c.mark-m.ensures c.args.lent.now.notes)) (λ g h. (plus_e (plus_t h (c.trivia-s.ensures.0 c.args.x.now.src.now c.args.lent.now.notes)) c.expect-s.ensures.step)) (failed _ c.if-isnt-2.ensures) (ap (with_mode 0) (c.rewind-s.ensures c.expect-s.new.lent.notes))).here.wf.0.2.events, (else (tries c.args.x.now.entrypoint c.args.d c.args.may hex_unit (from c.args.x.now c.args.s c.args.lent.now c.requires) (fine _ c.if-isnt.ensures) (c.mark-m.ensures c.args.lent.now.notes)) (λ g h. (plus_e (plus_t h (c.trivia-s.ensures.0 c.args.x.now.src.now c.args.lent.now.notes)) c.expect-s.ensures.step)) (failed _ c.if-isnt-2.ensures) (ap (with_mode 0) (c.rewind-s.ensures c.expect-s.new.lent.notes))).here.wf.1.events))

pub hex_unit-hex_alternative-s-requires : goal.hex_unit-hex_alternative-s-requires
unfolding grammar kind names_of
hex_unit-hex_alternative-s-requires t c = (omega arith, (plus_t (else (tries c.args.x.now.entrypoint c.args.d c.args.may hex_unit (from c.args.x.now c.args.s c.args.lent.now c.requires) (fine _ c.if-isnt.ensures) (c.mark-m.ensures c.args.lent.now.notes)) (λ g h. (plus_e (plus_t h (c.trivia-s.ensures.0 c.args.x.now.src.now c.args.lent.now.notes)) c.expect-s.ensures.step)) (failed _ c.if-isnt-2.ensures) (ap (with_mode 0) (c.rewind-s.ensures c.expect-s.new.lent.notes))).here (c.trivia-s-2.ensures.0 c.args.x.now.src.now c.expect-s.new.lent.notes)).wf)

pub hex_unit-returns-then-isnt-3-clause-read : goal.hex_unit-returns-then-isnt-3-clause-read
unfolding grammar kind names_of
hex_unit-returns-then-isnt-3-clause-read t c = at_last (else (tries c.args.x.now.entrypoint c.args.d c.args.may hex_unit (from c.args.x.now c.args.s c.args.lent.now c.requires) (fine _ c.if-isnt.ensures) (c.mark-m.ensures c.args.lent.now.notes)) (λ g h. (plus_e (plus_t h (c.trivia-s.ensures.0 c.args.x.now.src.now c.args.lent.now.notes)) c.expect-s.ensures.step)) (failed _ c.if-isnt-2.ensures) (ap (with_mode 0) (c.rewind-s.ensures c.expect-s.new.lent.notes))) (λ g h. (plus (plus_t h (c.trivia-s-2.ensures.0 c.args.x.now.src.now c.expect-s.new.lent.notes)) c.hex_alternative-s.ensures.read)) (lost_on _ _ (not_failed _ c.if-isnt-3.ensures))

pub hex_unit-returns-clause-read : goal.hex_unit-returns-clause-read
unfolding grammar kind names_of
hex_unit-returns-clause-read t c = at_last (else (tries c.args.x.now.entrypoint c.args.d c.args.may hex_unit (from c.args.x.now c.args.s c.args.lent.now c.requires) (fine _ c.if-isnt.ensures) (c.mark-m.ensures c.args.lent.now.notes)) (λ g h. (plus_e (plus_t h (c.trivia-s.ensures.0 c.args.x.now.src.now c.args.lent.now.notes)) c.expect-s.ensures.step)) (failed _ c.if-isnt-2.ensures) (ap (with_mode 0) (c.rewind-s.ensures c.expect-s.new.lent.notes))) (λ g h. (plus (plus_t h (c.trivia-s-2.ensures.0 c.args.x.now.src.now c.expect-s.new.lent.notes)) c.hex_alternative-s.ensures.read)) ((c.rewind-s-2.ensures c.hex_alternative-s.new.lent.notes) ∙ lost_back _ _ (failed _ c.if-isnt-3.ensures))

pub hex_units-returns-then-isnt-clause-read : goal.hex_units-returns-then-isnt-clause-read
unfolding grammar kind names_of
hex_units-returns-then-isnt-clause-read t c = stops (from c.args.x.now c.args.s c.args.lent.now c.requires) c.args.x.now.entrypoint c.args.d c.args.may hex_units tt (not_fine _ c.if-isnt.ensures)

pub hex_units-loop-turn-init : goal.hex_units-loop-turn-init
hex_units-loop-turn-init t c = turns (reads c.args.x.now.entrypoint c.args.d true (hex_jumps ⨟ hex_unit)) _ _ _ _ (λ p. sticky_exec p _ c.args.x.now.entrypoint c.args.d (hex_jumps ⨟ hex_unit) true) c.requires (fine _ c.if-isnt.ensures) refl

pub hex_units-hex_jumps-s-requires : goal.hex_units-hex_jumps-s-requires
hex_units-hex_jumps-s-requires t c = (plus_t c.loop-turn.invariant.here (c.trivia-s.ensures.0 c.args.x.now.src.now c.loop-turn.lent.notes)).wf

pub hex_units-hex_unit-s-requires : goal.hex_units-hex_unit-s-requires
hex_units-hex_unit-s-requires t c = (omega arith, (plus (plus_t c.loop-turn.invariant.here (c.trivia-s.ensures.0 c.args.x.now.src.now c.loop-turn.lent.notes)) c.hex_jumps-s.ensures.read).wf)

pub hex_units-returns-then-isnt-2-clause-read : goal.hex_units-returns-then-isnt-2-clause-read
unfolding grammar kind names_of
hex_units-returns-then-isnt-2-clause-read t c = turns_undone c.loop-turn.invariant c.loop-turn-test.true (plus (plus (plus_t c.loop-turn.invariant.here (c.trivia-s.ensures.0 c.args.x.now.src.now c.loop-turn.lent.notes)) c.hex_jumps-s.ensures.read) c.hex_unit-s.ensures.read) (not_fine _ c.if-isnt-2.ensures) (c.mark-m.ensures c.loop-turn.lent.notes) (c.undone.ensures c.hex_unit-s.new.lent.notes)

pub hex_units-loop-turn-preserved : goal.hex_units-loop-turn-preserved
unfolding grammar kind names_of
hex_units-loop-turn-preserved t c = turns_more c.loop-turn.invariant c.loop-turn-test.true (plus (plus (plus_t c.loop-turn.invariant.here (c.trivia-s.ensures.0 c.args.x.now.src.now c.loop-turn.lent.notes)) c.hex_jumps-s.ensures.read) c.hex_unit-s.ensures.read) (fine _ c.if-isnt-2.ensures) (chain c.hex_jumps-s.ensures.lists c.hex_unit-s.ensures.lists)

pub hex_units-returns-clause-read : goal.hex_units-returns-clause-read
unfolding grammar kind names_of
hex_units-returns-clause-read t c = turns_over c.loop-turn.invariant c.loop-turn-test.false
