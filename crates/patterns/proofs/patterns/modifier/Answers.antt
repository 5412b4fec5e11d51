-- By its shape.
use native.Mathlib.Omega.{arith}
use mathlib.Core.Path.{ap, ◌∙◌}
use Rattle.definition.specs.Prog as G
use Rattle.definition.specs.Grammar.{grammar, kind}
use Rattle.notes.specs.Change.{with_mode}
use Rattle.notes.specs.Means.{names_of}
use Rattle.parts.proofs.Lines.{from, plus, plus_e, plus_t, asks_e, stops, tries, goes, else, at_last, lost_on, lost_back}
use Rattle.steps.proofs.Modes.{failed, fine, not_failed, not_fine}
use Rattle.patterns.proofs.patterns.modifier.Goals as goal

pub returns-then-isnt-clause-read : goal.returns-then-isnt-clause-read
unfolding grammar kind names_of
returns-then-isnt-clause-read c = stops (from c.args.x.now c.args.s c.args.lent.now c.requires) c.args.x.now.entrypoint c.args.d c.args.may (grammar c.args.x.now.entrypoint G.PATTERN_MOD) tt (not_fine _ c.if-isnt.ensures)

pub expect-s-requires : goal.expect-s-requires
expect-s-requires c = (asks_e (plus_t (tries c.args.x.now.entrypoint c.args.d c.args.may (grammar c.args.x.now.entrypoint G.PATTERN_MOD) (from c.args.x.now c.args.s c.args.lent.now c.requires) (fine _ c.if-isnt.ensures) (c.mark-m.ensures c.args.lent.now.notes)).here (c.trivia-s.ensures.0 c.args.x.now.src.now c.args.lent.now.notes)) c.args.x.now.tiled.lines, omega arith)

pub returns-then-isnt-2-clause-read : goal.returns-then-isnt-2-clause-read
unfolding grammar kind names_of
returns-then-isnt-2-clause-read c = goes (tries c.args.x.now.entrypoint c.args.d c.args.may (grammar c.args.x.now.entrypoint G.PATTERN_MOD) (from c.args.x.now c.args.s c.args.lent.now c.requires) (fine _ c.if-isnt.ensures) (c.mark-m.ensures c.args.lent.now.notes)) (λ g h. (plus_e (plus_t h (c.trivia-s.ensures.0 c.args.x.now.src.now c.args.lent.now.notes)) c.expect-s.ensures.step)) (not_failed _ c.if-isnt-2.ensures)

pub trivia-s-requires-2 : goal.trivia-s-requires-2
unfolding grammar kind names_of
trivia-s-requires-2 c = (c.args.x.now.tiled.lines, ((else (tries c.args.x.now.entrypoint c.args.d c.args.may (grammar c.args.x.now.entrypoint G.PATTERN_MOD) (from c.args.x.now c.args.s c.args.lent.now c.requires) (fine _ c.if-isnt.ensures) (c.mark-m.ensures c.args.lent.now.notes)) (λ g h. (plus_e (plus_t h (c.trivia-s.ensures.0 c.args.x.now.src.now c.args.lent.now.notes)) c.expect-s.ensures.step)) (failed _ c.if-isnt-2.ensures) (ap (with_mode 0) (c.rewind-s.ensures c.expect-s.new.lent.notes))).here.wf.0.2.events, (else (tries c.args.x.now.entrypoint c.args.d c.args.may (grammar c.args.x.now.entrypoint G.PATTERN_MOD) (from c.args.x.now c.args.s c.args.lent.now c.requires) (fine _ c.if-isnt.ensures) (c.mark-m.ensures c.args.lent.now.notes)) (λ g h. (plus_e (plus_t h (c.trivia-s.ensures.0 c.args.x.now.src.now c.args.lent.now.notes)) c.expect-s.ensures.step)) (failed _ c.if-isnt-2.ensures) (ap (with_mode 0) (c.rewind-s.ensures c.expect-s.new.lent.notes))).here.wf.1.events))

pub expect-s-requires-2 : goal.expect-s-requires-2
unfolding grammar kind names_of
expect-s-requires-2 c = (asks_e (plus_t (else (tries c.args.x.now.entrypoint c.args.d c.args.may (grammar c.args.x.now.entrypoint G.PATTERN_MOD) (from c.args.x.now c.args.s c.args.lent.now c.requires) (fine _ c.if-isnt.ensures) (c.mark-m.ensures c.args.lent.now.notes)) (λ g h. (plus_e (plus_t h (c.trivia-s.ensures.0 c.args.x.now.src.now c.args.lent.now.notes)) c.expect-s.ensures.step)) (failed _ c.if-isnt-2.ensures) (ap (with_mode 0) (c.rewind-s.ensures c.expect-s.new.lent.notes))).here (c.trivia-s-2.ensures.0 c.args.x.now.src.now c.expect-s.new.lent.notes)) c.args.x.now.tiled.lines, omega arith)

pub alphabet-s-requires : goal.alphabet-s-requires
unfolding grammar kind names_of
alphabet-s-requires c = (plus_e (plus_t (else (tries c.args.x.now.entrypoint c.args.d c.args.may (grammar c.args.x.now.entrypoint G.PATTERN_MOD) (from c.args.x.now c.args.s c.args.lent.now c.requires) (fine _ c.if-isnt.ensures) (c.mark-m.ensures c.args.lent.now.notes)) (λ g h. (plus_e (plus_t h (c.trivia-s.ensures.0 c.args.x.now.src.now c.args.lent.now.notes)) c.expect-s.ensures.step)) (failed _ c.if-isnt-2.ensures) (ap (with_mode 0) (c.rewind-s.ensures c.expect-s.new.lent.notes))).here (c.trivia-s-2.ensures.0 c.args.x.now.src.now c.expect-s.new.lent.notes)) c.expect-s-2.ensures.step).wf

pub returns-then-isnt-3-clause-read : goal.returns-then-isnt-3-clause-read
unfolding grammar kind names_of
returns-then-isnt-3-clause-read c = goes (else (tries c.args.x.now.entrypoint c.args.d c.args.may (grammar c.args.x.now.entrypoint G.PATTERN_MOD) (from c.args.x.now c.args.s c.args.lent.now c.requires) (fine _ c.if-isnt.ensures) (c.mark-m.ensures c.args.lent.now.notes)) (λ g h. (plus_e (plus_t h (c.trivia-s.ensures.0 c.args.x.now.src.now c.args.lent.now.notes)) c.expect-s.ensures.step)) (failed _ c.if-isnt-2.ensures) (ap (with_mode 0) (c.rewind-s.ensures c.expect-s.new.lent.notes))) (λ g h. (plus (plus_e (plus_t h (c.trivia-s-2.ensures.0 c.args.x.now.src.now c.expect-s.new.lent.notes)) c.expect-s-2.ensures.step) c.alphabet-s.ensures.read)) (not_failed _ c.if-isnt-3.ensures)

pub trivia-s-requires-3 : goal.trivia-s-requires-3
unfolding grammar kind names_of
trivia-s-requires-3 c = (c.args.x.now.tiled.lines, ((else (else (tries c.args.x.now.entrypoint c.args.d c.args.may (grammar c.args.x.now.entrypoint G.PATTERN_MOD) (from c.args.x.now c.args.s c.args.lent.now c.requires) (fine _ c.if-isnt.ensures) (c.mark-m.ensures c.args.lent.now.notes)) (λ g h. (plus_e (plus_t h (c.trivia-s.ensures.0 c.args.x.now.src.now c.args.lent.now.notes)) c.expect-s.ensures.step)) (failed _ c.if-isnt-2.ensures) (ap (with_mode 0) (c.rewind-s.ensures c.expect-s.new.lent.notes))) (λ g h. (plus (plus_e (plus_t h (c.trivia-s-2.ensures.0 c.args.x.now.src.now c.expect-s.new.lent.notes)) c.expect-s-2.ensures.step) c.alphabet-s.ensures.read)) (failed _ c.if-isnt-3.ensures) (ap (with_mode 0) (c.rewind-s-2.ensures c.alphabet-s.new.lent.notes))).here.wf.0.2.events, (else (else (tries c.args.x.now.entrypoint c.args.d c.args.may (grammar c.args.x.now.entrypoint G.PATTERN_MOD) (from c.args.x.now c.args.s c.args.lent.now c.requires) (fine _ c.if-isnt.ensures) (c.mark-m.ensures c.args.lent.now.notes)) (λ g h. (plus_e (plus_t h (c.trivia-s.ensures.0 c.args.x.now.src.now c.args.lent.now.notes)) c.expect-s.ensures.step)) (failed _ c.if-isnt-2.ensures) (ap (with_mode 0) (c.rewind-s.ensures c.expect-s.new.lent.notes))) (λ g h. (plus (plus_e (plus_t h (c.trivia-s-2.ensures.0 c.args.x.now.src.now c.expect-s.new.lent.notes)) c.expect-s-2.ensures.step) c.alphabet-s.ensures.read)) (failed _ c.if-isnt-3.ensures) (ap (with_mode 0) (c.rewind-s-2.ensures c.alphabet-s.new.lent.notes))).here.wf.1.events))

pub expect-s-requires-3 : goal.expect-s-requires-3
unfolding grammar kind names_of
expect-s-requires-3 c = (asks_e (plus_t (else (else (tries c.args.x.now.entrypoint c.args.d c.args.may (grammar c.args.x.now.entrypoint G.PATTERN_MOD) (from c.args.x.now c.args.s c.args.lent.now c.requires) (fine _ c.if-isnt.ensures) (c.mark-m.ensures c.args.lent.now.notes)) (λ g h. (plus_e (plus_t h (c.trivia-s.ensures.0 c.args.x.now.src.now c.args.lent.now.notes)) c.expect-s.ensures.step)) (failed _ c.if-isnt-2.ensures) (ap (with_mode 0) (c.rewind-s.ensures c.expect-s.new.lent.notes))) (λ g h. (plus (plus_e (plus_t h (c.trivia-s-2.ensures.0 c.args.x.now.src.now c.expect-s.new.lent.notes)) c.expect-s-2.ensures.step) c.alphabet-s.ensures.read)) (failed _ c.if-isnt-3.ensures) (ap (with_mode 0) (c.rewind-s-2.ensures c.alphabet-s.new.lent.notes))).here (c.trivia-s-3.ensures.0 c.args.x.now.src.now c.alphabet-s.new.lent.notes)) c.args.x.now.tiled.lines, omega arith)

pub xor_range-s-requires : goal.xor_range-s-requires
unfolding grammar kind names_of
xor_range-s-requires c = (plus_e (plus_t (else (else (tries c.args.x.now.entrypoint c.args.d c.args.may (grammar c.args.x.now.entrypoint G.PATTERN_MOD) (from c.args.x.now c.args.s c.args.lent.now c.requires) (fine _ c.if-isnt.ensures) (c.mark-m.ensures c.args.lent.now.notes)) (λ g h. (plus_e (plus_t h (c.trivia-s.ensures.0 c.args.x.now.src.now c.args.lent.now.notes)) c.expect-s.ensures.step)) (failed _ c.if-isnt-2.ensures) (ap (with_mode 0) (c.rewind-s.ensures c.expect-s.new.lent.notes))) (λ g h. (plus (plus_e (plus_t h (c.trivia-s-2.ensures.0 c.args.x.now.src.now c.expect-s.new.lent.notes)) c.expect-s-2.ensures.step) c.alphabet-s.ensures.read)) (failed _ c.if-isnt-3.ensures) (ap (with_mode 0) (c.rewind-s-2.ensures c.alphabet-s.new.lent.notes))).here (c.trivia-s-3.ensures.0 c.args.x.now.src.now c.alphabet-s.new.lent.notes)) c.expect-s-3.ensures.step).wf

pub returns-then-isnt-4-clause-read : goal.returns-then-isnt-4-clause-read
unfolding grammar kind names_of
returns-then-isnt-4-clause-read c = at_last (else (else (tries c.args.x.now.entrypoint c.args.d c.args.may (grammar c.args.x.now.entrypoint G.PATTERN_MOD) (from c.args.x.now c.args.s c.args.lent.now c.requires) (fine _ c.if-isnt.ensures) (c.mark-m.ensures c.args.lent.now.notes)) (λ g h. (plus_e (plus_t h (c.trivia-s.ensures.0 c.args.x.now.src.now c.args.lent.now.notes)) c.expect-s.ensures.step)) (failed _ c.if-isnt-2.ensures) (ap (with_mode 0) (c.rewind-s.ensures c.expect-s.new.lent.notes))) (λ g h. (plus (plus_e (plus_t h (c.trivia-s-2.ensures.0 c.args.x.now.src.now c.expect-s.new.lent.notes)) c.expect-s-2.ensures.step) c.alphabet-s.ensures.read)) (failed _ c.if-isnt-3.ensures) (ap (with_mode 0) (c.rewind-s-2.ensures c.alphabet-s.new.lent.notes))) (λ g h. (plus (plus_e (plus_t h (c.trivia-s-3.ensures.0 c.args.x.now.src.now c.alphabet-s.new.lent.notes)) c.expect-s-3.ensures.step) c.xor_range-s.ensures.read)) (lost_on _ _ (not_failed _ c.if-isnt-4.ensures))

pub returns-clause-read : goal.returns-clause-read
unfolding grammar kind names_of
returns-clause-read c = at_last (else (else (tries c.args.x.now.entrypoint c.args.d c.args.may (grammar c.args.x.now.entrypoint G.PATTERN_MOD) (from c.args.x.now c.args.s c.args.lent.now c.requires) (fine _ c.if-isnt.ensures) (c.mark-m.ensures c.args.lent.now.notes)) (λ g h. (plus_e (plus_t h (c.trivia-s.ensures.0 c.args.x.now.src.now c.args.lent.now.notes)) c.expect-s.ensures.step)) (failed _ c.if-isnt-2.ensures) (ap (with_mode 0) (c.rewind-s.ensures c.expect-s.new.lent.notes))) (λ g h. (plus (plus_e (plus_t h (c.trivia-s-2.ensures.0 c.args.x.now.src.now c.expect-s.new.lent.notes)) c.expect-s-2.ensures.step) c.alphabet-s.ensures.read)) (failed _ c.if-isnt-3.ensures) (ap (with_mode 0) (c.rewind-s-2.ensures c.alphabet-s.new.lent.notes))) (λ g h. (plus (plus_e (plus_t h (c.trivia-s-3.ensures.0 c.args.x.now.src.now c.alphabet-s.new.lent.notes)) c.expect-s-3.ensures.step) c.xor_range-s.ensures.read)) ((c.rewind-s-3.ensures c.xor_range-s.new.lent.notes) ∙ lost_back _ _ (failed _ c.if-isnt-4.ensures))
