-- Two alternatives.
use mathlib.Core.Path.{ap, ◌∙◌}
use mathlib.Core.Bool.{true}
use Rattle.definition.specs.Prog.{node}
use Rattle.definition.specs.Prog as G
use Rattle.definition.specs.Grammar.{them}
use Rattle.notes.specs.Change.{with_mode}
use Rattle.notes.specs.Means.{names_of}
use Rattle.parts.proofs.Lines.{from, plus_e, plus_t, past_then, stops, tries, goes, else, at_last, lost_on, lost_back}
use Rattle.steps.proofs.Modes.{failed, fine, not_failed, not_fine}
use Rattle.parts.proofs.tuples.them.Goals as goal

pub returns-then-isnt-clause-read : goal.returns-then-isnt-clause-read
unfolding names_of
returns-then-isnt-clause-read c = stops (from c.args.x.now c.args.s c.args.lent.now c.requires) c.args.x.now.entrypoint c.args.d c.args.may them tt (not_fine _ c.if-isnt.ensures)

pub returns-then-isnt-2-clause-read : goal.returns-then-isnt-2-clause-read
unfolding names_of
returns-then-isnt-2-clause-read c = goes (tries c.args.x.now.entrypoint c.args.d c.args.may them (from c.args.x.now c.args.s c.args.lent.now c.requires) (fine _ c.if-isnt.ensures) (c.mark-m.ensures c.args.lent.now.notes)) (λ g h. (plus_e (plus_t h (c.trivia-s.ensures.0 c.args.x.now.src.now c.args.lent.now.notes)) c.expect-s.ensures.step)) (not_failed _ c.if-isnt-2.ensures)

pub pattern_ident_tuple-s-requires : goal.pattern_ident_tuple-s-requires
unfolding names_of
pattern_ident_tuple-s-requires c = (else (tries c.args.x.now.entrypoint c.args.d c.args.may them (from c.args.x.now c.args.s c.args.lent.now c.requires) (fine _ c.if-isnt.ensures) (c.mark-m.ensures c.args.lent.now.notes)) (λ g h. (plus_e (plus_t h (c.trivia-s.ensures.0 c.args.x.now.src.now c.args.lent.now.notes)) c.expect-s.ensures.step)) (failed _ c.if-isnt-2.ensures) (ap (with_mode 0) (c.rewind-s.ensures c.expect-s.new.lent.notes))).here.wf

pub returns-then-isnt-3-clause-read : goal.returns-then-isnt-3-clause-read
unfolding names_of
returns-then-isnt-3-clause-read c = at_last (else (tries c.args.x.now.entrypoint c.args.d c.args.may them (from c.args.x.now c.args.s c.args.lent.now c.requires) (fine _ c.if-isnt.ensures) (c.mark-m.ensures c.args.lent.now.notes)) (λ g h. (plus_e (plus_t h (c.trivia-s.ensures.0 c.args.x.now.src.now c.args.lent.now.notes)) c.expect-s.ensures.step)) (failed _ c.if-isnt-2.ensures) (ap (with_mode 0) (c.rewind-s.ensures c.expect-s.new.lent.notes))) (λ g h. (past_then c.args.x.now.entrypoint c.args.d true (node G.PATTERN_IDENT_TUPLE) g c.pattern_ident_tuple-s.ensures.read)) (lost_on _ _ (not_failed _ c.if-isnt-3.ensures))

pub returns-clause-read : goal.returns-clause-read
unfolding names_of
returns-clause-read c = at_last (else (tries c.args.x.now.entrypoint c.args.d c.args.may them (from c.args.x.now c.args.s c.args.lent.now c.requires) (fine _ c.if-isnt.ensures) (c.mark-m.ensures c.args.lent.now.notes)) (λ g h. (plus_e (plus_t h (c.trivia-s.ensures.0 c.args.x.now.src.now c.args.lent.now.notes)) c.expect-s.ensures.step)) (failed _ c.if-isnt-2.ensures) (ap (with_mode 0) (c.rewind-s.ensures c.expect-s.new.lent.notes))) (λ g h. (past_then c.args.x.now.entrypoint c.args.d true (node G.PATTERN_IDENT_TUPLE) g c.pattern_ident_tuple-s.ensures.read)) ((c.rewind-s-2.ensures c.pattern_ident_tuple-s.new.lent.notes) ∙ lost_back _ _ (failed _ c.if-isnt-3.ensures))
