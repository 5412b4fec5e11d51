use mathlib.Core.Path.{◌≡◌, sym, ap, ◌∙◌}
use mathlib.Core.Bool.{Bool}
use borrow.Author.Tests.{le-leb, lt-leb}
use Rattle.notes.proofs.Core.{exceeded_some, exceeded_none}
use Rattle.notes.specs.Bits.{ifb}
use Rattle.notes.specs.Reading.{source_of}
use Rattle.choice.proofs.Choosing.{furthest, emptied_ok, chooses_full, chooses_none, chooses_at}
use Rattle.choice.proofs.choose.Goals as goal
use Rattle.choice.proofs.choose.Goals.{then-expected, else-expected}

pub returns-then-isnt : goal.returns-then-isnt
returns-then-isnt c = λ s f w. chooses_full (source_of c.args.x.now) c.args.notes.now s c.args.errors.now w c.requires.1 f (exceeded_some c.args.full c.if-isnt.ensures)

pub returns-then-row-eq0 : goal.returns-then-row-eq0
returns-then-row-eq0 c = λ s f w. let q : c.if-expected.row ≡ furthest c.args.notes.now.want c.args.notes.now.unwant = elim c.if-expected.branch [ then-expected v ↦ v.row-is ∙ sym (ap (λ (b : Bool). ifb b c.args.notes.now.want c.args.notes.now.unwant) (le-leb _ _ v.if-expected.true)) | else-expected v ↦ v.row-is ∙ sym (ap (λ (b : Bool). ifb b c.args.notes.now.want c.args.notes.now.unwant) (lt-leb _ _ v.if-expected.false)) ] in chooses_none (source_of c.args.x.now) c.args.notes.now s c.args.errors.now w c.requires.1 (f ∙ exceeded_none c.args.full c.if-isnt.ensures) q c.if-row-eq0.true

pub returns : goal.returns
returns c = λ s f w. let q : c.if-expected.row ≡ furthest c.args.notes.now.want c.args.notes.now.unwant = elim c.if-expected.branch [ then-expected v ↦ v.row-is ∙ sym (ap (λ (b : Bool). ifb b c.args.notes.now.want c.args.notes.now.unwant) (le-leb _ _ v.if-expected.true)) | else-expected v ↦ v.row-is ∙ sym (ap (λ (b : Bool). ifb b c.args.notes.now.want c.args.notes.now.unwant) (lt-leb _ _ v.if-expected.false)) ] in chooses_at (source_of c.args.x.now) c.args.notes.now s c.args.errors.now w c.requires.1 (f ∙ exceeded_none c.args.full c.if-isnt.ensures) q c.if-row-eq0.false (c.choose_at.ensures s (f ∙ exceeded_none c.args.full c.if-isnt.ensures) (emptied_ok (source_of c.args.x.now) c.args.notes.now s c.args.errors.now w c.requires.1))
