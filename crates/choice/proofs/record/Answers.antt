use Rattle.notes.specs.Whole.{beside}
use Rattle.choice.proofs.Choosing.{record_written}
use Rattle.choice.proofs.record.Goals as goal

pub returns : goal.returns
returns c = λ s z. record_written (beside c.args.notes.now s) c.args.start c.args.end c.args.form c.args.notes.now.number c.args.names.now c.args.errors.now c.requires.0 c.if-notes-at.false c.requires.1 _ c.spell.ensures
