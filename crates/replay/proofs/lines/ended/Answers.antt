-- `replay::lines::ended` meets its contract.
use Rattle.replay.proofs.Entries.{no_outcome}
use Rattle.replay.proofs.lines.ended.Goals as goal

pub returns-in-Err : goal.returns-in-Err
returns-in-Err c = no_outcome c.args.number c.args.errors c.in-Err.ensures.1
