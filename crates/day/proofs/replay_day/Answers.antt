-- `replay_day` meets its contract: the lines before the rest of the text are replayed.
use mathlib.Core.Path.{refl}
use Rattle.std.proofs.Common.{rules}
use Rattle.replay.proofs.Replaying.{replaying, room, not_read, reads_on}
use Rattle.day.proofs.replay_day.Goals as goal

pub loop-rest-init : goal.loop-rest-init
loop-rest-init _ c = replaying _ c.none-tally.ensures refl

pub returns-in_default : goal.returns-in_default
returns-in_default _ c = not_read c.loop-rest.invariant c.next_entry.ensures.first (search rules) c.in_default.is

pub with_file-tally-requires : goal.with_file-tally-requires
with_file-tally-requires _ c = room c.loop-rest.invariant (search rules) (search rules)

pub loop-rest-preserved : goal.loop-rest-preserved
loop-rest-preserved _ c = reads_on c.loop-rest.invariant c.next_entry.ensures.first c.in-Some.is (search rules) c.fate_of.result c.with_file-tally.ensures
