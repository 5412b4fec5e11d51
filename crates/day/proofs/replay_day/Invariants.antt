-- `replay_day` meets its contract: the lines before the rest of the text are replayed.
use lib.ListN.{length}
use Rattle.replay.proofs.Replaying.{Replaying}
use Rattle.day.proofs.replay_day.Given as goal

abbrev pub invariant-loop-rest : goal.invariant-loop-rest
invariant-loop-rest _ l = Replaying l.text l.tally l.number l.rest

abbrev pub decreases-loop-rest : goal.decreases-loop-rest
decreases-loop-rest _ l = length l.rest
