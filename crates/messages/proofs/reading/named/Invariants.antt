-- `messages::reading::named` meets its contract: the numbers before the place are names, none twice.
use mathlib.Core.Path.{◌≡◌}
use mathlib.Core.List.{[]}
use Rattle.messages.specs.Record.{named}
use Rattle.messages.proofs.Judged.{from_here}
use Rattle.messages.proofs.reading.named.Given as goal

abbrev pub invariant-loop-i : goal.invariant-loop-i
invariant-loop-i l = from_here l.list l.i ≡ named [] l.list
