-- A sort that is none tells, as an error does.
use Rattle.std.proofs.Common.{rules}
use Rattle.events.specs.Events.{entry_of}
use Rattle.outline.proofs.Numbers.{unknown}
use Rattle.outline.proofs.shape.EventFromEventsEvent.from.Goals as goal

pub returns-in-Err : goal.returns-in-Err
returns-in-Err c = unknown (entry_of c.args.e) (search rules)
