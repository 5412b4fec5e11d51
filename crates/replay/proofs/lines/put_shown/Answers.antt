-- `replay::lines::put_shown` meets its contract: a letter and two numbers, a tab before each.
use Rattle.listing.proofs.Written.{then}
use Rattle.replay.proofs.lines.put_shown.Goals as goal

pub returns-clause-put : goal.returns-clause-put
returns-clause-put c = then c.put_byte.ensures (then c.put_byte-2.ensures c.put_numbers.ensures.put)
