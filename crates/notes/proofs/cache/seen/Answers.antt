-- `cache::seen` meets its contract: the last digit of the shifted word is the bit.
use Rattle.notes.proofs.Bits.{tests_bit}
use Rattle.notes.proofs.cache.seen.Goals as goal

pub returns : goal.returns
returns c = tests_bit c.args.scratch.now c.args.bit
