-- `cache::remember` meets its contract: a power of two is set in the word of the bit.
use Rattle.notes.proofs.Bits.{stores_bit}
use Rattle.notes.proofs.cache.remember.Goals as goal

pub returns : goal.returns
returns c = stores_bit c.args.bit c.args.scratch.now c.requires
