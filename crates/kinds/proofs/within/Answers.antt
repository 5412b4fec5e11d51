-- `kinds::within` meets its contract: `member` of the pair at the set's number, and no pair stands past the last.
use mathlib.Core.Path.{sym}
use Rattle.std.proofs.Common.{rules}
use Rattle.kinds.proofs.Words.{in_nothing}
use Rattle.kinds.proofs.within.Goals as goal

pub returns : goal.returns
returns c = sym (in_nothing c.args.sets.now _ _ (search rules))
