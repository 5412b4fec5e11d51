-- `kinds::member` meets its contract: below 64, below 128 and past that the id's word is the first, the second and none.
use Rattle.std.proofs.Common.{rules}
use Rattle.kinds.proofs.Words.{in_low, in_high, in_none}
use Rattle.kinds.proofs.member.Goals as goal

pub returns-then-id-lt64 : goal.returns-then-id-lt64
returns-then-id-lt64 c = in_low c.args.pair c.args.id c.if-id-lt64.true

pub returns-then-id-lt128 : goal.returns-then-id-lt128
returns-then-id-lt128 c = in_high c.args.pair c.args.id c.if-id-lt64.false c.if-id-lt128.true

pub returns : goal.returns
returns c = in_none _ _ (search rules) c.if-id-lt128.false
