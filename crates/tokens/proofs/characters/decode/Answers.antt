-- `decode` meets its contract: the first byte tells how many follow.
use borrow.Author.Tests.{lt-ltb, le-ltb}
use Rattle.tokens.specs.Decoded.{decoded}
use Rattle.tokens.proofs.characters.decode.Goals as goal

pub returns-then-a-lt224 : goal.returns-then-a-lt224
unfolding decoded
returns-then-a-lt224 c = rw (lt-ltb _ _ c.if-a-lt224.true) c.decode_two.ensures

pub returns-then-a-lt240 : goal.returns-then-a-lt240
unfolding decoded
returns-then-a-lt240 c = rw (le-ltb _ _ c.if-a-lt224.false, lt-ltb _ _ c.if-a-lt240.true) c.decode_three.ensures

pub returns : goal.returns
unfolding decoded
returns c = rw (le-ltb _ _ c.if-a-lt224.false, le-ltb _ _ c.if-a-lt240.false) c.decode_four.ensures
