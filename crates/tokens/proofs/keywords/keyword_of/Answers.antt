-- `keyword_of` meets its contract.
use native.Mathlib.Omega.{arith}
use Rattle.tokens.proofs.Lookups.{word}
use Rattle.tokens.proofs.Tests.{word_small}
use Rattle.tokens.proofs.keywords.keyword_of.Goals as goal

pub overflow_add-result-3 : goal.overflow_add-result-3
overflow_add-result-3 c = omega (arith, c.key_at-len.ensures, word_small c.args.j c.requires)

pub slice_bounds-result-end : goal.slice_bounds-result-end
slice_bounds-result-end c = omega (arith, c.key_at-len.ensures, word_small c.args.j c.requires)

pub returns : goal.returns
returns c = word c.args.j c.key_at-len.result c.key_at-len.ensures
