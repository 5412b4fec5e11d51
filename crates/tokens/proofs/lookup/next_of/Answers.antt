-- `next_of` meets its contract.
use mathlib.Core.Path.{ap, subst, sym}
use Prim.Native.Nat.{◌+◌, ◌*◌, ◌<◌}
use lib.ListN.{get_or}
use Rattle.tokens.proofs.Lookups.{nexts}
use Rattle.tokens.proofs.Tests.{next_at}
use Rattle.tokens.proofs.lookup.next_of.Goals as goal

pub returns-clause-value : goal.returns-clause-value
returns-clause-value c = ap (λ t. get_or t (c.args.state * 45 + c.args.class) 0) nexts

pub returns-clause-low : goal.returns-clause-low
returns-clause-low c = subst (λ t. get_or t (c.args.state * 45 + c.args.class) 0 < 88) (sym nexts) (next_at c.args.state c.args.class c.requires.state_low c.requires.class_low).0
