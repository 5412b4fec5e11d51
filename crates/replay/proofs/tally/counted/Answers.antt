-- `replay::tally::counted` meets its contract: the new answer raises its own count.
use Prim.Native.Nat.{◌+◌}
use mathlib.Core.Path.{sym, ap, ◌∙◌}
use Rattle.replay.specs.declared.tally.Fate.TheVariants as fate
use Rattle.replay.proofs.Tallying.{apart_alone, unread, as_one, adds_done, adds_spent, adds_deep, adds_refused}
use Rattle.replay.proofs.tally.counted.Goals as goal

pub returns-in_default : goal.returns-in_default
returns-in_default c = sym (apart_alone c.args.t c.args.file (unread _ c.in_default.not-Read))

pub returns-in-Done : goal.returns-in-Done
returns-in-Done c = adds_done c.args.t c.args.file (c.in-Read.is ∙ ap fate.Read c.in-Done.is) (ap (λ n. c.args.t.differ + n) (as_one c.from.ensures c.is_marked.ensures))

pub returns-in-Spent : goal.returns-in-Spent
returns-in-Spent c = adds_spent c.args.t c.args.file (c.in-Read.is ∙ ap fate.Read c.in-Spent.is) (ap (λ n. c.args.t.differ + n) (as_one c.from.ensures c.is_marked.ensures))

pub returns-in-Deep : goal.returns-in-Deep
returns-in-Deep c = adds_deep c.args.t c.args.file (c.in-Read.is ∙ ap fate.Read c.in-Deep.is) (ap (λ n. c.args.t.differ + n) (as_one c.from.ensures c.is_marked.ensures))

pub returns-in-Refused : goal.returns-in-Refused
returns-in-Refused c = adds_refused c.args.t c.args.file (c.in-Read.is ∙ ap fate.Read c.in-Refused.is) (ap (λ n. c.args.t.differ + n) (as_one c.from.ensures c.is_marked.ensures))
