-- `sum` counts what the definition does, of the events inside.
use Rattle.std.proofs.Common.{length, ap, ◌∙◌, inl, rules, tests, arith}
use Rattle.std.proofs.lemmas.Iterator.Consumers.{YieldsList-from_first, YieldsList-from_filter, count_from_yields_List}
use Rattle.outline.specs.Steps.{left, levels, shows}
use Rattle.outline.specs.Levels.{inside_left}
use Rattle.outline.proofs.Numbers.{few}
use Rattle.outline.proofs.Walking.{levels_few, sum_levels}
use Rattle.outline.proofs.inside.sum.Goals as goal

pub count-requires-clause-fits : goal.count-requires-clause-fits
count-requires-clause-fits c = inl (omega (arith, ap length (ap inside_left c.filter.ensures.source ∙ c.of.ensures), levels_few (left c.args.events) 1, few c.args.events.list.now))

pub returns : goal.returns
returns c =
    let all = ap inside_left c.filter.ensures.source ∙ c.of.ensures in
    count_from_yields_List c.filter.result _ c.count.ensures.ran
    (YieldsList-from_filter _ (shows c.args.depth) (YieldsList-from_first (λ x. x) inside_left (levels (left c.args.events) 1) all) c.filter.ensures.closure (λ x r q k. search (rules, tests)))
    ∙ sum_levels c.args.depth (left c.args.events) 0
