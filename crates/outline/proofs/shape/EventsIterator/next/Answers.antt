-- `next` gives the first event of the list.
use Rattle.std.proofs.Common.{◌≡◌, ◌≤◌, ◌∷◌, length, take, drop, ap, ap₂, sym, ◌∙◌, rules}
use Rattle.events.specs.Events.{entry_of, entry_at}
use Rattle.outline.specs.Shape as D
use Rattle.outline.proofs.Numbers.{first}
use Rattle.outline.proofs.shape.EventsIterator.next.Goals as goal

pub returns-clause-steps : goal.returns-clause-steps
returns-clause-steps c =
    let list = c.args.self.now.list.now in
    let long : 5 ≤ length list = search rules in
    let cut : c.in_ok-event.event.now ≡ take 5 list = search rules in
    let rest : c.in_ok-event.rest.now ≡ drop 5 list = search rules in
    let is : c.from.result ≡ D.event (entry_of c.read.result) = c.from.ensures in
    first list long
    ∙ ap₂ (λ e l. e ∷ D.events l) (ap D.event (ap (λ l. entry_at l 0) (sym cut) ∙ sym c.read.ensures) ∙ sym is) (sym rest)

pub returns-clause-goes : goal.returns-clause-goes
returns-clause-goes c =
    let shorter = ap length (returns-clause-steps c) in
    search rules
