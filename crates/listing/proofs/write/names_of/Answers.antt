-- `listing::write::names_of` meets its contract: as many names as the record says, are there, and can be.
use Prim.Native.Nat.{ℕ, min}
use mathlib.Core.Path.{ap, ◌∙◌}
use Rattle.listing.proofs.Records.{names}
use Rattle.listing.proofs.write.names_of.Goals as goal

pub returns-clause-result_value : goal.returns-clause-result_value
returns-clause-result_value c =
    let l = c.args.list.now in
    let e = names l c.min-from.ensures (c.min-count.ensures ∙ ap (λ (n : ℕ). min n 85) c.number_at.ensures) c.min.ensures in e
