-- What the code's numbers stand for: the ranges that are due, and what is due after one byte more.
use Rattle.std.specs.Prelude.{ℕ, zero, suc, List, [], ◌∷◌}
use Rattle.std.specs.Prelude as code
use Rattle.std.proofs.Math.Option.{Option, none, some}
use Rattle.utf8.specs.declared.Due.{Due}
use Rattle.utf8.specs.Utf8.{Range, followers}

-- so many ranges, of which all but the first are a follower's
abbrev pub led : Range → ℕ → List Range
led r zero = []
led r (suc n) = r ∷ followers n

abbrev pub ranges : Due → List Range
ranges d = led (d.least, d.greatest) d.count

abbrev pub owed : code.Option Due → Option (List Range)
owed (code.Some d) = some (ranges d)
owed code.None = none
