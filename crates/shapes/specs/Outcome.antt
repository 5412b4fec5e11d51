-- "Outcome 0 is done, 1 out of fuel, 2 too deep."
use Rattle.std.specs.Prelude.{ℕ, ◌≡◌, ◌≢◌, Result, MatchResult}
use Rattle.shapes.specs.declared.outcome.Outcome.{Outcome}
use Rattle.shapes.specs.declared.outcome.Outcome.TheVariants as V
use Rattle.shapes.specs.declared.outcome.UnknownOutcome.{UnknownOutcome}

abbrev pub DONE : ℕ
DONE = 0

abbrev pub SPENT : ℕ
SPENT = 1

abbrev pub DEEP : ℕ
DEEP = 2

-- the number of each
abbrev pub number : Outcome → ℕ
number V.Done = DONE
number V.Spent = SPENT
number V.Deep = DEEP

-- the outcome of a number, or an error with a number that no outcome has
abbrev pub Decodes : ℕ → Result Outcome UnknownOutcome → Type 0
Decodes n r = MatchResult r (λ s. number s ≡ n) (λ e. (e.0 ≡ n) × ((s : Outcome) → number s ≢ n))
