-- "sort (1 begin, 2 token, 3 end, 4 error)"
use Rattle.std.specs.Prelude.{ℕ, ◌≡◌, ◌≢◌, Result, MatchResult}
use Rattle.shapes.specs.declared.sort.Sort.{Sort}
use Rattle.shapes.specs.declared.sort.Sort.TheVariants as V
use Rattle.shapes.specs.declared.sort.UnknownSort.{UnknownSort}

abbrev pub BEGIN : ℕ
BEGIN = 1

abbrev pub TOKEN : ℕ
TOKEN = 2

abbrev pub END : ℕ
END = 3

abbrev pub ERROR : ℕ
ERROR = 4

-- the number of each
abbrev pub number : Sort → ℕ
number V.Begin = BEGIN
number V.Token = TOKEN
number V.End = END
number V.Error = ERROR

-- the sort of a number, or an error with a number that no sort has
abbrev pub Decodes : ℕ → Result Sort UnknownSort → Type 0
Decodes n r = MatchResult r (λ s. number s ≡ n) (λ e. (e.0 ≡ n) × ((s : Sort) → number s ≢ n))
