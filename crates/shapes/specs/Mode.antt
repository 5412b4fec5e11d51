-- How a state stands, as the code counts it: in good order, failed, out of fuel, too deep.
use Rattle.std.specs.Prelude.{ℕ}
use Rattle.shapes.specs.declared.mode.Mode.{Mode}

abbrev pub OK : ℕ
OK = 0

abbrev pub FAILED : ℕ
FAILED = 1

abbrev pub SPENT : ℕ
SPENT = 2

abbrev pub DEEP : ℕ
DEEP = 3

-- the number of one
abbrev pub number : Mode → ℕ
number m = m.number
