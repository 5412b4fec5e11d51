-- The desk, by what stands on it, and the number of what it is refused for.
use Rattle.std.specs.Prelude.{ℕ, List, Result, Ok, Err}
use Rattle.shapes.specs.declared.refusal.Refusal.{Refusal}
use Rattle.shapes.specs.Refusal.{number}
use Rattle.definition.specs.Answer.{Desk}

abbrev pub desk : List ℕ → List ℕ → List ℕ → List ℕ → ℕ → List ℕ → List ℕ → List ℕ → Desk
desk bytes ids starts ends fuel sc ev er = record { bytes = bytes; ids = ids; starts = starts; ends = ends; fuel = fuel; scratch = sc; events = ev; errors = er }

-- the refusal's number, 0 where none is given
abbrev pub number_of : {T : Type 0} → Result T Refusal → ℕ
number_of (Ok x) = 0
number_of (Err r) = number r
