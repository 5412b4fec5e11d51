-- A listing that the program could have written in edition 2, so that what is asked of one can be met: a file of white space with an error of form 9.
use Prim.Native.Nat.{ℕ}
use mathlib.Core.Path.{refl}
use mathlib.Core.List.{List, [], ◌∷◌}
use native.Mathlib.Omega.{arith}
use Rattle.kinds.specs.Kinds as k
use Rattle.listing.specs.Numbers.{decimal}
use Rattle.listing.specs.Listing.{last_field, names_of, listed}
use Rattle.editions.specs.Editions.{allowed, opened, field}
use Rattle.editions.specs.Program.{Recorded, begin, token, close, fault, Could, was_read}

abbrev events : List ℕ
events = 1 ∷ k.SOURCE_FILE ∷ 0 ∷ 3 ∷ 0 ∷ 2 ∷ k.WHITESPACE ∷ 0 ∷ 3 ∷ 1 ∷ 4 ∷ 0 ∷ 0 ∷ 3 ∷ 1 ∷ 3 ∷ k.SOURCE_FILE ∷ 0 ∷ 3 ∷ 0 ∷ []

-- start, end, form, item, no names, place
abbrev errors : List ℕ
errors = 0 ∷ 3 ∷ 9 ∷ 1 ∷ 0 ∷ 2 ∷ []

recorded : Recorded errors
unfolding names_of
recorded =
    record {
      form_least = omega arith;
      form_most = omega arith;
      start = omega arith;
      end = omega arith;
      some_names = λ h. absurd (omega arith);
      distinct = λ h. absurd (omega arith);
      no_names = λ h. refl;
      place = omega arith;
      item = omega arith;
    }

pub could_two : Could 2 (λ (e : ℕ). listed e events errors 0 1 5)
unfolding allowed opened field last_field decimal
could_two =
    was_read events errors 0 1 5 (
      refl,
      begin {k = k.SOURCE_FILE} {start = 0} {end = 3} (omega arith) (omega arith) (omega arith) (omega arith),
      λ h. refl,
      (
        refl,
        token {k = k.WHITESPACE} {start = 0} {end = 3} (omega arith) (omega arith) (omega arith),
        λ h. refl,
        (
          refl,
          fault recorded,
          λ h. absurd (h refl),
          (
            refl,
            close {k = k.SOURCE_FILE} {start = 0} {end = 3} (omega arith) (omega arith) (omega arith) (omega arith),
            λ h. refl,
            refl,
          ),
        ),
      ),
    )
    (omega arith) (omega arith) (omega arith)
