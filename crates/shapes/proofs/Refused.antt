-- Each refusal has a number of its own, and none has 0: an answer comes back from its number and its value. Assumes nothing.
use Prim.Native.Nat.{ℕ, zero, suc}
use mathlib.Core.Path.{◌≡◌, refl}
use mathlib.Core.List.{List, [], ◌∷◌}
use lib.ListN.{get_or}
use Rattle.std.specs.Prelude.{Result, Ok, Err}
use Rattle.shapes.specs.Refusal.{number}
use Rattle.shapes.specs.declared.refusal.Refusal.{Refusal}
use Rattle.shapes.specs.declared.refusal.Refusal.TheVariants as V

-- the refusals by their numbers, from 1; none has the number 5
pub refusals : List Refusal
refusals = V.Long ∷ V.Unequal ∷ V.Id ∷ V.Tiles ∷ V.Long ∷ V.Scratch ∷ V.Events ∷ V.Errors ∷ V.Malformed ∷ V.Unpaired ∷ V.Record ∷ V.Text ∷ V.Rows ∷ V.Rules ∷ V.Nesting ∷ V.Listing ∷ V.Output ∷ V.Edition ∷ V.Settings ∷ V.Day ∷ []

pub refusal_at : ℕ → Refusal
refusal_at i = get_or refusals i V.Long

-- the answer of a number and a value
abbrev pub answer_at : {A : Type 0} → ℕ → A → Result A Refusal
answer_at zero a = Ok a
answer_at (suc i) a = Err (refusal_at i)

pub refused_back : {A : Type 0} (e : Refusal) (a : A) → answer_at (number e) a ≡ Err e
unfolding refusals refusal_at
refused_back V.Long a = refl
refused_back V.Unequal a = refl
refused_back V.Id a = refl
refused_back V.Tiles a = refl
refused_back V.Scratch a = refl
refused_back V.Events a = refl
refused_back V.Errors a = refl
refused_back V.Malformed a = refl
refused_back V.Unpaired a = refl
refused_back V.Record a = refl
refused_back V.Text a = refl
refused_back V.Rows a = refl
refused_back V.Rules a = refl
refused_back V.Nesting a = refl
refused_back V.Listing a = refl
refused_back V.Output a = refl
refused_back V.Edition a = refl
refused_back V.Settings a = refl
refused_back V.Day a = refl
