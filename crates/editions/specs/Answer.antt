-- What the code's answers stand for.
use Rattle.std.specs.Prelude.{ℕ, ◌+◌, ◌<◌, ◌≤◌, ◌≡◌, List, [], ◌∷◌, ◌++◌, cond, leb, length, take, drop, Option, Some, None, MatchOption, Result, Ok, Err}
use Rattle.std.proofs.Math.Option.{none, some}
use Rattle.shapes.specs.Refusal as R
use Rattle.shapes.specs.declared.refusal.Refusal.{Refusal}
use Rattle.shapes.specs.declared.refusal.Refusal.TheVariants as refusal
use Rattle.listing.specs.Numbers.{decimal}
use Rattle.editions.specs.Editions as e
use Rattle.editions.specs.declared.step.Out.{Out}
use Rattle.editions.specs.declared.convert.Unconverted.{Unconverted}
use Rattle.editions.specs.declared.convert.Unconverted.TheVariants as unconverted

abbrev pub field_text : Option ℕ → List ℕ
field_text None = []
field_text (Some n) = 9 ∷ decimal n

-- what stands behind the bytes that are kept of a line
abbrev pub shown_text : Out → List ℕ
shown_text o = field_text o.field

abbrev pub out_text : Out → List ℕ → List ℕ
out_text o l = take o.keep l ++ shown_text o

abbrev pub step_of : Option Out → List ℕ → e.Step
step_of None l = e.stray
step_of (Some o) l = e.becomes o.last o.depth (out_text o l)

abbrev pub kept_of : Option Out → ℕ
kept_of None = 0
kept_of (Some o) = o.keep

-- the place of the last mark, where there is one
abbrev pub LastMark : ℕ → List ℕ → Option ℕ → Type 0
LastMark m l r = MatchOption r (e.shed m l ≡ none) (λ i. (i < length l) × (e.shed m l ≡ some (take i l, drop (i + 1) l)))

-- so many bytes, in a room
abbrev pub taken_of : ℕ → ℕ → Option ℕ
taken_of room n = cond (leb n room) (Some n) None

abbrev pub last_of : Option ℕ → Result ℕ Unconverted
last_of (Some n) = Ok n
last_of None = Err unconverted.Full

abbrev pub judged_of : ℕ → e.Made → Result ℕ Unconverted
judged_of room (e.bad n) = Err (unconverted.Stray n)
judged_of room (e.lines ls) = last_of (taken_of room (length (e.ended ls)))

-- the listing converts, and the new one has place in so many bytes
pub record Fits (m : e.Made) (room : ℕ) : Type 0 where
  pub all : List (List ℕ)
  pub is : m ≡ e.lines all
  pub within : length (e.ended all) ≤ room

-- the refusal, and its line
abbrev pub refusal_of : Unconverted → Refusal
refusal_of (unconverted.Stray n) = refusal.Listing
refusal_of unconverted.Full = refusal.Output

abbrev pub line_of : Unconverted → ℕ
line_of (unconverted.Stray n) = n
line_of unconverted.Full = 0

abbrev pub answer_of : Result ℕ Unconverted → List ℕ → e.Answer
answer_of (Err u) room = e.refused (R.number (refusal_of u)) (line_of u) room
answer_of (Ok n) room = record { number = 0; line = 0; count = n; room = room }
