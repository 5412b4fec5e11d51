-- What `trivia` leaves and writes, by the state alone: names for two parts of its definition.
use mathlib.Core.List.{List}
use Prim.Native.Nat.{ℕ}
use Rattle.definition.specs.Run.{Mode, Event, when_ok, skip, trivia_out}

abbrev pub gap : Mode → List ℕ → List ℕ
gap m r = when_ok (skip r) r m

abbrev pub gap_out : Mode → List ℕ → List Event → List Event
gap_out m r o = when_ok (trivia_out r o) o m
