-- Document 01's number and values for each case of the answer.
use Rattle.std.specs.Prelude.{ℕ, List, Result, Ok, Err}
use Rattle.shapes.specs.declared.refusal.Refusal.{Refusal}
use Rattle.shapes.specs.Refusal as Refusal
use Rattle.definition.specs.Merge.{Returned}

abbrev pub returning : Result ℕ Refusal → List ℕ → Returned
returning (Ok n) room = record { number = 0; count = n; room = room }
returning (Err e) room = record { number = Refusal.number e; count = 0; room = room }
