-- The whole reading: SOURCE_FILE around the items, and what the reader's answer stands for in the public definition.
use Rattle.std.specs.Prelude.{ℕ, ◌+◌, ◌-◌, ◌*◌, ◌/◌, ◌≤◌, ◌≡◌, List, [], ◌++◌, Result, Ok, Err, length, take, replicate}
use Rattle.shapes.specs.declared.refusal.Refusal.{Refusal}
use Rattle.shapes.specs.Refusal.{number}
use Rattle.shapes.specs.Mode as modes
use Rattle.shapes.specs.Outcome as outcomes
use Rattle.shapes.specs.Shapes.{EVENT, flat, owned, flat_records}
use Rattle.definition.specs.Run as P
use Rattle.definition.specs.Run.{Limits}
use Rattle.definition.specs.Render.{Source, records, item_numbers, rendered, mode_outcome, moments, over}
use Rattle.definition.specs.Answer.{After, refusing}
use Rattle.notes.specs.Means.{mode_of}
use Rattle.notes.specs.Whole.{exceeded}
use Rattle.items.specs.declared.Desk.{Desk}
use Rattle.desk.specs.declared.read.Limits as C
use Rattle.desk.specs.declared.read.Answered.{Answered}

-- the definition's limits, of the code's
abbrev pub limits_of : C.Limits → Limits
limits_of l = record { depth = l.depth; quote = l.quote; entrypoint = l.entrypoint }

-- "A refusal returns its number and zeros"; "An answer returns outcome, rows covered, counts of events and error records, fuel left"
abbrev pub after_of : Result Answered Refusal → List ℕ → List ℕ → List ℕ → After
after_of (Err r) ev er sc = refusing (number r) ev er sc
after_of (Ok a) ev er sc =
    record {
      number = 0;
      outcome = outcomes.number a.outcome;
      covered = a.covered;
      event_count = a.events;
      error_count = a.errors;
      left = a.left;
      events = ev;
      errors = er;
      scratch = sc;
    }

-- by the number of a mode
abbrev pub outcome_of : ℕ → ℕ
outcome_of m = mode_outcome (mode_of m)

-- the answer of a state that has finished with so many numbers of error records, where the lists are as given: zeros behind them, and in scratch
abbrev pub answering : Desk → ℕ → List ℕ → List ℕ → List ℕ → After
answering d left ev er sc =
    let to = d.state.ev + EVENT in
    record {
      number = 0;
      outcome = outcome_of (modes.number d.state.mode);
      covered = d.state.pos;
      event_count = to / EVENT;
      error_count = d.before;
      left = d.state.fuel;
      events = take to ev ++ replicate (length ev - to) 0;
      errors = take left er ++ replicate (length er - left) 0;
      scratch = replicate (length sc) 0;
    }

abbrev pub reading : Limits → Source → ℕ → P.State
reading L x fuel = P.read L x.ids fuel

-- the lists that a reading gives, and its numbers, where so many numbers of error records stand written; E and R are the rooms
pub record Finished (L : Limits) (x : Source) (fuel : ℕ) (d : Desk) (written : ℕ) (ev er : List ℕ) : Type 0 where
  pub events : take (d.state.ev + EVENT) ev ≡ flat (rendered L x (item_numbers L x.ids fuel) (reading L x fuel)).events
  pub errors : take written er ≡ flat_records (owned (records L x (reading L x fuel).out []) (item_numbers L x.ids fuel))
  pub event_fits : d.state.ev + EVENT ≤ length ev
  pub error_fits : written ≤ length er
  pub outcome : outcome_of (modes.number d.state.mode) ≡ (rendered L x (item_numbers L x.ids fuel) (reading L x fuel)).outcome
  pub covered : d.state.pos ≡ (rendered L x (item_numbers L x.ids fuel) (reading L x fuel)).covered
  pub event_count : d.state.ev + EVENT ≡ EVENT * length (rendered L x (item_numbers L x.ids fuel) (reading L x fuel)).events
  pub error_count : d.before ≡ length (rendered L x (item_numbers L x.ids fuel) (reading L x fuel)).errors
  pub left : d.state.fuel ≡ (rendered L x (item_numbers L x.ids fuel) (reading L x fuel)).left

pub record Framed (L : Limits) (x : Source) (fuel E R : ℕ) (d : Desk) (written : ℕ) (ev er : List ℕ) : Type 0 where
  pub full : exceeded d.state.full ≡ over E R (moments L x (reading L x fuel))
  pub finished : exceeded d.state.full ≡ 0 → Finished L x fuel d written ev er
