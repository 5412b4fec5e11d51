-- A reading that names its settings edition (document 02, requests (xi) and (xiv)): "A reading names its edition; a later one starts with its own fuel.
-- Limit 15 in document 01's forms 1 and 2, and 1,024 at too deep, now read as the named edition's".
use Rattle.std.specs.Prelude.{ℕ, zero, suc, List, [], ◌∷◌, ◌++◌, Result, Ok, Err, true, false, eqb}
use Rattle.shapes.specs.Refusal as Refusal
use Rattle.definition.specs.Run.{Limits}
use Rattle.definition.specs.Answer.{Desk, grounds, first_of, After, refusing, after}
use Rattle.desk.specs.Framing.{after_of}
use Rattle.settings.specs.Settings.{Reply, choice}
use Rattle.settings.specs.declared.lines.Values.{Values}
use Rattle.desk.specs.declared.read.Answered.{Answered}
use Rattle.reading.specs.declared.Unread.{Unread}
use Rattle.reading.specs.declared.Unread.TheVariants.{BadLine, Refused}

-- an edition's limits: "the depth limit", "the length above which found text is left out", and "1 for allowed"
abbrev pub limits_in : Values → Limits
limits_in v = record { depth = v.depth; quote = v.quote; entrypoint = eqb v.entrypoint 1 }

-- what stands on the desk, with an edition's fuel
abbrev pub fuelled : ℕ → Desk → Desk
fuelled f d =
    record {
      bytes = d.bytes;
      ids = d.ids;
      starts = d.starts;
      ends = d.ends;
      fuel = f;
      scratch = d.scratch;
      events = d.events;
      errors = d.errors;
    }

-- the line of refusal 19, 0 where it is not given; and what is returned and left
pub record Outcome : Type 0 where
  pub line : ℕ
  pub after : After

abbrev pub lent : ℕ → Desk → After
lent n d = refusing n d.events d.errors d.scratch

-- "18, unknown edition, after 6"
abbrev pub unknown_to : Desk → After
unknown_to d = lent (first_of (grounds d ++ ((true, Refusal.EDITION) ∷ []))) d

-- 18 where the edition is unknown; 19 "with the line", before any rows are judged; all as lent
abbrev pub refused_by : ℕ → Desk → After
refused_by n d = elim (eqb n Refusal.EDITION) [ true ↦ unknown_to d | false ↦ lent n d ]

abbrev pub under : Reply → Desk → Outcome
under r d =
    elim r.number [
      | zero ↦ record { line = 0; after = after (limits_in r.values) (fuelled r.values.fuel d) }
      | suc n ↦ record { line = r.line; after = refused_by (suc n) d }
    ]

-- THE PUBLIC DEFINITION of a reading by settings text and an edition's number; "Edition 1 .. is today's values with the fuel given to the call"
abbrev pub reading : List ℕ → ℕ → Desk → Outcome
reading text edition d = under (choice text edition d.fuel) d

-- what the code's answer stands for
abbrev pub outcome_of : Result Answered Unread → List ℕ → List ℕ → List ℕ → Outcome
outcome_of (Ok a) ev er sc = record { line = 0; after = after_of (Ok a) ev er sc }
outcome_of (Err (Refused r)) ev er sc = record { line = 0; after = after_of (Err r) ev er sc }
outcome_of (Err (BadLine n)) ev er sc = record { line = n; after = refusing Refusal.SETTINGS ev er sc }
