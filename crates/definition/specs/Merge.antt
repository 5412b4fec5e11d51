-- The merger (document 01, module 8): "The merger removes each ERROR end directly followed by an ERROR begin. The surviving begin carries the
-- least start and greatest end of the begins joined; every ERROR end is written with its begin's span."
use Rattle.std.specs.Prelude.{ℕ, zero, suc, ◌*◌, ◌-◌, ◌%◌, min, max, List, [], ◌∷◌, ◌++◌, Bool, true, false, ◌&&◌, eqb, leb, length, replicate}
use Rattle.kinds.specs.Kinds as k
use Rattle.shapes.specs.Sort as Sort
use Rattle.shapes.specs.Refusal as Refusal
use Rattle.shapes.specs.Shapes.{EVENT, Entry, flat, entries}

-- how many nodes are open behind an event, where h are open before it
abbrev pub open_behind : ℕ → Entry → ℕ
open_behind h e = elim (eqb e.0 Sort.BEGIN) [ true ↦ suc h | false ↦ elim (eqb e.0 Sort.END) [ true ↦ h - 1 | false ↦ h ] ]

-- its depth is the count of nodes open around it; an end's is one less than h, and there is none where "more ends than begins" are before
abbrev pub deep : ℕ → Entry → Bool
deep h e = elim (eqb e.0 Sort.END) [ true ↦ eqb (suc e.4) h | false ↦ eqb e.4 h ]

-- refusal 9: event numbers "not a multiple of 5", a sort outside 1..4, "a stored depth that is not the counted one" or "a place with more ends than begins
-- before it"; h nodes are open
abbrev pub sound : ℕ → List Entry → Bool
sound h [] = true
sound h (e ∷ es) = leb Sort.BEGIN e.0 && leb e.0 Sort.ERROR && deep h e && sound (open_behind h e) es

abbrev pub well_formed : List ℕ → Bool
well_formed l = eqb (length l % EVENT) 0 && sound 0 (entries l)

-- an ERROR begin is of sort 1, an ERROR end of sort 3
abbrev pub error_of : ℕ → Entry → Bool
error_of s e = eqb e.0 s && eqb e.1 k.ERROR

abbrev pub Span : Type 0
Span = ℕ × ℕ

-- what the events are to the merger: an ERROR begin opens a node, an ERROR end directly followed by an ERROR begin joins the two nodes, any other
-- ERROR end closes one, and every other event is kept. "Merged events keep [their depth] unchanged": the number before a span, and that of `closes`
pub data Mark : Type 0 where
  opens : ℕ → Span → Mark
  joins : Span → Mark
  closes : ℕ → Mark
  keeps : Entry → Mark

-- an ERROR end of depth d, with what follows it
abbrev pub ended : ℕ → List Mark → List Mark
ended d [] = closes d ∷ []
ended d (opens h z ∷ ms) = joins z ∷ ms
ended d (joins z ∷ ms) = closes d ∷ joins z ∷ ms
ended d (closes h ∷ ms) = closes d ∷ closes h ∷ ms
ended d (keeps e ∷ ms) = closes d ∷ keeps e ∷ ms

-- e is an ERROR begin, or an ERROR end, or neither
abbrev pub marked : Bool → Bool → Entry → List Mark → List Mark
marked true t e ms = opens e.4 (e.2, e.3) ∷ ms
marked false true e ms = ended e.4 ms
marked false false e ms = keeps e ∷ ms

abbrev pub marks : List Entry → List Mark
marks [] = []
marks (e ∷ es) = marked (error_of Sort.BEGIN e) (error_of Sort.END e) e (marks es)

-- refusal 10: "an ERROR end with none open, or an ERROR begin never closed"; h are open
abbrev pub paired : List Mark → ℕ → Bool
paired [] zero = true
paired [] (suc h) = false
paired (opens d z ∷ ms) h = paired ms (suc h)
paired (joins z ∷ ms) zero = false
paired (joins z ∷ ms) (suc h) = paired ms (suc h)
paired (closes d ∷ ms) zero = false
paired (closes d ∷ ms) (suc h) = paired ms h
paired (keeps e ∷ ms) h = paired ms h

abbrev pub widened : Span → Span → Span
widened z y = (min z.0 y.0, max z.1 y.1)

-- "the least start and greatest end of the begins joined": of a node that is open, z so far, with h open inside it
abbrev pub reach : List Mark → ℕ → Span → Span
reach [] h z = z
reach (opens d y ∷ ms) h z = reach ms (suc h) z
reach (joins y ∷ ms) zero z = reach ms zero (widened z y)
reach (joins y ∷ ms) (suc h) z = reach ms (suc h) z
reach (closes d ∷ ms) zero z = z
reach (closes d ∷ ms) (suc h) z = reach ms h z
reach (keeps e ∷ ms) h z = reach ms h z

abbrev pub error_event : ℕ → Span → ℕ → Entry
error_event s z d = (s, k.ERROR, z.0, z.1, d)

-- the finished list; st has the spans of the nodes that are open. An end with none open is refused, and its clause is never met
abbrev pub merge : List Mark → List Span → List Entry
merge [] st = []
merge (opens d y ∷ ms) st = error_event Sort.BEGIN (reach ms 0 y) d ∷ merge ms (reach ms 0 y ∷ st)
merge (joins y ∷ ms) st = merge ms st
merge (closes d ∷ ms) [] = merge ms []
merge (closes d ∷ ms) (z ∷ st) = error_event Sort.END z d ∷ merge ms st
merge (keeps e ∷ ms) st = e ∷ merge ms st

abbrev pub finished : List ℕ → List Entry
finished l = merge (marks (entries l)) []

pub data Merged : Type 0 where
  unmerged : ℕ → Merged
  merged : List Entry → Merged

-- n where t does not hold
abbrev pub refusing : ℕ → Bool → Merged → Merged
refusing n true m = m
refusing n false m = unmerged n

-- "The merger checks 9, 10, then 7 for its finished list"; room is the length of what is lent
abbrev pub merger : List ℕ → ℕ → Merged
merger l room = refusing Refusal.MALFORMED (well_formed l) (refusing Refusal.UNPAIRED (paired (marks (entries l)) 0) (refusing Refusal.EVENTS (leb (EVENT * length (finished l)) room) (merged (finished l))))

-- THE PUBLIC ANSWER: "A refusal returns its number and zeros" and leaves all as lent; "the merger: its count of events", and "cells past the
-- finished lists [..] are zero". The number is 0 where nothing is refused.
pub record Returned : Type 0 where
  pub number : ℕ
  pub count : ℕ
  pub room : List ℕ

abbrev pub returned : List ℕ → Merged → Returned
returned room (unmerged n) = record { number = n; count = 0; room = room }
returned room (merged es) = record { number = 0; count = length es; room = flat es ++ replicate (length room - EVENT * length es) 0 }

-- of the event numbers and the room, as lent
abbrev pub merging : List ℕ → List ℕ → Returned
merging events room = returned room (merger events (length room))
