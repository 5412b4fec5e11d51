-- Items: error events out of records, and the state between two items.
use Rattle.std.specs.Prelude.{ℕ, zero, suc, ◌+◌, ◌-◌, ◌*◌, ◌≤◌, ◌<◌, ◌≡◌, List, [], ◌∷◌, ◌++◌, Bool, true, false, eqb, leb, ltb, length, take, replicate}
use Rattle.kinds.specs.Kinds as k
use Rattle.shapes.specs.Sort as Sort
use Rattle.shapes.specs.Shapes.{EVENT, event, Owned, of_item, items_in, behind}
use Rattle.definition.specs.Run as P
use Rattle.definition.specs.Run.{Limits}
use Rattle.definition.specs.Render.{Source, numbers}
use Rattle.definition.specs.Buffer.{next_depth}
use Rattle.notes.specs.declared.names.Notes.{Notes}
use Rattle.notes.specs.Whole.{Whole}
use Rattle.notes.specs.Bits.{ifb}
use Rattle.notes.specs.Change.{with_ev, with_full}
use Rattle.notes.specs.Means.{Bufs, Past, Stands, recorded}
use Rattle.notes.specs.Did.{Wf}
use Rattle.steps.specs.Steps.{whole}
use Rattle.items.specs.declared.Desk.{Desk}
use Rattle.grammar.specs.Parts.{reach}

-- the state as a whole, and how many error events stand written
pub record Tally : Type 0 where
  pub state : Whole
  pub before : ℕ

-- the same of a desk with what is noted
abbrev pub tally : Desk → Notes → Tally
tally d n = record { state = whole d.state n; before = d.before }

-- an index of 32 bits can be counted up to here
abbrev pub most : ℕ
most = 4294967295

-- the error events of records at a depth d, the first with index i, where k numbers are still to be passed over
unfoldable pub notes : ℕ → ℕ → ℕ → List ℕ → List ℕ
notes d i (suc k) (a ∷ l) = notes d i k l
notes d i zero (a ∷ b ∷ form ∷ item ∷ n ∷ l) = elim (ltb i most) [ true ↦ event Sort.ERROR i a b d ++ notes d (suc i) (behind form n) l | false ↦ [] ]
notes d i zero (a ∷ b ∷ form ∷ item ∷ []) = []
notes d i zero (a ∷ b ∷ form ∷ []) = []
notes d i zero (a ∷ b ∷ []) = []
notes d i zero (a ∷ []) = []
notes d i k [] = []

-- numbers were written at the end of the events, if there was room
pub record Puts (q : List ℕ) (s r : Whole) (ev ev' : List ℕ) : Type 0 where
  pub is : r ≡ with_ev r.ev (with_full r.full s)
  pub stuck : (s.full ≡ 0 → ⊥) → r.full ≡ s.full
  pub filled : s.full ≡ 0 → r.full ≡ ifb (ltb s.evcap (s.ev + length q)) 7 0
  pub room : r.full ≡ 0 → s.full ≡ 0
  pub wrote : r.full ≡ 0 → take r.ev ev' ≡ take s.ev ev ++ q
  pub more : r.full ≡ 0 → r.ev ≡ s.ev + length q
  pub fits : r.ev ≤ s.evcap
  pub grows : s.ev ≤ r.ev
  pub long : length ev' ≡ length ev
  pub kept : take s.ev ev' ≡ take s.ev ev

-- the events of the records were written, all at the depth of the first, and counted
pub record Flushed (records : List ℕ) (before : ℕ) (s : Whole) (r : Tally) (ev ev' : List ℕ) : Type 0 where
  pub puts : Puts (notes (next_depth ev s.ev) before 0 records) s r.state ev ev'
  pub counted : EVENT * r.before ≡ EVENT * before + length (notes (next_depth ev s.ev) before 0 records)

abbrev pub with_item : ℕ → Whole → Whole
with_item n s = record { pos = s.pos; fuel = s.fuel; mode = s.mode; ev = s.ev; evcap = s.evcap; full = s.full; want = s.want; unwant = s.unwant; count = s.count; mask = s.mask; codes = s.codes; er = s.er; ercap = s.ercap; item = n; first = s.first; far = s.far; quote = s.quote; number = s.number }

abbrev pub with_number : ℕ → Whole → Whole
with_number n s = record { pos = s.pos; fuel = s.fuel; mode = s.mode; ev = s.ev; evcap = s.evcap; full = s.full; want = s.want; unwant = s.unwant; count = s.count; mask = s.mask; codes = s.codes; er = s.er; ercap = s.ercap; item = s.item; first = s.first; far = s.far; quote = s.quote; number = n }

-- "Pending errors .. are written as events": the chosen ones are written, and none is left
abbrev pub tell : P.Reader
tell a = P.mark (record { rest = a.rest; mode = a.mode; fuel = a.fuel; out = P.errors a.chosen a.out; want = a.want; unwant = a.unwant; chosen = []; cache = a.cache; begun = a.begun; drafts = a.drafts })

-- the limits, the rooms and the item's number, and what stands recorded
abbrev pub since : Past → List Owned → Past
since p l = record { limits = p.limits; event_room = p.event_room; error_room = p.error_room; records = l; number = p.number }

abbrev pub told : Past → Source → P.State → Past
told p x a = since p (p.records ++ of_item p.number (recorded p.limits x a.chosen))

-- as many error events stand written as there are records, and there are numbers left for those of the errors that are chosen
abbrev pub Numbered : Past → Whole → ℕ → P.State → Type 0
Numbered p s before a = s.full ≡ 0 → (before ≡ length p.records) × (before + length a.chosen ≤ most)

-- the chosen errors were written as events
pub record Tells (x : Source) (s : Whole) (before : ℕ) (r : Tally) (b b' : Bufs) : Type 0 where
  pub does : (p : Past) (a : P.State) → Stands p x s b a → Numbered p s before a → Stands (told p x a) x r.state b' (tell a)
  pub count : (p : Past) (a : P.State) → Stands p x s b a → Numbered p s before a → r.state.full ≡ 0 → r.before ≡ length (told p x a).records
  pub wf : Wf x b' r.state
  pub is : r.state ≡ with_item s.er (with_ev r.state.ev (with_full r.state.full s))
  pub room : r.state.full ≡ 0 → s.full ≡ 0
  pub grows : s.ev ≤ r.state.ev

-- "then an ERROR node up to the next of them .. without fuel"
abbrev pub junk_node : P.Reader
junk_node a =
    let n = length a.rest in
    let t = P.skip_to P.rule_keywords (P.emit (P.opened n) a) in
    P.emit (P.closed k.ERROR n (length t.rest)) t

-- with form 10's record
abbrev pub blamed : Past → Source → P.State → Past
blamed p x a = since p (p.records ++ of_item p.number (recorded p.limits x ((length a.rest, P.stray) ∷ [])))

-- form 10 can be numbered, and no error is pending
abbrev pub Free : Past → Whole → ℕ → P.State → Type 0
Free p s before a = s.full ≡ 0 → (a.chosen ≡ []) × (before ≡ length p.records) × (before < most)

-- a row that begins no item was written as an error
pub record Strays (x : Source) (s : Whole) (before : ℕ) (r : Tally) (b b' : Bufs) : Type 0 where
  pub does : (p : Past) (a : P.State) → Stands p x s b a → Free p s before a → Stands (blamed p x a) x r.state b' (P.stray_item a)
  pub count : (p : Past) (a : P.State) → Stands p x s b a → Free p s before a → r.state.full ≡ 0 → r.before ≡ length (blamed p x a).records
  pub wf : Wf x b' r.state
  pub room : r.state.full ≡ 0 → s.full ≡ 0
  pub first : r.state.first ≡ s.first
  pub ahead : s.pos ≤ r.state.pos

-- by the row at hand
abbrev pub at_hand : Limits → P.Reader
at_hand L a = P.item_at L (P.sought P.item_keywords a.rest) a

-- an item was read to c: what it recorded has its number, and the errors that are to be written now are few
pub record Handed (x : Source) (s : Whole) (before : ℕ) (r : Tally) (b' : Bufs) (p : Past) (c : P.State) : Type 0 where
  pub records : List Owned
  pub many : ℕ
  pub own : items_in records ≡ items_in p.records ++ replicate many p.number
  pub stands : Stands (since p records) x r.state b' c
  pub count : r.state.full ≡ 0 → r.before ≡ length records
  pub few : r.state.full ≡ 0 → r.before + length c.chosen ≤ before + (length x.ids - s.first) + 1

-- the row at hand was read, by the limits that a line is read by
pub record Hands (bounds : ℕ × Bool) (x : Source) (s : Whole) (before : ℕ) (r : Tally) (b b' : Bufs) : Type 0 where
  pub does : (p : Past) (a : P.State) → reach p.limits ≡ bounds → Stands p x s b a → Free p s before a → Handed x s before r b' p (at_hand p.limits a)
  pub wf : Wf x b' r.state
  pub room : r.state.full ≡ 0 → s.full ≡ 0
  pub first : r.state.first ≡ s.first
  pub ahead : s.pos ≤ r.state.pos

-- "between items it holds position, fuel and outputs only"
abbrev pub settled : Whole → Whole
settled s = record { pos = s.pos; fuel = s.fuel; mode = ifb (eqb s.mode 1) 0 s.mode; ev = s.ev; evcap = s.evcap; full = s.full; want = 0; unwant = 0; count = s.count; mask = s.mask; codes = s.codes; er = s.er; ercap = s.ercap; item = s.item; first = s.pos; far = s.pos; quote = s.quote; number = s.number }

abbrev pub Settled : Whole → Type 0
Settled s = (s.item ≡ s.er) × (s.first ≡ s.pos)

-- no item is to be read: a room was exceeded, the reader stopped, or no row of n is left
abbrev pub over : ℕ → Whole → Bool
over n s = ifb (eqb s.full 0) (ifb (eqb s.mode 0) (leb n s.pos) true) true

-- what is behind the items before: the limits, the rooms, the records, and the number of the last of them
abbrev pub past_of : Limits → ℕ → ℕ → List Owned → ℕ → Past
past_of L E R l n = record { limits = L; event_room = E; error_room = R; records = l; number = n }

-- between two items, L being the limits, E and R the rooms, ns the numbers of the items of the records before. Each item takes a row and brings at most one record for each row that is left from its first on, and
-- for the source's end; so the records before row `pos` can be numbered by 32 bits
pub record Between (L : Limits) (E R : ℕ) (ns : List ℕ) (x : Source) (d : Tally) (b : Bufs) (a : P.State) : Type 0 where
  pub records : List Owned
  pub last : ℕ
  pub own : d.state.full ≡ 0 → items_in records ≡ ns
  pub stands : Stands (past_of L E R records last) x d.state b a
  pub count : d.state.full ≡ 0 → d.before ≡ length records
  pub few : d.state.full ≡ 0 → d.state.mode ≡ 0 → (d.state.pos ≡ 0 → d.before ≡ 0) × (d.before ≤ d.state.pos * 65536 + 1)

-- from between two items to between two items, n of them being read, the first with number i, by the limits that a line is read by
pub record Goes (bounds : ℕ × Bool) (i n : ℕ) (x : Source) (d r : Tally) (b b' : Bufs) : Type 0 where
  pub does : (L : Limits) (E R : ℕ) (ns : List ℕ) (a : P.State) → reach L ≡ bounds → Between L E R ns x d b a → Between L E R (ns ++ numbers L n i a) x r b' (P.items L n a)
  pub wf : Wf x b' r.state
  pub settles : Settled r.state

-- before the first item
abbrev pub blank : ℕ → ℕ → Desk
blank fuel evcap = record { state = record { pos = 0; ev = 0; evcap = evcap; fuel = fuel; mode = record { number = 0 }; full = record { number = 0 } }; before = 0 }

-- where nothing is noted but how many numbers of error records may be written, and how long a text may be to be quoted
abbrev pub clean : ℕ → ℕ → Notes
clean room long = record { want = 0; unwant = 0; count = 0; mask = 0; er = 0; ercap = room; item = 0; first = 0; far = 0; quote = long; number = 0; codes = replicate 58 0 }
