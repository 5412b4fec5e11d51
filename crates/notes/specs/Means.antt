-- What the state and the lent lists stand for in the definition.
use Rattle.std.specs.Prelude.{ℕ, zero, suc, ◌+◌, ◌-◌, ◌≤◌, ◌<◌, ◌≡◌, List, [], ◌∷◌, ◌++◌, map, false, ltb, length, get_or, take, drop}
use Rattle.std.proofs.Math.Option.{Option, none, some}
use Rattle.definition.specs.Run as P
use Rattle.definition.specs.Run.{Event, Choice, Mode, ok, failed, stopped, spent, deep, Limits}
use Rattle.definition.specs.Buffer.{buffer}
use Rattle.definition.specs.Render.{Source, record_of, records, over, used}
use Rattle.kinds.specs.Sets.{set_of, ids_of}
use Rattle.shapes.specs.Shapes.{EVENT, Rec, Owned, flat_records, of_item, bare}
use Rattle.notes.specs.Whole.{Whole}
use Rattle.notes.specs.Bits.{ifb, Cached}

-- starts are not kept: a row begins where the one before it ends
abbrev pub source : List ℕ → List ℕ → List ℕ → Source
source bytes ids ends = record { bytes = bytes; ids = ids; ends = ends }

pub record Bufs : Type 0 where
  pub events : List ℕ
  pub errors : List ℕ
  pub scratch : List ℕ

abbrev pub bufs : List ℕ → List ℕ → List ℕ → Bufs
bufs a b c = record { events = a; errors = b; scratch = c }

-- what stays throughout an item: the limits, the rooms, the records of the items before with their numbers, and the item's own
pub record Past : Type 0 where
  pub limits : Limits
  pub event_room : ℕ
  pub error_room : ℕ
  pub records : List Owned
  pub number : ℕ

-- what a step on events must know of the rows
pub record Lines (ids ends : List ℕ) : Type 0 where
  pub level : length ends ≡ length ids
  pub few : length ids ≤ 65536
  pub known : (k : ℕ) → get_or ids k 0 < 82
  pub rising : (k : ℕ) → k < length ids → get_or (0 ∷ ends) k 0 < get_or ends k 0

-- the rows tile the source
pub record Rows (x : Source) : Type 0 where
  pub lines : Lines x.ids x.ends
  pub small : length x.bytes ≤ 1048576
  pub whole : get_or (0 ∷ x.ends) (length x.ids) 0 ≡ length x.bytes

abbrev pub mode_of : ℕ → Mode
mode_of zero = ok
mode_of (suc zero) = failed
mode_of (suc (suc zero)) = stopped spent
mode_of (suc (suc (suc n))) = stopped deep

-- a row of n in the code is one more than its index, or 0 for none; the definition counts from the end
abbrev pub want_of : ℕ → ℕ → List ℕ → Option (ℕ × List ℕ)
want_of n zero l = none
want_of n (suc p) l = some (n - p, l)

abbrev pub unwant_of : ℕ → ℕ → Option ℕ
unwant_of n zero = none
unwant_of n (suc p) = some (n - p)

-- the records of pending errors
unfoldable pub recorded : Limits → Source → List (ℕ × Choice) → List Rec
recorded L x [] = []
recorded L x (e ∷ es) = record_of L x e.0 e.1 ∷ recorded L x es

-- each at a row of its own, none before the item's first
abbrev pub Apart : ℕ → List (ℕ × Choice) → Type 0
Apart n [] = Unit
Apart n (e ∷ es) = (e.0 ≤ n) × (P.pending e.0 es ≡ false) × Apart n es

-- "A name is a token id or one of" three descriptions: a code is a set's number, for the set's ids, or 55 to 57 for the three
unfoldable pub names_of : ℕ → List ℕ
names_of c = ifb (ltb c 55) (ids_of (set_of c)) ((c + 27) ∷ [])

-- "names stand in order of first entry, none twice": the names that codes stand for
abbrev pub spelled_on : List ℕ → List ℕ → List ℕ
spelled_on l [] = l
spelled_on l (c ∷ cs) = spelled_on (P.join l (names_of c)) cs

abbrev pub spelled : List ℕ → List ℕ
spelled cs = spelled_on [] cs

abbrev pub names_in : Whole → List ℕ
names_in s = spelled (take s.count s.codes)

pub record Written (x : Source) (p : Past) (ev evcap : ℕ) (events : List ℕ) (out : List Event) : Type 0 where
  pub is : take ev events ≡ buffer x out
  pub past : records p.limits x out [] ≡ bare p.records
  pub room : p.event_room ≡ evcap + EVENT

pub record Chosen (x : Source) (p : Past) (first er ercap item quote number : ℕ) (errors : List ℕ) (chosen : List (ℕ × Choice)) : Type 0 where
  pub is : take er errors ≡ flat_records (p.records ++ of_item p.number (recorded p.limits x chosen))
  pub since : item ≡ length (flat_records p.records)
  pub room : p.error_room ≡ ercap
  pub quoted : p.limits.quote ≡ quote
  pub numbered : p.number ≡ number
  pub apart : Apart (length x.ids - first) chosen

pub record Means (p : Past) (x : Source) (s : Whole) (b : Bufs) (a : P.State) : Type 0 where
  pub rest : a.rest ≡ drop s.pos x.ids
  pub mode : a.mode ≡ mode_of s.mode
  pub fuel : a.fuel ≡ s.fuel
  pub written : Written x p s.ev s.evcap b.events a.out
  pub want : a.want ≡ want_of (length x.ids) s.want (names_in s)
  pub unwant : a.unwant ≡ unwant_of (length x.ids) s.unwant
  pub chosen : Chosen x p s.first s.er s.ercap s.item s.quote s.number b.errors a.chosen
  pub cache : Cached (length x.ids) s.first s.far b.scratch a.cache

-- which room was exceeded first so far, 7 or 8, or 0
unfoldable pub over_of : Past → Source → P.State → ℕ
over_of p x a = over p.event_room p.error_room (map (used p.limits x) a.drafts)

-- the state stands for a: until a room is exceeded it means a, and from then on it only knows which room
pub record Stands (p : Past) (x : Source) (s : Whole) (b : Bufs) (a : P.State) : Type 0 where
  pub over : s.full ≡ over_of p x a
  pub means : s.full ≡ 0 → Means p x s b a
