-- What a step did: a well_formed state, and the definition's step where the state stood for the definition's.
use Rattle.std.specs.Prelude.{ℕ, ◌+◌, ◌*◌, ◌≤◌, ◌<◌, ◌≡◌, List, [], ◌∷◌, ◌++◌, Bool, true, false, eqb, ltb, length, take, drop}
use Rattle.shapes.specs.Shapes.{EVENT}
use Rattle.definition.specs.Run as P
use Rattle.definition.specs.Open.{Open}
use Rattle.definition.specs.Render.{Source}
use Rattle.notes.specs.declared.names.Notes.{Notes}
use Rattle.notes.specs.Whole.{Whole, beside, resting}
use Rattle.notes.specs.Change.{with_ev, with_full, with_codes}
use Rattle.notes.specs.Bits.{ifb, bit_at}
use Rattle.notes.specs.Means.{Bufs, bufs, Past, Stands, names_in}

-- places, all of rows: the item's first, the position, and the furthest ones
pub record Placed (n pos first far want unwant : ℕ) : Type 0 where
  pub here : pos ≤ n
  pub since : first ≤ pos
  pub far_in : far ≤ n + 1
  pub want_in : want ≤ n + 1
  pub want_since : (want ≡ 0 → ⊥) → first < want
  pub unwant_in : unwant ≤ n + 1
  pub unwant_since : (unwant ≡ 0 → ⊥) → first < unwant

abbrev pub Below : ℕ → List ℕ → Type 0
Below n [] = Unit
Below n (x ∷ l) = (x < n) × Below n l

abbrev pub Distinct : List ℕ → Type 0
Distinct [] = Unit
Distinct (x ∷ l) = (P.has l x ≡ false) × Distinct l

-- each code once, so there are never more than 58; the word has the bits of those that are there
pub record Named (count mask : ℕ) (codes : List ℕ) : Type 0 where
  pub few : count ≤ 58
  pub long : length codes ≡ 58
  pub below : Below 58 (take count codes)
  pub distinct : Distinct (take count codes)
  pub marked : (c : ℕ) → c < 58 → bit_at (mask ∷ []) c ≡ P.has (take count codes) c

-- the same of what is noted
abbrev pub Coded : Notes → Type 0
Coded n = Named n.count n.mask n.codes

pub record Counted (ev evcap item er ercap number : ℕ) : Type 0 where
  pub events : ev ≤ evcap
  pub since : item ≤ er
  pub errors : er ≤ ercap
  pub numbered : number ≤ 65536

-- a state that is well formed among n rows; parts that a change leaves alone are the same by computing
abbrev pub Ok : ℕ → Whole → Type 0
Ok n s = Placed n s.pos s.first s.far s.want s.unwant × Named s.count s.mask s.codes × Counted s.ev s.evcap s.item s.er s.ercap s.number

-- the same of what is noted alone, at the item's first row
abbrev pub Sound : ℕ → Notes → Type 0
Sound n l = Ok n (beside l (resting l.first))

pub record Roomy (n evcap ercap lev ler lsc : ℕ) : Type 0 where
  pub events : evcap ≤ lev
  pub errors : ercap ≤ ler
  pub scratch : 2 * (n + 1) ≤ 64 * lsc

abbrev pub Wf : Source → Bufs → Whole → Type 0
Wf x b s = Ok (length x.ids) s × Roomy (length x.ids) s.evcap s.ercap (length b.events) (length b.errors) (length b.scratch)

-- what a step from s to r did to the lists: f; and what stood written before stays, for going back
pub record Did (f : P.Reader) (x : Source) (s r : Whole) (b b' : Bufs) : Type 0 where
  pub does : (p : Past) (a : P.State) → Stands p x s b a → Stands p x r b' (f a)
  pub wf : Wf x b' r
  pub room : r.full ≡ 0 → s.full ≡ 0
  pub first : r.first ≡ s.first
  pub ahead : s.pos ≤ r.pos
  pub grows : s.ev ≤ r.ev
  pub kept : take s.ev b'.events ≡ take s.ev b.events

-- a step that touches no list but the events
pub record Events (f : P.Reader) (x : Source) (s r : Whole) (ev ev' : List ℕ) : Type 0 where
  pub did : (er sc : List ℕ) → Wf x (bufs ev er sc) s → Did f x s r (bufs ev er sc) (bufs ev' er sc)
  pub ok : Ok (length x.ids) r
  pub fits : r.evcap ≤ length ev'
  pub first : r.first ≡ s.first
  pub grows : s.ev ≤ r.ev

-- a step that touches no list but the errors
pub record Errors (f : P.Reader) (x : Source) (s r : Whole) (er er' : List ℕ) : Type 0 where
  pub did : (ev sc : List ℕ) → Wf x (bufs ev er sc) s → Did f x s r (bufs ev er sc) (bufs ev er' sc)
  pub ok : Ok (length x.ids) r
  pub fits : r.ercap ≤ length er'
  pub evcap : r.evcap ≡ s.evcap
  pub place : r.pos ≡ s.pos
  pub still : r.ev ≡ s.ev
  pub room : r.full ≡ 0 → s.full ≡ 0

-- a step that touches no list
pub record Plain (f : P.Reader) (x : Source) (s r : Whole) : Type 0 where
  pub did : (b : Bufs) → Wf x b s → Did f x s r b b
  pub ok : Ok (length x.ids) r
  pub evcap : r.evcap ≡ s.evcap
  pub ercap : r.ercap ≡ s.ercap
  pub first : r.first ≡ s.first
  pub place : r.pos ≡ s.pos
  pub still : r.ev ≡ s.ev

-- a node that began at row `from`, its begin event before `at`, is closed by f
pub record Shuts (f : P.Reader) (at : ℕ) (x : Source) (s r : Whole) (b b' : Bufs) : Type 0 where
  pub does : (p : Past) (a : P.State) → (s.full ≡ 0 → Open at a.out) → Stands p x s b a → Stands p x r b' (f a)
  pub wf : Wf x b' r
  pub room : r.full ≡ 0 → s.full ≡ 0
  pub first : r.first ≡ s.first
  pub ahead : s.pos ≤ r.pos
  pub grows : s.ev ≤ r.ev
  pub kept : (k : ℕ) → k ≤ s.ev → (s.full ≡ 0 → k + EVENT ≤ at) → take k b'.events ≡ take k b.events

-- a node was begun: its event is there, if there is room
pub record Began (d : ℕ) (x : Source) (s r : Whole) (ev ev' : List ℕ) : Type 0 where
  pub events : Events (P.begin d) x s r ev ev'
  pub opens : r.full ≡ 0 → s.ev + EVENT ≤ r.ev

-- a step on events and errors
pub record Both (f : P.Reader) (x : Source) (s r : Whole) (ev ev' er er' : List ℕ) : Type 0 where
  pub did : (sc : List ℕ) → Wf x (bufs ev er sc) s → Did f x s r (bufs ev er sc) (bufs ev' er' sc)
  pub ok : Ok (length x.ids) r
  pub event_fits : r.evcap ≤ length ev'
  pub error_fits : r.ercap ≤ length er'

-- numbers were written at a place, if there was room for an event up to cap
pub record Penned (q : List ℕ) (at cap full at' full' : ℕ) (ev ev' : List ℕ) : Type 0 where
  pub stuck : (full ≡ 0 → ⊥) → full' ≡ full
  pub filled : full ≡ 0 → full' ≡ ifb (ltb cap (at + EVENT)) 7 0
  pub room : full' ≡ 0 → full ≡ 0
  pub wrote : full' ≡ 0 → take at' ev' ≡ take at ev ++ q
  pub more : full' ≡ 0 → at' ≡ at + EVENT
  pub fits : at' ≤ cap
  pub grows : at ≤ at'
  pub long : length ev' ≡ length ev
  pub kept : take at ev' ≡ take at ev

-- numbers were written at the end of the events, if there was room for an event
pub record Put (q : List ℕ) (s r : Whole) (ev ev' : List ℕ) : Type 0 where
  pub is : r ≡ with_ev r.ev (with_full r.full s)
  pub stuck : (s.full ≡ 0 → ⊥) → r.full ≡ s.full
  pub filled : s.full ≡ 0 → r.full ≡ ifb (ltb s.evcap (s.ev + EVENT)) 7 0
  pub room : r.full ≡ 0 → s.full ≡ 0
  pub wrote : r.full ≡ 0 → take r.ev ev' ≡ take s.ev ev ++ q
  pub more : r.full ≡ 0 → r.ev ≡ s.ev + EVENT
  pub fits : r.ev ≤ s.evcap
  pub grows : s.ev ≤ r.ev
  pub long : length ev' ≡ length ev
  pub kept : take s.ev ev' ≡ take s.ev ev

-- the definition's closing of a node that began at row n
abbrev pub shut_a : ℕ → ℕ → P.Reader
shut_a kind n a = P.emit (P.closed kind n (length a.rest)) a

-- all but the codes is as it was, and l are the names
pub record Enters (l : List ℕ) (s r : Whole) : Type 0 where
  pub is : r ≡ with_codes r.count r.mask r.codes s
  pub names : names_in r ≡ l
  pub named : Named r.count r.mask r.codes

-- r is the next row past trivia from p on
pub record Peeked (ids : List ℕ) (p r : ℕ) : Type 0 where
  pub ahead : p ≤ r
  pub within : r ≤ length ids
  pub rest : drop r ids ≡ P.skip (drop p ids)

-- whether the next row is one of the set
abbrev pub hits : P.Next → Bool
hits P.end = false
hits P.other = false
hits (P.hit a is) = true

-- in good order a row of the set stands next past trivia
abbrev pub ahead : List ℕ → List ℕ → Whole → Bool
ahead S ids s = ifb (eqb s.mode 0) (hits (P.next S (drop s.pos ids))) false
