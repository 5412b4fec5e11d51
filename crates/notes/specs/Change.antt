-- Changes of one part of the state.
use Rattle.std.specs.Prelude.{ℕ, List, eqb}
use Rattle.notes.specs.Bits.{ifb}
use Rattle.notes.specs.Whole.{Whole}

abbrev pub with_pos : ℕ → Whole → Whole
with_pos n s = record { pos = n; fuel = s.fuel; mode = s.mode; ev = s.ev; evcap = s.evcap; full = s.full; want = s.want; unwant = s.unwant; count = s.count; mask = s.mask; codes = s.codes; er = s.er; ercap = s.ercap; item = s.item; first = s.first; far = s.far; quote = s.quote; number = s.number }

abbrev pub with_mode : ℕ → Whole → Whole
with_mode n s = record { pos = s.pos; fuel = s.fuel; mode = n; ev = s.ev; evcap = s.evcap; full = s.full; want = s.want; unwant = s.unwant; count = s.count; mask = s.mask; codes = s.codes; er = s.er; ercap = s.ercap; item = s.item; first = s.first; far = s.far; quote = s.quote; number = s.number }

abbrev pub with_fuel : ℕ → Whole → Whole
with_fuel n s = record { pos = s.pos; fuel = n; mode = s.mode; ev = s.ev; evcap = s.evcap; full = s.full; want = s.want; unwant = s.unwant; count = s.count; mask = s.mask; codes = s.codes; er = s.er; ercap = s.ercap; item = s.item; first = s.first; far = s.far; quote = s.quote; number = s.number }

abbrev pub with_ev : ℕ → Whole → Whole
with_ev n s = record { pos = s.pos; fuel = s.fuel; mode = s.mode; ev = n; evcap = s.evcap; full = s.full; want = s.want; unwant = s.unwant; count = s.count; mask = s.mask; codes = s.codes; er = s.er; ercap = s.ercap; item = s.item; first = s.first; far = s.far; quote = s.quote; number = s.number }

abbrev pub with_er : ℕ → Whole → Whole
with_er n s = record { pos = s.pos; fuel = s.fuel; mode = s.mode; ev = s.ev; evcap = s.evcap; full = s.full; want = s.want; unwant = s.unwant; count = s.count; mask = s.mask; codes = s.codes; er = n; ercap = s.ercap; item = s.item; first = s.first; far = s.far; quote = s.quote; number = s.number }

abbrev pub with_full : ℕ → Whole → Whole
with_full n s = record { pos = s.pos; fuel = s.fuel; mode = s.mode; ev = s.ev; evcap = s.evcap; full = n; want = s.want; unwant = s.unwant; count = s.count; mask = s.mask; codes = s.codes; er = s.er; ercap = s.ercap; item = s.item; first = s.first; far = s.far; quote = s.quote; number = s.number }

abbrev pub with_far : ℕ → Whole → Whole
with_far n s = record { pos = s.pos; fuel = s.fuel; mode = s.mode; ev = s.ev; evcap = s.evcap; full = s.full; want = s.want; unwant = s.unwant; count = s.count; mask = s.mask; codes = s.codes; er = s.er; ercap = s.ercap; item = s.item; first = s.first; far = n; quote = s.quote; number = s.number }

abbrev pub with_wants : ℕ → ℕ → Whole → Whole
with_wants w u s = record { pos = s.pos; fuel = s.fuel; mode = s.mode; ev = s.ev; evcap = s.evcap; full = s.full; want = w; unwant = u; count = s.count; mask = s.mask; codes = s.codes; er = s.er; ercap = s.ercap; item = s.item; first = s.first; far = s.far; quote = s.quote; number = s.number }

abbrev pub with_codes : ℕ → ℕ → List ℕ → Whole → Whole
with_codes n m l s = record { pos = s.pos; fuel = s.fuel; mode = s.mode; ev = s.ev; evcap = s.evcap; full = s.full; want = s.want; unwant = s.unwant; count = n; mask = m; codes = l; er = s.er; ercap = s.ercap; item = s.item; first = s.first; far = s.far; quote = s.quote; number = s.number }

-- a state at a place, with room for events up to cap
abbrev pub standing : ℕ → ℕ → ℕ → ℕ → Whole → Whole
standing p e cap f s = record { pos = p; fuel = s.fuel; mode = s.mode; ev = e; evcap = cap; full = f; want = s.want; unwant = s.unwant; count = s.count; mask = s.mask; codes = s.codes; er = s.er; ercap = s.ercap; item = s.item; first = s.first; far = s.far; quote = s.quote; number = s.number }

-- a place to come back to: position and events
abbrev pub mark_of : Whole → ℕ × ℕ
mark_of s = (s.pos, s.ev)

-- back at a mark
abbrev pub gone : ℕ × ℕ → Whole → Whole
gone m s = with_pos m.0 (with_ev m.1 s)

-- back at a mark, a failure forgotten
abbrev pub undone_to : ℕ × ℕ → Whole → Whole
undone_to m s = with_mode (ifb (eqb s.mode 1) 0 s.mode) (gone m s)
