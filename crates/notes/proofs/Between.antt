-- What changes of what is noted between two items.
use Prim.Native.Nat.{ℕ}
use Rattle.notes.specs.Whole.{Whole}

-- between two items: the records of the item at hand begin elsewhere, and nothing is left of the item before but them
abbrev pub item_at : ℕ → Whole → Whole
item_at v w = record { pos = w.pos; fuel = w.fuel; mode = w.mode; ev = w.ev; evcap = w.evcap; full = w.full; want = w.want; unwant = w.unwant; count = w.count; mask = w.mask; codes = w.codes; er = w.er; ercap = w.ercap; item = v; first = w.first; far = w.far; quote = w.quote; number = w.number }

abbrev pub number_at : ℕ → Whole → Whole
number_at v w = record { pos = w.pos; fuel = w.fuel; mode = w.mode; ev = w.ev; evcap = w.evcap; full = w.full; want = w.want; unwant = w.unwant; count = w.count; mask = w.mask; codes = w.codes; er = w.er; ercap = w.ercap; item = w.item; first = w.first; far = w.far; quote = w.quote; number = v }

abbrev pub resting_at : ℕ → Whole → Whole
resting_at v w = record { pos = w.pos; fuel = w.fuel; mode = w.mode; ev = w.ev; evcap = w.evcap; full = w.full; want = 0; unwant = 0; count = w.count; mask = w.mask; codes = w.codes; er = w.er; ercap = w.ercap; item = w.item; first = v; far = v; quote = w.quote; number = w.number }
