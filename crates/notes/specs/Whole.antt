-- The reader's state as a whole: the few numbers that every step hands on, and what is noted beside them.
use Rattle.std.specs.Prelude.{ℕ, List, [], replicate}
use Rattle.shapes.specs.declared.full.Full.{Full}
use Rattle.notes.specs.declared.names.Notes.{Notes}

pub record Whole : Type 0 where
  -- how many rows are covered
  pub pos : ℕ
  pub fuel : ℕ
  -- 0 in good order, 1 failed, 2 out of fuel, 3 too deep
  pub mode : ℕ
  -- how many numbers of events stand written, and how many may
  pub ev : ℕ
  pub evcap : ℕ
  -- 7 or 8 once a room was exceeded, 0 before
  pub full : ℕ
  -- the furthest row at which names were expected, and the furthest that was unexpected, one more than the index, 0 for none
  pub want : ℕ
  pub unwant : ℕ
  -- the codes of the names that were expected at `want`: how many, which as bits of a word, and in order
  pub count : ℕ
  pub mask : ℕ
  pub codes : List ℕ
  -- how many numbers of error records stand written, and how many may; those of the item at hand begin at `item`
  pub er : ℕ
  pub ercap : ℕ
  pub item : ℕ
  -- the item's first row, and the row up to before which failures are remembered
  pub first : ℕ
  pub far : ℕ
  -- how long a found text may be to be quoted
  pub quote : ℕ
  -- the number of the item at hand, from 1
  pub number : ℕ

-- a state with what is noted
abbrev pub beside : Notes → Whole → Whole
beside n s =
    record {
      pos = s.pos;
      fuel = s.fuel;
      mode = s.mode;
      ev = s.ev;
      evcap = s.evcap;
      full = s.full;
      want = n.want;
      unwant = n.unwant;
      count = n.count;
      mask = n.mask;
      codes = n.codes;
      er = n.er;
      ercap = n.ercap;
      item = n.item;
      first = n.first;
      far = n.far;
      quote = n.quote;
      number = n.number;
    }

-- nothing is noted
abbrev pub fresh : Notes
fresh = record { want = 0; unwant = 0; count = 0; mask = 0; er = 0; ercap = 0; item = 0; first = 0; far = 0; quote = 0; number = 0; codes = replicate 58 0 }

-- which room was exceeded, as a number: 0 for none
abbrev pub exceeded : Full → ℕ
exceeded f = f.number

-- a state that rests at a row, where only what is noted counts
abbrev pub resting : ℕ → Whole
resting p = record { pos = p; fuel = 0; mode = 0; ev = 0; evcap = 0; full = 0; want = 0; unwant = 0; count = 0; mask = 0; codes = []; er = 0; ercap = 0; item = 0; first = 0; far = 0; quote = 0; number = 0 }
