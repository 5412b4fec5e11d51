-- What the code's rows stand for, and what is known beside them. Only contracts of private functions cite this file.
use Rattle.std.specs.Prelude.{ℕ, ◌+◌, ◌-◌, ◌*◌, ◌%◌, ◌≤◌, ◌<◌, ◌≡◌, List, map, true, false, length, get_or, drop, None}
use Rattle.tokens.specs.Expr.{longest}
use Rattle.tokens.specs.Table.{key_table}
use Rattle.tokens.specs.States.{label, Run}
use Rattle.cutter.specs.Rows as r
use Rattle.cutter.specs.declared.place.Place.{Place}
use Rattle.cutter.specs.declared.place.Place.TheVariants.{Elsewhere, Named, Equated, InHex, InJump, Unclosed}
use Rattle.cutter.specs.declared.row.Row as d
use Rattle.cutter.specs.declared.memo.Memo.{Memo}
use Rattle.cutter.specs.declared.memo.Misses.{Misses}
use Rattle.cutter.specs.declared.turn.Turn.{Turn}

abbrev pub row_of : d.Row → r.Row
row_of x = (x.id, x.len, x.place)

-- a row that a mode matched; a row that none did
abbrev pub found : ℕ → ℕ → Place → d.Row
found id len p = record { id = id; len = len; place = p; misses = record { normal = false; hex = false } }

abbrev pub missed : ℕ → ℕ → d.Row
missed id len = record { id = id; len = len; place = Elsewhere; misses = record { normal = true; hex = false } }

-- the mode that cuts at a place
abbrev pub mode_at : Place → ℕ
mode_at Elsewhere = 0
mode_at Named = 0
mode_at Equated = 0
mode_at InHex = 1
mode_at InJump = 2
mode_at Unclosed = 0

-- the one keyword that a text can be, by its first and last letter and its length
abbrev pub slot_of : List ℕ → ℕ
slot_of text = get_or key_table (480 + (get_or text 0 0 + get_or text (length text - 1) 0 * 38 + length text % 128 * 29) % 128) 0

-- each list has room for the rows
pub record Room (source ids starts ends : List ℕ) : Type 0 where
  pub first : length (r.cutting source) ≤ length ids
  pub second : length (r.cutting source) ≤ length starts
  pub third : length (r.cutting source) ≤ length ends

pub record Filled (source ids starts ends ids' starts' ends' : List ℕ) : Type 0 where
  pub first : ids' ≡ r.put (map (λ x. x.0) (r.cutting source)) ids
  pub second : starts' ≡ r.put (map (λ x. x.1) (r.cutting source)) starts
  pub third : ends' ≡ r.put (map (λ x. x.2) (r.cutting source)) ends

pub record Holds (o : Memo) (s : List ℕ) : Type 0 where
  pub quote : Run 0 o.quote s
  pub slash : Run 0 o.slash s
  pub star : Run 0 o.star s
  pub hex : Run 1 o.hex s

-- what is followed stands at a byte of the source, no further than `at`
pub record Stands (o : Memo) (at : ℕ) (s : List ℕ) : Type 0 where
  pub until : o.from ≤ at
  pub holds : Holds o (drop o.from s)

-- nothing matches here in normal mode, in hex mode; states 1 and 2 stand for their expressions
pub record Known (x : Misses) (s : List ℕ) : Type 0 where
  pub normal : x.normal ≡ true → longest 0 (label 1) s ≡ None
  pub hex : x.hex ≡ true → longest 1 (label 2) s ≡ None

-- the code's row is the definition's; it has one byte at least and lies within the bytes; and what it says of the modes is so
pub record Made (x : d.Row) (want : r.Row) (s : List ℕ) : Type 0 where
  pub is : row_of x ≡ want
  pub some : 0 < x.len
  pub within : x.len ≤ length s
  pub known : Known x.misses s

abbrev pub Lost : List ℕ → Type 0
Lost s = longest 0 (label 1) s ≡ None

abbrev pub turn_of : Turn → r.Row
turn_of x = (x.id, x.len, x.place)
