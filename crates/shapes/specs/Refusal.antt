-- The refusals of documents 01 and 02 by their numbers. 5 is not used again once import and include rows are read.
use Rattle.std.specs.Prelude.{ℕ}
use Rattle.shapes.specs.declared.refusal.Refusal.{Refusal}
use Rattle.shapes.specs.declared.refusal.Refusal.TheVariants as R

-- The reader's: a source or a list too long, lists of different lengths, an id that is none, rows that do not tile, an import or include row, too little
-- scratch; then no room for events and for error records.
abbrev pub LONG : ℕ
LONG = 1

abbrev pub UNEQUAL : ℕ
UNEQUAL = 2

abbrev pub ID : ℕ
ID = 3

abbrev pub TILES : ℕ
TILES = 4

abbrev pub IMPORT : ℕ
IMPORT = 5

abbrev pub SCRATCH : ℕ
SCRATCH = 6

abbrev pub EVENTS : ℕ
EVENTS = 7

abbrev pub ERRORS : ℕ
ERRORS = 8

-- The merger's: no list of events; an ERROR end with none open, or an ERROR begin never closed.
abbrev pub MALFORMED : ℕ
MALFORMED = 9

abbrev pub UNPAIRED : ℕ
UNPAIRED = 10

-- Messages: an error record that does not read, no room for the text.
abbrev pub RECORD : ℕ
RECORD = 11

abbrev pub TEXT : ℕ
TEXT = 12

-- No room for the rows that were cut.
abbrev pub ROWS : ℕ
ROWS = 13

-- Rules and outline: no room for the list; events that do not nest, or a rule without a name.
abbrev pub RULES : ℕ
RULES = 14

abbrev pub NESTING : ℕ
NESTING = 15

-- Listings: no listing of edition 1 or 2, no room for it.
abbrev pub LISTING : ℕ
LISTING = 16

abbrev pub OUTPUT : ℕ
OUTPUT = 17

-- Settings and days: an edition that is none, a settings line and a day line that do not read.
abbrev pub EDITION : ℕ
EDITION = 18

abbrev pub SETTINGS : ℕ
SETTINGS = 19

abbrev pub DAY : ℕ
DAY = 20

-- the number of each
abbrev pub number : Refusal → ℕ
number R.Long = LONG
number R.Unequal = UNEQUAL
number R.Id = ID
number R.Tiles = TILES
number R.Scratch = SCRATCH
number R.Events = EVENTS
number R.Errors = ERRORS
number R.Malformed = MALFORMED
number R.Unpaired = UNPAIRED
number R.Record = RECORD
number R.Text = TEXT
number R.Rows = ROWS
number R.Rules = RULES
number R.Nesting = NESTING
number R.Listing = LISTING
number R.Output = OUTPUT
number R.Edition = EDITION
number R.Settings = SETTINGS
number R.Day = DAY
