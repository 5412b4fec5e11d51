-- What the code's answers stand for: the requests' number and values for each case.
use Rattle.std.specs.Prelude.{ℕ, suc, ◌-◌, List, ◌∷◌, length, get_or, Result, Ok, Err}
use Rattle.settings.specs.Settings.{Settings, bad, editions, Reply, bad_line, unknown, named, Grown, refusing}
use Rattle.settings.specs.declared.lines.Values.{Values}
use Rattle.settings.specs.declared.lines.BadLine.{BadLine}
use Rattle.settings.specs.declared.lines.ChooseError.{ChooseError}
use Rattle.settings.specs.declared.lines.ChooseError.TheVariants as choose_error
use Rattle.settings.specs.declared.adding.AddError.{AddError}
use Rattle.settings.specs.declared.adding.AddError.TheVariants as add_error

abbrev pub reply_of : Result Values ChooseError → Reply
reply_of (Ok v) = named v
reply_of (Err (choose_error.BadLine n)) = bad_line n
reply_of (Err choose_error.Unknown) = unknown

abbrev pub grown_of : Result ℕ AddError → List ℕ → Grown
grown_of (Ok n) room = record { number = 0; line = 0; count = n; room = room }
grown_of (Err (add_error.BadLine n)) room = refusing 19 n room
grown_of (Err add_error.Full) room = refusing 12 0 room

-- the last edition, and the values of the one that is asked for; first where it has no line
abbrev pub scan_of : ℕ → Values → Settings → Result (ℕ × Values) BadLine
scan_of edition first (bad n) = Err (record { 0 = n })
scan_of edition first (editions vs) = Ok (suc (length vs), get_or (first ∷ vs) (edition - 1) first)
