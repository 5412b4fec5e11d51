-- The modes by their numbers, and what a start stands for.
use Rattle.std.specs.Prelude.{ℕ, ◌+◌, ◌*◌, get_or}
use Rattle.tokens.specs.Expr.{Tokens}
use Rattle.tokens.specs.Table.{class_table}
use Rattle.tokens.specs.States.{label}
use Rattle.tokens.specs.declared.mode.Mode.{Mode}
use Rattle.tokens.specs.declared.mode.Mode.TheVariants.{Normal, Hex, Jump}
use Rattle.tokens.specs.declared.mode.Start.{Start}

abbrev pub number : Mode → ℕ
number Normal = 0
number Hex = 1
number Jump = 2

-- a byte's entry in the table of classes
abbrev pub entry : ℕ → ℕ → ℕ
entry m b = get_or class_table (m * 256 + b) 0

abbrev pub mode : Start → ℕ
mode x = number x.mode

-- what may still match
abbrev pub tokens : Start → Tokens
tokens x = label x.state
