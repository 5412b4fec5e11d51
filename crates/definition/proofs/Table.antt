-- The tables, computed by the checker.
use lib.Dec.{T}
use Rattle.kinds.specs.Sets.{id_of}
use Rattle.utf8.specs.Utf8.{utf8}
use Rattle.definition.specs.Grammar.{grammar, kind}
use Rattle.definition.specs.Run.{read_item}
use Rattle.definition.specs.Table.{table}
use Rattle.definition.specs.Cases.{each, cases}

-- "P1 to P9 are proved of the definitions as a single table under a single claim."
pub small_files : T table
unfolding id_of utf8 grammar kind read_item
small_files = tt

-- the definition gives what a copy of the Rust gave that keeps empty ERROR nodes
pub outside_answers : T (each cases)
unfolding id_of utf8 grammar kind read_item
outside_answers = tt
