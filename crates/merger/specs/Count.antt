-- Refusal 10 and the size of the finished list, and the tally that finds them.
use Rattle.std.specs.Prelude.{ℕ, zero, suc, ◌+◌, ◌-◌, List, [], Bool, true, false, length, Option, Some, None}
use Rattle.definition.specs.Merge.{Mark, opens, joins, closes, keeps, paired, merge}
use Rattle.merger.specs.declared.judge.Tally.{Tally}

abbrev pub sized : Bool → ℕ → Option ℕ
sized true n = Some n
sized false n = None

abbrev pub counted : List Mark → Option ℕ
counted ms = sized (paired ms 0) (length (merge ms []))

abbrev pub tally_at : ℕ → ℕ → Tally
tally_at h n = record { nodes = h; left = n }

-- an end has its node
abbrev pub inside : ℕ → Tally → Option Tally
inside zero t = None
inside (suc h) t = Some t

-- a mark more; h nodes are open and n events left
abbrev pub tallied : Mark → ℕ → ℕ → Option Tally
tallied (opens d z) h n = Some (tally_at (h + 1) (n + 1))
tallied (joins z) h n = inside h (tally_at h n)
tallied (closes d) h n = inside h (tally_at (h - 1) (n + 1))
tallied (keeps e) h n = Some (tally_at h (n + 1))
