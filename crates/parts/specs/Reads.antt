-- What a production asks, and what it gives: its line is read, by the grammar.
use Rattle.std.specs.Prelude.{ℕ, ◌+◌, ◌*◌, ◌≡◌, Bool, ◌⊎◌}
use Rattle.kinds.specs.Kinds as k
use Rattle.definition.specs.Prog.{Prog}
use Rattle.definition.specs.Run as P
use Rattle.notes.specs.declared.reading.Given.{Given}
use Rattle.notes.specs.declared.reading.Lent.{Lent}
use Rattle.notes.specs.Reading.{source_of, bufs_of}
use Rattle.notes.specs.Did.{Wf, Did}
use Rattle.steps.specs.Steps.{whole}
use Rattle.steps.specs.declared.state.State.{State}

-- a part of a line, where E allows entrypoint and d more nodes may be opened
abbrev pub reads : Bool → ℕ → Bool → Prog → P.Reader
reads E d o p a = P.exec d (λ o b u. P.run E d o b u) p o a

-- a state that is well formed, with what is lent; that the rows tile and the sets' words are theirs, the type of what is given says
abbrev pub Asks : Given → State → Lent → Type 0
Asks x s l = Wf (source_of x) (bufs_of l) (whole s l.notes)

-- p was read, from s and l to r and m
abbrev pub Reads : ℕ → Bool → Prog → Given → State → Lent → State → Lent → Type 0
Reads d o p x s l r m = Did (reads x.entrypoint d o p) (source_of x) (whole s l.notes) (whole r m.notes) (bufs_of l) (bufs_of m)

-- "`cached` (EXPR, TERM)": the bit of a row
abbrev pub Bit : ℕ → ℕ → ℕ → Type 0
Bit a p i = ((a ≡ k.EXPR) × (i ≡ 2 * p)) ⊎ ((a ≡ k.TERM) × (i ≡ 2 * p + 1))
