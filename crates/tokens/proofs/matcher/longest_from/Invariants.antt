-- `longest_from` meets its contract. The invariant: what the state may still match, from i on, decides.
use Prim.Native.Nat.{◌-◌, ◌≤◌, ◌<◌}
use mathlib.Core.Path.{◌≡◌}
use lib.ListN.{length, drop}
use Rattle.tokens.specs.Expr.{walk, longest}
use Rattle.tokens.specs.Modes.{number, tokens}
use Rattle.tokens.specs.States.{label, Inside}
use Rattle.tokens.proofs.matcher.longest_from.Given as goal

abbrev pub invariant-loop-i : goal.invariant-loop-i
invariant-loop-i l =
    (l.state < 88) × (l.i ≤ length l.s) × Inside l.best l.i
    × (walk (number l.start.mode) l.i 0 (label l.state) l.best (drop l.i l.s) ≡ longest (number l.start.mode) (tokens l.start) l.s)

abbrev pub decreases-loop-i : goal.decreases-loop-i
decreases-loop-i l = length l.s - l.i
