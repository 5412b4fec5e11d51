-- `class_in` meets its contract: the ranges that are left decide.
use mathlib.Core.Path.{◌≡◌}
use lib.ListN.{drop}
use Rattle.tokens.specs.Classes.{class_in}
use Rattle.tokens.specs.Decoded.{flat}
use Rattle.tokens.proofs.lookup.class_in.Given as goal

abbrev pub invariant-loop-low : goal.invariant-loop-low
invariant-loop-low l = class_in (flat (drop l.low-index l.ranges)) l.x ≡ class_in (flat l.ranges) l.x
