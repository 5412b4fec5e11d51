-- `fmt` has written the numbers before the index.
use Rattle.std.proofs.Common.{◌∷◌, flat_map, decimal, take}
use Rattle.std.specs.Fmt.{HasWritten, IsPlainFormatter}
use Rattle.console.proofs.NumbersDisplay.fmt.Given as goal

abbrev pub invariant-loop-n : goal.invariant-loop-n
invariant-loop-n g l =
    IsPlainFormatter l.initial.f → HasWritten g.W.Write.write_str_gives l.initial.f (flat_map (λ n. 32 ∷ decimal n) (take l.n-index l.n-items)) l.f
