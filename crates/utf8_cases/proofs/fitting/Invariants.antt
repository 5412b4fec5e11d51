-- `utf8_cases::fitting` does not count past the bytes that it has put.
use Prim.Native.Nat.{◌≤◌}
use Rattle.utf8_cases.proofs.fitting.Given as goal

abbrev pub invariant-loop-b : goal.invariant-loop-b
invariant-loop-b l = l.found ≤ l.b
