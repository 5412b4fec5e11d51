-- By its shape.
use mathlib.Core.Bool.{true}
use Rattle.parts.specs.Reads.{reads}
use Rattle.parts.proofs.Lines.{Turns}
use Rattle.parts.proofs.part.many.Given as goal

abbrev pub invariant-loop-turn : goal.invariant-loop-turn
invariant-loop-turn g l = Turns (reads l.x.entrypoint l.d true g.P.Part.prog) l.x l.initial.s l.s l.initial.lent l.lent l.turns l.turn
