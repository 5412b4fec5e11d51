use native.Mathlib.Omega.{arith}
use mathlib.Core.List.{[]}
use lib.ListN.{length}
use Rattle.notes.specs.Means.{source}
use Rattle.notes.specs.Whole.{fresh}
use Rattle.steps.proofs.Taken.{ok_none}
use Rattle.steps.proofs.Nodes.{begins}
use Rattle.steps.proofs.state.State.begin.Goals as goal

pub start_of-start-requires : goal.start_of-start-requires
start_of-start-requires c = omega (arith, c.requires.0.level, (c.charge-self.ensures (source [] c.args.rows.now.ids.now c.args.rows.now.ends.now) fresh (c.trivia-self.ensures.0 [] fresh (ok_none (length c.args.rows.now.ids.now) c.args.self c.requires.2 c.requires.1.0)).ok).ok.0.here)

pub put-requires : goal.put-requires
put-requires c = ((c.charge-self.ensures (source [] c.args.rows.now.ids.now c.args.rows.now.ends.now) fresh (c.trivia-self.ensures.0 [] fresh (ok_none (length c.args.rows.now.ids.now) c.args.self c.requires.2 c.requires.1.0)).ok).ok.2.events, omega (arith, (c.charge-self.ensures (source [] c.args.rows.now.ids.now c.args.rows.now.ends.now) fresh (c.trivia-self.ensures.0 [] fresh (ok_none (length c.args.rows.now.ids.now) c.args.self c.requires.2 c.requires.1.0)).ok).evcap, (c.trivia-self.ensures.0 [] fresh (ok_none (length c.args.rows.now.ids.now) c.args.self c.requires.2 c.requires.1.0)).fits))

pub returns : goal.returns
returns c = λ bytes n w. begins c.args.d _ c.requires.0 (c.trivia-self.ensures.0 bytes n w) (c.charge-self.ensures (source bytes c.args.rows.now.ids.now c.args.rows.now.ends.now) n (c.trivia-self.ensures.0 bytes n w).ok) c.start_of-start.ensures (c.put.ensures n)
