use native.Mathlib.Omega.{arith}
use mathlib.Core.List.{[]}
use Rattle.notes.specs.Whole.{fresh}
use lib.ListN.{length}
use Rattle.steps.proofs.Taken.{ok_none}
use Rattle.steps.proofs.Eating.{eat_takes}
use Rattle.steps.proofs.state.State.take.Goals as goal

pub put-self-requires : goal.put-self-requires
put-self-requires c = ((c.trivia-self.ensures.0 [] fresh (ok_none (length c.args.rows.now.ids.now) c.args.self (omega (arith, c.requires.3.ahead, c.requires.3.within)) c.requires.1.0)).ok.2.events, (c.trivia-self.ensures.0 [] fresh (ok_none (length c.args.rows.now.ids.now) c.args.self (omega (arith, c.requires.3.ahead, c.requires.3.within)) c.requires.1.0)).fits)

pub returns : goal.returns
returns c = λ S N h bytes n w. eat_takes S N c.requires.2 _ _ c.start_of-start.result c.requires.0 w c.requires.3 c.requires.4 h c.start_of-start.ensures (c.trivia-self.ensures.0 bytes n w) (c.put-self.ensures n)
