use Rattle.steps.proofs.Taken.{put_at}
use Rattle.steps.proofs.state.State.put.Goals as goal

pub returns : goal.returns
returns c = λ n. put_at c.around-depth.result c.args.self.ev c.around-depth.ensures (c.write.ensures n)
