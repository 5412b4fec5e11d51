use Rattle.kinds.specs.Sets.{set_of}
use Rattle.steps.proofs.Ends.{swallows, both_of, ready}
use Rattle.steps.proofs.state.State.swallow.Goals as goal

pub end-requires : goal.end-requires
end-requires c = (((c.skip_to-self.ensures c.args.x.now.src.now c.args.lent.now.notes (c.begin-self.ensures c.args.x.now.src.now c.args.lent.now.notes c.requires.0).events.ok).ok, (c.skip_to-self.ensures c.args.x.now.src.now c.args.lent.now.notes (c.begin-self.ensures c.args.x.now.src.now c.args.lent.now.notes c.requires.0).events.ok).fits, (ready c.args.lent.now.errors.now c.requires.0 c.requires.1 c.requires.2 (c.begin-self.ensures c.args.x.now.src.now c.args.lent.now.notes c.requires.0) (c.skip_to-self.ensures c.args.x.now.src.now c.args.lent.now.notes (c.begin-self.ensures c.args.x.now.src.now c.args.lent.now.notes c.requires.0).events.ok)).0), (ready c.args.lent.now.errors.now c.requires.0 c.requires.1 c.requires.2 (c.begin-self.ensures c.args.x.now.src.now c.args.lent.now.notes c.requires.0) (c.skip_to-self.ensures c.args.x.now.src.now c.args.lent.now.notes (c.begin-self.ensures c.args.x.now.src.now c.args.lent.now.notes c.requires.0).events.ok)).1, (ready c.args.lent.now.errors.now c.requires.0 c.requires.1 c.requires.2 (c.begin-self.ensures c.args.x.now.src.now c.args.lent.now.notes c.requires.0) (c.skip_to-self.ensures c.args.x.now.src.now c.args.lent.now.notes (c.begin-self.ensures c.args.x.now.src.now c.args.lent.now.notes c.requires.0).events.ok)).2)

pub returns-clause-step : goal.returns-clause-step
returns-clause-step c = record { both = both_of c.requires.0 c.requires.1 c.requires.2 (λ sc w. swallows c.args.d c.args.optional (set_of c.args.set) sc w (c.begin-self.ensures c.args.x.now.src.now c.args.lent.now.notes c.requires.0) (c.skip_to-self.ensures c.args.x.now.src.now c.args.lent.now.notes (c.begin-self.ensures c.args.x.now.src.now c.args.lent.now.notes c.requires.0).events.ok) (λ v. c.end.ensures.step.shuts sc v)); scratch = c.end.ensures.step.scratch }
