-- `renewed` meets its contract.
use native.Mathlib.Omega.{arith}
use Rattle.tokens.proofs.Runs.{hop_failed}
use Rattle.tokens.proofs.runner.renewed.Goals as goal

pub returns-then-fresh : goal.returns-then-fresh
returns-then-fresh c = record { small = c.requires.0; within = omega arith; hop = hop_failed c.args.mode c.args.start c.args.s.now (c.requires.2 c.if-fresh.true) }
