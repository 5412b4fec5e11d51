-- The first k names are pasted in.
use Prim.Native.Nat.{ℕ, ◌+◌}
use mathlib.Core.Path.{sym, ap, ap₂, ◌∙◌}
use mathlib.Core.List.{List}
use native.Mathlib.Omega.{arith}
use native.Mathlib.Numerals.{add-one}
use lib.ListN.{length-set, set}
use lib.Seq.{paste, paste-suc}
use Rattle.choice.proofs.spell.Goals as goal

pub loop-k-preserved : goal.loop-k-preserved
loop-k-preserved c = let i = c.loop-k in (ap₂ (λ (l : List ℕ) (v : ℕ). set l (c.args.at + i.k) v) i.invariant.0 c.wide.ensures ∙ paste-suc c.args.errors.now c.args.at c.args.names.now i.k 0 (omega arith) (omega arith) ∙ ap (paste c.args.errors.now c.args.at c.args.names.now) (sym (add-one i.k)), simp length-set i.invariant.1)
