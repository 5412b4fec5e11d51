-- `messages::writing::put` meets its contract: the first k bytes of the text are pasted in.
use Prim.Native.Nat.{ℕ, ◌+◌}
use mathlib.Core.Path.{◌≡◌, refl, sym, ap, ◌∙◌}
use mathlib.Core.List.{List, ◌++◌, append_assoc}
use native.Mathlib.Nat.{le_refl}
use native.Mathlib.Omega.{arith}
use native.Mathlib.Numerals.{add-one}
use lib.ListN.{length, length-set, get_or, set, take, drop}
use lib.Seq.{paste, paste-suc, take_all}
use Rattle.messages.proofs.writing.put.Goals as goal

pub loop-k-preserved : goal.loop-k-preserved
loop-k-preserved c =
    let i = c.loop-k in
    (ap (λ (l : List ℕ). set l (c.args.at + i.k) (get_or c.args.text.now i.k 0)) i.invariant.0 ∙ paste-suc c.args.room.now c.args.at c.args.text.now i.k 0 (omega arith) (omega arith) ∙ ap (paste c.args.room.now c.args.at c.args.text.now) (sym (add-one i.k)), simp length-set i.invariant.1)

pub returns : goal.returns
returns c =
    let text = c.args.text.now in
    let all : c.loop-k.k ≡ length text = omega (arith, c.loop-k-test.false) in
    record {
      count = refl;
      within = c.requires;
      written =
          c.loop-k.invariant.0
          ∙ ap (paste c.args.room.now c.args.at text) all
          ∙ ap (λ (t : List ℕ). (take c.args.at c.args.room.now ++ t) ++ drop (c.args.at + length text) c.args.room.now) (take_all (length text) text (le_refl _))
          ∙ append_assoc (take c.args.at c.args.room.now) text (drop (c.args.at + length text) c.args.room.now);
    }
