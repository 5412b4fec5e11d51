-- What `stableglow_read` left, `stableglow_rules` and `stableglow_outline` take: the first events of the buffer, merged or not, are never refused 9, nor 15
-- but for the node that the outline is asked for.
use Prim.Native.Nat.{ℕ, ◌*◌}
use mathlib.Core.Path.{◌≡◌, sym, ap, subst}
use mathlib.Core.List.{List}
use native.Mathlib.Omega.{arith}
use lib.ListN.{length, take}
use Rattle.shapes.specs.Shapes as W
use Rattle.shapes.specs.Shapes.{EVENT}
use Rattle.definition.specs.Answer.{Desk}
use Rattle.definition.specs.Merge.{finished}
use Rattle.definition.specs.Run.{base}
use Rattle.std.specs.Prelude.{Ok}
use Rattle.desk.specs.declared.read.Answered as code
use Rattle.desk.proofs.Demands.{Promised, read_given, read_list}
use Rattle.outline.specs.Shape.{events}
use Rattle.outline.specs.Rules.{rules, flat, fitting, returned, ruling}
use Rattle.outline.specs.Outline.{asked, outlined, outlining}
use Rattle.outline.proofs.Reader.{read_never_15, merged_never_15, read_outlines, merged_outlines}

-- a list that only its room can have refused, and an outline that only its room or the node asked for can
abbrev pub Lists : List ℕ → Type 0
Lists l = (room : List ℕ) → ruling l room ≡ returned room (fitting (length room) (length (rules (events l))) (flat (rules (events l))))

abbrev pub Outlines : List ℕ → Type 0
Outlines l = (at depth : ℕ) (room : List ℕ) → outlining l at depth room ≡ returned room (asked (events l) at (outlined (length room) depth))

-- d is what was lent to the reader, a its answer, ev what the buffer of events holds then
module _ (d : Desk) (a : code.Answered) {ev er sc : List ℕ} (p : Promised base d (Ok a) ev er sc) where
  abbrev l : List ℕ
  l = take (EVENT * a.events) ev

  pub read_lists : Lists l
  read_lists = subst Lists (sym (read_list base d a p)) (λ room. ap (returned room) (read_never_15 base (omega arith) d (read_given base d a p).0 (read_given base d a p).1 (length room)))

  pub read_outline : Outlines l
  read_outline = subst Outlines (sym (read_list base d a p)) (read_outlines base (omega arith) d (read_given base d a p).0 (read_given base d a p).1)

  -- the merged list has the same rules
  abbrev Same : List ℕ → Type 0
  Same l = (room : List ℕ) → ruling (W.flat (finished l)) room ≡ returned room (fitting (length room) (length (rules (events l))) (flat (rules (events l))))

  pub merged_lists : Same l
  merged_lists = subst Same (sym (read_list base d a p)) (λ room. ap (returned room) (merged_never_15 base (omega arith) d (read_given base d a p).0 (read_given base d a p).1 (length room)))

  pub merged_outline : Outlines (W.flat (finished l))
  merged_outline = subst (λ (l : List ℕ). Outlines (W.flat (finished l))) (sym (read_list base d a p)) (merged_outlines base (omega arith) d (read_given base d a p).0 (read_given base d a p).1)
