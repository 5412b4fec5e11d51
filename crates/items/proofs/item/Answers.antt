-- `items::item` meets its contract. Assumes nothing.
use mathlib.Core.Path.{sym, ap, subst, ◌∙◌}
use mathlib.Core.List.{List}
use Prim.Native.Nat.{ℕ, ◌*◌, ◌≤◌}
use lib.ListN.{length}
use Rattle.notes.specs.Bits.{Forgot}
use Rattle.notes.specs.Means.{bufs}
use Rattle.notes.specs.Reading.{source_of, bufs_of}
use Rattle.steps.specs.Steps.{whole}
use Rattle.items.specs.Items.{tally, Goes}
use Rattle.items.proofs.Between.{idles, more, noting, item_wf, item_goes, settle_asks}
use Rattle.items.proofs.item.Goals as goal

pub returns-then-over-clause-read : goal.returns-then-over-clause-read
returns-then-over-clause-read c = idles c.requires.0 c.requires.1 c.args.number 1 (sym c.over.ensures ∙ c.if-over.true)

pub at_hand-h-requires : goal.at_hand-h-requires
at_hand-h-requires c = let w = item_wf c.args.number (source_of c.args.x.now) (bufs_of c.args.lent.now) (whole c.args.d.state c.args.lent.now.notes) c.args.x.now.tiled c.requires.2 c.requires.0 in ((c.trivia-t.ensures.0 c.args.x.now.src.now (noting c.args.number c.args.lent.now.notes) w.0).did c.args.lent.now.errors.now c.args.lent.now.scratch.now w).wf

pub settle-requires : goal.settle-requires
settle-requires c =
    let u = c.tell-u.ensures.told (source_of c.args.x.now) in
    (subst (λ (l : List ℕ). 2 * c.tell-u.new.lent.notes.far ≤ 64 * length l) (sym (ap (λ l. l.now) c.tell-u.ensures.scratch)) (settle_asks (source_of c.args.x.now) c.at_hand-h.ensures.read u), (u c.at_hand-h.new.lent.scratch.now c.at_hand-h.ensures.read.wf).wf.0.1)

pub returns-clause-read : goal.returns-clause-read
returns-clause-read c =
    let X = source_of c.args.x.now in
    let H = c.at_hand-h.ensures.read in
    let kept = ap (λ l. l.now) c.tell-u.ensures.scratch in
    subst (λ (er : List ℕ). Goes (c.args.depth, c.args.x.now.entrypoint) c.args.number 1 X (tally c.args.d c.args.lent.now.notes) (tally c.settle.result c.settle.new.notes) (bufs_of c.args.lent.now) (bufs c.tell-u.new.lent.events.now er c.settle.new.scratch)) (sym c.tell-u.ensures.errors)
    (item_goes c.args.number X (tally c.args.d c.args.lent.now.notes) (tally c.at_hand-h.result c.at_hand-h.new.lent.notes) (tally c.tell-u.result c.tell-u.new.lent.notes) _ _ _ _ _ _ _ _ _ c.at_hand-h.new.lent.scratch.now c.settle.new.scratch c.args.x.now.tiled c.requires.2 c.requires.0 c.requires.1
    (more (length c.args.x.now.rows.ids.now) (whole c.args.d.state c.args.lent.now.notes) (sym c.over.ensures ∙ c.if-over.false))
    (c.trivia-t.ensures.0 c.args.x.now.src.now (noting c.args.number c.args.lent.now.notes) (item_wf c.args.number (source_of c.args.x.now) (bufs_of c.args.lent.now) (whole c.args.d.state c.args.lent.now.notes) c.args.x.now.tiled c.requires.2 c.requires.0).0) H (c.tell-u.ensures.told X c.at_hand-h.new.lent.scratch.now H.wf) c.settle.ensures.0 c.settle.ensures.1
    (subst (λ (l : List ℕ). Forgot c.tell-u.new.lent.notes.first c.tell-u.new.lent.notes.far l c.settle.new.scratch) kept c.settle.ensures.2) (c.settle.auto.scratch ∙ ap length kept))
