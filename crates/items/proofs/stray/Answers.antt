-- `items::stray` meets its contract. Assumes nothing.
use native.Mathlib.Omega.{arith}
use mathlib.Core.List.{List, []}
use mathlib.Core.Path.{refl, sym, subst}
use Prim.Native.Nat.{ℕ}
use Rattle.notes.specs.Means.{source, bufs}
use Rattle.steps.specs.Steps.{whole}
use Rattle.steps.proofs.Ends.{enough, lent}
use Rattle.items.specs.Items.{tally, Strays}
use Rattle.items.proofs.Straying.{noted_wf, strays}
use Rattle.items.proofs.stray.Goals as goal

pub tell-d-requires : goal.tell-d-requires
tell-d-requires c =
    let v = noted_wf (source [] c.args.rows.now.ids.now c.args.rows.now.ends.now) (whole c.args.s c.args.lent.now.notes) _ c.args.before c.start_of-start.result _ c.args.lent.now.events.now c.args.lent.now.errors.now _ (enough (source [] c.args.rows.now.ids.now c.args.rows.now.ends.now)) c.requires.0.0 c.requires.2 c.requires.3 (lent (source [] c.args.rows.now.ids.now c.args.rows.now.ends.now) (whole c.args.s c.args.lent.now.notes) c.args.lent.now.events.now c.args.lent.now.errors.now c.requires.0.1 c.requires.0.2 c.requires.1) c.start_of-start.ensures refl (c.record-s.ensures (whole c.args.s c.args.lent.now.notes) c.requires.3) in
    ((v.0.2.events, v.1.events), v.0.2.since, omega (arith, v.0.2.errors, v.1.errors))

pub junk-requires : goal.junk-requires
junk-requires c =
    let v = noted_wf (source [] c.args.rows.now.ids.now c.args.rows.now.ends.now) (whole c.args.s c.args.lent.now.notes) _ c.args.before c.start_of-start.result _ c.args.lent.now.events.now c.args.lent.now.errors.now _ (enough (source [] c.args.rows.now.ids.now c.args.rows.now.ends.now)) c.requires.0.0 c.requires.2 c.requires.3 (lent (source [] c.args.rows.now.ids.now c.args.rows.now.ends.now) (whole c.args.s c.args.lent.now.notes) c.args.lent.now.events.now c.args.lent.now.errors.now c.requires.0.1 c.requires.0.2 c.requires.1) c.start_of-start.ensures refl (c.record-s.ensures (whole c.args.s c.args.lent.now.notes) c.requires.3) in
    let t = c.tell-d.ensures.told (source [] c.args.rows.now.ids.now c.args.rows.now.ends.now) (enough (source [] c.args.rows.now.ids.now c.args.rows.now.ends.now)) v in
    (c.requires.0.0, (t.wf.0.2.events, t.wf.1.events), t.wf.0.0.here)

pub returns-clause-written : goal.returns-clause-written
returns-clause-written c = λ bytes sc w.
    let v = noted_wf (source bytes c.args.rows.now.ids.now c.args.rows.now.ends.now) (whole c.args.s c.args.lent.now.notes) _ c.args.before c.start_of-start.result _ c.args.lent.now.events.now c.args.lent.now.errors.now _ sc c.requires.0.0 c.requires.2 c.requires.3 w c.start_of-start.ensures refl (c.record-s.ensures (whole c.args.s c.args.lent.now.notes) c.requires.3) in
    let t = c.tell-d.ensures.told (source bytes c.args.rows.now.ids.now c.args.rows.now.ends.now) sc v in
    subst (λ (er : List ℕ). Strays (source bytes c.args.rows.now.ids.now c.args.rows.now.ends.now) (whole c.args.s c.args.lent.now.notes) c.args.before (tally (record { state = c.junk.result; before = c.tell-d.result.before }) c.tell-d.new.lent.notes) (bufs c.args.lent.now.events.now c.args.lent.now.errors.now sc) (bufs c.junk.new.events er sc)) (sym c.tell-d.ensures.errors)
    (strays (source bytes c.args.rows.now.ids.now c.args.rows.now.ends.now) (whole c.args.s c.args.lent.now.notes) _ c.args.before c.start_of-start.result _ c.args.lent.now.events.now c.args.lent.now.errors.now _ sc c.requires.0.0 c.requires.2 c.requires.3 w c.start_of-start.ensures refl (c.record-s.ensures (whole c.args.s c.args.lent.now.notes) c.requires.3) t (c.junk.ensures bytes c.tell-d.new.lent.notes t.wf.0))
