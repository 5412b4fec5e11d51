-- `items::junk` meets its contract. Assumes nothing.
use mathlib.Core.List.{[]}
use mathlib.Core.Path.{refl}
use lib.ListN.{length}
use Rattle.notes.specs.Whole.{fresh}
use Rattle.notes.specs.Means.{source}
use Rattle.steps.proofs.Taken.{ok_none}
use Rattle.items.proofs.Skipping.{junk_skip, junk_shut, junks}
use Rattle.items.proofs.junk.Goals as goal

pub skip_to-s-requires : goal.skip_to-s-requires
skip_to-s-requires c = let j = junk_skip (source [] c.args.rows.now.ids.now c.args.rows.now.ends.now) c.start_of-start.result c.requires.0 (ok_none (length c.args.rows.now.ids.now) c.args.s c.requires.2 c.requires.1.0) c.requires.1.1 c.start_of-start.ensures (c.put-s.ensures fresh) in (c.requires.0, (j.0.2.events, j.1), j.0.0.here)

pub shut-requires : goal.shut-requires
shut-requires c =
    let w = ok_none (length c.args.rows.now.ids.now) c.args.s c.requires.2 c.requires.1.0 in
    let j = junk_skip (source [] c.args.rows.now.ids.now c.args.rows.now.ends.now) c.start_of-start.result c.requires.0 w c.requires.1.1 c.start_of-start.ensures (c.put-s.ensures fresh) in
    junk_shut (source [] c.args.rows.now.ids.now c.args.rows.now.ends.now) c.start_of-start.result c.requires.0 w c.requires.1.1 c.start_of-start.ensures (c.put-s.ensures fresh) (c.skip_to-s.ensures [] fresh j.0)

pub returns : goal.returns
returns c = λ bytes n w.
    let j = junk_skip (source bytes c.args.rows.now.ids.now c.args.rows.now.ends.now) c.start_of-start.result c.requires.0 w c.requires.1.1 c.start_of-start.ensures (c.put-s.ensures n) in
    junks (source bytes c.args.rows.now.ids.now c.args.rows.now.ends.now) c.start_of-start.result c.requires.0 w c.requires.1.1 c.start_of-start.ensures (c.put-s.ensures n) (c.skip_to-s.ensures bytes n j.0) refl (λ er sc. c.shut.ensures n bytes c.args.rows.now.ids.now er sc c.requires.0)
