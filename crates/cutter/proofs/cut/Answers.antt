-- `cut` meets its contract.
use mathlib.Core.Path.{◌≡◌, refl, ap, ◌∙◌}
use lib.ListN.{length}
use Rattle.std.specs.Prelude.{min}
use Rattle.cutter.specs.Rows.{cutting}
use Rattle.cutter.proofs.Answers.{same_after, given, too_long, no_room, answers, too_small, enough, each}
use Rattle.cutter.proofs.cut.Goals as goal
use Rattle.cutter.proofs.cut.Goals.{After-fits}

-- the least of the three lists
room : (c : After-fits) → c.min-room.result ≡ min (min (length c.args.ids.now) (length c.args.starts.now)) (length c.args.ends.now)
room c = c.min-room.ensures ∙ ap (λ n. min n (length c.args.ends.now)) c.min.ensures

pub returns-then-source-gt-MOST_BYTES : goal.returns-then-source-gt-MOST_BYTES
returns-then-source-gt-MOST_BYTES c = too_long c.args.source.now c.args.ids.now c.args.starts.now c.args.ends.now c.if-source-gt-MOST_BYTES.true

pub returns-then-not-fits : goal.returns-then-not-fits
returns-then-not-fits c = no_room c.args.source.now c.args.ids.now c.args.starts.now c.args.ends.now c.if-source-gt-MOST_BYTES.false (too_small (length c.args.ids.now) (length c.args.starts.now) (length c.args.ends.now) _ (length (cutting c.args.source.now)) (room (goal.at.returns-then-not-fits c).After-fits) _ c.fits.ensures c.if-not-fits.true)

pub fill-requires : goal.fill-requires
fill-requires c = let e = each (length c.args.ids.now) (length c.args.starts.now) (length c.args.ends.now) (length (cutting c.args.source.now)) (enough (length c.args.ids.now) (length c.args.starts.now) (length c.args.ends.now) _ (length (cutting c.args.source.now)) (room (goal.at.fill-requires c).After-fits) _ c.fits.ensures c.if-not-fits.false) in (c.if-source-gt-MOST_BYTES.false, record { first = e.0; second = e.1; third = e.2 })

pub returns : goal.returns
returns c = let f = c.fill.ensures.2 in same_after _ (given c.args.source.now c.args.ids.now c.args.starts.now c.args.ends.now) refl c.fill.ensures.0 f.first f.second f.third ∙ answers c.args.source.now c.args.ids.now c.args.starts.now c.args.ends.now c.if-source-gt-MOST_BYTES.false (enough (length c.args.ids.now) (length c.args.starts.now) (length c.args.ends.now) _ (length (cutting c.args.source.now)) (room (goal.at.returns c).After-fits) _ c.fits.ensures c.if-not-fits.false)
