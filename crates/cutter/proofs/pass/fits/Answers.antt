-- `fits` meets its contract: there is at most one row a byte.
use mathlib.Core.Path.{sym, ◌∙◌}
use native.Mathlib.Omega.{arith}
use lib.ListN.{length}
use borrow.Author.Tests.{le-leb}
use Rattle.cutter.specs.Rows.{cutting}
use Rattle.cutter.proofs.Tiling.{few}
use Rattle.cutter.proofs.pass.fits.Goals as goal

pub returns-then-source-room : goal.returns-then-source-room
returns-then-source-room c =
    le-leb (length c.args.source.now) c.args.room c.if-source-room.true
    ∙ sym (le-leb (length (cutting c.args.source.now)) c.args.room (omega (arith, few c.args.source.now, c.if-source-room.true)))
