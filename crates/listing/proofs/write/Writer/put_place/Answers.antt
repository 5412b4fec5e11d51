-- `listing::write::Writer::put_place` meets its contract: a field in form 9, else nothing.
use native.Mathlib.Omega.{arith}
use Rattle.listing.proofs.Written.{wrote_as, wrote_none}
use Rattle.listing.proofs.Records.{no_place, a_place}
use Rattle.listing.proofs.write.Writer.put_place.Goals as goal

pub returns-then-number_at-eq9-clause-put : goal.returns-then-number_at-eq9-clause-put
returns-then-number_at-eq9-clause-put c = wrote_as (a_place c.args.list.now c.number_at.ensures c.if-number_at-eq9.true c.number_at-names.ensures c.number_at-then-number_at-eq9.ensures) c.put_number.ensures.put

pub returns-else-number_at-eq9-clause-put : goal.returns-else-number_at-eq9-clause-put
returns-else-number_at-eq9-clause-put c = wrote_as (no_place c.args.list.now c.number_at.ensures c.if-number_at-eq9.false) (wrote_none c.args.self.now (omega (arith, c.requires)))
