-- `listing::write::Writer::put_last` meets its contract: a field from edition 2 on, before it nothing.
use native.Mathlib.Omega.{arith}
use Rattle.listing.proofs.Written.{wrote_as, wrote_none}
use Rattle.listing.proofs.Records.{no_field, a_field}
use Rattle.listing.proofs.write.Writer.put_last.Goals as goal

pub returns-then-edition-ge2-clause-put : goal.returns-then-edition-ge2-clause-put
returns-then-edition-ge2-clause-put c = wrote_as (a_field c.args.edition c.args.n c.if-edition-ge2.true) c.put_number.ensures.put

pub returns-else-edition-ge2-clause-put : goal.returns-else-edition-ge2-clause-put
returns-else-edition-ge2-clause-put c = wrote_as (no_field c.args.edition c.args.n c.if-edition-ge2.false) (wrote_none c.args.self.now (omega (arith, c.requires)))
