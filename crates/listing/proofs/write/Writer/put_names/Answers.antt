-- `listing::write::Writer::put_names` meets its contract: the first name, and the others behind commas.
use Rattle.kinds.specs.Spelling.{name_text}
use Rattle.listing.proofs.Written.{wrote_as, then, joined_some}
use Rattle.listing.proofs.write.Writer.put_names.Goals as goal

pub returns-in-Some-clause-put : goal.returns-in-Some-clause-put
returns-in-Some-clause-put c =
    wrote_as (joined_some name_text c.in-Some.ensures.cases.0) (then c.put_name.ensures.put c.put_more_names.ensures.put)
