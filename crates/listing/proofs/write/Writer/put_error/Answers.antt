-- `listing::write::Writer::put_error` meets its contract: the pieces of what is shown are joined.
use Rattle.listing.proofs.Written.{wrote_as, then}
use Rattle.listing.proofs.Records.{error_text}
use Rattle.listing.proofs.write.Writer.put_error.Goals as goal

pub returns-clause-put : goal.returns-clause-put
returns-clause-put c =
    wrote_as (error_text c.args.list.now c.number_at-form.ensures c.number_at-start.ensures c.number_at-end.ensures c.names_of.ensures.result_value)
    (then c.put_numbers.ensures.put (then c.put_byte.ensures (then c.put_names.ensures.put c.put_place.ensures.put)))
