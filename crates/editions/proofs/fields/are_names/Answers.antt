-- `editions::fields::are_names` meets its contract: the names before a place are new, and their marks are set.
use Rattle.editions.proofs.Parts.{naming}
use Rattle.editions.proofs.fields.are_names.Goals as goal

pub loop-at-init : goal.loop-at-init
loop-at-init c = naming _
