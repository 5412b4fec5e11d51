-- `id_of` meets its contract.
use mathlib.Core.Path.{sym, ◌∙◌}
use Rattle.cutter.proofs.Keys.{is_word, no_word}
use Rattle.cutter.proofs.keyword.id_of.Goals as goal

pub returns-then-eq : goal.returns-then-eq
returns-then-eq c = is_word c.args.text.now _ _ c.slot_of-slot.ensures.0 c.slot_of-slot.ensures.1 c.keyword_of.ensures (sym c.eq.ensures ∙ c.if-eq.true)

pub returns : goal.returns
returns c = no_word c.args.text.now _ _ c.slot_of-slot.ensures.0 c.slot_of-slot.ensures.1 c.keyword_of.ensures (sym c.eq.ensures ∙ c.if-eq.false)
