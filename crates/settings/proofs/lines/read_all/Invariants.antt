-- `settings::lines::read_all` meets its contract: the lines before the rest of the text read.
use Rattle.settings.proofs.Scanning.{Scanned}
use Rattle.settings.proofs.lines.read_all.Given as goal

abbrev pub invariant-loop-part : goal.invariant-loop-part
invariant-loop-part l = Scanned l.text l.edition l.initial.values l.values l.last l.part-iterator.rest.now
