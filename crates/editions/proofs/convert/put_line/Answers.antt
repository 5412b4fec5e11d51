-- `editions::convert::put_line` meets its contract: the kept bytes, the field where it is shown, and the line feed, one behind the other.
use Rattle.editions.proofs.Rooms.{hidden_line, shown_line}
use Rattle.editions.proofs.convert.put_line.Goals as goal

pub returns-in_default : goal.returns-in_default
returns-in_default c = hidden_line c.args.out c.args.line.now c.in_default.is c.put.ensures c.put_byte.ensures

pub returns : goal.returns
returns c = shown_line c.args.out c.args.line.now c.in-Some.is c.put.ensures c.put_byte-2.ensures c.put_decimal.ensures c.put_byte-3.ensures
