-- `editions::sort::by_letter` meets its contract: the letter picks what must stand behind it.
use Rattle.std.proofs.Common.{rules}
use Rattle.listing.specs.Lines.{parted}
use Rattle.editions.proofs.Letters.{begin_line, token_line, end_line, error_line_lem, result_line, unread_line, refusal_line, no_letter}
use Rattle.editions.proofs.sort.by_letter.Goals as goal

pub returns-in-66 : goal.returns-in-66
returns-in-66 c = begin_line c.args.letter (parted 9 c.args.rest.now) c.in-66.is c.is_node.ensures c.then_some.ensures

pub returns-in-84 : goal.returns-in-84
returns-in-84 c = token_line c.args.letter (parted 9 c.args.rest.now) c.in-84.is c.is_node-in-84.ensures c.then_some-in-84.ensures

pub returns-in-69 : goal.returns-in-69
returns-in-69 c = end_line c.args.letter (parted 9 c.args.rest.now) c.in-69.is c.is_node-in-69.ensures c.then_some-in-69.ensures

pub returns-in-88 : goal.returns-in-88
returns-in-88 c = error_line_lem c.args.letter (parted 9 c.args.rest.now) c.in-88.is c.is_error.ensures c.then_some-in-88.ensures

pub returns-in-82 : goal.returns-in-82
returns-in-82 c = result_line c.args.letter (parted 9 c.args.rest.now) c.in-82.is c.numbers.ensures c.then_some-in-82.ensures

pub returns-in-78 : goal.returns-in-78
returns-in-78 c = unread_line c.args.letter (parted 9 c.args.rest.now) c.in-78.is c.numbers-in-78.ensures c.then_some-in-78.ensures

pub returns-in-70 : goal.returns-in-70
returns-in-70 c = refusal_line c.args.letter (parted 9 c.args.rest.now) c.in-70.is c.numbers-in-70.ensures c.then_some-in-70.ensures

pub returns-in_default : goal.returns-in_default
returns-in_default c = no_letter c.args.letter (parted 9 c.args.rest.now) (λ e. search rules) (λ e. search rules) (λ e. search rules) (λ e. search rules) (λ e. search rules) (λ e. search rules) (λ e. search rules)
