-- An item by its first row.
use native.Mathlib.Omega.{arith}
use Rattle.notes.specs.Means.{names_of}
use Rattle.parts.proofs.Lines.{plus_b, asks_s}
use Rattle.definition.specs.Grammar.{rule_decl}
use Rattle.grammar.proofs.Items.{starts_import, starts_include, starts_rule, is_item}
use Rattle.std.proofs.Common.{rules}
use Rattle.grammar.proofs.rules.read_item.Goals as goal

pub import_stmt-requires : goal.import_stmt-requires
import_stmt-requires c = c.requires

pub returns-then-first-clause-read : goal.returns-then-first-clause-read
unfolding names_of
returns-then-first-clause-read c = λ L e. is_item L (starts_import c.args.first (search rules)) e c.import_stmt.ensures.read

pub include_stmt-requires : goal.include_stmt-requires
include_stmt-requires c = c.requires

pub returns-then-first-2-clause-read : goal.returns-then-first-2-clause-read
unfolding names_of
returns-then-first-2-clause-read c = λ L e. is_item L (starts_include c.args.first (search rules) (search rules)) e (search rules)

pub rule_decl-s-requires : goal.rule_decl-s-requires
rule_decl-s-requires c = c.requires

pub recover-requires : goal.recover-requires
recover-requires c = (asks_s c.rule_decl-s.ensures.read, omega arith)

pub returns-clause-read : goal.returns-clause-read
unfolding names_of
returns-clause-read c = λ L e. is_item L {p = rule_decl} (starts_rule c.args.first (search rules) (search rules)) e (plus_b c.rule_decl-s.ensures.read c.recover.ensures.step)
