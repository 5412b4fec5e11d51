-- The productions of expressions, each by its shape; what falls is the depth, and at one depth the rank of a function.
use mathlib.Core.Bool.{true}
use Rattle.kinds.specs.Kinds as k
use Rattle.kinds.specs.Sets.{set_of}
use Rattle.definition.specs.Prog.{eat, ◌⨟◌, node}
use Rattle.definition.specs.Prog as G
use Rattle.definition.specs.Grammar.{one}
use Rattle.notes.specs.Means.{names_of}
use Rattle.parts.specs.Reads.{reads}
use Rattle.expr.specs.Parts.{item_of}
use Rattle.parts.proofs.Lines.{Turns}
use Prim.Native.Nat.{◌+◌, ◌*◌}
use Rattle.expr.proofs.+expressions.Given as goal

abbrev pub decreases-all : goal.decreases-all
decreases-all l = 8 * l.d + 5

abbrev pub decreases-and : goal.decreases-and
decreases-and l = 8 * l.d + 1

abbrev pub decreases-body : goal.decreases-body
decreases-body l = 8 * l.d + 4

abbrev pub decreases-bool_expr : goal.decreases-bool_expr
decreases-bool_expr l = 8 * l.d + 0

abbrev pub decreases-bool_term : goal.decreases-bool_term
decreases-bool_term l = 8 * l.d + 0

abbrev pub decreases-bools : goal.decreases-bools
decreases-bools l = 8 * l.d + 0

abbrev pub decreases-call : goal.decreases-call
decreases-call l = 8 * l.d + 0

abbrev pub decreases-decl : goal.decreases-decl
decreases-decl l = 8 * l.d + 0

abbrev pub decreases-decls : goal.decreases-decls
decreases-decls l = 8 * l.d + 0

abbrev pub decreases-dot : goal.decreases-dot
decreases-dot l = 8 * l.d + 4

abbrev pub decreases-each : goal.decreases-each
decreases-each l = 8 * l.d + 2

abbrev pub decreases-expr : goal.decreases-expr
decreases-expr l = 8 * l.d + 1

abbrev pub decreases-exprs : goal.decreases-exprs
decreases-exprs l = 8 * l.d + 0

abbrev pub decreases-fact : goal.decreases-fact
decreases-fact l = 8 * l.d + 6

abbrev pub decreases-for_expr : goal.decreases-for_expr
decreases-for_expr l = 8 * l.d + 0

abbrev pub decreases-how : goal.decreases-how
decreases-how l = 8 * l.d + 4

abbrev pub decreases-id : goal.decreases-id
decreases-id l = 8 * l.d + 4

abbrev pub decreases-iter : goal.decreases-iter
decreases-iter l = 8 * l.d + 0

abbrev pub decreases-list : goal.decreases-list
decreases-list l = 8 * l.d + 4

abbrev pub decreases-lit : goal.decreases-lit
decreases-lit l = 8 * l.d + 6

abbrev pub decreases-more : goal.decreases-more
decreases-more l = 8 * l.d + 3

abbrev pub decreases-nth : goal.decreases-nth
decreases-nth l = 8 * l.d + 4

abbrev pub decreases-of_expr : goal.decreases-of_expr
decreases-of_expr l = 8 * l.d + 0

abbrev pub decreases-over : goal.decreases-over
decreases-over l = 8 * l.d + 4

abbrev pub decreases-primary : goal.decreases-primary
decreases-primary l = 8 * l.d + 0

abbrev pub decreases-quant : goal.decreases-quant
decreases-quant l = 8 * l.d + 0

abbrev pub decreases-range : goal.decreases-range
decreases-range l = 8 * l.d + 0

abbrev pub decreases-sign : goal.decreases-sign
decreases-sign l = 8 * l.d + 5

abbrev pub decreases-span : goal.decreases-span
decreases-span l = 8 * l.d + 4

abbrev pub decreases-spot : goal.decreases-spot
decreases-spot l = 8 * l.d + 4

abbrev pub decreases-sum : goal.decreases-sum
decreases-sum l = 8 * l.d + 0

abbrev pub decreases-term : goal.decreases-term
decreases-term l = 8 * l.d + 1

abbrev pub decreases-test : goal.decreases-test
decreases-test l = 8 * l.d + 4

abbrev pub decreases-unit : goal.decreases-unit
decreases-unit l = 8 * l.d + 0

abbrev pub decreases-vals : goal.decreases-vals
decreases-vals l = 8 * l.d + 4

abbrev pub decreases-whom : goal.decreases-whom
decreases-whom l = 8 * l.d + 5

abbrev pub decreases-with_expr : goal.decreases-with_expr
decreases-with_expr l = 8 * l.d + 0

abbrev pub invariant-and-loop-turn : goal.invariant-and-loop-turn
invariant-and-loop-turn l = Turns (reads l.x.entrypoint l.d true (one k.COMMA ⨟ node G.WITH_DECL)) l.x l.initial.s l.s l.initial.lent l.lent l.turns l.turn

abbrev pub invariant-more-loop-turn : goal.invariant-more-loop-turn
invariant-more-loop-turn l = Turns (reads l.x.entrypoint l.d true (eat (set_of l.sep) (names_of l.code) ⨟ item_of l.item)) l.x l.initial.s l.s l.initial.lent l.lent l.turns l.turn
