-- `outline` meets its promise: each way out is the definition (proofs/Answering).
use Rattle.std.proofs.Common.{◌≡◌, length, take, ap, sym, ◌∙◌, Err, rules, arith}
use Rattle.shapes.specs.declared.refusal.Refusal.TheVariants.{Nesting}
use Rattle.outline.specs.Rules as R
use Rattle.outline.specs.Outline as O
use Rattle.outline.specs.Steps.{left}
use Rattle.outline.specs.Returning.{returning}
use Rattle.outline.proofs.Descending.{flat_size}
use Rattle.outline.proofs.Answering.{no_room, answered, asked_past, asked_node, asked_other}
use Rattle.outline.proofs.outline.Goals as goal

pub returns-in_err-node : goal.returns-in_err-node
returns-in_err-node c =
    let refused : c.from_residual-in_err-node.result ≡ Err Nesting = search rules in
    ap (λ r. returning r c.args.room.now) refused
    ∙ sym (ap (R.returned c.args.room.now) (c.in_ok-judge.ensures.0 _ ∙ asked_past (O.outlined (length c.args.room.now) c.args.depth) (record { list = c.args.events }) c.nth.new.self c.args.at _ c.nth.ensures.ran c.in_err-node.ensures.ok_part))

pub returns-in_default : goal.returns-in_default
returns-in_default c = sym (ap (R.returned c.args.room.now) (c.in_ok-judge.ensures.0 _ ∙ asked_other (O.outlined (length c.args.room.now) c.args.depth) (record { list = c.args.events }) c.nth.new.self c.args.at _ c.nth.ensures.ran _ c.in_ok-node.ensures.ok_part c.in_default.not-Opens))

pub returns-then-room-n : goal.returns-then-room-n
returns-then-room-n c =
    let nodes = O.below (left c.nth.new.self) 0 c.args.depth 1 in
    let is = c.in_ok-judge.ensures.0 _ ∙ asked_node (O.outlined (length c.args.room.now) c.args.depth) (record { list = c.args.events }) c.nth.new.self c.args.at _ c.nth.ensures.ran _ c.in_ok-node.ensures.ok_part _ _ _ c.in-Opens.is in
    sym (ap (R.returned c.args.room.now) (is ∙ no_room (length c.args.room.now) (length nodes) (O.flat nodes) (omega (arith, flat_size nodes, c.sum-n.ensures, c.if-room-n.true))))

pub down-requires-clause-room : goal.down-requires-clause-room
down-requires-clause-room c = omega (arith, flat_size (O.below (left c.nth.new.self) 0 c.args.depth 1), c.sum-n.ensures, c.if-room-n.false)

pub returns : goal.returns
returns c =
    let nodes = O.below (left c.nth.new.self) 0 c.args.depth 1 in
    let is = c.in_ok-judge.ensures.0 _ ∙ asked_node (O.outlined (length c.args.room.now) c.args.depth) (record { list = c.args.events }) c.nth.new.self c.args.at _ c.nth.ensures.ran _ c.in_ok-node.ensures.ok_part _ _ _ c.in-Opens.is in
    let n = c.sum-n.ensures in
    let size = flat_size nodes in
    let down = c.down.ensures in
    answered c.args.room.now _ _ (O.flat nodes) _ _ _ n (omega (arith, n, size)) (omega (arith, n, size, c.if-room-n.false)) down.same (ap (λ i. take i c.down.new.room) (sym down.upto) ∙ down.done) c.fill.ensures
    ∙ sym (ap (R.returned c.args.room.now) is)
