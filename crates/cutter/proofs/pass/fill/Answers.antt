-- `fill` meets its contract.
use Prim.Native.Nat.{ℕ, ◌+◌, ◌-◌, ◌<◌}
use mathlib.Core.Path.{◌≡◌, refl, sym, ap, ◌∙◌}
use native.Mathlib.Omega.{arith}
use mathlib.Core.List.{List, [], ◌∷◌}
use lib.ListN.{length, get_or, set, drop, length-drop}
use Rattle.cutter.specs.Rows.{Row, row, rows, cutting}
use Rattle.cutter.specs.Made.{turn_of}
use Rattle.cutter.specs.declared.place.Place.{Place}
use Rattle.cutter.proofs.Stands.{stands, onwards}
use Rattle.cutter.proofs.Fills.{turn, over, begun, wrote_more, wrote_all, nth, below}
use Rattle.cutter.proofs.Tiling.{few}
use Rattle.cutter.proofs.pass.fill.Goals as goal
use Rattle.cutter.proofs.pass.fill.Goals.{After-next_row-r}

-- the row at hand is the n-th
module _ (s : List ℕ) (at n : ℕ) (p : Place) (r : Row) (inside : at < length s) (e : r ≡ row p (drop at s)) (some : 0 < r.1)
    (left : rows at 0 p (drop at s) ≡ drop n (cutting s)) where
  here : drop n (cutting s) ≡ (r.0, at, at + r.1) ∷ rows (at + r.1) 0 r.2 (drop (at + r.1) s)
  here = sym left ∙ turn s at p r inside e some

  there : n < length (cutting s)
  there = below (cutting s) n (r.0, at, at + r.1) (rows (at + r.1) 0 r.2 (drop (at + r.1) s)) here

  nth_row : (get_or (cutting s) n (0, 0, 0) ≡ (r.0, at, at + r.1)) × (drop (n + 1) (cutting s) ≡ rows (at + r.1) 0 r.2 (drop (at + r.1) s))
  nth_row = nth (cutting s) n (r.0, at, at + r.1) (rows (at + r.1) 0 r.2 (drop (at + r.1) s)) there here

pub loop-at-init : goal.loop-at-init
loop-at-init c = (omega arith, omega arith, begun _, refl, refl, refl, stands _ 0 c.args.source.now c.nothing-memo.ensures.0 (c.nothing-memo.ensures.1 (drop 0 c.args.source.now)))

-- the row that was cut is one of the rows
one_of : (c : After-next_row-r) → c.loop-at.n < length (cutting c.args.source.now)
one_of c =
    let l = c.loop-at in
    let r = c.next_row-r.ensures.result_value in
    there c.args.source.now l.at l.n l.place (turn_of c.next_row-r.result) c.loop-at-test.true r.0 r.1 l.invariant.2

pub bounds-ids-n : goal.bounds-ids-n
bounds-ids-n c = omega (arith, one_of (goal.at.bounds-ids-n c).After-next_row-r, c.requires.1.first)

pub bounds-starts-n : goal.bounds-starts-n
bounds-starts-n c = omega (arith, one_of (goal.at.bounds-starts-n c).After-next_row-r, c.requires.1.second)

pub bounds-ends-n : goal.bounds-ends-n
bounds-ends-n c = omega (arith, one_of (goal.at.bounds-ends-n c).After-next_row-r, c.requires.1.third)

pub loop-at-preserved : goal.loop-at-preserved
loop-at-preserved c =
    let l = c.loop-at in
    let rs = cutting c.args.source.now in
    let e = c.next_row-r.ensures in
    let r = e.result_value in
    let h : l.n < length rs = one_of (goal.at.loop-at-preserved c).After-next_row-r in
    let k = nth_row c.args.source.now l.at l.n l.place (turn_of c.next_row-r.result) c.loop-at-test.true r.0 r.1 l.invariant.2 in (
      r.2,
      omega (arith, h),
      sym k.1,
      ap (λ q. set q l.n c.next_row-r.result.id) l.invariant.3 ∙ wrote_more (λ x. x.0) rs c.args.ids.now c.requires.1.first l.n _ (0, 0, 0) h (ap (λ x. x.0) k.0),
      ap (λ q. set q l.n l.at) l.invariant.4 ∙ wrote_more (λ x. x.1) rs c.args.starts.now c.requires.1.second l.n _ (0, 0, 0) h (ap (λ x. x.1) k.0),
      ap (λ q. set q l.n (l.at + c.next_row-r.result.len)) l.invariant.5 ∙ wrote_more (λ x. x.2) rs c.args.ends.now c.requires.1.third l.n _ (0, 0, 0) h (ap (λ x. x.2) k.0),
      onwards c.next_row-r.result.len e.stands_2,
    )

pub returns : goal.returns
returns c = let l = c.loop-at in
    let rs = cutting c.args.source.now in
    let d : drop l.n rs ≡ [] = sym l.invariant.2 ∙ over c.args.source.now l.at l.place c.loop-at-test.false in
    let e : length (drop l.n rs) ≡ length rs - l.n = length-drop l.n rs in
    let z : length (drop l.n rs) ≡ 0 = ap length d in
    let all : l.n ≡ length rs = omega (arith, l.invariant.1) in (
      all,
      omega (arith, all, few c.args.source.now),
      record {
        first = l.invariant.3 ∙ wrote_all (λ x. x.0) rs c.args.ids.now c.requires.1.first l.n all;
        second = l.invariant.4 ∙ wrote_all (λ x. x.1) rs c.args.starts.now c.requires.1.second l.n all;
        third = l.invariant.5 ∙ wrote_all (λ x. x.2) rs c.args.ends.now c.requires.1.third l.n all;
      },
    )
