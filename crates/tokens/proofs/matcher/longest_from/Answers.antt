-- `longest_from` meets its contract.
use Prim.Native.Nat.{◌+◌}
use mathlib.Core.Path.{◌≡◌, sym, ap, ◌∙◌}
use native.Mathlib.Omega.{arith}
use lib.ListN.{length, drop}
use Rattle.tokens.specs.Glyph.{glyph}
use Rattle.tokens.specs.Modes.{mode}
use Rattle.tokens.specs.States.{label, glyph_of}
use Rattle.tokens.proofs.Walks as w
use Rattle.tokens.proofs.matcher.longest_from.Goals as goal
use Rattle.tokens.proofs.matcher.longest_from.Goals.{After-glyph_at-g}

here : (c : After-glyph_at-g) → glyph_of c.glyph_at-g.result ≡ glyph (mode c.args.start) (drop c.loop-i.i c.args.s.now)
here c = c.glyph_at-g.ensures.0 ∙ ap (glyph (mode c.args.start)) (w.tail c.args.s.now c.loop-i.i)

pub loop-i-init : goal.loop-i-init
loop-i-init c =
    let m = mode c.args.start in
    (c.args.start.low, omega arith, tt, w.begun m _ _)

pub next_of-state-requires-clause-state_low : goal.next_of-state-requires-clause-state_low
next_of-state-requires-clause-state_low c = c.loop-i.invariant.0

pub returns-then-state-eq0 : goal.returns-then-state-eq0
returns-then-state-eq0 c =
    let l = c.loop-i in (
      sym (w.dead (mode c.args.start) c.args.s.now l.i l.state l.best (glyph_of c.glyph_at-g.result) c.loop-i-test.true l.invariant.0
          (here (goal.at.returns-then-state-eq0 c).After-glyph_at-g) (sym c.next_of-state.ensures.value ∙ c.if-state-eq0.true))
          ∙ l.invariant.3,
      w.inside l.best l.i (length c.args.s.now) l.invariant.1 l.invariant.2,
    )

pub loop-i-preserved-in-Some : goal.loop-i-preserved-in-Some
loop-i-preserved-in-Some c =
    let l = c.loop-i in
    let m = mode c.args.start in
    let s = c.args.s.now in
    let g = glyph_of c.glyph_at-g.result in
    let e = here (goal.at.loop-i-preserved-in-Some c).After-glyph_at-g in (
      c.next_of-state.ensures.low,
      w.wide_within m s l.i l.state l.best g c.loop-i-test.true l.invariant.0 e,
      (omega (arith, w.wide_some m s l.i l.state l.best g c.loop-i-test.true l.invariant.0 e), omega arith),
      w.ending m s l.i l.state l.best g c.loop-i-test.true l.invariant.0 e _ c.next_of-state.ensures.value c.in-Some.id (sym c.end_of.ensures ∙ c.in-Some.is) ∙ l.invariant.3,
    )

pub loop-i-preserved : goal.loop-i-preserved
loop-i-preserved c =
    let l = c.loop-i in
    let m = mode c.args.start in
    let s = c.args.s.now in
    let g = glyph_of c.glyph_at-g.result in
    let e = here (goal.at.loop-i-preserved c).After-glyph_at-g in (
      c.next_of-state.ensures.low,
      w.wide_within m s l.i l.state l.best g c.loop-i-test.true l.invariant.0 e,
      w.inside l.best l.i (l.i + c.glyph_at-g.result.width) (omega arith) l.invariant.2,
      w.unended m s l.i l.state l.best g c.loop-i-test.true l.invariant.0 e _ c.next_of-state.ensures.value (sym c.end_of.ensures ∙ c.in_default.is) ∙ l.invariant.3,
    )

pub returns : goal.returns
returns c =
    let l = c.loop-i in (
      sym (w.over (mode c.args.start) l.i (label l.state) l.best c.args.s.now c.loop-i-test.false) ∙ l.invariant.3,
      w.inside l.best l.i (length c.args.s.now) l.invariant.1 l.invariant.2,
    )
