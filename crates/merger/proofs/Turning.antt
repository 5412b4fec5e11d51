-- What the pen's steps left, put together: the room after a node was widened or closed is the definition of the mark.
use Prim.Native.Nat.{ℕ, ◌+◌, ◌-◌, min, max}
use mathlib.Core.Path.{◌≡◌, ap, ap₂, ◌∙◌}
use mathlib.Core.List.{List}
use Rattle.shapes.specs.Sort as Sort
use Rattle.shapes.specs.Shapes.{EVENT, Entry}
use Rattle.definition.specs.Merge.{joins, closes, Span, error_event}
use Rattle.merger.specs.Events.{put_at}
use Rattle.merger.specs.Pen.{Page, page, pen_at, around, span_of, begun, joined, turn}
use Rattle.merger.specs.declared.pen.Pen.{Pen}

pub same_pen : (p : Pen) {l l' : List ℕ} → l ≡ l' → page l p ≡ page l' p
same_pen p h = ap (λ (l : List ℕ). page l p) h

-- e is the begin event of the innermost open node
module _ (g : Page) (e : Entry) (is : e ≡ begun g) where
  pub widens : (z : Span) (s t : ℕ) (l : List ℕ) → s ≡ min e.2 z.0 → t ≡ max e.3 z.1 → l ≡ put_at g.room (g.pen.node - EVENT) (e.0, e.1, s, t, e.4) → page l g.pen ≡ turn (joins z) g
  widens z s t l p q h =
      same_pen g.pen
      (h
      ∙ ap₂ (λ (a b : ℕ). put_at g.room (g.pen.node - EVENT) (e.0, e.1, a, b, e.4)) p q
      ∙ ap (λ (f : Entry). put_at g.room (g.pen.node - EVENT) (joined f z)) is)

  shut : ℕ → Entry → Page
  shut d f = page (put_at (put_at g.room (g.pen.node - EVENT) (error_event Sort.BEGIN (span_of f) f.4)) g.pen.to (error_event Sort.END (span_of f) d)) (pen_at (g.pen.to + EVENT) (around f))

  pub shuts : (d : ℕ) (l l' : List ℕ) → l ≡ put_at g.room (g.pen.node - EVENT) (error_event Sort.BEGIN (span_of e) e.4) → l' ≡ put_at l g.pen.to (error_event Sort.END (span_of e) d) → page l' (pen_at (g.pen.to + EVENT) (around e)) ≡ turn (closes d) g
  unfolding shut
  shuts d l l' h k = same_pen (pen_at (g.pen.to + EVENT) (around e)) (k ∙ ap (λ (r : List ℕ). put_at r g.pen.to (error_event Sort.END (span_of e) d)) h) ∙ ap (shut d) is
