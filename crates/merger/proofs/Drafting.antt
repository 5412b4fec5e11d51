-- The room while it is written: begin events of open nodes bear links and the span so far, and the rest is as the finished list has it. Each mark
-- keeps it so; when no mark is left no node is open, so no link is left.
use Prim.Native.Nat.{ℕ, suc, ◌+◌, ◌-◌, ◌*◌, ◌≤◌}
use mathlib.Core.Path.{◌≡◌, refl, ap, ap₂, sym, ◌∙◌, subst}
use mathlib.Core.List.{List, [], ◌∷◌, ◌++◌, append_assoc, append-nil}
use mathlib.Core.Bool.{true}
use lib.ListN.{length, take, drop, length-append}
use lib.Seq.{take_at}
use native.Mathlib.Omega.{arith}
use Rattle.shapes.specs.Sort as Sort
use Rattle.shapes.specs.Shapes.{EVENT, Entry, flat}
use Rattle.shapes.proofs.Laws.{flat_length}
use Rattle.definition.specs.Merge.{Mark, opens, joins, closes, keeps, Span, widened, paired, reach, merge, error_event}
use Rattle.events.specs.Events.{entry_at}
use Rattle.merger.specs.Events.{put_at}
use Rattle.merger.specs.Pen.{Page, page, pen_at, link, around, span_of, begun, joined, turn, Roomy, Inside, Able}
use Rattle.merger.proofs.Lists.{amid, put_amid, entry_amid, length_put}
use Rattle.merger.proofs.Bools.{never}

flat_append : (a b : List Entry) → flat (a ++ b) ≡ flat a ++ flat b
flat_append [] b = refl
flat_append (e ∷ a) b = ap (λ (l : List ℕ). e.0 ∷ e.1 ∷ e.2 ∷ e.3 ∷ e.4 ∷ l) (flat_append a b)

-- a node that is open: the events between the begin event around it and its own, its span so far, and its depth
abbrev pub Frame : Type 0
Frame = List Entry × Span × ℕ

-- the innermost node is first; the place past its begin event
abbrev pub place : List Frame → ℕ
place [] = 0
place (f ∷ fs) = place fs + (EVENT * length f.0 + EVENT)

-- the room up to there
abbrev pub laid : List Frame → List ℕ
laid [] = []
laid (f ∷ fs) = laid fs ++ (flat f.0 ++ flat (link (place fs) f.1 f.2 ∷ []))

-- the finished list up to there, and the finished spans: r gives the span of a node in which so many are open
abbrev pub done : (ℕ → Span → Span) → List Frame → List Entry
done r [] = []
done r (f ∷ fs) = done (λ h. r (suc h)) fs ++ (f.0 ++ (error_event Sort.BEGIN (r 0 f.1) f.2 ∷ []))

abbrev pub spans : (ℕ → Span → Span) → List Frame → List Span
spans r [] = []
spans r (f ∷ fs) = r 0 f.1 ∷ spans (λ h. r (suc h)) fs

-- the room: the open nodes, the events since the innermost begin event, and what is not written yet
pub record Lies (out : List Entry) (ms : List Mark) (g : Page) (fs : List Frame) (since : List Entry) (tail : List ℕ) : Type 0 where
  pub cells : g.room ≡ laid fs ++ (flat since ++ tail)
  pub to : g.pen.to ≡ place fs + EVENT * length since
  pub node : g.pen.node ≡ place fs
  pub nested : paired ms (length fs) ≡ true
  pub whole : out ≡ done (reach ms) fs ++ (since ++ merge ms (spans (reach ms) fs))
  pub fits : EVENT * length out ≤ length g.room

pub record Draft (out : List Entry) (ms : List Mark) (g : Page) : Type 0 where
  pub frames : List Frame
  pub since : List Entry
  pub tail : List ℕ
  pub lies : Lies out ms g frames since tail

length_laid : (fs : List Frame) → length (laid fs) ≡ place fs
length_laid [] = refl
length_laid (f ∷ fs) =
    let h = length_laid fs in
    let n = flat_length f.0 in
    simp length-append (omega arith)

length_done : (r : ℕ → Span → Span) (fs : List Frame) → EVENT * length (done r fs) ≡ place fs
length_done r [] = refl
length_done r (f ∷ fs) =
    let h = length_done (λ h. r (suc h)) fs in
    simp length-append (omega arith)

-- THE CELLS
split : (t : List ℕ) → EVENT ≤ length t → t ≡ flat (entry_at t 0 ∷ []) ++ drop EVENT t
split [] h = absurd (omega arith)
split (a ∷ []) h = absurd (omega arith)
split (a ∷ b ∷ []) h = absurd (omega arith)
split (a ∷ b ∷ c ∷ []) h = absurd (omega arith)
split (a ∷ b ∷ c ∷ d ∷ []) h = absurd (omega arith)
split (a ∷ b ∷ c ∷ d ∷ e ∷ t) h = refl

-- at the end of what is written
module _ (fs : List Frame) (since : List Entry) where
  written : List ℕ
  written = laid fs ++ flat since

  length_written : length written ≡ place fs + EVENT * length since
  unfolding written
  length_written = let a = length_laid fs in let b = flat_length since in simp length-append (omega arith)

  pub appended : (l tail : List ℕ) (to : ℕ) (e : Entry) → l ≡ laid fs ++ (flat since ++ tail) → to ≡ place fs + EVENT * length since → to + EVENT ≤ length l → put_at l to e ≡ laid fs ++ (flat (since ++ (e ∷ [])) ++ drop EVENT tail)
  unfolding written
  appended l tail to e h p n =
      let at : to ≡ length written = p ∙ sym length_written in
      let long : EVENT ≤ length tail = omega (arith, ap length h, length-append (laid fs) (flat since ++ tail), length-append (flat since) tail, length_laid fs, flat_length since) in
      let cells : l ≡ amid written (entry_at tail 0) (drop EVENT tail) = h ∙ sym (append_assoc (laid fs) (flat since) tail) ∙ ap (λ (t : List ℕ). written ++ t) (split tail long) in
      ap₂ (λ (t : List ℕ) (i : ℕ). put_at t i e) cells at
      ∙ put_amid written (drop EVENT tail) (entry_at tail 0) e
      ∙ simp (flat_append, append_assoc)

-- at the begin event of the innermost open node
module _ (f : Frame) (fs : List Frame) (l rest : List ℕ) (node : ℕ) (h : l ≡ laid (f ∷ fs) ++ rest) (p : node ≡ place (f ∷ fs)) where
  begin : node - EVENT ≡ length (written fs f.0)
  begin = omega (arith, length_written fs f.0)

  cells : l ≡ amid (written fs f.0) (link (place fs) f.1 f.2) rest
  unfolding written
  cells = h ∙ simp append_assoc

  pub held : entry_at l (node - EVENT) ≡ link (place fs) f.1 f.2
  held = ap₂ entry_at cells begin ∙ entry_amid (written fs f.0) rest (link (place fs) f.1 f.2)

  pub patched : (e : Entry) → put_at l (node - EVENT) e ≡ laid fs ++ ((flat f.0 ++ flat (e ∷ [])) ++ rest)
  unfolding written
  patched e =
      ap₂ (λ (t : List ℕ) (i : ℕ). put_at t i e) cells begin
      ∙ put_amid (written fs f.0) rest (link (place fs) f.1 f.2) e
      ∙ simp append_assoc

-- THE STEPS
roomy : (r : ℕ → Span → Span) (fs : List Frame) (since : List Entry) (e : Entry) (es out : List Entry) (n : ℕ) → out ≡ done r fs ++ (since ++ (e ∷ es)) → EVENT * length out ≤ n → place fs + EVENT * length since + EVENT ≤ n
roomy r fs since e es out n h k = omega (arith, length_done r fs, ap length h, length-append (done r fs) (since ++ (e ∷ es)), length-append since (e ∷ es))

around_link : (n : ℕ) (z : Span) (d : ℕ) → around (link n z d) ≡ n
around_link n z d = omega arith

module _ (out : List Entry) (ms : List Mark) (g : Page) where
  abbrev Step : Mark → Type 0
  Step m = Able m g × Draft out ms (turn m g)

  opening : (i : ℕ) (z : Span) (fs : List Frame) (since : List Entry) (tail : List ℕ) → Lies out (opens i z ∷ ms) g fs since tail → Step (opens i z)
  opening i z fs since tail d =
      let room : Roomy g = rw d.to (roomy (λ h. reach ms (suc h)) fs since _ _ out (length g.room) d.whole d.fits) in
      let lies : Lies out ms (turn (opens i z) g) ((since, z, i) ∷ fs) [] (drop EVENT tail) = record {
        cells =
            appended fs since g.room tail g.pen.to (link g.pen.node z i) d.cells d.to room
            ∙ ap (λ (n : ℕ). laid fs ++ (flat (since ++ (link n z i ∷ [])) ++ drop EVENT tail)) d.node
            ∙ simp (flat_append, append_assoc);
        to = omega (arith, d.to);
        node = omega (arith, d.to);
        nested = d.nested;
        whole = d.whole ∙ simp append_assoc;
        fits = rw length_put d.fits;
      } in
      (room, record { frames = (since, z, i) ∷ fs; since = []; tail = drop EVENT tail; lies = lies })

  keeping : (e : Entry) (fs : List Frame) (since : List Entry) (tail : List ℕ) → Lies out (keeps e ∷ ms) g fs since tail → Step (keeps e)
  keeping e fs since tail d =
      let room : Roomy g = rw d.to (roomy (reach ms) fs since e (merge ms (spans (reach ms) fs)) out (length g.room) d.whole d.fits) in
      let lies : Lies out ms (turn (keeps e) g) fs (since ++ (e ∷ [])) (drop EVENT tail) = record {
        cells = appended fs since g.room tail g.pen.to e d.cells d.to room;
        to = omega (arith, d.to, length-append since (e ∷ []));
        node = d.node;
        nested = d.nested;
        whole = d.whole ∙ simp append_assoc;
        fits = rw length_put d.fits;
      } in
      (room, record { frames = fs; since = since ++ (e ∷ []); tail = drop EVENT tail; lies = lies })

  -- the innermost node that is open is f, whatever mark is next
  module _ (m : Mark) (f : Frame) (fs : List Frame) (since : List Entry) (tail : List ℕ) (d : Lies out (m ∷ ms) g (f ∷ fs) since tail) where
    inside : Inside g
    inside = omega (arith, d.node, ap length d.cells, length-append (laid (f ∷ fs)) (flat since ++ tail), length_laid (f ∷ fs))

    begins : begun g ≡ link (place fs) f.1 f.2
    begins = held f fs g.room (flat since ++ tail) g.pen.node d.cells d.node

    repaired : (e : Entry) → put_at g.room (g.pen.node - EVENT) e ≡ laid fs ++ ((flat f.0 ++ flat (e ∷ [])) ++ (flat since ++ tail))
    repaired = patched f fs g.room (flat since ++ tail) g.pen.node d.cells d.node

  joining : (z : Span) (f : Frame) (fs : List Frame) (since : List Entry) (tail : List ℕ) → Lies out (joins z ∷ ms) g (f ∷ fs) since tail → Step (joins z)
  joining z f fs since tail d =
      let lies : Lies out ms (turn (joins z) g) ((f.0, widened f.1 z, f.2) ∷ fs) since tail = record {
        cells =
            ap (λ (e : Entry). put_at g.room (g.pen.node - EVENT) (joined e z)) (begins (joins z) f fs since tail d)
            ∙ repaired (joins z) f fs since tail d (link (place fs) (widened f.1 z) f.2)
            ∙ simp append_assoc;
        to = d.to;
        node = d.node;
        nested = d.nested;
        whole = d.whole;
        fits = rw length_put d.fits;
      } in
      (inside (joins z) f fs since tail d, record { frames = (f.0, widened f.1 z, f.2) ∷ fs; since = since; tail = tail; lies = lies })

  closing : (i : ℕ) (f : Frame) (fs : List Frame) (since : List Entry) (tail : List ℕ) → Lies out (closes i ∷ ms) g (f ∷ fs) since tail → Step (closes i)
  closing i f fs since tail d =
      let room : Roomy g = rw d.to (roomy (reach (closes i ∷ ms)) (f ∷ fs) since _ _ out (length g.room) d.whole d.fits) in
      let begin = begins (closes i) f fs since tail d in
      let shut : List Entry = f.0 ++ (error_event Sort.BEGIN f.1 f.2 ∷ since) in
      let long = length-append f.0 (error_event Sort.BEGIN f.1 f.2 ∷ since) in
      let patch : put_at g.room (g.pen.node - EVENT) (error_event Sort.BEGIN f.1 f.2) ≡ laid fs ++ (flat shut ++ tail) =
      repaired (closes i) f fs since tail d (error_event Sort.BEGIN f.1 f.2) ∙ simp (flat_append, append_assoc) in
      let lies : Lies out ms (turn (closes i) g) fs (shut ++ (error_event Sort.END f.1 i ∷ [])) (drop EVENT tail) = record {
        cells =
            ap (λ (e : Entry). put_at (put_at g.room (g.pen.node - EVENT) (error_event Sort.BEGIN (span_of e) e.4)) g.pen.to (error_event Sort.END (span_of e) i)) begin
            ∙ appended fs shut _ tail g.pen.to (error_event Sort.END f.1 i) patch (omega (arith, d.to, long)) (rw length_put room);
        to = omega (arith, d.to, long, length-append shut (error_event Sort.END f.1 i ∷ []));
        node = ap around begin ∙ around_link (place fs) f.1 f.2;
        nested = d.nested;
        whole = d.whole ∙ simp append_assoc;
        fits = rw length_put (rw length_put d.fits);
      } in
      ((room, inside (closes i) f fs since tail d), record { frames = fs; since = shut ++ (error_event Sort.END f.1 i ∷ []); tail = drop EVENT tail; lies = lies })

  step : (m : Mark) (fs : List Frame) (since : List Entry) (tail : List ℕ) → Lies out (m ∷ ms) g fs since tail → Step m
  step (opens i z) fs since tail d = opening i z fs since tail d
  step (joins z) [] since tail d = never d.nested
  step (joins z) (f ∷ fs) since tail d = joining z f fs since tail d
  step (closes i) [] since tail d = never d.nested
  step (closes i) (f ∷ fs) since tail d = closing i f fs since tail d
  step (keeps e) fs since tail d = keeping e fs since tail d

module _ (out : List Entry) (ms : List Mark) (m : Mark) (ms' : List Mark) (g : Page) (first : ms ≡ m ∷ ms') (d : Draft out ms g) where
  stepped : Able m g × Draft out ms' (turn m g)
  stepped = let n = subst (λ (l : List Mark). Draft out l g) first d in step out ms' g m n.frames n.since n.tail n.lies

  pub able : Able m g
  able = stepped.0

  pub drafted : (g' : Page) → g' ≡ turn m g → Draft out ms' g'
  drafted g' h = subst (λ (p : Page). Draft out ms' p) (sym h) stepped.1

pub started : (ms : List Mark) (room : List ℕ) → paired ms 0 ≡ true → EVENT * length (merge ms []) ≤ length room → Draft (merge ms []) ms (page room (pen_at 0 0))
started ms room h n = record { frames = []; since = []; tail = room; lies = record { cells = refl; to = refl; node = refl; nested = h; whole = refl; fits = n } }

pub completed : (out : List Entry) (ms : List Mark) (g : Page) → ms ≡ [] → Draft out ms g → take (EVENT * length out) g.room ≡ flat out
completed out ms g h d = let n = subst (λ (l : List Mark). Draft out l g) h d in go n.frames n.since n.tail n.lies
  where
    go : (fs : List Frame) (since : List Entry) (tail : List ℕ) → Lies out [] g fs since tail → take (EVENT * length out) g.room ≡ flat out
    go [] since tail l =
        let e : out ≡ since = l.whole ∙ append-nil since in
        ap (take (EVENT * length out)) l.cells
        ∙ ap (λ (es : List Entry). take (EVENT * length out) (flat es ++ tail)) (sym e)
        ∙ take_at (flat out) tail (EVENT * length out) (flat_length out)
    go (f ∷ fs) since tail l = never l.nested
