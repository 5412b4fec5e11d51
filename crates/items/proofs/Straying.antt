-- A row that begins no rule: form 10's record, its event, and the ERROR node are the definition's. Assumes nothing.
use Prim.Native.Nat.{ℕ, ◌+◌, ◌-◌, ◌≤◌, ◌<◌}
use mathlib.Core.Path.{◌≡◌, refl, sym, ap, ap₂, subst, ◌∙◌}
use mathlib.Core.List.{List, [], ◌∷◌, ◌++◌, append-nil}
use mathlib.Core.Bool.{Bool, true, false}
use native.Mathlib.Omega.{arith}
use borrow.Author.Tests.{ltb-true, ltb-false}
use lib.Dec.{ltb}
use lib.ListN.{length, get_or, length-drop}
use Rattle.shapes.specs.Shapes.{HEAD, Rec, flat_records, of_item}
use Rattle.definition.specs.Run as P
use Rattle.definition.specs.Run.{Choice, bad, stray}
use Rattle.definition.specs.Render.{Source, used, held}
use Rattle.notes.specs.Whole.{Whole}
use Rattle.notes.specs.Bits.{ifb}
use Rattle.choice.specs.Choice as C
use Rattle.notes.specs.Means.{bufs, Past, Means, Stands, Lines, recorded, over_of}
use Rattle.notes.specs.Did.{Wf, Events}
use Rattle.notes.proofs.Rooms.{flat_append, er_count, fits, first_of, spill, exceeds_none, exceeds_errors}
use Rattle.notes.proofs.Core.{Sticky, sticky_mark}
use Rattle.notes.proofs.Sticky.{sticky_trans}
use Rattle.steps.proofs.Taken.{row, start_is, end_is}
use Rattle.items.specs.Items.{Tally, tell, Tells, junk_node, blamed, Strays}
use Rattle.items.proofs.Skipping.{sticky_junk}

-- form 10's record is a moment of its own
abbrev noted : P.Reader
noted a = P.mark (P.note a.want a.unwant ((length a.rest, stray) ∷ []) a)

-- where no error is pending, its event follows
blame_is : (a : P.State) → a.chosen ≡ [] → tell (noted a) ≡ P.blame a
blame_is a e = ap blames (sym e)
  where
    n : ℕ
    n = length a.rest

    blames : List (ℕ × Choice) → P.State
    blames c = P.emit (bad n stray) (record { rest = a.rest; mode = a.mode; fuel = a.fuel; out = a.out; want = a.want; unwant = a.unwant; chosen = c; cache = a.cache; begun = a.begun; drafts = (a.out, (n, stray) ∷ c) ∷ a.drafts })

abbrev marks : P.Reader
marks a = P.mark (P.note a.want a.unwant ((length a.rest, stray) ∷ a.chosen) a)

pub sticky_stray : (p : Past) (x : Source) (a : P.State) → Sticky p x a (P.stray_item a)
unfolding over_of
sticky_stray p x a =
    sticky_trans p x a (P.blame a) (P.stray_item a)
    (sticky_trans p x a (marks a) (P.blame a) (sticky_mark p x (P.note a.want a.unwant ((length a.rest, stray) ∷ a.chosen) a)) (sticky_mark p x (P.put a.rest (bad (length a.rest) stray ∷ a.out) (P.note a.want a.unwant a.chosen (marks a)))))
    (sticky_junk p x (P.blame a))

module _ (x : Source) (s s₁ : Whole) (before st en : ℕ) (ev er er₁ sc : List ℕ) (l : Lines x.ids x.ends) (h : s.pos < length x.ids) (z : s.full ≡ 0) (w : Wf x (bufs ev er sc) s)
    (q : st ≡ get_or (0 ∷ x.ends) s.pos 0) (q' : en ≡ get_or x.ends s.pos 0) (u : C.Noted (st ∷ en ∷ 10 ∷ s.number ∷ 0 ∷ []) s s₁ er er₁) where
  pub noted_wf : Wf x (bufs ev er₁ sc) s₁
  noted_wf =
      subst (λ (y : Whole). Wf x (bufs ev er₁ sc) y) (sym u.is)
      ((w.0.0, w.0.1, record { events = w.0.2.events; since = omega (arith, w.0.2.since, u.grows); errors = u.fits; numbered = w.0.2.numbered }), record { events = w.1.events; errors = omega (arith, w.1.errors, u.long); scratch = w.1.scratch })

  module _ (p : Past) (a : P.State) (t : Stands p x s (bufs ev er sc) a) (e : a.chosen ≡ []) where
    abbrev one : List (ℕ × Choice)
    one = (length a.rest, stray) ∷ []

    m : Means p x s (bufs ev er sc) a
    m = t.means z

    back : length x.ids - length a.rest ≡ s.pos
    back = ap (λ (r : List ℕ). length x.ids - length r) m.rest ∙ row s.pos x.ids w.0.0.here

    numbers : ◌≡◌ {A = List ℕ} (st ∷ en ∷ 10 ∷ s.number ∷ 0 ∷ []) (flat_records (of_item p.number (recorded p.limits x one)))
    unfolding recorded
    numbers =
        ap (λ (i : ℕ). st ∷ en ∷ 10 ∷ i ∷ 0 ∷ []) (sym m.chosen.numbered)
        ∙ ap₂ (λ (i j : ℕ). i ∷ j ∷ 10 ∷ p.number ∷ 0 ∷ []) (q ∙ sym (start_is x (length a.rest) s.pos back (omega (arith, l.level, w.0.0.here)))) (q' ∙ sym (end_is x (length a.rest) s.pos back (omega (arith, l.level))))

    noted_over : s₁.full ≡ over_of p x (noted a)
    unfolding over_of
    noted_over = u.filled ∙ go (ltb s.ercap (s.er + HEAD)) refl ∙ ap (λ (i : ℕ). first_of i (spill p x a.out one)) (sym z ∙ t.over)
      where
        go : (c : Bool) → ltb s.ercap (s.er + HEAD) ≡ c → ◌≡◌ {A = ℕ} (ifb c 8 0) (spill p x a.out one)
        go true i = let g : s.ercap < s.er + HEAD = ltb-true s.ercap (s.er + HEAD) i in sym (exceeds_errors p.event_room p.error_room (used p.limits x (a.out, one)) (fits w m).0 (omega (arith, er_count w m, ap (held p.limits x) e, m.chosen.room)))
        go false i = let g : s.er + HEAD ≤ s.ercap = ltb-false s.ercap (s.er + HEAD) i in sym (exceeds_none p.event_room p.error_room (used p.limits x (a.out, one)) (fits w m).0 (omega (arith, er_count w m, ap (held p.limits x) e, m.chosen.room)))

    none : recorded p.limits x a.chosen ≡ []
    unfolding recorded
    none = ap (recorded p.limits x) e

    noted_means : s₁.full ≡ 0 → Means p x s₁ (bufs ev er₁ sc) (noted a)
    noted_means y =
        subst (λ (r : Whole). Means p x r (bufs ev er₁ sc) (noted a)) (sym u.is)
        (record {
          rest = m.rest;
          mode = m.mode;
          fuel = m.fuel;
          written = m.written;
          want = m.want;
          unwant = m.unwant;
          chosen =
              record {
                is =
                    u.wrote y
                    ∙ ap₂ (λ (i j : List ℕ). i ++ j) (m.chosen.is ∙ ap (λ (r : List Rec). flat_records (p.records ++ of_item p.number r)) none ∙ ap flat_records (append-nil p.records)) numbers
                    ∙ sym (flat_append p.records (of_item p.number (recorded p.limits x one)));
                since = m.chosen.since;
                room = m.chosen.room;
                quoted = m.chosen.quoted;
                numbered = m.chosen.numbered;
                apart = (omega (arith, ap length m.rest, length-drop s.pos x.ids, w.0.0.since), refl, tt);
              };
          cache = m.cache;
        })

    noted_stands : Stands p x s₁ (bufs ev er₁ sc) (noted a)
    noted_stands = record { over = noted_over; means = noted_means }

  pub strays : {d : Tally} {r : Whole} {ev₁ ev₂ : List ℕ} → Tells x s₁ before d (bufs ev er₁ sc) (bufs ev₁ er₁ sc) → Events junk_node x d.state r ev₁ ev₂ → Strays x s before (record { state = r; before = d.before }) (bufs ev er sc) (bufs ev₂ er₁ sc)
  strays {d} {r} {ev₁} {ev₂} T J =
      let D = J.did er₁ sc T.wf in
      record {
        does = λ p a t f.
            D.does (blamed p x a) (P.blame a)
            (subst (λ (c : P.State). Stands (blamed p x a) x d.state (bufs ev₁ er₁ sc) c) (blame_is a (f z).0)
            (T.does p (noted a) (noted_stands p a t (f z).0) (λ y. ((f z).1, omega (arith, (f z).2)))));
        count = λ p a t f y. T.count p (noted a) (noted_stands p a t (f z).0) (λ i. ((f z).1, omega (arith, (f z).2))) (D.room y);
        wf = D.wf;
        room = λ y. z;
        first = D.first ∙ ap (λ (y : Whole). y.first) T.is ∙ ap (λ (y : Whole). y.first) u.is;
        ahead = omega (arith, D.ahead, ap (λ (y : Whole). y.pos) T.is, ap (λ (y : Whole). y.pos) u.is);
      }
