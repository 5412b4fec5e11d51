-- The furthest row at which names were expected, and the furthest that was unexpected. Assumes nothing.
use Prim.Native.Nat.{ℕ, zero, suc, ◌+◌, ◌-◌, ◌≤◌, ◌<◌}
use mathlib.Core.Path.{◌≡◌, refl, sym, ap, ap₂, subst, ◌∙◌}
use mathlib.Core.List.{List, []}
use mathlib.Core.Bool.{Bool, true, false}
use mathlib.Core.Option.{Option, some}
use native.Mathlib.Nat.{le_refl}
use native.Mathlib.Numerals.{add-one}
use native.Mathlib.Omega.{arith}
use borrow.Author.Tests.{le-ltb, lt-ltb, ne_eqb, eq-eqb}
use lib.Dec.{eqb, ltb}
use lib.ListN.{length, take, drop, length-drop}
use Rattle.definition.specs.Run as P
use Rattle.definition.specs.Render.{Source}
use Rattle.notes.specs.Whole.{Whole}
use Rattle.notes.specs.Bits.{ifb}
use Rattle.notes.specs.Change.{with_wants, with_codes}
use Rattle.notes.specs.Means.{want_of, unwant_of, names_in, spelled, over_of}
use Rattle.notes.specs.Did.{Placed, Named, Ok, Plain, Enters, Peeked}

-- rows of n are counted from the end in the definition
module _ (n at : ℕ) (ns : List ℕ) where
  further_some : (w : ℕ × List ℕ) (b c : Bool) → ltb (n - at) w.0 ≡ b → eqb (n - at) w.0 ≡ c
      → P.further (n - at) ns (some w) ≡ ifb b (some (n - at, P.join [] ns)) (ifb c (some (n - at, P.join w.1 ns)) (some w))
  further_some w true c e f = ap (λ (t : Bool). elim t [ true ↦ some (n - at, P.join [] ns) | false ↦ elim (eqb (n - at) w.0) [ true ↦ some (n - at, P.join w.1 ns) | false ↦ some w ] ]) e
  further_some w false true e f = ap₂ (λ (t u : Bool). elim t [ true ↦ some (n - at, P.join [] ns) | false ↦ elim u [ true ↦ some (n - at, P.join w.1 ns) | false ↦ some w ] ]) e f
  further_some w false false e f = ap₂ (λ (t u : Bool). elim t [ true ↦ some (n - at, P.join [] ns) | false ↦ elim u [ true ↦ some (n - at, P.join w.1 ns) | false ↦ some w ] ]) e f

  further_keep : (w : ℕ) (l : List ℕ) → at + 1 < w → w ≤ n + 1 → P.further (n - at) ns (want_of n w l) ≡ want_of n w l
  further_keep zero l h k = absurd (omega arith)
  further_keep (suc p) l h k = further_some (n - p, l) false false (le-ltb (n - at) (n - p) (omega arith)) (ne_eqb (n - at) (n - p) (omega arith))

  further_new : (w : ℕ) (l : List ℕ) → w < at + 1 → at ≤ n → P.further (n - at) ns (want_of n w l) ≡ want_of n (at + 1) (P.join [] ns)
  further_new zero l h k = simp add-one
  further_new (suc p) l h k = simp add-one (further_some (n - p, l) true false (lt-ltb (n - at) (n - p) (omega arith)) (ne_eqb (n - at) (n - p) (omega arith)))

  further_same : (w : ℕ) (l : List ℕ) → w ≡ at + 1 → at ≤ n → P.further (n - at) ns (want_of n w l) ≡ want_of n w (P.join l ns)
  further_same zero l h k = absurd (omega arith)
  further_same (suc p) l h k =
      let e : n - at ≡ n - p = omega arith in
      further_some (n - p, l) false true (le-ltb (n - at) (n - p) (omega arith)) (eq-eqb (n - at) (n - p) e) ∙ ap (λ (r : ℕ). some (r, P.join l ns)) e

module _ (n at : ℕ) where
  furthest_some : (u : ℕ) (b : Bool) → ltb (n - at) u ≡ b → P.furthest (n - at) (some u) ≡ ifb b (some (n - at)) (some u)
  furthest_some u true e = ap (λ (t : Bool). elim t [ true ↦ some (n - at) | false ↦ some u ]) e
  furthest_some u false e = ap (λ (t : Bool). elim t [ true ↦ some (n - at) | false ↦ some u ]) e

  furthest_keep : (u : ℕ) → at + 1 ≤ u → u ≤ n + 1 → P.furthest (n - at) (unwant_of n u) ≡ unwant_of n u
  furthest_keep zero h k = absurd (omega arith)
  furthest_keep (suc p) h k = furthest_some (n - p) false (le-ltb (n - at) (n - p) (omega arith))

  furthest_new : (u : ℕ) → u < at + 1 → at ≤ n → P.furthest (n - at) (unwant_of n u) ≡ unwant_of n (at + 1)
  furthest_new zero h k = simp add-one
  furthest_new (suc p) h k = simp add-one (furthest_some (n - p) true (lt-ltb (n - at) (n - p) (omega arith)))

-- how many rows are left where the next row past trivia is
pub left : {ids : List ℕ} {p at : ℕ} → Peeked ids p at → length (P.skip (drop p ids)) ≡ length ids - at
left {ids} {p} {at} k = ap length (sym k.rest) ∙ length-drop at ids

-- a step that changes nothing but the furthest rows and the names
module _ {x : Source} {s : Whole} (w : Ok (length x.ids) s) where
  noted : (g : P.State → Option (ℕ × List ℕ)) (h : P.State → Option ℕ) (want unwant count mask : ℕ) (codes : List ℕ)
      → Placed (length x.ids) s.pos s.first s.far want unwant → Named count mask codes
      → ((a : P.State) → a.rest ≡ drop s.pos x.ids → a.want ≡ want_of (length x.ids) s.want (names_in s) → g a ≡ want_of (length x.ids) want (spelled (take count codes)))
      → ((a : P.State) → a.rest ≡ drop s.pos x.ids → a.unwant ≡ unwant_of (length x.ids) s.unwant → h a ≡ unwant_of (length x.ids) unwant)
      → Plain (λ a. P.note (g a) (h a) a.chosen a) x s (with_codes count mask codes (with_wants want unwant s))
  unfolding over_of
  noted g h want unwant count mask codes placed named e f =
      record {
        did = λ b v.
            record {
              does = λ p a t.
                  record {
                    over = t.over;
                    means = λ z.
                        let m = t.means z in
                        record { rest = m.rest; mode = m.mode; fuel = m.fuel; written = m.written; want = e a m.rest m.want; unwant = f a m.rest m.unwant; chosen = m.chosen; cache = m.cache };
                  };
              wf = ((placed, named, w.2), v.1);
              room = λ z. z;
              first = refl;
              ahead = le_refl s.pos;
              grows = le_refl s.ev;
              kept = refl;
            };
        ok = (placed, named, w.2);
        evcap = refl;
        ercap = refl;
        first = refl;
        place = refl;
        still = refl;
      }

-- a row that was looked at lies among the item's
module _ {ids : List ℕ} {pos first far want unwant at : ℕ} (w : Placed (length ids) pos first far want unwant) (k : Peeked ids pos at) where
  want_at : Placed (length ids) pos first far (at + 1) unwant
  want_at = record { here = w.here; since = w.since; far_in = w.far_in; want_in = omega (arith, k.within); want_since = λ z. omega (arith, k.ahead, w.since); unwant_in = w.unwant_in; unwant_since = w.unwant_since }

  unwant_at : Placed (length ids) pos first far want (at + 1)
  unwant_at = record { here = w.here; since = w.since; far_in = w.far_in; want_in = w.want_in; want_since = w.want_since; unwant_in = omega (arith, k.within); unwant_since = λ z. omega (arith, k.ahead, w.since) }

module _ {x : Source} {s : Whole} {at : ℕ} (w : Ok (length x.ids) s) (k : Peeked x.ids s.pos at) where
  wants : (ns : List ℕ) (want count mask : ℕ) (codes : List ℕ) → Placed (length x.ids) s.pos s.first s.far want s.unwant → Named count mask codes
      → P.further (length x.ids - at) ns (want_of (length x.ids) s.want (names_in s)) ≡ want_of (length x.ids) want (spelled (take count codes))
      → Plain (P.expected ns) x s (with_codes count mask codes (with_wants want s.unwant s))
  wants ns want count mask codes placed named e =
      noted w (λ a. P.further (length (P.skip a.rest)) ns a.want) (λ a. a.unwant) want s.unwant count mask codes placed named
      (λ a r m. ap₂ (λ (i : ℕ) (o : Option (ℕ × List ℕ)). P.further i ns o) (ap (λ (l : List ℕ). length (P.skip l)) r ∙ left k) m ∙ e)
      (λ a r m. m)

  pub expected_nearer : (ns : List ℕ) → at + 1 < s.want → Plain (P.expected ns) x s s
  expected_nearer ns h = wants ns s.want s.count s.mask s.codes w.0 w.1 (further_keep (length x.ids) at ns s.want (names_in s) h w.0.want_in)

  pub expected_further : (ns : List ℕ) {r : Whole} → s.want < at + 1 → Enters (P.join [] ns) (with_codes 0 0 s.codes (with_wants (at + 1) s.unwant s)) r → Plain (P.expected ns) x s r
  expected_further ns {r} h n =
      subst (λ (q : Whole). Plain (P.expected ns) x s q) (sym n.is)
      (wants ns (at + 1) r.count r.mask r.codes (want_at w.0 k) n.named (further_new (length x.ids) at ns s.want (names_in s) h k.within ∙ ap (want_of (length x.ids) (at + 1)) (sym n.names)))

  pub expected_again : (ns : List ℕ) {r : Whole} → s.want ≡ at + 1 → Enters (P.join (names_in s) ns) s r → Plain (P.expected ns) x s r
  expected_again ns {r} h n =
      subst (λ (q : Whole). Plain (P.expected ns) x s q) (sym n.is)
      (wants ns s.want r.count r.mask r.codes w.0 n.named (further_same (length x.ids) at ns s.want (names_in s) h k.within ∙ ap (want_of (length x.ids) s.want) (sym n.names)))

  unwants : (unwant : ℕ) → Placed (length x.ids) s.pos s.first s.far s.want unwant
      → P.furthest (length x.ids - at) (unwant_of (length x.ids) s.unwant) ≡ unwant_of (length x.ids) unwant
      → Plain P.unexpected x s (with_wants s.want unwant s)
  unwants unwant placed e =
      noted w (λ a. a.want) (λ a. P.furthest (length (P.skip a.rest)) a.unwant) s.want unwant s.count s.mask s.codes placed w.1
      (λ a r m. m)
      (λ a r m. ap₂ P.furthest (ap (λ (l : List ℕ). length (P.skip l)) r ∙ left k) m ∙ e)

  pub unexpected_further : s.unwant < at + 1 → Plain P.unexpected x s (with_wants s.want (at + 1) s)
  unexpected_further h = unwants (at + 1) (unwant_at w.0 k) (furthest_new (length x.ids) at s.unwant h k.within)

  pub unexpected_nearer : at + 1 ≤ s.unwant → Plain P.unexpected x s s
  unexpected_nearer h = unwants s.unwant w.0 (furthest_keep (length x.ids) at s.unwant h w.0.unwant_in)
