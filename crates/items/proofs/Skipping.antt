-- A row that begins no rule: its ERROR node, form 10's record and event. Assumes nothing.
use Prim.Native.Nat.{ℕ, ◌-◌, ◌≤◌}
use mathlib.Core.Path.{◌≡◌, sym, ap, ap₂, subst, ◌∙◌}
use mathlib.Core.List.{List, ◌∷◌, ◌++◌}
use native.Mathlib.Nat.{le_trans}
use native.Mathlib.Omega.{arith}
use lib.ListN.{length, get_or, take, replicate, length-replicate, length-drop}
use lib.Seq.{take-take}
use Rattle.kinds.specs.Kinds as k
use Rattle.shapes.specs.Sort as Sort
use Rattle.shapes.specs.Shapes.{EVENT, event}
use Rattle.definition.specs.Run as P
use Rattle.definition.specs.Run.{opened}
use Rattle.definition.specs.Buffer.{placed, buffer}
use Rattle.definition.specs.Open.{Open}
use Rattle.definition.specs.Render.{Source, starts_at}
use Rattle.definition.proofs.Buffer.{buffer_opened, adding}
use Rattle.notes.specs.Whole.{Whole}
use Rattle.notes.specs.Means.{bufs, Past, Lines, over_of}
use Rattle.notes.specs.Did.{Ok, Wf, Did, Events, Put, Shuts, shut_a}
use Rattle.notes.proofs.Rooms.{ev_count}
use Rattle.notes.proofs.Core.{Sticky, sticky_mark, like_at, like_same, alike, depth_is, writes, ok_put, caps_put}
use Rattle.notes.proofs.Sticky.{Sticks, sticky_trans, sticky_skip, sticky_shut}
use Rattle.steps.proofs.Taken.{row, start_is}
use Rattle.steps.proofs.Ends.{enough, lent}
use Rattle.items.specs.Items.{junk_node}

-- THE NODE
abbrev opens : P.Reader
opens a = P.emit (opened (length a.rest)) a

sticky_opens : (p : Past) (x : Source) → Sticks p x opens
unfolding over_of
sticky_opens p x a = sticky_mark p x (P.put a.rest (opened (length a.rest) ∷ a.out) a)

abbrev skips : P.Reader
skips = P.skip_to P.rule_keywords

sticky_node : (p : Past) (x : Source) (a : P.State) (n : ℕ) → Sticky p x a (shut_a k.ERROR n (skips (opens a)))
sticky_node p x a n = sticky_trans p x a (skips (opens a)) (shut_a k.ERROR n (skips (opens a))) (sticky_trans p x a (opens a) (skips (opens a)) (sticky_opens p x a) (sticky_skip p x P.rule_keywords (opens a))) (sticky_shut p x k.ERROR n (skips (opens a)))

pub sticky_junk : (p : Past) (x : Source) → Sticks p x junk_node
sticky_junk p x a = sticky_node p x a (length a.rest)

-- lists that are long enough, where none are at hand
pub any : (x : Source) (s : Whole) (ev : List ℕ) → Ok (length x.ids) s → s.evcap ≤ length ev → Wf x (bufs ev (replicate s.ercap 0) (enough x)) s
any x s ev w h = lent x s ev (replicate s.ercap 0) w h (omega (arith, length-replicate {A = ℕ} s.ercap 0))

module _ (x : Source) {s s₁ : Whole} {ev ev₁ : List ℕ} (st : ℕ) (l : Lines x.ids x.ends) (w : Ok (length x.ids) s) (h : s.evcap ≤ length ev) (q : st ≡ get_or (0 ∷ x.ends) s.pos 0)
    (u : Put (placed Sort.BEGIN 0 st st ev s.ev) s s₁ ev ev₁) where
  junk_opens : (er sc : List ℕ) → Wf x (bufs ev er sc) s → Did opens x s s₁ (bufs ev er sc) (bufs ev₁ er sc)
  junk_opens er sc v =
      writes u (λ a. opened (length a.rest)) (λ a. tt) v
      (λ p a m.
      let e : length x.ids - length a.rest ≡ s.pos = ap (λ (r : List ℕ). length x.ids - length r) m.rest ∙ row s.pos x.ids w.0.here in
      let z : starts_at x (length a.rest) ≡ st = start_is x (length a.rest) s.pos e (omega (arith, l.level, w.0.here)) ∙ sym q in
      buffer_opened x (length a.rest) a.out ∙ ap₂ (λ (i d : ℕ). buffer x a.out ++ event Sort.BEGIN 0 i i d) z (sym (depth_is v m)))

  place : s₁.pos ≡ s.pos
  place = ap (λ (y : Whole). y.pos) u.is

  -- what the steps behind ask
  pub junk_skip : Ok (length x.ids) s₁ × (s₁.evcap ≤ length ev₁)
  junk_skip = (ok_put u w, omega (arith, h, (caps_put u).0, u.long))

  module _ {s₂ : Whole} {ev₂ : List ℕ} (y : Events skips x s₁ s₂ ev₁ ev₂) where
    on : Did skips x s₁ s₂ (bufs ev₁ (replicate s₁.ercap 0) (enough x)) (bufs ev₂ (replicate s₁.ercap 0) (enough x))
    on = y.did (replicate s₁.ercap 0) (enough x) (any x s₁ ev₁ junk_skip.0 junk_skip.1)

    pub junk_shut : ((s₂.ev ≤ s₂.evcap) × (s₂.evcap ≤ length ev₂)) × (s₂.pos ≤ length x.ends) × (s.pos ≤ s₂.pos) × (s₂.full ≡ 0 → (EVENT ≤ s₁.ev) × (s₁.ev ≤ s₂.ev))
    junk_shut = ((y.ok.2.events, y.fits), omega (arith, y.ok.0.here, l.level), omega (arith, on.ahead, place), λ z. (omega (arith, u.more (on.room z)), y.grows))

    module _ {kind : ℕ} {r : Whole} {ev₃ : List ℕ} (named : kind ≡ k.ERROR) (e : (er sc : List ℕ) → Wf x (bufs ev₂ er sc) s₂ → Shuts (shut_a kind (length x.ids - s.pos)) s₁.ev x s₂ r (bufs ev₂ er sc) (bufs ev₃ er sc)) where
      junk_did : (er sc : List ℕ) → Wf x (bufs ev er sc) s → Did junk_node x s r (bufs ev er sc) (bufs ev₃ er sc)
      junk_did er sc v =
          let O = junk_opens er sc v in
          let K = y.did er sc O.wf in
          let E = subst (λ (i : ℕ). Shuts (shut_a i (length x.ids - s.pos)) s₁.ev x s₂ r (bufs ev₂ er sc) (bufs ev₃ er sc)) named (e er sc K.wf) in
          record {
            does = λ p a t.
                let c : P.State = opens a in
                let B = O.does p a t in
                let M = K.does p c B in
                let here : s₂.full ≡ 0 → Open s₁.ev (skips c).out = λ z. record { row = length a.rest; before = a.out; added = adding.at_skip P.rule_keywords c; place = ev_count O.wf (B.means (K.room z)) } in
                alike (like_at t (sticky_node p x a (length x.ids - s.pos)) (sticky_junk p x a) (λ z. like_same (ap (λ (n : ℕ). shut_a k.ERROR n (skips c)) (sym (ap length (t.means z).rest ∙ length-drop s.pos x.ids))))) (E.does p (skips c) here M);
            wf = E.wf;
            room = λ z. O.room (K.room (E.room z));
            first = E.first ∙ K.first ∙ O.first;
            ahead = le_trans O.ahead (le_trans K.ahead E.ahead);
            grows = le_trans O.grows (le_trans K.grows E.grows);
            kept =
                E.kept s.ev (le_trans O.grows K.grows) (λ z. omega (arith, u.more (K.room z)))
                ∙ sym (take-take s.ev s₁.ev ev₂ O.grows) ∙ ap (take s.ev) K.kept ∙ take-take s.ev s₁.ev ev₁ O.grows ∙ O.kept;
          }

      pub junks : Events junk_node x s r ev ev₃
      junks =
          let D = junk_did (replicate s.ercap 0) (enough x) (any x s ev w h) in
          record { did = junk_did; ok = D.wf.0; fits = D.wf.1.events; first = D.first; grows = D.grows }
