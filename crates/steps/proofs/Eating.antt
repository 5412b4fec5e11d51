-- Rows that are expected: taken up, or the state fails. Assumes nothing.
use Prim.Native.Nat.{ℕ, suc, ◌+◌, ◌≤◌, ◌<◌}
use mathlib.Core.Path.{◌≡◌, refl, sym, ap, subst, ◌∙◌}
use mathlib.Core.List.{List, ◌∷◌}
use mathlib.Core.Bool.{true, false}
use native.Mathlib.Nat.{le_refl}
use native.Mathlib.Omega.{arith}
use lib.ListN.{length, get_or, take, drop}
use lib.Seq.{take-take}
use Rattle.shapes.specs.Sort as Sort
use Rattle.definition.specs.Buffer.{placed}
use Rattle.definition.specs.Run as P
use Rattle.definition.specs.Run.{ok, failed, Next, end, other, hit}
use Rattle.definition.specs.Render.{Source}
use Rattle.notes.specs.Whole.{Whole}
use Rattle.notes.specs.Change.{with_pos, with_mode, mark_of, gone}
use Rattle.notes.specs.Means.{Bufs, bufs, Past, Means, Lines, mode_of}
use Rattle.notes.specs.Did.{Ok, Wf, Did, Events, Plain, Put, Peeked, hits, ahead}
use Rattle.notes.proofs.Core.{like_same, like_at, alike, idle, then, wf_put, caps_put}
use Rattle.notes.proofs.Sticky.{Sticks, sticky, sticky_trans, sticky_trivia, sticky_take, sticky_fail, sticky_returned, sticky_refused}
use Rattle.steps.proofs.Taken.{took, ok_took}
use Rattle.steps.proofs.Next.{if_ok_yes}
use Rattle.steps.proofs.Branch.{ahead_is}
use Rattle.steps.proofs.Parts.{retold, not_ok, turned, gone_ok, returned}

-- steps on events alone, from laws on any step
pub not_ok_e : (f : P.Reader) {x : Source} {s : Whole} {ev : List ℕ} → ((p : Past) → Sticks p x (P.if_ok f)) → Ok (length x.ids) s → s.evcap ≤ length ev → (s.mode ≡ 0 → ⊥) → Events (P.if_ok f) x s s ev ev
not_ok_e f F w h n = record { did = λ er sc v. not_ok f F v n; ok = w; fits = h; first = refl; grows = le_refl _ }

miss_row : (N : List ℕ) (z : Next) → hits z ≡ false → (a : P.State) → P.eat_row N z a ≡ P.turn failed (P.expected N a)
miss_row N end h a = refl
miss_row N other h a = refl
miss_row N (hit k is) h a = let c : ◌≡◌ {A = ℕ} 0 1 = cc in absurd (omega arith)

module _ (S N : List ℕ) {x : Source} {s : Whole} (good : s.mode ≡ 0) where
  eats_is : (z : Next) → P.next S (drop s.pos x.ids) ≡ z → {p : Past} {b : Bufs} (a : P.State) → Means p x s b a → P.eats S N a ≡ P.eat_row N z a
  eats_is z q a m = if_ok_yes _ a (m.mode ∙ ap mode_of good) ∙ ap (λ (l : List ℕ). P.eat_row N (P.next S l) a) m.rest ∙ ap (λ (n : Next). P.eat_row N n a) q

  -- no such row
  pub eat_misses : {r : Whole} {ev : List ℕ} (z : Next) → P.next S (drop s.pos x.ids) ≡ z → ((a : P.State) → P.eat_row N z a ≡ P.turn failed (P.expected N a)) → s.evcap ≤ length ev → Plain (λ a. P.turn failed (P.expected N a)) x s r → Events (P.eats S N) x s r ev ev
  eat_misses {r} {ev} z q e h y =
      record {
        did = λ er sc w.
            retold (P.eats S N) (λ p a n. refl) (λ p. sticky_fail p x N) (λ p. (sticky p x).at_eat S N) (λ p a m. (sticky p x).at_eat S N a) (λ p a t i j. sym (eats_is z q a (t.means i) ∙ e a))
            (idle w (λ p a t. like_same refl)) (y.did (bufs ev er sc) w);
        ok = y.ok;
        fits = omega (arith, y.evcap);
        first = y.first;
        grows = omega (arith, y.still);
      }

  pub eat_missed : {r : Whole} {at : ℕ} {ev ev' : List ℕ} → (ev' ≡ ev) × Peeked x.ids s.pos at × (hits (P.next S (drop s.pos x.ids)) ≡ false) → s.evcap ≤ length ev → Plain (λ a. P.turn failed (P.expected N a)) x s r → Events (P.eats S N) x s r ev ev'
  eat_missed {r} {at} {ev} y h z = subst (λ (l : List ℕ). Events (P.eats S N) x s r ev l) (sym y.0) (eat_misses (P.next S (drop s.pos x.ids)) refl (miss_row N (P.next S (drop s.pos x.ids)) y.2) h z)

  -- such a row
  pub eat_takes : (k at st : ℕ) {s₁ r : Whole} {ev ev₁ ev₂ : List ℕ} → Lines x.ids x.ends → Ok (length x.ids) s → Peeked x.ids s.pos at → at < length x.ids → P.next S (drop s.pos x.ids) ≡ hit k (drop (suc at) x.ids) → st ≡ get_or (0 ∷ x.ends) at 0
      → Events P.trivia x s s₁ ev ev₁ → Put (placed Sort.TOKEN k st (get_or x.ends at 0) ev₁ s₁.ev) s₁ r ev₁ ev₂ → Events (P.eats S N) x s (with_pos (at + 1) r) ev ev₂
  eat_takes k at st {s₁} {r} {ev} {ev₁} {ev₂} l w pk h q e t v =
      let u = subst (λ (j : ℕ). Put (placed Sort.TOKEN k j (get_or x.ends at 0) ev₁ s₁.ev) s₁ r ev₁ ev₂) e v in
      let caps = caps_put u in
      let g : s₁.first ≤ at = omega (arith, t.first, w.0.since, pk.ahead) in
      record {
        did = λ er sc y.
            let T = t.did er sc y in
            record {
              does = λ p a z. alike (like_at z (sticky_trans p x a (P.trivia a) (P.take k (drop (suc at) x.ids) (P.trivia a)) (sticky_trivia p x a) (sticky_take p x k (drop (suc at) x.ids) (P.trivia a))) ((sticky p x).at_eat S N a) (λ i. like_same (sym (eats_is (hit k (drop (suc at) x.ids)) q a (z.means i))))) (took k at l h T.wf u (T.does p a z));
              wf = (ok_took (length x.ids) at u g h T.wf.0, (wf_put u x er sc T.wf).1);
              room = λ i. T.room (u.room i);
              first = ap (λ (c : Whole). c.first) u.is ∙ T.first;
              ahead = omega (arith, pk.ahead);
              grows = omega (arith, T.grows, u.grows);
              kept = sym (take-take s.ev s₁.ev ev₂ T.grows) ∙ ap (take s.ev) u.kept ∙ take-take s.ev s₁.ev ev₁ T.grows ∙ T.kept;
            };
        ok = ok_took (length x.ids) at u g h t.ok;
        fits = omega (arith, t.fits, caps.0, u.long);
        first = ap (λ (c : Whole). c.first) u.is ∙ t.first;
        grows = omega (arith, t.grows, u.grows);
      }

-- a step that touches no list fails after it
pub fails_after : (f : P.Reader) {x : Source} {s r : Whole} → Plain f x s r → Plain (λ a. P.turn failed (f a)) x s (with_mode 1 r)
fails_after f y = record { did = λ b w. turned 1 failed refl (y.did b w); ok = y.ok; evcap = y.evcap; ercap = y.ercap; first = y.first; place = y.place; still = y.still }

-- `not`, by what `sees` answers
refuses_there : (N : List ℕ) (z : Next) → hits z ≡ true → (a : P.State) → P.refuse_row z a ≡ P.turn failed (P.unexpected (P.back a (P.eat_row N z a)))
refuses_there N end h a = let c : ◌≡◌ {A = ℕ} 0 1 = cc in absurd (omega arith)
refuses_there N other h a = let c : ◌≡◌ {A = ℕ} 0 1 = cc in absurd (omega arith)
refuses_there N (hit k is) h a = refl

refuses_none : (z : Next) → hits z ≡ false → (a : P.State) → P.refuse_row z a ≡ P.back a (P.trivia a)
refuses_none end h a = refl
refuses_none other h a = refl
refuses_none (hit k is) h a = let c : ◌≡◌ {A = ℕ} 0 1 = cc in absurd (omega arith)

-- a row that must not stand there: what was written is taken back
module _ (S : List ℕ) {x : Source} {s : Whole} (good : s.mode ≡ 0) where
  -- a step that is `not` where the state is meant
  refused : (f : P.Reader) {r : Whole} {b b' : Bufs} → ((p : Past) → Sticks p x f) → Wf x b s → ((p : Past) (a : P.State) → Means p x s b a → P.refuse_row (P.next S (drop s.pos x.ids)) a ≡ f a) → Did f x s r b b' → Did (P.refuses S) x s r b b'
  refused f F v e =
      retold (P.refuses S) (λ p a n. refl) F (λ p. (sticky p x).at_unless S) (λ p a t. (sticky p x).at_unless S a)
      (λ p a t z z'. let k = t.means z in sym (if_ok_yes _ a (k.mode ∙ ap mode_of good) ∙ ap (λ (l : List ℕ). P.refuse_row (P.next S l) a) k.rest ∙ e p a k)) (idle v (λ p a t. like_same refl))

  module _ {m : ℕ × ℕ} {q r : Whole} {ev ev' : List ℕ} (w : Ok (length x.ids) s) (i : m ≡ mark_of s) (j : q ≡ gone m r) where
    pub unless_there : (N : List ℕ) (at : ℕ) {u : Whole} → ahead S x.ids s ≡ true → Events (P.eats S N) x s r ev ev' → Peeked x.ids s.pos at → (Ok (length x.ids) q → Peeked x.ids q.pos at → Plain P.unexpected x q u) → Events (P.refuses S) x s (with_mode 1 u) ev ev'
    unless_there N at {u} e y k g =
        let there : Next = P.next S (drop s.pos x.ids) in
        let z : Plain P.unexpected x (gone (mark_of s) r) u = subst (λ (c : Whole). Ok (length x.ids) c → Peeked x.ids c.pos at → Plain P.unexpected x c u) (j ∙ ap (λ (l : ℕ × ℕ). gone l r) i) g (gone_ok s r w y.first y.grows y.ok) k in
        record {
          did = λ er sc v.
              let B = returned v (y.did er sc v) in
              refused (λ a. P.turn failed (P.unexpected (P.back a (P.eats S N a)))) (λ p. sticky_refused p x (P.eats S N) ((sticky p x).at_eat S N)) v
              (λ p a t. refuses_there N there (ahead_is S x.ids s there good refl ∙ e) a ∙ ap (λ (c : P.State). P.turn failed (P.unexpected (P.back a c))) (sym (eats_is S N good there refl a t)))
              (turned 1 failed refl (then B (z.did (bufs ev' er sc) B.wf)));
          ok = z.ok;
          fits = omega (arith, z.evcap, y.fits);
          first = z.first ∙ y.first;
          grows = omega (arith, z.still);
        }

    pub unless_none : ahead S x.ids s ≡ false → Events P.trivia x s r ev ev' → Events (P.refuses S) x s q ev ev'
    unless_none e y =
        let there : Next = P.next S (drop s.pos x.ids) in
        subst (λ (c : Whole). Events (P.refuses S) x s c ev ev') (sym (j ∙ ap (λ (l : ℕ × ℕ). gone l r) i))
        (record {
          did = λ er sc v. refused (λ a. P.back a (P.trivia a)) (λ p. sticky_returned p x P.trivia (sticky_trivia p x)) v (λ p a t. refuses_none there (ahead_is S x.ids s there good refl ∙ e) a) (returned v (y.did er sc v));
          ok = gone_ok s r w y.first y.grows y.ok;
          fits = y.fits;
          first = y.first;
          grows = le_refl _;
        })

pub not_ok_p : (f : P.Reader) {x : Source} {s : Whole} → ((p : Past) → Sticks p x (P.if_ok f)) → Ok (length x.ids) s → (s.mode ≡ 0 → ⊥) → Plain (P.if_ok f) x s s
not_ok_p f F w n = record { did = λ b v. not_ok f F v n; ok = w; evcap = refl; ercap = refl; first = refl; place = refl; still = refl }
