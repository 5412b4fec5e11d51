-- A production that remembers its failures, by its kind and bit: the ways through it. Assumes nothing.
use Prim.Native.Nat.{ℕ, ◌+◌, ◌/◌, ◌<◌, max}
use mathlib.Core.Path.{◌≡◌, sym, ap, subst, ◌∙◌}
use mathlib.Core.List.{List}
use mathlib.Core.Bool.{Bool, true, false}
use mathlib.Core.Logic.{inl, inr}
use native.Mathlib.Omega.{arith}
use lib.ListN.{length}
use Rattle.definition.specs.Prog.{Production}
use Rattle.definition.specs.Grammar.{kind}
use Rattle.definition.specs.Run as P
use Rattle.definition.specs.Render.{Source}
use Rattle.notes.specs.Whole.{Whole}
use Rattle.notes.specs.Bits.{bit_at, Kept}
use Rattle.notes.specs.Change.{with_mode, with_far}
use Rattle.notes.specs.Means.{Bufs, bufs}
use Rattle.notes.specs.Did.{Did}
use Rattle.notes.proofs.Sticky.{sticky_run}
use Rattle.steps.proofs.Memo.{memo_hit, memo_through, memo_failed}
use Rattle.notes.proofs.Bits.{Memo, kind_of, bit_of}
use Rattle.notes.proofs.Bits as bits
use Rattle.parts.specs.Reads.{Bit}

-- a production that remembers its failures, by its kind and bit
module _ (E : Bool) (d : ℕ) (o : Bool) (A : Production) {p bit : ℕ} (known : kind A ≡ p) {x : Source} {s : Whole} {b : Bufs} (w : Did (λ a. a) x s s b b) (at : Bit p s.pos bit) where
  abbrev Remembered : Whole → Bufs → Type 0
  Remembered r b' = Did (P.memos (kind A) (P.run E d o A)) x s r b b'

  by : {r : Whole} {b' : Bufs} → ((t : Memo) → bit ≡ bit_of t s.pos → Did (P.memos (kind_of t) (P.run E d o A)) x s r b b') → Remembered r b'
  by {r} {b'} g = go at
    where
      named : (t : Memo) → p ≡ kind_of t → bit ≡ bit_of t s.pos → Remembered r b'
      named t e i = subst (λ (n : ℕ). Did (P.memos n (P.run E d o A)) x s r b b') (sym (known ∙ e)) (g t i)

      go : Bit p s.pos bit → Remembered r b'
      go (inl e) = named bits.expr e.0 e.1
      go (inr e) = named bits.term e.0 e.1

  -- the bit is one of the words
  pub bit_in : bit / 64 < length b.scratch
  bit_in = go at
    where
      go : Bit p s.pos bit → bit / 64 < length b.scratch
      go (inl e) = omega (arith, e.1, w.wf.0.0.here, w.wf.1.scratch)
      go (inr e) = omega (arith, e.1, w.wf.0.0.here, w.wf.1.scratch)

  -- and after what the production did
  pub bit_in_still : {f : P.Reader} {r : Whole} {b' : Bufs} → Did f x s r b b' → bit / 64 < length b'.scratch
  bit_in_still {b' = b'} y = go at
    where
      go : Bit p s.pos bit → bit / 64 < length b'.scratch
      go (inl e) = omega (arith, e.1, w.wf.0.0.here, y.wf.1.scratch)
      go (inr e) = omega (arith, e.1, w.wf.0.0.here, y.wf.1.scratch)

  module _ (good : s.mode ≡ 0) {v : Bool} (seen : v ≡ bit_at b.scratch bit) where
    pub known_hit : v ≡ true → Remembered (with_mode 1 s) b
    known_hit h = by (λ t i. memo_hit t (P.run E d o A) (λ p x a. sticky_run p x E d o A a) w.wf good (seen ∙ ap (bit_at b.scratch) i) h)

    module _ (h : v ≡ false) {r : Whole} {b' : Bufs} (y : Did (P.run E d o A) x s r b b') where
      pub known_through : (r.mode ≡ 1 → ⊥) → Remembered r b'
      known_through n = by (λ t i. memo_through t (P.run E d o A) (λ p x a. sticky_run p x E d o A a) w.wf good (seen ∙ ap (bit_at b.scratch) i) h y n)

      pub known_failed : r.mode ≡ 1 → {q : Whole} {sc : List ℕ} → (q ≡ with_far (max r.far (bit / 2 + 1)) r) × Kept bit b'.scratch sc → length sc ≡ length b'.scratch → Remembered q (bufs b'.events b'.errors sc)
      known_failed n {q} {sc} k l = by (λ t i. memo_failed t (P.run E d o A) (λ p x a. sticky_run p x E d o A a) w.wf good (seen ∙ ap (bit_at b.scratch) i) h y n (k.0 ∙ ap (λ (c : ℕ). with_far (max r.far (c / 2 + 1)) r) i, subst (λ (c : ℕ). Kept c b'.scratch sc) i k.1) l)
