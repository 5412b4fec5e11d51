-- Productions: a node around the grammar's line for it, and what is left of a line once the state is not in good order. Assumes nothing.
use Prim.Native.Nat.{ℕ, zero, suc, ◌-◌, ◌≤◌}
use mathlib.Core.Path.{◌≡◌, refl, sym, ap, ◌∙◌}
use mathlib.Core.List.{List}
use mathlib.Core.Bool.{Bool, true, false, ◌&&◌}
use mathlib.Core.Logic.{◌⊎◌, inl, inr}
use native.Mathlib.Omega.{arith}
use native.Mathlib.Numerals.{sub-one}
use native.Mathlib.Decide.{ℕ_discrete}
use borrow.Author.Tests.{eq-eqb, ne_eqb}
use lib.Dec.{eqb, T}
use lib.ListN.{length}
use Rattle.shapes.specs.Shapes.{EVENT}
use Rattle.definition.specs.Prog.{Production, Prog, eat, unless, ifnext, opt, many, then, ◌⨟◌, ◌⫽◌, last, recover, node, memo}
use Rattle.definition.specs.Grammar.{grammar, kind}
use Rattle.definition.specs.Run as P
use Rattle.definition.specs.Render.{Source}
use Rattle.definition.proofs.Buffer.{exec_adds, none_added}
use Rattle.notes.specs.Whole.{Whole}
use Rattle.notes.specs.Bits.{ifb}
use Rattle.notes.specs.Means.{Bufs, bufs, mode_of}
use Rattle.notes.specs.Did.{Ok, Wf, Did, Began, Shuts}
use Rattle.notes.proofs.Core.{does_as}
use Rattle.notes.proofs.Core as core
use Rattle.notes.proofs.Sticky.{sticky_exec}
use Rattle.steps.proofs.Next.{if_ok_no}
use Rattle.steps.proofs.Parts as parts
use Rattle.parts.specs.Reads.{reads}

-- the grammar's line for a production, where d more nodes may be opened below it
abbrev pub body : Bool → ℕ → Bool → Production → P.Reader
body E d o A a = P.exec d (λ o b u. P.run E d o b u) (grammar E A) o a

run_some : (E : Bool) (d : ℕ) (o : Bool) (A : Production) → (d ≡ 0 → ⊥) → (a : P.State) → P.nodes d o (kind A) (body E (d - 1) o A) a ≡ P.run E d o A a
run_some E zero o A h a = absurd (h refl)
run_some E (suc d) o A h a = ap (λ (n : ℕ). P.nodes (suc d) o (kind A) (body E n o A) a) (sub-one (suc d))

run_none : (E : Bool) (d : ℕ) (o : Bool) (A : Production) → d ≡ 0 → (a : P.State) → P.nodes d o (kind A) (λ t. t) a ≡ P.run E d o A a
run_none E d o A e a = ap (λ (n : ℕ). P.nodes n o (kind A) (λ t. t) a) e ∙ ap (λ (n : ℕ). P.run E n o A a) (sym e)

module _ (A : Production) (o : Bool) (E : Bool) (d : ℕ) {x : Source} {s s₁ r : Whole} {ev ev₁ er sc : List ℕ} (w : Wf x (bufs ev er sc) s) (y : Began d x s s₁ ev ev₁) where
  -- a node around its line
  pub produced : {s₂ : Whole} {b b₃ : Bufs} → (d ≡ 0 → ⊥) → Did (body E (d - 1) o A) x s₁ s₂ (bufs ev₁ er sc) b → Shuts (P.finish o (kind A) (length x.ids - s₁.pos)) s₁.ev x s₂ r b b₃ → Did (P.run E d o A) x s r (bufs ev er sc) b₃
  produced h z e =
      does_as (P.run E d o A) (λ p a t. run_some E d o A h a)
      (parts.node d (kind A) o (body E (d - 1) o A) (λ a. exec_adds E (d - 1) (grammar E A) o a) (λ p. sticky_exec p x E (d - 1) (grammar E A) o) s₁.pos s₁.ev refl refl (y.events.did er sc w) y.opens z e)

  -- no more nodes may be opened: the node is empty
  pub empty : {b₃ : Bufs} → d ≡ 0 → Shuts (P.finish o (kind A) (length x.ids - s₁.pos)) s₁.ev x s₁ r (bufs ev₁ er sc) b₃ → Did (P.run E d o A) x s r (bufs ev er sc) b₃
  empty h e =
      let B = y.events.did er sc w in
      does_as (P.run E d o A) (λ p a t. run_none E d o A h a)
      (parts.node d (kind A) o (λ t. t) (λ a. none_added a.out) (λ p a n. refl) s₁.pos s₁.ev refl refl B y.opens (core.idle B.wf (λ p a t. core.like_same refl)) e)

-- what does nothing but in good order
abbrev pub guarded : Prog → Bool
guarded (eat S N) = true
guarded (unless S) = true
guarded (ifnext S p) = true
guarded (opt p) = true
guarded (many p) = true
guarded (then p) = true
guarded (p ⨟ q) = guarded p && guarded q
guarded (p ⫽ q) = true
guarded (last p) = true
guarded (recover S) = false
guarded (node a) = false
guarded (memo a) = true

module _ (d : ℕ) (call : Bool → Production → P.Reader) where
  pub guarded_idle : (q : Prog) (o : Bool) → T (guarded q) → (n : ℕ) (a : P.State) → (n ≡ 0 → ⊥) → a.mode ≡ mode_of n → P.exec d call q o a ≡ a
  guarded_idle (eat S N) o t n a h e = if_ok_no _ n a h e
  guarded_idle (unless S) o t n a h e = if_ok_no _ n a h e
  guarded_idle (ifnext S p) o t n a h e = if_ok_no _ n a h e
  guarded_idle (opt p) o t n a h e = if_ok_no _ n a h e
  guarded_idle (many p) o t n a h e = if_ok_no _ n a h e
  guarded_idle (then p) o t n a h e = if_ok_no _ n a h e
  guarded_idle (p ⨟ q) o t n a h e = go (guarded p) (guarded q) t (λ u. guarded_idle p o u n a h e) (λ u. guarded_idle q o u n a h e)
    where
      go : (u v : Bool) → T (u && v) → (T u → P.exec d call p o a ≡ a) → (T v → P.exec d call q o a ≡ a) → P.exec d call q o (P.exec d call p o a) ≡ a
      go true true t i j = ap (P.exec d call q o) (i tt) ∙ j tt
      go true false t i j = absurd t
      go false v t i j = absurd t
  guarded_idle (p ⫽ q) o t n a h e = if_ok_no _ n a h e
  guarded_idle (last p) o t n a h e = if_ok_no _ n a h e
  guarded_idle (recover S) o t n a h e = absurd t
  guarded_idle (node b) o t n a h e = absurd t
  guarded_idle (memo b) o t n a h e = if_ok_no _ n a h e

pub undone_mode : (n : ℕ) → (n ≡ 0 → ⊥) → ((n ≡ 1) × (ifb (eqb n 1) 0 n ≡ 0)) ⊎ ((2 ≤ n) × (ifb (eqb n 1) 0 n ≡ n))
undone_mode n h = go (ℕ_discrete n 1)
  where
    go : Dec (n ≡ 1) → ((n ≡ 1) × (ifb (eqb n 1) 0 n ≡ 0)) ⊎ ((2 ≤ n) × (ifb (eqb n 1) 0 n ≡ n))
    go (yes e) = inl (e, ap (λ (c : Bool). ifb c 0 n) (eq-eqb n 1 e))
    go (no e) = inr (omega (arith, h, e), ap (λ (c : Bool). ifb c 0 n) (ne_eqb n 1 e))

-- a node around its line, behind what f did
module _ (A : Production) (o : Bool) (E : Bool) (d : ℕ) {f : P.Reader} {x : Source} {s₀ s s₁ : Whole} {b₀ : Bufs} {ev er sc ev₁ : List ℕ} (D : Did f x s₀ s b₀ (bufs ev er sc)) (y : Ok (length x.ids) s → Began d x s s₁ ev ev₁) where
  pub begins : Did (λ a. a) x s₁ s₁ (bufs ev₁ er sc) (bufs ev₁ er sc)
  begins = core.idle ((y D.wf.0).events.did er sc D.wf).wf (λ p a t. core.like_same refl)

  pub closes : {g : P.Reader} {s₂ : Whole} {ev₂ er₂ sc₂ : List ℕ} → Did g x s₁ s₂ (bufs ev₁ er sc) (bufs ev₂ er₂ sc₂) → (Ok (length x.ids) s₂ × (s₂.evcap ≤ length ev₂) × (s₂.ercap ≤ length er₂)) × (s₁.pos ≤ s₂.pos) × (s₂.full ≡ 0 → (EVENT ≤ s₁.ev) × (s₁.ev ≤ s₂.ev))
  closes C = ((C.wf.0, C.wf.1.events, C.wf.1.errors), C.ahead, λ j. let k = (y D.wf.0).opens (C.room j) in (omega arith, C.grows))

  pub makes : (d ≡ 0 → ⊥) → {s₂ r : Whole} {ev₂ er₂ sc₂ : List ℕ} {b₃ : Bufs} → Did (reads E (d - 1) o (grammar E A)) x s₁ s₂ (bufs ev₁ er sc) (bufs ev₂ er₂ sc₂) → (Wf x (bufs ev₂ er₂ sc₂) s₂ → Shuts (P.finish o (kind A) (length x.ids - s₁.pos)) s₁.ev x s₂ r (bufs ev₂ er₂ sc₂) b₃) → Did (λ a. P.run E d o A (f a)) x s₀ r b₀ b₃
  makes n C e = core.then D (produced A o E d D.wf (y D.wf.0) n C (e C.wf))

  pub makes_none : d ≡ 0 → {r : Whole} {b₃ : Bufs} → (Wf x (bufs ev₁ er sc) s₁ → Shuts (P.finish o (kind A) (length x.ids - s₁.pos)) s₁.ev x s₁ r (bufs ev₁ er sc) b₃) → Did (λ a. P.run E d o A (f a)) x s₀ r b₀ b₃
  makes_none n e = core.then D (empty A o E d D.wf (y D.wf.0) n (e begins.wf))
