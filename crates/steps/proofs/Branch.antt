-- Parts that begin with a row of a set, and are left out where it does not stand there. Assumes nothing.
use Prim.Native.Nat.{ℕ, zero, suc, ◌<◌}
use mathlib.Core.Path.{◌≡◌, refl, sym, ap, ◌∙◌}
use mathlib.Core.List.{List}
use mathlib.Core.Bool.{Bool, true, false}
use native.Mathlib.Omega.{arith}
use native.Mathlib.Decide.{dec_lt}
use borrow.Author.Tests.{eq-eqb, ne_eqb}
use lib.Dec.{eqb}
use lib.ListN.{length, get_or, drop}
use lib.Seq.{drop-cons}
use mathlib.Core.Option.{Option, none, some}
use Rattle.kinds.specs.Sets.{ids_of, pick}
use Rattle.kinds.specs.Answers.{is_some}
use Rattle.definition.specs.Run as P
use Rattle.definition.specs.Run.{Mode, ok, failed, stopped, Next, end, other, hit}
use Rattle.definition.specs.Render.{Source}
use Rattle.notes.specs.Whole.{Whole}
use Rattle.notes.specs.Bits.{ifb}
use Rattle.notes.specs.Means.{Bufs, Past, mode_of}
use Rattle.notes.specs.Did.{Ok, Wf, Did, Plain, Peeked, ahead, hits}
use Rattle.notes.proofs.Core.{like_same, like_at, idle}
use Rattle.notes.proofs.Sticky.{Sticks, sticky, sticky_past, sticky_expected}
use Rattle.steps.proofs.Next.{if_ok_yes, next_lacks, next_end}
use Rattle.steps.proofs.Parts.{retold}

-- what `sees` answers
pub ahead_not : (S ids : List ℕ) (s : Whole) → (s.mode ≡ 0 → ⊥) → false ≡ ahead S ids s
ahead_not S ids s n = ap (λ (b : Bool). ifb b (hits (P.next S (drop s.pos ids))) false) (sym (ne_eqb s.mode 0 n))

pub ahead_is : (S ids : List ℕ) (s : Whole) (z : Next) → s.mode ≡ 0 → P.next S (drop s.pos ids) ≡ z → hits z ≡ ahead S ids s
ahead_is S ids s z e q = sym (ap (λ (b : Bool). ifb b (hits (P.next S (drop s.pos ids))) false) (eq-eqb s.mode 0 e) ∙ ap hits q)

-- what its answer tells
pub good : (S ids : List ℕ) (s : Whole) → ahead S ids s ≡ true → s.mode ≡ 0
good S ids s e = go s.mode e
  where
    go : (n : ℕ) → ifb (eqb n 0) (hits (P.next S (drop s.pos ids))) false ≡ true → n ≡ 0
    go zero e = refl
    go (suc n) e = absurd (no (sym (ap (λ (b : Bool). ifb b (hits (P.next S (drop s.pos ids))) false) (ne_eqb (suc n) 0 (λ z. omega arith))) ∙ e))
      where
        no : false ≡ true → ⊥
        no z = let c : ◌≡◌ {A = ℕ} 0 1 = cc in omega arith

-- by the row past trivia
row_hits : (S ids : List ℕ) (p at : ℕ) → Peeked ids p at → at < length ids → hits (P.next S (drop p ids)) ≡ is_some (pick S (get_or ids at 0))
row_hits S ids p at k h = ap (λ (l : List ℕ). hits (P.sought S l)) (sym k.rest ∙ drop-cons ids at 0 h) ∙ go (pick S (get_or ids at 0))
  where
    go : (o : Option ℕ) → hits (elim o as (λ _. Next) [ none ↦ other | some a ↦ hit a (drop (suc at) ids) ]) ≡ is_some o
    go none = refl
    go (some a) = refl

pub ahead_row : (S ids : List ℕ) (s : Whole) {at : ℕ} {r : Bool} → s.mode ≡ 0 → Peeked ids s.pos at → at < length ids → r ≡ is_some (pick S (get_or ids at 0)) → r ≡ ahead S ids s
ahead_row S ids s {at} e k h q = q ∙ sym (row_hits S ids s.pos at k h) ∙ ahead_is S ids s (P.next S (drop s.pos ids)) e refl

-- a row that is seen is one of the set
pub seen_in : (S ids : List ℕ) (s : Whole) {at : ℕ} → ahead S ids s ≡ true → Peeked ids s.pos at → at < length ids
seen_in S ids s {at} e k = go (dec_lt at (length ids))
  where
    go : Dec (at < length ids) → at < length ids
    go (yes h) = h
    go (no h) = let z : false ≡ true = ahead_is S ids s end (good S ids s e) (next_end S k (omega (arith, h))) ∙ e in let c : ◌≡◌ {A = ℕ} 0 1 = cc in absurd (omega arith)

pub seen_has : (S ids : List ℕ) (s : Whole) {at : ℕ} → ahead S ids s ≡ true → Peeked ids s.pos at → is_some (pick S (get_or ids at 0)) ≡ true
seen_has S ids s e k = ahead_row S ids s (good S ids s e) k (seen_in S ids s e k) refl ∙ e

pub next_other_of : (S ids : List ℕ) (s : Whole) {at : ℕ} → s.mode ≡ 0 → Peeked ids s.pos at → at < length ids → ahead S ids s ≡ false → P.next S (drop s.pos ids) ≡ other
next_other_of S ids s {at} e k h q = next_lacks S k h (sym (sym (row_hits S ids s.pos at k h) ∙ ahead_is S ids s (P.next S (drop s.pos ids)) e refl ∙ q))

module _ (S : List ℕ) (f : P.Reader) {x : Source} {s : Whole} {b : Bufs} (F : (p : Past) → Sticks p x f) (w : Wf x b s) where
  -- it stands there
  pub branch_in : {r : Whole} {b' : Bufs} → ahead S x.ids s ≡ true → Did (λ a. f (P.trivia a)) x s r b b' → Did (P.branches S f) x s r b b'
  branch_in e y =
      let m = good S x.ids s e in
      retold (P.branches S f) (λ p a n. refl) (λ p. sticky_past p x f (F p)) (λ p. (sticky p x).at_ifnext S f (F p)) (λ p a t. (sticky p x).at_ifnext S f (F p) a)
      (λ p a t i j. sym (if_ok_yes _ a ((t.means i).mode ∙ ap mode_of m) ∙ ap (λ (l : List ℕ). P.branch (ids_of S) f (P.next S l) a) (t.means i).rest ∙ found (P.next S (drop s.pos x.ids)) (ahead_is S x.ids s (P.next S (drop s.pos x.ids)) m refl ∙ e) a))
      (idle w (λ p a t. like_same refl)) y
    where
      found : (z : Next) → hits z ≡ true → (a : P.State) → P.branch (ids_of S) f z a ≡ f (P.trivia a)
      found end q a = let c : ◌≡◌ {A = ℕ} 0 1 = cc in absurd (omega arith)
      found other q a = let c : ◌≡◌ {A = ℕ} 0 1 = cc in absurd (omega arith)
      found (hit k is) q a = refl

  -- it does not
  pub branch_out : {r : Whole} {b' : Bufs} → ahead S x.ids s ≡ false → Did (P.branches S (λ a. a)) x s r b b' → Did (P.branches S f) x s r b b'
  branch_out e y =
      retold (P.branches S f) (λ p a n. refl) (λ p. (sticky p x).at_ifnext S (λ a. a) (λ a n. refl)) (λ p. (sticky p x).at_ifnext S f (F p)) (λ p a t. (sticky p x).at_ifnext S f (F p) a)
      (λ p a t i j. by s.mode a (t.means i).mode (ap (λ (l : List ℕ). hits (P.next S l)) (t.means i).rest) refl)
      (idle w (λ p a t. like_same refl)) y
    where
      passed : (z : Next) → hits z ≡ false → (a : P.State) → P.branch (ids_of S) (λ a. a) z a ≡ P.branch (ids_of S) f z a
      passed end q a = refl
      passed other q a = refl
      passed (hit k is) q a = let c : ◌≡◌ {A = ℕ} 0 1 = cc in absurd (omega arith)

      in_mode : (m : Mode) (a : P.State) → (m ≡ ok → hits (P.next S a.rest) ≡ false) → P.branches S (λ a. a) (P.turn m a) ≡ P.branches S f (P.turn m a)
      in_mode ok a h = passed (P.next S a.rest) (h refl) (P.turn ok a)
      in_mode failed a h = refl
      in_mode (stopped v) a h = refl

      by : (n : ℕ) (a : P.State) → a.mode ≡ mode_of n → hits (P.next S a.rest) ≡ hits (P.next S (drop s.pos x.ids)) → n ≡ s.mode → P.branches S (λ a. a) a ≡ P.branches S f a
      by zero a q r i = in_mode a.mode a (λ j. r ∙ ahead_is S x.ids s (P.next S (drop s.pos x.ids)) (sym i) refl ∙ e)
      by (suc n) a q r i = in_mode a.mode a (λ j. absurd (no n (sym q ∙ j)))
        where
          no : (n : ℕ) → mode_of (suc n) ≡ ok → ⊥
          no zero z = let c : ◌≡◌ {A = ℕ} 0 1 = cc in omega arith
          no (suc zero) z = let c : ◌≡◌ {A = ℕ} 0 1 = cc in omega arith
          no (suc (suc n)) z = let c : ◌≡◌ {A = ℕ} 0 1 = cc in omega arith

-- the names of a set that does not stand there
module _ (S : List ℕ) {x : Source} {s : Whole} (w : Ok (length x.ids) s) where
  pub pass_names : {r : Whole} → s.mode ≡ 0 → P.next S (drop s.pos x.ids) ≡ other → Plain (P.expected (ids_of S)) x s r → Plain (P.branches S (λ a. a)) x s r
  pass_names e q y =
      record {
        did = λ b v.
            retold (P.branches S (λ a. a)) (λ p a n. refl) (λ p. sticky_expected p x (ids_of S)) (λ p. (sticky p x).at_ifnext S (λ a. a) (λ a n. refl)) (λ p a t. (sticky p x).at_ifnext S (λ a. a) (λ a n. refl) a)
            (λ p a t i j. sym (if_ok_yes _ a ((t.means i).mode ∙ ap mode_of e) ∙ ap (λ (l : List ℕ). P.branch (ids_of S) (λ a. a) (P.next S l) a) (t.means i).rest ∙ ap (λ (z : Next). P.branch (ids_of S) (λ a. a) z a) q))
            (idle v (λ p a t. like_same refl)) (y.did b v);
        ok = y.ok;
        evcap = y.evcap;
        ercap = y.ercap;
        first = y.first;
        place = y.place;
        still = y.still;
      }

  pub pass_end : s.mode ≡ 0 → P.next S (drop s.pos x.ids) ≡ end → Plain (P.branches S (λ a. a)) x s s
  pass_end e q =
      record {
        did = λ b v. idle v (λ p a t. like_at t (λ n. refl) ((sticky p x).at_ifnext S (λ a. a) (λ a n. refl) a) (λ i. like_same (sym (if_ok_yes _ a ((t.means i).mode ∙ ap mode_of e) ∙ ap (λ (l : List ℕ). P.branch (ids_of S) (λ a. a) (P.next S l) a) (t.means i).rest ∙ ap (λ (z : Next). P.branch (ids_of S) (λ a. a) z a) q))));
        ok = w;
        evcap = refl;
        ercap = refl;
        first = refl;
        place = refl;
        still = refl;
      }
