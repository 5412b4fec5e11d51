-- Which text a kind and a name have, and that each fits the room; what a text that was written is. Assumes nothing.
use Prim.Native.Nat.{ℕ, ◌+◌, ◌≤◌, ◌<◌}
use mathlib.Core.Path.{◌≡◌, refl, sym, ap, subst}
use mathlib.Core.List.{List, [], ◌++◌}
use mathlib.Core.Bool.{true}
use native.Mathlib.Decide.{dec_lt}
use native.Mathlib.Omega.{arith}
use borrow.Author.Tests.{leb-true}
use lib.Dec.{leb}
use lib.ListN.{length, get_or, drop, length-append, get_or-append, get_or-eq_default}
use lib.Seq.{length-take-le, get_or-append-add}
use Rattle.kinds.specs.Spelling.{kind_texts, name_texts, spellings, kind_text, name_text, Spelled}
use Rattle.kinds.proofs.Tables.{all, all_sound}

spelled : (text before after : List ℕ) (r : ℕ) → r ≡ length text → after ≡ text ++ drop (length text) before → Spelled text before after r
spelled text before after r e w =
    let within : r ≤ length after = omega (arith, e, simp length-append at (ap length w)) in
    record { count = e; written = w; within = within; front = sym (length-take-le r after within) }

-- what is written is a text that equals the one asked for
pub spelled_as : {part text before after : List ℕ} {r : ℕ} → part ≡ text → Spelled part before after r → Spelled text before after r
spelled_as {part} {text} {before} {after} {r} e s = subst (λ (t : List ℕ). Spelled t before after r) e s

-- nothing is written of an empty text
pub spelled_none : (text before : List ℕ) → text ≡ [] → Spelled text before before 0
spelled_none text before e = subst (λ (t : List ℕ). Spelled t before before 0) (sym e) (spelled [] before before 0 refl refl)

pub kind_at : (k : ℕ) → k < 122 → get_or spellings k [] ≡ kind_text k
unfolding kind_text
kind_at k h = get_or-append kind_texts name_texts [] k h

pub kind_none : (k : ℕ) → 122 ≤ k → kind_text k ≡ []
unfolding kind_text
kind_none k h = get_or-eq_default kind_texts [] h

pub name_at : (n : ℕ) → get_or spellings (122 + n) [] ≡ name_text n
unfolding name_text
name_at n = get_or-append-add kind_texts name_texts n []

pub name_none : (n : ℕ) → 85 ≤ n → name_text n ≡ []
unfolding name_text
name_none n h = get_or-eq_default name_texts [] h

short : all (λ n. leb (length (get_or spellings n [])) 32) 207 ≡ true
short = refl

pub fits : (n : ℕ) → n < 207 → length (get_or spellings n []) ≤ 32
fits n h = leb-true _ 32 (all_sound (λ n. leb (length (get_or spellings n [])) 32) 207 short n h)

pub kind_fits : (k : ℕ) → length (kind_text k) ≤ 32
kind_fits k = go (dec_lt k 122)
  where
    go : Dec (k < 122) → length (kind_text k) ≤ 32
    go (yes h) = rw (← kind_at) (fits k (omega arith))
    go (no h) = rw (kind_none k (omega (arith, h))) (omega arith)

pub name_fits : (n : ℕ) → length (name_text n) ≤ 32
name_fits n = go (dec_lt n 85)
  where
    go : Dec (n < 85) → length (name_text n) ≤ 32
    go (yes h) = rw (← name_at) (fits (122 + n) (omega arith))
    go (no h) = rw (name_none n (omega (arith, h))) (omega arith)
