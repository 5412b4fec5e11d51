-- What holds of the totals: they add up, each file is counted where it belongs, and a file answered as recorded has no mark. Assumes nothing.
use Prim.Native.Nat.{ℕ, zero, suc, ◌+◌}
use mathlib.Core.Path.{◌≡◌, refl, sym, ap, ◌∙◌}
use mathlib.Core.List.{List, [], ◌∷◌, ◌++◌, map}
use mathlib.Core.Bool.{Bool, true, false, not, ◌&&◌}
use native.Mathlib.Nat.{add-zero}
use native.Mathlib.Omega.{arith}
use borrow.Author.Tests.{eq-eqb, eqb-true}
use lib.Dec.{eqb}
use lib.ListN.{length}
use Rattle.std.specs.Int.{from_bool}
use Rattle.shapes.specs.Outcome.{DONE, SPENT, DEEP}
use Rattle.replay.specs.Tally.{REFUSED, sort_of, amount_of, differ, was_read, gives, marked, one, count_of, replayed, adding}
use Rattle.replay.specs.Day.{Entry, entry, files_of}
use Rattle.replay.specs.declared.tally.Answer.{Answer}
use Rattle.replay.specs.declared.tally.Answer.TheVariants as answer
use Rattle.replay.specs.declared.tally.Fate.{Fate}
use Rattle.replay.specs.declared.tally.Fate.TheVariants as fate
use Rattle.replay.specs.declared.tally.File.{File}
use Rattle.replay.specs.declared.tally.Tally.{Tally}

-- EACH COUNT IS THE NUMBER OF SUCH LINES

count_more : (p : File → Bool) (fs : List File) (f : File) → count_of p (fs ++ (f ∷ [])) ≡ count_of p fs + one (p f)
count_more p [] f = omega arith
count_more p (g ∷ fs) f = omega (arith, count_more p fs f)

-- what the code adds for one file more is what the definition counts
pub one_more : (fs : List File) (f : File) → replayed (fs ++ (f ∷ [])) ≡ adding (replayed fs) f
unfolding adding
one_more fs f =
    λ i.
    record {
      files = count_more (λ (g : File). was_read g.fate) fs f i;
      done = count_more (λ (g : File). gives DONE g.fate) fs f i;
      spent = count_more (λ (g : File). gives SPENT g.fate) fs f i;
      deep = count_more (λ (g : File). gives DEEP g.fate) fs f i;
      refused = count_more (λ (g : File). gives REFUSED g.fate) fs f i;
      differ = count_more marked fs f i;
      apart = count_more (λ (g : File). not (was_read g.fate)) fs f i;
    }

-- THE COUNTS ADD UP

-- "At every moment the outcome and refused counts add up to the files read so far"
abbrev pub AddUp : Tally → Type 0
AddUp t = t.done + t.spent + t.deep + t.refused ≡ t.files

one_each : (x : Fate) → one (gives DONE x) + one (gives SPENT x) + one (gives DEEP x) + one (gives REFUSED x) ≡ one (was_read x)
one_each (fate.Read (answer.Done e)) = refl
one_each (fate.Read (answer.Spent e)) = refl
one_each (fate.Read (answer.Deep e)) = refl
one_each (fate.Read (answer.Refused n)) = refl
one_each fate.Missing = refl
one_each fate.Changed = refl

pub adds_up : (fs : List File) → AddUp (replayed fs)
adds_up [] = refl
adds_up (f ∷ fs) = omega (arith, adds_up fs, one_each f.fate)

-- one file's result keeps it, whatever the tally was
pub keeps_adding_up : (t : Tally) (f : File) → AddUp t → AddUp (adding t f)
unfolding adding
keeps_adding_up t f h = omega (arith, h, one_each f.fate)

-- NOT READ, NOT COUNTED

-- "A file missing or of another length is counted apart, not among the files read, and not compared."
pub apart_alone : (t : Tally) (f : File) → was_read f.fate ≡ false
    → adding t f ≡ record { files = t.files; done = t.done; spent = t.spent; deep = t.deep; refused = t.refused; differ = t.differ; apart = t.apart + 1 }
unfolding adding
apart_alone t f h = go f.recorded f.fate h
  where
    same : (n : ℕ) → n + 0 ≡ n
    same n = add-zero n

    go : (a : Answer) (x : Fate) → was_read x ≡ false
        → adding t (record { recorded = a; fate = x }) ≡ record { files = t.files; done = t.done; spent = t.spent; deep = t.deep; refused = t.refused; differ = t.differ; apart = t.apart + 1 }
    go a (fate.Read b) h = absurd (let z : ◌≡◌ {A = ℕ} 0 1 = cc in omega arith)
    go a fate.Missing h =
        λ i. record { files = same t.files i; done = same t.done i; spent = same t.spent i; deep = same t.deep i; refused = same t.refused i; differ = same t.differ i; apart = t.apart + 1 }
    go a fate.Changed h =
        λ i. record { files = same t.files i; done = same t.done i; spent = same t.spent i; deep = same t.deep i; refused = same t.refused i; differ = same t.differ i; apart = t.apart + 1 }

-- a refused file is in no outcome's count
pub refused_alone : (t : Tally) (a : Answer) (n : ℕ) → let r = adding t (record { recorded = a; fate = fate.Read (answer.Refused n) }) in
    (r.done ≡ t.done) × (r.spent ≡ t.spent) × (r.deep ≡ t.deep) × (r.refused ≡ t.refused + 1)
unfolding adding
refused_alone t a n = (add-zero t.done, add-zero t.spent, add-zero t.deep, refl)

-- WHAT THE CODE ADDS

pub as_one : {b c : Bool} {n : ℕ} → n ≡ from_bool b → b ≡ c → n ≡ one c
as_one {b} {c} h k = h ∙ of b ∙ ap one k
  where
    of : (b : Bool) → from_bool b ≡ one b
    of true = refl
    of false = refl

pub unread : (x : Fate) → ((a : Answer) → x ≡ fate.Read a → ⊥) → was_read x ≡ false
unread (fate.Read a) h = absurd (h a refl)
unread fate.Missing h = refl
unread fate.Changed h = refl

module _ (t : Tally) (f : File) where
  up : (p : Fate → Bool) {y : Fate} → f.fate ≡ y → p y ≡ true → (n : ℕ) → n + 1 ≡ n + one (p f.fate)
  up p x h n = ap (λ (b : Bool). n + one b) (sym h ∙ ap p (sym x))

  keep : (p : Fate → Bool) {y : Fate} → f.fate ≡ y → p y ≡ false → (n : ℕ) → n ≡ n + one (p f.fate)
  keep p x h n = sym (add-zero n) ∙ ap (λ (b : Bool). n + one b) (sym h ∙ ap p (sym x))

  pub adds_done : {n : ℕ} → f.fate ≡ fate.Read (answer.Done n) → {d : ℕ} → d ≡ t.differ + one (marked f)
      → record { files = t.files + 1; done = t.done + 1; spent = t.spent; deep = t.deep; refused = t.refused; differ = d; apart = t.apart } ≡ adding t f
  unfolding adding
  adds_done x {d} e =
      λ i.
      record {
        files = up was_read x refl t.files i;
        done = up (gives DONE) x refl t.done i;
        spent = keep (gives SPENT) x refl t.spent i;
        deep = keep (gives DEEP) x refl t.deep i;
        refused = keep (gives REFUSED) x refl t.refused i;
        differ = e i;
        apart = keep (λ (y : Fate). not (was_read y)) x refl t.apart i;
      }

  pub adds_spent : {n : ℕ} → f.fate ≡ fate.Read (answer.Spent n) → {d : ℕ} → d ≡ t.differ + one (marked f)
      → record { files = t.files + 1; done = t.done; spent = t.spent + 1; deep = t.deep; refused = t.refused; differ = d; apart = t.apart } ≡ adding t f
  unfolding adding
  adds_spent x {d} e =
      λ i.
      record {
        files = up was_read x refl t.files i;
        done = keep (gives DONE) x refl t.done i;
        spent = up (gives SPENT) x refl t.spent i;
        deep = keep (gives DEEP) x refl t.deep i;
        refused = keep (gives REFUSED) x refl t.refused i;
        differ = e i;
        apart = keep (λ (y : Fate). not (was_read y)) x refl t.apart i;
      }

  pub adds_deep : {n : ℕ} → f.fate ≡ fate.Read (answer.Deep n) → {d : ℕ} → d ≡ t.differ + one (marked f)
      → record { files = t.files + 1; done = t.done; spent = t.spent; deep = t.deep + 1; refused = t.refused; differ = d; apart = t.apart } ≡ adding t f
  unfolding adding
  adds_deep x {d} e =
      λ i.
      record {
        files = up was_read x refl t.files i;
        done = keep (gives DONE) x refl t.done i;
        spent = keep (gives SPENT) x refl t.spent i;
        deep = up (gives DEEP) x refl t.deep i;
        refused = keep (gives REFUSED) x refl t.refused i;
        differ = e i;
        apart = keep (λ (y : Fate). not (was_read y)) x refl t.apart i;
      }

  pub adds_refused : {n : ℕ} → f.fate ≡ fate.Read (answer.Refused n) → {d : ℕ} → d ≡ t.differ + one (marked f)
      → record { files = t.files + 1; done = t.done; spent = t.spent; deep = t.deep; refused = t.refused + 1; differ = d; apart = t.apart } ≡ adding t f
  unfolding adding
  adds_refused x {d} e =
      λ i.
      record {
        files = up was_read x refl t.files i;
        done = keep (gives DONE) x refl t.done i;
        spent = keep (gives SPENT) x refl t.spent i;
        deep = keep (gives DEEP) x refl t.deep i;
        refused = up (gives REFUSED) x refl t.refused i;
        differ = e i;
        apart = keep (λ (y : Fate). not (was_read y)) x refl t.apart i;
      }

-- MARKS

-- the same answer has no mark
pub no_mark : (a : Answer) → differ a a ≡ false
no_mark a = rw (eq-eqb (sort_of a) (sort_of a) refl, eq-eqb (amount_of a) (amount_of a) refl)

-- an answer is its sort and its amount
of_sort : ℕ → ℕ → Answer
of_sort zero n = answer.Done n
of_sort (suc zero) n = answer.Spent n
of_sort (suc (suc zero)) n = answer.Deep n
of_sort (suc (suc (suc k))) n = answer.Refused n

is_of_sort : (a : Answer) → of_sort (sort_of a) (amount_of a) ≡ a
unfolding of_sort
is_of_sort (answer.Done e) = refl
is_of_sort (answer.Spent e) = refl
is_of_sort (answer.Deep e) = refl
is_of_sort (answer.Refused n) = refl

both : (s t : Bool) → not (s && t) ≡ false → (s ≡ true) × (t ≡ true)
both true true h = (refl, refl)
both true false h = absurd (let z : ◌≡◌ {A = ℕ} 0 1 = cc in omega arith)
both false t h = absurd (let z : ◌≡◌ {A = ℕ} 0 1 = cc in omega arith)

-- no mark, the same answer
pub mark_or_same : (a b : Answer) → differ a b ≡ false → a ≡ b
mark_or_same a b h =
    let e = both (eqb (sort_of a) (sort_of b)) (eqb (amount_of a) (amount_of b)) h in
    sym (is_of_sort a)
    ∙ ap (λ (s : ℕ). of_sort s (amount_of a)) (eqb-true (sort_of a) (sort_of b) e.0)
    ∙ ap (of_sort (sort_of b)) (eqb-true (amount_of a) (amount_of b) e.1)
    ∙ is_of_sort b

-- where the new answer is the recorded one the count of files that differ stays
pub unmarked : (t : Tally) (a : Answer) → (adding t (record { recorded = a; fate = fate.Read a })).differ ≡ t.differ
unfolding adding
unmarked t a = ap (λ (b : Bool). t.differ + one b) (no_mark a) ∙ add-zero t.differ

-- a file as it was kept, with the edition that it was read under
pub record Kept : Type 0 where
  pub name : List ℕ
  pub bytes : List ℕ
  pub edition : ℕ

module _ (reads : List ℕ → ℕ → Answer) where
  abbrev pub recorded_by : Kept → Entry
  recorded_by k = entry k.name (length k.bytes) k.edition (reads k.bytes k.edition)

  abbrev pub reread_by : Kept → Fate
  reread_by k = fate.Read (reads k.bytes k.edition)

  -- a day replayed under its own editions has no mark, where the files are the same
  pub own_editions : (ks : List Kept) → count_of marked (files_of (map recorded_by ks) (map reread_by ks)) ≡ 0
  own_editions [] = refl
  own_editions (k ∷ ks) = omega (arith, ap one (no_mark (reads k.bytes k.edition)), own_editions ks)
