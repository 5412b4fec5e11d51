-- The totals of a day read again (document 02, request (xii)): "files, files with each new outcome, files refused, files that differ". "A file missing or of
-- another length is counted apart, not among the files read, and not compared."
use Rattle.std.specs.Prelude.{ℕ, ◌+◌, ◌-◌, ◌^◌, ◌<◌, List, [], ◌∷◌, Bool, true, false, not, ◌&&◌, eqb}
use Rattle.shapes.specs.Outcome.{DONE, SPENT, DEEP}
use Rattle.replay.specs.declared.tally.Answer.{Answer}
use Rattle.replay.specs.declared.tally.Answer.TheVariants as answer
use Rattle.replay.specs.declared.tally.Fate.{Fate}
use Rattle.replay.specs.declared.tally.Fate.TheVariants as fate
use Rattle.replay.specs.declared.tally.File.{File}
use Rattle.replay.specs.declared.tally.Tally.{Tally}

-- behind the outcomes
abbrev pub REFUSED : ℕ
REFUSED = 3

-- the outcome, or that the file was refused
abbrev pub sort_of : Answer → ℕ
sort_of (answer.Done e) = DONE
sort_of (answer.Spent e) = SPENT
sort_of (answer.Deep e) = DEEP
sort_of (answer.Refused n) = REFUSED

-- the count of errors, or the refusal's number
abbrev pub amount_of : Answer → ℕ
amount_of (answer.Done e) = e
amount_of (answer.Spent e) = e
amount_of (answer.Deep e) = e
amount_of (answer.Refused n) = n

-- "a mark where they differ": in outcome or refusal, or in the count of errors
abbrev pub differ : Answer → Answer → Bool
differ a b = not (eqb (sort_of a) (sort_of b) && eqb (amount_of a) (amount_of b))

abbrev pub was_read : Fate → Bool
was_read (fate.Read a) = true
was_read fate.Missing = false
was_read fate.Changed = false

-- the new answer is of the sort
abbrev pub gives : ℕ → Fate → Bool
gives s (fate.Read a) = eqb (sort_of a) s
gives s fate.Missing = false
gives s fate.Changed = false

abbrev pub marking : Answer → Fate → Bool
marking a (fate.Read b) = differ a b
marking a fate.Missing = false
marking a fate.Changed = false

abbrev pub marked : File → Bool
marked f = marking f.recorded f.fate

abbrev pub one : Bool → ℕ
one true = 1
one false = 0

-- how many of the files have it
abbrev pub count_of : (File → Bool) → List File → ℕ
count_of p [] = 0
count_of p (f ∷ fs) = one (p f) + count_of p fs

-- "each count is the number of such lines in the part replayed"
abbrev pub replayed : List File → Tally
replayed fs =
    record {
      files = count_of (λ f. was_read f.fate) fs;
      done = count_of (λ f. gives DONE f.fate) fs;
      spent = count_of (λ f. gives SPENT f.fate) fs;
      deep = count_of (λ f. gives DEEP f.fate) fs;
      refused = count_of (λ f. gives REFUSED f.fate) fs;
      differ = count_of marked fs;
      apart = count_of (λ f. not (was_read f.fate)) fs;
    }

-- one file's result more
unfoldable pub adding : Tally → File → Tally
adding t f =
    record {
      files = t.files + one (was_read f.fate);
      done = t.done + one (gives DONE f.fate);
      spent = t.spent + one (gives SPENT f.fate);
      deep = t.deep + one (gives DEEP f.fate);
      refused = t.refused + one (gives REFUSED f.fate);
      differ = t.differ + one (marked f);
      apart = t.apart + one (not (was_read f.fate));
    }

-- no count is the greatest number that a cell holds
pub record Room (t : Tally) : Type 0 where
  pub files : t.files < 2 ^ 64 - 1
  pub done : t.done < 2 ^ 64 - 1
  pub spent : t.spent < 2 ^ 64 - 1
  pub deep : t.deep < 2 ^ 64 - 1
  pub refused : t.refused < 2 ^ 64 - 1
  pub differ : t.differ < 2 ^ 64 - 1
  pub apart : t.apart < 2 ^ 64 - 1
