-- A day that is written reads back; and the first line that does not read is told by its number, the lines before it with their entries. Assumes nothing.
use Prim.Native.Nat.{ℕ, suc, ◌+◌, ◌^◌, ◌≤◌, ◌<◌}
use mathlib.Core.Path.{◌≡◌, refl, sym, ap, ◌∙◌}
use mathlib.Core.List.{List, [], ◌∷◌, ◌++◌, append_assoc, append-nil}
use mathlib.Core.Bool.{true}
use Rattle.std.specs.Prelude.{Option, None, Some}
use native.Mathlib.Omega.{arith}
use borrow.Author.Tests.{ne_eqb}
use lib.ListN.{length}
use Rattle.shapes.specs.Refusal.{DAY}
use Rattle.listing.specs.Lines.{parted}
use Rattle.listing.specs.Listing.{led}
use Rattle.listing.proofs.Digits.{reads_back}
use Rattle.listing.proofs.Lent.{in_parts}
use Rattle.listing.proofs.Marks.{Free, free_one, free_append, both, free_decimal, AllFree, free_led, fields_of}
use Rattle.replay.specs.Tally.{amount_of, replayed}
use Rattle.replay.specs.Day.{Entry, entry, shown_of, entry_fields, written, single, writable, answer_of, with_answer, entry_of, Day, following, lines_of, day_of, files_of, totals_of}
use Rattle.replay.specs.declared.tally.Answer.{Answer}
use Rattle.replay.specs.declared.tally.Answer.TheVariants as answer
use Rattle.replay.specs.declared.tally.Fate.{Fate}
use Rattle.replay.proofs.Entries.{single_free}
use Rattle.replay.proofs.Replaying.{before, lines_more}

-- what can be recorded: a name without tab and line feed, and numbers of 32 bits
pub record Good (e : Entry) : Type 0 where
  pub plain : writable e.name ≡ true
  pub size : e.size < 2 ^ 32
  pub edition : e.edition < 2 ^ 32
  pub amount : amount_of e.answer < 2 ^ 32

-- AN ENTRY

-- letters are above the marks
above : (a : Answer) → 48 ≤ (shown_of a).letter
above (answer.Done e) = omega arith
above (answer.Spent e) = omega arith
above (answer.Deep e) = omega arith
above (answer.Refused n) = omega arith

fits : (a : Answer) → amount_of a < 2 ^ 32 → ((shown_of a).number < 2 ^ 32) × ((shown_of a).errors < 2 ^ 32)
fits (answer.Done e) h = (omega arith, h)
fits (answer.Spent e) h = (omega arith, h)
fits (answer.Deep e) h = (omega arith, h)
fits (answer.Refused n) h = (h, omega arith)

answer_back : (name : List ℕ) (s d : ℕ) (a : Answer) → with_answer name s d (answer_of ((shown_of a).letter ∷ []) (shown_of a).number (shown_of a).errors) ≡ Some (entry name s d a)
answer_back name s d (answer.Done e) = refl
answer_back name s d (answer.Spent e) = refl
answer_back name s d (answer.Deep e) = refl
answer_back name s d (answer.Refused n) = refl

-- the line without its line feed
abbrev pub body : Entry → List ℕ
body e = e.name ++ led 9 (entry_fields e)

module _ (e : Entry) (g : Good e) where
  fields_free : (m : ℕ) → m < 48 → AllFree m (entry_fields e)
  fields_free m h = (
    free_decimal m h e.size,
    (
      free_decimal m h e.edition,
      (
        free_one m (shown_of e.answer).letter [] (ne_eqb (shown_of e.answer).letter m (λ i. omega (arith, above e.answer))) refl,
        (free_decimal m h (shown_of e.answer).number, (free_decimal m h (shown_of e.answer).errors, tt)),
      ),
    ),
  )

  -- writing, then reading
  pub reads_back_entry : entry_of (parted 9 (body e)) ≡ Some e
  reads_back_entry =
      let b = fits e.answer g.amount in
      ap entry_of (fields_of 9 e.name (entry_fields e) (single_free 9 e.name (both (single (parted 9 e.name)) (single (parted 10 e.name)) g.plain).0) (fields_free 9 (omega arith)))
      ∙ rw (reads_back e.size g.size, reads_back e.edition g.edition, reads_back (shown_of e.answer).number b.0, reads_back (shown_of e.answer).errors b.1)
      (answer_back e.name e.size e.edition e.answer)

  body_free : Free 10 (body e)
  body_free =
      free_append 10 e.name (led 9 (entry_fields e))
      (single_free 10 e.name (both (single (parted 9 e.name)) (single (parted 10 e.name)) g.plain).1)
      (free_led 10 9 refl (entry_fields e) (fields_free 10 (omega arith)))

  -- the line is the first of those that begin with it
  line_first : (rest : List ℕ) → parted 10 (written e ++ rest) ≡ body e ∷ parted 10 rest
  line_first rest =
      ap (parted 10)
      (append_assoc e.name (led 9 (entry_fields e) ++ (10 ∷ [])) rest
      ∙ ap (λ (t : List ℕ). e.name ++ t) (append_assoc (led 9 (entry_fields e)) (10 ∷ []) rest)
      ∙ sym (append_assoc e.name (led 9 (entry_fields e)) (10 ∷ rest)))
      ∙ in_parts 10 (body e) rest
      ∙ ap (λ (ps : List (List ℕ)). ps ++ parted 10 rest) body_free

-- A DAY

abbrev pub AllGood : List Entry → Type 0
AllGood [] = Unit
AllGood (e ∷ es) = Good e × AllGood es

abbrev pub day_text : List Entry → List ℕ
day_text [] = []
day_text (e ∷ es) = written e ++ day_text es

lines_read : (es : List Entry) → AllGood es → (n : ℕ) (rest : List ℕ) → lines_of n (parted 10 (day_text es ++ rest)) ≡ before es (lines_of (n + length es) (parted 10 rest))
lines_read [] g n rest = ap (λ (m : ℕ). lines_of m (parted 10 rest)) (omega arith)
lines_read (e ∷ es) g n rest =
    ap (λ (t : List ℕ). lines_of n (parted 10 t)) (append_assoc (written e) (day_text es) rest)
    ∙ ap (lines_of n) (line_first e g.0 (day_text es ++ rest))
    ∙ lines_more n (body e) 10 (day_text es ++ rest)
    ∙ ap (λ (o : Option Entry). following n o (lines_of (suc n) (parted 10 (day_text es ++ rest)))) (reads_back_entry e g.0)
    ∙ ap (following n (Some e)) (lines_read es g.1 (suc n) rest)
    ∙ ap (λ (m : ℕ). before (e ∷ es) (lines_of m (parted 10 rest))) (omega arith)

-- a day that was recorded reads back, every line of it
pub day_back : (es : List Entry) → AllGood es → day_of (day_text es) ≡ record { entries = es; bad = 0 }
unfolding day_of
day_back es g =
    ap (λ (t : List ℕ). lines_of 1 (parted 10 t)) (sym (append-nil (day_text es)))
    ∙ lines_read es g 1 []
    ∙ (λ i. record { entries = append-nil es i; bad = 0 })

-- a line that does not read, behind lines that do: its number, and the entries before it
pub day_bad : (es : List Entry) → AllGood es → (l rest : List ℕ) → Free 10 l → entry_of (parted 9 l) ≡ None → day_of (day_text es ++ (l ++ (10 ∷ rest))) ≡ record { entries = es; bad = suc (length es) }
unfolding day_of
day_bad es g l rest f h =
    lines_read es g 1 (l ++ (10 ∷ rest))
    ∙ ap (λ (ps : List (List ℕ)). before es (lines_of (1 + length es) ps)) (in_parts 10 l rest ∙ ap (λ (ps : List (List ℕ)). ps ++ parted 10 rest) f)
    ∙ ap (before es) (lines_more (1 + length es) l 10 rest ∙ ap (λ (o : Option Entry). following (1 + length es) o (lines_of (suc (1 + length es)) (parted 10 rest))) h)
    ∙ (λ i. record { entries = append-nil es i; bad = one_more i })
  where
    one_more : 1 + length es ≡ suc (length es)
    one_more = omega arith

-- "Refusals: 20, a day line that does not read, with its number; totals of the lines before it are returned."
pub totals_before : (es : List Entry) → AllGood es → (l rest : List ℕ) → Free 10 l → entry_of (parted 9 l) ≡ None → (fs : List Fate)
    → totals_of (day_of (day_text es ++ (l ++ (10 ∷ rest)))) fs ≡ record { number = DAY; line = suc (length es); tally = replayed (files_of es fs) }
totals_before es g l rest f h fs = ap (λ (d : Day). totals_of d fs) (day_bad es g l rest f h)
