-- Replaying line after line gives the totals of the day. Assumes nothing.
use Prim.Native.Nat.{ℕ, suc, ◌+◌, ◌-◌, ◌^◌, ◌≤◌, ◌<◌}
use mathlib.Core.Path.{◌≡◌, refl, sym, ap, subst, ◌∙◌}
use mathlib.Core.List.{List, [], ◌∷◌, ◌++◌, append_assoc, append-nil}
use mathlib.Core.Bool.{Bool, true, false, not}
use native.Mathlib.Omega.{arith}
use denote.Ref.{Bor}
use lib.ListN.{length, length-append}
use Rattle.std.specs.Prelude.{Option, None, Some, Ok, Err}
use Rattle.std.proofs.lemmas.List.{nil_from_length}
use Rattle.shapes.specs.Outcome.{DONE, SPENT, DEEP}
use Rattle.listing.specs.Lines.{parted}
use Rattle.listing.proofs.Pieces.{one_piece}
use Rattle.replay.specs.Tally.{REFUSED, was_read, gives, one, count_of, replayed, adding, Room}
use Rattle.replay.specs.Tally as tallies
use Rattle.replay.specs.Day.{Entry, single, entry_of, Day, following, behind_last, lines_of, day_of, files_of, refusal_at, totals_of}
use Rattle.replay.specs.Answer.{meant, before_pieces, first_of, first_as, Again}
use Rattle.replay.specs.declared.lines.Entry as code
use Rattle.replay.specs.declared.tally.Fate.{Fate}
use Rattle.replay.specs.declared.tally.File.{File}
use Rattle.replay.specs.declared.tally.Tally.{Tally}
use Rattle.replay.proofs.Entries.{single_free}
use Rattle.replay.proofs.Tallying.{one_more}

-- entries before others
abbrev pub before : List Entry → Day → Day
before es d = record { entries = es ++ d.entries; bad = d.bad }

before_one : (es : List Entry) (n : ℕ) (e : Entry) (d : Day) → before es (following n (Some e) d) ≡ before (es ++ (e ∷ [])) d
before_one es n e d = λ i. record { entries = sym (append_assoc es (e ∷ []) d.entries) i; bad = d.bad }

pub lines_more : (n : ℕ) (l : List ℕ) (m : ℕ) (s : List ℕ)
    → lines_of n (l ∷ parted m s) ≡ following n (entry_of (parted 9 l)) (lines_of (suc n) (parted m s))
lines_more n l m s =
    one_piece (λ (ls : List (List ℕ)). lines_of n (l ∷ ls) ≡ following n (entry_of (parted 9 l)) (lines_of (suc n) ls)) (λ k ls. refl) m s

-- the first of some lines reads, or it is the first that does not
good_first : (n : ℕ) (ls : List (List ℕ)) {e : Entry} {ps : List (List ℕ)} → first_of ls ≡ Some (e, ps) → lines_of n ls ≡ following n (Some e) (lines_of (suc n) ps)
good_first n [] h = absurd (let z : ◌≡◌ {A = ℕ} 0 1 = cc in omega arith)
good_first n (l ∷ []) h = absurd (let z : ◌≡◌ {A = ℕ} 0 1 = cc in omega arith)
good_first n (l ∷ k ∷ ls) {e} {ps} h = go (entry_of (parted 9 l)) h
  where
    go : (o : Option Entry) → before_pieces (k ∷ ls) o ≡ Some (e, ps) → following n o (lines_of (suc n) (k ∷ ls)) ≡ following n (Some e) (lines_of (suc n) ps)
    go None h = absurd (let z : ◌≡◌ {A = ℕ} 0 1 = cc in omega arith)
    go (Some x) h = ap (λ (r : Option (Entry × List (List ℕ))). from_first r) h
      where
        from_first : Option (Entry × List (List ℕ)) → Day
        from_first None = record { entries = []; bad = 0 }
        from_first (Some p) = following n (Some p.0) (lines_of (suc n) p.1)

bad_first : (n : ℕ) (s : List ℕ) → 0 < length s → first_of (parted 10 s) ≡ None → lines_of n (parted 10 s) ≡ record { entries = []; bad = n }
bad_first n s h k = go (parted 10 s) refl k
  where
    alone : (l : List ℕ) → 0 < length l → behind_last n l ≡ record { entries = []; bad = n }
    alone [] h = absurd (omega arith)
    alone (b ∷ bs) h = refl

    on : (o : Option Entry) (ps : List (List ℕ)) (d : Day) → before_pieces ps o ≡ None → following n o d ≡ record { entries = []; bad = n }
    on None ps d h = refl
    on (Some x) ps d h = absurd (let z : ◌≡◌ {A = ℕ} 0 1 = cc in omega arith)

    go : (ls : List (List ℕ)) → parted 10 s ≡ ls → first_of ls ≡ None → lines_of n ls ≡ record { entries = []; bad = n }
    go [] e k = absurd (one_piece (λ (ps : List (List ℕ)). ps ≡ [] → ⊥) (λ p ps i. let z : ◌≡◌ {A = ℕ} 0 1 = cc in omega arith) 10 s e)
    go (l ∷ []) e k =
        let f : l ∷ [] ≡ s ∷ [] = sym e ∙ single_free 10 s (ap single e) in
        let g : l ≡ s = cc in
        alone l (omega (arith, ap length g))
    go (l ∷ m ∷ ls) e k = on (entry_of (parted 9 l)) (m ∷ ls) (lines_of (suc n) (m ∷ ls)) k

-- THE LOOP

one_most : (b : Bool) → one b ≤ 1
one_most true = omega arith
one_most false = omega arith

count_few : (p : File → Bool) (es : List Entry) (fs : List Fate) → count_of p (files_of es fs) ≤ length es
count_few p [] fs = omega arith
count_few p (e ∷ es) [] = omega arith
count_few p (e ∷ es) (f ∷ fs) = omega (arith, count_few p es fs, one_most (p (record { recorded = e.answer; fate = f })))

files_more : (es : List Entry) (fs : List Fate) (e : Entry) (f : Fate) → length fs ≡ length es
    → files_of (es ++ (e ∷ [])) (fs ++ (f ∷ [])) ≡ files_of es fs ++ (record { recorded = e.answer; fate = f } ∷ [])
files_more [] [] e f h = refl
files_more [] (g ∷ fs) e f h = absurd (omega arith)
files_more (d ∷ es) [] e f h = absurd (omega arith)
files_more (d ∷ es) (g ∷ fs) e f h = ap (λ (l : List File). record { recorded = d.answer; fate = g } ∷ l) (files_more es fs e f (omega arith))

-- the lines before the rest of the text are replayed: the tally is theirs, and the next line has this number
pub record Replaying (text : List ℕ) (tally : Tally) (line : ℕ) (rest : List ℕ) : Type 0 where
  pub entries : List Entry
  pub fates : List Fate
  pub few : length entries + length rest ≤ length text
  pub count : line ≡ suc (length entries)
  pub paired : length fates ≡ length entries
  pub held : tally ≡ replayed (files_of entries fates)
  pub is : day_of text ≡ before entries (lines_of line (parted 10 rest))

pub replaying : (text : List ℕ) {t : Tally} → t ≡ replayed [] → {rest : List ℕ} → rest ≡ text → Replaying text t 1 rest
unfolding day_of
replaying text h e =
    record {
      entries = [];
      fates = [];
      few = omega (arith, ap length e);
      count = refl;
      paired = refl;
      held = h;
      is = ap (λ (t : List ℕ). before [] (lines_of 1 (parted 10 t))) (sym e);
    }

module _ {text : List ℕ} {tally : Tally} {n : ℕ} {rest : List ℕ} (g : Replaying text tally n rest) where
  -- no count is greater than what was passed of the text
  pub room : 0 < length rest → length text < 2 ^ 64 → Room tally
  room h k = subst Room (sym g.held) all
    where
      below : (p : File → Bool) → count_of p (files_of g.entries g.fates) < 2 ^ 64 - 1
      below p = omega (arith, count_few p g.entries g.fates, g.few)

      all : Room (replayed (files_of g.entries g.fates))
      all =
          record {
            files = below (λ (f : File). was_read f.fate);
            done = below (λ (f : File). gives DONE f.fate);
            spent = below (λ (f : File). gives SPENT f.fate);
            deep = below (λ (f : File). gives DEEP f.fate);
            refused = below (λ (f : File). gives REFUSED f.fate);
            differ = below tallies.marked;
            apart = below (λ (f : File). not (was_read f.fate));
          }

  ends : (bad : ℕ) → lines_of n (parted 10 rest) ≡ record { entries = []; bad = bad } → day_of text ≡ record { entries = g.entries; bad = bad }
  ends bad e = g.is ∙ ap (before g.entries) e ∙ (λ i. record { entries = append-nil g.entries i; bad = bad })

  stops : lines_of n (parted 10 rest) ≡ record { entries = []; bad = n } → Again text (Err (record { number = n; tally = tally }))
  stops e =
      record {
        fates = g.fates;
        all = g.paired ∙ sym (ap (λ (d : Day). length d.entries) (ends n e));
        is =
            (λ i. record { number = ap refusal_at (sym g.count) i; line = n; tally = g.held i })
            ∙ sym (ap (λ (d : Day). totals_of d g.fates) (ends n e));
      }

  -- by what `next_entry` says of the rest
  module _ {r : Option (code.Entry × Bor (List ℕ))} (e : first_as r ≡ first_of (parted 10 rest)) where
    pub not_read : 0 < length rest → r ≡ None → Again text (Err (record { number = n; tally = tally }))
    not_read h f = stops (bad_first n rest h (sym e ∙ ap first_as f))

    pub reads_on : {y : code.Entry} {t : Bor (List ℕ)} → r ≡ Some (y, t) → length t.now < length rest → (f : Fate)
        → {u : Tally} → u ≡ adding tally (record { recorded = y.answer; fate = f }) → Replaying text u (n + 1) t.now
    reads_on {y} {t} i l f {u} k =
        let got = meant y in
        record {
          entries = g.entries ++ (got ∷ []);
          fates = g.fates ++ (f ∷ []);
          few = omega (arith, length-append g.entries (got ∷ []), g.few, l);
          count = omega (arith, g.count, length-append g.entries (got ∷ []));
          paired = omega (arith, g.paired, length-append g.entries (got ∷ []), length-append g.fates (f ∷ []));
          held =
              k
              ∙ ap (λ (t : Tally). adding t (record { recorded = y.answer; fate = f })) g.held
              ∙ sym (one_more (files_of g.entries g.fates) (record { recorded = y.answer; fate = f }))
              ∙ ap replayed (sym (files_more g.entries g.fates got f g.paired));
          is =
              g.is
              ∙ ap (before g.entries) (good_first n (parted 10 rest) (sym e ∙ ap first_as i))
              ∙ before_one g.entries n got (lines_of (suc n) (parted 10 t.now))
              ∙ ap (λ (m : ℕ). before (g.entries ++ (got ∷ [])) (lines_of m (parted 10 t.now))) (omega arith);
        }

  pub all_read : length rest ≡ 0 → Again text (Ok tally)
  all_read h =
      record {
        fates = g.fates;
        all = g.paired ∙ sym (ap (λ (d : Day). length d.entries) whole);
        is = (λ i. record { number = 0; line = 0; tally = g.held i }) ∙ sym (ap (λ (d : Day). totals_of d g.fates) whole);
      }
    where
      whole : day_of text ≡ record { entries = g.entries; bad = 0 }
      whole = ends 0 (ap (λ (s : List ℕ). lines_of n (parted 10 s)) (nil_from_length rest h))
