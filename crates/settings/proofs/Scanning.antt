-- Reading line after line gives what settings text is. Assumes nothing.
use Prim.Native.Nat.{ℕ, zero, suc, ◌+◌, ◌-◌, ◌^◌, ◌<◌}
use mathlib.Core.Path.{◌≡◌, refl, sym, ap, subst, ◌∙◌}
use mathlib.Core.List.{List, [], ◌∷◌, ◌++◌, append_assoc, append-nil}
use mathlib.Core.Bool.{Bool, true, false, cond}
use native.Mathlib.Omega.{arith}
use borrow.Author.Tests.{eq-eqb, ne_eqb, eqb-true, eqb-false}
use lib.Dec.{eqb}
use lib.ListN.{length, get_or, length-append}
use lib.Seq.{get_or-append_seam}
use Rattle.std.specs.Prelude.{Option, Some, None, Ok, Err, ◌≢◌}
use Rattle.std.proofs.lemmas.List.{nil_from_length}
use Rattle.listing.specs.Lines.{parted}
use Rattle.listing.proofs.Pieces.{one_piece}
use Rattle.settings.specs.Settings.{line_of, in_turn, Settings, bad, editions, from, behind_last, lines_of, settings_of}
use Rattle.settings.specs.Answer.{scan_of}
use Rattle.settings.specs.declared.lines.Values.{Values}
use Rattle.settings.proofs.EndedLines.{NextLine, a_line, no_line}

-- lines that read, before others
abbrev pub before : List Values → Settings → Settings
before vs (bad n) = bad n
before vs (editions ws) = editions (vs ++ ws)

before_none : (s : Settings) → before [] s ≡ s
before_none (bad n) = refl
before_none (editions ws) = refl

pub before_one : (vs : List Values) (n : ℕ) (v : Values) (s : Settings) → before vs (from n (Some v) s) ≡ before (vs ++ (v ∷ [])) s
before_one vs n v (bad m) = refl
before_one vs n v (editions ws) = ap editions (sym (append_assoc vs (v ∷ []) ws))

pub lines_more : (n : ℕ) (l : List ℕ) (m : ℕ) (s : List ℕ)
    → lines_of n (l ∷ parted m s) ≡ from n (in_turn (suc n) (line_of (parted 9 l))) (lines_of (suc n) (parted m s))
lines_more n l m s =
    one_piece (λ (ls : List (List ℕ)). lines_of n (l ∷ ls) ≡ from n (in_turn (suc n) (line_of (parted 9 l))) (lines_of (suc n) ls)) (λ k ls. refl) m s

get_d_other : (l : List Values) (w d : Values) (i : ℕ) → (i ≡ length l → ⊥) → get_or (l ++ (w ∷ [])) i d ≡ get_or l i d
get_d_other [] w d zero h = absurd (h refl)
get_d_other [] w d (suc i) h = refl
get_d_other (x ∷ l) w d zero h = refl
get_d_other (x ∷ l) w d (suc i) h = get_d_other l w d i (λ e. h (ap suc e))

unended : (n : ℕ) (l : List ℕ) → 0 < length l → behind_last n l ≡ bad n
unended n [] h = absurd (omega arith)
unended n (b ∷ bs) h = refl

-- the lines before the rest of the text read; the last edition among them, and the values that the one asked for has by then
pub record Scanned (text : List ℕ) (edition : ℕ) (first values : Values) (last : ℕ) (rest : List ℕ) : Type 0 where
  pub passed : List Values
  pub small : last < 2 ^ 32
  pub count : last ≡ suc (length passed)
  pub held : values ≡ get_or (first ∷ passed) (edition - 1) first
  pub is : settings_of text ≡ before passed (lines_of last (parted 10 rest))

pub scanned : (text : List ℕ) (edition : ℕ) (first : Values) {rest : List ℕ} → rest ≡ text → Scanned text edition first first 1 rest
unfolding settings_of
scanned text edition first e =
    record { passed = []; small = omega arith; count = refl; held = sym (alone (edition - 1)); is = sym (before_none (lines_of 1 (parted 10 text))) ∙ ap (λ (t : List ℕ). before [] (lines_of 1 (parted 10 t))) (sym e) }
  where
    alone : (i : ℕ) → get_or (first ∷ []) i first ≡ first
    alone zero = refl
    alone (suc i) = refl

module _ {text : List ℕ} {edition : ℕ} {first values : Values} {last : ℕ} {rest : List ℕ} (g : Scanned text edition first values last rest) where
  stops : lines_of last (parted 10 rest) ≡ bad last → Err (record { 0 = last }) ≡ scan_of edition first (settings_of text)
  stops e = sym (ap (scan_of edition first) (g.is ∙ ap (before g.passed) e))

  -- by the next line
  module _ {x next : List ℕ} (l : NextLine 10 rest x next) where
    -- the text ends before its line does
    pub cut_short : ((line : List ℕ) → x ≢ line ++ (10 ∷ [])) → Err (record { 0 = last }) ≡ scan_of edition first (settings_of text)
    cut_short n = stops (ap (lines_of last) (no_line l n) ∙ unended last rest l.some)

    module _ (line : List ℕ) (whole : x ≡ line ++ (10 ∷ [])) where
      next_as : (o : Option Values) → in_turn (suc last) (line_of (parted 9 line)) ≡ o
          → lines_of last (parted 10 rest) ≡ from last o (lines_of (suc last) (parted 10 next))
      next_as o f =
          ap (lines_of last) (a_line l line whole)
          ∙ lines_more last line 10 next
          ∙ ap (λ (i : Option Values). from last i (lines_of (suc last) (parted 10 next))) f

      pub not_read : None ≡ line_of (parted 9 line) → Err (record { 0 = last }) ≡ scan_of edition first (settings_of text)
      not_read f = stops (next_as None (ap (in_turn (suc last)) (sym f)))

      module _ {number : ℕ} {read : Values} (f : Some (number, read) ≡ line_of (parted 9 line)) where
        turn_as : (t : Bool) → eqb number (suc last) ≡ t → in_turn (suc last) (line_of (parted 9 line)) ≡ cond t (Some read) None
        turn_as t i = ap (in_turn (suc last)) (sym f) ∙ ap (λ (t : Bool). cond t (Some read) None) i

        pub out_of_turn : (number ≡ last + 1 → ⊥) → Err (record { 0 = last }) ≡ scan_of edition first (settings_of text)
        out_of_turn ne = stops (next_as None (turn_as false (ne_eqb number (suc last) (λ i. ne (omega arith)))))

        module _ (m : number < 2 ^ 32) (j : number ≡ last + 1) where
          moved : (v : Values) → v ≡ get_or ((first ∷ g.passed) ++ (read ∷ [])) (edition - 1) first → Scanned text edition first v number next
          moved v k =
              record {
                passed = g.passed ++ (read ∷ []);
                small = m;
                count = omega (arith, j, g.count, length-append g.passed (read ∷ []));
                held = k;
                is =
                    g.is
                    ∙ ap (before g.passed) (next_as (Some read) (turn_as true (eq-eqb number (suc last) (omega arith))))
                    ∙ before_one g.passed last read (lines_of (suc last) (parted 10 next))
                    ∙ ap (λ (n : ℕ). before (g.passed ++ (read ∷ [])) (lines_of n (parted 10 next))) (omega arith);
              }

          found : number ≡ edition → Scanned text edition first read number next
          found k =
              let here : edition - 1 ≡ length (first ∷ g.passed) = omega (arith, j, g.count) in
              moved read
              (sym (ap (λ (n : ℕ). get_or ((first ∷ g.passed) ++ (read ∷ [])) n first) here
              ∙ get_or-append_seam (first ∷ g.passed) read [] first))

          elsewhere : (number ≡ edition → ⊥) → Scanned text edition first values number next
          elsewhere k =
              moved values
              (g.held ∙ sym (get_d_other (first ∷ g.passed) read first (edition - 1) (λ e. k (omega (arith, j, g.count)))))

          pub read_on : {v : Values} → v ≡ cond (eqb number edition) read values → Scanned text edition first v number next
          read_on {v} k = go (eqb number edition) refl k
            where
              go : (t : Bool) → eqb number edition ≡ t → v ≡ cond t read values → Scanned text edition first v number next
              go true e k = subst (λ (w : Values). Scanned text edition first w number next) (sym k) (found (eqb-true number edition e))
              go false e k = subst (λ (w : Values). Scanned text edition first w number next) (sym k) (elsewhere (eqb-false number edition e))

  pub all_read : length rest ≡ 0 → Ok (last, values) ≡ scan_of edition first (settings_of text)
  all_read h =
      ap (λ (n : ℕ). Ok (n, values)) g.count
      ∙ ap (λ (v : Values). Ok (suc (length g.passed), v)) g.held
      ∙ sym (ap (scan_of edition first)
      (g.is
      ∙ ap (λ (s : List ℕ). before g.passed (lines_of last (parted 10 s))) (nil_from_length rest h)
      ∙ ap editions (append-nil g.passed)))
