-- Settings text with a line more, in a room. Assumes nothing.
use Prim.Native.Nat.{ℕ, suc, ◌+◌, ◌-◌, ◌^◌, ◌≤◌, ◌<◌}
use mathlib.Core.Path.{◌≡◌, refl, sym, ap, ap₂, subst, ◌∙◌}
use mathlib.Core.List.{List, ◌++◌, append_assoc}
use mathlib.Core.Bool.{Bool, true, false, cond, ◌&&◌}
use native.Mathlib.Numerals.{add-one}
use native.Mathlib.Omega.{arith}
use borrow.Author.Tests.{lt-ltb, le-ltb, le-leb, lt-leb}
use lib.Dec.{leb, ltb}
use lib.ListN.{length, take, drop, replicate, length-append}
use lib.Seq.{take_at}
use Rattle.std.specs.Prelude.{Result, Ok, Err}
use Rattle.kinds.specs.Spelling.{Spelled}
use Rattle.settings.specs.Settings.{in_range, Settings, settings_of, written, refusing, fitted, added_at, added_to, added}
use Rattle.settings.specs.Answer.{scan_of, grown_of}
use Rattle.settings.specs.declared.lines.Values.{Values}
use Rattle.settings.specs.declared.lines.BadLine.{BadLine}
use Rattle.settings.specs.declared.adding.AddError.TheVariants as add_error
use Rattle.settings.proofs.Choosing.{told_bad, told}

-- what stands at the room's front
spelt : {text before after : List ℕ} {k : ℕ} → Spelled text before after k → take k after ≡ text
spelt {text} {before} {after} {k} s = ap (take k) s.written ∙ take_at text (drop (length text) before) k (sym s.count)

module _ (n : ℕ) (text : List ℕ) (v : Values) (room : List ℕ) where
  by : (t u : Bool) → ltb (suc n) (2 ^ 32) ≡ t → in_range v ≡ u → cond (t && u) (fitted (text ++ written (suc n) v) room) (refusing 19 n room) ≡ added_at n text v room
  by t u e f = sym (ap₂ (λ (t u : Bool). cond (t && u) (fitted (text ++ written (suc n) v) room) (refusing 19 n room)) e f)

  pub no_edition : n ≡ 4294967295 → grown_of (Err (add_error.BadLine n)) room ≡ added_at n text v room
  no_edition h = by false (in_range v) (le-ltb (suc n) (2 ^ 32) (omega arith)) refl

  module _ (h : suc n < 2 ^ 32) where
    pub not_allowed : in_range v ≡ false → grown_of (Err (add_error.BadLine n)) room ≡ added_at n text v room
    not_allowed k = by true false (lt-ltb (suc n) (2 ^ 32) h) k

    module _ (k : in_range v ≡ true) {w₀ w : List ℕ} {m : ℕ} (s₀ : Spelled (written (n + 1) v) w₀ w m) where
      s : Spelled (written (suc n) v) w₀ w m
      s = subst (λ (i : ℕ). Spelled (written i v) w₀ w m) (add-one n) s₀

      long : length (text ++ written (suc n) v) ≡ length text + m
      long = length-append text (written (suc n) v) ∙ ap (λ (i : ℕ). length text + i) (sym s.count)

      fit : (t : Bool) → leb (length (text ++ written (suc n) v)) (length room) ≡ t
          → cond t (record { number = 0; line = 0; count = length (text ++ written (suc n) v); room = (text ++ written (suc n) v) ++ replicate (length room - length (text ++ written (suc n) v)) 0 }) (refusing 12 0 room)
          ≡ added_at n text v room
      fit t e =
          sym (ap (λ (t : Bool). cond t (record { number = 0; line = 0; count = length (text ++ written (suc n) v); room = (text ++ written (suc n) v) ++ replicate (length room - length (text ++ written (suc n) v)) 0 }) (refusing 12 0 room)) e)
          ∙ by true true (lt-ltb (suc n) (2 ^ 32) h) k

      pub no_room : length room < length text + m → grown_of (Err add_error.Full) room ≡ added_at n text v room
      no_room l = fit false (lt-leb (length (text ++ written (suc n) v)) (length room) (omega (arith, long)))

      -- the old text, the line, then zeros
      pub grown : {new : List ℕ} {c : ℕ} → length text + m ≤ length room → c ≡ length text + m → new ≡ text ++ (take m w ++ replicate (length room - c) 0)
          → grown_of (Ok c) new ≡ added_at n text v room
      grown {new} {c} l size cells =
          ap₂ (λ (i : ℕ) (l : List ℕ). grown_of (Ok i) l) (size ∙ sym long)
          (cells
          ∙ ap (λ (t : List ℕ). text ++ (t ++ replicate (length room - c) 0)) (spelt s)
          ∙ sym (append_assoc text (written (suc n) v) (replicate (length room - c) 0))
          ∙ ap (λ (i : ℕ). (text ++ written (suc n) v) ++ replicate (length room - i) 0) (size ∙ sym long))
          ∙ fit true (le-leb (length (text ++ written (suc n) v)) (length room) (omega (arith, long)))

module _ (text : List ℕ) (v : Values) (room : List ℕ) (first : Values) {r : Result (ℕ × Values) BadLine} (e : r ≡ scan_of 0 first (settings_of text)) where
  pub added_bad : {b : BadLine} → r ≡ Err b → grown_of (Err (add_error.BadLine b.0)) room ≡ added text v room
  unfolding added
  added_bad {b} f = sym (ap (λ (s : Settings). added_to s text v room) (told_bad 0 first (settings_of text) e f))

  pub added_line : {last : ℕ} {values : Values} → r ≡ Ok (last, values) → added_at last text v room ≡ added text v room
  unfolding added
  added_line {last} {values} f =
      let t = told 0 first (settings_of text) e f in
      ap (λ (n : ℕ). added_at n text v room) t.count
      ∙ sym (ap (λ (s : Settings). added_to s text v room) t.is)
