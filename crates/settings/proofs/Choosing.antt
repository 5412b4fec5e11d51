-- From what all lines read to, to the values of the edition that is named. Assumes nothing.
use Prim.Native.Nat.{ℕ, zero, suc, ◌-◌, ◌≤◌, ◌<◌}
use mathlib.Core.Path.{◌≡◌, refl, sym, ap, ◌∙◌}
use mathlib.Core.List.{List, [], ◌∷◌}
use mathlib.Core.Logic.{⊎_elim, ◌⊎◌}
use native.Mathlib.Omega.{arith}
use lib.ListN.{length, get_or}
use Rattle.std.specs.Prelude.{Result, Ok, Err}
use Rattle.settings.specs.Settings.{Settings, bad, editions, settings_of, today, bad_line, unknown, named, numbered, choice_in, choice}
use Rattle.settings.specs.Answer.{scan_of}
use Rattle.settings.specs.declared.lines.Values.{Values}
use Rattle.settings.specs.declared.lines.BadLine.{BadLine}

-- what the code's answer to a text stands for
pub told_bad : (edition : ℕ) (first : Values) (s : Settings) {r : Result (ℕ × Values) BadLine} {b : BadLine} → r ≡ scan_of edition first s → r ≡ Err b → s ≡ bad b.0
told_bad edition first (bad m) e f = cc
told_bad edition first (editions vs) e f = absurd (let z : ◌≡◌ {A = ℕ} 0 1 = cc in omega arith)

pub record Told (edition : ℕ) (first : Values) (s : Settings) (last : ℕ) (values : Values) : Type 0 where
  pub all : List Values
  pub is : s ≡ editions all
  pub count : last ≡ suc (length all)
  pub held : values ≡ get_or (first ∷ all) (edition - 1) first

abbrev in_ok : ℕ × Values → Result (ℕ × Values) BadLine → ℕ × Values
in_ok p (Ok q) = q
in_ok p (Err b) = p

pub told : (edition : ℕ) (first : Values) (s : Settings) {r : Result (ℕ × Values) BadLine} {last : ℕ} {values : Values} → r ≡ scan_of edition first s → r ≡ Ok (last, values)
    → Told edition first s last values
told edition first (bad m) e f = absurd (let z : ◌≡◌ {A = ℕ} 0 1 = cc in omega arith)
told edition first (editions vs) {r} {last} {values} e f =
    let g : Ok (last, values) ≡ Ok (suc (length vs), get_or (first ∷ vs) (edition - 1) first) = sym f ∙ e in
    record { all = vs; is = refl; count = ap (λ r. (in_ok (last, values) r).0) g; held = ap (λ r. (in_ok (last, values) r).1) g }

pub past : (e : ℕ) (l : List Values) → length l < e → numbered e l ≡ unknown
past zero l h = absurd (omega arith)
past (suc n) [] h = refl
past (suc zero) (v ∷ l) h = absurd (omega arith)
past (suc (suc n)) (v ∷ l) h = past (suc n) l (omega arith)

at_place : (n : ℕ) (l : List Values) (d : Values) → n < length l → numbered (suc n) l ≡ named (get_or l n d)
at_place n [] d h = absurd (omega arith)
at_place zero (v ∷ l) d h = refl
at_place (suc n) (v ∷ l) d h = at_place n l d (omega arith)

pub there : (e : ℕ) (l : List Values) (d : Values) → 0 < e → e ≤ length l → numbered e l ≡ named (get_or l (e - 1) d)
there zero l d h k = absurd (omega arith)
there (suc n) l d h k = let i : n ≡ suc n - 1 = omega arith in at_place n l d (omega arith) ∙ ap (λ (i : ℕ). named (get_or l i d)) i

module _ (text : List ℕ) (edition fuel : ℕ) where
  by : (s : Settings) → settings_of text ≡ s → choice_in s edition fuel ≡ choice text edition fuel
  unfolding choice
  by s e = sym (ap (λ (s : Settings). choice_in s edition fuel) e)

  pub chosen_bad : {r : Result (ℕ × Values) BadLine} {b : BadLine} → r ≡ scan_of edition (today fuel) (settings_of text) → r ≡ Err b → bad_line b.0 ≡ choice text edition fuel
  chosen_bad {r} {b} e f = by (bad b.0) (told_bad edition (today fuel) (settings_of text) e f)

  module _ {r : Result (ℕ × Values) BadLine} {last : ℕ} {values : Values} (e : r ≡ scan_of edition (today fuel) (settings_of text)) (f : r ≡ Ok (last, values)) where
    it : Told edition (today fuel) (settings_of text) last values
    it = told edition (today fuel) (settings_of text) e f

    chosen_zero : edition ≡ 0 → unknown ≡ choice text edition fuel
    chosen_zero h = sym (ap (λ (n : ℕ). numbered n (today fuel ∷ it.all)) h) ∙ by (editions it.all) it.is

    chosen_past : last < edition → unknown ≡ choice text edition fuel
    chosen_past h = sym (past edition (today fuel ∷ it.all) (omega (arith, it.count))) ∙ by (editions it.all) it.is

    pub chosen_none : (edition ≡ 0) ⊎ ((edition ≡ 0 → ⊥) × (last < edition)) → unknown ≡ choice text edition fuel
    chosen_none h = ⊎_elim chosen_zero (λ k. chosen_past k.1) h

    pub chosen_named : (edition ≡ 0 → ⊥) → edition ≤ last → named values ≡ choice text edition fuel
    chosen_named h k =
        ap named it.held
        ∙ sym (there edition (today fuel ∷ it.all) (today fuel) (omega arith) (omega (arith, it.count)))
        ∙ by (editions it.all) it.is
