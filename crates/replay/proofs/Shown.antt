-- A line's pieces joined are the line, and where it has room. Assumes nothing.
use Prim.Native.Nat.{ℕ, ◌+◌, ◌≤◌, ◌<◌}
use mathlib.Core.Path.{◌≡◌, sym, ap, ◌∙◌}
use mathlib.Core.List.{List, [], ◌∷◌, ◌++◌, map, append_assoc}
use mathlib.Core.Bool.{Bool, true, false, cond}
use borrow.Author.Tests.{le-leb, lt-leb}
use lib.ListN.{length, drop}
use Rattle.std.specs.Prelude.{Ok, Err}
use Rattle.kinds.specs.Spelling.{Spelled}
use Rattle.listing.specs.Numbers.{decimal}
use Rattle.listing.specs.Listing.{led}
use Rattle.listing.proofs.Written.{led_append}
use Rattle.replay.specs.Tally.{marked, one}
use Rattle.replay.specs.Day.{Entry, shown_of, fate_shown, fields_of, written, writable, file_line}
use Rattle.replay.specs.Answer.{Put, putting, placed, recording}
use Rattle.replay.specs.declared.lines.Shown.{Shown}
use Rattle.replay.specs.declared.lines.Unwritten.TheVariants as unwritten
use Rattle.replay.specs.declared.tally.File.{File}

pub entry_text : (e : Entry) {s : Shown} → s ≡ shown_of e.answer
    → e.name ++ (led 9 (map decimal (e.size ∷ e.edition ∷ [])) ++ (led 9 (fields_of s) ++ (10 ∷ []))) ≡ written e
entry_text e k =
    rw k
    (ap (λ (t : List ℕ). e.name ++ t)
    (sym (append_assoc (led 9 (map decimal (e.size ∷ e.edition ∷ []))) (led 9 (fields_of (shown_of e.answer))) (10 ∷ []))
    ∙ ap (λ (t : List ℕ). t ++ (10 ∷ [])) (sym (led_append 9 (map decimal (e.size ∷ e.edition ∷ [])) (fields_of (shown_of e.answer))))))

pub file_text : (name : List ℕ) (f : File) {s t : Shown} {m : ℕ} → s ≡ shown_of f.recorded → t ≡ fate_shown f.fate → m ≡ one (marked f)
    → 68 ∷ 9 ∷ (name ++ (led 9 (fields_of s) ++ (led 9 (fields_of t) ++ (led 9 (map decimal (m ∷ [])) ++ (10 ∷ []))))) ≡ file_line name f
file_text name f {s} {t} {m} i j k =
    ap (λ (u : List ℕ). 68 ∷ 9 ∷ (name ++ u)) gathered
    ∙ ap (λ (u : List ℕ). 68 ∷ 9 ∷ u) (sym (append_assoc name (led 9 (fields_of s ++ (fields_of t ++ map decimal (m ∷ [])))) (10 ∷ [])))
    ∙ rw (i, j, k)
  where
    behind : led 9 (fields_of t) ++ (led 9 (map decimal (m ∷ [])) ++ (10 ∷ [])) ≡ led 9 (fields_of t ++ map decimal (m ∷ [])) ++ (10 ∷ [])
    behind =
        sym (append_assoc (led 9 (fields_of t)) (led 9 (map decimal (m ∷ []))) (10 ∷ []))
        ∙ ap (λ (u : List ℕ). u ++ (10 ∷ [])) (sym (led_append 9 (fields_of t) (map decimal (m ∷ []))))

    gathered : led 9 (fields_of s) ++ (led 9 (fields_of t) ++ (led 9 (map decimal (m ∷ [])) ++ (10 ∷ []))) ≡ led 9 (fields_of s ++ (fields_of t ++ map decimal (m ∷ []))) ++ (10 ∷ [])
    gathered =
        ap (λ (u : List ℕ). led 9 (fields_of s) ++ u) behind
        ∙ sym (append_assoc (led 9 (fields_of s)) (led 9 (fields_of t ++ map decimal (m ∷ []))) (10 ∷ []))
        ∙ ap (λ (u : List ℕ). u ++ (10 ∷ [])) (sym (led_append 9 (fields_of s) (fields_of t ++ map decimal (m ∷ []))))

-- ROOM

module _ (more : ℕ) (name text room : List ℕ) where
  pub no_place : length room < length name + more → putting (Err unwritten.Full) room ≡ placed more name text room
  no_place h =
      sym (ap (λ (t : Bool). cond t (putting (Ok (length text)) (text ++ drop (length text) room)) (putting (Err unwritten.Full) room)) (lt-leb (length name + more) (length room) h))

  pub in_place : length name + more ≤ length room → {last : List ℕ} {n : ℕ} → Spelled text room last n → putting (Ok n) last ≡ placed more name text room
  in_place h {last} {n} s =
      ap (λ (k : ℕ). putting (Ok k) last) s.count
      ∙ ap (putting (Ok (length text))) s.written
      ∙ sym (ap (λ (t : Bool). cond t (putting (Ok (length text)) (text ++ drop (length text) room)) (putting (Err unwritten.Full) room)) (le-leb (length name + more) (length room) h))

module _ (e : Entry) (room : List ℕ) where
  pub unwritable : writable e.name ≡ false → putting (Err unwritten.Name) room ≡ recording e room
  unwritable h = sym (ap (λ (t : Bool). cond t (placed 87 e.name (written e) room) (putting (Err unwritten.Name) room)) h)

  pub recorded : writable e.name ≡ true → {p : Put} → p ≡ placed 87 e.name (written e) room → p ≡ recording e room
  recorded h k = k ∙ sym (ap (λ (t : Bool). cond t (placed 87 e.name (written e) room) (putting (Err unwritten.Name) room)) h)
