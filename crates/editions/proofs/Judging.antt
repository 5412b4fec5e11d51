-- Both passes: what the lines take is counted, and then they are written; what the caller is answered. Assumes nothing.
use Prim.Native.Nat.{ℕ, ◌+◌, ◌-◌, ◌≤◌, ◌<◌}
use mathlib.Core.Path.{◌≡◌, refl, sym, ap, ap₂, subst, ◌∙◌}
use mathlib.Core.List.{List, [], ◌∷◌, ◌++◌, append_assoc}
use mathlib.Core.Bool.{Bool, true, false, cond}
use mathlib.Core.Logic.{⊎_elim}
use native.Mathlib.Omega.{arith}
use native.Mathlib.Numerals.{add-one}
use borrow.Author.Tests.{eqb-true, eqb-false, leb-true, leb-false, le-leb, lt-leb}
use borrow.Rule.Slice.PartMut.{mid_of, put_mid}
use lib.Dec.{eqb, leb}
use lib.ListN.{length, take, drop, replicate}
use lib.Seq.{take_at, length-take-le}
use Rattle.std.specs.Prelude.{Option, Some, None, Result, Ok, Err}
use Rattle.cells.proofs.Zeros.{cleared}
use Rattle.listing.specs.Lines.{parted, Piece}
use Rattle.listing.specs.Written.{Put, Wrote}
use Rattle.listing.specs.declared.write.Writer.{Writer}
use Rattle.listing.proofs.Either.{either}
use Rattle.listing.proofs.Pieces.{part}
use Rattle.listing.proofs.Written.{then, wrote_as, wrote_none, kept}
use Rattle.editions.specs.Editions as e
use Rattle.editions.specs.Editions.{step_at, made, made_of, ahead, ended, text_of, fitted, refused, converted}
use Rattle.editions.specs.Answer.{shown_text, out_text, step_of, kept_of, taken_of, last_of, judged_of, Fits, answer_of}
use Rattle.editions.specs.declared.step.Out.{Out}
use Rattle.editions.specs.declared.convert.Unconverted.{Unconverted}
use Rattle.editions.specs.declared.convert.Unconverted.TheVariants as unconverted
use Rattle.editions.proofs.Rooms.{out_length, bytes}
use Rattle.editions.proofs.Scanning.{ended_append, ended_length, Scanned, scanned, at_end, cut_short, not_read, ends_here, more_behind, scanned_on}

-- THE FIRST PASS

pub record Judging (up : Bool) (text : List ℕ) (room : ℕ) (taken : Option ℕ) (n d at : ℕ) : Type 0 where
  pub passed : List (List ℕ)
  pub scan : Scanned up text passed n d at
  pub held : taken ≡ taken_of room (length (ended passed))

pub judging : (up : Bool) (text : List ℕ) (room : ℕ) → Judging up text room (Some 0) 1 0 0
judging up text room = record { passed = []; scan = scanned up text; held = bytes room 0 (omega arith) }

module _ {up : Bool} {text : List ℕ} {room : ℕ} {t : Option ℕ} {n d at : ℕ} (g : Judging up text room t n d at) where
  stray_at : {m : ℕ} → made_of up text ≡ e.bad m → Err (unconverted.Stray m) ≡ judged_of room (made_of up text)
  stray_at f = sym (ap (judged_of room) f)

  pub judged_end : length text ≤ at → Err (unconverted.Stray n) ≡ judged_of room (made_of up text)
  judged_end h = stray_at (at_end g.scan h)

  module _ {to : ℕ} (p : Piece 10 text at to) where
    pub judged_short : length text ≤ to → Err (unconverted.Stray n) ≡ judged_of room (made_of up text)
    judged_short h = stray_at (cut_short g.scan p h)

    module _ (h : to < length text) {r : Option Out} (f : step_of r (part at to text) ≡ step_at up n d (part at to text)) where
      pub judged_stray : r ≡ None → Err (unconverted.Stray n) ≡ judged_of room (made_of up text)
      judged_stray i = stray_at (not_read g.scan p h f i)

      module _ {o : Out} (i : r ≡ Some o) (k : kept_of r ≤ length (part at to text))
          {one two : Option ℕ} {tail : ℕ}
          (a : (m : ℕ) → t ≡ taken_of room m → one ≡ taken_of room (m + o.keep))
          (b : tail ≡ length (shown_text o) + 1)
          (c : (m : ℕ) → one ≡ taken_of room m → two ≡ taken_of room (m + tail)) where
        -- what this line takes too
        grown : two ≡ taken_of room (length (ended (g.passed ++ (out_text o (part at to text) ∷ []))))
        grown =
            let long : length (ended g.passed) + o.keep + tail ≡ length (ended (g.passed ++ (out_text o (part at to text) ∷ []))) =
            omega (
              arith,
              ended_length g.passed (out_text o (part at to text)) [],
              out_length o (part at to text),
              length-take-le o.keep (part at to text) (subst (λ (r : Option Out). kept_of r ≤ length (part at to text)) i k),
              b,
            ) in
            c (length (ended g.passed) + o.keep) (a (length (ended g.passed)) g.held)
            ∙ ap (taken_of room) long

        pub judged_last : o.last ≡ true → {q : Result ℕ Unconverted} → q ≡ cond (eqb (length text - (to + 1)) 0) (last_of two) (Err (unconverted.Stray (n + 1)))
            → q ≡ judged_of room (made_of up text)
        judged_last j {q} x = go (eqb (length text - (to + 1)) 0) refl x
          where
            go : (u : Bool) → eqb (length text - (to + 1)) 0 ≡ u → q ≡ cond u (last_of two) (Err (unconverted.Stray (n + 1))) → q ≡ judged_of room (made_of up text)
            go true y x =
                x
                ∙ ap last_of grown
                ∙ sym (ap (judged_of room) (ends_here g.scan p h f i j (omega (arith, eqb-true (length text - (to + 1)) 0 y))))
            go false y x =
                x
                ∙ ap (λ (n : ℕ). Err (unconverted.Stray n)) (add-one n)
                ∙ stray_at (more_behind g.scan p h f i j (behind (eqb-false (length text - (to + 1)) 0 y)))
              where
                behind : (length text - (to + 1) ≡ 0 → ⊥) → to + 1 < length text
                behind w = omega (arith, w)

        pub judging_on : o.last ≡ false → Judging up text room two (n + 1) o.depth (to + 1)
        judging_on j = record { passed = g.passed ++ (out_text o (part at to text) ∷ []); scan = scanned_on g.scan p h f i j; held = grown }

-- THE SECOND PASS

pub record Writing (up : Bool) (text : List ℕ) (n d at : ℕ) (before after : Writer) : Type 0 where
  pub passed : List (List ℕ)
  pub scan : Scanned up text passed n d at
  pub wrote : Wrote (ended passed) before after

pub writing : (up : Bool) (text : List ℕ) (before : Writer) → before.at ≡ 0 → Writing up text 1 0 0 before before
writing up text before e = record { passed = []; scan = scanned up text; wrote = wrote_none before (omega arith) }

-- the lines that were made, where there are any
abbrev lines_of : e.Made → List (List ℕ)
lines_of (e.bad n) = []
lines_of (e.lines ls) = ls

-- they begin with those passed and this one
record Begins (ps : List (List ℕ)) (t : List ℕ) (all : List (List ℕ)) : Type 0 where
  others : List (List ℕ)
  is : all ≡ ps ++ (t ∷ others)

begins : (ps : List (List ℕ)) (t : List ℕ) (m : e.Made) {all : List (List ℕ)} → e.lines all ≡ ahead (ps ++ (t ∷ [])) m → Begins ps t all
begins ps t (e.bad n) f = absurd (let z : ◌≡◌ {A = ℕ} 0 1 = cc in omega arith)
begins ps t (e.lines us) f = record { others = us; is = ap lines_of f ∙ append_assoc ps (t ∷ []) us }

module _ {up : Bool} {text : List ℕ} {n d at : ℕ} {before after : Writer}
    (g : Writing up text n d at before after) (z : before.at ≡ 0) (w : Fits (made_of up text) (length before.room.now)) where
  never : {m : ℕ} → made_of up text ≡ e.bad m → ⊥
  never f = let i = w.is in let z : ◌≡◌ {A = ℕ} 0 1 = cc in omega arith

  pub never_end : length text ≤ at → Wrote (text_of (made_of up text)) before after
  never_end h = absurd (never (at_end g.scan h))

  module _ {to : ℕ} (p : Piece 10 text at to) where
    pub never_short : length text ≤ to → Wrote (text_of (made_of up text)) before after
    never_short h = absurd (never (cut_short g.scan p h))

    module _ (h : to < length text) {r : Option Out} (f : step_of r (part at to text) ≡ step_at up n d (part at to text)) where
      pub never_stray : r ≡ None → Wrote (text_of (made_of up text)) before after
      never_stray i = absurd (never (not_read g.scan p h f i))

      module _ {o : Out} (i : r ≡ Some o) (k : kept_of r ≤ length (part at to text)) where
        ends : o.last ≡ true → made_of up text ≡ e.lines (g.passed ++ (out_text o (part at to text) ∷ []))
        ends j = ⊎_elim (λ l. absurd (never (more_behind g.scan p h f i j l))) (λ l. ends_here g.scan p h f i j l) (either (to + 1) (length text))

        line_in : Begins g.passed (out_text o (part at to text)) w.all
        line_in = go o.last refl
          where
            go : (b : Bool) → o.last ≡ b → Begins g.passed (out_text o (part at to text)) w.all
            go true j = record { others = []; is = ap lines_of (sym w.is ∙ ends j) }
            go false j =
                begins g.passed (out_text o (part at to text)) (made up (n + 1) o.depth (parted 10 (drop (to + 1) text)))
                (sym w.is ∙ (scanned_on g.scan p h f i j).is)

        pub line_fits : (o.keep ≤ length (part at to text)) × (after.at + (length (out_text o (part at to text)) + 1) ≤ length after.room.now)
        line_fits =
            let all = line_in in (
              subst (λ (r : Option Out). kept_of r ≤ length (part at to text)) i k,
              omega (
                arith,
                ended_length g.passed (out_text o (part at to text)) all.others,
                ap (λ (ls : List (List ℕ)). length (ended ls)) all.is,
                w.within,
                g.wrote.as_long,
                g.wrote.put.count,
                z,
              ),
            )

        module _ {last : Writer} (q : Wrote (out_text o (part at to text) ++ (10 ∷ [])) after last) where
          both : Wrote (ended (g.passed ++ (out_text o (part at to text) ∷ []))) before last
          both = wrote_as (sym (ended_append g.passed (out_text o (part at to text) ∷ []))) (then g.wrote q)

          pub written_last : o.last ≡ true → Wrote (text_of (made_of up text)) before last
          written_last j = wrote_as (sym (ap text_of (ends j))) both

          pub writing_on : o.last ≡ false → Writing up text (n + 1) o.depth (to + 1) before last
          writing_on j = record { passed = g.passed ++ (out_text o (part at to text) ∷ []); scan = scanned_on g.scan p h f i j; wrote = both }

-- THE ANSWER

-- what the first pass answered says what was made
abbrev Tells : ℕ → Result ℕ Unconverted → e.Made → Type 0
Tells room (Err (unconverted.Stray n)) m = m ≡ e.bad n
Tells room (Err unconverted.Full) m = (room < length (text_of m)) × (m ≡ e.lines (lines_of m))
Tells room (Ok n) m = Fits m room

tells : (room : ℕ) (m : e.Made) → Tells room (judged_of room m) m
tells room (e.bad n) = refl
tells room (e.lines ls) = go (leb (length (ended ls)) room) refl
  where
    go : (b : Bool) → leb (length (ended ls)) room ≡ b
        → Tells room (last_of (cond b (Some (length (ended ls))) None)) (e.lines ls)
    go true i = record { all = ls; is = refl; within = leb-true (length (ended ls)) room i }
    go false i = (leb-false (length (ended ls)) room i, refl)

module _ (up : Bool) (text room : List ℕ) {r : Result ℕ Unconverted} (j : r ≡ judged_of (length room) (made_of up text)) where
  told : {q : Result ℕ Unconverted} → r ≡ q → Tells (length room) q (made_of up text)
  told f = subst (λ (q : Result ℕ Unconverted). Tells (length room) q (made_of up text)) (sym j ∙ f) (tells (length room) (made_of up text))

  pub refused_line : {n : ℕ} → r ≡ Err (unconverted.Stray n) → answer_of (Err (unconverted.Stray n)) room ≡ converted up text room
  unfolding converted
  refused_line f = sym (ap (λ (m : e.Made). e.answered m room) (told f))

  fit : (b : Bool) (t : List ℕ) → leb (length t) (length room) ≡ b
      → cond b (record { number = 0; line = 0; count = length t; room = t ++ replicate (length room - length t) 0 }) (refused 17 0 room) ≡ fitted t room
  fit b t i =
      sym (ap (λ (b : Bool). cond b (record { number = 0; line = 0; count = length t; room = t ++ replicate (length room - length t) 0 }) (refused 17 0 room)) i)

  pub refused_room : r ≡ Err unconverted.Full → answer_of (Err unconverted.Full) room ≡ converted up text room
  unfolding converted
  refused_room f =
      let t = told f in
      fit false (text_of (made_of up text)) (lt-leb (length (text_of (made_of up text))) (length room) t.0)
      ∙ ap (λ (m : e.Made). fitted (text_of m) room) t.1
      ∙ sym (ap (λ (m : e.Made). e.answered m room) t.1)

  pub fits : {n : ℕ} → r ≡ Ok n → Fits (made_of up text) (length room)
  fits f = told f

  pub refused_by : (u : Unconverted) → r ≡ Err u → answer_of (Err u) room ≡ converted up text room
  refused_by (unconverted.Stray n) f = refused_line f
  refused_by unconverted.Full f = refused_room f

  -- first the text was written, then zeros
  pub made_text : {n : ℕ} → r ≡ Ok n → {after ys : List ℕ} {end : ℕ} → Put (text_of (made_of up text)) 0 room after end
      → ys ≡ replicate (length (mid_of end (length after - end) after)) 0 → answer_of (Ok end) (put_mid end (length after - end) after ys) ≡ converted up text room
  unfolding converted
  made_text f {after} {ys} {end} p z =
      ap₂ (λ (n : ℕ) (l : List ℕ). answer_of (Ok n) l) size cells
      ∙ fit true (text_of (made_of up text)) (le-leb (length (text_of (made_of up text))) (length room) (omega (arith, size, p.within)))
      ∙ ap (λ (m : e.Made). fitted (text_of m) room) (told f).is
      ∙ sym (ap (λ (m : e.Made). e.answered m room) (told f).is)
    where
      size : end ≡ length (text_of (made_of up text))
      size = omega (arith, p.count)

      cells : put_mid end (length after - end) after ys ≡ text_of (made_of up text) ++ replicate (length room - length (text_of (made_of up text))) 0
      cells =
          let left : length after - end ≡ length room - length (text_of (made_of up text)) = omega (arith, size, kept p) in
          cleared after ys end (omega (arith, p.within, kept p)) z
          ∙ ap (λ (i : ℕ). take end after ++ replicate i 0) left
          ∙ ap (λ (l : List ℕ). l ++ replicate (length room - length (text_of (made_of up text))) 0)
          (ap (take end) p.written ∙ take_at (text_of (made_of up text)) (drop end room) end (sym size))

  -- by a writer that began at the front of the room
  pub made_by : {n : ℕ} → r ≡ Ok n → {a b : Writer} → Wrote (text_of (made_of up text)) a b → a.at ≡ 0 → a.room.now ≡ room → {ys after : List ℕ}
      → ys ≡ replicate (length (mid_of b.at (length b.room.now - b.at) b.room.now)) 0
      → (a.room.ghost_name ≡ b.room.ghost_name → after ≡ put_mid b.at (length b.room.now - b.at) b.room.now ys) → answer_of (Ok b.at) after ≡ converted up text room
  made_by f {a} {b} w z e {ys} {after} y g =
      ap (λ (l : List ℕ). answer_of (Ok b.at) l) (g (sym w.same))
      ∙ made_text f (subst (λ (l : List ℕ). Put (text_of (made_of up text)) 0 l b.room.now b.at) e (subst (λ (n : ℕ). Put (text_of (made_of up text)) n a.room.now b.room.now b.at) z w.put)) y
