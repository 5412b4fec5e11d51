-- Line after line: what the lines before a place are made into, how much room that takes, and that it was written. Assumes nothing.
use Prim.Native.Nat.{ℕ, suc, ◌+◌, ◌-◌, ◌*◌, ◌≤◌, ◌<◌}
use mathlib.Core.Path.{◌≡◌, refl, sym, ap, ◌∙◌}
use mathlib.Core.List.{List, [], ◌∷◌, ◌++◌, append_assoc}
use mathlib.Core.Bool.{Bool, true, false, cond, ◌&&◌}
use mathlib.Core.Option as maybe
use native.Mathlib.Numerals.{add-one}
use native.Mathlib.Omega.{arith}
use lib.Dec.{eqb}
use lib.ListN.{length, drop, length-append, length-drop, drop_of_length-le}
use Rattle.std.specs.Prelude.{Option, Some, None}
use Rattle.shapes.specs.Sort as Sort
use Rattle.listing.specs.Numbers.{decimal}
use Rattle.listing.specs.Lines.{onto, parted, Piece}
use Rattle.listing.proofs.Pieces.{part, marked, unmarked, one_piece, part_length}
use Rattle.editions.specs.Words.{equal}
use Rattle.editions.specs.Sorts.{sort_of}
use Rattle.editions.specs.Editions as e
use Rattle.editions.specs.Editions.{step_at, made, made_of, ahead, only, next, opened_behind, ended}
use Rattle.editions.specs.Answer.{out_text, step_of}
use Rattle.editions.specs.declared.step.Out.{Out}

-- LINES AND THEIR TEXT

pub ended_append : (ls ms : List (List ℕ)) → ended (ls ++ ms) ≡ ended ls ++ ended ms
ended_append [] ms = refl
ended_append (l ∷ ls) ms = ap (λ (t : List ℕ). l ++ (10 ∷ t)) (ended_append ls ms) ∙ sym (append_assoc l (10 ∷ ended ls) (ended ms))

pub ended_length : (ls : List (List ℕ)) (t : List ℕ) (ms : List (List ℕ))
    → length (ended (ls ++ (t ∷ ms))) ≡ length (ended ls) + (length t + 1 + length (ended ms))
ended_length ls t ms =
    ap length (ended_append ls (t ∷ ms))
    ∙ length-append (ended ls) (t ++ (10 ∷ ended ms))
    ∙ ap (λ (n : ℕ). length (ended ls) + n) (length-append t (10 ∷ ended ms) ∙ omega arith)

-- WHAT A LINE THAT READS IS

-- it is not empty, and opens one node at most
some_bytes : (up : Bool) (n d : ℕ) → step_at up n d [] ≡ e.stray
unfolding step_at e.head_step e.up_step e.down_step e.ends e.allowed sort_of
some_bytes up n d = go (eqb n 1) (eqb d 0) up
  where
    go : (t u up : Bool) → cond t (cond (equal [] (e.head_text (e.from up))) (e.becomes false 0 (e.head_text (e.to up))) e.stray) (cond (u && false) (e.becomes true 0 []) (cond up e.stray e.stray)) ≡ e.stray
    go true u up = refl
    go false true true = refl
    go false true false = refl
    go false false true = refl
    go false false false = refl

-- how many nodes are open behind it
abbrev Most : ℕ → e.Step → Type 0
Most d s = opened_behind s ≤ suc d

opened_most : (s d : ℕ) → e.opened s d ≤ suc d
unfolding e.opened
opened_most s d = go (eqb s Sort.BEGIN) (eqb s Sort.END)
  where
    go : (t u : Bool) → cond t (suc d) (cond u (d - 1) d) ≤ suc d
    go true u = omega arith
    go false true = omega arith
    go false false = omega arith

either_most : (d : ℕ) (t : Bool) (a b : e.Step) → Most d a → Most d b → Most d (cond t a b)
either_most d true a b h k = h
either_most d false a b h k = k

-- each way of a step in turn
module _ (d : ℕ) where
  up_most : (s : ℕ) (l : List ℕ) → Most d (e.up_as s d l)
  up_most s l = either_most d (e.allowed s d) (e.becomes false (e.opened s d) (l ++ (9 ∷ decimal (e.field s d)))) e.stray (opened_most s d) (omega arith)

  down_most : (o : maybe.Option (List ℕ × List ℕ)) → Most d (e.down_from d o)
  down_most maybe.none = omega arith
  down_most (maybe.some s) = go (sort_of (parted 9 s.0))
    where
      go : (n : ℕ) → Most d (e.down_as n d s)
      go n = either_most d (e.allowed n d && e.right n d s.1) (e.becomes false (e.opened n d) s.0) e.stray (opened_most n d) (omega arith)

pub step_most : (up : Bool) (n d : ℕ) (l : List ℕ) → opened_behind (step_at up n d l) ≤ suc d
unfolding step_at e.head_step e.up_step e.down_step
step_most up n d l =
    either_most d (eqb n 1) _ _
    (either_most d (equal l (e.head_text (e.from up))) (e.becomes false 0 (e.head_text (e.to up))) e.stray (omega arith) (omega arith))
    (either_most d (e.ends (sort_of (parted 9 l)) n d) (e.becomes true 0 l) _ (omega arith)
    (either_most d up (e.up_as (sort_of (parted 9 l)) d l) (e.down_from d (e.shed 9 l)) (up_most d (sort_of (parted 9 l)) l) (down_most d (e.shed 9 l))))

-- THE LINES BEFORE A PLACE

-- what they are made into; line n is next, and d nodes are open. A line has two bytes at least, so that neither number outgrows the text
pub record Scanned (up : Bool) (text : List ℕ) (passed : List (List ℕ)) (n d at : ℕ) : Type 0 where
  pub within : at ≤ length text
  pub counted : n * 2 ≤ at + 2
  pub open_less : d < n
  pub is : made_of up text ≡ ahead passed (made up n d (parted 10 (drop at text)))

ahead_none : (m : e.Made) → ahead [] m ≡ m
ahead_none (e.bad n) = refl
ahead_none (e.lines ls) = refl

ahead_more : (ps : List (List ℕ)) (t : List ℕ) (m : e.Made) → ahead ps (ahead (t ∷ []) m) ≡ ahead (ps ++ (t ∷ [])) m
ahead_more ps t (e.bad n) = refl
ahead_more ps t (e.lines ls) = ap e.lines (sym (append_assoc ps (t ∷ []) ls))

pub scanned : (up : Bool) (text : List ℕ) → Scanned up text [] 1 0 0
unfolding made_of
scanned up text =
    record { within = omega arith; counted = omega arith; open_less = omega arith; is = sym (ahead_none (made up 1 0 (parted 10 text))) }

-- nothing stands behind a line feed, or something does
only_nothing : (n : ℕ) (t : List ℕ) → only n t (parted 10 []) ≡ e.lines (t ∷ [])
only_nothing n t = refl

only_more : (n : ℕ) (t u : List ℕ) → 0 < length u → only n t (parted 10 u) ≡ e.bad n
only_more n t [] h = absurd (omega arith)
only_more n t (b ∷ bs) h = go (eqb b 10)
  where
    led : (ps : List (List ℕ)) → only n t (onto (b ∷ []) ps) ≡ e.bad n
    led [] = refl
    led (p ∷ ps) = refl

    go : (c : Bool) → only n t (cond c ([] ∷ parted 10 bs) (onto (b ∷ []) (parted 10 bs))) ≡ e.bad n
    go true = one_piece (λ (ps : List (List ℕ)). only n t ([] ∷ ps) ≡ e.bad n) (λ p ps. refl) 10 bs
    go false = led (parted 10 bs)

module _ {up : Bool} {text : List ℕ} {passed : List (List ℕ)} {n d at : ℕ} (g : Scanned up text passed n d at) where
  pub stops : made up n d (parted 10 (drop at text)) ≡ e.bad n → made_of up text ≡ e.bad n
  stops f = g.is ∙ ap (ahead passed) f

  pub at_end : length text ≤ at → made_of up text ≡ e.bad n
  at_end h = stops (ap (λ (s : List ℕ). made up n d (parted 10 s)) (drop_of_length-le text h))

  module _ {to : ℕ} (p : Piece 10 text at to) where
    pub cut_short : length text ≤ to → made_of up text ≡ e.bad n
    cut_short h = stops (ap (made up n d) (unmarked p h))

    next_as : (h : to < length text) (s : e.Step) → step_at up n d (part at to text) ≡ s
        → made up n d (parted 10 (drop at text)) ≡ next n s (parted 10 (drop (to + 1) text)) (made up (suc n) (opened_behind s) (parted 10 (drop (to + 1) text)))
    next_as h s i =
        ap (made up n d) (marked p h)
        ∙ one_piece
        (λ (ls : List (List ℕ)).
        made up n d (part at to text ∷ ls)
        ≡ next n (step_at up n d (part at to text)) ls (made up (suc n) (opened_behind (step_at up n d (part at to text))) ls))
        (λ l ls. refl) 10 (drop (to + 1) text)
        ∙ ap (λ (s : e.Step). next n s (parted 10 (drop (to + 1) text)) (made up (suc n) (opened_behind s) (parted 10 (drop (to + 1) text)))) i

    module _ (h : to < length text) {r : Option Out} (f : step_of r (part at to text) ≡ step_at up n d (part at to text)) where
      pub not_read : r ≡ None → made_of up text ≡ e.bad n
      not_read i = stops (next_as h e.stray (sym f ∙ ap (λ (r : Option Out). step_of r (part at to text)) i))

      module _ {o : Out} (i : r ≡ Some o) where
        becomes : step_at up n d (part at to text) ≡ e.becomes o.last o.depth (out_text o (part at to text))
        becomes = sym f ∙ ap (λ (r : Option Out). step_of r (part at to text)) i

        becomes_as : (b : Bool) → o.last ≡ b → step_at up n d (part at to text) ≡ e.becomes b o.depth (out_text o (part at to text))
        becomes_as b j = becomes ∙ ap (λ (b : Bool). e.becomes b o.depth (out_text o (part at to text))) j

        pub some_line : at < to
        some_line = go (part at to text) (part_length at to text p.forward p.within) becomes
          where
            go : (l : List ℕ) → length l ≡ to - at → step_at up n d l ≡ e.becomes o.last o.depth (out_text o (part at to text)) → at < to
            go [] k b = absurd (let s = some_bytes up n d in let z : ◌≡◌ {A = ℕ} 0 1 = cc in omega arith)
            go (x ∷ l) k b = omega arith

        pub ends_here : o.last ≡ true → length text ≤ to + 1 → made_of up text ≡ e.lines (passed ++ (out_text o (part at to text) ∷ []))
        ends_here j k =
            g.is
            ∙ ap (ahead passed)
            (next_as h (e.becomes true o.depth (out_text o (part at to text))) (becomes_as true j)
            ∙ ap (λ (s : List ℕ). only (suc n) (out_text o (part at to text)) (parted 10 s)) (drop_of_length-le text k))

        pub more_behind : o.last ≡ true → to + 1 < length text → made_of up text ≡ e.bad (suc n)
        more_behind j k =
            g.is
            ∙ ap (ahead passed)
            (next_as h (e.becomes true o.depth (out_text o (part at to text))) (becomes_as true j)
            ∙ only_more (suc n) (out_text o (part at to text)) (drop (to + 1) text) (simp length-drop (omega arith)))

        pub scanned_on : o.last ≡ false → Scanned up text (passed ++ (out_text o (part at to text) ∷ [])) (n + 1) o.depth (to + 1)
        scanned_on j =
            record {
              within = omega arith;
              counted = omega (arith, g.counted, some_line);
              open_less = omega (arith, g.open_less, ap opened_behind becomes, step_most up n d (part at to text));
              is =
                  g.is
                  ∙ ap (ahead passed) (next_as h (e.becomes false o.depth (out_text o (part at to text))) (becomes_as false j))
                  ∙ ahead_more (passed) (out_text o (part at to text)) (made up (suc n) o.depth (parted 10 (drop (to + 1) text)))
                  ∙ ap (λ (m : ℕ). ahead (passed ++ (out_text o (part at to text) ∷ [])) (made up m o.depth (parted 10 (drop (to + 1) text)))) (sym (add-one n));
            }
