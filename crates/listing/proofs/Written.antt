-- Pieces of a line written one behind the other; a list of fields or names, written one after the other. Assumes nothing.
use Prim.Native.Nat.{ℕ, ◌+◌, ◌*◌, ◌≤◌, ◌<◌}
use mathlib.Core.Path.{◌≡◌, refl, sym, ap, subst, ◌∙◌}
use mathlib.Core.Logic.{⊎_elim}
use mathlib.Core.List.{List, [], ◌∷◌, ◌++◌, map, append_assoc, append-nil}
use native.Mathlib.Nat.{add-zero, add_assoc, mul-add, mul-one}
use native.Mathlib.Numerals.{add-one}
use native.Mathlib.Omega.{arith}
use lib.ListN.{length, get_or, take, drop, set, length-append, length-drop, take-append-drop}
use lib.Seq.{set_split, length-take-le, take_at, take_all, take-suc, drop-append-add, drop-drop}
use Rattle.kinds.specs.Spelling.{kind_text, name_text, Spelled}
use Rattle.kinds.proofs.Spelt.{kind_at, kind_none, name_at, name_none, fits}
use Rattle.listing.specs.Listing.{led, joined}
use Rattle.listing.specs.Written.{Put, Wrote}
use Rattle.listing.specs.declared.write.Writer.{Writer}
use Rattle.listing.proofs.Either.{either}

pub put_one : (b at : ℕ) (before : List ℕ) → at < length before → Put (b ∷ []) at before (set before at b) (at + 1)
put_one b at before h =
    record {
      count = refl;
      within = omega arith;
      written = set_split before at b h ∙ ap (λ (n : ℕ). take at before ++ (b ∷ drop n before)) (sym (add-one at));
    }

pub put_none : (at : ℕ) (before : List ℕ) → at ≤ length before → Put [] at before before at
put_none at before h = record { count = sym (add-zero at); within = h; written = sym (take-append-drop at before) }

-- what stands before the end is what stood there, and the text
module _ {text : List ℕ} {at : ℕ} {before after : List ℕ} {r : ℕ} (p : Put text at before after r) where
  front : List ℕ
  front = take at before ++ text

  front_length : length front ≡ r
  unfolding front
  front_length =
      length-append (take at before) text
      ∙ ap (λ (n : ℕ). n + length text) (length-take-le at before (omega (arith, p.count, p.within)))
      ∙ sym p.count

  in_front : after ≡ front ++ drop r before
  unfolding front
  in_front = p.written ∙ sym (append_assoc (take at before) text (drop r before))

  pub kept : length after ≡ length before
  kept =
      ap length in_front
      ∙ length-append front (drop r before)
      ∙ ap (λ (n : ℕ). n + length (drop r before)) front_length
      ∙ ap (λ (n : ℕ). r + n) (length-drop r before)
      ∙ omega (arith, p.within)

  -- two texts one behind the other
  pub joins : {text₂ last : List ℕ} {s : ℕ} → Put text₂ r after last s → Put (text ++ text₂) at before last s
  unfolding front
  joins {text₂} {last} {s} q =
      record {
        count = q.count ∙ ap (λ (n : ℕ). n + length text₂) p.count ∙ add_assoc at (length text) (length text₂) ∙ ap (λ (n : ℕ). at + n) (sym (length-append text text₂));
        within = omega (arith, q.within, kept);
        written =
            q.written
            ∙ ap (λ (l : List ℕ). l ++ (text₂ ++ drop s after)) (ap (take r) in_front ∙ take_at front (drop r before) r front_length)
            ∙ ap (λ (l : List ℕ). front ++ (text₂ ++ l)) rest
            ∙ append_assoc (take at before) text (text₂ ++ drop s before)
            ∙ ap (λ (l : List ℕ). take at before ++ l) (sym (append_assoc text text₂ (drop s before)));
      }
    where
      rest : drop s after ≡ drop s before
      rest =
          ap (λ (n : ℕ). drop n after) (q.count ∙ ap (λ (n : ℕ). n + length text₂) (sym front_length))
          ∙ ap (drop (length front + length text₂)) in_front
          ∙ drop-append-add front (drop r before) (length text₂)
          ∙ drop-drop (length text₂) r before
          ∙ ap (λ (n : ℕ). drop n before) (sym q.count)

-- a text that equals the one asked for
pub put_as : {t text : List ℕ} {at : ℕ} {before after : List ℕ} {r : ℕ} → t ≡ text → Put t at before after r → Put text at before after r
put_as {t} {text} {at} {before} {after} {r} e p = subst (λ (t : List ℕ). Put t at before after r) e p

-- from the room's front on
pub spelled : {text before after : List ℕ} {r : ℕ} → Put text 0 before after r → Spelled text before after r
spelled {text} {before} {after} {r} p =
    let c : r ≡ length text = omega (arith, p.count) in
    let w : r ≤ length after = omega (arith, p.within, kept p) in
    record {
      count = c;
      written = p.written ∙ ap (λ (n : ℕ). text ++ drop n before) c;
      within = w;
      front = sym (length-take-le r after w);
    }

-- LISTS OF TEXTS

pub led_append : (m : ℕ) (ts us : List (List ℕ)) → led m (ts ++ us) ≡ led m ts ++ led m us
led_append m [] us = refl
led_append m (t ∷ ts) us = ap (λ (l : List ℕ). m ∷ (t ++ l)) (led_append m ts us) ∙ ap (λ (l : List ℕ). m ∷ l) (sym (append_assoc t (led m ts) (led m us)))

led_more : (m : ℕ) (ts : List (List ℕ)) (t : List ℕ) → led m (ts ++ (t ∷ [])) ≡ led m ts ++ (m ∷ t)
led_more m ts t = led_append m ts (t ∷ []) ∙ ap (λ (l : List ℕ). led m ts ++ (m ∷ l)) (append-nil t)

-- the texts of the first elements, and of one more
map_more : (f : ℕ → List ℕ) (l : List ℕ) (a : ℕ) → map f (l ++ (a ∷ [])) ≡ map f l ++ (f a ∷ [])
map_more f [] a = refl
map_more f (b ∷ l) a = ap (λ (ts : List (List ℕ)). f b ∷ ts) (map_more f l a)

texts_more : (f : ℕ → List ℕ) (l : List ℕ) (i : ℕ) → i < length l → map f (take (i + 1) l) ≡ map f (take i l) ++ (f (get_or l i 0) ∷ [])
texts_more f l i h = rw add-one (ap (map f) (take-suc l i 0 h) ∙ map_more f (take i l) (get_or l i 0))

pub led_on : (m : ℕ) (f : ℕ → List ℕ) (l : List ℕ) (i : ℕ) → i < length l
    → led m (map f (take i l)) ++ (m ∷ f (get_or l i 0)) ≡ led m (map f (take (i + 1) l))
led_on m f l i h = sym (ap (led m) (texts_more f l i h) ∙ led_more m (map f (take i l)) (f (get_or l i 0)))

pub joined_none : (f : ℕ → List ℕ) (l : List ℕ) → length l ≡ 0 → 45 ∷ [] ≡ joined (map f l)
joined_none f [] h = refl
joined_none f (a ∷ l) h = absurd (omega arith)

pub joined_some : (f : ℕ → List ℕ) {l more : List ℕ} {a : ℕ} → l ≡ a ∷ more → f a ++ led 44 (map f more) ≡ joined (map f l)
joined_some f e = sym (ap (λ (l : List ℕ). joined (map f l)) e)

-- WRITERS

pub then : {text more : List ℕ} {a b c : Writer} → Wrote text a b → Wrote more b c → Wrote (text ++ more) a c
then p q = record { same = q.same ∙ p.same; as_long = q.as_long ∙ p.as_long; put = joins p.put q.put }

pub wrote_as : {t text : List ℕ} {a b : Writer} → t ≡ text → Wrote t a b → Wrote text a b
wrote_as {a = a} {b} e w = subst (λ (t : List ℕ). Wrote t a b) e w

pub wrote_none : (a : Writer) → a.at ≤ length a.room.now → Wrote [] a a
wrote_none a h = record { same = refl; as_long = refl; put = put_none a.at a.room.now h }

-- a writer that begins at the front of a lent room leaves the text spelled in it
pub spelled_by : {text : List ℕ} {a b : Writer} {after : List ℕ} → Wrote text a b → a.at ≡ 0 → (a.room.ghost_name ≡ b.room.ghost_name → after ≡ b.room.now)
    → Spelled text a.room.now after b.at
spelled_by {text} {a} {b} w e f =
    subst (λ (l : List ℕ). Spelled text a.room.now l b.at) (sym (f (sym w.same)))
    (spelled (subst (λ (n : ℕ). Put text n a.room.now b.room.now b.at) e w.put))

-- what a loop has written: w says it of the elements passed, each of which takes at most so many bytes
pub record Running (w : List ℕ → List ℕ) (most : ℕ) (l : List ℕ) (before after : Writer) (i : ℕ) : Type 0 where
  pub so_far : i ≤ length l
  pub wrote : Wrote (w (take i l)) before after
  pub bound : after.at ≤ before.at + most * i

module _ (w : List ℕ → List ℕ) (most : ℕ) where
  pub running : (l : List ℕ) (a : Writer) → w [] ≡ [] → a.at ≤ length a.room.now → Running w most l a a 0
  running l a e h = record { so_far = omega arith; wrote = wrote_as (sym e) (wrote_none a h); bound = omega arith }

module _ {w : List ℕ → List ℕ} {most : ℕ} {l : List ℕ} {a b : Writer} {i : ℕ} (g : Running w most l a b i) where
  pub running_on : {t : List ℕ} {c : Writer} → i < length l → w (take i l) ++ t ≡ w (take (i + 1) l) → Wrote t b c → c.at ≤ b.at + most
      → Running w most l a c (i + 1)
  running_on h e p k =
      record {
        so_far = omega arith;
        wrote = wrote_as e (then g.wrote p);
        bound = omega (arith, g.bound, mul-add most i 1, mul-one most);
      }

  pub ran : length l ≤ i → Wrote (w l) a b
  ran h = wrote_as (ap w (take_all i l h)) g.wrote

-- SPELLINGS

-- what was spelled stands at the front, and is copied from there
module _ {text before after : List ℕ} {k : ℕ} (s : Spelled text before after k) (short : length text ≤ 32) where
  spelt : take k after ≡ text
  spelt = ap (take k) s.written ∙ take_at text (drop (length text) before) k (sym s.count)

  pub spelt_short : length (take k after) ≤ 32
  spelt_short = omega (arith, ap length spelt)

  pub copied : {at : ℕ} {room last : List ℕ} {r : ℕ} → Put (take k after) at room last r → Put text at room last r × (r ≤ at + 32)
  copied p = (put_as spelt p, omega (arith, p.count, spelt_short))

pub kind_short : (k : ℕ) → length (kind_text k) ≤ 32
kind_short k =
    ⊎_elim
    (λ h. omega (arith, ap length (kind_at k h), fits k (omega arith)))
    (λ h. omega (arith, ap length (kind_none k h)))
    (either k 122)

pub name_short : (n : ℕ) → length (name_text n) ≤ 32
name_short n =
    ⊎_elim
    (λ h. omega (arith, ap length (name_at n), fits (122 + n) (omega arith)))
    (λ h. omega (arith, ap length (name_none n h)))
    (either n 85)
