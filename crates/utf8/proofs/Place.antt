-- Request (vi)'s sentences, of the definition: where the bad byte is, and that there is one exactly where the text is not UTF-8.
use Prim.Native.Nat.{ℕ, zero, suc, ◌+◌, ◌≤◌, ◌<◌}
use mathlib.Core.Path.{◌≡◌, sym, ap, ◌∙◌}
use mathlib.Core.List.{List, [], ◌∷◌}
use mathlib.Core.Bool.{Bool, true, false, cond, ◌&&◌}
use mathlib.Core.Option.{Option, none, some}
use native.Mathlib.Omega.{arith}
use borrow.Author.Tests.{eq-eqb, ne_eqb, eqb-false}
use lib.Dec.{T, eqb, leb}
use lib.ListN.{length}
use Rattle.utf8.specs.Utf8.{Range, next, walk, utf8, since, seek, bad_byte}

-- a character of which something is due began before place i
abbrev Begun : ℕ → ℕ → List Range → Type 0
Begun i f [] = Unit
Begun i f (r ∷ due) = f < i

went_on : (i f : ℕ) (due due' : List Range) → Begun i f due → Begun (suc i) (since due i f) due'
went_on i f due [] h = tt
went_on i f [] (r ∷ due') h = omega arith
went_on i f (s ∷ due) (r ∷ due') h = omega (arith, h)

seek_whole : (i f : ℕ) (due : List Range) (bs : List ℕ) → Begun i f due → walk due bs ≡ eqb (seek i f due bs) (i + length bs)
seek_whole i f [] [] h = sym (eq-eqb i (i + 0) (omega arith))
seek_whole i f (r ∷ due) [] h = sym (ne_eqb f (i + 0) (λ e. omega (arith, e, h)))
seek_whole i f due (b ∷ bs) h = go (λ due'. seek_whole (suc i) (since due i f) due' bs (went_on i f due due' h)) (next due b)
  where
    go : ((due' : List Range) → walk due' bs ≡ eqb (seek (suc i) (since due i f) due' bs) (suc i + length bs))
        → (a : Option (List Range))
        → ◌≡◌ {A = Bool} (elim a as (λ _. Bool) [ none ↦ false | some due' ↦ walk due' bs ])
        (eqb (elim a as (λ _. ℕ) [ none ↦ i | some due' ↦ seek (suc i) (since due i f) due' bs ]) (i + suc (length bs)))
    go on none = sym (ne_eqb i (i + suc (length bs)) (λ e. omega (arith, e)))
    go on (some due') =
        let e : suc i + length bs ≡ i + suc (length bs) = omega arith in
        on due' ∙ ap (eqb (seek (suc i) (since due i f) due' bs)) e

seek_within : (i f : ℕ) (due : List Range) (bs : List ℕ) → Begun i f due → seek i f due bs ≤ i + length bs
seek_within i f [] [] h = omega arith
seek_within i f (r ∷ due) [] h = omega (arith, h)
seek_within i f due (b ∷ bs) h = go (λ due'. seek_within (suc i) (since due i f) due' bs (went_on i f due due' h)) (next due b)
  where
    go : ((due' : List Range) → seek (suc i) (since due i f) due' bs ≤ suc i + length bs)
        → (a : Option (List Range)) → elim a as (λ _. ℕ) [ none ↦ i | some due' ↦ seek (suc i) (since due i f) due' bs ] ≤ i + suc (length bs)
    go on none = omega arith
    go on (some due') = omega (arith, on due')

-- the test says yes exactly where no byte is bad
pub none_bad : (bs : List ℕ) → utf8 bs ≡ eqb (bad_byte bs) (length bs)
unfolding utf8 bad_byte
none_bad bs = seek_whole 0 0 [] bs tt ∙ ap (eqb (seek 0 0 [] bs)) (omega arith)

pub bad_most : (bs : List ℕ) → bad_byte bs ≤ length bs
unfolding bad_byte
bad_most bs = omega (arith, seek_within 0 0 [] bs tt)

-- elsewhere the place is that of a byte of the text
pub bad_within : (bs : List ℕ) → utf8 bs ≡ false → bad_byte bs < length bs
bad_within bs e = omega (arith, bad_most bs, eqb-false (bad_byte bs) (length bs) (sym (none_bad bs) ∙ e))

-- THE TABLE: the place in every text of two bytes, in the words of the requests

abbrev between : ℕ → ℕ → ℕ → Bool
between lo hi b = leb lo b && leb b hi

-- "after E0 the next byte is A0..BF, after ED 80..9F, after F0 90..BF, after F4 80..8F"; else "a follower is 80..BF"
abbrev follows : ℕ → ℕ → Bool
follows b c =
    cond (eqb b 0xE0) (between 0xA0 0xBF c)
    (cond (eqb b 0xED) (between 0x80 0x9F c)
    (cond (eqb b 0xF0) (between 0x90 0xBF c)
    (cond (eqb b 0xF4) (between 0x80 0x8F c) (between 0x80 0xBF c))))

-- 2 where both are whole characters; 0 where the first begins none, or one that is cut short; else the second
abbrev two : ℕ → ℕ → ℕ
two b c =
    cond (leb b 0x7F) (cond (leb c 0x7F) 2 1)
    (cond (between 0xC2 0xF4 b) (cond (follows b c) (cond (leb b 0xDF) 2 0) 1) 0)

abbrev seconds : ℕ → ℕ → Bool
seconds b zero = true
seconds b (suc c) = eqb (seek 0 0 [] (b ∷ c ∷ [])) (two b c) && seconds b c

abbrev firsts : ℕ → Bool
firsts zero = true
firsts (suc b) = seconds b 256 && firsts b

-- one computed test over all first bytes and all second bytes
pub table_right : T (firsts 256)
table_right = tt
