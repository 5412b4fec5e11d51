-- What holds of settings text: what is added reads back and the editions before it stay; lines rise from 2 without gaps, their values in range;
-- edition 1 is today's values; a later edition has its own fuel. Assumes nothing.
use Prim.Native.Nat.{ℕ, zero, suc, ◌+◌, ◌^◌, ◌≤◌, ◌<◌}
use mathlib.Core.Path.{◌≡◌, refl, sym, ap, subst, ◌∙◌}
use mathlib.Core.List.{List, [], ◌∷◌, ◌++◌}
use mathlib.Core.Bool.{Bool, true, false, cond, ◌&&◌}
use Rattle.std.specs.Prelude.{Option, Some, None}
use native.Mathlib.Omega.{arith}
use borrow.Author.Tests.{eq-eqb, eqb-true, lt-ltb, leb-true}
use lib.Dec.{eqb, leb, ltb}
use lib.ListN.{length}
use Rattle.listing.specs.Numbers.{number}
use Rattle.listing.specs.Lines.{onto, parted}
use Rattle.settings.specs.Settings.{in_range, ranged, edition_of, line_of, in_turn, Settings, bad, editions, from, lines_of, settings_of, today, Reply, named, numbered, choice_in, choice, written}
use Rattle.settings.specs.declared.lines.Values.{Values}
use Rattle.settings.proofs.Scanning.{before}
use Rattle.listing.proofs.Marks.{both}
use Rattle.settings.proofs.Written.{glue, onto_none, parted_append, one_line, body_reads}

-- lines that read, taken apart
record Taken (o : Option Values) (s : Settings) (vs : List Values) : Type 0 where
  first : Values
  others : List Values
  read : o ≡ Some first
  rest : s ≡ editions others
  all : vs ≡ first ∷ others

taken : (n : ℕ) (o : Option Values) (s : Settings) (vs : List Values) → from n o s ≡ editions vs → Taken o s vs
taken n None s vs e = absurd (let z : ◌≡◌ {A = ℕ} 0 1 = cc in omega arith)
taken n (Some v) (bad m) vs e = absurd (let z : ◌≡◌ {A = ℕ} 0 1 = cc in omega arith)
taken n (Some v) (editions ws) vs e = record { first = v; others = ws; read = refl; rest = refl; all = cc }

in_turn_lem : (e : ℕ) (o : Option (ℕ × Values)) (v : Values) → in_turn e o ≡ Some v → o ≡ Some (e, v)
in_turn_lem e None v h = absurd (let z : ◌≡◌ {A = ℕ} 0 1 = cc in omega arith)
in_turn_lem e (Some (n, w)) v h = go (eqb n e) refl h
  where
    go : (t : Bool) → eqb n e ≡ t → cond t (Some w) None ≡ Some v → ◌≡◌ {A = Option (ℕ × Values)} (Some (n, w)) (Some (e, v))
    go true i h = let j : n ≡ e = eqb-true n e i in cc
    go false i h = absurd (let z : ◌≡◌ {A = ℕ} 0 1 = cc in omega arith)

-- LINES RISE FROM 2 WITHOUT GAPS

-- each line, from line n on, has edition n + 1 and its values; nothing stands behind the last line feed
abbrev pub Rising : ℕ → List (List ℕ) → List Values → Type 0
Rising n [] [] = Unit
Rising n [] (v ∷ vs) = ⊥
Rising n (l ∷ ls) [] = l ∷ ls ≡ [] ∷ []
Rising n (l ∷ ls) (v ∷ vs) = (line_of (parted 9 l) ≡ Some (suc n, v)) × Rising (suc n) ls vs

rising : (n : ℕ) (ls : List (List ℕ)) (vs : List Values) → lines_of n ls ≡ editions vs → Rising n ls vs
rising n [] [] e = tt
rising n [] (v ∷ vs) e = let z : ◌≡◌ {A = ℕ} 0 1 = cc in absurd (omega arith)
rising n ([] ∷ []) [] e = refl
rising n ([] ∷ []) (v ∷ vs) e = let z : ◌≡◌ {A = ℕ} 0 1 = cc in absurd (omega arith)
rising n ((b ∷ l) ∷ []) vs e = let z : ◌≡◌ {A = ℕ} 0 1 = cc in absurd (omega arith)
rising n (l ∷ k ∷ ls) vs e =
    let t = taken n (in_turn (suc n) (line_of (parted 9 l))) (lines_of (suc n) (k ∷ ls)) vs e in
    subst (λ (vs : List Values). Rising n (l ∷ k ∷ ls) vs) (sym t.all)
    (in_turn_lem (suc n) (line_of (parted 9 l)) t.first t.read, rising (suc n) (k ∷ ls) t.others t.rest)

-- text that reads has an edition a line, from 2 on without gaps
pub editions_rise : (text : List ℕ) (vs : List Values) → settings_of text ≡ editions vs → Rising 1 (parted 10 text) vs
unfolding settings_of
editions_rise text vs e = rising 1 (parted 10 text) vs e

-- EVERY LINE'S VALUES ARE IN RANGE

abbrev pub Every : List Values → Type 0
Every [] = Unit
Every (v ∷ vs) = (in_range v ≡ true) × Every vs

abbrev values_of : Values → Option (ℕ × Values) → Values
values_of w None = w
values_of w (Some l) = l.1

ranged_in : (n : ℕ) (w : Values) (e : ℕ) (v : Values) → ranged n w ≡ Some (e, v) → in_range v ≡ true
ranged_in n w e v h = go (in_range w) refl h
  where
    go : (t : Bool) → in_range w ≡ t → cond {A = Option (ℕ × Values)} t (Some (n, w)) None ≡ Some (e, v) → in_range v ≡ true
    go true i h = ap in_range (sym (ap (values_of w) h)) ∙ i
    go false i h = absurd (let z : ◌≡◌ {A = ℕ} 0 1 = cc in omega arith)

edition_in : (a b c d p : Option ℕ) (e : ℕ) (v : Values) → edition_of a b c d p ≡ Some (e, v) → in_range v ≡ true
edition_in None b c d p e v h = absurd (let z : ◌≡◌ {A = ℕ} 0 1 = cc in omega arith)
edition_in (Some w) None c d p e v h = absurd (let z : ◌≡◌ {A = ℕ} 0 1 = cc in omega arith)
edition_in (Some w) (Some x) None d p e v h = absurd (let z : ◌≡◌ {A = ℕ} 0 1 = cc in omega arith)
edition_in (Some w) (Some x) (Some y) None p e v h = absurd (let z : ◌≡◌ {A = ℕ} 0 1 = cc in omega arith)
edition_in (Some w) (Some x) (Some y) (Some z) None e v h = absurd (let z : ◌≡◌ {A = ℕ} 0 1 = cc in omega arith)
edition_in (Some w) (Some x) (Some y) (Some z) (Some p) e v h = ranged_in w (record { fuel = x; depth = y; quote = z; entrypoint = p }) e v h

line_in : (fs : List (List ℕ)) (e : ℕ) (v : Values) → line_of fs ≡ Some (e, v) → in_range v ≡ true
line_in [] e v h = absurd (let z : ◌≡◌ {A = ℕ} 0 1 = cc in omega arith)
line_in (a ∷ []) e v h = absurd (let z : ◌≡◌ {A = ℕ} 0 1 = cc in omega arith)
line_in (a ∷ b ∷ []) e v h = absurd (let z : ◌≡◌ {A = ℕ} 0 1 = cc in omega arith)
line_in (a ∷ b ∷ c ∷ []) e v h = absurd (let z : ◌≡◌ {A = ℕ} 0 1 = cc in omega arith)
line_in (a ∷ b ∷ c ∷ d ∷ []) e v h = edition_in (number a) (number b) (number c) (number d) (Some 1) e v h
line_in (a ∷ b ∷ c ∷ d ∷ p ∷ []) e v h = edition_in (number a) (number b) (number c) (number d) (number p) e v h
line_in (a ∷ b ∷ c ∷ d ∷ p ∷ f ∷ fs) e v h = absurd (let z : ◌≡◌ {A = ℕ} 0 1 = cc in omega arith)

every : (n : ℕ) (ls : List (List ℕ)) (vs : List Values) → Rising n ls vs → Every vs
every n ls [] r = tt
every n [] (v ∷ vs) r = absurd r
every n (l ∷ ls) (v ∷ vs) r = (line_in (parted 9 l) (suc n) v r.0, every (suc n) ls vs r.1)

pub in_ranges : (text : List ℕ) (vs : List Values) → settings_of text ≡ editions vs → Every vs
in_ranges text vs e = every 1 (parted 10 text) vs (editions_rise text vs e)

-- WHAT IS ADDED READS BACK

glued : (P : List (List ℕ) → Type 0) → ((p : List ℕ) (ps : List (List ℕ)) → P (p ∷ ps)) → (r : List ℕ) (ps qs : List (List ℕ)) → P (glue (r ∷ ps) qs)
glued P h r [] [] = h r []
glued P h r [] (q ∷ qs) = h (r ++ q) qs
glued P h r (p ∷ ps) qs = h r (glue (p ∷ ps) qs)

from_before : (n : ℕ) (v : Values) (ws : List Values) (s : Settings) → from n (Some v) (before ws s) ≡ before (v ∷ ws) s
from_before n v ws (bad m) = refl
from_before n v ws (editions us) = refl

before_none : (s : Settings) → before [] s ≡ s
before_none (bad n) = refl
before_none (editions ws) = refl

-- behind lines that read stand others
lines_glue : (n : ℕ) (ls : List (List ℕ)) (vs : List Values) (qs : List (List ℕ)) → onto [] qs ≡ qs → lines_of n ls ≡ editions vs
    → lines_of n (glue ls qs) ≡ before vs (lines_of (n + length vs) qs)
lines_glue n [] [] qs o e = sym (before_none (lines_of n qs)) ∙ ap (λ (i : ℕ). before [] (lines_of i qs)) (omega arith)
lines_glue n [] (v ∷ vs) qs o e = let z : ◌≡◌ {A = ℕ} 0 1 = cc in absurd (omega arith)
lines_glue n ([] ∷ []) [] qs o e = ap (lines_of n) o ∙ sym (before_none (lines_of n qs)) ∙ ap (λ (i : ℕ). before [] (lines_of i qs)) (omega arith)
lines_glue n ([] ∷ []) (v ∷ vs) qs o e = let z : ◌≡◌ {A = ℕ} 0 1 = cc in absurd (omega arith)
lines_glue n ((b ∷ l) ∷ []) vs qs o e = let z : ◌≡◌ {A = ℕ} 0 1 = cc in absurd (omega arith)
lines_glue n (l ∷ k ∷ ls) vs qs o e =
    let t = taken n (in_turn (suc n) (line_of (parted 9 l))) (lines_of (suc n) (k ∷ ls)) vs e in
    glued (λ (ps : List (List ℕ)). lines_of n (l ∷ ps) ≡ from n (in_turn (suc n) (line_of (parted 9 l))) (lines_of (suc n) ps)) (λ p ps. refl) k ls qs
    ∙ ap (λ (i : Option Values). from n i (lines_of (suc n) (glue (k ∷ ls) qs))) t.read
    ∙ ap (from n (Some t.first)) (lines_glue (suc n) (k ∷ ls) t.others qs o t.rest)
    ∙ from_before n t.first t.others (lines_of (suc n + length t.others) qs)
    ∙ ap (λ (i : ℕ). before (t.first ∷ t.others) (lines_of i qs)) (omega arith)
    ∙ ap (λ (us : List Values). before us (lines_of (n + length us) qs)) (sym t.all)

module _ (text : List ℕ) (vs : List Values) (reads : settings_of text ≡ editions vs) (v : Values) (small : suc (suc (length vs)) < 2 ^ 32) (r : in_range v ≡ true) where
  -- the new text has all editions that the old has, and the new one as the last
  pub added_reads : settings_of (text ++ written (suc (suc (length vs))) v) ≡ editions (vs ++ (v ∷ []))
  unfolding settings_of
  added_reads =
      let n = suc (length vs) in
      ap (lines_of 1) (parted_append 10 text (written (suc n) v))
      ∙ lines_glue 1 (parted 10 text) vs (parted 10 (written (suc n) v)) (onto_none 10 (written (suc n) v)) reads
      ∙ ap (λ (i : ℕ). before vs (lines_of i (parted 10 (written (suc n) v)))) (omega arith)
      ∙ ap (λ (ls : List (List ℕ)). before vs (lines_of n ls)) (one_line (suc n) v)
      ∙ ap (λ (o : Option (ℕ × Values)). before vs (from n (in_turn (suc n) o) (editions []))) (body_reads (suc n) v small r)
      ∙ ap (λ (t : Bool). before vs (from n (cond t (Some v) None) (editions []))) (eq-eqb (suc n) (suc n) refl)

  numbered_same : (e : ℕ) (l : List Values) → e ≤ length l → numbered e (l ++ (v ∷ [])) ≡ numbered e l
  numbered_same zero l h = refl
  numbered_same (suc e) [] h = absurd (omega arith)
  numbered_same (suc zero) (w ∷ l) h = refl
  numbered_same (suc (suc e)) (w ∷ l) h = numbered_same (suc e) l (omega arith)

  numbered_last : (l : List Values) → numbered (suc (length l)) (l ++ (v ∷ [])) ≡ named v
  numbered_last [] = refl
  numbered_last (w ∷ l) = numbered_last l

  pub old_same : (e fuel : ℕ) → e ≤ suc (length vs) → choice (text ++ written (suc (suc (length vs))) v) e fuel ≡ choice text e fuel
  unfolding choice
  old_same e fuel h =
      ap (λ (s : Settings). choice_in s e fuel) added_reads
      ∙ numbered_same e (today fuel ∷ vs) h
      ∙ sym (ap (λ (s : Settings). choice_in s e fuel) reads)

  pub new_last : (fuel : ℕ) → choice (text ++ written (suc (suc (length vs))) v) (suc (suc (length vs))) fuel ≡ named v
  unfolding choice
  new_last fuel = ap (λ (s : Settings). choice_in s (suc (suc (length vs))) fuel) added_reads ∙ numbered_last (today fuel ∷ vs)

-- EDITION 1, AND FUEL

pub first_edition : (text : List ℕ) (vs : List Values) (fuel : ℕ) → settings_of text ≡ editions vs → choice text 1 fuel ≡ named (today fuel)
unfolding choice
first_edition text vs fuel e = ap (λ (s : Settings). choice_in s 1 fuel) e

-- "a later one starts with its own fuel"
pub own_fuel : (text : List ℕ) (k f g : ℕ) → choice text (suc (suc k)) f ≡ choice text (suc (suc k)) g
unfolding choice
own_fuel text k f g = go (settings_of text)
  where
    go : (s : Settings) → choice_in s (suc (suc k)) f ≡ choice_in s (suc (suc k)) g
    go (bad n) = refl
    go (editions vs) = refl

-- WHAT A READING IS GIVEN IS IN RANGE

today_in : (fuel : ℕ) → fuel < 2 ^ 32 → in_range (today fuel) ≡ true
today_in fuel h = rw (lt-ltb fuel (2 ^ 32) h) refl

numbered_in : (e : ℕ) (l : List Values) (v : Values) → Every l → numbered e l ≡ named v → in_range v ≡ true
numbered_in zero l v h k = absurd (let z : ◌≡◌ {A = ℕ} 18 0 = ap (λ (r : Reply). r.number) k in omega arith)
numbered_in (suc n) [] v h k = absurd (let z : ◌≡◌ {A = ℕ} 18 0 = ap (λ (r : Reply). r.number) k in omega arith)
numbered_in (suc zero) (w ∷ l) v h k = ap in_range (sym (ap (λ (r : Reply). r.values) k)) ∙ h.0
numbered_in (suc (suc n)) (w ∷ l) v h k = numbered_in (suc n) l v h.1 k

pub chosen_in : (text : List ℕ) (e fuel : ℕ) (v : Values) → fuel < 2 ^ 32 → choice text e fuel ≡ named v → in_range v ≡ true
unfolding choice
chosen_in text e fuel v h k = go (settings_of text) refl k
  where
    go : (s : Settings) → settings_of text ≡ s → choice_in s e fuel ≡ named v → in_range v ≡ true
    go (bad n) i k = absurd (let z : ◌≡◌ {A = ℕ} 19 0 = ap (λ (r : Reply). r.number) k in omega arith)
    go (editions vs) i k = numbered_in e (today fuel ∷ vs) v (today_in fuel h, in_ranges text vs i) k

-- so the limits fit the reader's
pub chosen_fits : (text : List ℕ) (e fuel : ℕ) (v : Values) → fuel < 2 ^ 32 → choice text e fuel ≡ named v → (v.depth ≤ 1024) × (v.quote ≤ 255)
chosen_fits text e fuel v h k =
    let o = both (ltb v.fuel (2 ^ 32) && leb 1 v.depth && leb v.depth 1024 && leb v.quote 255) (leb v.entrypoint 1) (chosen_in text e fuel v h k) in
    let a = both (ltb v.fuel (2 ^ 32) && leb 1 v.depth && leb v.depth 1024) (leb v.quote 255) o.0 in
    let b = both (ltb v.fuel (2 ^ 32) && leb 1 v.depth) (leb v.depth 1024) a.0 in
    (leb-true v.depth 1024 b.1, leb-true v.quote 255 a.1)
