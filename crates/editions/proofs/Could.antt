-- A listing that the program could have written, in either edition, converts; on the way down it becomes what the program writes in edition 1. Assumes nothing.
use Prim.Native.Nat.{ℕ, zero, suc, ◌+◌, ◌-◌, ◌/◌, ◌%◌, ◌≤◌, ◌<◌}
use mathlib.Core.Path.{◌≡◌, refl, sym, ap, ap₂, subst, ◌∙◌}
use mathlib.Core.Logic.{⊎_elim}
use mathlib.Core.List.{List, [], ◌∷◌, ◌++◌, map, append_assoc, append-nil}
use mathlib.Core.Bool.{Bool, true, false, cond, not, ◌&&◌, ◌||◌}
use native.Mathlib.Omega.{arith}
use borrow.Author.Tests.{ne_eqb, eqb-true, lt-ltb, ltb-true, le-leb, lt-leb}
use lib.Dec.{eqb, leb, ltb}
use lib.ListN.{length, get_or, get_or-append}
use Rattle.kinds.specs.Spelling.{kind_text, name_text, spellings}
use Rattle.kinds.proofs.Tables.{all, all_sound}
use Rattle.kinds.proofs.Spelt.{kind_at, name_at}
use Rattle.shapes.specs.Sort as Sort
use Rattle.shapes.specs.Shapes.{HEAD, FORM, COUNT}
use Rattle.listing.specs.Numbers.{value, decimal}
use Rattle.listing.specs.Lines.{parted}
use Rattle.listing.specs.Listing.{led, joined, line_with, last_field, head_line, node_line, names_of, place_of, item_of, error_fields, error_line, records_from}
use Rattle.listing.specs.Listing.{event_line, event_lines}
use Rattle.listing.proofs.Digits.{reads, reads_back, decimal_one, decimal_more}
use Rattle.listing.proofs.Either.{either}
use Rattle.listing.proofs.Marks.{Free, free_one, free_append, both, free_decimal, AllFree, decimals_free, free_led, fields_of}
use Rattle.listing.proofs.Written.{led_append}
use Rattle.editions.specs.Words.{equal, unpadded, plain, kind_among, name_number}
use Rattle.editions.specs.Fields.{plains, has, fresh, named, place, placed, form_of, error}
use Rattle.editions.specs.Sorts.{RESULT, ALONE, lettered, sort_of}
use Rattle.editions.specs.Editions.{allowed, opened, field, right, ends, stray, becomes, step_at, from, to, head_text, lines, made_of, ended}
use Rattle.editions.specs.Program.{Small, Distinct, Recorded, Event, begin, token, close, fault, Counted, Events, Could, was_read, was_refused, was_unread}
use Rattle.editions.proofs.Texts.{is_some}
use Rattle.editions.proofs.Steps.{result_ends, alone_ends}
use Rattle.editions.proofs.Back.{Goes, last, more, field_decides, own_right, event_up, end_stays, head_free, head_step_lem, remade, Buts, down_and_back}

-- WORDS

-- no byte is a mark: neither a tab, nor a line feed, nor a comma
abbrev bland : List ℕ → Bool
bland [] = true
bland (b ∷ bs) = (ltb 44 b || eqb b 32) && bland bs

bland_free : (m : ℕ) → m ≤ 44 → (m ≡ 32 → ⊥) → (t : List ℕ) → bland t ≡ true → Free m t
bland_free m h k [] e = refl
bland_free m h k (b ∷ bs) e =
    let d = both (ltb 44 b || eqb b 32) (bland bs) e in
    free_one m b bs (ne_eqb b m (λ i. go (ltb 44 b) refl d.0 i)) (bland_free m h k bs d.1)
  where
    go : (t : Bool) → ltb 44 b ≡ t → (t || eqb b 32) ≡ true → b ≡ m → ⊥
    go true j x i = omega (arith, ltb-true 44 b j)
    go false j x i = k (sym i ∙ eqb-true b 32 x)

all_bland : all (λ n. bland (get_or spellings n [])) 207 ≡ true
all_bland = refl

kind_bland : (k : ℕ) → k < 122 → bland (kind_text k) ≡ true
kind_bland k h = ap bland (sym (kind_at k h)) ∙ all_sound (λ n. bland (get_or spellings n [])) 207 all_bland k (omega arith)

name_bland : (n : ℕ) → n < 85 → bland (name_text n) ≡ true
name_bland n h = ap bland (sym (name_at n)) ∙ all_sound (λ n. bland (get_or spellings n [])) 207 all_bland (122 + n) (omega arith)

own_nodes : all (λ k. kind_among 87 122 (kind_text (87 + k))) 35 ≡ true
unfolding kind_among kind_text
own_nodes = refl

own_rows : all (λ k. kind_among 0 87 (kind_text k)) 87 ≡ true
unfolding kind_among kind_text
own_rows = refl

own_names : all (λ n. eqb (name_number (name_text n)) n) 85 ≡ true
unfolding name_number name_text
own_names = refl

node_kind : (k : ℕ) → 87 ≤ k → k < 122 → kind_among 87 122 (kind_text k) ≡ true
node_kind k h i =
    let e : k ≡ 87 + (k - 87) = omega arith in
    ap (λ (n : ℕ). kind_among 87 122 (kind_text n)) e
    ∙ all_sound (λ k. kind_among 87 122 (kind_text (87 + k))) 35 own_nodes (k - 87) (omega arith)

row_kind : (k : ℕ) → k < 87 → kind_among 0 87 (kind_text k) ≡ true
row_kind k h = all_sound (λ k. kind_among 0 87 (kind_text k)) 87 own_rows k h

own_name : (n : ℕ) → n < 85 → name_number (name_text n) ≡ n
own_name n h = eqb-true (name_number (name_text n)) n (all_sound (λ n. eqb (name_number (name_text n)) n) 85 own_names n h)

-- the first digit of a number from 1 on is not 0
lead : (k n : ℕ) → n < k → 1 ≤ n → get_or (decimal n) 0 0 ≡ 48 → ⊥
lead zero n h p e = omega arith
lead (suc k) n h p e = ⊎_elim one (λ l. many l (lead k (n / 10))) (either n 10)
  where
    one : n < 10 → ⊥
    one l = omega (arith, e, ap (λ (t : List ℕ). get_or t 0 0) (decimal_one n l))

    many : 10 ≤ n → (n / 10 < k → 1 ≤ n / 10 → get_or (decimal (n / 10)) 0 0 ≡ 48 → ⊥) → ⊥
    many l f =
        f (omega arith) (omega arith)
        (sym (get_or-append (decimal (n / 10)) ((48 + n % 10) ∷ []) 0 0 (reads (n / 10)).some_digit)
        ∙ ap (λ (t : List ℕ). get_or t 0 0) (decimal_more n l)
        ∙ e)

unpadded_decimal : (n : ℕ) → unpadded (decimal n) ≡ true
unpadded_decimal n = ⊎_elim one many (either n 10)
  where
    one : n < 10 → unpadded (decimal n) ≡ true
    one l = ap unpadded (sym (decimal_one n l))

    led_by : (t : List ℕ) → (get_or t 0 0 ≡ 48 → ⊥) → unpadded t ≡ true
    led_by [] h = refl
    led_by (b ∷ []) h = refl
    led_by (b ∷ c ∷ t) h = ap not (ne_eqb b 48 h)

    many : 10 ≤ n → unpadded (decimal n) ≡ true
    many l = led_by (decimal n) (lead (suc n) n (omega arith) (omega arith))

plain_decimal : (n : ℕ) → Small n → plain (decimal n) ≡ true
unfolding plain
plain_decimal n h = ap₂ (λ (a b : Bool). a && b) (is_some (decimal n) (reads_back n h)).0 (unpadded_decimal n)

-- FIELDS

-- what a line has before the field that edition 2 adds, and without its line feed: none inside, and this sort
record Body (body : List ℕ) (sort : ℕ) : Type 0 where
  free : Free 10 body
  sorts : sort_of (parted 9 body) ≡ sort

-- an event's line in each edition, with the number that edition 2 adds
record Line (w : ℕ → List ℕ) (sort n : ℕ) : Type 0 where
  text : List ℕ
  body : Body text sort
  is : (edition : ℕ) → w edition ≡ (text ++ led 9 (last_field edition n)) ++ (10 ∷ [])

a_body : (c : ℕ) (fs : List (List ℕ)) (s : ℕ) → eqb c 9 ≡ false → eqb c 10 ≡ false → AllFree 9 fs → AllFree 10 fs → lettered c fs ≡ s → Body (c ∷ led 9 fs) s
unfolding sort_of
a_body c fs s e f g h i =
    record {
      free = free_one 10 c (led 9 fs) f (free_led 10 9 refl fs h);
      sorts = ap sort_of (fields_of 9 (c ∷ []) fs (free_one 9 c [] e refl) g) ∙ i;
    }

a_line : (c : ℕ) (fs : List (List ℕ)) (s n : ℕ) → Body (c ∷ led 9 fs) s → Line (λ (edition : ℕ). line_with c (fs ++ last_field edition n)) s n
a_line c fs s n b =
    record {
      text = c ∷ led 9 fs;
      body = b;
      is = λ edition. ap (λ (t : List ℕ). c ∷ (t ++ (10 ∷ []))) (led_append 9 fs (last_field edition n));
    }

plains_two : (a b : ℕ) → Small a → Small b → plains 2 (decimal a ∷ decimal b ∷ []) ≡ true
plains_two a b h k = ap₂ (λ (x y : Bool). x && (y && true)) (plain_decimal a h) (plain_decimal b k)

-- the letter and the sort of a node's lines
node_line_lem : (c k s e sort depth : ℕ) → eqb c 9 ≡ false → eqb c 10 ≡ false → k < 122
    → lettered c (kind_text k ∷ decimal s ∷ decimal e ∷ []) ≡ sort → Line (λ (edition : ℕ). node_line edition c k s e depth) sort depth
node_line_lem c k s e sort depth x y h i =
    a_line c (kind_text k ∷ decimal s ∷ decimal e ∷ []) sort depth
    (a_body c (kind_text k ∷ decimal s ∷ decimal e ∷ []) sort x y
    (bland_free 9 (omega arith) (λ j. omega arith) (kind_text k) (kind_bland k h), decimals_free 9 (omega arith) (s ∷ e ∷ []))
    (bland_free 10 (omega arith) (λ j. omega arith) (kind_text k) (kind_bland k h), decimals_free 10 (omega arith) (s ∷ e ∷ []))
    i)

result : (a b c : ℕ) → Small a → Small b → Small c → Body (82 ∷ led 9 (map decimal (a ∷ b ∷ c ∷ []))) RESULT
unfolding lettered
result a b c h i j =
    a_body 82 (map decimal (a ∷ b ∷ c ∷ [])) RESULT refl refl (decimals_free 9 (omega arith) (a ∷ b ∷ c ∷ [])) (decimals_free 10 (omega arith) (a ∷ b ∷ c ∷ []))
    (ap (λ (t : Bool). cond t RESULT 0)
    (ap₂ (λ (x y : Bool). x && y) (plain_decimal a h) (plains_two b c i j)))

alone : (c n : ℕ) → eqb c 9 ≡ false → eqb c 10 ≡ false → lettered c (decimal n ∷ []) ≡ ALONE → Body (c ∷ led 9 (decimal n ∷ [])) ALONE
alone c n x y i = a_body c (decimal n ∷ []) ALONE x y (decimals_free 9 (omega arith) (n ∷ [])) (decimals_free 10 (omega arith) (n ∷ [])) i

refusal_sort : (n : ℕ) → Small n → lettered 70 (decimal n ∷ []) ≡ ALONE
unfolding lettered
refusal_sort n h = ap (λ (t : Bool). cond (t && true) ALONE 0) (plain_decimal n h)

unread_sort : (n : ℕ) → Small n → lettered 78 (decimal n ∷ []) ≡ ALONE
unfolding lettered
unread_sort n h = ap (λ (t : Bool). cond (t && true) ALONE 0) (plain_decimal n h)

-- AN ERROR'S LINE

fresh_names : (seen ns : List ℕ) → Distinct seen ns → fresh seen (map name_text ns) ≡ true
fresh_names seen [] d = refl
fresh_names seen (n ∷ ns) (h, f, d) =
    ap (λ (k : ℕ). ltb k 85 && not (has k seen) && fresh (k ∷ seen) (map name_text ns)) (own_name n h)
    ∙ ap₂ (λ (x y : Bool). x && not y && fresh (n ∷ seen) (map name_text ns)) (lt-ltb n 85 h) f
    ∙ fresh_names (n ∷ seen) ns d

names_free : (m : ℕ) → m ≤ 44 → (m ≡ 32 → ⊥) → (seen ns : List ℕ) → Distinct seen ns → AllFree m (map name_text ns)
names_free m h k seen [] d = tt
names_free m h k seen (n ∷ ns) (i, f, d) = (bland_free m h k (name_text n) (name_bland n i), names_free m h k (n ∷ seen) ns d)

joined_free : (m : ℕ) → eqb 45 m ≡ false → eqb 44 m ≡ false → (ts : List (List ℕ)) → AllFree m ts → Free m (joined ts)
joined_free m x y [] f = free_one m 45 [] x refl
joined_free m x y (t ∷ ts) f = free_append m t (led 44 ts) f.0 (free_led m 44 y ts f.1)

-- the names of a record as its form has them
names_told : (form : ℕ) (ns : List ℕ) → (form ≤ 3 → 0 < length ns) → (form ≤ 3 → Distinct [] ns) → (3 < form → ns ≡ []) → named form (joined (map name_text ns)) ≡ true
names_told form ns s d z = ⊎_elim many few (either 3 form)
  where
    many : 3 < form → named form (joined (map name_text ns)) ≡ true
    many h =
        ap (λ (t : Bool). cond t (fresh [] (parted 44 (joined (map name_text ns)))) (equal (joined (map name_text ns)) (45 ∷ []))) (lt-leb form 3 h)
        ∙ ap (λ (l : List ℕ). equal (joined (map name_text l)) (45 ∷ [])) (z h)

    go : (l : List ℕ) → 0 < length l → Distinct [] l → fresh [] (parted 44 (joined (map name_text l))) ≡ true
    go [] h i = absurd (omega arith)
    go (n ∷ l) h i =
        let f = names_free 44 (omega arith) (λ j. omega arith) [] (n ∷ l) i in
        ap (fresh []) (fields_of 44 (name_text n) (map name_text l) f.0 f.1)
        ∙ fresh_names [] (n ∷ l) i

    few : form ≤ 3 → named form (joined (map name_text ns)) ≡ true
    few h =
        ap (λ (t : Bool). cond t (fresh [] (parted 44 (joined (map name_text ns)))) (equal (joined (map name_text ns)) (45 ∷ []))) (le-leb form 3 h)
        ∙ go ns (s h) (d h)

form_back : (n : ℕ) → n ≤ 10 → form_of (decimal n) ≡ n
unfolding form_of
form_back n h =
    ap (λ (t : Bool). cond (t && leb (value (decimal n)) 10) (value (decimal n)) 0) (plain_decimal n (omega arith))
    ∙ ap (λ (k : ℕ). cond (leb k 10) k 0) (reads n).value_of
    ∙ ap (λ (t : Bool). cond t n 0) (le-leb n 10 h)

place_told : (form p : ℕ) → Small p → place form (cond (eqb form 9) (decimal p ∷ []) []) ≡ true
place_told form p h = go (eqb form 9) refl
  where
    go : (t : Bool) → eqb form 9 ≡ t → place form (cond t (decimal p ∷ []) []) ≡ true
    go true e = ap₂ (λ (x y : Bool). x && (y && true)) e (plain_decimal p h)
    go false e = refl

module _ (l : List ℕ) (r : Recorded l) where
  record_names_free : (m : ℕ) → m ≤ 44 → (m ≡ 32 → ⊥) → AllFree m (map name_text (names_of l))
  record_names_free m h k =
      ⊎_elim
      (λ i. subst (λ (ns : List ℕ). AllFree m (map name_text ns)) (sym (r.no_names i)) tt)
      (λ i. names_free m h k [] (names_of l) (r.distinct i))
      (either 3 (get_or l FORM 0))

  fields_free : (m : ℕ) → m < 44 → (m ≡ 32 → ⊥) → AllFree m (error_fields l)
  unfolding place_of
  fields_free m h k = (
    free_decimal m (omega arith) (get_or l FORM 0),
    (
      free_decimal m (omega arith) (get_or l 0 0),
      (
        free_decimal m (omega arith) (get_or l 1 0),
        (
          joined_free m (ne_eqb 45 m (λ i. omega arith)) (ne_eqb 44 m (λ i. omega arith)) (map name_text (names_of l)) (record_names_free m (omega arith) k),
          go (eqb (get_or l FORM 0) 9),
        ),
      ),
    ),
  )
    where
      go : (t : Bool) → AllFree m (cond t (decimal (get_or l (HEAD + get_or l COUNT 0) 0) ∷ []) [])
      go true = (free_decimal m (omega arith) (get_or l (HEAD + get_or l COUNT 0) 0), tt)
      go false = tt

  error_reads : error (error_fields l) ≡ true
  unfolding place_of
  error_reads =
      ap (λ (n : ℕ). not (eqb n 0) && plain (decimal (get_or l 0 0)) && plain (decimal (get_or l 1 0)) && placed n (joined (map name_text (names_of l)) ∷ place_of l)) (form_back (get_or l FORM 0) r.form_most)
      ∙ ap₂ (λ (x y : Bool). not x && y && plain (decimal (get_or l 1 0)) && placed (get_or l FORM 0) (joined (map name_text (names_of l)) ∷ place_of l)) (ne_eqb (get_or l FORM 0) 0 (λ i. omega (arith, r.form_least))) (plain_decimal (get_or l 0 0) r.start)
      ∙ ap₂ (λ (x y : Bool). x && (y && place (get_or l FORM 0) (place_of l))) (plain_decimal (get_or l 1 0) r.end) (names_told (get_or l FORM 0) (names_of l) r.some_names r.distinct r.no_names)
      ∙ place_told (get_or l FORM 0) (get_or l (HEAD + get_or l COUNT 0) 0) r.place

  error_line_lem : Line (λ (edition : ℕ). error_line edition l) Sort.ERROR (item_of l)
  unfolding error_line lettered
  error_line_lem =
      a_line 88 (error_fields l) Sort.ERROR (item_of l)
      (a_body 88 (error_fields l) Sort.ERROR refl refl
      (fields_free 9 (omega arith) (λ i. omega arith)) (fields_free 10 (omega arith) (λ i. omega arith))
      (ap (λ (t : Bool). cond t Sort.ERROR 0) error_reads))

-- EVENTS, AND THE WHOLE

-- an event's line where d nodes are open: on the way down its field is the right one
record Shown (up : Bool) (d : ℕ) (w : ℕ → List ℕ) (sort : ℕ) : Type 0 where
  number : ℕ
  line : Line w sort number
  reads : up ≡ false → right sort d (decimal number) ≡ true

counted_right : (up : Bool) (s d depth : ℕ) → (s ≡ Sort.ERROR → ⊥) → Counted (from up) s d depth → up ≡ false → right s d (decimal depth) ≡ true
unfolding last_field
counted_right true s d depth h c e = absurd (let z : ◌≡◌ {A = ℕ} 0 1 = cc in omega arith)
counted_right false s d depth h c e =
    let same : decimal depth ≡ decimal (field s d) = ap (λ (fs : List (List ℕ)). get_or fs 0 []) (c h) in
    ap (right s d) same ∙ own_right s d

item_right : (d n : ℕ) → Small n → right Sort.ERROR d (decimal n) ≡ true
unfolding right
item_right d n h = plain_decimal n h

module _ (up : Bool) (d depth : ℕ) where
  event_line_lem : {errors : List ℕ} {a b c e : ℕ} → Event errors a b c e → Counted (from up) a d depth → Shown up d (λ (edition : ℕ). event_line edition errors a b c e depth) a
  unfolding event_line lettered
  event_line_lem (begin {k = k} {start = s} {end = e} h i j m) x =
      record {
        number = depth;
        line =
            node_line_lem 66 k s e Sort.BEGIN depth refl refl i
            (ap (λ (t : Bool). cond t Sort.BEGIN 0) (ap₂ (λ (x y : Bool). x && y) (plains_two s e j m) (node_kind k h i)));
        reads = counted_right up Sort.BEGIN d depth (λ q. omega arith) x;
      }
  event_line_lem (token {k = k} {start = s} {end = e} i j m) x =
      record {
        number = depth;
        line =
            node_line_lem 84 k s e Sort.TOKEN depth refl refl (omega arith)
            (ap (λ (t : Bool). cond t Sort.TOKEN 0) (ap₂ (λ (x y : Bool). x && y) (plains_two s e j m) (row_kind k i)));
        reads = counted_right up Sort.TOKEN d depth (λ q. omega arith) x;
      }
  event_line_lem (close {k = k} {start = s} {end = e} h i j m) x =
      record {
        number = depth;
        line =
            node_line_lem 69 k s e Sort.END depth refl refl i
            (ap (λ (t : Bool). cond t Sort.END 0) (ap₂ (λ (x y : Bool). x && y) (plains_two s e j m) (node_kind k h i)));
        reads = counted_right up Sort.END d depth (λ q. omega arith) x;
      }
  event_line_lem (fault {errors = errors} {i = i} r) x =
      record {
        number = item_of (records_from i errors);
        line = error_line_lem (records_from i errors) r;
        reads = λ q. item_right d (item_of (records_from i errors)) r.item;
      }

-- what an event's line becomes; on the way down it loses its field
record Stepped (up : Bool) (n d : ℕ) (text field : List ℕ) : Type 0 where
  line : List ℕ
  step : step_at up n d (text ++ field) ≡ becomes false (opened (sort_of (parted 9 text)) d) line
  down : up ≡ false → line ≡ text

stepped : (up : Bool) (n d : ℕ) (text : List ℕ) (f : ℕ) → (n ≡ 1 → ⊥) → allowed (sort_of (parted 9 text)) d ≡ true
    → (up ≡ false → right (sort_of (parted 9 text)) d (decimal f) ≡ true) → Stepped up n d text (led 9 (last_field (from up) f))
unfolding last_field
stepped true n d text f h e r =
    record {
      line = text ++ (9 ∷ decimal (field (sort_of (parted 9 text)) d));
      step = ap (step_at true n d) (append-nil text) ∙ event_up n d text h e;
      down = λ i. absurd (let z : ◌≡◌ {A = ℕ} 0 1 = cc in omega arith);
    }
stepped false n d text f h e r =
    record {
      line = text;
      step =
          ap (λ (t : List ℕ). step_at false n d (text ++ (9 ∷ t))) (append-nil (decimal f))
          ∙ field_decides n d text (decimal f) e (free_decimal 9 (omega arith) f) h
          ∙ ap (λ (t : Bool). cond t (becomes false (opened (sort_of (parted 9 text)) d) text) stray) (r refl);
      down = λ i. refl;
    }

-- text that is lines, which convert from line n on; on the way down they become the text of edition 1
record Runs (up : Bool) (n d : ℕ) (w : ℕ → List ℕ) : Type 0 where
  all : List (List ℕ)
  written : List (List ℕ)
  is : w (from up) ≡ ended all
  free : AllFree 10 all
  goes : Goes up n d all written
  down : up ≡ false → ended written ≡ w 1

-- the last line, and a line before others
runs_last : (up : Bool) (n d s : ℕ) (text : List ℕ) → (n ≡ 1 → ⊥) → Body text s → ends s n d ≡ true → Runs up n d (λ (edition : ℕ). text ++ (10 ∷ []))
runs_last up n d s text h b e =
    record {
      all = text ∷ [];
      written = text ∷ [];
      is = refl;
      free = (b.free, tt);
      goes = last (end_stays up n d text h (ap (λ (s : ℕ). ends s n d) b.sorts ∙ e));
      down = λ i. refl;
    }

field_free : (m edition n : ℕ) → m < 48 → eqb 9 m ≡ false → Free m (led 9 (last_field edition n))
unfolding last_field
field_free m edition n h e = go (ltb edition 2)
  where
    go : (t : Bool) → Free m (led 9 (cond t [] (decimal n ∷ [])))
    go true = refl
    go false = free_led m 9 e (decimal n ∷ []) (free_decimal m h n, tt)

no_last : (text : List ℕ) (n : ℕ) → text ++ led 9 (last_field 1 n) ≡ text
unfolding last_field
no_last text n = append-nil text

runs_more : (up : Bool) (n d s : ℕ) {w rest : ℕ → List ℕ} → (n ≡ 1 → ⊥) → Shown up d w s → allowed s d ≡ true → Runs up (suc n) (opened s d) rest
    → Runs up n d (λ (edition : ℕ). w edition ++ rest edition)
runs_more up n d s {w} {rest} h v e r =
    let l = v.line in
    let b = l.body in
    let t = stepped up n d l.text v.number h (ap (λ (s : ℕ). allowed s d) b.sorts ∙ e)
    (λ i. ap (λ (s : ℕ). right s d (decimal v.number)) b.sorts ∙ v.reads i) in
    record {
      all = (l.text ++ led 9 (last_field (from up) v.number)) ∷ r.all;
      written = t.line ∷ r.written;
      is =
          ap₂ (λ (x y : List ℕ). x ++ y) (l.is (from up)) r.is
          ∙ append_assoc (l.text ++ led 9 (last_field (from up) v.number)) (10 ∷ []) (ended r.all);
      free = (free_append 10 l.text (led 9 (last_field (from up) v.number)) b.free (field_free 10 (from up) v.number (omega arith) refl), r.free);
      goes = more t.step (subst (λ (s : ℕ). Goes up (suc n) (opened s d) r.all r.written) (sym b.sorts) r.goes);
      down =
          λ i.
          ap₂ (λ (x y : List ℕ). x ++ (10 ∷ y)) (t.down i ∙ sym (no_last l.text v.number)) (r.down i)
          ∙ sym (append_assoc (l.text ++ led 9 (last_field 1 v.number)) (10 ∷ []) (rest 1))
          ∙ ap (λ (x : List ℕ). x ++ rest 1) (sym (l.is 1));
    }

behind_events : {up : Bool} {n d : ℕ} (w x y : ℕ → List ℕ) → Runs up n d (λ (edition : ℕ). w edition ++ (x edition ++ y edition))
    → Runs up n d (λ (edition : ℕ). (w edition ++ x edition) ++ y edition)
behind_events {up} {n} {d} w x y r =
    record {
      all = r.all;
      written = r.written;
      is = append_assoc (w (from up)) (x (from up)) (y (from up)) ∙ r.is;
      free = r.free;
      goes = r.goes;
      down = λ i. r.down i ∙ sym (append_assoc (w 1) (x 1) (y 1));
    }

runs : (up : Bool) (errors : List ℕ) (m d : ℕ) (events : List ℕ) → Events (from up) errors d events → (text : List ℕ) → Body text RESULT
    → Runs up (suc (suc m)) d (λ (edition : ℕ). event_lines edition errors events ++ (text ++ (10 ∷ [])))
runs up errors m d [] e text l = runs_last up (suc (suc m)) d RESULT text (λ i. omega arith) l (sym (result_ends RESULT d (suc (suc m)) e refl))
runs up errors m d (a ∷ []) e text l = absurd e
runs up errors m d (a ∷ b ∷ []) e text l = absurd e
runs up errors m d (a ∷ b ∷ c ∷ []) e text l = absurd e
runs up errors m d (a ∷ b ∷ c ∷ f ∷ []) e text l = absurd e
runs up errors m d (a ∷ b ∷ c ∷ f ∷ depth ∷ events) (x, v, u, w) text l =
    behind_events (λ edition. event_line edition errors a b c f depth) (λ edition. event_lines edition errors events) (λ edition. text ++ (10 ∷ []))
    (runs_more up (suc (suc m)) d a (λ i. omega arith) (event_line_lem up d depth v u) x (runs up errors (suc m) (opened a d) events w text l))

pub record Converts (up : Bool) (w : ℕ → List ℕ) : Type 0 where
  pub written : List (List ℕ)
  pub is : made_of up (w (from up)) ≡ lines written
  -- on the way down it becomes what the program writes in edition 1
  pub down : up ≡ false → ended written ≡ w 1

-- behind the `L` line
head_ended : (edition : ℕ) (t : List ℕ) → head_line edition ++ t ≡ head_text edition ++ (10 ∷ t)
head_ended edition t =
    ap (λ (u : List ℕ). 76 ∷ (9 ∷ ((u ++ (10 ∷ [])) ++ t))) (append-nil (decimal edition))
    ∙ ap (λ (u : List ℕ). 76 ∷ (9 ∷ u)) (append_assoc (decimal edition) (10 ∷ []) t)

headed : (up : Bool) {w : ℕ → List ℕ} → Runs up 2 0 w → Converts up (λ (edition : ℕ). head_line edition ++ w edition)
headed up {w} r =
    record {
      written = head_text (to up) ∷ r.written;
      is =
          ap (λ (t : List ℕ). made_of up (head_line (from up) ++ t)) r.is
          ∙ ap (made_of up) (head_ended (from up) (ended r.all))
          ∙ remade up (head_text (from up) ∷ r.all) (head_text (to up) ∷ r.written) (head_free (from up), r.free) (more {k = 0} (head_step_lem up) r.goes);
      down = λ i. go up i (r.down i);
    }
  where
    go : (up : Bool) → up ≡ false → {t u : List ℕ} → t ≡ u → head_text (to up) ++ (10 ∷ t) ≡ head_line 1 ++ u
    go true i e = absurd (let z : ◌≡◌ {A = ℕ} 0 1 = cc in omega arith)
    go false i {t} {u} e = ap (λ (t : List ℕ). head_text 1 ++ (10 ∷ t)) e ∙ sym (head_ended 1 u)

stands : (up : Bool) (c n : ℕ) → eqb c 9 ≡ false → eqb c 10 ≡ false → lettered c (decimal n ∷ []) ≡ ALONE → Runs up 2 0 (λ (edition : ℕ). line_with c (map decimal (n ∷ [])))
stands up c n x y i = runs_last up 2 0 ALONE (c ∷ led 9 (decimal n ∷ [])) (λ i. omega arith) (alone c n x y i) (sym (alone_ends ALONE 0 2 refl (λ i. omega arith) refl))

pub could_convert : (up : Bool) {w : ℕ → List ℕ} → Could (from up) w → Converts up w
could_convert up (was_read events errors a b c e h i j) = headed up (runs up errors 0 0 events e (82 ∷ led 9 (map decimal (a ∷ b ∷ c ∷ []))) (result a b c h i j))
could_convert up (was_refused n h) = headed up (stands up 70 n refl refl (refusal_sort n h))
could_convert up (was_unread n h) = headed up (stands up 78 n refl refl (unread_sort n h))

-- "from 2 to 1 and back": down it is the program's own text of edition 1, and back the same bytes but for the items
pub record ProgramReturns (w : ℕ → List ℕ) : Type 0 where
  pub before : List (List ℕ)
  pub after : List (List ℕ)
  pub written : List (List ℕ)
  pub down : made_of false (w 2) ≡ lines written
  pub one : ended written ≡ w 1
  pub two : ended before ≡ w 2
  pub up : made_of true (w 1) ≡ lines after
  pub but : Buts before after

pub could_return : {w : ℕ → List ℕ} → Could 2 w → ProgramReturns w
could_return {w} h =
    let c = could_convert false h in
    let one : ended c.written ≡ w 1 = c.down refl in
    let r = down_and_back (w 2) c.written c.is in
    record {
      before = r.before;
      after = r.after;
      written = c.written;
      down = c.is;
      one = one;
      two = r.bytes;
      up = ap (made_of true) (sym one) ∙ r.converts;
      but = r.but;
    }
