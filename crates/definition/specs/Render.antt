-- A reading in document 01's numbers ("Rows, events, error records"): events, error records, the forms, and the rooms taken.
use Rattle.std.specs.Prelude.{ℕ, zero, suc, ◌-◌, ◌+◌, ◌*◌, true, false, eqb, ltb, length, get_or, take, drop, replicate}
use mathlib.Core.List.{List, [], ◌∷◌, ◌++◌, map, foldl}
use Rattle.kinds.specs.Kinds as k
use Rattle.utf8.specs.Utf8.{utf8, bad_byte}
use Rattle.shapes.specs.Sort as Sort
use Rattle.shapes.specs.Refusal as Refusal
use Rattle.shapes.specs.Outcome as Outcome
use Rattle.shapes.specs.Shapes.{EVENT, Entry, HEAD, Rec}
use Rattle.definition.specs.Run.{State, Draft, Limits, Event, opened, leaf, closed, bad, Choice, wanted, unwanted, stray, Mode, ok, failed, stopped, spent, deep, when_ok, item, start}

-- source bytes, and the rows' ids and ends; a row starts where the one before ends
pub record Source : Type 0 where
  pub bytes : List ℕ
  pub ids : List ℕ
  pub ends : List ℕ

-- where row n ends and where it begins, its id and its text. Rows are counted from the end, and 0 is "the source's end with an UNKNOWN id".
abbrev pub ends_at : Source → ℕ → ℕ
ends_at x n = get_or x.ends (length x.ids - n) (length x.bytes)

abbrev pub starts_at : Source → ℕ → ℕ
starts_at x n = get_or (0 ∷ x.ends) (length x.ids - n) (length x.bytes)

abbrev pub id_at : Source → ℕ → ℕ
id_at x n = get_or x.ids (length x.ids - n) k.UNKNOWN

abbrev pub text_at : Source → ℕ → List ℕ
text_at x n = take (ends_at x n - starts_at x n) (drop (starts_at x n) x.bytes)

-- "A node's span runs from its first row's start to its last row's end; with no row it is zero-length at the next row's start, or at the source's
-- end.": where it ends, from row n to before row m
abbrev pub span_end : Source → ℕ → ℕ → ℕ
span_end x n m = elim (eqb n m) [ true ↦ starts_at x n | false ↦ ends_at x (suc m) ]

-- FORMS, "tested in this order"

-- "then 3 end of file; 2 text over 15 bytes; 1 otherwise"
abbrev pub form_found : Limits → List ℕ → ℕ
form_found L [] = 3
form_found L (b ∷ bs) = elim (ltb L.quote (suc (length bs))) [ true ↦ 2 | false ↦ 1 ]

-- "Expected: if the id is UNKNOWN, 6 text starts with `/*`, 7 with `"`, 8 with `/`"
abbrev pub form_slash : List ℕ → ℕ
form_slash [] = 8
form_slash (b ∷ bs) = elim (eqb b 42) [ true ↦ 6 | false ↦ 8 ]

abbrev pub form_unknown : Limits → List ℕ → ℕ
form_unknown L [] = form_found L []
form_unknown L (b ∷ bs) =
    elim (eqb b 47) [ true ↦ form_slash bs | false ↦ elim (eqb b 34) [ true ↦ 7 | false ↦ form_found L (b ∷ bs) ] ]

abbrev pub form_wanted : Limits → ℕ → List ℕ → ℕ
form_wanted L i t = elim (eqb i k.UNKNOWN) [ true ↦ form_unknown L t | false ↦ form_found L t ]

-- "Unexpected: 5 empty, 4 otherwise."
abbrev pub form_unwanted : List ℕ → ℕ
form_unwanted [] = 5
form_unwanted (b ∷ bs) = 4

-- "9 text not UTF-8"; "Form 10 looks at no text."
abbrev pub form_of : Limits → ℕ → List ℕ → Choice → ℕ
form_of L i t (wanted ns) = elim (utf8 t) [ true ↦ form_wanted L i t | false ↦ 9 ]
form_of L i t unwanted = elim (utf8 t) [ true ↦ form_unwanted t | false ↦ 9 ]
form_of L i t stray = 10

-- forms 4 to 10 have no names
abbrev pub choice_names : ℕ → Choice → List ℕ
choice_names f (wanted ns) = elim (ltb f 4) [ true ↦ ns | false ↦ [] ]
choice_names f unwanted = []
choice_names f stray = []

-- request (vi): "Form 9 records carry that place in the source as one added number after their count of 0": of a text t that starts at a
abbrev pub place_of : ℕ → ℕ → List ℕ → List ℕ
place_of f a t = elim (eqb f 9) [ true ↦ (a + bad_byte t) ∷ [] | false ↦ [] ]

-- EVENTS AND RECORDS

-- the errors that stand written, the last first, and how many they are
abbrev pub faults : List Event → List (ℕ × Choice)
faults [] = []
faults (opened n ∷ es) = faults es
faults (leaf a n ∷ es) = faults es
faults (closed a n m ∷ es) = faults es
faults (bad n c ∷ es) = (n, c) ∷ faults es

abbrev pub bads : List Event → ℕ
bads es = length (faults es)

-- written from the last event to the first: the stack holds kind and end of the nodes whose closing was met, so that a begin has them "at both
-- events"; l is what stands behind. An error's index is how many records are before. What is open around an event are these nodes and SOURCE_FILE
abbrev pub render : Source → List (ℕ × ℕ) → List Event → List Entry → List Entry
render x st [] l = l
render x [] (opened n ∷ es) l = render x [] es l
render x (t ∷ st) (opened n ∷ es) l = render x st es ((Sort.BEGIN, t.0, starts_at x n, t.1, suc (length st)) ∷ l)
render x st (leaf a n ∷ es) l = render x st es ((Sort.TOKEN, a, starts_at x n, ends_at x n, suc (length st)) ∷ l)
render x st (closed a n m ∷ es) l = render x ((a, span_end x n m) ∷ st) es ((Sort.END, a, starts_at x n, span_end x n m, suc (length st)) ∷ l)
render x st (bad n c ∷ es) l = render x st es ((Sort.ERROR, bads es, starts_at x n, ends_at x n, suc (length st)) ∷ l)

abbrev pub record_of : Limits → Source → ℕ → Choice → Rec
record_of L x n c =
    let f = form_of L (id_at x n) (text_at x n) c in
    (starts_at x n, ends_at x n, f, choice_names f c, place_of f (starts_at x n) (text_at x n))

abbrev pub records : Limits → Source → List Event → List Rec → List Rec
records L x es l = foldl (λ l e. record_of L x e.0 e.1 ∷ l) l (faults es)

-- REQUEST (x): "Every error record gets the number of its item, from 1": the number of each record that the next n items from s on bring, the first
-- item's being i; items are counted as they are read (`items`)
abbrev pub numbers : Limits → ℕ → ℕ → State → List ℕ
numbers L zero i s = []
numbers L (suc n) i s =
    elim s.rest [
      | [] ↦ []
      | j ∷ js ↦ when_ok (replicate (bads (item L s).out - bads s.out) i ++ numbers L n (suc i) (item L s)) [] s.mode
    ]

-- those of a whole reading
abbrev pub item_numbers : Limits → List ℕ → ℕ → List ℕ
item_numbers L r f = numbers L (length r) 1 (start r f)

-- what is written inside SOURCE_FILE
abbrev pub inside : Source → List Event → List Entry
inside x o = render x [] o []

-- "outcome, rows covered, counts of events and error records, fuel left", with the lists themselves
pub record Reading : Type 0 where
  pub outcome : ℕ
  pub covered : ℕ
  pub left : ℕ
  pub events : List Entry
  pub errors : List Rec
  pub items : List ℕ  -- the number of each record's item

-- "Outcome 0 is done, 1 out of fuel, 2 too deep."
abbrev pub mode_outcome : Mode → ℕ
mode_outcome ok = Outcome.DONE
mode_outcome failed = Outcome.DONE
mode_outcome (stopped spent) = Outcome.SPENT
mode_outcome (stopped deep) = Outcome.DEEP

abbrev pub rendered : Limits → Source → List ℕ → State → Reading
rendered L x is s =
    record {
      outcome = mode_outcome s.mode;
      covered = length x.ids - length s.rest;
      left = s.fuel;
      events =
          (Sort.BEGIN, k.SOURCE_FILE, 0, length x.bytes, 0) ∷ inside x s.out ++ ((Sort.END, k.SOURCE_FILE, 0, length x.bytes, 0) ∷ []);
      errors = records L x s.out [];
      items = is;
    }

-- ROOMS: what a draft takes, the SOURCE_FILE begin event with it. "A record takes its room when it is chosen"

abbrev pub size_of : Limits → Source → ℕ → Choice → ℕ
size_of L x n c =
    let f = form_of L (id_at x n) (text_at x n) c in
    HEAD + length (choice_names f c) + length (place_of f (starts_at x n) (text_at x n))

-- the records of errors, and of those that stand written
abbrev pub held : Limits → Source → List (ℕ × Choice) → ℕ
held L x [] = 0
held L x (e ∷ es) = size_of L x e.0 e.1 + held L x es

abbrev pub said : Limits → Source → List Event → ℕ
said L x es = held L x (faults es)

abbrev pub used : Limits → Source → Draft → ℕ × ℕ
used L x d = (EVENT * suc (length d.0), said L x d.0 + held L x d.1)

-- the last moment is the SOURCE_FILE end event's
abbrev pub moments : Limits → Source → State → List (ℕ × ℕ)
moments L x s = (EVENT * suc (suc (length s.out)), said L x s.out) ∷ map (used L x) s.drafts

-- 7 where the events exceed their room, else 8 where the records do, else 0
abbrev pub exceeds : ℕ → ℕ → ℕ × ℕ → ℕ
exceeds e r m = elim (ltb e m.0) [ true ↦ Refusal.EVENTS | false ↦ elim (ltb r m.1) [ true ↦ Refusal.ERRORS | false ↦ 0 ] ]

-- "the event list would at some moment exceed its room, 8 not before": the oldest such moment decides, and it stands last
abbrev pub over : ℕ → ℕ → List (ℕ × ℕ) → ℕ
over e r [] = 0
over e r (m ∷ ms) = elim (over e r ms) [ zero ↦ exceeds e r m | suc n ↦ suc n ]
