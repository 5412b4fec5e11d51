-- Where the reader stands between two items: the remaining rows as a file of their own, and where it stands after the next item. Of the public
-- answer; proofs/Demands has the statements with the mission's sentences.
use Prim.Native.Nat.{ℕ, suc, ◌+◌, ◌-◌, ◌≤◌, ◌<◌}
use mathlib.Core.Path.{◌≡◌, refl, ap, sym, ◌∙◌, subst}
use mathlib.Core.List.{List, [], ◌∷◌, ◌++◌}
use lib.Dec.{T}
use lib.ListN.{length, drop, take, replicate, length-drop, length-append}
use native.Mathlib.Omega.{arith}
use Rattle.kinds.specs.Kinds as k
use Rattle.shapes.specs.Shapes.{Entry, flat, Rec}
use Rattle.definition.specs.Prog.{RULE_DECL, IMPORT_STMT, INCLUDE_STMT, ◌⫽◌, last, node}
use Rattle.definition.specs.Run.{State, Limits, Event, opened, closed, bad, stray, Next, end, other, hit, next, past, sought, rule_keywords, item_keywords, skip, item, items, start, read}
use Rattle.definition.specs.Render.{Source, Reading, bads, inside, records, item_numbers, mode_outcome, rendered, moments}
use Rattle.definition.specs.Buffer.{buffer}
use Rattle.definition.specs.Answer.{Desk, given, words, refusal, answer, source_of}
use Rattle.definition.specs.Remaining.{Running, standing, rows_before, place, written, recorded, remaining, shifts, shift_records, items_before, shift_items, in_file, Continued, Keyless, Astray, Solid, tokens, junk_events, Junk}
use Rattle.definition.specs.Ford.{strip, Res, Ford, nt, rules, any_statement}
use Rattle.definition.proofs.Grows.{End}
use Rattle.definition.proofs.Agree.{next_end, next_hit}
use Rattle.definition.proofs.Doom.{Off}
use Rattle.definition.proofs.Accept.{Fresh}
use Rattle.definition.proofs.Buffer.{item_adds, buffer_finished}
use Rattle.definition.proofs.Height.{standing_low}
use Rattle.definition.proofs.Tidy.{items_tidied}
use Rattle.definition.proofs.Shown.{damage_shown, inside_append}
use Rattle.definition.proofs.Suffix.{items_rows, damage_stays, next_item}
use Rattle.definition.proofs.Numbers.{numbers_chain, numbers_step, numbers_later}
use Rattle.definition.proofs.Published.{from_ford}
use Rattle.theorems.proofs.Stands.{leaves, junk_run, rule_stands, statement_stands}
use Rattle.theorems.proofs.Junk.{lead, junk_written, junk_recorded, junk_bads, unrecorded}
use Rattle.definition.proofs.Takes.{end_length, item_takes}
use Rattle.definition.proofs.Cut.{Rows, rows_of, no_refusal, front, front_length, cut_before, cut_whole, rest_bytes, rest_rows}
use Rattle.theorems.proofs.Answered.{reading, items_of, records_count, given_is, is_given}
use Rattle.definition.proofs.Frame.{h}
use Rattle.theorems.proofs.Rooms.{Fits, over_fits, fits_over, fits_more}
use Rattle.theorems.proofs.Drafts.{fits_alone}

drop_end : (a b : List ℕ) → End a b → drop (length b - length a) b ≡ a
drop_end a b e = subst (λ (l : List ℕ). drop (length l - length a) l ≡ a) e.1 (ap (λ (i : ℕ). drop i (e.0 ++ a)) front_size ∙ past_front e.0 a)
  where
    front_size : length (e.0 ++ a) - length a ≡ length e.0
    front_size = omega (arith, length-append e.0 a)

    past_front : (x a : List ℕ) → drop (length x) (x ++ a) ≡ a
    past_front [] a = refl
    past_front (i ∷ x) a = past_front x a

solid_front : (x r : List ℕ) → Solid x → (i : ℕ) × (is : List ℕ) × (x ++ r ≡ i ∷ is)
solid_front [] r f = absurd f
solid_front (i ∷ x) r f = (i, x ++ r, refl)

module _ (L : Limits) (d : Desk) (n : ℕ) where
  abbrev s : State
  s = standing L d n

  rest_ids : drop (rows_before d s) d.ids ≡ s.rest
  rest_ids = drop_end s.rest d.ids (items_rows L n (start d.ids d.fuel))

  -- what the event buffer holds behind the SOURCE_FILE begin event where the reader stands
  pub standing_buffer : L.depth + 2 < 4294967296 → buffer (source_of d) s.out ≡ flat (written d s)
  standing_buffer h = buffer_finished (source_of d) (L.depth + 2) h s.out (items_tidied L d.ids d.fuel n).1 (standing_low L d.ids d.fuel n)

  module _ (sc ev er : List ℕ) where
    abbrev rest : Desk
    rest = remaining d s sc ev er

    -- what `damage_shown` says of the source x, p its place
    abbrev Says : Source → ℕ → Type 0
    Says x p = let s : State = items L n (start x.ids d.fuel) in Running s.mode → s.rest ≡ rest.ids → let t : State = read L x.ids d.fuel in let v : State = read L rest.ids s.fuel in let y : Source = source_of rest in
        (t.mode ≡ v.mode) × (t.rest ≡ v.rest) × (t.fuel ≡ v.fuel) × (inside x t.out ≡ inside x s.out ++ shifts p (bads s.out) (inside y v.out)) × (records L x t.out [] ≡ records L x s.out [] ++ shift_records p (records L y v.out []))

    says : Rows d → Says (source_of d) (place d s)
    says r = subst (Says (source_of d)) (front_length d s sc ev er r) (subst (λ (x : Source). Says x (length (front d s sc ev er r))) (sym (cut_whole d s sc ev er r)) (damage_shown (front d s sc ev er r) (take (rows_before d s) d.ids) (take (rows_before d s) d.ends) (cut_before d s sc ev er r) (source_of rest) L d.fuel n))

    -- the remaining rows meet no refusal of 1 to 6
    pub remaining_unrefused : refusal d ≡ 0 → words (length rest.ids) ≤ length sc → refusal rest ≡ 0
    remaining_unrefused z w = no_refusal rest (rest_rows d s sc ev er (rows_of d z).0) w

    -- the remaining rows in any rooms in which they are answered
    pub continued : (R R' : Reading) → answer L d ≡ given R → Running s.mode → answer L rest ≡ given R' → Continued L d n s R R'
    continued R R' e r e' =
        let G = given_is L d R e in
        let g = G.whole in
        let g' = (given_is L rest R' e').whole in
        let rows = (rows_of d G.unrefused).0 in
        let h = says rows r (sym rest_ids) in
        let t : State = reading L d in
        let v : State = reading L rest in
        let z : ℕ = length d.bytes in
        let c : length (recorded L d s) ≡ bads s.out + 0 = records_count L (source_of d) s.out [] in
        record {
          outcome = ap (λ (r : Reading). r.outcome) g ∙ ap mode_outcome h.0 ∙ sym (ap (λ (r : Reading). r.outcome) g');
          covered = ap (λ (r : Reading). r.covered) g ∙ count (length d.ids) (rows_before d s) (length t.rest) (length v.rest) (length rest.ids) (ap length h.1) (length-drop (rows_before d s) d.ids) (end_length v.rest rest.ids (items_rows L (length rest.ids) (start rest.ids s.fuel))) (omega arith) ∙ ap (λ (i : ℕ). rows_before d s + i) (sym (ap (λ (r : Reading). r.covered) g'));
          left = ap (λ (r : Reading). r.left) g ∙ h.2 ∙ sym (ap (λ (r : Reading). r.left) g');
          inner = inside (source_of rest) v.out;
          alone = ap (λ (r : Reading). r.events) g' ∙ ap (λ (i : ℕ). in_file i (inside (source_of rest) v.out)) (rest_bytes d s sc ev er rows);
          events = ap (λ (r : Reading). r.events) g ∙ ap (in_file z) (h.3 ∙ ap (λ (i : ℕ). written d s ++ shifts (place d s) i (inside (source_of rest) v.out)) (omega (arith, c)));
          errors = ap (λ (r : Reading). r.errors) g ∙ h.4 ∙ ap (λ (l : List Rec). recorded L d s ++ shift_records (place d s) l) (sym (ap (λ (r : Reading). r.errors) g'));
          items =
              ap (λ (r : Reading). r.items) g
              ∙ numbers_later L d.ids d.fuel n r
              ∙ ap (λ (l : List ℕ). items_before L d n ++ shift_items n l) (ap (λ (l : List ℕ). item_numbers L l s.fuel) (sym rest_ids) ∙ sym (ap (λ (r : Reading). r.items) g'));
        }
      where
        count : (N a t v b : ℕ) → t ≡ v → b ≡ N - a → v ≤ b → a ≤ N → N - t ≡ a + (b - v)
        count N a t v b x y l m = omega (arith, x, y, l, m)

    -- the rooms of the whole are enough for them
    pub remaining_answered : (R : Reading) → answer L d ≡ given R → Running s.mode → words (length rest.ids) ≤ length sc → length d.events ≤ length ev → length d.errors ≤ length er → answer L rest ≡ given (rendered L (source_of rest) (items_of L rest) (reading L rest))
    remaining_answered R e m w v u =
        let G = given_is L d R e in
        let rows = (rows_of d G.unrefused).0 in
        let D = damage_stays L d.ids d.fuel n m in
        let Z : ℕ = length d.events in
        let F : ℕ = length d.errors in
        let whole : reading L d ≡ h 0 s.out s.begun D.0.before (reading L rest) = D.1 ∙ ap (λ (l : List ℕ). h 0 s.out s.begun D.0.before (read L l s.fuel)) (sym rest_ids) in
        let f = over_fits Z F (moments L (source_of d) (reading L d)) G.roomy in
        let g = subst (λ (t : State). Fits Z F (moments L (source_of d) t)) whole f in
        let g' = subst (λ (x : Source). Fits Z F (moments L x (h 0 s.out s.begun D.0.before (reading L rest)))) (cut_whole d s sc ev er rows) g in
        let a = fits_alone (front d s sc ev er rows) (take (rows_before d s) d.ids) (take (rows_before d s) d.ends) (cut_before d s sc ev er rows) (source_of rest) L Z F s.fuel s.out s.begun D.0.before g' in
        let ms = moments L (source_of rest) (reading L rest) in
        is_given L rest (remaining_unrefused G.unrefused w) (fits_over (length ev) (length er) ms (fits_more Z (length ev) F (length er) ms v u a))

    pub continues : (R : Reading) → answer L d ≡ given R → Running s.mode → words (length rest.ids) ≤ length sc → length d.events ≤ length ev → length d.errors ≤ length er → (R' : Reading) × (answer L rest ≡ given R') × Continued L d n s R R'
    continues R e m w v u = let a = remaining_answered R e m w v u in (rendered L (source_of rest) (items_of L rest) (reading L rest), a, continued R (rendered L (source_of rest) (items_of L rest) (reading L rest)) e m a)

  fresh : Running s.mode → Fresh s
  fresh r = (damage_stays L d.ids d.fuel n r).0.fresh

  one_item : Running s.mode → (i : ℕ) (is : List ℕ) → s.rest ≡ i ∷ is → standing L d (n + 1) ≡ item L s
  one_item r i is e = next_item L d.ids d.fuel n i is (fresh r).is_ok e

  -- where an item was accepted: the reader stands behind its rows, and what was written stands
  abbrev Stood : List ℕ → State → Type 0
  Stood r v = (v.rest ≡ r) × (recorded L d v ≡ recorded L d s) × ((w : List Entry) × (written d v ≡ written d s ++ w))

  behind : (x r : List ℕ) → Running s.mode → s.rest ≡ x ++ r → Solid x → (let v : State = item L s in Running v.mode → Fresh v × (v.rest ≡ r) × (bads v.out ≡ bads s.out)) → let v : State = standing L d (n + 1) in Running v.mode → Stood r v
  behind x r m e q H = at (solid_front x r q)
    where
      stood : Running (item L (standing L d n)).mode → Stood r (item L (standing L d n))
      stood k =
          let v : State = item L s in
          let h = H k in
          let A = item_adds L s in
          let B = inside_append (source_of d) A.new s.out (A.nest 0) in
          (h.1, ap (λ (o : List Event). records L (source_of d) o []) (sym A.joins) ∙ unrecorded (source_of d) L A.new s.out [] (ap bads A.joins ∙ h.2), (B.0, ap (inside (source_of d)) (sym A.joins) ∙ B.1))

      at : ((i : ℕ) × (is : List ℕ) × (x ++ r ≡ i ∷ is)) → Running (standing L d (n + 1)).mode → Stood r (standing L d (n + 1))
      at f k = let z = one_item m f.0 f.1 (e ∙ f.2) in subst (Stood r) (sym z) (stood (subst (λ (u : State). Running u.mode) z k))

  -- right behind an accepted rule
  pub rule_behind : (x r : List ℕ) (m : ℕ) → Running s.mode → s.rest ≡ x ++ r → Solid x → Ford (rules L.entrypoint) (nt RULE_DECL) (strip s.rest) m (Res.yes (strip r)) → T (past (next item_keywords r)) → let v : State = standing L d (n + 1) in Running v.mode → Stood r v
  rule_behind x r _ m e q g p = behind x r m e q (rule_stands L s x r (fresh m) e q (from_ford (node RULE_DECL) g) (followed (next item_keywords r) refl p))
    where
      followed : (y : Next) → next item_keywords r ≡ y → T (past y) → Off (sought item_keywords (strip r)) → ⊥
      followed end z t o = subst Off (ap (sought item_keywords) (next_end item_keywords r z)) o
      followed other z t o = t
      followed (hit a is) z t o = subst Off (next_hit item_keywords r a is z) o

  -- right behind an accepted import or include
  pub statement_behind : (x r : List ℕ) (m : ℕ) → Running s.mode → s.rest ≡ x ++ r → Solid x → Ford (rules L.entrypoint) any_statement (strip s.rest) m (Res.yes (strip r)) → let v : State = standing L d (n + 1) in Running v.mode → Stood r v
  statement_behind x r _ m e q g = behind x r m e q (statement_stands L s x r (fresh m) e q (from_ford (node IMPORT_STMT ⫽ last (node INCLUDE_STMT)) g))

  -- right behind a junk run
  pub junk_behind : (j r : List ℕ) (a : ℕ) (is : List ℕ) → Running s.mode → skip s.rest ≡ j ++ r → Keyless j → Solid j → Astray j → next rule_keywords r ≡ hit a is → Junk L d n s (standing L d (n + 1)) j r
  junk_behind j r a is m e q f b h = at s.rest refl e
    where
      one : (a b : ℕ) → a ≡ suc b → a - b ≡ 1
      one a b e = omega (arith, e)

      as_many : (a b : ℕ) → b ≡ a + 0 → a ≡ b
      as_many a b e = omega (arith, e)

      cost : (c : ℕ) (cs : List ℕ) → (standing L d n).rest ≡ c ∷ cs → Junk L d n (standing L d n) (item L (standing L d n)) j r
      cost c cs z =
          let x : Source = source_of d in
          let i : ℕ = length (j ++ r) in
          let h = junk_run L s j r a is (fresh m) e q f b h in
          let G = lead s.rest in
          let o : (item L s).out ≡ closed k.ERROR i (length r) ∷ leaves j r (opened i ∷ bad i stray ∷ leaves G.0 (j ++ r) s.out) = h.4 ∙ ap (λ (l : List Event). closed k.ERROR i (length r) ∷ leaves j r (opened i ∷ bad i stray ∷ l)) (G.2 s.out ∙ ap (λ (l : List ℕ). leaves G.0 l s.out) e) in
          record {
            going = subst Running (sym h.0.is_ok) tt;
            stands = h.1;
            fuel = h.2;
            gap = G.0;
            front = G.1 ∙ ap (λ (l : List ℕ). G.0 ++ l) e;
            items =
                numbers_chain L n 1 1 (start d.ids d.fuel)
                ∙ ap (λ (l : List ℕ). items_before L d n ++ l)
                (numbers_step L 0 (n + 1) s c cs z (fresh m).is_ok ∙ ap (λ (k : ℕ). replicate k (n + 1) ++ []) (one (bads (item L s).out) (bads s.out) (ap bads o ∙ junk_bads x G.0 j r s.out)));
            errors = ap (λ (o : List Event). records L x o []) o ∙ junk_recorded x L G.0 j r s.out;
            events = ap (inside x) o ∙ junk_written x G.0 j r s.out ∙ ap (λ (c : ℕ). written d s ++ (tokens x 1 G.0 (j ++ r) ++ junk_events x c j r)) (as_many (bads s.out) (length (recorded L d s)) (records_count L x s.out []));
          }

      at : (l : List ℕ) → (standing L d n).rest ≡ l → skip l ≡ j ++ r → Junk L d n (standing L d n) (standing L d (n + 1)) j r
      at [] z y = absurd (omega (arith, ap length (y ∙ (solid_front j r f).2)))
      at (i ∷ l) z y = subst (λ (v : State). Junk L d n (standing L d n) v j r) (sym (one_item m i l z)) (cost i l z)

  pub takes_a_row : (i : ℕ) (is : List ℕ) → Running s.mode → s.rest ≡ i ∷ is → let v : State = standing L d (n + 1) in Running v.mode → rows_before d s < rows_before d v
  takes_a_row i is m e = subst (λ (v : State). Running v.mode → rows_before d s < rows_before d v) (sym (one_item m i is e)) (λ r. omega (arith, item_takes L s i is (fresh m).is_ok e r, end_length s.rest d.ids (items_rows L n (start d.ids d.fuel))))
