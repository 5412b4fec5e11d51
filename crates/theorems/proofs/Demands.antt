-- The mission's demands, of the public definition: each sentence with its theorem. The words are those of specs/Answer, specs/Ford and
-- specs/Remaining; L holds the limits, `base` for document 01's.
use Prim.Native.Nat.{ℕ, suc, ◌+◌, ◌-◌, ◌≤◌, ◌<◌, zero}
use mathlib.Core.Path.{◌≡◌, ap, ap₂, sym, ◌∙◌, subst}
use mathlib.Core.Logic.{◌↔◌}
use mathlib.Core.List.{List, [], ◌∷◌, ◌++◌}
use mathlib.Core.Bool.{Bool, true, false, not}
use lib.Dec.{T, ltb, ltb→lt, nltb→le}
use lib.ListN.{length, get_or}
use native.Mathlib.Omega.{arith}
use native.Mathlib.Nat.{add-zero}
use Rattle.shapes.specs.Shapes.{Entry}
use Rattle.definition.specs.Prog.{RULE_DECL, Production, Prog, many}
use Rattle.definition.specs.Run.{State, Limits, hit, next, past, rule_keywords, item_keywords, skip, Reader, nodes, loop, exec, run, begin_steps}
use Rattle.definition.specs.Render.{Reading, bads, mode_outcome, rendered}
use Rattle.definition.specs.Answer.{Desk, given, words, refusal, exceeded, answer, source_of, After, refusing, blank, left_by, after}
use Rattle.definition.specs.Remaining.{Running, standing, rows_before, written, recorded, remaining, Continued, Keyless, Astray, Solid, Junk}
use Rattle.definition.specs.Ford.{Res, Exp, Ford, nt, star, rules, ford, strip, any_statement, any_item, Accepts}
use Rattle.definition.specs.Grammar.{grammar, kind}
use Rattle.theorems.proofs.Answered.{reading, items_of, number_of, number_is, five_not_given, refused_lent, refused_blank, records_count, done, given_is, is_given, answered}
use Rattle.definition.proofs.File.{no_error_iff_accepted}
use Rattle.definition.proofs.Peg.{Peg}
use Rattle.definition.proofs.Published.{accepts_is_ford, peg_is_ford, det}
use Rattle.theorems.proofs.Remaining.{continues, rule_behind, statement_behind, junk_behind, takes_a_row}
use Rattle.theorems.proofs.Fuel.{fuel_left, fuel_exact}
use Rattle.theorems.proofs.Least.{too_little, same_reading, same_numbers}
use Rattle.definition.proofs.Numbers.{item_numbers_length}
use Rattle.theorems.proofs.Owners.{numbers_rise, numbers_from, numbers_counted}
use Rattle.theorems.proofs.Bound.{Within, bound_never_ends, too_deep_idles}

-- DEMAND 1

-- "Bad input is refused by document 01's numbered list, each number exactly when its row says": the number is that of the first row of `grounds`
-- that applies, then 7 or 8 by the first moment that exceeds a room, else 0
pub demand_1_number : (L : Limits) (d : Desk) → (after L d).number ≡ number_of L d
demand_1_number = number_is

-- REQUEST (ii): "Refusals: 5 is no longer given; its number is not used again."
pub never_five : (L : Limits) (d : Desk) → (after L d).number ≡ 5 → ⊥
never_five = five_not_given

-- "with results and buffers as it says": "A refusal returns its number and zeros.", "The reader's 7 and 8 leave events, errors and scratch all zero;
-- every other refusal leaves all as lent."
pub demand_1_lent : (L : Limits) (d : Desk) (n : ℕ)
    → refusal d ≡ suc n
    → after L d ≡ refusing (suc n) d.events d.errors d.scratch
demand_1_lent = refused_lent

pub demand_1_blank : (L : Limits) (d : Desk) (n : ℕ)
    → refusal d ≡ 0
    → exceeded L d (reading L d) ≡ suc n
    → after L d ≡ refusing (suc n) (blank d.events) (blank d.errors) (blank d.scratch)
demand_1_blank = refused_blank

-- and where no row of the list applies, the answer is the reading
pub demand_1_answer : (L : Limits) (d : Desk)
    → refusal d ≡ 0
    → exceeded L d (reading L d) ≡ 0
    → after L d ≡ left_by d (given (rendered L (source_of d) (items_of L d) (reading L d)))
demand_1_answer L d z w = ap (left_by d) (is_given L d z w)

-- "For every public function, refusals too, the promise leaves one result and one content of each lent buffer": the promise is an equation
pub one_outcome : (L : Limits) (d : Desk) (a b : After) → a ≡ after L d → b ≡ after L d → a ≡ b
one_outcome L d a b e f = e ∙ sym f

-- DEMAND 2

no_record_iff_accepted : (L : Limits) (d : Desk) (R : Reading) → answer L d ≡ given R → R.outcome ≡ 0 → (length R.errors ≡ 0) ↔ Accepts L.entrypoint d.ids
no_record_iff_accepted L d R e z =
    let t : State = reading L d in
    let g = (given_is L d R e).whole in
    let k = no_error_iff_accepted L d.ids d.fuel (done t.mode (sym (ap (λ (r : Reading). r.outcome) g) ∙ z)) in
    let c : length R.errors ≡ bads t.out + 0 = ap (λ (r : Reading). length r.errors) g ∙ records_count L (source_of d) t.out [] in
    ((λ n. k.0 (omega (arith, n, c))), λ w. omega (arith, c, k.1 w))

-- "If the reader was not stopped, the error list is empty exactly when the PEG accepts every item."; REQUEST (ii): "Demand 2 covers them, and an accepted
-- item may now be an import or include statement."
pub demand_2 : (L : Limits) (d : Desk)
    → let a : After = after L d in a.number ≡ 0
    → a.outcome ≡ 0
    → (a.error_count ≡ 0) ↔ Accepts L.entrypoint d.ids
demand_2 L d n z =
    let g = answered L d n in
    let w : after L d ≡ left_by d (given g.0) = ap (left_by d) g.1 in
    let i = no_record_iff_accepted L d g.0 g.1 (sym (ap (λ (a : After). a.outcome) w) ∙ z) in
    let c : (after L d).error_count ≡ length g.0.errors = omega (arith, ap (λ (a : After). a.error_count) w) in
    ((λ e. i.0 (sym c ∙ e)), λ p. c ∙ i.1 p)

-- the same as one parsing expression of Ford's: `(rule_decl / import_stmt / include_stmt)*` on the translated grammar takes all rows that are no trivia
pub demand_2_ford : (L : Limits) (d : Desk)
    → let a : After = after L d in a.number ≡ 0
    → a.outcome ≡ 0
    → (a.error_count ≡ 0) ↔ ((n : ℕ) × Ford (rules L.entrypoint) (star any_item) (strip d.ids) n (Res.yes []))
demand_2_ford L d n z =
    let i = demand_2 L d n z in
    let f = accepts_is_ford L.entrypoint (strip d.ids) in
    ((λ e. f.0 (i.0 e)), λ a. i.1 (f.1 a))

-- DEMAND 3: "Damage stays where it is."

-- "Whenever the reader, not stopped, stands between two items with fuel f left, what it writes up to the closing SOURCE_FILE event is what demand 2
-- gives inside SOURCE_FILE for the remaining rows as a file of their own with fuel f, places and record numbers shifted." The rooms of the whole
-- are enough for the remaining rows. REQUEST (x): "Demand 3 then shifts item numbers too."
pub demand_3 : (L : Limits) (d : Desk) (n : ℕ) (scratch events errors : List ℕ) (R : Reading)
    → let s : State = standing L d n in let d' : Desk = remaining d s scratch events errors in answer L d ≡ given R
    → Running s.mode
    → words (length d'.ids) ≤ length scratch
    → length d.events ≤ length events
    → length d.errors ≤ length errors
    → (R' : Reading) × (answer L d' ≡ given R') × Continued L d n s R R'
demand_3 = continues

-- "Unless stopped, it stands so after any rule accepted at item position whose next row past trivia is rule, global, private or none": right behind
-- the rule's rows x, before which trivia may stand; what was written stands, and no error record is added. REQUEST (ii): "In demand 3 an accepted rule
-- may also be followed by an import or include row, as the recovery set of `rule_decl` has all five"
pub demand_3_rule : (L : Limits) (d : Desk) (n : ℕ) (x r : List ℕ) (m : ℕ)
    → let s : State = standing L d n in let v : State = standing L d (n + 1) in Running s.mode
    → s.rest ≡ x ++ r
    → Solid x
    → Ford (rules L.entrypoint) (nt RULE_DECL) (strip s.rest) m (Res.yes (strip r))
    → T (past (next item_keywords r))
    → Running v.mode
    → (v.rest ≡ r) × (recorded L d v ≡ recorded L d s) × ((w : List Entry) × (written d v ≡ written d s ++ w))
demand_3_rule = rule_behind

-- REQUEST (ii): behind an accepted import or include it stands so whatever the next row is
pub demand_3_statement : (L : Limits) (d : Desk) (n : ℕ) (x r : List ℕ) (m : ℕ)
    → let s : State = standing L d n in let v : State = standing L d (n + 1) in Running s.mode
    → s.rest ≡ x ++ r
    → Solid x
    → Ford (rules L.entrypoint) any_statement (strip s.rest) m (Res.yes (strip r))
    → Running v.mode
    → (v.rest ≡ r) × (recorded L d v ≡ recorded L d s) × ((w : List Entry) × (written d v ≡ written d s ++ w))
demand_3_statement = statement_behind

-- "and after any run of rows at item position, not empty, with no trivia at either end and none of those keywords in it, whose next row past trivia is
-- one; that run costs one error, one ERROR node and no fuel.": it never stops the reader, which stands right behind it. REQUEST (ii): "and a junk run may not
-- begin with one of the two", but it may hold them
pub demand_3_junk : (L : Limits) (d : Desk) (n : ℕ) (j r : List ℕ) (a : ℕ) (is : List ℕ)
    → let s : State = standing L d n in let v : State = standing L d (n + 1) in Running s.mode
    → skip s.rest ≡ j ++ r
    → Keyless j
    → Solid j
    → Astray j
    → next rule_keywords r ≡ hit a is
    → Junk L d n s v j r
demand_3_junk = junk_behind

-- "Every item that does not stop the reader takes at least one row."
pub demand_3_takes : (L : Limits) (d : Desk) (n i : ℕ) (is : List ℕ)
    → let s : State = standing L d n in let v : State = standing L d (n + 1) in Running s.mode
    → s.rest ≡ i ∷ is
    → Running v.mode
    → rows_before d s < rows_before d v
demand_3_takes = takes_a_row

-- REQUEST (x): "Every error record gets the number of its item, from 1"
module _ (L : Limits) (d : Desk) (R : Reading) (e : answer L d ≡ given R) where
  own : R.items ≡ items_of L d
  own = ap (λ (r : Reading). r.items) (given_is L d R e).whole

  -- each record has one
  pub each_record_has_its_item : length R.items ≡ length R.errors
  each_record_has_its_item =
      ap length own
      ∙ item_numbers_length L d.ids d.fuel
      ∙ sym (add-zero (bads (reading L d).out))
      ∙ sym (records_count L (source_of d) (reading L d).out [])
      ∙ sym (ap (λ (r : Reading). length r.errors) (given_is L d R e).whole)

  -- it is that of the item as items are counted: a record that the item behind n others brings has n + 1
  pub items_as_counted : (n k : ℕ) → length (recorded L d (standing L d n)) ≤ k → k < length (recorded L d (standing L d (n + 1))) → get_or R.items k 0 ≡ n + 1
  items_as_counted n k h g =
      ap (λ (l : List ℕ). get_or l k 0) own
      ∙ numbers_counted L d.ids d.fuel n k (omega (arith, h, records_count L (source_of d) (standing L d n).out [])) (omega (arith, g, records_count L (source_of d) (standing L d (n + 1)).out []))

  pub items_from_one : (k : ℕ) → k < length R.items → 1 ≤ get_or R.items k 0
  items_from_one k = subst (λ (l : List ℕ). k < length l → 1 ≤ get_or l k 0) (sym own) (numbers_from L (length d.ids) 1 _ k)

  -- "item numbers never fall"
  pub items_never_fall : (j k : ℕ) → j ≤ k → k < length R.items → get_or R.items j 0 ≤ get_or R.items k 0
  items_never_fall j k h = subst (λ (l : List ℕ). k < length l → get_or l j 0 ≤ get_or l k 0) (sym own) (numbers_rise L (length d.ids) 1 _ j k h)

  -- "Records of one item stand together": between two records of an item every record is its own
  pub items_together : (i j k : ℕ) → i ≤ j → j ≤ k → k < length R.items → get_or R.items i 0 ≡ get_or R.items k 0 → get_or R.items j 0 ≡ get_or R.items i 0
  items_together i j k a b c q = omega (arith, items_never_fall i j a (omega arith), items_never_fall j k b c)

-- FUEL

-- "fuel left is fuel given less the definition's `begin` steps, or 0 if they are more"
pub fuel_left_is : (L : Limits) (d : Desk) (R : Reading) → answer L d ≡ given R → R.left ≡ d.fuel - begin_steps L d.ids d.fuel
fuel_left_is L d R e = ap (λ (r : Reading). r.left) (given_is L d R e).whole ∙ fuel_left L d.ids d.fuel

-- the same source and rows with fuel g, and other rooms
abbrev pub relent : Desk → ℕ → List ℕ → List ℕ → List ℕ → Desk
relent d g sc ev er = record { bytes = d.bytes; ids = d.ids; starts = d.starts; ends = d.ends; fuel = g; scratch = sc; events = ev; errors = er }

abbrev pub fuelled : Desk → ℕ → Desk
fuelled d g = relent d g d.scratch d.events d.errors

abbrev pub leaving : Reading → ℕ → Reading
leaving R f = record { outcome = R.outcome; covered = R.covered; left = f; events = R.events; errors = R.errors; items = R.items }

module _ (L : Limits) (d : Desk) (R : Reading) (e : answer L d ≡ given R) (z : R.outcome ≡ 0) where
  abbrev steps : ℕ
  steps = begin_steps L d.ids d.fuel

  finished : Running (reading L d).mode
  finished = done (reading L d).mode (sym (ap (λ (r : Reading). r.outcome) (given_is L d R e).whole) ∙ z)

  -- a finished reading used just its begin steps
  pub fuel_used : d.fuel ≡ R.left + steps
  fuel_used = fuel_exact L d.ids d.fuel finished ∙ ap (λ (i : ℕ). i + steps) (sym (ap (λ (r : Reading). r.left) (given_is L d R e).whole))

  -- REQUEST (xiii): "on any larger fuel its events and error records are the same and the fuel left is larger by just the difference". On any fuel
  -- that is not less than the steps nothing changes but the fuel left; in the same rooms the second reading is never refused
  pub more_fuel_same : (g : ℕ) → steps ≤ g → answer L (fuelled d g) ≡ given (leaving R (g - steps))
  more_fuel_same g l =
      let G = given_is L d R e in
      let q = same_reading L d.ids d.fuel g finished l in
      is_given L (fuelled d g) G.unrefused (ap (exceeded L d) q ∙ G.roomy)
      ∙ ap₂ (λ (is : List ℕ) (t : State). given (rendered L (source_of d) is t)) (same_numbers L d.ids d.fuel g finished l) q
      ∙ ap (λ (r : Reading). given (leaving r (g - steps))) (sym G.whole)

  -- and in other rooms, wherever it is answered ("with room enough that none of the readings compared is refused")
  pub more_fuel_lists : (g : ℕ) (sc ev er : List ℕ) → steps ≤ g → (R' : Reading) → answer L (relent d g sc ev er) ≡ given R' → R' ≡ leaving R (g - steps)
  more_fuel_lists g sc ev er l R' e' =
      (given_is L (relent d g sc ev er) R' e').whole
      ∙ ap₂ (rendered L (source_of d)) (same_numbers L d.ids d.fuel g finished l) (same_reading L d.ids d.fuel g finished l)
      ∙ ap (λ (r : Reading). leaving r (g - steps)) (sym (given_is L d R e).whole)

  -- "at a fixed depth limit, fuel too small by any amount ends with outcome 1 and never 0"
  pub less_fuel_stops : (g : ℕ) (sc ev er : List ℕ) → g < steps → (R' : Reading) → answer L (relent d g sc ev er) ≡ given R' → R'.outcome ≡ 1
  less_fuel_stops g sc ev er l R' e' =
      ap (λ (r : Reading). r.outcome) (given_is L (relent d g sc ev er) R' e').whole ∙ ap mode_outcome (too_little L d.ids d.fuel g finished l)

  -- "the fuel a file uses when it finishes is the least that finishes it"
  pub least_fuel : (g : ℕ) (sc ev er : List ℕ) (R' : Reading) → answer L (relent d g sc ev er) ≡ given R' → R'.outcome ≡ 0 → steps ≤ g
  least_fuel g sc ev er R' e' z' = by (ltb g steps) (ltb→lt g steps) (nltb→le g steps)
    where
      by : (b : Bool) → (T b → g < steps) → (T (not b) → steps ≤ g) → steps ≤ g
      by true l m = absurd (omega (arith, less_fuel_stops g sc ev er (l tt) R' e', z'))
      by false l m = m tt

-- WHAT THE DEFINITION IS

-- "PEG means Ford, "Parsing Expression Grammars" (POPL 2004).": acceptance is his relation on the translated grammar, which has at most one result
pub acceptance_is_one : (E : Bool) (e : Exp) (r : List ℕ) (n m : ℕ) (x y : Res) → Ford (rules E) e r n x → Ford (rules E) e r m y → x ≡ y
acceptance_is_one E e r n m x y a b = det E a m y b

-- and the translation is document 01's reading of the combinators: "`begin`, `end` and `recover` are left out, `cached` is its part, and `if_next` is
-- its part where its token is next and nothing elsewhere"
pub acceptance_is_ford : {E : Bool} (p : Prog) (r : List ℕ) (x : Res) → Peg E p r x ↔ ((n : ℕ) × Ford (rules E) (ford p) r n x)
acceptance_is_ford = peg_is_ford

-- a repetition's bound is never what ends it: every larger one does the same
pub repetition_unbounded : (E : Bool) (d : ℕ) (a : Production) (p : Prog)
    → Within (many p) (grammar E a)
    → (s : State) (n : ℕ)
    → length s.rest < n
    → let f : Reader = exec d (run E d) p true in loop f n s ≡ loop f (suc (length s.rest)) s
repetition_unbounded E = bound_never_ends E

-- a node that is too deep has a body that does nothing, whatever its productions would do
pub deep_node_idle : (E : Bool) (d : ℕ) (call : Bool → Production → Reader) (o : Bool) (a : Production) (s : State) → run E zero o a s ≡ nodes zero o (kind a) (exec d call (grammar E a) o) s
deep_node_idle E = too_deep_idles E
