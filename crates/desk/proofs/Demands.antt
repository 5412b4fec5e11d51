-- The demands as a caller of `read` may rely on them: d is what was lent, r what was returned, ev, er and sc what the three buffers hold then. Each
-- follows from the one equation that `read` promises.
use Prim.Native.Nat.{ℕ, zero, suc, ◌+◌, ◌-◌, ◌*◌, ◌≤◌, ◌<◌}
use mathlib.Core.Path.{◌≡◌, refl, sym, ap, ap₂, ◌∙◌, subst}
use mathlib.Core.List.{List, [], ◌∷◌, ◌++◌}
use mathlib.Core.Logic.{◌↔◌}
use native.Mathlib.Omega.{arith}
use lib.Dec.{leb}
use lib.ListN.{length, take, replicate}
use Rattle.std.specs.Prelude.{Result, Ok, Err}
use Rattle.shapes.specs.declared.refusal.Refusal as R
use Rattle.shapes.proofs.Refused.{answer_at, refused_back}
use Rattle.shapes.specs.declared.outcome.Outcome.{Outcome}
use Rattle.shapes.specs.declared.outcome.Outcome.TheVariants.{Done, Spent, Deep}
use Rattle.shapes.specs.Refusal as Refusal
use Rattle.shapes.specs.Outcome as outcomes
use Rattle.shapes.specs.Shapes.{EVENT, flat, entries, owned, flat_records}
use Rattle.shapes.proofs.Laws.{flat_length}
use Rattle.definition.specs.Ford.{Res, Ford, rules, star, strip, any_item, Accepts}
use Rattle.definition.specs.Run as P
use Rattle.definition.specs.Run.{Limits}
use Rattle.definition.specs.Render.{Reading}
use Rattle.definition.specs.Answer.{Desk, After, given, refusal, exceeded, answer, words, refusing, blank, filled, left_by, after}
use Rattle.definition.specs.Remaining.{Running, standing, remaining, Continued}
use Rattle.theorems.proofs.Answered.{number_of, answered}
use Rattle.definition.specs.Merge.{marks, finished, merged, merger}
use Rattle.definition.specs.Merge as M
use Rattle.theorems.proofs.Joined.{Orderly, never_9_or_10, read_in_order}
use Rattle.theorems.proofs.Demands as theorems
use Rattle.desk.specs.declared.read.Answered.{Answered}
use Rattle.desk.specs.Framing.{after_of}

-- what `read` promises of a result and buffers, for the limits L that it is handed
abbrev pub Promised : Limits → Desk → Result Answered R.Refusal → List ℕ → List ℕ → List ℕ → Type 0
Promised L d r ev er sc = after_of r ev er sc ≡ after L d

-- an answer by its parts
abbrev pub ends : Outcome → ℕ → ℕ → ℕ → ℕ → Result Answered R.Refusal
ends o c e k f = Ok (record { outcome = o; covered = c; events = e; errors = k; left = f })

-- ONE OUTCOME: no refusal has the number 0, so the numbers say which it is
outcome_at : ℕ → Outcome
outcome_at zero = Done
outcome_at (suc zero) = Spent
outcome_at (suc (suc n)) = Deep

outcome_back : (o : Outcome) → outcome_at (outcomes.number o) ≡ o
unfolding outcome_at
outcome_back Done = refl
outcome_back Spent = refl
outcome_back Deep = refl

answer_of : After → Result Answered R.Refusal
answer_of a = answer_at a.number (record { outcome = outcome_at a.outcome; covered = a.covered; events = a.event_count; errors = a.error_count; left = a.left })

answer_back : (r : Result Answered R.Refusal) (ev er sc : List ℕ) → answer_of (after_of r ev er sc) ≡ r
unfolding answer_of
answer_back (Ok a) ev er sc = ap (λ (o : Outcome). ends o a.covered a.events a.errors a.left) (outcome_back a.outcome)
answer_back (Err e) ev er sc = refused_back e _

result_is : (L : Limits) (d : Desk) (r : Result Answered R.Refusal) (ev er sc : List ℕ) → Promised L d r ev er sc → answer_of (after L d) ≡ r
result_is L d r ev er sc p = ap answer_of (sym p) ∙ answer_back r ev er sc

buffers_are : (L : Limits) (d : Desk) (r : Result Answered R.Refusal) (ev er sc : List ℕ) → Promised L d r ev er sc → ((after L d).events ≡ ev) × ((after L d).errors ≡ er) × ((after L d).scratch ≡ sc)
buffers_are L d (Err n) ev er sc p = (ap (λ (a : After). a.events) (sym p), ap (λ (a : After). a.errors) (sym p), ap (λ (a : After). a.scratch) (sym p))
buffers_are L d (Ok b) ev er sc p = (ap (λ (a : After). a.events) (sym p), ap (λ (a : After). a.errors) (sym p), ap (λ (a : After). a.scratch) (sym p))

-- "the promise leaves one result and one content of each lent buffer; show any two allowed outcomes equal"
pub one_outcome : (L : Limits) (d : Desk) (r r' : Result Answered R.Refusal) (ev er sc ev' er' sc' : List ℕ)
    → Promised L d r ev er sc
    → Promised L d r' ev' er' sc'
    → (r ≡ r') × (ev ≡ ev') × (er ≡ er') × (sc ≡ sc')
one_outcome L d r r' ev er sc ev' er' sc' p q =
    let b = buffers_are L d r ev er sc p in
    let c = buffers_are L d r' ev' er' sc' q in
    (sym (result_is L d r ev er sc p) ∙ result_is L d r' ev' er' sc' q, sym b.0 ∙ c.0, sym b.1 ∙ c.1, sym b.2 ∙ c.2)

-- DEMAND 1: "each number exactly when its row says"
abbrev pub number : Result Answered R.Refusal → ℕ
number (Err r) = Refusal.number r
number (Ok a) = 0

pub read_number : (L : Limits) (d : Desk) (r : Result Answered R.Refusal) (ev er sc : List ℕ) → Promised L d r ev er sc → number r ≡ number_of L d
read_number L d (Err n) ev er sc p = ap (λ (a : After). a.number) p ∙ theorems.demand_1_number L d
read_number L d (Ok b) ev er sc p = ap (λ (a : After). a.number) p ∙ theorems.demand_1_number L d

-- "with results and buffers as it says"
pub read_lent : (L : Limits) (d : Desk) (r : Result Answered R.Refusal) (n : ℕ) (ev er sc : List ℕ) → refusal d ≡ suc n → Promised L d r ev er sc → after_of r ev er sc ≡ refusing (suc n) d.events d.errors d.scratch
read_lent L d r n ev er sc h p = p ∙ theorems.demand_1_lent L d n h

pub read_blank : (L : Limits) (d : Desk) (r : Result Answered R.Refusal) (n : ℕ) (ev er sc : List ℕ) → refusal d ≡ 0 → exceeded L d (P.read L d.ids d.fuel) ≡ suc n → Promised L d r ev er sc →
    after_of r ev er sc ≡ refusing (suc n) (blank d.events) (blank d.errors) (blank d.scratch)
read_blank L d r n ev er sc h i p = p ∙ theorems.demand_1_blank L d n h i

take_whole : (a b : List ℕ) → take (length a) (a ++ b) ≡ a
take_whole [] b = refl
take_whole (x ∷ a) b = ap (λ (l : List ℕ). x ∷ l) (take_whole a b)

-- an answer, and the reading that it gives
module _ (L : Limits) (d : Desk) (a : Answered) {ev er sc : List ℕ} (p : Promised L d (Ok a) ev er sc) where
  zero_number : (after L d).number ≡ 0
  zero_number = sym (ap (λ (a : After). a.number) p)

  pub read_given : (R : Reading) × (answer L d ≡ given R)
  read_given = answered L d zero_number

  left : after_of (Ok a) ev er sc ≡ left_by d (given read_given.0)
  left = p ∙ ap (left_by d) read_given.1

  -- the buffers: the finished lists with zeros behind them, and scratch zero
  pub read_events : ev ≡ filled (flat read_given.0.events) d.events
  read_events = ap (λ (a : After). a.events) left

  pub read_errors : er ≡ filled (flat_records (owned read_given.0.errors read_given.0.items)) d.errors
  read_errors = ap (λ (a : After). a.errors) left

  pub read_scratch : sc ≡ blank d.scratch
  read_scratch = ap (λ (a : After). a.scratch) left

  -- what is handed on to the merger, the first e events: never refused 9 or 10, and the ERROR nodes that it joins stand in their order
  pub read_list : take (EVENT * a.events) ev ≡ flat read_given.0.events
  read_list =
      let w : List ℕ = flat read_given.0.events in
      let n : EVENT * a.events ≡ length w = omega (arith, ap (λ (a : After). a.event_count) left, flat_length read_given.0.events) in
      ap₂ take n read_events ∙ take_whole w (replicate (length d.events - length w) 0)

  pub read_merges : (room : ℕ) → let l : List ℕ = take (EVENT * a.events) ev in merger l room ≡ M.refusing Refusal.EVENTS (leb (EVENT * length (finished l)) room) (merged (finished l))
  read_merges room = subst (λ (l : List ℕ). merger l room ≡ M.refusing Refusal.EVENTS (leb (EVENT * length (finished l)) room) (merged (finished l))) (sym read_list) (never_9_or_10 L d read_given.0 read_given.1 room)

  pub read_orderly : Orderly (marks (entries (take (EVENT * a.events) ev)))
  read_orderly = subst (λ (l : List ℕ). Orderly (marks (entries l))) (sym read_list) (read_in_order L d read_given.0 read_given.1)

  -- DEMAND 2: "If the reader was not stopped, the error list is empty exactly when the PEG accepts every item."
  pub read_accepts : a.outcome ≡ Done → (a.errors ≡ 0) ↔ Accepts L.entrypoint d.ids
  read_accepts z =
      let i = theorems.demand_2 L d zero_number (sym (ap (λ (a : After). a.outcome) p) ∙ ap outcomes.number z) in
      let q : a.errors ≡ (after L d).error_count = ap (λ (a : After). a.error_count) p in
      ((λ h. i.0 (sym q ∙ h)), λ h. q ∙ i.1 h)

  -- and as one parsing expression of Ford's
  pub read_accepts_ford : a.outcome ≡ Done → (a.errors ≡ 0) ↔ ((n : ℕ) × Ford (rules L.entrypoint) (star any_item) (strip d.ids) n (Res.yes []))
  read_accepts_ford z =
      let i = theorems.demand_2_ford L d zero_number (sym (ap (λ (a : After). a.outcome) p) ∙ ap outcomes.number z) in
      let q : a.errors ≡ (after L d).error_count = ap (λ (a : After). a.error_count) p in
      ((λ h. i.0 (sym q ∙ h)), λ h. q ∙ i.1 h)

  -- DEMAND 3: "what it writes up to the closing SOURCE_FILE event is what demand 2 gives inside SOURCE_FILE for the remaining rows as a file of their
  -- own with fuel f, places and record numbers shifted", and item numbers (request (x)): whoever reads the remaining rows is given R', which continues what was given here
  pub read_continues : (n : ℕ) (scratch events errors : List ℕ) → let s : P.State = standing L d n in let d' : Desk = remaining d s scratch events errors in
      Running s.mode → words (length d'.ids) ≤ length scratch → length d.events ≤ length events → length d.errors ≤ length errors →
      (R' : Reading) × (answer L d' ≡ given R') × Continued L d n s read_given.0 R'
  read_continues n scratch events errors = theorems.demand_3 L d n scratch events errors read_given.0 read_given.1

  -- "fuel left is fuel given less the definition's `begin` steps, or 0 if they are more"
  pub read_fuel : a.left ≡ d.fuel - P.begin_steps L d.ids d.fuel
  read_fuel = ap (λ (a : After). a.left) left ∙ theorems.fuel_left_is L d read_given.0 read_given.1

refuelled : After → ℕ → After
refuelled a f = record { number = a.number; outcome = a.outcome; covered = a.covered; event_count = a.event_count; error_count = a.error_count; left = f; events = a.events; errors = a.errors; scratch = a.scratch }

with_left : Result Answered R.Refusal → ℕ → Result Answered R.Refusal
with_left (Err n) f = Err n
with_left (Ok a) f = ends a.outcome a.covered a.events a.errors f

-- REQUEST (xiii): "More fuel never changes a finished reading", for any limits L. Here a reading ended with outcome 0.
module _ (L : Limits) (d : Desk) {c e k f : ℕ} {ev er sc : List ℕ} (p : Promised L d (ends Done c e k f) ev er sc) where
  was_given : (R : Reading) × (answer L d ≡ given R)
  was_given = answered L d (sym (ap (λ (a : After). a.number) p))

  same_after : after_of (ends Done c e k f) ev er sc ≡ left_by d (given was_given.0)
  same_after = p ∙ ap (left_by d) was_given.1

  done : was_given.0.outcome ≡ 0
  done = sym (ap (λ (a : After). a.outcome) same_after)

  -- the fuel that it used
  abbrev pub spent : ℕ
  spent = d.fuel - f

  steps_are : P.begin_steps L d.ids d.fuel ≡ spent
  steps_are = omega (arith, theorems.fuel_used L d was_given.0 was_given.1 done, ap (λ (a : After). a.left) same_after)

  pub fuel_kept : f ≤ d.fuel
  fuel_kept = omega (arith, theorems.fuel_used L d was_given.0 was_given.1 done, ap (λ (a : After). a.left) same_after)

  -- on any fuel that is not less than was spent: the same result but for the fuel left, and the same buffers; it is never refused
  pub read_enough_fuel : (g : ℕ) (r' : Result Answered R.Refusal) (ev' er' sc' : List ℕ)
      → spent ≤ g
      → Promised L (theorems.fuelled d g) r' ev' er' sc'
      → (r' ≡ ends Done c e k (g - spent)) × (ev' ≡ ev) × (er' ≡ er) × (sc' ≡ sc)
  unfolding refuelled
  read_enough_fuel g r' ev' er' sc' l q =
      let n : P.begin_steps L d.ids d.fuel ≤ g = omega (arith, l, steps_are) in
      let w = ap (left_by (theorems.fuelled d g)) (theorems.more_fuel_same L d was_given.0 was_given.1 done g n) in
      let z : after_of (ends Done c e k (g - spent)) ev er sc ≡ after L (theorems.fuelled d g) =
      ap (λ (a : After). refuelled a (g - spent)) same_after ∙ ap (λ (i : ℕ). refuelled (left_by d (given was_given.0)) (g - i)) (sym steps_are) ∙ sym w in
      one_outcome L (theorems.fuelled d g) r' (ends Done c e k (g - spent)) ev' er' sc' ev er sc q z

  -- "if a file ends with outcome 0 on fuel f, then on any larger fuel its events and error records are the same and the fuel left is larger by just the
  -- difference"
  pub read_more_fuel : (g : ℕ) (r' : Result Answered R.Refusal) (ev' er' sc' : List ℕ)
      → d.fuel ≤ g
      → Promised L (theorems.fuelled d g) r' ev' er' sc'
      → (r' ≡ ends Done c e k (f + (g - d.fuel))) × (ev' ≡ ev) × (er' ≡ er) × (sc' ≡ sc)
  read_more_fuel g r' ev' er' sc' l q =
      let z = read_enough_fuel g r' ev' er' sc' (omega (arith, l)) q in
      let i : g - spent ≡ f + (g - d.fuel) = omega (arith, l, fuel_kept) in
      (z.0 ∙ ap (ends Done c e k) i, z.1, z.2, z.3)

  -- "fuel too small by any amount ends with outcome 1 and never 0", in any rooms in which it is answered
  pub read_less_fuel : (g : ℕ) (lsc lev ler : List ℕ) (o' : Outcome) {c' e' k' f' : ℕ} {ev' er' sc' : List ℕ}
      → g < spent
      → Promised L (theorems.relent d g lsc lev ler) (ends o' c' e' k' f') ev' er' sc'
      → o' ≡ Spent
  unfolding outcome_at
  read_less_fuel g lsc lev ler o' l q =
      let d' : Desk = theorems.relent d g lsc lev ler in
      let z = answered L d' (sym (ap (λ (a : After). a.number) q)) in
      sym (outcome_back o')
      ∙ ap outcome_at
      (ap (λ (a : After). a.outcome) (q ∙ ap (left_by d') z.1) ∙ theorems.less_fuel_stops L d was_given.0 was_given.1 done g lsc lev ler (omega (arith, l, steps_are)) z.0 z.1)

  -- "the fuel a file uses when it finishes is the least that finishes it"
  pub read_least_fuel : (g : ℕ) (lsc lev ler : List ℕ) {c' e' k' f' : ℕ} {ev' er' sc' : List ℕ}
      → Promised L (theorems.relent d g lsc lev ler) (ends Done c' e' k' f') ev' er' sc'
      → spent ≤ g
  read_least_fuel g lsc lev ler q =
      let d' : Desk = theorems.relent d g lsc lev ler in
      let z = answered L d' (sym (ap (λ (a : After). a.number) q)) in
      let i = theorems.least_fuel L d was_given.0 was_given.1 done g lsc lev ler z.0 z.1 (sym (ap (λ (a : After). a.outcome) (q ∙ ap (left_by d') z.1))) in
      omega (arith, i, steps_are)

  -- the lists of two finished readings in other rooms: the same numbers, each list with zeros behind it
  pub read_same_lists : (g : ℕ) (lsc lev ler : List ℕ) (o' : Outcome) {c' e' k' f' : ℕ} {ev' er' sc' : List ℕ}
      → spent ≤ g
      → Promised L (theorems.relent d g lsc lev ler) (ends o' c' e' k' f') ev' er' sc'
      → (ends o' c' e' k' f' ≡ ends Done c e k (g - spent))
      × ((events errors : List ℕ) × (ev ≡ filled events d.events) × (ev' ≡ filled events lev) × (er ≡ filled errors d.errors) × (er' ≡ filled errors ler))
  unfolding outcome_at answer_of with_left
  read_same_lists g lsc lev ler o' {c'} {e'} {k'} {f'} {ev'} {er'} {sc'} l q =
      let d' : Desk = theorems.relent d g lsc lev ler in
      let z = answered L d' (sym (ap (λ (a : After). a.number) q)) in
      let G : Reading = was_given.0 in
      let i = theorems.more_fuel_lists L d G was_given.1 done g lsc lev ler (omega (arith, l, steps_are)) z.0 z.1 in
      let w = q ∙ ap (left_by d') (z.1 ∙ ap given i) in
      let back = answer_back (ends o' c' e' k' f') ev' er' sc' in
      let y : ends o' c' e' k' f' ≡ ends (outcome_at G.outcome) G.covered (length G.events) (length G.errors) (g - P.begin_steps L d.ids d.fuel) = sym back ∙ ap answer_of w in
      let x : ends Done c e k f ≡ ends (outcome_at G.outcome) G.covered (length G.events) (length G.errors) G.left = ap answer_of same_after in (
        y ∙ ap (λ (r : Result Answered R.Refusal). with_left r (g - P.begin_steps L d.ids d.fuel)) (sym x) ∙ ap (λ (n : ℕ). ends Done c e k (g - n)) steps_are,
        (flat G.events, flat_records (owned G.errors G.items), ap (λ (a : After). a.events) same_after, ap (λ (a : After). a.events) w, ap (λ (a : After). a.errors) same_after, ap (λ (a : After). a.errors) w),
      )
