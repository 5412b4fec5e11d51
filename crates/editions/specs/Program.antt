-- A listing that the program could have written in an edition, by the definitions of lines that it writes by (crate `listing`): numbers of 32 bits, nodes
-- that close as many as were begun, kinds and names as document 01 has them, and the depths that the edition shows the counted ones.
use Rattle.std.specs.Prelude.{ℕ, ◌+◌, ◌^◌, ◌≤◌, ◌<◌, ◌≡◌, List, [], ◌∷◌, true, false, length, get_or}
use Rattle.shapes.specs.Sort as Sort
use Rattle.shapes.specs.Shapes.{HEAD, FORM, COUNT}
use Rattle.listing.specs.Listing.{last_field, names_of, item_of, records_from, listed, refused, unread}
use Rattle.editions.specs.Fields.{has}
use Rattle.editions.specs.Sorts.{NODES, KINDS}
use Rattle.editions.specs.Editions.{allowed, opened, field}

abbrev pub Small : ℕ → Type 0
Small n = n < 2 ^ 32

-- "names stand in order of first entry, none twice"
abbrev pub Distinct : List ℕ → List ℕ → Type 0
Distinct seen [] = Unit
Distinct seen (n ∷ ns) = (n < 85) × (has n seen ≡ false) × Distinct (n ∷ seen) ns

-- the error record that a list begins with: forms 1 to 3 have names, and the others none
pub record Recorded (l : List ℕ) : Type 0 where
  pub form_least : 1 ≤ get_or l FORM 0
  pub form_most : get_or l FORM 0 ≤ 10
  pub start : Small (get_or l 0 0)
  pub end : Small (get_or l 1 0)
  pub some_names : get_or l FORM 0 ≤ 3 → 0 < length (names_of l)
  pub distinct : get_or l FORM 0 ≤ 3 → Distinct [] (names_of l)
  pub no_names : 3 < get_or l FORM 0 → names_of l ≡ []
  pub place : Small (get_or l (HEAD + get_or l COUNT 0) 0)
  pub item : Small (item_of l)

-- an event, with the error records: "kinds of nodes in `B` and `E`, of rows in `T`"
pub data Event : List ℕ → ℕ → ℕ → ℕ → ℕ → Type 0 where
  begin : {errors : List ℕ} {k start end : ℕ} → NODES ≤ k → k < KINDS → Small start → Small end → Event errors Sort.BEGIN k start end
  token : {errors : List ℕ} {k start end : ℕ} → k < NODES → Small start → Small end → Event errors Sort.TOKEN k start end
  close : {errors : List ℕ} {k start end : ℕ} → NODES ≤ k → k < KINDS → Small start → Small end → Event errors Sort.END k start end
  fault : {errors : List ℕ} {i start end : ℕ} → Recorded (records_from i errors) → Event errors Sort.ERROR i start end

-- what the edition shows of an event's depth where d nodes are open; an error's line shows its item in place of it
abbrev pub Counted : ℕ → ℕ → ℕ → ℕ → Type 0
Counted edition sort d depth = (sort ≡ Sort.ERROR → ⊥) → last_field edition depth ≡ last_field edition (field sort d)

-- events one after the other, where d nodes are open: no end with none, and none at the end
abbrev pub Events : ℕ → List ℕ → ℕ → List ℕ → Type 0
Events edition errors d [] = d ≡ 0
Events edition errors d (a ∷ []) = ⊥
Events edition errors d (a ∷ b ∷ []) = ⊥
Events edition errors d (a ∷ b ∷ c ∷ []) = ⊥
Events edition errors d (a ∷ b ∷ c ∷ e ∷ []) = ⊥
Events edition errors d (a ∷ b ∷ c ∷ e ∷ depth ∷ events) =
    (allowed a d ≡ true) × Event errors a b c e × Counted edition a d depth × Events edition errors (opened a d) events

-- the program could have written in this edition what has these texts, one in each edition
pub data Could : ℕ → (ℕ → List ℕ) → Type 0 where
  was_read : {edition : ℕ} (events errors : List ℕ) (outcome rows fuel : ℕ) → Events edition errors 0 events → Small outcome → Small rows → Small fuel
      → Could edition (λ (e : ℕ). listed e events errors outcome rows fuel)
  was_refused : {edition : ℕ} (n : ℕ) → Small n → Could edition (λ (e : ℕ). refused e n)
  was_unread : {edition : ℕ} (n : ℕ) → Small n → Could edition (λ (e : ℕ). unread e n)
