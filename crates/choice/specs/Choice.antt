-- Error choice: what stood at a row, the names, a look through the records, and what one more record does to them.
use Rattle.std.specs.Prelude.{ℕ, zero, suc, ◌+◌, ◌≤◌, ◌≡◌, List, [], ◌∷◌, ◌++◌, Bool, true, false, ◌&&◌, eqb, ltb, length, take}
use Rattle.shapes.specs.Shapes.{behind, flat_records, of_item}
use Rattle.definition.specs.Run.{Choice, wanted, unwanted}
use Rattle.definition.specs.Render.{Source}
use Rattle.notes.specs.Whole.{Whole}
use Rattle.notes.specs.Bits.{ifb}
use Rattle.notes.specs.Change.{with_er, with_full}
use Rattle.notes.specs.Means.{Past, recorded, Chosen}
use Rattle.notes.specs.Did.{Below, Distinct}
use Rattle.choice.specs.declared.Names.{Names}

abbrev pub choice_of : Bool → List ℕ → Choice
choice_of true ns = wanted ns
choice_of false ns = unwanted

-- each name once, so there are never more than 85
pub record Spelt (count : ℕ) (names : List ℕ) : Type 0 where
  pub few : count ≤ 85
  pub long : length names ≡ 96
  pub below : Below 85 (take count names)
  pub distinct : Distinct (take count names)

-- the names are those of the list, in its order
pub record Spells (l : List ℕ) (r : Names) : Type 0 where
  pub names : take r.count r.names ≡ l
  pub spelt : Spelt r.count r.names

-- whether one of the records has the span, where k numbers are still to be passed over
unfoldable pub scan : ℕ → ℕ → ℕ → List ℕ → Bool
scan s e (suc k) (a ∷ l) = scan s e k l
scan s e zero (a ∷ b ∷ form ∷ item ∷ n ∷ l) = elim (eqb a s && eqb b e) [ true ↦ true | false ↦ scan s e (behind form n) l ]
scan s e zero (a ∷ b ∷ form ∷ item ∷ []) = false
scan s e zero (a ∷ b ∷ form ∷ []) = false
scan s e zero (a ∷ b ∷ []) = false
scan s e zero (a ∷ []) = false
scan s e k [] = false

-- a record was written at the end of the errors, if there was room
pub record Noted (q : List ℕ) (s r : Whole) (er er' : List ℕ) : Type 0 where
  pub is : r ≡ with_er r.er (with_full r.full s)
  pub filled : r.full ≡ ifb (ltb s.ercap (s.er + length q)) 8 0
  pub wrote : r.full ≡ 0 → take r.er er' ≡ take s.er er ++ q
  pub fits : r.er ≤ s.ercap
  pub grows : s.er ≤ r.er
  pub long : length er' ≡ length er

-- the records that stand are those of the pending errors
abbrev pub Pends : Source → Past → Whole → List ℕ → List (ℕ × Choice) → Type 0
Pends x p s er es = Chosen x p s.first s.er s.ercap s.item s.quote s.number er es

-- the pending errors become g of them, if there is room for their records
pub record Chose (g : List (ℕ × Choice) → List (ℕ × Choice)) (x : Source) (s r : Whole) (er er' : List ℕ) : Type 0 where
  pub is : r ≡ with_er r.er (with_full r.full s)
  pub filled : (p : Past) (es : List (ℕ × Choice)) → Pends x p s er es → r.full ≡ ifb (ltb s.ercap (length (flat_records (p.records ++ of_item p.number (recorded p.limits x (g es)))))) 8 0
  pub chosen : (p : Past) (es : List (ℕ × Choice)) → Pends x p s er es → r.full ≡ 0 → Pends x p r er' (g es)
  pub fits : r.er ≤ s.ercap
  pub grows : s.er ≤ r.er
  pub long : length er' ≡ length er
