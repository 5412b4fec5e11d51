-- Request (xiv): "From a settings edition that turns it off .. ENTRYPOINT_KW no longer begins a term." Where it is off the row is no term, and no file
-- that has it is accepted; where it is allowed it is a term. E is the limit that says which.
use Prim.Native.Nat.{ℕ}
use mathlib.Core.Path.{◌≡◌, refl, sym, subst}
use mathlib.Core.Logic.{inl}
use mathlib.Core.List.{List, [], ◌∷◌, ◌++◌}
use mathlib.Core.Bool.{true, false}
use Rattle.kinds.specs.Kinds as k
use Rattle.kinds.specs.Sets.{id_of}
use Rattle.definition.specs.Prog.{TERM, unless, node}
use Rattle.definition.specs.Grammar.{grammar, kind, plain_terms}
use Rattle.definition.specs.Ford.{Res, Ford, nt, rules, strip, Items, no_more, one_item, Accepts}
use Rattle.definition.proofs.Peg.{Peg, eat_yes, alt_yes, node_is}
use Rattle.definition.proofs.Det.{det, yes_no}
use Rattle.definition.proofs.First.{dies_no}
use Rattle.definition.proofs.Every.{productions, each}
use Rattle.definition.proofs.Only.{Each, none_left, one_more, Others, bare}
use Rattle.definition.proofs.Only as only
use Rattle.definition.proofs.Published.{an_item, to_ford, from_ford}

-- what a term begins with where entrypoint is off
abbrev begins : List ℕ
begins = plain_terms false ++ (k.PATTERN_COUNT ∷ k.PATTERN_OFFSET ∷ k.PATTERN_LENGTH ∷ k.MINUS ∷ k.BITWISE_NOT ∷ k.L_PAREN ∷ k.IDENT ∷ [])

no_term : (r : List ℕ) → Peg false (node TERM) (k.ENTRYPOINT_KW ∷ r) Res.no
unfolding grammar id_of
no_term r = dies_no begins (k.ENTRYPOINT_KW ∷ r) (node TERM) tt tt

pub entrypoint_no_term : (r : List ℕ) → (n : ℕ) × Ford (rules false) (nt TERM) (k.ENTRYPOINT_KW ∷ r) n Res.no
entrypoint_no_term r = to_ford (no_term r)

is_term : (r : List ℕ) → Peg true (node TERM) (k.ENTRYPOINT_KW ∷ r) (Res.yes r)
unfolding grammar id_of
is_term r = node_is (alt_yes (eat_yes k.ENTRYPOINT_KW refl))

pub entrypoint_term : (r : List ℕ) → (n : ℕ) × Ford (rules true) (nt TERM) (k.ENTRYPOINT_KW ∷ r) n (Res.yes r)
entrypoint_term r = to_ford (is_term r)

-- none of the rows has the id
abbrev pub Without : ℕ → List ℕ → Type 0
Without w [] = Unit
Without w (i ∷ is) = (i ≡ w → ⊥) × Without w is

-- no production takes the row
others : Others false k.ENTRYPOINT_KW TERM [] [] (unless [])
unfolding productions grammar kind id_of
others a = inl (each (λ a. bare k.ENTRYPOINT_KW (grammar false a)) tt a)

spared : {r r' : List ℕ} → Each false k.ENTRYPOINT_KW TERM [] [] (unless []) r r' → Without k.ENTRYPOINT_KW r' → Without k.ENTRYPOINT_KW r
spared none_left h = h
spared (one_more {i = i} {is = is} g d) h = (λ e. absurd (not_here e (g e)), spared d h)
  where
    not_here : i ≡ k.ENTRYPOINT_KW → (r₁ : List ℕ) × Peg false (grammar false TERM) (i ∷ is) (Res.yes r₁) → ⊥
    not_here e y = yes_no y.0 (det (node_is y.1) Res.no (subst (λ (j : ℕ). Peg false (node TERM) (j ∷ is) Res.no) (sym e) (no_term is)))

item_without : {r r' : List ℕ} → Peg false an_item r (Res.yes r') → Without k.ENTRYPOINT_KW r' → Without k.ENTRYPOINT_KW r
item_without d h = spared (only.each false k.ENTRYPOINT_KW TERM [] [] (unless []) others tt d (inl tt)) h

items_without : {r : List ℕ} → Items false r → Without k.ENTRYPOINT_KW r
items_without no_more = tt
items_without (one_item g is) = item_without (from_ford an_item g) (items_without is)

-- THE THEOREM
pub none_accepted : (ids : List ℕ) → Accepts false ids → Without k.ENTRYPOINT_KW (strip ids)
none_accepted ids a = items_without a
