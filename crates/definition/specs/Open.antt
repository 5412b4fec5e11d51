-- No part of what the reader does: what the contracts of the code's steps say of the events, that those added are nested and which node is open.
use Rattle.std.specs.Prelude.{ℕ, zero, suc, ◌*◌, List, [], ◌∷◌, ◌++◌, ◌≡◌, length}
use Rattle.shapes.specs.Shapes.{EVENT}
use Rattle.definition.specs.Run.{Event, opened, leaf, closed, bad}

-- h nodes are still to be opened before w, from the last event to the first; g are after it
abbrev pub Nest : ℕ → List Event → ℕ → Type 0
Nest h [] g = h ≡ g
Nest zero (opened n ∷ w) g = ⊥
Nest (suc h) (opened n ∷ w) g = Nest h w g
Nest h (leaf a n ∷ w) g = Nest h w g
Nest h (closed a n m ∷ w) g = Nest (suc h) w g
Nest h (bad n c ∷ w) g = Nest h w g

-- b is a and what was added, nested: every closing in it has its opening in it, and none is left open
pub record Adds (a b : List Event) : Type 0 where
  pub new : List Event
  pub joins : new ++ a ≡ b
  pub nest : (h : ℕ) → Nest h new h

-- the innermost node that is open in o: its begin event ends at p
pub record Open (p : ℕ) (o : List Event) : Type 0 where
  pub row : ℕ
  pub before : List Event
  pub added : Adds (opened row ∷ before) o
  pub place : p ≡ EVENT * suc (length before)
