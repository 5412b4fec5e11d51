-- What it is for a text to match an expression, with no derivative: a text is a list of classes.
use Rattle.std.specs.Prelude.{ℕ, ◌+◌, ◌≡◌, List, [], ◌∷◌, ◌++◌, Bool, not, ◌⊎◌, T, drop}
use Rattle.tokens.specs.Glyph.{glyph}
use Rattle.tokens.specs.Expr.{Expr, ε, one, but, ◌⨾◌, ◌∣◌, many, has, Tokens}

abbrev pub Empty : List ℕ → Type 0
Empty [] = Unit
Empty (c ∷ w) = ⊥

-- one character that passes the test
abbrev pub Single : (ℕ → Bool) → List ℕ → Type 0
Single p [] = ⊥
Single p (c ∷ []) = T (p c)
Single p (c ∷ d ∷ w) = ⊥

-- any number of pieces, none of which is empty (an empty piece adds nothing)
pub data Many (P : List ℕ → Type 0) : List ℕ → Type 0 where
  done : Many P []
  more : (c : ℕ) (u v : List ℕ) {w : List ℕ} → P (c ∷ u) → Many P v → w ≡ c ∷ (u ++ v) → Many P w

abbrev pub Matches : Expr → List ℕ → Type 0
Matches ε w = Empty w
Matches (one xs) w = Single (has xs) w
Matches (but xs) w = Single (λ c. not (has xs c)) w
Matches (r ⨾ s) w = (u : List ℕ) × (v : List ℕ) × (w ≡ u ++ v) × Matches r u × Matches s v
Matches (r ∣ s) w = Matches r w ⊎ Matches s w
Matches (many r) w = Many (Matches r) w

-- the first n bytes are whole characters of the classes w
abbrev pub Reads : ℕ → List ℕ → ℕ → List ℕ → Type 0
Reads m s n [] = n ≡ 0
Reads m [] n (c ∷ w) = ⊥
Reads m (x ∷ xs) n (c ∷ w) =
    (c ≡ (glyph m (x ∷ xs)).0) × (k : ℕ) × (n ≡ (glyph m (x ∷ xs)).1 + k) × Reads m (drop (glyph m (x ∷ xs)).1 (x ∷ xs)) k w

-- the kind and its expression are listed
abbrev pub Listed : ℕ → Expr → Tokens → Type 0
Listed k r [] = ⊥
Listed k r (t ∷ ts) = ((k ≡ t.0) × (r ≡ t.1)) ⊎ Listed k r ts

-- the first n bytes, one character at least, match an expression of the kind
pub record Fits (m : ℕ) (ts : Tokens) (s : List ℕ) (k n : ℕ) : Type 0 where
  pub class : ℕ
  pub word : List ℕ
  pub expr : Expr
  pub reads : Reads m s n (class ∷ word)
  pub listed : Listed k expr ts
  pub matches : Matches expr (class ∷ word)
