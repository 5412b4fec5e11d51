-- How kinds and names are spelled: as docs/KINDS.md has them, in bytes.
use Rattle.std.specs.Prelude.{ℕ, ◌≤◌, ◌≡◌, List, [], ◌∷◌, ◌++◌, map, length, get_or, take, drop}
use Rattle.std.proofs.Common.{Bor}
use Prim.Native.Char.{code}
use Prim.Native.String as s
use Rattle.kinds.specs.Texts as t

-- the page's texts are plain ASCII: a character's code is its byte
abbrev pub bytes : s.String → List ℕ
bytes s.[] = []
bytes (s.◌∷◌ c cs) = code c ∷ bytes cs

abbrev pub kind_texts : List (List ℕ)
kind_texts = map bytes t.kinds

abbrev pub name_texts : List (List ℕ)
name_texts = map bytes t.names

-- the kinds' texts, then the names'
abbrev pub spellings : List (List ℕ)
spellings = kind_texts ++ name_texts

-- a number that is none has the empty text
unfoldable pub kind_text : ℕ → List ℕ
kind_text k = get_or kind_texts k []

unfoldable pub name_text : ℕ → List ℕ
name_text n = get_or name_texts n []

-- the n-th of a table's texts, and the empty text past the last
abbrev pub nth : List (Bor (List ℕ)) → ℕ → List ℕ
nth ts n = get_or (map (λ (t : Bor (List ℕ)). t.now) ts) n []

-- r bytes were written at the front of the room, and the rest is as it was.
-- The last two follow, and are stated so that a caller may lend that front without a proof of its own.
pub record Spelled (text before after : List ℕ) (r : ℕ) : Type 0 where
  pub count : r ≡ length text
  pub written : after ≡ text ++ drop (length text) before
  pub within : r ≤ length after
  pub front : r ≡ length (take r after)
