-- What writing leaves in a room, and where an error record stands.
use Rattle.std.specs.Prelude.{ℕ, ◌+◌, ◌≤◌, ◌≡◌, List, ◌++◌, length, take, drop}
use Rattle.listing.specs.Listing.{records_from}
use Rattle.listing.specs.declared.write.Writer.{Writer}

-- the text was written at a place up to r, and the rest is as it was
pub record Put (text : List ℕ) (at : ℕ) (before after : List ℕ) (r : ℕ) : Type 0 where
  pub count : r ≡ at + length text
  pub within : r ≤ length before
  pub written : after ≡ take at before ++ (text ++ drop r before)

-- a writer wrote the text behind what it had written, in the same room
pub record Wrote (text : List ℕ) (before after : Writer) : Type 0 where
  pub same : after.room.ghost_name ≡ before.room.ghost_name
  pub as_long : length after.room.now ≡ length before.room.now
  pub put : Put text before.at before.room.now after.room.now after.at

-- the record with number k begins at the place
pub record Stands (l : List ℕ) (k place : ℕ) : Type 0 where
  pub within : place ≤ length l
  pub is : drop place l ≡ records_from k l
