-- Listings that document 01 gives whole, byte for byte: P4, and the answers to a refused file and to a line that does not read; and what edition 2 adds.
use mathlib.Core.Path.{◌≡◌, refl}
use mathlib.Core.List.{[], ◌∷◌}
use Rattle.kinds.specs.Kinds as k
use Rattle.kinds.specs.Spelling.{bytes, kind_text}
use Rattle.listing.specs.Numbers.{decimal}
use Rattle.listing.specs.Listing.{last_field, names_of, place_of, error_line, event_line, listed, refused, unread}

p4 : listed 1
    (1 ∷ k.SOURCE_FILE ∷ 0 ∷ 22 ∷ 0 ∷ 1 ∷ k.ERROR ∷ 0 ∷ 0 ∷ 1 ∷ 1 ∷ k.ERROR ∷ 0 ∷ 0 ∷ 2 ∷ 3 ∷ k.ERROR ∷ 0 ∷ 0 ∷ 2 ∷ 3 ∷ k.ERROR ∷ 0 ∷ 0 ∷ 1 ∷ 3 ∷ k.SOURCE_FILE ∷ 0 ∷ 22 ∷ 0 ∷ [])
    [] 1 0 0
    ≡ bytes "L\t1\nB\tSOURCE_FILE\t0\t22\nB\tERROR\t0\t0\nB\tERROR\t0\t0\nE\tERROR\t0\t0\nE\tERROR\t0\t0\nE\tSOURCE_FILE\t0\t22\nR\t1\t0\t0\n"
unfolding event_line last_field kind_text decimal
p4 = refl

refusal : refused 1 10 ≡ bytes "L\t1\nF\t10\n"
unfolding decimal
refusal = refl

bad_line : unread 1 5000 ≡ bytes "L\t1\nN\t5000\n"
unfolding decimal
bad_line = refl

-- in edition 2: a node's begin and end have one depth, and an error of form 9 has its place and then its item
two : listed 2
    (1 ∷ k.SOURCE_FILE ∷ 0 ∷ 22 ∷ 0 ∷ 1 ∷ k.ERROR ∷ 0 ∷ 3 ∷ 1 ∷ 2 ∷ 0 ∷ 0 ∷ 3 ∷ 2 ∷ 3 ∷ k.ERROR ∷ 0 ∷ 3 ∷ 1 ∷ 4 ∷ 0 ∷ 0 ∷ 3 ∷ 1 ∷ 3 ∷ k.SOURCE_FILE ∷ 0 ∷ 22 ∷ 0 ∷ [])
    (0 ∷ 3 ∷ 9 ∷ 7 ∷ 0 ∷ 2 ∷ []) 0 1 5
    ≡ bytes "L\t2\nB\tSOURCE_FILE\t0\t22\t0\nB\tERROR\t0\t3\t1\nT\tWHITESPACE\t0\t3\t2\nE\tERROR\t0\t3\t1\nX\t9\t0\t3\t-\t2\t7\nE\tSOURCE_FILE\t0\t22\t0\nR\t0\t1\t5\n"
unfolding event_line error_line place_of names_of last_field kind_text decimal
two = refl

two_refusal : refused 2 10 ≡ bytes "L\t2\nF\t10\n"
unfolding decimal
two_refusal = refl
