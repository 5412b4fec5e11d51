-- What a line of edition 1 is: the sort of its event, or one of two sorts of lines that end a listing; 0 where it is none.
use Rattle.std.specs.Prelude.{ℕ, List, [], ◌∷◌, cond, eqb, Option, Some, None}
use Rattle.kinds.specs.Kinds as k
use Rattle.shapes.specs.Sort as Sort
use Rattle.editions.specs.Fields.{plains, node, error}
use Rattle.editions.specs.declared.sort.LineSort.{LineSort}
use Rattle.editions.specs.declared.sort.LineSort.TheVariants as L

-- "`R` holds outcome, rows, fuel left."
abbrev pub RESULT : ℕ
RESULT = 5

-- "`F` and the number", "`N` and the number": it stands alone behind the `L` line
abbrev pub ALONE : ℕ
ALONE = 6

-- the number of what the code answers
abbrev pub number_of : Option LineSort → ℕ
number_of None = 0
number_of (Some (L.Event sort)) = Sort.number sort
number_of (Some L.Result) = RESULT
number_of (Some L.Alone) = ALONE

-- kinds of rows stand before it, and of nodes from it on up to their count
abbrev pub NODES : ℕ
NODES = k.ERROR

abbrev pub KINDS : ℕ
KINDS = 122

-- "kinds of nodes in `B` and `E`, of rows in `T`"
unfoldable pub lettered : ℕ → List (List ℕ) → ℕ
lettered c fs =
    cond (eqb c 66) (cond (node NODES KINDS fs) Sort.BEGIN 0)
    (cond (eqb c 84) (cond (node 0 NODES fs) Sort.TOKEN 0)
    (cond (eqb c 69) (cond (node NODES KINDS fs) Sort.END 0)
    (cond (eqb c 88) (cond (error fs) Sort.ERROR 0)
    (cond (eqb c 82) (cond (plains 3 fs) RESULT 0)
    (cond (eqb c 78) (cond (plains 1 fs) ALONE 0)
    (cond (eqb c 70) (cond (plains 1 fs) ALONE 0) 0))))))

unfoldable pub sort_of : List (List ℕ) → ℕ
sort_of [] = 0
sort_of ([] ∷ fs) = 0
sort_of ((c ∷ []) ∷ fs) = lettered c fs
sort_of ((c ∷ d ∷ l) ∷ fs) = 0
