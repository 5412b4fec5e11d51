-- Document 01's small files, P1 to P9, and those of request (ii), as one table: `table` says that the public definition gives what the paper writes of
-- each of the first, and what the Rust gives for each of the others. Every error record has its item's number (request (x)).
use Rattle.std.specs.Prelude.{ℕ, zero, suc, ◌+◌, ◌-◌, ◌*◌, List, [], ◌∷◌, ◌++◌, Bool, true, false, ◌&&◌, ◌||◌, eqb, length, replicate, take, drop}
use Prim.Native.String.{String}
use Rattle.kinds.specs.Kinds as k
use Rattle.shapes.specs.Shapes.{EVENT, flat}
use Rattle.definition.specs.Run.{base}
use Rattle.definition.specs.Answer.{Desk, words, After, after, filled}
use Rattle.definition.specs.Merge.{Merged, unmerged, merged, merger}
use Rattle.definition.specs.Spelled.{spelled, joined}

abbrev pub same : List ℕ → List ℕ → Bool
same [] [] = true
same [] (y ∷ ys) = false
same (x ∷ xs) [] = false
same (x ∷ xs) (y ∷ ys) = eqb x y && same xs ys

-- a file, and what is written of it: outcome, rows covered, fuel left, counts of events and error records, and the records
pub record Case : Type 0 where
  pub text : String
  pub ids : List ℕ
  pub ends : List ℕ
  pub fuel : ℕ
  pub outcome : ℕ
  pub covered : ℕ
  pub left : ℕ
  pub events : ℕ
  pub records : ℕ
  pub errors : List ℕ

abbrev starts_of : ℕ → List ℕ → List ℕ
starts_of a [] = []
starts_of a (e ∷ es) = a ∷ starts_of e es

-- what is lent holds no zero
abbrev lent : ℕ → List ℕ
lent n = replicate n 9

abbrev pub desk : Case → ℕ → ℕ → Desk
desk c event_room error_room =
    record {
      bytes = spelled c.text;
      ids = c.ids;
      starts = starts_of 0 c.ends;
      ends = c.ends;
      fuel = c.fuel;
      scratch = lent (words (length c.ids));
      events = lent event_room;
      errors = lent error_room;
    }

abbrev results : After → List ℕ
results a = a.number ∷ a.outcome ∷ a.covered ∷ a.event_count ∷ a.error_count ∷ a.left ∷ []

-- the case's answer: its results, and its error records in the errors' room
abbrev pub agrees : Case → After → Bool
agrees c a =
    same (results a) (0 ∷ c.outcome ∷ c.covered ∷ c.events ∷ c.records ∷ c.left ∷ [])
    && same a.errors (filled c.errors a.errors)

-- refusal 7: zeros
abbrev full : Case → After → Bool
full c a =
    same (results a) (7 ∷ replicate 5 0)
    && same a.events (replicate (EVENT * c.events - EVENT) 0)
    && same a.errors (replicate 8 0)
    && same a.scratch (0 ∷ [])

-- each file with room for just its events, and with four numbers less
abbrev all : List Case → Bool
all [] = true
all (c ∷ cs) = agrees c (after base (desk c (EVENT * c.events) 8)) && full c (after base (desk c (EVENT * c.events - EVENT) 8)) && all cs

abbrev rule_ids : List ℕ → List ℕ
rule_ids l = k.RULE_KW ∷ k.WHITESPACE ∷ k.IDENT ∷ k.L_BRACE ∷ k.CONDITION_KW ∷ k.COLON ∷ k.TRUE_KW ∷ l

-- text, ids, ends and fuel; then outcome, rows covered, fuel left, counts of events and of error records; then the records
abbrev case : String → List ℕ → List ℕ → ℕ → ℕ → ℕ → ℕ → ℕ → ℕ → List ℕ → Case
case t i e f o c l v r x = record { text = t; ids = i; ends = e; fuel = f; outcome = o; covered = c; left = l; events = v; records = r; errors = x }

-- "R is `rule a{condition:true}`: eight rows, ends 4, 5, 6, 7, 16, 17, 21, 22."
abbrev R : ℕ → ℕ → ℕ → ℕ → ℕ → ℕ → List ℕ → Case
R = case "rule a{condition:true}" (rule_ids (k.R_BRACE ∷ [])) (4 ∷ 5 ∷ 6 ∷ 7 ∷ 16 ∷ 17 ∷ 21 ∷ 22 ∷ [])

-- "No bytes, fuel 0: two events, done, fuel 0."
abbrev P1 : Case
P1 = case "" [] [] 0 0 0 0 2 0 []

-- "R, fuel 5: 18 events, no error, fuel 0 left."
abbrev P2 : Case
P2 = R 5 0 8 0 18 0 []

-- "R, fuel 4: out of fuel, 6 rows covered, one error 7..16, form 1, names META_KW, STRINGS_KW; 17 events."
abbrev P3 : Case
P3 = R 4 1 6 0 17 1 (7 ∷ 16 ∷ 1 ∷ 1 ∷ 2 ∷ k.META_KW ∷ k.STRINGS_KW ∷ [])

-- "R, fuel 1: given whole below."
abbrev P4 : Case
P4 = R 1 1 0 0 6 0 []

-- "R, fuel 0: four events, no error, no row covered."
abbrev P5 : Case
P5 = R 0 1 0 0 4 0 []

-- "R without its last byte, fuel 5: error 21..21, form 3, names "operator", R_BRACE."
abbrev P6 : Case
P6 =
    case "rule a{condition:true" (rule_ids []) (4 ∷ 5 ∷ 6 ∷ 7 ∷ 16 ∷ 17 ∷ 21 ∷ [])
    5 0 7 0 18 1 (21 ∷ 21 ∷ 3 ∷ 1 ∷ 2 ∷ k.OPERATOR ∷ k.R_BRACE ∷ [])

-- "`@ ` before R, fuel 5: error 0..1 form 10; 23 events; fuel 0 left."
abbrev P7 : Case
P7 =
    case "@ rule a{condition:true}" (k.UNKNOWN ∷ k.WHITESPACE ∷ rule_ids (k.R_BRACE ∷ [])) (1 ∷ 2 ∷ 6 ∷ 7 ∷ 8 ∷ 9 ∷ 18 ∷ 19 ∷ 23 ∷ 24 ∷ [])
    5 0 10 0 23 1 (0 ∷ 1 ∷ 10 ∷ 1 ∷ 0 ∷ [])

-- "`rule a{condition:true rule b{condition:true}`, fuel 6: one error 22..26, form 1, names "operator", R_BRACE; rule b lies inside an ERROR node."
abbrev P8 : Case
P8 =
    case "rule a{condition:true rule b{condition:true}" (rule_ids (k.WHITESPACE ∷ rule_ids (k.R_BRACE ∷ [])))
    (4 ∷ 5 ∷ 6 ∷ 7 ∷ 16 ∷ 17 ∷ 21 ∷ 22 ∷ 26 ∷ 27 ∷ 28 ∷ 29 ∷ 38 ∷ 39 ∷ 43 ∷ 44 ∷ [])
    6 0 16 0 29 1 (22 ∷ 26 ∷ 1 ∷ 1 ∷ 2 ∷ k.OPERATOR ∷ k.R_BRACE ∷ [])

-- REQUEST (ii), for `import` and `include`: the word, its id and its length. What is expected is the Rust's; where a node is begun with no fuel left, the
-- two events of its empty ERROR node are added, which the Rust leaves out (decision 1).
abbrev ends_of : ℕ → List ℕ → List ℕ
ends_of a [] = []
ends_of a (w ∷ ws) = (a + w) ∷ ends_of (a + w) ws

abbrev widths : List ℕ → List ℕ
widths l = 4 ∷ 1 ∷ 1 ∷ 1 ∷ 9 ∷ 1 ∷ 4 ∷ 1 ∷ l

module _ (word : String) (id z : ℕ) where
  abbrev line : List ℕ → List ℕ
  line l = id ∷ k.WHITESPACE ∷ k.STRING_LIT ∷ l

  abbrev wide : List ℕ → List ℕ
  wide l = z ∷ 1 ∷ 4 ∷ l

  abbrev said : String → String
  said t = joined word (joined " \"pe\"" t)

  abbrev a_rule : String
  a_rule = " rule a{condition:true}"

  -- alone, with a fuel
  abbrev pub alone : ℕ → ℕ → ℕ → ℕ → ℕ → ℕ → List ℕ → Case
  alone = case (said "") (line []) (ends_of 0 (wide []))

  -- with no string, before a rule: a damaged statement, then the rule is read
  abbrev pub bare : ℕ → ℕ → ℕ → ℕ → ℕ → ℕ → List ℕ → Case
  bare = case (joined word a_rule) (id ∷ k.WHITESPACE ∷ rule_ids (k.R_BRACE ∷ [])) (ends_of 0 (z ∷ 1 ∷ widths []))

  -- behind a row that begins no item: swallowed
  abbrev pub swallowed : Case
  swallowed =
      case (joined "@ " (said a_rule)) (k.UNKNOWN ∷ k.WHITESPACE ∷ line (k.WHITESPACE ∷ rule_ids (k.R_BRACE ∷ []))) (ends_of 0 (1 ∷ 1 ∷ wide (1 ∷ widths [])))
      5 0 14 0 27 1 (0 ∷ 1 ∷ 10 ∷ 1 ∷ 0 ∷ [])

  abbrev pub statements : List Case
  statements =
      alone 0 1 0 0 4 0 []
      ∷ alone 1 0 3 0 7 0 []
      ∷ case (said a_rule) (line (k.WHITESPACE ∷ rule_ids (k.R_BRACE ∷ []))) (ends_of 0 (wide (1 ∷ widths []))) 6 0 12 0 24 0 []
      ∷ bare 6 0 10 0 23 1 ((z + 1) ∷ (z + 5) ∷ 1 ∷ 1 ∷ 1 ∷ k.STRING_LIT ∷ [])
      ∷ bare 1 1 2 0 9 1 ((z + 1) ∷ (z + 5) ∷ 1 ∷ 1 ∷ 1 ∷ k.STRING_LIT ∷ [])
      ∷ bare 0 1 0 0 4 0 []
      ∷ swallowed
      ∷ case (joined "rule a{condition:true} " (said a_rule)) (rule_ids (k.R_BRACE ∷ k.WHITESPACE ∷ line (k.WHITESPACE ∷ rule_ids (k.R_BRACE ∷ []))))
      (ends_of 0 (widths (1 ∷ wide (1 ∷ widths [])))) 11 0 21 0 41 0 []
      ∷ []

abbrev importing : List Case
importing = statements "import" k.IMPORT_KW 6

abbrev including : List Case
including = statements "include" k.INCLUDE_KW 7

-- "P4 whole", each event with its depth
abbrev whole_4 : List ℕ
whole_4 =
    1 ∷ k.SOURCE_FILE ∷ 0 ∷ 22 ∷ 0
    ∷ 1 ∷ k.ERROR ∷ 0 ∷ 0 ∷ 1
    ∷ 1 ∷ k.ERROR ∷ 0 ∷ 0 ∷ 2
    ∷ 3 ∷ k.ERROR ∷ 0 ∷ 0 ∷ 2
    ∷ 3 ∷ k.ERROR ∷ 0 ∷ 0 ∷ 1
    ∷ 3 ∷ k.SOURCE_FILE ∷ 0 ∷ 22 ∷ 0 ∷ []

-- "Merger on ERROR 0..1, ERROR 1..3, empty: one ERROR 0..3."
abbrev two_errors : List ℕ
two_errors = 1 ∷ k.ERROR ∷ 0 ∷ 1 ∷ 0 ∷ 3 ∷ k.ERROR ∷ 0 ∷ 1 ∷ 0 ∷ 1 ∷ k.ERROR ∷ 1 ∷ 3 ∷ 0 ∷ 3 ∷ k.ERROR ∷ 1 ∷ 3 ∷ 0 ∷ []

abbrev one_error : List ℕ
one_error = 1 ∷ k.ERROR ∷ 0 ∷ 3 ∷ 0 ∷ 3 ∷ k.ERROR ∷ 0 ∷ 3 ∷ 0 ∷ []

abbrev merges : List ℕ → Merged → Bool
merges l (unmerged n) = false
merges l (merged es) = same l (flat es)

-- the event e among the first n
abbrev holds : List ℕ → ℕ → List ℕ → Bool
holds e zero l = false
holds e (suc n) l = same e (take EVENT l) || holds e n (drop EVENT l)

-- REQUEST (x): junk is an item, and the rule behind it the second
abbrev behind_junk : Case
behind_junk =
    case "@ rule a{" (k.UNKNOWN ∷ k.WHITESPACE ∷ k.RULE_KW ∷ k.WHITESPACE ∷ k.IDENT ∷ k.L_BRACE ∷ []) (1 ∷ 2 ∷ 6 ∷ 7 ∷ 8 ∷ 9 ∷ [])
    9 0 6 6 16 2 (0 ∷ 1 ∷ 10 ∷ 1 ∷ 0 ∷ 9 ∷ 9 ∷ 3 ∷ 2 ∷ 1 ∷ k.CONDITION_KW ∷ [])

abbrev pub table : Bool
table =
    all (P1 ∷ P2 ∷ P3 ∷ P4 ∷ P5 ∷ P6 ∷ P7 ∷ P8 ∷ [])
    && same (after base (desk P4 (EVENT * 6) 8)).events whole_4
    && merges whole_4 (merger whole_4 (EVENT * 6))
    && holds (1 ∷ k.ERROR ∷ 22 ∷ 43 ∷ 3 ∷ []) 29 (after base (desk P8 (EVENT * 29) 8)).events
    && merges one_error (merger two_errors (EVENT * 2))
    && all (importing ++ including)
    && agrees behind_junk (after base (desk behind_junk (EVENT * 16) 16))
    && holds (1 ∷ k.IMPORT_STMT ∷ 0 ∷ 11 ∷ 1 ∷ []) 7 (after base (desk (alone "import" k.IMPORT_KW 6 1 0 3 0 7 0 []) (EVENT * 7) 8)).events
    && holds (1 ∷ k.ERROR ∷ 0 ∷ 6 ∷ 1 ∷ []) 23 (after base (desk (bare "import" k.IMPORT_KW 6 6 0 10 0 23 1 []) (EVENT * 23) 8)).events
    && holds (1 ∷ k.ERROR ∷ 0 ∷ 13 ∷ 1 ∷ []) 27 (after base (desk (swallowed "import" k.IMPORT_KW 6) (EVENT * 27) 8)).events
    && holds (1 ∷ k.INCLUDE_STMT ∷ 0 ∷ 12 ∷ 1 ∷ []) 7 (after base (desk (alone "include" k.INCLUDE_KW 7 1 0 3 0 7 0 []) (EVENT * 7) 8)).events
