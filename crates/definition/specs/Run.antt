-- The reader (document 01, "How steps behave"): what a combinator of the module does to the reader's state. Rows are named by how many rows are
-- left from them on, so a row's name does not change when rows before it are taken away; 0 names the source's end.
use Rattle.std.specs.Prelude.{ℕ, zero, suc, Bool, true, false, ◌&&◌, eqb, ltb, length}
use mathlib.Core.List.{List, [], ◌∷◌, ◌++◌, map, foldl}
use Rattle.std.proofs.Math.Option.{Option, none, some}
use Rattle.kinds.specs.Kinds as k
use Rattle.kinds.specs.Sets.{id_of, kind_of, pick, trivial}
use Rattle.definition.specs.Prog.{Production, Prog, eat, unless, ifnext, opt, many, then, ◌⨟◌, ◌⫽◌, last, recover, node, memo}
use Rattle.definition.specs.Grammar.{grammar, kind, item_of}

-- "Stopped (out of fuel or too deep) is never left"
pub data Stop : Type 0 where
  spent deep : Stop

pub data Mode : Type 0 where
  ok failed : Mode
  stopped : Stop → Mode

-- an error that was chosen: "Expected" with its names, "Unexpected", or form 10's
pub data Choice : Type 0 where
  wanted : List ℕ → Choice
  unwanted stray : Choice

-- "sort (1 begin, 2 token, 3 end, 4 error)": a begin and its row; a token's kind and row; an end's kind, its begin's row and the row behind it;
-- an error's row and choice
pub data Event : Type 0 where
  opened : ℕ → Event
  leaf : ℕ → ℕ → Event
  closed : ℕ → ℕ → ℕ → Event
  bad : ℕ → Choice → Event

-- what stands written at some moment, and what is chosen and not yet written
abbrev pub Draft : Type 0
Draft = List Event × List (ℕ × Choice)

-- what a settings edition gives besides fuel: how many nodes may be open besides SOURCE_FILE, how long a found text may be to be quoted, and
-- whether entrypoint is a term ("1 for allowed"); edition 1 has "today's values", "1,024 nodes besides SOURCE_FILE" and "text over 15 bytes"
pub record Limits : Type 0 where
  pub depth : ℕ
  pub quote : ℕ
  pub entrypoint : Bool

abbrev pub base : Limits
base = record { depth = 1024; quote = 15; entrypoint = true }

-- Ids of the rows that are left; state; fuel; events, the last first; the furthest row at which names were expected, and the names; the furthest
-- row that was matched inside `not`; pending errors, the first first; rows and kinds that failed. Nothing reads the last two: the row of each
-- begin step, and the draft after each writing, the last first.
pub record State : Type 0 where
  pub rest : List ℕ
  pub mode : Mode
  pub fuel : ℕ
  pub out : List Event
  pub want : Option (ℕ × List ℕ)
  pub unwant : Option ℕ
  pub chosen : List (ℕ × Choice)
  pub cache : List (ℕ × ℕ)
  pub begun : List ℕ
  pub drafts : List Draft

-- SETS AND ROWS

-- one of them is so
abbrev pub any : {A : Type 0} → (A → Bool) → List A → Bool
any p [] = false
any p (x ∷ xs) = elim (p x) [ true ↦ true | false ↦ any p xs ]

abbrev pub has : List ℕ → ℕ → Bool
has ns x = any (eqb x) ns

-- past trivia
abbrev pub skip : List ℕ → List ℕ
skip [] = []
skip (i ∷ is) = elim (trivial i) [ true ↦ skip is | false ↦ i ∷ is ]

-- the next row: none, one that is not in the set, or one that is, with "the first kind in the set that has it" and the rows behind
pub data Next : Type 0 where
  end other : Next
  hit : ℕ → List ℕ → Next

abbrev pub sought : List ℕ → List ℕ → Next
sought S [] = end
sought S (i ∷ is) = elim (pick S i) [ none ↦ other | some a ↦ hit a is ]

-- "the next row past trivia"
abbrev pub next : List ℕ → List ℕ → Next
next S r = sought S (skip r)

-- CHANGES OF ONE PART: position and events; state; fuel; what was expected, unexpected and chosen; the cache. All else stays

abbrev pub put : List ℕ → List Event → State → State
put r o s = record { rest = r; mode = s.mode; fuel = s.fuel; out = o; want = s.want; unwant = s.unwant; chosen = s.chosen; cache = s.cache; begun = s.begun; drafts = s.drafts }

abbrev pub turn : Mode → State → State
turn m s = record { rest = s.rest; mode = m; fuel = s.fuel; out = s.out; want = s.want; unwant = s.unwant; chosen = s.chosen; cache = s.cache; begun = s.begun; drafts = s.drafts }

abbrev pub pay : ℕ → State → State
pay f s = record { rest = s.rest; mode = s.mode; fuel = f; out = s.out; want = s.want; unwant = s.unwant; chosen = s.chosen; cache = s.cache; begun = s.begun; drafts = s.drafts }

abbrev pub note : Option (ℕ × List ℕ) → Option ℕ → List (ℕ × Choice) → State → State
note w u c s = record { rest = s.rest; mode = s.mode; fuel = s.fuel; out = s.out; want = w; unwant = u; chosen = c; cache = s.cache; begun = s.begun; drafts = s.drafts }

abbrev pub keep : List (ℕ × ℕ) → State → State
keep c s = record { rest = s.rest; mode = s.mode; fuel = s.fuel; out = s.out; want = s.want; unwant = s.unwant; chosen = s.chosen; cache = c; begun = s.begun; drafts = s.drafts }

-- a moment for the rooms: every writing ends with it
abbrev pub mark : State → State
mark s = record { rest = s.rest; mode = s.mode; fuel = s.fuel; out = s.out; want = s.want; unwant = s.unwant; chosen = s.chosen; cache = s.cache; begun = s.begun; drafts = (s.out, s.chosen) ∷ s.drafts }

abbrev pub emit : Event → State → State
emit e s = mark (put s.rest (e ∷ s.out) s)

-- "A matched row is written with the kind named in the set"
abbrev pub take : ℕ → List ℕ → State → State
take a is s = mark (put is (leaf a (suc (length is)) ∷ s.out) s)

-- back to the bookmark s: "Pending errors survive backtracking", and so do fuel, names and cache
abbrev pub back : State → State → State
back s t = put s.rest s.out t

-- "the first stop stands"
abbrev pub halted : Stop → Mode → Mode
halted w ok = stopped w
halted w failed = stopped w
halted w (stopped v) = stopped v

abbrev pub halt : Stop → State → State
halt w s = turn (halted w s.mode) s

-- x in state OK, y in any other
abbrev pub when_ok : {A : Type 0} → A → A → Mode → A
when_ok x y m = elim m [ ok ↦ x | failed ↦ y | stopped w ↦ y ]

-- a step of the reader. "In Failure or stopped, `expect_d`, `opt`, `not`, `if_next`, `n_or_more`, `then`, `cached`, `alt`, `trivia` do nothing."
abbrev pub Reader : Type 0
Reader = State → State

abbrev pub if_ok : Reader → Reader
if_ok f s = when_ok (f s) s s.mode

-- TRIVIA, each written as a token

abbrev pub trivia_out : List ℕ → List Event → List Event
trivia_out [] o = o
trivia_out (i ∷ is) o = elim (trivial i) [ true ↦ trivia_out is (leaf i (suc (length is)) ∷ o) | false ↦ o ]

abbrev pub trivia : State → State
trivia s = let r = s.rest in mark (put (when_ok (skip r) r s.mode) (when_ok (trivia_out r s.out) s.out s.mode) s)

-- ERROR CHOICE

-- "names stand in order of first entry, none twice"
abbrev pub join : List ℕ → List ℕ → List ℕ
join ns [] = ns
join ns (x ∷ xs) = elim (has ns x) [ true ↦ join ns xs | false ↦ join (ns ++ (x ∷ [])) xs ]

-- "the furthest entry alone": a later row's names replace, the same row's are joined, an earlier row's are dropped
abbrev pub further : ℕ → List ℕ → Option (ℕ × List ℕ) → Option (ℕ × List ℕ)
further r ns none = some (r, join [] ns)
further r ns (some w) =
    elim (ltb r w.0) [
      | true ↦ some (r, join [] ns)
      | false ↦ elim (eqb r w.0) [ true ↦ some (r, join w.1 ns) | false ↦ some w ]
    ]

abbrev pub furthest : ℕ → Option ℕ → Option ℕ
furthest r none = some r
furthest r (some u) = elim (ltb r u) [ true ↦ some r | false ↦ some u ]

-- "Expected names are entered per row, or at the source's end with an UNKNOWN id."
abbrev pub expected : List ℕ → State → State
expected ns s = note (further (length (skip s.rest)) ns s.want) s.unwant s.chosen s

-- "Inside `not`, a match enters an unexpected row"
abbrev pub unexpected : State → State
unexpected s = note s.want (furthest (length (skip s.rest)) s.unwant) s.chosen s

-- "A span that already has a pending error gets no second one."
abbrev pub pending : ℕ → List (ℕ × Choice) → Bool
pending r es = any (λ e. eqb r e.0) es

abbrev pub add : ℕ → Choice → List (ℕ × Choice) → List (ℕ × Choice)
add r e es = elim (pending r es) [ true ↦ es | false ↦ es ++ ((r, e) ∷ []) ]

-- "The furthest start is taken; expected wins a tie with unexpected."
abbrev pub decide : Option (ℕ × List ℕ) → Option ℕ → List (ℕ × Choice) → List (ℕ × Choice)
decide none none es = es
decide none (some u) es = add u unwanted es
decide (some w) none es = add w.0 (wanted w.1) es
decide (some w) (some u) es =
    elim (ltb u w.0) [ true ↦ add u unwanted es | false ↦ add w.0 (wanted w.1) es ]

-- "At a choice both collections are emptied."
abbrev pub choose : State → State
choose s = mark (note none none (decide s.want s.unwant s.chosen) s)

-- NODES: d is how many more may be opened, o whether an enclosing part is optional

-- "takes one fuel; with fuel 0 it sets out of fuel"; "after fuel is taken, if 1,024 nodes besides SOURCE_FILE are open, the reader is too deep"
abbrev pub charge : ℕ → ℕ → State → State
charge d zero s = halt spent s
charge zero (suc f) s = halt deep (pay f s)
charge (suc d) (suc f) s = pay f s

-- a begin step is counted
abbrev pub count : State → State
count s = record { rest = s.rest; mode = s.mode; fuel = s.fuel; out = s.out; want = s.want; unwant = s.unwant; chosen = s.chosen; cache = s.cache; begun = length s.rest ∷ s.begun; drafts = s.drafts }

-- "`begin` skips trivia, then takes one fuel .. The begin event is written either way."
abbrev pub begin : ℕ → State → State
begin d s = let t = trivia s in emit (opened (length t.rest)) (count (charge d t.fuel t))

-- "A failed or stopped `end` chooses only outside optional parts (`opt`, `alt`, a repetition's tail)."
abbrev pub unless_optional : Bool → State → State
unless_optional true s = s
unless_optional false s = choose s

-- "A node closed with an error has kind ERROR at both events."
abbrev pub finish : Bool → ℕ → ℕ → State → State
finish o a n s =
    let m = length s.rest in
    when_ok (emit (closed a n m) s) (emit (closed k.ERROR n m) (unless_optional o s)) s.mode

-- `begin`, a body, `end`: "`begin` is not so guarded"
abbrev pub nodes : ℕ → Bool → ℕ → Reader → Reader
nodes d o a f s = let t = begin d s in finish o a (length t.rest) (f t)

-- RECOVERY

-- "Skipping ends at the first row of the set, seen past trivia.", or before the trivia at the end
abbrev pub past : Next → Bool
past end = true
past other = false
past (hit a is) = true

abbrev pub seek : List ℕ → List ℕ → List ℕ
seek S [] = []
seek S (i ∷ is) = elim (past (next S (i ∷ is))) [ true ↦ i ∷ is | false ↦ seek S is ]

-- "a skipped row as HYPHEN, ASTERISK or PERCENT"
abbrev pub seek_out : List ℕ → List ℕ → List Event → List Event
seek_out S [] o = o
seek_out S (i ∷ is) o =
    elim (past (next S (i ∷ is))) [ true ↦ o | false ↦ seek_out S is (leaf (kind_of i) (suc (length is)) ∷ o) ]

abbrev pub skip_to : List ℕ → State → State
skip_to S s = mark (put (seek S s.rest) (seek_out S s.rest s.out) s)

-- "Its ERROR node costs one fuel. If that begin stops the reader, the skipping still goes on"
abbrev pub swallow : ℕ → Bool → List ℕ → State → State
swallow d o S s = nodes d o k.ERROR (skip_to S) s

-- "in the second case, with no error pending, the set's names are entered first"
abbrev pub first_names : List (ℕ × Choice) → List ℕ → State → State
first_names [] S s = expected (map id_of S) s
first_names (e ∷ es) S s = s

-- "`recover` chooses anywhere, if the state was Failure or the next row past trivia is not in its set"; "with no rows left but trivia it sets OK and
-- returns"; m is what the state was, OK or Failure
abbrev pub recovered : ℕ → Bool → List ℕ → Next → Mode → State → State
recovered d o S end m s = s
recovered d o S (hit a is) m s = when_ok s (choose s) m
recovered d o S other m s = swallow d o S (choose (first_names s.chosen S s))

-- "stopped, it does nothing"
abbrev pub recovery : ℕ → Bool → List ℕ → State → State
recovery d o S s =
    elim s.mode [
      | ok ↦ recovered d o S (next S s.rest) ok s
      | failed ↦ recovered d o S (next S s.rest) failed (turn ok s)
      | stopped w ↦ s
    ]

-- COMBINATORS

-- `expect_d`, and `expect`: "take `expect_d` without a description"
abbrev pub eat_row : List ℕ → Next → Reader
eat_row N end s = turn failed (expected N s)
eat_row N other s = turn failed (expected N s)
eat_row N (hit a is) s = take a is (trivia s)

abbrev pub eats : List ℕ → List ℕ → Reader
eats S N = if_ok (λ s. eat_row N (next S s.rest) s)

-- `not`: "a miss enters nothing"; it goes back always, and what was written until then took its room
abbrev pub refuse_row : Next → Reader
refuse_row end s = back s (trivia s)
refuse_row other s = back s (trivia s)
refuse_row (hit a is) s = turn failed (unexpected (back s (take a is (trivia s))))

abbrev pub refuses : List ℕ → Reader
refuses S = if_ok (λ s. refuse_row (next S s.rest) s)

-- behind the last alternative
abbrev pub fails : Reader
fails = if_ok (turn failed)

-- `then`
abbrev pub thens : Reader → Reader
thens f = if_ok (λ s. f (trivia s))

-- "`if_next` without its token enters names but does not fail; at the end of rows it does nothing."
abbrev pub branch : List ℕ → Reader → Next → Reader
branch N f end s = s
branch N f other s = expected N s
branch N f (hit a is) s = f (trivia s)

abbrev pub branches : List ℕ → Reader → Reader
branches S f = if_ok (λ s. branch (map id_of S) f (next S s.rest) s)

-- "A failed `alt` goes back to the bookmark; a stopped one does not.": f, where what came to t from the bookmark s failed
abbrev pub or_else : Reader → State → State → State
or_else f s t = elim t.mode [ ok ↦ t | failed ↦ f (turn ok (back s t)) | stopped w ↦ t ]

abbrev pub alts : Reader → Reader → Reader
alts f g = if_ok (λ s. or_else g s (f (trivia s)))

-- "`opt` goes back on Failure only"
abbrev pub opts : Reader → Reader
opts f = alts f (λ t. t)

-- "a repetition's tail [goes back] on Failure and stop": the next turn g, where the last came to t from the bookmark s
abbrev pub go_on : Reader → State → State → State
go_on g s t = elim t.mode [ ok ↦ g t | failed ↦ turn ok (back s t) | stopped w ↦ back s t ]

-- the bound is never what ends it (proofs/Bound)
abbrev pub loop : Reader → ℕ → Reader
loop f zero s = s
loop f (suc n) s = go_on (λ t. loop f n t) s (f (trivia s))

abbrev pub loops : Reader → Reader
loops f = if_ok (λ s. loop f (suc (length s.rest)) s)

-- "`cached` (EXPR, TERM) remembers only failures, by row index at entry. It is exact: nothing is dropped before the item ends. Hits spend no fuel
-- and enter no names."
abbrev pub known : List (ℕ × ℕ) → ℕ → ℕ → Bool
known es r a = any (λ e. eqb r e.0 && eqb a e.1) es

abbrev pub remember : ℕ → ℕ → Reader
remember r a s = elim s.mode [ ok ↦ s | failed ↦ keep ((r, a) ∷ s.cache) s | stopped w ↦ s ]

abbrev pub memo_row : ℕ → Reader → Bool → Reader
memo_row a f true s = turn failed s
memo_row a f false s = remember (length s.rest) a (f s)

abbrev pub memos : ℕ → Reader → Reader
memos a f = if_ok (λ s. memo_row a f (known s.cache (length s.rest) a) s)

-- a program, given what its productions do; "optional parts (`opt`, `alt`, a repetition's tail)"
abbrev pub exec : ℕ → (Bool → Production → Reader) → Prog → Bool → Reader
exec d call (eat S N) o s = eats S N s
exec d call (unless S) o s = refuses S s
exec d call (ifnext S p) o s = branches S (λ t. exec d call p o t) s
exec d call (opt p) o s = opts (λ t. exec d call p true t) s
exec d call (many p) o s = loops (λ t. exec d call p true t) s
exec d call (then p) o s = thens (λ t. exec d call p o t) s
exec d call (p ⨟ q) o s = exec d call q o (exec d call p o s)
exec d call (p ⫽ q) o s = alts (λ t. exec d call p true t) (λ t. exec d call q o t) s
exec d call (last p) o s = alts (λ t. exec d call p true t) fails s
exec d call (recover S) o s = recovery d o S s
exec d call (node a) o s = call o a s
exec d call (memo a) o s = memos (kind a) (λ t. call o a t) s

-- a production, where E allows entrypoint and d more nodes may be opened; the body of one that is too deep does nothing (proofs/Bound)
abbrev pub run : Bool → ℕ → Bool → Production → Reader
run E zero o a s = nodes zero o (kind a) (λ t. t) s
run E (suc d) o a s = nodes (suc d) o (kind a) (λ t. exec d (λ o b u. run E d o b u) (grammar E a) o t) s

-- ITEMS

-- "the three rule keywords"
abbrev pub rule_keywords : List ℕ
rule_keywords = k.GLOBAL_KW ∷ k.PRIVATE_KW ∷ k.RULE_KW ∷ []

-- "an import or include row"
abbrev pub statement_keywords : List ℕ
statement_keywords = k.IMPORT_KW ∷ k.INCLUDE_KW ∷ []

-- what begins an item: "all five"
abbrev pub item_keywords : List ℕ
item_keywords = rule_keywords ++ statement_keywords

-- "form 10's record comes before its event"
abbrev pub blame : Reader
blame s = let n = length s.rest in emit (bad n stray) (record { rest = s.rest; mode = s.mode; fuel = s.fuel; out = s.out; want = s.want; unwant = s.unwant; chosen = s.chosen; cache = s.cache; begun = s.begun; drafts = (s.out, (n, stray) ∷ s.chosen) ∷ s.drafts })

-- a row that begins no item "writes error form 10 on that row, then an ERROR node up to the next of them (or the last row that is not trivia), without
-- fuel"; "The skipping at item position still ends at the three rule keywords only, so that junk swallows an import behind it"
abbrev pub stray_item : Reader
stray_item s =
    let n = length s.rest in
    let t = skip_to rule_keywords (emit (opened n) (blame s)) in
    emit (closed k.ERROR n (length t.rest)) t

-- an item, outside optional parts; shut, so that no tactic computes its reading unasked
unfoldable pub read_item : Limits → Prog → Reader
read_item L p s = exec L.depth (run L.entrypoint L.depth) p false s

abbrev pub item_at : Limits → Next → Reader
item_at L end s = s
item_at L (hit a is) s = read_item L (item_of a) s
item_at L other s = stray_item s

-- "Pending errors .. are written as events after their item."
abbrev pub errors : List (ℕ × Choice) → List Event → List Event
errors es o = foldl (λ o e. bad e.0 e.1 ∷ o) o es

-- "between items it holds position, fuel and outputs only"; and whether it stopped
abbrev pub flush : State → State
flush s = mark (record { rest = s.rest; mode = s.mode; fuel = s.fuel; out = errors s.chosen s.out; want = none; unwant = none; chosen = []; cache = []; begun = s.begun; drafts = s.drafts })

abbrev pub again : State → State
again s = elim s.mode [ ok ↦ s | failed ↦ turn ok s | stopped w ↦ s ]

abbrev pub item : Limits → State → State
item L s = let t = trivia s in again (flush (item_at L (sought item_keywords t.rest) t))

-- n items, or as many as there are; a stopped reader begins none
abbrev pub items : Limits → ℕ → State → State
items L zero s = s
items L (suc n) s = elim s.rest [ [] ↦ s | i ∷ is ↦ if_ok (λ t. items L n (item L t)) s ]

-- the first draft is that of the SOURCE_FILE begin event
abbrev pub start : List ℕ → ℕ → State
start r f = record { rest = r; mode = ok; fuel = f; out = []; want = none; unwant = none; chosen = []; cache = []; begun = []; drafts = ([], []) ∷ [] }

-- THE READING: every item takes a row, so there are no more items than rows
abbrev pub read : Limits → List ℕ → ℕ → State
read L r f = items L (length r) (start r f)

-- "the definition's `begin` steps"
abbrev pub begin_steps : Limits → List ℕ → ℕ → ℕ
begin_steps L r f = length (read L r f).begun
