-- A list that the reader wrote, merged or not, is never refused 9 or 15: it nests, no deeper than is allowed, and each of its rules has a name.
use Rattle.std.specs.Prelude.{Some}
use Prim.Native.Nat.{ℕ, zero, suc, ◌≤◌, ◌<◌}
use mathlib.Core.Path.{◌≡◌, refl, ap, ap₂, sym, ◌∙◌, subst}
use mathlib.Core.List.{List, [], ◌∷◌}
use mathlib.Core.Bool.{Bool, true, false, ◌&&◌, not}
use lib.Dec.{eqb}
use lib.ListN.{length}
use borrow.Author.Tests.{eq-eqb, eqb-true, lt-ltb}
use native.Mathlib.Omega.{arith}
use Rattle.shapes.specs.Shapes.{Entry}
use Rattle.kinds.specs.Kinds as kd
use Rattle.definition.specs.Run as D
use Rattle.definition.specs.Run.{Limits, read}
use Rattle.shapes.specs.Shapes as W
use Rattle.definition.specs.Render.{Source, starts_at, ends_at, span_end, bads, render, Reading}
use Rattle.definition.specs.Answer as A
use Rattle.definition.specs.Answer.{Desk, answer, source_of}
use Rattle.definition.specs.Merge.{finished}
use Rattle.definition.proofs.Shown.{render_keeps}
use Rattle.theorems.proofs.Answered.{given_is}
use Rattle.theorems.proofs.Joined.{read_well_formed}
use Rattle.definition.specs.Merge.{well_formed}
use Rattle.outline.specs.Shape.{shown, events}
use Rattle.outline.specs.declared.shape.Event.{Event}
use Rattle.outline.specs.declared.shape.Event.TheVariants.{Opens, Row, Closes, Tells}
use Rattle.outline.specs.Rules as R
use Rattle.outline.specs.Rules.{deepest, nests, inside, name, has_name, Rule, rule, rules, all_named, flat, refusing, Given, judged, fitting, listing, returned}
use Rattle.outline.specs.Outline.{asked, outlined, outlining}
use Rattle.outline.proofs.Walking.{never}
use Rattle.outline.proofs.Merging.{events_of, finished_judged, finished_listing}
use Rattle.outline.proofs.Named.{met, Sound, most_open, read_whole}

name_inside : (es : List Event) (h : ℕ) → name (inside es h) h ≡ name es h
name_inside [] h = refl
name_inside (Opens k a b ∷ es) h = name_inside es (suc h)
name_inside (Row k a b ∷ es) zero = ap (λ (x : R.Name). elim (eqb k kd.IDENT) [ true ↦ Some (a, b) | false ↦ x ]) (name_inside es zero)
name_inside (Row k a b ∷ es) (suc h) = name_inside es (suc h)
name_inside (Closes k ∷ es) zero = refl
name_inside (Closes k ∷ es) (suc h) = name_inside es h
name_inside (Tells ∷ es) h = name_inside es h

-- the nodes whose closing was met, the innermost first, h of them already opened: a rule whose IDENT row was met has its name in es
abbrev Names : List Event → ℕ → List (ℕ × ℕ) → List Bool → Type 0
Names es h [] [] = Unit
Names es h [] (b ∷ ns) = ⊥
Names es h (t ∷ st) [] = ⊥
Names es h (t ∷ st) (b ∷ ns) = (t.0 ≡ kd.RULE_DECL → b ≡ false → has_name (name es h) ≡ true) × Names es (suc h) st ns

module _ (es : List Event) (k a b : ℕ) where
  names_open : (h : ℕ) (st : List (ℕ × ℕ)) (ns : List Bool) → Names es (suc h) st ns → Names (Opens k a b ∷ es) h st ns
  names_open h [] [] w = tt
  names_open h [] (c ∷ ns) w = absurd w
  names_open h (t ∷ st) [] w = absurd w
  names_open h (t ∷ st) (c ∷ ns) w = (w.0, names_open (suc h) st ns w.1)

  names_close : (h : ℕ) (st : List (ℕ × ℕ)) (ns : List Bool) → Names es h st ns → Names (Closes k ∷ es) (suc h) st ns
  names_close h [] [] w = tt
  names_close h [] (c ∷ ns) w = absurd w
  names_close h (t ∷ st) [] w = absurd w
  names_close h (t ∷ st) (c ∷ ns) w = (w.0, names_close (suc h) st ns w.1)

  names_row_outside : (h : ℕ) (st : List (ℕ × ℕ)) (ns : List Bool) → Names es (suc h) st ns → Names (Row k a b ∷ es) (suc h) st ns
  names_row_outside h [] [] w = tt
  names_row_outside h [] (c ∷ ns) w = absurd w
  names_row_outside h (t ∷ st) [] w = absurd w
  names_row_outside h (t ∷ st) (c ∷ ns) w = (w.0, names_row_outside (suc h) st ns w.1)

  names_row : (st : List (ℕ × ℕ)) (ns : List Bool) → Names es 0 st ns → Names (Row k a b ∷ es) 0 st (met k ns)
  names_row [] [] w = tt
  names_row [] (c ∷ ns) w = absurd w
  names_row (t ∷ st) [] w = absurd w
  names_row (t ∷ st) (c ∷ ns) w = (go (eqb k kd.IDENT) c w.0, names_row_outside 0 st ns w.1)
    where
      go : (x c : Bool) → (t.0 ≡ kd.RULE_DECL → c ≡ false → has_name (name es 0) ≡ true) → t.0 ≡ kd.RULE_DECL → c && not x ≡ false → has_name (elim x as (λ _. R.Name) [ true ↦ Some (a, b) | false ↦ name es 0 ]) ≡ true
      go true c f p q = refl
      go false true f p q = never cc
      go false false f p q = f p refl

names_tell : (es : List Event) (h : ℕ) (st : List (ℕ × ℕ)) (ns : List Bool) → Names es h st ns → Names (Tells ∷ es) h st ns
names_tell es h [] [] w = tt
names_tell es h [] (c ∷ ns) w = absurd w
names_tell es h (t ∷ st) [] w = absurd w
names_tell es h (t ∷ st) (c ∷ ns) w = (w.0, names_tell es (suc h) st ns w.1)

-- their kinds, around which is SOURCE_FILE
abbrev kinds : List (ℕ × ℕ) → List ℕ
kinds [] = kd.SOURCE_FILE ∷ []
kinds (t ∷ st) = t.0 ∷ kinds st

kinds_length : (st : List (ℕ × ℕ)) → length (kinds st) ≡ suc (length st)
kinds_length [] = refl
kinds_length (t ∷ st) = ap suc (kinds_length st)

module _ (x : Source) (most : ℕ) (low : most < deepest) where
  -- what stands behind a moment of rendering
  record Fine (st : List (ℕ × ℕ)) (ns : List Bool) (l : List Entry) : Type 0 where
    pub level : length ns ≡ length st
    pub few : length st ≤ most
    pub nest : nests (shown l) (kinds st) ≡ true
    pub names : Names (shown l) 0 st ns
    pub named : all_named (rules (shown l)) ≡ true

  open_named : (t : ℕ × ℕ) (a : ℕ) (es : List Event) → (t.0 ≡ kd.RULE_DECL → has_name (name es 0) ≡ true) → all_named (rules es) ≡ true → all_named (rules (Opens t.0 a t.1 ∷ es)) ≡ true
  open_named t a es f h = go (eqb t.0 kd.RULE_DECL) refl
    where
      go : (b : Bool) → eqb t.0 kd.RULE_DECL ≡ b → all_named (elim b as (λ _. List Rule) [ true ↦ rule a t.1 es ∷ rules es | false ↦ rules es ]) ≡ true
      go true e = ap₂ ◌&&◌ (ap has_name (name_inside es 0) ∙ f (eqb-true t.0 kd.RULE_DECL e)) h
      go false e = h

  fine_open : (i : ℕ) (t : ℕ × ℕ) (n : ℕ) (st : List (ℕ × ℕ)) (ns : List Bool) (l : List Entry) → Fine (t ∷ st) (false ∷ ns) l → Fine st ns ((1, t.0, starts_at x n, t.1, i) ∷ l)
  fine_open i t n st ns l f = record {
    level = omega (arith, f.level);
    few = omega (arith, f.few);
    nest = ap₂ ◌&&◌ (lt-ltb (length (kinds st)) deepest (omega (arith, kinds_length st, f.few, low))) f.nest;
    names = names_open (shown l) t.0 (starts_at x n) t.1 0 st ns f.names.1;
    named = open_named t (starts_at x n) (shown l) (λ e. f.names.0 e refl) f.named;
  }

  fine_row : (i a b c : ℕ) (st : List (ℕ × ℕ)) (ns : List Bool) (l : List Entry) → Fine st ns l → Fine st (met a ns) ((2, a, b, c, i) ∷ l)
  fine_row i a b c st ns l f = record {
    level = met_level ns ∙ f.level;
    few = f.few;
    nest = f.nest;
    names = names_row (shown l) a b c st ns f.names;
    named = f.named;
  }
    where
      met_level : (ns : List Bool) → length (met a ns) ≡ length ns
      met_level [] = refl
      met_level (b ∷ ns) = refl

  fine_close : (i a b e : ℕ) (st : List (ℕ × ℕ)) (ns : List Bool) (l : List Entry) → suc (length ns) ≤ most → Fine st ns l → Fine ((a, e) ∷ st) (eqb a kd.RULE_DECL ∷ ns) ((3, a, b, e, i) ∷ l)
  fine_close i a b e st ns l h f = record {
    level = ap suc f.level;
    few = omega (arith, h, f.level);
    nest = ap₂ ◌&&◌ (eq-eqb a a refl) f.nest;
    names = (λ p q. other p q, names_close (shown l) a b e 0 st ns f.names);
    named = f.named;
  }
    where
      other : {A : Type 0} → a ≡ kd.RULE_DECL → eqb a kd.RULE_DECL ≡ false → A
      other p q = let c : true ≡ false = sym (eq-eqb a kd.RULE_DECL p) ∙ q in never cc

  fine_tell : (i a b c : ℕ) (st : List (ℕ × ℕ)) (ns : List Bool) (l : List Entry) → Fine st ns l → Fine st ns ((4, a, b, c, i) ∷ l)
  fine_tell i a b c st ns l f = record { level = f.level; few = f.few; nest = f.nest; names = names_tell (shown l) 0 st ns f.names; named = f.named }

  -- THE INDUCTION, as rendering goes: from the last event to the first
  fine_render : (w : List D.Event) (st : List (ℕ × ℕ)) (ns : List Bool) (l : List Entry) → Sound most ns w → Fine st ns l → Fine [] [] (render x st w l)
  fine_render [] [] ns l h f = subst (λ (ms : List Bool). Fine [] ms l) h f
  fine_render [] (t ∷ st) ns l h f = absurd (omega (arith, f.level, ap length h))
  fine_render (D.opened n ∷ w) st [] l h f = absurd h
  fine_render (D.opened n ∷ w) [] (b ∷ ns) l h f = absurd (omega (arith, f.level))
  fine_render (D.opened n ∷ w) (t ∷ st) (b ∷ ns) l h f = fine_render w st ns ((1, t.0, starts_at x n, t.1, suc (length st)) ∷ l) h.1 (fine_open (suc (length st)) t n st ns l (subst (λ (c : Bool). Fine (t ∷ st) (c ∷ ns) l) h.0 f))
  fine_render (D.leaf a n ∷ w) st ns l h f = fine_render w st (met a ns) ((2, a, starts_at x n, ends_at x n, suc (length st)) ∷ l) h (fine_row (suc (length st)) a (starts_at x n) (ends_at x n) st ns l f)
  fine_render (D.closed a n m ∷ w) st ns l h f = fine_render w ((a, span_end x n m) ∷ st) (eqb a kd.RULE_DECL ∷ ns) ((3, a, starts_at x n, span_end x n m, suc (length st)) ∷ l) h.1 (fine_close (suc (length st)) a (starts_at x n) (span_end x n m) st ns l h.0 f)
  fine_render (D.bad n c ∷ w) st ns l h f = fine_render w st ns ((4, bads w, starts_at x n, ends_at x n, suc (length st)) ∷ l) h (fine_tell (suc (length st)) (bads w) (starts_at x n) (ends_at x n) st ns l f)

-- THE READER'S LIST, under a limit that no reader of ours exceeds
module _ (L : Limits) (low : L.depth ≤ 1024) (d : Desk) (R : Reading) (e : answer L d ≡ A.given R) where
  read_fine : (nests (shown R.events) [] ≡ true) × (all_named (rules (shown R.events)) ≡ true)
  read_fine =
      let x : Source = source_of d in
      let z : ℕ = length d.bytes in
      let o : List D.Event = (read L d.ids d.fuel).out in
      let l : List Entry = (3, kd.SOURCE_FILE, 0, z, 0) ∷ [] in
      let f = fine_render x (most_open L) (omega (arith, low)) o [] [] l (read_whole L d.ids d.fuel) (record { level = refl; few = omega arith; nest = refl; names = tt; named = refl }) in
      let is : R.events ≡ (1, kd.SOURCE_FILE, 0, z, 0) ∷ render x [] o l = ap (λ (r : Reading). r.events) (given_is L d R e).whole ∙ ap (λ (l : List Entry). (1, kd.SOURCE_FILE, 0, z, 0) ∷ l) (sym (render_keeps x [] o [] l)) in
      subst (λ (es : List Entry). (nests (shown es) [] ≡ true) × (all_named (rules (shown es)) ≡ true)) (sym is) (f.nest, f.named)

  abbrev l : List ℕ
  l = W.flat R.events

  read_9 : well_formed l ≡ true
  read_9 = read_well_formed L d R e

  -- THEOREM: it nests, at most 1,026 nodes deep
  pub read_nests : nests (events l) [] ≡ true
  read_nests = ap (λ (es : List Event). nests es []) (events_of R.events) ∙ read_fine.0

  -- THEOREM: each of its rules has a name
  pub read_named : all_named (rules (events l)) ≡ true
  read_named = ap (λ (es : List Event). all_named (rules es)) (events_of R.events) ∙ read_fine.1

  -- THEOREM: it is never refused 9 or 15, as it is or merged: only the room is left to judge
  read_judged : (x : Given) → judged l x ≡ x
  read_judged x = ap₂ (λ (s t : Bool). refusing 9 s (refusing 15 t (refusing 15 (all_named (rules (events l))) x))) read_9 read_nests ∙ ap (λ (t : Bool). refusing 15 t x) read_named

  pub read_never_15 : (room : ℕ) → listing l room ≡ fitting room (length (rules (events l))) (flat (rules (events l)))
  read_never_15 room = read_judged (fitting room (length (rules (events l))) (flat (rules (events l))))

  pub merged_never_15 : (room : ℕ) → listing (W.flat (finished l)) room ≡ fitting room (length (rules (events l))) (flat (rules (events l)))
  merged_never_15 room = finished_listing l read_9 read_nests room ∙ read_never_15 room

  -- THEOREM: its outline, or that of its merged list, is refused 15 for the node asked for alone
  pub read_outlines : (i n : ℕ) (room : List ℕ) → outlining l i n room ≡ returned room (asked (events l) i (outlined (length room) n))
  read_outlines i n room = ap (returned room) (read_judged (asked (events l) i (outlined (length room) n)))

  pub merged_outlines : (i n : ℕ) (room : List ℕ) → let m : List ℕ = W.flat (finished l) in outlining m i n room ≡ returned room (asked (events m) i (outlined (length room) n))
  merged_outlines i n room =
      let m : List ℕ = W.flat (finished l) in
      let x : Given = asked (events m) i (outlined (length room) n) in
      ap (returned room) (finished_judged l read_9 read_nests x ∙ read_judged x)
