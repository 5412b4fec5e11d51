-- Damage stays where it is: between two items, what is still to be read is read as a file of its own.
use Prim.Native.Nat.{ℕ, zero, suc, ◌+◌, ◌≤◌}
use mathlib.Core.Path.{◌≡◌, refl, ap, sym, ◌∙◌, subst}
use mathlib.Core.List.{List, [], ◌∷◌}
use mathlib.Core.Option.{Option, none}
use lib.ListN.{length}
use native.Mathlib.Nat.{suc-add, zero-add, add-zero}
use native.Mathlib.Omega.{arith}
use Rattle.definition.specs.Grammar.{item_of}
use Rattle.definition.specs.Run.{State, Limits, Draft, Choice, Mode, ok, failed, stopped, Stop, Next, end, other, hit, sought, trivia, turn, put, rule_keywords, item_keywords, item_at, flush, again, item, items, start, read}
use Rattle.definition.proofs.Every.{never}
use Rattle.definition.proofs.Order.{Running}
use Rattle.definition.proofs.Grows.{End, end_refl, end_trans, gap_end, seek_end}
use Rattle.definition.proofs.Accept.{Fresh}
use Rattle.definition.proofs.File.{items_end, items_step, after_item, again_running, items_stopped, start_fresh}
use Rattle.definition.proofs.Frame.{h}
use Rattle.definition.proofs.Whole.{items_h, any_live}
use Rattle.definition.proofs.Takes.{end_length, item_takes, reads_rows}
use Rattle.definition.proofs.Shrink.{size_nil}

pub items_stuck : (L : Limits) (n : ℕ) (s : State) (w : Stop) → s.mode ≡ stopped w → items L n s ≡ s
items_stuck L zero s w e = refl
items_stuck L (suc n) s w e = go s.rest s.mode s e
  where
    go : (r : List ℕ) (m : Mode) (s : State) → m ≡ stopped w → items L (suc n) (turn m (put r s.out s)) ≡ turn m (put r s.out s)
    go [] m s e = refl
    go (i ∷ is) ok s e = never cc
    go (i ∷ is) failed s e = refl
    go (i ∷ is) (stopped v) s e = refl

-- the loop's count does not matter, if it is not less than the rows
pub enough : (L : Limits) (n m : ℕ) (s : State) → length s.rest ≤ n → length s.rest ≤ m → items L n s ≡ items L m s
enough L zero zero s a b = refl
enough L zero (suc m) s a b = sym (items_end L m s (size_nil s.rest a))
enough L (suc n) zero s a b = items_end L n s (size_nil s.rest b)
enough L (suc n) (suc m) s a b = go s.rest s.mode s a b (enough L n m)
  where
    go : (r : List ℕ) (o : Mode) (s : State) → length r ≤ suc n → length r ≤ suc m → ((u : State) → length u.rest ≤ n → length u.rest ≤ m → items L n u ≡ items L m u) → let t : State = turn o (put r s.out s) in items L (suc n) t ≡ items L (suc m) t
    go [] o s a b H = refl
    go (i ∷ is) failed s a b H = refl
    go (i ∷ is) (stopped w) s a b H = refl
    go (i ∷ is) ok s a b H = by (item L t).mode refl
      where
        t : State
        t = turn ok (put (i ∷ is) s.out s)

        run_on : Running (item L t).mode → items L n (item L t) ≡ items L m (item L t)
        run_on r = let k = item_takes L t i is refl refl r in H (item L t) (omega (arith, k)) (omega (arith, k))

        by : (o : Mode) → (item L t).mode ≡ o → items L n (item L t) ≡ items L m (item L t)
        by ok e = run_on (subst Running (sym e) tt)
        by failed e = run_on (subst Running (sym e) tt)
        by (stopped w) e = items_stuck L n (item L t) w e ∙ sym (items_stuck L m (item L t) w e)

-- n items, then m
pub chain : (L : Limits) (n m : ℕ) (s : State) → items L (n + m) s ≡ items L m (items L n s)
chain L zero m s = ap (λ (k : ℕ). items L k s) (zero-add m)
chain L (suc n) m s = ap (λ (k : ℕ). items L k s) (suc-add n m) ∙ go s.rest s.mode s (chain L n m)
  where
    stay : (m : ℕ) (s : State) → put [] s.out s ≡ items L m (put [] s.out s)
    stay zero s = refl
    stay (suc m) s = refl

    bad : (m : ℕ) (i : ℕ) (is : List ℕ) (s : State) → turn failed (put (i ∷ is) s.out s) ≡ items L m (turn failed (put (i ∷ is) s.out s))
    bad zero i is s = refl
    bad (suc m) i is s = refl

    go : (r : List ℕ) (o : Mode) (s : State) → ((u : State) → items L (n + m) u ≡ items L m (items L n u)) → let t : State = turn o (put r s.out s) in items L (suc (n + m)) t ≡ items L m (items L (suc n) t)
    go [] o s H = stay m (turn o s)
    go (i ∷ is) ok s H = H (item L (turn ok (put (i ∷ is) s.out s)))
    go (i ∷ is) failed s H = bad m i is s
    go (i ∷ is) (stopped w) s H = sym (items_stuck L m (turn (stopped w) (put (i ∷ is) s.out s)) w refl)

-- rows are taken off the front
again_rest : (u : State) → (again u).rest ≡ u.rest
again_rest u = go u.mode u
  where
    go : (m : Mode) (u : State) → (again (turn m u)).rest ≡ u.rest
    go ok u = refl
    go failed u = refl
    go (stopped w) u = refl

item_rows : (L : Limits) (s : State) → End (item L s).rest s.rest
item_rows L s = subst (λ (r : List ℕ). End r s.rest) (sym (again_rest (flush (item_at L (sought item_keywords (trivia s).rest) (trivia s))))) (end_trans _ (trivia s).rest s.rest (at (sought item_keywords (trivia s).rest) (trivia s)) (gap_end s.mode s.rest))
  where
    at : (x : Next) (t : State) → End (item_at L x t).rest t.rest
    at end t = end_refl t.rest
    at other t = seek_end rule_keywords t.rest
    at (hit a is) t = reads_rows L (item_of a) t

pub items_rows : (L : Limits) (n : ℕ) (s : State) → End (items L n s).rest s.rest
items_rows L zero s = end_refl s.rest
items_rows L (suc n) s = go s.rest s.mode s (items_rows L n)
  where
    go : (r : List ℕ) (o : Mode) (s : State) → ((u : State) → End (items L n u).rest u.rest) → End (items L (suc n) (turn o (put r s.out s))).rest r
    go [] o s H = end_refl []
    go (i ∷ is) failed s H = end_refl (i ∷ is)
    go (i ∷ is) (stopped w) s H = end_refl (i ∷ is)
    go (i ∷ is) ok s H = let t : State = turn ok (put (i ∷ is) s.out s) in end_trans _ (item L t).rest (i ∷ is) (H (item L t)) (item_rows L t)

-- between two items: position, fuel and outputs only, and the last draft is what stands written
pub record Between (s : State) : Type 0 where
  pub fresh : Fresh s
  pub before : List Draft
  pub drafted : s.drafts ≡ (s.out, []) ∷ before

flush_between : (u : State) → Running u.mode → Between (again (flush u))
flush_between u = go u.mode u
  where
    go : (m : Mode) (u : State) → Running m → Between (again (flush (turn m u)))
    go ok u r = record { fresh = (after_item (turn ok u) tt).0; before = u.drafts; drafted = refl }
    go failed u r = record { fresh = (after_item (turn failed u) tt).0; before = u.drafts; drafted = refl }
    go (stopped w) u r = absurd r

pub items_between : (L : Limits) (n : ℕ) (s : State) → Between s → Running (items L n s).mode → Between (items L n s)
items_between L zero s b r = b
items_between L (suc n) s b r = go s.rest s.mode s b (items_between L n) r
  where
    go : (q : List ℕ) (o : Mode) (s : State) → let t : State = turn o (put q s.out s) in Between t → ((u : State) → Between u → Running (items L n u).mode → Between (items L n u)) → Running (items L (suc n) t).mode → Between (items L (suc n) t)
    go [] o s b H r = b
    go (i ∷ is) failed s b H r = b
    go (i ∷ is) (stopped w) s b H r = b
    go (i ∷ is) ok s b H r =
        let t : State = turn ok (put (i ∷ is) s.out s) in
        let u : State = item_at L (sought item_keywords (trivia t).rest) (trivia t) in
        H (item L t) (flush_between u (again_running u (items_stopped L n (item L t) r))) r

pub start_between : (r : List ℕ) (f : ℕ) → Between (start r f)
start_between r f = record { fresh = start_fresh r f; before = []; drafted = refl }

-- such a state is a start, with what was written before
pub rebuilt : (s : State) (b : Between s) → s ≡ h 0 s.out s.begun b.before (start s.rest s.fuel)
rebuilt s b =
    ap (λ (m : Mode). st m s.fuel s.want s.unwant s.chosen s.cache s.drafts) b.fresh.is_ok
    ∙ ap (λ (f : ℕ). st ok f s.want s.unwant s.chosen s.cache s.drafts) (sym (add-zero s.fuel))
    ∙ ap (λ (w : Option (ℕ × List ℕ)). st ok (s.fuel + 0) w s.unwant s.chosen s.cache s.drafts) b.fresh.no_want
    ∙ ap (λ (u : Option ℕ). st ok (s.fuel + 0) none u s.chosen s.cache s.drafts) b.fresh.no_unwant
    ∙ ap (λ (c : List (ℕ × Choice)). st ok (s.fuel + 0) none none c s.cache s.drafts) b.fresh.no_chosen
    ∙ ap (λ (c : List (ℕ × ℕ)). st ok (s.fuel + 0) none none [] c s.drafts) b.fresh.no_cache
    ∙ ap (λ (d : List Draft). st ok (s.fuel + 0) none none [] [] d) b.drafted
  where
    st : Mode → ℕ → Option (ℕ × List ℕ) → Option ℕ → List (ℕ × Choice) → List (ℕ × ℕ) → List Draft → State
    st m f w u c k d = record { rest = s.rest; mode = m; fuel = f; out = s.out; want = w; unwant = u; chosen = c; cache = k; begun = s.begun; drafts = d }

-- THE THEOREM, on states: wherever the reader, not stopped, stands after n items, the whole reading is the reading of the rows that are
-- left as a file of their own with the fuel that is left, behind what was written before. Rows are named from the end: nothing else differs.
pub damage_stays : (L : Limits) (r : List ℕ) (f n : ℕ) → let s : State = items L n (start r f) in Running s.mode → (b : Between s) × (read L r f ≡ h 0 s.out s.begun b.before (read L s.rest s.fuel))
damage_stays L r f n k =
    let s : State = items L n (start r f) in
    let b : Between s = items_between L n (start r f) (start_between r f) k in
    let l : length s.rest ≤ length r = end_length s.rest r (items_rows L n (start r f)) in
    (b, enough L (length r) (n + length r) (start r f) (omega arith) (omega arith) ∙ chain L n (length r) (start r f) ∙ enough L (length r) (length s.rest) s l (omega arith) ∙ ap (items L (length s.rest)) (rebuilt s b) ∙ (items_h L 0 s.out s.begun b.before (length s.rest) (start s.rest s.fuel) (any_live s.out s.begun b.before (read L s.rest s.fuel).mode)).1)

-- one item more
pub next_item : (L : Limits) (r : List ℕ) (f n i : ℕ) (is : List ℕ) → let s : State = items L n (start r f) in s.mode ≡ ok → s.rest ≡ i ∷ is → items L (n + 1) (start r f) ≡ item L s
next_item L r f n i is m e = chain L n 1 (start r f) ∙ items_step L 0 (items L n (start r f)) i is e m
