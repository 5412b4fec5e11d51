-- REQUEST (x): the numbers of the items that records belong to. They are as many as the records; n items and then m; more fuel, or events written before,
-- change none; and those of the rows that are left, read as a file of their own, are shifted by the items before.
use Prim.Native.Nat.{ℕ, zero, suc, ◌+◌, ◌-◌, ◌≤◌}
use mathlib.Core.Path.{◌≡◌, refl, ap, ap₂, sym, ◌∙◌, subst}
use mathlib.Core.List.{List, [], ◌∷◌, ◌++◌, append_assoc}
use lib.ListN.{length, replicate, length-append, length-replicate}
use native.Mathlib.Nat.{suc-add, zero-add}
use native.Mathlib.Omega.{arith}
use Rattle.definition.specs.Run.{State, Limits, Draft, Event, opened, leaf, closed, bad, Mode, ok, failed, stopped, Stop, Next, sought, trivia, turn, put, item_keywords, item_at, errors, flush, again, item, items, start, read}
use Rattle.definition.specs.Render.{bads, numbers, item_numbers}
use Rattle.definition.specs.Remaining.{shift_items}
use Rattle.definition.proofs.Every.{never}
use Rattle.definition.proofs.Order.{Running}
use Rattle.definition.proofs.Grows.{gap_bads}
use Rattle.definition.proofs.File.{errors_bads, item_grows}
use Rattle.definition.proofs.Frame.{h, Live, running_live}
use Rattle.definition.proofs.Whole.{item_h, items_h, any_live}
use Rattle.definition.proofs.Takes.{end_length, item_takes}
use Rattle.definition.proofs.Shrink.{size_nil}
use Rattle.definition.proofs.Agree.{nil_cons}
use Rattle.definition.proofs.Suffix.{Between, items_rows, items_between, start_between, rebuilt}

-- how many records an item brings
abbrev pub brought : Limits → State → ℕ
brought L s = bads (item L s).out - bads s.out

again_out : (u : State) → (again (flush u)).out ≡ errors u.chosen u.out
again_out u = go u.mode u
  where
    go : (m : Mode) (u : State) → (again (flush (turn m u))).out ≡ errors u.chosen u.out
    go ok u = refl
    go failed u = refl
    go (stopped w) u = refl

pub item_more : (L : Limits) (s : State) → bads s.out ≤ bads (item L s).out
item_more L s =
    let t : State = trivia s in
    let x : Next = sought item_keywords t.rest in
    let u : State = item_at L x t in
    omega (arith, item_grows L x t, gap_bads s.mode s.rest s.out, ap bads (again_out u), errors_bads u.chosen u.out)

-- no item: no row is left, or the reader is not in good order
pub numbers_end : (L : Limits) (n i : ℕ) (s : State) → s.rest ≡ [] → numbers L n i s ≡ []
numbers_end L zero i s e = refl
numbers_end L (suc n) i s e = go s.rest s e
  where
    go : (r : List ℕ) (s : State) → r ≡ [] → numbers L (suc n) i (put r s.out s) ≡ []
    go [] s e = refl
    go (j ∷ js) s e = nil_cons e

numbers_stuck : (L : Limits) (n i : ℕ) (s : State) (w : Stop) → s.mode ≡ stopped w → numbers L n i s ≡ []
numbers_stuck L zero i s w e = refl
numbers_stuck L (suc n) i s w e = go s.rest s.mode s e
  where
    go : (r : List ℕ) (m : Mode) (s : State) → m ≡ stopped w → numbers L (suc n) i (turn m (put r s.out s)) ≡ []
    go [] m s e = refl
    go (j ∷ js) ok s e = never cc
    go (j ∷ js) failed s e = refl
    go (j ∷ js) (stopped v) s e = refl

-- an item
pub numbers_step : (L : Limits) (n i : ℕ) (s : State) (j : ℕ) (js : List ℕ) → s.rest ≡ j ∷ js → s.mode ≡ ok → numbers L (suc n) i s ≡ replicate (brought L s) i ++ numbers L n (suc i) (item L s)
numbers_step L n i s j js = go s.rest s.mode s
  where
    go : (r : List ℕ) (m : Mode) (s : State) → r ≡ j ∷ js → m ≡ ok → let t : State = turn m (put r s.out s) in numbers L (suc n) i t ≡ replicate (brought L t) i ++ numbers L n (suc i) (item L t)
    go [] m s e k = nil_cons (sym e)
    go (l ∷ ls) ok s e k = refl
    go (l ∷ ls) failed s e k = Rattle.definition.proofs.Shrink.not_failed k
    go (l ∷ ls) (stopped w) s e k = Rattle.definition.proofs.Shrink.not_stopped w k

-- there are as many numbers as records
pub numbers_length : (L : Limits) (n i : ℕ) (s : State) → length (numbers L n i s) + bads s.out ≡ bads (items L n s).out
numbers_length L zero i s = omega arith
numbers_length L (suc n) i s = go s.rest s.mode s (numbers_length L n (suc i))
  where
    go : (r : List ℕ) (m : Mode) (s : State) → ((u : State) → length (numbers L n (suc i) u) + bads u.out ≡ bads (items L n u).out) → let t : State = turn m (put r s.out s) in length (numbers L (suc n) i t) + bads t.out ≡ bads (items L (suc n) t).out
    go [] m s H = omega arith
    go (j ∷ js) failed s H = omega arith
    go (j ∷ js) (stopped w) s H = omega arith
    go (j ∷ js) ok s H =
        let t : State = turn ok (put (j ∷ js) s.out s) in
        omega (arith, H (item L t), item_more L t, length-append (replicate (brought L t) i) (numbers L n (suc i) (item L t)), length-replicate {A = ℕ} (brought L t) i)

pub item_numbers_length : (L : Limits) (r : List ℕ) (f : ℕ) → length (item_numbers L r f) ≡ bads (read L r f).out
item_numbers_length L r f = omega (arith, numbers_length L (length r) 1 (start r f))

-- n items, then m
pub numbers_chain : (L : Limits) (n m i : ℕ) (s : State) → numbers L (n + m) i s ≡ numbers L n i s ++ numbers L m (n + i) (items L n s)
numbers_chain L zero m i s = ap₂ (λ (k j : ℕ). numbers L k j s) (zero-add m) (sym (zero-add i))
numbers_chain L (suc n) m i s = ap (λ (k : ℕ). numbers L k i s) (suc-add n m) ∙ go s.rest s.mode s (numbers_chain L n m (suc i))
  where
    none : (m i : ℕ) (s : State) → [] ≡ numbers L m i (put [] s.out s)
    none zero i s = refl
    none (suc m) i s = refl

    fails : (m i : ℕ) (j : ℕ) (js : List ℕ) (s : State) → [] ≡ numbers L m i (turn failed (put (j ∷ js) s.out s))
    fails zero i j js s = refl
    fails (suc m) i j js s = refl

    go : (r : List ℕ) (o : Mode) (s : State) → ((u : State) → numbers L (n + m) (suc i) u ≡ numbers L n (suc i) u ++ numbers L m (n + suc i) (items L n u)) → let t : State = turn o (put r s.out s) in numbers L (suc (n + m)) i t ≡ numbers L (suc n) i t ++ numbers L m (suc n + i) (items L (suc n) t)
    go [] o s H = none m (suc n + i) (turn o s)
    go (j ∷ js) failed s H = fails m (suc n + i) j js s
    go (j ∷ js) (stopped w) s H = sym (numbers_stuck L m (suc n + i) (turn (stopped w) (put (j ∷ js) s.out s)) w refl)
    go (j ∷ js) ok s H =
        let t : State = turn ok (put (j ∷ js) s.out s) in
        let u : State = item L t in
        let k : n + suc i ≡ suc n + i = omega arith in
        ap (λ (l : List ℕ). replicate (brought L t) i ++ l) (H u ∙ ap (λ (l : ℕ). numbers L n (suc i) u ++ numbers L m l (items L n u)) k)
        ∙ sym (append_assoc (replicate (brought L t) i) (numbers L n (suc i) u) (numbers L m (suc n + i) (items L n u)))

-- numbers that begin later
shift_append : (k : ℕ) (a b : List ℕ) → shift_items k (a ++ b) ≡ shift_items k a ++ shift_items k b
shift_append k [] b = refl
shift_append k (x ∷ a) b = ap (λ (l : List ℕ). (k + x) ∷ l) (shift_append k a b)

shift_replicate : (k n i : ℕ) → shift_items k (replicate n i) ≡ replicate n (k + i)
shift_replicate k zero i = refl
shift_replicate k (suc n) i = ap (λ (l : List ℕ). (k + i) ∷ l) (shift_replicate k n i)

pub numbers_shift : (L : Limits) (k n i : ℕ) (s : State) → numbers L n (k + i) s ≡ shift_items k (numbers L n i s)
numbers_shift L k zero i s = refl
numbers_shift L k (suc n) i s = go s.rest s.mode s (numbers_shift L k n (suc i))
  where
    go : (r : List ℕ) (m : Mode) (s : State) → ((u : State) → numbers L n (k + suc i) u ≡ shift_items k (numbers L n (suc i) u)) → let t : State = turn m (put r s.out s) in numbers L (suc n) (k + i) t ≡ shift_items k (numbers L (suc n) i t)
    go [] m s H = refl
    go (j ∷ js) failed s H = refl
    go (j ∷ js) (stopped w) s H = refl
    go (j ∷ js) ok s H =
        let t : State = turn ok (put (j ∷ js) s.out s) in
        let u : State = item L t in
        let e : suc (k + i) ≡ k + suc i = omega arith in
        ap₂ (λ (a b : List ℕ). a ++ b) (sym (shift_replicate k (brought L t) i)) (ap (λ (l : ℕ). numbers L n l u) e ∙ H u)
        ∙ sym (shift_append k (replicate (brought L t) i) (numbers L n (suc i) u))

-- the count of items does not matter, if it is not less than the rows
pub numbers_enough : (L : Limits) (n m i : ℕ) (s : State) → length s.rest ≤ n → length s.rest ≤ m → numbers L n i s ≡ numbers L m i s
numbers_enough L zero m i s a b = sym (numbers_end L m i s (size_nil s.rest a))
numbers_enough L (suc n) zero i s a b = numbers_end L (suc n) i s (size_nil s.rest b)
numbers_enough L (suc n) (suc m) i s a b = go s.rest s.mode s a b (numbers_enough L n m (suc i))
  where
    go : (r : List ℕ) (o : Mode) (s : State) → length r ≤ suc n → length r ≤ suc m → ((u : State) → length u.rest ≤ n → length u.rest ≤ m → numbers L n (suc i) u ≡ numbers L m (suc i) u) → let t : State = turn o (put r s.out s) in numbers L (suc n) i t ≡ numbers L (suc m) i t
    go [] o s a b H = refl
    go (j ∷ js) failed s a b H = refl
    go (j ∷ js) (stopped w) s a b H = refl
    go (j ∷ js) ok s a b H = ap (λ (l : List ℕ). replicate (brought L t) i ++ l) (by (item L t).mode refl)
      where
        t : State
        t = turn ok (put (j ∷ js) s.out s)

        run_on : Running (item L t).mode → numbers L n (suc i) (item L t) ≡ numbers L m (suc i) (item L t)
        run_on r = let k = item_takes L t j js refl refl r in H (item L t) (omega (arith, k)) (omega (arith, k))

        by : (o : Mode) → (item L t).mode ≡ o → numbers L n (suc i) (item L t) ≡ numbers L m (suc i) (item L t)
        by ok e = run_on (subst Running (sym e) tt)
        by failed e = run_on (subst Running (sym e) tt)
        by (stopped w) e = numbers_stuck L n (suc i) (item L t) w e ∙ sym (numbers_stuck L m (suc i) (item L t) w e)

-- more fuel, or events written before, change no number
bads_append : (o q : List Event) → bads (o ++ q) ≡ bads o + bads q
bads_append [] q = omega arith
bads_append (opened n ∷ o) q = bads_append o q
bads_append (leaf a n ∷ o) q = bads_append o q
bads_append (closed a n m ∷ o) q = bads_append o q
bads_append (bad n c ∷ o) q = omega (arith, bads_append o q)

module _ (L : Limits) (k : ℕ) (q : List Event) (b : List ℕ) (dr : List Draft) where
  pub numbers_h : (n i : ℕ) (s : State) → Live k q b dr (items L n s).mode → numbers L n i (h k q b dr s) ≡ numbers L n i s
  numbers_h zero i s l = refl
  numbers_h (suc n) i s l = go s.rest s.mode s (numbers_h n (suc i)) l
    where
      go : (r : List ℕ) (m : Mode) (s : State) → ((u : State) → Live k q b dr (items L n u).mode → numbers L n (suc i) (h k q b dr u) ≡ numbers L n (suc i) u) → let t : State = turn m (put r s.out s) in Live k q b dr (items L (suc n) t).mode → numbers L (suc n) i (h k q b dr t) ≡ numbers L (suc n) i t
      go [] m s H l = refl
      go (j ∷ js) failed s H l = refl
      go (j ∷ js) (stopped w) s H l = refl
      go (j ∷ js) ok s H l =
          let t : State = turn ok (put (j ∷ js) s.out s) in
          let a = items_h L k q b dr n (item L t) l in
          let e = (item_h L k q b dr t a.0).1 in
          let c : bads (item L (h k q b dr t)).out - bads (s.out ++ q) ≡ brought L t = omega (arith, ap (λ (u : State). bads u.out) e, bads_append (item L t).out q, bads_append s.out q) in
          ap₂ (λ (a : ℕ) (b : List ℕ). replicate a i ++ b) c (ap (numbers L n (suc i)) e ∙ H (item L t) l)

-- THE THEOREM of demand 3: the reader, not stopped, stands after n items
pub numbers_later : (L : Limits) (r : List ℕ) (f n : ℕ) → let s : State = items L n (start r f) in Running s.mode → item_numbers L r f ≡ numbers L n 1 (start r f) ++ shift_items n (item_numbers L s.rest s.fuel)
numbers_later L r f n k =
    let s : State = items L n (start r f) in
    let b : Between s = items_between L n (start r f) (start_between r f) k in
    let l : length s.rest ≤ length r = end_length s.rest r (items_rows L n (start r f)) in
    let m : ℕ = length s.rest in
    numbers_enough L (length r) (n + length r) 1 (start r f) (omega arith) (omega arith)
    ∙ numbers_chain L n (length r) 1 (start r f)
    ∙ ap (λ (t : List ℕ). numbers L n 1 (start r f) ++ t)
    (numbers_enough L (length r) m (n + 1) s l (omega arith)
    ∙ ap (numbers L m (n + 1)) (rebuilt s b)
    ∙ numbers_h L 0 s.out s.begun b.before m (n + 1) (start s.rest s.fuel) (any_live s.out s.begun b.before (read L s.rest s.fuel).mode)
    ∙ numbers_shift L n m 1 (start s.rest s.fuel))

-- and of more fuel, where the reading finishes
pub numbers_fuel : (L : Limits) (r : List ℕ) (f k : ℕ) → Running (read L r f).mode → item_numbers L r (f + k) ≡ item_numbers L r f
numbers_fuel L r f k z = numbers_h L k [] [] [] (length r) 1 (start r f) (running_live k [] [] [] (read L r f).mode z)
