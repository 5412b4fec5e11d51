-- Fuel: what is left is what was given less the begin steps, or 0; more fuel changes no finished reading; less than was used finishes none.
use Prim.Native.Nat.{ℕ, zero, suc, ◌+◌, ◌-◌, ◌≤◌, ◌<◌}
use mathlib.Core.Path.{◌≡◌, refl, ap, ap₂, sym, ◌∙◌}
use mathlib.Core.List.{List, [], ◌∷◌, append-nil}
use mathlib.Core.Bool.{Bool, true, false}
use lib.ListN.{length}
use native.Mathlib.Omega.{arith}
use Rattle.definition.specs.Prog.{Prog}
use Rattle.definition.specs.Grammar.{item_of}
use Rattle.definition.specs.Run.{State, Limits, Draft, Event, Mode, ok, failed, stopped, spent, Next, end, other, hit, sought, trivia, turn, put, pay, charge, begin, finish, nodes, run, item_keywords, read_item, stray_item, item_at, flush, again, item, items, start, read, begin_steps}
use Rattle.definition.specs.Render.{Source, Reading, item_numbers, rendered, moments}
use Rattle.definition.proofs.Induct.{exec_kept, run_kept}
use Rattle.definition.proofs.Order.{Running, Steps, stepped, halted_not}
use Rattle.definition.proofs.Grows.{Grown, grown, running_before}
use Rattle.definition.proofs.File.{items_stopped, again_running}
use Rattle.definition.proofs.Frame.{h, behind, running_live}
use Rattle.definition.proofs.Whole.{items_h}
use Rattle.definition.proofs.Numbers.{numbers_fuel}

abbrev steps_of : State → ℕ
steps_of s = length s.begun

-- s and t: fuel, and begin steps
pub record Spent (s t : State) : Type 0 where
  pub more : steps_of s ≤ steps_of t
  pub less : t.fuel ≡ s.fuel - (steps_of t - steps_of s)
  pub grew : Grown s t
  pub exact : Running t.mode → s.fuel + steps_of s ≡ t.fuel + steps_of t

unpaid : (s t : State) → Grown s t → t.fuel ≡ s.fuel → t.begun ≡ s.begun → Spent s t
unpaid s t g a b = record { more = omega (arith, ap length b); less = omega (arith, a, ap length b); grew = g; exact = λ r. omega (arith, a, ap length b) }

charge_fuel : (d f : ℕ) (t : State) → t.fuel ≡ f → ((charge d f t).fuel ≡ f - 1) × ((charge d f t).begun ≡ t.begun)
charge_fuel d zero t e = (omega arith, refl)
charge_fuel zero (suc f) t e = (omega arith, refl)
charge_fuel (suc d) (suc f) t e = (omega arith, refl)

charge_paid : (d f : ℕ) (t : State) → Running (charge d f t).mode → 1 ≤ f
charge_paid d zero t r = absurd (halted_not spent t.mode r)
charge_paid zero (suc f) t r = omega arith
charge_paid (suc d) (suc f) t r = omega arith

finish_free : (o : Bool) (a n : ℕ) (s : State) → ((finish o a n s).fuel ≡ s.fuel) × ((finish o a n s).begun ≡ s.begun)
finish_free o a n s = go o s.mode s
  where
    go : (o : Bool) (m : Mode) (s : State) → ((finish o a n (turn m s)).fuel ≡ s.fuel) × ((finish o a n (turn m s)).begun ≡ s.begun)
    go o ok s = (refl, refl)
    go true failed s = (refl, refl)
    go false failed s = (refl, refl)
    go true (stopped w) s = (refl, refl)
    go false (stopped w) s = (refl, refl)

spent_trans : (s t u : State) → Spent s t → Spent t u → Spent s u
spent_trans s t u p q = record {
  more = omega (arith, p.more, q.more);
  less = omega (arith, p.more, q.more, p.less, q.less);
  grew = grown.trans s t u p.grew q.grew;
  exact = λ r. p.exact (running_before t u q.grew r) ∙ q.exact r;
}

begin_spent : (d : ℕ) (s : State) → Spent s (begin d s)
begin_spent d s =
    let c = charge_fuel d s.fuel (trivia s) refl in
    record {
      more = omega (arith, ap length c.1);
      less = omega (arith, c.0, ap length c.1);
      grew = Rattle.definition.proofs.Order.begin_up Grown grown d s;
      exact = λ r. omega (arith, c.0, ap length c.1, charge_paid d s.fuel (trivia s) r);
    }

finish_spent : (o : Bool) (a n : ℕ) (s : State) → Spent s (finish o a n s)
finish_spent o a n s = unpaid s (finish o a n s) (Rattle.definition.proofs.Order.finish_up Grown grown o a n s) (finish_free o a n s).0 (finish_free o a n s).1

spending : Steps Spent
spending = record {
  same = λ s. unpaid s s (grown.same s) refl refl;
  trans = spent_trans;
  at_turn = λ m s r. unpaid s _ (grown.at_turn m s r) refl refl;
  at_expected = λ N s. unpaid s _ (grown.at_note _ _ s) refl refl;
  at_unexpected = λ S s a is h. unpaid s _ (grown.at_note _ _ s) refl refl;
  at_choose = λ s. unpaid s _ (grown.at_choose s) refl refl;
  at_keep = λ r a s. unpaid s _ (grown.at_keep r a s) refl refl;
  at_trivia = λ s. unpaid s _ (grown.at_trivia s) refl refl;
  at_take = λ S s a is m e. unpaid s _ (grown.at_take S s a is m e) refl refl;
  at_skip = λ S s. unpaid s _ (grown.at_skip S s) refl refl;
  at_back = λ s t p. record { more = p.more; less = p.less; grew = grown.at_back s t p.grew; exact = p.exact };
  at_node = λ d o a f F s. let t : State = begin d s in spent_trans s (f t) (nodes d o a f s) (spent_trans s t (f t) (begin_spent d s) (F t)) (finish_spent o a (length t.rest) (f t));
}

-- between items no Grown is asked for: `flush` takes the pending errors away
pub record Paid (s t : State) : Type 0 where
  pub more : steps_of s ≤ steps_of t
  pub less : t.fuel ≡ s.fuel - (steps_of t - steps_of s)
  pub exact : Running t.mode → s.fuel + steps_of s ≡ t.fuel + steps_of t

paid_free : (s t : State) → t.fuel ≡ s.fuel → t.begun ≡ s.begun → Paid s t
paid_free s t a b = record { more = omega (arith, ap length b); less = omega (arith, a, ap length b); exact = λ r. omega (arith, a, ap length b) }

paid_trans : (s t u : State) → (Running u.mode → Running t.mode) → Paid s t → Paid t u → Paid s u
paid_trans s t u z p q = record { more = omega (arith, p.more, q.more); less = omega (arith, p.more, q.more, p.less, q.less); exact = λ r. p.exact (z r) ∙ q.exact r }

reads_paid : (L : Limits) (p : Prog) (s : State) → Paid s (read_item L p s)
unfolding read_item
reads_paid L p s = let q = exec_kept (stepped Spent spending) L.depth (run L.entrypoint L.depth) (run_kept (stepped Spent spending) L.entrypoint L.depth) p false s in record { more = q.more; less = q.less; exact = q.exact }

pub again_free : (u : State) → ((again (flush u)).fuel ≡ u.fuel) × ((again (flush u)).begun ≡ u.begun)
again_free u = go u.mode u
  where
    go : (m : Mode) (u : State) → ((again (flush (turn m u))).fuel ≡ u.fuel) × ((again (flush (turn m u))).begun ≡ u.begun)
    go ok u = (refl, refl)
    go failed u = (refl, refl)
    go (stopped w) u = (refl, refl)

item_paid : (L : Limits) (s : State) → Paid s (item L s)
item_paid L s =
    let u : State = item_at L (sought item_keywords (trivia s).rest) (trivia s) in
    let p : Paid s u = at (sought item_keywords (trivia s).rest) in
    paid_trans s u (item L s) (again_running u) p (paid_free u (item L s) (again_free u).0 (again_free u).1)
  where
    at : (x : Next) → Paid s (item_at L x (trivia s))
    at end = paid_free s (trivia s) refl refl
    at other = paid_free s (stray_item (trivia s)) refl refl
    at (hit a is) = let p = reads_paid L (item_of a) (trivia s) in record { more = p.more; less = p.less; exact = p.exact }

items_paid : (L : Limits) (n : ℕ) (s : State) → Paid s (items L n s)
items_paid L zero s = paid_free s s refl refl
items_paid L (suc n) s = go s.rest s.mode s (items_paid L n)
  where
    go : (r : List ℕ) (o : Mode) (s : State) → ((u : State) → Paid u (items L n u)) → let t : State = turn o (put r s.out s) in Paid t (items L (suc n) t)
    go [] o s H = paid_free (turn o (put [] s.out s)) (turn o (put [] s.out s)) refl refl
    go (i ∷ is) failed s H = paid_free (turn failed (put (i ∷ is) s.out s)) (turn failed (put (i ∷ is) s.out s)) refl refl
    go (i ∷ is) (stopped w) s H = paid_free (turn (stopped w) (put (i ∷ is) s.out s)) (turn (stopped w) (put (i ∷ is) s.out s)) refl refl
    go (i ∷ is) ok s H =
        let t : State = turn ok (put (i ∷ is) s.out s) in
        paid_trans t (item L t) (items L n (item L t)) (items_stopped L n (item L t)) (item_paid L t) (H (item L t))

-- THE THEOREM: fuel left is fuel given less the begin steps, or 0 if they are more
pub fuel_left : (L : Limits) (r : List ℕ) (f : ℕ) → (read L r f).fuel ≡ f - begin_steps L r f
fuel_left L r f = let p = items_paid L (length r) (start r f) in omega (arith, p.less)

pub fuel_exact : (L : Limits) (r : List ℕ) (f : ℕ) → Running (read L r f).mode → f ≡ (read L r f).fuel + begin_steps L r f
fuel_exact L r f k = let p = (items_paid L (length r) (start r f)).exact k in omega (arith, p)

-- more fuel
behind_nil : (ds : List Draft) → behind [] [] ds ≡ ds
behind_nil [] = refl
behind_nil (d ∷ ds) = ap₂ (λ (o : List Event) (l : List Draft). (o, d.1) ∷ l) (append-nil d.0) (behind_nil ds)

h_nil : (k : ℕ) (s : State) → h k [] [] [] s ≡ pay (s.fuel + k) s
h_nil k s = ap₂ (λ (o : List Event) (x : List ℕ × List Draft). record { rest = s.rest; mode = s.mode; fuel = s.fuel + k; out = o; want = s.want; unwant = s.unwant; chosen = s.chosen; cache = s.cache; begun = x.0; drafts = x.1 }) (append-nil s.out) (ap₂ (λ (b : List ℕ) (d : List Draft). (b, d)) (append-nil s.begun) (behind_nil s.drafts))

-- request (xiii), first part: on any larger fuel a finished reading is the same in all, and the fuel left is larger by just the difference
pub more_fuel : (L : Limits) (r : List ℕ) (f k : ℕ) → Running (read L r f).mode → read L r (f + k) ≡ pay ((read L r f).fuel + k) (read L r f)
more_fuel L r f k z = (items_h L k [] [] [] (length r) (start r f) (running_live k [] [] [] (read L r f).mode z)).1 ∙ h_nil k (read L r f)

-- request (xiii), second part: on less fuel than a finished reading used, the reading does not finish
pub less_fuel : (L : Limits) (r : List ℕ) (f g : ℕ) → Running (read L r f).mode → g < begin_steps L r f → Running (read L r g).mode → ⊥
less_fuel L r f g z l y =
    let k : ℕ = f - g in
    let e : g + k ≡ f = omega (arith, fuel_exact L r f z) in
    let m = more_fuel L r g k y in
    let b : begin_steps L r f ≡ begin_steps L r g = ap (begin_steps L r) (sym e) ∙ ap (λ (s : State). length s.begun) m in
    omega (arith, fuel_exact L r g y, b)

-- the first part in document 01's numbers; the rooms taken are the same too
pub more_fuel_shown : (L : Limits) (x : Source) (f k : ℕ) → Running (read L x.ids f).mode → let s : State = read L x.ids f in let t : State = read L x.ids (f + k) in let a : Reading = rendered L x (item_numbers L x.ids f) s in let b : Reading = rendered L x (item_numbers L x.ids (f + k)) t in
    (b.outcome ≡ a.outcome) × (b.covered ≡ a.covered) × (b.left ≡ a.left + k) × (b.events ≡ a.events) × (b.errors ≡ a.errors) × (b.items ≡ a.items) × (moments L x t ≡ moments L x s)
more_fuel_shown L x f k z =
    let m = more_fuel L x.ids f k z in
    let r : State → Reading = rendered L x [] in
    (ap (λ (u : State). (r u).outcome) m, ap (λ (u : State). (r u).covered) m, ap (λ (u : State). u.fuel) m, ap (λ (u : State). (r u).events) m, ap (λ (u : State). (r u).errors) m, numbers_fuel L x.ids f k z, ap (λ (u : State). moments L x u) m)
