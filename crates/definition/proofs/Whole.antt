-- The whole reading: more fuel, or events written before, change nothing else. So the rows that are left, read as a file of their own,
-- give what is left of the reading: rows are named from the end, so nothing else differs.
use Prim.Native.Nat.{ℕ, zero, suc}
use mathlib.Core.Path.{◌≡◌, refl, ap, ◌∙◌}
use mathlib.Core.List.{List, [], ◌∷◌, ◌++◌}
use mathlib.Core.Bool.{false}
use mathlib.Core.Option.{none}
use lib.ListN.{length}
use Rattle.kinds.specs.Kinds as kinds
use Rattle.definition.specs.Prog.{Prog}
use Rattle.definition.specs.Grammar.{item_of}
use Rattle.definition.specs.Run.{Limits, Draft, mark, State, Mode, ok, failed, stopped, Event, Choice, Next, end, other, hit, sought, trivia, turn, put, emit, run, rule_keywords, item_keywords, read_item, blame, item_at, errors, flush, again, item, items}
use Rattle.definition.proofs.Induct.{exec_kept, run_kept}
use Rattle.definition.proofs.Frame.{h, Live, Framed, frames, trivia_h, skip_to_h}

module _ (L : Limits) (k : ℕ) (q : List Event) (b : List ℕ) (dr : List Draft) where
  errors_q : (c : List (ℕ × Choice)) (o : List Event) → errors c (o ++ q) ≡ errors c o ++ q
  errors_q [] o = refl
  errors_q (e ∷ c) o = errors_q c (Event.bad e.0 e.1 ∷ o)

  abbrev pre : State → State
  pre s = record { rest = s.rest; mode = s.mode; fuel = s.fuel; out = errors s.chosen s.out; want = none; unwant = none; chosen = []; cache = []; begun = s.begun; drafts = s.drafts }

  flush_h : (s : State) → flush (h k q b dr s) ≡ h k q b dr (flush s)
  flush_h s = ap (λ (o : List Event). mark (put s.rest o (h k q b dr (pre s)))) (errors_q s.chosen s.out)

  again_h : (s : State) → again (h k q b dr s) ≡ h k q b dr (again s)
  again_h s = go s.mode s
    where
      go : (m : Mode) (s : State) → again (h k q b dr (turn m s)) ≡ h k q b dr (again (turn m s))
      go ok s = refl
      go failed s = refl
      go (stopped w) s = refl

  again_live : (s : State) → Live k q b dr (again s).mode → Live k q b dr s.mode
  again_live s = go s.mode s
    where
      go : (m : Mode) (s : State) → Live k q b dr (again (turn m s)).mode → Live k q b dr m
      go ok s l = tt
      go failed s l = tt
      go (stopped w) s l = l

  pub reads_h : (p : Prog) → Framed k q b dr (read_item L p)
  unfolding read_item
  reads_h p = exec_kept (frames k q b dr) L.depth (run L.entrypoint L.depth) (run_kept (frames k q b dr) L.entrypoint L.depth) p false

  pub item_at_h : (x : Next) → Framed k q b dr (item_at L x)
  item_at_h end s l = (l, refl)
  item_at_h other s l = (l, ap (λ (u : State). emit (Event.closed kinds.ERROR (length s.rest) (length u.rest)) u) (skip_to_h k q b dr rule_keywords (emit (Event.opened (length s.rest)) (blame s))))
  item_at_h (hit a is) s l = reads_h (item_of a) s l

  pub item_h : Framed k q b dr (item L)
  item_h s l =
      let x : Next = sought item_keywords (trivia s).rest in
      let u : State = item_at L x (trivia s) in
      let z = item_at_h x (trivia s) (again_live (flush u) l) in
      (z.0, ap (λ (t : State). again (flush (item_at L (sought item_keywords t.rest) t))) (trivia_h k q b dr s) ∙ ap (λ (t : State). again (flush t)) z.1 ∙ ap again (flush_h u) ∙ again_h (flush u))

  pub items_h : (n : ℕ) → Framed k q b dr (items L n)
  items_h zero s l = (l, refl)
  items_h (suc n) s l = go s.rest s.mode s (items_h n) l
    where
      go : (r : List ℕ) (m : Mode) (s : State) → Framed k q b dr (items L n) → let t : State = turn m (put r s.out s) in Live k q b dr (items L (suc n) t).mode → Live k q b dr m × (items L (suc n) (h k q b dr t) ≡ h k q b dr (items L (suc n) t))
      go [] m s H l = (l, refl)
      go (i ∷ is) failed s H l = (l, refl)
      go (i ∷ is) (stopped w) s H l = (l, refl)
      go (i ∷ is) ok s H l =
          let t : State = turn ok (put (i ∷ is) s.out s) in
          let a = H (item L t) l in
          (tt, ap (items L n) (item_h t a.0).1 ∙ a.1)

pub any_live : (q : List Event) (b : List ℕ) (dr : List Draft) (m : Mode) → Live 0 q b dr m
any_live q b dr ok = tt
any_live q b dr failed = tt
any_live q b dr (stopped w) = refl
