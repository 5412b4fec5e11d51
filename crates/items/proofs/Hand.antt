-- The row at hand: an item, a row that begins none, or nothing. Assumes nothing.
use Prim.Native.Nat.{ℕ, suc, ◌+◌, ◌-◌, ◌≤◌, ◌<◌}
use mathlib.Core.Path.{◌≡◌, refl, sym, ap, subst, ◌∙◌}
use mathlib.Core.List.{List, [], ◌∷◌, ◌++◌, append-nil}
use mathlib.Core.Bool.{Bool, true, false}
use mathlib.Core.Option.{Option, none, some}
use native.Mathlib.Nat.{le_refl}
use native.Mathlib.Omega.{arith}
use lib.Dec.{eqb}
use lib.ListN.{length, get_or, drop, replicate, drop_of_length-le, length-append}
use lib.Seq.{drop-cons}
use Rattle.kinds.specs.Sets.{id_of, pick}
use Rattle.kinds.specs.Answers.{is_some}
use Rattle.shapes.specs.Shapes.{Rec, Owned, of_item, items_in}
use Rattle.shapes.proofs.Laws.{items_append, items_of, bare_of, bare_length}
use Rattle.definition.specs.Prog.{Prog}
use Rattle.definition.specs.Grammar.{item_of}
use Rattle.definition.specs.Run as P
use Rattle.definition.specs.Run.{Choice, Limits, Next, end, other, hit}
use Rattle.definition.specs.Render.{Source}
use Rattle.definition.proofs.Accept.{each_at}
use Rattle.notes.specs.Whole.{Whole}
use Rattle.notes.specs.Means.{Bufs, Past, Stands, Apart, recorded, over_of}
use Rattle.notes.specs.Did.{Wf, Did, Below, Distinct}
use Rattle.notes.proofs.Core.{Sticky}
use Rattle.notes.proofs.Sticky.{sticky_exec}
use Rattle.steps.proofs.Next.{lacks, has_some}
use Rattle.notes.proofs.Pigeon.{few}
use Rattle.items.specs.Items.{Tally, at_hand, Free, Strays, Handed, Hands}
use Rattle.items.proofs.Telling.{recorded_length}
use Rattle.items.proofs.Straying.{sticky_stray}
use Rattle.grammar.specs.Parts.{reach}

sticky_item : (L : Limits) (p : Past) (x : Source) (q : Prog) (a : P.State) → Sticky p x a (P.read_item L q a)
unfolding P.read_item
sticky_item L p x q a = sticky_exec p x L.entrypoint L.depth q false a

pub sticky_hand : (L : Limits) (p : Past) (x : Source) (a : P.State) → Sticky p x a (at_hand L a)
sticky_hand L p x a = go (P.sought P.item_keywords a.rest)
  where
    go : (n : Next) → Sticky p x a (P.item_at L n a)
    go end = λ z. refl
    go other = sticky_stray p x a
    go (hit i is) = sticky_item L p x (item_of i) a

-- the kinds of the rows that begin an item have the numbers of their ids
own_kind : (i a : ℕ) → pick P.item_keywords i ≡ some a → a ≡ i
unfolding id_of
own_kind = each_at (λ (a i : ℕ). a ≡ i) P.item_keywords (refl, (refl, (refl, (refl, (refl, tt)))))

-- what stands at hand
module _ (ids : List ℕ) (at : ℕ) where
  at_end : length ids ≤ at → P.sought P.item_keywords (drop at ids) ≡ end
  at_end h = ap (P.sought P.item_keywords) (drop_of_length-le ids h)

  at_row : (o : Option ℕ) → at < length ids → pick P.item_keywords (get_or ids at 0) ≡ o → P.sought P.item_keywords (drop at ids) ≡ elim o [ none ↦ other | some a ↦ hit a (drop (suc at) ids) ]
  at_row o h e = ap (P.sought P.item_keywords) (drop-cons ids at 0 h) ∙ ap (λ (t : Option ℕ). elim t [ none ↦ other | some a ↦ hit a (drop (suc at) ids) ]) e

-- errors at rows of their own are few
abbrev rows : List (ℕ × Choice) → List ℕ
rows [] = []
rows (e ∷ es) = e.0 ∷ rows es

rows_length : (es : List (ℕ × Choice)) → length (rows es) ≡ length es
rows_length [] = refl
rows_length (e ∷ es) = ap suc (rows_length es)

has_rows : (r : ℕ) (es : List (ℕ × Choice)) → P.has (rows es) r ≡ P.pending r es
has_rows r [] = refl
has_rows r (e ∷ es) = ap (λ (b : Bool). elim (eqb r e.0) [ true ↦ true | false ↦ b ]) (has_rows r es)

own_rows : (n : ℕ) (es : List (ℕ × Choice)) → Apart n es → Distinct (rows es) × Below (suc n) (rows es)
own_rows n [] a = (tt, tt)
own_rows n (e ∷ es) a = let y = own_rows n es a.2 in ((has_rows e.0 es ∙ a.1, y.0), (omega (arith, a.0), y.1))

apart_few : (n : ℕ) (es : List (ℕ × Choice)) → Apart n es → length es ≤ n + 1
apart_few n es a = let y = own_rows n es a in omega (arith, few (suc n) (rows es) y.0 y.1, rows_length es)

-- nothing was recorded but what stood
none_new : (p : Past) → items_in p.records ≡ items_in p.records ++ replicate 0 p.number
none_new p = sym (append-nil (items_in p.records))

-- where a room was exceeded before
pub hand_stuck : {bounds : ℕ × Bool} {x : Source} {s : Whole} {before : ℕ} {b : Bufs} → (s.full ≡ 0 → ⊥) → Wf x b s → Hands bounds x s before (record { state = s; before = before }) b b
unfolding over_of
hand_stuck {bounds} {x} n w =
    record {
      does = λ p a i t f.
          record {
            records = p.records;
            many = 0;
            own = none_new p;
            stands = record { over = t.over ∙ sym (sticky_hand p.limits p x a (λ z. n (t.over ∙ z))); means = λ z. absurd (n z) };
            count = λ z. absurd (n z);
            few = λ z. absurd (n z);
          };
      wf = w;
      room = λ z. z;
      first = refl;
      ahead = le_refl _;
    }

-- by what stands at hand
module _ {x : Source} {s : Whole} {b : Bufs} (z : s.full ≡ 0) where
  hand_is : (n : Next) → P.sought P.item_keywords (drop s.pos x.ids) ≡ n → {p : Past} {a : P.State} → Stands p x s b a → P.item_at p.limits n a ≡ at_hand p.limits a
  hand_is n q {p} {a} t = ap (λ (k : Next). P.item_at p.limits k a) (sym (ap (P.sought P.item_keywords) (t.means z).rest ∙ q))

module _ {bounds : ℕ × Bool} {x : Source} {s : Whole} {b : Bufs} (z : s.full ≡ 0) where
  -- n was read, as the definition does it
  hands : (n : Next) → P.sought P.item_keywords (drop s.pos x.ids) ≡ n → (d : Tally) (before : ℕ) {b' : Bufs}
      → ((p : Past) (a : P.State) → reach p.limits ≡ bounds → Stands p x s b a → Free p s before a → Handed x s before d b' p (P.item_at p.limits n a))
      → Wf x b' d.state → d.state.first ≡ s.first → s.pos ≤ d.state.pos → Hands bounds x s before d b b'
  hands n q d before {b'} g w same h =
      record {
        does = λ p a i t f. subst (Handed x s before d b' p) (hand_is z n q t) (g p a i t f);
        wf = w;
        room = λ v. z;
        first = same;
        ahead = h;
      }

  pub hand_end : {before : ℕ} → length x.ids ≤ s.pos → Wf x b s → Hands bounds x s before (record { state = s; before = before }) b b
  hand_end {before} h w = hands end (at_end x.ids s.pos h) (record { state = s; before = before }) before (λ p a i t f. record { records = p.records; many = 0; own = none_new p; stands = t; count = λ v. (f z).1; few = λ v. omega (arith, (f z).1, ap length (f z).0) }) w refl (le_refl _)

  module _ (h : s.pos < length x.ids) where
    pub hand_item : {before : ℕ} {r : Whole} {b' : Bufs} → true ≡ is_some (pick P.item_keywords (get_or x.ids s.pos 0)) → ((L : Limits) → reach L ≡ bounds → Did (P.read_item L (item_of (get_or x.ids s.pos 0))) x s r b b') → Hands bounds x s before (record { state = r; before = before }) b b'
    hand_item {before} {r} e y =
        let i = get_or x.ids s.pos 0 in
        let e' = has_some P.item_keywords i e in
        let any = y (record { depth = bounds.0; quote = 0; entrypoint = bounds.1 }) refl in
        hands (hit i (drop (suc s.pos) x.ids)) (at_row x.ids s.pos (some i) h (e' ∙ ap some (own_kind i _ e'))) (record { state = r; before = before }) before
        (λ p a e t f. let u = y p.limits e in record { records = p.records; many = 0; own = none_new p; stands = u.does p a t; count = λ v. (f z).1; few = λ v. omega (arith, apart_few (length x.ids - r.first) (P.read_item p.limits (item_of i) a).chosen ((u.does p a t).means v).chosen.apart, u.first) })
        any.wf any.first any.ahead

    pub hand_stray : {before : ℕ} {d : Tally} {b' : Bufs} → false ≡ is_some (pick P.item_keywords (get_or x.ids s.pos 0)) → Strays x s before d b b' → Hands bounds x s before d b b'
    hand_stray {before} {d} e y =
        hands other (at_row x.ids s.pos none h (lacks P.item_keywords (get_or x.ids s.pos 0) e)) d before
        (λ p a i t f.
        let one : List Rec = recorded p.limits x ((length a.rest, P.stray) ∷ []) in
        let new : List Owned = of_item p.number one in
        record {
          records = p.records ++ new;
          many = length one;
          own = items_append p.records new ∙ ap (λ (l : List ℕ). items_in p.records ++ l) (items_of p.number one);
          stands = y.does p a t f;
          count = y.count p a t f;
          few = λ v. omega (arith, y.count p a t f v, (f z).1, length-append p.records new, sym (bare_length new) ∙ ap length (bare_of p.number one), recorded_length p.limits x ((length a.rest, P.stray) ∷ []), ap length (f z).0);
        })
        y.wf y.first y.ahead
