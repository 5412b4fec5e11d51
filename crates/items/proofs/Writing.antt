-- Error events are written out of records: what the loop reads and writes, one record after another. Assumes nothing.
use Prim.Native.Nat.{ℕ, zero, suc, ◌+◌, ◌*◌, ◌≤◌, ◌<◌}
use mathlib.Core.Path.{◌≡◌, refl, sym, ap, ap₂, subst, ◌∙◌}
use mathlib.Core.List.{List, [], ◌∷◌, ◌++◌, append-nil, append_assoc}
use mathlib.Core.Bool.{Bool, true, false}
use native.Mathlib.Nat.{le_refl, le_trans, add-zero}
use native.Mathlib.Omega.{arith}
use native.Mathlib.Decide.{ℕ_discrete}
use borrow.Author.Tests.{le-ltb, lt-ltb, ltb-true}
use lib.Dec.{ltb}
use lib.ListN.{length, get_or, take, drop, length-append, length-drop}
use lib.Seq.{take-take, get_or-drop, drop-append_seam}
use Rattle.shapes.specs.Sort as Sort
use Rattle.shapes.proofs.Laws.{add_head, next_within, next_rest}
use Rattle.shapes.specs.Shapes.{EVENT, event, HEAD, FORM, COUNT, behind, record_size, next_record}
use Rattle.definition.specs.Buffer.{next_depth}
use Rattle.notes.specs.Whole.{Whole}
use Rattle.notes.specs.Bits.{ifb}
use Rattle.notes.specs.Change.{with_ev, with_full}
use Rattle.notes.specs.Did.{Put}
use Rattle.items.specs.Items.{most, notes, Puts, Flushed}

-- WHAT IS READ
notes_pass : (d i k : ℕ) (l : List ℕ) → notes d i k l ≡ notes d i 0 (drop k l)
unfolding notes
notes_pass d i zero l = refl
notes_pass d i (suc k) [] = refl
notes_pass d i (suc k) (a ∷ l) = notes_pass d i k l

notes_head : (d i : ℕ) (l : List ℕ) → i < most → HEAD ≤ length l → notes d i 0 l ≡ event Sort.ERROR i (get_or l 0 0) (get_or l 1 0) d ++ notes d (suc i) 0 (drop (record_size (get_or l FORM 0) (get_or l COUNT 0)) l)
unfolding notes
notes_head d i [] g h = absurd (omega arith)
notes_head d i (a ∷ []) g h = absurd (omega arith)
notes_head d i (a ∷ b ∷ []) g h = absurd (omega arith)
notes_head d i (a ∷ b ∷ f ∷ []) g h = absurd (omega arith)
notes_head d i (a ∷ b ∷ f ∷ o ∷ []) g h = absurd (omega arith)
notes_head d i (a ∷ b ∷ f ∷ o ∷ n ∷ l) g h =
    ap (λ (c : Bool). elim c [ true ↦ event Sort.ERROR i a b d ++ notes d (suc i) (behind f n) l | false ↦ [] ]) (lt-ltb i most g)
    ∙ ap (λ (t : List ℕ). event Sort.ERROR i a b d ++ t) (notes_pass d (suc i) (behind f n) l ∙ ap (λ (j : ℕ). notes d (suc i) 0 (drop j (a ∷ b ∷ f ∷ o ∷ n ∷ l))) (sym (add_head (behind f n))))

notes_few : (d i : ℕ) (l : List ℕ) → length l < HEAD → notes d i 0 l ≡ []
unfolding notes
notes_few d i [] h = refl
notes_few d i (a ∷ []) h = refl
notes_few d i (a ∷ b ∷ []) h = refl
notes_few d i (a ∷ b ∷ f ∷ []) h = refl
notes_few d i (a ∷ b ∷ f ∷ o ∷ []) h = refl
notes_few d i (a ∷ b ∷ f ∷ o ∷ n ∷ l) h = absurd (omega arith)

notes_most : (d i : ℕ) (l : List ℕ) → i ≡ most → notes d i 0 l ≡ []
unfolding notes
notes_most d i [] h = refl
notes_most d i (a ∷ []) h = refl
notes_most d i (a ∷ b ∷ []) h = refl
notes_most d i (a ∷ b ∷ f ∷ []) h = refl
notes_most d i (a ∷ b ∷ f ∷ o ∷ []) h = refl
notes_most d i (a ∷ b ∷ f ∷ o ∷ n ∷ l) h = ap (λ (c : Bool). elim c [ true ↦ event Sort.ERROR i a b d ++ notes d (suc i) (behind f n) l | false ↦ [] ]) (le-ltb i most (omega (arith, h)))

notes_at : (d i : ℕ) (l : List ℕ) (at : ℕ) → i < most → at + HEAD ≤ length l → notes d i 0 (drop at l) ≡ event Sort.ERROR i (get_or l at 0) (get_or l (at + 1) 0) d ++ notes d (suc i) 0 (drop (next_record l at) l)
notes_at d i l at g h =
    notes_head d i (drop at l) g (omega (arith, length-drop at l))
    ∙ ap₂ (λ (a b : ℕ). event Sort.ERROR i a b d ++ notes d (suc i) 0 (drop (record_size (get_or (drop at l) FORM 0) (get_or (drop at l) COUNT 0)) (drop at l))) (get_or-drop at l 0 0 ∙ ap (λ (j : ℕ). get_or l j 0) (add-zero at)) (get_or-drop at l 1 0)
    ∙ ap (λ (t : List ℕ). event Sort.ERROR i (get_or l at 0) (get_or l (at + 1) 0) d ++ notes d (suc i) 0 t) (sym (next_rest l at))

-- WHAT IS WRITTEN
pub puts_none : {s : Whole} {ev : List ℕ} → s.ev ≤ s.evcap → Puts [] s s ev ev
puts_none {s} {ev} h =
    record {
      is = refl;
      stuck = λ n. refl;
      filled = λ z. z ∙ ap (λ (c : Bool). ifb c 7 0) (sym (le-ltb s.evcap (s.ev + 0) (omega arith)));
      room = λ z. z;
      wrote = λ z. sym (append-nil (take s.ev ev));
      more = λ z. sym (add-zero s.ev);
      fits = h;
      grows = le_refl _;
      long = refl;
      kept = refl;
    }

-- one event more
module _ {q : List ℕ} {s r t : Whole} {ev ev₁ ev₂ : List ℕ} (u : Puts q s r ev ev₁) (a b c j h : ℕ) (v : Put (event a b c j h) r t ev₁ ev₂) where
  caps : r.evcap ≡ s.evcap
  caps = ap (λ (y : Whole). y.evcap) u.is

  longer : length (q ++ event a b c j h) ≡ length q + EVENT
  longer = length-append q (event a b c j h)

  fills : s.full ≡ 0 → Dec (r.full ≡ 0) → t.full ≡ ifb (ltb s.evcap (s.ev + length (q ++ event a b c j h))) 7 0
  fills z (yes y) =
      let e : r.ev + EVENT ≡ s.ev + length (q ++ event a b c j h) = omega (arith, u.more y, longer) in
      v.filled y ∙ ap₂ (λ (i j : ℕ). ifb {A = ℕ} (ltb i j) 7 0) caps e
  fills z (no n) = v.stuck n ∙ u.filled z ∙ go (ltb s.evcap (s.ev + length q)) refl
    where
      go : (e : Bool) → ltb s.evcap (s.ev + length q) ≡ e → ◌≡◌ {A = ℕ} (ifb e 7 0) (ifb (ltb s.evcap (s.ev + length (q ++ event a b c j h))) 7 0)
      go true e = let l : s.evcap < s.ev + length q = ltb-true s.evcap (s.ev + length q) e in ap (λ (f : Bool). ifb f 7 0) (sym (lt-ltb s.evcap (s.ev + length (q ++ event a b c j h)) (omega (arith, longer))))
      go false e = absurd (n (u.filled z ∙ ap (λ (f : Bool). ifb f 7 0) e))

  pub puts_more : Puts (q ++ event a b c j h) s t ev ev₂
  puts_more =
      record {
        is = v.is ∙ ap (λ (y : Whole). with_ev t.ev (with_full t.full y)) u.is;
        stuck = λ n. v.stuck (λ z. n (u.room z)) ∙ u.stuck n;
        filled = λ z. fills z (ℕ_discrete r.full 0);
        room = λ z. u.room (v.room z);
        wrote = λ z. v.wrote z ∙ ap (λ (l : List ℕ). l ++ event a b c j h) (u.wrote (v.room z)) ∙ append_assoc (take s.ev ev) q (event a b c j h);
        more = λ z. omega (arith, v.more z, u.more (v.room z), longer);
        fits = omega (arith, v.fits, caps);
        grows = le_trans u.grows v.grows;
        long = v.long ∙ u.long;
        kept = sym (take-take s.ev r.ev ev₂ u.grows) ∙ ap (take s.ev) v.kept ∙ take-take s.ev r.ev ev₁ u.grows ∙ u.kept;
      }

-- THE LOOP: what was written, with what is left to read from a place on, is all
pub record Flushing (d : ℕ) (records : List ℕ) (before : ℕ) (s r : Whole) (ev ev' : List ℕ) (at index : ℕ) : Type 0 where
  pub done : List ℕ
  pub joins : done ++ notes d index 0 (drop at records) ≡ notes d before 0 records
  pub puts : Puts done s r ev ev'
  pub counted : EVENT * index ≡ EVENT * before + length done
  pub fits : r.evcap ≤ length ev'
  pub near : at ≤ length records
  pub low : index ≤ most

pub flushing : {d : ℕ} {records : List ℕ} {before : ℕ} {s : Whole} {ev : List ℕ} → s.ev ≤ s.evcap → s.evcap ≤ length ev → before ≤ most → Flushing d records before s s ev ev 0 before
flushing h l g = record { done = []; joins = refl; puts = puts_none h; counted = omega arith; fits = l; near = omega arith; low = g }

module _ {d : ℕ} {records : List ℕ} {before : ℕ} {s r : Whole} {ev ev' : List ℕ} {at index : ℕ} (f : Flushing d records before s r ev ev' at index) where
  pub flush_open : (r.ev ≤ r.evcap) × (r.evcap ≤ length ev')
  flush_open = (omega (arith, f.puts.fits, ap (λ (y : Whole). y.evcap) f.puts.is), f.fits)

  pub flush_on : {t : Whole} {ev₂ : List ℕ} {next : ℕ} → at + HEAD ≤ length records → (index ≡ most → ⊥) → Put (event Sort.ERROR index (get_or records at 0) (get_or records (at + 1) 0) d) r t ev' ev₂ → next ≡ next_record records at → Flushing d records before s t ev ev₂ next (index + 1)
  flush_on {t} {ev₂} {next} h n v e =
      let q = event Sort.ERROR index (get_or records at 0) (get_or records (at + 1) 0) d in
      subst (λ (i : ℕ). Flushing d records before s t ev ev₂ i (index + 1)) (sym e)
      record {
        done = f.done ++ q;
        joins =
            append_assoc f.done q (notes d (index + 1) 0 (drop (next_record records at) records))
            ∙ ap (λ (l : List ℕ). f.done ++ l) (ap (λ (i : ℕ). q ++ notes d i 0 (drop (next_record records at) records)) (native.Mathlib.Numerals.add-one index) ∙ sym (notes_at d index records at (omega (arith, n, f.low)) h))
            ∙ f.joins;
        puts = puts_more f.puts Sort.ERROR index (get_or records at 0) (get_or records (at + 1) 0) d v;
        counted = omega (arith, f.counted, length-append f.done q);
        fits = omega (arith, f.fits, v.long, ap (λ (y : Whole). y.evcap) v.is);
        near = next_within records at;
        low = omega (arith, n, f.low);
      }

  -- nothing is left to read
  flush_all : notes d index 0 (drop at records) ≡ [] → d ≡ next_depth ev s.ev → Flushed records before s (record { state = r; before = index }) ev ev'
  flush_all e k =
      let j : f.done ≡ notes (next_depth ev s.ev) before 0 records = sym (append-nil f.done) ∙ ap (λ (l : List ℕ). f.done ++ l) (sym e) ∙ f.joins ∙ ap (λ (i : ℕ). notes i before 0 records) k in
      record { puts = subst (λ (q : List ℕ). Puts q s r ev ev') j f.puts; counted = f.counted ∙ ap (λ (q : List ℕ). EVENT * before + length q) j }

  pub flush_out : length records < at + HEAD → d ≡ next_depth ev s.ev → Flushed records before s (record { state = r; before = index }) ev ev'
  flush_out h = flush_all (notes_few d index (drop at records) (omega (arith, length-drop at records)))

  pub flush_most : index ≡ most → d ≡ next_depth ev s.ev → Flushed records before s (record { state = r; before = index }) ev ev'
  flush_most h = flush_all (notes_most d index (drop at records) h)

-- a record as it stands, t behind its count
pub notes_one : (d i a b f o n : ℕ) (t l : List ℕ) → behind f n ≡ length t → i < most → notes d i 0 (a ∷ b ∷ f ∷ o ∷ n ∷ t ++ l) ≡ event Sort.ERROR i a b d ++ notes d (suc i) 0 l
unfolding notes
notes_one d i a b f o n t l k h =
    ap (λ (c : Bool). elim c [ true ↦ event Sort.ERROR i a b d ++ notes d (suc i) (behind f n) (t ++ l) | false ↦ [] ]) (lt-ltb i most h)
    ∙ ap (λ (q : List ℕ). event Sort.ERROR i a b d ++ q)
    (ap (λ (j : ℕ). notes d (suc i) j (t ++ l)) k ∙ notes_pass d (suc i) (length t) (t ++ l) ∙ ap (notes d (suc i) 0) (drop-append_seam t l))

pub notes_none : (d i : ℕ) → notes d i 0 [] ≡ []
unfolding notes
notes_none d i = refl
