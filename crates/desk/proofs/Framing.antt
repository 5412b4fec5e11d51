-- SOURCE_FILE around the items: which room is exceeded first, and the finished lists. Assumes nothing.
use Prim.Native.Nat.{ℕ, zero, suc, ◌+◌, ◌-◌, ◌*◌, ◌/◌, ◌%◌, ◌^◌, ◌≤◌, ◌<◌}
use mathlib.Core.Path.{◌≡◌, refl, sym, ap, ap₂, subst, ◌∙◌}
use mathlib.Core.List.{List, [], ◌∷◌, ◌++◌, append-nil, map}
use mathlib.Core.Bool.{Bool, false}
use native.Mathlib.Omega.{arith}
use native.Mathlib.Nat.{zero-div, le_refl, add_comm}
use native.Mathlib.Decide.{ℕ_discrete, dec_lt}
use borrow.Author.Tests.{lt-ltb, le-ltb}
use borrow.Rule.Slice.PartMut.{mid_of, put_mid, post_of, mid_len}
use lib.Dec.{eqb}
use lib.ListN.{length, get_or, take, replicate, length-append, length-drop}
use lib.Seq.{take-append-add, take-append-le}
use Rattle.kinds.specs.Kinds as k
use Rattle.shapes.specs.Sort as Sort
use Rattle.shapes.specs.Shapes.{EVENT, Entry, event, flat, owned, of_item, flat_records}
use Rattle.shapes.proofs.Laws.{flat_length, owned_split, bare_length}
use Rattle.definition.specs.Run as P
use Rattle.definition.specs.Run.{Mode, ok, failed, stopped}
use Rattle.definition.specs.Render.{Source, inside, item_numbers, rendered, mode_outcome, said, records, used, moments, exceeds, over}
use Rattle.definition.proofs.Buffer.{buffer_length}
use Rattle.definition.proofs.Height.{buffer_read}
use Rattle.notes.specs.declared.names.Notes.{Notes}
use Rattle.notes.specs.Whole.{Whole, exceeded, fresh}
use Rattle.notes.specs.Bits.{ifb, bit_at}
use Rattle.notes.specs.Change.{with_ev, with_full}
use Rattle.notes.specs.Means.{bufs, Means, recorded, over_of}
use Rattle.notes.specs.Did.{Wf, Put}
use Rattle.notes.proofs.Naming.{none_named}
use Rattle.notes.proofs.Rooms.{ev_count, er_count, first_of, exceeds_none, exceeds_events, full_first}
use Rattle.steps.specs.declared.state.State.{State}
use Rattle.steps.specs.Steps.{whole}
use Rattle.items.specs.declared.Desk.{Desk}
use Rattle.items.specs.Items.{Tally, tally, blank, clean, past_of, Between, Goes, Settled}
use Rattle.desk.proofs.Start.{reads}
use Rattle.desk.specs.Framing.{reading, outcome_of, Finished, Framed}
use Rattle.grammar.specs.Parts.{reach}

-- zeros have no bit set
zero_at : (n i : ℕ) → ◌≡◌ {A = ℕ} (get_or (replicate n 0) i 0) 0
zero_at zero i = refl
zero_at (suc n) zero = refl
zero_at (suc n) (suc i) = zero_at n i

pub no_bits : (n i : ℕ) → bit_at (replicate n 0) i ≡ false
unfolding bit_at
no_bits n i = ap (λ (w : ℕ). eqb (w / 2 ^ (i % 64) % 2) 1) (zero_at n (i / 64)) ∙ ap (λ (w : ℕ). eqb (w % 2) 1) (zero-div (2 ^ (i % 64)))

-- before the first item
pub blank_wf : (x : Source) (fuel evcap ercap quote : ℕ) (ev er sc : List ℕ) → evcap ≤ length ev → ercap ≤ length er → 2 * (length x.ids + 1) ≤ 64 * length sc → Wf x (bufs ev er sc) (tally (blank fuel evcap) (clean ercap quote)).state
blank_wf x fuel evcap ercap quote ev er sc h i j = (
  (
    record { here = omega arith; since = le_refl 0; far_in = omega arith; want_in = omega arith; want_since = λ n. absurd (n refl); unwant_in = omega arith; unwant_since = λ n. absurd (n refl) },
    none_named (replicate 58 0) refl,
    record { events = omega arith; since = le_refl 0; errors = omega arith; numbered = omega arith },
  ),
  record { events = h; errors = i; scratch = j },
)

-- nothing is chosen between two items
again_chosen : (m : Mode) (s : P.State) → (P.again (P.turn m s)).chosen ≡ s.chosen
again_chosen ok s = refl
again_chosen failed s = refl
again_chosen (stopped w) s = refl

item_chosen : (L : P.Limits) (s : P.State) → (P.item L s).chosen ≡ []
item_chosen L s =
    let t : P.State = P.trivia s in
    let u : P.State = P.flush (P.item_at L (P.sought P.item_keywords t.rest) t) in
    again_chosen u.mode u

items_chosen : (L : P.Limits) (n : ℕ) (s : P.State) → s.chosen ≡ [] → (P.items L n s).chosen ≡ []
items_chosen L zero s e = e
items_chosen L (suc n) s e = go s.rest s.mode (items_chosen L n (P.item L s) (item_chosen L s))
  where
    go : (r : List ℕ) (m : Mode) → (P.items L n (P.item L s)).chosen ≡ [] → (elim r as (λ _. P.State) [ [] ↦ s | i ∷ is ↦ elim m as (λ _. P.State) [ ok ↦ P.items L n (P.item L s) | failed ↦ s | stopped w ↦ s ] ]).chosen ≡ []
    go [] m h = e
    go (i ∷ is) ok h = h
    go (i ∷ is) failed h = e
    go (i ∷ is) (stopped w) h = e

none_chosen : (L : P.Limits) (x : Source) (fuel : ℕ) → (reading L x fuel).chosen ≡ []
none_chosen L x fuel = items_chosen L (length x.ids) (P.start x.ids fuel) refl

-- events one after another
flat_end : (a : List Entry) (q : Entry) → flat (a ++ (q ∷ [])) ≡ flat a ++ event q.0 q.1 q.2 q.3 q.4
flat_end [] q = refl
flat_end (e ∷ a) q = ap (λ (l : List ℕ). e.0 ∷ e.1 ∷ e.2 ∷ e.3 ∷ e.4 ∷ l) (flat_end a q)

module _ (L : P.Limits) (x : Source) (fuel evcap R : ℕ) {d : Tally} (t : State) (n : Notes) {ev₁ ev₂ er sc : List ℕ}
    (B : Between L (evcap + EVENT) R (item_numbers L x.ids fuel) x d (bufs ev₁ er sc) (reading L x fuel)) (w : Wf x (bufs ev₁ er sc) d.state) (put : Put (event Sort.END k.SOURCE_FILE 0 (length x.bytes) 0) d.state (whole t n) ev₁ ev₂) where
  a : P.State
  a = reading L x fuel

  -- which room is exceeded first
  pub first_full : exceeded t.full ≡ over (evcap + EVENT) R (moments L x (reading L x fuel))
  unfolding over_of
  first_full = go (ℕ_discrete d.state.full 0)
    where
      past : d.state.full ≡ over (evcap + EVENT) R (map (used L x) (reading L x fuel).drafts)
      past = B.stands.over

      last : ℕ × ℕ
      last = (EVENT * suc (suc (length (reading L x fuel).out)), said L x (reading L x fuel).out)

      goal : ℕ → Type 0
      goal v = exceeded t.full ≡ first_of v (exceeds (evcap + EVENT) R last)

      go : Dec (d.state.full ≡ 0) → goal (over (evcap + EVENT) R (map (used L x) (reading L x fuel).drafts))
      go (no n) = put.stuck n ∙ past ∙ sym (full_first _ _ (λ z. n (past ∙ z)))
      go (yes z) = subst goal (sym z ∙ past) (fits (dec_lt d.state.evcap (d.state.ev + EVENT)))
        where
          m : Means (past_of L (evcap + EVENT) R B.records B.last) x d.state (bufs ev₁ er sc) (reading L x fuel)
          m = B.stands.means z

          room : evcap + EVENT ≡ d.state.evcap + EVENT
          room = m.written.room

          wide : R ≡ d.state.ercap
          wide = m.chosen.room

          many : d.state.ev ≡ EVENT * length (reading L x fuel).out
          many = ev_count w m

          told : said L x (reading L x fuel).out ≤ R
          told = omega (arith, er_count w m, wide, w.0.2.errors)

          fits : Dec (d.state.evcap < d.state.ev + EVENT) → goal 0
          fits (yes h) = put.filled z ∙ ap (λ (c : Bool). ifb c 7 0) (lt-ltb d.state.evcap (d.state.ev + EVENT) h) ∙ sym (exceeds_events (evcap + EVENT) R last (omega (arith, h, room, many)))
          fits (no h) = put.filled z ∙ ap (λ (c : Bool). ifb c 7 0) (le-ltb d.state.evcap (d.state.ev + EVENT) (omega (arith, h))) ∙ sym (exceeds_none (evcap + EVENT) R last (omega (arith, h, room, many)) told)

  -- the finished lists, where none is
  module _ (low : L.depth + 2 < 4294967296) (z : exceeded t.full ≡ 0) where
    m : Means (past_of L (evcap + EVENT) R B.records B.last) x d.state (bufs ev₁ er sc) (reading L x fuel)
    m = B.stands.means (put.room z)

    inner : take t.ev ev₂ ≡ flat (inside x (reading L x fuel).out) ++ event Sort.END k.SOURCE_FILE 0 (length x.bytes) 0
    inner = put.wrote z ∙ ap (λ (l : List ℕ). l ++ event Sort.END k.SOURCE_FILE 0 (length x.bytes) 0) (m.written.is ∙ buffer_read L x low x.ids fuel)

    fits : t.ev ≤ length ev₂
    fits = omega (arith, put.fits, w.1.events, put.long)

    events_are : (first rest : List ℕ) → first ≡ event Sort.BEGIN k.SOURCE_FILE 0 (length x.bytes) 0 → take (t.ev + EVENT) (first ++ (ev₂ ++ rest)) ≡ flat (rendered L x (item_numbers L x.ids fuel) (reading L x fuel)).events
    events_are first rest e =
        ap (λ (l : List ℕ). take (t.ev + EVENT) (l ++ (ev₂ ++ rest))) e
        ∙ ap (λ (n : ℕ). take n (event Sort.BEGIN k.SOURCE_FILE 0 (length x.bytes) 0 ++ (ev₂ ++ rest))) (add_comm t.ev EVENT)
        ∙ take-append-add (event Sort.BEGIN k.SOURCE_FILE 0 (length x.bytes) 0) (ev₂ ++ rest) t.ev
        ∙ ap (λ (l : List ℕ). event Sort.BEGIN k.SOURCE_FILE 0 (length x.bytes) 0 ++ l)
        (take-append-le t.ev ev₂ rest fits ∙ inner ∙ sym (flat_end (inside x (reading L x fuel).out) (Sort.END, k.SOURCE_FILE, 0, length x.bytes, 0)))

    records_are : take d.state.er er ≡ flat_records (owned (records L x (reading L x fuel).out []) (item_numbers L x.ids fuel))
    unfolding recorded
    records_are =
        m.chosen.is
        ∙ ap (λ (c : List (ℕ × P.Choice)). flat_records (B.records ++ of_item B.last (recorded L x c))) (none_chosen L x fuel)
        ∙ ap flat_records (append-nil B.records ∙ sym (owned_split B.records) ∙ ap₂ owned (sym m.written.past) (B.own (put.room z)))

    many_events : t.ev + EVENT ≡ EVENT * length (rendered L x (item_numbers L x.ids fuel) (reading L x fuel)).events
    many_events =
        let i = inside x (reading L x fuel).out in
        omega (arith, put.more z, ev_count w m, sym (flat_length i) ∙ ap length (sym (buffer_read L x low x.ids fuel)) ∙ buffer_length x (reading L x fuel).out, length-append i ((Sort.END, k.SOURCE_FILE, 0, length x.bytes, 0) ∷ []))

    covered : d.state.pos ≡ length x.ids - length (reading L x fuel).rest
    covered = omega (arith, ap length m.rest ∙ length-drop d.state.pos x.ids, w.0.0.here)

    field : {A : Type 0} (f : Whole → A) → f (whole t n) ≡ f (with_ev t.ev (with_full (exceeded t.full) d.state))
    field f = ap f put.is

    pub finished : (first rest : List ℕ) → first ≡ event Sort.BEGIN k.SOURCE_FILE 0 (length x.bytes) 0 → Finished L x fuel (record { state = t; before = d.before }) n.er (first ++ (ev₂ ++ rest)) er
    finished first rest e =
        record {
          events = events_are first rest e;
          errors = ap (λ (n : ℕ). take n er) (field (λ s. s.er)) ∙ records_are;
          event_fits = omega (arith, fits, ap length e, length-append first (ev₂ ++ rest), length-append ev₂ rest);
          error_fits = omega (arith, field (λ s. s.er), w.0.2.errors, w.1.errors);
          outcome = ap outcome_of (field (λ s. s.mode)) ∙ ap mode_outcome (sym m.mode);
          covered = field (λ s. s.pos) ∙ covered;
          event_count = many_events;
          error_count = B.count (put.room z) ∙ sym (bare_length B.records) ∙ ap length (sym m.written.past);
          left = field (λ s. s.fuel) ∙ sym m.fuel;
        }

-- all items, from nothing on: xs are the events with the begin event, whose other cells are lent, and n₀ is what is noted where room and length are not yet
module _ (L : P.Limits) (x : Source) (fuel : ℕ) (xs er₀ sc₀ : List ℕ) {d₀ : Desk} (e : d₀ ≡ blank fuel (length xs - EVENT)) {n₀ : Notes} (i₀ : n₀ ≡ fresh) where
  abbrev bounded : Notes → Notes
  bounded n = record { want = n.want; unwant = n.unwant; count = n.count; mask = n.mask; er = n.er; ercap = length er₀; item = n.item; first = n.first; far = n.far; quote = L.quote; number = n.number; codes = n.codes }

  abbrev first : Tally
  first = tally d₀ (bounded n₀)

  begins : first ≡ tally (blank fuel (length xs - EVENT)) (clean (length er₀) L.quote)
  begins = λ i. tally (e i) (bounded (i₀ i))

  pub opens : 2 * (length x.ids + 1) ≤ 64 * length sc₀ → Wf x (bufs (mid_of EVENT (length xs - EVENT) xs) er₀ sc₀) first.state × Settled first.state
  opens i =
      subst (λ (c : Tally). Wf x (bufs (mid_of EVENT (length xs - EVENT) xs) er₀ sc₀) c.state × Settled c.state) (sym begins)
      (blank_wf x fuel (length xs - EVENT) (length er₀) L.quote (mid_of EVENT (length xs - EVENT) xs) er₀ sc₀ (omega (arith, mid_len EVENT (length xs) xs (le_refl (length xs)))) (le_refl (length er₀)) i, (refl, refl))

  pub frames : {bounds : ℕ × Bool} {d : Tally} {t : State} {n : Notes} {ev₁ ev₂ er sc : List ℕ} → sc₀ ≡ replicate (length sc₀) 0 → EVENT ≤ length xs → (E : ℕ) → length xs ≡ E → take EVENT xs ≡ event Sort.BEGIN k.SOURCE_FILE 0 (length x.bytes) 0 → reach L ≡ bounds → L.depth + 2 < 4294967296 →
      {written : ℕ} → n.er ≡ written → Goes bounds 1 (length x.ids) x first d (bufs (mid_of EVENT (length xs - EVENT) xs) er₀ sc₀) (bufs ev₁ er sc) → Put (event Sort.END k.SOURCE_FILE 0 (length x.bytes) 0) d.state (whole t n) ev₁ ev₂ →
      Framed L x fuel E (length er₀) (record { state = t; before = d.before }) written (put_mid EVENT (length xs - EVENT) xs ev₂) er
  frames {bounds} {d} {t} {n} {ev₁} {ev₂} {er} {sc} none h E total front deep low same g put =
      subst (λ (i : ℕ). Framed L x fuel E (length er₀) (record { state = t; before = d.before }) i (put_mid EVENT (length xs - EVENT) xs ev₂) er) same
      (record {
        full = first_full L x fuel (length xs - EVENT) (length er₀) t n B g.wf put ∙ ap (λ (i : ℕ). over i (length er₀) (moments L x (reading L x fuel))) room;
        finished = λ z. finished L x fuel (length xs - EVENT) (length er₀) t n B g.wf put low z (take EVENT xs) (post_of EVENT (length xs - EVENT) xs) front;
      })
    where
      room : length xs - EVENT + EVENT ≡ E
      room = omega (arith, h, total)

      B : Between L (length xs - EVENT + EVENT) (length er₀) (item_numbers L x.ids fuel) x d (bufs ev₁ er sc) (reading L x fuel)
      B =
          reads L x fuel (length xs - EVENT) (length er₀) (mid_of EVENT (length xs - EVENT) xs) er₀ sc₀ (λ i. ap (λ (l : List ℕ). bit_at l i) none ∙ no_bits (length sc₀) i) deep
          (subst (λ (c : Tally). Goes bounds 1 (length x.ids) x c d (bufs (mid_of EVENT (length xs - EVENT) xs) er₀ sc₀) (bufs ev₁ er sc)) begins g)
