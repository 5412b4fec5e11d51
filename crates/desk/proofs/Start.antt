-- Before the first item the state stands for the definition's start; so all items from there are the definition's reading. Assumes nothing.
use Prim.Native.Nat.{ℕ, ◌+◌, ◌*◌}
use mathlib.Core.Path.{◌≡◌, refl, sym}
use mathlib.Core.List.{List, []}
use mathlib.Core.Bool.{Bool, false}
use native.Mathlib.Omega.{arith}
use lib.ListN.{length}
use Rattle.shapes.specs.Shapes.{EVENT}
use Rattle.definition.specs.Run as P
use Rattle.definition.specs.Run.{Limits}
use Rattle.definition.specs.Render.{Source, used, item_numbers}
use Rattle.definition.proofs.Buffer.{buffer_none}
use Rattle.notes.specs.Bits.{bit_at}
use Rattle.notes.specs.Means.{Bufs, bufs, Means, recorded, over_of}
use Rattle.notes.proofs.Rooms.{exceeds_none}
use Rattle.items.specs.Items.{Tally, tally, blank, clean, past_of, Between, Goes}
use Rattle.grammar.specs.Parts.{reach}

module _ (L : Limits) (x : Source) (fuel evcap ercap : ℕ) (ev er sc : List ℕ) (none : (i : ℕ) → bit_at sc i ≡ false) where
  start_means : Means (past_of L (evcap + EVENT) ercap [] 0) x (tally (blank fuel evcap) (clean ercap L.quote)).state (bufs ev er sc) (P.start x.ids fuel)
  unfolding recorded
  start_means =
      record {
        rest = refl;
        mode = refl;
        fuel = refl;
        written = record { is = sym (buffer_none x); past = refl; room = refl };
        want = refl;
        unwant = refl;
        chosen = record { is = refl; since = refl; room = refl; quoted = refl; numbered = refl; apart = tt };
        cache = record { expr = λ p h. none (2 * p); term = λ p h. none (2 * p + 1); below = λ i h. none i; above = λ i h. none i };
      }

  pub starts : Between L (evcap + EVENT) ercap [] x (tally (blank fuel evcap) (clean ercap L.quote)) (bufs ev er sc) (P.start x.ids fuel)
  unfolding over_of
  starts =
      record {
        records = [];
        last = 0;
        own = λ z. refl;
        stands = record { over = sym (exceeds_none (evcap + EVENT) ercap (used L x ([], [])) (omega arith) (omega arith)); means = λ z. start_means };
        count = λ z. refl;
        few = λ z y. ((λ o. refl), omega arith);
      }

  pub reads : {bounds : ℕ × Bool} {r : Tally} {b' : Bufs} → reach L ≡ bounds → Goes bounds 1 (length x.ids) x (tally (blank fuel evcap) (clean ercap L.quote)) r (bufs ev er sc) b' → Between L (evcap + EVENT) ercap (item_numbers L x.ids fuel) x r b' (P.read L x.ids fuel)
  reads e g = g.does L (evcap + EVENT) ercap [] (P.start x.ids fuel) e starts
