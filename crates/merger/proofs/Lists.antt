-- An event in a list of numbers: writing its five cells, and reading them again.
use Prim.Native.Nat.{ℕ, ◌+◌}
use mathlib.Core.Path.{◌≡◌, ap, ap₂, ◌∙◌}
use mathlib.Core.List.{List, [], ◌∷◌, ◌++◌}
use lib.ListN.{length, set, length-set}
use lib.Seq.{set-append_seam, get_or-append_seam, get_or-append-add}
use native.Mathlib.Nat.{zero-add, suc-add}
use Rattle.shapes.specs.Shapes.{Entry, flat}
use Rattle.events.specs.Events.{entry_at}
use Rattle.merger.specs.Events.{put_at}

pub length_put : (l : List ℕ) (at : ℕ) (e : Entry) → length (put_at l at e) ≡ length l
length_put l at e = simp length-set

set_after : (p q : List ℕ) (i a : ℕ) → set (p ++ q) (length p + i) a ≡ p ++ set q i a
set_after [] q i a = ap (λ (j : ℕ). set q j a) (zero-add i)
set_after (y ∷ p) q i a = ap (λ (j : ℕ). set (y ∷ p ++ q) j a) (suc-add (length p) i) ∙ ap (λ (t : List ℕ). y ∷ t) (set_after p q i a)

-- an event e between p and q
abbrev pub amid : List ℕ → Entry → List ℕ → List ℕ
amid p e q = p ++ (flat (e ∷ []) ++ q)

over : (l p q : List ℕ) (i a : ℕ) → l ≡ p ++ q → set l (length p + i) a ≡ p ++ set q i a
over l p q i a e = ap (λ (t : List ℕ). set t (length p + i) a) e ∙ set_after p q i a

pub put_amid : (p q : List ℕ) (e f : Entry) → put_at (amid p e q) (length p) f ≡ amid p f q
put_amid p q e f =
    over _ p (f.0 ∷ f.1 ∷ f.2 ∷ f.3 ∷ e.4 ∷ q) 4 f.4
    (over _ p (f.0 ∷ f.1 ∷ f.2 ∷ e.3 ∷ e.4 ∷ q) 3 f.3
    (over _ p (f.0 ∷ f.1 ∷ e.2 ∷ e.3 ∷ e.4 ∷ q) 2 f.2
    (over _ p (f.0 ∷ e.1 ∷ e.2 ∷ e.3 ∷ e.4 ∷ q) 1 f.1 (set-append_seam p e.0 (e.1 ∷ e.2 ∷ e.3 ∷ e.4 ∷ q) f.0))))

pub entry_amid : (p q : List ℕ) (e : Entry) → entry_at (amid p e q) (length p) ≡ e
entry_amid p q e =
    let t = flat (e ∷ []) ++ q in
    ap₂ (λ (x : ℕ × ℕ) (y : ℕ × ℕ × ℕ). (x.0, x.1, y.0, y.1, y.2))
    (ap₂ (λ (a b : ℕ). (a, b)) (get_or-append_seam p e.0 _ 0) (get_or-append-add p t 1 0))
    (ap₂ (λ (a : ℕ) (x : ℕ × ℕ). (a, x.0, x.1)) (get_or-append-add p t 2 0) (ap₂ (λ (a b : ℕ). (a, b)) (get_or-append-add p t 3 0) (get_or-append-add p t 4 0)))
