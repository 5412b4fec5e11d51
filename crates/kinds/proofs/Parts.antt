-- Lists that stand one after the other: each is the part of the whole between its beginning and the next. Assumes nothing.
use Prim.Native.Nat.{ℕ, zero, suc, ◌+◌, ◌<◌}
use mathlib.Core.Path.{◌≡◌, refl, sym, ap, subst, ◌∙◌}
use mathlib.Core.List.{List, [], ◌∷◌, ◌++◌, append_assoc}
use native.Mathlib.Nat.{add-sub_cancel_left}
use native.Mathlib.Numerals.{add-one}
use native.Mathlib.Omega.{arith}
use lib.ListN.{length, get_or, take, drop, length-append}
use lib.Seq.{take-append_seam, drop_at}
use Rattle.kinds.specs.Answers.{joined, starts, PartOf}

starts_head : (n : ℕ) (Ls : List (List ℕ)) → get_or (starts n Ls) 0 0 ≡ n
starts_head n [] = refl
starts_head n (L ∷ Ls) = refl

behind : (front : List ℕ) (Ls : List (List ℕ)) (n s : ℕ) → length front ≡ n → s < length Ls
    → PartOf (front ++ joined Ls) (get_or Ls s []) (get_or (starts n Ls) s 0) (get_or (starts n Ls) (suc s) 0)
behind front [] n s e h = absurd (omega arith)
behind front (L ∷ Ls) n zero e h =
    subst (λ (to : ℕ). PartOf (front ++ (L ++ joined Ls)) L n to) (sym (starts_head (n + length L) Ls))
    (record {
      forward = omega arith;
      within = simp length-append (omega arith);
      is = ap (λ (k : ℕ). take k (drop n (front ++ (L ++ joined Ls)))) (add-sub_cancel_left n (length L)) ∙ ap (take (length L)) (drop_at front (L ++ joined Ls) n e) ∙ take-append_seam L (joined Ls);
    })
behind front (L ∷ Ls) n (suc s) e h =
    subst (λ (w : List ℕ). PartOf w (get_or Ls s []) (get_or (starts (n + length L) Ls) s 0) (get_or (starts (n + length L) Ls) (suc s) 0)) (append_assoc front L (joined Ls))
    (behind (front ++ L) Ls (n + length L) s (simp length-append (ap (λ (k : ℕ). k + length L) e)) (omega arith))

pub parts : (Ls : List (List ℕ)) (s : ℕ) → s < length Ls → PartOf (joined Ls) (get_or Ls s []) (get_or (starts 0 Ls) s 0) (get_or (starts 0 Ls) (s + 1) 0)
parts Ls s h = rw add-one (behind [] Ls 0 s refl h)
