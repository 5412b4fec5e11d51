-- A PEG has at most one result.
use Prim.Native.Nat.{ℕ}
use mathlib.Core.Path.{◌≡◌, refl, sym, subst}
use mathlib.Core.List.{List}
use mathlib.Core.Bool.{Bool}
use Rattle.definition.specs.Prog.{Prog}
use Rattle.definition.specs.Run.{Next, hit}
use Rattle.definition.specs.Ford.{Res}
use Rattle.definition.proofs.Peg.{Miss, Peg, eat_yes, eat_no, unless_yes, unless_no, ifnext_hit, ifnext_miss, opt_yes, opt_no, many_yes, many_no, then_is, seq_yes, seq_no, alt_yes, alt_no, last_is, recover_is, node_is, memo_is}
use Rattle.definition.proofs.Every.{never}

pub miss_hit : (x : Next) (a : ℕ) (is : List ℕ) → Miss x → x ≡ hit a is → ⊥
miss_hit x a is m e = subst Miss e m

pub yes_is : {r r' : List ℕ} → ◌≡◌ {A = Res} (Res.yes r) (Res.yes r') → r ≡ r'
yes_is e = cc

pub yes_no : (r : List ℕ) → ◌≡◌ {A = Res} (Res.yes r) Res.no → ⊥
yes_no r e = never cc

pub move : {E : Bool} {p : Prog} {r r' : List ℕ} {y : Res} → r ≡ r' → Peg E p r' y → Peg E p r y
move {E} {p = p} {y = y} e h = subst (λ (l : List ℕ). Peg E p l y) (sym e) h

pub det : {E : Bool} {p : Prog} {r : List ℕ} {x : Res} → Peg E p r x → (y : Res) → Peg E p r y → x ≡ y
det (eat_yes a e) y (eat_yes b f) = cc
det (eat_yes a e) y (eat_no m) = absurd (miss_hit _ _ _ m e)
det (eat_no m) y (eat_yes b f) = absurd (miss_hit _ _ _ m f)
det (eat_no m) y (eat_no n) = refl
det (unless_yes m) y (unless_yes n) = refl
det (unless_yes m) y (unless_no a is e) = absurd (miss_hit _ _ _ m e)
det (unless_no a is e) y (unless_yes m) = absurd (miss_hit _ _ _ m e)
det (unless_no a is e) y (unless_no b js f) = refl
det (ifnext_hit a is e d) y (ifnext_hit b js f g) = det d y g
det (ifnext_hit a is e d) y (ifnext_miss m) = absurd (miss_hit _ _ _ m e)
det (ifnext_miss m) y (ifnext_hit b js f g) = absurd (miss_hit _ _ _ m f)
det (ifnext_miss m) y (ifnext_miss n) = refl
det (opt_yes d) y (opt_yes g) = det d _ g
det (opt_yes d) y (opt_no g) = absurd (yes_no _ (det d _ g))
det (opt_no d) y (opt_yes g) = absurd (yes_no _ (sym (det d _ g)))
det (opt_no d) y (opt_no g) = refl
det (many_yes d e) y (many_yes g h) = det e y (move (yes_is (det d _ g)) h)
det (many_yes d e) y (many_no g) = absurd (yes_no _ (det d _ g))
det (many_no d) y (many_yes g h) = absurd (yes_no _ (sym (det d _ g)))
det (many_no d) y (many_no g) = refl
det (then_is d) y (then_is g) = det d y g
det (seq_yes d e) y (seq_yes g h) = det e y (move (yes_is (det d _ g)) h)
det (seq_yes d e) y (seq_no g) = absurd (yes_no _ (det d _ g))
det (seq_no d) y (seq_yes g h) = absurd (yes_no _ (sym (det d _ g)))
det (seq_no d) y (seq_no g) = refl
det (alt_yes d) y (alt_yes g) = det d _ g
det (alt_yes d) y (alt_no g h) = absurd (yes_no _ (det d _ g))
det (alt_no d e) y (alt_yes g) = absurd (yes_no _ (sym (det d _ g)))
det (alt_no d e) y (alt_no g h) = det e y h
det (last_is d) y (last_is g) = det d y g
det recover_is y recover_is = refl
det (node_is d) y (node_is g) = det d y g
det (memo_is d) y (memo_is g) = det d y g
