-- The message of a record that reads is UTF-8: the name text is, and what is quoted of the source. Assumes nothing.
use Prim.Native.Nat.{ℕ, zero, suc, ◌-◌, ◌≤◌}
use mathlib.Core.Path.{◌≡◌, refl, sym, ap, ◌∙◌}
use mathlib.Core.List.{List, [], ◌∷◌, ◌++◌, map}
use mathlib.Core.Bool.{Bool, true, false, cond, not, ◌&&◌}
use mathlib.Core.Option.{Option, none, some}
use native.Mathlib.Numerals.{unary_clauses}
use native.Mathlib.Omega.{arith}
use lib.Dec.{eqb}
use lib.ListN.{get_or}
use Rattle.kinds.specs.Spelling.{bytes}
use Rattle.utf8.specs.Utf8.{Range, next, walk, utf8}
use Rattle.messages.specs.Texts as t
use Rattle.messages.specs.Record.{form, names, found, empty, quotes, reads}
use Rattle.messages.specs.Message.{described, others, listed, sentences, message}
use Rattle.messages.proofs.Judged.{and_right, judged}

-- UTF-8 behind UTF-8
walk_on : (due : List Range) (a b : List ℕ) → walk due a ≡ true → walk due (a ++ b) ≡ walk [] b
walk_on [] [] b e = refl
walk_on (r ∷ due) [] b e = absurd (clash e)
  where
    clash : ◌≡◌ {A = Bool} false true → ⊥
    clash e = let z : ◌≡◌ {A = ℕ} 0 1 = cc in omega (arith, z)
walk_on due (x ∷ a) b e = go (next due x) e (λ d. walk_on d a b)
  where
    go : (o : Option (List Range)) → elim o [ none ↦ false | some d ↦ walk d a ] ≡ true → ((d : List Range) → walk d a ≡ true → walk d (a ++ b) ≡ walk [] b)
        → elim o [ none ↦ false | some d ↦ walk d (a ++ b) ] ≡ walk [] b
    go none e f = let z : ◌≡◌ {A = ℕ} 0 1 = cc in absurd (omega (arith, z))
    go (some d) e f = f d e

join : (a b : List ℕ) → utf8 a ≡ true → utf8 b ≡ true → utf8 (a ++ b) ≡ true
unfolding utf8
join a b e f = walk_on [] a b e ∙ f

-- every description is, by one computed test
abbrev all : List (List ℕ) → Bool
all [] = true
all (a ∷ l) = utf8 a && all l

all_at : (l : List (List ℕ)) (n : ℕ) → all l ≡ true → utf8 (get_or l n []) ≡ true
unfolding utf8
all_at [] n e = refl
all_at (a ∷ l) zero e = go (utf8 a) e
  where
    go : (b : Bool) → b && all l ≡ true → b ≡ true
    go true e = refl
    go false e = e
all_at (a ∷ l) (suc n) e = all_at l n (and_right (utf8 a) (all l) e)

described_utf8 : (n : ℕ) → utf8 (described n) ≡ true
unfolding utf8
described_utf8 n = all_at (map bytes t.names) n refl

others_utf8 : (ns : List ℕ) → utf8 (others (map described ns)) ≡ true
unfolding utf8
others_utf8 [] = refl
others_utf8 (n ∷ []) = join (bytes " or ") (described n) refl (described_utf8 n)
others_utf8 (n ∷ m ∷ ns) = join (bytes ", ") (described n ++ others (map described (m ∷ ns))) refl (join (described n) (others (map described (m ∷ ns))) (described_utf8 n) (others_utf8 (m ∷ ns)))

listed_utf8 : (ns : List ℕ) → utf8 (listed (map described ns)) ≡ true
unfolding utf8
listed_utf8 [] = refl
listed_utf8 (n ∷ ns) = join (described n) (others (map described ns)) (described_utf8 n) (others_utf8 ns)

-- each sentence is, where what it quotes is
module _ (ns t : List ℕ) (e : utf8 ns ≡ true) where
  quoted : utf8 t ≡ true → utf8 (t ++ bytes "`") ≡ true
  unfolding utf8
  quoted q = join t (bytes "`") q refl

  said : (f : ℕ) → 1 ≤ f → (quotes f ≡ true → utf8 t ≡ true) → utf8 (get_or (sentences ns t) (f - 1) []) ≡ true
  unfolding utf8
  said zero h q = absurd (omega arith)
  said (suc zero) h q = join (bytes "expecting ") (ns ++ (bytes ", found `" ++ (t ++ bytes "`"))) refl (join ns (bytes ", found `" ++ (t ++ bytes "`")) e (join (bytes ", found `") (t ++ bytes "`") refl (quoted (q refl))))
  said (suc (suc zero)) h q = join (bytes "expecting ") ns refl e
  said (suc (suc (suc zero))) h q = join (bytes "expecting ") (ns ++ bytes ", found end of file") refl (join ns (bytes ", found end of file") e refl)
  said (suc (suc (suc (suc zero)))) h q = join (bytes "unexpected `") (t ++ bytes "`") refl (quoted (q refl))
  said (suc (suc (suc (suc (suc zero))))) h q = refl
  said (suc (suc (suc (suc (suc (suc zero)))))) h q = refl
  said (suc (suc (suc (suc (suc (suc (suc zero))))))) h q = refl
  said (suc (suc (suc (suc (suc (suc (suc (suc zero)))))))) h q = refl
  said (suc (suc (suc (suc (suc (suc (suc (suc (suc zero))))))))) h q = refl
  said (suc (suc (suc (suc (suc (suc (suc (suc (suc (suc zero)))))))))) h q = refl
  said (suc (suc (suc (suc (suc (suc (suc (suc (suc (suc (suc f))))))))))) h q = simp unary_clauses refl

-- THE THEOREM: "the text is UTF-8 where the source's quoted part is", and of a record that reads it is
module _ (s r : List ℕ) where
  pub utf8_where : 1 ≤ form r → (quotes (form r) ≡ true → utf8 (found s r) ≡ true) → utf8 (message s r) ≡ true
  unfolding message
  utf8_where h q = said (listed (map described (names r))) (found s r) (listed_utf8 (names r)) (form r) h q

  pub message_utf8 : reads s r ≡ true → utf8 (message s r) ≡ true
  message_utf8 e =
      let t : List ℕ = found s r in
      let j = judged s r e in
      utf8_where j.least
      (λ q. and_right (not (empty t)) (utf8 t) (sym (ap (λ (b : Bool). cond b (not (empty t) && utf8 t) (cond (eqb (form r) 3) (empty t) true)) q) ∙ j.shown))
