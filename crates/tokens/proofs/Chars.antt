-- Laws for the code that decodes a character.
use Prim.Native.Nat.{ℕ, ◌≤◌, ◌<◌}
use mathlib.Core.Path.{◌≡◌, refl}
use mathlib.Core.Bool.{Bool, true, false, ◌&&◌}
use native.Mathlib.Omega.{arith}
use borrow.Author.Tests.{le-leb, lt-leb}
use Rattle.tokens.specs.Decoded.{plain}

pub parts : (p q : Bool) → p && q ≡ true → (p ≡ true) × (q ≡ true)
parts true true e = (refl, refl)
parts true false e = (refl, e)
parts false true e = (e, refl)
parts false false e = (e, e)

pub plain_mid : (n : ℕ) → 0x800 ≤ n → n < 0xD800 → plain n ≡ true
plain_mid n h l = rw (le-leb 0x800 n h, lt-leb 0xD800 n l)

pub plain_high : (n : ℕ) → 0xDFFF < n → plain n ≡ true
plain_high n h = rw (le-leb 0x800 n (omega arith), le-leb 0xD800 n (omega arith), lt-leb n 0xDFFF h)
