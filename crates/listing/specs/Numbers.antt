-- Numbers as text: read from digits ("digits only, under 2^32, leading zeros allowed"), and written ("Numbers are decimal").
use Rattle.std.specs.Prelude.{ℕ, zero, suc, ◌+◌, ◌-◌, ◌*◌, ◌/◌, ◌%◌, ◌^◌, List, [], ◌∷◌, ◌++◌, Bool, true, false, cond, ◌&&◌, leb, ltb, Option, Some, None}

-- `0` to `9`
abbrev pub is_digit : ℕ → Bool
is_digit b = leb 48 b && leb b 57

abbrev pub all_digits : List ℕ → Bool
all_digits [] = true
all_digits (b ∷ bs) = is_digit b && all_digits bs

-- the number that digits spell behind others that spell n
abbrev pub onward : ℕ → List ℕ → ℕ
onward n [] = n
onward n (b ∷ bs) = onward (n * 10 + (b - 48)) bs

abbrev pub value : List ℕ → ℕ
value bs = onward 0 bs

-- the number that a text is: of one digit or more, and of digits only, under 2^32
abbrev pub is_number : List ℕ → Bool
is_number [] = false
is_number (b ∷ bs) = all_digits (b ∷ bs) && ltb (value (b ∷ bs)) (2 ^ 32)

unfoldable pub number : List ℕ → Option ℕ
number bs = cond (is_number bs) (Some (value bs)) None

-- n in decimal: the digits of its tenth, and its last digit. So many digits at most; n has no more than n + 1
abbrev pub decimals : ℕ → ℕ → List ℕ
decimals zero n = []
decimals (suc k) n = cond (ltb n 10) ((48 + n) ∷ []) (decimals k (n / 10) ++ ((48 + n % 10) ∷ []))

unfoldable pub decimal : ℕ → List ℕ
decimal n = decimals (suc n) n
