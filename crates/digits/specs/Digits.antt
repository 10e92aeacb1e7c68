-- The number that decimal digits write, and the value of a hexadecimal digit.
use Rattle.std.specs.Prelude.{◌*◌, ◌+◌, ◌-◌, ℕ, ltb, Bool, cond, false, List, [], ◌∷◌}

-- whether a byte is one of the characters 0 to 9
unfoldable pub is_digit : ℕ → Bool
is_digit b = cond (ltb b 48) false (ltb b 58)

-- the largest number of 64 bits stands for every larger one
unfoldable pub held : ℕ → ℕ
held v = cond (ltb 18446744073709551615 v) 18446744073709551615 v

-- the digits in front of a text, written behind those of v; what follows the first byte that is no digit does not count
unfoldable pub digits : ℕ → List ℕ → ℕ
digits v [] = v
digits v (b ∷ bs) = cond (is_digit b) (digits (held (v * 10 + (b - 48))) bs) v

-- the value of a digit, also of the six from A on; 16 for another byte
unfoldable pub value : ℕ → ℕ
value b = cond (ltb b 48) 16 (cond (ltb b 58) (b - 48) (cond (ltb b 65) 16 (cond (ltb b 71) (b - 55) 16)))
