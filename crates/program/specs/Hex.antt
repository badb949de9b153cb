-- Bytes in hex, upper case.
use Rattle.std.specs.Prelude.{◌≡◌, ℕ, ◌+◌, ◌/◌, ◌%◌, ◌<◌, cond, ◌≢◌, ◌⊎◌, List, [], ◌∷◌, All, nat_lt}

-- the digit of a number below 16: 0 to 9, A to F
abbrev pub hex_digit : ℕ → ℕ
hex_digit d = cond (nat_lt d 10) (48 + d) (55 + d)

-- the two digits of a byte
abbrev pub Digits : (b high low : ℕ) → Type 0
Digits b high low = (hex_digit (b / 16) ≡ high) × (hex_digit (b % 16) ≡ low)

-- two digits for each byte, the higher one first
unfoldable pub in_hex : List ℕ → List ℕ
in_hex [] = []
in_hex (b ∷ bytes) = hex_digit (b / 16) ∷ hex_digit (b % 16) ∷ in_hex bytes

-- the bytes that a text stands for: a lone '-' for none, else its digits, of which there are some
abbrev pub StandsFor : (text bytes : List ℕ) → Type 0
StandsFor text bytes = ((text ≡ 45 ∷ []) × (bytes ≡ [])) ⊎ ((text ≡ in_hex bytes) × (text ≢ []))

-- there are no bytes of which this holds
abbrev pub NoBytes : (List ℕ → Type 0) → Type 0
NoBytes P = (bytes : List ℕ) → All (λ b. b < 256) bytes → P bytes → ⊥
