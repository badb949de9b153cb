-- Rows as lists of bytes, and as elements of the field, each place with a locator of its own.
use Rattle.std.proofs.Common.{◌≡◌, ℕ, zero, suc, ◌-◌, ◌*◌, ◌<◌, List, map, length, sym, refl, ap, ◌∙◌, subst, mul_comm, arith, lit<}
use native.Mathlib.Decide.{dec_lt}
use lib.Bits.{bit_xor}
use Rattle.std.specs.List.{range_with_len}
use Rattle.std.proofs.lemmas.List.{get_or_past}
use Rattle.std.proofs.lemmas.List.FromFn.{length-map-range_with_len, get_or-map-range_with_len}
use Rattle.octets.specs.Octets.{Bytes, byte}
use Rattle.gf256.specs.Products.{times, power}
use Rattle.gf256.specs.Sums.{field_sum}
use Rattle.gf256.proofs.Bytes.{Byte, GF, same}
use Rattle.gf256.proofs.Field as field
use Rattle.gf256.proofs.PowerLaws.{power_lt, power_mul}
use Rattle.gf256.proofs.NoZeroDivisors.{pow_is}
use Rattle.gf256.proofs.Tables.{powers_apart}
use Rattle.gf256.proofs.Vandermonde.{Apart, moment, moment_is, moment_same}
use Rattle.rowcode.specs.Rows.{IsRow}
use Rattle.rs_code.specs.Codewords.{syndrome, Codeword}
use Rattle.gf256.proofs.Linear.{sum_same}

abbrev pub number : Byte → ℕ
number b = b.0

-- bytes within a list are bytes past it too
pub all_bytes : (xs : List ℕ) → Bytes xs → (k : ℕ) → byte xs k < 256
all_bytes xs h k = pick (dec_lt k (length xs))
  where
    pick : Dec (k < length xs) → byte xs k < 256
    pick (yes l) = h k l
    pick (no n) = subst (λ (x : ℕ). x < 256) (sym (get_or_past xs k 0 (omega (arith, n)))) (lit< tt)

-- the k-th element of a list of bytes
abbrev pub cell : (c : List ℕ) → Bytes c → ℕ → Byte
cell c h k = (byte c k, all_bytes c h k)

-- the locator of a place: syndromes are sums of bytes times powers of it
pub locator : ℕ → Byte
locator k = (power 2 (254 - k), power_lt 2 (254 - k) (lit< tt))

pub locator_is : (k : ℕ) → number (locator k) ≡ power 2 (254 - k)
unfolding locator
locator_is k = refl

-- places differ in their locators
pub locator_apart : Apart GF locator 255
unfolding locator
locator_apart i j l h e = powers_apart (254 - j) (254 - i) (omega arith) (omega arith) (sym (ap number e))

-- sums of elements are sums of bytes
pub sum_is : (f : ℕ → Byte) (n : ℕ) → number (field.sum GF f n) ≡ field_sum (λ i. number (f i)) n
unfolding field_sum
sum_is f zero = ap number (field.sum_none GF f)
sum_is f (suc n) = ap number (field.sum_suc GF f n) ∙ ap (λ x. bit_xor x (number (f n))) (sum_is f n)

-- a syndrome is a moment of the row
pub syndrome_is : (c : List ℕ) (h : Bytes c) (j : ℕ) → number (moment GF locator (cell c h) 255 j) ≡ syndrome c j
unfolding syndrome locator
syndrome_is c h j =
    ap number (moment_is GF locator (cell c h) 255 j)
    ∙ sum_is (λ i. GF.mul (cell c h i) (field.pow GF (locator i) j)) 255
    ∙ sum_same (λ i. times (byte c i) (number (field.pow GF (locator i) j))) (λ i. times (byte c i) (power 2 (j * (254 - i)))) 255
    (λ i l. ap (times (byte c i))
    (pow_is (locator i) j ∙ sym (power_mul 2 (254 - i) j (lit< tt)) ∙ ap (power 2) (mul_comm (254 - i) j)))

-- a syndrome that is 0 is a moment that is 0
pub moment_of_codeword : (c : List ℕ) (h : Bytes c) (j : ℕ) → syndrome c j ≡ 0 → moment GF locator (cell c h) 255 j ≡ GF.𝟘
moment_of_codeword c h j e = same (moment GF locator (cell c h) 255 j) GF.𝟘 (syndrome_is c h j ∙ e)

-- the list of the first 255 elements
pub listed : (ℕ → Byte) → List ℕ
listed f = map (λ k. number (f k)) (range_with_len 0 255)

pub listed_at : (f : ℕ → Byte) (i : ℕ) → i < 255 → byte (listed f) i ≡ number (f i)
unfolding listed
listed_at f i h = get_or-map-range_with_len (λ k. number (f k)) 0 255 i i 0 h (omega arith)

listed_long : (f : ℕ → Byte) → length (listed f) ≡ 255
unfolding listed
listed_long f = length-map-range_with_len (λ k. number (f k)) 0 255

pub listed_row : (f : ℕ → Byte) → IsRow 255 (listed f)
listed_row f = record {
  width_is = listed_long f;
  bytes = λ k l. subst (λ (x : ℕ). x < 256) (sym (listed_at f k (omega (arith, listed_long f)))) (f k).1;
}

pub listed_syndrome : (f : ℕ → Byte) (j : ℕ) → syndrome (listed f) j ≡ number (moment GF locator f 255 j)
listed_syndrome f j =
    let h : Bytes (listed f) = (listed_row f).bytes in
    sym (syndrome_is (listed f) h j)
    ∙ ap number (moment_same GF locator (cell (listed f) h) f 255 j (λ i l. same (cell (listed f) h i) (f i) (listed_at f i l)))

-- a list of 255 elements whose first 64 moments are 0 is a codeword
pub listed_codeword : (f : ℕ → Byte) → ((j : ℕ) → j < 64 → moment GF locator f 255 j ≡ GF.𝟘) → Codeword (listed f)
listed_codeword f h = record { is_row = listed_row f; syndromes = λ j l. listed_syndrome f j ∙ ap number (h j l) }
