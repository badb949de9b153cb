-- The field of bytes, as an instance of `Field`.
use mathlib.Core.Path.{◌≡◌}
use mathlib.Core.HLevel.{Σ_prop_path}
use Prim.Native.Nat.{ℕ, ◌<◌}
use native.Mathlib.Bridge.{le_prop}
use lib.Bits.{bit_xor, xor_lt, xor_comm, xor_assoc, xor_self, xor_zero_r}
use lib.Dec.{lit<}
use Rattle.gf256.specs.Products.{times}
use Rattle.gf256.proofs.Laws.{times_lt, times_one}
use Rattle.gf256.proofs.ProductLaws.{times_comm, times_xor, times_assoc}
use Rattle.gf256.proofs.Inverse.{inverse_of, inverse_lt, times_inverse}
use Rattle.gf256.proofs.Field.{Field}

-- a number below 256
abbrev pub Byte : Type 0
Byte = (x : ℕ) × (x < 256)

-- two bytes with the same number are the same
pub same : (a b : Byte) → a.0 ≡ b.0 → a ≡ b
same a b e = Σ_prop_path (λ x. le_prop) e

-- the sum of two bytes
abbrev pub xor_of : Byte → Byte → Byte
xor_of a b = (bit_xor a.0 b.0, xor_lt 8 a.0 b.0 a.1 b.1)

-- the product of two bytes
abbrev pub times_of : Byte → Byte → Byte
times_of a b = (times a.0 b.0, times_lt a.0 b.0 a.1)

-- the field
abbrev pub GF : Field
GF = record {
  E = Byte;
  add = xor_of;
  mul = times_of;
  𝟘 = (0, lit< tt);
  𝟙 = (1, lit< tt);
  inv = λ a. (inverse_of a.0, inverse_lt a.0);
  add_assoc = λ a b c. same (xor_of (xor_of a b) c) (xor_of a (xor_of b c)) (xor_assoc a.0 b.0 c.0);
  add_comm = λ a b. same (xor_of a b) (xor_of b a) (xor_comm a.0 b.0);
  add_zero = λ a. same (xor_of a (0, lit< tt)) a (xor_zero_r a.0);
  add_self = λ a. same (xor_of a a) (0, lit< tt) (xor_self a.0);
  mul_assoc = λ a b c. same (times_of (times_of a b) c) (times_of a (times_of b c)) (times_assoc a.0 b.0 c.0 a.1 b.1);
  mul_comm = λ a b. same (times_of a b) (times_of b a) (times_comm a.0 b.0 a.1 b.1);
  mul_one = λ a. same (times_of a (1, lit< tt)) a (times_one a.0 a.1);
  mul_add = λ a b c. same (times_of a (xor_of b c)) (xor_of (times_of a b) (times_of a c)) (times_xor b.0 c.0 a.0 b.1 c.1 a.1);
  mul_inv = λ a n. same (times_of a (inverse_of a.0, inverse_lt a.0)) (1, lit< tt)
      (times_inverse a.0 a.1 (λ e. n (same a (0, lit< tt) e)));
}
