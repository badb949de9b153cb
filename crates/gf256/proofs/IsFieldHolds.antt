-- Bytes are a field: all that `IsField` says.
use Rattle.std.proofs.Common.{◌∙◌, arith, lit<}
use lib.Bits.{xor_lt, xor_zero_r, xor_comm, xor_assoc, xor_self}
use Rattle.gf256.specs.Laws.{IsField}
use Rattle.gf256.specs.Products.{polynomial_product, times}
use Rattle.gf256.proofs.Inverse.{inverse_of, inverse_lt, times_inverse}
use Rattle.gf256.proofs.Laws.{times_lt, times_one}
use Rattle.gf256.proofs.ProductLaws.{times_comm, times_xor, times_assoc}
use Rattle.gf256.proofs.NoZeroDivisors.{no_divisor, power_not_zero}
use Rattle.gf256.proofs.Quotient.{quotient, quotient_is}
use Rattle.gf256.proofs.Tables.{round, powers_apart}

pub field : IsField
unfolding times
field = record {
  sum_byte = xor_lt 8;
  sum_zero = xor_zero_r;
  sum_commutes = xor_comm;
  sum_associates = xor_assoc;
  sum_self = xor_self;
  product_byte = λ a b h k. times_lt a b h;
  product_is = λ a b h k. (quotient 8 (polynomial_product a b), quotient_is 8 (polynomial_product a b) (omega arith));
  one = times_one;
  commutes = times_comm;
  associates = λ a b c p q r. times_assoc a b c p q;
  distributes = λ a b c p q r. times_xor b c a q r p;
  inverse = λ a h n. (inverse_of a, inverse_lt a, times_inverse a h n);
  no_zero_divisors = λ a b h k n e. no_divisor a b h k n (times_comm b a k h ∙ e);
  powers_not_zero = λ i. power_not_zero 2 i (lit< tt) (λ e. absurd (omega (arith, e)));
  powers_differ = powers_apart;
  comes_round = round;
}
