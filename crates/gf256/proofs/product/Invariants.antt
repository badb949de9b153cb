-- What is summed, and what is left of one factor times what is left of the other, are together the product.
use Rattle.std.proofs.Common.{◌≡◌, ◌/◌, ◌^◌}
use lib.Bits.{bit_xor}
use Rattle.gf256.specs.Products.{times}
use Rattle.gf256.proofs.product.Given as goal

abbrev pub invariant-loop : goal.invariant-loop
invariant-loop l = record {
  whole : bit_xor l.sum (times l.shifted l.rest) ≡ times l.a l.b;
  rest_is : l.rest ≡ l.b / 2 ^ l.counter;
}
