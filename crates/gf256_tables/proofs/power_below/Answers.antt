-- The table is what the checker computes by doubling 510 times.
use Rattle.std.proofs.Common.{◌∙◌, ap, zero-add}
use Rattle.gf256.specs.Sums.{field_sum}
use Rattle.gf256.specs.Products.{polynomial_product, remainder_below, times, power}
use Rattle.gf256.proofs.Tables.{doublings, doublings_at}
use Rattle.gf256_tables.proofs.power_below.Goals as goal

pub returns : goal.returns
unfolding doublings power field_sum polynomial_product remainder_below times
returns c = doublings_at 510 0 c.args.exponent c.requires ∙ ap (power 2) (zero-add c.args.exponent)
