-- The table is what the checker computes: the place of each byte among the powers of 2.
use Rattle.std.proofs.Common.{◌≡◌, ℕ, get_or, ◌∙◌, ap}
use Rattle.gf256.specs.Sums.{field_sum}
use Rattle.gf256.specs.Products.{polynomial_product, remainder_below, times, power}
use Rattle.gf256.proofs.Tables.{doublings, powers, place, log, log_lt, power_log}
use Rattle.gf256_tables.proofs.Entries.{places, entry}
use Rattle.gf256_tables.proofs.logarithm.Goals as goal

pub returns : goal.returns
unfolding place doublings powers power field_sum polynomial_product remainder_below times
returns c =
    let read : c.from-2.result ≡ get_or (places powers) c.args.a 0 = c.from-2.ensures ∙ ap (λ (x : ℕ). get_or (places powers) x 0) c.from.ensures in
    let is_log : c.from-2.result ≡ log c.args.a = read ∙ entry c.args.a c.requires c.ranges.a.fits in
    record {
      below = rw is_log (log_lt c.args.a c.requires c.ranges.a.fits);
      is = rw is_log (power_log c.args.a c.requires c.ranges.a.fits);
    }
