-- The place in the table is a byte, and the table is what the checker computes for the 256 bytes.
use mathlib.Core.Bool.{xor}
use Rattle.std.proofs.Common.{rules, ◌≡◌}
use Rattle.crc32.specs.Crc.{crc_bit, crc_bits, crc_byte}
use Rattle.crc32.proofs.Linear.{by_table}
use Rattle.crc32.proofs.step.Goals as goal

pub returns : goal.returns
unfolding xor crc_bit crc_bits crc_byte
returns c =
    let e : c.from.result ≡ c.args.byte = search rules in
    rw e (by_table c.args.byte c.args.register c.ranges.byte.fits c.ranges.register.fits)
