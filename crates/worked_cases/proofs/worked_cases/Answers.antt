-- The checker computes every line of the table.
use mathlib.Core.Bool.{xor}
use Rattle.crc32.specs.Crc.{crc_bit, crc_bits, crc_byte, crc_from, crc}
use Rattle.gf256.specs.Products.{polynomial_product, remainder_below, times}
use Rattle.gf256.specs.Sums.{field_sum}
use Rattle.rs_code.specs.Counts.{count}
use Rattle.section.specs.Layout.{written}
use Rattle.ledger.proofs.OnlyRepair.{only_repair}
use Rattle.ledger.proofs.WitnessRun.{met}
use Rattle.worked_cases.proofs.Frames.{own_case}
use Rattle.worked_cases.proofs.Rows.{row_cases}
use Rattle.worked_cases.proofs.worked_cases.Goals as goal

pub returns-clause-hold : goal.returns-clause-hold
unfolding xor crc_bit crc_bits crc_byte crc_from crc written field_sum polynomial_product remainder_below times count
returns-clause-hold c = tt

pub returns-clause-rows : goal.returns-clause-rows
returns-clause-rows c = row_cases

pub returns-clause-own : goal.returns-clause-own
returns-clause-own c = own_case

pub returns-clause-run : goal.returns-clause-run
returns-clause-run c = met

pub returns-clause-shut_out : goal.returns-clause-shut_out
returns-clause-shut_out c = only_repair
