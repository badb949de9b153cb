-- Bursts of the two row codes that a line can name.
use Rattle.std.specs.Prelude.{ℕ, List}
use Rattle.rowcode.specs.Rows.{IsRow}
use Rattle.rs_code.specs.Codewords.{Codeword}
use Rattle.receiver.specs.Views.{numbers_of, closed_numbers_of}
use Rattle.table.specs.Bursts.{Numbers, ClosedNumbers}
use Rattle.program_lines.specs.declared.codes.Code.{Code}
use Rattle.bursttake.specs.declared.bursts.OpenBurst.{OpenBurst}
use Rattle.bursttake.specs.declared.bursts.EndedBurst.{EndedBurst}
use Rattle.program_lines.specs.declared.codes.Code.TheVariants as codes
use Rattle.bursttake.specs.declared.bursts.OpenBurst.TheVariants as bursts
use Rattle.bursttake.specs.declared.bursts.EndedBurst.TheVariants as ended

-- how many check columns a frame of it has
abbrev pub check_columns : Code → ℕ
check_columns codes.ReedSolomon = 64
check_columns codes.Bare = 0

-- which rows are its codewords
abbrev pub codeword : Code → List ℕ → Type 0
codeword codes.ReedSolomon = Codeword
codeword codes.Bare = IsRow 191

-- the row code of a burst
abbrev pub code_of : OpenBurst → Code
code_of (bursts.ReedSolomon _) = codes.ReedSolomon
code_of (bursts.Bare _) = codes.Bare

-- what a burst holds
abbrev pub numbers_in : OpenBurst → Numbers
numbers_in (bursts.ReedSolomon burst) = numbers_of burst.numbers
numbers_in (bursts.Bare burst) = numbers_of burst.numbers

-- the same of a closed one
abbrev pub code_of_ended : EndedBurst → Code
code_of_ended (ended.ReedSolomon _) = codes.ReedSolomon
code_of_ended (ended.Bare _) = codes.Bare

abbrev pub numbers_in_ended : EndedBurst → ClosedNumbers
numbers_in_ended (ended.ReedSolomon burst) = closed_numbers_of burst.numbers
numbers_in_ended (ended.Bare burst) = closed_numbers_of burst.numbers
