-- The cells of a frame with R rows and m check columns, counted column after column.
use Rattle.std.specs.Prelude.{ℕ, ◌+◌, ◌*◌, ◌/◌, ◌%◌, List, map}
use Rattle.std.specs.List.{range_with_len}
use Rattle.octets.specs.Octets.{byte}

-- W: 191 application columns, then the check columns
abbrev pub width : (m : ℕ) → ℕ
width m = 191 + m

-- the cells of the application table, and of the whole frame
abbrev pub table_size : (R : ℕ) → ℕ
table_size R = 191 * R

abbrev pub frame_size : (m R : ℕ) → ℕ
frame_size m R = width m * R

-- the cell in row r of column c
abbrev pub cell : (R r c : ℕ) → ℕ
cell R r c = c * R + r

-- the first n bytes of a row of the cells, 0 where there is no cell
abbrev pub row_bytes : (R : ℕ) → (cells : List ℕ) → (r n : ℕ) → List ℕ
row_bytes R cells r n = map (λ c. byte cells (cell R r c)) (range_with_len 0 n)

-- the row and the column of a cell; an address of the application table is its cell
abbrev pub row_at : (R a : ℕ) → ℕ
row_at R a = a % R

abbrev pub column_at : (R a : ℕ) → ℕ
column_at R a = a / R

-- the RS table counts its own addresses, from column 191 on: the cell of its address a
abbrev pub rs_cell : (R a : ℕ) → ℕ
rs_cell R a = table_size R + a
