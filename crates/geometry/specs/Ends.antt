-- Where the datagrams of a table end: E, the address after the last one; p, the application columns with nothing but padding;
-- and the limit, as far as a receiver knows them to reach.
use Rattle.std.specs.Prelude.{◌≡◌, ℕ, ◌-◌, ◌*◌, ◌/◌, ◌<◌, ◌≤◌, Bool, ◌&&◌, Option, Some, None, nat_le, nat_lt}
use Rattle.geometry.specs.Cells.{table_size}

-- the address from which on there is padding only, if p columns have nothing else
abbrev pub padding_from : (R p : ℕ) → ℕ
padding_from R p = (191 - p) * R

-- p is right for E: the last byte before E stands in the last column that has other than padding
abbrev pub EndsIn : (R p end : ℕ) → Type 0
EndsIn R p end = ((190 - p) * R < end) × (end ≤ padding_from R p)

-- whether it is
abbrev pub ends_in : (R p end : ℕ) → Bool
ends_in R p end = nat_lt ((190 - p) * R) end && nat_le end (padding_from R p)

-- the p of E: as many columns as fit between E and the table's end
abbrev pub padding_of : (R end : ℕ) → ℕ
padding_of R end = (table_size R - end) / R

-- of all p, that one is right, and no other
pub record OnlyPadding (R end p : ℕ) : Type 0 where
  pub few : p ≤ 190
  pub is : EndsIn R p end
  pub only : (q : ℕ) → q ≤ 190 → EndsIn R q end → q ≡ p

-- E if it was told, else the end that p leaves if that was told, else the whole table
abbrev pub limit_of : (R : ℕ) → (end padding : Option ℕ) → ℕ
limit_of R (Some end) padding = end
limit_of R None (Some p) = padding_from R p
limit_of R None None = table_size R
