use Rattle.std.proofs.Common.{◌≡◌, ℕ, zero, suc, replicate, refl, arith}
use Rattle.octets.specs.Octets.{byte}
use Rattle.reed_solomon.proofs.known_bytes.Goals as goal

zeros : (n k : ℕ) → byte (replicate n 0) k ≡ 0
zeros zero k = refl
zeros (suc n) zero = refl
zeros (suc n) (suc k) = zeros n k

pub loop-i-init : goal.loop-i-init
loop-i-init c = record { long = refl; here = λ k h. absurd (omega arith); not_here = λ k h. absurd (omega arith); later = λ k _. zeros 255 k }
