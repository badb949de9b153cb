-- The turns of `divide`.
use Rattle.std.proofs.Common.{◌≡◌, ℕ, ◌+◌, ◌<◌, ◌≤◌, List, length, set, sym, refl, ap, ◌∙◌, ap₂, add-one, arith, get_or-set_other, get_or-set_same, below_more}
use lib.Bits.{bit_xor, xor_zero_r, xor_assoc, xor_lt}
use Rattle.octets.specs.Octets.{Bytes, byte}
use Rattle.rowcode.proofs.BareRows.{bytes_set}
use Rattle.gf256.specs.Products.{times}
use Rattle.gf256.specs.Sums.{field_sum}
use Rattle.gf256.proofs.Laws.{times_one}
use Rattle.gf256.proofs.ProductLaws.{times_comm, times_assoc}
use Rattle.gf256.proofs.Linear.{sum_same}

-- the sum of the bytes before a place, whatever stands there
sum_before : (y : List ℕ) (m w n : ℕ) → n ≤ m → field_sum (byte (set y m w)) n ≡ field_sum (byte y) n
sum_before y m w n h = sum_same (byte (set y m w)) (byte y) n (λ i l. get_or-set_other y m i w 0 (λ e. absurd (omega arith)))

sum_none : (y : List ℕ) → field_sum (byte y) 0 ≡ 0
unfolding field_sum
sum_none y = refl

sum_more : (y : List ℕ) (u w : ℕ) → u < length y → field_sum (byte (set y u w)) (u + 1) ≡ bit_xor (field_sum (byte y) u) w
unfolding field_sum
sum_more y u w h =
    ap (field_sum (byte (set y u w))) (add-one u) ∙ ap₂ bit_xor (sum_before y u w u (omega arith)) (get_or-set_same y u w 0 h)

-- a times i, times d, is a where d times i is 1
divided : (a d i : ℕ) → a < 256 → d < 256 → i < 256 → times d i ≡ 1 → times (times a i) d ≡ a
divided a d i ha hd hi e = times_assoc a i d ha hi ∙ ap (times a) (times_comm i d hi hd ∙ e) ∙ times_one a ha

-- the first u values are divided, and taken off the first syndrome
pub record DividedTo (others : List ℕ) (locator : ℕ) (old values : List ℕ) (first last u : ℕ) : Type 0 where
  pub divided : (k : ℕ) → k < u → times (byte values k) (bit_xor (byte others k) locator) ≡ byte old k
  pub later : (k : ℕ) → u ≤ k → byte values k ≡ byte old k
  pub last_is : last ≡ bit_xor first (field_sum (byte values) u)
  pub bytes : Bytes values

pub at_first : (others : List ℕ) (locator : ℕ) (values : List ℕ) (first : ℕ) → Bytes values
    → DividedTo others locator values values first first 0
at_first others locator values first h = record {
  divided = λ k l. absurd (omega arith);
  later = λ k l. refl;
  last_is = sym (ap (bit_xor first) (sum_none values) ∙ xor_zero_r first);
  bytes = h;
}

-- one more, divided by way of the inverse of the sum of its locator and the last one
pub one_more : (others : List ℕ) (locator : ℕ) (old values : List ℕ) (first last u i w last' : ℕ) → u < length values
    → ((k : ℕ) → byte others k < 256) → locator < 256 → i < 256 → w < 256
    → times (bit_xor (byte others u) locator) i ≡ 1
    → w ≡ times (byte values u) i
    → last' ≡ bit_xor last w
    → DividedTo others locator old values first last u
    → DividedTo others locator old (set values u w) first last' (u + 1)
one_more others locator old values first last u i w last' inside ho hb hi hw one ew el h = record {
  divided = below_more (λ k. times (byte (set values u w) k) (bit_xor (byte others k) locator) ≡ byte old k) u
      (λ k l. ap (λ z. times z (bit_xor (byte others k) locator)) (get_or-set_other values u k w 0 (λ e. absurd (omega arith))) ∙ h.divided k l)
      (ap (λ z. times z (bit_xor (byte others u) locator)) (get_or-set_same values u w 0 inside ∙ ew)
      ∙ divided (byte values u) (bit_xor (byte others u) locator) i (h.bytes u inside) (xor_lt 8 (byte others u) locator (ho u) hb) hi one
      ∙ h.later u (omega arith));
  later = λ k l. get_or-set_other values u k w 0 (λ e. absurd (omega arith)) ∙ h.later k (omega arith);
  last_is = el ∙ ap (λ z. bit_xor z w) h.last_is ∙ xor_assoc first (field_sum (byte values) u) w ∙ ap (bit_xor first) (sym (sum_more values u w inside));
  bytes = bytes_set values u w h.bytes hw;
}

-- the last one put behind them
pub last_divided : (others : List ℕ) (locator : ℕ) (old values : List ℕ) (first last m : ℕ) → DividedTo others locator old values first last m
    → (k : ℕ) → k < m → times (byte (set values m last) k) (bit_xor (byte others k) locator) ≡ byte old k
last_divided others locator old values first last m h k l =
    ap (λ z. times z (bit_xor (byte others k) locator)) (get_or-set_other values m k last 0 (λ e. absurd (omega arith))) ∙ h.divided k l

pub last_rest : (others : List ℕ) (locator : ℕ) (old values : List ℕ) (first last m : ℕ) → m < length values → DividedTo others locator old values first last m
    → byte (set values m last) m ≡ bit_xor first (field_sum (byte (set values m last)) m)
last_rest others locator old values first last m inside h =
    get_or-set_same values m last 0 inside ∙ h.last_is ∙ ap (bit_xor first) (sym (sum_before values m last m (omega arith)))
