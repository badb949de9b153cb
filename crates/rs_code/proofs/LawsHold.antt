-- What the codewords have in common, shown.
use Rattle.std.proofs.Common.{◌≡◌, ◌≢◌, ℕ, zero, suc, ◌+◌, ◌<◌, ◌≤◌, Bool, false, not, List, sym, ap, arith, T, subst, eqb, eqb→eq}
use Rattle.std.proofs.lemmas.Bool.{not-false}
use Rattle.octets.specs.Octets.{byte}
use Rattle.rowcode.specs.Rows.{is_known}
use Rattle.rs_code.specs.Codewords.{Codeword}
use Rattle.rs_code.specs.Counts.{count, known_count, missing_count}
use Rattle.rs_code.specs.Laws.{CodewordLaws, distance}
use Rattle.rs_code.proofs.Places.{count_past, count_more, count_none, by_bool}
use Rattle.rs_code.proofs.Completions.{one_codeword, one_agrees, just_one, two_agree}
use native.Mathlib.Decide.{dec_lt}

-- a place passes a test, or its contrary
both_counts : (test : ℕ → Bool) (n : ℕ) → count (λ i. not (test i)) n + count test n ≡ n
both_counts test zero = let a = count_none test in let b = count_none (λ i. not (test i)) in omega (arith, a, b)
both_counts test (suc n) = go (both_counts test n)
  where
    go : count (λ i. not (test i)) n + count test n ≡ n → count (λ i. not (test i)) (suc n) + count test (suc n) ≡ suc n
    go r =
        by_bool (test n)
        (λ e. omega (arith, r, count_more test n e, count_past (λ i. not (test i)) n (ap not e)))
        (λ e. omega (arith, r, count_past test n e, count_more (λ i. not (test i)) n (ap not e)))

pub unknown_count : (known : List Bool) → missing_count known + known_count known ≡ 255
unknown_count known = both_counts (is_known known) 255

apart : (one other : List ℕ) → Codeword one → Codeword other → one ≢ other → 65 ≤ distance one other
apart one other p q differ = pick (dec_lt (distance one other) 65)
  where
    equal : (i : ℕ) → not (eqb (byte one i) (byte other i)) ≡ false → byte one i ≡ byte other i
    equal i e = eqb→eq (byte one i) (byte other i) (subst T (sym (not-false (eqb (byte one i) (byte other i)) e)) tt)

    pick : Dec (distance one other < 65) → 65 ≤ distance one other
    pick (no n) = omega (arith, n)
    pick (yes few) =
        absurd (differ (one_codeword (λ i. not (eqb (byte one i) (byte other i))) one other (omega (arith, few)) p q (λ i l e. equal i e)))

pub laws_hold : CodewordLaws
laws_hold = record {
  fix = λ known row is many. just_one known row is (omega (arith, many, unknown_count known));
  leave_open = λ known row is few. two_agree known row is (omega (arith, few, unknown_count known));
  at_most_one = λ known row one other is many p q. one_agrees known row one other is.width_is (omega (arith, many, unknown_count known)) p q;
  distances = apart;
}
