-- What is known of a section that no rule of reading turns away.
use Rattle.std.proofs.Common.{◌≡◌, ℕ, ◌-◌, ◌≤◌, true, false, List, length, None}
use Rattle.std.proofs.lemmas.Bool.{or_parts, eqb-true, ltb-false}
use Rattle.octets.specs.Octets.{byte, section_length}
use Rattle.crc32.specs.Crc.{crc}
use Rattle.refusal.specs.Rules.{Passes}
use Rattle.refusal.proofs.Order.{when_none, when_not_none, or_else_none}
use Rattle.section.specs.declared.kinds.Kind.TheVariants.{Datagram, Check}
use Rattle.section.specs.Kinds.{table_id_of}
use Rattle.section.specs.Rules.{markers_1, markers_5, scrambled_or_wrapped, column_rule, read_rules}
use Rattle.section.specs.Sections.{payload_of, timing_of}

-- what each rule leaves, in their order; that the table_id is of a kind and the payload a datagram, the header that was read tells
pub record Passed (R m : ℕ) (s : List ℕ) : Type 0 where
  pub least : 16 ≤ length s
  pub most : length s ≤ 4096
  pub told : section_length (byte s 1) (byte s 2) ≡ length s - 3
  pub marked_1 : markers_1 (byte s 1) ≡ true
  pub marked_5 : markers_5 (byte s 5) ≡ true
  pub plain : byte s 0 ≡ table_id_of Datagram → scrambled_or_wrapped (byte s 5) ≡ false
  pub crc_0 : crc s ≡ 0
  pub zero_6 : byte s 0 ≡ table_id_of Datagram → byte s 6 ≡ 0
  pub zero_7 : byte s 0 ≡ table_id_of Datagram → byte s 7 ≡ 0
  pub column : byte s 0 ≡ table_id_of Check → column_rule R m (byte s 3) (byte s 6) (byte s 7) (timing_of s).address (length (payload_of s)) ≡ None

pub passed : (R m : ℕ) (s : List ℕ) → Passes (read_rules R m s) → Passed R m s
passed R m s passes =
    let size = or_parts _ _ (when_none _ _ (passes.none 0)) in
    let markers = or_else_none _ _ (passes.none 3) in
    let zeros = λ (is : byte s 0 ≡ table_id_of Datagram). or_else_none _ _ (rw is at (passes.none 6)) in
    record {
      least = ltb-false (length s) 16 size.0;
      most = ltb-false 4096 (length s) size.1;
      told = eqb-true _ _ (when_not_none _ _ (passes.none 2));
      marked_1 = when_not_none _ _ markers.0;
      marked_5 = when_not_none _ _ markers.1;
      plain = λ is. when_none _ _ (rw is at (passes.none 4));
      crc_0 = eqb-true _ _ (when_not_none _ _ (passes.none 5));
      zero_6 = λ is. eqb-true _ _ (when_not_none _ _ (zeros is).0);
      zero_7 = λ is. eqb-true _ _ (when_not_none _ _ (zeros is).1);
      column = λ is. rw is at (passes.none 6);
    }
