-- The kinds of section by their table_id.
use Rattle.std.specs.Prelude.{ℕ, not, ◌||◌, ◌==◌}
use Rattle.refusal.specs.declared.Refusal.TheVariants.{TableId}
use Rattle.refusal.specs.Rules.{Verdict, when}
use Rattle.section.specs.declared.kinds.Kind.{Kind}
use Rattle.section.specs.declared.kinds.Kind.TheVariants.{Datagram, Check}

abbrev pub table_id_of : Kind → ℕ
table_id_of Datagram = 0x3E
table_id_of Check = 0x78

-- 5: the table_id is another
abbrev pub table_rule : ℕ → Verdict
table_rule id = when (not (id == table_id_of Datagram || id == table_id_of Check)) TableId
