use Rattle.std.proofs.Common.{refl, arith}
use Rattle.rowcode.specs.Rows.{IsRow}
use Rattle.rowcode.proofs.BareRows.{two_rows}
use Rattle.rowcode.proofs.BareRowCode.mend.Goals as goal

pub returns-in-Some-clause-mended : goal.returns-in-Some-clause-mended
returns-in-Some-clause-mended c =
    let row : IsRow 191 c.args.row.now = record { width_is = c.if-row-ne-APPLICATION_COLUMNS.false; bytes = λ k _. (c.type_inv.row k).fits } in
    (two_rows c.args.known.now c.args.row.now c.in-Some.field-0 row (omega (arith, c.in-Some.ensures.unknown)) c.in-Some.ensures.unknown.1, refl)
