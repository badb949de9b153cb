use Rattle.std.proofs.Common.{◌≡◌, length, refl, rules}
use Rattle.rowcode.specs.Rows.{IsRow}
use Rattle.reed_solomon.proofs.Spreading.{front_begins}
use Rattle.reed_solomon.proofs.ReedSolomonRowCode.spread.Goals as goal

pub returns-clause-spread : goal.returns-clause-spread
returns-clause-spread c =
    let wide : length c.args.row.now ≡ 255 = (c.in_ok-mend.ensures.fits.0 refl).0 in
    let after : IsRow 255 c.mend.new.row = record { width_is = search rules; bytes = λ k _. (c.type_inv.row k).fits } in
    front_begins c.in_ok-mend.field-0 c.front_known.result c.args.row.now c.mend.new.row c.front_known.ensures wide after c.in_ok-mend.ensures.mended
