use Rattle.std.proofs.Common.{◌≡◌, length, ap, subst, arith, bit_xor, get_or-set_same}
use Rattle.octets.specs.Octets.{byte}
use Rattle.gf256.proofs.Linear.{equal_of_xor}
use Rattle.reed_solomon.proofs.Values.{DividedTo, at_first, one_more, last_divided, last_rest}
use Rattle.reed_solomon.proofs.divide.Goals as goal

pub loop-u-init : goal.loop-u-init
loop-u-init c = at_first c.args.others.now c.args.locator c.args.values.now c.args.first (λ k _. (c.type_inv.values k).fits)

pub loop-u-preserved : goal.loop-u-preserved
loop-u-preserved c =
    one_more c.args.others.now c.args.locator c.args.values.now c.loop-u.values c.args.first c.loop-u.last c.loop-u.u c.inverse.result c.product.result _
    (omega arith) (λ k. (c.type_inv.others k).fits) c.ranges.locator.fits c.inverse.type_inv c.product.type_inv
    (c.inverse.ensures.inverts (λ e. c.requires.differ c.loop-u.u c.loop-u-test.true (equal_of_xor (byte c.args.others.now c.loop-u.u) c.args.locator e)))
    c.product.ensures
    (ap (bit_xor c.loop-u.last) (get_or-set_same c.loop-u.values c.loop-u.u c.product.result 0 (omega arith))) c.loop-u.invariant

pub returns-clause-divided : goal.returns-clause-divided
returns-clause-divided c =
    let end : c.loop-u.u ≡ length c.args.others.now = omega arith in
    last_divided c.args.others.now c.args.locator c.args.values.now c.loop-u.values c.args.first c.loop-u.last (length c.args.others.now)
    (subst (DividedTo c.args.others.now c.args.locator c.args.values.now c.loop-u.values c.args.first c.loop-u.last) end c.loop-u.invariant)

pub returns-clause-last : goal.returns-clause-last
returns-clause-last c =
    let end : c.loop-u.u ≡ length c.args.others.now = omega arith in
    last_rest c.args.others.now c.args.locator c.args.values.now c.loop-u.values c.args.first c.loop-u.last (length c.args.others.now) (omega arith)
    (subst (DividedTo c.args.others.now c.args.locator c.args.values.now c.loop-u.values c.args.first c.loop-u.last) end c.loop-u.invariant)
