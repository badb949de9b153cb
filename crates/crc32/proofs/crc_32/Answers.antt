-- The chain folds the bytes into the register, as the definition does.
use Rattle.std.proofs.Common.{◌≡◌, ℕ, List, [], ◌∷◌, fold, rules, sym, refl, ◌∙◌, subst}
use Rattle.crc32.specs.Crc.{crc, crc_byte, crc_from, ClosedBy}
use Rattle.crc32.proofs.Closing.{closed}
use Rattle.crc32.proofs.crc_32.Goals as goal

fold-crc_byte : (r : ℕ) (s : List ℕ) → fold crc_byte r s ≡ crc_from r s
unfolding crc_from
fold-crc_byte r [] = refl
fold-crc_byte r (b ∷ s) = fold-crc_byte (crc_byte r b) s

pub returns : goal.returns
unfolding crc
returns c =
    let folded : c.fold.result ≡ fold crc_byte 0xFFFF_FFFF c.args.bytes.now = search rules in
    let e : c.fold.result ≡ crc c.args.bytes.now = folded ∙ fold-crc_byte 0xFFFF_FFFF c.args.bytes.now in
    record { value = e; closes = subst (ClosedBy c.args.bytes.now) (sym e) (closed c.args.bytes.now) }
