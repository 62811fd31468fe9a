use Rattle.std.proofs.Common.{refl, arith}
use Rattle.spectra_elaboration.proofs.HandedOn.{joined_last}
use Rattle.spectra_elaboration.proofs.handing.join.Goals as goal

pub returns : goal.returns
returns c = λ b k first second.
    let same = c.if-last-next.false in
    joined_last b k c.args.next c.args.last _ first second (omega (arith, same)) refl refl refl refl
