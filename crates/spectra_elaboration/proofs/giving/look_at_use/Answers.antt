use Rattle.std.proofs.Common.{sym, arith}
use Rattle.spectra_elaboration.proofs.GivenBack.{use_comes}
use Rattle.spectra_elaboration.proofs.giving.look_at_use.Goals as goal

pub returns-in-Some-get : goal.returns-in-Some-get
returns-in-Some-get c =
    let gs = c.args.given.now in
    let ts = c.args.ts.now in
    let g = c.in-Some.found in
    let found = c.in-Some-get.ensures.lookup in
    (omega arith, λ deep place low comes. use_comes gs c.args.number g ts c.in-Some-get.t.now deep place (sym c.in-Some.ensures) (omega arith) found.3.0 found.1 comes)
