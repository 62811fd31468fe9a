use Rattle.std.proofs.Common.{◌≡◌, ◌↔◌, IsTrue, ap, subst}
use Rattle.bdd_bits.specs.Contents.{Contents, function_at}
use Rattle.bdd_bits.proofs.RenamingLemmas.{over_bits, over_bits_one}
use Rattle.bdd_bits.proofs.diagrams.Diagrams.equal.Goals as goal

pub returns : goal.returns
returns c =
    let o = c.self.inside.order in
    subst (λ (d : Contents). IsTrue c.equal.result ↔ (function_at d c.args.a.now ≡ function_at d c.args.b.now)) c.self.view_is
    (λ same. ap (over_bits o) (c.equal.ensures.0 same), λ same. c.equal.ensures.1 (over_bits_one _ o c.self.invariant.0 _ _ same))
