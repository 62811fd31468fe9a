use Rattle.std.proofs.Common.{◌<◌, ◌∙◌, List, ap, arith, length, map, subst, sym}
use Rattle.std.proofs.lemmas.List.{length-map}
use Rattle.spec_model.specs.Views.{domain_data}
use Rattle.spec_model.specs.Values.{DomainData}
use Rattle.bit_compile.specs.Codes.{domain_in}
use Rattle.bit_compile.specs.Laid.{IsCountable}
use Rattle.bit_compile.proofs.SlotLemmas.{domain_is}
use Rattle.bit_compile.proofs.codes.Codes.domain.Goals as goal

pub returns-clause-domain : goal.returns-clause-domain
returns-clause-domain c =
    let ds = c.self.inside.domains.items in
    let all = ap length c.self.view_is in
    let long = length-map ds domain_data in
    let less : c.args.k < length ds = omega (arith, all, long, c.requires) in
    domain_is ds c.args.k c.index.result.now less c.index.ensures ∙ ap (λ (es : List DomainData). domain_in es c.args.k) c.self.view_is

pub returns-clause-countable : goal.returns-clause-countable
returns-clause-countable c =
    let ds = c.self.inside.domains.items in
    let all = ap length c.self.view_is in
    let long = length-map ds domain_data in
    let less : c.args.k < length ds = omega (arith, all, long, c.requires) in
    let there : c.args.k < length (map domain_data ds) = omega (arith, all, c.requires) in
    subst IsCountable (sym (domain_is ds c.args.k c.index.result.now less c.index.ensures)) (c.self.invariant.countable c.args.k there)
