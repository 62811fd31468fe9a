use Rattle.std.proofs.Common.{◌<◌, ℕ, List, arith, length, subst, inr}
use Rattle.std.proofs.lemmas.List.{length-map}
use Rattle.spec_model.specs.Values.{DomainData}
use Rattle.spec_model.specs.Views.{domain_data, variable_data}
use Rattle.bit_compile.specs.Compiled.{coded, place_of, variable_domain}
use Rattle.bit_compile.specs.CaseRoots.{MakesCases}
use Rattle.bit_compile.specs.Domains.{state_domains}
use Rattle.bit_compile.specs.Scenes.{game_seen}
use Rattle.bit_compile.proofs.DomainLemmas.{domain_countable}
use Rattle.bit_compile.proofs.Places.{domain_read, domain_well}
use Rattle.bit_compile.proofs.Outcomes.{cases_wider}
use Rattle.bit_compile.specs.Named.{IsOfCoded, IsOfVariable}
use Rattle.bit_compile.proofs.reading.variable_cases.Goals as goal

pub coded_cases-requires-clause-countable : goal.coded_cases-requires-clause-countable
coded_cases-requires-clause-countable c =
    let vars = c.args.scene.now.game.now.vars.items in
    let v = c.index.result.now in
    let long = length-map vars variable_data in
    let less : c.args.k < length vars = omega (arith, long, c.requires.known) in
    domain_countable (domain_data v.domain) (domain_well vars c.args.k v less c.index.ensures c.requires.scene.domains)

pub returns : goal.returns
returns c =
    let old = c.args.diagrams.now in
    let new = c.coded_cases.new.diagrams in
    let r = c.coded_cases.result in
    let g = game_seen c.args.scene.now in
    let k = c.args.k in
    let at = c.args.at in
    let vars = c.args.scene.now.game.now.vars.items in
    let v = c.index.result.now in
    let long = length-map vars variable_data in
    let less : k < length vars = omega (arith, long, c.requires.known) in
    let made : List DomainData → ℕ → DomainData → Type 0 = λ ds p d. MakesCases old new r (coded ds at p d) (IsOfCoded ds at p d) in
    let read = subst (λ (ds : List DomainData). made ds c.place.result (domain_data v.domain)) c.requires.scene.codes c.coded_cases.ensures in
    let placed = subst (λ (p : ℕ). made (state_domains g) p (domain_data v.domain)) c.place.ensures.place read in
    let whole = subst (made (state_domains g) (place_of g k)) (domain_read vars k v less c.index.ensures) placed in
    cases_wider (IsOfCoded (state_domains g) at (place_of g k) (variable_domain g k)) (IsOfVariable g at k) (λ f is. inr is) old new r (coded (state_domains g) at (place_of g k) (variable_domain g k)) whole
