use Rattle.std.proofs.Common.{◌≡◌, ◌<◌, ◌∙◌, ℕ, true, List, arith, length, ap, sym, subst, rules}
use Rattle.std.specs.List.{list_any}
use Rattle.std.proofs.lemmas.List.{length-map}
use Rattle.spec_model.specs.declared.expr.Compare.TheVariants.{Eq}
use Rattle.spec_model.specs.Values.{DomainData, same_value, values_of}
use Rattle.spec_model.specs.Meaning.{compare_values}
use Rattle.spec_model.specs.Views.{domain_data, variable_data}
use Rattle.bit_compile.specs.Domains.{state_domains}
use Rattle.bit_compile.specs.Compiled.{coded, is_code, only, place_of, some_pair}
use Rattle.bit_compile.specs.Scenes.{codes_seen, game_seen}
use Rattle.bit_compile.proofs.DomainLemmas.{domain_countable}
use Rattle.bit_compile.proofs.Places.{domain_read, domain_well}
use Rattle.bit_compile.proofs.EquationLemmas.{equation_told}
use Rattle.bit_compile.proofs.reading.decided_where.Goals as goal

pub code-code-requires-clause-countable : goal.code-code-requires-clause-countable
code-code-requires-clause-countable c =
    let vars = c.args.scene.now.game.now.vars.items in
    let v = c.index.result.now in
    let long = length-map vars variable_data in
    let less : c.args.k < length vars = omega (arith, long, c.requires.known) in
    domain_countable (domain_data v.domain) (domain_well vars c.args.k v less c.index.ensures c.requires.scene.domains)

pub returns : goal.returns
returns c =
    let scene = c.args.scene.now in
    let g = game_seen scene in
    let at = c.args.at in
    let k = c.args.k in
    let value = c.args.value in
    let vars = scene.game.now.vars.items in
    let v = c.index.result.now in
    let d = domain_data v.domain in
    let long = length-map vars variable_data in
    let less : k < length vars = omega (arith, long, c.requires.known) in
    let among : list_any (same_value value) (values_of d) ≡ true = sym c.has_value.ensures ∙ search rules in
    let told = equation_told (codes_seen scene) at c.place.result d value among in
    let right : List DomainData → ℕ → DomainData → Type 0 = λ ds p e. is_code (codes_seen scene) at c.place.result c.code-code.result ≡ some_pair (compare_values Eq) (coded ds at p e) (only value) in
    let own : right (codes_seen scene) c.place.result d = ap (λ n. is_code (codes_seen scene) at c.place.result n) c.code-code.ensures ∙ told in
    let read = subst (λ (ds : List DomainData). right ds c.place.result d) c.requires.scene.codes own in
    let placed = subst (λ (p : ℕ). right (state_domains g) p d) c.place.ensures.place read in
    record {
      within = c.place.ensures.within;
      same = subst (right (state_domains g) (place_of g k)) (domain_read vars k v less c.index.ensures) placed;
    }
