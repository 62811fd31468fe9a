use Rattle.std.proofs.Common.{◌≡◌, ◌<◌, ◌≤◌, true, length, List, sym, subst, ◌∙◌}
use Rattle.std.specs.List.{list_any, AllByRecursion}
use Rattle.spec_model.specs.declared.value.Value.{Value}
use Rattle.spec_model.specs.Views.{domain_data}
use Rattle.spec_model.specs.Values.{same_value, values_of}
use Rattle.bit_compile.specs.declared.cases.Source.TheVariants as source
use Rattle.bit_compile.specs.Domains.{level_count}
use Rattle.bit_compile.specs.Laid.{IsCountable}
use Rattle.bit_compile.specs.CaseRoots.{IsReady, MakesCases, cases_by, had_by}
use Rattle.bit_compile.proofs.Describing.{all_among}
use Rattle.bit_compile.proofs.Readiness.{each_ready}
use Rattle.bit_compile.specs.Named.{IsOfEach}
use Rattle.bit_compile.specs.NamedScenes.{IsOfSource}
use Rattle.bit_compile.proofs.spans.coded_cases.Goals as goal

pub cases_from-requires : goal.cases_from-requires
cases_from-requires c =
    let old = c.args.diagrams.now in
    let d = domain_data c.args.domain.now in
    let is = c.deref.ensures.value ∙ c.in-Ok.ensures in
    let ready = IsReady old (source.Coded c.args.codes c.args.at c.args.k c.args.domain) in
    subst (λ (vs : List Value). AllByRecursion ready vs) (sym is)
    (each_ready ((c.args.k < length c.args.codes.now) × (level_count c.args.codes.now ≤ old.state.table.levels) × IsCountable d) (λ v. list_any (same_value v) (values_of d) ≡ true) ready
    (λ v known among. (known.0, known.1, known.2, among)) (c.requires.known, c.requires.levels, c.requires.countable) (values_of d) (all_among (values_of d)))

pub returns : goal.returns
returns c =
    let old = c.args.diagrams.now in
    let src = source.Coded c.args.codes c.args.at c.args.k c.args.domain in
    let is = c.deref.ensures.value ∙ c.in-Ok.ensures in
    subst (λ (vs : List Value). MakesCases old c.cases_from.new.diagrams c.cases_from.result (cases_by old src vs) (IsOfEach vs (had_by old src) (IsOfSource old src))) is c.cases_from.ensures
