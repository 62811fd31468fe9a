use Rattle.std.proofs.Common.{false, true, [], ◌∷◌, inl, inr}
use Rattle.spec_model.specs.declared.value.Value.TheVariants as value
use Rattle.spec_model.specs.Diagrams.{Function}
use Rattle.bdd_bits.specs.Contents.{function_at}
use Rattle.bit_compile.specs.declared.cases.Source.TheVariants as source
use Rattle.bit_compile.specs.CaseRoots.{had_by}
use Rattle.bit_compile.specs.Named.{IsOfEach, IsTruth}
use Rattle.bit_compile.specs.NamedScenes.{IsOfSource}
use Rattle.bit_compile.specs.Compiled.{both_truths}
use Rattle.bit_compile.proofs.Outcomes.{cases_wider}
use Rattle.bit_compile.proofs.NamedSteps.{truth_named}
use Rattle.bit_compile.proofs.cases.cases_of_truth.Goals as goal

pub returns : goal.returns
returns c =
    let old = c.args.diagrams.now in
    let f = function_at old c.args.root.now in
    let src = source.Truth c.args.root in
    let step = IsOfEach (value.Bool false ∷ value.Bool true ∷ []) (had_by old src) (IsOfSource old src) in
    let wider : (h : Function) → step h → IsTruth f h = λ h is. elim is.2 [ inl same ↦ truth_named f h is.0 same | inr none ↦ absurd none ] in
    cases_wider step (IsTruth f) wider old c.cases_from.new.diagrams c.cases_from.result (both_truths f) c.cases_from.ensures
