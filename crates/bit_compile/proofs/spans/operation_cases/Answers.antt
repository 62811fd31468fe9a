use Rattle.std.proofs.Common.{List, ap, ◌∙◌, subst}
use Rattle.spec_model.specs.declared.value.Value.{Value}
use Rattle.spec_model.specs.Values.{values_of}
use Rattle.bit_compile.specs.CaseRoots.{AreKept, MakesCases, cases_by, had_by}
use Rattle.bit_compile.specs.declared.cases.Source.TheVariants as source
use Rattle.bit_compile.proofs.Readiness.{always}
use Rattle.bit_compile.specs.Named.{IsOfEach}
use Rattle.bit_compile.specs.NamedScenes.{IsOfSource}
use Rattle.bit_compile.proofs.spans.operation_cases.Goals as goal

pub cases_from-requires : goal.cases_from-requires
cases_from-requires c = always (AreKept c.args.diagrams.now.state c.args.xs.now × AreKept c.args.diagrams.now.state c.args.ys.now) (c.requires.xs_kept, c.requires.ys_kept) c.deref.result.now

pub returns : goal.returns
returns c =
    let old = c.args.diagrams.now in
    let src = source.Pairs c.args.op c.args.xs c.args.ys in
    let e = c.deref.ensures.value ∙ (c.in-Ok.ensures ∙ ap values_of c.span_of-domain.ensures) in
    subst (λ (vs : List Value). MakesCases old c.cases_from.new.diagrams c.cases_from.result (cases_by old src vs) (IsOfEach vs (had_by old src) (IsOfSource old src))) e c.cases_from.ensures
