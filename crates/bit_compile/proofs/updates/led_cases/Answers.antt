use Rattle.std.proofs.Common.{◌^◌, ◌∙◌, ℕ, List, ap, length, subst}
use Rattle.spec_model.specs.declared.value.Value.{Value}
use Rattle.spec_model.specs.Values.{values_of}
use Rattle.bit_compile.specs.Compiled.{Case, led_to}
use Rattle.bit_compile.specs.CaseRoots.{MakesCases, cases_at}
use Rattle.bit_compile.specs.Named.{IsOfLed}
use Rattle.bit_compile.proofs.updates.led_cases.Goals as goal

pub returns : goal.returns
returns c =
    let old = c.args.diagrams.now in
    let h = c.args.h.now in
    let xs : List Case = cases_at old c.args.from.now in
    let ys : List Case = cases_at old c.args.by.now in
    let made : List ℕ → ℕ → List Value → Type 0 = λ next n vs. MakesCases old c.cases_from.new.diagrams c.cases_from.result (led_to next n xs ys vs) (IsOfLed next n xs ys vs) in
    let one = subst (λ (next : List ℕ). made next c.letters.result c.deref-2.result.now) c.deref.ensures.value c.cases_from.ensures in
    let two = subst (λ (n : ℕ). made h.next.items n c.deref-2.result.now) c.letters.ensures.count one in
    subst (made h.next.items (2 ^ length h.atoms.items)) (c.deref-2.ensures.value ∙ (c.in-Ok.ensures ∙ ap values_of c.domain_of.ensures.domain)) two
