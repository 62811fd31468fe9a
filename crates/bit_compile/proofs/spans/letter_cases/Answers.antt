use Rattle.std.proofs.Common.{◌^◌, ◌∙◌, ℕ, List, ap, arith, length, subst, sym}
use Rattle.std.proofs.lemmas.List.{length-map}
use Rattle.std.proofs.lemmas.Nat.{pow_pos}
use Rattle.spec_model.specs.declared.value.Value.{Value}
use Rattle.spec_model.specs.Values.{values_of}
use Rattle.bdd_bits.specs.Contents.{function_at}
use Rattle.bit_compile.specs.declared.cases.CaseRoot.{CaseRoot}
use Rattle.bit_compile.specs.declared.cases.Source.TheVariants as source
use Rattle.bit_compile.specs.Compiled.{numbers_below}
use Rattle.bit_compile.specs.CaseRoots.{AreKept, MakesCases, cases_by, had_by}
use Rattle.bit_compile.proofs.Readiness.{always}
use Rattle.bit_compile.specs.Named.{IsOfEach}
use Rattle.bit_compile.specs.NamedScenes.{IsOfSource}
use Rattle.bit_compile.proofs.spans.letter_cases.Goals as goal

pub cases_from-requires : goal.cases_from-requires
cases_from-requires c = always (AreKept c.args.diagrams.now.state c.args.atoms.now) c.requires.kept c.deref.result.now

pub first_numbers-domain-requires-clause-some : goal.first_numbers-domain-requires-clause-some
first_numbers-domain-requires-clause-some c = let many = c.letters-count.ensures.count in let some = pow_pos (length c.args.h.now.atoms.items) in omega (arith, many, some)

pub returns : goal.returns
returns c =
    let old = c.args.diagrams.now in
    let src = source.Letters c.args.atoms in
    let count = c.letters-count.ensures.count ∙ ap (λ (n : ℕ). 2 ^ n) (sym c.requires.counted ∙ sym (length-map c.args.atoms.now (λ (a : CaseRoot). function_at old a.root))) in
    let is = c.deref.ensures.value ∙ (c.in-Ok.ensures ∙ (ap values_of c.first_numbers-domain.ensures.domain ∙ ap (λ (n : ℕ). values_of (numbers_below n)) count)) in
    subst (λ (vs : List Value). MakesCases old c.cases_from.new.diagrams c.cases_from.result (cases_by old src vs) (IsOfEach vs (had_by old src) (IsOfSource old src))) is c.cases_from.ensures
