use Rattle.std.proofs.Common.{◌≡◌, ℕ, map, nat_abs, rules, sym, subst}
use Rattle.spec_model.specs.Values.{number_of}
use Rattle.bdd_bits.specs.Contents.{function_at}
use Rattle.bit_compile.specs.declared.cases.CaseRoot.{CaseRoot}
use Rattle.bit_compile.specs.declared.cases.Source.{Source}
use Rattle.bit_compile.specs.Making.{Makes}
use Rattle.bit_compile.specs.CaseRoots.{had_by}
use Rattle.bit_compile.specs.Crowding.{HasCause}
use Rattle.bit_compile.specs.Named.{IsOfLetter}
use Rattle.bit_compile.specs.NamedScenes.{IsOfSource}
use Rattle.bit_compile.proofs.cases.case_root.Goals as goal

pub returns-in-Pairs-clause-made : goal.returns-in-Pairs-clause-made
returns-in-Pairs-clause-made c = subst (λ (s : Source). Makes c.args.diagrams.now c.pair_root.new.diagrams c.pair_root.result (had_by c.args.diagrams.now s c.args.value)) (sym c.in-Pairs.is) c.pair_root.ensures.made

pub returns-in-Leads-clause-made : goal.returns-in-Leads-clause-made
returns-in-Leads-clause-made c = subst (λ (s : Source). Makes c.args.diagrams.now c.pair_root-in-Leads.new.diagrams c.pair_root-in-Leads.result (had_by c.args.diagrams.now s c.args.value)) (sym c.in-Leads.is) c.pair_root-in-Leads.ensures.made

pub returns-in-Pairs-clause-cause : goal.returns-in-Pairs-clause-cause
returns-in-Pairs-clause-cause c = subst (λ (s : Source). HasCause c.args.diagrams.now c.pair_root.new.diagrams c.pair_root.result (IsOfSource c.args.diagrams.now s c.args.value)) (sym c.in-Pairs.is) c.pair_root.ensures.cause

pub returns-in-Leads-clause-cause : goal.returns-in-Leads-clause-cause
returns-in-Leads-clause-cause c = subst (λ (s : Source). HasCause c.args.diagrams.now c.pair_root-in-Leads.new.diagrams c.pair_root-in-Leads.result (IsOfSource c.args.diagrams.now s c.args.value)) (sym c.in-Leads.is) c.pair_root-in-Leads.ensures.cause

pub returns-in-Truth-clause-cause : goal.returns-in-Truth-clause-cause
returns-in-Truth-clause-cause c = subst (λ (s : Source). HasCause c.args.diagrams.now c.truth_root.new.diagrams c.truth_root.result (IsOfSource c.args.diagrams.now s c.args.value)) (sym c.in-Truth.is) c.truth_root.ensures.cause

pub returns-in-Coded-clause-cause : goal.returns-in-Coded-clause-cause
returns-in-Coded-clause-cause c = subst (λ (s : Source). HasCause c.args.diagrams.now c.has_code.new.diagrams c.has_code.result (IsOfSource c.args.diagrams.now s c.args.value)) (sym c.in-Coded.is) (rw c.code.ensures at c.has_code.ensures.cause)

pub returns-in-Letters-clause-cause : goal.returns-in-Letters-clause-cause
returns-in-Letters-clause-cause c =
    let old = c.args.diagrams.now in
    let cause : Source → Type 0 = λ s. HasCause old c.letter_root.new.diagrams c.letter_root.result (IsOfSource old s c.args.value) in
    let fs = map (λ (a : CaseRoot). function_at old a.root) c.in-Letters.atoms.now in
    let letter : c.unsigned_abs.result ≡ nat_abs (number_of c.args.value) = search rules in
    subst cause (sym c.in-Letters.is) (subst (λ (n : ℕ). HasCause old c.letter_root.new.diagrams c.letter_root.result (IsOfLetter fs n)) letter c.letter_root.ensures.cause)
