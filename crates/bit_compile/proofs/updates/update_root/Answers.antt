use Rattle.std.proofs.Common.{List, rules, inl, inr, map, subst, length, ◌^◌}
use Rattle.spec_model.specs.GameViews.{hidden_data}
use Rattle.spec_model.specs.Values.{same_value, values_of}
use Rattle.game_values.specs.declared.seen.At.TheVariants.{Next, Now}
use Rattle.bit_compile.specs.Domains.{table_domain}
use Rattle.bit_compile.specs.Compiled.{Case, coded, some_pair, following, lettered, leads, table_update}
use Rattle.bit_compile.proofs.Pairing.{seen_are, seen_kept}
use Rattle.bit_compile.proofs.Causes.{cause_wider}
use Rattle.bit_compile.proofs.NamedCases.{named_wider}
use Rattle.bit_compile.proofs.Outcomes.{named_among, named_handed}
use Rattle.bit_compile.proofs.NamedFormulas.{either}
use Rattle.bit_compile.proofs.NamedSteps.{all_named}
use Rattle.bit_compile.specs.Named.{IsOfCoded, IsOfPairs, IsOfLed, IsOfFollowing, IsOfUpdate}
use Rattle.bit_compile.specs.Crowding.{MakesNamed}
use Rattle.spec_model.specs.Diagrams.{Function}
use Rattle.bit_compile.specs.declared.cases.CaseRoot.{CaseRoot}
use Rattle.bdd_bits.specs.Contents.{function_at}
use Rattle.bit_compile.proofs.updates.update_root.Goals as goal

pub next_among-root-requires-clause-kept : goal.next_among-root-requires-clause-kept
next_among-root-requires-clause-kept c =
    let first = c.in_ok-cases.ensures in
    seen_kept c.args.diagrams.now c.following.new.diagrams c.in_ok-cases.cases.items c.deref.result.now _ first.made first.leaves.keeps c.deref.ensures.value

pub returns : goal.returns
returns c =
    let first = c.in_ok-cases.ensures in
    let old = c.args.diagrams.now in
    let mid = c.following.new.diagrams in
    let cases = c.in_ok-cases.cases.items in
    let seen = c.deref.result.now in
    let ds = c.args.codes.now in
    let k = c.args.k in
    let h = hidden_data c.args.h.now in
    let d = table_domain h in
    let fs = map (λ (a : CaseRoot). function_at old a.root) c.args.atoms.now in
    let next = coded ds Next k d in
    let cs : List Case = following ds k h fs in
    let whole = c.next_among-root.new.diagrams in
    let r = c.next_among-root.result in
    let step : List Case → Function → Type 0 = λ ys. either (IsOfCoded ds Next k d) (IsOfPairs same_value next ys) in
    let then = subst (λ (ys : List Case). MakesNamed mid whole r (some_pair same_value next ys) (step ys)) (seen_are old mid cases seen cs first.made first.leaves.keeps c.deref.ensures.value) c.next_among-root.ensures in
    let named = IsOfUpdate ds k h fs in
    let from = coded ds Now k d in
    let letters : List Case = lettered fs in
    let many = 2 ^ length fs in
    let led = IsOfLed h.next many from letters (values_of d) in
    let each = all_named (values_of d) (λ to. some_pair (leads h.next many to) from letters) (λ to. IsOfPairs (leads h.next many to) from letters) in
    named_among old mid cases seen cs first.made first.leaves.keeps c.deref.ensures.value (step cs) named (λ f is. inr is) (named_wider led named (λ f is. inl (inr (inr is))) cs each)
    whole c.release_all.new.diagrams c.release_all.ensures.released c.release_all.ensures.nodes r (table_update ds k h fs) then

pub returns-in_err-cases : goal.returns-in_err-cases
returns-in_err-cases c =
    let old = c.args.diagrams.now in
    let new = c.following.new.diagrams in
    let h = hidden_data c.args.h.now in
    let fs = map (λ (a : CaseRoot). function_at old a.root) c.args.atoms.now in
    let named = IsOfUpdate c.args.codes.now c.args.k h fs in
    let handed = (cause_wider (IsOfFollowing c.args.codes.now c.args.k h fs) named (λ f is. inl is) old new c.following.result c.following.ensures.cause) in
    named_handed old new c.following.result c.in_err-cases.field-0.0 named c.in_err-cases.was c.following.ensures.leaves handed c.from_residual.result _ (search rules)
