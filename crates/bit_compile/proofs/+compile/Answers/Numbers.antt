-- The numbers that an operation gives, with where each is had.
use Rattle.std.proofs.Common.{ℕ, ◌≤◌, [], ◌∷◌, List, map, sym, subst, rules, w64, inl, inr}
use Rattle.spec_model.specs.declared.value.Value.{Value}
use Rattle.spec_model.specs.declared.value.Value.TheVariants as value
use Rattle.spec_model.specs.Views.{formula}
use Rattle.spec_model.specs.Values.{values_of}
use Rattle.spec_model.specs.Syntax.{Remainder}
use Rattle.bit_compile.specs.declared.cases.CaseRoot.{CaseRoot}
use Rattle.bit_compile.specs.declared.operation.Operation.TheVariants.{Mod}
use Rattle.bit_compile.specs.Domains.{level_count}
use Rattle.bit_compile.specs.Laid.{IsCountable}
use Rattle.bit_compile.specs.Compiled.{values_in, span_of}
use Rattle.bit_compile.specs.CaseRoots.{cases_at}
use Rattle.bit_compile.specs.Scenes.{cases_seen, codes_seen, entries_seen, game_seen}
use Rattle.std.proofs.lemmas.Int.{to_z-of_z}
use Rattle.bit_compile.proofs.CyclesLemmas.{values-cases}
use Rattle.bit_compile.proofs.Pairing.{made_left, others_kept, seen_kept, seen_values}
use Rattle.bit_compile.proofs.Causes.{cause_wider}
use Rattle.bit_compile.proofs.Outcomes.{cases_handed}
use Rattle.bit_compile.proofs.CompilingSteps.{operated_made, operated_with_made, remainders_made}
use Rattle.bit_compile.proofs.NamedFormulas.{part_named}
use Rattle.bit_compile.specs.Named.{IsOfResults}
use Rattle.bit_compile.specs.NamedScenes.{IsNamedIn, IsNamedOr, IsOfOperated}
use Rattle.bit_compile.proofs.+compile.Goals as goal

pub arithmetic::operated-release_all-requires : goal.arithmetic::operated-release_all-requires
arithmetic::operated-release_all-requires t c =
    let first = c.in_ok-xs.ensures in
    let then = c.operated_with-cases.ensures in
    made_left c.args.diagrams.now c.cases_of.new.diagrams c.in_ok-xs.xs.items c.deref.result.now _ first.made first.leaves.keeps c.deref.ensures.value (λ v. v.items) c.operated_with-cases.new.diagrams c.operated_with-cases.result _ then.made then.leaves

pub arithmetic::operated-returns-in_err-xs : goal.arithmetic::operated-returns-in_err-xs
arithmetic::operated-returns-in_err-xs t c =
    let named = IsOfOperated c.args.scene.now c.args.at c.args.op (formula c.args.a.now) (formula c.args.b.now) in
    cases_handed c.args.diagrams.now c.cases_of.new.diagrams c.cases_of.result c.in_err-xs.field-0.0 named c.in_err-xs.was c.cases_of.ensures.leaves (cause_wider (IsNamedIn c.args.scene.now c.args.at (formula c.args.a.now)) named (λ f is. inl is) _ _ _ c.cases_of.ensures.cause) c.from_residual.result _ (search rules)

pub arithmetic::operated-returns : goal.arithmetic::operated-returns
arithmetic::operated-returns t c =
    let first = c.in_ok-xs.ensures in
    operated_made c.args.scene.now c.args.at c.args.diagrams.now c.cases_of.new.diagrams c.operated_with-cases.new.diagrams c.release_all.new.diagrams c.release_all.ensures.nodes c.in_ok-xs.xs.items c.deref.result.now c.deref.ensures.value c.release_all.ensures.released first.leaves.keeps
    (formula c.args.a.now) first.made c.args.op (formula c.args.b.now) c.operated_with-cases.result c.operated_with-cases.ensures

pub arithmetic::operated_with-operation_cases-cases-requires-clause-span : goal.arithmetic::operated_with-operation_cases-cases-requires-clause-span
arithmetic::operated_with-operation_cases-cases-requires-clause-span t c =
    let first = c.in_ok-ys.ensures in
    let g = game_seen c.args.scene.now in
    let b = formula c.args.b.now in
    subst (λ (vs : List Value). IsCountable (span_of c.args.op (map (λ (x : CaseRoot). x.value) c.args.xs.now) vs))
    (sym (seen_values c.args.diagrams.now c.cases_of.new.diagrams c.in_ok-ys.ys.items c.deref.result.now _ first.made first.leaves.keeps c.deref.ensures.value (values_in g b) (values-cases g (entries_seen c.args.scene.now) c.args.at b))) c.requires.span

pub arithmetic::operated_with-operation_cases-cases-requires-clause-xs_kept : goal.arithmetic::operated_with-operation_cases-cases-requires-clause-xs_kept
arithmetic::operated_with-operation_cases-cases-requires-clause-xs_kept t c =
    let first = c.in_ok-ys.ensures in
    others_kept c.args.diagrams.now c.cases_of.new.diagrams c.in_ok-ys.ys.items c.deref.result.now _ first.made first.leaves.keeps c.deref.ensures.value c.args.xs.now c.requires.kept

pub arithmetic::operated_with-operation_cases-cases-requires-clause-ys_kept : goal.arithmetic::operated_with-operation_cases-cases-requires-clause-ys_kept
arithmetic::operated_with-operation_cases-cases-requires-clause-ys_kept t c =
    let first = c.in_ok-ys.ensures in
    seen_kept c.args.diagrams.now c.cases_of.new.diagrams c.in_ok-ys.ys.items c.deref.result.now _ first.made first.leaves.keeps c.deref.ensures.value

pub arithmetic::operated_with-release_all-requires : goal.arithmetic::operated_with-release_all-requires
arithmetic::operated_with-release_all-requires t c =
    let first = c.in_ok-ys.ensures in
    let then = c.operation_cases-cases.ensures in
    made_left c.args.diagrams.now c.cases_of.new.diagrams c.in_ok-ys.ys.items c.deref.result.now _ first.made first.leaves.keeps c.deref.ensures.value (λ v. v.items) c.operation_cases-cases.new.diagrams c.operation_cases-cases.result _ then.made then.leaves

pub arithmetic::operated_with-returns-in_err-ys : goal.arithmetic::operated_with-returns-in_err-ys
arithmetic::operated_with-returns-in_err-ys t c =
    let named = IsNamedOr c.args.scene.now c.args.at (formula c.args.b.now) (IsOfResults c.args.op (cases_at c.args.diagrams.now c.args.xs.now) (cases_seen c.args.scene.now c.args.at (formula c.args.b.now)) (values_of (span_of c.args.op (map (λ (x : CaseRoot). x.value) c.args.xs.now) (values_in (game_seen c.args.scene.now) (formula c.args.b.now))))) in
    cases_handed c.args.diagrams.now c.cases_of.new.diagrams c.cases_of.result c.in_err-ys.field-0.0 named c.in_err-ys.was c.cases_of.ensures.leaves (cause_wider (IsNamedIn c.args.scene.now c.args.at (formula c.args.b.now)) named (λ f is. inl is) _ _ _ c.cases_of.ensures.cause) c.from_residual.result _ (search rules)

pub arithmetic::operated_with-returns : goal.arithmetic::operated_with-returns
arithmetic::operated_with-returns t c =
    let first = c.in_ok-ys.ensures in
    operated_with_made c.args.scene.now c.args.at c.args.diagrams.now c.cases_of.new.diagrams c.operation_cases-cases.new.diagrams c.release_all.new.diagrams c.release_all.ensures.nodes c.in_ok-ys.ys.items c.deref.result.now c.deref.ensures.value c.release_all.ensures.released first.leaves.keeps
    (formula c.args.b.now) first.made c.args.op c.args.xs.now c.operation_cases-cases.result c.requires.kept c.operation_cases-cases.ensures

pub arithmetic::remainders-remainder_cases-cases-requires-clause-span : goal.arithmetic::remainders-remainder_cases-cases-requires-clause-span
arithmetic::remainders-remainder_cases-cases-requires-clause-span t c =
    let first = c.in_ok-xs.ensures in
    let g = game_seen c.args.scene.now in
    let a = formula c.args.a.now in
    rw (to_z-of_z w64 c.args.n c.ranges.n) (subst (λ (vs : List Value). IsCountable (span_of Mod vs (value.Int c.args.n ∷ [])))
    (sym (seen_values c.args.diagrams.now c.cases_of.new.diagrams c.in_ok-xs.xs.items c.deref.result.now _ first.made first.leaves.keeps c.deref.ensures.value (values_in g a) (values-cases g (entries_seen c.args.scene.now) c.args.at a))) c.requires.known.1)

pub arithmetic::remainders-remainder_cases-cases-requires-clause-xs_kept : goal.arithmetic::remainders-remainder_cases-cases-requires-clause-xs_kept
arithmetic::remainders-remainder_cases-cases-requires-clause-xs_kept t c =
    let first = c.in_ok-xs.ensures in
    seen_kept c.args.diagrams.now c.cases_of.new.diagrams c.in_ok-xs.xs.items c.deref.result.now _ first.made first.leaves.keeps c.deref.ensures.value

pub arithmetic::remainders-release_all-requires : goal.arithmetic::remainders-release_all-requires
arithmetic::remainders-release_all-requires t c =
    let first = c.in_ok-xs.ensures in
    let then = c.remainder_cases-cases.ensures in
    made_left c.args.diagrams.now c.cases_of.new.diagrams c.in_ok-xs.xs.items c.deref.result.now _ first.made first.leaves.keeps c.deref.ensures.value (λ v. v.items) c.remainder_cases-cases.new.diagrams c.remainder_cases-cases.result _ then.made then.leaves

pub arithmetic::remainders-returns-in_err-xs : goal.arithmetic::remainders-returns-in_err-xs
arithmetic::remainders-returns-in_err-xs t c =
    let named = IsNamedIn c.args.scene.now c.args.at (Remainder (formula c.args.a.now) c.args.n) in
    cases_handed c.args.diagrams.now c.cases_of.new.diagrams c.cases_of.result c.in_err-xs.field-0.0 named c.in_err-xs.was c.cases_of.ensures.leaves (cause_wider (IsNamedIn c.args.scene.now c.args.at (formula c.args.a.now)) named (part_named c.args.scene.now c.args.at (formula c.args.a.now) (formula c.args.a.now) named (λ f is. inl (inr (inl is))) (λ f is. inr is)) _ _ _ c.cases_of.ensures.cause) c.from_residual.result _ (search rules)

pub arithmetic::remainders-returns : goal.arithmetic::remainders-returns
arithmetic::remainders-returns t c =
    let first = c.in_ok-xs.ensures in
    remainders_made c.args.scene.now c.args.at c.args.diagrams.now c.cases_of.new.diagrams c.remainder_cases-cases.new.diagrams c.release_all.new.diagrams c.release_all.ensures.nodes c.in_ok-xs.xs.items c.deref.result.now c.deref.ensures.value c.release_all.ensures.released first.leaves.keeps
    (formula c.args.a.now) first.made c.args.n _ c.remainder_cases-cases.result (to_z-of_z w64 c.args.n c.ranges.n) c.remainder_cases-cases.ensures

pub arithmetic::operated-operated_with-cases-requires : goal.arithmetic::operated-operated_with-cases-requires
arithmetic::operated-operated_with-cases-requires t c =
    let first = c.in_ok-xs.ensures in
    let g = game_seen c.args.scene.now in
    let a = formula c.args.a.now in
    let kept = seen_kept c.args.diagrams.now c.cases_of.new.diagrams c.in_ok-xs.xs.items c.deref.result.now _ first.made first.leaves.keeps c.deref.ensures.value in
    let levels : level_count (codes_seen c.args.scene.now) ≤ c.cases_of.new.diagrams.state.table.levels = subst (λ (n : ℕ). level_count (codes_seen c.args.scene.now) ≤ n) (sym first.leaves.keeps.levels) c.requires.levels in
    let span = subst (λ (vs : List Value). IsCountable (span_of c.args.op vs (values_in g (formula c.args.b.now))))
    (sym (seen_values c.args.diagrams.now c.cases_of.new.diagrams c.in_ok-xs.xs.items c.deref.result.now _ first.made first.leaves.keeps c.deref.ensures.value (values_in g a) (values-cases g (entries_seen c.args.scene.now) c.args.at a))) c.requires.span in
    search rules
