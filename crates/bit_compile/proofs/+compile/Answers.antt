mod Arms
mod Entries
mod Numbers
use Rattle.std.proofs.Common.{ℕ, ◌≤◌, sym, subst, rules, inl, inr}
use Rattle.spec_model.specs.Views.{formula}
use Rattle.spec_model.specs.Syntax.{Comparison, Equivalence, Implication}
use Rattle.game_values.specs.Safety.{formulas_in}
use Rattle.bdd_bits.specs.Contents.{function_at}
use Rattle.bit_compile.specs.declared.pairs.Test.TheVariants as test
use Rattle.bit_compile.specs.Domains.{level_count}
use Rattle.bit_compile.specs.Compiled.{truths_in}
use Rattle.bit_compile.specs.CaseRoots.{cases_at, passes}
use Rattle.bit_compile.specs.Scenes.{cases_seen, codes_seen, entries_seen, game_seen, truth_seen}
use Rattle.bit_compile.proofs.MakingLemmas.{is_root}
use Rattle.bit_compile.proofs.Pairing.{made_together, others_kept, seen_kept}
use Rattle.bit_compile.proofs.Causes.{cause_wider}
use Rattle.bit_compile.proofs.Outcomes.{cases_handed, makes_leaves, named_handed}
use Rattle.bit_compile.proofs.BlockLemmas.{after_refusal}
use Rattle.bit_compile.proofs.Causes.{cause_after}
use Rattle.bit_compile.proofs.CompilingSteps.{negated_made, implied_made, or_made, equivalent_made, same_made, both_made_with, joined_made, compared_made, compared_with_made}
use Rattle.bit_compile.proofs.NamedFormulas.{either, part_named}
use Rattle.bit_compile.specs.Named.{IsFirstOf, IsOfPairs, IsOfSame}
use Rattle.bit_compile.specs.NamedScenes.{AreNamedIn, IsNamedIn, IsNamedOr}
use Rattle.bit_compile.proofs.+compile.Answers.Arms as arms
use Rattle.bit_compile.proofs.+compile.Answers.Entries as entries
use Rattle.bit_compile.proofs.+compile.Answers.Numbers as numbers
use Rattle.bit_compile.proofs.+compile.Goals as goal

-- ---- one root on the way

pub compiling::negated_root-returns-in_err-root : goal.compiling::negated_root-returns-in_err-root
compiling::negated_root-returns-in_err-root t c =
    let named = IsNamedIn c.args.scene.now c.args.at (formula c.args.e.now) in
    named_handed c.args.diagrams.now c.truth_root.new.diagrams c.truth_root.result c.in_err-root.field-0.0 named c.in_err-root.was (makes_leaves _ _ _ _ c.truth_root.ensures.made) c.truth_root.ensures.cause c.from_residual.result _ (search rules)

pub compiling::negated_root-returns : goal.compiling::negated_root-returns
compiling::negated_root-returns t c =
    negated_made c.args.scene.now c.args.at c.args.diagrams.now c.truth_root.new.diagrams c.not-other.new.diagrams c.release.new.self c.release.ensures.nodes c.in_ok-root.root c.release.ensures.released
    (formula c.args.e.now) c.not-other.result c.in_ok-root.ensures.made c.not-other.ensures

pub compiling::implied_root-returns-in_err-root : goal.compiling::implied_root-returns-in_err-root
compiling::implied_root-returns-in_err-root t c =
    let named = IsNamedIn c.args.scene.now c.args.at (Implication (formula c.args.a.now) (formula c.args.b.now)) in
    named_handed c.args.diagrams.now c.negated_root.new.diagrams c.negated_root.result c.in_err-root.field-0.0 named c.in_err-root.was (makes_leaves _ _ _ _ c.negated_root.ensures.made) (cause_wider (IsNamedIn c.args.scene.now c.args.at (formula c.args.a.now)) named (part_named c.args.scene.now c.args.at (formula c.args.a.now) (formula c.args.a.now) named (λ f is. inl (inr (inl is))) (λ f is. inr is)) _ _ _ c.negated_root.ensures.cause) c.from_residual.result _ (search rules)

pub compiling::implied_root-returns : goal.compiling::implied_root-returns
compiling::implied_root-returns t c =
    implied_made c.args.scene.now c.args.at c.args.diagrams.now c.negated_root.new.diagrams c.or_truth-whole.new.diagrams c.release.new.self c.release.ensures.nodes c.in_ok-root.root c.release.ensures.released
    (formula c.args.a.now) (formula c.args.b.now) c.or_truth-whole.result c.in_ok-root.ensures.made c.or_truth-whole.ensures

pub compiling::or_truth-returns-in_err-root : goal.compiling::or_truth-returns-in_err-root
compiling::or_truth-returns-in_err-root t c =
    let named = IsNamedIn c.args.scene.now c.args.at (formula c.args.e.now) in
    named_handed c.args.diagrams.now c.truth_root.new.diagrams c.truth_root.result c.in_err-root.field-0.0 named c.in_err-root.was (makes_leaves _ _ _ _ c.truth_root.ensures.made) c.truth_root.ensures.cause c.from_residual.result _ (search rules)

pub compiling::or_truth-returns : goal.compiling::or_truth-returns
compiling::or_truth-returns t c =
    or_made c.args.scene.now c.args.at c.args.diagrams.now c.truth_root.new.diagrams c.or-whole.new.diagrams c.release.new.self c.release.ensures.nodes c.in_ok-root.root c.release.ensures.released
    c.args.first.now (formula c.args.e.now) c.or-whole.result c.requires.kept c.in_ok-root.ensures.made c.or-whole.ensures

pub compiling::equivalent_root-returns-in_err-root : goal.compiling::equivalent_root-returns-in_err-root
compiling::equivalent_root-returns-in_err-root t c =
    let named = IsNamedIn c.args.scene.now c.args.at (Equivalence (formula c.args.a.now) (formula c.args.b.now)) in
    named_handed c.args.diagrams.now c.truth_root.new.diagrams c.truth_root.result c.in_err-root.field-0.0 named c.in_err-root.was (makes_leaves _ _ _ _ c.truth_root.ensures.made) (cause_wider (IsNamedIn c.args.scene.now c.args.at (formula c.args.a.now)) named (part_named c.args.scene.now c.args.at (formula c.args.a.now) (formula c.args.a.now) named (λ f is. inl (inr (inl (inl is)))) (λ f is. inr is)) _ _ _ c.truth_root.ensures.cause) c.from_residual.result _ (search rules)

pub compiling::equivalent_root-returns : goal.compiling::equivalent_root-returns
compiling::equivalent_root-returns t c =
    equivalent_made c.args.scene.now c.args.at c.args.diagrams.now c.truth_root.new.diagrams c.same_as_truth-whole.new.diagrams c.release.new.self c.release.ensures.nodes c.in_ok-root.root c.release.ensures.released
    (formula c.args.a.now) (formula c.args.b.now) c.same_as_truth-whole.result c.in_ok-root.ensures.made c.same_as_truth-whole.ensures

pub compiling::same_as_truth-returns-in_err-root : goal.compiling::same_as_truth-returns-in_err-root
compiling::same_as_truth-returns-in_err-root t c =
    let named = IsNamedOr c.args.scene.now c.args.at (formula c.args.e.now) (IsOfSame (function_at c.args.diagrams.now c.args.first.now) (truth_seen c.args.scene.now c.args.at (formula c.args.e.now))) in
    named_handed c.args.diagrams.now c.truth_root.new.diagrams c.truth_root.result c.in_err-root.field-0.0 named c.in_err-root.was (makes_leaves _ _ _ _ c.truth_root.ensures.made) (cause_wider (IsNamedIn c.args.scene.now c.args.at (formula c.args.e.now)) named (λ f is. inl is) _ _ _ c.truth_root.ensures.cause) c.from_residual.result _ (search rules)

pub compiling::same_as_truth-returns : goal.compiling::same_as_truth-returns
compiling::same_as_truth-returns t c =
    same_made c.args.scene.now c.args.at c.args.diagrams.now c.truth_root.new.diagrams c.same_root-whole.new.diagrams c.release.new.self c.release.ensures.nodes c.in_ok-root.root c.release.ensures.released
    c.args.first.now (formula c.args.e.now) c.same_root-whole.result c.requires.kept c.in_ok-root.ensures.made c.same_root-whole.ensures

pub compiling::both_cases-returns-in_err-root : goal.compiling::both_cases-returns-in_err-root
compiling::both_cases-returns-in_err-root t c =
    let named = IsNamedIn c.args.scene.now c.args.at (formula c.args.e.now) in
    cases_handed c.args.diagrams.now c.truth_root.new.diagrams c.truth_root.result c.in_err-root.field-0.0 named c.in_err-root.was (makes_leaves _ _ _ _ c.truth_root.ensures.made) c.truth_root.ensures.cause c.from_residual.result _ (search rules)

pub compiling::both_cases-returns : goal.compiling::both_cases-returns
compiling::both_cases-returns t c =
    both_made_with c.args.scene.now c.args.at c.args.diagrams.now c.truth_root.new.diagrams c.cases_of_truth-cases.new.diagrams c.release.new.self c.release.ensures.nodes c.in_ok-root.root c.release.ensures.released
    (formula c.args.e.now) c.cases_of_truth-cases.result c.in_ok-root.ensures.made c.cases_of_truth-cases.ensures

-- ---- cases on the way

pub compiling::joined_root-release_all-requires : goal.compiling::joined_root-release_all-requires
compiling::joined_root-release_all-requires t c =
    let first = c.in_ok-cases.ensures in
    made_together c.args.diagrams.now c.truth_cases.new.diagrams c.in_ok-cases.cases.items c.deref.result.now _ first.made first.leaves.keeps c.deref.ensures.value c.folded-root.new.diagrams c.folded-root.result _ c.folded-root.ensures.made

pub compiling::joined_root-folded-root-requires : goal.compiling::joined_root-folded-root-requires
compiling::joined_root-folded-root-requires t c =
    let first = c.in_ok-cases.ensures in
    seen_kept c.args.diagrams.now c.truth_cases.new.diagrams c.in_ok-cases.cases.items c.deref.result.now _ first.made first.leaves.keeps c.deref.ensures.value

pub compiling::joined_root-returns-in_err-cases : goal.compiling::joined_root-returns-in_err-cases
compiling::joined_root-returns-in_err-cases t c =
    let named = either (AreNamedIn c.args.scene.now c.args.at (formulas_in c.args.es.now)) (IsFirstOf c.args.fold (truths_in (game_seen c.args.scene.now) (entries_seen c.args.scene.now) c.args.at (formulas_in c.args.es.now))) in
    named_handed c.args.diagrams.now c.truth_cases.new.diagrams c.truth_cases.result c.in_err-cases.field-0.0 named c.in_err-cases.was c.truth_cases.ensures.leaves (cause_wider (AreNamedIn c.args.scene.now c.args.at (formulas_in c.args.es.now)) named (λ f is. inl is) _ _ _ c.truth_cases.ensures.cause) c.from_residual.result _ (search rules)

pub compiling::joined_root-returns : goal.compiling::joined_root-returns
compiling::joined_root-returns t c =
    let first = c.in_ok-cases.ensures in
    joined_made c.args.scene.now c.args.at c.args.diagrams.now c.truth_cases.new.diagrams c.folded-root.new.diagrams c.release_all.new.diagrams c.release_all.ensures.nodes c.in_ok-cases.cases.items c.deref.result.now c.deref.ensures.value c.release_all.ensures.released first.leaves.keeps
    c.args.fold (formulas_in c.args.es.now) c.folded-root.result first.made (record { made = c.folded-root.ensures.made; cause = c.folded-root.ensures.cause })

pub compiling::compared_root-returns-in-Err : goal.compiling::compared_root-returns-in-Err
compiling::compared_root-returns-in-Err t c =
    let old = c.args.diagrams.now in
    let mid = c.has_code.new.diagrams in
    let new = c.compared_by_cases-in-Err.new.diagrams in
    let r = c.compared_by_cases-in-Err.result in
    let first = c.in-Err.ensures.made in
    let named = IsNamedIn c.args.scene.now c.args.at (Comparison c.args.c (formula c.args.a.now) (formula c.args.b.now)) in
    record {
      made = after_refusal old mid new _ r _ _ first c.compared_by_cases-in-Err.ensures.made;
      cause = cause_after old mid new r named first.refused first.keeps c.compared_by_cases-in-Err.ensures.cause;
    }

pub compiling::compared_by_cases-release_all-requires : goal.compiling::compared_by_cases-release_all-requires
compiling::compared_by_cases-release_all-requires t c =
    let first = c.in_ok-xs.ensures in
    made_together c.args.diagrams.now c.cases_of.new.diagrams c.in_ok-xs.xs.items c.deref.result.now _ first.made first.leaves.keeps c.deref.ensures.value c.compared_with-root.new.diagrams c.compared_with-root.result _ c.compared_with-root.ensures.made

pub compiling::compared_by_cases-returns-in_err-xs : goal.compiling::compared_by_cases-returns-in_err-xs
compiling::compared_by_cases-returns-in_err-xs t c =
    let named = IsNamedIn c.args.scene.now c.args.at (Comparison c.args.c (formula c.args.a.now) (formula c.args.b.now)) in
    named_handed c.args.diagrams.now c.cases_of.new.diagrams c.cases_of.result c.in_err-xs.field-0.0 named c.in_err-xs.was c.cases_of.ensures.leaves (cause_wider (IsNamedIn c.args.scene.now c.args.at (formula c.args.a.now)) named (part_named c.args.scene.now c.args.at (formula c.args.a.now) (formula c.args.a.now) named (λ f is. inl (inr (inl (inl is)))) (λ f is. inr is)) _ _ _ c.cases_of.ensures.cause) c.from_residual.result _ (search rules)

pub compiling::compared_by_cases-returns : goal.compiling::compared_by_cases-returns
compiling::compared_by_cases-returns t c =
    let first = c.in_ok-xs.ensures in
    compared_made c.args.scene.now c.args.at c.args.diagrams.now c.cases_of.new.diagrams c.compared_with-root.new.diagrams c.release_all.new.diagrams c.release_all.ensures.nodes c.in_ok-xs.xs.items c.deref.result.now c.deref.ensures.value c.release_all.ensures.released first.leaves.keeps
    (formula c.args.a.now) first.made c.args.c (formula c.args.b.now) c.compared_with-root.result c.compared_with-root.ensures

pub compiling::compared_with-pair_root-root-requires-clause-xs_kept : goal.compiling::compared_with-pair_root-root-requires-clause-xs_kept
compiling::compared_with-pair_root-root-requires-clause-xs_kept t c =
    let first = c.in_ok-ys.ensures in
    others_kept c.args.diagrams.now c.cases_of.new.diagrams c.in_ok-ys.ys.items c.deref.result.now _ first.made first.leaves.keeps c.deref.ensures.value c.args.xs.now c.requires.kept

pub compiling::compared_with-pair_root-root-requires-clause-ys_kept : goal.compiling::compared_with-pair_root-root-requires-clause-ys_kept
compiling::compared_with-pair_root-root-requires-clause-ys_kept t c =
    let first = c.in_ok-ys.ensures in
    seen_kept c.args.diagrams.now c.cases_of.new.diagrams c.in_ok-ys.ys.items c.deref.result.now _ first.made first.leaves.keeps c.deref.ensures.value

pub compiling::compared_with-release_all-requires : goal.compiling::compared_with-release_all-requires
compiling::compared_with-release_all-requires t c =
    let first = c.in_ok-ys.ensures in
    made_together c.args.diagrams.now c.cases_of.new.diagrams c.in_ok-ys.ys.items c.deref.result.now _ first.made first.leaves.keeps c.deref.ensures.value c.pair_root-root.new.diagrams c.pair_root-root.result _ c.pair_root-root.ensures.made

pub compiling::compared_with-returns-in_err-ys : goal.compiling::compared_with-returns-in_err-ys
compiling::compared_with-returns-in_err-ys t c =
    let named = IsNamedOr c.args.scene.now c.args.at (formula c.args.b.now) (IsOfPairs (passes (test.Compared c.args.c)) (cases_at c.args.diagrams.now c.args.xs.now) (cases_seen c.args.scene.now c.args.at (formula c.args.b.now))) in
    named_handed c.args.diagrams.now c.cases_of.new.diagrams c.cases_of.result c.in_err-ys.field-0.0 named c.in_err-ys.was c.cases_of.ensures.leaves (cause_wider (IsNamedIn c.args.scene.now c.args.at (formula c.args.b.now)) named (λ f is. inl is) _ _ _ c.cases_of.ensures.cause) c.from_residual.result _ (search rules)

pub compiling::compared_with-returns : goal.compiling::compared_with-returns
compiling::compared_with-returns t c =
    let first = c.in_ok-ys.ensures in
    compared_with_made c.args.scene.now c.args.at c.args.diagrams.now c.cases_of.new.diagrams c.pair_root-root.new.diagrams c.release_all.new.diagrams c.release_all.ensures.nodes c.in_ok-ys.ys.items c.deref.result.now c.deref.ensures.value c.release_all.ensures.released first.leaves.keeps
    (formula c.args.b.now) first.made c.args.c c.args.xs.now c.pair_root-root.result c.requires.kept c.pair_root-root.ensures

pub arithmetic::operated-release_all-requires : goal.arithmetic::operated-release_all-requires
arithmetic::operated-release_all-requires = numbers.arithmetic::operated-release_all-requires

pub arithmetic::operated-returns-in_err-xs : goal.arithmetic::operated-returns-in_err-xs
arithmetic::operated-returns-in_err-xs = numbers.arithmetic::operated-returns-in_err-xs

pub arithmetic::operated-returns : goal.arithmetic::operated-returns
arithmetic::operated-returns = numbers.arithmetic::operated-returns

pub arithmetic::operated_with-operation_cases-cases-requires-clause-span : goal.arithmetic::operated_with-operation_cases-cases-requires-clause-span
arithmetic::operated_with-operation_cases-cases-requires-clause-span = numbers.arithmetic::operated_with-operation_cases-cases-requires-clause-span

pub arithmetic::operated_with-operation_cases-cases-requires-clause-xs_kept : goal.arithmetic::operated_with-operation_cases-cases-requires-clause-xs_kept
arithmetic::operated_with-operation_cases-cases-requires-clause-xs_kept = numbers.arithmetic::operated_with-operation_cases-cases-requires-clause-xs_kept

pub arithmetic::operated_with-operation_cases-cases-requires-clause-ys_kept : goal.arithmetic::operated_with-operation_cases-cases-requires-clause-ys_kept
arithmetic::operated_with-operation_cases-cases-requires-clause-ys_kept = numbers.arithmetic::operated_with-operation_cases-cases-requires-clause-ys_kept

pub arithmetic::operated_with-release_all-requires : goal.arithmetic::operated_with-release_all-requires
arithmetic::operated_with-release_all-requires = numbers.arithmetic::operated_with-release_all-requires

pub arithmetic::operated_with-returns-in_err-ys : goal.arithmetic::operated_with-returns-in_err-ys
arithmetic::operated_with-returns-in_err-ys = numbers.arithmetic::operated_with-returns-in_err-ys

pub arithmetic::operated_with-returns : goal.arithmetic::operated_with-returns
arithmetic::operated_with-returns = numbers.arithmetic::operated_with-returns

pub arithmetic::remainders-remainder_cases-cases-requires-clause-span : goal.arithmetic::remainders-remainder_cases-cases-requires-clause-span
arithmetic::remainders-remainder_cases-cases-requires-clause-span = numbers.arithmetic::remainders-remainder_cases-cases-requires-clause-span

pub arithmetic::remainders-remainder_cases-cases-requires-clause-xs_kept : goal.arithmetic::remainders-remainder_cases-cases-requires-clause-xs_kept
arithmetic::remainders-remainder_cases-cases-requires-clause-xs_kept = numbers.arithmetic::remainders-remainder_cases-cases-requires-clause-xs_kept

pub arithmetic::remainders-release_all-requires : goal.arithmetic::remainders-release_all-requires
arithmetic::remainders-release_all-requires = numbers.arithmetic::remainders-release_all-requires

pub arithmetic::remainders-returns-in_err-xs : goal.arithmetic::remainders-returns-in_err-xs
arithmetic::remainders-returns-in_err-xs = numbers.arithmetic::remainders-returns-in_err-xs

pub arithmetic::remainders-returns : goal.arithmetic::remainders-returns
arithmetic::remainders-returns = numbers.arithmetic::remainders-returns

-- ---- one formula after the other

pub compiling::truth_cases-loop-e-init : goal.compiling::truth_cases-loop-e-init
compiling::truth_cases-loop-e-init = entries.compiling::truth_cases-loop-e-init

pub compiling::truth_cases-loop-e-preserved : goal.compiling::truth_cases-loop-e-preserved
compiling::truth_cases-loop-e-preserved = entries.compiling::truth_cases-loop-e-preserved

pub compiling::truth_cases-release_all-requires : goal.compiling::truth_cases-release_all-requires
compiling::truth_cases-release_all-requires = entries.compiling::truth_cases-release_all-requires

pub compiling::truth_cases-returns-in-Err : goal.compiling::truth_cases-returns-in-Err
compiling::truth_cases-returns-in-Err = entries.compiling::truth_cases-returns-in-Err

pub compiling::truth_cases-returns : goal.compiling::truth_cases-returns
compiling::truth_cases-returns = entries.compiling::truth_cases-returns

-- ---- entries of hidden tables

pub compiling::entry_root-returns-then-h-scene : goal.compiling::entry_root-returns-then-h-scene
compiling::entry_root-returns-then-h-scene = entries.compiling::entry_root-returns-then-h-scene

pub compiling::entry_root-returns-then-n-len : goal.compiling::entry_root-returns-then-n-len
compiling::entry_root-returns-then-n-len = entries.compiling::entry_root-returns-then-n-len

pub compiling::entry_root-truth_cases-requires : goal.compiling::entry_root-truth_cases-requires
compiling::entry_root-truth_cases-requires = entries.compiling::entry_root-truth_cases-requires

pub compiling::entry_root-table_root-root-requires-clause-known : goal.compiling::entry_root-table_root-root-requires-clause-known
compiling::entry_root-table_root-root-requires-clause-known = entries.compiling::entry_root-table_root-root-requires-clause-known

pub compiling::entry_root-table_root-root-requires-clause-levels : goal.compiling::entry_root-table_root-root-requires-clause-levels
compiling::entry_root-table_root-root-requires-clause-levels = entries.compiling::entry_root-table_root-root-requires-clause-levels

pub compiling::entry_root-table_root-root-requires-clause-whole : goal.compiling::entry_root-table_root-root-requires-clause-whole
compiling::entry_root-table_root-root-requires-clause-whole = entries.compiling::entry_root-table_root-root-requires-clause-whole

pub compiling::entry_root-table_root-root-requires-clause-counted : goal.compiling::entry_root-table_root-root-requires-clause-counted
compiling::entry_root-table_root-root-requires-clause-counted = entries.compiling::entry_root-table_root-root-requires-clause-counted

pub compiling::entry_root-table_root-root-requires-clause-kept : goal.compiling::entry_root-table_root-root-requires-clause-kept
compiling::entry_root-table_root-root-requires-clause-kept = entries.compiling::entry_root-table_root-root-requires-clause-kept

pub compiling::entry_root-release_all-requires : goal.compiling::entry_root-release_all-requires
compiling::entry_root-release_all-requires = entries.compiling::entry_root-release_all-requires

pub compiling::entry_root-returns-in_err-atoms : goal.compiling::entry_root-returns-in_err-atoms
compiling::entry_root-returns-in_err-atoms = entries.compiling::entry_root-returns-in_err-atoms

pub compiling::entry_root-returns : goal.compiling::entry_root-returns
compiling::entry_root-returns = entries.compiling::entry_root-returns

-- ---- calls after others

pub compiling::implied_root-or_truth-whole-requires : goal.compiling::implied_root-or_truth-whole-requires
compiling::implied_root-or_truth-whole-requires t c =
    let first = c.in_ok-root.ensures.made in
    let kept = is_root c.args.diagrams.now c.negated_root.new.diagrams c.in_ok-root.root _ first in
    let levels : level_count (codes_seen c.args.scene.now) ≤ c.negated_root.new.diagrams.state.table.levels = subst (λ (n : ℕ). level_count (codes_seen c.args.scene.now) ≤ n) (sym first.keeps.levels) c.requires.levels in
    search rules

pub compiling::equivalent_root-same_as_truth-whole-requires : goal.compiling::equivalent_root-same_as_truth-whole-requires
compiling::equivalent_root-same_as_truth-whole-requires t c =
    let first = c.in_ok-root.ensures.made in
    let kept = is_root c.args.diagrams.now c.truth_root.new.diagrams c.in_ok-root.root _ first in
    let levels : level_count (codes_seen c.args.scene.now) ≤ c.truth_root.new.diagrams.state.table.levels = subst (λ (n : ℕ). level_count (codes_seen c.args.scene.now) ≤ n) (sym first.keeps.levels) c.requires.levels in
    search rules

pub compiling::compared_by_cases-compared_with-root-requires : goal.compiling::compared_by_cases-compared_with-root-requires
compiling::compared_by_cases-compared_with-root-requires t c =
    let first = c.in_ok-xs.ensures in
    let kept = seen_kept c.args.diagrams.now c.cases_of.new.diagrams c.in_ok-xs.xs.items c.deref.result.now _ first.made first.leaves.keeps c.deref.ensures.value in
    let levels : level_count (codes_seen c.args.scene.now) ≤ c.cases_of.new.diagrams.state.table.levels = subst (λ (n : ℕ). level_count (codes_seen c.args.scene.now) ≤ n) (sym first.leaves.keeps.levels) c.requires.levels in
    search rules

pub arithmetic::operated-operated_with-cases-requires : goal.arithmetic::operated-operated_with-cases-requires
arithmetic::operated-operated_with-cases-requires = numbers.arithmetic::operated-operated_with-cases-requires

pub compiling::truth_cases-truth_root-requires : goal.compiling::truth_cases-truth_root-requires
compiling::truth_cases-truth_root-requires = entries.compiling::truth_cases-truth_root-requires

-- ---- cases of the expression

pub compiling::truth_root-returns-in-Const : goal.compiling::truth_root-returns-in-Const
compiling::truth_root-returns-in-Const = arms.compiling::truth_root-returns-in-Const

pub compiling::truth_root-returns-in-Add : goal.compiling::truth_root-returns-in-Add
compiling::truth_root-returns-in-Add = arms.compiling::truth_root-returns-in-Add

pub compiling::truth_root-returns-in-Sub : goal.compiling::truth_root-returns-in-Sub
compiling::truth_root-returns-in-Sub = arms.compiling::truth_root-returns-in-Sub

pub compiling::truth_root-returns-in-Mul : goal.compiling::truth_root-returns-in-Mul
compiling::truth_root-returns-in-Mul = arms.compiling::truth_root-returns-in-Mul

pub compiling::truth_root-returns-in-Mod : goal.compiling::truth_root-returns-in-Mod
compiling::truth_root-returns-in-Mod = arms.compiling::truth_root-returns-in-Mod

pub compiling::truth_root-returns-in-Past : goal.compiling::truth_root-returns-in-Past
compiling::truth_root-returns-in-Past = arms.compiling::truth_root-returns-in-Past

pub compiling::truth_root-returns-in-Var : goal.compiling::truth_root-returns-in-Var
compiling::truth_root-returns-in-Var = arms.compiling::truth_root-returns-in-Var

pub compiling::truth_root-returns-in-Next : goal.compiling::truth_root-returns-in-Next
compiling::truth_root-returns-in-Next = arms.compiling::truth_root-returns-in-Next

pub compiling::truth_root-returns-in-Not : goal.compiling::truth_root-returns-in-Not
compiling::truth_root-returns-in-Not = arms.compiling::truth_root-returns-in-Not

pub compiling::truth_root-returns-in-And : goal.compiling::truth_root-returns-in-And
compiling::truth_root-returns-in-And = arms.compiling::truth_root-returns-in-And

pub compiling::truth_root-returns-in-Or : goal.compiling::truth_root-returns-in-Or
compiling::truth_root-returns-in-Or = arms.compiling::truth_root-returns-in-Or

pub compiling::truth_root-returns-in-Implies : goal.compiling::truth_root-returns-in-Implies
compiling::truth_root-returns-in-Implies = arms.compiling::truth_root-returns-in-Implies

pub compiling::truth_root-returns-in-Iff : goal.compiling::truth_root-returns-in-Iff
compiling::truth_root-returns-in-Iff = arms.compiling::truth_root-returns-in-Iff

pub compiling::truth_root-returns-in-Cmp : goal.compiling::truth_root-returns-in-Cmp
compiling::truth_root-returns-in-Cmp = arms.compiling::truth_root-returns-in-Cmp

pub compiling::truth_root-returns-in-Table : goal.compiling::truth_root-returns-in-Table
compiling::truth_root-returns-in-Table = arms.compiling::truth_root-returns-in-Table

pub compiling::cases_of-returns-in-Const : goal.compiling::cases_of-returns-in-Const
compiling::cases_of-returns-in-Const = arms.compiling::cases_of-returns-in-Const

pub compiling::cases_of-returns-in-Var : goal.compiling::cases_of-returns-in-Var
compiling::cases_of-returns-in-Var = arms.compiling::cases_of-returns-in-Var

pub compiling::cases_of-returns-in-Next : goal.compiling::cases_of-returns-in-Next
compiling::cases_of-returns-in-Next = arms.compiling::cases_of-returns-in-Next

pub compiling::cases_of-returns-in-Add : goal.compiling::cases_of-returns-in-Add
compiling::cases_of-returns-in-Add = arms.compiling::cases_of-returns-in-Add

pub compiling::cases_of-returns-in-Sub : goal.compiling::cases_of-returns-in-Sub
compiling::cases_of-returns-in-Sub = arms.compiling::cases_of-returns-in-Sub

pub compiling::cases_of-returns-in-Mul : goal.compiling::cases_of-returns-in-Mul
compiling::cases_of-returns-in-Mul = arms.compiling::cases_of-returns-in-Mul

pub compiling::cases_of-returns-in-Mod : goal.compiling::cases_of-returns-in-Mod
compiling::cases_of-returns-in-Mod = arms.compiling::cases_of-returns-in-Mod

pub compiling::cases_of-returns-in-Not : goal.compiling::cases_of-returns-in-Not
compiling::cases_of-returns-in-Not = arms.compiling::cases_of-returns-in-Not

pub compiling::cases_of-returns-in-And : goal.compiling::cases_of-returns-in-And
compiling::cases_of-returns-in-And = arms.compiling::cases_of-returns-in-And

pub compiling::cases_of-returns-in-Or : goal.compiling::cases_of-returns-in-Or
compiling::cases_of-returns-in-Or = arms.compiling::cases_of-returns-in-Or

pub compiling::cases_of-returns-in-Implies : goal.compiling::cases_of-returns-in-Implies
compiling::cases_of-returns-in-Implies = arms.compiling::cases_of-returns-in-Implies

pub compiling::cases_of-returns-in-Iff : goal.compiling::cases_of-returns-in-Iff
compiling::cases_of-returns-in-Iff = arms.compiling::cases_of-returns-in-Iff

pub compiling::cases_of-returns-in-Cmp : goal.compiling::cases_of-returns-in-Cmp
compiling::cases_of-returns-in-Cmp = arms.compiling::cases_of-returns-in-Cmp

pub compiling::cases_of-returns-in-Past : goal.compiling::cases_of-returns-in-Past
compiling::cases_of-returns-in-Past = arms.compiling::cases_of-returns-in-Past

pub compiling::cases_of-returns-in-Table : goal.compiling::cases_of-returns-in-Table
compiling::cases_of-returns-in-Table = arms.compiling::cases_of-returns-in-Table
