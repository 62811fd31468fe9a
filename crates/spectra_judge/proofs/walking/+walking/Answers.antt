use Rattle.std.proofs.Common.{◌≡◌, ◌+◌, ◌∷◌, ◌++◌, drop, map, get_or, sym, ap, ◌∙◌, arith}
use Rattle.std.proofs.Common.{w64}
use Rattle.std.proofs.lemmas.Int.{to_z-of_z}
use Rattle.spectra_resolved.specs.Chained.{chained}
use Rattle.spectra_resolved.specs.Views.{resolved_data, link_data}
use Rattle.spectra_resolved.specs.Findings.{with_faults}
use Rattle.spectra_resolved.specs.Reports.{found_in}
use Rattle.spectra_judge.specs.Kinds.{Anything, is_truth, can_equal}
use Rattle.spectra_judge.specs.KindViews.{kind_data, setting_data}
use Rattle.spectra_judge.specs.Operators.{is_past}
use Rattle.spectra_judge.specs.Known.{wanted}
use Rattle.spectra_judge.specs.Judged.{kind_of, wrong, first_of, binary_faults, remainder_faults, operator_faults, faults, operand_faults, argument_faults, copy_faults}
use Rattle.spectra_judge.specs.Chains.{opened, chain_kind, chain_faults}
use Rattle.spectra_resolved.proofs.First.{with_faults_append}
use Rattle.spectra_resolved.proofs.Trees.{chain_data}
use Rattle.spectra_judge.proofs.Chained.{chain_kind_is, chain_faults_is}
use Rattle.spectra_judge.proofs.Leftover.{from_place, operand_left, argument_left, copy_left, kind_left, link_left}
use Rattle.spectra_judge.proofs.walking.+walking.Goals as goal

pub walk_arguments-loop-t-preserved : goal.walk_arguments-loop-t-preserved
walk_arguments-loop-t-preserved t c =
    let s = setting_data c.args.setting.now in
    let o = c.args.around in
    let ts = c.args.ts.now in
    let k = c.loop-t.t-index in
    let e = c.t-item.result in
    let kinds = wanted s.known c.args.predicate in
    let parameter : kind_data c.wanted-parameter.result ≡ get_or kinds k Anything = c.wanted-parameter.ensures ∙ ap (λ p. get_or kinds p Anything) c.loop-t.invariant.place in
    record {
      place = omega arith;
      found =
          ap (λ f. with_faults f (argument_faults s o (drop (k + 1) kinds) (from_place ts (k + 1))))
          (c.walk_argument.ensures
          ∙ (λ i. with_faults (found_in c.loop-t.findings) (faults s o (resolved_data e) ++ wrong (can_equal (parameter i) (kind_of s.known (resolved_data e))) (first_of (resolved_data e)))))
          ∙ argument_left s o ts k e c.loop-t-test.true c.t-item.is (found_in c.loop-t.findings) kinds
          ∙ c.loop-t.invariant.found;
    }

pub walk_operands-loop-t-preserved : goal.walk_operands-loop-t-preserved
walk_operands-loop-t-preserved t c =
    let s = setting_data c.args.setting.now in
    let o = c.args.around in
    let ts = c.args.ts.now in
    let at = c.args.at in
    let operators = at ∷ c.args.operators.now in
    let k = c.loop-t.t-index in
    let e = c.t-item.result in
    let operator : c.operator_at-operator.result ≡ get_or operators k at = c.operator_at-operator.ensures ∙ ap (λ p. get_or operators p at) c.loop-t.invariant.place in
    record {
      place = omega arith;
      found =
          ap (λ f. with_faults f (operand_faults s o at (drop (k + 1) operators) (from_place ts (k + 1))))
          (c.walk_operand.ensures
          ∙ (λ i. with_faults (found_in c.loop-t.findings) (faults s o (resolved_data e) ++ wrong (is_truth (kind_of s.known (resolved_data e))) (operator i))))
          ∙ operand_left s o ts k e c.loop-t-test.true c.t-item.is (found_in c.loop-t.findings) at operators
          ∙ c.loop-t.invariant.found;
    }

pub walk_copies-loop-t-preserved : goal.walk_copies-loop-t-preserved
walk_copies-loop-t-preserved t c =
    let s = setting_data c.args.setting.now in
    let o = c.args.around in
    let ts = c.args.copies.now in
    let k = c.loop-t.t-index in
    ap (λ f. with_faults f (copy_faults s o (from_place ts (k + 1)))) c.walk_copy.ensures
    ∙ copy_left s o ts k c.t-item.result c.loop-t-test.true c.t-item.is (found_in c.loop-t.findings)
    ∙ c.loop-t.invariant

pub walk_chain-loop-link-init : goal.walk_chain-loop-link-init
walk_chain-loop-link-init t c =
    let s = setting_data c.args.setting.now in
    let o = c.args.around in
    let old = found_in c.args.findings.now in
    let head = resolved_data c.args.head.now in
    let links = map link_data c.args.links.now in
    let inner = c.at.ensures ∙ sym (c.opened_in-opened.ensures o 0) in
    let found = c.walk-kind.ensures.found ∙ (λ i. with_faults old (faults s (inner i) head)) in
    record {
      place = omega arith;
      kind = (λ i. chain_kind s.known (c.walk-kind.ensures.kind i) links) ∙ chain_kind_is s.known head links;
      found = (λ i. with_faults (found i) (chain_faults s o (c.walk-kind.ensures.kind i) links)) ∙ chain_faults_is s o old head links;
    }

pub walk_chain-loop-link-preserved : goal.walk_chain-loop-link-preserved
walk_chain-loop-link-preserved t c =
    let s = setting_data c.args.setting.now in
    let o = c.args.around in
    let ls = c.args.links.now in
    let k = c.loop-link.link-index in
    let l = c.link-item.result in
    let kind = kind_data c.loop-link.kind in
    let inner = c.at-inner.ensures ∙ sym (c.opened_in-opened.ensures o c.loop-link.place) ∙ ap (λ p. opened o (map link_data (drop p ls))) c.loop-link.invariant.place in
    record {
      place = omega arith;
      kind =
          ap (λ j. chain_kind s.known j (map link_data (drop (k + 1) ls))) c.walk_link-kind.ensures.kind
          ∙ kind_left ls k l c.loop-link-test.true c.link-item.is kind s.known
          ∙ c.loop-link.invariant.kind;
      found =
          (λ i. with_faults (c.walk_link-kind.ensures.found i) (chain_faults s o (c.walk_link-kind.ensures.kind i) (map link_data (drop (k + 1) ls))))
          ∙ link_left ls k l c.loop-link-test.true c.link-item.is kind s o (found_in c.loop-link.findings) c.at-inner.result inner
          ∙ c.loop-link.invariant.found;
    }

pub walk_link-returns-clause-found : goal.walk_link-returns-clause-found
walk_link-returns-clause-found t c =
    let s = setting_data c.args.setting.now in
    let l = c.args.link.now in
    let old = found_in c.args.findings.now in
    let inner = c.args.inner in
    let next = c.args.next in
    let kind = kind_data c.args.kind in
    let second = resolved_data l.second in
    let operator = operator_faults s (is_past l.word) next l.at in
    let own = binary_faults l.word kind (kind_of s.known second) l.at.spot in
    c.report_binary.ensures
    ∙ (λ i. with_faults (found_in c.walk-second.new.findings) (binary_faults l.word kind (c.walk-second.ensures.kind i) l.at.spot))
    ∙ ap (λ f. with_faults f own)
    (c.walk-second.ensures.found ∙ ap (λ f. with_faults f (faults s inner second)) (c.report_operator.ensures ∙ (λ i. with_faults old (operator_faults s (c.is_past.ensures i) next l.at))))
    ∙ sym (with_faults_append (with_faults old operator) (faults s inner second) own)
    ∙ sym (with_faults_append old operator (faults s inner second ++ own))

pub walk_remainder-returns-clause-found : goal.walk_remainder-returns-clause-found
walk_remainder-returns-clause-found t c =
    let s = setting_data c.args.setting.now in
    let e = resolved_data c.args.t.now in
    let old = found_in c.args.findings.now in
    let own = remainder_faults (kind_of s.known e) c.args.at.spot c.args.number_at c.args.n in
    c.report_remainder.ensures
    ∙ (λ i. with_faults (found_in c.walk-kind.new.findings) (remainder_faults (c.walk-kind.ensures.kind i) c.args.at.spot c.args.number_at (to_z-of_z w64 c.args.n c.ranges.n i)))
    ∙ ap (λ f. with_faults f own) c.walk-kind.ensures.found
    ∙ sym (with_faults_append old (faults s c.args.around e) own)

pub walk-returns-in-Chain-clause-kind : goal.walk-returns-in-Chain-clause-kind
walk-returns-in-Chain-clause-kind t c =
    let known = (setting_data c.args.setting.now).known in
    let head = c.in-Chain.head in
    let links = c.in-Chain.links in
    c.walk_chain.ensures.kind
    ∙ (λ i. kind_of known (chained (resolved_data (c.deref.ensures i)) (map link_data (c.deref-in-Chain.ensures.value i))))
    ∙ ap (kind_of known) (sym (ap resolved_data c.in-Chain.is ∙ chain_data head links))

pub walk-returns-in-Chain-clause-found : goal.walk-returns-in-Chain-clause-found
walk-returns-in-Chain-clause-found t c =
    let s = setting_data c.args.setting.now in
    let o = c.args.around in
    let old = found_in c.args.findings.now in
    let head = c.in-Chain.head in
    let links = c.in-Chain.links in
    c.walk_chain.ensures.found
    ∙ (λ i. with_faults old (faults s o (chained (resolved_data (c.deref.ensures i)) (map link_data (c.deref-in-Chain.ensures.value i)))))
    ∙ ap (λ e. with_faults old (faults s o e)) (sym (ap resolved_data c.in-Chain.is ∙ chain_data head links))
