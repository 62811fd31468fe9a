use Rattle.std.proofs.Common.{◌+◌, add-one, drop-cons, ◌≡◌, ◌++◌, List, [], ◌∷◌, map, drop, reverse, sym, ap, ◌∙◌, append-nil, arith}
use Rattle.std.proofs.lemmas.List.{drop_all}
use Rattle.std.proofs.lemmas.Result.{IfOk-weaker}
use Rattle.spectra_trees.specs.declared.tree.ExprTree.{ExprTree, size-ExprTree}
use Rattle.spectra_trees.specs.Data as written
use Rattle.spectra_trees.specs.Data.{expressions}
use Rattle.spectra_trees.specs.Views.{name_data, form_data, expr_data}
use Rattle.spectra_trees.proofs.Folded.{call_folded, and_folded, or_folded}
use Rattle.spectra_resolved.specs.Spots.{spot_at, spot_of, in_text, mentioned}
use Rattle.spectra_resolved.specs.Findings.{with_faults}
use Rattle.spectra_resolved.specs.Reports.{found_in}
use Rattle.spectra_resolved.specs.Resolved.{tree, Form, listed}
use Rattle.spectra_resolved.specs.Chained.{trees, chained}
use Rattle.spectra_resolved.specs.Views.{resolved_data, link_data}
use Rattle.spectra_resolved.specs.MentionViews.{mention_data}
use Rattle.spectra_resolved.specs.LookViews.{around_data, look_data}
use Rattle.spectra_resolved.specs.Resolving.{call_form, index_form, resolved, resolved_form, misuses, misuses_of_each}
use Rattle.spectra_resolved.specs.Misused.{own_misuse}
use Rattle.spectra_resolved.specs.ResolverViews.{resolved_by, resolved_each_by}
use Rattle.spectra_resolved.proofs.First.{found_later}
use Rattle.spectra_resolved.proofs.Steps.{chain_step, chain_found, first_smaller, each_step, each_found}
use Rattle.spectra_resolved.proofs.Trees.{trees-listed, call-misuses, index-misuses}
use Rattle.spectra_resolved.proofs.Quantified.{look_within}
use Rattle.spectra_resolved.proofs.resolving.+resolving.Goals as goal
use Rattle.spectra_resolved.proofs.resolving.+resolving.Goals.{inside-in-Some, inside-in-None}

pub node-returns-in_ok-arguments-in-Call-clause-tree : goal.node-returns-in_ok-arguments-in-Call-clause-tree
node-returns-in_ok-arguments-in-Call-clause-tree t c =
    let r = c.args.resolver.now in
    let look = look_data r.look in
    let e = c.args.e.now in
    let name = name_data c.in-Call.name in
    c.called.ensures.tree
    ∙ (λ i. tree (c.spot_at-first.ensures i) (in_text (spot_of r.file name)) (call_form (look name.text) (c.in_ok-arguments-in-Call.ensures.trees i)))
    ∙ ap (λ (es : List ExprTree). resolved_form look r.file (spot_at r.file e.first) (in_text (spot_at r.file e.at)) (written.Form.Call name (expressions (map expr_data es)))) c.deref.ensures.value
    ∙ sym (ap (resolved_form look r.file (spot_at r.file e.first) (in_text (spot_at r.file e.at))) (ap form_data c.in-Call.is ∙ call_folded c.in-Call.name c.in-Call.es))

pub node-returns-in_ok-arguments-in-Call-clause-found : goal.node-returns-in_ok-arguments-in-Call-clause-found
node-returns-in_ok-arguments-in-Call-clause-found t c =
    let r = c.args.resolver.now in
    let look = look_data r.look in
    let e = c.args.e.now in
    let name = name_data c.in-Call.name in
    let at = spot_of r.file name in
    let old = found_in c.args.findings.now in
    let all = resolved_each_by r (expressions (map expr_data c.deref.result.now)) in
    c.called.ensures.found
    ∙ (λ i. with_faults (c.in_ok-arguments-in-Call.ensures.found i) (own_misuse at (call_form (look name.text) (c.in_ok-arguments-in-Call.ensures.trees i))))
    ∙ sym (found_later old (own_misuse at (call_form (look name.text) all)) (misuses_of_each all))
    ∙ ap (with_faults old) (sym (call-misuses at (look name.text) all))
    ∙ ap (λ (es : List ExprTree). with_faults old (misuses (resolved_form look r.file (spot_at r.file e.first) (in_text (spot_at r.file e.at)) (written.Form.Call name (expressions (map expr_data es)))))) c.deref.ensures.value
    ∙ sym (ap (λ f. with_faults old (misuses (resolved_form look r.file (spot_at r.file e.first) (in_text (spot_at r.file e.at)) f))) (ap form_data c.in-Call.is ∙ call_folded c.in-Call.name c.in-Call.es))

pub trees-returns-clause-trees : goal.trees-returns-clause-trees
trees-returns-clause-trees t c =
    let r = c.args.resolver.now in
    let left : drop c.loop-e.e-index c.args.es.now ≡ [] = drop_all _ _ c.loop-e-test.false in
    let all = ap (λ es. map resolved_data c.loop-e.made.items ++ listed (resolved_each_by r (expressions (map expr_data es)))) (sym left) ∙ c.loop-e.invariant.same in
    ap trees (sym (append-nil (map resolved_data c.loop-e.made.items)) ∙ all) ∙ trees-listed (resolved_each_by r (expressions (map expr_data c.args.es.now)))

pub tree-chain-preserved : goal.tree-chain-preserved
tree-chain-preserved t c =
    let r = c.args.resolver.now in
    let head = c.chain.head.now in
    let word = c.in-Binary.word in
    let a = c.in-Binary.a in
    let b = c.in-Binary.b in
    let next = c.deref-head.ensures in
    let second = c.deref.ensures in
    let smaller = first_smaller head word a b c.in-Binary.is in
    record {
      same = ap (λ (e : ExprTree). chained (resolved_by r (expr_data e)) (map link_data (reverse c.push.new.self.items))) next
          ∙ chain_step r head word a b c.in-Binary.is c.chain.links.items c.push.new.self.items c.in_ok-link.field-0 (resolved_by r (expr_data c.args.e.now)) c.in_ok-push.ensures.items
          (c.in_ok-link.ensures.link ∙ ap (λ (e : ExprTree). record { first = spot_at r.file head.first; at = in_text (spot_at r.file head.at); word = word; second = resolved_by r (expr_data e) }) second)
          c.chain.invariant.same;
      found = (λ i. with_faults (c.in_ok-link.ensures.found i) (misuses (resolved_by r (expr_data (next i)))))
          ∙ ap (λ (e : ExprTree). with_faults (with_faults (found_in c.chain.findings) (misuses (resolved_by r (expr_data e)))) (misuses (resolved_by r (expr_data a.value)))) second
          ∙ chain_found r head word a b c.in-Binary.is (found_in c.chain.findings) _ c.chain.invariant.found;
      no_larger = let same = ap size-ExprTree next in let before = c.chain.invariant.no_larger in omega (arith, smaller, same, before);
    }

pub trees-loop-e-preserved : goal.trees-loop-e-preserved
trees-loop-e-preserved t c =
    let r = c.args.resolver.now in
    let es = c.args.es.now in
    let i = c.loop-e.e-index in
    let e = c.e-item.result in
    let rest : drop i es ≡ e ∷ drop (i + 1) es = drop-cons es i e c.loop-e-test.true ∙ (λ j. sym c.e-item.is j ∷ drop (sym (add-one i) j) es) in
    record {
      same = each_step r es i e rest c.loop-e.made.items c.push.new.self.items c.in_ok-tree.field-0 _ c.in_ok-push.ensures.items c.in_ok-tree.ensures.tree c.loop-e.invariant.same;
      found = ap (λ f. with_faults f (misuses_of_each (resolved_each_by r (expressions (map expr_data (drop (i + 1) es)))))) c.in_ok-tree.ensures.found
          ∙ each_found r es i e rest (found_in c.loop-e.findings) _ c.loop-e.invariant.found;
    }

pub index-returns-clause-tree : goal.index-returns-clause-tree
index-returns-clause-tree t c =
    let r = c.args.resolver.now in
    let name = name_data c.args.name.now in
    IfOk-weaker c.indexed.result _ _ (λ made is. is ∙ (λ i. tree c.args.first (in_text (spot_of r.file name)) (index_form (look_data r.look name.text) (c.in_ok-made.ensures.tree i)))) c.indexed.ensures.tree

-- what is found at the name comes behind what is found in the brackets
pub index-returns-clause-found : goal.index-returns-clause-found
index-returns-clause-found t c =
    let r = c.args.resolver.now in
    let name = name_data c.args.name.now in
    let named = look_data r.look name.text in
    let at = spot_of r.file name in
    let inside = resolved_by r (expr_data c.args.e.now) in
    let old = found_in c.args.findings.now in
    let all = (λ i. with_faults (c.in_ok-made.ensures.found i) (own_misuse at (index_form named (c.in_ok-made.ensures.tree i))))
    ∙ sym (found_later old (own_misuse at (index_form named inside)) (misuses inside))
    ∙ ap (with_faults old) (sym (index-misuses at named inside)) in
    IfOk-weaker c.indexed.result _ _ (λ made is. is ∙ all) c.indexed.ensures.found

pub inside-returns-clause-tree : goal.inside-returns-clause-tree
inside-returns-clause-tree t c =
    let r = c.args.resolver.now in
    let e = expr_data c.args.body.now in
    let around : around_data c.match-resolver.around ≡ around_data r.look.around = elim c.match-resolver.branch [
      | inside-in-Some w ↦ ap around_data w.around-is ∙ sym (ap around_data w.in-Some.is)
      | inside-in-None w ↦ ap around_data w.around-is ∙ sym (ap around_data w.in-None.is)
    ] in
    let more = ap (map mention_data) c.as_slice.ensures.value ∙ c.in_ok-variables.ensures in
    let seen = look_within r.look c.match-resolver.around c.as_slice.result (mentioned r.file (name_data c.args.name.now)) around more in
    IfOk-weaker c.tree.result _ _ (λ made is. is ∙ ap (λ look. resolved look r.file e) seen) c.tree.ensures.tree

pub inside-returns-clause-found : goal.inside-returns-clause-found
inside-returns-clause-found t c =
    let r = c.args.resolver.now in
    let e = expr_data c.args.body.now in
    let around : around_data c.match-resolver.around ≡ around_data r.look.around = elim c.match-resolver.branch [
      | inside-in-Some w ↦ ap around_data w.around-is ∙ sym (ap around_data w.in-Some.is)
      | inside-in-None w ↦ ap around_data w.around-is ∙ sym (ap around_data w.in-None.is)
    ] in
    let more = ap (map mention_data) c.as_slice.ensures.value ∙ c.in_ok-variables.ensures in
    let seen = look_within r.look c.match-resolver.around c.as_slice.result (mentioned r.file (name_data c.args.name.now)) around more in
    IfOk-weaker c.tree.result _ _ (λ made is. is ∙ ap (λ look. with_faults (found_in c.args.findings.now) (misuses (resolved look r.file e))) seen) c.tree.ensures.found

pub node-returns-in-And-clause-tree : goal.node-returns-in-And-clause-tree
node-returns-in-And-clause-tree t c =
    let r = c.args.resolver.now in
    let e = c.args.e.now in
    let all = (λ i. tree (c.spot_at-first.ensures i) (in_text (c.spot_at-at.ensures i))
    (Form.And (resolved_each_by r (expressions (map expr_data (c.deref-in-And.ensures.value i)))) (map (spot_at r.file) (c.deref-in-And-2.ensures.value i))))
    ∙ sym (ap (resolved_form (look_data r.look) r.file (spot_at r.file e.first) (in_text (spot_at r.file e.at))) (ap form_data c.in-And.is ∙ and_folded c.in-And.es c.in-And.ops)) in
    IfOk-weaker c.all_of.result _ _ (λ made is. is ∙ all) c.all_of.ensures.tree

pub node-returns-in-And-clause-found : goal.node-returns-in-And-clause-found
node-returns-in-And-clause-found t c =
    let r = c.args.resolver.now in
    let e = c.args.e.now in
    let old = found_in c.args.findings.now in
    let all = ap (λ (es : List ExprTree). with_faults old (misuses_of_each (resolved_each_by r (expressions (map expr_data es))))) c.deref-in-And.ensures.value
    ∙ sym (ap (λ f. with_faults old (misuses (resolved_form (look_data r.look) r.file (spot_at r.file e.first) (in_text (spot_at r.file e.at)) f))) (ap form_data c.in-And.is ∙ and_folded c.in-And.es c.in-And.ops)) in
    IfOk-weaker c.all_of.result _ _ (λ made is. is ∙ all) c.all_of.ensures.found

pub node-returns-in-Or-clause-tree : goal.node-returns-in-Or-clause-tree
node-returns-in-Or-clause-tree t c =
    let r = c.args.resolver.now in
    let e = c.args.e.now in
    let all = (λ i. tree (c.spot_at-first.ensures i) (in_text (c.spot_at-at.ensures i))
    (Form.Or (resolved_each_by r (expressions (map expr_data (c.deref-in-Or.ensures.value i)))) (map (spot_at r.file) (c.deref-in-Or-2.ensures.value i))))
    ∙ sym (ap (resolved_form (look_data r.look) r.file (spot_at r.file e.first) (in_text (spot_at r.file e.at))) (ap form_data c.in-Or.is ∙ or_folded c.in-Or.es c.in-Or.ops)) in
    IfOk-weaker c.any_of.result _ _ (λ made is. is ∙ all) c.any_of.ensures.tree

pub node-returns-in-Or-clause-found : goal.node-returns-in-Or-clause-found
node-returns-in-Or-clause-found t c =
    let r = c.args.resolver.now in
    let e = c.args.e.now in
    let old = found_in c.args.findings.now in
    let all = ap (λ (es : List ExprTree). with_faults old (misuses_of_each (resolved_each_by r (expressions (map expr_data es))))) c.deref-in-Or.ensures.value
    ∙ sym (ap (λ f. with_faults old (misuses (resolved_form (look_data r.look) r.file (spot_at r.file e.first) (in_text (spot_at r.file e.at)) f))) (ap form_data c.in-Or.is ∙ or_folded c.in-Or.es c.in-Or.ops)) in
    IfOk-weaker c.any_of.result _ _ (λ made is. is ∙ all) c.any_of.ensures.found
