use Rattle.std.proofs.Common.{◌≡◌, ◌+◌, ◌++◌, [], ◌∷◌, Some, length, map, drop, get_or, sym, ap, ◌∙◌, append-nil, arith}
use Rattle.std.proofs.lemmas.List.{drop_all, length_push, map-append}
use Rattle.spectra_resolved.specs.Resolved.{listed}
use Rattle.spectra_resolved.specs.Chained.{trees, chained}
use Rattle.spectra_resolved.specs.Views.{resolved_data, link_data}
use Rattle.spectra_resolved.proofs.Trees.{chain_data, trees-listed}
use Rattle.spectra_judge.specs.Kinds.{Anything}
use Rattle.spectra_judge.specs.KindViews.{kind_data, setting_data}
use Rattle.spectra_judge.specs.Known.{wanted}
use Rattle.spectra_holes.specs.Holed.{part_holed, each_holed, arguments_holed}
use Rattle.spectra_holes.specs.HoleViews.{argument_holed, links_holed}
use Rattle.spectra_judge.specs.Chains.{opened}
use Rattle.spectra_holes.proofs.Holes.{chained_holed, argument_pushed}
use Rattle.spectra_holes.proofs.holing.+holing.Goals as goal

pub hole_each-returns : goal.hole_each-returns
hole_each-returns t c =
    let s = setting_data c.args.holing.now.setting in
    let o = c.args.around in
    let left : drop c.loop-t.t-index c.args.ts.now ≡ [] = drop_all _ _ c.loop-t-test.false in
    let all = ap (λ ts. map resolved_data c.loop-t.made.items ++ listed (each_holed s o (trees (map resolved_data ts)))) (sym left) ∙ c.loop-t.invariant in
    ap trees (sym (append-nil (map resolved_data c.loop-t.made.items)) ∙ all) ∙ trees-listed (each_holed s o (trees (map resolved_data c.args.ts.now)))

pub hole_arguments-loop-t-preserved : goal.hole_arguments-loop-t-preserved
hole_arguments-loop-t-preserved t c =
    let s = setting_data c.args.holing.now.setting in
    let o = c.args.around in
    let ts = c.args.ts.now in
    let k = c.loop-t.t-index in
    let e = c.t-item.result in
    let so_far = c.loop-t.made.items in
    let kinds = wanted s.known (Some c.args.predicate) in
    let place : c.len.result ≡ k = (let here = c.len.ensures in let size = c.loop-t.made.ok.0 in let so_far = c.loop-t.invariant.place in omega (arith, here, size, so_far)) in
    let parameter : kind_data c.wanted-parameter.result ≡ get_or kinds k Anything = c.wanted-parameter.ensures ∙ ap (λ p. get_or kinds p Anything) place in
    let one = c.in_ok-hole_argument.ensures ∙ ap (λ p. argument_holed s o p (resolved_data e)) parameter in
    let more = ap (map resolved_data) c.in_ok-push.ensures.items ∙ map-append resolved_data so_far (c.in_ok-hole_argument.field-0 ∷ []) ∙ (λ i. map resolved_data so_far ++ one i ∷ []) in
    record {
      place = ap length c.in_ok-push.ensures.items ∙ length_push so_far c.in_ok-hole_argument.field-0 ∙ ap (λ n. n + 1) c.loop-t.invariant.place;
      same =
          ap (λ xs. xs ++ listed (arguments_holed s o (drop (k + 1) kinds) (trees (map resolved_data (drop (k + 1) ts))))) more
          ∙ argument_pushed s o ts k e c.loop-t-test.true c.t-item.is kinds (map resolved_data so_far) c.loop-t.invariant.same;
    }

pub hole_arguments-returns : goal.hole_arguments-returns
hole_arguments-returns t c =
    let s = setting_data c.args.holing.now.setting in
    let o = c.args.around in
    let k = c.loop-t.t-index in
    let kinds = wanted s.known (Some c.args.predicate) in
    let left : drop k c.args.ts.now ≡ [] = drop_all _ _ c.loop-t-test.false in
    let all = ap (λ ts. map resolved_data c.loop-t.made.items ++ listed (arguments_holed s o (drop k kinds) (trees (map resolved_data ts)))) (sym left) ∙ c.loop-t.invariant.same in
    ap trees (sym (append-nil (map resolved_data c.loop-t.made.items)) ∙ all) ∙ trees-listed (arguments_holed s o kinds (trees (map resolved_data c.args.ts.now)))

pub hole_part-returns-in_ok-made-in-Chain : goal.hole_part-returns-in_ok-made-in-Chain
hole_part-returns-in_ok-made-in-Chain t c =
    let s = setting_data c.args.holing.now.setting in
    let o = c.args.around in
    let head = c.in-Chain.head in
    let links = c.in-Chain.links in
    let inner = c.at.ensures ∙ sym (c.opened_in-opened.ensures o 0) ∙ ap (λ xs. opened o (map link_data xs)) c.deref.ensures.value in
    let own = c.in_ok-own-in-Chain.ensures ∙ (λ i. part_holed s (inner i) (resolved_data (c.deref-in-Chain.ensures i))) in
    let made = c.in_ok-made-in-Chain.ensures ∙ ap (λ xs. links_holed s o (map link_data xs)) c.deref-in-Chain-2.ensures.value in
    chain_data c.in_ok-own-in-Chain.own c.in_ok-made-in-Chain.made
    ∙ (λ i. chained (own i) (made i))
    ∙ sym (chained_holed s o (resolved_data head.value) (map link_data links.items))
    ∙ ap (part_holed s o) (sym (ap resolved_data c.in-Chain.is ∙ chain_data head links))
