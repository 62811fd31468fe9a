use Rattle.std.proofs.Common.{◌≡◌, true, false, ◌&&◌, nat_le, map, take, IfOk, sym, ap, subst, ◌∙◌, arith}
use Rattle.spectra_resolved.specs.Chained.{chained, trees}
use Rattle.spectra_resolved.specs.Views.{resolved_data, link_data}
use Rattle.spectra_resolved.proofs.Trees.{chain_data}
use Rattle.spectra_judge.specs.KindViews.{known_data}
use Rattle.spectra_cases.specs.Sizes.{link_side, together, measured, each_measured}
use Rattle.spectra_cases.specs.SizeViews.{side_data}
use Rattle.spectra_cases.proofs.Measured.{measured_more, measured_push, taken_push, in_all}
use Rattle.spectra_cases.proofs.sizes.+measuring.Goals as goal

pub measure-returns-in-Chain : goal.measure-returns-in-Chain
measure-returns-in-Chain t c =
    subst (λ x. IfOk c.measure_row.result (λ side. side_data side ≡ measured (known_data c.args.known.now) x c.args.under))
    ((λ i. chained (resolved_data (c.deref.ensures i)) (map link_data (c.deref-in-Chain.ensures.value i)))
    ∙ sym (ap resolved_data c.in-Chain.is ∙ chain_data c.in-Chain.head c.in-Chain.links))
    c.measure_row.ensures

pub measure_row-loop-link-preserved : goal.measure_row-loop-link-preserved
measure_row-loop-link-preserved t c =
    let ls = c.args.links.now in
    let n = c.loop-link.link-index in
    let l = c.link-item.result in
    let flag : (c.args.under && nat_le c.before_row-before.result c.loop-link.place) ≡ (c.args.under && nat_le c.before_row-before.result n) = ap (λ j. c.args.under && nat_le c.before_row-before.result j) c.loop-link.invariant.place in
    record {
      place = omega arith;
      side =
          c.link_side-side.ensures
          ∙ (λ i. link_side l.word (c.loop-link.invariant.side i)
          ((c.in_ok-second.ensures ∙ ap (measured (known_data c.args.known.now) (resolved_data l.second)) (c.is_in_row-inside.ensures ∙ flag)) i))
          ∙ sym (measured_more ls c.before_row-before.result c.before_row-before.ensures.row c.before_row-before.ensures.last n l c.loop-link-test.true c.link-item.is c.args.under (known_data c.args.known.now) (resolved_data c.args.head.now));
    }

pub measure_row-returns : goal.measure_row-returns
measure_row-returns t c =
    let ls = c.args.links.now in
    c.loop-link.invariant.side
    ∙ in_all ls c.loop-link.link-index c.before_row-before.result c.args.under (known_data c.args.known.now) (resolved_data c.args.head.now) c.before_row-before.ensures.within c.loop-link-test.false

pub size_of_each-loop-t-preserved : goal.size_of_each-loop-t-preserved
size_of_each-loop-t-preserved t c =
    let k = known_data c.args.known.now in
    let ts = c.args.ts.now in
    let n = c.loop-t.t-index in
    let x = c.t-item.result in
    c.together-all.ensures
    ∙ (λ i. together (c.loop-t.invariant i) (c.in_ok-size.ensures i))
    ∙ sym (ap (λ us. each_measured k (trees us)) (taken_push resolved_data ts n x c.loop-t-test.true c.t-item.is) ∙ measured_push k (map resolved_data (take n ts)) (resolved_data x))
