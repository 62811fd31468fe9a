use Rattle.std.proofs.Common.{◌+◌, drop, map, sym, ap, ◌∙◌}
use Rattle.spectra_resolved.specs.Chained.{chained}
use Rattle.spectra_resolved.specs.Views.{resolved_data, link_data}
use Rattle.spectra_resolved.proofs.Trees.{chain_data}
use Rattle.spectra_judge.specs.KindViews.{kind_data, known_data}
use Rattle.spectra_judge.specs.Operators.{gives}
use Rattle.spectra_judge.specs.Judged.{kind_of}
use Rattle.spectra_judge.specs.Chains.{chain_kind}
use Rattle.spectra_judge.proofs.Chained.{chain_kind_is}
use Rattle.spectra_judge.proofs.Leftover.{kind_left}
use Rattle.spectra_judge.proofs.kinding.+kinding.Goals as goal

pub links_kind-loop-link-preserved : goal.links_kind-loop-link-preserved
links_kind-loop-link-preserved t c =
    let known = known_data c.args.known.now in
    let ls = c.args.links.now in
    let k = c.loop-link.link-index in
    let l = c.link-item.result in
    let kind = kind_data c.loop-link.kind in
    ap (λ j. chain_kind known j (map link_data (drop (k + 1) ls))) (c.gives-kind.ensures ∙ ap (gives l.word kind) c.kind_of-second.ensures)
    ∙ kind_left ls k l c.loop-link-test.true c.link-item.is kind known
    ∙ c.loop-link.invariant

pub chain_kind-returns : goal.chain_kind-returns
chain_kind-returns t c =
    let known = known_data c.args.known.now in
    let links = map link_data c.args.links.now in
    c.links_kind.ensures ∙ ap (λ first. chain_kind known first links) c.kind_of-first.ensures ∙ chain_kind_is known (resolved_data c.args.head.now) links

pub kind_of-returns-in-Chain : goal.kind_of-returns-in-Chain
kind_of-returns-in-Chain t c =
    c.chain_kind.ensures
    ∙ ap (kind_of (known_data c.args.known.now))
    ((λ i. chained (resolved_data (c.deref.ensures i)) (map link_data (c.deref-in-Chain.ensures.value i))) ∙ sym (ap resolved_data c.in-Chain.is ∙ chain_data c.in-Chain.head c.in-Chain.links))
