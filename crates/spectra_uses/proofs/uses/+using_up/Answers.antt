use Rattle.std.proofs.Common.{◌≡◌, ◌+◌, ◌++◌, map, drop, OnOk, sym, ap, subst, ◌∙◌}
use Rattle.spectra_resolved.specs.Chained.{chained, trees}
use Rattle.spectra_resolved.specs.Views.{resolved_data, link_data}
use Rattle.spectra_resolved.proofs.Trees.{chain_data}
use Rattle.spectra_uses.specs.Uses.{uses_in, each_uses}
use Rattle.spectra_uses.specs.Links.{link_uses}
use Rattle.spectra_uses.proofs.Used.{each_left, link_left}
use Rattle.spectra_uses.proofs.uses.+using_up.Goals as goal

pub add-returns-in-Chain : goal.add-returns-in-Chain
add-returns-in-Chain t c =
    subst (λ x. OnOk c.add_chain.result (c.add_chain.new.uses.items ≡ c.args.uses.now.items ++ uses_in x))
    ((λ i. chained (resolved_data (c.deref.ensures i)) (map link_data (c.deref-in-Chain.ensures.value i)))
    ∙ sym (ap resolved_data c.in-Chain.is ∙ chain_data c.in-Chain.head c.in-Chain.links))
    c.add_chain.ensures

pub add_each-loop-t-preserved : goal.add_each-loop-t-preserved
add_each-loop-t-preserved t c =
    let ts = c.args.ts.now in
    let k = c.loop-t.t-index in
    ap (λ us. us ++ each_uses (trees (map resolved_data (drop (k + 1) ts)))) c.in_ok-add.ensures
    ∙ each_left c.loop-t.uses.items ts k c.t-item.result c.loop-t-test.true c.t-item.is
    ∙ c.loop-t.invariant

pub add_links-loop-link-preserved : goal.add_links-loop-link-preserved
add_links-loop-link-preserved t c =
    let ls = c.args.links.now in
    let k = c.loop-link.link-index in
    ap (λ us. us ++ link_uses (map link_data (drop (k + 1) ls))) c.in_ok-add.ensures
    ∙ link_left c.loop-link.uses.items ls k c.link-item.result c.loop-link-test.true c.link-item.is
    ∙ c.loop-link.invariant
