use Rattle.std.proofs.Common.{◌≡◌, ◌+◌, List, [], ◌∷◌, ◌++◌, ◌-◌, map, None, Ok, Err, sym, ap, subst, ◌∙◌, append-nil, arith, w64, to_z, of_z}
use Rattle.std.specs.Prelude.{◌≤◌, ℤ, pos, ◌+ℤ◌, int_le, false}
use Rattle.std.proofs.lemmas.Int.{ints, to_z-of_z}
use Rattle.spectra_resolved.specs.Resolved.{ResolvedTrees, tree, Form, listed}
use Rattle.spectra_resolved.specs.Chained.{chained, trees}
use Rattle.spectra_resolved.specs.Views.{resolved_data, link_data, form_data}
use Rattle.spectra_resolved.proofs.Trees.{trees-listed, chain_data}
use Rattle.spectra_copies.specs.declared.refusal.Refusal.TheVariants.{Memory}
use Rattle.spectra_copies.specs.Links.{link_nodes, placed_link}
use Rattle.spectra_copies.specs.Nodes.{tree_nodes, form_nodes, each_nodes}
use Rattle.spectra_copies.specs.Operands.{several_of}
use Rattle.spectra_copies.specs.Making.{Makes, MakesEach, MakesLinks}
use Rattle.spectra_copies.specs.PartViews.{quantifier_data}
use Rattle.spectra_copies.specs.Numbers.{number_in}
use Rattle.spectra_copies.specs.Ranges.{Bound, Range, range_of, numbers_between}
use Rattle.spectra_copies.specs.Copies.{bound_with, extent_of, copies_for, copies_of, written, form_out, each_out}
use Rattle.spectra_copies.specs.QuantifiedLinks.{link_out, links_out}
use Rattle.spectra_copies.proofs.Folded.{predicate_data, misuse_data}
use Rattle.spectra_copies.proofs.Over.{is_one}
use Rattle.spectra_copies.proofs.Chained.{tree_nodes-chained, chained_out}
use Rattle.spectra_copies.proofs.Copied.{copy_nodes, copy_pushed, no_copies}
use Rattle.spectra_copies.proofs.Written.{each_written, one_written, several_written}
use Rattle.spectra_copies.proofs.Made.{no_room, same, tree_is, small, nodes_are, large, stop, each_are, each_count, small_each, made_each, large_each, stop_each, links_are, links_count, small_links, large_links, stop_links, link_nodes_left, link_pushed, all_links, no_link_nodes, each_nodes_left, tree_pushed, all_trees, no_each_nodes, one_made, one_stops, several_made, several_stops}
use Rattle.spectra_copies.proofs.writing.+writing.Goals as goal
use Rattle.spectra_copies.proofs.writing.+writing.Goals.{write_between-else-loop-number-test, write_between-then-loop-number-test+in_ok-left+else-number-high}

pub write-returns-in-Chain-clause-made : goal.write-returns-in-Chain-clause-made
write-returns-in-Chain-clause-made t c =
    same c.args.room _ _ c.write_chain.result
    (ap (written c.args.by.now.numbers.now c.args.bounds.now.items)
    ((λ i. chained (resolved_data (c.deref.ensures i)) (map link_data (c.deref-in-Chain.ensures.value i))) ∙ sym (ap resolved_data c.in-Chain.is ∙ chain_data c.in-Chain.head c.in-Chain.links)))
    c.write_chain.ensures.made

-- ---- a chain

pub write_chain-returns-in_err-own-clause-made : goal.write_chain-returns-in_err-own-clause-made
write_chain-returns-in_err-own-clause-made t c =
    let n = c.args.by.now.numbers.now in let q = c.args.bounds.now.items in let head = resolved_data c.args.head.now in let ls = map link_data c.args.links.now in let halt = c.in_err-own.field-0.0 in
    let all = ap tree_nodes (chained_out n q head ls) ∙ tree_nodes-chained (written n q head) (links_out n q ls) in
    stop c.args.room (written n q (chained head ls)) halt c.from_residual.result c.from_residual.ensures.1
    (λ e. let few = large c.args.room (written n q head) halt c.in_err-own.ensures.made e in omega (arith, few, all))

pub write_chain-overflow_sub-left : goal.write_chain-overflow_sub-left
write_chain-overflow_sub-left t c = small c.args.room (written c.args.by.now.numbers.now c.args.bounds.now.items (resolved_data c.args.head.now)) c.in_ok-own.own c.in_ok-own.ensures.made

pub write_chain-returns-in-Err-clause-made : goal.write_chain-returns-in-Err-clause-made
write_chain-returns-in-Err-clause-made t c =
    let n = c.args.by.now.numbers.now in let q = c.args.bounds.now.items in let head = resolved_data c.args.head.now in let ls = map link_data c.args.links.now in let own = c.in_ok-own.own in
    let low = small c.args.room (written n q head) own c.in_ok-own.ensures.made in let nodes = nodes_are c.args.room (written n q head) own c.in_ok-own.ensures.made in
    let rest = subst (λ xs. MakesLinks (c.args.room - own.nodes) (links_out n xs ls) c.new-all.result.items c.write_links.new.all.items (Err c.in-Err.halt)) c.in_ok-own.ensures.bounds c.in-Err.ensures.made in
    let all = ap tree_nodes (chained_out n q head ls) ∙ tree_nodes-chained (written n q head) (links_out n q ls) in
    stop c.args.room (written n q (chained head ls)) c.in-Err.halt c.stop_chain.result c.stop_chain.ensures
    (λ e. let few = large_links (c.args.room - own.nodes) (links_out n q ls) _ _ c.in-Err.halt rest e in omega (arith, few, all, low, nodes))

pub write_chain-chain_of-requires : goal.write_chain-chain_of-requires
write_chain-chain_of-requires t c =
    let n = c.args.by.now.numbers.now in let q = c.args.bounds.now.items in let head = resolved_data c.args.head.now in let ls = map link_data c.args.links.now in let own = c.in_ok-own.own in
    let low = small c.args.room (written n q head) own c.in_ok-own.ensures.made in
    let rest = subst (λ xs. MakesLinks (c.args.room - own.nodes) (links_out n xs ls) c.new-all.result.items c.write_links.new.all.items (Ok c.in-Ok.nodes)) c.in_ok-own.ensures.bounds c.in-Ok.ensures.made in
    let few = small_links (c.args.room - own.nodes) (links_out n q ls) _ _ c.in-Ok.nodes rest in let count = links_count (c.args.room - own.nodes) (links_out n q ls) _ _ c.in-Ok.nodes rest in
    let are = links_are (c.args.room - own.nodes) (links_out n q ls) _ _ c.in-Ok.nodes rest ∙ ap (λ xs. map link_data xs ++ links_out n q ls) c.new-all.ensures.items in
    record { counted = count ∙ ap link_nodes (sym are); fits = omega (arith, low, few) }

pub write_chain-returns-in-Ok-clause-made : goal.write_chain-returns-in-Ok-clause-made
write_chain-returns-in-Ok-clause-made t c =
    let n = c.args.by.now.numbers.now in let q = c.args.bounds.now.items in let head = resolved_data c.args.head.now in let ls = map link_data c.args.links.now in let own = c.in_ok-own.own in
    let first = tree_is c.args.room (written n q head) own c.in_ok-own.ensures.made in
    let made = subst (λ xs. MakesLinks (c.args.room - own.nodes) (links_out n xs ls) c.new-all.result.items c.write_links.new.all.items (Ok c.in-Ok.nodes)) c.in_ok-own.ensures.bounds c.in-Ok.ensures.made in
    let rest = links_are (c.args.room - own.nodes) (links_out n q ls) _ _ c.in-Ok.nodes made ∙ ap (λ xs. map link_data xs ++ links_out n q ls) c.new-all.ensures.items in
    same c.args.room _ _ c.chain_of.result ((λ j. chained (first j) (rest j)) ∙ sym (chained_out n q head ls)) c.chain_of.ensures.made

-- ---- operators

pub write_links-loop-link-preserved : goal.write_links-loop-link-preserved
write_links-loop-link-preserved t c =
    let n = c.args.by.now.numbers.now in let q = c.args.bounds.now.items in let ls = c.args.links.now in let l = c.link-item.result in let k = c.loop-link.link-index in let below = c.loop-link-test.true in let before = c.loop-link.invariant in let left = c.loop-link.left in
    let at = written n q (resolved_data l.second) in let second = c.in_ok-second.second in let made = subst (λ xs. Makes left (written n xs (resolved_data l.second)) (Ok second)) before.bounds c.in_ok-second.ensures.made in
    let own : placed_link None (link_data l) (resolved_data second.tree.value) ≡ link_out n q (link_data l) = (λ j. placed_link None (link_data l) (tree_is left at second made j)) in let nodes = nodes_are left at second made in
    let more = link_nodes_left (link_out n q) ls k l below c.link-item.is in let taken = c.in_ok-left.ensures.left in
    record {
      bounds = c.in_ok-second.ensures.bounds ∙ before.bounds;
      same = link_pushed (link_out n q) ls k l below c.link-item.is (map link_data c.loop-link.all.items) _ (map link_data c.args.all.now.items ++ links_out n q (map link_data ls)) _ own c.in_ok-left.ensures.added before.same;
      small = let low = before.small in omega (arith, low, taken);
      room = let count = before.room in omega (arith, count, taken, nodes, more);
    }

pub write_links-returns-in_err-second-clause-made : goal.write_links-returns-in_err-second-clause-made
write_links-returns-in_err-second-clause-made t c =
    let n = c.args.by.now.numbers.now in let q = c.args.bounds.now.items in let ls = c.args.links.now in let l = c.link-item.result in let k = c.loop-link.link-index in let below = c.loop-link-test.true in let before = c.loop-link.invariant in let left = c.loop-link.left in
    let at = written n q (resolved_data l.second) in let halt = c.in_err-second.field-0.0 in let count = before.room in let more = link_nodes_left (link_out n q) ls k l below c.link-item.is in
    let made = subst (λ xs. Makes left (written n xs (resolved_data l.second)) (Err c.in_err-second.field-0.0)) before.bounds c.in_err-second.ensures.made in
    stop_links c.args.room (links_out n q (map link_data ls)) _ _ halt c.from_residual.result c.from_residual.ensures.1
    (λ e. let few = large left at halt made e in omega (arith, few, count, more))

pub write_links-returns-in_err-left-clause-made : goal.write_links-returns-in_err-left-clause-made
write_links-returns-in_err-left-clause-made t c =
    let n = c.args.by.now.numbers.now in let q = c.args.bounds.now.items in let ls = c.args.links.now in let l = c.link-item.result in let k = c.loop-link.link-index in let below = c.loop-link-test.true in let before = c.loop-link.invariant in let left = c.loop-link.left in
    let at = written n q (resolved_data l.second) in let second = c.in_ok-second.second in let made = subst (λ xs. Makes left (written n xs (resolved_data l.second)) (Ok second)) before.bounds c.in_ok-second.ensures.made in
    let halt = c.in_err-left.field-0.0 in let count = before.room in let nodes = nodes_are left at second made in let more = link_nodes_left (link_out n q) ls k l below c.link-item.is in
    stop_links c.args.room (links_out n q (map link_data ls)) _ _ halt c.from_residual-in_err-left.result c.from_residual-in_err-left.ensures.1
    (λ e. let few = c.in_err-left.ensures.left e in omega (arith, few, count, more, nodes))

pub write_links-returns-clause-made : goal.write_links-returns-clause-made
unfolding MakesLinks
write_links-returns-clause-made t c =
    let n = c.args.by.now.numbers.now in let q = c.args.bounds.now.items in
    let ls = c.args.links.now in let k = c.loop-link.link-index in let end = c.loop-link-test.false in let before = c.loop-link.invariant in let count = before.room in let low = before.small in let none = no_link_nodes (link_out n q) ls k end in
    (all_links (link_out n q) ls k end (map link_data c.loop-link.all.items) _ before.same, (omega (arith, count, low, none), omega arith))

-- ---- operands

pub write_each-loop-t-preserved : goal.write_each-loop-t-preserved
write_each-loop-t-preserved t c =
    let n = c.args.by.now.numbers.now in let q = c.args.bounds.now.items in let ts = c.args.ts.now in let e = c.t-item.result in let k = c.loop-t.t-index in let below = c.loop-t-test.true in let before = c.loop-t.invariant in let left = c.loop-t.left in let at = written n q (resolved_data e) in
    let operand = c.in_ok-made.made in let made = subst (λ xs. Makes left (written n xs (resolved_data e)) (Ok operand)) before.bounds c.in_ok-made.ensures.made in let own = tree_is left at operand made in let nodes = nodes_are left at operand made in
    let fits = small left at operand made in let more = each_nodes_left (written n q) (each_out n q) (each_written n q) ts k e below c.t-item.is in
    record {
      bounds = c.in_ok-made.ensures.bounds ∙ before.bounds;
      same =
          tree_pushed (written n q) (each_out n q) (each_written n q) ts k e below c.t-item.is (map resolved_data c.loop-t.all.items) _ (map resolved_data c.args.all.now.items ++ listed (each_out n q (trees (map resolved_data ts)))) _ own c.in_ok-add_tree.ensures before.same;
      small = let low = before.small in omega (arith, low);
      room = let count = before.room in omega (arith, count, nodes, more, fits);
    }

pub write_each-overflow_sub-left : goal.write_each-overflow_sub-left
write_each-overflow_sub-left t c =
    let n = c.args.by.now.numbers.now in let q = c.args.bounds.now.items in let e = c.t-item.result in let left = c.loop-t.left in
    let operand = c.in_ok-made.made in let made = subst (λ xs. Makes left (written n xs (resolved_data e)) (Ok operand)) c.loop-t.invariant.bounds c.in_ok-made.ensures.made in
    small left (written n q (resolved_data e)) operand made

pub write_each-returns-in_err-made-clause-made : goal.write_each-returns-in_err-made-clause-made
write_each-returns-in_err-made-clause-made t c =
    let n = c.args.by.now.numbers.now in let q = c.args.bounds.now.items in let ts = c.args.ts.now in let e = c.t-item.result in let k = c.loop-t.t-index in let below = c.loop-t-test.true in let before = c.loop-t.invariant in let left = c.loop-t.left in let at = written n q (resolved_data e) in
    let halt = c.in_err-made.field-0.0 in let count = before.room in let more = each_nodes_left (written n q) (each_out n q) (each_written n q) ts k e below c.t-item.is in
    let made = subst (λ xs. Makes left (written n xs (resolved_data e)) (Err c.in_err-made.field-0.0)) before.bounds c.in_err-made.ensures.made in
    stop_each c.args.room (each_out n q (trees (map resolved_data ts))) _ _ halt c.from_residual.result c.from_residual.ensures.1
    (λ is. let few = large left at halt made is in omega (arith, few, count, more))

pub write_each-returns-in_err-add_tree-clause-made : goal.write_each-returns-in_err-add_tree-clause-made
write_each-returns-in_err-add_tree-clause-made t c =
    let n = c.args.by.now.numbers.now in let q = c.args.bounds.now.items in
    stop_each c.args.room (each_out n q (trees (map resolved_data c.args.ts.now))) _ _ Memory c.from_residual-in_err-add_tree.result c.from_residual-in_err-add_tree.ensures.1 no_room

pub write_each-returns-clause-made : goal.write_each-returns-clause-made
unfolding MakesEach
write_each-returns-clause-made t c =
    let n = c.args.by.now.numbers.now in let q = c.args.bounds.now.items in
    let ts = c.args.ts.now in let k = c.loop-t.t-index in let end = c.loop-t-test.false in let before = c.loop-t.invariant in let count = before.room in let low = before.small in let none = no_each_nodes (written n q) (each_out n q) (each_written n q) ts k end in
    (all_trees (written n q) (each_out n q) (each_written n q) ts k end (map resolved_data c.loop-t.all.items) _ before.same, (omega (arith, count, low, none), omega arith))

-- ---- an operator

pub write_one-returns-in_err-operand-clause-made : goal.write_one-returns-in_err-operand-clause-made
write_one-returns-in_err-operand-clause-made t c =
    let n = c.args.by.now.numbers.now in let q = c.args.bounds.now.items in let form = form_data c.args.shape.now in let x = resolved_data c.args.t.now in
    one_stops c.args.room None c.args.first c.args.at form (tree c.args.first c.args.at (form_out n q form)) c.from_residual.result (written n q x) (is_one form x c.requires) (ap (tree c.args.first c.args.at) (one_written n q form x c.requires))
    c.in_err-operand.field-0.0 c.in_err-operand.ensures.made c.from_residual.ensures.1

pub write_one-one_above-requires : goal.write_one-one_above-requires
write_one-one_above-requires t c = is_one (form_data c.args.shape.now) (resolved_data c.args.t.now) c.requires

pub write_one-returns-clause-made : goal.write_one-returns-clause-made
write_one-returns-clause-made t c =
    let n = c.args.by.now.numbers.now in let q = c.args.bounds.now.items in let form = form_data c.args.shape.now in let x = resolved_data c.args.t.now in
    one_made c.args.room None c.args.first c.args.at form (tree c.args.first c.args.at (form_out n q form)) c.one_above.result (written n q x) (is_one form x c.requires) (ap (tree c.args.first c.args.at) (one_written n q form x c.requires))
    c.in_ok-operand.operand c.in_ok-operand.ensures.made c.one_above.ensures.made

pub write_several-returns-in-Err-clause-made : goal.write_several-returns-in-Err-clause-made
write_several-returns-in-Err-clause-made t c =
    let n = c.args.by.now.numbers.now in let q = c.args.bounds.now.items in let form = form_data c.args.shape.now in
    several_stops c.args.room None c.args.first c.args.at form (tree c.args.first c.args.at (form_out n q form)) c.stop_operands.result (each_out n q (several_of form)) c.requires.several (ap (tree c.args.first c.args.at) (several_written n q form c.requires.several)) _ _ c.in-Err.halt
    (subst (λ ts. MakesEach c.args.room (each_out n q ts) c.new-all.result.items c.write_each.new.all.items (Err c.in-Err.halt)) c.requires.operands c.in-Err.ensures.made) c.stop_operands.ensures

pub write_several-each_above-requires : goal.write_several-each_above-requires
write_several-each_above-requires t c =
    let xs = each_out c.args.by.now.numbers.now c.args.bounds.now.items (trees (map resolved_data c.args.ts.now)) in
    record { several = c.requires.several; counted = each_count c.args.room xs _ _ c.in-Ok.nodes c.in-Ok.ensures.made ∙ ap each_nodes (sym (ap trees (each_are c.args.room xs _ _ c.in-Ok.nodes c.in-Ok.ensures.made ∙ ap (λ us. map resolved_data us ++ listed xs) c.new-all.ensures.items) ∙ trees-listed xs)) }

pub write_several-returns-in-Ok-clause-made : goal.write_several-returns-in-Ok-clause-made
write_several-returns-in-Ok-clause-made t c =
    let n = c.args.by.now.numbers.now in let q = c.args.bounds.now.items in let form = form_data c.args.shape.now in
    let xs = each_out n q (trees (map resolved_data c.args.ts.now)) in
    let own = ap trees (each_are c.args.room xs _ _ c.in-Ok.nodes c.in-Ok.ensures.made ∙ ap (λ us. map resolved_data us ++ listed xs) c.new-all.ensures.items) ∙ trees-listed xs in
    several_made c.args.room None c.args.first c.args.at form (tree c.args.first c.args.at (form_out n q form)) c.each_above.result (each_out n q (several_of form)) c.requires.several (ap (tree c.args.first c.args.at) (several_written n q form c.requires.several))
    (trees (map resolved_data c.write_each.new.all.items)) (own ∙ ap (each_out n q) c.requires.operands) c.each_above.ensures.made

-- ---- uses and misuses

pub write_predicate-returns-in-Err-clause-made : goal.write_predicate-returns-in-Err-clause-made
write_predicate-returns-in-Err-clause-made t c =
    let xs = each_out c.args.by.now.numbers.now c.args.bounds.now.items (trees (map resolved_data c.args.ts.now)) in
    stop c.args.room (tree c.args.first c.args.at (Form.PredicateOf c.args.number xs)) c.in-Err.halt c.stop_operands.result c.stop_operands.ensures
    (λ e. let few = large_each c.args.room xs _ _ c.in-Err.halt c.in-Err.ensures.made e in omega (arith, few))

pub write_predicate-node-requires : goal.write_predicate-node-requires
write_predicate-node-requires t c =
    let xs = each_out c.args.by.now.numbers.now c.args.bounds.now.items (trees (map resolved_data c.args.ts.now)) in
    let own = ap trees (each_are c.args.room xs _ _ c.in-Ok.nodes c.in-Ok.ensures.made ∙ ap (λ us. map resolved_data us ++ listed xs) c.new-all.ensures.items) ∙ trees-listed xs in
    ap form_nodes (predicate_data c.args.number c.write_each.new.all) ∙ ap (λ us. 1 + each_nodes us) own ∙ ap (λ n. 1 + n) (sym (each_count c.args.room xs _ _ c.in-Ok.nodes c.in-Ok.ensures.made))

pub write_predicate-returns-in-Ok-clause-made : goal.write_predicate-returns-in-Ok-clause-made
write_predicate-returns-in-Ok-clause-made t c =
    let xs = each_out c.args.by.now.numbers.now c.args.bounds.now.items (trees (map resolved_data c.args.ts.now)) in
    let own = ap trees (each_are c.args.room xs _ _ c.in-Ok.nodes c.in-Ok.ensures.made ∙ ap (λ us. map resolved_data us ++ listed xs) c.new-all.ensures.items) ∙ trees-listed xs in
    same c.args.room _ _ c.node.result (ap (tree c.args.first c.args.at) (predicate_data c.args.number c.write_each.new.all ∙ ap (Form.PredicateOf c.args.number) own)) c.node.ensures.made

pub write_misuse-returns-in-Err-clause-made : goal.write_misuse-returns-in-Err-clause-made
write_misuse-returns-in-Err-clause-made t c =
    let xs = each_out c.args.by.now.numbers.now c.args.bounds.now.items (trees (map resolved_data c.args.ts.now)) in
    stop c.args.room (tree c.args.first c.args.at (Form.MisuseOf c.args.misuse xs)) c.in-Err.halt c.stop_operands.result c.stop_operands.ensures
    (λ e. let few = large_each c.args.room xs _ _ c.in-Err.halt c.in-Err.ensures.made e in omega (arith, few))

pub write_misuse-node-requires : goal.write_misuse-node-requires
write_misuse-node-requires t c =
    let xs = each_out c.args.by.now.numbers.now c.args.bounds.now.items (trees (map resolved_data c.args.ts.now)) in
    let own = ap trees (each_are c.args.room xs _ _ c.in-Ok.nodes c.in-Ok.ensures.made ∙ ap (λ us. map resolved_data us ++ listed xs) c.new-all.ensures.items) ∙ trees-listed xs in
    ap form_nodes (misuse_data c.args.misuse c.write_each.new.all) ∙ ap (λ us. 1 + each_nodes us) own ∙ ap (λ n. 1 + n) (sym (each_count c.args.room xs _ _ c.in-Ok.nodes c.in-Ok.ensures.made))

pub write_misuse-returns-in-Ok-clause-made : goal.write_misuse-returns-in-Ok-clause-made
write_misuse-returns-in-Ok-clause-made t c =
    let xs = each_out c.args.by.now.numbers.now c.args.bounds.now.items (trees (map resolved_data c.args.ts.now)) in
    let own = ap trees (each_are c.args.room xs _ _ c.in-Ok.nodes c.in-Ok.ensures.made ∙ ap (λ us. map resolved_data us ++ listed xs) c.new-all.ensures.items) ∙ trees-listed xs in
    same c.args.room _ _ c.node.result (ap (tree c.args.first c.args.at) (misuse_data c.args.misuse c.write_each.new.all ∙ ap (Form.MisuseOf c.args.misuse) own)) c.node.ensures.made

-- ---- a quantifier

pub write_quantified-returns-in_err-inside-clause-made : goal.write_quantified-returns-in_err-inside-clause-made
write_quantified-returns-in_err-inside-clause-made t c =
    let n = c.args.by.now.numbers.now in let q = c.args.bounds.now.items in
    stop c.args.room (tree c.args.first c.args.at (form_out n q (quantifier_data c.args.quantifier.now))) c.in_err-inside.field-0.0 c.from_residual.result c.from_residual.ensures.1
    (λ e. let few = c.in_err-inside.ensures.1 in omega (arith, few))

pub write_quantified-returns-in_err-low-clause-made : goal.write_quantified-returns-in_err-low-clause-made
write_quantified-returns-in_err-low-clause-made t c =
    let n = c.args.by.now.numbers.now in let q = c.args.bounds.now.items in let had = c.in_ok-inside.ensures in
    stop c.args.room (tree c.args.first c.args.at (form_out n q (quantifier_data c.args.quantifier.now))) c.in_err-low.field-0.0 c.from_residual-in_err-low.result c.from_residual-in_err-low.ensures.1
    (λ e. let few = large c.in_ok-inside.inside (written n q (resolved_data c.args.quantifier.now.low.now)) c.in_err-low.field-0.0 c.in_err-low.ensures.made e in omega (arith, few, had))

pub write_quantified-overflow_sub-behind_low : goal.write_quantified-overflow_sub-behind_low
write_quantified-overflow_sub-behind_low t c =
    small c.in_ok-inside.inside (written c.args.by.now.numbers.now c.args.bounds.now.items (resolved_data c.args.quantifier.now.low.now)) c.in_ok-low.low c.in_ok-low.ensures.made

pub write_quantified-returns-in_err-high-clause-made : goal.write_quantified-returns-in_err-high-clause-made
write_quantified-returns-in_err-high-clause-made t c =
    let n = c.args.by.now.numbers.now in let q = c.args.bounds.now.items in let had = c.in_ok-inside.ensures in
    let first = written n q (resolved_data c.args.quantifier.now.low.now) in let second = written n q (resolved_data c.args.quantifier.now.high.now) in
    let inside = c.in_ok-inside.inside in let low = c.in_ok-low.low in let halt = c.in_err-high.field-0.0 in
    let few_low = small inside first low c.in_ok-low.ensures.made in let nodes_low = nodes_are inside first low c.in_ok-low.ensures.made in
    let made = subst (λ xs. Makes (inside - low.nodes) (written n xs (resolved_data c.args.quantifier.now.high.now)) (Err halt)) c.in_ok-low.ensures.bounds c.in_err-high.ensures.made in
    stop c.args.room (tree c.args.first c.args.at (form_out n q (quantifier_data c.args.quantifier.now))) halt c.from_residual-in_err-high.result c.from_residual-in_err-high.ensures.1
    (λ e. let few = large (inside - low.nodes) second halt made e in omega (arith, few, had, few_low, nodes_low))

pub write_quantified-overflow_sub-left : goal.write_quantified-overflow_sub-left
write_quantified-overflow_sub-left t c =
    let n = c.args.by.now.numbers.now in let q = c.args.bounds.now.items in let inside = c.in_ok-inside.inside in let low = c.in_ok-low.low in let high = c.in_ok-high.high in
    small (inside - low.nodes) (written n q (resolved_data c.args.quantifier.now.high.now)) high
    (subst (λ xs. Makes (inside - low.nodes) (written n xs (resolved_data c.args.quantifier.now.high.now)) (Ok high)) c.in_ok-low.ensures.bounds c.in_ok-high.ensures.made)

pub write_quantified-returns-in-Err-clause-made : goal.write_quantified-returns-in-Err-clause-made
write_quantified-returns-in-Err-clause-made t c =
    let n = c.args.by.now.numbers.now in let q = c.args.bounds.now.items in let quantifier = c.args.quantifier.now in let had = c.in_ok-inside.ensures in
    let first = written n q (resolved_data quantifier.low.now) in let second = written n q (resolved_data quantifier.high.now) in let ts = trees (map resolved_data quantifier.copies.now) in
    let inside = c.in_ok-inside.inside in let low = c.in_ok-low.low in let high = c.in_ok-high.high in let halt = c.in-Err.halt in
    let few_low = small inside first low c.in_ok-low.ensures.made in let nodes_low = nodes_are inside first low c.in_ok-low.ensures.made in
    let made_high = subst (λ xs. Makes (inside - low.nodes) (written n xs (resolved_data quantifier.high.now)) (Ok high)) c.in_ok-low.ensures.bounds c.in_ok-high.ensures.made in
    let few_high = small (inside - low.nodes) second high made_high in let nodes_high = nodes_are (inside - low.nodes) second high made_high in
    let kept = c.in_ok-high.ensures.bounds ∙ c.in_ok-low.ensures.bounds in
    let number_low = c.number_in.ensures ∙ ap (λ r. number_in n (resolved_data r)) c.deref.ensures ∙ ap (number_in n) (tree_is inside first low c.in_ok-low.ensures.made) in
    let number_high = c.number_in-2.ensures ∙ ap (λ r. number_in n (resolved_data r)) c.deref-2.ensures ∙ ap (number_in n) (tree_is (inside - low.nodes) second high made_high) in
    let range : c.range_of-range.result ≡ range_of (number_in n first) (number_in n second) = c.range_of-range.ensures ∙ (λ i. range_of (number_low i) (number_high i)) in
    let copies : List Bound → Range → ResolvedTrees = λ b r. copies_of quantifier.extent r (λ z. each_out n (b ++ bound_with quantifier.variable z ∷ []) ts) (each_out n b ts) in
    let made = subst (λ xs. MakesEach ((inside - low.nodes) - high.nodes) xs c.new-all.result.items c.write_copies.new.all.items (Err halt)) (λ i. copies (kept i) (range i)) c.in-Err.ensures.made in
    stop c.args.room (tree c.args.first c.args.at (form_out n q (quantifier_data quantifier))) halt c.stop_quantifier.result c.stop_quantifier.ensures
    (λ e. let few = large_each ((inside - low.nodes) - high.nodes) (copies q (range_of (number_in n first) (number_in n second))) _ _ halt made e in omega (arith, few, had, few_low, nodes_low, few_high, nodes_high))

pub write_quantified-invariant_of-copies : goal.write_quantified-invariant_of-copies
write_quantified-invariant_of-copies t c =
    let n = c.args.by.now.numbers.now in let quantifier = c.args.quantifier.now in let ts = trees (map resolved_data quantifier.copies.now) in
    let b = c.write-2.new.bounds.items in let left = (c.in_ok-inside.inside - c.in_ok-low.low.nodes) - c.in_ok-high.high.nodes in
    let xs = copies_of quantifier.extent c.range_of-range.result (λ z. each_out n (b ++ bound_with quantifier.variable z ∷ []) ts) (each_out n b ts) in
    record { counted = each_count left xs _ _ c.in-Ok.nodes c.in-Ok.ensures.made ∙ ap each_nodes (sym (ap trees (each_are left xs _ _ c.in-Ok.nodes c.in-Ok.ensures.made ∙ ap (λ us. map resolved_data us ++ listed xs) c.new-all.ensures.items) ∙ trees-listed xs)) }

pub write_quantified-quantifier_above-requires : goal.write_quantified-quantifier_above-requires
write_quantified-quantifier_above-requires t c =
    let n = c.args.by.now.numbers.now in let q = c.args.bounds.now.items in let quantifier = c.args.quantifier.now in let had = c.in_ok-inside.ensures in let ts = trees (map resolved_data quantifier.copies.now) in
    let inside = c.in_ok-inside.inside in let low = c.in_ok-low.low in let high = c.in_ok-high.high in let b = c.write-2.new.bounds.items in
    let few_low = small inside (written n q (resolved_data quantifier.low.now)) low c.in_ok-low.ensures.made in
    let few_high = small (inside - low.nodes) (written n c.write.new.bounds.items (resolved_data quantifier.high.now)) high c.in_ok-high.ensures.made in
    let xs = copies_of quantifier.extent c.range_of-range.result (λ z. each_out n (b ++ bound_with quantifier.variable z ∷ []) ts) (each_out n b ts) in
    let few = small_each ((inside - low.nodes) - high.nodes) xs _ _ c.in-Ok.nodes c.in-Ok.ensures.made in
    record { fits = omega (arith, had, few_low, few_high, few) }

pub write_quantified-returns-in-Ok-clause-made : goal.write_quantified-returns-in-Ok-clause-made
write_quantified-returns-in-Ok-clause-made t c =
    let n = c.args.by.now.numbers.now in let q = c.args.bounds.now.items in let quantifier = c.args.quantifier.now in
    let first = written n q (resolved_data quantifier.low.now) in let second = written n q (resolved_data quantifier.high.now) in let ts = trees (map resolved_data quantifier.copies.now) in
    let inside = c.in_ok-inside.inside in let low = c.in_ok-low.low in let high = c.in_ok-high.high in
    let low_is = tree_is inside first low c.in_ok-low.ensures.made in
    let high_is = tree_is (inside - low.nodes) second high (subst (λ xs. Makes (inside - low.nodes) (written n xs (resolved_data quantifier.high.now)) (Ok high)) c.in_ok-low.ensures.bounds c.in_ok-high.ensures.made) in
    let kept = c.in_ok-high.ensures.bounds ∙ c.in_ok-low.ensures.bounds in
    let number_low = c.number_in.ensures ∙ ap (λ r. number_in n (resolved_data r)) c.deref.ensures ∙ ap (number_in n) low_is in
    let number_high = c.number_in-2.ensures ∙ ap (λ r. number_in n (resolved_data r)) c.deref-2.ensures ∙ ap (number_in n) high_is in
    let range : c.range_of-range.result ≡ range_of (number_in n first) (number_in n second) = c.range_of-range.ensures ∙ (λ i. range_of (number_low i) (number_high i)) in
    let extent = c.extent_of-extent.ensures ∙ ap (extent_of quantifier.extent) range in
    let copies : List Bound → Range → ResolvedTrees = λ b r. copies_of quantifier.extent r (λ z. each_out n (b ++ bound_with quantifier.variable z ∷ []) ts) (each_out n b ts) in
    let left = (inside - low.nodes) - high.nodes in let xs = copies c.write-2.new.bounds.items c.range_of-range.result in
    let made = ap trees (each_are left xs _ _ c.in-Ok.nodes c.in-Ok.ensures.made ∙ ap (λ us. map resolved_data us ++ listed xs) c.new-all.ensures.items) ∙ trees-listed xs ∙ (λ i. copies (kept i) (range i)) in
    same c.args.room _ _ c.quantifier_above.result (λ i. tree c.args.first c.args.at (Form.Quantified quantifier.word quantifier.variable (extent i) (low_is i) (high_is i) (made i))) c.quantifier_above.ensures.made

-- ---- its copies

pub write_copy-returns-in_err-push-clause-made : goal.write_copy-returns-in_err-push-clause-made
write_copy-returns-in_err-push-clause-made t c =
    let q = c.args.quantifier.now in
    stop_each c.args.room (each_out c.args.by.now.numbers.now (c.args.bounds.now.items ++ bound_with q.variable c.args.number ∷ []) (trees (map resolved_data q.copies.now))) _ _ Memory c.from_residual.result c.from_residual.ensures.1 no_room

pub write_between-returns-in_err-left-clause-made : goal.write_between-returns-in_err-left-clause-made
write_between-returns-in_err-left-clause-made t c =
    let n = c.args.by.now.numbers.now in let q = c.args.bounds.now.items in let quantifier = c.args.quantifier.now in let ts = trees (map resolved_data quantifier.copies.now) in
    let copy : ℤ → ResolvedTrees = λ z. each_out n (q ++ bound_with quantifier.variable z ∷ []) ts in
    let z = to_z w64 c.loop-number.number-bits in let low = to_z w64 (of_z w64 c.args.low) in let high = to_z w64 (of_z w64 c.args.high) in
    let before = c.loop-number.invariant in let left = c.loop-number.left in let room = c.args.room in
    let count : left + each_nodes (copies_for copy (numbers_between low high)) ≡ room + each_nodes (copies_for copy (numbers_between z high)) = before.room in
    let own : each_out n (c.loop-number.bounds.items ++ bound_with quantifier.variable z ∷ []) ts ≡ copy z = ap (λ xs. each_out n (xs ++ bound_with quantifier.variable z ∷ []) ts) before.bounds in
    let all : copies_for copy (numbers_between low high) ≡ copies_for copy (numbers_between c.args.low c.args.high) =
    (λ i. copies_for copy (numbers_between (to_z-of_z w64 c.args.low c.ranges.low i) (to_z-of_z w64 c.args.high c.ranges.high i))) in
    let more = copy_nodes copy z high c.loop-number-test.true in
    stop_each room (copies_for copy (numbers_between c.args.low c.args.high)) _ _ c.in_err-left.field-0.0 c.from_residual.result c.from_residual.ensures.1
    (λ e. let few = large_each left _ _ _ c.in_err-left.field-0.0 c.in_err-left.ensures.made e in let nodes = ap each_nodes own in let whole = ap each_nodes all in omega (arith, few, nodes, more, count, whole))

pub write_between-overflow_sub-left : goal.write_between-overflow_sub-left
write_between-overflow_sub-left t c = small_each c.loop-number.left _ _ _ c.in_ok-left.field-0 c.in_ok-left.ensures.made

pub write_between-loop-number-preserved : goal.write_between-loop-number-preserved
write_between-loop-number-preserved t c =
    let n = c.args.by.now.numbers.now in let q = c.args.bounds.now.items in let quantifier = c.args.quantifier.now in let ts = trees (map resolved_data quantifier.copies.now) in
    let copy : ℤ → ResolvedTrees = λ z. each_out n (q ++ bound_with quantifier.variable z ∷ []) ts in
    let z = to_z w64 c.loop-number.number-bits in let low = to_z w64 (of_z w64 c.args.low) in let high = to_z w64 (of_z w64 c.args.high) in
    let before = c.loop-number.invariant in let left = c.loop-number.left in let room = c.args.room in
    let count : left + each_nodes (copies_for copy (numbers_between low high)) ≡ room + each_nodes (copies_for copy (numbers_between z high)) = before.room in
    let own : each_out n (c.loop-number.bounds.items ++ bound_with quantifier.variable z ∷ []) ts ≡ copy z = ap (λ xs. each_out n (xs ++ bound_with quantifier.variable z ∷ []) ts) before.bounds in
    let made = c.in_ok-left.ensures.made in let nodes = c.in_ok-left.field-0 in
    let step : to_z w64 (of_z w64 (z +ℤ pos 1)) ≡ z +ℤ pos 1 = omega (arith, ints) in
    let next = ap (λ m. each_nodes (copies_for copy (numbers_between m high))) step in
    let more = copy_nodes copy z high c.loop-number-test.true in
    let taken = each_count left _ _ _ nodes made ∙ ap each_nodes own in
    let few = small_each left _ _ _ nodes made in
    record {
      bounds = c.in_ok-left.ensures.bounds ∙ before.bounds;
      same = (λ i. map resolved_data c.write_copy.new.all.items ++ listed (copies_for copy (numbers_between (step i) high)))
          ∙ copy_pushed copy z high c.loop-number-test.true (map resolved_data c.loop-number.all.items) (map resolved_data c.write_copy.new.all.items) _
          (each_are left _ _ _ nodes made ∙ ap (λ us. map resolved_data c.loop-number.all.items ++ listed us) own) before.same;
      small = let fits = before.small in omega (arith, fits);
      room = omega (arith, count, next, more, taken, few);
    }

pub write_between-returns-clause-made : goal.write_between-returns-clause-made
write_between-returns-clause-made t c =
    let n = c.args.by.now.numbers.now in let q = c.args.bounds.now.items in let quantifier = c.args.quantifier.now in let ts = trees (map resolved_data quantifier.copies.now) in
    let copy : ℤ → ResolvedTrees = λ z. each_out n (q ++ bound_with quantifier.variable z ∷ []) ts in
    let z = to_z w64 c.loop-number.number-bits in let low = to_z w64 (of_z w64 c.args.low) in let high = to_z w64 (of_z w64 c.args.high) in
    let before = c.loop-number.invariant in let left = c.loop-number.left in let room = c.args.room in
    let count : left + each_nodes (copies_for copy (numbers_between low high)) ≡ room + each_nodes (copies_for copy (numbers_between z high)) = before.room in
    let all : copies_for copy (numbers_between low high) ≡ copies_for copy (numbers_between c.args.low c.args.high) =
    (λ i. copies_for copy (numbers_between (to_z-of_z w64 c.args.low c.ranges.low i) (to_z-of_z w64 c.args.high c.ranges.high i))) in
    let fits : left ≤ room = before.small in
    let whole = ap each_nodes all in
    elim c.loop-number-test.branch [
      | write_between-else-loop-number-test w ↦
          let none = no_copies copy z high w.loop-number-test.false in
          let rest = ap each_nodes none in
          let last = w.left-is in
          made_each room (copies_for copy (numbers_between c.args.low c.args.high)) _ _ _
          (ap (λ v. map resolved_data v.items) w.all-is ∙ sym (append-nil (map resolved_data c.loop-number.all.items)) ∙ ap (λ us. map resolved_data c.loop-number.all.items ++ listed us) (sym none)
          ∙ before.same ∙ ap (λ us. map resolved_data c.args.all.now.items ++ listed us) all)
          (omega (arith, count, whole, rest, last, fits)) (omega arith)
      | write_between-then-loop-number-test+in_ok-left+else-number-high w ↦
          let here = w.loop-number-test.true in
          let past : int_le (z +ℤ pos 1) high ≡ false = grind (arith, ints) in
          let none = no_copies copy (z +ℤ pos 1) high past in
          let rest = ap each_nodes none in
          let more = copy_nodes copy z high here in
          let made = w.in_ok-left.ensures.made in let nodes = w.in_ok-left.field-0 in
          let own : each_out n (c.loop-number.bounds.items ++ bound_with quantifier.variable z ∷ []) ts ≡ copy z = ap (λ xs. each_out n (xs ++ bound_with quantifier.variable z ∷ []) ts) before.bounds in
          let taken = each_count left _ _ _ nodes made ∙ ap each_nodes own in
          let few = small_each left _ _ _ nodes made in
          let last = w.left-is in
          let new = map resolved_data w.write_copy.new.all.items in
          made_each room (copies_for copy (numbers_between c.args.low c.args.high)) _ _ _
          (ap (λ v. map resolved_data v.items) w.all-is ∙ sym (append-nil new) ∙ ap (λ us. new ++ listed us) (sym none)
          ∙ copy_pushed copy z high here (map resolved_data c.loop-number.all.items) new _ (each_are left _ _ _ nodes made ∙ ap (λ us. map resolved_data c.loop-number.all.items ++ listed us) own) before.same
          ∙ ap (λ us. map resolved_data c.args.all.now.items ++ listed us) all)
          (omega (arith, count, whole, rest, more, taken, few, last, fits)) (omega arith)
    ]
