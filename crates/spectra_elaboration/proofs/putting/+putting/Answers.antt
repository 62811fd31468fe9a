use Rattle.std.proofs.Common.{◌≡◌, ◌++◌, ◌+◌, ◌-◌, ◌<◌, length, map, drop, get_or, nat_le, ◌≤◌, Ok, Err, refl, sym, ap, subst, ◌∙◌, arith}
use Rattle.std.proofs.lemmas.List.{length-map}
use Rattle.std.proofs.lemmas.Option.{slice_get_read}
use Rattle.spectra_resolved.specs.Resolved.{ResolvedTree, ResolvedTrees, tree, Form, listed}
use Rattle.spectra_resolved.specs.Chained.{chained, trees}
use Rattle.spectra_resolved.specs.Views.{resolved_data, link_data, form_data}
use Rattle.spectra_resolved.proofs.Trees.{trees-listed}
use Rattle.spectra_copies.specs.declared.refusal.Refusal.TheVariants.{Memory, Deep}
use Rattle.spectra_copies.specs.Links.{link_nodes, link_levels, are_flat_above, placed_link}
use Rattle.spectra_copies.specs.Nodes.{each_nodes}
use Rattle.spectra_copies.specs.Levels.{tree_levels, each_levels}
use Rattle.spectra_copies.specs.Operands.{over_one, several_of, over_each}
use Rattle.spectra_copies.specs.Making.{Makes, MakesEach, MakesLinks, IsFlat, AreFlat, AreFlatLinks}
use Rattle.spectra_elaboration.specs.DefinitionViews.{definitions_data}
use Rattle.spectra_elaboration.specs.Frames.{around_at, put_around, filled_at, form_at, each_at, link_at, AreFrames}
use Rattle.spectra_elaboration.specs.Following.{front_data}
use Rattle.spectra_elaboration.specs.Rows.{piece_link, piece_at, pieces_at, AreWithin, rows_data}
use Rattle.spectra_copies.proofs.Over.{is_one, one_levels, several_levels}
use Rattle.spectra_elaboration.proofs.Over.{are_several, quantified_is, each_one, one_filled, several_filled}
use Rattle.spectra_copies.proofs.Chained.{tree_nodes-chained}
use Rattle.spectra_elaboration.proofs.RowLevels.{no_levels, row_deep}
use Rattle.spectra_elaboration.proofs.Unwound.{end_apart, levels_same, some_rows, within_at, rows_left, some_left}
use Rattle.spectra_elaboration.proofs.Pieces.{piece_nodes_left, piece_made, all_pieces, no_piece_nodes}
use Rattle.spectra_copies.specs.PartViews.{quantifier_data}
use Rattle.spectra_elaboration.proofs.Quantifiers.{low_large, low_deep, high_large, high_deep, copies_large, copies_deep, all_fit, all_made, all_flat}
use Rattle.spectra_elaboration.proofs.Flats.{not_deep, deep_not_large, flat_of, flat_ok, flat_deep, stop_flat, each_ok, each_deep, stop_each_flat, links_ok, links_deep, stop_links_flat, rows_flat, rows_deep_first, rows_deep_links, links_flat_on, links_flat_off, links_flat_end, each_flat_on, each_flat_off, each_flat_end, above_flat, above_deep, most_of, one_level}
use Rattle.spectra_elaboration.proofs.Framed.{brought_is}
use Rattle.spectra_copies.proofs.Made.{no_room, same, tree_is, small, nodes_are, large, stop, each_are, each_count, small_each, large_each, stop_each, links_are, links_count, small_links, large_links, stop_links, each_nodes_left, tree_pushed, all_trees, no_each_nodes, one_made, one_stops, several_made, several_stops}
use Rattle.spectra_elaboration.proofs.putting.+putting.Goals as goal

-- ---- operands

pub fill_operands-fill-requires : goal.fill_operands-fill-requires
fill_operands-fill-requires t c =
    let b = definitions_data c.args.by.now.definitions.now in let fs = c.args.frames.now.items in let i = c.args.frame in let w = around_at b fs i in let ts = c.args.ts.now in let e = c.t-item.result in let k = c.loop-t.t-index in let below = c.loop-t-test.true in let before = c.loop-t.invariant in let left = c.loop-t.left in let levels = c.args.levels in let at = filled_at b fs i (resolved_data e) in
    (omega arith, (subst AreFrames (sym before.frames) c.requires.framed, subst (λ xs. i < length xs) (sym before.frames) c.requires.within))

pub fill_operands-loop-t-preserved : goal.fill_operands-loop-t-preserved
fill_operands-loop-t-preserved t c =
    let b = definitions_data c.args.by.now.definitions.now in let fs = c.args.frames.now.items in let i = c.args.frame in let w = around_at b fs i in let ts = c.args.ts.now in let e = c.t-item.result in let k = c.loop-t.t-index in let below = c.loop-t-test.true in let before = c.loop-t.invariant in let left = c.loop-t.left in let levels = c.args.levels in let at = filled_at b fs i (resolved_data e) in let operand = c.in_ok-operand.operand in let made = subst (λ xs. Makes left (filled_at b xs i (resolved_data e)) (Ok operand)) before.frames c.in_ok-operand.ensures.made in let flat = subst (λ xs. IsFlat levels (filled_at b xs i (resolved_data e)) (Ok operand)) before.frames c.in_ok-operand.ensures.flat in let own = tree_is left at operand made in let nodes = nodes_are left at operand made in let fits' = small left at operand made in let more = each_nodes_left (filled_at b fs i) (each_at b fs i) (each_one (put_around b w) w.brought w.arguments) ts k e below c.t-item.is in
    record {
      frames = c.in_ok-operand.ensures.frames ∙ before.frames;
      same =
          tree_pushed (filled_at b fs i) (each_at b fs i) (each_one (put_around b w) w.brought w.arguments) ts k e below c.t-item.is (map resolved_data c.loop-t.all.items) _ (map resolved_data c.args.all.now.items ++ listed (each_at b fs i (trees (map resolved_data ts)))) _ own c.in_ok-add_tree.ensures before.same;
      small = let low = before.small in omega (arith, low);
      room = let count = before.room in omega (arith, count, nodes, more, fits');
      flat = each_flat_on (filled_at b fs i) (each_at b fs i) (each_one (put_around b w) w.brought w.arguments) ts k e below c.t-item.is levels (flat_ok levels at operand flat) ∙ before.flat;
    }

pub fill_operands-overflow_sub-left : goal.fill_operands-overflow_sub-left
fill_operands-overflow_sub-left t c =
    let b = definitions_data c.args.by.now.definitions.now in let fs = c.args.frames.now.items in let i = c.args.frame in let w = around_at b fs i in let ts = c.args.ts.now in let e = c.t-item.result in let k = c.loop-t.t-index in let below = c.loop-t-test.true in let before = c.loop-t.invariant in let left = c.loop-t.left in let levels = c.args.levels in let at = filled_at b fs i (resolved_data e) in let operand = c.in_ok-operand.operand in let made = subst (λ xs. Makes left (filled_at b xs i (resolved_data e)) (Ok operand)) before.frames c.in_ok-operand.ensures.made in let flat = subst (λ xs. IsFlat levels (filled_at b xs i (resolved_data e)) (Ok operand)) before.frames c.in_ok-operand.ensures.flat in
    small left at operand made

pub fill_operands-returns-in_err-operand-clause-made : goal.fill_operands-returns-in_err-operand-clause-made
fill_operands-returns-in_err-operand-clause-made t c =
    let b = definitions_data c.args.by.now.definitions.now in let fs = c.args.frames.now.items in let i = c.args.frame in let w = around_at b fs i in let ts = c.args.ts.now in let e = c.t-item.result in let k = c.loop-t.t-index in let below = c.loop-t-test.true in let before = c.loop-t.invariant in let left = c.loop-t.left in let levels = c.args.levels in let at = filled_at b fs i (resolved_data e) in let halt = c.in_err-operand.field-0.0 in let count = before.room in let more = each_nodes_left (filled_at b fs i) (each_at b fs i) (each_one (put_around b w) w.brought w.arguments) ts k e below c.t-item.is in let made = subst (λ xs. Makes left (filled_at b xs i (resolved_data e)) (Err c.in_err-operand.field-0.0)) before.frames c.in_err-operand.ensures.made in
    stop_each c.args.room (each_at b fs i (trees (map resolved_data ts))) _ _ halt c.from_residual.result c.from_residual.ensures.1
    (λ is. let few = large left at halt made is in omega (arith, few, count, more))

pub fill_operands-returns-in_err-operand-clause-flat : goal.fill_operands-returns-in_err-operand-clause-flat
fill_operands-returns-in_err-operand-clause-flat t c =
    let b = definitions_data c.args.by.now.definitions.now in let fs = c.args.frames.now.items in let i = c.args.frame in let w = around_at b fs i in let ts = c.args.ts.now in let e = c.t-item.result in let k = c.loop-t.t-index in let below = c.loop-t-test.true in let before = c.loop-t.invariant in let left = c.loop-t.left in let levels = c.args.levels in let at = filled_at b fs i (resolved_data e) in let halt = c.in_err-operand.field-0.0 in let flat = subst (λ xs. IsFlat levels (filled_at b xs i (resolved_data e)) (Err c.in_err-operand.field-0.0)) before.frames c.in_err-operand.ensures.flat in
    stop_each_flat levels (each_at b fs i (trees (map resolved_data ts))) halt c.from_residual.result c.from_residual.ensures.1
    (λ is. sym before.flat ∙ each_flat_off (filled_at b fs i) (each_at b fs i) (each_one (put_around b w) w.brought w.arguments) ts k e below c.t-item.is levels (flat_deep levels at halt flat is))

pub fill_operands-returns-in_err-add_tree-clause-made : goal.fill_operands-returns-in_err-add_tree-clause-made
fill_operands-returns-in_err-add_tree-clause-made t c =
    let b = definitions_data c.args.by.now.definitions.now in let fs = c.args.frames.now.items in let i = c.args.frame in let w = around_at b fs i in
    stop_each c.args.room (each_at b fs i (trees (map resolved_data c.args.ts.now))) _ _ Memory c.from_residual-in_err-add_tree.result c.from_residual-in_err-add_tree.ensures.1 no_room

pub fill_operands-returns-in_err-add_tree-clause-flat : goal.fill_operands-returns-in_err-add_tree-clause-flat
fill_operands-returns-in_err-add_tree-clause-flat t c =
    let b = definitions_data c.args.by.now.definitions.now in let fs = c.args.frames.now.items in let i = c.args.frame in let w = around_at b fs i in
    stop_each_flat c.args.levels (each_at b fs i (trees (map resolved_data c.args.ts.now))) Memory c.from_residual-in_err-add_tree.result c.from_residual-in_err-add_tree.ensures.1 not_deep

pub fill_operands-returns-clause-made : goal.fill_operands-returns-clause-made
unfolding MakesEach
fill_operands-returns-clause-made t c =
    let b = definitions_data c.args.by.now.definitions.now in let fs = c.args.frames.now.items in let i = c.args.frame in let w = around_at b fs i in let ts = c.args.ts.now in let k = c.loop-t.t-index in let end = c.loop-t-test.false in let before = c.loop-t.invariant in let count = before.room in let low = before.small in let none = no_each_nodes (filled_at b fs i) (each_at b fs i) (each_one (put_around b w) w.brought w.arguments) ts k end in
    (all_trees (filled_at b fs i) (each_at b fs i) (each_one (put_around b w) w.brought w.arguments) ts k end (map resolved_data c.loop-t.all.items) _ before.same, (omega (arith, count, low, none), omega arith))

pub fill_operands-returns-clause-flat : goal.fill_operands-returns-clause-flat
unfolding AreFlat
fill_operands-returns-clause-flat t c =
    let b = definitions_data c.args.by.now.definitions.now in let fs = c.args.frames.now.items in let i = c.args.frame in let w = around_at b fs i in
    sym c.loop-t.invariant.flat ∙ each_flat_end (filled_at b fs i) (each_at b fs i) (each_one (put_around b w) w.brought w.arguments) c.args.ts.now c.loop-t.t-index c.args.levels c.loop-t-test.false

-- ---- an operator

pub fill_shape-returns-in_err-operand-in-Some-clause-made : goal.fill_shape-returns-in_err-operand-in-Some-clause-made
fill_shape-returns-in_err-operand-in-Some-clause-made t c =
    let b = definitions_data c.args.by.now.definitions.now in let fs = c.args.frames.now.items in let i = c.args.frame in let w = around_at b fs i in let form = form_data c.args.shape.now in let x = resolved_data c.in-Some.t.now in one_stops c.args.room w.brought c.args.first c.args.at form (form_at b fs i c.args.first c.args.at form) c.from_residual.result (filled_at b fs i x) (is_one form x c.in-Some.ensures) (one_filled (put_around b w) w.brought w.arguments c.args.first c.args.at form x c.in-Some.ensures) c.in_err-operand-in-Some.field-0.0 c.in_err-operand-in-Some.ensures.made c.from_residual.ensures.1

pub fill_shape-returns-in_err-operand-in-Some-clause-flat : goal.fill_shape-returns-in_err-operand-in-Some-clause-flat
fill_shape-returns-in_err-operand-in-Some-clause-flat t c =
    let b = definitions_data c.args.by.now.definitions.now in let fs = c.args.frames.now.items in let i = c.args.frame in let w = around_at b fs i in let form = form_data c.args.shape.now in let x = resolved_data c.in-Some.t.now in let halt = c.in_err-operand-in-Some.field-0.0 in
    above_deep c.args.levels (form_at b fs i c.args.first c.args.at form) c.from_residual.result (tree_levels (filled_at b fs i x)) halt (ap tree_levels (one_filled (put_around b w) w.brought w.arguments c.args.first c.args.at form x c.in-Some.ensures) ∙ one_levels w.brought form (filled_at b fs i x) (is_one form x c.in-Some.ensures)) c.from_residual.ensures.1
    (flat_deep c.args.levels (filled_at b fs i x) halt c.in_err-operand-in-Some.ensures.flat)

pub fill_shape-one_above-requires : goal.fill_shape-one_above-requires
fill_shape-one_above-requires t c = is_one (form_data c.args.shape.now) (resolved_data c.in-Some.t.now) c.in-Some.ensures

pub fill_shape-returns-in_ok-operand-in-Some-clause-made : goal.fill_shape-returns-in_ok-operand-in-Some-clause-made
fill_shape-returns-in_ok-operand-in-Some-clause-made t c =
    let b = definitions_data c.args.by.now.definitions.now in let fs = c.args.frames.now.items in let i = c.args.frame in let w = around_at b fs i in let form = form_data c.args.shape.now in let f = c.index.result.now in let brought = brought_is b fs i f (slice_get_read fs (length fs) i f refl c.requires.within (subst (λ xs. f ≡ get_or xs i f) c.in_ok-operand-in-Some.ensures.frames c.index.ensures)) in let u = resolved_data c.in_ok-operand-in-Some.operand.tree.value in let x = resolved_data c.in-Some.t.now in one_made c.args.room w.brought c.args.first c.args.at form (form_at b fs i c.args.first c.args.at form) c.one_above.result (filled_at b fs i x) (is_one form x c.in-Some.ensures) (one_filled (put_around b w) w.brought w.arguments c.args.first c.args.at form x c.in-Some.ensures) c.in_ok-operand-in-Some.operand c.in_ok-operand-in-Some.ensures.made
    (same c.args.room _ _ c.one_above.result (ap (λ o. tree c.args.first c.args.at (over_one o form u)) (sym brought)) c.one_above.ensures.made)

pub fill_shape-returns-in_ok-operand-in-Some-clause-flat : goal.fill_shape-returns-in_ok-operand-in-Some-clause-flat
fill_shape-returns-in_ok-operand-in-Some-clause-flat t c =
    let b = definitions_data c.args.by.now.definitions.now in let fs = c.args.frames.now.items in let i = c.args.frame in let w = around_at b fs i in let form = form_data c.args.shape.now in let x = resolved_data c.in-Some.t.now in
    above_flat c.args.levels (form_at b fs i c.args.first c.args.at form) c.one_above.result (tree_levels (filled_at b fs i x)) (ap tree_levels (one_filled (put_around b w) w.brought w.arguments c.args.first c.args.at form x c.in-Some.ensures) ∙ one_levels w.brought form (filled_at b fs i x) (is_one form x c.in-Some.ensures))
    (flat_ok c.args.levels (filled_at b fs i x) c.in_ok-operand-in-Some.operand c.in_ok-operand-in-Some.ensures.flat) c.one_above.ensures.not_deep

pub fill_several-returns-in_err-all-clause-made : goal.fill_several-returns-in_err-all-clause-made
fill_several-returns-in_err-all-clause-made t c =
    let b = definitions_data c.args.by.now.definitions.now in let fs = c.args.frames.now.items in
    stop c.args.room (form_at b fs c.args.frame c.args.first c.args.at (form_data c.args.shape.now)) Memory c.from_residual.result c.from_residual.ensures.1 no_room

pub fill_several-returns-in_err-all-clause-flat : goal.fill_several-returns-in_err-all-clause-flat
fill_several-returns-in_err-all-clause-flat t c =
    let b = definitions_data c.args.by.now.definitions.now in let fs = c.args.frames.now.items in
    stop_flat (c.args.levels + 1) (form_at b fs c.args.frame c.args.first c.args.at (form_data c.args.shape.now)) Memory c.from_residual.result c.from_residual.ensures.1 not_deep

pub fill_several-returns-in-Err-clause-made : goal.fill_several-returns-in-Err-clause-made
fill_several-returns-in-Err-clause-made t c =
    let b = definitions_data c.args.by.now.definitions.now in let fs = c.args.frames.now.items in let i = c.args.frame in let w = around_at b fs i in let form = form_data c.args.shape.now in
    several_stops c.args.room w.brought c.args.first c.args.at form (form_at b fs i c.args.first c.args.at form) c.stop_operands.result (each_at b fs i (several_of form)) c.requires.several (several_filled (put_around b w) w.brought w.arguments c.args.first c.args.at form c.requires.several) _ _ c.in-Err.halt
    (subst (λ ts. MakesEach c.args.room (each_at b fs i ts) c.in_ok-all.all.items c.fill_operands.new.all.items (Err c.in-Err.halt)) c.several_of-ts.ensures c.in-Err.ensures.made) c.stop_operands.ensures

pub fill_several-returns-in-Err-clause-flat : goal.fill_several-returns-in-Err-clause-flat
fill_several-returns-in-Err-clause-flat t c =
    let b = definitions_data c.args.by.now.definitions.now in let fs = c.args.frames.now.items in let i = c.args.frame in let w = around_at b fs i in let form = form_data c.args.shape.now in let ts = several_of form in let halt = c.in-Err.halt in
    above_deep c.args.levels (form_at b fs i c.args.first c.args.at form) c.stop_operands.result (each_levels (each_at b fs i ts)) halt (ap tree_levels (several_filled (put_around b w) w.brought w.arguments c.args.first c.args.at form c.requires.several) ∙ several_levels w.brought form (each_at b fs i (several_of form)) c.requires.several) c.stop_operands.ensures
    (each_deep c.args.levels (each_at b fs i ts) halt (subst (λ ts. AreFlat c.args.levels (each_at b fs i ts) (Err halt)) c.several_of-ts.ensures c.in-Err.ensures.flat))

pub fill_several-each_above-requires : goal.fill_several-each_above-requires
fill_several-each_above-requires t c =
    let b = definitions_data c.args.by.now.definitions.now in let fs = c.args.frames.now.items in let i = c.args.frame in let w = around_at b fs i in let form = form_data c.args.shape.now in let xs = each_at b fs i (trees (map resolved_data c.several_of-ts.result.now)) in
    record { several = c.requires.several; counted = each_count c.args.room xs _ _ c.in-Ok.nodes c.in-Ok.ensures.made ∙ ap each_nodes (sym (ap trees (each_are c.args.room xs _ _ c.in-Ok.nodes c.in-Ok.ensures.made ∙ ap (λ us. map resolved_data us ++ listed xs) c.in_ok-all.ensures.items) ∙ trees-listed xs)) }

pub fill_several-returns-in-Ok-clause-made : goal.fill_several-returns-in-Ok-clause-made
fill_several-returns-in-Ok-clause-made t c =
    let b = definitions_data c.args.by.now.definitions.now in let fs = c.args.frames.now.items in let i = c.args.frame in let w = around_at b fs i in let form = form_data c.args.shape.now in let f = c.index.result.now in let brought = brought_is b fs i f (slice_get_read fs (length fs) i f refl c.requires.within (subst (λ xs. f ≡ get_or xs i f) c.in-Ok.ensures.frames c.index.ensures)) in let us = trees (map resolved_data c.fill_operands.new.all.items) in let xs = each_at b fs i (trees (map resolved_data c.several_of-ts.result.now)) in let own = ap trees (each_are c.args.room xs _ _ c.in-Ok.nodes c.in-Ok.ensures.made ∙ ap (λ us. map resolved_data us ++ listed xs) c.in_ok-all.ensures.items) ∙ trees-listed xs in
    several_made c.args.room w.brought c.args.first c.args.at form (form_at b fs i c.args.first c.args.at form) c.each_above.result (each_at b fs i (several_of form)) c.requires.several (several_filled (put_around b w) w.brought w.arguments c.args.first c.args.at form c.requires.several) us (own ∙ ap (each_at b fs i) c.several_of-ts.ensures)
    (same c.args.room _ _ c.each_above.result (ap (λ o. tree c.args.first c.args.at (over_each o form us)) (sym brought)) c.each_above.ensures.made)

pub fill_several-returns-in-Ok-clause-flat : goal.fill_several-returns-in-Ok-clause-flat
fill_several-returns-in-Ok-clause-flat t c =
    let b = definitions_data c.args.by.now.definitions.now in let fs = c.args.frames.now.items in let i = c.args.frame in let w = around_at b fs i in let form = form_data c.args.shape.now in let ts = several_of form in
    above_flat c.args.levels (form_at b fs i c.args.first c.args.at form) c.each_above.result (each_levels (each_at b fs i ts)) (ap tree_levels (several_filled (put_around b w) w.brought w.arguments c.args.first c.args.at form c.requires.several) ∙ several_levels w.brought form (each_at b fs i (several_of form)) c.requires.several)
    (each_ok c.args.levels (each_at b fs i ts) c.in-Ok.nodes (subst (λ ts. AreFlat c.args.levels (each_at b fs i ts) (Ok c.in-Ok.nodes)) c.several_of-ts.ensures c.in-Ok.ensures.flat)) c.each_above.ensures.not_deep

-- ---- an expression, and what it comes to

pub fill-returns-in_err-front-clause-made : goal.fill-returns-in_err-front-clause-made
fill-returns-in_err-front-clause-made t c =
    let b = definitions_data c.args.by.now.definitions.now in
    stop c.args.room (filled_at b c.args.frames.now.items c.args.frame (resolved_data c.args.t.now)) Memory c.from_residual.result c.from_residual.ensures.1 no_room

pub fill-returns-in_err-front-clause-flat : goal.fill-returns-in_err-front-clause-flat
fill-returns-in_err-front-clause-flat t c =
    let b = definitions_data c.args.by.now.definitions.now in
    stop_flat c.args.levels (filled_at b c.args.frames.now.items c.args.frame (resolved_data c.args.t.now)) Memory c.from_residual.result c.from_residual.ensures.1 not_deep

pub fill_front-returns-then-levels-eq0-clause-made : goal.fill_front-returns-then-levels-eq0-clause-made
fill_front-returns-then-levels-eq0-clause-made t c =
    let b = definitions_data c.args.by.now.definitions.now in
    stop c.args.room (front_data b c.args.frames.now.items c.args.front) Deep _ refl deep_not_large

pub fill_front-returns-then-levels-eq0-clause-flat : goal.fill_front-returns-then-levels-eq0-clause-flat
fill_front-returns-then-levels-eq0-clause-flat t c =
    let b = definitions_data c.args.by.now.definitions.now in let all = front_data b c.args.frames.now.items c.args.front in
    stop_flat c.args.levels all Deep _ refl (λ e. ap (nat_le (tree_levels all)) c.if-levels-eq0.true ∙ no_levels all)

pub fill_front-returns-in-Leaf-clause-flat : goal.fill_front-returns-in-Leaf-clause-flat
fill_front-returns-in-Leaf-clause-flat t c =
    let b = definitions_data c.args.by.now.definitions.now in let arm = c.in-Leaf in let some = c.if-levels-eq0.false in let leaf = tree arm.first arm.at (Form.LeafOf arm.leaf) in
    subst (λ f. IsFlat c.args.levels (front_data b c.args.frames.now.items f) c.leaf_at.result) (sym arm.is) (flat_of c.args.levels leaf c.leaf_at.result (one_level c.args.levels (omega (arith, some))) c.leaf_at.ensures.not_deep)

-- ---- operators behind what stands before them

pub fill_rows-returns-then-levels-above-clause-flat : goal.fill_rows-returns-then-levels-above-clause-flat
fill_rows-returns-then-levels-above-clause-flat t c =
    let b = definitions_data c.args.by.now.definitions.now in let fs = c.args.frames.now.items in let rows = c.args.rows.now in let head = front_data b fs rows.front in let ps = pieces_at b fs rows.pieces.items in let apart = end_apart b fs rows.front c.requires.rows.ends in let size = c.row_levels-above.ensures ∙ ap (λ xs. link_levels (map piece_link xs)) c.deref.ensures.value ∙ sym (levels_same b fs rows.pieces.items) in let here = c.if-levels-above.true in
    stop_flat c.args.levels (rows_data b fs rows) Deep _ refl (λ e. row_deep head ps c.args.levels apart (omega (arith, size, here)))

pub fill_rows-returns-then-levels-above-clause-made : goal.fill_rows-returns-then-levels-above-clause-made
fill_rows-returns-then-levels-above-clause-made t c =
    let b = definitions_data c.args.by.now.definitions.now in let fs = c.args.frames.now.items in
    stop c.args.room (rows_data b fs c.args.rows.now) Deep _ refl deep_not_large

pub fill_rows-returns-in_err-own-clause-made : goal.fill_rows-returns-in_err-own-clause-made
fill_rows-returns-in_err-own-clause-made t c =
    let b = definitions_data c.args.by.now.definitions.now in let fs = c.args.frames.now.items in let rows = c.args.rows.now in let head = front_data b fs rows.front in let ps = pieces_at b fs rows.pieces.items in let halt = c.in_err-own.field-0.0 in
    stop c.args.room (rows_data b fs rows) halt c.from_residual.result c.from_residual.ensures.1
    (λ e. let few = large c.args.room head halt c.in_err-own.ensures.made e in let all = tree_nodes-chained head ps in omega (arith, few, all))

pub fill_rows-returns-in_err-own-clause-flat : goal.fill_rows-returns-in_err-own-clause-flat
fill_rows-returns-in_err-own-clause-flat t c =
    let b = definitions_data c.args.by.now.definitions.now in let fs = c.args.frames.now.items in let rows = c.args.rows.now in let head = front_data b fs rows.front in let ps = pieces_at b fs rows.pieces.items in let apart = end_apart b fs rows.front c.requires.rows.ends in let halt = c.in_err-own.field-0.0 in let size = c.row_levels-above.ensures ∙ ap (λ xs. link_levels (map piece_link xs)) c.deref.ensures.value ∙ sym (levels_same b fs rows.pieces.items) in let here = c.if-levels-above.false in let first = c.args.levels - c.row_levels-above.result in
    stop_flat c.args.levels (rows_data b fs rows) halt c.from_residual.result c.from_residual.ensures.1
    (λ e. rows_deep_first head ps apart first c.args.levels (omega (arith, size, here)) (flat_deep first head halt c.in_err-own.ensures.flat e))

pub fill_rows-overflow_sub-left : goal.fill_rows-overflow_sub-left
fill_rows-overflow_sub-left t c =
    let b = definitions_data c.args.by.now.definitions.now in let fs = c.args.frames.now.items in
    small c.args.room (front_data b fs c.args.rows.now.front) c.in_ok-own.own c.in_ok-own.ensures.made

pub fill_rows-returns-in-Err-clause-made : goal.fill_rows-returns-in-Err-clause-made
fill_rows-returns-in-Err-clause-made t c =
    let b = definitions_data c.args.by.now.definitions.now in let fs = c.args.frames.now.items in let rows = c.args.rows.now in let head = front_data b fs rows.front in let ps = pieces_at b fs rows.pieces.items in let own = c.in_ok-own.own in let kept = c.in_ok-own.ensures.frames in let low = small c.args.room head own c.in_ok-own.ensures.made in let nodes = nodes_are c.args.room head own c.in_ok-own.ensures.made in let rest = subst (λ xs. MakesLinks (c.args.room - own.nodes) (pieces_at b fs xs) c.new-all.result.items c.fill_links.new.all.items (Err c.in-Err.halt)) c.deref-2.ensures.value (subst (λ xs. MakesLinks (c.args.room - own.nodes) (pieces_at b xs c.deref-2.result.now) c.new-all.result.items c.fill_links.new.all.items (Err c.in-Err.halt)) kept c.in-Err.ensures.made) in
    stop c.args.room (rows_data b fs rows) c.in-Err.halt c.stop_chain.result c.stop_chain.ensures
    (λ e. let few = large_links (c.args.room - own.nodes) ps _ _ c.in-Err.halt rest e in let all = tree_nodes-chained head ps in omega (arith, few, all, low, nodes))

pub fill_rows-returns-in-Err-clause-flat : goal.fill_rows-returns-in-Err-clause-flat
fill_rows-returns-in-Err-clause-flat t c =
    let b = definitions_data c.args.by.now.definitions.now in let fs = c.args.frames.now.items in let rows = c.args.rows.now in let head = front_data b fs rows.front in let ps = pieces_at b fs rows.pieces.items in let apart = end_apart b fs rows.front c.requires.rows.ends in let own = c.in_ok-own.own in let kept = c.in_ok-own.ensures.frames in let size = c.row_levels-above.ensures ∙ ap (λ xs. link_levels (map piece_link xs)) c.deref.ensures.value ∙ sym (levels_same b fs rows.pieces.items) in let here = c.if-levels-above.false in let first = c.args.levels - c.row_levels-above.result in let rest = subst (λ xs. AreFlatLinks first (pieces_at b fs xs) (Err c.in-Err.halt)) c.deref-2.ensures.value (subst (λ xs. AreFlatLinks first (pieces_at b xs c.deref-2.result.now) (Err c.in-Err.halt)) kept c.in-Err.ensures.flat) in
    stop_flat c.args.levels (rows_data b fs rows) c.in-Err.halt c.stop_chain.result c.stop_chain.ensures
    (λ e. rows_deep_links head ps apart first c.args.levels (omega (arith, size, here)) (links_deep first ps c.in-Err.halt rest e))

pub fill_rows-chain_of-requires : goal.fill_rows-chain_of-requires
fill_rows-chain_of-requires t c =
    let b = definitions_data c.args.by.now.definitions.now in let fs = c.args.frames.now.items in let rows = c.args.rows.now in let head = front_data b fs rows.front in let ps = pieces_at b fs rows.pieces.items in let own = c.in_ok-own.own in let kept = c.in_ok-own.ensures.frames in let low = small c.args.room head own c.in_ok-own.ensures.made in let rest = subst (λ xs. MakesLinks (c.args.room - own.nodes) (pieces_at b fs xs) c.new-all.result.items c.fill_links.new.all.items (Ok c.in-Ok.nodes)) c.deref-2.ensures.value (subst (λ xs. MakesLinks (c.args.room - own.nodes) (pieces_at b xs c.deref-2.result.now) c.new-all.result.items c.fill_links.new.all.items (Ok c.in-Ok.nodes)) kept c.in-Ok.ensures.made) in let few = small_links (c.args.room - own.nodes) ps _ _ c.in-Ok.nodes rest in let count = links_count (c.args.room - own.nodes) ps _ _ c.in-Ok.nodes rest in let are = links_are (c.args.room - own.nodes) ps _ _ c.in-Ok.nodes rest ∙ ap (λ xs. map link_data xs ++ ps) c.new-all.ensures.items in
    record { counted = count ∙ ap link_nodes (sym are); fits = omega (arith, low, few) }

pub fill_rows-returns-in-Ok-clause-made : goal.fill_rows-returns-in-Ok-clause-made
fill_rows-returns-in-Ok-clause-made t c =
    let b = definitions_data c.args.by.now.definitions.now in let fs = c.args.frames.now.items in let rows = c.args.rows.now in let head = front_data b fs rows.front in let ps = pieces_at b fs rows.pieces.items in let own = c.in_ok-own.own in let kept = c.in_ok-own.ensures.frames in let first = tree_is c.args.room head own c.in_ok-own.ensures.made in let made = subst (λ xs. MakesLinks (c.args.room - own.nodes) (pieces_at b fs xs) c.new-all.result.items c.fill_links.new.all.items (Ok c.in-Ok.nodes)) c.deref-2.ensures.value (subst (λ xs. MakesLinks (c.args.room - own.nodes) (pieces_at b xs c.deref-2.result.now) c.new-all.result.items c.fill_links.new.all.items (Ok c.in-Ok.nodes)) kept c.in-Ok.ensures.made) in let rest = links_are (c.args.room - own.nodes) ps _ _ c.in-Ok.nodes made ∙ ap (λ xs. map link_data xs ++ ps) c.new-all.ensures.items in
    same c.args.room _ _ c.chain_of.result (λ j. chained (first j) (rest j)) c.chain_of.ensures.made

pub fill_rows-returns-in-Ok-clause-flat : goal.fill_rows-returns-in-Ok-clause-flat
fill_rows-returns-in-Ok-clause-flat t c =
    let b = definitions_data c.args.by.now.definitions.now in let fs = c.args.frames.now.items in let rows = c.args.rows.now in let head = front_data b fs rows.front in let ps = pieces_at b fs rows.pieces.items in let apart = end_apart b fs rows.front c.requires.rows.ends in let own = c.in_ok-own.own in let kept = c.in_ok-own.ensures.frames in let size = c.row_levels-above.ensures ∙ ap (λ xs. link_levels (map piece_link xs)) c.deref.ensures.value ∙ sym (levels_same b fs rows.pieces.items) in let here = c.if-levels-above.false in let first = c.args.levels - c.row_levels-above.result in let made = subst (λ xs. AreFlatLinks first (pieces_at b fs xs) (Ok c.in-Ok.nodes)) c.deref-2.ensures.value (subst (λ xs. AreFlatLinks first (pieces_at b xs c.deref-2.result.now) (Ok c.in-Ok.nodes)) kept c.in-Ok.ensures.flat) in
    flat_of c.args.levels (rows_data b fs rows) c.chain_of.result
    (rows_flat head ps apart first c.args.levels (omega (arith, size, here)) (flat_ok first head own c.in_ok-own.ensures.flat) (links_ok first ps c.in-Ok.nodes made))
    c.chain_of.ensures.not_deep

-- ---- operators one by one

pub fill_links-loop-place-preserved : goal.fill_links-loop-place-preserved
fill_links-loop-place-preserved t c =
    let b = definitions_data c.args.by.now.definitions.now in let fs = c.args.frames.now.items in let ps = c.args.pieces.now in let p = c.index-pieces-place.result in let k = c.loop-place.place in let below = c.loop-place-test.true in let before = c.loop-place.invariant in let left = c.loop-place.left in let levels = c.loop-place.levels in let is = c.index-pieces-place.is in let at = filled_at b fs p.frame (resolved_data p.link.now.second) in let second = c.in_ok-second.second in let made = subst (λ xs. Makes left (filled_at b xs p.frame (resolved_data p.link.now.second)) (Ok second)) before.frames c.in_ok-second.ensures.made in let flat = subst (λ xs. IsFlat levels (filled_at b xs p.frame (resolved_data p.link.now.second)) (Ok second)) before.frames c.in_ok-second.ensures.flat in let f = c.index.result.now in let kept = c.in_ok-second.ensures.frames ∙ before.frames in let brought = brought_is b fs p.frame f (slice_get_read fs (length fs) p.frame f refl (within_at (length fs) ps k p below is c.requires.within) (subst (λ xs. f ≡ get_or xs p.frame f) kept c.index.ensures)) in let own : placed_link f.brought (link_data p.link.now) (resolved_data second.tree.value) ≡ piece_at b fs p = (λ j. placed_link (sym brought j) (link_data p.link.now) (tree_is left at second made j)) in let nodes = nodes_are left at second made in let more = piece_nodes_left b fs ps k p below is in let taken = c.in_ok-rest.ensures.left in let behind' = rows_left ps k below in
    record {
      frames = kept;
      place = let so_far = before.place in let end = c.own_levels-levels.ensures in omega (arith, so_far, behind', end);
      same = piece_made b fs ps k p below is (map link_data c.loop-place.all.items) _ (map link_data c.args.all.now.items ++ pieces_at b fs ps) _ own c.in_ok-rest.ensures.added before.same;
      small = let low = before.small in omega (arith, low, taken);
      room = let count = before.room in omega (arith, count, taken, nodes, more);
      flat = ap (λ n. are_flat_above (levels + n) (pieces_at b fs (drop (k + 1) ps))) c.own_levels-levels.ensures ∙ links_flat_on b fs ps k p below is levels (flat_ok levels at second flat) ∙ before.flat;
    }

pub fill_links-returns-in_err-second-clause-made : goal.fill_links-returns-in_err-second-clause-made
fill_links-returns-in_err-second-clause-made t c =
    let b = definitions_data c.args.by.now.definitions.now in let fs = c.args.frames.now.items in let ps = c.args.pieces.now in let p = c.index-pieces-place.result in let k = c.loop-place.place in let below = c.loop-place-test.true in let before = c.loop-place.invariant in let left = c.loop-place.left in let is = c.index-pieces-place.is in let at = filled_at b fs p.frame (resolved_data p.link.now.second) in let halt = c.in_err-second.field-0.0 in let count = before.room in let more = piece_nodes_left b fs ps k p below is in let made = subst (λ xs. Makes left (filled_at b xs p.frame (resolved_data p.link.now.second)) (Err c.in_err-second.field-0.0)) before.frames c.in_err-second.ensures.made in
    stop_links c.args.room (pieces_at b fs ps) _ _ halt c.from_residual.result c.from_residual.ensures.1
    (λ e. let few = large left at halt made e in omega (arith, few, count, more))

pub fill_links-returns-in_err-second-clause-flat : goal.fill_links-returns-in_err-second-clause-flat
fill_links-returns-in_err-second-clause-flat t c =
    let b = definitions_data c.args.by.now.definitions.now in let fs = c.args.frames.now.items in let ps = c.args.pieces.now in let p = c.index-pieces-place.result in let k = c.loop-place.place in let below = c.loop-place-test.true in let before = c.loop-place.invariant in let levels = c.loop-place.levels in let is = c.index-pieces-place.is in let at = filled_at b fs p.frame (resolved_data p.link.now.second) in let halt = c.in_err-second.field-0.0 in let flat = subst (λ xs. IsFlat levels (filled_at b xs p.frame (resolved_data p.link.now.second)) (Err c.in_err-second.field-0.0)) before.frames c.in_err-second.ensures.flat in
    stop_links_flat c.args.first (pieces_at b fs ps) halt c.from_residual.result c.from_residual.ensures.1
    (λ e. sym before.flat ∙ links_flat_off b fs ps k p below is levels (flat_deep levels at halt flat e))

pub fill_links-returns-in_err-rest-clause-made : goal.fill_links-returns-in_err-rest-clause-made
fill_links-returns-in_err-rest-clause-made t c =
    let b = definitions_data c.args.by.now.definitions.now in let fs = c.args.frames.now.items in let ps = c.args.pieces.now in let p = c.index-pieces-place.result in let k = c.loop-place.place in let below = c.loop-place-test.true in let before = c.loop-place.invariant in let left = c.loop-place.left in let is = c.index-pieces-place.is in let at = filled_at b fs p.frame (resolved_data p.link.now.second) in let second = c.in_ok-second.second in let made = subst (λ xs. Makes left (filled_at b xs p.frame (resolved_data p.link.now.second)) (Ok second)) before.frames c.in_ok-second.ensures.made in let halt = c.in_err-rest.field-0.0 in let count = before.room in let nodes = nodes_are left at second made in let more = piece_nodes_left b fs ps k p below is in
    stop_links c.args.room (pieces_at b fs ps) _ _ halt c.from_residual-in_err-rest.result c.from_residual-in_err-rest.ensures.1
    (λ e. let few = c.in_err-rest.ensures.left e in omega (arith, few, count, more, nodes))

pub fill_links-returns-in_err-rest-clause-flat : goal.fill_links-returns-in_err-rest-clause-flat
fill_links-returns-in_err-rest-clause-flat t c =
    let b = definitions_data c.args.by.now.definitions.now in let fs = c.args.frames.now.items in
    stop_links_flat c.args.first (pieces_at b fs c.args.pieces.now) c.in_err-rest.field-0.0 c.from_residual-in_err-rest.result c.from_residual-in_err-rest.ensures.1
    (λ e. absurd (c.in_err-rest.ensures.not_deep (ap Err e)))

pub fill_links-returns-clause-made : goal.fill_links-returns-clause-made
unfolding MakesLinks
fill_links-returns-clause-made t c =
    let b = definitions_data c.args.by.now.definitions.now in let fs = c.args.frames.now.items in let ps = c.args.pieces.now in let k = c.loop-place.place in let end : length ps ≤ k = (let past = c.loop-place-test.false in omega (arith, past)) in let before = c.loop-place.invariant in let count = before.room in let low = before.small in let none = no_piece_nodes b fs ps k end in
    (all_pieces b fs ps k end (map link_data c.loop-place.all.items) _ before.same, (omega (arith, count, low, none), omega arith))

pub fill_links-returns-clause-flat : goal.fill_links-returns-clause-flat
unfolding AreFlatLinks
fill_links-returns-clause-flat t c =
    let b = definitions_data c.args.by.now.definitions.now in let fs = c.args.frames.now.items in let ps = c.args.pieces.now in let k = c.loop-place.place in let end : length ps ≤ k = (let past = c.loop-place-test.false in omega (arith, past)) in
    sym c.loop-place.invariant.flat ∙ links_flat_end b fs ps k c.loop-place.levels end

-- ---- a quantifier

pub fill_quantified-returns-in_err-inside-clause-made : goal.fill_quantified-returns-in_err-inside-clause-made
fill_quantified-returns-in_err-inside-clause-made t c =
    let b = definitions_data c.args.by.now.definitions.now in let q = quantifier_data c.args.quantifier.now in
    stop c.args.room (form_at b c.args.frames.now.items c.args.frame c.args.first c.args.at q) c.in_err-inside.field-0.0 c.from_residual.result c.from_residual.ensures.1 (λ e. let few = c.in_err-inside.ensures.1 in omega (arith, few))

pub fill_quantified-returns-in_err-inside-clause-flat : goal.fill_quantified-returns-in_err-inside-clause-flat
fill_quantified-returns-in_err-inside-clause-flat t c =
    let b = definitions_data c.args.by.now.definitions.now in let q = quantifier_data c.args.quantifier.now in
    stop_flat (c.args.levels + 1) (form_at b c.args.frames.now.items c.args.frame c.args.first c.args.at q) c.in_err-inside.field-0.0 c.from_residual.result c.from_residual.ensures.1 (λ e. deep_not_large (sym e ∙ c.in_err-inside.ensures.0))

pub fill_quantified-returns-in_err-low-clause-made : goal.fill_quantified-returns-in_err-low-clause-made
fill_quantified-returns-in_err-low-clause-made t c =
    let b = definitions_data c.args.by.now.definitions.now in let fs = c.args.frames.now.items in let i = c.args.frame in let q = c.args.quantifier.now in let low = filled_at b fs i (resolved_data q.low.now) in let high = filled_at b fs i (resolved_data q.high.now) in let copies = each_at b fs i (trees (map resolved_data q.copies.now)) in
    low_large c.args.first c.args.at q.word q.variable q.extent low high copies c.from_residual-in_err-low.result c.args.room c.in_ok-inside.inside c.in_ok-inside.ensures c.in_err-low.field-0.0 c.in_err-low.ensures.made c.from_residual-in_err-low.ensures.1

pub fill_quantified-returns-in_err-low-clause-flat : goal.fill_quantified-returns-in_err-low-clause-flat
fill_quantified-returns-in_err-low-clause-flat t c =
    let b = definitions_data c.args.by.now.definitions.now in let fs = c.args.frames.now.items in let i = c.args.frame in let q = c.args.quantifier.now in let low = filled_at b fs i (resolved_data q.low.now) in let high = filled_at b fs i (resolved_data q.high.now) in let copies = each_at b fs i (trees (map resolved_data q.copies.now)) in
    low_deep c.args.first c.args.at q.word q.variable q.extent low high copies c.from_residual-in_err-low.result c.args.levels c.in_err-low.field-0.0 c.from_residual-in_err-low.ensures.1 (flat_deep c.args.levels low c.in_err-low.field-0.0 c.in_err-low.ensures.flat)

pub fill_quantified-overflow_sub-behind_low : goal.fill_quantified-overflow_sub-behind_low
fill_quantified-overflow_sub-behind_low t c =
    let b = definitions_data c.args.by.now.definitions.now in
    small c.in_ok-inside.inside (filled_at b c.args.frames.now.items c.args.frame (resolved_data c.args.quantifier.now.low.now)) c.in_ok-low.low c.in_ok-low.ensures.made

pub fill_quantified-returns-in_err-high-clause-made : goal.fill_quantified-returns-in_err-high-clause-made
fill_quantified-returns-in_err-high-clause-made t c =
    let b = definitions_data c.args.by.now.definitions.now in let fs = c.args.frames.now.items in let i = c.args.frame in let q = c.args.quantifier.now in let low = filled_at b fs i (resolved_data q.low.now) in let high = filled_at b fs i (resolved_data q.high.now) in let copies = each_at b fs i (trees (map resolved_data q.copies.now)) in let inside = c.in_ok-inside.inside in let lower = c.in_ok-low.low in let halt = c.in_err-high.field-0.0 in let own = subst (λ xs. Makes (inside - lower.nodes) (filled_at b xs i (resolved_data q.high.now)) (Err halt)) c.in_ok-low.ensures.frames c.in_err-high.ensures.made in
    high_large c.args.first c.args.at q.word q.variable q.extent low high copies c.from_residual-in_err-high.result c.args.room inside c.in_ok-inside.ensures lower c.in_ok-low.ensures.made halt own c.from_residual-in_err-high.ensures.1

pub fill_quantified-returns-in_err-high-clause-flat : goal.fill_quantified-returns-in_err-high-clause-flat
fill_quantified-returns-in_err-high-clause-flat t c =
    let b = definitions_data c.args.by.now.definitions.now in let fs = c.args.frames.now.items in let i = c.args.frame in let q = c.args.quantifier.now in let low = filled_at b fs i (resolved_data q.low.now) in let high = filled_at b fs i (resolved_data q.high.now) in let copies = each_at b fs i (trees (map resolved_data q.copies.now)) in let halt = c.in_err-high.field-0.0 in let own = subst (λ xs. IsFlat c.args.levels (filled_at b xs i (resolved_data q.high.now)) (Err halt)) c.in_ok-low.ensures.frames c.in_err-high.ensures.flat in
    high_deep c.args.first c.args.at q.word q.variable q.extent low high copies c.from_residual-in_err-high.result c.args.levels halt c.from_residual-in_err-high.ensures.1 (flat_deep c.args.levels high halt own)

pub fill_quantified-overflow_sub-left : goal.fill_quantified-overflow_sub-left
fill_quantified-overflow_sub-left t c =
    let b = definitions_data c.args.by.now.definitions.now in
    small (c.in_ok-inside.inside - c.in_ok-low.low.nodes) (filled_at b _ c.args.frame (resolved_data c.args.quantifier.now.high.now)) c.in_ok-high.high c.in_ok-high.ensures.made

pub fill_quantified-returns-in-Err-clause-made : goal.fill_quantified-returns-in-Err-clause-made
fill_quantified-returns-in-Err-clause-made t c =
    let b = definitions_data c.args.by.now.definitions.now in let fs = c.args.frames.now.items in let i = c.args.frame in let q = c.args.quantifier.now in let low = filled_at b fs i (resolved_data q.low.now) in let high = filled_at b fs i (resolved_data q.high.now) in let copies = each_at b fs i (trees (map resolved_data q.copies.now)) in let inside = c.in_ok-inside.inside in let lower = c.in_ok-low.low in let upper = c.in_ok-high.high in let halt = c.in-Err.halt in let next = subst (λ xs. Makes (inside - lower.nodes) (filled_at b xs i (resolved_data q.high.now)) (Ok upper)) c.in_ok-low.ensures.frames c.in_ok-high.ensures.made in let own = subst (λ xs. MakesEach ((inside - lower.nodes) - upper.nodes) (each_at b xs i (trees (map resolved_data q.copies.now))) c.new-all.result.items c.fill_operands.new.all.items (Err halt)) (c.in_ok-high.ensures.frames ∙ c.in_ok-low.ensures.frames) c.in-Err.ensures.made in
    copies_large c.args.first c.args.at q.word q.variable q.extent low high copies c.stop_quantifier.result c.args.room inside c.in_ok-inside.ensures lower c.in_ok-low.ensures.made upper next _ _ halt own c.stop_quantifier.ensures

pub fill_quantified-returns-in-Err-clause-flat : goal.fill_quantified-returns-in-Err-clause-flat
fill_quantified-returns-in-Err-clause-flat t c =
    let b = definitions_data c.args.by.now.definitions.now in let fs = c.args.frames.now.items in let i = c.args.frame in let q = c.args.quantifier.now in let low = filled_at b fs i (resolved_data q.low.now) in let high = filled_at b fs i (resolved_data q.high.now) in let copies = each_at b fs i (trees (map resolved_data q.copies.now)) in let halt = c.in-Err.halt in let own = subst (λ xs. AreFlat c.args.levels (each_at b xs i (trees (map resolved_data q.copies.now))) (Err halt)) (c.in_ok-high.ensures.frames ∙ c.in_ok-low.ensures.frames) c.in-Err.ensures.flat in
    copies_deep c.args.first c.args.at q.word q.variable q.extent low high copies c.stop_quantifier.result c.args.levels halt c.stop_quantifier.ensures (each_deep c.args.levels copies halt own)

pub fill_quantified-invariant_of-copies : goal.fill_quantified-invariant_of-copies
fill_quantified-invariant_of-copies t c =
    let b = definitions_data c.args.by.now.definitions.now in let i = c.args.frame in let q = c.args.quantifier.now in let left = (c.in_ok-inside.inside - c.in_ok-low.low.nodes) - c.in_ok-high.high.nodes in let xs = each_at b _ i (trees (map resolved_data q.copies.now)) in
    record { counted = each_count left xs _ _ c.in-Ok.nodes c.in-Ok.ensures.made ∙ ap each_nodes (sym (ap trees (each_are left xs _ _ c.in-Ok.nodes c.in-Ok.ensures.made ∙ ap (λ us. map resolved_data us ++ listed xs) c.new-all.ensures.items) ∙ trees-listed xs)) }

pub fill_quantified-quantifier_above-requires : goal.fill_quantified-quantifier_above-requires
fill_quantified-quantifier_above-requires t c =
    let b = definitions_data c.args.by.now.definitions.now in let fs = c.args.frames.now.items in let i = c.args.frame in let q = c.args.quantifier.now in let low = filled_at b fs i (resolved_data q.low.now) in let high = filled_at b fs i (resolved_data q.high.now) in let copies = each_at b fs i (trees (map resolved_data q.copies.now)) in let inside = c.in_ok-inside.inside in let lower = c.in_ok-low.low in let upper = c.in_ok-high.high in let next = subst (λ xs. Makes (inside - lower.nodes) (filled_at b xs i (resolved_data q.high.now)) (Ok upper)) c.in_ok-low.ensures.frames c.in_ok-high.ensures.made in
    record { fits = all_fit c.args.first c.args.at q.word q.variable q.extent low high copies (Err Deep) c.args.room inside c.in_ok-inside.ensures lower c.in_ok-low.ensures.made upper next c.in-Ok.nodes (small_each ((inside - lower.nodes) - upper.nodes) _ _ _ c.in-Ok.nodes c.in-Ok.ensures.made) }

pub fill_quantified-returns-in-Ok-clause-made : goal.fill_quantified-returns-in-Ok-clause-made
fill_quantified-returns-in-Ok-clause-made t c =
    let b = definitions_data c.args.by.now.definitions.now in let fs = c.args.frames.now.items in let i = c.args.frame in let q = c.args.quantifier.now in let low = filled_at b fs i (resolved_data q.low.now) in let high = filled_at b fs i (resolved_data q.high.now) in let copies = each_at b fs i (trees (map resolved_data q.copies.now)) in let inside = c.in_ok-inside.inside in let lower = c.in_ok-low.low in let upper = c.in_ok-high.high in let left = (inside - lower.nodes) - upper.nodes in let next = subst (λ xs. Makes (inside - lower.nodes) (filled_at b xs i (resolved_data q.high.now)) (Ok upper)) c.in_ok-low.ensures.frames c.in_ok-high.ensures.made in let made = subst (λ xs. MakesEach left (each_at b xs i (trees (map resolved_data q.copies.now))) c.new-all.result.items c.fill_operands.new.all.items (Ok c.in-Ok.nodes)) (c.in_ok-high.ensures.frames ∙ c.in_ok-low.ensures.frames) c.in-Ok.ensures.made in let own = ap trees (each_are left copies _ _ c.in-Ok.nodes made ∙ ap (λ us. map resolved_data us ++ listed copies) c.new-all.ensures.items) ∙ trees-listed copies in
    all_made c.args.first c.args.at q.word q.variable q.extent low high copies c.quantifier_above.result c.args.room inside c.in_ok-inside.ensures lower c.in_ok-low.ensures.made upper next _ own c.quantifier_above.ensures.made

pub fill_quantified-returns-in-Ok-clause-flat : goal.fill_quantified-returns-in-Ok-clause-flat
fill_quantified-returns-in-Ok-clause-flat t c =
    let b = definitions_data c.args.by.now.definitions.now in let fs = c.args.frames.now.items in let i = c.args.frame in let q = c.args.quantifier.now in let low = filled_at b fs i (resolved_data q.low.now) in let high = filled_at b fs i (resolved_data q.high.now) in let copies = each_at b fs i (trees (map resolved_data q.copies.now)) in let two = subst (λ xs. IsFlat c.args.levels (filled_at b xs i (resolved_data q.high.now)) (Ok c.in_ok-high.high)) c.in_ok-low.ensures.frames c.in_ok-high.ensures.flat in let three = subst (λ xs. AreFlat c.args.levels (each_at b xs i (trees (map resolved_data q.copies.now))) (Ok c.in-Ok.nodes)) (c.in_ok-high.ensures.frames ∙ c.in_ok-low.ensures.frames) c.in-Ok.ensures.flat in
    all_flat c.args.first c.args.at q.word q.variable q.extent low high copies c.quantifier_above.result c.args.levels (flat_ok c.args.levels low c.in_ok-low.low c.in_ok-low.ensures.flat) (flat_ok c.args.levels high c.in_ok-high.high two) (each_ok c.args.levels copies c.in-Ok.nodes three) c.quantifier_above.ensures.not_deep

-- ---- a quantifier, or several operands

pub fill_shape-fill_quantified-requires : goal.fill_shape-fill_quantified-requires
fill_shape-fill_quantified-requires t c = (omega arith, (c.requires.framed, c.requires.within))

pub fill_shape-fill_several-requires : goal.fill_shape-fill_several-requires
fill_shape-fill_several-requires t c = (omega arith, (c.requires.framed, (c.requires.within, are_several (form_data c.args.shape.now) c.requires.operator c.in-None.ensures c.in-None-quantifier_in.ensures)))

-- ---- a chain

pub fill_chain-returns-in_err-rows-clause-made : goal.fill_chain-returns-in_err-rows-clause-made
fill_chain-returns-in_err-rows-clause-made t c =
    let b = definitions_data c.args.by.now.definitions.now in
    stop c.args.room (filled_at b c.args.frames.now.items c.args.frame (chained (resolved_data c.args.head.now) (map link_data c.args.links.now))) c.in_err-rows.field-0.0 c.from_residual.result c.from_residual.ensures.1 c.in_err-rows.ensures.unwound

pub fill_chain-returns-in_err-rows-clause-flat : goal.fill_chain-returns-in_err-rows-clause-flat
fill_chain-returns-in_err-rows-clause-flat t c =
    let b = definitions_data c.args.by.now.definitions.now in
    stop_flat c.args.levels (filled_at b c.args.frames.now.items c.args.frame (chained (resolved_data c.args.head.now) (map link_data c.args.links.now))) c.in_err-rows.field-0.0 c.from_residual.result c.from_residual.ensures.1
    (λ e. absurd (c.in_err-rows.ensures.not_deep (ap Err e)))

-- ---- what calls ask

pub fill_rows-fill_front-requires : goal.fill_rows-fill_front-requires
fill_rows-fill_front-requires t c =
    let rows = c.args.rows.now in let here = c.if-levels-above.false in let size = c.row_levels-above.ensures ∙ ap (λ xs. link_levels (map piece_link xs)) c.deref.ensures.value in let some = some_rows (map piece_link rows.pieces.items) (let all = length-map rows.pieces.items piece_link in let one = c.requires.rows.some in omega (arith, all, one)) in
    (omega (arith, here, size, some), (c.requires.framed, c.requires.rows.ends.0))

pub fill_links-fill-requires : goal.fill_links-fill-requires
fill_links-fill-requires t c =
    let fs = c.args.frames.now.items in let ps = c.args.pieces.now in let p = c.index-pieces-place.result in let k = c.loop-place.place in let below = c.loop-place-test.true in let before = c.loop-place.invariant in let all = before.place in let some = some_left ps k below in
    (omega (arith, all, some), (subst AreFrames (sym before.frames) c.requires.framed, subst (λ xs. p.frame < length xs) (sym before.frames) (within_at (length fs) ps k p below c.index-pieces-place.is c.requires.within)))

pub fill_links-index-requires : goal.fill_links-index-requires
fill_links-index-requires t c =
    let fs = c.args.frames.now.items in let ps = c.args.pieces.now in let p = c.index-pieces-place.result in let k = c.loop-place.place in let below = c.loop-place-test.true in let before = c.loop-place.invariant in let here = subst (λ xs. p.frame < length xs) (sym (c.in_ok-second.ensures.frames ∙ before.frames)) (within_at (length fs) ps k p below c.index-pieces-place.is c.requires.within) in let size = c.fill.new.frames.ok in omega (arith, here, size)
