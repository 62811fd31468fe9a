use Rattle.std.proofs.Common.{◌≡◌, ◌∙◌, Err, length, ap, arith}
use Rattle.std.proofs.lemmas.List.{length-map}
use Rattle.spec_model.specs.GameViews.{game_data, hidden_data}
use Rattle.bdd_store.specs.declared.fault.StoreFault.{StoreFault}
use Rattle.spec_order.proofs.SlotLemmas.{both_widths}
use Rattle.spec_order.proofs.RefusalLemmas.{handed_store, handed_memory}
use Rattle.spec_order.proofs.SearchLemmas.{ready, is_order, counted, full_at_first, ready_still, tables_within, climbed, full_later}
use Rattle.spec_order.proofs.searching.searched.Goals as goal

pub nodes_under-requires-clause-ready : goal.nodes_under-requires-clause-ready
nodes_under-requires-clause-ready c =
    let g = game_data c.args.game.now in
    let scene = c.requires.scene in
    let from = c.args.from.now in
    let to = c.args.to.now in
    let roots = c.args.roots.now in
    let widths_are = c.deref.ensures.value ∙ (c.in_ok-widths.ensures ∙ ap both_widths scene.bits) in
    let slots_are = c.deref-2.ensures.value ∙ c.in_ok-slots.ensures in
    ready g c.args.codes.now from to roots scene c.requires.lines to.state.table.budget c.requires.to c.deref.result.now c.deref-2.result.now widths_are slots_are

pub nodes_under-requires-clause-order : goal.nodes_under-requires-clause-order
nodes_under-requires-clause-order c =
    let g = game_data c.args.game.now in
    let scene = c.requires.scene in
    let from = c.args.from.now in
    let to = c.args.to.now in
    let roots = c.args.roots.now in
    let widths_are = c.deref.ensures.value ∙ (c.in_ok-widths.ensures ∙ ap both_widths scene.bits) in
    let slots_are = c.deref-2.ensures.value ∙ c.in_ok-slots.ensures in
    is_order g c.args.codes.now from to roots scene c.requires.lines to.state.table.budget c.requires.to c.deref.result.now c.deref-2.result.now widths_are slots_are

pub climb-requires-clause-ready : goal.climb-requires-clause-ready
climb-requires-clause-ready c =
    let g = game_data c.args.game.now in
    let scene = c.requires.scene in
    let from = c.args.from.now in
    let to = c.args.to.now in
    let roots = c.args.roots.now in
    let widths_are = c.deref-4.ensures.value ∙ (c.in_ok-widths.ensures ∙ ap both_widths scene.bits) in
    let slots_are = c.in_ok-order.ensures.items ∙ (c.deref-3.ensures.value ∙ c.in_ok-slots.ensures) in
    let first_widths = c.deref.ensures.value ∙ (c.in_ok-widths.ensures ∙ ap both_widths scene.bits) in
    let first_slots = c.deref-2.ensures.value ∙ c.in_ok-slots.ensures in
    let size = counted g c.args.codes.now from to roots scene c.requires.lines to.state.table.budget c.requires.to c.deref.result.now c.deref-2.result.now first_widths first_slots c.in_ok-nodes.nodes c.in_ok-nodes.ensures.counted in
    let tables : c.len-tables.result ≡ length g.hidden = (let same = length-map c.args.game.now.hidden.items hidden_data in omega (arith, same, c.len-tables.ensures)) in
    ready_still g c.args.codes.now from to roots scene c.requires.lines to.state.table.budget c.requires.to c.deref-4.result.now c.in_ok-order.order.items widths_are slots_are c.nodes_under.new.from c.nodes_under.new.to c.in_ok-nodes.ensures.from_stays c.in_ok-nodes.ensures.to_stays c.len-tables.result c.in_ok-nodes.nodes tables size

pub climb-requires-clause-fixed : goal.climb-requires-clause-fixed
climb-requires-clause-fixed c =
    let g = game_data c.args.game.now in
    let scene = c.requires.scene in
    let from = c.args.from.now in
    let to = c.args.to.now in
    let roots = c.args.roots.now in
    let widths_are = c.deref-4.ensures.value ∙ (c.in_ok-widths.ensures ∙ ap both_widths scene.bits) in
    let slots_are = c.in_ok-order.ensures.items ∙ (c.deref-3.ensures.value ∙ c.in_ok-slots.ensures) in
    let first_widths = c.deref.ensures.value ∙ (c.in_ok-widths.ensures ∙ ap both_widths scene.bits) in
    let first_slots = c.deref-2.ensures.value ∙ c.in_ok-slots.ensures in
    let size = counted g c.args.codes.now from to roots scene c.requires.lines to.state.table.budget c.requires.to c.deref.result.now c.deref-2.result.now first_widths first_slots c.in_ok-nodes.nodes c.in_ok-nodes.ensures.counted in
    let tables : c.len-tables.result ≡ length g.hidden = (let same = length-map c.args.game.now.hidden.items hidden_data in omega (arith, same, c.len-tables.ensures)) in
    tables_within g c.args.codes.now from to roots scene c.requires.lines to.state.table.budget c.requires.to c.deref-4.result.now c.in_ok-order.order.items widths_are slots_are c.nodes_under.new.from c.nodes_under.new.to c.in_ok-nodes.ensures.from_stays c.in_ok-nodes.ensures.to_stays c.len-tables.result c.in_ok-nodes.nodes tables size

pub report-requires-clause-slots : goal.report-requires-clause-slots
report-requires-clause-slots c =
    c.deref-5.ensures.value ∙ c.in_ok-slots.ensures

pub report-requires-clause-nodes : goal.report-requires-clause-nodes
report-requires-clause-nodes c =
    let g = game_data c.args.game.now in
    let scene = c.requires.scene in
    let from = c.args.from.now in
    let to = c.args.to.now in
    let roots = c.args.roots.now in
    let widths_are = c.deref.ensures.value ∙ (c.in_ok-widths.ensures ∙ ap both_widths scene.bits) in
    let slots_are = c.deref-2.ensures.value ∙ c.in_ok-slots.ensures in
    counted g c.args.codes.now from to roots scene c.requires.lines to.state.table.budget c.requires.to c.deref.result.now c.deref-2.result.now widths_are slots_are c.in_ok-nodes.nodes c.in_ok-nodes.ensures.counted

pub report-requires-clause-climbed : goal.report-requires-clause-climbed
report-requires-clause-climbed c =
    let g = game_data c.args.game.now in
    let scene = c.requires.scene in
    let from = c.args.from.now in
    let to = c.args.to.now in
    let roots = c.args.roots.now in
    let widths_are = c.deref-4.ensures.value ∙ (c.in_ok-widths.ensures ∙ ap both_widths scene.bits) in
    let slots_are = c.in_ok-order.ensures.items ∙ (c.deref-3.ensures.value ∙ c.in_ok-slots.ensures) in
    let first_widths = c.deref.ensures.value ∙ (c.in_ok-widths.ensures ∙ ap both_widths scene.bits) in
    let first_slots = c.deref-2.ensures.value ∙ c.in_ok-slots.ensures in
    let size = counted g c.args.codes.now from to roots scene c.requires.lines to.state.table.budget c.requires.to c.deref.result.now c.deref-2.result.now first_widths first_slots c.in_ok-nodes.nodes c.in_ok-nodes.ensures.counted in
    let tables : c.len-tables.result ≡ length g.hidden = (let same = length-map c.args.game.now.hidden.items hidden_data in omega (arith, same, c.len-tables.ensures)) in
    climbed g c.args.codes.now from to roots scene c.requires.lines to.state.table.budget c.requires.to c.deref-4.result.now c.in_ok-order.order.items widths_are slots_are c.nodes_under.new.from c.nodes_under.new.to c.in_ok-nodes.ensures.from_stays c.in_ok-nodes.ensures.to_stays c.len-tables.result c.in_ok-nodes.nodes tables size c.in_ok-found.found.order.items c.in_ok-found.found.nodes c.in_ok-found.ensures.climbed

pub returns-in_err-widths-clause-refused : goal.returns-in_err-widths-clause-refused
returns-in_err-widths-clause-refused c =
    handed_memory (game_data c.args.game.now) c.args.to.now.state.table.budget c.from_residual.result c.from_residual.ensures.1

pub returns-in_err-slots-clause-refused : goal.returns-in_err-slots-clause-refused
returns-in_err-slots-clause-refused c =
    handed_memory (game_data c.args.game.now) c.args.to.now.state.table.budget c.from_residual-in_err-slots.result c.from_residual-in_err-slots.ensures.1

pub returns-in_err-order-clause-refused : goal.returns-in_err-order-clause-refused
returns-in_err-order-clause-refused c =
    handed_memory (game_data c.args.game.now) c.args.to.now.state.table.budget c.from_residual-in_err-order.result c.from_residual-in_err-order.ensures.1

pub returns-in_err-told-clause-refused : goal.returns-in_err-told-clause-refused
returns-in_err-told-clause-refused c =
    handed_memory (game_data c.args.game.now) c.args.to.now.state.table.budget c.from_residual-in_err-told.result c.from_residual-in_err-told.ensures.1

pub returns-in_err-nodes-clause-refused : goal.returns-in_err-nodes-clause-refused
returns-in_err-nodes-clause-refused c =
    let g = game_data c.args.game.now in
    let scene = c.requires.scene in
    let from = c.args.from.now in
    let to = c.args.to.now in
    let roots = c.args.roots.now in
    let widths_are = c.deref.ensures.value ∙ (c.in_ok-widths.ensures ∙ ap both_widths scene.bits) in
    let slots_are = c.deref-2.ensures.value ∙ c.in_ok-slots.ensures in
    handed_store g to.state.table.budget c.from_residual-in_err-nodes.result c.in_err-nodes.field-0.0 c.from_residual-in_err-nodes.ensures.1
    (λ is. full_at_first g c.args.codes.now from to roots scene c.requires.lines to.state.table.budget c.requires.to c.deref.result.now c.deref-2.result.now widths_are slots_are c.nodes_under.new.to c.in_err-nodes.ensures.to_stays (c.in_err-nodes.ensures.full (ap (λ (k : StoreFault). Err k) is)))

pub returns-in_err-found-clause-refused : goal.returns-in_err-found-clause-refused
returns-in_err-found-clause-refused c =
    let g = game_data c.args.game.now in
    let scene = c.requires.scene in
    let from = c.args.from.now in
    let to = c.args.to.now in
    let roots = c.args.roots.now in
    let widths_are = c.deref-4.ensures.value ∙ (c.in_ok-widths.ensures ∙ ap both_widths scene.bits) in
    let slots_are = c.in_ok-order.ensures.items ∙ (c.deref-3.ensures.value ∙ c.in_ok-slots.ensures) in
    let first_widths = c.deref.ensures.value ∙ (c.in_ok-widths.ensures ∙ ap both_widths scene.bits) in
    let first_slots = c.deref-2.ensures.value ∙ c.in_ok-slots.ensures in
    let size = counted g c.args.codes.now from to roots scene c.requires.lines to.state.table.budget c.requires.to c.deref.result.now c.deref-2.result.now first_widths first_slots c.in_ok-nodes.nodes c.in_ok-nodes.ensures.counted in
    let tables : c.len-tables.result ≡ length g.hidden = (let same = length-map c.args.game.now.hidden.items hidden_data in omega (arith, same, c.len-tables.ensures)) in
    handed_store g to.state.table.budget c.from_residual-in_err-found.result c.in_err-found.field-0.0 c.from_residual-in_err-found.ensures.1
    (λ is. full_later g c.args.codes.now from to roots scene c.requires.lines to.state.table.budget c.requires.to c.deref-4.result.now c.in_ok-order.order.items widths_are slots_are c.nodes_under.new.from c.nodes_under.new.to c.in_ok-nodes.ensures.from_stays c.in_ok-nodes.ensures.to_stays c.len-tables.result c.in_ok-nodes.nodes tables size c.climb.new.to c.in_err-found.ensures.stays.1 (c.in_err-found.ensures.full (ap (λ (k : StoreFault). Err k) is)))
