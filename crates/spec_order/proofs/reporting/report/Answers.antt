use Rattle.std.proofs.Common.{◌≡◌, ◌-◌, ◌∙◌, ℕ, take, drop, length, ap, refl, arith}
use Rattle.std.proofs.lemmas.List.{length-map, take_rest}
use Rattle.spec_model.specs.GameViews.{game_data, hidden_data}
use Rattle.spec_order.specs.Orders.{declared, slots_for}
use Rattle.spec_order.proofs.ClimbLemmas.{tables_before, tables_before_last, slots_few, slots_there, declared_best, better_found}
use Rattle.spec_order.proofs.reporting.report.Goals as goal

pub returns-then-nodes-found : goal.returns-then-nodes-found
returns-then-nodes-found c =
    let g = game_data c.args.game.now in
    let found = c.args.found.now in
    record { nodes = c.requires.nodes; better = declared_best g c.args.nodes found.order.items found.nodes c.requires.climbed c.requires.nodes c.if-nodes-found.true }

pub slice_bounds-places_in-count : goal.slice_bounds-places_in-count
slice_bounds-places_in-count c =
    let g = game_data c.args.game.now in
    let found = c.args.found.now in
    let tables : c.len-tables.result ≡ length g.hidden = (let same = length-map c.args.game.now.hidden.items hidden_data in omega (arith, same, c.len-tables.ensures)) in
    let before = tables_before g c.args.slots.now c.requires.slots in
    omega (arith, tables, before)

pub slice_bounds-places_in-start : goal.slice_bounds-places_in-start
slice_bounds-places_in-start c =
    let g = game_data c.args.game.now in
    let found = c.args.found.now in
    let tables : c.len-tables.result ≡ length g.hidden = (let same = length-map c.args.game.now.hidden.items hidden_data in omega (arith, same, c.len-tables.ensures)) in
    let before = tables_before g c.args.slots.now c.requires.slots in
    omega (arith, tables, before)

pub offset_bounds-slots-tables : goal.offset_bounds-slots-tables
offset_bounds-slots-tables c =
    let g = game_data c.args.game.now in
    let found = c.args.found.now in
    let tables : c.len-tables.result ≡ length g.hidden = (let same = length-map c.args.game.now.hidden.items hidden_data in omega (arith, same, c.len-tables.ensures)) in
    let before = tables_before g c.args.slots.now c.requires.slots in
    omega (arith, tables, before)

pub slice_bounds-places_in-count-2 : goal.slice_bounds-places_in-count-2
slice_bounds-places_in-count-2 c =
    let g = game_data c.args.game.now in
    let found = c.args.found.now in
    let tables : c.len-tables.result ≡ length g.hidden = (let same = length-map c.args.game.now.hidden.items hidden_data in omega (arith, same, c.len-tables.ensures)) in
    let before = tables_before_last g c.args.nodes found.order.items found.nodes c.requires.climbed in
    let same = ap length c.deref.ensures.value in
    omega (arith, tables, before, same)

pub slice_bounds-places_in-start-2 : goal.slice_bounds-places_in-start-2
slice_bounds-places_in-start-2 c =
    let g = game_data c.args.game.now in
    let found = c.args.found.now in
    let tables : c.len-tables.result ≡ length g.hidden = (let same = length-map c.args.game.now.hidden.items hidden_data in omega (arith, same, c.len-tables.ensures)) in
    let before = tables_before_last g c.args.nodes found.order.items found.nodes c.requires.climbed in
    let same = ap length c.deref.ensures.value in
    omega (arith, tables, before, same)

pub offset_bounds-deref-tables : goal.offset_bounds-deref-tables
offset_bounds-deref-tables c =
    let g = game_data c.args.game.now in
    let found = c.args.found.now in
    let tables : c.len-tables.result ≡ length g.hidden = (let same = length-map c.args.game.now.hidden.items hidden_data in omega (arith, same, c.len-tables.ensures)) in
    let before = tables_before_last g c.args.nodes found.order.items found.nodes c.requires.climbed in
    let same = ap length c.deref.ensures.value in
    omega (arith, tables, before, same)

pub places_in-requires-clause-there : goal.places_in-requires-clause-there
places_in-requires-clause-there c =
    let g = game_data c.args.game.now in
    let found = c.args.found.now in
    let tables : c.len-tables.result ≡ length g.hidden = (let same = length-map c.args.game.now.hidden.items hidden_data in omega (arith, same, c.len-tables.ensures)) in
    let list = take (length c.args.slots.now - c.len-tables.result) (drop c.len-tables.result c.args.slots.now) in
    let list_is : list ≡ drop (length g.hidden) (slots_for g (declared g)) = take_rest c.args.slots.now c.len-tables.result ∙ (ap (drop c.len-tables.result) c.requires.slots ∙ ap (λ (k : ℕ). drop k (slots_for g (declared g))) tables) in
    let slots = take (length c.deref.result.now - c.len-tables.result) (drop c.len-tables.result c.deref.result.now) in
    let slots_are : slots ≡ drop (length g.hidden) found.order.items = take_rest c.deref.result.now c.len-tables.result ∙ (ap (drop c.len-tables.result) c.deref.ensures.value ∙ ap (λ (k : ℕ). drop k found.order.items) tables) in
    slots_there g c.args.nodes found.order.items found.nodes c.requires.climbed list slots
    list_is slots_are

pub places_in-requires-clause-few : goal.places_in-requires-clause-few
places_in-requires-clause-few c =
    let g = game_data c.args.game.now in
    let found = c.args.found.now in
    let tables : c.len-tables.result ≡ length g.hidden = (let same = length-map c.args.game.now.hidden.items hidden_data in omega (arith, same, c.len-tables.ensures)) in
    let list = take (length c.args.slots.now - c.len-tables.result) (drop c.len-tables.result c.args.slots.now) in
    let list_is : list ≡ drop (length g.hidden) (slots_for g (declared g)) = take_rest c.args.slots.now c.len-tables.result ∙ (ap (drop c.len-tables.result) c.requires.slots ∙ ap (λ (k : ℕ). drop k (slots_for g (declared g))) tables) in
    slots_few g list list_is c.requires.few

pub returns : goal.returns
returns c =
    let g = game_data c.args.game.now in
    let found = c.args.found.now in
    let tables : c.len-tables.result ≡ length g.hidden = (let same = length-map c.args.game.now.hidden.items hidden_data in omega (arith, same, c.len-tables.ensures)) in
    let list = take (length c.args.slots.now - c.len-tables.result) (drop c.len-tables.result c.args.slots.now) in
    let list_is : list ≡ drop (length g.hidden) (slots_for g (declared g)) = take_rest c.args.slots.now c.len-tables.result ∙ (ap (drop c.len-tables.result) c.requires.slots ∙ ap (λ (k : ℕ). drop k (slots_for g (declared g))) tables) in
    let slots = take (length c.deref.result.now - c.len-tables.result) (drop c.len-tables.result c.deref.result.now) in
    let slots_are : slots ≡ drop (length g.hidden) found.order.items = take_rest c.deref.result.now c.len-tables.result ∙ (ap (drop c.len-tables.result) c.deref.ensures.value ∙ ap (λ (k : ℕ). drop k found.order.items) tables) in
    record {
      nodes = c.requires.nodes;
      better = better_found g c.args.nodes found.order.items found.nodes c.requires.climbed c.requires.nodes list slots (record { nodes = found.nodes; order = c.in_ok-order.order })
          list_is slots_are c.in_ok-order.ensures refl c.if-nodes-found.false;
    }
