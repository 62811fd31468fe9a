use Rattle.std.proofs.Common.{◌∙◌, ◌+◌, ◌<◌, ◌∷◌, [], ◌++◌, List, Vec, ℕ, map, length, take, sym, ap, subst, arith}
use Rattle.std.specs.declared.alloc.Global.{Global}
use Rattle.std.proofs.lemmas.List.{map-append}
use Rattle.spec_model.specs.GameViews.{game_data}
use Rattle.strategy_tables.specs.Views.{node_data}
use Rattle.counter_tables.specs.Seats.{SeatData, seat_data}
use Rattle.strategy_tables.specs.Tables.{NodeData}
use Rattle.counter_tables.specs.Nodes.{IsNodeOfSeat, AreNodesOf}
use Rattle.counter_tables.proofs.Listing.{mapped_there, mapped_more}
use Rattle.counter_tables.proofs.Seating.{nodes_more}
use Rattle.counter_tables.proofs.nodes.nodes.Goals as goal

pub node-requires : goal.node-requires
node-requires c =
    let seats = c.args.seats.now in
    let i = c.loop-i.i in
    let below = c.loop-i-test.true in
    c.requires.inside i (seat_data c.index-seats-i.result) (mapped_there seat_data seats i c.index-seats-i.result below c.index-seats-i.is)

pub loop-i-preserved : goal.loop-i-preserved
loop-i-preserved c =
    let g = game_data c.args.game.now in
    let seats = c.args.seats.now in
    let rows = c.args.rows.now in
    let i = c.loop-i.i in
    let below = c.loop-i-test.true in
    let counted = c.requires.counted in
    let row_below : i < length rows = omega (arith, below, counted) in
    let seat = c.index-seats-i.result in
    let row = c.index-rows-i.result in
    let items : Vec ℕ Global → List ℕ = λ row. row.items in
    let of = subst (IsNodeOfSeat g (node_data c.in_ok-node.node) (seat_data seat)) c.deref.ensures.value c.in_ok-node.ensures in
    let more = nodes_more g (map node_data c.loop-i.all.items) (map seat_data (take i seats)) (map items (take i rows)) c.loop-i.invariant (node_data c.in_ok-node.node) (seat_data seat) row.items of in
    let at_seats = mapped_more seat_data seats i seat below c.index-seats-i.is in
    let at_rows = mapped_more items rows i row row_below c.index-rows-i.is in
    let at_nodes = ap (map node_data) c.in_ok-push.ensures.items ∙ map-append node_data c.loop-i.all.items (c.in_ok-node.node ∷ []) in
    subst (λ (ns : List NodeData). AreNodesOf g ns (map seat_data (take (i + 1) seats)) (map items (take (i + 1) rows))) (sym at_nodes)
    (subst (λ (qs : List SeatData). AreNodesOf g (map node_data c.loop-i.all.items ++ node_data c.in_ok-node.node ∷ []) qs (map items (take (i + 1) rows))) (sym at_seats)
    (subst (λ (rs : List (List ℕ)). AreNodesOf g (map node_data c.loop-i.all.items ++ node_data c.in_ok-node.node ∷ []) (map seat_data (take i seats) ++ seat_data seat ∷ []) rs) (sym at_rows) more))
