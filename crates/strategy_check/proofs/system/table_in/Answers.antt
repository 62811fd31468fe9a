use Rattle.std.proofs.Common.{◌≤◌, ℕ, Vec, List, [], None, map, length, refl, sym, ap, subst, arith}
use Rattle.std.specs.declared.alloc.Global.{Global}
use Rattle.spec_model.specs.Values.{Assignment}
use Rattle.spec_model.specs.Games.{inputs_of}
use Rattle.spec_model.specs.GameViews.{game_data}
use Rattle.std.proofs.lemmas.List.{length-map}
use Rattle.spec_model.specs.Rules.{Run}
use Rattle.spec_model.specs.Steps.{Before}
use Rattle.spec_model.specs.Sets.{StateSet}
use Rattle.gr1_law.specs.Layers.{LayerSets}
use Rattle.gr1_law.specs.Choice.{Memory, first_memory}
use Rattle.controller.specs.Objects.{StandsFor}
use Rattle.gr1_sys.specs.Held.{ranks_of}
use Rattle.strategy_tables.specs.Views.{node_data}
use Rattle.strategy_check.specs.Seats.{SeatData, seat_data, seats_of}
use Rattle.strategy_check.specs.Nodes.{AddsRow, AreInGame, AreNodesOf}
use Rattle.strategy_check.specs.declared.seats.Seat.{Seat}
use Rattle.strategy_check.proofs.Limits.{limit_by}
use Rattle.strategy_check.proofs.Leading.{walk_begins}
use Rattle.strategy_check.proofs.Making.{HasWalked, inputs_are, stands_plays, plays_stand, seats_inside, won_with, makes_table}
use Rattle.strategy_check.proofs.Moves.{holds_then}
use Rattle.strategy_check.proofs.system.table_in.Goals as goal

pub row-requires-clause-walk : goal.row-requires-clause-walk
row-requires-clause-walk g c =
    let req = c.requires.play in
    let st = req.stands in
    let d = game_data c.args.game.now in
    let plays = stands_plays g.G.Regions.kept c.args.play.now d req.game st.0 st.1 st.2 st.3 st.4 st.5 in
    (d, st.0, st.1, walk_begins g.G.Regions.kept c.args.play.now _ d st.0 st.1 plays req.few_goals c.in_ok-walk.ensures, inputs_are d _ req.inputs)

pub rows-requires : goal.rows-requires
rows-requires g c =
    let req = c.requires.play in
    let st = req.stands in
    let d = game_data c.args.game.now in
    let plays = stands_plays g.G.Regions.kept c.args.play.now d req.game st.0 st.1 st.2 st.3 st.4 st.5 in
    let begins = walk_begins g.G.Regions.kept c.args.play.now _ d st.0 st.1 plays req.few_goals c.in_ok-walk.ensures in
    record { walk = (d, st.0, st.1, c.in_ok-first.ensures.walks d st.0 st.1 begins, req.inputs) }

pub nodes-requires-clause-counted : goal.nodes-requires-clause-counted
nodes-requires-clause-counted g c =
    let req = c.requires.play in
    let st = req.stands in
    let d = game_data c.args.game.now in
    let plays = stands_plays g.G.Regions.kept c.args.play.now d req.game st.0 st.1 st.2 st.3 st.4 st.5 in
    let begins = walk_begins g.G.Regions.kept c.args.play.now _ d st.0 st.1 plays req.few_goals c.in_ok-walk.ensures in
    let walk = c.in_ok-first.ensures.walks d st.0 st.1 begins in
    let walked = c.in_ok-rows.ensures.rows d st.0 st.1 walk req.inputs in
    let counted = walked.counted in
    let rows = length-map c.in_ok-rows.rows.items (λ (row : Vec ℕ Global). row.items) in
    let met = length-map c.rows.new.self.seats.met.items seat_data in
    let seats_are = ap (λ (vs : List Seat). length vs) c.deref.ensures.value in
    let rows_are = ap (λ (vs : List (Vec ℕ Global)). length vs) c.deref-2.ensures.value in
    omega (arith, counted, rows, met, seats_are, rows_are)

pub nodes-requires-clause-inside : goal.nodes-requires-clause-inside
nodes-requires-clause-inside g c =
    let kept = g.G.Regions.kept in
    let req = c.requires.play in
    let st = req.stands in
    let d = game_data c.args.game.now in
    let play = c.args.play.now in
    let plays = stands_plays kept play d req.game st.0 st.1 st.2 st.3 st.4 st.5 in
    let begins = walk_begins kept play _ d st.0 st.1 plays req.few_goals c.in_ok-walk.ensures in
    let walk = c.in_ok-rows.ensures.walks d st.0 st.1 (c.in_ok-first.ensures.walks d st.0 st.1 begins) in
    let inside = seats_inside d st.0 st.1 (ranks_of play.layers.items) (won_with kept play d req.game st.0 st.1 st.2 st.3 st.4 st.5) (seats_of c.rows.new.self.seats) walk.seats in
    subst (λ (vs : List Seat). AreInGame d (map seat_data vs)) (sym c.deref.ensures.value) inside

pub returns-in_err-first-clause-limit : goal.returns-in_err-first-clause-limit
returns-in_err-first-clause-limit g c = limit_by c.from_residual-in_err-first.result c.in_err-first.field-0.0 _ c.from_residual-in_err-first.ensures.1 (λ full z l h b m st.
    let req = c.requires.play in
    let d = game_data c.args.game.now in
    let plays = stands_plays g.G.Regions.kept c.args.play.now d req.game z l h b m st in
    c.in_err-first.ensures.limit full d z l (walk_begins g.G.Regions.kept c.args.play.now _ d z l plays req.few_goals c.in_ok-walk.ensures))

pub returns-in_err-first-clause-stands : goal.returns-in_err-first-clause-stands
returns-in_err-first-clause-stands g c =
    let req = c.requires.play in
    let st = req.stands in
    let d = game_data c.args.game.now in
    let plays = stands_plays g.G.Regions.kept c.args.play.now d req.game st.0 st.1 st.2 st.3 st.4 st.5 in
    let walk = c.in_err-first.ensures.walks d st.0 st.1 (walk_begins g.G.Regions.kept c.args.play.now _ d st.0 st.1 plays req.few_goals c.in_ok-walk.ensures) in
    plays_stand g.G.Regions.kept _ d st.0 st.1 walk.plays

pub returns-in_err-rows-clause-limit : goal.returns-in_err-rows-clause-limit
returns-in_err-rows-clause-limit g c = limit_by c.from_residual-in_err-rows.result c.in_err-rows.field-0.0 _ c.from_residual-in_err-rows.ensures.1 (λ full z l h b m st.
    let req = c.requires.play in
    let d = game_data c.args.game.now in
    let plays = stands_plays g.G.Regions.kept c.args.play.now d req.game z l h b m st in
    c.in_err-rows.ensures.limit full d z l (c.in_ok-first.ensures.walks d z l (walk_begins g.G.Regions.kept c.args.play.now _ d z l plays req.few_goals c.in_ok-walk.ensures)))

pub returns-in_err-rows-clause-stands : goal.returns-in_err-rows-clause-stands
returns-in_err-rows-clause-stands g c =
    let req = c.requires.play in
    let st = req.stands in
    let d = game_data c.args.game.now in
    let plays = stands_plays g.G.Regions.kept c.args.play.now d req.game st.0 st.1 st.2 st.3 st.4 st.5 in
    let walk = c.in_err-rows.ensures.walks d st.0 st.1 (c.in_ok-first.ensures.walks d st.0 st.1 (walk_begins g.G.Regions.kept c.args.play.now _ d st.0 st.1 plays req.few_goals c.in_ok-walk.ensures)) in
    plays_stand g.G.Regions.kept _ d st.0 st.1 walk.plays

pub returns-in_err-rows-clause-keeps : goal.returns-in_err-rows-clause-keeps
returns-in_err-rows-clause-keeps g c = holds_then g.G.Regions.kept c.args.play.now c.row.new.play c.rows.new.play c.in_ok-first.ensures.keeps c.in_err-rows.ensures.keeps

pub returns-clause-keeps : goal.returns-clause-keeps
returns-clause-keeps g c = holds_then g.G.Regions.kept c.args.play.now c.row.new.play c.rows.new.play c.in_ok-first.ensures.keeps c.in_ok-rows.ensures.keeps

pub returns-in_err-nodes-clause-stands : goal.returns-in_err-nodes-clause-stands
returns-in_err-nodes-clause-stands g c =
    let req = c.requires.play in
    let st = req.stands in
    let d = game_data c.args.game.now in
    let plays = stands_plays g.G.Regions.kept c.args.play.now d req.game st.0 st.1 st.2 st.3 st.4 st.5 in
    let walk = c.in_ok-rows.ensures.walks d st.0 st.1 (c.in_ok-first.ensures.walks d st.0 st.1 (walk_begins g.G.Regions.kept c.args.play.now _ d st.0 st.1 plays req.few_goals c.in_ok-walk.ensures)) in
    plays_stand g.G.Regions.kept _ d st.0 st.1 walk.plays

pub returns-in_err-nodes-clause-keeps : goal.returns-in_err-nodes-clause-keeps
returns-in_err-nodes-clause-keeps g c = holds_then g.G.Regions.kept c.args.play.now c.row.new.play c.rows.new.play c.in_ok-first.ensures.keeps c.in_ok-rows.ensures.keeps

pub returns-clause-stands : goal.returns-clause-stands
returns-clause-stands g c =
    let req = c.requires.play in
    let st = req.stands in
    let d = game_data c.args.game.now in
    let plays = stands_plays g.G.Regions.kept c.args.play.now d req.game st.0 st.1 st.2 st.3 st.4 st.5 in
    let walk = c.in_ok-rows.ensures.walks d st.0 st.1 (c.in_ok-first.ensures.walks d st.0 st.1 (walk_begins g.G.Regions.kept c.args.play.now _ d st.0 st.1 plays req.few_goals c.in_ok-walk.ensures)) in
    plays_stand g.G.Regions.kept _ d st.0 st.1 walk.plays

pub returns-clause-table : goal.returns-clause-table
returns-clause-table g c =
    let kept = g.G.Regions.kept in
    let req = c.requires.play in
    let st = req.stands in
    let d = game_data c.args.game.now in
    let play = c.args.play.now in
    let met = seats_of c.row.new.self.seats in
    let seats = seats_of c.rows.new.self.seats in
    let first = c.in_ok-first.first.items in
    let rows = map (λ (row : Vec ℕ Global). row.items) c.in_ok-rows.rows.items in
    let nodes = map node_data c.in_ok-nodes.nodes.items in
    let are = subst (λ (vs : List Seat). AreNodesOf d nodes (map seat_data vs) rows) c.deref.ensures.value
    (subst (λ (vs : List (Vec ℕ Global)). AreNodesOf d nodes (map seat_data c.deref.result.now) (map (λ (row : Vec ℕ Global). row.items) vs)) c.deref-2.ensures.value c.in_ok-nodes.ensures) in
    let begins = λ (z : StateSet) (l : LayerSets) (h : Run) (b : Before) (m : Memory) (st : StandsFor kept play z l h b m). walk_begins kept play c.in_ok-walk.walk d z l (stands_plays kept play d req.game z l h b m st) req.few_goals c.in_ok-walk.ensures in
    let walked : (z : StateSet) (l : LayerSets) (h : Run) (b : Before) (m : Memory) → StandsFor kept play z l h b m → HasWalked d l met seats first rows = λ z l h b m st.
    let walk_0 = begins z l h b m st in
    let walk_1 = c.in_ok-first.ensures.walks d z l walk_0 in
    let row = c.in_ok-first.ensures.row d z l walk_0 [] None first_memory (refl, refl, refl) in
    record {
      ends = (c.in_ok-rows.ensures.walks d z l walk_1).seats;
      begins = subst (λ (old : List SeatData). AddsRow d l old met None first_memory (inputs_of d) first) c.in_ok-walk.ensures.none (subst (λ (xs : List Assignment). AddsRow d l (seats_of c.in_ok-walk.walk.seats) met None first_memory xs first) req.inputs row);
      walked = c.in_ok-rows.ensures.rows d z l walk_1 req.inputs;
    } in
    let walk = c.in_ok-rows.ensures.walks d st.0 st.1 (c.in_ok-first.ensures.walks d st.0 st.1 (begins st.0 st.1 st.2 st.3 st.4 st.5)) in
    let few_inputs = subst (λ (xs : List Assignment). length xs ≤ 1024) req.inputs req.few_inputs in
    (record { k = c.args.k; first = first; nodes = nodes }, refl, makes_table kept play d req.game met seats first rows nodes are walk.differ walk.few walked st few_inputs c.args.k req.rounds)
