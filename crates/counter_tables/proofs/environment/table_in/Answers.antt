use Rattle.std.proofs.Common.{◌≡◌, ◌∙◌, ◌≤◌, ℕ, Vec, List, [], None, map, length, refl, sym, ap, subst, arith, rules}
use Rattle.std.proofs.lemmas.List.{length-map}
use Rattle.std.specs.declared.alloc.Global.{Global}
use Rattle.spec_model.specs.Values.{Assignment}
use Rattle.spec_model.specs.Games.{outputs_of}
use Rattle.spec_model.specs.GameViews.{game_data}
use Rattle.regions.specs.Rules.{input_count}
use Rattle.gr1_law.specs.Counter.{first_counter}
use Rattle.gr1_env.specs.Solved.{counts_of}
use Rattle.strategy_tables.specs.Views.{node_data}
use Rattle.counter_tables.specs.declared.seats.Seat.{Seat}
use Rattle.counter_tables.specs.Seats.{SeatData, seat_data, seats_of}
use Rattle.counter_tables.specs.Nodes.{AddsRow, AreInGame, AreNodesOf}
use Rattle.counter_tables.specs.Environments.{IsEnvironmentTable}
use Rattle.counter_tables.proofs.Making.{start_with, begun_walk, begun_given, begun_from, walk_stands, seats_inside, lost_with, makes_table}
use Rattle.counter_tables.proofs.Rowing.{outputs_are}
use Rattle.counter_tables.proofs.Moves.{holds_then, holds_same, handed}
use Rattle.counter_tables.proofs.environment.table_in.Goals as goal

pub begin-requires-clause-stands : goal.begin-requires-clause-stands
begin-requires-clause-stands g c = c.requires.play.stands

pub begin-requires-clause-room : goal.begin-requires-clause-room
begin-requires-clause-room g c = c.in_ok-walk.ensures.input ∙ ap input_count (sym c.requires.play.game)

pub row-requires-clause-walk : goal.row-requires-clause-walk
row-requires-clause-walk g c =
    let req = c.requires.play in
    let st = req.stands in
    let d = game_data c.args.game.now in
    let begun = begun_walk g.G.Regions.kept c.args.play.now c.begin.new.play c.in_ok-walk.walk _ d st.0 req.game c.begin.ensures.keeps st.1 st.2 st.3 st.4 st.5 req.few_goals c.in_ok-walk.ensures refl c.begin.ensures.room refl c.begin.new.input.items c.begin.ensures.gives in
    (d, st.0, begun, outputs_are d _ req.outputs)

pub rows-requires : goal.rows-requires
rows-requires g c =
    let req = c.requires.play in
    let st = req.stands in
    let d = game_data c.args.game.now in
    let begun = begun_walk g.G.Regions.kept c.args.play.now c.begin.new.play c.in_ok-walk.walk _ d st.0 req.game c.begin.ensures.keeps st.1 st.2 st.3 st.4 st.5 req.few_goals c.in_ok-walk.ensures refl c.begin.ensures.room refl c.begin.new.input.items c.begin.ensures.gives in
    record { walk = (d, st.0, c.in_ok-first.ensures.walks d st.0 begun, req.outputs) }

pub nodes-requires-clause-counted : goal.nodes-requires-clause-counted
nodes-requires-clause-counted g c =
    let req = c.requires.play in
    let st = req.stands in
    let d = game_data c.args.game.now in
    let begun = begun_walk g.G.Regions.kept c.args.play.now c.begin.new.play c.in_ok-walk.walk _ d st.0 req.game c.begin.ensures.keeps st.1 st.2 st.3 st.4 st.5 req.few_goals c.in_ok-walk.ensures refl c.begin.ensures.room refl c.begin.new.input.items c.begin.ensures.gives in
    let counted = (c.in_ok-rows.ensures.rows d st.0 (c.in_ok-first.ensures.walks d st.0 begun) req.outputs).counted in
    let items : Vec ℕ Global → List ℕ = λ row. row.items in
    let rows = length-map c.in_ok-rows.rows.items items in
    let seats = length-map c.rows.new.self.seats.met.items seat_data in
    omega (arith, counted, rows, seats)

pub nodes-requires-clause-inside : goal.nodes-requires-clause-inside
nodes-requires-clause-inside g c =
    let kept = g.G.Regions.kept in
    let req = c.requires.play in
    let st = req.stands in
    let d = game_data c.args.game.now in
    let play = c.args.play.now in
    let begun = begun_walk kept play c.begin.new.play c.in_ok-walk.walk _ d st.0 req.game c.begin.ensures.keeps st.1 st.2 st.3 st.4 st.5 req.few_goals c.in_ok-walk.ensures refl c.begin.ensures.room refl c.begin.new.input.items c.begin.ensures.gives in
    let walk = c.in_ok-rows.ensures.walks d st.0 (c.in_ok-first.ensures.walks d st.0 begun) in
    let inside = seats_inside d st.0 (length play.layers.items) (counts_of play.layers.items) (lost_with kept play d req.game st.0 st.1 st.2 st.3 st.4 st.5) (seats_of c.rows.new.self.seats) walk.seats in
    subst (λ (vs : List Seat). AreInGame d (map seat_data vs)) (sym c.deref-2.ensures.value) inside

pub returns-in_err-walk-clause-stands : goal.returns-in_err-walk-clause-stands
returns-in_err-walk-clause-stands g c = c.requires.play.stands

pub returns-in_err-walk-clause-keeps : goal.returns-in_err-walk-clause-keeps
returns-in_err-walk-clause-keeps g c = holds_same g.G.Regions.kept c.args.play.now

pub returns-in_err-reply-clause-stands : goal.returns-in_err-reply-clause-stands
returns-in_err-reply-clause-stands g c =
    let st = c.requires.play.stands in
    (st.0, [], [], None, first_counter, (c.begin.ensures.gives st.0 st.1 st.2 st.3 st.4 st.5).stands)

pub returns-in_err-reply-clause-keeps : goal.returns-in_err-reply-clause-keeps
returns-in_err-reply-clause-keeps g c = c.begin.ensures.keeps

pub returns-in_err-first-clause-limit : goal.returns-in_err-first-clause-limit
returns-in_err-first-clause-limit g c = handed _ c.from_residual-in_err-first.result c.in_err-first.field-0.0 c.from_residual-in_err-first.ensures.1 (λ full e h notes b k st.
    let req = c.requires.play in
    let d = game_data c.args.game.now in
    let begun = begun_walk g.G.Regions.kept c.args.play.now c.begin.new.play c.in_ok-walk.walk _ d e req.game c.begin.ensures.keeps h notes b k st req.few_goals c.in_ok-walk.ensures refl c.begin.ensures.room refl c.begin.new.input.items c.begin.ensures.gives in
    c.in_err-first.ensures.limit full d e begun)

pub returns-in_err-first-clause-stands : goal.returns-in_err-first-clause-stands
returns-in_err-first-clause-stands g c =
    let req = c.requires.play in
    let st = req.stands in
    let d = game_data c.args.game.now in
    let begun = begun_walk g.G.Regions.kept c.args.play.now c.begin.new.play c.in_ok-walk.walk _ d st.0 req.game c.begin.ensures.keeps st.1 st.2 st.3 st.4 st.5 req.few_goals c.in_ok-walk.ensures refl c.begin.ensures.room refl c.begin.new.input.items c.begin.ensures.gives in
    walk_stands g.G.Regions.kept c.row.new.play _ d st.0 (c.in_err-first.ensures.walks d st.0 begun)

pub returns-in_err-first-clause-keeps : goal.returns-in_err-first-clause-keeps
returns-in_err-first-clause-keeps g c = holds_then g.G.Regions.kept c.args.play.now c.begin.new.play c.row.new.play c.begin.ensures.keeps c.in_err-first.ensures.keeps

pub returns-in_err-rows-clause-limit : goal.returns-in_err-rows-clause-limit
returns-in_err-rows-clause-limit g c = handed _ c.from_residual-in_err-rows.result c.in_err-rows.field-0.0 c.from_residual-in_err-rows.ensures.1 (λ full e h notes b k st.
    let req = c.requires.play in
    let d = game_data c.args.game.now in
    let begun = begun_walk g.G.Regions.kept c.args.play.now c.begin.new.play c.in_ok-walk.walk _ d e req.game c.begin.ensures.keeps h notes b k st req.few_goals c.in_ok-walk.ensures refl c.begin.ensures.room refl c.begin.new.input.items c.begin.ensures.gives in
    c.in_err-rows.ensures.limit full d e (c.in_ok-first.ensures.walks d e begun))

pub returns-in_err-rows-clause-stands : goal.returns-in_err-rows-clause-stands
returns-in_err-rows-clause-stands g c =
    let req = c.requires.play in
    let st = req.stands in
    let d = game_data c.args.game.now in
    let begun = begun_walk g.G.Regions.kept c.args.play.now c.begin.new.play c.in_ok-walk.walk _ d st.0 req.game c.begin.ensures.keeps st.1 st.2 st.3 st.4 st.5 req.few_goals c.in_ok-walk.ensures refl c.begin.ensures.room refl c.begin.new.input.items c.begin.ensures.gives in
    walk_stands g.G.Regions.kept c.rows.new.play _ d st.0 (c.in_err-rows.ensures.walks d st.0 (c.in_ok-first.ensures.walks d st.0 begun))

pub returns-in_err-rows-clause-keeps : goal.returns-in_err-rows-clause-keeps
returns-in_err-rows-clause-keeps g c =
    let kept = g.G.Regions.kept in
    holds_then kept c.args.play.now c.row.new.play c.rows.new.play (holds_then kept c.args.play.now c.begin.new.play c.row.new.play c.begin.ensures.keeps c.in_ok-first.ensures.keeps) c.in_err-rows.ensures.keeps

pub returns-in_err-nodes-clause-stands : goal.returns-in_err-nodes-clause-stands
returns-in_err-nodes-clause-stands g c =
    let req = c.requires.play in
    let st = req.stands in
    let d = game_data c.args.game.now in
    let begun = begun_walk g.G.Regions.kept c.args.play.now c.begin.new.play c.in_ok-walk.walk _ d st.0 req.game c.begin.ensures.keeps st.1 st.2 st.3 st.4 st.5 req.few_goals c.in_ok-walk.ensures refl c.begin.ensures.room refl c.begin.new.input.items c.begin.ensures.gives in
    walk_stands g.G.Regions.kept c.rows.new.play _ d st.0 (c.in_ok-rows.ensures.walks d st.0 (c.in_ok-first.ensures.walks d st.0 begun))

pub returns-in_err-nodes-clause-keeps : goal.returns-in_err-nodes-clause-keeps
returns-in_err-nodes-clause-keeps g c =
    let kept = g.G.Regions.kept in
    holds_then kept c.args.play.now c.row.new.play c.rows.new.play (holds_then kept c.args.play.now c.begin.new.play c.row.new.play c.begin.ensures.keeps c.in_ok-first.ensures.keeps) c.in_ok-rows.ensures.keeps

pub returns-clause-stands : goal.returns-clause-stands
returns-clause-stands g c =
    let req = c.requires.play in
    let st = req.stands in
    let d = game_data c.args.game.now in
    let begun = begun_walk g.G.Regions.kept c.args.play.now c.begin.new.play c.in_ok-walk.walk _ d st.0 req.game c.begin.ensures.keeps st.1 st.2 st.3 st.4 st.5 req.few_goals c.in_ok-walk.ensures refl c.begin.ensures.room refl c.begin.new.input.items c.begin.ensures.gives in
    walk_stands g.G.Regions.kept c.rows.new.play _ d st.0 (c.in_ok-rows.ensures.walks d st.0 (c.in_ok-first.ensures.walks d st.0 begun))

pub returns-clause-keeps : goal.returns-clause-keeps
returns-clause-keeps g c =
    let kept = g.G.Regions.kept in
    holds_then kept c.args.play.now c.row.new.play c.rows.new.play (holds_then kept c.args.play.now c.begin.new.play c.row.new.play c.begin.ensures.keeps c.in_ok-first.ensures.keeps) c.in_ok-rows.ensures.keeps

pub returns-clause-table : goal.returns-clause-table
returns-clause-table g c =
    let kept = g.G.Regions.kept in
    let req = c.requires.play in
    let st = req.stands in
    let d = game_data c.args.game.now in
    let play = c.args.play.now in
    let x = c.begin.new.input.items in
    let copy : c.in_ok-reply.reply.items ≡ x = search rules in
    let met = seats_of c.row.new.self.seats in
    let seats = seats_of c.rows.new.self.seats in
    let items : Vec ℕ Global → List ℕ = λ row. row.items in
    let rows = map items c.in_ok-rows.rows.items in
    let first = c.in_ok-first.first.items in
    let nodes = map node_data c.in_ok-nodes.nodes.items in
    let are : AreNodesOf d nodes seats rows =
    subst (λ (rs : List (Vec ℕ Global)). AreNodesOf d nodes seats (map items rs)) c.deref-3.ensures.value
    (subst (λ (vs : List Seat). AreNodesOf d nodes (map seat_data vs) (map items c.deref-3.result.now)) c.deref-2.ensures.value c.in_ok-nodes.ensures) in
    let begun = begun_walk kept play c.begin.new.play c.in_ok-walk.walk _ d st.0 req.game c.begin.ensures.keeps st.1 st.2 st.3 st.4 st.5 req.few_goals c.in_ok-walk.ensures refl c.begin.ensures.room refl x c.begin.ensures.gives in
    let walk = c.in_ok-rows.ensures.walks d st.0 (c.in_ok-first.ensures.walks d st.0 begun) in
    let listed : length (outputs_of d) ≤ 1024 = (let same = ap (λ (ys : List Assignment). length ys) req.outputs in let few = req.few_outputs in omega (arith, same, few)) in
    let made = makes_table kept play d req.game met seats x first rows nodes are walk.differ walk.few
    (λ e h notes b k st.
    let now = begun_walk kept play c.begin.new.play c.in_ok-walk.walk _ d e req.game c.begin.ensures.keeps h notes b k st req.few_goals c.in_ok-walk.ensures refl c.begin.ensures.room refl x c.begin.ensures.gives in
    let given = begun_given kept play c.begin.new.play c.in_ok-walk.walk c.in_ok-walk.walk d e req.game c.begin.ensures.keeps h notes b k st req.few_goals c.in_ok-walk.ensures refl refl refl x c.begin.ensures.gives in
    let from = begun_from kept play c.begin.new.play c.in_ok-walk.walk c.in_ok-walk.walk d e req.game c.begin.ensures.keeps h notes b k st req.few_goals c.in_ok-walk.ensures refl refl refl x c.begin.ensures.gives given.0 given.1 in
    let row = c.in_ok-first.ensures.row d e now (start_with given.0 x) from in
    let then = c.in_ok-first.ensures.walks d e now in
    let last = c.in_ok-rows.ensures.walks d e then in
    record {
      seats_end = last.seats;
      rank = given.0;
      given = given.1;
      begins = subst (λ (old : List SeatData). AddsRow d e old met (start_with given.0 x) (outputs_of d) first) c.in_ok-walk.ensures.none
          (subst (λ (ys : List Assignment). AddsRow d e (seats_of c.in_ok-walk.walk.seats) met (start_with given.0 x) ys first) req.outputs row);
      walked = c.in_ok-rows.ensures.rows d e then req.outputs;
    })
    st listed c.args.n c.args.m req.shifts req.denials in
    (record { n = c.args.n; m = c.args.m; reply = c.in_ok-reply.reply.items; first = first; nodes = nodes }, refl, subst (λ (z : Assignment). IsEnvironmentTable kept d c.args.n c.args.m play (record { n = c.args.n; m = c.args.m; reply = z; first = first; nodes = nodes })) (sym copy) made)
