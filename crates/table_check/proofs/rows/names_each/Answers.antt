use Rattle.std.proofs.Common.{◌≡◌, ◌∙◌, ◌+◌, List, [], ◌∷◌, Some, None, sym, ap, map, drop}
use Rattle.std.proofs.lemmas.List.{drop_all}
use Rattle.spec_model.specs.Values.{Assignment}
use Rattle.table_check.specs.Turns.{before_of, given_of, game_at, nodes_at, is_listed, fits, place_after}
use Rattle.table_check.proofs.Naming.{step_passes, step_fails, names-end}
use Rattle.table_check.proofs.Marking.{drop_here}
use Rattle.table_check.proofs.rows.names_each.Goals as goal

pub place_after-requires-clause-of_game : goal.place_after-requires-clause-of_game
place_after-requires-clause-of_game c =
    let here = drop_here c.args.moves.now c.loop-m.m-index c.m-item.result c.loop-m-test.true c.m-item.is in
    rw c.deref.ensures.value (rw here at c.loop-m.invariant.moves).0

pub loop-m-preserved : goal.loop-m-preserved
loop-m-preserved c =
    let t = c.args.turn.now in
    let g = game_at t in
    let b = before_of t.before in
    let x = given_of c.args.given in
    let row = c.args.row.now in
    let place = c.loop-m.place in
    let here = drop_here c.args.moves.now c.loop-m.m-index c.m-item.result c.loop-m-test.true c.m-item.is in
    let rest = map (λ m. m.items) (drop (c.loop-m.m-index + 1) c.args.moves.now) in
    let is = sym c.in-Some.is ∙ (c.place_after.ensures ∙ ap (λ (m : Assignment). place_after (nodes_at t) (fits g b x m) (is_listed g b x m) row place) c.deref.ensures.value) in
    let step = step_passes (nodes_at t) (fits g b x) (is_listed g b x) c.m-item.result.items rest row place c.in-Some.next c.loop-m.invariant.within is in
    record { within = step.0; moves = (rw here at c.loop-m.invariant.moves).1; same = step.1 ∙ (rw here at c.loop-m.invariant.same) }

pub returns-in-None : goal.returns-in-None
returns-in-None c =
    let t = c.args.turn.now in
    let g = game_at t in
    let b = before_of t.before in
    let x = given_of c.args.given in
    let row = c.args.row.now in
    let place = c.loop-m.place in
    let here = drop_here c.args.moves.now c.loop-m.m-index c.m-item.result c.loop-m-test.true c.m-item.is in
    let rest = map (λ m. m.items) (drop (c.loop-m.m-index + 1) c.args.moves.now) in
    let is = sym c.in-None.is ∙ (c.place_after.ensures ∙ ap (λ (m : Assignment). place_after (nodes_at t) (fits g b x m) (is_listed g b x m) row place) c.deref.ensures.value) in
    step_fails (nodes_at t) (fits g b x) (is_listed g b x) c.m-item.result.items rest row place is ∙ (rw here at c.loop-m.invariant.same)

pub returns : goal.returns
returns c =
    let t = c.args.turn.now in
    let g = game_at t in
    let b = before_of t.before in
    let x = given_of c.args.given in
    let past = drop_all c.loop-m.m-index c.args.moves.now c.loop-m-test.false in
    sym (names-end (nodes_at t) (fits g b x) (is_listed g b x) c.args.row.now c.loop-m.place c.loop-m.invariant.within) ∙ (rw past at c.loop-m.invariant.same)
