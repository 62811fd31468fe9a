use Rattle.std.proofs.Common.{◌≡◌, ℕ, ◌<◌, ◌+◌, ◌*◌, ◌++◌, false, List, length, map, take, get_or, refl, sym, ap, subst, ◌∙◌, arith, Some, IsTrue}
use Rattle.std.proofs.lemmas.List.{append-nil}
use Rattle.spec_model.specs.declared.value.Value.{Value}
use Rattle.spec_model.specs.GameViews.{game_data}
use Rattle.spec_model.specs.GameRules.{last_state}
use Rattle.spec_model.specs.Rules.{Run, Position}
use Rattle.spec_model.specs.Moves.{nothing}
use Rattle.spec_model.specs.Steps.{Before, is_input, is_output, reached}
use Rattle.spec_model.specs.declared.value.Value.TheVariants as value
use Rattle.game_play.specs.Sights.{cell_in}
use Rattle.trace_planes.specs.Audits.{IsAt, IsPosition}
use Rattle.trace_planes.specs.Rows.{state_among}
use Rattle.trace_planes.proofs.InColumns.{rest_room, rest_next, position_there}
use Rattle.trace_planes.proofs.Walking.{at_copy, last_among, cells_there, cells_more}
use Rattle.trace_planes.proofs.walk.write_all_cells.Goals as goal

pub take-requires-clause-state : goal.take-requires-clause-state
take-requires-clause-state c = c.requires.sized.1.state ∙ sym c.requires.rows.2.place.sized.state

pub take-requires-clause-cells : goal.take-requires-clause-cells
take-requires-clause-cells c = c.requires.sized.1.cells ∙ sym c.requires.rows.2.place.sized.cells

pub take-requires-clause-next : goal.take-requires-clause-next
take-requires-clause-next c = c.requires.sized.1.next ∙ sym c.requires.rows.2.place.sized.next

pub loop-i-init : goal.loop-i-init
loop-i-init c =
    let g = game_data c.args.judge.now.game in
    let at_start = λ (h : Run). at_copy g (last_state g h) c.args.judge.now.place c.take.new.self c.take.ensures in
    record {
      sized = refl;
      ahead = (at_start c.requires.rows.0 c.requires.rows.2.place).sized;
      rest = λ ps rows many. rows.listed;
      at = λ h ps judges rows many. subst (λ (r : Run). IsAt g (last_state g r) c.take.new.self) (sym (append-nil h)) (at_start h judges.place);
      cells = λ h ps judges rows many i no. absurd (omega (arith, no));
    }

pub split_at-requires : goal.split_at-requires
split_at-requires c =
    let g = game_data c.args.judge.now.game in
    let r = c.requires.rows in
    rest_room g c.args.width r.1 c.args.rows.now r.3 c.loop-i.i (omega (arith, c.loop-i-test.true, r.4)) c.loop-i.rest.now (c.loop-i.invariant.rest r.1 r.3 r.4)

pub moves-requires : goal.moves-requires
moves-requires c =
    let g = game_data c.args.judge.now.game in
    let r = c.requires.rows in (
      get_or r.1 c.loop-i.i nothing,
      position_there g c.args.width r.1 c.args.rows.now r.3 c.loop-i.i (omega (arith, c.loop-i-test.true, r.4)) c.loop-i.rest.now (c.loop-i.invariant.rest r.1 r.3 r.4) c.split_at.result.0.now c.split_at.ensures.front,
    )

pub go_on-requires-clause-made : goal.go_on-requires-clause-made
go_on-requires-clause-made c = c.requires.rows.2.made

pub go_on-requires-clause-here : goal.go_on-requires-clause-here
go_on-requires-clause-here c =
    let g = game_data c.args.judge.now.game in
    let r = c.requires.rows in
    (last_state g (r.0 ++ take c.loop-i.i r.1), c.loop-i.invariant.at r.0 r.1 r.2 r.3 r.4)

pub go_on-requires-clause-input : goal.go_on-requires-clause-input
go_on-requires-clause-input c =
    let g = game_data c.args.judge.now.game in
    let r = c.requires.rows in
    let p = get_or r.1 c.loop-i.i nothing in
    let at = position_there g c.args.width r.1 c.args.rows.now r.3 c.loop-i.i (omega (arith, c.loop-i-test.true, r.4)) c.loop-i.rest.now (c.loop-i.invariant.rest r.1 r.3 r.4) c.split_at.result.0.now c.split_at.ensures.front in
    subst (λ (x : List Value). IsTrue (is_input g x)) (sym (c.moves.ensures p at).0) at.input

pub go_on-requires-clause-output : goal.go_on-requires-clause-output
go_on-requires-clause-output c =
    let g = game_data c.args.judge.now.game in
    let r = c.requires.rows in
    let p = get_or r.1 c.loop-i.i nothing in
    let at = position_there g c.args.width r.1 c.args.rows.now r.3 c.loop-i.i (omega (arith, c.loop-i-test.true, r.4)) c.loop-i.rest.now (c.loop-i.invariant.rest r.1 r.3 r.4) c.split_at.result.0.now c.split_at.ensures.front in
    subst (λ (y : List Value). IsTrue (is_output g y)) (sym (c.moves.ensures p at).1) at.output

pub write_cells-requires-clause-sized : goal.write_cells-requires-clause-sized
write_cells-requires-clause-sized c =
    let g = game_data c.args.judge.now.game in
    let r = c.requires.rows in
    let at = c.go_on.ensures (last_state g (r.0 ++ take c.loop-i.i r.1)) (c.loop-i.invariant.at r.0 r.1 r.2 r.3 r.4) in
    let many = at.sized.cells in
    let here = ap (λ (vs : List Value). length vs) c.deref.ensures.value in
    omega (arith, many, here, c.loop-i.invariant.sized, c.requires.sized.0)

pub loop-i-preserved : goal.loop-i-preserved
loop-i-preserved c =
    let g = game_data c.args.judge.now.game in
    let i = c.loop-i.i in
    let cells = c.loop-i.cells in
    let new = c.write_cells.new.cells in
    let ahead = c.go_on.new.self in
    let r0 = c.requires.rows in
    record {
      sized = c.write_cells.ensures.lengths ∙ c.loop-i.invariant.sized;
      ahead = (c.go_on.ensures (last_state g (r0.0 ++ take i r0.1)) (c.loop-i.invariant.at r0.0 r0.1 r0.2 r0.3 r0.4)).sized;
      rest = λ ps rows many.
          c.split_at.ensures.back ∙ rest_next g c.args.width ps c.args.rows.now rows i (omega (arith, c.loop-i-test.true, many)) c.loop-i.rest.now (c.loop-i.invariant.rest ps rows many);
      at = λ h ps judges rows many. subst (λ (b : Before). IsAt g b ahead) (sym (last_among g h ps i (omega (arith, c.loop-i-test.true, many)))) (let p = get_or ps i nothing in
          let there = position_there g c.args.width ps c.args.rows.now rows i (omega (arith, c.loop-i-test.true, many)) c.loop-i.rest.now (c.loop-i.invariant.rest ps rows many) c.split_at.result.0.now c.split_at.ensures.front in
          let parts = c.moves.ensures p there in
          let b = last_state g (h ++ take i ps) in
          subst (λ (x : List Value). IsAt g (Some (reached g b x p.output)) ahead) parts.0
          (subst (λ (y : List Value). IsAt g (Some (reached g b c.moves.result.0.now y)) ahead) parts.1 (c.go_on.ensures b (c.loop-i.invariant.at h ps judges rows many))));
      cells = λ h ps judges rows many.
          let written = subst (λ (vs : List Value). (k : ℕ) → k < length vs → get_or new (4096 * k + i) 0 ≡ cell_in (get_or vs k (value.Bool false))) c.deref.ensures.value c.write_cells.ensures.cells in
          cells_more g h ps i cells new (omega (arith, c.loop-i-test.true, c.requires.few)) c.write_cells.ensures.lengths (c.loop-i.invariant.cells h ps judges rows many) c.write_cells.ensures.others
          (cells_there g h ps i new ahead (let p = get_or ps i nothing in
          let there = position_there g c.args.width ps c.args.rows.now rows i (omega (arith, c.loop-i-test.true, many)) c.loop-i.rest.now (c.loop-i.invariant.rest ps rows many) c.split_at.result.0.now c.split_at.ensures.front in
          let parts = c.moves.ensures p there in
          let b = last_state g (h ++ take i ps) in
          subst (λ (x : List Value). IsAt g (Some (reached g b x p.output)) ahead) parts.0
          (subst (λ (y : List Value). IsAt g (Some (reached g b c.moves.result.0.now y)) ahead) parts.1 (c.go_on.ensures b (c.loop-i.invariant.at h ps judges rows many)))) (c.write_cells.ensures.lengths ∙ (c.loop-i.invariant.sized ∙ c.requires.sized.0)) written);
    }
