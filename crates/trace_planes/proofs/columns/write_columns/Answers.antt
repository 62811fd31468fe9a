use Rattle.std.proofs.Common.{◌≡◌, ℕ, ◌<◌, List, map, get_or, refl, ◌∙◌, subst, arith}
use Rattle.spec_model.specs.declared.value.Value.{Value}
use Rattle.spec_model.specs.declared.value.Var.{Var}
use Rattle.spec_model.specs.GameViews.{game_data}
use Rattle.spec_model.specs.Views.{variable_data}
use Rattle.spec_model.specs.Moves.{nothing}
use Rattle.trace_planes.specs.Rows.{HasCodes}
use Rattle.trace_planes.proofs.InColumns.{rest_room, rest_next, position_there, columns_more}
use Rattle.trace_planes.proofs.columns.write_columns.Goals as goal

pub loop-i-init : goal.loop-i-init
loop-i-init c =
    record {
      sized = refl;
      rest = λ ps rows many. rows.listed;
      columns = λ ps rows many i no. absurd (omega (arith, no));
    }

pub split_at-requires : goal.split_at-requires
split_at-requires c =
    let g = game_data c.args.game.now in
    let r = c.requires.rows in
    rest_room g c.args.width r.0 c.args.rows.now r.1 c.loop-i.i (omega (arith, c.loop-i-test.true, r.2)) c.loop-i.rest.now (c.loop-i.invariant.rest r.0 r.1 r.2)

pub moves-requires : goal.moves-requires
moves-requires c =
    let g = game_data c.args.game.now in
    let r = c.requires.rows in (
      get_or r.0 c.loop-i.i nothing,
      position_there g c.args.width r.0 c.args.rows.now r.1 c.loop-i.i (omega (arith, c.loop-i-test.true, r.2)) c.loop-i.rest.now (c.loop-i.invariant.rest r.0 r.1 r.2) c.split_at.result.0.now c.split_at.ensures.front,
    )

pub loop-i-preserved : goal.loop-i-preserved
loop-i-preserved c =
    let g = game_data c.args.game.now in
    let i = c.loop-i.i in
    record {
      sized = c.write_codes.ensures.lengths ∙ c.loop-i.invariant.sized;
      rest = λ ps rows many.
          c.split_at.ensures.back ∙ rest_next g c.args.width ps c.args.rows.now rows i (omega (arith, c.loop-i-test.true, many)) c.loop-i.rest.now (c.loop-i.invariant.rest ps rows many);
      columns = λ ps rows many.
          let p = get_or ps i nothing in
          let at = position_there g c.args.width ps c.args.rows.now rows i (omega (arith, c.loop-i-test.true, many)) c.loop-i.rest.now (c.loop-i.invariant.rest ps rows many) c.split_at.result.0.now c.split_at.ensures.front in
          let parts = c.moves.ensures p at in
          columns_more g ps i c.loop-i.codes c.write_codes.new.codes (omega (arith, c.loop-i-test.true, c.requires.few)) (c.loop-i.invariant.columns ps rows many) c.write_codes.ensures.others
          (subst (λ (x : List Value). HasCodes c.write_codes.new.codes i g.variables (record { input = x; output = p.output })) parts.0
          (subst (λ (y : List Value). HasCodes c.write_codes.new.codes i g.variables (record { input = c.moves.result.0.now; output = y })) parts.1
          (subst (λ (vs : List Var). HasCodes c.write_codes.new.codes i (map variable_data vs) (record { input = c.moves.result.0.now; output = c.moves.result.1.now })) c.deref.ensures.value (c.write_codes.ensures.codes c.if-not-write_codes.false))));
    }

pub returns-clause-columns : goal.returns-clause-columns
returns-clause-columns c = λ written ps rows many.
    let g = game_data c.args.game.now in
    let whole : c.loop-i.i ≡ c.args.count = let most = c.loop-i.auto.i-end in omega (arith, c.loop-i-test.false, most) in
    subst (λ (n : ℕ). (i : ℕ) → i < n → HasCodes c.loop-i.codes i g.variables (get_or ps i nothing)) whole (c.loop-i.invariant.columns ps rows many)
