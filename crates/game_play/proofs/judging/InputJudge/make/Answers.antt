use Rattle.std.proofs.Common.{◌∙◌}
use Rattle.spec_model.specs.GameViews.{game_data}
use Rattle.spec_model.specs.Steps.{waits_for_output}
use Rattle.game_values.proofs.WholeTables.{tables_whole, map-flags}
use Rattle.game_play.proofs.judging.InputJudge.make.Goals as goal

pub waits-requires : goal.waits-requires
waits-requires c = rw c.deref-3.ensures.value (tables_whole _ c.args.game.now.hidden.items c.requires.hidden)

pub returns : goal.returns
returns c =
    let g = game_data c.args.game.now in
    record {
      waits = rw (c.deref.ensures.value, c.deref-2.ensures.value, c.deref-3.ensures.value) at c.in_ok-waits.ensures ∙ map-flags (waits_for_output g) c.args.game.now.safe_asm.items;
      output = rw c.deref-4.ensures.value at c.in_ok-first_output.ensures;
    }
