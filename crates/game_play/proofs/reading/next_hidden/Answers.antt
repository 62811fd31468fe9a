use Rattle.std.proofs.Common.{◌∙◌, map, ap}
use Rattle.spec_model.specs.GameViews.{hidden_data}
use Rattle.spec_model.specs.Games.{Readout}
use Rattle.game_play.specs.Sights.{as_values, nexts_at}
use Rattle.game_play.proofs.reading.next_hidden.Goals as goal

pub returns-clause-cells : goal.returns-clause-cells
returns-clause-cells c = λ s inside lists. c.read_state.ensures s inside (c.parts.ensures s inside lists)

pub returns-clause-next : goal.returns-clause-next
returns-clause-next c = λ s inside lists.
    let cells = c.read_state.ensures s inside (c.parts.ensures s inside lists) in
    c.move_on.ensures
    ∙ (ap (λ hs. as_values (nexts_at (map hidden_data hs) c.read_state.new.cells)) c.deref.ensures.value
    ∙ ap (λ (r : Readout). as_values r.next) cells)
