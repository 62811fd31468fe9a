use Rattle.std.proofs.Common.{ap, ◌∙◌, slice_get}
use Rattle.spec_model.specs.GameViews.{game_data}
use Rattle.spec_model.specs.Games.{inputs_of}
use Rattle.region_rows.specs.Rows.{bit_of}
use Rattle.region_rows.specs.Into.{environment_into, first_place}
use Rattle.region_rows.proofs.FindLaws.{input_found}
use Rattle.region_rows.proofs.finding.first_input.Goals as goal

pub returns : goal.returns
returns c = λ b there tabulated.
    let g = game_data c.args.numbered.now.game in
    ap (slice_get (inputs_of g)) (c.first_stay.ensures ∙ ap (first_place (environment_into (bit_of c.args.t.now))) tabulated) ∙ input_found g b c.args.t.now there
