use Rattle.std.proofs.Common.{◌∙◌}
use Rattle.spec_model.specs.Views.{spec_data}
use Rattle.hidden_game.proofs.MadeGames.{lines_rise}
use Rattle.solve.proofs.Served.{agrees_with}
use Rattle.worked_rows.proofs.both.play_over.Goals as goal

pub hold-requires : goal.hold-requires
hold-requires g c =
    let s = spec_data c.args.spec.now in
    let game = c.in_ok-layers.ensures.keeps.game ∙ c.requires.game in
    let play = c.in_ok-k-in-BySystem.ensures.plays s game (agrees_with s c.requires.typed _ game) in
    record { fresh = play.fresh; stands = play.stands; plays = play.agrees; rounds = play.rounds }

pub counter-requires : goal.counter-requires
counter-requires g c =
    let s = spec_data c.args.spec.now in
    let game = c.in_ok-layers.ensures.keeps.game ∙ c.requires.game in
    let play = c.in_ok-n-in-ByEnvironment.ensures.plays s game (agrees_with s c.requires.typed _ game) (lines_rise s c.requires.typed) in
    record { fresh = (play.fresh, play.empty); stands = play.stands; plays = record { agrees = play.agrees; rise = play.rise }; shifts = play.shifts; denials = play.denials }
