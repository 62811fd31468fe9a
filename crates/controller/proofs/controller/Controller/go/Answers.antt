use Rattle.std.proofs.Common.{◌≡◌, Some, true, refl, sym, subst}
use Rattle.spec_model.specs.Games.{GameData}
use Rattle.spec_model.specs.Steps.{is_state}
use Rattle.strategy_parts.proofs.Holdings.{nothing_done, same_game}
use Rattle.controller.specs.Places.{IsAt}
use Rattle.controller.proofs.Spotting.{inside}
use Rattle.controller.proofs.controller.Controller.go.Goals as goal

pub go_to-requires-clause-here : goal.go_to-requires-clause-here
go_to-requires-clause-here g c =
    let some = c.requires.there in
    (some.3, some.4, subst (λ (d : GameData). IsAt d c.args.self.now.place some.3 some.4) (sym c.game.ensures) some.5.place)

pub go_to-requires-clause-there : goal.go_to-requires-clause-there
go_to-requires-clause-there g c =
    let some = c.requires.there in
    let self = c.args.self.now in
    let k = g.G.Regions.kept self.g in
    let in_game = inside k self.layers.items self.first.items self.goals.items self.holds.items some.0 some.1 some.5.sound some.6 some.7 some.8 some.9.play in
    (some.7, subst (λ (d : GameData). is_state d some.7 ≡ true) (sym c.game.ensures) in_game, some.9.lists)

pub go_to-requires-clause-counted : goal.go_to-requires-clause-counted
go_to-requires-clause-counted g c = (c.requires.there.8, c.requires.there.9.remembered)

pub returns-clause-stands : goal.returns-clause-stands
returns-clause-stands g c = λ z l h b m st to s next ends.
    let self = c.args.self.now in
    let k = g.G.Regions.kept self.g in
    let in_game = inside k self.layers.items self.first.items self.goals.items self.holds.items z l st.sound to s next ends.play in
    record {
      sound = st.sound;
      play = ends.play;
      whole = in_game;
      place = subst (λ (d : GameData). IsAt d c.go_to.new.self (Some s) next) c.game.ensures (c.go_to.ensures s next (subst (λ (d : GameData). is_state d s ≡ true) (sym c.game.ensures) in_game) ends.lists ends.remembered);
      owned = st.owned;
      few = st.few;
      judge = st.judge;
      replies = st.replies;
      room = st.room;
    }

pub returns-clause-keeps : goal.returns-clause-keeps
returns-clause-keeps g c =
    let k = g.G.Regions.kept c.args.self.now.g in
    record { held = nothing_done k; game = same_game k; z = refl; layers = refl; first = refl; goals = refl; holds = refl; judge = refl }
