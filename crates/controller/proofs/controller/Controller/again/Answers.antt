use Rattle.std.proofs.Common.{◌∙◌, None, refl, sym, subst}
use Rattle.spec_model.specs.Games.{GameData}
use Rattle.gr1_law.specs.Choice.{first_memory, ChosenPlay}
use Rattle.strategy_parts.proofs.Holdings.{nothing_done, same_game}
use Rattle.controller.specs.Places.{IsAt}
use Rattle.controller.proofs.Begun.{none_yet}
use Rattle.controller.proofs.controller.Controller.again.Goals as goal

pub start_anew-requires : goal.start_anew-requires
start_anew-requires g c =
    let some = c.requires.stands in
    (some.3, some.4, subst (λ (d : GameData). IsAt d c.args.self.now.place some.3 some.4) (sym c.game.ensures) some.5.place)

pub returns-clause-begins : goal.returns-clause-begins
returns-clause-begins g c =
    let k = g.G.Regions.kept c.args.self.now.g in
    let at = subst (λ (d : GameData). IsAt d c.start_anew.new.self None first_memory) c.game.ensures c.start_anew.ensures in
    record {
      stands = λ z l h b m st. record { sound = st.sound; play = ChosenPlay.nothing; whole = tt; place = at; owned = st.owned; few = st.few; judge = st.judge; replies = st.replies; room = st.room };
      fresh = λ z l h b m st. none_yet k.game l h b m st.play (sym st.place.position.started ∙ at.position.started);
      not_started = at.position.started;
    }

pub returns-clause-keeps : goal.returns-clause-keeps
returns-clause-keeps g c =
    let k = g.G.Regions.kept c.args.self.now.g in
    record { held = nothing_done k; game = same_game k; z = refl; layers = refl; first = refl; goals = refl; holds = refl; judge = refl }
