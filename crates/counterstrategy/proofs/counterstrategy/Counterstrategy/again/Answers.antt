use Rattle.std.proofs.Common.{◌∙◌, None, refl, sym, subst}
use Rattle.std.proofs.lemmas.Bool.{false≢true}
use Rattle.spec_model.specs.Games.{GameData}
use Rattle.gr1_law.specs.Counter.{first_counter, AnsweredPlay}
use Rattle.strategy_parts.proofs.Holdings.{nothing_done, same_game}
use Rattle.counterstrategy.specs.Places.{IsAt}
use Rattle.counterstrategy.proofs.Turning.{none_yet}
use Rattle.counterstrategy.proofs.counterstrategy.Counterstrategy.again.Goals as goal

pub start_anew-requires : goal.start_anew-requires
start_anew-requires g c =
    let some = c.requires.stands in
    (some.3, some.4, subst (λ (d : GameData). IsAt d c.args.self.now.place some.3 some.4) (sym c.game.ensures) some.5.place)

pub returns-clause-begins : goal.returns-clause-begins
returns-clause-begins g c =
    let k = g.G.Regions.kept c.args.self.now.g in
    let at = subst (λ (d : GameData). IsAt d c.start_anew.new.self None first_counter) c.game.ensures c.start_anew.ensures in
    record {
      stands = λ e h notes b m st. record { sound = st.sound; play = AnsweredPlay.nothing; whole = tt; place = at; given = λ yes. absurd (false≢true yes); room = st.room; owned = st.owned; few = st.few; judge = st.judge };
      empty = λ e h notes b m st. none_yet k.game e h notes b m st.play (sym st.place.position.started ∙ at.position.started);
      fresh = refl;
    }

pub returns-clause-keeps : goal.returns-clause-keeps
returns-clause-keeps g c =
    let k = g.G.Regions.kept c.args.self.now.g in
    record { held = nothing_done k; game = same_game k; layers = refl; kit = refl; judge = refl }
