use Rattle.std.proofs.Common.{◌≡◌, ◌∙◌, ◌++◌, take, drop, length, List, refl, sym, ap, subst, arith}
use Rattle.spec_model.specs.Games.{GameData}
use Rattle.spec_model.specs.Values.{Assignment}
use Rattle.regions.specs.Rules.{input_count}
use Rattle.game_play.specs.Judged.{IsOutputJudgeOf}
use Rattle.gr1_law.specs.Counter.{IsGiven, AnsweredPlay}
use Rattle.gr1_env.specs.Solved.{counts_of}
use Rattle.strategy_parts.specs.Positions.{IsWholeBefore}
use Rattle.strategy_parts.proofs.Owning.{all_stay}
use Rattle.counterstrategy.specs.Places.{IsAt}
use Rattle.counterstrategy.specs.Objects.{items_of}
use Rattle.counterstrategy.proofs.Turning.{turn_exists}
use Rattle.counterstrategy.proofs.Sounding.{sound_stays, serves_turn}
use Rattle.counterstrategy.proofs.Completing.{written_over}
use Rattle.counterstrategy.proofs.counterstrategy.Counterstrategy.give_next.Goals as goal

pub give-self-requires-clause-turn : goal.give-self-requires-clause-turn
give-self-requires-clause-turn g c =
    let k = g.G.Regions.kept c.args.self.now.g in
    let self = c.args.self.now in
    let some = c.requires.stands in
    let st = some.5 in
    let turn = turn_exists k.game some.0 (length self.layers.items) (counts_of self.layers.items) st.sound.lost some.1 some.2 some.3 some.4 st.play st.whole in
    (some.0, length self.layers.items, counts_of self.layers.items, some.3, some.4, turn.0, turn.1, serves_turn k self.layers.items self.kit some.0 st.sound self.place some.3 some.4 turn.0 turn.1 turn.2 st.place)

pub returns-clause-given : goal.returns-clause-given
returns-clause-given g c = λ e h notes b m st.
    let kept = g.G.Regions.kept in
    let self = c.args.self.now in
    let k = kept self.g in
    let k1 = kept c.give-self.new.g in
    let stays = c.give-self.ensures.held in
    let same = c.give-self.ensures.keeps in
    let ls = self.layers.items in
    let turn = turn_exists k.game e (length ls) (counts_of ls) st.sound.lost h notes b m st.play st.whole in
    let serves = serves_turn k ls self.kit e st.sound self.place b m turn.0 turn.1 turn.2 st.place in
    let gave = c.give-self.ensures.given e (length ls) (counts_of ls) b m turn.0 turn.1 serves in
    let long : length c.give-self.new.input ≡ length self.given.items = c.give-self.ensures.room ∙ ap (λ (vs : List _). length vs) c.deref_mut.ensures.value in
    let now = written_over self.given c.give-self.new.input long in
    let x = take self.given.len (c.give-self.new.input ++ drop (length c.give-self.new.input) self.given.items) in
    let given : IsGiven k1.game e b m turn.0 x = subst (λ (d : GameData). IsGiven d e b m turn.0 x) (sym same.game) (subst (λ (x : Assignment). IsGiven k.game e b m turn.0 x) (sym (now ∙ gave.0)) turn.2.given) in
    record {
      stands = record {
        sound = sound_stays k k1 stays same ls self.kit e st.sound;
        play = subst (λ (d : GameData). AnsweredPlay d e h notes b m) (sym same.game) st.play;
        whole = subst (λ (d : GameData). IsWholeBefore d b) (sym same.game) st.whole;
        place = subst (λ (d : GameData). IsAt d self.place b m) (sym same.game) st.place;
        given = λ yes. (turn.0, given, gave.1);
        room = ap (λ (vs : List _). length vs) now ∙ (long ∙ (st.room ∙ ap input_count (sym same.game)));
        owned = all_stay k k1 (items_of self) (g.met.G.Regions.exact _) (λ w. omega (arith, stays.held w)) st.owned;
        few = st.few;
        judge = subst (λ (d : GameData). IsOutputJudgeOf d self.judge) (sym same.game) st.judge;
      };
      has_given = refl;
      input = refl;
      rank = turn.0;
      given = given;
    }
