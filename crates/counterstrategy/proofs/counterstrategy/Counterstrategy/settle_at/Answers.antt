use Rattle.std.proofs.Common.{◌≡◌, ◌∙◌, ◌-◌, suc, true, Some, length, sym, ap, subst, arith}
use Rattle.std.proofs.lemmas.Bool.{false≢true}
use Rattle.spec_model.specs.Games.{GameData}
use Rattle.spec_model.specs.Steps.{is_state}
use Rattle.regions.specs.Rules.{input_count}
use Rattle.game_play.specs.Judged.{IsOutputJudgeOf}
use Rattle.gr1_law.specs.Counter.{AnsweredPlay}
use Rattle.gr1_env.specs.Solved.{counts_of}
use Rattle.strategy_parts.specs.Positions.{IsAfter}
use Rattle.strategy_parts.proofs.Owning.{all_stay}
use Rattle.counterstrategy.specs.declared.spot.EnvSpot.{EnvSpot}
use Rattle.counterstrategy.specs.Settled.{settled_at}
use Rattle.counterstrategy.specs.Objects.{items_of}
use Rattle.counterstrategy.proofs.Sounding.{sound_stays}
use Rattle.counterstrategy.proofs.Spotting.{stands, inside, settled}
use Rattle.counterstrategy.proofs.counterstrategy.Counterstrategy.settle_at.Goals as goal

pub go_to-requires-clause-here : goal.go_to-requires-clause-here
go_to-requires-clause-here g c =
    let some = c.requires.there in
    (some.3, subst (λ (d : GameData). IsAfter d c.args.self.now.place.position some.3) (sym c.game.ensures) some.5.place.position)

pub go_to-requires-clause-state : goal.go_to-requires-clause-state
go_to-requires-clause-state g c =
    let some = c.requires.there in
    let self = c.args.self.now in
    let k = g.G.Regions.kept self.g in
    let in_game = inside k.game some.0 (length self.layers.items) (counts_of self.layers.items) some.5.sound.lost some.6 some.7 some.8 some.9 some.10.play in
    (some.8, subst (λ (d : GameData). is_state d some.8 ≡ true) (sym c.game.ensures) in_game, some.10.lists)

pub overflow_sub-goal : goal.overflow_sub-goal
overflow_sub-goal g c = let is = ap (λ (q : EnvSpot). q.goal) c.requires.there.10.remembered in omega (arith, is)

pub overflow_sub-before : goal.overflow_sub-before
overflow_sub-before g c = let is = ap (λ (q : EnvSpot). q.asm) c.requires.there.10.remembered in omega (arith, is)

pub settle-requires : goal.settle-requires
settle-requires g c =
    let some = c.requires.there in
    let self = c.args.self.now in
    let k = g.G.Regions.kept self.g in
    let sound = some.5.sound in
    let here = stands k.game some.0 (length self.layers.items) (counts_of self.layers.items) sound.lost some.6 some.7 some.8 some.9 some.10.play in
    let goal_is = ap (λ (q : EnvSpot). q.goal) some.10.remembered in
    let asm_is = ap (λ (q : EnvSpot). q.asm) some.10.remembered in
    let goals_counted = sound.goals.goals_counted in
    let asms_counted = sound.goals.asms_counted in
    record {
      are = sound.goals;
      goal_in = omega (arith, here.goal_in, goal_is, goals_counted);
      asm_in = omega (arith, here.before_in, asm_is, asms_counted);
    }

pub returns-clause-stands : goal.returns-clause-stands
returns-clause-stands g c = λ e h notes b m st to noted s next ends.
    let kept = g.G.Regions.kept in
    let self = c.args.self.now in
    let k = kept self.g in
    let k1 = kept c.settle.new.g in
    let stays = c.settle.ensures.held in
    let same = c.settle.ensures.keeps in
    let ls = self.layers.items in
    let in_game = inside k.game e (length ls) (counts_of ls) st.sound.lost to noted s next ends.play in
    let after = subst (λ (d : GameData). IsAfter d c.go_to.new.self (Some s)) c.game.ensures (c.go_to.ensures s (subst (λ (d : GameData). is_state d s ≡ true) (sym c.game.ensures) in_game) ends.lists) in
    let spot = c.args.spot in
    let layer : spot.layer ≡ next.layer = ap (λ (q : EnvSpot). q.layer) (sym ends.remembered) in
    let goal_from : suc next.goal ≡ spot.goal = ap (λ (q : EnvSpot). q.goal) ends.remembered in
    let asm_from : suc next.before ≡ spot.asm = ap (λ (q : EnvSpot). q.asm) ends.remembered in
    let goal : spot.goal - 1 ≡ next.goal = omega (arith, goal_from) in
    let before : spot.asm - 1 ≡ next.before = omega (arith, asm_from) in
    let memory = c.settle.ensures.settled s in_game after.listed
    ∙ (ap (λ n. settled_at k.game s n (spot.goal - 1) (spot.asm - 1)) layer
    ∙ (ap (λ n. settled_at k.game s next.layer n (spot.asm - 1)) goal
    ∙ (ap (settled_at k.game s next.layer next.goal) before
    ∙ settled k.game e (length ls) (counts_of ls) st.sound.lost to noted s next ends.play))) in
    record {
      sound = sound_stays k k1 stays same ls self.kit e st.sound;
      play = subst (λ (d : GameData). AnsweredPlay d e to noted (Some s) next) (sym same.game) ends.play;
      whole = subst (λ (d : GameData). is_state d s ≡ true) (sym same.game) in_game;
      place = record { position = subst (λ (d : GameData). IsAfter d c.settle.new.place.position (Some s)) (sym same.game) (subst (λ p. IsAfter k.game p (Some s)) (sym c.settle.ensures.position) after); memory = memory };
      given = λ yes. absurd (false≢true yes);
      room = st.room ∙ ap input_count (sym same.game);
      owned = all_stay k k1 (items_of self) (g.met.G.Regions.exact _) (λ w. omega (arith, stays.held w)) st.owned;
      few = st.few;
      judge = subst (λ (d : GameData). IsOutputJudgeOf d self.judge) (sym same.game) st.judge;
    }
