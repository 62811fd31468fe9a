use Rattle.std.proofs.Common.{◌∙◌, List, None, refl, sym, ap, subst}
use Rattle.std.proofs.lemmas.Bool.{false≢true}
use Rattle.spec_model.specs.Games.{GameData}
use Rattle.regions.specs.Rules.{input_count}
use Rattle.game_play.specs.Judged.{IsOutputJudgeOf}
use Rattle.gr1_law.specs.Counter.{first_counter, AnsweredPlay}
use Rattle.gr1_sys.specs.Held.{HasEach}
use Rattle.gr1_env.specs.Held.{all_regions}
use Rattle.strategy_parts.specs.Owned.{MakesAll}
use Rattle.strategy_parts.specs.Told.{TellsHalt}
use Rattle.strategy_parts.proofs.Holdings.{same_then}
use Rattle.strategy_parts.proofs.Owning.{regions_still, regions_gone, together_each}
use Rattle.strategy_parts.proofs.Telling.{told_still}
use Rattle.counterstrategy.specs.Owned.{kit_items}
use Rattle.counterstrategy.specs.Made.{made_meanings, tale_of, IsEquipped}
use Rattle.counterstrategy.specs.Places.{IsAt}
use Rattle.counterstrategy.proofs.Turning.{none_yet}
use Rattle.counterstrategy.proofs.Begun.{sound, owned}
use Rattle.counterstrategy.proofs.counterstrategy.Counterstrategy.make.Goals as goal

pub equip-requires-clause-regions : goal.equip-requires-clause-regions
equip-requires-clause-regions g c =
    let k = g.G.Regions.kept c.args.g in
    let all = c.args.layers in
    subst (λ (ls : List _). HasEach k (all_regions ls)) (sym c.deref.ensures.value) (together_each k (all_regions all.layers.items) c.requires.lost.1.held)

pub spend_all-requires-in-Err : goal.spend_all-requires-in-Err
spend_all-requires-in-Err g c =
    let kept = g.G.Regions.kept in
    regions_still (kept c.args.g) (kept c.equip.new.g) (all_regions c.args.layers.layers.items) (g.met.G.Regions.exact _) c.requires.lost.1.held c.in-Err.ensures.halted

pub returns-in-Ok-equip-clause-begins : goal.returns-in-Ok-equip-clause-begins
returns-in-Ok-equip-clause-begins g c = λ e own.
    let kept = g.G.Regions.kept in
    let k = kept c.args.g in
    let new = kept c.equip.new.g in
    let ls = c.args.layers.layers.items in
    let kit = c.in-Ok-equip.kit in
    let same = c.equip.ensures.keeps in
    let made = subst (λ (list : List _). MakesAll k new (kit_items kit) (made_meanings k list)) c.deref.ensures.value c.in-Ok-equip.ensures.made in
    let equipped = subst (λ (list : List _). IsEquipped k.game kit list) c.deref.ensures.value c.in-Ok-equip.ensures.equipped in
    let to = c.game.ensures ∙ sym same.game in
    let at = subst (λ (h : GameData). IsAt h c.in-Ok.place None first_counter) to c.in-Ok.ensures.place in
    record {
      stands = record {
        sound = sound k new same (g.met.G.Regions.exact _) ls e own kit made equipped;
        play = AnsweredPlay.nothing;
        whole = tt;
        place = at;
        given = λ yes. absurd (false≢true yes);
        room = c.in-Ok.ensures.room ∙ ap input_count to;
        owned = owned k new same (g.met.G.Regions.exact _) ls e own kit made equipped;
        few = c.args.layers.counted;
        judge = subst (λ (h : GameData). IsOutputJudgeOf h c.in-Ok.judge) to c.in-Ok.ensures.judge;
      };
      empty = λ e h notes b k st. none_yet new.game e h notes b k st.play (sym st.place.position.started ∙ at.position.started);
      fresh = refl;
      made = made;
      game = same;
      same_layers = refl;
    }

pub returns-in-Err-clause-refused : goal.returns-in-Err-clause-refused
returns-in-Err-clause-refused g c =
    let kept = g.G.Regions.kept in
    let k = kept c.args.g in
    let k1 = kept c.equip.new.g in
    let k2 = kept c.spend_all-in-Err.new.g in
    let ls = c.args.layers.layers.items in
    record {
      held = regions_gone k k1 k2 (all_regions ls) (g.met.G.Regions.exact _) c.requires.lost.1.held c.in-Err.ensures.halted c.spend_all-in-Err.ensures.spends;
      told = told_still k k1 k2 (tale_of k ls) c.in-Err.halt c.spend_all-in-Err.ensures.spends.jam (subst (λ (list : List _). TellsHalt k k1 (tale_of k list) c.in-Err.halt) c.deref.ensures.value c.in-Err.ensures.told);
      game = same_then k k1 k2 c.equip.ensures.keeps c.spend_all-in-Err.ensures.keeps;
    }
