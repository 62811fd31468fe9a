use Rattle.std.proofs.Common.{◌∙◌, ◌∷◌, List, None, refl, sym, subst}
use Rattle.spec_model.specs.Games.{GameData}
use Rattle.game_play.specs.Judged.{IsJudgeOf}
use Rattle.regions.specs.declared.types.When.TheVariants.{First, Later}
use Rattle.gr1_law.specs.Choice.{first_memory, ChosenPlay}
use Rattle.gr1_sys.specs.Held.{HasEach, all_regions}
use Rattle.strategy_parts.specs.Owned.{MakesAll}
use Rattle.controller.specs.Replies.{HasRoomFor}
use Rattle.controller.specs.Owned.{made_items}
use Rattle.controller.specs.Made.{AreTargets, targets_of, AreLike, AreAllLike, regions_for, first_layers, made_meanings}
use Rattle.controller.specs.Places.{IsAt}
use Rattle.strategy_parts.proofs.Holdings.{same_then}
use Rattle.strategy_parts.proofs.Owning.{regions_still, regions_gone}
use Rattle.strategy_parts.proofs.Telling.{every_in}
use Rattle.controller.proofs.Makings.{told_still}
use Rattle.controller.proofs.Begun.{none_yet, layers_each, sound, owned}
use Rattle.controller.proofs.controller.Controller.make.Goals as goal

pub equip-requires-clause-layers : goal.equip-requires-clause-layers
equip-requires-clause-layers g c =
    let k = g.G.Regions.kept c.args.g in
    let all = c.args.layers in
    subst (λ (list : List _). HasEach k (all_regions list)) (sym c.deref.ensures.value) (layers_each k all.z all.goals.items c.requires.won.0 c.requires.won.1)

pub spend_all-requires-in-Err : goal.spend_all-requires-in-Err
spend_all-requires-in-Err g c =
    let kept = g.G.Regions.kept in
    let all = c.args.layers in
    regions_still (kept c.args.g) (kept c.equip.new.g) (all.z ∷ all_regions all.goals.items) (g.met.G.Regions.exact _) c.requires.won.1.held c.in-Err.ensures.halted

pub returns-in-Ok-equip-clause-begins : goal.returns-in-Ok-equip-clause-begins
returns-in-Ok-equip-clause-begins g c = λ l own.
    let kept = g.G.Regions.kept in
    let k = kept c.args.g in
    let new = kept c.equip.new.g in
    let all = c.args.layers in
    let layers = all.goals.items in
    let first = c.in-Ok-equip.first.items in
    let goals = c.in-Ok-equip.later.items in
    let holds = c.in-Ok-equip.holds.items in
    let same = c.equip.ensures.keeps in
    let made = subst (λ (list : List _). MakesAll k new (made_items first goals holds) (made_meanings k list)) c.deref.ensures.value c.in-Ok-equip.ensures.made in
    let like_first = subst (λ (list : List _). AreLike First first (first_layers list)) c.deref.ensures.value c.in-Ok-equip.ensures.first in
    let like = subst (λ (list : List _). AreAllLike goals list) c.deref.ensures.value c.in-Ok-equip.ensures.alike in
    let many = c.in-Ok-equip.ensures.counted in
    let at = subst (λ (h : GameData). IsAt h c.in-Ok.place None first_memory) (c.game.ensures ∙ sym same.game) c.in-Ok.ensures.0 in
    record {
      stands = record {
        sound = sound k new same (g.met.G.Regions.exact _) all.z layers l own first goals holds made like_first like many;
        play = ChosenPlay.nothing;
        whole = tt;
        place = at;
        owned = owned k new same (g.met.G.Regions.exact _) all.z layers l own first goals holds made like_first like many;
        few = all.counted;
        judge = subst (λ (h : GameData). IsJudgeOf h c.in-Ok.judge) (c.game.ensures ∙ sym same.game) c.in-Ok.ensures.1;
        replies = λ before after state input output has. absurd (c.in-Ok.ensures.2.none before after state input output has);
        room = subst (λ (h : GameData). HasRoomFor h c.in-Ok.replies) (c.game.ensures ∙ sym same.game) c.in-Ok.ensures.2.room;
      };
      fresh = λ t sets h b m stands. none_yet new.game sets h b m stands.play (sym stands.place.position.started ∙ at.position.started);
      not_started = at.position.started;
      made = made;
      game = same;
      same_z = refl;
      same_layers = refl;
    }

pub returns-in-Err-clause-refused : goal.returns-in-Err-clause-refused
returns-in-Err-clause-refused g c = λ l own.
    let kept = g.G.Regions.kept in
    let k = kept c.args.g in
    let k1 = kept c.equip.new.g in
    let k2 = kept c.spend_all-in-Err.new.g in
    let all = c.args.layers in
    let layers = all.goals.items in
    let targets = targets_of k layers in
    record {
      held = regions_gone k k1 k2 (all.z ∷ all_regions all.goals.items) (g.met.G.Regions.exact _) own.held c.in-Err.ensures.halted c.spend_all-in-Err.ensures.spends;
      told = told_still k k1 k2 targets c.in-Err.halt c.spend_all-in-Err.ensures.spends.jam
          (c.in-Err.ensures.told targets
          (subst (λ (list : List _). AreTargets targets First k (regions_for First (first_layers list))) (sym c.deref.ensures.value) (every_in k.set (regions_for First (first_layers layers))))
          (subst (λ (list : List _). AreTargets targets Later k (all_regions list)) (sym c.deref.ensures.value) (every_in k.set (all_regions layers))));
      game = same_then k k1 k2 c.equip.ensures.keeps c.spend_all-in-Err.ensures.keeps;
    }
