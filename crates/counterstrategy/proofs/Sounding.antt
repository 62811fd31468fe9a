-- What is sound stays so, and serves each turn and each reply.
use Rattle.std.proofs.Common.{ℕ, suc, List, Vec, length, Some, sym, ap, ◌∙◌, subst}
use Rattle.std.specs.declared.alloc.Global.{Global}
use Rattle.spec_model.specs.Values.{Assignment}
use Rattle.spec_model.specs.Games.{GameData, State}
use Rattle.spec_model.specs.Steps.{Before}
use Rattle.spec_model.specs.WellMade.{WellMade}
use Rattle.regions.specs.declared.types.When.TheVariants.{First, Later}
use Rattle.regions.specs.Kept.{Kept, Stays, IsSameGame}
use Rattle.gr1_law.specs.Layers.{goal_set, goal_sets, assumption_set, assumption_sets}
use Rattle.gr1_law.specs.EnvLayers.{EnvLayerSets}
use Rattle.gr1_law.specs.Counter.{CounterMemory}
use Rattle.gr1_law.specs.CounterLaws.{IsLostWith}
use Rattle.gr1_env.specs.declared.layers.EnvLayer.{EnvLayer}
use Rattle.gr1_env.specs.Solved.{counts_of}
use Rattle.strategy_parts.specs.Owned.{RegionsAre}
use Rattle.strategy_parts.proofs.Holdings.{regions_stay}
use Rattle.counterstrategy.specs.declared.kit.Kit.{Kit}
use Rattle.counterstrategy.specs.declared.remembered.Remembered.{Remembered}
use Rattle.counterstrategy.specs.Forced.{ChainsLead}
use Rattle.counterstrategy.specs.Settled.{tops, holds_in, LayersAre, GoalsAre}
use Rattle.counterstrategy.specs.Places.{IsAt}
use Rattle.counterstrategy.specs.Turns.{IsTurn, IsReply, ServesTurn, ServesReply}
use Rattle.counterstrategy.specs.Objects.{AreSound}
use Rattle.counterstrategy.proofs.Moving.{moves_stay}

module _ {R M : Type 0} (k k1 : Kept R M) (stays : Stays k k1) where
  chains_stay : (chains : List (Vec M Global)) (layers goals asms : ℕ) (e : EnvLayerSets) (counts : ℕ → ℕ → List ℕ) → ChainsLead k chains layers goals asms e counts → ChainsLead k1 chains layers goals asms e counts
  chains_stay chains layers goals asms e counts lead a j i a_in j_in i_in =
      let chain = lead a j i a_in j_in i_in in
      (chain.0, chain.1, record { lead = moves_stay k k1 Later chain.0.items (λ r. e.x (suc a) j i (suc r)) stays chain.2.lead; counted = chain.2.counted })

module _ {G R M : Type 0} (k k1 : Kept R M) (stays : Stays k k1) (same : IsSameGame k k1) where
  pub layers_stay : (ls : List (EnvLayer G R M)) (e : EnvLayerSets) → LayersAre k ls e → LayersAre k1 ls e
  layers_stay ls e are =
      record {
        layers = regions_stay k k1 (tops ls) (λ a. e.z (suc a)) stays are.layers;
        holds = λ a l is. regions_stay k k1 (holds_in l.goals.items) (e.y (suc a)) stays (are.holds a l is);
        counted = λ a l is. are.counted a l is ∙ ap (λ (g : GameData). length (goal_sets g)) (sym same.game);
      }

  pub goals_stay : (kit : Kit G R M) → GoalsAre k kit → GoalsAre k1 kit
  goals_stay kit are =
      record {
        goals = subst (λ (g : GameData). RegionsAre k1 kit.goals.items (goal_set g)) (sym same.game) (regions_stay k k1 kit.goals.items (goal_set k.game) stays are.goals);
        goals_counted = are.goals_counted ∙ ap (λ (g : GameData). length (goal_sets g)) (sym same.game);
        asms = subst (λ (g : GameData). RegionsAre k1 kit.asms.items (assumption_set g)) (sym same.game) (regions_stay k k1 kit.asms.items (assumption_set k.game) stays are.asms);
        asms_counted = are.asms_counted ∙ ap (λ (g : GameData). length (assumption_sets g)) (sym same.game);
      }

  pub sound_stays : (ls : List (EnvLayer G R M)) (kit : Kit G R M) (e : EnvLayerSets) → AreSound k ls kit e → AreSound k1 ls kit e
  sound_stays ls kit e sound =
      record {
        made = subst WellMade (sym same.game) sound.made;
        lost = subst (λ (g : GameData). IsLostWith g e (length ls) (counts_of ls)) (sym same.game) sound.lost;
        layers = layers_stay ls e sound.layers;
        goals = goals_stay kit sound.goals;
        first = moves_stay k k1 First kit.first.items e.z stays sound.first;
        first_counted = sound.first_counted;
        later = moves_stay k k1 Later kit.later.items e.z stays sound.later;
        later_counted = sound.later_counted;
        delays = subst (λ (g : GameData). ChainsLead k1 kit.delays.items (length ls) (length (goal_sets g)) (length (assumption_sets g)) e (counts_of ls)) (sym same.game)
            (chains_stay k k1 stays kit.delays.items (length ls) (length (goal_sets k.game)) (length (assumption_sets k.game)) e (counts_of ls) sound.delays);
      }

module _ {G R M : Type 0} (k : Kept R M) (ls : List (EnvLayer G R M)) (kit : Kit G R M) (e : EnvLayerSets) (sound : AreSound k ls kit e) where
  pub serves_turn : (p : Remembered) (b : Before) (m : CounterMemory) (r : ℕ) (x : Assignment) → IsTurn k.game e (length ls) (counts_of ls) b m r x → IsAt k.game p b m → ServesTurn k kit p e (length ls) (counts_of ls) b m r x
  serves_turn p b m r x turn here =
      record {
        turn = turn;
        here = here;
        first = sound.first;
        first_counted = sound.first_counted;
        later = sound.later;
        later_counted = sound.later_counted;
        chains = sound.delays;
        goals = sound.goals.goals_counted;
        asms = sound.goals.asms_counted;
      }

  pub serves_reply : (p : Remembered) (m : CounterMemory) (s : State) (next : CounterMemory) → IsReply k.game e (length ls) m s next → IsAt k.game p (Some s) m → ServesReply k ls kit p e m s next
  serves_reply p m s next reply here = record { reply = reply; here = here; layers = sound.layers; goals = sound.goals }
