-- What is found of its game is found of a specification.
use Rattle.std.proofs.Common.{◌≡◌, inl, inr, ℕ, Bool, true, false, not, List, length, Some, None, slice_get, refl, sym, ap, subst, arith, ◌∙◌}
use Rattle.std.proofs.lemmas.Bool.{false≢true}
use Rattle.spec_model.specs.Syntax.{Specification}
use Rattle.spec_model.specs.Games.{GameData}
use Rattle.spec_model.specs.Sets.{StateSet, system_forces, environment_forces}
use Rattle.spec_model.specs.WellMade.{WellMade}
use Rattle.hidden_game.specs.GameOf.{game_of}
use Rattle.regions.specs.Kept.{Kept, IsSameGame}
use Rattle.gr1_law.specs.Layers.{LayerSets, IsWinning, round_count, goal_sets}
use Rattle.gr1_law.specs.EnvLayers.{EnvLayerSets, AreEnvLayers, IsLayerCount, AreDelayCounts, denial_count}
use Rattle.gr1_env.specs.declared.layers.EnvLayer.{EnvLayer}
use Rattle.gr1_env.specs.Solved.{counts_of, denials_of, WonByEnvironment}
use Rattle.spec_model.specs.Agreement.{Agrees}
use Rattle.spec_model.specs.Laws.{NumbersRise}
use Rattle.gr1_law.proofs.Settling.{some_ranks}
use Rattle.gr1_law.proofs.Solutions.{some_winning}
use Rattle.gr1_law.proofs.StateCounts.{system_wins}
use Rattle.gr1_law.proofs.EnvLayering.{env_layers_of, env_layers_of-layers, some_count}
use Rattle.gr1_law.proofs.EnvCounts.{some_delay_counts}
use Rattle.gr1_law.proofs.SidesDual.{sides_dual}
use Rattle.gr1_law.proofs.OneSide.{environment_wins}
use Rattle.solve.specs.Winners.{IsWonGame, IsLostGame, IsWonBySystem, IsWonByEnvironment}
use Rattle.solve.specs.WinnerLaws.{EnvironmentForces, OneOfBoth}
use Rattle.solve.specs.Solved.{AreEnvLayersOf}

-- ---- who wins

pub won_found : (s : Specification) → Agrees s (game_of s) → WellMade (game_of s) → (k : ℕ) → IsWonGame (game_of s) k → IsWonBySystem s k
won_found s agrees made k found =
    record {
      game = found;
      wins = rw (found.rounds) (system_wins s (game_of s) agrees made found.winning_states found.layers found.ranks (record { winning = found.winning; greatest = found.greatest; forced = found.forced }));
    }

pub lost_found : (s : Specification) → Agrees s (game_of s) → WellMade (game_of s) → NumbersRise s.lines → (n m : ℕ) → IsLostGame (game_of s) n m → IsWonByEnvironment s n m
lost_found s agrees made rise n m found =
    record {
      game = found;
      wins = rw (found.denials) (environment_wins s (game_of s) agrees made rise found.layers n found.counts (record { layers = found.are_layers; delays = found.greatest; forced = found.forced }) found.last);
    }

-- where the system doesn't win a game, the environment does
pub forced_where_lost : (g g' : GameData) → g' ≡ g → WellMade g → ((z : StateSet) (l : LayerSets) → IsWinning g' z l → system_forces g' z None ≡ false) → EnvironmentForces g
forced_where_lost g g' is made escapes e n layers count =
    let w = some_winning g in
    let unforced : system_forces g w.0 None ≡ false = subst (λ (g : GameData). (z : StateSet) (l : LayerSets) → IsWinning g z l → system_forces g z None ≡ false) is escapes w.0 w.1 w.2 in
    sym (sides_dual g made w.0 w.1 e n w.2 layers count).1 ∙ ap not unforced

-- and then it isn't that it doesn't
pub not_unforced : (g g' : GameData) → g' ≡ g → EnvironmentForces g → ((e : EnvLayerSets) (n : ℕ) → AreEnvLayers g' e → IsLayerCount e n → environment_forces g' (e.z n) None ≡ false) → ⊥
not_unforced g g' is forces escapes =
    let layers = env_layers_of-layers g in
    let count = some_count g (env_layers_of g) layers in
    let unforced = subst (λ (g : GameData). (e : EnvLayerSets) (n : ℕ) → AreEnvLayers g e → IsLayerCount e n → environment_forces g (e.z n) None ≡ false) is escapes (env_layers_of g) count.0 layers count.1 in
    false≢true (sym unforced ∙ forces (env_layers_of g) count.0 layers count.1)

-- one of the two wins each specification
pub one_found : (s : Specification) → Agrees s (game_of s) → WellMade (game_of s) → NumbersRise s.lines → OneOfBoth s
one_found s agrees made rise = by_start (system_forces (game_of s) (some_winning (game_of s)).0 None) refl
  where
    by_start : (c : Bool) → system_forces (game_of s) (some_winning (game_of s)).0 None ≡ c → OneOfBoth s
    by_start true forced =
        let w = some_winning (game_of s) in
        let ranks = some_ranks (game_of s) w.0 w.1 w.2.layers in
        inl (round_count ranks.0, won_found s agrees made (round_count ranks.0) (record { winning_states = w.0; layers = w.1; ranks = ranks.0; winning = w.2; greatest = ranks.1; forced = forced; rounds = refl }))
    by_start false unforced =
        let w = some_winning (game_of s) in
        let layers = env_layers_of-layers (game_of s) in
        let count = some_count (game_of s) (env_layers_of (game_of s)) layers in
        let counts = some_delay_counts (game_of s) (env_layers_of (game_of s)) layers count.0 in
        let forced = sym (sides_dual (game_of s) made w.0 w.1 (env_layers_of (game_of s)) count.0 w.2 layers count.1).1 ∙ ap not unforced in
        let m = denial_count (game_of s) count.0 counts.0 in
        inr (
          count.0,
          m,
          lost_found s agrees made rise count.0 m
              (record { layers = env_layers_of (game_of s); counts = counts.0; are_layers = layers; last = count.1; greatest = counts.1; forced = forced; denials = refl }),
        )

-- ---- by the layers that are held

-- the environment's layers that a solver gives are held
pub solved_env_layers : {G R M : Type 0} (old new : Kept R M) (layers : List (EnvLayer G R M)) (e : EnvLayerSets) → WellMade old.game → IsSameGame old new → WonByEnvironment old new layers e → AreEnvLayersOf new layers e
solved_env_layers {G} {R} {M} old new layers e made same won =
    record {
      are =
          record {
            made = subst WellMade (sym same.game) made;
            held = λ w. omega (arith, won.held w);
            lost =
                record {
                  layers = subst (λ (g : GameData). AreEnvLayers g e) (sym same.game) won.layers;
                  delays = subst (λ (g : GameData). AreDelayCounts g e (length layers) (counts_of layers)) (sym same.game) won.counts;
                  forced = subst (λ (g : GameData). environment_forces g (e.z (length layers)) None ≡ true) (sym same.game) won.forced;
                };
            goals = subst (λ (g : GameData). (a : ℕ) (l : EnvLayer G R M) → slice_get layers a ≡ Some l → length l.goals.items ≡ length (goal_sets g)) (sym same.game) won.goals;
            shown = won.shown;
          };
      last = won.last;
      denials = subst (λ (g : GameData). denials_of layers ≡ denial_count g (length layers) (counts_of layers)) (sym same.game) won.denials;
    }

-- and are the numbers of the game
pub lost_game : {G R M : Type 0} (k : Kept R M) (layers : List (EnvLayer G R M)) (e : EnvLayerSets) (n m : ℕ) → AreEnvLayersOf k layers e → n ≡ length layers → m ≡ denials_of layers → IsLostGame k.game n m
lost_game k layers e n m own shifts denials =
    subst (λ (n : ℕ). IsLostGame k.game n m) (sym shifts)
    (record { layers = e; counts = counts_of layers; are_layers = own.are.lost.layers; last = own.last; greatest = own.are.lost.delays; forced = own.are.lost.forced; denials = denials ∙ own.denials })
