-- Each specification that a well-made game agrees with is won by the system or by the environment, within the bounds.
use Rattle.std.proofs.Common.{◌≡◌, ◌≤◌, inl, inr, Bool, true, false, not, None, length, map, max, refl, sym, ◌∙◌, ap, subst, arith}
use Rattle.std.proofs.Math.Nat.{mul-le-mul}
use Rattle.std.proofs.lemmas.List.{length-map}
use Rattle.spec_model.specs.Syntax.{Specification}
use Rattle.spec_model.specs.Rules.{Rules}
use Rattle.spec_model.specs.Moves.{is_assumption, goals_of, rules_of}
use Rattle.spec_model.specs.Unrealizable.{IsUnrealizable}
use Rattle.spec_model.specs.Verdicts.{most_rounds, most_shifts, most_denials}
use Rattle.spec_model.specs.Games.{GameData, GoalData}
use Rattle.spec_model.specs.Sets.{holding, system_forces}
use Rattle.spec_model.specs.WellMade.{WellMade}
use Rattle.spec_model.specs.Agreement.{Agrees}
use Rattle.spec_model.specs.Laws.{NumbersRise}
use Rattle.spec_model.proofs.Growth.{realizable_grows, unrealizable_grows}
use Rattle.gr1_law.specs.Layers.{assumption_sets, round_count}
use Rattle.gr1_law.specs.EnvLayers.{denial_count}
use Rattle.gr1_law.specs.Specifications.{EnvironmentWinsWithLayers, OneWins, OneIsTrue}
use Rattle.gr1_law.proofs.Settling.{some_ranks}
use Rattle.gr1_law.proofs.Solutions.{some_winning}
use Rattle.gr1_law.proofs.StateCounts.{sets_counted, system_wins}
use Rattle.gr1_law.proofs.EnvLayering.{env_layers_of, env_layers_of-layers, some_count}
use Rattle.gr1_law.proofs.EnvCounts.{some_delay_counts, env_numbers_few}
use Rattle.gr1_law.proofs.SidesDual.{sides_dual}
use Rattle.gr1_law.proofs.CounterBeats.{unrealizable}
use Rattle.gr1_law.proofs.Labels.{labels_differ}

module _ (s : Specification) (g : GameData) (agrees : Agrees s g) where
  assumptions_counted : length (assumption_sets g) ≡ max 1 (length (goals_of is_assumption s))
  assumptions_counted =
      sets_counted g (map (λ (goal : GoalData). holding g goal.holds) g.assume)
      ∙ ap (max 1) (length-map g.assume (λ (goal : GoalData). holding g goal.holds)
      ∙ sym (ap (λ (r : Rules). length r.assumptions) (sym agrees.rules) ∙ length-map g.assume _))

  module _ (made : WellMade g) (rise : NumbersRise s.lines) where
    pub environment_wins : EnvironmentWinsWithLayers s g
    environment_wins e n counts lost count =
        let few = env_numbers_few g e n counts lost.layers count lost.delays in
        let assumptions : length (assumption_sets g) ≤ max 1 (length (goals_of is_assumption s)) = omega (arith, assumptions_counted) in
        record {
          unrealizable = subst (λ (r : Rules). IsUnrealizable r n (denial_count g n counts)) agrees.rules (unrealizable g made (labels_differ s g agrees rise) e n counts lost);
          shifts = omega (arith, few.0, agrees.few_states);
          denials = omega (arith, few.1, mul-le-mul assumptions agrees.few_states);
        }

    pub one_wins : OneWins s
    one_wins = by_start (system_forces g (some_winning g).0 None) refl
      where
        by_start : (c : Bool) → system_forces g (some_winning g).0 None ≡ c → OneWins s
        by_start true forced =
            let w = some_winning g in
            let ranks = some_ranks g w.0 w.1 w.2.layers in
            inl (round_count ranks.0, system_wins s g agrees made w.0 w.1 ranks.0 (record { winning = w.2; greatest = ranks.1; forced = forced }))
        by_start false unforced =
            let w = some_winning g in
            let layers = env_layers_of-layers g in
            let count = some_count g (env_layers_of g) layers in
            let counts = some_delay_counts g (env_layers_of g) layers count.0 in
            let dual = sides_dual g made w.0 w.1 (env_layers_of g) count.0 w.2 layers count.1 in
            let forced = sym dual.1 ∙ ap not unforced in
            inr (count.0, denial_count g count.0 counts.0, environment_wins (env_layers_of g) count.0 counts.0 (record { layers = layers; delays = counts.1; forced = forced }) count.1)

    pub one_is_true : OneIsTrue s
    one_is_true = by_winner one_wins
      where
        by_winner : OneWins s → OneIsTrue s
        by_winner (inl won) = inl (realizable_grows (rules_of s) won.0 (most_rounds s) won.1.bound won.1.realizable)
        by_winner (inr won) = inr (unrealizable_grows (rules_of s) won.0 (most_shifts s) won.1 (most_denials s) won.2.shifts won.2.denials won.2.unrealizable)
