-- The laws on chosen plays.
use Rattle.std.proofs.Common.{◌≡◌, ℕ, zero, suc, true, List, [], Some, None, sym, subst, arith}
use Rattle.std.proofs.lemmas.Bool.{and_parts, and_from}
use Rattle.spec_model.specs.Rules.{Run, after}
use Rattle.spec_model.specs.Realizable.{Wins, IsRealizable}
use Rattle.spec_model.specs.Games.{GameData}
use Rattle.spec_model.specs.Steps.{Before, is_input, legal_input, legal_output, reached}
use Rattle.spec_model.specs.Sets.{StateSet, system_forces}
use Rattle.spec_model.specs.WellMade.{WellMade}
use Rattle.gr1_law.specs.Layers.{LayerSets, IsWinning, AreGreatestRanks, round_count}
use Rattle.gr1_law.specs.Choice.{Memory, first_memory, ChosenPlay}
use Rattle.spec_model.specs.GameRules.{rules_of_game, last_state}
use Rattle.gr1_law.specs.Laws.{StandsIn, ChosenPlayKeeps, IsRemembered}
use Rattle.gr1_law.proofs.Winning.{layer_in_z}
use Rattle.gr1_law.proofs.Standing.{Ready}
use Rattle.gr1_law.proofs.Choosing.{choice_exists, chosen_output, chosen_legal}
use Rattle.gr1_law.proofs.Trails.{played, ranked}
use Rattle.gr1_law.proofs.Rounds as rounds

module _ (g : GameData) (made : WellMade g) (z : StateSet) (l : LayerSets) (ranks : List ℕ) (w : IsWinning g z l) (greatest : AreGreatestRanks g l ranks) (start : system_forces g z None ≡ true) where
  stands : (b : Before) (m : Memory) → Ready g z l b m → StandsIn g z l b m
  stands None m ready = tt
  stands (Some s) m ready = (layer_in_z g z l w ranks greatest m.goal m.rank s ready.rank.here, ready)

  pub play_keeps : (h : Run) (b : Before) (m : Memory) → ChosenPlay g l h b m → ChosenPlayKeeps g z l (round_count ranks) h b m
  play_keeps h b m play =
      let end = played g z l w ranks greatest h b m start play in
      record {
        legal = end.legal;
        state = end.state;
        stands = stands b m end.ready;
        kept = rounds.kept g ranks h end.trail.memory (ranked g z l w ranks greatest h m end.trail) made;
        goes_on = λ x input legal. choice_exists g z l w ranks greatest b m x end.ready input legal;
      }

  pub remembered : (h : Run) (b : Before) (m : Memory) → ChosenPlay g l h b m → IsRemembered g l ranks h
  remembered h b m play =
      let end = played g z l w ranks greatest h b m start play in
      let falls = ranked g z l w ranks greatest h m end.trail in
      record {
        memory = end.trail.memory;
        chosen = end.trail.chosen;
        falls = λ q in_goals. record {
          at_least = rounds.potential_some g ranks h end.trail.memory falls q in_goals;
          at_most = rounds.potential_at_most g ranks h end.trail.memory falls q in_goals;
          lower = rounds.round_lowers g ranks h end.trail.memory falls q in_goals made;
        };
      }

  wins : (depth : ℕ) (h : Run) (b : Before) (m : Memory) → ChosenPlay g l h b m → Wins (rules_of_game g) (round_count ranks) h depth
  wins zero h b m play = tt
  wins (suc depth) h b m play = λ x legal.
      let end = played g z l w ranks greatest h b m start play in
      let parts = and_parts (is_input g x) (legal_input g (last_state g h) x) legal in
      let legal' = subst (λ (b : Before). legal_input g b x ≡ true) (sym end.state) parts.1 in
      let choice = choice_exists g z l w ranks greatest b m x end.ready parts.0 legal' in
      let longer = ChosenPlay.more h b m x choice.0 choice.1 play parts.0 legal' choice.2 in
      let keeps = play_keeps (after h x choice.0) (Some (reached g b x choice.0)) choice.1 longer in (
        choice.0,
        and_from _ _ (chosen_output g z l w ranks greatest b m x choice.0 choice.1 end.ready choice.2) (subst (λ (b : Before). legal_output g b x choice.0 ≡ true) end.state (chosen_legal g z l w ranks greatest b m x choice.0 choice.1 end.ready choice.2)),
        keeps.kept,
        wins depth (after h x choice.0) (Some (reached g b x choice.0)) choice.1 longer,
      )

  pub realizable : IsRealizable (rules_of_game g) (round_count ranks)
  realizable = record { at_least_one = omega arith; wins = λ depth. wins depth [] None first_memory ChosenPlay.nothing }
