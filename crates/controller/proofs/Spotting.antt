-- Where a play of chosen outputs ends: the state is one of the game, and 32 bits count the goal and the assumption from 1.
use Rattle.std.proofs.Common.{◌≡◌, ℕ, suc, ◌+◌, ◌^◌, ◌<◌, List, Vec, true, Some, map, ap, ◌∙◌, arith}
use Rattle.std.proofs.lemmas.List.{length-map}
use Rattle.std.specs.declared.alloc.Global.{Global}
use Rattle.spec_model.specs.Rules.{Run}
use Rattle.spec_model.specs.Games.{GoalData, State}
use Rattle.spec_model.specs.Steps.{is_state}
use Rattle.spec_model.specs.Sets.{StateSet, holding}
use Rattle.regions.specs.Kept.{Kept}
use Rattle.gr1_law.specs.Layers.{LayerSets}
use Rattle.gr1_law.specs.Choice.{Memory, Standing, ChosenPlay}
use Rattle.gr1_law.proofs.Winning.{layer_inside}
use Rattle.gr1_law.proofs.Trails.{played}
use Rattle.gr1_sys.specs.declared.layers.SysLayer.{SysLayer}
use Rattle.gr1_sys.specs.Held.{ranks_of}
use Rattle.strategy_parts.specs.Counts.{HasFewGoals}
use Rattle.strategy_parts.proofs.Counting.{sets_few}
use Rattle.controller.specs.declared.aims.Aim.{Aim}
use Rattle.controller.specs.declared.spot.Spot.{Spot}
use Rattle.controller.specs.Objects.{AreSound}

module _ {G R M : Type 0} (k : Kept R M) (layers : List (Vec (SysLayer G R M) Global)) (first : List (Aim G R M)) (goals : List (Vec (Aim G R M) Global)) (holds : List R) (z : StateSet) (l : LayerSets) (sound : AreSound k layers first goals holds z l)
    (h : Run) (s : State) (m : Memory) (play : ChosenPlay k.game l h (Some s) m) where
  stands : Standing k.game l s m
  stands = (played k.game z l sound.won (ranks_of layers) sound.ranks h (Some s) m sound.starts play).ready

  pub inside : is_state k.game s ≡ true
  inside = layer_inside k.game z l sound.won.layers m.goal m.rank s stands.rank.here

  module _ (few : HasFewGoals k.game) where
    pub goal_counted : m.goal + 1 < 2 ^ 32
    goal_counted =
        let sets : List StateSet = map (λ (goal : GoalData). holding k.game goal.holds) k.game.goals in
        let many = length-map k.game.goals (λ (goal : GoalData). holding k.game goal.holds) in
        let all = sets_few k.game sets (2 ^ 32) (omega (arith, many, few.goals)) (omega arith) in
        omega (arith, all, stands.goal_in)

    pub index_counted : m.index + 1 < 2 ^ 32
    index_counted =
        let sets : List StateSet = map (λ (goal : GoalData). holding k.game goal.holds) k.game.assume in
        let many = length-map k.game.assume (λ (goal : GoalData). holding k.game goal.holds) in
        let all = sets_few k.game sets (2 ^ 32) (omega (arith, many, few.asms)) (omega arith) in
        omega (arith, all, stands.index_in)

-- what is remembered is known by its parts
pub recalled : (m : Memory) (goal rank index : ℕ) → goal ≡ m.goal → rank ≡ m.rank → index ≡ m.index → record { goal = goal; rank = rank; index = index } ≡ m
recalled m goal rank index goal_is rank_is index_is = ap (λ n. memory n rank index) goal_is ∙ (ap (λ n. memory m.goal n index) rank_is ∙ ap (memory m.goal m.rank) index_is)
  where
    memory : ℕ → ℕ → ℕ → Memory
    memory goal rank index = record { goal = goal; rank = rank; index = index }

abbrev spot : (goal rank index : ℕ) → Spot
spot goal rank index = record { goal = goal; rank = rank; index = index }

pub counted_from_1 : (goal rank index : ℕ) → spot (goal + 1) rank (index + 1) ≡ spot (suc goal) rank (suc index)
counted_from_1 goal rank index = ap (λ n. spot n rank (index + 1)) (one_more goal) ∙ ap (spot (suc goal) rank) (one_more index)
  where
    one_more : (n : ℕ) → n + 1 ≡ suc n
    one_more n = omega arith
