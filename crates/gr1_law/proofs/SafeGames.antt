-- A game without goals: Z is the greatest set in which the system can stay, and its only rank is at most 1.
use Rattle.std.proofs.Common.{◌≡◌, ℕ, zero, suc, ◌<◌, ◌≤◌, inl, inr, Bool, true, false, not, ◌&&◌, List, [], ◌∷◌, length, map, get_or, slice_index, refl, sym, ◌∙◌, ap, subst, arith, IsTrue}
use Rattle.spec_model.specs.Games.{GameData, GoalData, State}
use Rattle.spec_model.specs.Steps.{is_state}
use Rattle.spec_model.specs.Sets.{StateSet, no_states, all_states, rest, holding, pre_sys, IsPartOf, IsGreatest}
use Rattle.spec_model.proofs.SetLaws.{pre_sys_grows, pre_sys-inside}
use Rattle.spec_model.proofs.Duality.{parts_agree}
use Rattle.gr1_law.specs.SafeGames.{IsRoundCount}
use Rattle.gr1_law.specs.Layers.{LayerSets, AreLayers, IsWinning, HasRanks, AreGreatestRanks, IsLeastNumber, or_all_states, goal_sets, goal_set, assumption_sets, assumption_set, round_count}
use Rattle.gr1_law.specs.Specifications.{SafetyIsASpecialCase}
use Rattle.spec_model.specs.Agreement.{HasNoGoals}
use Rattle.gr1_law.proofs.Parts.{InPart, in_part, to_part}
use Rattle.gr1_law.proofs.Layering.{asm_count, layers_of, layers_of-layers}
use Rattle.gr1_law.proofs.Winning.{in_a_part, part_in_layer, part_solves, none_below}
use Rattle.gr1_law.proofs.Solutions.{layers-inside, last-one}
use Rattle.gr1_law.proofs.Settling.{one_rank}

not_both : (b : Bool) → (b && not b) ≡ true → ⊥
not_both true e = cc
not_both false e = cc

module _ (g : GameData) (none : HasNoGoals g) where
  pub one_goal : goal_sets g ≡ all_states g ∷ []
  one_goal = ap (λ (gs : List GoalData). or_all_states g (map (λ (goal : GoalData). holding g goal.holds) gs)) none.1

  pub one_assumption : assumption_sets g ≡ all_states g ∷ []
  one_assumption = ap (λ (gs : List GoalData). or_all_states g (map (λ (goal : GoalData). holding g goal.holds) gs)) none.0

  pub goal_count : length (goal_sets g) ≡ 1
  goal_count = ap (λ (sets : List StateSet). length sets) one_goal

  pub asm_alone : asm_count g ≡ 1
  asm_alone = ap (λ (sets : List StateSet). length sets) one_assumption

  pub holds_in_all : (s : State) → is_state g s ≡ true → goal_set g 0 s ≡ true
  holds_in_all s here = ap (λ (sets : List StateSet). get_or sets 0 no_states s) one_goal ∙ here

  pub met_in_all : (s : State) → is_state g s ≡ true → assumption_set g 0 s ≡ true
  met_in_all s here = ap (λ (sets : List StateSet). get_or sets 0 no_states s) one_assumption ∙ here

  -- the only assumption is never false
  no_waiting : (s : State) → rest g (assumption_set g 0) s ≡ true → ⊥
  no_waiting s e = not_both (is_state g s) (sym (ap (λ (sets : List StateSet). rest g (get_or sets 0 no_states) s) one_assumption) ∙ e)

  -- ---- each layer has the states from which the system forces the next one into the set

  module _ (z : StateSet) (l : LayerSets) (of_z : AreLayers g z l) where
    in_layer : (r : ℕ) → IsPartOf (pre_sys g z) (l.y 0 (suc r))
    in_layer r s e =
        part_in_layer g z l of_z 0 r 0 (omega (arith, asm_alone)) s
        ((of_z.greatest 0 r 0).above (pre_sys g z) (λ t forced. to_part g z (l.y 0 r) 0 0 (pre_sys g z) t (InPart.met (holds_in_all t (pre_sys-inside g z t forced)) forced)) s e)

    of_layer : (r : ℕ) → IsPartOf (l.y 0 r) z → IsPartOf (l.y 0 (suc r)) (pre_sys g z)
    of_layer r below s e = by_cases (in_part g z (l.y 0 r) 0 0 (l.x 0 (suc r) 0) s (part_solves g z l of_z 0 r 0 s in_first))
      where
        in_first : IsTrue (l.x 0 (suc r) 0 s)
        in_first = let part = in_a_part g z l of_z 0 r s e in subst (λ (i : ℕ). IsTrue (l.x 0 (suc r) i s)) (omega (arith, part.1, asm_alone)) part.2

        by_cases : InPart g z (l.y 0 r) 0 0 (l.x 0 (suc r) 0) s → IsTrue (pre_sys g z s)
        by_cases (InPart.met holds forced) = forced
        by_cases (InPart.lower forced) = pre_sys_grows g (l.y 0 r) z below s forced
        by_cases (InPart.waiting fails forced) = absurd (no_waiting s fails)

  -- ---- Z

  module _ (z : StateSet) (l : LayerSets) (w : IsWinning g z l) where
    layer_is : (r : ℕ) → l.y 0 (suc r) ≡ pre_sys g z
    layer_is r = parts_agree _ _ (of_layer z l w.layers r (layers-inside g z l w 0 r)) (in_layer z l w.layers r)

    stays : IsPartOf z (pre_sys g z)
    stays s e = let rank = (w.solves s).0 e 0 (omega (arith, goal_count)) in at rank.0 rank.1
      where
        at : (r : ℕ) → IsTrue (l.y 0 r s) → IsTrue (pre_sys g z s)
        at zero in_none = absurd (none_below g z l w.layers 0 s in_none)
        at (suc r) here = subst (λ (t : StateSet). IsTrue (t s)) (layer_is r) here

    has_ranks : (t : StateSet) → IsPartOf t (pre_sys g t) → (s : State) → IsTrue (t s) → HasRanks g (layers_of g t) s
    has_ranks t part s e j below =
        let first : 0 ≡ j = omega (arith, below, goal_count) in
        (1, subst (λ (j : ℕ). IsTrue ((layers_of g t).y j 1 s)) first (in_layer t (layers_of g t) (layers_of-layers g t) 0 s (part s e)))

    pub z_is_greatest : IsGreatest (pre_sys g) z
    z_is_greatest =
        record {
          solves = parts_agree _ _ stays (λ s e. layers-inside g z l w 0 1 s (in_layer z l w.layers 0 s e));
          above = λ t part. w.above t (layers_of g t) (layers_of-layers g t) (has_ranks t part);
        }

    -- ---- K

    module _ (ranks : List ℕ) (greatest : AreGreatestRanks g l ranks) where
      rank_alone : length ranks ≡ 1
      rank_alone = greatest.counted ∙ goal_count

      least : IsLeastNumber (λ r. l.y 0 r ≡ l.y 0 (suc r)) (slice_index ranks 0)
      least = greatest.each 0 (omega (arith, rank_alone))

      last : l.y 0 (slice_index ranks 0) ≡ z
      last = last-one g z l ranks w greatest 0 (omega (arith, rank_alone))

      rank_at_most : slice_index ranks 0 ≤ 1
      rank_at_most = let no_more : 1 < slice_index ranks 0 → ⊥ = λ less. least.none_before 1 less (layer_is 0 ∙ sym (layer_is 1)) in grind (arith, no_more)

      by_rank : (r : ℕ) → slice_index ranks 0 ≡ r → r ≤ 1 → IsRoundCount z (suc r)
      by_rank zero is few = inl (sym last ∙ (ap (l.y 0) is ∙ w.layers.none_first 0), omega arith)
      by_rank (suc zero) is few = inr (
        (λ empty. least.none_before 0 (omega (arith, is)) (w.layers.none_first 0 ∙ (sym empty ∙ (sym last ∙ ap (l.y 0) is)))),
        omega arith,
      )
      by_rank (suc (suc r)) is few = absurd (omega arith)

      pub rounds_counted : IsRoundCount z (round_count ranks)
      rounds_counted = subst (IsRoundCount z) (sym (one_rank ranks (slice_index ranks 0) rank_alone refl)) (by_rank (slice_index ranks 0) refl rank_at_most)

pub special_case : (g : GameData) → HasNoGoals g → SafetyIsASpecialCase g
special_case g none z l ranks w greatest = (z_is_greatest g none z l w, rounds_counted g none z l w ranks greatest)
