-- The environment's layers of a small game in which no second output is legal.
use Rattle.std.proofs.Common.{◌≡◌, ℕ, zero, suc, ◌<◌, true, false, List, slice_index, None, refl, sym, ◌∙◌, ap, subst, arith, IsTrue}
use Rattle.std.proofs.lemmas.Bool.{and_from, or_right, false≢true}
use Rattle.spec_model.specs.Unrealizable.{IsUnrealizable}
use Rattle.spec_model.specs.GameRules.{rules_of_game}
use Rattle.spec_model.specs.Sets.{StateSet, all_states, rest, pre_env, environment_forces, IsPartOf}
use Rattle.spec_model.specs.WellMade.{WellMade}
use Rattle.spec_model.proofs.Duality.{parts_agree}
use Rattle.gr1_law.specs.Layers.{IsLeastNumber, goal_set, assumption_set}
use Rattle.gr1_law.specs.EnvLayers.{delay, EnvLayerSets, AreEnvLayers, IsLayerCount, AreDelayCounts, denial_count}
use Rattle.gr1_law.specs.CounterLaws.{LabelsDiffer}
use Rattle.gr1_law.specs.Worked.{stuck, HasDenials}
use Rattle.gr1_law.proofs.Lights.{state, spelled_both}
use Rattle.gr1_law.proofs.Delays.{to_delay, delay-inside}
use Rattle.gr1_law.proofs.EnvLayering.{env_layers_of, env_layers_of-layers, env_layer_inside, hold_in_layer}
use Rattle.gr1_law.proofs.EnvCounts.{told_least, some_delay_counts}
use Rattle.gr1_law.proofs.Settling.{one_rank}
use Rattle.gr1_law.proofs.Solutions.{least-one}
use Rattle.gr1_law.proofs.CounterBeats.{unrealizable}

-- from each state the environment forces the next one into any set, since no output is legal
forced : (t : StateSet) → IsPartOf (all_states stuck) (pre_env stuck t)
forced t s here = and_from _ _ here refl

in_delay : (lower hold : StateSet) (i r : ℕ) → IsPartOf (all_states stuck) (delay stuck lower hold 0 i (suc r))
in_delay lower hold i r s here =
    to_delay stuck lower hold 0 i (delay stuck lower hold 0 i r) s (record {
      denied = or_right (rest stuck (goal_set stuck 0) s) (pre_env stuck lower s) (forced lower s here);
      stays = forced hold s here;
      met = or_right (assumption_set stuck i s) (pre_env stuck (delay stuck lower hold 0 i r) s) (forced (delay stuck lower hold 0 i r) s here);
    })

module _ (e : EnvLayerSets) (of : AreEnvLayers stuck e) where
  -- so each layer from the first on has all states
  in_layer : (a : ℕ) → IsPartOf (all_states stuck) (e.z (suc a))
  in_layer a s here = hold_in_layer stuck e of a 0 (omega arith) s ((of.held a 0).above (all_states stuck) (λ s here i below. (1, in_delay (e.z a) (all_states stuck) i 0 s here)) s here)

  layer_is : (a : ℕ) → e.z (suc a) ≡ all_states stuck
  layer_is a = parts_agree _ _ (env_layer_inside stuck e of (suc a)) (in_layer a)

  one_layer : IsLayerCount e 1
  one_layer = record { here = layer_is 0 ∙ sym (layer_is 1); none_before = before }
    where
      before : (a : ℕ) → a < 1 → e.z a ≡ e.z (suc a) → ⊥
      before zero below same = false≢true (subst (λ (t : StateSet). IsTrue (t (state false false))) (sym same ∙ of.none_first) (in_layer 0 (state false false) refl))
      before (suc a) below same = omega arith

  -- and the greatest rank is 1
  one_delay : IsLeastNumber (λ r. e.x 1 0 0 r ≡ e.x 1 0 0 (suc r)) 1
  one_delay = told_least (e.x 1 0 0) (delay stuck (e.z 0) (e.y 1 0) 0 0) (of.delays 0 0 0) 1 (record { here = same; none_before = before })
    where
      same : delay stuck (e.z 0) (e.y 1 0) 0 0 1 ≡ delay stuck (e.z 0) (e.y 1 0) 0 0 2
      same = parts_agree _ _ (λ s here. in_delay (e.z 0) (e.y 1 0) 0 1 s (delay-inside stuck (e.z 0) (e.y 1 0) 0 0 1 s here)) (λ s here. in_delay (e.z 0) (e.y 1 0) 0 0 s (delay-inside stuck (e.z 0) (e.y 1 0) 0 0 2 s here))

      before : (r : ℕ) → r < 1 → delay stuck (e.z 0) (e.y 1 0) 0 0 r ≡ delay stuck (e.z 0) (e.y 1 0) 0 0 (suc r) → ⊥
      before zero below empty = false≢true (subst (λ (t : StateSet). IsTrue (t (state false false))) (sym empty) (in_delay (e.z 0) (e.y 1 0) 0 0 (state false false) refl))
      before (suc r) below empty = omega arith

  two_denials : (counts : ℕ → ℕ → List ℕ) → AreDelayCounts stuck e 1 counts → denial_count stuck 1 counts ≡ 2
  two_denials counts are =
      let rank : slice_index (counts 1 0) 0 ≡ 1 = least-one (λ r. e.x 1 0 0 r ≡ e.x 1 0 0 (suc r)) _ 1 (are.each 0 0 0 (omega arith) (omega arith) (omega arith)) one_delay in
      let total = one_rank (counts 1 0) 1 (are.counted 0 0 (omega arith) (omega arith)) rank in
      omega (arith, total)

counted : (e : EnvLayerSets) (n : ℕ) (counts : ℕ → ℕ → List ℕ) → AreEnvLayers stuck e → IsLayerCount e n → AreDelayCounts stuck e n counts → (n ≡ 1) × (denial_count stuck n counts ≡ 2)
counted e n counts of count are =
    let one : n ≡ 1 = least-one (λ a. e.z a ≡ e.z (suc a)) n 1 count (one_layer e of) in
    (one, ap (λ (n : ℕ). denial_count stuck n counts) one ∙ two_denials e of counts (subst (λ (n : ℕ). AreDelayCounts stuck e n counts) one are))

stuck_made : WellMade stuck
stuck_made =
    record {
      few_variables = omega arith;
      names = refl;
      spelled = spelled_both;
      domains = refl;
      hidden = refl;
      initial_asm = refl;
      initial_gar = refl;
      safe_asm = refl;
      safe_gar = refl;
      assume = refl;
      goals = refl;
    }

-- there is one goal
alone : LabelsDiffer stuck
alone i j less below = absurd (omega (arith, less, below))

pub stuck_denials : HasDenials stuck 1 2
stuck_denials = record { count = counted; unrealizable = subst (IsUnrealizable (rules_of_game stuck) 1) (counted e 1 counts.0 of (one_layer e of) counts.1).1 lost }
  where
    e : EnvLayerSets
    e = env_layers_of stuck

    of : AreEnvLayers stuck (env_layers_of stuck)
    of = env_layers_of-layers stuck

    counts : (counts : ℕ → ℕ → List ℕ) × AreDelayCounts stuck (env_layers_of stuck) 1 counts
    counts = some_delay_counts stuck (env_layers_of stuck) (env_layers_of-layers stuck) 1

    lost : IsUnrealizable (rules_of_game stuck) 1 (denial_count stuck 1 counts.0)
    lost = unrealizable stuck stuck_made alone e 1 counts.0 (record { layers = of; delays = counts.1; forced = subst (λ (t : StateSet). environment_forces stuck t None ≡ true) (sym (layer_is e of 0)) refl })
