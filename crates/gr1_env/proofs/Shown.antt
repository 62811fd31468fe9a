-- The layers that were made are those of the definitions.
use Rattle.std.proofs.Common.{◌≡◌, ℕ, suc, ◌+◌, ◌<◌, true, false, List, [], map, length, get_or, slice_get, slice_index, sum, Some, None, Vec, vec_len, ap, sym, ◌∙◌, subst, arith}
use Rattle.std.specs.declared.alloc.Global.{Global}
use Rattle.spec_model.specs.Games.{GameData}
use Rattle.spec_model.specs.Steps.{below}
use Rattle.spec_model.specs.Sets.{StateSet, either, pre_env, environment_forces}
use Rattle.regions.specs.Kept.{Kept, Item, Meaning, weight, IsExact}
use Rattle.gr1_law.specs.Layers.{goal_sets, assumption_set, IsLeastNumber}
use Rattle.gr1_law.specs.EnvLayers.{AreDelayCounts, denial_count, most}
use Rattle.gr1_law.proofs.EnvLayering.{env_z-one}
use Rattle.gr1_law.proofs.EnvCounts.{denials_told}
use Rattle.gr1_sys.specs.Held.{weight_as, MakesRegions, SpendsAll}
use Rattle.gr1_sys.proofs.Lists.{as_held, length_map, made_and_spent_all}
use Rattle.gr1_sys.proofs.Parted.{map_below-same}
use Rattle.gr1_sys.proofs.Won.{found}
use Rattle.gr1_sys.proofs.Givings.{all_above}
use Rattle.gr1_env.specs.declared.layers.EnvGoal.{EnvGoal}
use Rattle.gr1_env.specs.declared.layers.EnvLayer.{EnvLayer}
use Rattle.gr1_env.specs.declared.givens.EnvSets.TheVariants.{Misses, Assumptions}
use Rattle.gr1_env.specs.Givens.{wanted}
use Rattle.gr1_env.specs.Solution.{at, delay_on, cover_of, hold_on, layer_on, delay_sets}
use Rattle.gr1_env.specs.Held.{list_regions, list_sets, hold_regions, hold_sets, goal_regions, holds_sets, layer_regions, layer_sets, all_regions, all_sets, IsWholeHold, AreWholeHolds, AreWholeLayers, HaveLayers}
use Rattle.gr1_env.specs.Told.{base_for, layer_number, hold_number, layers_for}
use Rattle.gr1_env.specs.Solved.{goal_counts, counts_of, hold_count, layer_count, denials_of, ShowsLayers, WonByEnvironment, IsLost, HasWon, HasLost}
use Rattle.gr1_env.proofs.Gathered.{gather-at, all_of-at}
use Rattle.gr1_env.proofs.Joining.{gather-counted, hold_counted, sets_counted}
use Rattle.gr1_env.proofs.Exact.{delay_is, misses_counted, base_is, layers_for-layers}
use Rattle.gr1_env.proofs.Counting.{most_is, there_at, mapped_at}

module _ {G R M : Type 0} where
  layer_counted : (g : GameData) (lower : StateSet) (misses asms : List StateSet) (l : EnvLayer G R M) → length (layer_regions l) ≡ length (layer_sets g lower misses asms l)
  layer_counted g lower misses asms l =
      let rest = gather-counted (λ j (e : EnvGoal G R M). hold_regions e) (λ j (e : EnvGoal G R M). hold_sets g (either (at misses j) (pre_env g lower)) asms e) (λ j e. hold_counted g (either (at misses j) (pre_env g lower)) asms e) l.goals.items in
      omega (arith, rest)

  pub counts_are : (ls : List (EnvLayer G R M)) (a j : ℕ) (l : EnvLayer G R M) (e : EnvGoal G R M) → slice_get ls a ≡ Some l → slice_get l.goals.items j ≡ Some e → counts_of ls (suc a) j ≡ map (λ (v : Vec R Global). vec_len v) e.x.items
  counts_are ls a j l e l_is e_is =
      ap (λ ns. get_or ns j []) (mapped_at (λ (l : EnvLayer G R M). goal_counts l.goals.items) [] ls a l l_is) ∙
      mapped_at (λ (e : EnvGoal G R M). map (λ (v : Vec R Global). vec_len v) e.x.items) [] l.goals.items j e e_is

  module _ (g : GameData) (ls : List (EnvLayer G R M)) (whole : AreWholeLayers g (wanted g Misses) (wanted g Assumptions) ls) where
    holds_whole : (a : ℕ) (l : EnvLayer G R M) → slice_get ls a ≡ Some l → AreWholeHolds g (pre_env g (layer_number g a)) (wanted g Misses) (wanted g Assumptions) l.goals.items
    holds_whole a l is =
        let place = found ls a l is in
        subst (λ (l : EnvLayer G R M). AreWholeHolds g (pre_env g (layer_number g a)) (wanted g Misses) (wanted g Assumptions) l.goals.items) place.1
        (all_of-at (λ a (l : EnvLayer G R M). AreWholeHolds g (pre_env g (layer_number g a)) (wanted g Misses) (wanted g Assumptions) l.goals.items) ls whole a l place.0)

    pub goals_counted : (a : ℕ) (l : EnvLayer G R M) → slice_get ls a ≡ Some l → length l.goals.items ≡ length (goal_sets g)
    goals_counted a l is = (holds_whole a l is).counted ∙ misses_counted g

    goal_in : (a j : ℕ) (l : EnvLayer G R M) (e : EnvGoal G R M) → slice_get ls a ≡ Some l → slice_get l.goals.items j ≡ Some e → j < length (goal_sets g)
    goal_in a j l e l_is e_is = omega (arith, (found l.goals.items j e e_is).0, goals_counted a l l_is)

    hold_whole : (a j : ℕ) (l : EnvLayer G R M) (e : EnvGoal G R M) → slice_get ls a ≡ Some l → slice_get l.goals.items j ≡ Some e → IsWholeHold g (base_for g (layer_number g a) j) (wanted g Assumptions) e
    hold_whole a j l e l_is e_is =
        let place = found l.goals.items j e e_is in
        subst (λ t. IsWholeHold g t (wanted g Assumptions) e) (base_is g a j (goal_in a j l e l_is e_is))
        (subst (λ (e : EnvGoal G R M). IsWholeHold g (either (at (wanted g Misses) j) (pre_env g (layer_number g a))) (wanted g Assumptions) e) place.1
        (all_of-at (λ j (e : EnvGoal G R M). IsWholeHold g (either (at (wanted g Misses) j) (pre_env g (layer_number g a))) (wanted g Assumptions) e) l.goals.items (holds_whole a l l_is).whole j e place.0))

    least_at : (a j i : ℕ) (l : EnvLayer G R M) (e : EnvGoal G R M) (v : Vec R Global) → slice_get ls a ≡ Some l → slice_get l.goals.items j ≡ Some e → slice_get e.x.items i ≡ Some v →
        IsLeastNumber (λ r. (layers_for g).x (suc a) j i r ≡ (layers_for g).x (suc a) j i (suc r)) (vec_len v)
    least_at a j i l e v l_is e_is v_is =
        let place = found e.x.items i v v_is in
        let base = base_for g (layer_number g a) j in
        let cover = cover_of g base (hold_on g base (wanted g Assumptions)) in
        let P : ℕ → Vec R Global → Type 0 = λ i v. IsLeastNumber (λ r. delay_on g cover (at (wanted g Assumptions) i) r ≡ delay_on g cover (at (wanted g Assumptions) i) (suc r)) (vec_len v) in
        let least : P i v = subst (λ (v : Vec R Global). P i v) place.1 (all_of-at P e.x.items (hold_whole a j l e l_is e_is).least i v place.0) in
        let is = delay_is g (layer_number g a) j (hold_number g a j) i in
        record {
          here = sym (is (vec_len v)) ∙ (least.here ∙ is (suc (vec_len v)));
          none_before = λ r before e. least.none_before r before (is r ∙ (e ∙ sym (is (suc r))));
        }

    pub delay_counts : AreDelayCounts g (layers_for g) (length ls) (counts_of ls)
    delay_counts =
        record {
          counted = λ a j before in_goals.
              let l = there_at ls a before in
              let e = there_at l.0.goals.items j (omega (arith, in_goals, goals_counted a l.0 l.1)) in
              ap (λ (ns : List ℕ). length ns) (counts_are ls a j l.0 e.0 l.1 e.1) ∙ (length_map (λ (v : Vec R Global). vec_len v) e.0.x.items ∙ (hold_whole a j l.0 e.0 l.1 e.1).counted);
          each = λ a j i before in_goals in_assumptions.
              let l = there_at ls a before in
              let e = there_at l.0.goals.items j (omega (arith, in_goals, goals_counted a l.0 l.1)) in
              let v = there_at e.0.x.items i (omega (arith, in_assumptions, (hold_whole a j l.0 e.0 l.1 e.1).counted)) in
              let count_is : slice_index (counts_of ls (suc a) j) i ≡ vec_len v.0 =
              ap (λ (ns : List ℕ). slice_index ns i) (counts_are ls a j l.0 e.0 l.1 e.1) ∙ mapped_at (λ (v : Vec R Global). vec_len v) 0 e.0.x.items i v.0 v.1 in
              subst (IsLeastNumber (λ r. (layers_for g).x (suc a) j i r ≡ (layers_for g).x (suc a) j i (suc r))) (sym count_is) (least_at a j i l.0 e.0 v.0 l.1 e.1 v.1);
        }

    pub denials_are : denials_of ls ≡ denial_count g (length ls) (counts_of ls)
    denials_are =
        ap (λ n. 1 + n) (sym (most_is layer_count ls (λ a. most (λ j. sum (counts_of ls (suc a) j)) (length (goal_sets g))) (λ a l l_is.
        ap (most (λ j. sum (counts_of ls (suc a) j))) (sym (goals_counted a l l_is)) ∙
        most_is hold_count l.goals.items (λ j. sum (counts_of ls (suc a) j)) (λ j e e_is. ap sum (counts_are ls a j l e l_is e_is)))))

    -- ---- the sets

    module _ (new : Kept R M) (are : map new.set (all_regions ls) ≡ all_sets g (wanted g Misses) (wanted g Assumptions) ls) where
      layer_stands : (a : ℕ) (l : EnvLayer G R M) → slice_get ls a ≡ Some l → map new.set (layer_regions l) ≡ layer_sets g (layer_number g a) (wanted g Misses) (wanted g Assumptions) l
      layer_stands a l is =
          let place = found ls a l is in
          subst (λ (l : EnvLayer G R M). map new.set (layer_regions l) ≡ layer_sets g (layer_number g a) (wanted g Misses) (wanted g Assumptions) l) place.1
          (gather-at new.set (λ a (l : EnvLayer G R M). layer_regions l) (λ a (l : EnvLayer G R M). layer_sets g (layer_number g a) (wanted g Misses) (wanted g Assumptions) l)
          (λ a l. layer_counted g (layer_number g a) (wanted g Misses) (wanted g Assumptions) l) ls are a l place.0)

      hold_stands : (a j : ℕ) (l : EnvLayer G R M) (e : EnvGoal G R M) → slice_get ls a ≡ Some l → slice_get l.goals.items j ≡ Some e → map new.set (hold_regions e) ≡ hold_sets g (base_for g (layer_number g a) j) (wanted g Assumptions) e
      hold_stands a j l e l_is e_is =
          let place = found l.goals.items j e e_is in
          let forced = pre_env g (layer_number g a) in
          let tail : map new.set (goal_regions l.goals.items) ≡ holds_sets g forced (wanted g Misses) (wanted g Assumptions) l.goals.items = cc (layer_stands a l l_is) in
          subst (λ t. map new.set (hold_regions e) ≡ hold_sets g t (wanted g Assumptions) e) (base_is g a j (goal_in a j l e l_is e_is))
          (subst (λ (e : EnvGoal G R M). map new.set (hold_regions e) ≡ hold_sets g (either (at (wanted g Misses) j) forced) (wanted g Assumptions) e) place.1
          (gather-at new.set (λ j (e : EnvGoal G R M). hold_regions e) (λ j (e : EnvGoal G R M). hold_sets g (either (at (wanted g Misses) j) forced) (wanted g Assumptions) e)
          (λ j e. hold_counted g (either (at (wanted g Misses) j) forced) (wanted g Assumptions) e) l.goals.items tail j e place.0))

      delays_stand : (a j i : ℕ) (l : EnvLayer G R M) (e : EnvGoal G R M) (v : Vec R Global) → slice_get ls a ≡ Some l → slice_get l.goals.items j ≡ Some e → slice_get e.x.items i ≡ Some v →
          map new.set v.items ≡ map (λ r. (layers_for g).x (suc a) j i (suc r)) (below (vec_len v))
      delays_stand a j i l e v l_is e_is v_is =
          let place = found e.x.items i v v_is in
          let base = base_for g (layer_number g a) j in
          let cover = cover_of g base (hold_on g base (wanted g Assumptions)) in
          let tail : map new.set (list_regions e.x.items) ≡ list_sets g cover (wanted g Assumptions) e.x.items = cc (hold_stands a j l e l_is e_is) in
          let sets = subst (λ (v : Vec R Global). map new.set v.items ≡ delay_sets g cover (at (wanted g Assumptions) i) (vec_len v)) place.1
          (gather-at new.set (λ i (v : Vec R Global). v.items) (λ i (v : Vec R Global). delay_sets g cover (at (wanted g Assumptions) i) (vec_len v)) (sets_counted g cover (wanted g Assumptions)) e.x.items tail i v place.0) in
          sets ∙ map_below-same (λ r. delay_on g cover (assumption_set g i) (suc r)) (λ r. (layers_for g).x (suc a) j i (suc r)) (vec_len v) (λ r before. delay_is g (layer_number g a) j (hold_number g a j) i (suc r))

      pub shows : ShowsLayers new ls (layers_for g)
      shows =
          record {
            layer = λ a l is. cc (layer_stands a l is);
            hold = λ a j l e l_is e_is. cc (hold_stands a j l e l_is e_is);
            delays = delays_stand;
          }

-- ---- what the solver gives

module _ {G R M : Type 0} (k k1 k2 k3 : Kept R M) (misses asms : List StateSet) (given : List R) (sets : List StateSet) (exact : IsExact k2) (game : k1.game ≡ k.game)
    (misses_are : misses ≡ wanted k.game Misses) (asms_are : asms ≡ wanted k.game Assumptions) (made : MakesRegions k k1 given sets) (gone : SpendsAll k2 k3 given) where
  pub won_is : (ls : List (EnvLayer G R M)) → IsExact k3 → HasWon k1 k2 misses asms ls → WonByEnvironment k k3 ls (layers_for k.game)
  won_is ls exact_last won =
      let g = k.game in
      let at_game : HaveLayers g k1 k2 misses asms ls = subst (λ h. HaveLayers h k1 k2 misses asms ls) game won.0 in
      let at_misses : HaveLayers g k1 k2 (wanted g Misses) asms ls = subst (λ ms. HaveLayers g k1 k2 ms asms ls) misses_are at_game in
      let have : HaveLayers g k1 k2 (wanted g Misses) (wanted g Assumptions) ls = subst (λ bs. HaveLayers g k1 k2 (wanted g Misses) bs ls) asms_are at_misses in
      let held = all_above k k1 k2 k3 given sets (all_regions ls) (all_sets g (wanted g Misses) (wanted g Assumptions) ls) exact made have.made gone in
      let are = as_held k3 (all_regions ls) (all_sets g (wanted g Misses) (wanted g Assumptions) ls) exact_last held.counted (λ w. omega (arith, held.held w)) in
      record {
        held = subst (λ ss. (w : Item R M → Meaning → ℕ) → weight k3 w ≡ weight_as (all_regions ls) ss w + weight k w) (sym are) held.held;
        jam = held.jam;
        layers = layers_for-layers g;
        last = have.count;
        forced = ap (λ bs. environment_forces g (layer_on g (wanted g Misses) bs (length ls)) None) (sym asms_are) ∙ (ap (λ ms. environment_forces g (layer_on g ms asms (length ls)) None) (sym misses_are) ∙ subst (λ h. environment_forces h (layer_on h misses asms (length ls)) None ≡ true) game won.1);
        goals = goals_counted g ls have.whole;
        counts = delay_counts g ls have.whole;
        denials = denials_are g ls have.whole;
        shown = shows g ls have.whole k3 are;
      }

module _ {R M : Type 0} (k k1 k2 k3 : Kept R M) (misses asms : List StateSet) (given : List R) (sets : List StateSet) (exact : IsExact k2) (game : k1.game ≡ k.game)
    (misses_are : misses ≡ wanted k.game Misses) (asms_are : asms ≡ wanted k.game Assumptions) (made : MakesRegions k k1 given sets) (gone : SpendsAll k2 k3 given) where
  pub lost_is : k.jam ≡ None → HasLost k1 k2 misses asms → IsLost k k3
  lost_is free lost =
      let g = k.game in
      let last : IsLeastNumber (λ a. layer_on g (wanted g Misses) (wanted g Assumptions) a ≡ layer_on g (wanted g Misses) (wanted g Assumptions) (suc a)) lost.count =
      subst (λ bs. IsLeastNumber (λ a. layer_on g (wanted g Misses) bs a ≡ layer_on g (wanted g Misses) bs (suc a)) lost.count) asms_are
      (subst (λ ms. IsLeastNumber (λ a. layer_on g ms asms a ≡ layer_on g ms asms (suc a)) lost.count) misses_are
      (subst (λ h. IsLeastNumber (λ a. layer_on h misses asms a ≡ layer_on h misses asms (suc a)) lost.count) game lost.last)) in
      let escapes : environment_forces g (layer_on g (wanted g Misses) (wanted g Assumptions) lost.count) None ≡ false =
      ap (λ bs. environment_forces g (layer_on g (wanted g Misses) bs lost.count) None) (sym asms_are) ∙ (ap (λ ms. environment_forces g (layer_on g ms asms lost.count) None) (sym misses_are) ∙ subst (λ h. environment_forces h (layer_on h misses asms lost.count) None ≡ false) game lost.escapes) in
      record {
        stays = record { held = made_and_spent_all k k1 k2 k3 given sets exact made lost.stays.held gone; jam = gone.jam ∙ (lost.stays.jam ∙ (made.jam ∙ sym free)) };
        escapes = λ e n of count.
            let same_n : n ≡ lost.count = (denials_told g).same_layers e (layers_for g) n lost.count of (layers_for-layers g) count last in
            let same_z : e.z n ≡ layer_on g (wanted g Misses) (wanted g Assumptions) lost.count = env_z-one g e (layers_for g) of (layers_for-layers g) n ∙ ap (layer_number g) same_n in
            ap (λ t. environment_forces g t None) same_z ∙ escapes;
      }
