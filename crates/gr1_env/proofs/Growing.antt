-- The layers rise, and what is held while they are made.
use Rattle.std.proofs.Common.{◌≡◌, ℕ, zero, suc, ◌+◌, ◌-◌, ◌<◌, ◌⊎◌, inl, inr, Bool, true, false, List, [], ◌∷◌, ◌++◌, map, length, slice_get, Some, None, IsTrue, ap, sym, ◌∙◌, refl, subst, arith}
use Rattle.std.proofs.lemmas.List.{map-append}
use Rattle.spec_model.specs.Games.{GameData}
use Rattle.spec_model.specs.Steps.{states_of}
use Rattle.spec_model.specs.Sets.{StateSet, no_states, all_states, pre_env, IsPartOf}
use Rattle.spec_model.specs.Counts.{count_in}
use Rattle.spec_model.proofs.SetLaws.{pre_env_grows}
use Rattle.spec_model.proofs.Fixpoints.{rising-more}
use Rattle.regions.specs.Kept.{Kept, HasRegion, IsExact}
use Rattle.gr1_law.proofs.Greatest.{greatest_grows}
use Rattle.gr1_sys.specs.Held.{MakesRegions, HasEach, HasTogether}
use Rattle.gr1_sys.proofs.Greatest.{count_at_most, up-rises}
use Rattle.gr1_sys.proofs.Lists.{makes_still, each_append, held_each, region_stays, set_kept, together_as, length_push}
use Rattle.gr1_sys.proofs.Parted.{nothing_made}
use Rattle.gr1_sys.proofs.Rounds.{first_is}
use Rattle.gr1_sys.proofs.Winning.{both_grows, either_grows, meet_grows, union_grows, union_inside}
use Rattle.gr1_env.specs.declared.layers.EnvLayer.{EnvLayer}
use Rattle.gr1_env.specs.Solution.{at, cover_of, hold_value_on, hold_on, base_of, hold_over, layer_over, layer_on}
use Rattle.gr1_env.specs.Held.{last_of, last_z, goal_regions, layer_regions, all_regions, layer_sets, all_sets, holds_sets, AreWholeHolds, AreWholeLayers, HasLayer, GrowsLayers, HaveLayers}
use Rattle.gr1_env.proofs.Gathered.{all_of-push, makes_next, last_of-push, last_found}
use Rattle.gr1_env.proofs.Rising.{last_delay_on-grows}
use Rattle.gr1_env.proofs.Holding.{hold_value_on-inside, hold_on-greatest}

-- ---- they rise

module _ (g : GameData) (misses asms : List StateSet) where
  value_grows : (b c t : StateSet) → IsPartOf b c → IsPartOf (hold_value_on g b asms t) (hold_value_on g c asms t)
  value_grows b c t part = meet_grows g _ _ (λ i. last_delay_on-grows g (at asms i) (cover_of g b t) (cover_of g c t) (both_grows (pre_env g t) b (pre_env g t) c (λ s e. e) part)) (length asms)

  hold_on-grows : (b c : StateSet) → IsPartOf b c → IsPartOf (hold_on g b asms) (hold_on g c asms)
  hold_on-grows b c part = greatest_grows (hold_value_on g b asms) (hold_value_on g c asms) (hold_on g b asms) (hold_on g c asms) (hold_on-greatest g b asms) (hold_on-greatest g c asms) (λ t. value_grows b c t part)

  hold_on-inside : (b : StateSet) → IsPartOf (hold_on g b asms) (all_states g)
  hold_on-inside b s e = hold_value_on-inside g b asms (hold_on g b asms) s (subst (λ (t : StateSet). IsTrue (t s)) (hold_on-greatest g b asms).solves e)

  over : StateSet → StateSet
  over t = layer_over g t misses asms

  over-grows : (t u : StateSet) → IsPartOf t u → IsPartOf (over t) (over u)
  unfolding over
  over-grows t u part = union_grows (hold_over g t misses asms) (hold_over g u misses asms) (λ j. hold_on-grows _ _ (either_grows (at misses j) (pre_env g t) (at misses j) (pre_env g u) (λ s e. e) (pre_env_grows g t u part))) (length misses)

  over-inside : (t : StateSet) → IsPartOf (over t) (all_states g)
  unfolding over
  over-inside t = union_inside (hold_over g t misses asms) (all_states g) (λ j. hold_on-inside (base_of g t (at misses j))) (length misses)

  pub layer_on-more : (a : ℕ) → (layer_on g misses asms a ≡ layer_on g misses asms (suc a) → ⊥) →
      length (states_of g) - count_in (layer_on g misses asms (suc a)) (states_of g) < length (states_of g) - count_in (layer_on g misses asms a) (states_of g)
  unfolding over
  layer_on-more a unsettled =
      let more = rising-more g over over-grows over-inside (layer_on g misses asms a) (up-rises g over over-grows over-inside (layer_on g misses asms) refl (λ n. refl) a) unsettled in
      let bound = count_at_most (layer_on g misses asms (suc a)) (states_of g) in
      omega (arith, more, bound)

-- ---- the last layer

slice_get-map : {X Y : Type 0} (f : X → Y) (xs : List X) (n : ℕ) (x : X) → Some x ≡ slice_get xs n → Some (f x) ≡ slice_get (map f xs) n
slice_get-map f [] n x is = cc
slice_get-map f (y ∷ xs) zero x is = let same : x ≡ y = cc in ap (λ z. Some (f z)) same
slice_get-map f (y ∷ xs) (suc n) x is = slice_get-map f xs n x is

module _ {G R M : Type 0} where
  mapped : (ls : List (EnvLayer G R M)) → length (map (λ (l : EnvLayer G R M). l.z) ls) ≡ length ls
  mapped [] = refl
  mapped (l ∷ ls) = let rest = mapped ls in omega (arith, rest)

  pub last_z_found : (none : R) (ls : List (EnvLayer G R M)) (l : EnvLayer G R M) → Some l ≡ slice_get ls (length ls - 1) → l.z ≡ last_z none ls
  last_z_found none ls l is =
      last_found none (map (λ (l : EnvLayer G R M). l.z) ls) l.z
      (subst (λ n. Some l.z ≡ slice_get (map (λ (l : EnvLayer G R M). l.z) ls) n) (ap (λ n. n - 1) (sym (mapped ls))) (slice_get-map (λ (l : EnvLayer G R M). l.z) ls (length ls - 1) l is))

  pub last_z-push : (none : R) (ls : List (EnvLayer G R M)) (l : EnvLayer G R M) → last_z none (ls ++ l ∷ []) ≡ l.z
  last_z-push none ls l = ap (last_of none) (map-append (λ (l : EnvLayer G R M). l.z) ls (l ∷ [])) ∙ last_of-push none (map (λ (l : EnvLayer G R M). l.z) ls) l.z

  pub last_z_held : (k : Kept R M) (none : R) (ls : List (EnvLayer G R M)) → HasRegion k none → HasEach k (all_regions ls) → HasRegion k (last_z none ls)
  last_z_held k none [] here each = here
  last_z_held k none (l ∷ ls) here each = let parts = each_append k (layer_regions l) (all_regions ls) each in last_z_held k l.z ls parts.0.0 parts.1

  pub z_is : (g : GameData) (k k1 : Kept R M) (lower : StateSet) (misses asms : List StateSet) (l : EnvLayer G R M) → IsExact k1 → HasLayer g k k1 lower misses asms l → k1.set l.z ≡ layer_over g lower misses asms
  z_is g k k1 lower misses asms l exact has = first_is k k1 l.z (goal_regions l.goals.items) (layer_over g lower misses asms) (holds_sets g (pre_env g lower) misses asms l.goals.items) exact has.made

  pub layer_held : (g : GameData) (k k1 : Kept R M) (lower : StateSet) (misses asms : List StateSet) (l : EnvLayer G R M) → IsExact k1 → HasLayer g k k1 lower misses asms l → HasTogether k1 (layer_regions l)
  layer_held g k k1 lower misses asms l exact has = together_as k1 (layer_regions l) (layer_sets g lower misses asms l) exact has.made.counted (λ w. omega (arith, has.made.held w))

  -- ---- layer by layer

  pub record ClimbsLayers (g : GameData) (old new : Kept R M) (none : R) (misses asms : List StateSet) (ls : List (EnvLayer G R M)) : Type 0 where
    pub made : MakesRegions old new (all_regions ls) (all_sets g misses asms ls)
    pub whole : AreWholeLayers g misses asms ls
    pub last : new.set (last_z none ls) ≡ layer_on g misses asms (length ls)
    pub unsettled : (a : ℕ) → a < length ls → layer_on g misses asms a ≡ layer_on g misses asms (suc a) → ⊥

  pub climbs_first : (k : Kept R M) (none : R) (misses asms : List StateSet) (ls : List (EnvLayer G R M)) → ls ≡ [] → k.jam ≡ None → k.set none ≡ no_states → ClimbsLayers k.game k k none misses asms ls
  climbs_first k none misses asms ls e free empty =
      subst (λ (qs : List (EnvLayer G R M)). ClimbsLayers k.game k k none misses asms qs) (sym e)
      (record { made = nothing_made k [] refl free; whole = tt; last = empty; unsettled = λ a below settled. absurd (omega (arith, below)) })

less_or_last : (i n : ℕ) → i < n + 1 → (i < n) ⊎ (i ≡ n)
less_or_last i n before = grind (arith, before)

module _ {G R M : Type 0} (g : GameData) (first k new : Kept R M) (none : R) (misses asms : List StateSet) (ls next : List (EnvLayer G R M)) (climbs : ClimbsLayers g first k none misses asms ls) where
  module _ (exact : IsExact new) (grown : GrowsLayers g k new (layer_on g misses asms (length ls)) misses asms ls next false) where
    new_last : new.set (last_z none next) ≡ layer_on g misses asms (suc (length ls))
    new_last =
        ap (λ (qs : List (EnvLayer G R M)). new.set (last_z none qs)) grown.1.0 ∙
        (ap new.set (last_z-push none ls grown.0) ∙ z_is g k new (layer_on g misses asms (length ls)) misses asms grown.0 exact grown.1.1.0)

    counted : length next ≡ suc (length ls)
    counted = ap (λ (qs : List (EnvLayer G R M)). length qs) grown.1.0 ∙ (length_push ls grown.0 ∙ omega arith)

    by_place : (a : ℕ) → (a < length ls) ⊎ (a ≡ length ls) → layer_on g misses asms a ≡ layer_on g misses asms (suc a) → ⊥
    by_place a (inl before) settled = climbs.unsettled a before settled
    by_place a (inr here) settled = grown.1.1.1 (subst (λ m. layer_on g misses asms m ≡ layer_on g misses asms (suc m)) here settled)

    pub climbs_next : ClimbsLayers g first new none misses asms next
    climbs_next =
        record {
          made = subst (λ (qs : List (EnvLayer G R M)). MakesRegions first new (all_regions qs) (all_sets g misses asms qs)) (sym grown.1.0)
              (makes_next first k new (λ a (l : EnvLayer G R M). layer_regions l) (λ a (l : EnvLayer G R M). layer_sets g (layer_on g misses asms a) misses asms l) ls grown.0 climbs.made grown.1.1.0.made);
          whole = subst (λ (qs : List (EnvLayer G R M)). AreWholeLayers g misses asms qs) (sym grown.1.0)
              (all_of-push (λ a (l : EnvLayer G R M). AreWholeHolds g (pre_env g (layer_on g misses asms a)) misses asms l.goals.items) ls grown.0 climbs.whole grown.1.1.0.whole);
          last = new_last ∙ ap (layer_on g misses asms) (sym counted);
          unsettled = λ a below. by_place a (less_or_last a (length ls) (omega (arith, below, counted)));
        }

    pub climbs_fewer : length (states_of g) - count_in (new.set (last_z none next)) (states_of g) < length (states_of g) - count_in (k.set (last_z none ls)) (states_of g)
    climbs_fewer =
        subst (λ t. length (states_of g) - count_in (new.set (last_z none next)) (states_of g) < length (states_of g) - count_in t (states_of g)) (sym climbs.last)
        (subst (λ t. length (states_of g) - count_in t (states_of g) < length (states_of g) - count_in (layer_on g misses asms (length ls)) (states_of g)) (sym new_last)
        (layer_on-more g misses asms (length ls) grown.1.1.1))

  -- the last turn
  pub climbed : GrowsLayers g k new (layer_on g misses asms (length ls)) misses asms ls next true → HaveLayers g first new misses asms next
  climbed grown =
      subst (λ (qs : List (EnvLayer G R M)). HaveLayers g first new misses asms qs) (sym grown.0)
      (record {
        made = makes_still first k new (all_regions ls) (all_sets g misses asms ls) climbs.made grown.1.0 grown.1.1.0;
        whole = climbs.whole;
        count = record { here = grown.1.1.1; none_before = climbs.unsettled };
      })

  -- and the last stays
  pub last_stays : IsExact new → HasRegion first none → GrowsLayers g k new (layer_on g misses asms (length ls)) misses asms ls next true → new.set (last_z none next) ≡ layer_on g misses asms (length next)
  last_stays exact has_none grown =
      let here = region_stays first k none (λ w. omega (arith, climbs.made.held w)) has_none in
      let each = held_each k (all_regions ls) (all_sets g misses asms ls) climbs.made.counted (λ w. omega (arith, climbs.made.held w)) in
      let kept = set_kept k new (last_z none ls) exact (λ w. omega (arith, grown.1.0 w)) (last_z_held k none ls here each) in
      subst (λ (qs : List (EnvLayer G R M)). new.set (last_z none qs) ≡ layer_on g misses asms (length qs)) (sym grown.0) (kept ∙ climbs.last)

module _ {G R M : Type 0} where
  -- a call told of the sets as they stand then
  pub grows_at : (g : GameData) (k new : Kept R M) (lower low : StateSet) (misses ms asms bs : List StateSet) (ls next : List (EnvLayer G R M)) (b : Bool) → k.game ≡ g → lower ≡ low → misses ≡ ms → asms ≡ bs →
      GrowsLayers k.game k new lower misses asms ls next b → GrowsLayers g k new low ms bs ls next b
  grows_at g k new lower low misses ms asms bs ls next b game lower_is misses_are asms_are grown =
      subst (λ ts. GrowsLayers g k new low ms ts ls next b) asms_are (subst (λ ts. GrowsLayers g k new low ts asms ls next b) misses_are
      (subst (λ t. GrowsLayers g k new t misses asms ls next b) lower_is (subst (λ h. GrowsLayers h k new lower misses asms ls next b) game grown)))
