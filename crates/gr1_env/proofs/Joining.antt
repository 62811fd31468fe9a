-- The holds of a layer and the layers, while they are made.
use Rattle.std.proofs.Common.{◌≡◌, ℕ, zero, suc, ◌<◌, List, [], ◌∷◌, ◌++◌, map, length, get_or, Vec, vec_len, ap, sym, ◌∙◌, refl, subst, arith}
use Rattle.std.proofs.lemmas.List.{get_or-map}
use Rattle.std.specs.declared.alloc.Global.{Global}
use Rattle.spec_model.specs.Games.{GameData}
use Rattle.spec_model.specs.Steps.{below}
use Rattle.spec_model.specs.Sets.{StateSet, no_states, either, pre_env}
use Rattle.regions.specs.Kept.{Kept, HasRegion, MakesRegion, IsExact}
use Rattle.gr1_law.specs.Layers.{union}
use Rattle.gr1_sys.specs.Held.{MakesRegions, HasEach}
use Rattle.gr1_sys.proofs.Lists.{as_held, length_map, length_below, length_both, one_of, set_at_is, weight_as-more}
use Rattle.gr1_env.specs.declared.layers.EnvGoal.{EnvGoal}
use Rattle.gr1_env.specs.declared.layers.EnvLayer.{EnvLayer}
use Rattle.gr1_env.specs.Solution.{at, delay_on, cover_of, hold_on, hold_over, layer_over, delay_sets}
use Rattle.gr1_env.specs.Held.{gather, AllOf, hold_regions, hold_sets, goal_regions, holds_sets, IsWholeHold, HasHold, HaveHolds, HasLayer, hold_set}
use Rattle.gr1_env.proofs.Gathered.{gather-at, all_of-push, makes_next}

module _ {G R M : Type 0} where
  -- a call told of the sets as they stand then
  pub hold_at : (g : GameData) (k new : Kept R M) (base b : StateSet) (asms bs : List StateSet) (e : EnvGoal G R M) → k.game ≡ g → base ≡ b → asms ≡ bs → HasHold k.game k new base asms e → HasHold g k new b bs e
  hold_at g k new base b asms bs e game base_is asms_are has =
      subst (λ ts. HasHold g k new b ts e) asms_are (subst (λ t. HasHold g k new t asms e) base_is (subst (λ h. HasHold h k new base asms e) game has))

  pub holds_at : (g : GameData) (k new : Kept R M) (forced f : StateSet) (misses ms asms bs : List StateSet) (goals : List (EnvGoal G R M)) → k.game ≡ g → forced ≡ f → misses ≡ ms → asms ≡ bs →
      HaveHolds k.game k new forced misses asms goals → HaveHolds g k new f ms bs goals
  holds_at g k new forced f misses ms asms bs goals game forced_is misses_are asms_are has =
      subst (λ ts. HaveHolds g k new f ms ts goals) asms_are (subst (λ ts. HaveHolds g k new f ts asms goals) misses_are (subst (λ t. HaveHolds g k new t misses asms goals) forced_is (subst (λ h. HaveHolds h k new forced misses asms goals) game has)))

  pub layer_at : (g : GameData) (k new : Kept R M) (lower low : StateSet) (misses ms asms bs : List StateSet) (l : EnvLayer G R M) → k.game ≡ g → lower ≡ low → misses ≡ ms → asms ≡ bs →
      HasLayer k.game k new lower misses asms l → HasLayer g k new low ms bs l
  layer_at g k new lower low misses ms asms bs l game lower_is misses_are asms_are has =
      subst (λ ts. HasLayer g k new low ms ts l) asms_are (subst (λ ts. HasLayer g k new low ts asms l) misses_are (subst (λ t. HasLayer g k new t misses asms l) lower_is (subst (λ h. HasLayer h k new lower misses asms l) game has)))

  -- ---- goal by goal

  module _ (g : GameData) (first k new : Kept R M) (forced : StateSet) (misses asms : List StateSet) (goals : List (EnvGoal G R M)) (e : EnvGoal G R M) where
    pub more_holds : MakesRegions first k (goal_regions goals) (holds_sets g forced misses asms goals) → HasHold g k new (either (at misses (length goals)) forced) asms e →
        MakesRegions first new (goal_regions (goals ++ e ∷ [])) (holds_sets g forced misses asms (goals ++ e ∷ []))
    more_holds made more = makes_next first k new (λ j (e : EnvGoal G R M). hold_regions e) (λ j (e : EnvGoal G R M). hold_sets g (either (at misses j) forced) asms e) goals e made more.made

    pub more_whole : AllOf (λ j (e : EnvGoal G R M). IsWholeHold g (either (at misses j) forced) asms e) goals → HasHold g k new (either (at misses (length goals)) forced) asms e →
        AllOf (λ j (e : EnvGoal G R M). IsWholeHold g (either (at misses j) forced) asms e) (goals ++ e ∷ [])
    more_whole whole more = all_of-push (λ j (e : EnvGoal G R M). IsWholeHold g (either (at misses j) forced) asms e) goals e whole more.whole

module _ {R M : Type 0} where
  -- one of the sets that are given
  pub miss_is : (first : Kept R M) (given listed : List R) (item : R) (i : ℕ) → HasEach first given → listed ≡ given → i < length listed → item ≡ get_or listed i item → HasRegion first item × (first.set item ≡ at (map first.set given) i)
  miss_is first given listed item i each e before is =
      let counted : length listed ≡ length given = ap (λ (rs : List R). length rs) e in
      let within : i < length given = omega (arith, before, counted) in
      let item_is = is ∙ ap (λ (rs : List R). get_or rs i item) e in
      (one_of first given i item each within item_is, sym (set_at_is first given i item within item_is))

-- ---- the union of the holds

pub union-same : (f h : ℕ → StateSet) (n : ℕ) → ((i : ℕ) → i < n → f i ≡ h i) → union f n ≡ union h n
union-same f h zero same = refl
union-same f h (suc n) same = ap (λ t. either t (f n)) (union-same f h n (λ i before. same i (omega arith))) ∙ ap (λ t. either (union h n) t) (same n (omega arith))

pub gather-counted : {X Y Z : Type 0} (f : ℕ → X → List Y) (h : ℕ → X → List Z) → ((n : ℕ) (x : X) → length (f n x) ≡ length (h n x)) → (xs : List X) → length (gather f xs) ≡ length (gather h xs)
gather-counted f h each [] = refl
gather-counted f h each (x ∷ xs) =
    let rest = gather-counted (λ n. f (suc n)) (λ n. h (suc n)) (λ n. each (suc n)) xs in
    omega (arith, rest, each 0 x, length_both (f 0 x) (gather (λ n. f (suc n)) xs), length_both (h 0 x) (gather (λ n. h (suc n)) xs))

module _ {R : Type 0} where
  pub sets_counted : (g : GameData) (cover : StateSet) (asms : List StateSet) (n : ℕ) (v : Vec R Global) → length v.items ≡ length (delay_sets g cover (at asms n) (vec_len v))
  sets_counted g cover asms n v = let mapped = length_map (λ r. delay_on g cover (at asms n) (suc r)) (below (vec_len v)) in omega (arith, mapped, length_below (vec_len v))

module _ {G R M : Type 0} where
  pub hold_counted : (g : GameData) (base : StateSet) (asms : List StateSet) (e : EnvGoal G R M) → length (hold_regions e) ≡ length (hold_sets g base asms e)
  hold_counted g base asms e =
      let rest = gather-counted (λ i (v : Vec R Global). v.items) (λ i (v : Vec R Global). delay_sets g (cover_of g base (hold_on g base asms)) (at asms i) (vec_len v)) (sets_counted g (cover_of g base (hold_on g base asms)) asms) e.x.items in
      omega (arith, rest)

  module _ (g : GameData) (first k : Kept R M) (forced : StateSet) (misses asms : List StateSet) (exact : IsExact k) where
    hold_stands : (goals : List (EnvGoal G R M)) → map k.set (goal_regions goals) ≡ holds_sets g forced misses asms goals → (j : ℕ) (e : EnvGoal G R M) → j < length goals → hold_set k goals j ≡ hold_on g (either (at misses j) forced) asms
    hold_stands goals are j e before =
        let whole = gather-at k.set (λ n (e : EnvGoal G R M). hold_regions e) (λ n (e : EnvGoal G R M). hold_sets g (either (at misses n) forced) asms e) (λ n e. hold_counted g (either (at misses n) forced) asms e) goals are j e before in
        get_or-map (λ (e : EnvGoal G R M). k.set e.y) goals j e no_states before ∙ cc (whole)

    pub holds_stand : (goals : List (EnvGoal G R M)) → HaveHolds g first k forced misses asms goals → (j : ℕ) → j < length goals → hold_set k goals j ≡ hold_on g (either (at misses j) forced) asms
    holds_stand goals has j before = by_goals goals refl
      where
        by_goals : (es : List (EnvGoal G R M)) → goals ≡ es → hold_set k goals j ≡ hold_on g (either (at misses j) forced) asms
        by_goals [] e = absurd (omega (arith, before, ap (λ (es : List (EnvGoal G R M)). length es) e))
        by_goals (e ∷ es) is = hold_stands goals (as_held k (goal_regions goals) (holds_sets g forced misses asms goals) exact has.made.counted (λ w. omega (arith, has.made.held w))) j e before

  pub layer_made : (g : GameData) (k k1 k2 : Kept R M) (lower : StateSet) (misses asms : List StateSet) (l : EnvLayer G R M) → IsExact k1 → HaveHolds g k k1 (pre_env g lower) misses asms l.goals.items →
      MakesRegion k1 k2 l.z (union (hold_set k1 l.goals.items) (length l.goals.items)) → HasLayer g k k2 lower misses asms l
  layer_made g k k1 k2 lower misses asms l exact has joined =
      let goals = l.goals.items in
      let union_is : union (hold_set k1 goals) (length goals) ≡ layer_over g lower misses asms =
      union-same (hold_set k1 goals) (hold_over g lower misses asms) (length goals) (holds_stand g k k1 (pre_env g lower) misses asms exact goals has) ∙ ap (union (hold_over g lower misses asms)) has.whole.counted in
      let made : MakesRegion k1 k2 l.z (layer_over g lower misses asms) = subst (MakesRegion k1 k2 l.z) union_is joined in
      record {
        made = record {
          held = λ w. omega (arith, made.held w, has.made.held w, weight_as-more l.z (goal_regions goals) (layer_over g lower misses asms) (holds_sets g (pre_env g lower) misses asms goals) w);
          counted = (let e = has.made.counted in omega arith);
          jam = made.jam;
        };
        whole = has.whole;
      }
