-- The layers that a solver gives are all that is held, and iterates of one moment.
use Rattle.std.proofs.Common.{◌≡◌, inl, ℕ, zero, suc, ◌+◌, ◌<◌, List, [], ◌∷◌, ◌++◌, map, length, slice_get, Some, Vec, vec_len, refl, sym, ◌∙◌, ap, subst, arith}
use Rattle.std.proofs.lemmas.List.{map-append}
use Rattle.std.specs.declared.alloc.Global.{Global}
use Rattle.spec_model.specs.Games.{GameData, State}
use Rattle.spec_model.specs.Steps.{below, states_of}
use Rattle.spec_model.specs.Sets.{StateSet, IsGreatest}
use Rattle.spec_model.proofs.Fixpoints.{greatest-one}
use Rattle.regions.specs.Kept.{Kept, Item, Region, Meaning, States, Each, IsSameGame, weigh, weight}
use Rattle.gr1_law.specs.Layers.{LayerSets, goal_sets, assumption_sets, part_value}
use Rattle.gr1_law.specs.EnvLayers.{EnvLayerSets}
use Rattle.gr1_sys.specs.declared.layers.SysLayer.{SysLayer}
use Rattle.gr1_sys.specs.Held.{weight_as, ranks_of, layer_regions, goal_regions, all_regions}
use Rattle.gr1_sys.specs.Solution.{iterate, greatest_of, part_of, layer_of, following}
use Rattle.gr1_sys.specs.Layered.{layers_for}
use Rattle.gr1_sys.specs.Moment as sys
use Rattle.gr1_sys.specs.Solved.{WonBySystem}
use Rattle.gr1_sys.proofs.Greatest.{greatest_of-greatest}
use Rattle.gr1_sys.proofs.Winning.{following-grows, following-inside, is_winning, layers_one, part_of-greatest}
use Rattle.gr1_sys.proofs.Lists.{length_map, weight_as-more, weight_as-none}
use Rattle.gr1_sys.proofs.Won.{found, winning_one}
use Rattle.gr1_env.specs.declared.layers.EnvLayer.{EnvLayer}
use Rattle.gr1_env.specs.Held.{all_regions as env_regions}
use Rattle.gr1_env.specs.Told as env_told
use Rattle.gr1_env.specs.Moment as env
use Rattle.gr1_env.specs.Solved.{WonByEnvironment}
use Rattle.gr1_env.proofs.Settled.{of_one_moment}
use Rattle.solve.specs.Crowded.{Moment, of_system, of_environment, IsMomentOf, IsIterate}
use Rattle.solve.specs.Budgets.{HoldsNothing, HoldsOneMoment, IsIterateMeant}

-- ---- lists of iterates

abbrev AreIterates : GameData → Moment → List StateSet → Type 0
AreIterates g m ss = Each (IsIterateMeant g m) (map States ss)

module _ (g : GameData) (m : Moment) where
  iterates-append : (ss ts : List StateSet) → AreIterates g m ss → AreIterates g m ts → AreIterates g m (ss ++ ts)
  iterates-append [] ts first second = second
  iterates-append (s ∷ ss) ts first second = (first.0, iterates-append ss ts first.1 second)

  iterates_below : (f : ℕ → StateSet) (n : ℕ) → ((i : ℕ) → i < n → IsIterate g m (f i)) → AreIterates g m (map f (below n))
  iterates_below f zero each = tt
  iterates_below f (suc n) each =
      subst (AreIterates g m) (sym (map-append f (below n) (n ∷ [])))
      (iterates-append (map f (below n)) (f n ∷ []) (iterates_below f n (λ i before. each i (omega (arith, before)))) (each n (omega arith), tt))

  module _ {G R M : Type 0} (set : R → StateSet) where
    goal_iterates : (ls : List (SysLayer G R M)) → ((r : ℕ) (l : SysLayer G R M) → slice_get ls r ≡ Some l → AreIterates g m (map set (layer_regions l))) → AreIterates g m (map set (goal_regions ls))
    goal_iterates [] each = tt
    goal_iterates (l ∷ ls) each =
        subst (AreIterates g m) (sym (map-append set (layer_regions l) (goal_regions ls)))
        (iterates-append (map set (layer_regions l)) (map set (goal_regions ls)) (each 0 l refl) (goal_iterates ls (λ r k is. each (suc r) k is)))

    all_iterates : (vs : List (Vec (SysLayer G R M) Global)) → ((j : ℕ) (v : Vec (SysLayer G R M) Global) → slice_get vs j ≡ Some v → AreIterates g m (map set (goal_regions v.items))) → AreIterates g m (map set (all_regions vs))
    all_iterates [] each = tt
    all_iterates (v ∷ vs) each =
        subst (AreIterates g m) (sym (map-append set (goal_regions v.items) (all_regions vs)))
        (iterates-append (map set (goal_regions v.items)) (map set (all_regions vs)) (each 0 v refl) (all_iterates vs (λ j u is. each (suc j) u is)))

-- ---- what is held

module _ {R : Type 0} (M : Type 0) where
  -- what regions weigh by what they stand for
  as_meant : (set : R → StateSet) (rs : List R) (v : Meaning → ℕ) → weight_as rs (map set rs) (λ (i : Item R M) m. v m) ≡ weigh v (map States (map set rs))
  as_meant set [] v = weight_as-none (λ (i : Item R M) m. v m)
  as_meant set (r ∷ rs) v = weight_as-more r rs (set r) (map set rs) (λ (i : Item R M) m. v m) ∙ ap (λ n. v (States (set r)) + n) (as_meant set rs v)

module _ {R M : Type 0} where
  -- where the regions are all that is held, and their sets are iterates
  holds_iterates : (g : GameData) (m : Moment) (old new : Kept R M) (rs : List R) → new.game ≡ g → HoldsNothing old → ((w : Item R M → Meaning → ℕ) → weight new w ≡ weight_as rs (map new.set rs) w + weight old w) →
      IsMomentOf g m → AreIterates g m (map new.set rs) → HoldsOneMoment new
  holds_iterates g m old new rs same nothing held is iterates =
      record {
        moment = m;
        is = subst (λ (h : GameData). IsMomentOf h m) (sym same) is;
        listed = map States (map new.set rs);
        held = λ v. (let sums = held (λ i m. v m) in let none = nothing (λ i m. v m) in let meant = as_meant M new.set rs v in omega (arith, sums, none, meant));
        iterates = subst (λ (h : GameData). AreIterates h m (map new.set rs)) (sym same) iterates;
      }

-- ---- the system's layers

module _ {G R M : Type 0} (old new : Kept R M) (z : R) (goals : List (Vec (SysLayer G R M) Global)) (sets : LayerSets) (won : WonBySystem old new z goals sets) where
  abbrev g : GameData
  g = old.game

  abbrev set : StateSet
  set = new.set z

  greatest_is : IsGreatest (following g) (greatest_of g (following g))
  greatest_is = greatest_of-greatest g (following g) (following-grows g) (following-inside g)

  last_value : sys.IsValueOfZ g (greatest_of g (following g))
  unfolding greatest_of
  last_value = (length (states_of g), refl)

  is_value : sys.IsValueOfZ g set
  is_value = subst (sys.IsValueOfZ g) (winning_one g (greatest_of g (following g)) set (layers_for g (greatest_of g (following g))) sets (is_winning g (greatest_of g (following g)) greatest_is) won.winning) last_value

  goal_in : (j : ℕ) (v : Vec (SysLayer G R M) Global) → slice_get goals j ≡ Some v → sys.IsGoal g j
  goal_in j v is =
      let here = (found goals j v is).0 in
      let counted = won.ranks.counted in
      let many = length_map (λ (v : Vec (SysLayer G R M) Global). vec_len v) goals in
      omega (arith, here, counted, many)

  part_is : (j r i : ℕ) → sets.x j (suc r) i ≡ part_of g set (layer_of g set j r) j i
  part_is j r i =
      greatest-one (part_value g set (layer_of g set j r) j i) (sets.x j (suc r) i) (part_of g set (layer_of g set j r) j i)
      (subst (λ (lower : StateSet). IsGreatest (part_value g set lower j i) (sets.x j (suc r) i)) (layers_one g set sets won.winning.layers j r) (won.winning.layers.greatest j r i))
      (part_of-greatest g set (layer_of g set j r) j i)

  part_iterates : (j r i : ℕ) → sys.IsGoal g j → sys.IsAssumption g i → sys.IsIterate g set (part_of g set (layer_of g set j r) j i)
  unfolding greatest_of
  part_iterates j r i goal index = sys.part j r i (length (states_of g)) goal index refl

  layer_iterates : (j r : ℕ) (v : Vec (SysLayer G R M) Global) (l : SysLayer G R M) → slice_get goals j ≡ Some v → slice_get v.items r ≡ Some l → AreIterates g (of_system set) (map new.set (layer_regions l))
  layer_iterates j r v l v_is l_is =
      let shown = won.shown j r v l v_is l_is in
      let goal = goal_in j v v_is in (
        inl (sys.layer j (suc r) goal (shown.0 ∙ layers_one g set sets won.winning.layers j (suc r))),
        subst (AreIterates g (of_system set)) (sym shown.1)
            (iterates_below g (of_system set) (sets.x j (suc r)) (length (assumption_sets g)) (λ i index. inl (subst (sys.IsIterate g set) (sym (part_is j r i)) (part_iterates j r i goal index)))),
      )

  pub system_holds : IsSameGame old new → HoldsNothing old → HoldsOneMoment new
  system_holds same nothing =
      holds_iterates g (of_system set) old new (z ∷ all_regions goals) same.game nothing won.held is_value (
        inl (sys.this_value refl),
        all_iterates g (of_system set) new.set goals (λ j v v_is. goal_iterates g (of_system set) new.set v.items (λ r l l_is. layer_iterates j r v l v_is l_is)),
      )

-- ---- the environment's

module _ (g : GameData) (m : env.Moment) where
  meant : (ss : List StateSet) → Each (env_told.IsIterateOfMoment g m) (map States ss) → AreIterates g (of_environment m) ss
  meant [] each = tt
  meant (s ∷ ss) each = (each.0, meant ss each.1)

module _ {G R M : Type 0} (old new : Kept R M) (ls : List (EnvLayer G R M)) (sets : EnvLayerSets) (won : WonByEnvironment old new ls sets) where
  pub environment_holds : IsSameGame old new → HoldsNothing old → HoldsOneMoment new
  environment_holds same nothing =
      let one = of_one_moment old new ls sets won in
      holds_iterates old.game (of_environment (env_told.settled sets)) old new (env_regions ls) same.game nothing won.held one.moment
      (meant old.game (env_told.settled sets) (map new.set (env_regions ls)) one.iterates)
