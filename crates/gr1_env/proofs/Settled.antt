-- The layers that were made are of one moment.
use Rattle.std.proofs.Common.{◌≡◌, ℕ, zero, suc, List, [], ◌∷◌, ◌++◌, map, length, slice_get, Option, Some, None, IfSome, Vec, vec_len, ap, sym, refl, subst, arith}
use Rattle.std.proofs.lemmas.List.{map-append}
use Rattle.std.specs.declared.alloc.Global.{Global}
use Rattle.spec_model.specs.Games.{GameData}
use Rattle.spec_model.specs.Steps.{below}
use Rattle.spec_model.specs.Sets.{StateSet}
use Rattle.regions.specs.Kept.{Kept, States, Each}
use Rattle.gr1_law.specs.EnvLayers.{EnvLayerSets, AreEnvLayers}
use Rattle.gr1_law.proofs.EnvLayering.{env_z-one, env_y-one}
use Rattle.gr1_sys.specs.Moment.{IsGoal, IsAssumption}
use Rattle.gr1_sys.proofs.Lists.{length_map}
use Rattle.gr1_sys.proofs.Won.{found}
use Rattle.gr1_env.specs.declared.layers.EnvGoal.{EnvGoal}
use Rattle.gr1_env.specs.declared.layers.EnvLayer.{EnvLayer}
use Rattle.gr1_env.specs.Held.{gather, hold_regions, layer_regions}
use Rattle.gr1_env.specs.Solved.{WonByEnvironment}
use Rattle.gr1_env.specs.Moment.{Moment, IsMoment, IsIterate, IsValueOfY, layer, value, delayed}
use Rattle.gr1_env.specs.Told.{IsIterateOfMoment, AreOfOneMoment, settled, layers_for, layer_number}
use Rattle.gr1_env.proofs.Exact.{layers_for-layers}
use Rattle.gr1_env.proofs.Naming.{hold_is_value}
use Rattle.gr1_env.proofs.Shown.{counts_are}

-- each of the sets is an iterate of that moment
abbrev AreIterates : GameData → Moment → List StateSet → Type 0
AreIterates g m ss = Each (IsIterateOfMoment g m) (map States ss)

iterates-append : (g : GameData) (m : Moment) (ss ts : List StateSet) → AreIterates g m ss → AreIterates g m ts → AreIterates g m (ss ++ ts)
iterates-append g m [] ts first second = second
iterates-append g m (s ∷ ss) ts first second = (first.0, iterates-append g m ss ts first.1 second)

iterates_gathered : {X R : Type 0} (g : GameData) (m : Moment) (set : R → StateSet) (f : ℕ → X → List R) (xs : List X) →
    ((i : ℕ) (x : X) → slice_get xs i ≡ Some x → AreIterates g m (map set (f i x))) → AreIterates g m (map set (gather f xs))
iterates_gathered g m set f [] each = tt
iterates_gathered g m set f (x ∷ xs) each =
    subst (AreIterates g m) (sym (map-append set (f 0 x) (gather (λ n. f (suc n)) xs)))
    (iterates-append g m (map set (f 0 x)) (map set (gather (λ n. f (suc n)) xs)) (each 0 x refl) (iterates_gathered g m set (λ n. f (suc n)) xs (λ i y is. each (suc i) y is)))

iterates_below : (g : GameData) (m : Moment) (f : ℕ → StateSet) (n : ℕ) → ((i : ℕ) → IsIterate g m (f i)) → AreIterates g m (map f (below n))
iterates_below g m f zero each = tt
iterates_below g m f (suc n) each =
    subst (AreIterates g m) (sym (map-append f (below n) (n ∷ []))) (iterates-append g m (map f (below n)) (f n ∷ []) (iterates_below g m f n each) (each n, tt))

module _ (g : GameData) (sets : EnvLayerSets) (are : AreEnvLayers g sets) where
  hold_value : (a j : ℕ) → IsValueOfY g (sets.z a) j (sets.y (suc a) j)
  hold_value a j =
      subst (λ t. IsValueOfY g t j (sets.y (suc a) j)) (env_z-one g (layers_for g) sets (layers_for-layers g) are a)
      (subst (IsValueOfY g (layer_number g a) j) (env_y-one g (layers_for g) sets (layers_for-layers g) are a j) (hold_is_value g a j))

  settled_moment : IsMoment g (settled sets)
  settled_moment = record { layers = are; values = λ a j goal_in. hold_value a j; others = (0, 0, λ b i apart. refl) }

module _ {G R M : Type 0} (old new : Kept R M) (ls : List (EnvLayer G R M)) (sets : EnvLayerSets) (won : WonByEnvironment old new ls sets) where
  goal_in : (a j : ℕ) (l : EnvLayer G R M) (e : EnvGoal G R M) → slice_get ls a ≡ Some l → slice_get l.goals.items j ≡ Some e → IsGoal old.game j
  goal_in a j l e l_is e_is = omega (arith, (found l.goals.items j e e_is).0, won.goals a l l_is)

  index_in : (a j i : ℕ) (l : EnvLayer G R M) (e : EnvGoal G R M) (v : Vec R Global) → slice_get ls a ≡ Some l → slice_get l.goals.items j ≡ Some e → slice_get e.x.items i ≡ Some v → IsAssumption old.game i
  index_in a j i l e v l_is e_is v_is =
      let counted = won.counts.counted a j (found ls a l l_is).0 (goal_in a j l e l_is e_is) in
      let are = ap (λ (ns : List ℕ). length ns) (counts_are ls a j l e l_is e_is) in
      omega (arith, (found e.x.items i v v_is).0, counted, are, length_map (λ (v : Vec R Global). vec_len v) e.x.items)

  delays_iterate : (a j i : ℕ) (l : EnvLayer G R M) (e : EnvGoal G R M) (v : Vec R Global) → slice_get ls a ≡ Some l → slice_get l.goals.items j ≡ Some e → slice_get e.x.items i ≡ Some v →
      AreIterates old.game (settled sets) (map new.set v.items)
  delays_iterate a j i l e v l_is e_is v_is =
      subst (AreIterates old.game (settled sets)) (sym (won.shown.delays a j i l e v l_is e_is v_is))
      (iterates_below old.game (settled sets) (λ r. sets.x (suc a) j i (suc r)) (vec_len v)
      (λ r. delayed a j i (suc r) (goal_in a j l e l_is e_is) (index_in a j i l e v l_is e_is v_is) (won.layers.delays a j i (suc r))))

  hold_iterates : (a j : ℕ) (l : EnvLayer G R M) (e : EnvGoal G R M) → slice_get ls a ≡ Some l → slice_get l.goals.items j ≡ Some e → AreIterates old.game (settled sets) (map new.set (hold_regions e))
  hold_iterates a j l e l_is e_is = (
    value a j (goal_in a j l e l_is e_is) (won.shown.hold a j l e l_is e_is),
    iterates_gathered old.game (settled sets) new.set (λ i (v : Vec R Global). v.items) e.x.items (λ i v v_is. delays_iterate a j i l e v l_is e_is v_is),
  )

  pub of_one_moment : AreOfOneMoment old.game new ls sets
  of_one_moment =
      record {
        moment = settled_moment old.game sets won.layers;
        iterates = iterates_gathered old.game (settled sets) new.set (λ a (l : EnvLayer G R M). layer_regions l) ls
            (λ a l l_is. (layer (suc a) (won.shown.layer a l l_is), iterates_gathered old.game (settled sets) new.set (λ j (e : EnvGoal G R M). hold_regions e) l.goals.items (λ j e e_is. hold_iterates a j l e l_is e_is)));
      }

pub some_each : {X : Type 0} (o : Option X) (P : X → Type 0) → ((x : X) → P x) → IfSome o P
some_each None P each = tt
some_each (Some x) P each = each x
