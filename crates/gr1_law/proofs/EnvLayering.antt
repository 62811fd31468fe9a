-- The environment's layers: there are some, only these, and each is part of the next.
use Rattle.std.proofs.Common.{◌≡◌, ℕ, zero, suc, pred, ◌<◌, ◌≤◌, length, refl, sym, ◌∙◌, ap, subst, IsTrue}
use Rattle.std.proofs.lemmas.Bool.{false≢true}
use Rattle.spec_model.specs.Games.{GameData, State}
use Rattle.spec_model.specs.Sets.{StateSet, no_states, all_states, IsPartOf}
use Rattle.spec_model.proofs.Duality.{parts_agree}
use Rattle.gr1_law.specs.Layers.{goal_sets, union}
use Rattle.gr1_law.specs.EnvLayers.{delay, IsHold, EnvLayerSets, AreEnvLayers, IsLayerCount}
use Rattle.gr1_law.specs.EnvLaws.{EnvLayersAreTold}
use Rattle.gr1_law.proofs.Chains.{state_count, least_settled, some_least, in_settled}
use Rattle.gr1_law.proofs.Parts.{in_union, of_union, union_grows}
use Rattle.gr1_law.proofs.Holds.{hold_of, hold_of-hold, hold_inside, hold_grows, hold_one}

-- ---- they exist

pub env_layer_of : GameData → ℕ → StateSet
env_layer_of g zero = no_states
env_layer_of g (suc a) = union (hold_of g (env_layer_of g a)) (length (goal_sets g))

pub env_layers_of : GameData → EnvLayerSets
env_layers_of g =
    record {
      z = env_layer_of g;
      y = λ a j. hold_of g (env_layer_of g (pred a)) j;
      x = λ a j. delay g (env_layer_of g (pred a)) (hold_of g (env_layer_of g (pred a)) j) j;
    }

pub env_layers_of-layers : (g : GameData) → AreEnvLayers g (env_layers_of g)
unfolding env_layers_of env_layer_of
env_layers_of-layers g =
    record {
      none_first = refl;
      held = λ a j. hold_of-hold g (env_layer_of g a) j;
      delays = λ a j i r. refl;
      joined = λ a. refl;
    }

-- ---- there are only these

module _ (g : GameData) (e e' : EnvLayerSets) (of : AreEnvLayers g e) (of' : AreEnvLayers g e') where
  z_in : (a b : ℕ) → IsPartOf (e.z a) (e'.z b) → IsPartOf (e.z (suc a)) (e'.z (suc b))
  z_in a b part s here =
      subst (λ (t : StateSet). IsTrue (t s)) (sym (of'.joined b))
      (union_grows (e.y (suc a)) (e'.y (suc b)) (λ j. hold_grows g (e.z a) (e'.z b) j (e.y (suc a) j) (e'.y (suc b) j) (of.held a j) (of'.held b j) part) (length (goal_sets g)) s
      (subst (λ (t : StateSet). IsTrue (t s)) (of.joined a) here))

  pub none_in : (t : StateSet) → IsPartOf (e.z 0) t
  none_in t s here = absurd (false≢true (subst (λ (t : StateSet). IsTrue (t s)) of.none_first here))

module _ (g : GameData) (e e' : EnvLayerSets) (of : AreEnvLayers g e) (of' : AreEnvLayers g e') where
  layer_in : (a : ℕ) → IsPartOf (e.z a) (e'.z a)
  layer_in zero = none_in g e e' of of' (e'.z 0)
  layer_in (suc a) = z_in g e e' of of' a a (layer_in a)

module _ (g : GameData) (e e' : EnvLayerSets) (of : AreEnvLayers g e) (of' : AreEnvLayers g e') where
  pub env_z-one : (a : ℕ) → e.z a ≡ e'.z a
  env_z-one a = parts_agree _ _ (layer_in g e e' of of' a) (layer_in g e' e of' of a)

  pub env_y-one : (a j : ℕ) → e.y (suc a) j ≡ e'.y (suc a) j
  env_y-one a j = hold_one g (e'.z a) j (e.y (suc a) j) (e'.y (suc a) j) (subst (λ (t : StateSet). IsHold g t j (e.y (suc a) j)) (env_z-one a) (of.held a j)) (of'.held a j)

  pub env_x-one : (a j i r : ℕ) → e.x (suc a) j i r ≡ e'.x (suc a) j i r
  env_x-one a j i r =
      of.delays a j i r
      ∙ (ap (λ (t : StateSet). delay g t (e.y (suc a) j) j i r) (env_z-one a)
      ∙ (ap (λ (t : StateSet). delay g (e'.z a) t j i r) (env_y-one a j)
      ∙ sym (of'.delays a j i r)))

-- ---- they rise

module _ (g : GameData) (e : EnvLayerSets) (of : AreEnvLayers g e) where
  pub env_rises : (a : ℕ) → IsPartOf (e.z a) (e.z (suc a))
  env_rises zero = none_in g e e of of (e.z 1)
  env_rises (suc a) = z_in g e e of of a (suc a) (env_rises a)

  -- a state of a layer is in the hold of some goal
  pub in_a_hold : (a : ℕ) (s : State) → IsTrue (e.z (suc a) s) → (j : ℕ) × (j < length (goal_sets g)) × IsTrue (e.y (suc a) j s)
  in_a_hold a s here = of_union (e.y (suc a)) (length (goal_sets g)) s (subst (λ (t : StateSet). IsTrue (t s)) (of.joined a) here)

  pub hold_in_layer : (a j : ℕ) → j < length (goal_sets g) → IsPartOf (e.y (suc a) j) (e.z (suc a))
  hold_in_layer a j below s here = subst (λ (t : StateSet). IsTrue (t s)) (sym (of.joined a)) (in_union (e.y (suc a)) (length (goal_sets g)) j s below here)

  pub env_layer_inside : (a : ℕ) → IsPartOf (e.z a) (all_states g)
  env_layer_inside zero = none_in g e e of of (all_states g)
  env_layer_inside (suc a) = λ s here. let hold = in_a_hold a s here in hold_inside g (e.z a) hold.0 (e.y (suc a) hold.0) (of.held a hold.0) s hold.2

  env_stays : (a : ℕ) → e.z a ≡ e.z (suc a) → e.z (suc a) ≡ e.z (suc (suc a))
  env_stays a same = parts_agree _ _ (env_rises (suc a)) (z_in g e e of of (suc a) a (λ s here. subst (λ (t : StateSet). IsTrue (t s)) (sym same) here))

  -- ---- and settle

  pub env_last : (n : ℕ) → IsLayerCount e n → (a : ℕ) → IsPartOf (e.z a) (e.z n)
  env_last n count a = in_settled g e.z env_rises env_layer_inside env_stays n a count.here

  pub env_few : (n : ℕ) → IsLayerCount e n → n ≤ state_count g
  env_few = least_settled g e.z env_rises env_layer_inside

  pub some_count : (n : ℕ) × IsLayerCount e n
  some_count = some_least g e.z env_rises env_layer_inside

pub env_told : (g : GameData) → EnvLayersAreTold g
env_told g =
    record {
      some = (env_layers_of g, env_layers_of-layers g);
      same_z = env_z-one g;
      same_y = env_y-one g;
      same_x = env_x-one g;
      rises = env_rises g;
      last = λ e n of count. env_last g e of n count;
    }
