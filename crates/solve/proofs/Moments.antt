-- What a solver or the making of a strategy tells of a refused call is of one moment.
use Rattle.std.proofs.Common.{◌≡◌, ◌⊎◌, inl, inr, ℕ, zero, suc, ◌+◌, ◌<◌, List, [], ◌∷◌, ◌++◌, map, Vec, length, get_or, refl, sym, ◌∙◌, ap, subst, arith}
use Rattle.std.specs.List.{Contains}
use Rattle.std.specs.declared.alloc.Global.{Global}
use Rattle.std.proofs.lemmas.List.Elements.{Contains-append_cases}
use Rattle.spec_model.specs.declared.value.Owner.{Owner}
use Rattle.spec_model.specs.declared.value.Owner.TheVariants.{Env, Sys}
use Rattle.spec_model.specs.Games.{GameData}
use Rattle.spec_model.specs.Sets.{StateSet, no_states, all_states, both, holding}
use Rattle.regions.specs.declared.types.When.{When}
use Rattle.regions.specs.declared.types.When.TheVariants.{First, Later}
use Rattle.regions.specs.declared.types.Halt.TheVariants.{Budget}
use Rattle.regions.specs.Kept.{Kept, Region, HasRegion, Meaning, States, Outputs, Inputs, Each, Call, All, NoStates, Copy, And, Or, Not, Holding, PreSys, PreEnv, OutMoves, InMoves, StartSys, StartEnv, Jam, weigh, weight}
use Rattle.regions.proofs.Holding.{held_as}
use Rattle.gr1_law.specs.Layers.{goal_set, goal_sets, assumption_set, assumption_sets}
use Rattle.gr1_sys.specs.declared.layers.SysLayer.{SysLayer}
use Rattle.gr1_sys.specs.Held.{HasEach, all_regions}
use Rattle.gr1_sys.proofs.Winning.{some_goal}
use Rattle.gr1_env.specs.declared.layers.EnvLayer.{EnvLayer}
use Rattle.controller.specs.Made as sys_made
use Rattle.counterstrategy.specs.Made as env_made
use Rattle.counterstrategy.specs.Settled.{tops}
use Rattle.counterstrategy.specs.Owned.{all_delays}
use Rattle.gr1_sys.specs.Told as sys_telling
use Rattle.gr1_sys.specs.Moment as sys
use Rattle.gr1_env.specs.Told as env_telling
use Rattle.gr1_env.specs.Moment as env
use Rattle.strategy_parts.specs.Told.{IsIn, Tale, IsMade, IsMadeBy, AsksFor, TellsBudget}
use Rattle.solve.specs.Crowded.{Moment, of_system, of_environment, IsMomentOf, IsIterate, IsNamedState}
use Rattle.solve.specs.Told.{IsLike, IsMeant, IfOneSet, AsksOfIterates, IsOfOneMoment}
use Rattle.solve.specs.Budgets.{HoldsNothing, HoldsOneMoment, IsIterateMeant}
use Rattle.solve.proofs.Listed.{listed_alike, IsAlike, each_at, weigh-append, likeness, weighs_itself, weight_there}
use Rattle.solve.proofs.Naming.{iterate_named}

-- ---- what has the same states

itself : (g : GameData) (P : StateSet → Type 0) (t : StateSet) → P t → IsLike g P t
itself g P t is = (t, is, refl)

like_alike : (g : GameData) (P : StateSet → Type 0) (s t : StateSet) → both (all_states g) s ≡ both (all_states g) t → IsLike g P t → IsLike g P s
like_alike g P s t same like = (like.0, like.1, same ∙ like.2)

meant_alike : (g : GameData) (m : Moment) (x y : Meaning) → IsAlike g x y → IsMeant g m y → IsMeant g m x
meant_alike g m (States s) (States t) same like = like_alike g (IsNamedState g m) s t same like
meant_alike g m (States s) (Outputs when t) none like = absurd none
meant_alike g m (States s) (Inputs when t) none like = absurd none
meant_alike g m (Outputs when s) (States t) none like = absurd none
meant_alike g m (Outputs when s) (Outputs when' t) same like = like_alike g (IsIterate g m) s t same like
meant_alike g m (Outputs when s) (Inputs when' t) none like = absurd none
meant_alike g m (Inputs when s) (States t) none like = absurd none
meant_alike g m (Inputs when s) (Outputs when' t) none like = absurd none
meant_alike g m (Inputs when s) (Inputs when' t) same like = like_alike g (IsIterate g m) s t same like

-- what is listed besides and at first is meant, so all that a jam lists is
jam_meant : (g : GameData) (m : Moment) (listed ys : List Meaning) → ((w : Meaning → ℕ) → weigh w listed ≡ weigh w ys) → ((y : Meaning) → Contains ys y → IsMeant g m y) → (x : Meaning) → Contains listed x → IsMeant g m x
jam_meant g m listed ys same each x there =
    let found = listed_alike g listed ys same x there in
    meant_alike g m x found.0 found.2 (each found.0 found.1)

-- ---- the solvers

module _ (g : GameData) (z : StateSet) where
  sys_meant : (y : Meaning) → sys_telling.IsOfMoment g z y → IsMeant g (of_system z) y
  sys_meant (States t) is = itself g (sys.IsNamed g z) t is
  sys_meant (Outputs when t) none = absurd none
  sys_meant (Inputs when t) none = absurd none

  sys_one : (arguments : List Meaning) → Each (sys_telling.IsIterateOfMoment g z) arguments → IfOneSet (IsLike g (IsIterate g (of_system z))) arguments
  sys_one [] each = tt
  sys_one (States t ∷ []) each = itself g (IsIterate g (of_system z)) t (inl each.0)
  sys_one (States t ∷ x ∷ more) each = tt
  sys_one (Outputs when t ∷ more) each = tt
  sys_one (Inputs when t ∷ more) each = tt

  sys_asks : (asked : Call) (arguments : List Meaning) → sys_telling.AsksOfIterates g z asked arguments → AsksOfIterates g (of_system z) asked arguments
  sys_asks All arguments is = tt
  sys_asks NoStates arguments is = tt
  sys_asks Copy arguments is = tt
  sys_asks And arguments is = tt
  sys_asks Or arguments is = tt
  sys_asks Not arguments is = tt
  sys_asks Holding arguments is = tt
  sys_asks PreSys arguments is = sys_one arguments is
  sys_asks PreEnv arguments none = absurd none
  sys_asks (OutMoves when) arguments none = absurd none
  sys_asks (InMoves when) arguments none = absurd none
  sys_asks StartSys arguments is = subst (λ (asked : List Meaning). IfOneSet (IsLike g (IsIterate g (of_system z))) asked) (sym is) (itself g (IsIterate g (of_system z)) z (inl (sys.this_value refl)))
  sys_asks StartEnv arguments none = absurd none

module _ (g : GameData) (m : env.Moment) where
  env_meant : (y : Meaning) → env_telling.IsOfMoment g m y → IsMeant g (of_environment m) y
  env_meant (States t) is = itself g (env.IsNamed g m) t is
  env_meant (Outputs when t) none = absurd none
  env_meant (Inputs when t) none = absurd none

  env_one : (arguments : List Meaning) → Each (env_telling.IsIterateOfMoment g m) arguments → IfOneSet (IsLike g (IsIterate g (of_environment m))) arguments
  env_one [] each = tt
  env_one (States t ∷ []) each = itself g (IsIterate g (of_environment m)) t each.0
  env_one (States t ∷ x ∷ more) each = tt
  env_one (Outputs when t ∷ more) each = tt
  env_one (Inputs when t ∷ more) each = tt

  env_asks : (asked : Call) (arguments : List Meaning) → env_telling.AsksOfIterates g m asked arguments → AsksOfIterates g (of_environment m) asked arguments
  env_asks All arguments is = tt
  env_asks NoStates arguments is = tt
  env_asks Copy arguments is = tt
  env_asks And arguments is = tt
  env_asks Or arguments is = tt
  env_asks Not arguments is = tt
  env_asks Holding arguments is = tt
  env_asks PreSys arguments none = absurd none
  env_asks PreEnv arguments is = env_one arguments is
  env_asks (OutMoves when) arguments none = absurd none
  env_asks (InMoves when) arguments none = absurd none
  env_asks StartSys arguments none = absurd none
  env_asks StartEnv arguments is =
      subst (λ (asked : List Meaning). IfOneSet (IsLike g (IsIterate g (of_environment m))) asked) (sym is.1.1) (itself g (IsIterate g (of_environment m)) (m.layers.z is.0) (env.layer is.0 refl))

module _ {R M : Type 0} (old new : Kept R M) (nothing : HoldsNothing old) where
  -- what is listed besides is all
  besides_all : (listed besides : List Meaning) → ((w : Meaning → ℕ) → weigh w listed ≡ weigh w besides + weight old (λ i m. w m)) → (w : Meaning → ℕ) → weigh w listed ≡ weigh w besides
  besides_all listed besides held w = let sums = held w in let none = nothing (λ i m. w m) in omega (arith, sums, none)

  pub sys_moment : (z : StateSet) → sys.IsValueOfZ old.game z → (tells : sys_telling.TellsMoment old new z) → IsOfOneMoment old.game tells.jam
  sys_moment z is tells =
      record {
        moment = of_system z;
        is = is;
        held = jam_meant old.game (of_system z) tells.jam.held tells.adds.besides (besides_all tells.jam.held tells.adds.besides tells.adds.held) (λ y there. sys_meant old.game z y (each_at (sys_telling.IsOfMoment old.game z) tells.adds.besides y tells.adds.named there));
        asked = sys_asks old.game z tells.jam.call tells.jam.arguments tells.asked;
      }

  pub env_moment : (m : env.Moment) → env.IsMoment old.game m → (tells : env_telling.TellsMoment old.game old new m) → IsOfOneMoment old.game tells.jam
  env_moment m is tells =
      record {
        moment = of_environment m;
        is = is;
        held = jam_meant old.game (of_environment m) tells.jam.held tells.adds.besides (besides_all tells.jam.held tells.adds.besides tells.adds.held) (λ y there. env_meant old.game m y (each_at (env_telling.IsOfMoment old.game m) tells.adds.besides y tells.adds.named there));
        asked = env_asks old.game m tells.jam.call tells.jam.arguments tells.asked;
      }

-- ---- the strategies

module _ (g : GameData) (m : Moment) where
  -- the sets of goals and assumptions, and no states, are named at any moment
  goal_named : (j : ℕ) → j < length (goal_sets g) → IsNamedState g m (goal_set g j)
  goal_named = at m
    where
      at : (m : Moment) (j : ℕ) → j < length (goal_sets g) → IsNamedState g m (goal_set g j)
      at (of_system z) j below = sys.goal j below refl
      at (of_environment e) j below = env.goal j below refl

  assumption_named : (i : ℕ) → i < length (assumption_sets g) → IsNamedState g m (assumption_set g i)
  assumption_named = at m
    where
      at : (m : Moment) (i : ℕ) → i < length (assumption_sets g) → IsNamedState g m (assumption_set g i)
      at (of_system z) i below = sys.assumption i below refl
      at (of_environment e) i below = env.assumption i below refl

  nothing_named : IsNamedState g m no_states
  nothing_named = at m
    where
      at : (m : Moment) → IsNamedState g m no_states
      at (of_system z) = sys.nothing refl
      at (of_environment e) = env.nothing refl

  -- one of a list of named sets
  pub one_in : (ss : List StateSet) → ((i : ℕ) → i < length ss → IsNamedState g m (get_or ss i no_states)) → (s : StateSet) → IsIn s ss → IsNamedState g m s
  one_in [] each s none = absurd none
  one_in (t ∷ ss) each s (inl is) = subst (IsNamedState g m) (sym is) (each 0 (omega arith))
  one_in (t ∷ ss) each s (inr more) = one_in ss (λ i below. each (suc i) (omega (arith, below))) s more

  pub goals_in : (s : StateSet) → IsIn s (goal_sets g) → IsNamedState g m s
  goals_in = one_in (goal_sets g) goal_named

  pub assumptions_in : (s : StateSet) → IsIn s (assumption_sets g) → IsNamedState g m s
  assumptions_in = one_in (assumption_sets g) assumption_named

  -- ---- what is made

  module _ (tale : Tale) (sets_in : (s : StateSet) → IsIn s tale.sets → IsNamedState g m s) (targets_in : (when : When) (s : StateSet) → IsIn s (tale.targets when) → IsLike g (IsIterate g m) s) where
    made_meant : (who : Owner) (y : Meaning) → IsMadeBy who tale.sets tale.targets y → IsMeant g m y
    made_meant Sys (States s) is = itself g (IsNamedState g m) s (sets_in s is)
    made_meant Env (States s) is = itself g (IsNamedState g m) s (sets_in s is)
    made_meant Sys (Outputs when s) is = targets_in when s is
    made_meant Env (Outputs when s) none = absurd none
    made_meant Sys (Inputs when s) none = absurd none
    made_meant Env (Inputs when s) is = targets_in when s is

    asks_one : (when : When) (arguments : List Meaning) → ((s : StateSet) × IsIn s (tale.targets when) × (arguments ≡ States s ∷ [])) → IfOneSet (IsLike g (IsIterate g m)) arguments
    asks_one when arguments is = subst (λ (asked : List Meaning). IfOneSet (IsLike g (IsIterate g m)) asked) (sym is.2) (targets_in when is.0 is.1)

    made_asks : (who : Owner) (asked : Call) (arguments : List Meaning) → AsksFor who tale.targets asked arguments → AsksOfIterates g m asked arguments
    made_asks who All arguments is = tt
    made_asks who NoStates arguments is = tt
    made_asks who Copy arguments is = tt
    made_asks who And arguments is = tt
    made_asks who Or arguments is = tt
    made_asks who Not arguments is = tt
    made_asks who Holding arguments is = tt
    made_asks Sys PreSys arguments none = absurd none
    made_asks Env PreSys arguments none = absurd none
    made_asks Sys PreEnv arguments none = absurd none
    made_asks Env PreEnv arguments none = absurd none
    made_asks Sys (OutMoves when) arguments is = asks_one when arguments is
    made_asks Env (OutMoves when) arguments none = absurd none
    made_asks Sys (InMoves when) arguments none = absurd none
    made_asks Env (InMoves when) arguments is = asks_one when arguments is
    made_asks Sys StartSys arguments none = absurd none
    made_asks Env StartSys arguments none = absurd none
    made_asks Sys StartEnv arguments none = absurd none
    made_asks Env StartEnv arguments none = absurd none

iterate_meant : (g : GameData) (m : Moment) (y : Meaning) → IsIterateMeant g m y → IsMeant g m y
iterate_meant g m (States t) is = itself g (IsNamedState g m) t (iterate_named g m t is)
iterate_meant g m (Outputs when t) none = absurd none
iterate_meant g m (Inputs when t) none = absurd none

-- what may be made is named at the moment of what is held, and leads into its iterates
pub record IsTold {R M : Type 0} (old : Kept R M) (tale : Tale) (holds : HoldsOneMoment old) : Type 0 where
  pub sets_in : (s : StateSet) → IsIn s tale.sets → IsNamedState old.game holds.moment s
  pub targets_in : (when : When) (s : StateSet) → IsIn s (tale.targets when) → IsLike old.game (IsIterate old.game holds.moment) s

module _ {R M : Type 0} (old new : Kept R M) (holds : HoldsOneMoment old) (tale : Tale) where
  pub play_moment : ((s : StateSet) → IsIn s tale.sets → IsNamedState old.game holds.moment s) → ((when : When) (s : StateSet) → IsIn s (tale.targets when) → IsLike old.game (IsIterate old.game holds.moment) s) →
      (tells : TellsBudget old new tale) → IsOfOneMoment old.game tells.jam
  play_moment sets_in targets_in tells =
      record {
        moment = holds.moment;
        is = holds.is;
        held = jam_meant old.game holds.moment tells.jam.held (tells.besides ++ holds.listed)
            (λ w. (let sums = tells.held w in let held = holds.held w in let both = weigh-append w tells.besides holds.listed in omega (arith, sums, held, both)))
            (λ y there. elim (Contains-append_cases tells.besides holds.listed y there) [
              | inl made ↦ made_meant old.game holds.moment tale sets_in targets_in tale.who y (each_at (IsMade tale) tells.besides y tells.made made)
              | inr first ↦ iterate_meant old.game holds.moment y (each_at (IsIterateMeant old.game holds.moment) holds.listed y holds.iterates first)
            ]);
        asked = made_asks old.game holds.moment tale sets_in targets_in tale.who tells.jam.call tells.jam.arguments tells.asked;
      }

-- ---- what the layers are

-- a region that is held stands for what is like an iterate
module _ {R M : Type 0} (k : Kept R M) (holds : HoldsOneMoment k) where
  abbrev IsNear : StateSet → Type 0
  IsNear s = IsLike k.game (IsIterate k.game holds.moment) s

  near_listed : (s : StateSet) (y : Meaning) → IsAlike k.game (States s) y → IsIterateMeant k.game holds.moment y → IsNear s
  near_listed s (States t) same is = (t, is, same)
  near_listed s (Outputs when t) none is = absurd none
  near_listed s (Inputs when t) none is = absurd none

  region_near : (r : R) → HasRegion k r → IsNear (k.set r)
  region_near r here =
      let x = States (k.set r) in
      let least = held_as k (Region r) here (λ i m. likeness k.game x m) in
      let one = weighs_itself k.game x in
      let sums = holds.held (likeness k.game x) in
      let found = weight_there k.game x holds.listed (omega (arith, least, one, sums)) in
      near_listed (k.set r) found.0 found.2 (each_at (IsIterateMeant k.game holds.moment) holds.listed found.0 holds.iterates found.1)

  pub regions_near : (rs : List R) → HasEach k rs → (s : StateSet) → IsIn s (map k.set rs) → IsNear s
  regions_near [] each s none = absurd none
  regions_near (r ∷ rs) each s (inl is) = subst IsNear (sym is) (region_near r each.0)
  regions_near (r ∷ rs) each s (inr more) = regions_near rs each.1 s more

  -- no states are below the first layer
  pub nothing_near : IsNear no_states
  nothing_near = (no_states, at holds.moment holds.is, refl)
    where
      at : (m : Moment) → IsMomentOf k.game m → IsIterate k.game m no_states
      at (of_system z) is = inl (sys.layer 0 0 (some_goal k.game (map (λ goal. holding k.game goal.holds) k.game.goals)) refl)
      at (of_environment e) is = env.layer 0 (sym is.layers.none_first)

in_both : (P : StateSet → Type 0) (ss ts : List StateSet) → ((s : StateSet) → IsIn s ss → P s) → ((s : StateSet) → IsIn s ts → P s) → (s : StateSet) → IsIn s (ss ++ ts) → P s
in_both P [] ts first second s there = second s there
in_both P (t ∷ ss) ts first second s (inl is) = first s (inl is)
in_both P (t ∷ ss) ts first second s (inr more) = in_both P ss ts (λ u there. first u (inr there)) second s more

-- ---- what strategies tell of

module _ {G R M : Type 0} (k : Kept R M) (layers : List (Vec (SysLayer G R M) Global)) (first : HasEach k (sys_made.regions_for First (sys_made.first_layers layers))) (all : HasEach k (all_regions layers)) where
  pub sys_told : (holds : HoldsOneMoment k) → IsTold k (sys_made.tale_of k.game (sys_made.targets_of k layers)) holds
  sys_told holds = record { sets_in = goals_in k.game holds.moment; targets_in = at }
    where
      at : (when : When) (s : StateSet) → IsIn s (sys_made.targets_of k layers when) → IsNear k holds s
      at First = regions_near k holds (sys_made.regions_for First (sys_made.first_layers layers)) first
      at Later = regions_near k holds (all_regions layers) all

module _ {G R M : Type 0} (k : Kept R M) (ls : List (EnvLayer G R M)) (layers : HasEach k (tops ls)) (delays : HasEach k (all_delays ls)) where
  pub env_told : (holds : HoldsOneMoment k) → IsTold k (env_made.tale_of k ls) holds
  env_told holds = record { sets_in = all_in; targets_in = at }
    where
      all_in : (s : StateSet) → IsIn s (no_states ∷ (goal_sets k.game ++ assumption_sets k.game)) → IsNamedState k.game holds.moment s
      all_in s (inl is) = subst (IsNamedState k.game holds.moment) (sym is) (nothing_named k.game holds.moment)
      all_in s (inr more) = in_both (IsNamedState k.game holds.moment) (goal_sets k.game) (assumption_sets k.game) (goals_in k.game holds.moment) (assumptions_in k.game holds.moment) s more

      layer_in : (s : StateSet) → IsIn s (env_made.layer_sets k ls) → IsNear k holds s
      layer_in s (inl is) = subst (IsNear k holds) (sym is) (nothing_near k holds)
      layer_in s (inr more) = regions_near k holds (tops ls) layers s more

      at : (when : When) (s : StateSet) → IsIn s (env_made.targets_of k ls when) → IsNear k holds s
      at First = layer_in
      at Later = in_both (IsNear k holds) (env_made.layer_sets k ls) (env_made.delay_sets k ls) layer_in (regions_near k holds (all_delays ls) delays)
