-- Which sets are named at a moment.
use Rattle.std.proofs.Common.{◌≡◌, ℕ, zero, suc, ◌≤◌, ◌<◌, ◌==◌, ◌&&◌, if◌then◌else◌, Bool, true, false, List, [], ◌∷◌, map, length, get_or, Vec, vec_len, ap, sym, ◌∙◌, refl, subst, arith}
use Rattle.std.proofs.lemmas.Bool.{eq-eqb, eqb-true}
use Rattle.std.specs.declared.alloc.Global.{Global}
use Rattle.spec_model.specs.Games.{GameData}
use Rattle.spec_model.specs.Steps.{below, states_of}
use Rattle.spec_model.specs.Sets.{StateSet, no_states, either, rest, holding, pre_env}
use Rattle.regions.specs.declared.types.Halt.{Halt}
use Rattle.regions.specs.declared.types.Halt.TheVariants.{Budget, Memory}
use Rattle.regions.specs.Kept.{Kept}
use Rattle.gr1_law.specs.Layers.{IsLeastNumber, or_all_states, goal_sets, assumption_sets, union}
use Rattle.gr1_law.specs.EnvLayers.{delay, IsLayerCount}
use Rattle.gr1_sys.specs.Solution.{iterate, greatest_of, meet}
use Rattle.gr1_sys.specs.Moment.{IsGoal}
use Rattle.gr1_sys.proofs.Turned.{meet-same}
use Rattle.gr1_env.specs.declared.layers.EnvGoal.{EnvGoal}
use Rattle.gr1_env.specs.declared.layers.EnvLayer.{EnvLayer}
use Rattle.gr1_env.specs.declared.givens.EnvSets.{EnvSets}
use Rattle.gr1_env.specs.declared.givens.EnvSets.TheVariants.{Misses, Assumptions}
use Rattle.gr1_env.specs.Givens.{wanted, given_sets}
use Rattle.gr1_env.specs.Solution.{at, delay_on, last_delay_on, cover_of, hold_value_on, hold_on, layer_on, delay_sets}
use Rattle.gr1_env.specs.Held.{gather, AllOf, list_sets, hold_sets, holds_sets, all_sets, layer_sets, IsWholeHold, AreWholeHolds, AreWholeLayers}
use Rattle.gr1_env.specs.Moment.{Moment, IsMoment, IsNamed, iterated, nothing, miss, assumption, common, joined, layer, value, delayed, IsValueOfY, following, base_at, cover_at, delay_at}
use Rattle.gr1_env.specs.Told.{base_for, layer_number, hold_number, layers_for, moment_at, AreOfDelay, AreOfHold, AreGiven, TellsHalt, TellsLayers, TellsOneMoment}
use Rattle.gr1_env.proofs.Exact.{misses_counted, delay_is, base_is, layers_for-layers}
use Rattle.gr1_env.proofs.Joining.{union-same}
use Rattle.gr1_env.proofs.Told.{AreNamed, named-append, named_below}

module _ (g : GameData) (m : Moment) where
  -- ---- what is given

  mapped_named : (f : StateSet → StateSet) (ss : List StateSet) → ((i : ℕ) → i < length ss → IsNamed g m (f (get_or ss i no_states))) → AreNamed g m (map f ss)
  mapped_named f [] each = tt
  mapped_named f (s ∷ ss) each = (each 0 (omega arith), mapped_named f ss (λ i before. each (suc i) (omega (arith, before))))

  list_named : (ss : List StateSet) → ((i : ℕ) → i < length ss → IsNamed g m (get_or ss i no_states)) → AreNamed g m ss
  list_named [] each = tt
  list_named (s ∷ ss) each = (each 0 (omega arith), list_named ss (λ i before. each (suc i) (omega (arith, before))))

  pub wanted_named : (kind : EnvSets) → AreNamed g m (wanted g kind)
  wanted_named Misses = mapped_named (rest g) (goal_sets g) (λ j before. miss j before refl)
  wanted_named Assumptions = list_named (assumption_sets g) (λ i before. assumption i before refl)

  pub given_named : AreNamed g m (given_sets g)
  given_named = named-append g m (wanted g Misses) (no_states ∷ wanted g Assumptions) (wanted_named Misses) (nothing refl, wanted_named Assumptions)

  one_named : (ss : List StateSet) → AreNamed g m ss → (i : ℕ) → IsNamed g m (get_or ss i no_states)
  one_named [] named i = nothing refl
  one_named (s ∷ ss) named zero = named.0
  one_named (s ∷ ss) named (suc i) = one_named ss named.1 i

  pub some_wanted : (kind : EnvSets) (n : ℕ) → AreNamed g m (map (λ i. get_or (wanted g kind) i no_states) (below n))
  some_wanted kind n = named_below g m (λ i. get_or (wanted g kind) i no_states) n (λ i before. one_named (wanted g kind) (wanted_named kind) i)

  -- ---- the iterates of the inner equations

  pub delay_stands : (h : GameData) (a j i r : ℕ) (cover asm : StateSet) → h ≡ g → AreOfDelay g m a j i cover asm → delay_on h cover asm r ≡ delay_at g m a j i r
  delay_stands h a j i r cover asm same are =
      ap (λ h. delay_on h cover asm r) same ∙
      (ap (λ c. delay_on g c asm r) are.cover_is ∙
      (ap (λ s. delay_on g (cover_at g m a j) s r) are.asm_is ∙ delay_is g (m.layers.z a) j (m.value (suc a) j) i r))

  pub delays_named : (h : GameData) (a j i n : ℕ) (cover asm : StateSet) → h ≡ g → AreOfDelay g m a j i cover asm → AreNamed g m (delay_sets h cover asm n)
  delays_named h a j i n cover asm same are =
      named_below g m (λ r. delay_on h cover asm (suc r)) n (λ r before. iterated (delayed a j i (suc r) are.goal_in are.index_in (delay_stands h a j i (suc r) cover asm same are)))

  -- the last one
  pub last_stands : (h : GameData) (a j i : ℕ) (cover asm : StateSet) → h ≡ g → AreOfDelay g m a j i cover asm → last_delay_on h cover asm ≡ delay_at g m a j i (length (states_of g))
  unfolding last_delay_on
  last_stands h a j i cover asm same are = ap (λ h'. delay_on h cover asm (length (states_of h'))) same ∙ delay_stands h a j i (length (states_of g)) cover asm same are

  gather_named : {X : Type 0} (f : ℕ → X → List StateSet) (P : ℕ → X → Type 0) (xs : List X) → AllOf P xs → ((i : ℕ) (x : X) → i < length xs → P i x → AreNamed g m (f i x)) → AreNamed g m (gather f xs)
  gather_named f P [] all each = tt
  gather_named f P (x ∷ xs) all each =
      named-append g m (f 0 x) (gather (λ n. f (suc n)) xs) (each 0 x (omega arith) all.0)
      (gather_named (λ n. f (suc n)) (λ n. P (suc n)) xs all.1 (λ i y before here. each (suc i) y (omega (arith, before)) here))

  nothing_asked : {X : Type 0} (xs : List X) → AllOf (λ n x. Unit {0}) xs
  nothing_asked [] = tt
  nothing_asked (x ∷ xs) = (tt, nothing_asked xs)

  pub of_one : (a j i : ℕ) (cover : StateSet) (asms : List StateSet) → IsGoal g j → cover ≡ cover_at g m a j → asms ≡ assumption_sets g → i < length asms → AreOfDelay g m a j i cover (at asms i)
  of_one a j i cover asms goal_in cover_is asms_are before =
      record { goal_in = goal_in; index_in = subst (λ (ss : List StateSet). i < length ss) asms_are before; cover_is = cover_is; asm_is = ap (λ ss. at ss i) asms_are }

  pub cover_stands : (h : GameData) (a j : ℕ) (base y : StateSet) (asms : List StateSet) → h ≡ g → AreOfHold g m a j base y asms → cover_of h base y ≡ cover_at g m a j
  cover_stands h a j base y asms same are = ap (λ h. cover_of h base y) same ∙ (ap (λ b. cover_of g b y) are.base_is ∙ ap (cover_of g (base_at g m a j)) are.value_is)

  pub lists_named : {R : Type 0} (h : GameData) (a j : ℕ) (cover : StateSet) (asms : List StateSet) (xs : List (Vec R Global)) → h ≡ g → IsGoal g j → cover ≡ cover_at g m a j → asms ≡ assumption_sets g →
      length xs ≤ length asms → AreNamed g m (list_sets h cover asms xs)
  lists_named h a j cover asms xs same goal_in cover_is asms_are few =
      gather_named (λ i v. delay_sets h cover (at asms i) (vec_len v)) (λ n x. Unit {0}) xs (nothing_asked xs)
      (λ i v before here. delays_named h a j i (vec_len v) cover (at asms i) same (of_one a j i cover asms goal_in cover_is asms_are (omega (arith, before, few))))

  -- ---- several sets together

  pub common_named : (h : GameData) (sets : ℕ → StateSet) (a j n q : ℕ) → h ≡ g → IsGoal g j → q ≤ length (assumption_sets g) → ((i : ℕ) → i < q → sets i ≡ delay_at g m a j i (length (states_of g))) → n ≤ q → IsNamed g m (meet h sets n)
  common_named h sets a j n q same goal_in few are within =
      common a j n goal_in (omega (arith, few, within)) (ap (λ h. meet h sets n) same ∙ meet-same g sets (λ i. delay_at g m a j i (length (states_of g))) n (λ i before. are i (omega (arith, before, within))))

  pub union_named : (sets : ℕ → StateSet) (a n q : ℕ) → q ≤ length (goal_sets g) → ((j : ℕ) → j < q → sets j ≡ m.value (suc a) j) → n ≤ q → IsNamed g m (union sets n)
  union_named sets a n q few are within = joined a n (omega (arith, few, within)) (union-same sets (λ j. m.value (suc a) j) n (λ j before. are j (omega (arith, before, within))))

-- ---- values of Y

module _ (g : GameData) where
  value_equation : (lower : StateSet) (j : ℕ) → hold_value_on g (base_for g lower j) (assumption_sets g) ≡ following g lower j
  unfolding last_delay_on
  value_equation lower j = λ k y.
      meet-same g (λ i. last_delay_on g (cover_of g (base_for g lower j) y) (at (assumption_sets g) i)) (λ i. delay g lower y j i (length (states_of g))) (length (assumption_sets g)) (λ i before. delay_is g lower j y i (length (states_of g))) k

  -- the iterates as the solver has them
  pub value_stands : (h : GameData) (lower : StateSet) (j n : ℕ) (base y : StateSet) (asms : List StateSet) → h ≡ g → base ≡ base_for g lower j → asms ≡ assumption_sets g → y ≡ iterate h (hold_value_on h base asms) n → IsValueOfY g lower j y
  value_stands h lower j n base y asms same base_is asms_are is = (
    n,
    is ∙ (ap (λ h. iterate h (hold_value_on h base asms) n) same ∙ (ap (λ b. iterate g (hold_value_on g b asms) n) base_is ∙ (ap (λ ss. iterate g (hold_value_on g (base_for g lower j) ss) n) asms_are ∙ ap (λ f. iterate g f n) (value_equation lower j)))),
  )

  pub hold_is_value : (a j : ℕ) → IsValueOfY g (layer_number g a) j (hold_number g a j)
  unfolding hold_on greatest_of
  hold_is_value a j = (length (states_of g), ap (λ f. iterate g f (length (states_of g))) (value_equation (layer_number g a) j))

  one_goal : (ss : List StateSet) → 0 < length (or_all_states g ss)
  one_goal [] = omega arith
  one_goal (s ∷ ss) = omega arith

  pub some_goal : IsGoal g 0
  some_goal = one_goal (map (λ goal. holding g goal.holds) g.goals)

  -- ---- the solver's moments

  module _ (a j : ℕ) (y : StateSet) where
    abbrev chosen : (b i : ℕ) → StateSet
    chosen b i = if suc b == suc a && i == j then y else hold_number g b i

    pub value_here : (moment_at g a j y).value (suc a) j ≡ y
    value_here = ap (λ t. if t && j == j then y else hold_number g a j) (eq-eqb (suc a) (suc a) refl) ∙ ap (λ t. if t then y else hold_number g a j) (eq-eqb j j refl)

    -- the value of a pair, by whether it is the chosen one
    by_place : (b i : ℕ) (P : StateSet → Type 0) → (b ≡ a → i ≡ j → P y) → P (hold_number g b i) → P (chosen b i)
    by_place b i P here other = by (suc b == suc a) (i == j) refl refl
      where
        by : (t u : Bool) → (suc b == suc a) ≡ t → (i == j) ≡ u → P (if t && u then y else hold_number g b i)
        by true true e f = here (let same = eqb-true (suc b) (suc a) e in omega (arith, same)) (eqb-true i j f)
        by true false e f = other
        by false u e f = other

    pub value_other : (b i : ℕ) → (b ≡ a → i ≡ j → ⊥) → (moment_at g a j y).value (suc b) i ≡ hold_number g b i
    value_other b i apart = by_place b i (λ t. t ≡ hold_number g b i) (λ same same'. absurd (apart same same')) refl

    pub is_moment : IsValueOfY g (layer_number g a) j y → IsMoment g (moment_at g a j y)
    is_moment is =
        record {
          layers = layers_for-layers g;
          values = λ b i goal_in. by_place b i (IsValueOfY g (layer_number g b) i)
              (λ same same'. subst (λ n. IsValueOfY g (layer_number g n) i y) (sym same) (subst (λ n. IsValueOfY g (layer_number g a) n y) (sym same') is)) (hold_is_value b i);
          others = (a, j, value_other);
        }

  -- where the value is the hold itself
  pub value_settled : (a j b i : ℕ) → (moment_at g a j (hold_number g a j)).value (suc b) i ≡ hold_number g b i
  value_settled a j b i =
      by_place a j (hold_number g a j) b i (λ t. t ≡ hold_number g b i) (λ same same'. ap (λ n. hold_number g n j) (sym same) ∙ ap (hold_number g b) (sym same')) refl

  -- ---- holds and layers

  pub hold_stands_for : (h : GameData) (a j : ℕ) (forced : StateSet) (misses asms : List StateSet) → h ≡ g → forced ≡ pre_env g (layer_number g a) → AreGiven g misses asms → IsGoal g j →
      hold_on h (either (at misses j) forced) asms ≡ hold_number g a j
  hold_stands_for h a j forced misses asms same forced_is given goal_in =
      ap (λ h. hold_on h (either (at misses j) forced) asms) same ∙
      (ap (λ ms. hold_on g (either (at ms j) forced) asms) given.misses_are ∙
      (ap (λ t. hold_on g (either (at (wanted g Misses) j) t) asms) forced_is ∙
      (ap (λ b. hold_on g b asms) (base_is g a j goal_in) ∙ ap (hold_on g (base_for g (layer_number g a) j)) given.asms_are)))

  pub layer_is : (h : GameData) (misses asms : List StateSet) (a : ℕ) → h ≡ g → AreGiven g misses asms → layer_on h misses asms a ≡ layer_number g a
  layer_is h misses asms a same given = ap (λ h. layer_on h misses asms a) same ∙ (ap (λ ms. layer_on g ms asms a) given.misses_are ∙ ap (λ ss. layer_on g (wanted g Misses) ss a) given.asms_are)

  pub last_number : (h : GameData) (misses asms : List StateSet) (n : ℕ) → h ≡ g → AreGiven g misses asms → IsLeastNumber (λ a. layer_on h misses asms a ≡ layer_on h misses asms (suc a)) n → IsLayerCount (layers_for g) n
  last_number h misses asms n same given least =
      record {
        here = sym (layer_is h misses asms n same given) ∙ (least.here ∙ layer_is h misses asms (suc n) same given);
        none_before = λ i before equal. least.none_before i before (layer_is h misses asms i same given ∙ (equal ∙ sym (layer_is h misses asms (suc i) same given)));
      }

  module _ (values : ℕ → ℕ → StateSet) where
    abbrev of_values : Moment
    of_values = record { layers = layers_for g; value = values }

    module _ {G R M : Type 0} where
      hold_named : (h : GameData) (a j : ℕ) (base : StateSet) (asms : List StateSet) (e : EnvGoal G R M) → h ≡ g → IsGoal g j → base ≡ base_for g (layer_number g a) j → asms ≡ assumption_sets g →
          values (suc a) j ≡ hold_number g a j → length e.x.items ≤ length asms → AreNamed g of_values (hold_sets h base asms e)
      hold_named h a j base asms e same goal_in base_is asms_are settled few =
          let hold_is : hold_on h base asms ≡ values (suc a) j =
          ap (λ h. hold_on h base asms) same ∙ (ap (λ b. hold_on g b asms) base_is ∙ (ap (hold_on g (base_for g (layer_number g a) j)) asms_are ∙ sym settled)) in
          let cover_is : cover_of h base (hold_on h base asms) ≡ cover_at g of_values a j =
          ap (cover_of h base) hold_is ∙ (ap (λ h. cover_of h base (values (suc a) j)) same ∙ ap (λ b. cover_of g b (values (suc a) j)) base_is) in
          (iterated (value a j goal_in hold_is), lists_named g of_values h a j (cover_of h base (hold_on h base asms)) asms e.x.items same goal_in cover_is asms_are few)

      pub goals_named : (h : GameData) (a : ℕ) (forced : StateSet) (misses asms : List StateSet) (goals : List (EnvGoal G R M)) → h ≡ g → forced ≡ pre_env g (layer_number g a) → AreGiven g misses asms →
          length goals ≤ length (goal_sets g) → ((j : ℕ) → j < length goals → values (suc a) j ≡ hold_number g a j) → AllOf (λ j e. IsWholeHold h (either (at misses j) forced) asms e) goals →
          AreNamed g of_values (holds_sets h forced misses asms goals)
      goals_named h a forced misses asms goals same forced_is given few settled whole =
          gather_named g of_values (λ j e. hold_sets h (either (at misses j) forced) asms e) (λ j e. IsWholeHold h (either (at misses j) forced) asms e) goals whole
          (λ j e before here.
          let goal_in : IsGoal g j = omega (arith, before, few) in
          hold_named h a j (either (at misses j) forced) asms e same goal_in
          (ap (λ ms. either (at ms j) forced) given.misses_are ∙ (ap (either (at (wanted g Misses) j)) forced_is ∙ base_is g a j goal_in)) given.asms_are (settled j before) (omega (arith, here.counted)))

      pub layers_named : (h : GameData) (n : ℕ) (misses asms : List StateSet) (ls : List (EnvLayer G R M)) → h ≡ g → AreGiven g misses asms → length ls ≤ n →
          ((b i : ℕ) → b < n → values (suc b) i ≡ hold_number g b i) → AreWholeLayers h misses asms ls → AreNamed g of_values (all_sets h misses asms ls)
      layers_named h n misses asms ls same given few settled whole =
          gather_named g of_values (λ a l. layer_sets h (layer_on h misses asms a) misses asms l) (λ a l. AreWholeHolds h (pre_env h (layer_on h misses asms a)) misses asms l.goals.items) ls whole
          (λ a l before here. (
            iterated (layer (suc a) (layer_is h misses asms (suc a) same given)),
            goals_named h a (pre_env h (layer_on h misses asms a)) misses asms l.goals.items same (ap (pre_env h) (layer_is h misses asms a same given) ∙ ap (λ h. pre_env h (layer_number g a)) same) given
                (let counted = ap (λ (ss : List StateSet). length ss) given.misses_are in omega (arith, here.counted, counted, misses_counted g)) (λ j _. settled a j (omega (arith, before, few))) here.whole,
          ))

-- ---- for some moment

module _ {R M : Type 0} (k new : Kept R M) where
  pub at_moment : (a j : ℕ) (y : StateSet) (halt : Halt) → IsValueOfY k.game (layer_number k.game a) j y → TellsHalt k.game k new (moment_at k.game a j y) halt → TellsOneMoment k new halt
  at_moment a j y Memory is tells = tells
  at_moment a j y Budget is tells = (moment_at k.game a j y, (is_moment k.game a j y is, tells))

  pub of_layers : (halt : Halt) → TellsLayers k.game k new halt → TellsOneMoment k new halt
  of_layers Memory tells = tells
  of_layers Budget tells = (moment_at k.game tells.0 tells.1.0 tells.1.1.1.0, (is_moment k.game tells.0 tells.1.0 tells.1.1.1.0 tells.1.1.1.1.0, tells.1.1.1.1.1))
