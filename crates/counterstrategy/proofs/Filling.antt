-- How what a strategy has besides its layers is made: regions first, then moves.
use Rattle.std.proofs.Common.{◌≡◌, ℕ, suc, ◌+◌, ◌≤◌, List, [], ◌∷◌, ◌++◌, map, length, Vec, refl, sym, ap, ◌∙◌, subst, arith}
use Rattle.std.proofs.lemmas.List.{append_assoc}
use Rattle.std.specs.declared.alloc.Global.{Global}
use Rattle.spec_model.specs.declared.value.Owner.{Owner}
use Rattle.spec_model.specs.declared.value.Owner.TheVariants.{Env}
use Rattle.spec_model.specs.Sets.{no_states}
use Rattle.regions.specs.declared.types.Halt.{Halt}
use Rattle.regions.specs.declared.types.When.{When}
use Rattle.regions.specs.declared.types.When.TheVariants.{First, Later}
use Rattle.regions.specs.Kept.{Kept, Item, Region, Meaning, States, Inputs, Each, meaning_of, weight, HasRegion, HoldsBesides, MakesRegion, Spends, IsExact}
use Rattle.regions.proofs.Holding.{set_is}
use Rattle.gr1_law.specs.Layers.{goal_sets, assumption_sets}
use Rattle.gr1_sys.specs.Held.{HasEach}
use Rattle.gr1_env.specs.declared.layers.EnvLayer.{EnvLayer}
use Rattle.gr1_env.specs.Held.{all_regions}
use Rattle.strategy_parts.specs.Owned.{HasAll, HoldsAll, SpendsAll, MakesAll, region_items, move_items}
use Rattle.strategy_parts.specs.Told.{Tale, IsIn, IsMade, AreTargets, TellsHalt, leadings}
use Rattle.strategy_parts.proofs.Owning.{length_map, all_as, spent_as}
use Rattle.strategy_parts.proofs.Telling.{set_stays, each_stays, leadings_stay, targets_stay, made_moves, makes_one, makes_both, made_sets, told_after, told_still}
use Rattle.counterstrategy.specs.declared.kit.Kit.{Kit}
use Rattle.counterstrategy.specs.Settled.{tops}
use Rattle.counterstrategy.specs.Owned.{list_items, all_delays, moves_in, kit_items}
use Rattle.counterstrategy.specs.Made.{Adds, AddsSome, HoldsSome, IsTaleOf, IsBare, layer_sets, delay_sets, move_meanings, made_meanings}
use Rattle.counterstrategy.proofs.Adding.{holds_both, nothing_held, made_held, as_many, move_items-append, list_items-append, added_all, some_held}
use Rattle.counterstrategy.proofs.Begun.{layers_each, delays_each}

module _ {R M : Type 0} where
  pub leads_sets : (k : Kept R M) (when : When) (rs : List R) → leadings k Env when rs ≡ map (Inputs when) (map k.set rs)
  leads_sets k when [] = refl
  leads_sets k when (r ∷ rs) = ap (λ ms. Inputs when (k.set r) ∷ ms) (leads_sets k when rs)

  -- what was made and then spent is not held
  pub held_and_spent : (first k new : Kept R M) (is : List (Item R M)) (ms : List Meaning) → IsExact k → HoldsAll first k is ms → SpendsAll k new is → HoldsBesides first new []
  held_and_spent first k new is ms exact held gone =
      let left = spent_as k new is ms exact held.counted (λ w. omega (arith, held.held w)) gone in λ w. omega (arith, left w, held.held w)

  module _ (old new : Kept R M) (exact : IsExact new) (more : (w : Item R M → Meaning → ℕ) → weight old w ≤ weight new w) where
    pub sets_stay : (rs : List R) → HasEach old rs → map new.set rs ≡ map old.set rs
    sets_stay [] each = refl
    sets_stay (r ∷ rs) each = ap (λ s. s ∷ map new.set rs) (set_stays old new exact more r each.0) ∙ ap (λ ss. old.set r ∷ ss) (sets_stay rs each.1)

module _ {G R M : Type 0} where
  pub leads_layers : (k : Kept R M) (when : When) (none : R) (ls : List (EnvLayer G R M)) → k.set none ≡ no_states → leadings k Env when (none ∷ tops ls) ≡ map (Inputs when) (layer_sets k ls)
  leads_layers k when none ls empty = ap (λ s. Inputs when s ∷ leadings k Env when (tops ls)) empty ∙ ap (λ ms. Inputs when no_states ∷ ms) (leads_sets k when (tops ls))

  pub bare_items : (kit : Kit G R M) → IsBare kit → moves_in kit ≡ []
  bare_items kit bare = ap (λ ms. move_items ms ++ (move_items kit.later.items ++ list_items kit.delays.items)) bare.first ∙ (ap (λ ms. move_items ms ++ list_items kit.delays.items) bare.later ∙ ap list_items bare.delays)

  module _ (old new : Kept R M) (exact : IsExact new) (more : (w : Item R M → Meaning → ℕ) → weight old w ≤ weight new w) (ls : List (EnvLayer G R M)) (each : HasEach old (all_regions ls)) where
    pub meanings_stay : move_meanings new ls ≡ move_meanings old ls
    meanings_stay =
        let layers = sets_stay old new exact more (tops ls) (layers_each old ls each) in
        let delays = sets_stay old new exact more (all_delays ls) (delays_each old ls each) in
        ap (λ ss. map (Inputs First) (no_states ∷ ss) ++ (map (Inputs Later) (no_states ∷ ss) ++ map (Inputs Later) (delay_sets new ls))) layers
        ∙ ap (λ ss. map (Inputs First) (layer_sets old ls) ++ (map (Inputs Later) (layer_sets old ls) ++ map (Inputs Later) ss)) delays

    pub tale_stays : (tale : Tale) → IsTaleOf tale old ls → IsTaleOf tale new ls
    tale_stays tale of =
        record {
          who = of.who;
          none = of.none;
          none_in = of.none_in;
          layers = λ when. targets_stay old new exact more tale when (tops ls) (layers_each old ls each) (of.layers when);
          delays = targets_stay old new exact more tale Later (all_delays ls) (delays_each old ls each) of.delays;
        }

-- as many moves as layers
layer_count : {G R M : Type 0} (k new : Kept R M) (when : When) (none : R) (ls : List (EnvLayer G R M)) (ms : List M) → MakesAll k new (move_items ms) (leadings k Env when (none ∷ tops ls)) → length ms ≡ suc (length ls)
layer_count {G} {R} {M} k new when none ls ms made = as_many k new Env when ms (none ∷ tops ls) made ∙ ap suc (length_map {X = EnvLayer G R M} {Y = R} (λ (l : EnvLayer G R M). l.z) ls)

-- ---- moves, one list after the other

module _ {G R M : Type 0} (k k1 : Kept R M) (exact1 : IsExact k1) (none : R) (ls : List (EnvLayer G R M)) (each : HasEach k (all_regions ls)) (has : HasRegion k none) (empty : k.set none ≡ no_states) (was1 first : List M) (bare1 : was1 ≡ []) (added1 : Adds move_items k k1 was1 first (leadings k Env First (none ∷ tops ls))) where
  first_leads : MakesAll k k1 (move_items first) (leadings k Env First (none ∷ tops ls))
  first_leads = added_all move_items refl move_items-append k k1 was1 first (leadings k Env First (none ∷ tops ls)) bare1 added1

  pub first_made : MakesAll k k1 (move_items first) (map (Inputs First) (layer_sets k ls))
  first_made = subst (MakesAll k k1 (move_items first)) (leads_layers k First none ls empty) first_leads

  pub first_count : length first ≡ suc (length ls)
  first_count = layer_count k k1 First none ls first first_leads

  more1 : (w : Item R M → Meaning → ℕ) → weight k w ≤ weight k1 w
  more1 w = omega (arith, first_made.held w)

  top_each : HasEach k (none ∷ tops ls)
  top_each = (has, layers_each k ls each)

  pub then_each : HasEach k1 (none ∷ tops ls)
  then_each = each_stays k k1 exact1 more1 (none ∷ tops ls) top_each

  pub then_targets : (tale : Tale) → IsTaleOf tale k ls → AreTargets tale Later k1 (none ∷ tops ls)
  then_targets tale of = targets_stay k k1 exact1 more1 tale Later (none ∷ tops ls) top_each (subst (λ s. IsIn s (tale.targets Later)) (sym empty) (of.none_in Later), of.layers Later)

  first_named : (tale : Tale) → IsTaleOf tale k ls → Each (IsMade tale) (leadings k Env First (none ∷ tops ls))
  first_named tale of = subst (λ (o : Owner). Each (IsMade tale) (leadings k o First (none ∷ tops ls))) of.who (made_moves k tale First (none ∷ tops ls) (subst (λ s. IsIn s (tale.targets First)) (sym empty) (of.none_in First), of.layers First))

  pub then_told : (tale : Tale) → IsTaleOf tale k ls → (new : Kept R M) (halt : Halt) → TellsHalt k1 new tale halt → TellsHalt k new tale halt
  then_told tale of new halt tells = told_after k k1 new tale (move_items first) (leadings k Env First (none ∷ tops ls)) halt first_leads (first_named tale of) tells

  module _ (k2 : Kept R M) (exact2 : IsExact k2) (was2 later : List M) (bare2 : was2 ≡ []) where
    pub later_some : (delays : List (Vec M Global)) → delays ≡ [] → AddsSome move_items k1 k2 was2 later → HoldsSome k k2 (move_items first ++ (move_items later ++ list_items delays))
    later_some delays bare3 some =
        let second = some_held move_items refl move_items-append k1 k2 was2 later bare2 some in
        let third : HoldsAll k2 k2 (list_items delays) [] = subst (λ (cs : List (Vec M Global)). HoldsAll k2 k2 (list_items cs) []) (sym bare3) (nothing_held k2 k2 (λ w. omega arith)) in (
          map (Inputs First) (layer_sets k ls) ++ (second.0 ++ []),
          holds_both k k1 k2 (move_items first) (move_items later ++ list_items delays) (map (Inputs First) (layer_sets k ls)) (second.0 ++ []) (made_held k k1 (move_items first) (map (Inputs First) (layer_sets k ls)) first_made)
              (holds_both k1 k2 k2 (move_items later) (list_items delays) second.0 [] second.1 third),
        )

    module _ (added2 : Adds move_items k1 k2 was2 later (leadings k1 Env Later (none ∷ tops ls))) where
      later_leads : MakesAll k1 k2 (move_items later) (leadings k1 Env Later (none ∷ tops ls))
      later_leads = added_all move_items refl move_items-append k1 k2 was2 later (leadings k1 Env Later (none ∷ tops ls)) bare2 added2

      later_same : leadings k1 Env Later (none ∷ tops ls) ≡ map (Inputs Later) (layer_sets k ls)
      later_same = leadings_stay k k1 exact1 more1 Env Later (none ∷ tops ls) top_each ∙ leads_layers k Later none ls empty

      pub later_made : MakesAll k1 k2 (move_items later) (map (Inputs Later) (layer_sets k ls))
      later_made = subst (MakesAll k1 k2 (move_items later)) later_same later_leads

      pub later_count : length later ≡ suc (length ls)
      later_count = layer_count k1 k2 Later none ls later later_leads

      more2 : (w : Item R M → Meaning → ℕ) → weight k w ≤ weight k2 w
      more2 w = omega (arith, first_made.held w, later_made.held w)

      pub last_each : HasEach k2 (all_delays ls)
      last_each = each_stays k k2 exact2 more2 (all_delays ls) (delays_each k ls each)

      pub last_targets : (tale : Tale) → IsTaleOf tale k ls → AreTargets tale Later k2 (all_delays ls)
      last_targets tale of = targets_stay k k2 exact2 more2 tale Later (all_delays ls) (delays_each k ls each) of.delays

      pub last_told : (tale : Tale) → IsTaleOf tale k ls → (new : Kept R M) (halt : Halt) → TellsHalt k2 new tale halt → TellsHalt k new tale halt
      last_told tale of new halt tells =
          then_told tale of new halt
          (told_after k1 k2 new tale (move_items later) (leadings k1 Env Later (none ∷ tops ls)) halt later_leads
          (subst (λ (o : Owner). Each (IsMade tale) (leadings k1 o Later (none ∷ tops ls))) of.who (made_moves k1 tale Later (none ∷ tops ls) (then_targets tale of))) tells)

      module _ (k3 : Kept R M) (was3 delays : List (Vec M Global)) (bare3 : was3 ≡ []) where
        pub moves_made : Adds list_items k2 k3 was3 delays (leadings k2 Env Later (all_delays ls)) → MakesAll k k3 (move_items first ++ (move_items later ++ list_items delays)) (move_meanings k ls)
        moves_made added3 =
            let third = added_all list_items refl list_items-append k2 k3 was3 delays (leadings k2 Env Later (all_delays ls)) bare3 added3 in
            let same : leadings k2 Env Later (all_delays ls) ≡ map (Inputs Later) (delay_sets k ls) = leadings_stay k k2 exact2 more2 Env Later (all_delays ls) (delays_each k ls each) ∙ leads_sets k Later (all_delays ls) in
            makes_both k k1 k3 (move_items first) (move_items later ++ list_items delays) (map (Inputs First) (layer_sets k ls)) (map (Inputs Later) (layer_sets k ls) ++ map (Inputs Later) (delay_sets k ls)) first_made
            (makes_both k1 k2 k3 (move_items later) (list_items delays) (map (Inputs Later) (layer_sets k ls)) (map (Inputs Later) (delay_sets k ls)) later_made (subst (MakesAll k2 k3 (list_items delays)) same third))

        pub moves_some : AddsSome list_items k2 k3 was3 delays → HoldsSome k k3 (move_items first ++ (move_items later ++ list_items delays))
        moves_some some =
            let third = some_held list_items refl list_items-append k2 k3 was3 delays bare3 some in (
              map (Inputs First) (layer_sets k ls) ++ (map (Inputs Later) (layer_sets k ls) ++ third.0),
              holds_both k k1 k3 (move_items first) (move_items later ++ list_items delays) (map (Inputs First) (layer_sets k ls)) (map (Inputs Later) (layer_sets k ls) ++ third.0) (made_held k k1 (move_items first) (map (Inputs First) (layer_sets k ls)) first_made)
                  (holds_both k1 k2 k3 (move_items later) (list_items delays) (map (Inputs Later) (layer_sets k ls)) third.0 (made_held k1 k2 (move_items later) (map (Inputs Later) (layer_sets k ls)) later_made) third.1),
            )

-- ---- no states, given for a while

module _ {R M : Type 0} (k k1 k2 k3 : Kept R M) (none : R) (made : MakesRegion k k1 none no_states) (exact1 : IsExact k1) (exact2 : IsExact k2) (gone : Spends k2 k3 (Region none)) where
  pub none_is : k1.set none ≡ no_states
  none_is = set_is k1 none no_states exact1 (λ w. omega (arith, made.held w))

  pub none_made : (is : List (Item R M)) (ms : List Meaning) → MakesAll k1 k2 is ms → MakesAll k k3 is ms
  none_made is ms all =
      let still : meaning_of k2 (Region none) ≡ States no_states = exact2 (Region none) (States no_states) (λ w. omega (arith, made.held w, all.held w)) in
      record {
        held = λ w. let spent : weight k3 w + w (Region none) (States no_states) ≡ weight k2 w = subst (λ m. weight k3 w + w (Region none) m ≡ weight k2 w) still (gone.held w) in omega (arith, spent, made.held w, all.held w);
        counted = all.counted;
        jam = gone.jam ∙ all.jam;
      }

  pub none_held : (is : List (Item R M)) → HoldsSome k1 k2 is → HoldsSome k k3 is
  none_held is some =
      let held = some.1 in
      let still : meaning_of k2 (Region none) ≡ States no_states = exact2 (Region none) (States no_states) (λ w. omega (arith, made.held w, held.held w)) in (
        some.0,
        record {
          held = λ w. let spent : weight k3 w + w (Region none) (States no_states) ≡ weight k2 w = subst (λ m. weight k3 w + w (Region none) m ≡ weight k2 w) still (gone.held w) in omega (arith, spent, made.held w, held.held w);
          counted = held.counted;
        },
      )

  pub none_told : (tale : Tale) (halt : Halt) → IsIn no_states tale.sets → TellsHalt k1 k2 tale halt → TellsHalt k k3 tale halt
  none_told tale halt is tells =
      told_still k k2 k3 tale halt gone.jam
      (told_after k k1 k2 tale (Region none ∷ []) (States no_states ∷ []) halt (makes_one k k1 (Region none) (States no_states) made) (made_sets tale (no_states ∷ []) (is, tt)) tells)

  pub none_stays : (is : List (Item R M)) → HoldsSome k1 k2 is → HasRegion k2 none
  none_stays is some w = let held = some.1 in omega (arith, made.held (λ i m. w i), held.held (λ i m. w i))

-- ---- regions and moves together

module _ {G R M : Type 0} (k k1 k2 : Kept R M) (ls : List (EnvLayer G R M)) (kit : Kit G R M) (goals : MakesAll k k1 (region_items kit.goals.items ++ region_items kit.asms.items) (map States (goal_sets k.game) ++ map States (assumption_sets k.game))) where
  abbrev regions : List (Item R M)
  regions = region_items kit.goals.items ++ region_items kit.asms.items

  abbrev sets : List Meaning
  sets = map States (goal_sets k.game) ++ map States (assumption_sets k.game)

  pub kit_made : MakesAll k1 k2 (moves_in kit) (move_meanings k ls) → MakesAll k k2 (kit_items kit) (made_meanings k ls)
  kit_made moves =
      subst (λ (is : List (Item R M)). MakesAll k k2 is (made_meanings k ls)) (append_assoc (region_items kit.goals.items) (region_items kit.asms.items) (moves_in kit))
      (subst (MakesAll k k2 (regions ++ moves_in kit)) (append_assoc (map States (goal_sets k.game)) (map States (assumption_sets k.game)) (move_meanings k ls))
      (makes_both k k1 k2 regions (moves_in kit) sets (move_meanings k ls) goals moves))

  pub kit_held : HoldsSome k1 k2 (moves_in kit) → HoldsSome k k2 (kit_items kit)
  kit_held some = (
    sets ++ some.0,
    subst (λ (is : List (Item R M)). HoldsAll k k2 is (sets ++ some.0)) (append_assoc (region_items kit.goals.items) (region_items kit.asms.items) (moves_in kit))
        (holds_both k k1 k2 regions (moves_in kit) sets some.0 (made_held k k1 regions sets goals) some.1),
  )

-- what is held besides is held together
pub some_together : {R M : Type 0} (k new : Kept R M) (is : List (Item R M)) → IsExact new → HoldsSome k new is → HasAll new is
some_together k new is exact some = let held = some.1 in all_as new is some.0 exact held.counted (λ w. omega (arith, held.held w))
