-- What was made for a strategy is sound.
use Rattle.std.proofs.Common.{◌≡◌, ℕ, zero, suc, ◌+◌, ◌*◌, ◌≤◌, ◌<◌, List, [], ◌∷◌, ◌++◌, map, length, get_or, slice_get, slice_index, Vec, vec_len, Some, inl, inr, ap, sym, ◌∙◌, refl, subst, arith}
use Rattle.std.specs.declared.alloc.Global.{Global}
use Rattle.spec_model.specs.Games.{GameData}
use Rattle.spec_model.specs.Sets.{StateSet, no_states}
use Rattle.spec_model.specs.WellMade.{WellMade}
use Rattle.regions.specs.declared.types.When.{When}
use Rattle.regions.specs.declared.types.When.TheVariants.{First, Later}
use Rattle.regions.specs.Kept.{Kept, Item, Region, Move, Meaning, States, Inputs, meaning_of, weight, IsExact, IsSameGame}
use Rattle.gr1_law.specs.Layers.{goal_set, goal_sets, assumption_set, assumption_sets}
use Rattle.gr1_law.specs.EnvLayers.{EnvLayerSets}
use Rattle.gr1_law.specs.CounterLaws.{IsLostWith}
use Rattle.gr1_sys.specs.Held.{HasEach}
use Rattle.gr1_sys.proofs.Won.{found}
use Rattle.gr1_env.specs.declared.layers.EnvGoal.{EnvGoal}
use Rattle.gr1_env.specs.declared.layers.EnvLayer.{EnvLayer}
use Rattle.gr1_env.specs.Held.{list_regions, hold_regions, goal_regions, layer_regions, all_regions}
use Rattle.gr1_env.specs.Solved.{counts_of}
use Rattle.gr1_env.proofs.Gathered.{each_gathered}
use Rattle.gr1_env.proofs.Counting.{there_at, mapped_at}
use Rattle.strategy_parts.specs.Owned.{Every, weight_as, HasAll, MakesAll, RegionsAre, region_items, move_items}
use Rattle.strategy_parts.specs.Told.{IsIn, AreTargets}
use Rattle.strategy_parts.proofs.Owning.{length_map, length_both, weight_as-append, all_as, together_regions, together_each}
use Rattle.strategy_parts.proofs.Standing.{AreSets, regions_are, regions_held, each_parts}
use Rattle.strategy_parts.proofs.Telling.{every_in}
use Rattle.counterstrategy.specs.declared.kit.Kit.{Kit}
use Rattle.counterstrategy.specs.Forced.{ChainsLead}
use Rattle.counterstrategy.specs.Settled.{tops, holds_in, LayersAre, GoalsAre}
use Rattle.counterstrategy.specs.Owned.{list_items, all_lists, goal_delays, all_delays, layer_items, moves_in, kit_items}
use Rattle.counterstrategy.specs.Made.{layer_sets, delay_sets, targets_of, move_meanings, made_meanings, tale_of, IsTaleOf, IsEquipped, AreLayersOf}
use Rattle.counterstrategy.specs.Objects.{AreSound}
use Rattle.counterstrategy.proofs.Stepping.{all_delays-lists}
use Rattle.counterstrategy.proofs.Chaining.{list_at, counts_are, moves_held, chain_at, list_leads}

-- ---- regions among those of the layers

module _ {R M : Type 0} where
  each_and : (k : Kept R M) (rs qs : List R) → HasEach k rs → HasEach k qs → HasEach k (rs ++ qs)
  each_and k [] qs a b = b
  each_and k (r ∷ rs) qs a b = (a.0, each_and k rs qs a.1 b)

module _ {G R M : Type 0} where
  tops_each : (k : Kept R M) (ls : List (EnvLayer G R M)) → HasEach k (all_regions ls) → HasEach k (tops ls)
  tops_each k [] each = tt
  tops_each k (l ∷ ls) each = let parts = each_parts k (layer_regions l) (all_regions ls) each in (parts.0.0, tops_each k ls parts.1)

  holds_each : (k : Kept R M) (goals : List (EnvGoal G R M)) → HasEach k (goal_regions goals) → HasEach k (holds_in goals)
  holds_each k [] each = tt
  holds_each k (e ∷ goals) each = let parts = each_parts k (hold_regions e) (goal_regions goals) each in (parts.0.0, holds_each k goals parts.1)

  goal_delays_each : (k : Kept R M) (goals : List (EnvGoal G R M)) → HasEach k (goal_regions goals) → HasEach k (goal_delays goals)
  goal_delays_each k [] each = tt
  goal_delays_each k (e ∷ goals) each =
      let parts = each_parts k (hold_regions e) (goal_regions goals) each in each_and k (list_regions e.x.items) (goal_delays goals) parts.0.1 (goal_delays_each k goals parts.1)

  pub delays_each : (k : Kept R M) (ls : List (EnvLayer G R M)) → HasEach k (all_regions ls) → HasEach k (all_delays ls)
  delays_each k [] each = tt
  delays_each k (l ∷ ls) each =
      let parts = each_parts k (layer_regions l) (all_regions ls) each in each_and k (goal_delays l.goals.items) (all_delays ls) (goal_delays_each k l.goals.items parts.0.1) (delays_each k ls parts.1)

  pub layers_each : (k : Kept R M) (ls : List (EnvLayer G R M)) → HasEach k (all_regions ls) → HasEach k (tops ls)
  layers_each = tops_each

-- ---- what may be told of

in_front : (s : StateSet) (ss ts : List StateSet) → IsIn s ss → IsIn s (ss ++ ts)
in_front s [] ts is = absurd is
in_front s (t ∷ ss) ts (inl here) = inl here
in_front s (t ∷ ss) ts (inr later) = inr (in_front s ss ts later)

in_back : (s : StateSet) (ss ts : List StateSet) → IsIn s ts → IsIn s (ss ++ ts)
in_back s [] ts is = is
in_back s (t ∷ ss) ts is = inr (in_back s ss ts is)

every_as : {X : Type 0} (P Q : X → Type 0) → ((x : X) → P x → Q x) → (xs : List X) → Every P xs → Every Q xs
every_as P Q f [] all = tt
every_as P Q f (x ∷ xs) all = (f x all.0, every_as P Q f xs all.1)

each_in : (ss : List StateSet) → Every (λ s. IsIn s ss) ss
each_in [] = tt
each_in (s ∷ ss) = (inl refl, every_as (λ t. IsIn t ss) (λ t. IsIn t (s ∷ ss)) (λ t is. inr is) ss (each_in ss))

module _ {G R M : Type 0} (k : Kept R M) (ls : List (EnvLayer G R M)) where
  top_in : Every (λ r. IsIn (k.set r) (layer_sets k ls)) (tops ls)
  top_in = every_as (λ r. IsIn (k.set r) (map k.set (tops ls))) (λ r. IsIn (k.set r) (layer_sets k ls)) (λ r is. inr is) (tops ls) (every_in k.set (tops ls))

  pub its_tale : IsTaleOf (tale_of k ls) k ls
  its_tale = record { who = refl; none = inl refl; none_in = none_in; layers = layers; delays = delays }
    where
      none_in : (when : When) → IsIn no_states (targets_of k ls when)
      none_in First = inl refl
      none_in Later = inl refl

      layers : (when : When) → AreTargets (tale_of k ls) when k (tops ls)
      layers First = top_in
      layers Later = every_as (λ r. IsIn (k.set r) (layer_sets k ls)) (λ r. IsIn (k.set r) (layer_sets k ls ++ delay_sets k ls)) (λ r is. in_front (k.set r) (layer_sets k ls) (delay_sets k ls) is) (tops ls) top_in

      delays : AreTargets (tale_of k ls) Later k (all_delays ls)
      delays = every_as (λ r. IsIn (k.set r) (delay_sets k ls)) (λ r. IsIn (k.set r) (layer_sets k ls ++ delay_sets k ls)) (λ r is. in_back (k.set r) (layer_sets k ls) (delay_sets k ls) is) (all_delays ls) (every_in k.set (all_delays ls))

  pub its_goals : Every (λ s. IsIn s (no_states ∷ (goal_sets k.game ++ assumption_sets k.game))) (goal_sets k.game)
  its_goals =
      every_as (λ s. IsIn s (goal_sets k.game)) (λ s. IsIn s (no_states ∷ (goal_sets k.game ++ assumption_sets k.game)))
      (λ s is. inr (in_front s (goal_sets k.game) (assumption_sets k.game) is)) (goal_sets k.game) (each_in (goal_sets k.game))

  pub its_asms : Every (λ s. IsIn s (no_states ∷ (goal_sets k.game ++ assumption_sets k.game))) (assumption_sets k.game)
  its_asms =
      every_as (λ s. IsIn s (assumption_sets k.game)) (λ s. IsIn s (no_states ∷ (goal_sets k.game ++ assumption_sets k.game)))
      (λ s is. inr (in_back s (goal_sets k.game) (assumption_sets k.game) is)) (assumption_sets k.game) (each_in (assumption_sets k.game))

-- ---- all together

module _ {G R M : Type 0} (old new : Kept R M) (same : IsSameGame old new) (exact : IsExact new) (ls : List (EnvLayer G R M)) (e : EnvLayerSets) (own : AreLayersOf old ls e) (kit : Kit G R M) (made : MakesAll old new (kit_items kit) (made_meanings old ls)) (equipped : IsEquipped old.game kit ls) where
  more : (w : Item R M → Meaning → ℕ) → weight old w ≤ weight new w
  more w = omega (arith, made.held w)

  regions_each : HasEach old (all_regions ls)
  regions_each = together_each old (all_regions ls) own.held

  -- ---- the parts of what was made

  counted_regions : (rs : List R) (ss : List StateSet) → length rs ≡ length ss → length (region_items {M = M} rs) ≡ length (map States ss)
  counted_regions rs ss same = length_map {X = R} {Y = Item R M} Region rs ∙ (same ∙ sym (length_map {X = StateSet} {Y = Meaning} States ss))

  counted_moves : (when : When) (ms : List M) (ss : List StateSet) → length ms ≡ length ss → length (move_items {R = R} ms) ≡ length (map (Inputs when) ss)
  counted_moves when ms ss same = length_map {X = M} {Y = Item R M} Move ms ∙ (same ∙ sym (length_map {X = StateSet} {Y = Meaning} (Inputs when) ss))

  layers_counted : length (layer_sets old ls) ≡ suc (length ls)
  layers_counted = ap suc (length_map {X = R} {Y = StateSet} old.set (tops ls) ∙ length_map {X = EnvLayer G R M} {Y = R} (λ (l : EnvLayer G R M). l.z) ls)

  abbrev after_goals : List (Item R M)
  after_goals = region_items kit.asms.items ++ moves_in kit

  abbrev after_first : List (Item R M)
  after_first = move_items kit.later.items ++ list_items kit.delays.items

  abbrev delays_meant : List Meaning
  delays_meant = map (Inputs Later) (delay_sets old ls)

  goals_split : (w : Item R M → Meaning → ℕ) → weight_as (kit_items kit) (made_meanings old ls) w ≡ weight_as (region_items kit.goals.items) (map States (goal_sets old.game)) w + weight_as after_goals (map States (assumption_sets old.game) ++ move_meanings old ls) w
  goals_split w = weight_as-append (region_items kit.goals.items) after_goals (map States (goal_sets old.game)) (map States (assumption_sets old.game) ++ move_meanings old ls) w (counted_regions kit.goals.items (goal_sets old.game) equipped.goals)

  asms_split : (w : Item R M → Meaning → ℕ) → weight_as after_goals (map States (assumption_sets old.game) ++ move_meanings old ls) w ≡ weight_as (region_items kit.asms.items) (map States (assumption_sets old.game)) w + weight_as (moves_in kit) (move_meanings old ls) w
  asms_split w = weight_as-append (region_items kit.asms.items) (moves_in kit) (map States (assumption_sets old.game)) (move_meanings old ls) w (counted_regions kit.asms.items (assumption_sets old.game) equipped.asms)

  first_split : (w : Item R M → Meaning → ℕ) → weight_as (moves_in kit) (move_meanings old ls) w ≡ weight_as (move_items kit.first.items) (map (Inputs First) (layer_sets old ls)) w + weight_as after_first (map (Inputs Later) (layer_sets old ls) ++ delays_meant) w
  first_split w = weight_as-append (move_items kit.first.items) after_first (map (Inputs First) (layer_sets old ls)) (map (Inputs Later) (layer_sets old ls) ++ delays_meant) w (counted_moves First kit.first.items (layer_sets old ls) (equipped.moves.first ∙ sym layers_counted))

  later_split : (w : Item R M → Meaning → ℕ) → weight_as after_first (map (Inputs Later) (layer_sets old ls) ++ delays_meant) w ≡ weight_as (move_items kit.later.items) (map (Inputs Later) (layer_sets old ls)) w + weight_as (list_items kit.delays.items) delays_meant w
  later_split w = weight_as-append (move_items kit.later.items) (list_items kit.delays.items) (map (Inputs Later) (layer_sets old ls)) delays_meant w (counted_moves Later kit.later.items (layer_sets old ls) (equipped.moves.later ∙ sym layers_counted))

  -- ---- what they are held as

  layer_is : (a : ℕ) → a < length (layer_sets old ls) → get_or (layer_sets old ls) a no_states ≡ e.z a
  layer_is zero before = sym own.lost.layers.none_first
  layer_is (suc a) before =
      let there = there_at ls a (omega (arith, before, layers_counted)) in
      let top : slice_get (tops ls) a ≡ Some there.0.z = mapped_some (λ (l : EnvLayer G R M). l.z) ls a there.0 there.1 in
      mapped_at old.set no_states (tops ls) a there.0.z top ∙ own.shown.layer a there.0 there.1
    where
      mapped_some : {X Y : Type 0} (f : X → Y) (xs : List X) (i : ℕ) (x : X) → slice_get xs i ≡ Some x → slice_get (map f xs) i ≡ Some (f x)
      mapped_some f [] i x is = cc
      mapped_some f (y ∷ xs) zero x is = let same : y ≡ x = cc in ap (λ z. Some (f z)) same
      mapped_some f (y ∷ xs) (suc i) x is = mapped_some f xs i x is

  tops_sets : (qs : List (EnvLayer G R M)) (sets : ℕ → StateSet) → ((a : ℕ) (l : EnvLayer G R M) → slice_get qs a ≡ Some l → old.set l.z ≡ sets a) → AreSets old (tops qs) sets
  tops_sets [] sets shown = tt
  tops_sets (l ∷ qs) sets shown = (shown 0 l refl, tops_sets qs (λ a. sets (suc a)) (λ a. shown (suc a)))

  holds_sets : (goals : List (EnvGoal G R M)) (sets : ℕ → StateSet) → ((j : ℕ) (h : EnvGoal G R M) → slice_get goals j ≡ Some h → old.set h.y ≡ sets j) → AreSets old (holds_in goals) sets
  holds_sets [] sets shown = tt
  holds_sets (h ∷ goals) sets shown = (shown 0 h refl, holds_sets goals (λ j. sets (suc j)) (λ j. shown (suc j)))

  holds_of : (a : ℕ) (l : EnvLayer G R M) → slice_get ls a ≡ Some l → HasEach old (holds_in l.goals.items)
  holds_of a l is =
      let place = found ls a l is in
      let here : HasEach old (layer_regions (get_or ls a l)) = each_gathered old (λ n (q : EnvLayer G R M). layer_regions q) ls a l regions_each place.0 in
      holds_each old l.goals.items (subst (λ (q : EnvLayer G R M). HasEach old (layer_regions q)) place.1 here).1

  layers_are : LayersAre new ls e
  layers_are =
      record {
        layers = regions_are old new more (tops ls) (λ a. e.z (suc a)) (tops_each old ls regions_each) (tops_sets ls (λ a. e.z (suc a)) own.shown.layer);
        holds = λ a l is. regions_are old new more (holds_in l.goals.items) (e.y (suc a)) (holds_of a l is) (holds_sets l.goals.items (e.y (suc a)) (λ j h h_is. own.shown.hold a j l h is h_is));
        counted = λ a l is. own.goals a l is ∙ ap (λ (g : GameData). length (goal_sets g)) (sym same.game);
      }

  goals_are : GoalsAre new kit
  goals_are =
      record {
        goals = subst (λ (g : GameData). RegionsAre new kit.goals.items (goal_set g)) (sym same.game) (regions_held new kit.goals.items (goal_sets old.game) (goal_set old.game) equipped.goals (λ w. omega (arith, made.held w, goals_split w)) (λ i. refl));
        goals_counted = equipped.goals ∙ ap (λ (g : GameData). length (goal_sets g)) (sym same.game);
        asms = subst (λ (g : GameData). RegionsAre new kit.asms.items (assumption_set g)) (sym same.game) (regions_held new kit.asms.items (assumption_sets old.game) (assumption_set old.game) equipped.asms (λ w. omega (arith, made.held w, goals_split w, asms_split w)) (λ i. refl));
        asms_counted = equipped.asms ∙ ap (λ (g : GameData). length (assumption_sets g)) (sym same.game);
      }

  -- each hold has a list for each assumption
  lists_counted_at : (a j : ℕ) (l : EnvLayer G R M) (h : EnvGoal G R M) → slice_get ls a ≡ Some l → slice_get l.goals.items j ≡ Some h → length h.x.items ≡ length (assumption_sets old.game)
  lists_counted_at a j l h l_is h_is =
      let a_in = (found ls a l l_is).0 in
      let j_in = (found l.goals.items j h h_is).0 in
      let counted = own.lost.delays.counted a j a_in (omega (arith, j_in, own.goals a l l_is)) in
      sym (length_map {X = Vec R Global} {Y = ℕ} (λ (v : Vec R Global). vec_len v) h.x.items) ∙ (ap (λ (ns : List ℕ). length ns) (sym (counts_are ls a j l h l_is h_is)) ∙ counted)

  chains : ChainsLead new kit.delays.items (length ls) (length (goal_sets old.game)) (length (assumption_sets old.game)) e (counts_of ls)
  chains a j i a_in j_in i_in =
      let l = there_at ls a a_in in
      let h = there_at l.0.goals.items j (omega (arith, j_in, own.goals a l.0 l.1)) in
      let v = there_at h.0.x.items i (omega (arith, i_in, lists_counted_at a j l.0 h.0 l.1 h.1)) in
      let place = list_at ls (length (goal_sets old.game)) (length (assumption_sets old.game)) own.goals lists_counted_at a j i l.0 h.0 l.1 h.1 j_in i_in in
      let meant : delays_meant ≡ map (Inputs Later) (map old.set (list_regions (all_lists ls))) = ap (λ (rs : List R). map (Inputs Later) (map old.set rs)) (all_delays-lists ls) in
      let held : (w : Item R M → Meaning → ℕ) → weight_as (list_items kit.delays.items) (map (Inputs Later) (map old.set (list_regions (all_lists ls)))) w ≤ weight new w =
      subst (λ (ms : List Meaning). (w : Item R M → Meaning → ℕ) → weight_as (list_items kit.delays.items) ms w ≤ weight new w) meant
      (λ w. omega (arith, made.held w, goals_split w, asms_split w, first_split w, later_split w)) in
      let c = chain_at old new kit.delays.items (all_lists ls) equipped.moves.delays held ((a * length (goal_sets old.game) + j) * length (assumption_sets old.game) + i) v.0 (place ∙ v.1) in (
        c.0,
        c.1,
        record {
          lead = list_leads old new c.0 v.0 (λ r. e.x (suc a) j i (suc r)) c.2 (own.shown.delays a j i l.0 h.0 v.0 l.1 h.1 v.1);
          counted = c.2.counted ∙ (sym v.0.ok.0 ∙ (sym (mapped_at (λ (v : Vec R Global). vec_len v) 0 h.0.x.items i v.0 v.1) ∙ ap (λ ns. slice_index ns i) (sym (counts_are ls a j l.0 h.0 l.1 h.1))));
        },
      )

  pub sound : AreSound new ls kit e
  sound =
      record {
        made = subst WellMade (sym same.game) own.made;
        lost = subst (λ (g : GameData). IsLostWith g e (length ls) (counts_of ls)) (sym same.game) own.lost;
        layers = layers_are;
        goals = goals_are;
        first = moves_held new First kit.first.items (layer_sets old ls) e.z (equipped.moves.first ∙ sym layers_counted) (λ w. omega (arith, made.held w, goals_split w, asms_split w, first_split w)) layer_is;
        first_counted = equipped.moves.first;
        later = moves_held new Later kit.later.items (layer_sets old ls) e.z (equipped.moves.later ∙ sym layers_counted) (λ w. omega (arith, made.held w, goals_split w, asms_split w, first_split w, later_split w)) layer_is;
        later_counted = equipped.moves.later;
        delays = subst (λ (g : GameData). ChainsLead new kit.delays.items (length ls) (length (goal_sets g)) (length (assumption_sets g)) e (counts_of ls)) (sym same.game) chains;
      }

  pub owned : HasAll new (layer_items ls ++ kit_items kit)
  owned =
      let before = together_regions old (all_regions ls) own.held in
      let counted : length (layer_items {G = G} {R = R} {M = M} ls) ≡ length (map (meaning_of old) (layer_items ls)) = sym (length_map {X = Item R M} {Y = Meaning} (meaning_of old) (layer_items ls)) in
      all_as new (layer_items ls ++ kit_items kit) (map (meaning_of old) (layer_items ls) ++ made_meanings old ls) exact
      (let n = made.counted in omega (arith, n, counted, length_both (layer_items ls) (kit_items kit), length_both (map (meaning_of old) (layer_items ls)) (made_meanings old ls)))
      (λ w. omega (arith, before w, made.held w, weight_as-append (layer_items ls) (kit_items kit) (map (meaning_of old) (layer_items ls)) (made_meanings old ls) w counted))
