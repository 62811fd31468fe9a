-- The sets that are made first.
use Rattle.std.proofs.Common.{◌≡◌, ℕ, zero, suc, ◌<◌, Bool, true, false, not, ◌&&◌, List, [], ◌∷◌, ◌++◌, map, length, get_or, slice_get, Some, vec_len, ◌==◌, ap, sym, ◌∙◌, refl, arith}
use Rattle.std.proofs.lemmas.List.{get_or-map, map-append, nil_from_length, ext_get_or}
use Rattle.std.proofs.lemmas.Bool.Decides.{nat_tests}
use Rattle.spec_model.specs.declared.game.Game.{Game}
use Rattle.spec_model.specs.GameViews.{game_data, goal_data}
use Rattle.spec_model.specs.Games.{GameData, GoalData}
use Rattle.spec_model.specs.Steps.{below, is_state}
use Rattle.spec_model.specs.Sets.{StateSet, no_states, all_states, rest, holding}
use Rattle.regions.specs.declared.types.Recur.TheVariants.{Assumption, Guarantee}
use Rattle.regions.specs.Rules.{states_holding}
use Rattle.regions.specs.Kept.{Kept, Region, MakesRegion, Spends, IsExact, IsSameGame}
use Rattle.gr1_law.specs.Layers.{or_all_states, goal_sets, assumption_sets}
use Rattle.gr1_sys.specs.declared.givens.Given.{Given}
use Rattle.gr1_sys.specs.declared.givens.SysSets.TheVariants.{Goals, Lapses}
use Rattle.gr1_sys.specs.Givens.{wanted, given_regions, given_sets}
use Rattle.gr1_sys.specs.Held.{MakesRegions, HasTogether, SpendsAll, IsGiven}
use Rattle.gr1_sys.proofs.Lists.{length_map, length_below, as_held, held_each, each_append, weight_as-more, weight_as_map-append, together_as, spent_as}
use Rattle.regions.proofs.Holding.{spent}
use Rattle.gr1_sys.proofs.Turned.{split_same}
use Rattle.gr1_sys.proofs.Parted.{get_or-map_below}

is_zero : (n : ℕ) → (n == 0) ≡ true → n ≡ 0
is_zero n e = grind (arith, nat_tests, e)

not_zero : (n : ℕ) → (n == 0) ≡ false → 0 < n
not_zero n e = grind (arith, nat_tests, e)

alone : (g : GameData) (sets : List StateSet) → sets ≡ [] → (j : ℕ) → j < length (or_all_states g sets) → get_or (or_all_states g sets) j no_states ≡ all_states g
alone g [] e zero before = refl
alone g [] e (suc j) before = absurd (omega (arith, before))
alone g (a ∷ more) e j before = cc

there : (g : GameData) (sets : List StateSet) → 0 < length sets → or_all_states g sets ≡ sets
there g [] some = absurd (omega (arith, some))
there g (a ∷ more) some = refl

some_at : {X Y : Type 0} (f : X → Y) (d : Y) (xs : List X) (j : ℕ) → j < length xs → (x : X) × ((slice_get xs j ≡ Some x) × (get_or (map f xs) j d ≡ f x))
some_at f d [] j before = absurd (omega (arith, before))
some_at f d (x ∷ xs) zero before = (x, (refl, refl))
some_at f d (x ∷ xs) (suc j) before = some_at f d xs j (omega (arith, before))

module _ (gm : Game) (h : GameData) (is : game_data gm ≡ h) where
  no_goals : vec_len gm.goals ≡ 0 → map (λ goal. holding h goal.holds) h.goals ≡ []
  no_goals e =
      let counted : length h.goals ≡ length gm.goals.items = ap (λ (k : GameData). length k.goals) (sym is) ∙ length_map goal_data gm.goals.items in
      nil_from_length (map (λ goal. holding h goal.holds) h.goals) (omega (arith, counted, length_map {X = GoalData} {Y = StateSet} (λ goal. holding h goal.holds) h.goals))

  no_assumptions : vec_len gm.assume ≡ 0 → map (λ goal. holding h goal.holds) h.assume ≡ []
  no_assumptions e =
      let counted : length h.assume ≡ length gm.assume.items = ap (λ (k : GameData). length k.assume) (sym is) ∙ length_map goal_data gm.assume.items in
      nil_from_length (map (λ goal. holding h goal.holds) h.assume) (omega (arith, counted, length_map {X = GoalData} {Y = StateSet} (λ goal. holding h goal.holds) h.assume))

  pub goal_alone : (vec_len gm.goals == 0) ≡ true → (j : ℕ) → j < length (goal_sets h) → get_or (goal_sets h) j no_states ≡ all_states h
  goal_alone e j before = alone h (map (λ goal. holding h goal.holds) h.goals) (no_goals (is_zero (vec_len gm.goals) e)) j before

  pub assumption_alone : (vec_len gm.assume == 0) ≡ true → (i : ℕ) → i < length (assumption_sets h) → get_or (assumption_sets h) i no_states ≡ all_states h
  assumption_alone e i before = alone h (map (λ goal. holding h goal.holds) h.assume) (no_assumptions (is_zero (vec_len gm.assume) e)) i before

  pub goal_there : (vec_len gm.goals == 0) ≡ false → (j : ℕ) → j < length (goal_sets h) → (j < length h.goals) × (states_holding h (Guarantee j) ≡ get_or (goal_sets h) j no_states)
  goal_there e j before =
      let counted : length h.goals ≡ length gm.goals.items = ap (λ (k : GameData). length k.goals) (sym is) ∙ length_map goal_data gm.goals.items in
      let mapped : length (map (λ goal. holding h goal.holds) h.goals) ≡ length h.goals = length_map (λ goal. holding h goal.holds) h.goals in
      let positive = not_zero (vec_len gm.goals) e in
      let sets_are : goal_sets h ≡ map (λ goal. holding h goal.holds) h.goals = there h (map (λ goal. holding h goal.holds) h.goals) (omega (arith, counted, mapped, positive)) in
      let within : j < length h.goals = omega (arith, before, mapped, ap (λ (ss : List StateSet). length ss) sets_are) in
      let found = some_at (λ goal. holding h goal.holds) no_states h.goals j within in
      (within, rw (found.1.0) (sym (ap (λ ss. get_or ss j no_states) sets_are ∙ found.1.1)))

  pub assumption_there : (vec_len gm.assume == 0) ≡ false → (i : ℕ) → i < length (assumption_sets h) → (i < length h.assume) × (states_holding h (Assumption i) ≡ get_or (assumption_sets h) i no_states)
  assumption_there e i before =
      let counted : length h.assume ≡ length gm.assume.items = ap (λ (k : GameData). length k.assume) (sym is) ∙ length_map goal_data gm.assume.items in
      let mapped : length (map (λ goal. holding h goal.holds) h.assume) ≡ length h.assume = length_map (λ goal. holding h goal.holds) h.assume in
      let positive = not_zero (vec_len gm.assume) e in
      let sets_are : assumption_sets h ≡ map (λ goal. holding h goal.holds) h.assume = there h (map (λ goal. holding h goal.holds) h.assume) (omega (arith, counted, mapped, positive)) in
      let within : i < length h.assume = omega (arith, before, mapped, ap (λ (ss : List StateSet). length ss) sets_are) in
      let found = some_at (λ goal. holding h goal.holds) no_states h.assume i within in
      (within, rw (found.1.0) (sym (ap (λ ss. get_or ss i no_states) sets_are ∙ found.1.1)))

-- where there is no assumption, it never lapses
rest_of_all : (h : GameData) → rest h (all_states h) ≡ no_states
rest_of_all h = λ k s. never (is_state h s) k
  where
    never : (b : Bool) → (b && not b) ≡ false
    never true = refl
    never false = refl

pub lapse_alone : (h : GameData) (i : ℕ) → i < length (wanted h Lapses) → get_or (assumption_sets h) i no_states ≡ all_states h → get_or (wanted h Lapses) i no_states ≡ no_states
lapse_alone h i before e = get_or-map (rest h) (assumption_sets h) i no_states no_states (omega (arith, before, length_map (rest h) (assumption_sets h))) ∙ (ap (rest h) e ∙ rest_of_all h)

pub lapse_counted : (h : GameData) (i : ℕ) → i < length (wanted h Lapses) → i < length (assumption_sets h)
lapse_counted h i before = omega (arith, before, length_map (rest h) (assumption_sets h))

pub lapse_there : (h : GameData) (i : ℕ) (s : StateSet) → i < length (wanted h Lapses) → s ≡ get_or (assumption_sets h) i no_states → rest h s ≡ get_or (wanted h Lapses) i no_states
lapse_there h i s before e = ap (rest h) e ∙ sym (get_or-map (rest h) (assumption_sets h) i no_states no_states (omega (arith, before, length_map (rest h) (assumption_sets h))))

-- all numbered sets are the list
pub listed : (ss : List StateSet) (n : ℕ) → n ≡ length ss → map (λ i. get_or ss i no_states) (below n) ≡ ss
listed ss n e =
    ext_get_or no_states (map (λ i. get_or ss i no_states) (below n)) ss (counted ∙ e) (λ i before. get_or-map_below (λ i. get_or ss i no_states) n i (omega (arith, before, counted)))
  where
    counted : length (map (λ i. get_or ss i no_states) (below n)) ≡ n
    counted = length_map (λ i. get_or ss i no_states) (below n) ∙ length_below n

module _ {R M : Type 0} where
  -- a region was made above one that is spent
  pub one_above : (k k1 k2 k3 : Kept R M) (a r : R) (s t : StateSet) → IsExact k2 → MakesRegion k k1 a s → MakesRegion k1 k2 r t → Spends k2 k3 (Region a) → MakesRegion k k3 r t
  one_above k k1 k2 k3 a r s t exact made above gone =
      let left = spent k2 k3 a s exact gone (λ w. omega (arith, above.held w, made.held w)) in
      record { held = λ w. omega (arith, left w, above.held w, made.held w); jam = gone.jam ∙ above.jam }

  -- one more region was made, which stands first
  pub one_before : (k k1 k2 : Kept R M) (rs : List R) (ss : List StateSet) (r : R) (s : StateSet) → MakesRegions k k1 rs ss → MakesRegion k1 k2 r s → MakesRegions k k2 (r ∷ rs) (s ∷ ss)
  one_before k k1 k2 rs ss r s made more =
      record { held = λ w. omega (arith, made.held w, more.held w, weight_as-more r rs s ss w); counted = (let e = made.counted in omega arith); jam = more.jam }

  -- ---- two lists, one after the other

  pub front_together : (k : Kept R M) (rs qs : List R) → HasTogether k (rs ++ qs) → HasTogether k rs
  front_together k rs qs held w = omega (arith, held w, weight_as_map-append k.set rs qs w)

  pub back_together : (k k1 : Kept R M) (rs qs : List R) → IsExact k1 → HasTogether k (rs ++ qs) → SpendsAll k k1 rs → HasTogether k1 qs
  back_together k k1 rs qs exact held gone =
      together_as k1 qs (map k.set qs) exact (sym (length_map k.set qs)) (λ w. omega (arith, held w, gone.held w, weight_as_map-append k.set rs qs w))

  pub front_and_back : (k k1 last : Kept R M) (rs qs : List R) → IsExact k1 → HasTogether k (rs ++ qs) → SpendsAll k k1 rs → SpendsAll k1 last qs → SpendsAll k last (rs ++ qs)
  front_and_back k k1 last rs qs exact held gone others =
      let left = spent_as k1 last qs (map k.set qs) exact (sym (length_map k.set qs)) (λ w. omega (arith, held w, gone.held w, weight_as_map-append k.set rs qs w)) others in
      record { held = λ w. omega (arith, left w, gone.held w, weight_as_map-append k.set rs qs w); jam = others.jam ∙ gone.jam }

  -- regions were made above others that are spent
  pub all_above : (k k1 k2 k3 : Kept R M) (as_given : List R) (given : List StateSet) (rs : List R) (ss : List StateSet) → IsExact k2 → MakesRegions k k1 as_given given → MakesRegions k1 k2 rs ss → SpendsAll k2 k3 as_given → MakesRegions k k3 rs ss
  all_above k k1 k2 k3 as_given given rs ss exact made above gone =
      let left = spent_as k2 k3 as_given given exact made.counted (λ w. omega (arith, above.held w, made.held w)) gone in
      record { held = λ w. omega (arith, left w, above.held w, made.held w); counted = above.counted; jam = gone.jam ∙ above.jam }

module _ {G R M : Type 0} where
  -- what was made is given
  pub is_given : (k new : Kept R M) (given : Given G R M) → IsExact new → IsSameGame k new → MakesRegions k new (given_regions given) (given_sets k.game) → length given.goals.items ≡ length (wanted k.game Goals) → IsGiven new given
  is_given k new given exact same made counted =
      let are = as_held new (given_regions given) (given_sets k.game) exact made.counted (λ w. omega (arith, made.held w)) in
      let each = each_append new given.goals.items (given.none ∷ given.lapses.items) (held_each new (given_regions given) (given_sets k.game) made.counted (λ w. omega (arith, made.held w))) in
      let split = split_same (map new.set given.goals.items) (new.set given.none ∷ map new.set given.lapses.items) (wanted k.game Goals) (no_states ∷ wanted k.game Lapses) (length_map new.set given.goals.items ∙ counted)
      (sym (map-append new.set given.goals.items (given.none ∷ given.lapses.items)) ∙ are) in
      let empty : new.set given.none ≡ no_states = cc (split.1) in
      let lapses : map new.set given.lapses.items ≡ wanted k.game Lapses = cc (split.1) in
      record {
        none = each.1.0;
        empty = empty;
        goals = each.0;
        goal_sets = split.0 ∙ ap goal_sets (sym same.game);
        lapses = each.1.1;
        lapse_sets = lapses ∙ ap (λ h. map (rest h) (assumption_sets h)) (sym same.game);
      }
