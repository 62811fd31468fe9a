-- The sets that are made first.
use Rattle.std.proofs.Common.{◌≡◌, ℕ, ◌<◌, ◌≤◌, Bool, true, false, not, ◌&&◌, ◌∷◌, map, length, get_or, ap, sym, ◌∙◌, refl, arith}
use Rattle.std.proofs.lemmas.List.{get_or-map, map-append}
use Rattle.spec_model.specs.Games.{GameData}
use Rattle.spec_model.specs.Steps.{is_state}
use Rattle.spec_model.specs.Sets.{StateSet, no_states, all_states, rest}
use Rattle.regions.specs.Kept.{Kept, Item, Meaning, weight, IsExact}
use Rattle.gr1_law.specs.Layers.{goal_sets}
use Rattle.gr1_sys.specs.Held.{MakesRegions}
use Rattle.gr1_sys.proofs.Lists.{length_map, as_held, held_each, each_append, region_stays, set_kept, each_stays}
use Rattle.gr1_sys.proofs.Turned.{split_same}
use Rattle.gr1_env.specs.declared.givens.Given.{Given}
use Rattle.gr1_env.specs.declared.givens.EnvSets.TheVariants.{Misses, Assumptions}
use Rattle.gr1_env.specs.Givens.{wanted, given_regions, given_sets}
use Rattle.gr1_env.specs.Held.{IsGiven}

-- where there is no goal, none is missed
rest_of_all : (h : GameData) → rest h (all_states h) ≡ no_states
rest_of_all h = λ k s. never (is_state h s) k
  where
    never : (b : Bool) → (b && not b) ≡ false
    never true = refl
    never false = refl

pub miss_counted : (h : GameData) (j : ℕ) → j < length (wanted h Misses) → j < length (goal_sets h)
miss_counted h j before = omega (arith, before, length_map (rest h) (goal_sets h))

pub miss_alone : (h : GameData) (j : ℕ) → j < length (wanted h Misses) → get_or (goal_sets h) j no_states ≡ all_states h → get_or (wanted h Misses) j no_states ≡ no_states
miss_alone h j before e = get_or-map (rest h) (goal_sets h) j no_states no_states (miss_counted h j before) ∙ (ap (rest h) e ∙ rest_of_all h)

pub miss_there : (h : GameData) (j : ℕ) (s : StateSet) → j < length (wanted h Misses) → s ≡ get_or (goal_sets h) j no_states → rest h s ≡ get_or (wanted h Misses) j no_states
miss_there h j s before e = ap (rest h) e ∙ sym (get_or-map (rest h) (goal_sets h) j no_states no_states (miss_counted h j before))

module _ {G R M : Type 0} where
  -- what was made is given
  pub record GivenAs (k : Kept R M) (given : Given G R M) (g : GameData) : Type 0 where
    pub is : IsGiven k given
    pub misses : map k.set given.misses.items ≡ wanted g Misses
    pub asms : map k.set given.asms.items ≡ wanted g Assumptions

  pub given_as : (k new : Kept R M) (given : Given G R M) → IsExact new → MakesRegions k new (given_regions given) (given_sets k.game) → length given.misses.items ≡ length (wanted k.game Misses) → GivenAs new given k.game
  given_as k new given exact made counted =
      let are = as_held new (given_regions given) (given_sets k.game) exact made.counted (λ w. omega (arith, made.held w)) in
      let each = each_append new given.misses.items (given.none ∷ given.asms.items) (held_each new (given_regions given) (given_sets k.game) made.counted (λ w. omega (arith, made.held w))) in
      let split = split_same (map new.set given.misses.items) (new.set given.none ∷ map new.set given.asms.items) (wanted k.game Misses) (no_states ∷ wanted k.game Assumptions) (length_map new.set given.misses.items ∙ counted)
      (sym (map-append new.set given.misses.items (given.none ∷ given.asms.items)) ∙ are) in
      let empty : new.set given.none ≡ no_states = cc (split.1) in
      let asms : map new.set given.asms.items ≡ wanted k.game Assumptions = cc (split.1) in
      record { is = record { none = each.1.0; empty = empty; misses = each.0; asms = each.1.1 }; misses = split.0; asms = asms }

  -- what is given stays
  pub given_stays : (old new : Kept R M) (given : Given G R M) → IsExact new → ((w : Item R M → Meaning → ℕ) → weight old w ≤ weight new w) → IsGiven old given → IsGiven new given
  given_stays old new given exact more is_given =
      record {
        none = region_stays old new given.none more is_given.none;
        empty = set_kept old new given.none exact more is_given.none ∙ is_given.empty;
        misses = each_stays old new given.misses.items more is_given.misses;
        asms = each_stays old new given.asms.items more is_given.asms;
      }
