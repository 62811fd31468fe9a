-- What regions are held as, which stood for sets when they were given or made.
use Rattle.std.proofs.Common.{◌≡◌, ℕ, zero, suc, ◌≤◌, List, [], ◌∷◌, ◌++◌, map, length, get_or, ap, sym, ◌∙◌, refl, subst, arith}
use Rattle.std.proofs.lemmas.List.{map-append}
use Rattle.spec_model.specs.Steps.{below}
use Rattle.spec_model.specs.Sets.{StateSet, no_states}
use Rattle.regions.specs.Kept.{Kept, Item, Region, Meaning, States, weight, IsHeldAs}
use Rattle.regions.proofs.Holding.{held_as}
use Rattle.gr1_sys.specs.Held.{HasEach}
use Rattle.strategy_parts.specs.Owned.{RegionsAre, weight_as, region_items}
use Rattle.strategy_parts.proofs.Owning.{weight_as-more}

-- the numbers from 0 on, the first apart
map_below-suc : (f : ℕ → StateSet) (n : ℕ) → map f (below (suc n)) ≡ f 0 ∷ map (λ i. f (suc i)) (below n)
map_below-suc f zero = refl
map_below-suc f (suc n) =
    map-append f (below (suc n)) (suc n ∷ []) ∙ (ap (λ ss. ss ++ f (suc n) ∷ []) (map_below-suc f n) ∙ ap (λ ss. f 0 ∷ ss) (sym (map-append (λ i. f (suc i)) (below n) (n ∷ []))))

module _ {R M : Type 0} where
  -- the regions stand for the sets, one after the other
  abbrev pub AreSets : Kept R M → List R → (ℕ → StateSet) → Type 0
  AreSets k [] sets = Unit {0}
  AreSets k (r ∷ rs) sets = (k.set r ≡ sets 0) × AreSets k rs (λ i. sets (suc i))

  pub are_sets : (k : Kept R M) (rs : List R) (sets : ℕ → StateSet) (n : ℕ) → map k.set rs ≡ map sets (below n) → AreSets k rs sets
  are_sets k [] sets n e = tt
  are_sets k (r ∷ rs) sets zero e = absurd (let none = ap (λ (ss : List StateSet). length ss) e in omega (arith, none))
  are_sets k (r ∷ rs) sets (suc n) e =
      let both : k.set r ∷ map k.set rs ≡ sets 0 ∷ map (λ i. sets (suc i)) (below n) = e ∙ map_below-suc sets n in
      let first : k.set r ≡ sets 0 = cc (both) in
      let others : map k.set rs ≡ map (λ i. sets (suc i)) (below n) = cc (both) in
      (first, are_sets k rs (λ i. sets (suc i)) n others)

  module _ (old new : Kept R M) (more : (w : Item R M → Meaning → ℕ) → weight old w ≤ weight new w) where
    pub regions_are : (rs : List R) (sets : ℕ → StateSet) → HasEach old rs → AreSets old rs sets → RegionsAre new rs sets
    regions_are [] sets each are = tt
    regions_are (r ∷ rs) sets each are = (
      subst (λ (s : StateSet). IsHeldAs new (Region r) (States s)) are.0 (λ w. omega (arith, held_as old (Region r) each.0 w, more w)),
      regions_are rs (λ i. sets (suc i)) each.1 are.1,
    )

  pub regions_held : (new : Kept R M) (rs : List R) (ss : List StateSet) (sets : ℕ → StateSet) → length rs ≡ length ss → ((w : Item R M → Meaning → ℕ) → weight_as (region_items rs) (map States ss) w ≤ weight new w) → ((i : ℕ) → get_or ss i no_states ≡ sets i) → RegionsAre new rs sets
  regions_held new [] ss sets e held are = tt
  regions_held new (r ∷ rs) [] sets e held are = absurd (omega arith)
  regions_held new (r ∷ rs) (s ∷ ss) sets e held are = (
    subst (λ (t : StateSet). IsHeldAs new (Region r) (States t)) (are 0) (λ w. omega (arith, held w, weight_as-more (Region r) (region_items rs) (States s) (map States ss) w)),
    regions_held new rs ss (λ i. sets (suc i)) (omega arith) (λ w. omega (arith, held w, weight_as-more (Region r) (region_items rs) (States s) (map States ss) w)) (λ i. are (suc i)),
  )

  pub each_parts : (k : Kept R M) (rs qs : List R) → HasEach k (rs ++ qs) → HasEach k rs × HasEach k qs
  each_parts k [] qs each = (tt, each)
  each_parts k (r ∷ rs) qs each = let rest = each_parts k rs qs each.1 in ((each.0, rest.0), rest.1)
