use Rattle.std.proofs.Common.{◌≤◌, ◌<◌, ℕ, List, length, slice_index, IsPermutation, ◌∙◌, subst, arith}
use Rattle.std.proofs.lemmas.List.{take_all}
use Rattle.std.proofs.lemmas.List.Sorted.{IsPermutation-map, All-permutation}
use Rattle.bdd_products.specs.Products.{members_in}
use Rattle.bdd_products.proofs.sorting.places_of.Goals as goal

pub returns-clause-places : goal.returns-clause-places
returns-clause-places c =
    let ms = c.args.members.now in
    let sorted = c.sort.new.self.items in
    let past : length ms ≤ c.loop-place.place = omega (arith, c.loop-place-test.false) in
    subst (λ (ns : List ℕ). IsPermutation ns (members_in ms sorted)) (c.loop-place.invariant.places ∙ take_all c.loop-place.place ms past)
    (IsPermutation-map (λ (p : ℕ × ℕ). slice_index ms p.1) c.loop-place.places.items sorted c.sort.ensures.permutation)

pub returns-clause-within : goal.returns-clause-within
returns-clause-within c =
    All-permutation (λ (p : ℕ × ℕ). p.1 < length c.args.members.now) c.loop-place.places.items c.sort.new.self.items c.sort.ensures.permutation
    (λ k d below. (let under = c.loop-place.invariant.below k d below in omega (arith, under, c.loop-place.auto.place-end)))
