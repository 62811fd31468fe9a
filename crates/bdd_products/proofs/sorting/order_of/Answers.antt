use Rattle.std.proofs.Common.{◌<◌, ℕ, List, length, reverse, slice_index, IsPermutation, sym, subst}
use Rattle.std.proofs.lemmas.List.Sorted.{IsPermutation-map, IsPermutation-reverse, IsPermutation-trans, All-permutation}
use Rattle.bdd_products.specs.Products.{members_in}
use Rattle.bdd_products.proofs.sorting.order_of.Goals as goal

pub returns-in-LastOfDeepest-clause-places : goal.returns-in-LastOfDeepest-clause-places
returns-in-LastOfDeepest-clause-places c =
    let ms = c.args.members.now in
    let ps = c.in_ok-places.places.items in
    let more = IsPermutation-map (λ (p : ℕ × ℕ). slice_index ms p.1) ps (reverse ps) (IsPermutation-reverse ps) in
    subst (λ (xs : List (ℕ × ℕ)). IsPermutation ms (members_in ms xs)) (sym c.turned.ensures) (IsPermutation-trans ms (members_in ms ps) (members_in ms (reverse ps)) c.in_ok-places.ensures.places more)

pub returns-in-LastOfDeepest-clause-within : goal.returns-in-LastOfDeepest-clause-within
returns-in-LastOfDeepest-clause-within c =
    let ps = c.in_ok-places.places.items in
    All-permutation (λ (p : ℕ × ℕ). p.1 < length c.args.members.now) ps c.turned.result.items (subst (IsPermutation ps) (sym c.turned.ensures) (IsPermutation-reverse ps)) c.in_ok-places.ensures.within
