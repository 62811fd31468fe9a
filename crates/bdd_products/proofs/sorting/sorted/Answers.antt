use Rattle.std.proofs.Common.{ap, subst}
use Rattle.std.proofs.lemmas.List.Sorted.{IsPermutation-map}
use Rattle.bdd_bits.specs.Contents.{function_at}
use Rattle.bdd_sets.specs.Members.{all_true, functions_at}
use Rattle.bdd_sets.specs.Lists.{MakesList}
use Rattle.bdd_products.specs.Products.{members_in}
use Rattle.bdd_products.proofs.KeepingLemmas.{list_lines}
use Rattle.bdd_products.proofs.SortLemmas.{all_true-permutation}
use Rattle.bdd_products.proofs.sorting.sorted.Goals as goal

pub returns : goal.returns
returns c =
    let old = c.args.diagrams.now in
    let ms = c.args.members.now in
    let moved = members_in ms c.in_ok-places.places.items in
    let list = subst (λ ps. MakesList old c.picked.new.diagrams c.picked.result (functions_at old (members_in ms ps))) c.deref.ensures.value c.picked.ensures in
    let same = all_true-permutation (functions_at old ms) (functions_at old moved) (IsPermutation-map (function_at old) ms moved c.in_ok-places.ensures.places) in
    list_lines old c.picked.new.diagrams c.picked.result (functions_at old moved) (all_true (functions_at old ms)) list same
