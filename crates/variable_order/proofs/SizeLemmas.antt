-- Copies under an order, counted.
use Rattle.std.proofs.Common.{◌≡◌, ℕ, ◌<◌, List, [], ◌∷◌, map, refl, sym, ◌∙◌, ap, subst, arith}
use Rattle.std.specs.List.{All}
use Rattle.spec_model.specs.Diagrams.{Diagram, Function, value, shifted}
use Rattle.bdd_store.specs.State.{State, IsRoot}
use Rattle.bdd_reorder.specs.Keeping.{times_in, AreRoots}
use Rattle.bdd_reorder.proofs.KeepingLemmas.{one_itself}
use Rattle.bdd_ops.specs.Contents.{Contents, function_at}
use Rattle.bdd_reorder.specs.Making.{functions_at, diagrams_at}
use Rattle.bdd_reorder.specs.Counting.{HaveParts}
use Rattle.bdd_reorder.specs.Copying.{FitsLevels}
use Rattle.variable_order.specs.Levels.{levels_under, IsOrder}
use Rattle.variable_order.specs.Sizes.{HasNodes}
use Rattle.variable_order.specs.Stores.{FitsSlots}
use Rattle.variable_order.proofs.LevelLemmas.{length_under, below_under, same_total}

-- the list of levels fits both stores
pub fits_levels : (from to : Contents) (widths order : List ℕ) → FitsSlots from to widths → IsOrder widths order → FitsLevels from to (levels_under widths order)
fits_levels from to widths order fits is = record {
  each = length_under widths order ∙ sym fits.from_levels;
  below = subst (λ (n : ℕ). All (λ level. level < n) (levels_under widths order)) (same_total widths order is ∙ sym fits.to_levels) (below_under widths order is);
}

pub values_at : (c : Contents) (roots : List ℕ) → map value (diagrams_at c roots) ≡ functions_at c roots
values_at c [] = refl
values_at c (r ∷ roots) = ap (λ (fs : List Function). function_at c r ∷ fs) (values_at c roots)

rearranged_at : (c : Contents) (levels roots : List ℕ) → map (λ (d : Diagram). shifted levels (value d)) (diagrams_at c roots) ≡ map (shifted levels) (functions_at c roots)
rearranged_at c levels [] = refl
rearranged_at c levels (r ∷ roots) = ap (λ (fs : List Function). shifted levels (function_at c r) ∷ fs) (rearranged_at c levels roots)

-- what is counted of the copies is what is asked
pub counted_copies : (from to : Contents) (widths order roots copies : List ℕ) (n : ℕ) → functions_at to copies ≡ map (λ (d : Diagram). shifted (levels_under widths order) (value d)) (diagrams_at from roots) → HaveParts (diagrams_at to copies) n → HasNodes widths (functions_at from roots) order n
counted_copies from to widths order roots copies n copied have = record {
  ds = diagrams_at to copies;
  are = values_at to copies ∙ (copied ∙ rearranged_at from (levels_under widths order) roots);
  have = have;
}

-- roots of a list that are counted are kept
pub roots_kept : (s : State) (roots : List ℕ) → ((n : ℕ) → 0 < times_in n roots → IsRoot s n) → AreRoots s roots
roots_kept s [] kept = tt
roots_kept s (r ∷ roots) kept = (kept r (let one = one_itself r in omega (arith, one)), roots_kept s roots (λ n some. kept n (omega (arith, some))))
