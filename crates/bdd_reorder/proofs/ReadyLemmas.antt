-- What copying asks, after a step.
use Rattle.std.proofs.Common.{◌≡◌, ℕ, ◌<◌, List, sym, ◌∙◌, ap, subst}
use Rattle.std.specs.List.{All, AllByRecursion}
use Rattle.spec_model.specs.Diagrams.{value}
use Rattle.node_table.specs.Table.{Table, diagram_at}
use Rattle.bdd_store.specs.State.{IsRoot}
use Rattle.bdd_ops.specs.Contents.{Contents}
use Rattle.bdd_reorder.specs.declared.memo.Copied.{Copied}
use Rattle.bdd_reorder.specs.Copying.{FitsLevels, IsCopy, CanCopy}

pub fits_after : (from from' to to' : Contents) (levels : List ℕ) → from'.state.table ≡ from.state.table → to'.state.table.levels ≡ to.state.table.levels → FitsLevels from to levels → FitsLevels from' to' levels
fits_after from from' to to' levels table same fits = record {
  each = fits.each ∙ ap (λ (t : Table). t.levels) (sym table);
  below = subst (λ (n : ℕ). All (λ level. level < n) levels) (sym same) fits.below;
}

-- where the copied store's table stays, and its roots stay roots, and all that is remembered is right
pub ready_after : (from from' to to' : Contents) (levels : List ℕ) (truth : ℕ) (xs ys : List Copied) → from'.state.table ≡ from.state.table → ((n : ℕ) → IsRoot from.state n → IsRoot from'.state n) → to'.state.table.levels ≡ to.state.table.levels →
    AllByRecursion (IsCopy from.state.table to' levels) ys → CanCopy from to levels truth xs → CanCopy from' to' levels truth ys
ready_after from from' to to' levels truth xs ys table roots same copies ready = record {
  fits = fits_after from from' to to' levels table same ready.fits;
  truth_kept = roots truth ready.truth_kept;
  truth_is = ap (λ (t : Table). value (diagram_at t truth)) table ∙ ready.truth_is;
  copies = subst (λ (t : Table). AllByRecursion (IsCopy t to' levels) ys) (sym table) copies;
}
