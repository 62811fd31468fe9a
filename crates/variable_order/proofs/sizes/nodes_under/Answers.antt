use Rattle.std.proofs.Common.{◌≡◌, ◌∙◌, ℕ, List, map, sym, subst, arith}
use Rattle.spec_model.specs.Diagrams.{Diagram, value, shifted}
use Rattle.bdd_reorder.specs.Making.{functions_at, diagrams_at}
use Rattle.bdd_reorder.specs.Keeping.{AreRoots}
use Rattle.bdd_reorder.specs.Counting.{HaveParts}
use Rattle.bdd_reorder.specs.Copying.{FitsLevels}
use Rattle.variable_order.proofs.LevelLemmas.{same_total}
use Rattle.variable_order.proofs.SizeLemmas.{fits_levels, counted_copies, roots_kept}
use Rattle.variable_order.proofs.sizes.nodes_under.Goals as goal

pub levels_under-requires-clause-few : goal.levels_under-requires-clause-few
levels_under-requires-clause-few c = omega (arith, same_total c.args.widths.now c.args.order.now c.requires.order, c.requires.ready.1.few)

pub copy-requires-clause-fits : goal.copy-requires-clause-fits
copy-requires-clause-fits c =
    subst (λ (levels : List ℕ). FitsLevels c.args.from.now c.args.to.now levels) (sym (c.deref.ensures.value ∙ c.in_ok-levels.ensures)) (fits_levels c.args.from.now c.args.to.now c.args.widths.now c.args.order.now c.requires.ready.1 c.requires.order)

pub count-parts-requires : goal.count-parts-requires
count-parts-requires c =
    subst (AreRoots c.copy.new.to.state) (sym c.deref-2.ensures.value)
    (roots_kept c.copy.new.to.state c.in_ok-copies.copies.items (λ n some. (let more = c.in_ok-copies.ensures.copied.added n in omega (arith, more, some))))

pub returns-in-Ok-clause-counted : goal.returns-in-Ok-clause-counted
returns-in-Ok-clause-counted c =
    let from = c.args.from.now in
    let to = c.copy.new.to in
    let widths = c.args.widths.now in
    let order = c.args.order.now in
    let roots = c.args.roots.now in
    let copies = c.in_ok-copies.copies.items in
    let copied = subst (λ (levels : List ℕ). functions_at to copies ≡ map (λ (d : Diagram). shifted levels (value d)) (diagrams_at from roots)) (c.deref.ensures.value ∙ c.in_ok-levels.ensures) c.in_ok-copies.ensures.copied.meaning in
    let have = subst (λ (xs : List ℕ). HaveParts (diagrams_at to xs) c.in-Ok.parts) c.deref-2.ensures.value c.in-Ok.ensures.counted in
    counted_copies from to widths order roots copies c.in-Ok.parts copied have
