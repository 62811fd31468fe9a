use Rattle.std.proofs.Common.{ℕ, ◌≡◌, ◌++◌, [], ◌∷◌, Ok, List, take, get_or, slice_index, ap, sym, ◌∙◌, subst}
use Rattle.std.proofs.lemmas.List.{get_or_default}
use Rattle.spec_model.specs.Diagrams.{Function}
use Rattle.bdd_store.specs.State.{IsRoot}
use Rattle.bdd_bits.specs.Contents.{function_at}
use Rattle.bdd_sets.specs.Members.{functions_at}
use Rattle.bdd_sets.specs.Lists.{MakesList}
use Rattle.bdd_sets.proofs.ListLemmas.{list_refused_by}
use Rattle.bdd_sets.proofs.SpentLemmas.{item_is, function_kept}
use Rattle.bdd_products.specs.Products.{members_in}
use Rattle.bdd_products.proofs.SortLemmas.{members_more}
use Rattle.bdd_products.proofs.sorting.picked.Goals as goal

pub returns-in_err-list : goal.returns-in_err-list
returns-in_err-list c =
    let first = c.args.diagrams.now in
    let l = c.loop-place.diagrams in
    let so_far = functions_at first (members_in c.args.members.now (take c.loop-place.place-index c.args.places.now)) in
    let f = function_at l c.index-members-place.result in
    list_refused_by first c.push_made.new.diagrams c.from_residual.result c.in_err-list.field-0.0 (so_far ++ f ∷ []) _ c.from_residual.ensures.1 (c.in_err-list.ensures.made first l so_far f c.loop-place.invariant c.keep-again.ensures.made)

pub loop-place-preserved : goal.loop-place-preserved
loop-place-preserved c =
    let first = c.args.diagrams.now in
    let l = c.loop-place.diagrams in
    let so_far = functions_at first (members_in c.args.members.now (take c.loop-place.place-index c.args.places.now)) in
    let f = function_at l c.index-members-place.result in
    let more = c.in_ok-list.ensures.made first l so_far f c.loop-place.invariant c.keep-again.ensures.made in
    let ms = c.args.members.now in
    let ps = c.args.places.now in
    let i = c.loop-place.place-index in
    let p : ℕ × ℕ = get_or ps i (0, 0) in
    let m = c.index-members-place.result in
    let below = c.requires.places i (0, 0) c.loop-place-test.true in
    let item = item_is ms p.1 m below c.index-members-place.is in
    let root : IsRoot first.state m = subst (λ (n : ℕ). IsRoot first.state n) item (c.requires.members p.1 below) in
    let same : f ≡ function_at first (slice_index ms p.1) = function_kept first l c.loop-place.invariant.keeps m root ∙ ap (function_at first) (sym item) in
    subst (λ (gs : List Function). MakesList first c.push_made.new.diagrams (Ok c.in_ok-list.list) gs) (ap (λ (g : Function). so_far ++ g ∷ []) same ∙ members_more first ms ps i p c.loop-place-test.true (get_or_default ps i (0, 0) p c.loop-place-test.true)) more
