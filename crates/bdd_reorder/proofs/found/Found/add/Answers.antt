use Rattle.std.proofs.Common.{◌<◌, ◌∙◌, ◌++◌, ◌∷◌, [], ap, length, arith, sym, subst, List, ℕ, true, slice_set}
use Rattle.bdd_reorder.specs.Searching.{AreMarked}
use Rattle.bdd_reorder.proofs.FoundLemmas.{marked_more}
use Rattle.bdd_reorder.proofs.found.Found.add.Goals as goal

pub invariant_of-self-2 : goal.invariant_of-self-2
invariant_of-self-2 c =
    let seen = c.self.inside.seen in
    let wide = c.reach.new.seen in
    let within : c.args.number < length wide.items = omega (arith, wide.ok, c.in_ok-reach.ensures.reached) in
    let pushed = c.push_reserved.ensures.items ∙ ap (λ (ns : List ℕ). ns ++ c.args.number ∷ []) c.in_ok-reserve.ensures.items in
    subst (λ (ns : List ℕ). AreMarked (slice_set wide.items c.args.number true) ns) (sym pushed) (marked_more seen.items wide.items c.self.inside.numbers.items c.args.number c.self.invariant c.reach.ensures.same within)
