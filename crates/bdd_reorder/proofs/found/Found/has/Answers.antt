use Rattle.std.proofs.Common.{◌≤◌, length, arith, subst, List, ℕ}
use Rattle.std.proofs.lemmas.Bool.Decides.{nat_tests}
use Rattle.bdd_reorder.specs.Searching.{AreMarked}
use Rattle.bdd_reorder.proofs.FoundLemmas.{not_past}
use Rattle.bdd_reorder.proofs.found.Found.has.Goals as goal

pub returns-else-place-len : goal.returns-else-place-len
returns-else-place-len c =
    let seen = c.self.inside.seen in
    let past : length seen.items ≤ c.args.number = omega (arith, seen.ok, c.if-place-len.false, c.len.ensures) in
    let marked : AreMarked seen.items c.args.self.now = subst (λ (ns : List ℕ). AreMarked seen.items ns) c.self.view_is c.self.invariant in
    (λ below. (let none : ⊥ = grind (arith, c.if-place-len.false, below, nat_tests) in absurd none), λ there. not_past seen.items c.args.self.now c.args.number marked past there)
