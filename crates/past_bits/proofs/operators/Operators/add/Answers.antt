use Rattle.std.proofs.Common.{◌≡◌, ◌≤◌, ◌<◌, ◌+◌, ◌^◌, List, length, map, refl, sym, subst, arith}
use Rattle.spec_model.specs.Syntax.{Formula, PastOf}
use Rattle.game_values.specs.Safety.{formulas_in}
use Rattle.past_bits.specs.declared.operators.Operator.{Operator}
use Rattle.past_bits.specs.Entries.{place_of}
use Rattle.past_bits.specs.Bits.{tree_of, AreNumbered}
use Rattle.past_bits.proofs.Places.{numbered_more, place_small}
use Rattle.past_bits.proofs.operators.Operators.add.Goals as goal

pub invariant_of-self-2 : goal.invariant_of-self-2
invariant_of-self-2 c =
    let os : List Operator = c.self.inside.found.items in
    let e : Formula = PastOf c.args.op (formulas_in c.args.operands.now) in
    let found = c.place-place.ensures in
    let counted = c.len.ensures in
    let other = c.if-place-len.false in
    let fits = c.if-place.false in
    let past : length os ≤ place_of (map tree_of os) e = grind arith in
    let small = place_small os e in
    let few : length os + 1 < 2 ^ 32 = grind arith in
    subst (λ all. AreNumbered all c.insert.new.self) (sym c.in_ok-push.ensures.items)
    (numbered_more os c.self.inside.places c.insert.new.self e _ c.digest.result c.place-place.result c.self.invariant past refl few c.digest.ensures c.in_ok-insert.ensures.updates)
