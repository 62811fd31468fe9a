use Rattle.std.proofs.Common.{◌<◌, ap, arith, vec_len, length, is_ok}
use Rattle.std.proofs.lemmas.List.{length-map}
use Rattle.bdd_ops.specs.Contents.{Contents}
use Rattle.bdd_ops.proofs.StepLemmas.{right_pushed, pushed_small}
use Rattle.bdd_ops.proofs.work.Work.push_list.Goals as goal

pub invariant_of-self : goal.invariant_of-self
invariant_of-self c =
    let view = ap (λ (x : Contents). length x.lists) c.self.view_is in
    let small : vec_len c.self.inside.lists < 256 = omega (arith, view, length-map c.self.inside.lists.items (λ l. l.levels.items)) in
    (right_pushed _ _ _ _ (is_ok c.push.result) c.push.ensures.items c.self.invariant.0, pushed_small _ _ (is_ok c.push.result) c.push.ensures.len small)
