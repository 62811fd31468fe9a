use Rattle.std.proofs.Common.{refl, ◌+◌, ◌*◌}
use Rattle.bdd_ops.proofs.StepLemmas.{remembered, both_is_right}
use Rattle.bdd_ops.proofs.work.Work.remember_related.Goals as goal

pub invariant_of-self : goal.invariant_of-self
invariant_of-self c = (
  remembered _ _ _ (record { op = 10 + 4 * c.args.list; a = c.args.a.0; b = c.args.b.0; c = c.fixed-none.result.0; r = c.args.r.0 }) c.self.view_is c.self.invariant.0 c.remember.ensures.table.0 refl c.remember.ensures.others
      (both_is_right _ c.args.list _ _ _ _ c.requires.list c.requires.related.function) c.remember.ensures.sound,
  c.self.invariant.1,
)
