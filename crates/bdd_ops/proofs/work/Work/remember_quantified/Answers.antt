use Rattle.std.proofs.Common.{refl}
use Rattle.bdd_ops.proofs.StepLemmas.{remembered, over_is_right}
use Rattle.bdd_ops.proofs.work.Work.remember_quantified.Goals as goal

pub invariant_of-self : goal.invariant_of-self
invariant_of-self c = (
  remembered _ _ _ (record { op = c.quantifier.result; a = c.args.a.0; b = c.fixed-none.result.0; c = c.fixed-none.result.0; r = c.args.r.0 }) c.self.view_is c.self.invariant.0 c.remember.ensures.table.0 refl c.remember.ensures.others
      (over_is_right _ c.args.all c.args.list _ _ _ _ _ c.requires.list c.quantifier.ensures c.requires.quantified.function) c.remember.ensures.sound,
  c.self.invariant.1,
)
