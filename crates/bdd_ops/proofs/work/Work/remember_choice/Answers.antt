use Rattle.std.proofs.Common.{refl}
use Rattle.bdd_ops.proofs.StepLemmas.{remembered, choice_is_right}
use Rattle.bdd_ops.proofs.work.Work.remember_choice.Goals as goal

pub invariant_of-self : goal.invariant_of-self
invariant_of-self c =
    (remembered _ _ _ (record { op = 1; a = c.args.a.0; b = c.args.b.0; c = c.args.c.0; r = c.args.r.0 }) c.self.view_is c.self.invariant.0 c.remember.ensures.table.0 refl c.remember.ensures.others (choice_is_right _ _ _ _ _ c.requires.choice.function) c.remember.ensures.sound, c.self.invariant.1)
