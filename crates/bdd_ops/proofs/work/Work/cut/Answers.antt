use Rattle.std.proofs.Common.{◌≡◌, ap, refl, sym, subst, ◌∙◌, take}
use Rattle.bdd_store.specs.State.{State}
use Rattle.bdd_ops.specs.Contents.{Contents}
use Rattle.bdd_ops.proofs.StepLemmas.{right_same}
use Rattle.bdd_ops.proofs.work.Work.cut.Goals as goal

pub invariant_of-self : goal.invariant_of-self
invariant_of-self c = (right_same _ _ c.self.invariant.0 (ap (λ (s : State). s.table) c.cut.ensures.cut) (ap (λ (s : State). s.answers) c.cut.ensures.cut) refl c.cut.ensures.sound, c.self.invariant.1)

pub returns-clause-same : goal.returns-clause-same
returns-clause-same c = record {
  table = ap (λ (s : State). s.table) c.cut.ensures.cut ∙ ap (λ (x : Contents). x.state.table) c.self.view_is;
  kept = ap (λ (s : State). s.kept) c.cut.ensures.cut ∙ ap (λ (x : Contents). x.state.kept) c.self.view_is;
  lists = ap (λ (x : Contents). x.lists) c.self.view_is;
}

pub returns-clause-cut : goal.returns-clause-cut
returns-clause-cut c = ap (λ (s : State). s.stack) c.cut.ensures.cut ∙ ap (λ (x : Contents). take c.args.depth x.state.stack) c.self.view_is
