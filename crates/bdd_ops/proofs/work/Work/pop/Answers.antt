use Rattle.std.proofs.Common.{◌≡◌, ap, refl, sym, subst, ◌∙◌}
use Rattle.bdd_store.specs.State.{State}
use Rattle.bdd_ops.specs.Contents.{Contents}
use Rattle.bdd_ops.proofs.StepLemmas.{right_same}
use Rattle.bdd_ops.proofs.StackLemmas.{popped_rest}
use Rattle.bdd_ops.proofs.work.Work.pop.Goals as goal

pub invariant_of-self : goal.invariant_of-self
invariant_of-self c = (right_same _ _ c.self.invariant.0 (ap (λ (s : State). s.table) c.pop.ensures.rest) (ap (λ (s : State). s.answers) c.pop.ensures.rest) refl c.pop.ensures.sound, c.self.invariant.1)

pub returns-clause-same : goal.returns-clause-same
returns-clause-same c = record {
  table = ap (λ (s : State). s.table) c.pop.ensures.rest ∙ ap (λ (x : Contents). x.state.table) c.self.view_is;
  kept = ap (λ (s : State). s.kept) c.pop.ensures.rest ∙ ap (λ (x : Contents). x.state.kept) c.self.view_is;
  lists = ap (λ (x : Contents). x.lists) c.self.view_is;
}

pub returns-clause-popped : goal.returns-clause-popped
returns-clause-popped c base e is = popped_rest c.self.inside.store.stack c.pop.new.self.stack c.pop.result c.pop.ensures.popped base e (ap (λ (x : Contents). x.state.stack) c.self.view_is ∙ is)
