use Rattle.std.proofs.Common.{◌<◌, ◌↔◌, ◌⊎◌, refl, inr, subst, sym, ap, ◌∙◌}
use Rattle.bdd_store.specs.State.{diagram_of, IsEdge, IsReached, IsRoot}
use Rattle.bdd_ops.specs.Contents.{Contents}
use Rattle.bdd_ops.proofs.StepLemmas.{right_fewer}
use Rattle.bdd_ops.proofs.DiagramLemmas.{part_of_itself}
use Rattle.bdd_ops.proofs.work.Work.reclaim.Goals as goal

pub invariant_of-self : goal.invariant_of-self
invariant_of-self c = (right_fewer _ _ c.self.invariant.0 c.reclaim.ensures.meaning (λ x has. ((c.reclaim.ensures.answers x).0 has).0) refl c.reclaim.ensures.sound, c.self.invariant.1)

pub returns-clause-keeps : goal.returns-clause-keeps
returns-clause-keeps c =
    record {
      levels = c.reclaim.ensures.bounds.0 ∙ ap (λ (d : Contents). d.state.table.levels) c.self.view_is;
      budget = c.reclaim.ensures.bounds.1 ∙ ap (λ (d : Contents). d.state.table.budget) c.self.view_is;
      meaning = λ n root.
          let inside = subst (λ (d : Contents). IsRoot d.state n) (sym c.self.view_is) root in
          c.reclaim.ensures.meaning n ((c.reclaim.ensures.live n).1 (inr (n, inside, c.self.invariant.0.store.roots_live n inside, part_of_itself (diagram_of c.self.inside.store n))))
          ∙ ap (λ (d : Contents). diagram_of d.state n) c.self.view_is;
    }

pub returns-clause-live : goal.returns-clause-live
returns-clause-live c = λ n. subst (λ (d : Contents). IsEdge c.reclaim.new.self n ↔ ((n < 2) ⊎ IsReached d.state n)) c.self.view_is (c.reclaim.ensures.live n)
