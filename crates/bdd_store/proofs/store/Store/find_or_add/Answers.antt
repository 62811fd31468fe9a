use Rattle.std.proofs.Common.{◌≡◌, ◌<◌, refl, subst, sym, ap, ◌∙◌}
use Rattle.bdd_store.specs.State.{IsStore, IsEdge, KeepsEdges, KeepsAnswers, diagram_of}
use Rattle.bdd_store.proofs.Held.{answers_kept, answers_same}
use Rattle.bdd_store.specs.contracts.store.Store.{the_view}
use Rattle.bdd_store.proofs.Whole.{store_of_whole, whole_nodes, FullExactly, fit_of, full_exactly, ok_or_err, nodes_memory, store_memory}
use Rattle.bdd_store.proofs.store.Store.find_or_add.Goals as goal
use Rattle.std.proofs.lemmas.Bool.{false≢true, eq-eqb}
use Rattle.std.specs.Prelude.{Err}
use Rattle.spec_model.specs.Diagrams.{branch, IsLater}
use Rattle.bdd_store.proofs.store.Store.find_or_add.Goals.{in-Ok, in-Err-Full, in-Err-Memory}

pub returns-then-eq-clause-sound : goal.returns-then-eq-clause-sound
returns-then-eq-clause-sound c = subst IsStore c.self.view_is (store_of_whole (the_view c.self.inside) c.self.inside.roots c.self.invariant)

pub find_or_add-requires : goal.find_or_add-requires
find_or_add-requires c =
    fit_of c.self.inside.nodes c.args.level c.args.low.0 c.args.high.0 c.self.invariant.sound (subst (λ s. c.args.level < s.table.levels) (sym c.self.view_is) c.requires.below) (λ e. false≢true (c.if-eq.ensures ∙ eq-eqb c.args.low.0 c.args.high.0 e))
    (subst (λ s. IsEdge s c.args.low.0) (sym c.self.view_is) c.requires.low_live) (subst (λ s. IsEdge s c.args.high.0) (sym c.self.view_is) c.requires.high_live) (subst (λ s. IsLater c.args.level (diagram_of s c.args.low.0)) (sym c.self.view_is) c.requires.low_later) (subst (λ s. IsLater c.args.level (diagram_of s c.args.high.0)) (sym c.self.view_is) c.requires.high_later)

pub invariant_of-self : goal.invariant_of-self
invariant_of-self c = whole_nodes (the_view c.self.inside) c.self.inside.roots c.find_or_add.new.self c.self.invariant c.find_or_add.ensures.sound c.find_or_add.ensures.marks c.find_or_add.ensures.keeps.live

pub returns-clause-sound : goal.returns-clause-sound
returns-clause-sound c = store_of_whole _ c.self.inside.roots (invariant_of-self c)

pub returns-clause-keeps : goal.returns-clause-keeps
returns-clause-keeps c = rw (← c.self.view_is) (record { levels = c.find_or_add.ensures.bounds.levels; budget = c.find_or_add.ensures.bounds.budget; live = c.find_or_add.ensures.keeps.live; meaning = c.find_or_add.ensures.keeps.meaning })

pub returns-clause-full : goal.returns-clause-full
returns-clause-full c =
    subst (λ s. FullExactly s c.args.level c.args.low.0 c.args.high.0 c.match-find_or_add.result) c.self.view_is (elim c.match-find_or_add.branch [
      | in-Ok w ↦ full_exactly (the_view c.self.inside) c.args.level c.args.low.0 c.args.high.0 c.self.invariant.sound (subst (λ s. IsEdge s c.args.low.0) (sym c.self.view_is) c.requires.low_live) (subst (λ s. IsEdge s c.args.high.0) (sym c.self.view_is) c.requires.high_live) (λ e. false≢true (c.if-eq.ensures ∙ eq-eqb c.args.low.0 c.args.high.0 e)) c.find_or_add.result c.match-find_or_add.result c.find_or_add.ensures.full.0 c.find_or_add.ensures.full.1 (λ h. absurd (ok_or_err _ _ (sym w.in-Ok.is ∙ h))) (λ h. absurd (ok_or_err _ _ (sym w.result-is ∙ h)))
      | in-Err-Full w ↦ full_exactly (the_view c.self.inside) c.args.level c.args.low.0 c.args.high.0 c.self.invariant.sound (subst (λ s. IsEdge s c.args.low.0) (sym c.self.view_is) c.requires.low_live) (subst (λ s. IsEdge s c.args.high.0) (sym c.self.view_is) c.requires.high_live) (λ e. false≢true (c.if-eq.ensures ∙ eq-eqb c.args.low.0 c.args.high.0 e)) c.find_or_add.result c.match-find_or_add.result c.find_or_add.ensures.full.0 c.find_or_add.ensures.full.1 (λ _. w.result-is) (λ _. w.in-Err-Full.is ∙ ap Err w.in-Err-Full.field-0-is)
      | in-Err-Memory w ↦ full_exactly (the_view c.self.inside) c.args.level c.args.low.0 c.args.high.0 c.self.invariant.sound (subst (λ s. IsEdge s c.args.low.0) (sym c.self.view_is) c.requires.low_live) (subst (λ s. IsEdge s c.args.high.0) (sym c.self.view_is) c.requires.high_live) (λ e. false≢true (c.if-eq.ensures ∙ eq-eqb c.args.low.0 c.args.high.0 e)) c.find_or_add.result c.match-find_or_add.result c.find_or_add.ensures.full.0 c.find_or_add.ensures.full.1 (λ h. absurd (nodes_memory (sym (w.in-Err-Memory.is ∙ ap Err w.in-Err-Memory.field-0-is) ∙ h))) (λ h. absurd (store_memory (sym w.result-is ∙ h)))
    ])

pub returns-then-eq-clause-answers : goal.returns-then-eq-clause-answers
returns-then-eq-clause-answers c = subst (λ s. KeepsAnswers s s) c.self.view_is (answers_same (the_view c.self.inside) (store_of_whole (the_view c.self.inside) c.self.inside.roots c.self.invariant))

pub returns-clause-answers : goal.returns-clause-answers
returns-clause-answers c =
    let after = record (the_view c.self.inside) { table = c.find_or_add.new.self } in
    let keeps : KeepsEdges (the_view c.self.inside) after = record { levels = c.find_or_add.ensures.bounds.levels; budget = c.find_or_add.ensures.bounds.budget; live = c.find_or_add.ensures.keeps.live; meaning = c.find_or_add.ensures.keeps.meaning } in
    subst (λ s. KeepsAnswers s after) c.self.view_is (answers_kept (the_view c.self.inside) after (store_of_whole (the_view c.self.inside) c.self.inside.roots c.self.invariant) keeps refl)
