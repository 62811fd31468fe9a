use Rattle.std.proofs.Common.{◌≡◌, ◌∷◌, [], Err, sym, ◌∙◌, ap, rules}
use Rattle.bdd_store.specs.State.{SameRoots}
use Rattle.bdd_store.specs.declared.fault.StoreFault.TheVariants.{Memory}
use Rattle.bdd_store.proofs.Held.{keeps_more, keeps_table, answers_table, bit_full, node_full}
use Rattle.bdd_store.proofs.Whole.{on_err, ok_or_err, fault_of, root_memory}
use Rattle.bdd_store.proofs.store.Store.var.Goals as goal

pub returns-in_err-e-clause-keeps : goal.returns-in_err-e-clause-keeps
returns-in_err-e-clause-keeps c = keeps_more c.args.self.now c.node.new.self c.args.self.now.stack (c.fixed.result.0 ∷ c.fixed-2.result.0 ∷ []) c.node.ensures.keeps

pub returns-in_err-e-clause-full : goal.returns-in_err-e-clause-full
returns-in_err-e-clause-full c =
    let same : c.from_residual.result ≡ Err c.in_err-e.field-0.0 = search rules in (
      (λ is. bit_full c.args.self.now c.args.self.now.stack c.args.level c.fixed.result.0 c.fixed-2.result.0 c.fixed.ensures.value c.fixed-2.ensures.value c.fixed.ensures.meaning c.fixed-2.ensures.meaning (c.node.ensures.full.0 (c.in_err-e.was ∙ ap Err (fault_of _ _ (sym same ∙ is))))),
      (λ h. same ∙ ap Err (fault_of _ _ (sym c.in_err-e.was ∙ c.node.ensures.full.1 (node_full c.args.self.now c.args.self.now.stack c.args.level c.fixed.result.0 c.fixed-2.result.0 c.fixed.ensures.value c.fixed-2.ensures.value c.fixed.ensures.meaning c.fixed-2.ensures.meaning h)))),
    )

pub returns-in_err-hold-clause-unchanged : goal.returns-in_err-hold-clause-unchanged
returns-in_err-hold-clause-unchanged c = on_err c.from_residual-in_err-hold.result (SameRoots c.args.self.now c.hold.new.self) (λ n. c.in_err-hold.ensures.unchanged n ∙ c.node.ensures.roots n)

pub returns-in_err-hold-clause-keeps : goal.returns-in_err-hold-clause-keeps
returns-in_err-hold-clause-keeps c =
    keeps_table c.args.self.now c.node.new.self c.hold.new.self c.args.self.now.stack (keeps_more c.args.self.now c.node.new.self c.args.self.now.stack (c.fixed.result.0 ∷ c.fixed-2.result.0 ∷ []) c.node.ensures.keeps) c.hold.ensures.table.0

pub returns-in_err-hold-clause-answers : goal.returns-in_err-hold-clause-answers
returns-in_err-hold-clause-answers c = answers_table c.args.self.now c.node.new.self c.hold.new.self c.node.ensures.answers c.hold.ensures.table.0 c.hold.ensures.table.2

pub returns-in_err-hold-clause-full : goal.returns-in_err-hold-clause-full
returns-in_err-hold-clause-full c =
    let memory : c.from_residual-in_err-hold.result ≡ Err Memory = search rules in (
      (λ is. absurd (root_memory (sym memory ∙ is))),
      (λ h. absurd (ok_or_err _ _ (c.in_ok-e.ensures.full.1 (node_full c.args.self.now c.args.self.now.stack c.args.level c.fixed.result.0 c.fixed-2.result.0 c.fixed.ensures.value c.fixed-2.ensures.value c.fixed.ensures.meaning c.fixed-2.ensures.meaning h)))),
    )

pub returns-clause-keeps : goal.returns-clause-keeps
returns-clause-keeps c =
    keeps_table c.args.self.now c.node.new.self c.hold.new.self c.args.self.now.stack (keeps_more c.args.self.now c.node.new.self c.args.self.now.stack (c.fixed.result.0 ∷ c.fixed-2.result.0 ∷ []) c.node.ensures.keeps) c.hold.ensures.table.0

pub returns-clause-answers : goal.returns-clause-answers
returns-clause-answers c = answers_table c.args.self.now c.node.new.self c.hold.new.self c.node.ensures.answers c.hold.ensures.table.0 c.hold.ensures.table.2

pub returns-clause-full : goal.returns-clause-full
returns-clause-full c = (
  (λ h. absurd (ok_or_err _ _ h)),
  (λ h. absurd (ok_or_err _ _ (c.in_ok-e.ensures.full.1 (node_full c.args.self.now c.args.self.now.stack c.args.level c.fixed.result.0 c.fixed-2.result.0 c.fixed.ensures.value c.fixed-2.ensures.value c.fixed.ensures.meaning c.fixed-2.ensures.meaning h)))),
)
