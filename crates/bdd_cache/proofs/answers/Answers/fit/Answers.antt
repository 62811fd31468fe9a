use Rattle.std.proofs.Common.{sym, subst, List}
use Rattle.bdd_cache.specs.declared.answer.Answer.{Answer}
use Rattle.bdd_cache.specs.declared.cell.Cell.{Cell}
use Rattle.bdd_cache.specs.Cells.{answers_in}
use Rattle.bdd_cache.specs.Kept.{IsKept}
use Rattle.bdd_cache.proofs.KeptLemmas.{front_kept}
use Rattle.bdd_cache.proofs.answers.Answers.fit.Goals as goal

pub returns-then-self-half : goal.returns-then-self-half
returns-then-self-half c = λ answer kept.
    let cells : List Cell = c.self.inside.cells.items in
    subst (λ (xs : List Answer). IsKept xs answer) c.self.view_is
    (front_kept c.self.inside.wide _ cells answer (subst (λ (xs : List Cell). IsKept (answers_in c.self.inside.wide xs) answer) c.truncate.ensures.items kept))

pub returns-else-self-half : goal.returns-else-self-half
returns-else-self-half c = λ answer kept. (c.grow.ensures answer).0 kept
