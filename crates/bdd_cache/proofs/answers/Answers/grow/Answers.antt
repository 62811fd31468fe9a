use Rattle.std.proofs.Common.{◌↔◌, ◌++◌, inl, inr, sym, subst, List}
use Rattle.bdd_cache.specs.declared.answer.Answer.{Answer}
use Rattle.bdd_cache.specs.declared.cell.Cell.{Cell}
use Rattle.bdd_cache.specs.Cells.{answers_in}
use Rattle.bdd_cache.specs.Kept.{IsKept}
use Rattle.bdd_cache.proofs.KeptLemmas.{kept_twice}
use Rattle.bdd_cache.proofs.answers.Answers.grow.Goals as goal

pub returns-then-len-self : goal.returns-then-len-self
returns-then-len-self c = λ answer.
    let wide : Answer = c.self.inside.wide in
    let old : List Cell = c.self.inside.cells.items in
    let Same : List Cell → Type 0 = λ xs. IsKept (answers_in wide xs) answer ↔ IsKept (answers_in wide old) answer in
    let same : Same c.write_again.new.cells.items = elim c.write_again.ensures.items [
      | inl twice ↦ subst Same (sym twice) (kept_twice wide old answer)
      | inr stays ↦ subst Same (sym stays) (λ kept. kept, λ kept. kept)
    ] in
    subst (λ (xs : List Answer). IsKept (answers_in wide c.write_again.new.cells.items) answer ↔ IsKept xs answer) c.self.view_is same
