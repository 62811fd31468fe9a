use Rattle.std.proofs.Common.{◌≡◌, ◌↔◌, inl, inr, sym, subst, List, length, arith}
use Rattle.bdd_cache.specs.declared.answer.Answer.{Answer}
use Rattle.bdd_cache.specs.Cells.{answers_in}
use Rattle.bdd_cache.specs.Kept.{IsKept, HasLiveNodes}
use Rattle.bdd_cache.proofs.KeptLemmas.{swept_kept}
use Rattle.bdd_cache.proofs.answers.Answers.keep_only.Goals as goal

pub returns : goal.returns
returns c =
    let size : length c.sweep.new.cells.items ≡ length c.self.inside.cells.items = omega arith in
    let exactly : List Answer → List Answer → Type 0 = λ old new. (answer : Answer) → IsKept new answer ↔ (IsKept old answer × HasLiveNodes c.args.live.now answer) in
    let swept : exactly (answers_in c.self.inside.wide c.self.inside.cells.items) (answers_in c.swept_answer-self-inside.result c.sweep.new.cells.items) = λ answer.
    swept_kept c.args.live.now c.self.inside.wide _ _ _ size c.swept_answer-self-inside.ensures c.sweep.ensures.swept answer in
    subst (λ (old : List Answer). exactly old c.aim_for.new.self) c.self.view_is (subst (λ (new : List Answer). exactly (answers_in c.self.inside.wide c.self.inside.cells.items) new) (sym c.aim_for.ensures) swept)
