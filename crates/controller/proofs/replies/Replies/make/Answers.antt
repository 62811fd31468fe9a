use Rattle.std.proofs.Common.{ℕ, ◌<◌, sym, ◌∙◌, true≢false, arith, length, List, [], ◌∷◌}
use Rattle.controller.specs.declared.replies.Reply.{Reply}
use Rattle.controller.proofs.replies.Replies.make.Goals as goal

first_of : (rs : List Reply) (k : ℕ) → k < length rs → Reply
first_of (r ∷ rs) k below = r
first_of [] k below = absurd (omega (arith, below))

pub returns-clause-none : goal.returns-clause-none
returns-clause-none c = λ before after state input output has.
    let reply : Reply = first_of c.loop-replies.replies.items has.0 has.1 in
    true≢false (sym (has.2 reply).filled ∙ (c.loop-replies.invariant.empty has.0 has.1 reply).0)
