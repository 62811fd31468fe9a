use Rattle.std.proofs.Common.{◌++◌, ◌∷◌, [], inl}
use Rattle.bdd_ops.proofs.SpentLemmas.{spent_more}
use Rattle.bdd_ops.proofs.work.Work.join_over.Goals as goal

pub returns-then-covers-clause-full : goal.returns-then-covers-clause-full
returns-then-covers-clause-full c is =
    spent_more c.joined_answers.new.self (c.args.self.now.state.stack ++ c.args.low.0 ∷ c.args.high.0 ∷ []) _ _ (λ d made. inl made) (c.joined_answers.ensures.full is)
