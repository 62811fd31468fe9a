-- Where nothing recurs the system wins a specification by staying in the greatest set in which it can.
use Rattle.std.proofs.Common.{◌≡◌, ℕ, inl, inr, List, [], ◌∷◌, None, map, sym, ap, ◌∙◌, subst, IsTrue}
use Rattle.spec_model.specs.Syntax.{Specification}
use Rattle.spec_model.specs.Games.{GameData}
use Rattle.spec_model.specs.GameRuns.{goals_in}
use Rattle.spec_model.specs.Rules.{Rules}
use Rattle.spec_model.specs.Agreement.{Agrees, HasNoGoals, NothingRecurs}
use Rattle.spec_model.specs.Sets.{StateSet, pre_sys, system_forces}
use Rattle.spec_model.specs.Verdicts.{SystemWins}
use Rattle.spec_model.specs.WellMade.{WellMade}
use Rattle.spec_model.proofs.Fixpoints.{greatest-one}
use Rattle.gr1_law.specs.SafeGames.{IsRoundCount}
use Rattle.gr1_law.specs.Layers.{round_count}
use Rattle.gr1_law.specs.Specifications.{IsWonWith, StayingWins}
use Rattle.gr1_law.proofs.Settling.{some_ranks}
use Rattle.gr1_law.proofs.Solutions.{some_winning}
use Rattle.gr1_law.proofs.StateCounts.{system_wins}
use Rattle.gr1_law.proofs.SafeGames.{special_case}

-- a set has one number
rounds_one : (z : StateSet) (k k' : ℕ) → IsRoundCount z k → IsRoundCount z k' → k ≡ k'
rounds_one z k k' (inl empty) (inl empty') = empty.1 ∙ sym empty'.1
rounds_one z k k' (inl empty) (inr some) = absurd (some.0 empty.0)
rounds_one z k k' (inr some) (inl empty) = absurd (some.0 empty.0)
rounds_one z k k' (inr some) (inr some') = some.1 ∙ sym some'.1

none_left : {X Y : Type 0} (f : X → Y) (xs : List X) → map f xs ≡ [] → xs ≡ []
none_left f [] e = cc
none_left f (x ∷ xs) e = absurd (cc)

-- nothing recurs in a specification exactly where its game has no goals
module _ (s : Specification) (g : GameData) (agrees : Agrees s g) where
  pub no_goals : NothingRecurs s → HasNoGoals g
  no_goals nothing =
      (none_left _ g.assume (ap (λ (r : Rules). r.assumptions) agrees.rules ∙ nothing.0), none_left _ g.goals (ap (λ (r : Rules). r.guarantees) agrees.rules ∙ nothing.1))

  pub nothing_recurs : HasNoGoals g → NothingRecurs s
  nothing_recurs none =
      (sym (ap (λ (r : Rules). r.assumptions) agrees.rules) ∙ ap (goals_in g) none.0, sym (ap (λ (r : Rules). r.guarantees) agrees.rules) ∙ ap (goals_in g) none.1)

  module _ (made : WellMade g) (nothing : NothingRecurs s) where
    pub staying_wins : StayingWins s g
    staying_wins z k greatest forced rounds =
        let winning = some_winning g in
        let ranks = some_ranks g winning.0 winning.1 winning.2.layers in
        let special = special_case g (no_goals nothing) winning.0 winning.1 ranks.0 winning.2 ranks.1 in
        let same : winning.0 ≡ z = greatest-one (pre_sys g) winning.0 z special.0 greatest in
        let won : IsWonWith g winning.0 winning.1 ranks.0 = record { winning = winning.2; greatest = ranks.1; forced = subst (λ (t : StateSet). IsTrue (system_forces g t None)) (sym same) forced } in
        subst (SystemWins s) (rounds_one z (round_count ranks.0) k (subst (λ (t : StateSet). IsRoundCount t (round_count ranks.0)) same special.1) rounds)
        (system_wins s g agrees made winning.0 winning.1 ranks.0 won)
