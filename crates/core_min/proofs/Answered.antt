-- What holds over several calls of a judge.
use Rattle.std.proofs.Common.{ℕ, List, Option, refl, ◌∙◌, arith}
use Rattle.core_min.specs.Judges.{IsSameJudge, IsAnswered}

module _ {J F : Type 0} (size : J → ℕ) (IsWinning : J → List ℕ → Type 0) (MayFail : J → List ℕ → F → Type 0) (faults : J → ℕ) where
  pub same_at_first : (j : J) → IsSameJudge size IsWinning MayFail faults j j
  same_at_first j = record { same_size = refl; winning = λ set. (λ w. w, λ w. w); failing = λ set fault. (λ w. w, λ w. w); later = omega arith }

  module _ (first mid new : J) (before : IsSameJudge size IsWinning MayFail faults first mid) where
    pub same_on : IsSameJudge size IsWinning MayFail faults mid new → IsSameJudge size IsWinning MayFail faults first new
    same_on call =
        record {
          same_size = call.same_size ∙ before.same_size;
          winning = λ set. (λ w. (before.winning set).0 ((call.winning set).0 w), λ w. (call.winning set).1 ((before.winning set).1 w));
          failing = λ set fault. (λ w. (before.failing set fault).0 ((call.failing set fault).0 w), λ w. (call.failing set fault).1 ((before.failing set fault).1 w));
          later = let a = before.later in let b = call.later in omega (arith, a, b);
        }

    pub answered_on : (last : J → Option (F × List ℕ)) (fault : F) (set : List ℕ) → IsAnswered faults last MayFail mid new fault set → IsAnswered faults last MayFail first new fault set
    answered_on last fault set call =
        record {
          rose = let a = before.later in let b = call.rose in omega (arith, a, b);
          latest = call.latest;
          allowed = (before.failing set fault).0 call.allowed;
        }
