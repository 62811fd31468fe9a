-- The label of a goal.
use Rattle.std.proofs.Common.{◌≡◌, ℕ, zero, suc, ◌<◌, List, [], ◌∷◌, map, length, get_or, refl, arith}
use Rattle.spec_model.specs.declared.game.Label.{Label}
use Rattle.spec_model.specs.declared.game.Goal.{Goal}
use Rattle.spec_model.specs.GameViews.{goal_data}

pub label_there : (goals : List Goal) (j : ℕ) → j < length goals → (other : Goal) (none : Label) → (get_or goals j other).label ≡ get_or (map (λ goal. goal.label) (map goal_data goals)) j none
label_there [] j below other none = absurd (omega arith)
label_there (q ∷ goals) zero below other none = refl
label_there (q ∷ goals) (suc j) below other none = label_there goals j (omega arith) other none
