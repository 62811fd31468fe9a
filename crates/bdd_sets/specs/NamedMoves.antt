-- Named sets of moves: what is held on the way to where inputs avoid a target.
use Rattle.std.specs.Prelude.{◌≡◌, ℕ, true, List, take}
use Rattle.spec_model.specs.Diagrams.{Function}
use Rattle.bdd_ops.specs.Functions.{joined, join_of}
use Rattle.bdd_ops.specs.Unfinished.{negated}
use Rattle.bdd_sets.specs.MoveFunctions.{MoveFunctions, all_true, reply_of}

-- the first several of these together
abbrev pub IsFirstOfAll : List Function → Function → Type 0
IsFirstOfAll fs f = (k : ℕ) × (f ≡ all_true (take k fs))

-- ---- the lines of moves, each by itself

pub record MoveLists : Type 0 where
  pub inputs : List Function
  pub outputs : List Function
  pub update : List Function

-- those of each kind together
abbrev pub joined_lists : MoveLists → MoveFunctions
joined_lists m = record { inputs = all_true m.inputs; outputs = all_true m.outputs; update = all_true m.update }

-- The target; the target with all legal outputs; where one of these leads into it, and where none does; and the first
-- several lines of the outputs, of the update and of the inputs.
pub data IsOfAvoiding (m : MoveLists) (reply : List ℕ) (target f : Function) : Type 0 where
  aimed : f ≡ target → IsOfAvoiding m reply target f
  outputs : IsFirstOfAll m.outputs f → IsOfAvoiding m reply target f
  led : f ≡ joined (join_of true) target (all_true m.outputs) → IsOfAvoiding m reply target f
  updates : IsFirstOfAll m.update f → IsOfAvoiding m reply target f
  replied : f ≡ reply_of (joined_lists m) reply target → IsOfAvoiding m reply target f
  kept_out : f ≡ negated (reply_of (joined_lists m) reply target) → IsOfAvoiding m reply target f
  inputs : IsFirstOfAll m.inputs f → IsOfAvoiding m reply target f
