-- The line with which there are too many hidden tables.
use Rattle.spectra_trees.specs.Faults.{TooMany, number_of}
use Rattle.std.specs.Prelude.{ℕ, nat_lt, Bool, if◌then◌else◌, List, [], ◌∷◌, ◌++◌}
use Rattle.spec_model.specs.Syntax.{Statement, TriggerData, Specification}
use Rattle.spec_model.specs.Sizes.{all_hidden}
use Rattle.spectra_resolved.specs.declared.spot.Spot.{Spot}
use Rattle.spectra_resolved.specs.declared.findings.Finding.{Finding}
use Rattle.spectra_resolved.specs.Findings.{fault}

abbrev pub most_hidden : ℕ
most_hidden = 1_024

-- lines by themselves, with the triggers that they use
abbrev pub alone : List TriggerData → List Statement → Specification
alone triggers lines = record { names = []; variables = []; patterns = []; triggers = triggers; lines = lines }

-- they have too many tables: one for each different past operator, and one for each use of a pattern and for each trigger
abbrev pub are_many : List TriggerData → List Statement → Bool
are_many triggers lines = nat_lt most_hidden (all_hidden (alone triggers lines))

-- the first line, by its place, with which there are too many
abbrev pub hidden_faults : List TriggerData → (before : List Statement) → List Spot → List Statement → List Finding
hidden_faults triggers before places [] = []
hidden_faults triggers before [] (l ∷ ls) = []
hidden_faults triggers before (at ∷ places) (l ∷ ls) =
    if are_many triggers (before ++ l ∷ []) then fault (number_of TooMany) at ∷ [] else hidden_faults triggers (before ++ l ∷ []) places ls
