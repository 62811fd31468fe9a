-- What is proved of a trigger's table.
use Rattle.std.specs.Prelude.{◌≡◌, ◌↔◌, ◌≤◌, ℕ, true, false, Bool, not, ◌&&◌, nat_le, Some, None}
use Rattle.spec_model.specs.Syntax.{Regular, Atom, Sequence, Choice, Repetition, Regulars, TriggerData}
use Rattle.spec_model.specs.Meaning.{Reading}
use Rattle.spec_model.specs.Triggers.{matches, splits_into, is_pending}
use Rattle.spec_model.specs.TriggerStates.{written}
use Rattle.spec_model.specs.WellTyped.{has_some}
use Rattle.trigger_dfa.specs.Reads.{Reads}
use Rattle.trigger_dfa.specs.Standings.{table_of}
use Rattle.trigger_dfa.specs.Along.{entry_along}

abbrev mutual
  -- no repeat has an upper number below its lower one, and there is an alternative wherever one is to be taken
  pub is_readable : Regular → Bool
  is_readable (Atom e) = true
  is_readable (Sequence rs) = are_readable rs
  is_readable (Choice rs) = has_some rs && are_readable rs
  is_readable (Repetition r low None) = is_readable r
  is_readable (Repetition r low (Some high)) = nat_le low high && is_readable r

  pub are_readable : Regulars → Bool
  are_readable Regulars.none = true
  are_readable (Regulars.one_more r rs) = is_readable r && are_readable rs

-- No match is missed: a stretch in any number of pieces from the lower number on matches.
abbrev pub NoneIsMissed : Type 0
NoneIsMissed =
    (r : Reading) (a : Regular) (low n from to : ℕ) → low ≤ n → splits_into n (matches r a) from to ≡ true → matches r (Repetition a low None) from to ≡ true

-- An expression and the one with its repeats written out match the same stretches.
abbrev pub WrittenOutReads : Type 0
WrittenOutReads = (r : Reading) (a : Regular) → is_readable a ≡ true → (from to : ℕ) → (matches r a from to ≡ true) ↔ Reads r (written a) from to

-- On every run the entry, read with the values along it, tells that no effect is pending.
abbrev pub GoalIsNotPending : Type 0
GoalIsNotPending =
    (r : Reading) (tr : TriggerData) → is_readable tr.cause ≡ true → is_readable tr.effect ≡ true →
    (t : ℕ) → entry_along (table_of tr) r 0 t ≡ not (is_pending r tr t)
