-- Several faults are found beside others as their first one is.
use Rattle.std.proofs.Common.{◌≡◌, List, [], ◌∷◌, Option, Some, None, refl, sym, ap, ◌∙◌}
use Rattle.spectra_resolved.specs.declared.findings.Finding.{Finding}
use Rattle.spectra_resolved.specs.Findings.{with_fault, with_faults, first_of_faults}
use Rattle.spectra_resolved.proofs.First.{found_later}
use Rattle.spectra_judge.specs.Laws.{IsFirst}
use Rattle.spectra_judge.proofs.Least.{first_is_least}

-- a fault is put among others
abbrev with_first : Option Finding → Option Finding → Option Finding
with_first found (Some f) = with_fault found f
with_first found None = found

turned : (f g : Finding) → with_fault (Some f) g ≡ with_fault (Some g) f
turned f g = found_later None (f ∷ []) (g ∷ [])

found_first : (found : Option Finding) (fs : List Finding) → with_faults found fs ≡ with_first found (first_of_faults fs)
found_first None fs = alone (first_of_faults fs)
  where
    alone : (o : Option Finding) → o ≡ with_first None o
    alone (Some f) = refl
    alone None = refl
found_first (Some g) fs = found_later None (g ∷ []) fs ∙ by (first_of_faults fs)
  where
    by : (o : Option Finding) → with_faults o (g ∷ []) ≡ with_first (Some g) o
    by (Some f) = turned f g
    by None = refl

pub some_first : (found : Option Finding) (fs : List Finding) (f : Finding) → first_of_faults fs ≡ Some f → with_fault found f ≡ with_faults found fs
some_first found fs f is = ap (with_first found) (sym is) ∙ sym (found_first found fs)

pub none_first : (found : Option Finding) (fs : List Finding) → first_of_faults fs ≡ None → found ≡ with_faults found fs
none_first found fs is = ap (with_first found) (sym is) ∙ sym (found_first found fs)

-- where none is first, there is none
pub no_faults : (fs : List Finding) → first_of_faults fs ≡ None → fs ≡ []
no_faults fs is = by (first_of_faults fs) is (first_is_least fs)
  where
    by : (o : Option Finding) → o ≡ None → IsFirst fs o → fs ≡ []
    by (Some f) e first = absurd (cc)
    by None e first = first
