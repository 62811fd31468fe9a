-- The fault that comes first, in whatever order faults are found.
use Rattle.std.proofs.Common.{◌≡◌, List, ◌++◌, Option, sym, ap, ◌∙◌}
use Rattle.spectra_resolved.specs.declared.findings.Finding.{Finding}
use Rattle.spectra_resolved.specs.Findings.{with_faults}
use Rattle.spectra_resolved.proofs.First.{with_faults_append}

-- three lists of faults, of which the first two are found together
pub three_parts : (found : Option Finding) (fs gs hs : List Finding) → with_faults found (fs ++ (gs ++ hs)) ≡ with_faults (with_faults found (fs ++ gs)) hs
three_parts found fs gs hs =
    with_faults_append found fs (gs ++ hs) ∙ with_faults_append (with_faults found fs) gs hs ∙ ap (λ f. with_faults f hs) (sym (with_faults_append found fs gs))
