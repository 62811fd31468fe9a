-- Faults that are told alone, or others where there is none of them.
use Rattle.std.proofs.Common.{◌≡◌, if◌then◌else◌, List, Option, Some, None, sym, ap, ◌∙◌}
use Rattle.std.specs.Prelude.{is_some}
use Rattle.spectra_resolved.specs.declared.findings.Finding.{Finding}
use Rattle.spectra_resolved.specs.Findings.{with_fault, with_faults, first_of_faults}
use Rattle.spectra_judge.proofs.Found.{some_first}
use Rattle.spectra_bounds.specs.Numbers.{is_faulty}

-- where there is a first one, they are told, and where there is none, others
pub some_wrong : (found : Option Finding) (fs others : List Finding) (f : Finding) → Some f ≡ first_of_faults fs → with_fault found f ≡ with_faults found (if is_faulty fs then fs else others)
some_wrong found fs others f is = some_first found fs f (sym is) ∙ ap (λ (o : Option Finding). with_faults found (if is_some o then fs else others)) is

pub none_wrong : (found : Option Finding) (fs others : List Finding) → None ≡ first_of_faults fs → with_faults found others ≡ with_faults found (if is_faulty fs then fs else others)
none_wrong found fs others is = ap (λ (o : Option Finding). with_faults found (if is_some o then fs else others)) is
