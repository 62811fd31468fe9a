-- Whether there is a first fault tells whether there is one.
use Rattle.std.proofs.Common.{◌≡◌, Bool, true, false, not, List, [], ◌∷◌, if◌then◌else◌, Option, Some, None, is_some, option_map, refl, sym, ap}
use Rattle.std.specs.Prelude.{is_none}
use Rattle.std.proofs.lemmas.Bool.{false≢true}
use Rattle.spectra_resolved.specs.declared.findings.Finding.{Finding}
use Rattle.spectra_resolved.specs.Findings.{first_of_faults}
use Rattle.spec_model.specs.declared.spec.Trigger.{Trigger}
use Rattle.spec_model.specs.Views.{trigger_data}
use Rattle.spectra_resolved.specs.Resolved.{ResolvedRegex}
use Rattle.spectra_patterns.specs.Patterns.{is_empty}
use Rattle.spectra_patterns.specs.Triggers.{trigger_of, is_right}
use Rattle.spectra_patterns.specs.TriggerParts.{meant_by}
use Rattle.spectra_judge.specs.Known.{Known}
use Rattle.spectra_judge.proofs.Found.{no_faults}

pub none_empty : (fs : List Finding) (first : Option Finding) → first ≡ first_of_faults fs → is_none first ≡ is_empty fs
none_empty fs None is = sym (ap is_empty (no_faults fs (sym is)))
none_empty [] (Some f) is = absurd (cc)
none_empty (g ∷ fs) (Some f) is = refl

-- that there is none is that there isn't one
pub none_seen : (first : Option Finding) (none : Bool) → is_some first ≡ not none → none ≡ is_none first
none_seen None true is = refl
none_seen None false is = absurd (false≢true is)
none_seen (Some f) true is = absurd (false≢true (sym is))
none_seen (Some f) false is = refl

-- a trigger is right where one is made
pub right_is : (known : Known) (cause effect : ResolvedRegex) (made : Option Trigger) → option_map trigger_data made ≡ meant_by known cause effect → is_some made ≡ is_right known cause effect
right_is known cause effect (Some t) is = by (is_right known cause effect) is
  where
    by : (b : Bool) → Some (trigger_data t) ≡ (if b then Some (trigger_of known cause effect) else None) → true ≡ b
    by true e = refl
    by false e = absurd (cc)
right_is known cause effect None is = by (is_right known cause effect) is
  where
    by : (b : Bool) → None ≡ (if b then Some (trigger_of known cause effect) else None) → false ≡ b
    by true e = absurd (cc)
    by false e = refl
