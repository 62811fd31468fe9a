-- Values of variables' domains are of the kinds that are known of the variables.
use Rattle.std.proofs.Common.{◌≡◌, ℕ, zero, suc, ◌<◌, true, List, [], ◌∷◌, Some, length, map, get_or, slice_get, refl, sym, ap, subst, ◌∙◌, arith}
use Rattle.std.specs.List.{list_any}
use Rattle.std.proofs.lemmas.Bool.{false≢true}
use Rattle.spec_model.specs.declared.value.Value.{Value}
use Rattle.spec_model.specs.declared.value.Value.TheVariants as value
use Rattle.spec_model.specs.Values.{DomainData, TruthValues, WholeNumbers, Enumeration, same_value, values_of}
use Rattle.spec_model.specs.Syntax.{VariableData}
use Rattle.spec_model.specs.Meaning.{Reading}
use Rattle.spec_model.proofs.Domains.{none_in_range, in_range}
use Rattle.spectra_judge.specs.Kinds.{Kind, Anything}
use Rattle.spectra_judge.specs.PutIn.{domain_kind}
use Rattle.spectra_types.specs.Conditions.{HaveValues}
use Rattle.spectra_types.proofs.Within.{IsOfKind}

pub value_fits : (d : DomainData) (v : Value) → list_any (same_value v) (values_of d) ≡ true → IsOfKind (domain_kind d) v
value_fits TruthValues (value.Bool b) is = refl
value_fits TruthValues (value.Int z) is = absurd (false≢true is)
value_fits TruthValues (value.Name n) is = absurd (false≢true is)
value_fits (WholeNumbers low high) (value.Int z) is =
    let inside = (in_range z low high).0 is in record { number = z; is = refl; within = record { low = low; high = high; is = refl; from_low = inside.0; to_high = inside.1 } }
value_fits (WholeNumbers low high) (value.Bool b) is = absurd (false≢true (sym (none_in_range (value.Bool b) (λ z. refl) low high) ∙ is))
value_fits (WholeNumbers low high) (value.Name n) is = absurd (false≢true (sym (none_in_range (value.Name n) (λ z. refl) low high) ∙ is))
value_fits (Enumeration names) v is = tt

variable_there : (vs : List VariableData) (k : ℕ) → k < length vs → (v : VariableData) × ((slice_get vs k ≡ Some v) × (get_or (map domain_kind (map (λ (v : VariableData). v.domain) vs)) k Anything ≡ domain_kind v.domain))
variable_there [] k below = absurd (omega (arith, below))
variable_there (v ∷ vs) zero below = (v, (refl, refl))
variable_there (v ∷ vs) (suc k) below = let rest = variable_there vs k (omega (arith, below)) in (rest.0, (rest.1.0, rest.1.1))

-- each variable has values of its kind
pub kinds_hold : (vs : List VariableData) (kinds : List Kind) (r : Reading) → kinds ≡ map domain_kind (map (λ (v : VariableData). v.domain) vs) → HaveValues vs r → (k : ℕ) → k < length vs → (p : ℕ) → IsOfKind (get_or kinds k Anything) (r.variable k p)
kinds_hold vs kinds r are values k below p =
    let found = variable_there vs k below in
    subst (λ kind. IsOfKind kind (r.variable k p)) (sym (ap (λ (kinds : List Kind). get_or kinds k Anything) are ∙ found.1.1)) (value_fits found.0.domain (r.variable k p) (values k found.0 found.1.0 p))
