-- A law over the definitions alone, which the function of its name in src/laws.rt proves.
use Rattle.std.specs.Prelude.{◌≡◌, ℕ, Bool, true, false, nat_lt, not, List, [], length}
use Rattle.std.specs.List.{list_all}
use Rattle.spec_model.specs.Values.{WholeNumbers, Enumeration}
use Rattle.spec_model.specs.WellTyped.{is_domain_of}
use Rattle.spectra_resolved.specs.Texts.{ResolvedType, Booleans, RangeOf, EnumOf, TypeNumber, NoType, ResolvedAlias, ResolvedDefinition}
use Rattle.spectra_judge.specs.Kinds.{Kind, Truth, Whole, NameOf, Anything}
use Rattle.spectra_bounds.specs.Numbers.{Constants, constants}
use Rattle.spectra_bounds.specs.Types.{own_kind, type_kind}
use Rattle.spectra_bounds.specs.Cycles.{type_cycles}

abbrev pub is_anything : Kind → Bool
is_anything Anything = true
is_anything _ = false

-- Where so many enum names and types are declared: an enum has a name, none twice, and a name stands for a type. The bounds of
-- a range have numbers.
abbrev pub is_declared_type : Constants → (names types : ℕ) → ResolvedType → Bool
is_declared_type c names types Booleans = true
is_declared_type c names types (RangeOf at low high) = not (is_anything (own_kind c (RangeOf at low high)))
is_declared_type c names types (EnumOf ns) = is_domain_of names (Enumeration ns)
is_declared_type c names types (TypeNumber k) = nat_lt k types
is_declared_type c names types NoType = false

-- the kind of a type that has a domain
abbrev pub is_domain_kind : (names : ℕ) → Kind → Bool
is_domain_kind names Truth = true
is_domain_kind names (Whole low high) = is_domain_of names (WholeNumbers low high)
is_domain_kind names (NameOf ns) = is_domain_of names (Enumeration ns)
is_domain_kind names _ = false

abbrev pub TypesAreMeant : Type 0
TypesAreMeant = (definitions : List ResolvedDefinition) (names : ℕ) (types : List ResolvedAlias) → type_cycles types ≡ [] →
    list_all (λ (a : ResolvedAlias). is_declared_type (constants definitions) names (length types) a.body) types ≡ true →
    (t : ResolvedType) → is_declared_type (constants definitions) names (length types) t ≡ true → is_domain_kind names (type_kind (constants definitions) types t) ≡ true
