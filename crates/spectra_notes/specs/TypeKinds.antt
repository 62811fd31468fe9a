-- What the types in a text stand for, and what is known of the names in its expressions.
use Rattle.std.specs.Prelude.{Bool, true, false, List, map, flat_map, replicate}
use Rattle.spec_model.specs.declared.value.Owner.{Owner}
use Rattle.spec_model.specs.declared.value.Owner.TheVariants as owners
use Rattle.spectra_resolved.specs.Texts.{ResolvedType, ResolvedVariable, ResolvedDefinition, ResolvedText}
use Rattle.spectra_judge.specs.Kinds.{Kind}
use Rattle.spectra_judge.specs.Known.{Known}
use Rattle.spectra_bounds.specs.Numbers.{Constants, constants}
use Rattle.spectra_bounds.specs.Types.{type_kind}

-- what bounds have of a text's definitions; the kinds of its variables, and which of them are the system's; and for each
-- definition the kinds of its parameters
pub record TypeKinds : Type 0 where
  pub constants : Constants
  pub variables : List Kind
  pub system : List Bool
  pub predicates : List (List Kind)

abbrev pub is_of_system : Owner → Bool
is_of_system owners.Sys = true
is_of_system owners.Env = false

-- what a type in a text stands for
abbrev pub kind_in : ResolvedText → ResolvedType → Kind
kind_in text t = type_kind (constants text.definitions) text.types t

abbrev pub type_kinds : ResolvedText → TypeKinds
type_kinds text =
    record {
      constants = constants text.definitions;
      variables = flat_map (λ (v : ResolvedVariable). replicate v.count (kind_in text v.domain)) text.variables;
      system = flat_map (λ (v : ResolvedVariable). replicate v.count (is_of_system v.owner)) text.variables;
      predicates = map (λ (d : ResolvedDefinition). map (kind_in text) d.params) text.definitions;
    }

-- what is known of the names in an expression as it is written, where defines have these kinds, and parameters and own
-- variables around it have these
abbrev pub known_by : TypeKinds → (defines parameters own : List Kind) → Known
known_by k defines parameters own =
    record { variables = k.variables; system = k.system; defines = defines; predicates = k.predicates; parameters = parameters; own = own }
