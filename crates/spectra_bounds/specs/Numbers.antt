-- The numbers of bounds, and of the defines that bounds may use.
use Rattle.std.specs.Prelude.{ℤ, if◌then◌else◌, Bool, is_some, List, [], Option, Some, None, map}
use Rattle.spectra_resolved.specs.declared.stand.Stand.{Stand}
use Rattle.spectra_resolved.specs.declared.stand.Stand.TheVariants as stand
use Rattle.spectra_resolved.specs.declared.findings.Finding.{Finding}
use Rattle.spectra_resolved.specs.Findings.{first_of_faults}
use Rattle.spectra_resolved.specs.Resolved.{ResolvedTree}
use Rattle.spectra_resolved.specs.Texts.{ResolvedDefinition}
use Rattle.spectra_judge.specs.Kinds.{Kind, Anything}
use Rattle.spectra_judge.specs.Known.{Known}
use Rattle.spectra_judge.specs.Judged.{kind_of, faults_of}
use Rattle.spectra_copies.specs.Numbers.{number_in}
use Rattle.spectra_uses.specs.Uses.{all_uses}
use Rattle.spectra_bounds.specs.ByUses.{made_by_uses}

-- ---- constants

-- What bounds have of the definitions, by number: the number of each define that has one and no fault as it is written, and
-- its span.
pub record Constants : Type 0 where
  pub numbers : List (Option ℤ)
  pub kinds : List Kind

-- in an expression that has a number all names are defines
abbrev pub known_constants : (kinds : List Kind) → Known
known_constants kinds =
    record { variables = []; system = []; defines = kinds; predicates = []; parameters = []; own = [] }

-- whether there is a fault among several
abbrev pub is_faulty : List Finding → Bool
is_faulty fs = is_some (first_of_faults fs)

-- the number of an expression without a fault where it stands, as it is written
abbrev pub sound_number : Constants → Stand → ResolvedTree → Option ℤ
sound_number c st t = if is_faulty (faults_of (known_constants c.kinds) st t) then None else number_in c.numbers t

-- what they have of one definition
pub record Constant : Type 0 where
  pub number : Option ℤ
  pub kind : Kind

abbrev pub no_constant : Constant
no_constant = record { number = None; kind = Anything }

abbrev pub each_of : List Constant → Constants
each_of cs = record { numbers = map (λ c. c.number) cs; kinds = map (λ c. c.kind) cs }

abbrev pub constant_with : Option ℤ → Kind → Constant
constant_with (Some z) kind = record { number = Some z; kind = kind }
constant_with None kind = no_constant

-- what they have of one with this body, from what they have of those that it uses
abbrev pub constant_of : Constants → ResolvedTree → Constant
constant_of c body = constant_with (sound_number c stand.Define body) (kind_of (known_constants c.kinds) body)

-- what they have of the definitions of a text
abbrev pub constants : List ResolvedDefinition → Constants
constants definitions =
    each_of (made_by_uses (all_uses definitions) no_constant (λ known (d : ResolvedDefinition). constant_of (each_of known) d.body) definitions)
