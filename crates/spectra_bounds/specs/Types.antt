-- What types stand for, and ranges without numbers.
use Rattle.spectra_trees.specs.Faults.{WideInt, number_of}
use Rattle.std.specs.Prelude.{ℕ, zero, suc, ℤ, pos, ◌-ℤ◌, int_le, int_lt, Bool, not, ◌&&◌, if◌then◌else◌, List, [], Option, Some, None, length, map, get_or}
use Rattle.spectra_resolved.specs.declared.spot.Spot.{Spot}
use Rattle.spectra_resolved.specs.declared.stand.Stand.TheVariants as stand
use Rattle.spectra_resolved.specs.declared.findings.Finding.{Finding}
use Rattle.spectra_resolved.specs.Texts.{ResolvedType, Booleans, RangeOf, EnumOf, TypeNumber, NoType, ResolvedAlias}
use Rattle.spectra_judge.specs.Findings.{fault_if}
use Rattle.spectra_judge.specs.Kinds.{Kind, Truth, Whole, NameOf, Anything}
use Rattle.spectra_copies.specs.Numbers.{number_in}
use Rattle.spectra_bounds.specs.Numbers.{Constants, sound_number}

-- the numbers from one to another: one at least, and 4,096 at most
abbrev pub is_range : ℤ → ℤ → Bool
is_range low high = int_le low high && int_lt (high -ℤ low) (pos 4096)

abbrev pub range_kind : Option ℤ → Option ℤ → Kind
range_kind (Some low) (Some high) = if is_range low high then Whole low high else Anything
range_kind (Some low) None = Anything
range_kind None high = Anything

-- the type that names of types stand for, where one name stands for another at most so often
abbrev pub meant_within : (steps : ℕ) → List ResolvedAlias → ResolvedType → ResolvedType
meant_within steps types Booleans = Booleans
meant_within steps types (RangeOf at low high) = RangeOf at low high
meant_within steps types (EnumOf names) = EnumOf names
meant_within steps types NoType = NoType
meant_within zero types (TypeNumber k) = NoType
meant_within (suc steps) types (TypeNumber k) = meant_within steps types (get_or (map (λ (a : ResolvedAlias). a.body) types) k NoType)

-- what a type stands for that isn't a name
abbrev pub own_kind : Constants → ResolvedType → Kind
own_kind c Booleans = Truth
own_kind c (RangeOf at low high) = range_kind (sound_number c stand.Bound low) (sound_number c stand.Bound high)
own_kind c (EnumOf names) = NameOf names
own_kind c _ = Anything

-- What a type stands for: for anything where it is faulty, where it is a name that goes round, and where a bound uses what is
-- faulty.
abbrev pub type_kind : Constants → List ResolvedAlias → ResolvedType → Kind
type_kind c types t = own_kind c (meant_within (length types) types t)

-- two bounds with numbers that are no range
abbrev pub no_range : Option ℤ → Option ℤ → Spot → List Finding
no_range (Some low) (Some high) at = fault_if (not (is_range low high)) (number_of WideInt) at
no_range (Some low) None at = []
no_range None high at = []

-- a range is judged by its bounds' numbers, whatever else is wrong with them
abbrev pub range_faults : Constants → ResolvedType → List Finding
range_faults c (RangeOf at low high) = no_range (number_in c.numbers low) (number_in c.numbers high) at
range_faults c _ = []
