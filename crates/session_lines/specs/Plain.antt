-- Which names may stand on lines, so that what is shown is read again and reads as nothing else.
use Rattle.std.specs.Prelude.{◌≡◌, ℕ, ◌<◌, ◌^◌, Bool, true, false, not, ◌&&◌, ◌||◌, ◌==◌, List, [], ◌∷◌, length, slice_index_or}
use Rattle.std.specs.List.{list_any}
use Rattle.std.specs.Str.{bytes_eq}
use lib.Signed.{mag}
use Rattle.spec_model.specs.Values.{DomainData, TruthValues, WholeNumbers, Enumeration}
use Rattle.spec_model.specs.Syntax.{VariableData}
use Rattle.session_lines.specs.Reading.{is_blank}

-- it has no blank
abbrev pub IsWhole : List ℕ → Type 0
IsWhole text = list_any is_blank text ≡ false

-- a variable's name has no blank and no equals sign
abbrev pub IsPlain : List ℕ → Type 0
IsPlain name = list_any (λ c. is_blank c || c == 61) name ≡ false

-- no name stands twice, and each is plain
abbrev pub ArePlain : List (List ℕ) → Type 0
ArePlain [] = Unit {0}
ArePlain (name ∷ names) = IsPlain name × (list_any (bytes_eq name) names ≡ false) × ArePlain names

-- the same as a test
abbrev pub are_plain : List (List ℕ) → Bool
are_plain [] = true
are_plain (name ∷ names) = not (list_any (λ c. is_blank c || c == 61) name) && (not (list_any (bytes_eq name) names) && are_plain names)

-- the numbers are of 64 bits, and the names are there
abbrev pub IsWritable : List (List ℕ) → DomainData → Type 0
IsWritable names TruthValues = Unit {0}
IsWritable names (WholeNumbers lo hi) = (mag lo < 2 ^ 63) × (mag hi < 2 ^ 63)
IsWritable names (Enumeration ns) = (k : ℕ) → k < length ns → slice_index_or ns k 0 < length names

abbrev pub AreWritable : List (List ℕ) → List VariableData → Type 0
AreWritable names [] = Unit {0}
AreWritable names (v ∷ vs) = IsWritable names v.domain × AreWritable names vs

-- each enum name has no blank, and two different ones have different texts
pub record AreNames (names : List (List ℕ)) : Type 0 where
  pub whole : (n : ℕ) → n < length names → IsWhole (slice_index_or names n [])
  pub differ : (m n : ℕ) → m < length names → n < length names → slice_index_or names m [] ≡ slice_index_or names n [] → m ≡ n
