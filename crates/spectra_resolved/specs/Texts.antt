-- What several files declare and say, with each name resolved: plain data.
use Rattle.std.specs.Prelude.{ℕ, Bool, List, Option}
use Rattle.spec_model.specs.declared.spec.Role.{Role}
use Rattle.spec_model.specs.declared.value.Owner.{Owner}
use Rattle.spectra_resolved.specs.declared.spot.Spot.{Spot}
use Rattle.spectra_resolved.specs.declared.text.DefinitionWord.{DefinitionWord}
use Rattle.spectra_resolved.specs.declared.text.PatternUse.{PatternUse}
use Rattle.spectra_resolved.specs.Spots.{MentionData}
use Rattle.spectra_resolved.specs.Resolved.{ResolvedTree, ResolvedRegex}

-- a type; `NoType` is one without meaning
pub data ResolvedType : Type 0 where
  Booleans : ResolvedType
  RangeOf : (at : Spot) → (low high : ResolvedTree) → ResolvedType
  EnumOf : (names : List ℕ) → ResolvedType
  TypeNumber : (number : ℕ) → ResolvedType
  NoType : ResolvedType

-- an array is so many variables, and everything else is one
pub record ResolvedVariable : Type 0 where
  pub name : MentionData
  pub owner : Owner
  pub domain : ResolvedType
  pub array : Bool
  pub count : ℕ

pub record ResolvedAlias : Type 0 where
  pub name : MentionData
  pub body : ResolvedType

-- a define or a predicate
pub record ResolvedDefinition : Type 0 where
  pub name : MentionData
  pub word : DefinitionWord
  pub params : List ResolvedType
  pub doubled : Bool
  pub body : ResolvedTree

-- a line of a pattern, with the place of its first token
pub data ResolvedPatternLine : Type 0 where
  Initial : (at : Spot) → ResolvedTree → ResolvedPatternLine
  Safety : (at : Spot) → ResolvedTree → ResolvedPatternLine
  Recurring : (at : Spot) → ResolvedTree → ResolvedPatternLine

pub record ResolvedPattern : Type 0 where
  pub name : MentionData
  pub params : ℕ
  pub doubled : Bool
  pub own : List ResolvedType
  pub lines : List ResolvedPatternLine

pub data ResolvedBody : Type 0 where
  Initial : ResolvedTree → ResolvedBody
  Safety : ResolvedTree → ResolvedBody
  Recurring : ResolvedTree → ResolvedBody
  Trigger : (at : Spot) → (cause effect : ResolvedRegex) → ResolvedBody
  Pattern : (at : Spot) → PatternUse → List ResolvedTree → ResolvedBody

pub record ResolvedLine : Type 0 where
  pub at : Spot
  pub item : Spot
  pub role : Role
  pub name : Option (List ℕ)
  pub body : ResolvedBody

pub record ResolvedText : Type 0 where
  pub names : List (List ℕ)
  pub variables : List ResolvedVariable
  pub types : List ResolvedAlias
  pub definitions : List ResolvedDefinition
  pub patterns : List ResolvedPattern
  pub lines : List ResolvedLine
