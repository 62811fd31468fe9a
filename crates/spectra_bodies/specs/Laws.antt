-- Laws over the definitions alone, each of which the function of its name in src/laws.rt proves.
use Rattle.std.specs.Prelude.{◌≡◌, ℕ, ℤ, ◌<◌, nat_lt, Bool, true, false, List, [], Some, length, map, get_or, slice_get}
use Rattle.spectra_resolved.specs.declared.stand.Stand.{Stand}
use Rattle.spectra_resolved.specs.declared.tree.Leaf.TheVariants as leaf
use Rattle.spectra_resolved.specs.Resolved.{ResolvedTree}
use Rattle.spectra_resolved.specs.Texts.{ResolvedType, TypeNumber, NoType, ResolvedAlias, ResolvedDefinition, ResolvedText}
use Rattle.spectra_uses.specs.Uses.{all_uses}
use Rattle.spectra_uses.specs.Orders.{IsOrderOf}
use Rattle.spectra_bounds.specs.ByUses.{is_on_cycle}
use Rattle.spectra_bounds.specs.Cycles.{type_uses}
use Rattle.spectra_notes.specs.Notes.{noted, known_in_line}
use Rattle.spectra_judge.specs.Judged.{faults_of}
use Rattle.spectra_judge.specs.PutIn.{Parts, is_put_in}
use Rattle.spectra_holes.specs.Holed.{holed}
use Rattle.spectra_elaboration.specs.Putting.{put_in}
use Rattle.spectra_elaboration.specs.Written.{is_written, AreWritten}
use Rattle.spectra_elaboration.specs.Laws.{HasMeantParameters}
use Rattle.spectra_bodies.specs.PutIn.{bodies}
use Rattle.spectra_bounds.specs.Numbers.{constants}
use Rattle.spectra_bodies.specs.Unmeant.{all_unmeant}
use Rattle.spectra_bodies.specs.Faults.{declared_faults}

-- no name stands twice among a definition's parameters
abbrev pub NoneIsDoubled : ResolvedText → Type 0
NoneIsDoubled text = (k : ℕ) (d : ResolvedDefinition) → slice_get text.definitions k ≡ Some d → d.doubled ≡ false

-- where types and definitions have no fault, each range has numbers
abbrev pub RangesHaveNumbers : Type 0
RangesHaveNumbers = (text : ResolvedText) → declared_faults text ≡ [] → all_unmeant (constants text.definitions) text ≡ []

-- no definition is used in its own body
abbrev pub NoneGoesRound : Type 0
NoneGoesRound = (text : ResolvedText) → declared_faults text ≡ [] → (k : ℕ) → k < length text.definitions → is_on_cycle (all_uses text.definitions) k ≡ false

-- and each has a meaning
abbrev pub EachHasAMeaning : Type 0
EachHasAMeaning = (text : ResolvedText) (order : List ℕ) → IsOrderOf (all_uses text.definitions) (length text.definitions) order → NoneIsDoubled text → declared_faults text ≡ [] →
    (k : ℕ) → k < length text.definitions → get_or (noted text).holes k true ≡ false

-- Where types and definitions have no fault, no name is misused or stands twice among parameters, and no parameter's type is
-- without meaning, each body is put in as it is written. `arities` has for each definition how many parameters it has.
abbrev pub BodiesAreAsWritten : Type 0
BodiesAreAsWritten = (text : ResolvedText) (arities : List ℕ) (good : Parts) (order : List ℕ) → IsOrderOf (all_uses text.definitions) (length text.definitions) order →
    NoneIsDoubled text → HasMeantParameters arities (known_in_line (noted text)) → AreWritten arities good (map (λ (d : ResolvedDefinition). d.body) text.definitions) → declared_faults text ≡ [] →
    bodies text ≡ map (λ (d : ResolvedDefinition). Some d.body) text.definitions

-- In an expression of a line, without faults as it is written, everything is put in then, where numbers pass the test.
abbrev pub LinesArePutIn : Type 0
LinesArePutIn = (text : ResolvedText) (arities : List ℕ) (good : Parts) (order : List ℕ) → ((z : ℤ) → good.leaf (leaf.Number z) ≡ true) → IsOrderOf (all_uses text.definitions) (length text.definitions) order →
    NoneIsDoubled text → HasMeantParameters arities (known_in_line (noted text)) → AreWritten arities good (map (λ (d : ResolvedDefinition). d.body) text.definitions) → declared_faults text ≡ [] →
    (stand : Stand) (t : ResolvedTree) → is_written arities good 0 t ≡ true → faults_of (known_in_line (noted text)) stand t ≡ [] →
    is_put_in good (put_in (bodies text) (holed (known_in_line (noted text)) stand t)) ≡ true

-- a type that means something: no unknown name, and no number past the declared types
abbrev pub is_named : (count : ℕ) → ResolvedType → Bool
is_named count (TypeNumber k) = nat_lt k count
is_named count NoType = false
is_named count _ = true

-- so are all types of a text, in an order in which each declared one stands behind the one that it is a name for
pub record AreNamed (text : ResolvedText) (order : List ℕ) : Type 0 where
  pub aliases : (k : ℕ) (a : ResolvedAlias) → slice_get text.types k ≡ Some a → is_named (length text.types) a.body ≡ true
  pub params : (k : ℕ) (d : ResolvedDefinition) → slice_get text.definitions k ≡ Some d → (i : ℕ) (t : ResolvedType) → slice_get d.params i ≡ Some t → is_named (length text.types) t ≡ true
  pub ordered : IsOrderOf (map (λ (a : ResolvedAlias). type_uses a.body) text.types) (length text.types) order

-- Then no parameter's type is without meaning where types and definitions have no fault.
abbrev pub ParametersAreMeant : Type 0
ParametersAreMeant = (text : ResolvedText) (order : List ℕ) → AreNamed text order → declared_faults text ≡ [] →
    HasMeantParameters (map (λ (d : ResolvedDefinition). length d.params) text.definitions) (known_in_line (noted text))
