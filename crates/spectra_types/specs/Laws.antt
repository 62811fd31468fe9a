-- What holds of all files without a fault, and other laws over the definitions alone, each of which the function of its name in
-- src/laws.rt proves.
use Rattle.std.specs.Prelude.{◌≡◌, false, List, [], ◌∷◌, All}
use Rattle.spec_model.specs.Meaning.{Reading}
use Rattle.spec_model.specs.WellTyped.{WellTyped}
use Rattle.spec_model.specs.Room.{HasRoomForOne}
use Rattle.spectra_trees.specs.Data.{TreeData}
use Rattle.spectra_parser.specs.Shapes.{IsShaped}
use Rattle.spectra_resolved.specs.declared.spot.Spot.{Spot}
use Rattle.spectra_resolved.specs.declared.stand.Stand.{Stand}
use Rattle.spectra_resolved.specs.Resolved.{ResolvedTree}
use Rattle.spectra_judge.specs.Known.{Known}
use Rattle.spectra_judge.specs.Judged as judged
use Rattle.spectra_judge.specs.Judged.{kind_of}
use Rattle.spectra_declared.specs.Wholes.{text_of}
use Rattle.spectra_types.specs.Meanings.{faults_of, meaning_of}
use Rattle.spectra_types.specs.Senses.{Senses, AreOf, HaveOneSense}
use Rattle.spectra_types.specs.Worked.{worked_define, worked_predicate, IsWorked}
use Rattle.spectra_types.specs.Spans.{span_of, has_wide}

-- ---- files without a fault

-- trees as the parser gives them, without a fault, mean a well-typed specification
abbrev pub FaultlessIsWellTyped : Type 0
FaultlessIsWellTyped = (trees : List TreeData) → All IsShaped trees → faults_of trees ≡ [] → WellTyped (meaning_of trees)

-- and it has room for the guarantee that is forced
abbrev pub FaultlessHasRoom : Type 0
FaultlessHasRoom = (trees : List TreeData) → All IsShaped trees → faults_of trees ≡ [] → HasRoomForOne (meaning_of trees)

-- In trees without a fault definitions are what their bodies are in exactly one way, whatever each variable has.
abbrev pub DefinitionsHaveOneSense : Type 0
DefinitionsHaveOneSense = (trees : List TreeData) → All IsShaped trees → faults_of trees ≡ [] → (r : Reading) → HaveOneSense (text_of trees).definitions r

-- ---- others

-- the worked example
abbrev pub UseIsWorked : Type 0
UseIsWorked = (o : Spot) (r : Reading) (s : Senses) → AreOf (worked_define o ∷ worked_predicate o ∷ []) r s → IsWorked o r s

-- That the judge caps ends of spans makes no difference to whether an expression has one that is too wide, nor, where it has none,
-- to what it gives. One without faults has none.
pub record IsExact (known : Known) (t : ResolvedTree) : Type 0 where
  pub wide : has_wide (kind_of known) t ≡ has_wide (span_of known) t
  pub kind : has_wide (span_of known) t ≡ false → kind_of known t ≡ span_of known t
  pub right : (st : Stand) → judged.faults_of known st t ≡ [] → has_wide (span_of known) t ≡ false

abbrev pub SpansAreExact : Type 0
SpansAreExact = (known : Known) (t : ResolvedTree) → IsExact known t
