-- What files mean: one specification, which is well typed, since each tree that a text has is shaped.
use Rattle.std.proofs.Common.{◌≡◌, ℕ, List, [], ◌∷◌, ◌++◌, Some, All, ap, sym, subst, ◌∙◌}
use Rattle.std.proofs.lemmas.List.Elements.{All-nil, All-cons, All-append}
use Rattle.sp_outside.specs.Files.{Files, told_file}
use Rattle.spec_model.specs.Syntax.{Specification}
use Rattle.spec_model.specs.WellTyped.{WellTyped}
use Rattle.spectra_trees.specs.Data.{TreeData}
use Rattle.spectra_parser.specs.Shapes.{IsShaped}
use Rattle.spectra_types.specs.Meanings.{meaning_of}
use Rattle.spectra_types.specs.Laws.{FaultlessIsWellTyped}
use Rattle.spectra_files.specs.Reading.{ReadsAs, Told, FilesReadAs, import_names}
use Rattle.spectra_files.proofs.Readings.{one_reading, files_read_once}
use Rattle.spectra_top.specs.Meanings.{Reads}

-- over told files no text means two specifications
pub one_meaning : (files : Files) (name text : List ℕ) (s s' : Specification) → Reads (told_file (Some files)) name text s → Reads (told_file (Some files)) name text s' → s ≡ s'
one_meaning files name text s s' reads other =
    let main = one_reading text reads.main other.main reads.reads other.reads in
    let read = subst (λ (m : TreeData). FilesReadAs (told_file (Some files)) (import_names name m) reads.imported) main reads.read in
    let imported = files_read_once files (import_names name other.main) reads.imported other.imported read other.read in
    reads.means.meaning
    ∙ (ap (λ (ts : List TreeData). meaning_of (ts ++ reads.main ∷ [])) imported ∙ (ap (λ (m : TreeData). meaning_of (other.imported ++ m ∷ [])) main ∙ sym other.means.meaning))

module _ (shaped_tree : (text : List ℕ) (t : TreeData) → ReadsAs text t → IsShaped t) where
  all_shaped : (told : Told) (names : List (List ℕ)) (trees : List TreeData) → FilesReadAs told names trees → All IsShaped trees
  all_shaped told [] [] all = All-nil IsShaped
  all_shaped told [] (t ∷ trees) all = absurd all
  all_shaped told (n ∷ names) [] all = absurd all
  all_shaped told (n ∷ names) (t ∷ trees) all = All-cons IsShaped t trees (shaped_tree all.0.text t all.0.reads) (all_shaped told names trees all.1)

  -- what a text means is well typed
  pub typed_meaning : FaultlessIsWellTyped → (told : Told) (name text : List ℕ) (s : Specification) → Reads told name text s → WellTyped s
  typed_meaning faultless_typed told name text s reads =
      let imported = all_shaped told (import_names name reads.main) reads.imported reads.read in
      let all = All-append IsShaped reads.imported (reads.main ∷ []) imported (All-cons IsShaped reads.main [] (shaped_tree text reads.main reads.reads) (All-nil IsShaped)) in
      subst WellTyped (sym reads.means.meaning) (faultless_typed (reads.imported ++ reads.main ∷ []) all reads.means.faultless)
