-- Which specification a file means, with the files that it imports, if it means one.
use Rattle.std.specs.Prelude.{◌≡◌, ℕ, List, [], ◌∷◌, ◌++◌}
use Rattle.spec_model.specs.Syntax.{Specification}
use Rattle.spectra_trees.specs.Data.{TreeData}
use Rattle.spectra_types.specs.Meanings.{Means}
use Rattle.spectra_files.specs.Reading.{ReadsAs, import_names, Told, FilesReadAs}

-- a file of this name with this text means the specification, together with the files that it imports, which stand before it
pub record Reads (told : Told) (name text : List ℕ) (s : Specification) : Type 0 where
  pub main : TreeData
  pub imported : List TreeData
  pub reads : ReadsAs text main
  pub read : FilesReadAs told (import_names name main) imported
  pub means : Means (imported ++ main ∷ []) s

-- it means nothing
abbrev pub MeansNothing : Told → (name text : List ℕ) → Type 0
MeansNothing told name text = (s : Specification) → ¬ (Reads told name text s)

-- a text that imports nothing means the specification
pub record ReadsAlone (text : List ℕ) (s : Specification) : Type 0 where
  pub main : TreeData
  pub reads : ReadsAs text main
  pub alone : main.imports ≡ []
  pub means : Means (main ∷ []) s
