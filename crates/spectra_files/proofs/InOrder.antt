-- Files that are read one after another.
use Rattle.std.proofs.Common.{◌≡◌, ◌<◌, ◌≤◌, arith, ℕ, ◌+◌, List, [], ◌∷◌, ◌++◌, length, map, take, get_or, slice_get, option_map, Option, Some, sym, ap, subst, ◌∙◌}
use Rattle.std.proofs.lemmas.List.{take_more, length-map}
use Rattle.std.proofs.lemmas.Option.{slice_get-map, slice_get-get_or, slice_get_within, get_or_from_slice_get}
use Rattle.sp_outside.specs.Causes.{Rose}
use Rattle.sp_outside.specs.Files.{Files, told_file}
use Rattle.spectra_trees.specs.Data.{NameData, TreeData}
use Rattle.spectra_parser.specs.Shapes.{IsShaped}
use Rattle.spectra_files.specs.declared.reading.NoTree.{NoTree}
use Rattle.spectra_files.specs.declared.reading.NoTree.TheVariants as files
use Rattle.spectra_files.specs.declared.reading.Stop.{Stop}
use Rattle.spectra_files.specs.Reading.{import_name, import_names, Told, FileReadsAs, FilesReadAs}
use Rattle.spectra_files.specs.Refusals.{HasNoTree, StopsAt}
use Rattle.spectra_files.proofs.Readings.{one_file_more}

-- the name at a place of a list, by what is listed
pub named_at : {X : Type 0} (bytes_of : X → List ℕ) (names : List X) (k : ℕ) (name : X) → k < length names → name ≡ get_or names k name → slice_get (map bytes_of names) k ≡ Some (bytes_of name)
named_at bytes_of names k name within is = slice_get-map bytes_of names k ∙ ap (option_map bytes_of) (slice_get-get_or names k name within ∙ ap Some (sym is))

front_more : (names : List (List ℕ)) (k : ℕ) (name : List ℕ) → k < length names → slice_get names k ≡ Some name → take (k + 1) names ≡ take k names ++ name ∷ []
front_more names k name within is = take_more names k name within ∙ ap (λ n. take k names ++ n ∷ []) (get_or_from_slice_get names k name name is)

-- where a file has no tree, the shelf having failed between two moments, it did so between earlier ones
fails_too : (file : Option (Option (List ℕ))) (failed failed' : Type 0) → (failed → failed') → (why : NoTree) → HasNoTree file failed why → HasNoTree file failed' why
fails_too file failed failed' more files.Missing none = none
fails_too file failed failed' more files.Shelf rose = more rose
fails_too file failed failed' more (files.Refused number line column) is = is
fails_too file failed failed' more files.Memory none = tt

pub rose_before : (a b c : ℕ) → a ≤ b → Rose b c → Rose a c
rose_before a b c later rose = omega (arith, later, rose)

module _ {X : Type 0} (bytes_of : X → List ℕ) (shelf shelf' : Option Files) (same : shelf' ≡ shelf) (names : List X) (k : ℕ) (name : X) (trees : List TreeData) (within : k < length names) (item : name ≡ get_or names k name)
    (read : FilesReadAs (told_file shelf) (take k (map bytes_of names)) trees) where
  -- the file of the next name is read too
  pub next_read : (tree : TreeData) → FileReadsAs (told_file shelf' (bytes_of name)) tree → FilesReadAs (told_file shelf) (take (k + 1) (map bytes_of names)) (trees ++ tree ∷ [])
  next_read tree one =
      let here = subst (λ (s : Option Files). FileReadsAs (told_file s (bytes_of name)) tree) same one in
      let more = one_file_more (told_file shelf) (take k (map bytes_of names)) trees (bytes_of name) tree read here in
      let is = front_more (map bytes_of names) k (bytes_of name) (subst (λ (n : ℕ). k < n) (sym (length-map names bytes_of)) within) (named_at bytes_of names k name within item) in
      subst (λ (ns : List (List ℕ)). FilesReadAs (told_file shelf) ns (trees ++ tree ∷ [])) (sym is) more

  -- or it is the first that isn't
  pub stops_here : (failed failed' : Type 0) → (failed → failed') → (why : NoTree) → HasNoTree (told_file shelf' (bytes_of name)) failed why → StopsAt (told_file shelf) failed' (map bytes_of names) (record { number = k; why = why })
  stops_here failed failed' more why none =
      record {
        file = bytes_of name;
        trees = trees;
        named = named_at bytes_of names k name within item;
        read = read;
        has_none = fails_too (told_file shelf (bytes_of name)) failed failed' more why (subst (λ (s : Option Files). HasNoTree (told_file s (bytes_of name)) failed why) same none);
      }

-- the file that isn't read has a name
pub stop_within : {X : Type 0} (bytes_of : X → List ℕ) (names : List X) (told : Told) (failed : Type 0) (stop : Stop) → StopsAt told failed (map bytes_of names) stop → stop.number < length names
stop_within bytes_of names told failed stop stops =
    subst (λ (n : ℕ). stop.number < n) (length-map names bytes_of) (slice_get_within (map bytes_of names) stop.number stops.file stops.named)

-- a file imports no more files than a text has bytes
pub few_names : {X : Type 0} (bytes_of : X → List ℕ) (names : List X) (name : List ℕ) (main : TreeData) → map bytes_of names ≡ import_names name main → IsShaped main → length names ≤ 1_048_576
few_names bytes_of names name main are shaped =
    let few = shaped.few_imports in
    let long : length names ≡ length main.imports =
    sym (length-map names bytes_of) ∙ (ap length are ∙ length-map main.imports (λ (n : NameData). import_name name n.text)) in
    omega (arith, few, long)
