-- What follows for files from what their texts and their trees are.
use Rattle.std.proofs.Common.{◌≡◌, ℕ, zero, suc, slice_get, List, [], ◌∷◌, ◌++◌, Option, Some, None, refl, sym, subst}
use Rattle.sp_outside.specs.Files.{Files, told_file}
use Rattle.std.specs.FinMap.{get}
use Rattle.spectra_lexer.specs.declared.token.Token.{Token}
use Rattle.spectra_trees.specs.Data.{TreeData}
use Rattle.spectra_trees.specs.Lexemes.{lexemes}
use Rattle.spectra_parser.specs.Texts.{IsText}
use Rattle.spectra_lexer.proofs.Unique.{one_list_of_tokens}
use Rattle.spectra_parser.proofs.WholeText.{one_tree}
use Rattle.spectra_files.specs.Reading.{ReadsAs, Told, FileReadsAs, FilesReadAs}

-- ---- one text

pub one_reading : (text : List ℕ) (t u : TreeData) → ReadsAs text t → ReadsAs text u → t ≡ u
one_reading text t u reads other =
    let tokens = one_list_of_tokens text reads.tokens other.tokens reads.lexed other.lexed in
    one_tree (lexemes text other.tokens) t u (subst (λ (ts : List Token). IsText text ts t) tokens reads.parsed) other.parsed

-- ---- told files

file_read_once : (file : Option (List ℕ)) (t u : TreeData) → FileReadsAs (Some file) t → FileReadsAs (Some file) u → t ≡ u
file_read_once None t u a b = absurd a.holds
file_read_once (Some bytes) t u a b =
    one_reading bytes t u (subst (λ (x : List ℕ). ReadsAs x t) (sym a.holds) a.reads) (subst (λ (x : List ℕ). ReadsAs x u) (sym b.holds) b.reads)

-- files that are told have one list of trees
pub files_read_once : (files : Files) (names : List (List ℕ)) (ts us : List TreeData) → FilesReadAs (told_file (Some files)) names ts → FilesReadAs (told_file (Some files)) names us → ts ≡ us
files_read_once files [] [] [] a b = refl
files_read_once files [] [] (u ∷ us) a b = absurd b
files_read_once files [] (t ∷ ts) us a b = absurd a
files_read_once files (n ∷ names) [] us a b = absurd a
files_read_once files (n ∷ names) (t ∷ ts) [] a b = absurd b
files_read_once files (n ∷ names) (t ∷ ts) (u ∷ us) a b =
    let one = file_read_once (get files n) t u a.0 b.0 in
    let rest = files_read_once files names ts us a.1 b.1 in
    cc

-- one more file behind those that are read
pub one_file_more : (told : Told) (names : List (List ℕ)) (trees : List TreeData) (name : List ℕ) (tree : TreeData) → FilesReadAs told names trees → FileReadsAs (told name) tree → FilesReadAs told (names ++ name ∷ []) (trees ++ tree ∷ [])
one_file_more told [] [] name tree all one = (one, tt)
one_file_more told [] (t ∷ trees) name tree all one = absurd all
one_file_more told (n ∷ names) [] name tree all one = absurd all
one_file_more told (n ∷ names) (t ∷ trees) name tree all one = (all.0, one_file_more told names trees name tree all.1 one)

-- each of files that are read has a tree
pub record HasSomeTree (file : Option (Option (List ℕ))) : Type 0 where
  pub tree : TreeData
  pub reads : FileReadsAs file tree

pub read_among : (told : Told) (names : List (List ℕ)) (trees : List TreeData) → FilesReadAs told names trees → (k : ℕ) (file : List ℕ) → slice_get names k ≡ Some file → HasSomeTree (told file)
read_among told [] trees all k file is = absurd (cc)
read_among told (n ∷ names) [] all k file is = absurd all
read_among told (n ∷ names) (t ∷ trees) all zero file is = let same : n ≡ file = cc in subst (λ (name : List ℕ). HasSomeTree (told name)) same (record { tree = t; reads = all.0 })
read_among told (n ∷ names) (t ∷ trees) all (suc k) file is = read_among told names trees all.1 k file is
