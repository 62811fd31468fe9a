-- Which tree a text has, which files it imports, and which trees these have.
use Rattle.spectra_trees.specs.Faults.{NotUtf8, BadCharacter, TooLong, Parentheses, TooDeep, Unexpected, number_of}
use Rattle.std.specs.Prelude.{◌≡◌, ℕ, List, [], ◌∷◌, ◌++◌, map, Option, Some, None, option_map, unwrap_or, slice_get, take, ◌==◌, if◌then◌else◌}
use Rattle.std.specs.List.{list_any}
use Rattle.sp_outside.specs.Files.{HasFile}
use Rattle.spectra_lexer.specs.declared.token.Token.{Token}
use Rattle.spectra_lexer.specs.Tokens.{AreTokens}
use Rattle.spectra_lexer.specs.Faults.{IsNotUtf8At, IsBadAt, IsTooLong}
use Rattle.spectra_trees.specs.Data.{NameData, TreeData}
use Rattle.spectra_trees.specs.Lexemes.{lexemes}
use Rattle.spectra_exprs.specs.declared.fault.SyntaxFault.{SyntaxFault}
use Rattle.spectra_exprs.specs.declared.fault.SyntaxFault.TheVariants as syntax
use Rattle.spectra_parser.specs.Texts.{IsText, Explains}

-- ---- one text

-- the text has tokens, and these have the tree
pub record ReadsAs (text : List ℕ) (tree : TreeData) : Type 0 where
  pub tokens : List Token
  pub lexed : AreTokens text tokens
  pub parsed : IsText text tokens tree

-- the token that a fault of the grammar names, and the fault's number; want of memory names none
abbrev pub named_by : SyntaxFault → Option (ℕ × ℕ)
named_by (syntax.Unexpected at) = Some (at, number_of Unexpected)
named_by (syntax.TooDeep at) = Some (at, number_of TooDeep)
named_by (syntax.Parentheses at) = Some (at, number_of Parentheses)
named_by syntax.Memory = None

-- the line and the column of a token, by its number
abbrev pub place_of_token : List Token → ℕ → ℕ × ℕ
place_of_token tokens at = unwrap_or (option_map (λ t. (t.line, t.column)) (slice_get tokens at)) (1, 1)

-- a fault of the grammar by its number, at the token that it names
pub record IsUngrammaticalAt (text : List ℕ) (number line column : ℕ) : Type 0 where
  pub tokens : List Token
  pub fault : SyntaxFault
  pub at : ℕ
  pub lexed : AreTokens text tokens
  pub explains : Explains (lexemes text tokens) fault
  pub named : named_by fault ≡ Some (at, number)
  pub place : place_of_token tokens at ≡ (line, column)

-- The text has no tree, by the fault of this number at this line and column: it is no UTF-8, a character begins no token, it
-- is too long, or its tokens are none of the grammar.
pub data IsRefusedAt (text : List ℕ) (line column : ℕ) : (number : ℕ) → Type 0 where
  not_utf8 : IsNotUtf8At text line column → IsRefusedAt text line column (number_of NotUtf8)
  bad_character : IsBadAt text line column → IsRefusedAt text line column (number_of BadCharacter)
  too_long : IsTooLong text → line ≡ 1 → column ≡ 1 → IsRefusedAt text line column (number_of TooLong)
  ungrammatical : {number : ℕ} → IsUngrammaticalAt text number line column → IsRefusedAt text line column number

-- ---- names of files

-- the front of a file's name up to and including its last `/`
abbrev pub folder_of : List ℕ → List ℕ
folder_of [] = []
folder_of (c ∷ cs) = if list_any (λ b. b == 47) (c ∷ cs) then c ∷ folder_of cs else []

-- the name of the file that a file imports by this text
abbrev pub import_name : (file text : List ℕ) → List ℕ
import_name file text = folder_of file ++ text

-- the files that the file of a tree imports, in the order in which it names them
abbrev pub import_names : (file : List ℕ) → TreeData → List (List ℕ)
import_names file tree = map (λ (n : NameData). import_name file n.text) tree.imports

-- ---- several files

-- what a shelf tells of each name
abbrev pub Told : Type 0
Told = List ℕ → Option (Option (List ℕ))

-- the file, of which this is told, has the tree; where nothing is told of it, its text is some text
pub record FileReadsAs (file : Option (Option (List ℕ))) (tree : TreeData) : Type 0 where
  pub text : List ℕ
  pub holds : HasFile file (λ bytes. bytes ≡ text)
  pub reads : ReadsAs text tree

-- the files of these names have these trees
abbrev pub FilesReadAs : Told → List (List ℕ) → List TreeData → Type 0
FilesReadAs told [] [] = Unit {0}
FilesReadAs told [] (tree ∷ trees) = ⊥
FilesReadAs told (name ∷ names) [] = ⊥
FilesReadAs told (name ∷ names) (tree ∷ trees) = FileReadsAs (told name) tree × FilesReadAs told names trees

-- among the files that the main one imports, which has this name and this tree, those before this one are read
pub record ComesNext (told : Told) (name : List ℕ) (main : TreeData) (file : List ℕ) : Type 0 where
  pub number : ℕ
  pub trees : List TreeData
  pub named : slice_get (import_names name main) number ≡ Some file
  pub read : FilesReadAs told (take number (import_names name main)) trees

-- each file that it imports is there, where that is told
abbrev pub ImportsAreThere : Told → (name text : List ℕ) → Type 0
ImportsAreThere told name text = (main : TreeData) (k : ℕ) (file : List ℕ) → ReadsAs text main → slice_get (import_names name main) k ≡ Some file → ¬ (told file ≡ Some None)

-- the first file that it imports and that isn't read, isn't there
pub record MissesImport (told : Told) (name text : List ℕ) : Type 0 where
  pub main : TreeData
  pub file : List ℕ
  pub reads : ReadsAs text main
  pub next : ComesNext told name main file
  pub missing : told file ≡ Some None
