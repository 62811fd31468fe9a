-- What the program answers for files and texts that have no tree.
use Rattle.spectra_trees.specs.Faults.{NotUtf8, BadCharacter, TooLong, number_of}
use Rattle.std.specs.Prelude.{◌≡◌, ℕ, List, take, slice_get, Option, Some, None}
use Rattle.sp_outside.specs.Files.{HasNoFile, HasFile}
use Rattle.spectra_lexer.specs.declared.fault.LexFault.{LexFault}
use Rattle.spectra_lexer.specs.declared.fault.LexFault.TheVariants as lexer
use Rattle.spectra_lexer.specs.declared.token.Token.{Token}
use Rattle.spectra_exprs.specs.declared.fault.SyntaxFault.{SyntaxFault}
use Rattle.spectra_trees.specs.Data.{TreeData}
use Rattle.spectra_files.specs.declared.placing.TextFault.{TextFault}
use Rattle.spectra_files.specs.declared.placing.TextFault.TheVariants as texts
use Rattle.spectra_files.specs.declared.reading.NoTree.{NoTree}
use Rattle.spectra_files.specs.declared.reading.NoTree.TheVariants as files
use Rattle.spectra_files.specs.declared.reading.Stop.{Stop}
use Rattle.spectra_files.specs.Reading.{named_by, place_of_token, IsRefusedAt, Told, FilesReadAs}

-- ---- one text

abbrev pub lexing_fault : LexFault → TextFault
lexing_fault (lexer.NotUtf8 line column) = texts.Refused (number_of NotUtf8) line column
lexing_fault (lexer.BadCharacter line column) = texts.Refused (number_of BadCharacter) line column
lexing_fault lexer.TooLong = texts.Refused (number_of TooLong) 1 1
lexing_fault lexer.Memory = texts.Memory

abbrev pub refused_at : (place : ℕ × ℕ) → (number : ℕ) → TextFault
refused_at place number = texts.Refused number place.0 place.1

abbrev pub fault_at : List Token → Option (ℕ × ℕ) → TextFault
fault_at tokens (Some named) = refused_at (place_of_token tokens named.0) named.1
fault_at tokens None = texts.Memory

abbrev pub parsing_fault : List Token → SyntaxFault → TextFault
parsing_fault tokens fault = fault_at tokens (named_by fault)

-- what a fault says of a text; of want of memory nothing is said
abbrev pub RefusesText : (text : List ℕ) → TextFault → Type 0
RefusesText text (texts.Refused number line column) = IsRefusedAt text line column number
RefusesText text texts.Memory = Unit {0}

-- ---- one file

-- why a file has no tree whose text has none
abbrev pub file_fault : TextFault → NoTree
file_fault (texts.Refused number line column) = files.Refused number line column
file_fault texts.Memory = files.Memory

-- what the answer says of a file, of which this is told; `shelf_failed` is that the shelf's faults rose
abbrev pub HasNoTree : (file : Option (Option (List ℕ))) → (shelf_failed : Type 0) → NoTree → Type 0
HasNoTree file shelf_failed files.Missing = HasNoFile file
HasNoTree file shelf_failed files.Shelf = shelf_failed
HasNoTree file shelf_failed (files.Refused number line column) = (text : List ℕ) × HasFile file (λ bytes. bytes ≡ text) × IsRefusedAt text line column number
HasNoTree file shelf_failed files.Memory = Unit {0}

-- ---- several files

-- the files before it are read, and the file of this number, among these names, is not
pub record StopsAt (told : Told) (shelf_failed : Type 0) (names : List (List ℕ)) (stop : Stop) : Type 0 where
  pub file : List ℕ
  pub trees : List TreeData
  pub named : slice_get names stop.number ≡ Some file
  pub read : FilesReadAs told (take stop.number names) trees
  pub has_none : HasNoTree (told file) shelf_failed stop.why
