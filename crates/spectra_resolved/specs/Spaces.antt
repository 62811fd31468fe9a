-- Name spaces: lists of declarations in text order. A name stands for its first declaration, and each later one is a fault.
use Rattle.spectra_trees.specs.Faults.{Twice, number_of}
use Rattle.std.specs.Prelude.{ℕ, Bool, List, [], ◌∷◌, ◌++◌, Option, Some, None, find, is_some, option_map, bytes_eq, if◌then◌else◌}
use Rattle.std.specs.Option.{option_or}
use Rattle.spectra_resolved.specs.declared.table.Named.{Named}
use Rattle.spectra_resolved.specs.declared.table.Named.TheVariants as names
use Rattle.spectra_resolved.specs.declared.tree.Leaf.TheVariants as leaves
use Rattle.spectra_resolved.specs.declared.findings.Finding.{Finding}
use Rattle.spectra_resolved.specs.Findings.{fault, first_of_faults}
use Rattle.spectra_resolved.specs.Spots.{MentionData}

-- a declaration: a name, and what it stands for
abbrev pub Entry : Type 0
Entry = MentionData × Named

-- the first declaration of a name
abbrev pub declared : List Entry → List ℕ → Option Named
declared space text = option_map (λ d. d.1) (find (λ d. bytes_eq text d.0.text) space)

-- a look-up with one more name, which stands for this where it stood for nothing
abbrev pub and_name : (List ℕ → Option Named) → List ℕ → Named → List ℕ → Option Named
and_name look name x text = option_or (look text) (if bytes_eq text name then Some x else None)

-- an enum name may stand in several enums; nothing else is declared again
abbrev pub clash : (first : Option Named) → Entry → List Finding
clash None d = []
clash (Some first) d = again first d.1
  where
    again : Named → Named → List Finding
    again (names.Leaf (leaves.EnumName m)) (names.Leaf (leaves.EnumName n)) = []
    again _ _ = fault (number_of Twice) d.0.at ∷ []

-- each declaration whose name has an earlier one, behind those that a look-up finds
abbrev pub clashes_after : (before : List ℕ → Option Named) → List Entry → List Finding
clashes_after before [] = []
clashes_after before (d ∷ ds) = clash (before d.0.text) d ++ clashes_after (and_name before d.0.text d.1) ds

abbrev pub no_names : List ℕ → Option Named
no_names text = None

-- each declaration whose name has an earlier one
abbrev pub clashes : List Entry → List Finding
clashes space = clashes_after no_names space

-- whether some name is declared again
abbrev pub is_doubled : List Entry → Bool
is_doubled space = is_some (first_of_faults (clashes space))
