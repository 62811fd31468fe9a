-- How the program ends: its statuses, and the lines that it may write last.
use Rattle.std.specs.Prelude.{◌≡◌, ◌⊎◌, ℕ, List, [], ◌∷◌, ◌++◌, length, codes}
use Rattle.std.specs.Fmt.{decimal}
use Rattle.spectra_trees.specs.Faults.{fault_text}
use Rattle.spectra_talks.specs.declared.status.Status.{Status}
use Rattle.spectra_talks.specs.declared.status.Status.TheVariants.{Done, Other, Words, Refused, Assumption, Budget, BadLine, ShelfFault, InputFault, OutputFault, Memory, NoFile, Limit, TableRefused, SizeLimit}

-- ---- statuses

-- the output or memory failed
abbrev pub IsCutShort : Status → Type 0
IsCutShort OutputFault = Unit {0}
IsCutShort Memory = Unit {0}
IsCutShort _ = ⊥

-- the status is this one, where the output and memory did not fail
abbrev pub IsUnlessCut : Status → Status → Type 0
IsUnlessCut expected status = (status ≡ expected) ⊎ IsCutShort status

-- the status is this one, where nothing that lies outside failed
abbrev pub IsUnlessFault : Status → Status → Type 0
IsUnlessFault expected status = (status ≡ expected) ⊎ ((status ≡ ShelfFault) ⊎ IsCutShort status)

-- ---- verdicts and cores

abbrev pub realizable_text : ℕ → List ℕ
realizable_text k = codes "realizable K=" ++ (decimal k ++ 10 ∷ [])

abbrev pub unrealizable_text : (n m : ℕ) → List ℕ
unrealizable_text n m = codes "unrealizable N=" ++ (decimal n ++ (codes " M=" ++ (decimal m ++ 10 ∷ [])))

-- the numbers of lines, one on each line
abbrev pub numbers_text : List ℕ → List ℕ
numbers_text [] = []
numbers_text (n ∷ ns) = 35 ∷ (decimal n ++ (10 ∷ numbers_text ns))

-- how many lines a core has, and their numbers
abbrev pub core_text : List ℕ → List ℕ
core_text core = codes "core " ++ (decimal (length core) ++ (10 ∷ numbers_text core))

-- what stands above the verdict on an arbiter
abbrev pub arbiter_line : ℕ → List ℕ
arbiter_line clients = codes "arbiter " ++ (decimal clients ++ 10 ∷ [])

-- ---- orders of the variables

-- how many parts there are
abbrev pub nodes_text : ℕ → List ℕ
nodes_text nodes = codes "nodes " ++ (decimal nodes ++ 10 ∷ [])

-- the names, each behind a blank
abbrev pub names_text : List (List ℕ) → List ℕ
names_text [] = []
names_text (name ∷ names) = 32 ∷ (name ++ names_text names)

-- an order, by the names
abbrev pub order_text : List (List ℕ) → List ℕ
order_text names = codes "order" ++ (names_text names ++ 10 ∷ [])

-- ---- endings

-- How a run ends that neither the output nor memory cuts short.
pub data Ending : Type 0 where
  usage : Ending
  no_file : (name : List ℕ) → Ending
  shelf_fault : (name : List ℕ) → Ending
  refused : (name : List ℕ) (line column number : ℕ) → Ending
  realizable : (k : ℕ) → Ending
  unrealizable : (n m : ℕ) → Ending
  realizable_instead : (k : ℕ) → Ending
  with_core : (n m : ℕ) (core : List ℕ) → Ending
  separated : (n m : ℕ) → Ending
  not_separated : (k : ℕ) → Ending
  node_budget : (nodes : ℕ) → Ending
  no_better_order : (nodes : ℕ) → Ending
  better_order : (nodes : ℕ) (names : List (List ℕ)) (fewer : ℕ) → Ending
  all_answered : Ending
  broken : (line : ℕ) → Ending
  bad_line : (line : ℕ) → Ending
  guarantee_broken : (line : ℕ) → Ending
  audited : (positions : ℕ) → Ending
  audit_broken : (line position : ℕ) → Ending
  state_limit : Ending
  exported : (text : List ℕ) → Ending
  verified_system : (k : ℕ) → Ending
  verified_environment : (n m : ℕ) → Ending
  not_verified : (rule node : ℕ) → Ending
  table_refused : Ending
  size_limit : Ending
  input_fault : Ending
  output_fault : Ending

-- the last line of each, with its line feed, and its status
abbrev pub row : Ending → List ℕ × Status
row usage = (codes "usage: spectra COMMAND FILE [--nodes N]\n", Words)
row (no_file name) = (codes "no such file: " ++ name ++ 10 ∷ [], NoFile)
row (shelf_fault name) = (codes "file fault: " ++ name ++ 10 ∷ [], ShelfFault)
row (refused name line column number) = (name ++ 58 ∷ (decimal line ++ 58 ∷ (decimal column ++ (codes ": fault " ++ (fault_text number ++ 10 ∷ [])))), Refused)
row (realizable k) = (realizable_text k, Done)
row (unrealizable n m) = (unrealizable_text n m, Other)
row (realizable_instead k) = (realizable_text k, Other)
row (with_core n m core) = (unrealizable_text n m ++ core_text core, Done)
row (separated n m) = (codes "separated N=" ++ (decimal n ++ (codes " M=" ++ (decimal m ++ 10 ∷ []))), Done)
row (not_separated k) = (codes "not separated K=" ++ (decimal k ++ 10 ∷ []), Other)
row (node_budget nodes) = (codes "node budget " ++ (decimal nodes ++ codes " reached\n"), Budget)
row (no_better_order nodes) = (codes "nodes " ++ (decimal nodes ++ codes "\nno better order\n"), Done)
row (better_order nodes names fewer) = (nodes_text nodes ++ (order_text names ++ nodes_text fewer), Done)
row all_answered = ([], Done)
row (broken line) = (codes "assumption broken #" ++ (decimal line ++ codes "\n"), Assumption)
row (bad_line line) = (codes "line " ++ (decimal line ++ codes " refused\n"), BadLine)
row (guarantee_broken line) = (codes "guarantee broken #" ++ (decimal line ++ codes "\n"), Done)
row (audited positions) = (codes "audit ok " ++ (decimal positions ++ codes "\n"), Done)
row (audit_broken line position) = (codes "audit broken #" ++ (decimal line ++ (codes " line " ++ (decimal position ++ codes "\n"))), Other)
row state_limit = (codes "state limit reached\n", Limit)
row (exported text) = (text ++ 10 ∷ [], Done)
row (verified_system k) = (codes "verified K=" ++ (decimal k ++ 10 ∷ []), Done)
row (verified_environment n m) = (codes "verified N=" ++ (decimal n ++ (codes " M=" ++ (decimal m ++ 10 ∷ []))), Done)
row (not_verified rule node) = (codes "not verified rule " ++ (decimal rule ++ (codes " node " ++ (decimal node ++ 10 ∷ []))), Other)
row table_refused = (codes "table refused\n", TableRefused)
row size_limit = (codes "size limit reached\n", SizeLimit)
row input_fault = (codes "input fault\n", InputFault)
row output_fault = ([], OutputFault)

abbrev pub line_of : Ending → List ℕ
line_of e = (row e).0

abbrev pub status_of : Ending → Status
status_of e = (row e).1
