-- What the program does for words and files.
use Rattle.std.specs.Prelude.{◌≡◌, ◌⊎◌, ◌<◌, ◌≤◌, ℕ, List, [], ◌∷◌, ◌++◌, length, get_or, codes, Option, Some, None}
use Rattle.std.specs.Io.KnownBytes.{Appends}
use Rattle.sp_outside.specs.Causes.{Rose}
use Rattle.sp_outside.specs.Written.{AppendsFront}
use Rattle.sp_outside.specs.Files.{Files, told_file, HasNoFile, HasFile}
use Rattle.spec_model.specs.Syntax.{Specification}
use Rattle.spec_model.specs.Cores.{forced, IsLeft, IsCore}
use Rattle.spec_model.specs.Needs.{need_of, Tried}
use Rattle.spectra_trees.specs.Data.{TreeData}
use Rattle.spectra_resolved.specs.Findings.{fault, first_of_faults}
use Rattle.spectra_types.specs.Meanings.{faults_of, Means}
use Rattle.hidden_game.specs.GameOf.{game_of}
use Rattle.solve.specs.Winners.{IsWonBySystem, IsWonByEnvironment}
use Rattle.solve.specs.Crowded.{Crowded}
use Rattle.spec_order.specs.declared.report.Better.{Better}
use Rattle.spec_order.specs.declared.report.OrderReport.{OrderReport}
use Rattle.spec_order.specs.Reports.{IsReport}
use Rattle.spec_order.specs.Crowded.{CrowdedOrder}
use Rattle.spec_gen.specs.Arbiter.{arbiter_text}
use Rattle.command_words.specs.declared.words.Command.{Command}
use Rattle.command_words.specs.declared.words.Command.TheVariants.{Synth, Run, Many, Order, Core, Separate, Counter, Audit, Export, Verify}
use Rattle.command_words.specs.Commands.{Asks, AsksArbiter, AskNothing}
use Rattle.spectra_talks.specs.declared.status.Status.{Status}
use Rattle.spectra_talks.specs.declared.status.Status.TheVariants.{Words, Refused, ShelfFault, InputFault, OutputFault, Memory, NoFile}
use Rattle.spectra_talks.specs.Endings.{Ending, IsUnlessCut, IsUnlessFault, usage, no_file, shelf_fault, refused, realizable, unrealizable, realizable_instead, with_core, separated, not_separated, node_budget, no_better_order, better_order, size_limit, arbiter_line}
use Rattle.spectra_talks.specs.Streams.{Moment, IsUnread, Ends, WantsMemory}
use Rattle.spectra_talks.specs.Orders.{names_by}
use Rattle.spectra_talks.specs.Sessions.{Holds, Counters, Audits}
use Rattle.spectra_talks.specs.Hosting.{Hosts}
use Rattle.spectra_talks.specs.Verifying.{Verifies}
use Rattle.spectra_talks.specs.Exporting.{ExportsSystem, ExportsEnvironment}
use Rattle.spectra_files.specs.Reading.{ReadsAs, IsRefusedAt, import_names, Told, FileReadsAs, FilesReadAs, ComesNext, ImportsAreThere, MissesImport}
use Rattle.spectra_top.specs.Meanings.{Reads, MeansNothing, ReadsAlone}

-- ---- one file

-- How the run ends at a file of this name, of which this is told: there is none, the shelf failed, or its text is refused.
pub data Stops (file : Option (Option (List ℕ))) (shelf_failed : Type 0) (name : List ℕ) : Ending → Type 0 where
  missing : HasNoFile file → Stops file shelf_failed name (no_file name)
  failed : shelf_failed → Stops file shelf_failed name (shelf_fault name)
  is_refused : (text : List ℕ) (number line column : ℕ) → HasFile file (λ bytes. bytes ≡ text) → IsRefusedAt text line column number → Stops file shelf_failed name (refused name line column number)

-- ---- below a line

-- the line was written, and nothing else was done
pub record IsHeaded (line : List ℕ) (before after : Moment) : Type 0 where
  pub unread : IsUnread before after
  pub written : Appends before.written after.written line
  pub later : before.write_faults ≤ after.write_faults

module _ (line : List ℕ) (Does : (before after : Moment) → Status → Type 0) (before after : Moment) where
  -- Below the line something was done; or the output failed at the line, or no memory was given for it. Then the input was not
  -- read.
  pub data Heads : Status → Type 0 where
    headed : {status : Status} (between : Moment) → IsHeaded line before between → Does between after status → Heads status
    cut_at_once : IsUnread before after → AppendsFront before.written after.written line → Rose before.write_faults after.write_faults → Heads OutputFault
    no_room : {status : Status} → WantsMemory before after status → Heads status

-- ---- what is done for a command, with so many nodes

-- the specification that a command is about: for `separate` the one whose one guarantee can never be met
abbrev pub solved_for : Command → Specification → Specification
solved_for Separate s = forced s
solved_for _ s = s

-- the commands that make diagrams of its game, and so need nodes
abbrev pub Solves : Command → Type 0
Solves Audit = ⊥
Solves Verify = ⊥
Solves _ = Unit {0}

-- `order` is for at most so many declared variables
abbrev pub HasFewVariables : Specification → Type 0
HasFewVariables s = length s.variables ≤ 32

-- Named sets of its game fill so many nodes; for `core`, those of one that trying the guarantees asks about. For `order` it is the
-- functions of its lines that do, under an order that is tried.
abbrev pub AreFilled : Command → (nodes : ℕ) → Specification → Type 0
AreFilled Order nodes s = HasFewVariables s × CrowdedOrder s nodes
AreFilled Core nodes s = (part : Specification) × Tried s part × Crowded (game_of part) nodes
AreFilled command nodes s = Crowded (game_of (solved_for command s)) nodes

-- what is said of how large the diagrams of the lines are, and of a better order of the variables, by their names
abbrev pub order_ending : Specification → (nodes : ℕ) → Option Better → Ending
order_ending s nodes None = no_better_order nodes
order_ending s nodes (Some better) = better_order nodes (names_by s.variables better.order.items) better.nodes

module _ (command : Command) (nodes : ℕ) where
  -- By who wins. `synth` writes the verdict, and so do `run`, `many`, `counter` and `core` where the other side wins than they are
  -- for. Where the system wins, `run` holds a session, and `many` as many as the input has; where the environment does, `counter`
  -- holds one, and `core` writes what trying the guarantees in order leaves, which is a core. `export` writes the table of the side
  -- that wins. `separate` says who wins with a guarantee that can never be met alone. `audit` reads a log, whoever wins, and
  -- `verify` a table, so that the nodes never run out there. `order` says how large the diagrams of the lines are, and a better
  -- order of the variables where moving one at a time finds one; where there are more variables than it is for, it says so. The
  -- nodes run out only where there are fewer than the specification needs, and named sets of its game fill them.
  module _ (s : Specification) (before after : Moment) where
    pub data Decides : Status → Type 0 where
      won : {status : Status} (k : ℕ) → command ≡ Synth → IsWonBySystem s k → Ends (realizable k) before after status → Decides status
      held : {status : Status} (k : ℕ) → command ≡ Run → IsWonBySystem s k → Holds s k before after status → Decides status
      hosted : {status : Status} (k : ℕ) → command ≡ Many → IsWonBySystem s k → Hosts s (game_of s) k before after status → Decides status
      lost : {status : Status} (n m : ℕ) → (command ≡ Synth) ⊎ ((command ≡ Run) ⊎ (command ≡ Many)) → IsWonByEnvironment s n m → Ends (unrealizable n m) before after status → Decides status
      won_instead : {status : Status} (k : ℕ) → (command ≡ Core) ⊎ (command ≡ Counter) → IsWonBySystem s k → Ends (realizable_instead k) before after status → Decides status
      has_core : {status : Status} (n m : ℕ) (core : List ℕ) → command ≡ Core → IsWonByEnvironment s n m → IsLeft s core → IsCore s core → Ends (with_core n m core) before after status → Decides status
      countered : {status : Status} (n m : ℕ) → command ≡ Counter → IsWonByEnvironment s n m → Counters s n m before after status → Decides status
      separates : {status : Status} (n m : ℕ) → command ≡ Separate → IsWonByEnvironment (forced s) n m → Ends (separated n m) before after status → Decides status
      separates_not : {status : Status} (k : ℕ) → command ≡ Separate → IsWonBySystem (forced s) k → Ends (not_separated k) before after status → Decides status
      audits : {status : Status} → command ≡ Audit → Audits s before after status → Decides status
      exports : {status : Status} (k : ℕ) → command ≡ Export → IsWonBySystem s k → ExportsSystem s k before after status → Decides status
      exports_counter : {status : Status} (n m : ℕ) → command ≡ Export → IsWonByEnvironment s n m → ExportsEnvironment s n m before after status → Decides status
      verifies : {status : Status} → command ≡ Verify → Verifies s before after status → Decides status
      orders : {status : Status} (report : OrderReport) → command ≡ Order → HasFewVariables s → IsReport s report → Ends (order_ending s report.nodes report.better) before after status → Decides status
      orders_not : {status : Status} → command ≡ Order → 32 < length s.variables → Ends size_limit before after status → Decides status
      budget : {status : Status} → Solves command → nodes < need_of (solved_for command s) → AreFilled command nodes s → Ends (node_budget nodes) before after status → Decides status
      no_memory : {status : Status} → WantsMemory before after status → Decides status

  -- with the main file of this name
  module _ (name : List ℕ) (before after : Moment) where
    -- For the trees of the files of these names, and behind them the main one's: the first fault of names and types is told, or
    -- what they mean together is decided.
    pub data ServesTrees (names : List (List ℕ)) (trees : List TreeData) : Status → Type 0 where
      mistyped : {status : Status} (number tree line column : ℕ) → first_of_faults (faults_of trees) ≡ Some (fault number (record { file = tree; line = line; column = column })) →
          Ends (refused (get_or names tree name) line column number) before after status → ServesTrees names trees status
      means : {status : Status} (s : Specification) → Means trees s → Decides s before after status → ServesTrees names trees status
      no_memory : {status : Status} → WantsMemory before after status → ServesTrees names trees status

  -- and over a shelf that tells this; `shelf_failed` is that the shelf's faults rose
  module _ (told : Told) (shelf_failed : Type 0) (name : List ℕ) (before after : Moment) where
    -- for the main file's tree: the files that it imports are read in order, and the first that isn't read is told
    pub data ServesTree (main : TreeData) : Status → Type 0 where
      stopped : {status : Status} (file : List ℕ) (e : Ending) → ComesNext told name main file → Stops (told file) shelf_failed file e → Ends e before after status → ServesTree main status
      together : {status : Status} (imported : List TreeData) → FilesReadAs told (import_names name main) imported → ServesTrees name before after (import_names name main) (imported ++ main ∷ []) status → ServesTree main status
      no_memory : {status : Status} → WantsMemory before after status → ServesTree main status

    -- for the main file's text
    pub data ServesText (text : List ℕ) : Status → Type 0 where
      is_refused : {status : Status} (number line column : ℕ) → IsRefusedAt text line column number → Ends (refused name line column number) before after status → ServesText text status
      of_tree : {status : Status} (main : TreeData) → ReadsAs text main → ServesTree main status → ServesText text status
      no_memory : {status : Status} → WantsMemory before after status → ServesText text status

    -- for the main file. Where nothing is told of it, it is served as some text.
    pub data ServesFile : Status → Type 0 where
      stopped : {status : Status} (e : Ending) → Stops (told name) shelf_failed name e → Ends e before after status → ServesFile status
      of_tree : {status : Status} (main : TreeData) → FileReadsAs (told name) main → ServesTree main status → ServesFile status
      no_memory : {status : Status} → WantsMemory before after status → ServesFile status

-- ---- for an arbiter of so many clients, with so many nodes

-- the name under which its text would be refused
abbrev pub arbiter_name : List ℕ
arbiter_name = codes "arbiter"

-- its line is written, and then what `synth` writes for its text, which imports nothing
abbrev pub ServesArbiter : Told → (shelf_failed : Type 0) → (clients nodes : ℕ) → (before after : Moment) → Status → Type 0
ServesArbiter told shelf_failed clients nodes = Heads (arbiter_line clients) (λ before after. ServesText Synth nodes told shelf_failed arbiter_name before after (arbiter_text clients))

-- its line is written, and then the verdict on the specification that its text means
abbrev pub DecidesArbiter : (clients nodes : ℕ) → Specification → (before after : Moment) → Status → Type 0
DecidesArbiter clients nodes s = Heads (arbiter_line clients) (Decides Synth nodes s)

-- ---- for words, over these files

module _ (words : List (List ℕ)) (shelf : Option Files) (shelf_failed : Type 0) (before after : Moment) where
  pub data ServesWords : Status → Type 0 where
    no_command : {status : Status} → AskNothing words → Ends usage before after status → ServesWords status
    asked : {status : Status} (command : Command) (name : List ℕ) (nodes : ℕ) → Asks words command name nodes → ServesFile command nodes (told_file shelf) shelf_failed name before after status → ServesWords status
    arbiter : {status : Status} (clients nodes : ℕ) → AsksArbiter words clients nodes → ServesArbiter (told_file shelf) shelf_failed clients nodes before after status → ServesWords status
    no_memory : {status : Status} → WantsMemory before after status → ServesWords status

  -- a told file whose text reads, with the files that it imports, is decided, unless the shelf failed
  abbrev pub DecidesWhatReads : Status → Type 0
  DecidesWhatReads status =
      (command : Command) (name : List ℕ) (nodes : ℕ) (text : List ℕ) (s : Specification) → Asks words command name nodes → told_file shelf name ≡ Some (Some text) → Reads (told_file shelf) name text s → ¬ shelf_failed →
      Decides command nodes s before after status

-- an arbiter whose text reads is decided below its line
abbrev pub DecidesArbiters : List (List ℕ) → (before after : Moment) → Status → Type 0
DecidesArbiters words before after status = (clients nodes : ℕ) (s : Specification) → AsksArbiter words clients nodes → ReadsAlone (arbiter_text clients) s → DecidesArbiter clients nodes s before after status

-- Words that are no command get their status, and so do names of no file, of the main one or of one that it imports, and files
-- that mean nothing.
module _ (words : List (List ℕ)) (shelf : Option Files) where
  pub record Refuses (status : Status) : Type 0 where
    pub nothing_asked : AskNothing words → IsUnlessCut Words status
    pub no_such_file : (command : Command) (name : List ℕ) (nodes : ℕ) → Asks words command name nodes → told_file shelf name ≡ Some None → IsUnlessFault NoFile status
    pub no_such_import : (command : Command) (name : List ℕ) (nodes : ℕ) (text : List ℕ) → Asks words command name nodes → told_file shelf name ≡ Some (Some text) → MissesImport (told_file shelf) name text → IsUnlessFault NoFile status
    pub refused_text : (command : Command) (name : List ℕ) (nodes : ℕ) (text : List ℕ) → Asks words command name nodes → told_file shelf name ≡ Some (Some text) → ImportsAreThere (told_file shelf) name text →
        MeansNothing (told_file shelf) name text → IsUnlessFault Refused status

-- each status that tells of a failure comes only where there was one, and that of memory as is said of it
module _ (shelf_failed wanted : Type 0) (before after : Moment) where
  abbrev pub HasCause : Status → Type 0
  HasCause ShelfFault = shelf_failed
  HasCause InputFault = Rose before.read_faults after.read_faults
  HasCause OutputFault = Rose before.write_faults after.write_faults
  HasCause Memory = wanted
  HasCause _ = Unit {0}

-- below its line no memory was given for an arbiter
pub record StopsBelowLine (words : List (List ℕ)) (before after : Moment) : Type 0 where
  pub clients : ℕ
  pub nodes : ℕ
  pub between : Moment
  pub asks : AsksArbiter words clients nodes
  pub headed : IsHeaded (arbiter_line clients) before between
  pub wants : WantsMemory between after Memory

-- no memory was given for a table: nothing is written, however much of the input was taken
pub record StopsAtTable (words : List (List ℕ)) (before after : Moment) : Type 0 where
  pub name : List ℕ
  pub nodes : ℕ
  pub asks : Asks words Verify name nodes
  pub nothing_written : Appends before.written after.written []

-- No memory was given: nothing is written, or for an arbiter its line alone, and the input was not read; or it was read as a table.
abbrev pub IsCaused : (words : List (List ℕ)) (shelf_failed : Type 0) (before after : Moment) → Status → Type 0
IsCaused words shelf_failed before after = HasCause shelf_failed (WantsMemory before after Memory ⊎ (StopsBelowLine words before after ⊎ StopsAtTable words before after)) before after
