-- What is done for a specification and a file, from what was done for its parts.
use Rattle.std.proofs.Common.{◌≡◌, ◌<◌, ◌≤◌, ◌⊎◌, ℕ, List, [], ◌∷◌, ◌++◌, length, min, take, get_or, slice_get, Option, Some, Result, Err, ◌↔◌, inl, inr, ap, sym, subst, ◌∙◌, arith}
use Rattle.std.proofs.lemmas.Bool.{cases_lt}
use Rattle.std.proofs.lemmas.List.{get_or_past}
use Rattle.sp_outside.specs.Files.{Files}
use Rattle.spec_model.specs.Syntax.{Specification}
use Rattle.spec_model.specs.Cores.{forced, IsLeft, IsCore}
use Rattle.spec_model.specs.Needs.{need_of}
use Rattle.spectra_trees.specs.Data.{TreeData}
use Rattle.spectra_types.specs.Resolved.{IsFirstIn}
use Rattle.regions.specs.declared.types.Halt.{Halt}
use Rattle.regions.specs.declared.types.Halt.TheVariants.{Budget, Memory as NoMemory}
use Rattle.hidden_game.specs.GameOf.{game_of}
use Rattle.solve.specs.Crowded.{Crowded}
use Rattle.solve.specs.Budgets.{MayHalt, MayHaltInTurn}
use Rattle.solve.specs.Winners.{IsWonBySystem, IsWonByEnvironment}
use Rattle.spec_order.specs.declared.report.OrderReport.{OrderReport}
use Rattle.spec_order.specs.declared.fault.OrderFault.{OrderFault}
use Rattle.spec_order.specs.declared.fault.OrderFault.TheVariants as faults
use Rattle.spec_order.specs.Reports.{IsReport}
use Rattle.spec_order.specs.Crowded.{CrowdedOrder}
use Rattle.command_words.specs.declared.words.Command.{Command}
use Rattle.command_words.specs.declared.words.Command.TheVariants.{Synth, Run, Many, Order, Core, Separate, Counter, Audit}
use Rattle.command_words.specs.Commands.{AskNothing}
use Rattle.spec_gen.specs.Arbiter.{arbiter_text}
use Rattle.spectra_files.specs.declared.reading.NoTree.{NoTree}
use Rattle.spectra_files.specs.declared.reading.NoTree.TheVariants as files
use Rattle.spectra_files.specs.declared.reading.Stop.{Stop}
use Rattle.spectra_talks.specs.declared.status.Status.{Status}
use Rattle.spectra_talks.specs.Endings.{Ending, usage, no_file, shelf_fault, refused, realizable, unrealizable, realizable_instead, with_core, separated, not_separated, node_budget, size_limit, arbiter_line}
use Rattle.spectra_talks.specs.Streams.{Moment, Ends, WantsMemory}
use Rattle.spectra_top.specs.Top.{Heads, solved_for, AreFilled, won, held, hosted, lost, won_instead, countered, has_core, separates, separates_not, audits, orders, orders_not, HasFewVariables, order_ending, Stops, Solves, Decides, ServesTrees, ServesTree, ServesText, ServesFile, ServesWords, ServesArbiter, arbiter_name}
use Rattle.spectra_top.specs.Saying.{SaysNoVerdict, SaysStop}
use Rattle.spectra_talks.specs.Sessions.{Holds, Counters, Audits}
use Rattle.spectra_talks.specs.Hosting.{Hosts}
use Rattle.spectra_files.specs.Reading.{Told, import_names, IsRefusedAt, FilesReadAs, ComesNext}
use Rattle.spectra_files.specs.Refusals.{HasNoTree, StopsAt}
use Rattle.spectra_top.specs.Top as top

-- what is said where there is no verdict
pub no_verdict_said : (halt is : Halt) → halt ≡ is → (nodes : ℕ) (before after : Moment) (status : Status) → SaysNoVerdict is nodes before after status → SaysNoVerdict halt nodes before after status
no_verdict_said halt is same nodes before after status said = subst (λ (h : Halt). SaysNoVerdict h nodes before after status) (sym same) said

-- ---- for a specification

-- why a command gets no verdict: there are too few nodes, and they are filled; memory may run out at any
abbrev pub IsUndecided : Command → (nodes : ℕ) → Specification → Halt → Type 0
IsUndecided command nodes s Budget = (nodes < need_of (solved_for command s)) × AreFilled command nodes s
IsUndecided command nodes s NoMemory = Unit {0}

-- where one specification is solved
pub by_solving : (command : Command) (nodes : ℕ) (s : Specification) → (Crowded (game_of (solved_for command s)) nodes → AreFilled command nodes s) → (halt : Halt) → MayHalt nodes (solved_for command s) halt → IsUndecided command nodes s halt
by_solving command nodes s fills Budget short = (short.few, fills short.crowded)
by_solving command nodes s fills NoMemory short = tt

-- where the guarantees are tried in turn
pub by_trying : (nodes : ℕ) (s : Specification) (halt : Halt) → MayHaltInTurn nodes s halt → IsUndecided Core nodes s halt
by_trying nodes s Budget short = (short.few, (short.part, short.tried, short.crowded))
by_trying nodes s NoMemory short = tt

module _ (command : Command) (nodes : ℕ) (s : Specification) (before after : Moment) (status : Status) where
  pub synth_won : (k : ℕ) → command ≡ Synth → IsWonBySystem s k → Ends (realizable k) before after status ⊎ WantsMemory before after status → Decides command nodes s before after status
  synth_won k is wins (inl writes) = won k is wins writes
  synth_won k is wins (inr wants) = top.no_memory wants

  pub run_held : (k : ℕ) → command ≡ Run → IsWonBySystem s k → Holds s k before after status ⊎ WantsMemory before after status → Decides command nodes s before after status
  run_held k is wins (inl holds) = held k is wins holds
  run_held k is wins (inr wants) = top.no_memory wants

  pub many_hosted : (k : ℕ) → command ≡ Many → IsWonBySystem s k → Hosts s (game_of s) k before after status ⊎ WantsMemory before after status → Decides command nodes s before after status
  many_hosted k is wins (inl hosts) = hosted k is wins hosts
  many_hosted k is wins (inr wants) = top.no_memory wants

  pub is_lost : (n m : ℕ) → (command ≡ Synth) ⊎ ((command ≡ Run) ⊎ (command ≡ Many)) → IsWonByEnvironment s n m → Ends (unrealizable n m) before after status ⊎ WantsMemory before after status → Decides command nodes s before after status
  is_lost n m is wins (inl writes) = lost n m is wins writes
  is_lost n m is wins (inr wants) = top.no_memory wants

  pub is_kept : (k : ℕ) → (command ≡ Core) ⊎ (command ≡ Counter) → IsWonBySystem s k → Ends (realizable_instead k) before after status ⊎ WantsMemory before after status → Decides command nodes s before after status
  is_kept k is wins (inl writes) = won_instead k is wins writes
  is_kept k is wins (inr wants) = top.no_memory wants

  pub core_found : (n m : ℕ) (core : List ℕ) → command ≡ Core → IsWonByEnvironment s n m → IsLeft s core → IsCore s core → Ends (with_core n m core) before after status ⊎ WantsMemory before after status →
      Decides command nodes s before after status
  core_found n m core is wins left is_core (inl writes) = has_core n m core is wins left is_core writes
  core_found n m core is wins left is_core (inr wants) = top.no_memory wants

  pub is_countered : (n m : ℕ) → command ≡ Counter → IsWonByEnvironment s n m → Counters s n m before after status ⊎ WantsMemory before after status → Decides command nodes s before after status
  is_countered n m is wins (inl holds) = countered n m is wins holds
  is_countered n m is wins (inr wants) = top.no_memory wants

  pub is_separated : (n m : ℕ) → command ≡ Separate → IsWonByEnvironment (forced s) n m → Ends (separated n m) before after status ⊎ WantsMemory before after status → Decides command nodes s before after status
  is_separated n m is wins (inl writes) = separates n m is wins writes
  is_separated n m is wins (inr wants) = top.no_memory wants

  pub is_not_separated : (k : ℕ) → command ≡ Separate → IsWonBySystem (forced s) k → Ends (not_separated k) before after status ⊎ WantsMemory before after status → Decides command nodes s before after status
  is_not_separated k is wins (inl writes) = separates_not k is wins writes
  is_not_separated k is wins (inr wants) = top.no_memory wants

  pub is_audited : command ≡ Audit → Audits s before after status ⊎ WantsMemory before after status → Decides command nodes s before after status
  is_audited is (inl audit) = audits is audit
  is_audited is (inr wants) = top.no_memory wants

  pub is_ordered : (report : OrderReport) → command ≡ Order → HasFewVariables s → IsReport s report → Ends (order_ending s report.nodes report.better) before after status ⊎ WantsMemory before after status → Decides command nodes s before after status
  is_ordered report is few found (inl writes) = orders report is few found writes
  is_ordered report is few found (inr wants) = top.no_memory wants

  pub has_too_many : command ≡ Order → 32 < length s.variables → Ends size_limit before after status ⊎ WantsMemory before after status → Decides command nodes s before after status
  has_too_many is many (inl writes) = orders_not is many writes
  has_too_many is many (inr wants) = top.no_memory wants

  pub budget_said : Solves command → nodes < need_of (solved_for command s) → AreFilled command nodes s → Ends (node_budget nodes) before after status ⊎ WantsMemory before after status → Decides command nodes s before after status
  budget_said makes few filled (inl writes) = top.budget makes few filled writes
  budget_said makes few filled (inr wants) = top.no_memory wants

  -- there is no verdict
  pub not_decided : (halt : Halt) → Solves command → IsUndecided command nodes s halt → SaysNoVerdict halt nodes before after status → Decides command nodes s before after status
  not_decided Budget decides short said = budget_said decides short.0 short.1 said
  not_decided NoMemory decides short wants = top.no_memory wants

-- where it is not said that there are too many variables, there are few
pub few_variables : (s : Specification) (result : Result OrderReport OrderFault) → (result ≡ Err faults.Limit) ↔ (32 < length s.variables) → (result ≡ Err faults.Limit → ⊥) → HasFewVariables s
few_variables s result limit is_not = elim (cases_lt 32 (length s.variables)) [
  | inl many ↦ absurd (is_not (limit.1 many))
  | inr few ↦ few
]

-- what is served for the command that it is
pub served_as : (command is : Command) → command ≡ is → (nodes : ℕ) (s : Specification) (before after : Moment) (status : Status) → Decides is nodes s before after status → Decides command nodes s before after status
served_as command is same nodes s before after status serves = subst (λ (c : Command). Decides c nodes s before after status) (sym same) serves

-- ---- for files

-- what is said of a file by the reason that it is
pub said_as : (why is : NoTree) → why ≡ is → (name : List ℕ) (before after : Moment) (status : Status) → SaysStop name is before after status → SaysStop name why before after status
said_as why is same name before after status said = subst (λ (w : NoTree). SaysStop name w before after status) (sym same) said

module _ (file : Option (Option (List ℕ))) (failed : Type 0) (name : List ℕ) (before after : Moment) (status : Status) where
  -- how the run ends at a file that has no tree, unless no memory was given
  abbrev pub Stopped : Type 0
  Stopped = ((e : Ending) × Stops file failed name e × Ends e before after status) ⊎ WantsMemory before after status

  pub stop_said : (why : NoTree) → HasNoTree file failed why → SaysStop name why before after status → Stopped
  stop_said files.Missing none (inl writes) = inl (no_file name, top.missing none, writes)
  stop_said files.Missing none (inr wants) = inr wants
  stop_said files.Shelf rose (inl writes) = inl (shelf_fault name, top.failed rose, writes)
  stop_said files.Shelf rose (inr wants) = inr wants
  stop_said (files.Refused number line column) is (inl writes) = inl (refused name line column number, top.is_refused is.0 number line column is.1 is.2, writes)
  stop_said (files.Refused number line column) is (inr wants) = inr wants
  stop_said files.Memory none wants = inr wants

-- where the shelf failed between two moments, it did so between earlier and later ones
stops_too : {file : Option (Option (List ℕ))} {failed failed' : Type 0} {name : List ℕ} {e : Ending} → (failed → failed') → Stops file failed name e → Stops file failed' name e
stops_too more (top.missing none) = top.missing none
stops_too more (top.failed rose) = top.failed (more rose)
stops_too more (top.is_refused text number line column holds is) = top.is_refused text number line column holds is

-- the name of a file by its number, where there are fewer files than numbers
pub named_within : (names : List (List ℕ)) (name : List ℕ) (file tree : ℕ) → length names ≤ 1_048_576 → tree ≡ min file 4_294_967_295 → get_or names tree name ≡ get_or names file name
named_within names name file tree few same = elim (cases_lt file 4_294_967_295) [
  | inl below ↦ let one : tree ≡ file = omega (arith, below, same) in ap (λ (k : ℕ). get_or names k name) one
  | inr past ↦ get_or_past names tree name (omega (arith, past, same, few)) ∙ sym (get_or_past names file name (omega (arith, past, few)))
]

module _ (command : Command) (nodes : ℕ) (name : List ℕ) (before after : Moment) (status : Status) where
  pub trees_mistyped : (names : List (List ℕ)) (trees : List TreeData) (file tree number line column : ℕ) → length names ≤ 1_048_576 → IsFirstIn trees file number line column → tree ≡ min file 4_294_967_295 →
      Ends (refused (get_or names tree name) line column number) before after status ⊎ WantsMemory before after status → ServesTrees command nodes name before after names trees status
  trees_mistyped names trees file tree number line column few is same (inl writes) =
      top.mistyped number file line column is.first (subst (λ (printed : List ℕ). Ends (refused printed line column number) before after status) (named_within names name file tree few same) writes)
  trees_mistyped names trees file tree number line column few is same (inr wants) = top.no_memory wants

  module _ (told : Told) (failed : Type 0) where
    pub tree_stopped : (main : TreeData) (file : List ℕ) → ComesNext told name main file → Stopped (told file) failed file before after status → ServesTree command nodes told failed name before after main status
    tree_stopped main file next (inl s) = top.stopped file s.0 next s.1 s.2
    tree_stopped main file next (inr wants) = top.no_memory wants

    -- the files that it imports are served with it
    pub tree_together : (main : TreeData) (names : List (List ℕ)) (imported trees : List TreeData) → names ≡ import_names name main → FilesReadAs told names imported → trees ≡ imported ++ main ∷ [] →
        ServesTrees command nodes name before after names trees status → ServesTree command nodes told failed name before after main status
    tree_together main names imported trees are read all serves =
        let read' = subst (λ (ns : List (List ℕ)). FilesReadAs told ns imported) are read in
        let serves' = subst (λ (ns : List (List ℕ)). ServesTrees command nodes name before after ns trees status) are serves in
        top.together imported read' (subst (λ (ts : List TreeData). ServesTrees command nodes name before after (import_names name main) ts status) all serves')

    -- or the first of them that isn't read is told
    pub tree_stops : (main : TreeData) (names : List (List ℕ)) (stop : Stop) (file : List ℕ) → names ≡ import_names name main → StopsAt told failed names stop → slice_get names stop.number ≡ Some file →
        SaysStop file stop.why before after status → ServesTree command nodes told failed name before after main status
    tree_stops main names stop file are stops named said =
        let one : stops.file ≡ file = let here = stops.named in cc in
        let next : ComesNext told name main file =
        record {
          number = stop.number;
          trees = stops.trees;
          named = subst (λ (ns : List (List ℕ)). slice_get ns stop.number ≡ Some file) are named;
          read = subst (λ (ns : List (List ℕ)). FilesReadAs told (take stop.number ns) stops.trees) are stops.read;
        } in
        let has_none = subst (λ (f : List ℕ). HasNoTree (told f) failed stop.why) one stops.has_none in
        tree_stopped main file next (stop_said (told file) failed file before after status stop.why has_none said)

    pub text_refused : (text : List ℕ) (number line column : ℕ) → IsRefusedAt text line column number → Ends (refused name line column number) before after status ⊎ WantsMemory before after status →
        ServesText command nodes told failed name before after text status
    text_refused text number line column is (inl writes) = top.is_refused number line column is writes
    text_refused text number line column is (inr wants) = top.no_memory wants

    pub file_stopped : Stopped (told name) failed name before after status → ServesFile command nodes told failed name before after status
    file_stopped (inl s) = top.stopped s.0 s.1 s.2
    file_stopped (inr wants) = top.no_memory wants

    pub failed_before : (failed' : Type 0) → (failed → failed') → (main : TreeData) → ServesTree command nodes told failed name before after main status → ServesTree command nodes told failed' name before after main status
    failed_before failed' more main (top.stopped file e next stops writes) = top.stopped file e next (stops_too more stops) writes
    failed_before failed' more main (top.together imported read serves) = top.together imported read serves
    failed_before failed' more main (top.no_memory wants) = top.no_memory wants

-- ---- for words

pub usage_said : (words : List (List ℕ)) (files : Option Files) (failed : Type 0) (before after : Moment) (status : Status) → AskNothing words → Ends usage before after status → ServesWords words files failed before after status
usage_said words files failed before after status nothing writes = top.no_command nothing writes

-- the line of an arbiter, and what is written below it for its text
pub below_its_line : (clients nodes : ℕ) (told : Told) (failed : Type 0) (line text : List ℕ) (before after : Moment) (status : Status) → line ≡ arbiter_line clients → text ≡ arbiter_text clients →
    Heads line (λ (b a : Moment). ServesText Synth nodes told failed arbiter_name b a text) before after status → ServesArbiter told failed clients nodes before after status
below_its_line clients nodes told failed line text before after status is same serves =
    subst (λ (l : List ℕ). Heads l (λ (b a : Moment). ServesText Synth nodes told failed arbiter_name b a (arbiter_text clients)) before after status) is
    (subst (λ (t : List ℕ). Heads line (λ (b a : Moment). ServesText Synth nodes told failed arbiter_name b a t) before after status) same serves)
