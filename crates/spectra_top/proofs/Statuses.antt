-- Which status there is, by what is asked and told.
use Rattle.std.proofs.Common.{◌≡◌, ◌⊎◌, ◌<◌, ℕ, zero, suc, List, [], ◌∷◌, ◌++◌, take, slice_get, Option, Some, None, inl, inr, refl, ap, sym, subst, arith}
use Rattle.std.specs.FinMap.{get}
use Rattle.sp_outside.specs.Files.{Files, told_file, HasFile}
use Rattle.spectra_trees.specs.Data.{TreeData}
use Rattle.command_words.specs.declared.words.Command.{Command}
use Rattle.spectra_talks.specs.declared.status.Status.{Status}
use Rattle.spectra_talks.specs.declared.status.Status.TheVariants.{Words, Refused, ShelfFault, NoFile}
use Rattle.spectra_talks.specs.Endings.{Ending, IsCutShort, IsUnlessCut, IsUnlessFault}
use Rattle.command_words.specs.Commands.{Asks, AskNothing}
use Rattle.spectra_talks.specs.Streams.{Moment, Writes, whole, cut, Ends, WantsMemory}
use Rattle.spectra_top.proofs.Requests.{one_file, file_or_arbiter}
use Rattle.spectra_files.proofs.Readings.{one_reading, HasSomeTree, read_among}
use Rattle.spectra_top.proofs.Decisive.{only_fails}
use Rattle.spectra_files.specs.Reading.{ReadsAs, import_names, Told, FileReadsAs, FilesReadAs, ComesNext, ImportsAreThere, MissesImport}
use Rattle.spectra_top.specs.Meanings.{MeansNothing}
use Rattle.spectra_top.specs.Top.{Stops, ServesTrees, ServesTree, ServesFile, ServesWords, Refuses}
use Rattle.spectra_top.specs.Top as top

-- what stands in a list before a place stands in its front up to there
get_in_front : (xs : List (List ℕ)) (n k : ℕ) (x : List ℕ) → k < n → slice_get xs k ≡ Some x → slice_get (take n xs) k ≡ Some x
get_in_front [] n k x below is = absurd (cc)
get_in_front (y ∷ ys) zero k x below is = absurd (omega arith)
get_in_front (y ∷ ys) (suc n) zero x below is = is
get_in_front (y ∷ ys) (suc n) (suc k) x below is = get_in_front ys n k x (omega (arith, below)) is

by_order : (a b : ℕ) → ((a < b) ⊎ (a ≡ b)) ⊎ (b < a)
by_order zero zero = inl (inr refl)
by_order zero (suc b) = inl (inl (omega arith))
by_order (suc a) zero = inr (omega arith)
by_order (suc a) (suc b) = elim (by_order a b) [
  | inl (inl below) ↦ inl (inl (omega (arith, below)))
  | inl (inr same) ↦ inl (inr (ap suc same))
  | inr above ↦ inr (omega (arith, above))
]

module _ (before after : Moment) where
  -- a line that is written has its status, where the output did not fail
  written : (line : List ℕ) (expected status : Status) → Writes line expected before after status → IsUnlessCut expected status
  written line expected _ (whole unread is) = inl refl
  written line expected _ (cut unread is rose) = inr tt

  wanted : (expected status : Status) → WantsMemory before after status → IsUnlessCut expected status
  wanted expected status wants = inr (subst IsCutShort (sym wants.is) tt)

  or_fault : (expected status : Status) → IsUnlessCut expected status → IsUnlessFault expected status
  or_fault expected status (inl is) = inl is
  or_fault expected status (inr is) = inr (inr is)

  -- a line that tells of a failed shelf is one that the shelf failed for
  failed_status : (expected : Status) (line : List ℕ) (status : Status) → Writes line ShelfFault before after status → IsUnlessFault expected status
  failed_status expected line status writes = faulted (written line ShelfFault status writes)
    where
      faulted : IsUnlessCut ShelfFault status → IsUnlessFault expected status
      faulted (inl same) = inr (inl same)
      faulted (inr short) = inr (inr short)

  refused_line : (line : List ℕ) (status : Status) → Writes line Refused before after status → IsUnlessFault Refused status
  refused_line line status writes = or_fault Refused status (written line Refused status writes)

  no_file_line : (line : List ℕ) (status : Status) → Writes line NoFile before after status → IsUnlessFault NoFile status
  no_file_line line status writes = or_fault NoFile status (written line NoFile status writes)

  -- what is said at a file that is there, and at one that isn't
  stopped_there : (file : Option (List ℕ)) → ¬ (file ≡ None) → (failed : Type 0) (name : List ℕ) (e : Ending) (status : Status) → Stops (Some file) failed name e → Ends e before after status → IsUnlessFault Refused status
  stopped_there file there failed name _ status (top.missing none) writes = absurd (there none)
  stopped_there file there failed name _ status (top.failed rose) writes = failed_status Refused _ status writes
  stopped_there file there failed name _ status (top.is_refused text number line column holds is) writes = refused_line _ status writes

  stopped_missing : (failed : Type 0) (name : List ℕ) (e : Ending) (status : Status) → Stops (Some None) failed name e → Ends e before after status → IsUnlessFault NoFile status
  stopped_missing failed name _ status (top.missing none) writes = no_file_line _ status writes
  stopped_missing failed name _ status (top.failed rose) writes = failed_status NoFile _ status writes
  stopped_missing failed name _ status (top.is_refused text number line column holds is) writes = absurd holds

  -- a text that means nothing is refused, and one that imports no file gets its status, unless something failed
  module _ (command : Command) (nodes : ℕ) (name text : List ℕ) (files : Files) (failed : Type 0) (held : get files name ≡ Some text) where
    is_there : ¬ (get files name ≡ None)
    is_there none = absurd (cc)

    the_text : (main : TreeData) (read : FileReadsAs (Some (get files name)) main) → ReadsAs text main
    the_text main read =
        let same = subst (λ (o : Option (List ℕ)). HasFile (Some o) (λ bytes. bytes ≡ read.text)) held read.holds in
        subst (λ (x : List ℕ). ReadsAs x main) (sym same) read.reads

    module _ (there : ImportsAreThere (told_file (Some files)) name text) (nothing : MeansNothing (told_file (Some files)) name text) where
      refused_trees : (main : TreeData) (imported : List TreeData) (status : Status) → ReadsAs text main → FilesReadAs (told_file (Some files)) (import_names name main) imported →
          ServesTrees command nodes name before after (import_names name main) (imported ++ main ∷ []) status → IsUnlessFault Refused status
      refused_trees main imported status reads read (top.mistyped number tree line column is writes) = refused_line _ status writes
      refused_trees main imported status reads read (top.means s means decides) = absurd (nothing s (record { main = main; imported = imported; reads = reads; read = read; means = means }))
      refused_trees main imported status reads read (top.no_memory wants) = or_fault Refused status (wanted Refused status wants)

      refused_tree : (main : TreeData) (status : Status) → ReadsAs text main → ServesTree command nodes (told_file (Some files)) failed name before after main status → IsUnlessFault Refused status
      refused_tree main status reads (top.stopped file e next stops writes) =
          stopped_there (get files file) (λ none. there main next.number file reads next.named (ap Some none)) failed file e status stops writes
      refused_tree main status reads (top.together imported read serves) = refused_trees main imported status reads read serves
      refused_tree main status reads (top.no_memory wants) = or_fault Refused status (wanted Refused status wants)

      refused_file : (status : Status) → ServesFile command nodes (told_file (Some files)) failed name before after status → IsUnlessFault Refused status
      refused_file status (top.stopped e stops writes) = stopped_there (get files name) is_there failed name e status stops writes
      refused_file status (top.of_tree main read serves) = refused_tree main status (the_text main read) serves
      refused_file status (top.no_memory wants) = or_fault Refused status (wanted Refused status wants)

    module _ (misses : MissesImport (told_file (Some files)) name text) where
      -- the file that isn't there isn't among those that are read
      missing_not_read : (names : List (List ℕ)) (trees : List TreeData) → FilesReadAs (told_file (Some files)) names trees → (k : ℕ) → slice_get names k ≡ Some misses.file → ⊥
      missing_not_read names trees read k named =
          let has = read_among (told_file (Some files)) names trees read k misses.file named in
          let none : get files misses.file ≡ None = let missing = misses.missing in cc in
          subst (λ (o : Option (List ℕ)). HasFile (Some o) (λ bytes. bytes ≡ has.reads.text)) none has.reads.holds

      -- the run ends at it, at one before it whose shelf failed, or at none behind it
      missing_stopped : (file : List ℕ) (e : Ending) (status : Status) (next : ComesNext (told_file (Some files)) name misses.main file) → Stops (Some (get files file)) failed file e → Ends e before after status → IsUnlessFault NoFile status
      missing_stopped file e status next stops writes = elim (by_order next.number misses.next.number) [
        | inl (inl earlier) ↦
            let named = get_in_front (import_names name misses.main) misses.next.number next.number file earlier next.named in
            let fails = only_fails (get files file) failed (read_among (told_file (Some files)) _ misses.next.trees misses.next.read next.number file named) file e stops in
            failed_status NoFile _ status (subst (λ (end : Ending). Ends end before after status) fails.1 writes)
        | inl (inr here) ↦
            let one : file ≡ misses.file = let a = next.named in let b = misses.next.named in cc in
            let none : get files file ≡ None = let missing = misses.missing in cc in
            stopped_missing failed file e status (subst (λ (o : Option (List ℕ)). Stops (Some o) failed file e) none stops) writes
        | inr behind ↦ absurd (missing_not_read _ next.trees next.read misses.next.number (get_in_front (import_names name misses.main) next.number misses.next.number misses.file behind misses.next.named))
      ]

      missing_tree : (main : TreeData) (status : Status) → main ≡ misses.main → ServesTree command nodes (told_file (Some files)) failed name before after main status → IsUnlessFault NoFile status
      missing_tree main status same (top.stopped file e next stops writes) =
          missing_stopped file e status (subst (λ (m : TreeData). ComesNext (told_file (Some files)) name m file) same next) stops writes
      missing_tree main status same (top.together imported read serves) =
          let again = subst (λ (m : TreeData). FilesReadAs (told_file (Some files)) (import_names name m) imported) same read in
          absurd (missing_not_read (import_names name misses.main) imported again misses.next.number misses.next.named)
      missing_tree main status same (top.no_memory wants) = or_fault NoFile status (wanted NoFile status wants)

      missing_file : (status : Status) → ServesFile command nodes (told_file (Some files)) failed name before after status → IsUnlessFault NoFile status
      missing_file status (top.stopped e stops writes) =
          let has : HasSomeTree (Some (get files name)) = record { tree = misses.main; reads = record { text = text; holds = subst (λ (o : Option (List ℕ)). HasFile (Some o) (λ bytes. bytes ≡ text)) (sym held) refl; reads = misses.reads } } in
          let fails = only_fails (get files name) failed has name e stops in
          failed_status NoFile _ status (subst (λ (end : Ending). Ends end before after status) fails.1 writes)
      missing_file status (top.of_tree main read serves) = missing_tree main status (one_reading text main misses.main (the_text main read) misses.reads) serves
      missing_file status (top.no_memory wants) = or_fault NoFile status (wanted NoFile status wants)

  -- a name of no file gets its status, unless something failed
  of_none : (command : Command) (nodes : ℕ) (name : List ℕ) (told : Told) → told name ≡ Some None → (failed : Type 0) (status : Status) → ServesFile command nodes told failed name before after status → IsUnlessFault NoFile status
  of_none command nodes name told is failed status (top.stopped e stops writes) =
      stopped_missing failed name e status (subst (λ (o : Option (Option (List ℕ))). Stops o failed name e) is stops) writes
  of_none command nodes name told is failed status (top.of_tree main read serves) = absurd (subst (λ (o : Option (Option (List ℕ))). HasFile o (λ bytes. bytes ≡ read.text)) is read.holds)
  of_none command nodes name told is failed status (top.no_memory wants) = or_fault NoFile status (wanted NoFile status wants)

  -- words that are no command get their status
  words_status : (words : List (List ℕ)) (shelf : Option Files) (failed : Type 0) (status : Status) → ServesWords words shelf failed before after status → AskNothing words → IsUnlessCut Words status
  words_status words shelf failed status (top.no_command nothing writes) none = written _ Words status writes
  words_status words shelf failed status (top.asked command name nodes asks serves) none = absurd (none.no_file command name nodes asks)
  words_status words shelf failed status (top.arbiter clients nodes asks serves) none = absurd (none.no_arbiter clients nodes asks)
  words_status words shelf failed status (top.no_memory wants) none = wanted Words status wants

  -- the shelf tells of a file, so that it tells of each
  refused_by : (command : Command) (nodes : ℕ) (name text : List ℕ) (shelf : Option Files) (failed : Type 0) → told_file shelf name ≡ Some (Some text) → ImportsAreThere (told_file shelf) name text → MeansNothing (told_file shelf) name text →
      (status : Status) → ServesFile command nodes (told_file shelf) failed name before after status → IsUnlessFault Refused status
  refused_by command nodes name text None failed told there nothing status serves = absurd (cc)
  refused_by command nodes name text (Some files) failed told there nothing status serves = let held : get files name ≡ Some text = cc in refused_file command nodes name text files failed held there nothing status serves

  missing_by : (command : Command) (nodes : ℕ) (name text : List ℕ) (shelf : Option Files) (failed : Type 0) → told_file shelf name ≡ Some (Some text) → MissesImport (told_file shelf) name text →
      (status : Status) → ServesFile command nodes (told_file shelf) failed name before after status → IsUnlessFault NoFile status
  missing_by command nodes name text None failed told misses status serves = absurd (cc)
  missing_by command nodes name text (Some files) failed told misses status serves = let held : get files name ≡ Some text = cc in missing_file command nodes name text files failed held misses status serves

  -- what was asked is served for the file that is asked for
  module _ (words : List (List ℕ)) (shelf : Option Files) (failed : Type 0) (command : Command) (name : List ℕ) (nodes : ℕ) (asks : Asks words command name nodes) where
    -- whatever is said of a file of this name is said of the words
    asked_status : (Good : Status → Type 0) → ((status : Status) → WantsMemory before after status → Good status) → ((command : Command) (nodes : ℕ) (status : Status) → ServesFile command nodes (told_file shelf) failed name before after status → Good status) →
        (status : Status) → ServesWords words shelf failed before after status → Good status
    asked_status Good by_memory by_file status (top.no_command nothing writes) = absurd (nothing.no_file command name nodes asks)
    asked_status Good by_memory by_file status (top.arbiter clients nodes' asks' serves) = absurd (file_or_arbiter words command name nodes clients nodes' asks asks')
    asked_status Good by_memory by_file status (top.asked command' name' nodes' asks' serves) =
        let same = one_file words command command' name name' nodes nodes' asks asks' in
        by_file command' nodes' status (subst (λ (n : List ℕ). ServesFile command' nodes' (told_file shelf) failed n before after status) same serves)
    asked_status Good by_memory by_file status (top.no_memory wants) = by_memory status wants

  by_wanting : (expected status : Status) → WantsMemory before after status → IsUnlessFault expected status
  by_wanting expected status wants = or_fault expected status (wanted expected status wants)

  pub refuses : (words : List (List ℕ)) (shelf : Option Files) (failed : Type 0) (status : Status) → ServesWords words shelf failed before after status → Refuses words shelf status
  refuses words shelf failed status serves =
      record {
        nothing_asked = words_status words shelf failed status serves;
        no_such_file = λ command name nodes asks told.
            asked_status words shelf failed command name nodes asks (IsUnlessFault NoFile) (by_wanting NoFile) (λ command' nodes' status'. of_none command' nodes' name (told_file shelf) told failed status') status serves;
        no_such_import = λ command name nodes text asks told misses.
            asked_status words shelf failed command name nodes asks (IsUnlessFault NoFile) (by_wanting NoFile) (λ command' nodes' status'. missing_by command' nodes' name text shelf failed told misses status') status serves;
        refused_text = λ command name nodes text asks told there nothing.
            asked_status words shelf failed command name nodes asks (IsUnlessFault Refused) (by_wanting Refused) (λ command' nodes' status'. refused_by command' nodes' name text shelf failed told there nothing status') status serves;
      }
