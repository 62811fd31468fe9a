-- Files that mean a specification have no fault, so that they get the decision of that specification.
use Rattle.std.proofs.Common.{◌≡◌, ℕ, List, [], ◌∷◌, ◌++◌, map, slice_get, Option, Some, None, refl, ap, sym, subst, ◌∙◌}
use Rattle.std.specs.FinMap.{get}
use Rattle.sp_outside.specs.Files.{Files, told_file, HasFile}
use Rattle.spec_model.specs.Syntax.{Specification}
use Rattle.spectra_trees.specs.Data.{NameData, TreeData}
use Rattle.spectra_resolved.specs.Findings.{first_of_faults}
use Rattle.spectra_types.specs.Meanings.{faults_of, meaning_of}
use Rattle.spectra_types.specs.Resolved.{Means}
use Rattle.command_words.specs.declared.words.Command.{Command}
use Rattle.command_words.specs.declared.words.Command.TheVariants.{Synth}
use Rattle.spec_gen.specs.Arbiter.{arbiter_text}
use Rattle.spectra_talks.specs.declared.status.Status.{Status}
use Rattle.spectra_talks.specs.Endings.{Ending, shelf_fault}
use Rattle.spectra_talks.specs.Streams.{Moment}
use Rattle.spectra_top.specs.Top.{headed, cut_at_once, no_room, Stops, Decides, ServesTrees, ServesTree, ServesText, ServesFile, ServesWords, ServesArbiter, DecidesArbiter, DecidesWhatReads, DecidesArbiters, arbiter_name}
use Rattle.spectra_files.specs.Reading.{ReadsAs, IsRefusedAt, import_name, import_names, Told, FilesReadAs}
use Rattle.spectra_top.specs.Meanings.{Reads, ReadsAlone}
use Rattle.spectra_top.specs.Top as top
use Rattle.spectra_files.proofs.Unrefused.{never_refused}
use Rattle.spectra_files.proofs.Readings.{one_reading, files_read_once, HasSomeTree, read_among}
use Rattle.spectra_top.proofs.Requests.{one_file, one_command, one_budget, one_arbiter, file_or_arbiter}

-- the run ends at a told file with a tree only where the shelf failed
pub only_fails : (file : Option (List ℕ)) (failed : Type 0) → HasSomeTree (Some file) → (name : List ℕ) (e : Ending) → Stops (Some file) failed name e → failed × (e ≡ shelf_fault name)
only_fails None failed has name e stops = absurd has.reads.holds
only_fails (Some bytes) failed has name _ (top.missing none) = absurd (cc)
only_fails (Some bytes) failed has name _ (top.failed rose) = (rose, refl)
only_fails (Some bytes) failed has name _ (top.is_refused text number line column holds is) =
    let reads = subst (λ (x : List ℕ). ReadsAs x has.tree) (sym has.reads.holds) has.reads.reads in
    absurd (never_refused bytes has.tree reads number line column (subst (λ (x : List ℕ). IsRefusedAt x line column number) (sym holds) is))

-- ---- files that mean a specification get its decision

-- trees that mean a specification have no fault, and mean no other
module _ (command : Command) (nodes : ℕ) (name : List ℕ) (before after : Moment) (status : Status) (s : Specification) where
  of_trees : (names : List (List ℕ)) (trees us : List TreeData) → trees ≡ us → Means us s → ServesTrees command nodes name before after names trees status → Decides command nodes s before after status
  of_trees names trees us same means (top.mistyped number tree line column is writes) =
      let none : first_of_faults (faults_of trees) ≡ None = ap (λ (ts : List TreeData). first_of_faults (faults_of ts)) same ∙ ap first_of_faults means.faultless in
      absurd (cc)
  of_trees names trees us same means (top.means other also decides) =
      let one : other ≡ s = also.meaning ∙ (ap meaning_of same ∙ sym means.meaning) in
      subst (λ (t : Specification). Decides command nodes t before after status) one decides
  of_trees names trees us same means (top.no_memory wants) = top.no_memory wants

  module _ (files : Files) (failed : Type 0) (stood : ¬ failed) (text : List ℕ) (reads : Reads (told_file (Some files)) name text s) where
    of_tree : (main : TreeData) → main ≡ reads.main → ServesTree command nodes (told_file (Some files)) failed name before after main status → Decides command nodes s before after status
    of_tree main same (top.stopped file e next stops writes) =
        let named = subst (λ (m : TreeData). slice_get (import_names name m) next.number ≡ Some file) same next.named in
        absurd (stood (only_fails (get files file) failed (read_among (told_file (Some files)) (import_names name reads.main) reads.imported reads.read next.number file named) file e stops).0)
    of_tree main same (top.together imported read serves) =
        let again = subst (λ (m : TreeData). FilesReadAs (told_file (Some files)) (import_names name m) imported) same read in
        let one = files_read_once files (import_names name reads.main) imported reads.imported again reads.read in
        let all : imported ++ main ∷ [] ≡ reads.imported ++ reads.main ∷ [] = ap (λ (ts : List TreeData). ts ++ main ∷ []) one ∙ ap (λ (m : TreeData). reads.imported ++ m ∷ []) same in
        of_trees (import_names name main) (imported ++ main ∷ []) (reads.imported ++ reads.main ∷ []) all reads.means serves
    of_tree main same (top.no_memory wants) = top.no_memory wants

    of_file : get files name ≡ Some text → ServesFile command nodes (told_file (Some files)) failed name before after status → Decides command nodes s before after status
    of_file is (top.stopped e stops writes) =
        let has : HasSomeTree (Some (get files name)) = record { tree = reads.main; reads = record { text = text; holds = subst (λ (o : Option (List ℕ)). HasFile (Some o) (λ bytes. bytes ≡ text)) (sym is) refl; reads = reads.reads } } in
        absurd (stood (only_fails (get files name) failed has name e stops).0)
    of_file is (top.of_tree main read serves) =
        let same = subst (λ (o : Option (List ℕ)). HasFile (Some o) (λ bytes. bytes ≡ read.text)) is read.holds in
        of_tree main (one_reading text main reads.main (subst (λ (x : List ℕ). ReadsAs x main) (sym same) read.reads) reads.reads) serves
    of_file is (top.no_memory wants) = top.no_memory wants

-- an arbiter's text imports nothing
module _ (nodes : ℕ) (name text : List ℕ) (s : Specification) (reads : ReadsAlone text s) (told : Told) (failed : Type 0) (before after : Moment) (status : Status) where
  alone_of_tree : (main : TreeData) → main ≡ reads.main → ServesTree Synth nodes told failed name before after main status → Decides Synth nodes s before after status
  alone_of_tree main same (top.stopped file e next stops writes) =
      let none : import_names name main ≡ [] = ap (λ (m : TreeData). import_names name m) same ∙ ap (λ (is : List NameData). map (λ (n : NameData). import_name name n.text) is) reads.alone in
      let named = subst (λ (names : List (List ℕ)). slice_get names next.number ≡ Some file) none next.named in
      absurd (cc)
  alone_of_tree main same (top.together imported read serves) =
      let none : import_names name main ≡ [] = ap (λ (m : TreeData). import_names name m) same ∙ ap (λ (is : List NameData). map (λ (n : NameData). import_name name n.text) is) reads.alone in
      let all : imported ++ main ∷ [] ≡ reads.main ∷ [] = ap (λ (ts : List TreeData). ts ++ main ∷ []) (no_trees imported (subst (λ (names : List (List ℕ)). FilesReadAs told names imported) none read)) ∙ ap (λ (m : TreeData). m ∷ []) same in
      of_trees Synth nodes name before after status s (import_names name main) (imported ++ main ∷ []) (reads.main ∷ []) all reads.means serves
    where
      no_trees : (trees : List TreeData) → FilesReadAs told [] trees → trees ≡ []
      no_trees [] all = refl
      no_trees (t ∷ trees) all = absurd all
  alone_of_tree main same (top.no_memory wants) = top.no_memory wants

  of_text : ServesText Synth nodes told failed name before after text status → Decides Synth nodes s before after status
  of_text (top.is_refused number line column is writes) = absurd (never_refused text reads.main reads.reads number line column is)
  of_text (top.of_tree main other serves) = alone_of_tree main (one_reading text main reads.main other reads.reads) serves
  of_text (top.no_memory wants) = top.no_memory wants

-- ---- what was served for words

-- the shelf tells of a file, so that it tells of each
of_told : (command : Command) (nodes : ℕ) (name text : List ℕ) (s : Specification) (shelf : Option Files) (failed : Type 0) (before after : Moment) (status : Status) → told_file shelf name ≡ Some (Some text) →
    Reads (told_file shelf) name text s → ¬ failed → ServesFile command nodes (told_file shelf) failed name before after status → Decides command nodes s before after status
of_told command nodes name text s None failed before after status told reads stood serves = absurd (cc)
of_told command nodes name text s (Some files) failed before after status told reads stood serves =
    let is : get files name ≡ Some text = cc in
    of_file command nodes name before after status s files failed stood text reads is serves

pub decides_what_reads : (words : List (List ℕ)) (shelf : Option Files) (failed : Type 0) (before after : Moment) (status : Status) → ServesWords words shelf failed before after status → DecidesWhatReads words shelf failed before after status
decides_what_reads words shelf failed before after status (top.no_command nothing writes) = λ command name nodes text s asks told reads stood. absurd (nothing.no_file command name nodes asks)
decides_what_reads words shelf failed before after status (top.asked command' name' nodes' asks' serves) = λ command name nodes text s asks told reads stood.
    let same_name : name' ≡ name = one_file words command command' name name' nodes nodes' asks asks' in
    let same_command : command' ≡ command = one_command words command command' name name' nodes nodes' asks asks' in
    let same_nodes : nodes' ≡ nodes = one_budget words command command' name name' nodes nodes' asks asks' in
    let reads' = subst (λ (n : List ℕ). Reads (told_file shelf) n text s) (sym same_name) reads in
    let decides = of_told command' nodes' name' text s shelf failed before after status (ap (told_file shelf) same_name ∙ told) reads' stood serves in
    subst (λ (n : ℕ). Decides command n s before after status) same_nodes (subst (λ (c : Command). Decides c nodes' s before after status) same_command decides)
decides_what_reads words shelf failed before after status (top.arbiter clients nodes' asks' serves) = λ command name nodes text s asks told reads stood. absurd (file_or_arbiter words command name nodes clients nodes' asks asks')
decides_what_reads words shelf failed before after status (top.no_memory wants) = λ command name nodes text s asks told reads stood. top.no_memory wants

-- an arbiter whose text reads is decided
of_arbiter : (clients nodes : ℕ) (s : Specification) → ReadsAlone (arbiter_text clients) s → (told : Told) (failed : Type 0) (before after : Moment) (status : Status) → ServesArbiter told failed clients nodes before after status → DecidesArbiter clients nodes s before after status
of_arbiter clients nodes s reads told failed before after status (headed between line serves) = headed between line (of_text nodes arbiter_name (arbiter_text clients) s reads told failed between after status serves)
of_arbiter clients nodes s reads told failed before after _ (cut_at_once unread part rose) = cut_at_once unread part rose
of_arbiter clients nodes s reads told failed before after status (no_room wants) = no_room wants

pub decides_arbiters : (words : List (List ℕ)) (shelf : Option Files) (failed : Type 0) (before after : Moment) (status : Status) → ServesWords words shelf failed before after status → DecidesArbiters words before after status
decides_arbiters words shelf failed before after status (top.no_command nothing writes) = λ clients nodes s asks reads. absurd (nothing.no_arbiter clients nodes asks)
decides_arbiters words shelf failed before after status (top.asked command name nodes' asks' serves) = λ clients nodes s asks reads. absurd (file_or_arbiter words command name nodes' clients nodes asks' asks)
decides_arbiters words shelf failed before after status (top.arbiter clients' nodes' asks' serves) = λ clients nodes s asks reads.
    let same = one_arbiter words clients' clients nodes' nodes asks' asks in
    subst (λ (n : ℕ). DecidesArbiter clients n s before after status) same.1
    (of_arbiter clients nodes' s reads (told_file shelf) failed before after status (subst (λ (n : ℕ). ServesArbiter (told_file shelf) failed n nodes' before after status) same.0 serves))
decides_arbiters words shelf failed before after status (top.no_memory wants) = λ clients nodes s asks reads. no_room wants
