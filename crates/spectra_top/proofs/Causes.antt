-- What causes the statuses that tell of a failure.
use Rattle.std.proofs.Common.{◌≡◌, ◌⊎◌, ℕ, List, [], ◌∷◌, ◌++◌, length, Option, None, Some, inl, inr, sym, subst, arith}
use Rattle.sp_outside.specs.Causes.{Rose}
use Rattle.sp_outside.specs.Files.{Files, told_file}
use Rattle.spectra_trees.specs.Data.{TreeData}
use Rattle.spec_model.specs.Syntax.{Specification}
use Rattle.session.specs.declared.talking.End.{End}
use Rattle.session.specs.declared.talking.End.TheVariants as ends
use Rattle.session.specs.declared.auditing.AuditEnd.{AuditEnd}
use Rattle.session.specs.declared.auditing.AuditEnd.TheVariants as audits
use Rattle.session.specs.AuditTalks.{AuditTalk}
use Rattle.session.specs.Ends.{Ends as TalkEnds}
use Rattle.many_sessions.specs.Numbered.{IsNumbered}
use Rattle.spectra_talks.specs.Hosting.{ManyTalks}
use Rattle.command_words.specs.declared.words.Command.{Command}
use Rattle.command_words.specs.declared.words.Command.TheVariants.{Synth, Verify}
use Rattle.command_words.specs.Commands.{Asks, AsksArbiter}
use Rattle.spec_gen.specs.Arbiter.{arbiter_text}
use Rattle.spec_order.specs.declared.report.Better.{Better}
use Rattle.spectra_talks.specs.declared.status.Status.{Status}
use Rattle.spectra_talks.specs.declared.status.Status.TheVariants.{Done, Other, Words, Refused, Assumption, Budget, BadLine, ShelfFault, InputFault, OutputFault, Memory, NoFile, Limit, TableRefused, SizeLimit}
use Rattle.spectra_talks.specs.Endings.{Ending, status_of, realizable, unrealizable, verified_system, verified_environment, input_fault}
use Rattle.spectra_talks.specs.Streams.{Moment, Writes, Ends, whole, cut, WantsMemory}
use Rattle.spectra_top.specs.Top.{headed, no_room, Stops, Decides, ServesTrees, ServesTree, ServesText, ServesFile, ServesWords, ServesArbiter, arbiter_name, order_ending, HasCause, StopsBelowLine, StopsAtTable, IsCaused}
use Rattle.spectra_talks.specs.Sessions as sessions
use Rattle.spectra_talks.specs.Verifying as tables
use Rattle.spectra_talks.specs.Exporting as exports
use Rattle.spectra_talks.specs.Exporting.{Exports, IsLargeForSystem, IsLargeForEnvironment}
use Rattle.spectra_talks.specs.Verifying.{checked, of_table, verify_ending, Verifies}
use Rattle.strategy_tables.specs.Games.{TableData, OfSystem, OfEnvironment}
use Rattle.strategy_text.specs.Reading.{table_in}
use Rattle.table_check.specs.declared.checking.CheckEnd.{CheckEnd}
use Rattle.table_check.specs.declared.checking.CheckEnd.TheVariants.{Sound, Flaw, Limit as PastSize}
use Rattle.table_check.specs.Ends.{check_end}
use Rattle.hidden_game.specs.GameOf.{game_of}
use Rattle.std.specs.Io.KnownBytes.{Appends}
use Rattle.spectra_talks.specs.Sessions.{Talk, Closes, HoldsSession, session, cut_at_once, ending_after, RunTalks, counter_ending_after, CounterTalks, most_positions, audit_ending_after}
use Rattle.spectra_files.specs.Reading.{Told, import_names}
use Rattle.spectra_top.specs.Top as top

-- what it is called that no memory was given, as it is where nothing was done
module _ (failed wanted : Type 0) (before after : Moment) (of_wanting : WantsMemory before after Memory → wanted) where
  abbrev Caused : Status → Type 0
  Caused status = HasCause failed wanted before after status

  by_writing : (line : List ℕ) (expected status : Status) → Caused expected → Writes line expected before after status → Caused status
  by_writing line expected _ given (whole unread is) = given
  by_writing line expected _ given (cut unread part rose) = rose

  by_wanting : (status : Status) → WantsMemory before after status → Caused status
  by_wanting status wants = subst Caused (sym wants.is) (of_wanting (subst (WantsMemory before after) wants.is wants))

  by_closing : (last : Ending) (talked : Option (List ℕ)) (status : Status) → Caused (status_of last) → Closes last talked after.written (Rose before.write_faults after.write_faults) status → Caused status
  by_closing last talked _ given (sessions.whole is) = given
  by_closing last talked _ given (sessions.cut part rose) = rose

  by_session : (verdict : Ending) (Talks : Talk) (ending_of : End → Ending) (status : Status) →
      ((end : End) (greeted talked : Option (List ℕ)) → Talks before.left after.left greeted talked (Rose before.read_faults after.read_faults) (Rose before.write_faults after.write_faults) end → Caused (status_of (ending_of end))) →
      HoldsSession verdict Talks ending_of before after status → Caused status
  by_session verdict Talks ending_of status by_talk (session held) = by_closing (ending_of held.end) held.talked status (by_talk held.end held.greeted held.talked held.talk) held.closes
  by_session verdict Talks ending_of _ by_talk (cut_at_once unread part rose) = rose

  by_run : (s : Specification) (k : ℕ) (end : End) (greeted talked : Option (List ℕ)) →
      RunTalks s k before.left after.left greeted talked (Rose before.read_faults after.read_faults) (Rose before.write_faults after.write_faults) end → Caused (status_of (ending_after end))
  by_run s k ends.Finished greeted talked talk = tt
  by_run s k (ends.Broken label) greeted talked talk = tt
  by_run s k (ends.BadLine n) greeted talked talk = tt
  by_run s k ends.StateLimit greeted talked talk = tt
  by_run s k ends.ReadFault greeted talked talk = talk.ends.0
  by_run s k ends.WriteFault greeted talked talk = talk.ends.0

  by_many : (s : Specification) (k : ℕ) (end : End) (greeted talked : Option (List ℕ)) →
      ManyTalks s (game_of s) k before.left after.left greeted talked (Rose before.read_faults after.read_faults) (Rose before.write_faults after.write_faults) end → Caused (status_of (ending_after end))
  by_many s k ends.Finished greeted talked talk = tt
  by_many s k (ends.Broken label) greeted talked talk = tt
  by_many s k (ends.BadLine n) greeted talked talk = tt
  by_many s k ends.StateLimit greeted talked talk = tt
  by_many s k ends.ReadFault greeted talked talk =
      (subst (λ (e : End). TalkEnds IsNumbered (λ m. None) most_positions talk.talk.given after.left talk.talk.handed (length talk.talk.handed) (Rose before.read_faults after.read_faults) (Rose before.write_faults after.write_faults) e) talk.same talk.talk.ends).0
  by_many s k ends.WriteFault greeted talked talk =
      (subst (λ (e : End). TalkEnds IsNumbered (λ m. None) most_positions talk.talk.given after.left talk.talk.handed (length talk.talk.handed) (Rose before.read_faults after.read_faults) (Rose before.write_faults after.write_faults) e) talk.same talk.talk.ends).0

  by_counter : (s : Specification) (n m : ℕ) (end : End) (greeted talked : Option (List ℕ)) →
      CounterTalks s n m before.left after.left greeted talked (Rose before.read_faults after.read_faults) (Rose before.write_faults after.write_faults) end → Caused (status_of (counter_ending_after end))
  by_counter s n m ends.Finished greeted talked talk = tt
  by_counter s n m (ends.Broken label) greeted talked talk = tt
  by_counter s n m (ends.BadLine k) greeted talked talk = tt
  by_counter s n m ends.StateLimit greeted talked talk = tt
  by_counter s n m ends.ReadFault greeted talked talk = talk.ends.0
  by_counter s n m ends.WriteFault greeted talked talk = talk.ends.0

  by_audit : (s : Specification) (end : AuditEnd) → AuditTalk s most_positions before.left after.left (Rose before.read_faults after.read_faults) end → Caused (status_of (audit_ending_after end))
  by_audit s (audits.Whole n) talk = tt
  by_audit s (audits.Broken finding) talk = tt
  by_audit s (audits.BadLine n) talk = tt
  by_audit s audits.StateLimit talk = tt
  by_audit s audits.ReadFault talk = talk.ends.1.0

  by_check : (t : TableData) (end : CheckEnd) → Caused (status_of (checked t end))
  by_check (OfSystem t) Sound = tt
  by_check (OfEnvironment t) Sound = tt
  by_check t (Flaw rule node) = tt
  by_check t PastSize = tt

  by_table : (s : Specification) (table : Option TableData) → Caused (status_of (of_table s table))
  by_table s None = tt
  by_table s (Some t) = by_check t (check_end (game_of s) t)

  by_verifying : (s : Specification) (status : Status) → (Appends before.written after.written [] → wanted) → Verifies s before after status → Caused status
  by_verifying s status of_table' (tables.told bytes taken reads wins closes) = by_closing (verify_ending s bytes) before.written status (by_table s (table_in s bytes)) closes
  by_verifying s status of_table' (tables.not_taken reads rose closes) = by_closing input_fault before.written status rose closes
  by_verifying s status of_table' (tables.without_room reads is nothing) = subst Caused (sym is) (of_table' nothing)

  by_export : (s : Specification) (says : Ending) (is_large : Type 0) (status : Status) → Exports s says is_large before after status → Caused status
  by_export s says is_large status (exports.written text is writes) = by_writing _ Done status tt writes
  by_export s says is_large status (exports.large passes writes) = by_writing _ SizeLimit status tt writes
  by_export s says is_large status (exports.no_memory wants) = by_wanting status wants

  by_order : (s : Specification) (nodes : ℕ) (better : Option Better) → Caused (status_of (order_ending s nodes better))
  by_order s nodes None = tt
  by_order s nodes (Some better) = tt

  module _ (command : Command) (nodes : ℕ) (at_table : command ≡ Verify → Appends before.written after.written [] → wanted) where
    by_deciding : (s : Specification) (status : Status) → Decides command nodes s before after status → Caused status
    by_deciding s status (top.won k is wins writes) = by_writing _ Done status tt writes
    by_deciding s status (top.held k is wins holds) = by_session (realizable k) (RunTalks s k) ending_after status (by_run s k) holds
    by_deciding s status (top.hosted k is wins hosts) = by_session (realizable k) (ManyTalks s (game_of s) k) ending_after status (by_many s k) hosts
    by_deciding s status (top.lost n m is loses writes) = by_writing _ Other status tt writes
    by_deciding s status (top.won_instead k is wins writes) = by_writing _ Other status tt writes
    by_deciding s status (top.has_core n m core is loses left is_core writes) = by_writing _ Done status tt writes
    by_deciding s status (top.countered n m is loses holds) = by_session (unrealizable n m) (CounterTalks s n m) counter_ending_after status (by_counter s n m) holds
    by_deciding s status (top.separates n m is loses writes) = by_writing _ Done status tt writes
    by_deciding s status (top.separates_not k is wins writes) = by_writing _ Other status tt writes
    by_deciding s status (top.audits is audit) = by_closing (audit_ending_after audit.end) before.written status (by_audit s audit.end audit.talk) audit.closes
    by_deciding s status (top.exports k is wins export) = by_export s (verified_system k) (IsLargeForSystem s k) status export
    by_deciding s status (top.exports_counter n m is loses export) = by_export s (verified_environment n m) (IsLargeForEnvironment s n m) status export
    by_deciding s status (top.verifies is read) = by_verifying s status (at_table is) read
    by_deciding s status (top.orders report is few found writes) = by_writing _ (status_of (order_ending s report.nodes report.better)) status (by_order s report.nodes report.better) writes
    by_deciding s status (top.orders_not is many writes) = by_writing _ SizeLimit status tt writes
    by_deciding s status (top.budget decides short filled writes) = by_writing _ Budget status tt writes
    by_deciding s status (top.no_memory wants) = by_wanting status wants

    module _ (name : List ℕ) where
      of_trees : (names : List (List ℕ)) (trees : List TreeData) (status : Status) → ServesTrees command nodes name before after names trees status → Caused status
      of_trees names trees status (top.mistyped number tree line column is writes) = by_writing _ Refused status tt writes
      of_trees names trees status (top.means s means decides) = by_deciding s status decides
      of_trees names trees status (top.no_memory wants) = by_wanting status wants

      stopped : (told : Option (Option (List ℕ))) (file : List ℕ) (e : Ending) (status : Status) → Stops told failed file e → Ends e before after status → Caused status
      stopped told file _ status (top.missing none) writes = by_writing _ NoFile status tt writes
      stopped told file _ status (top.failed rose) writes = by_writing _ ShelfFault status rose writes
      stopped told file _ status (top.is_refused text number line column holds is) writes = by_writing _ Refused status tt writes

      of_tree : (told : Told) (main : TreeData) (status : Status) → ServesTree command nodes told failed name before after main status → Caused status
      of_tree told main status (top.stopped file e next stops writes) = stopped (told file) file e status stops writes
      of_tree told main status (top.together imported read serves) = of_trees (import_names name main) (imported ++ main ∷ []) status serves
      of_tree told main status (top.no_memory wants) = by_wanting status wants

      of_text : (told : Told) (text : List ℕ) (status : Status) → ServesText command nodes told failed name before after text status → Caused status
      of_text told text status (top.is_refused number line column is writes) = by_writing _ Refused status tt writes
      of_text told text status (top.of_tree main reads serves) = of_tree told main status serves
      of_text told text status (top.no_memory wants) = by_wanting status wants

      of_file : (told : Told) (status : Status) → ServesFile command nodes told failed name before after status → Caused status
      of_file told status (top.stopped e stops writes) = stopped (told name) name e status stops writes
      of_file told status (top.of_tree main reads serves) = of_tree told main status serves
      of_file told status (top.no_memory wants) = by_wanting status wants

-- a cause between two moments is one between earlier and later ones
module _ (failed wanted wanted' : Type 0) (before between after : Moment) (of_reads : Rose between.read_faults after.read_faults → Rose before.read_faults after.read_faults)
    (of_writes : Rose between.write_faults after.write_faults → Rose before.write_faults after.write_faults) (of_memory : wanted → wanted') where
  caused_before : (status : Status) → HasCause failed wanted between after status → HasCause failed wanted' before after status
  caused_before Done cause = tt
  caused_before Other cause = tt
  caused_before Words cause = tt
  caused_before Refused cause = tt
  caused_before Assumption cause = tt
  caused_before Budget cause = tt
  caused_before BadLine cause = tt
  caused_before ShelfFault cause = cause
  caused_before InputFault cause = of_reads cause
  caused_before OutputFault cause = of_writes cause
  caused_before Memory cause = of_memory cause
  caused_before NoFile cause = tt
  caused_before Limit cause = tt
  caused_before TableRefused cause = tt
  caused_before SizeLimit cause = tt

module _ (words : List (List ℕ)) (failed : Type 0) (before after : Moment) where
  abbrev Wanted : Type 0
  Wanted = WantsMemory before after Memory ⊎ (StopsBelowLine words before after ⊎ StopsAtTable words before after)

  -- below the line of an arbiter
  of_arbiter : (told : Told) (clients nodes : ℕ) → AsksArbiter words clients nodes → (status : Status) → ServesArbiter told failed clients nodes before after status → IsCaused words failed before after status
  of_arbiter told clients nodes asks status (headed between line serves) =
      caused_before failed (WantsMemory between after Memory) Wanted before between after
      (λ rose. subst (λ (n : ℕ). Rose n after.read_faults) line.unread.faults rose) (λ rose. let later = line.later in omega (arith, later, rose))
      (λ wants. inr (inl (record { clients = clients; nodes = nodes; between = between; asks = asks; headed = line; wants = wants }))) status
      (of_text failed (WantsMemory between after Memory) between after (λ wants. wants) Synth nodes (λ is. absurd (cc)) arbiter_name told (arbiter_text clients) status serves)
  of_arbiter told clients nodes asks _ (top.cut_at_once unread part rose) = rose
  of_arbiter told clients nodes asks status (no_room wants) = by_wanting failed Wanted before after inl status wants

  -- where no memory was given for a table
  at_table : (command : Command) (name : List ℕ) (nodes : ℕ) → Asks words command name nodes → command ≡ Verify → Appends before.written after.written [] → Wanted
  at_table command name nodes asks is nothing = inr (inr (record { name = name; nodes = nodes; asks = subst (λ (c : Command). Asks words c name nodes) is asks; nothing_written = nothing }))

  pub is_caused : (shelf : Option Files) (status : Status) → ServesWords words shelf failed before after status → IsCaused words failed before after status
  is_caused shelf status (top.no_command nothing writes) = by_writing failed Wanted before after inl _ Words status tt writes
  is_caused shelf status (top.asked command name nodes asks serves) = of_file failed Wanted before after inl command nodes (at_table command name nodes asks) name (told_file shelf) status serves
  is_caused shelf status (top.arbiter clients nodes asks serves) = of_arbiter (told_file shelf) clients nodes asks status serves
  is_caused shelf status (top.no_memory wants) = by_wanting failed Wanted before after inl status wants
