-- With enough nodes no named sets fill them, so that the node budget is never reached.
use Rattle.std.proofs.Common.{◌<◌, ◌≤◌, ℕ, List, [], ◌∷◌, Option, None, Some, inl, inr, arith, sym, subst}
use Rattle.sp_outside.specs.Causes.{Rose}
use Rattle.spec_model.specs.Syntax.{Specification}
use Rattle.spec_model.specs.Cores.{less, guarantees_of}
use Rattle.spec_model.specs.Needs.{need_of, AskedFrom, Tried}
use Rattle.hidden_game.specs.GameOf.{game_of}
use Rattle.hidden_game.proofs.FewBits.{part_needs}
use Rattle.solve.specs.Crowded.{Crowded}
use Rattle.spec_order.specs.declared.report.Better.{Better}
use Rattle.spec_order.specs.Crowded.{CrowdedOrder}
use Rattle.session.specs.declared.talking.End.{End}
use Rattle.session.specs.declared.talking.End.TheVariants as ends
use Rattle.session.specs.declared.auditing.AuditEnd.{AuditEnd}
use Rattle.session.specs.declared.auditing.AuditEnd.TheVariants as audits
use Rattle.command_words.specs.declared.words.Command.{Command}
use Rattle.command_words.specs.declared.words.Command.TheVariants.{Synth, Run, Many, Order, Core, Separate, Counter, Audit, Export, Verify}
use Rattle.spectra_talks.specs.declared.status.Status.{Status}
use Rattle.spectra_talks.specs.declared.status.Status.TheVariants.{Budget}
use Rattle.spectra_talks.specs.Endings.{Ending, status_of, verified_system, verified_environment, input_fault}
use Rattle.spectra_talks.specs.Streams.{Moment, Writes, whole, cut, WantsMemory}
use Rattle.spectra_talks.specs.Sessions as sessions
use Rattle.spectra_talks.specs.Verifying as tables
use Rattle.spectra_talks.specs.Exporting as exports
use Rattle.spectra_talks.specs.Exporting.{Exports, IsLargeForSystem, IsLargeForEnvironment}
use Rattle.spectra_talks.specs.Verifying.{checked, of_table, verify_ending, Verifies}
use Rattle.strategy_tables.specs.Games.{TableData, OfSystem, OfEnvironment}
use Rattle.strategy_text.specs.Reading.{table_in}
use Rattle.table_check.specs.declared.checking.CheckEnd.{CheckEnd}
use Rattle.table_check.specs.declared.checking.CheckEnd.TheVariants.{Sound, Flaw, Limit as SizeLimit}
use Rattle.table_check.specs.Ends.{check_end}
use Rattle.spectra_talks.specs.Sessions.{Talk, Closes, HoldsSession, session, cut_at_once, ending_after, counter_ending_after, audit_ending_after}
use Rattle.spectra_top.specs.Top.{Decides, solved_for, AreFilled, order_ending}
use Rattle.spectra_top.specs.Budgets.{NeverFilled, NeverRunsOut}
use Rattle.spectra_top.specs.Top as top

-- ---- nodes that are filled are too few

-- what trying for a core asks about has fewer guarantees, so that it needs no more nodes
asked_needs : (s t : Specification) (kept tries : List ℕ) → AskedFrom s kept tries t → need_of t ≤ need_of s
asked_needs s t kept [] asked = absurd asked
asked_needs s t kept (n ∷ ns) (inl is) = subst (λ (u : Specification). need_of u ≤ need_of s) (sym is) (part_needs s (less kept n))
asked_needs s t kept (n ∷ ns) (inr (inl later)) = asked_needs s t (less kept n) ns later.1
asked_needs s t kept (n ∷ ns) (inr (inr later)) = asked_needs s t kept ns later.1

tried_needs : (s t : Specification) → Tried s t → need_of t ≤ need_of s
tried_needs s t (inl is) = subst (λ (u : Specification). need_of u ≤ need_of s) (sym is) (omega arith)
tried_needs s t (inr asked) = asked_needs s t (guarantees_of s) (guarantees_of s) asked

-- crowded nodes are fewer than are needed
abbrev CrowdedIsFew : Type 0
CrowdedIsFew = (s : Specification) (n : ℕ) → Crowded (game_of s) n → n < need_of s

abbrev CrowdedOrderIsFew : Type 0
CrowdedOrderIsFew = (s : Specification) (n : ℕ) → CrowdedOrder s n → n < need_of s

module _ (crowded_few : CrowdedIsFew) (order_few : CrowdedOrderIsFew) where
  never : (nodes : ℕ) (s : Specification) → need_of s ≤ nodes → ¬ Crowded (game_of s) nodes
  never nodes s enough_nodes crowded = absurd (let few = crowded_few s nodes crowded in omega (arith, few, enough_nodes))

  pub never_filled : (command : Command) (nodes : ℕ) (s : Specification) → NeverFilled command nodes s
  never_filled Core nodes s enough_nodes filled = never nodes filled.0 (let more = tried_needs s filled.0 filled.1 in omega (arith, more, enough_nodes)) filled.2
  never_filled Order nodes s enough_nodes filled = absurd (let few = order_few s nodes filled.1 in omega (arith, few, enough_nodes))
  never_filled Synth nodes s enough_nodes filled = never nodes s enough_nodes filled
  never_filled Run nodes s enough_nodes filled = never nodes s enough_nodes filled
  never_filled Many nodes s enough_nodes filled = never nodes s enough_nodes filled
  never_filled Separate nodes s enough_nodes filled = never nodes (solved_for Separate s) enough_nodes filled
  never_filled Counter nodes s enough_nodes filled = never nodes s enough_nodes filled
  never_filled Audit nodes s enough_nodes filled = never nodes s enough_nodes filled
  never_filled Export nodes s enough_nodes filled = never nodes s enough_nodes filled
  never_filled Verify nodes s enough_nodes filled = never nodes s enough_nodes filled

-- ---- so they don't run out

abbrev IsOther : Status → Type 0
IsOther Budget = ⊥
IsOther _ = Unit {0}

module _ (before after : Moment) where
  by_writing : (line : List ℕ) (expected status : Status) → IsOther expected → Writes line expected before after status → IsOther status
  by_writing line expected _ other (whole unread is) = other
  by_writing line expected _ other (cut unread part rose) = tt

  by_wanting : (status : Status) → WantsMemory before after status → IsOther status
  by_wanting status wants = subst IsOther (sym wants.is) tt

  by_closing : (last : Ending) (talked written : Option (List ℕ)) (rose_out : Type 0) (status : Status) → IsOther (status_of last) → Closes last talked written rose_out status → IsOther status
  by_closing last talked written rose_out _ other (sessions.whole is) = other
  by_closing last talked written rose_out _ other (sessions.cut part rose) = tt

  by_session : (verdict : Ending) (Talks : Talk) (ending_of : End → Ending) (status : Status) → ((end : End) → IsOther (status_of (ending_of end))) → HoldsSession verdict Talks ending_of before after status → IsOther status
  by_session verdict Talks ending_of status other (session held) = by_closing (ending_of held.end) held.talked after.written (Rose before.write_faults after.write_faults) status (other held.end) held.closes
  by_session verdict Talks ending_of _ other (cut_at_once unread part rose) = tt

  by_run : (end : End) → IsOther (status_of (ending_after end))
  by_run ends.Finished = tt
  by_run (ends.Broken label) = tt
  by_run (ends.BadLine n) = tt
  by_run ends.StateLimit = tt
  by_run ends.ReadFault = tt
  by_run ends.WriteFault = tt

  by_counter : (end : End) → IsOther (status_of (counter_ending_after end))
  by_counter ends.Finished = tt
  by_counter (ends.Broken label) = tt
  by_counter (ends.BadLine n) = tt
  by_counter ends.StateLimit = tt
  by_counter ends.ReadFault = tt
  by_counter ends.WriteFault = tt

  by_audit : (end : AuditEnd) → IsOther (status_of (audit_ending_after end))
  by_audit (audits.Whole n) = tt
  by_audit (audits.Broken finding) = tt
  by_audit (audits.BadLine n) = tt
  by_audit audits.StateLimit = tt
  by_audit audits.ReadFault = tt

  by_check : (t : TableData) (end : CheckEnd) → IsOther (status_of (checked t end))
  by_check (OfSystem t) Sound = tt
  by_check (OfEnvironment t) Sound = tt
  by_check t (Flaw rule node) = tt
  by_check t SizeLimit = tt

  by_table : (s : Specification) (table : Option TableData) → IsOther (status_of (of_table s table))
  by_table s None = tt
  by_table s (Some t) = by_check t (check_end (game_of s) t)

  by_verifying : (s : Specification) (status : Status) → Verifies s before after status → IsOther status
  by_verifying s status (tables.told bytes taken reads wins closes) = by_closing (verify_ending s bytes) before.written after.written (Rose before.write_faults after.write_faults) status (by_table s (table_in s bytes)) closes
  by_verifying s status (tables.not_taken reads rose closes) = by_closing input_fault before.written after.written (Rose before.write_faults after.write_faults) status tt closes
  by_verifying s status (tables.without_room reads is nothing) = subst IsOther (sym is) tt

  by_export : (s : Specification) (says : Ending) (is_large : Type 0) (status : Status) → Exports s says is_large before after status → IsOther status
  by_export s says is_large status (exports.written text is writes) = by_writing _ _ status tt writes
  by_export s says is_large status (exports.large passes writes) = by_writing _ _ status tt writes
  by_export s says is_large status (exports.no_memory wants) = by_wanting status wants

  by_order : (s : Specification) (nodes : ℕ) (better : Option Better) → IsOther (status_of (order_ending s nodes better))
  by_order s nodes None = tt
  by_order s nodes (Some better) = tt

  module _ (command : Command) (nodes : ℕ) (s : Specification) (not_filled : ¬ AreFilled command nodes s) where
    decided : (status : Status) → Decides command nodes s before after status → IsOther status
    decided status (top.won k is by ends) = by_writing _ _ status tt ends
    decided status (top.held k is by holds) = by_session _ _ ending_after status by_run holds
    decided status (top.hosted k is by hosts) = by_session _ _ ending_after status by_run hosts
    decided status (top.lost n m is by ends) = by_writing _ _ status tt ends
    decided status (top.won_instead k is by ends) = by_writing _ _ status tt ends
    decided status (top.has_core n m core is by left core' ends) = by_writing _ _ status tt ends
    decided status (top.countered n m is by counters) = by_session _ _ counter_ending_after status by_counter counters
    decided status (top.separates n m is by ends) = by_writing _ _ status tt ends
    decided status (top.separates_not k is by ends) = by_writing _ _ status tt ends
    decided status (top.audits is log) = by_closing (audit_ending_after log.end) before.written after.written (Rose before.write_faults after.write_faults) status (by_audit log.end) log.closes
    decided status (top.exports k is by export) = by_export s (verified_system k) (IsLargeForSystem s k) status export
    decided status (top.exports_counter n m is by export) = by_export s (verified_environment n m) (IsLargeForEnvironment s n m) status export
    decided status (top.verifies is read) = by_verifying s status read
    decided status (top.orders report is few found ends) = by_writing _ _ status (by_order s report.nodes report.better) ends
    decided status (top.orders_not is many ends) = by_writing _ _ status tt ends
    decided status (top.budget other few filled ends) = absurd (not_filled filled)
    decided status (top.no_memory wants) = by_wanting status wants

pub enough : ((command : Command) (nodes : ℕ) (s : Specification) → NeverFilled command nodes s) → (command : Command) (nodes : ℕ) (s : Specification) (before after : Moment) → NeverRunsOut command nodes s before after
enough unfilled command nodes s before after enough_nodes decides = decided before after command nodes s (unfilled command nodes s enough_nodes) Budget decides
