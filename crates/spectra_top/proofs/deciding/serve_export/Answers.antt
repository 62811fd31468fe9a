use Rattle.std.proofs.Common.{refl}
use Rattle.command_words.specs.declared.words.Command.TheVariants.{Export}
use Rattle.spectra_top.specs.Top.{exports, exports_counter}
use Rattle.spectra_top.proofs.Decided.{by_solving, not_decided}
use Rattle.spectra_top.proofs.deciding.serve_export.Goals as goal

pub export_system-requires-clause-play : goal.export_system-requires-clause-play
export_system-requires-clause-play g c =
    let h = rw c.in-Ok-Realizable.field-0-is at c.in-Ok-Realizable.ensures in
    let play = h.verdict.1 in
    record { stands = play.stands; game = play.game; rounds = play.rounds }

pub returns-in-Ok-Realizable : goal.returns-in-Ok-Realizable
returns-in-Ok-Realizable g c = λ left reads read_faults.
    let h = rw c.in-Ok-Realizable.field-0-is at c.in-Ok-Realizable.ensures in
    exports _ refl h.verdict.0 (c.export_system.ensures left reads read_faults)

pub export_environment-requires-clause-play : goal.export_environment-requires-clause-play
export_environment-requires-clause-play g c =
    let h = rw c.in-Ok-Unrealizable.field-0-is at c.in-Ok-Unrealizable.ensures in
    let play = h.verdict.1 in
    record { stands = play.stands; game = play.game; shifts = play.shifts; denials = play.denials }

pub returns-in-Ok-Unrealizable : goal.returns-in-Ok-Unrealizable
returns-in-Ok-Unrealizable g c = λ left reads read_faults.
    let h = rw c.in-Ok-Unrealizable.field-0-is at c.in-Ok-Unrealizable.ensures in
    exports_counter _ _ refl h.verdict.0 (c.export_environment.ensures left reads read_faults)

pub returns-in-Err : goal.returns-in-Err
returns-in-Err g c = λ left reads read_faults. not_decided _ _ _ _ _ _ _ tt (by_solving Export _ _ (λ filled. filled) _ c.in-Err.ensures.cause) (c.say_no_verdict.ensures left reads read_faults)
