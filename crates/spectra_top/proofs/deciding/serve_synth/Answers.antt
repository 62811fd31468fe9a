use Rattle.std.proofs.Common.{inl, refl}
use Rattle.command_words.specs.declared.words.Command.TheVariants.{Synth}
use Rattle.spectra_top.proofs.Decided.{synth_won, is_lost, by_solving, not_decided}
use Rattle.spectra_top.proofs.deciding.serve_synth.Goals as goal

pub returns-in-Ok-Realizable : goal.returns-in-Ok-Realizable
returns-in-Ok-Realizable g c =
    let h = rw c.in-Ok-Realizable.field-0-is at c.in-Ok-Realizable.ensures in
    λ left reads faults. synth_won _ _ _ _ _ _ _ refl h.numbers (c.say_realizable.ensures left reads faults)

pub returns-in-Ok-Unrealizable : goal.returns-in-Ok-Unrealizable
returns-in-Ok-Unrealizable g c =
    let h = rw c.in-Ok-Unrealizable.field-0-is at c.in-Ok-Unrealizable.ensures in
    λ left reads faults. is_lost _ _ _ _ _ _ _ _ (inl refl) h.numbers (c.say_unrealizable.ensures left reads faults)

pub returns-in-Err : goal.returns-in-Err
returns-in-Err g c = λ left reads faults. not_decided _ _ _ _ _ _ _ tt (by_solving Synth _ _ (λ filled. filled) _ c.in-Err.ensures.cause) (c.say_no_verdict.ensures left reads faults)
