use Rattle.std.proofs.Common.{inl, refl}
use Rattle.solve.proofs.Budgets.{whole_in_turn}
use Rattle.spectra_top.proofs.Decided.{is_kept, by_trying, not_decided}
use Rattle.spectra_top.proofs.deciding.serve_core.Goals as goal

pub returns-in-Ok-Realizable : goal.returns-in-Ok-Realizable
returns-in-Ok-Realizable g c =
    let h = rw c.in-Ok-Realizable.field-0-is at c.in-Ok-Realizable.ensures in
    λ left reads faults. is_kept _ _ _ _ _ _ _ (inl refl) h.numbers (c.say_realizable_instead.ensures left reads faults)

pub returns-in-Err : goal.returns-in-Err
returns-in-Err g c = λ left reads faults. not_decided _ _ _ _ _ _ _ tt (by_trying _ _ _ (whole_in_turn _ _ _ c.in-Err.ensures.cause)) (c.say_no_verdict.ensures left reads faults)
