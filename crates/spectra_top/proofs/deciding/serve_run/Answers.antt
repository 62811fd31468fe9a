use Rattle.std.proofs.Common.{inl, inr, refl}
use Rattle.command_words.specs.declared.words.Command.TheVariants.{Run}
use Rattle.spectra_top.proofs.Decided.{run_held, is_lost, by_solving, not_decided}
use Rattle.spectra_top.proofs.deciding.serve_run.Goals as goal

pub hold-requires : goal.hold-requires
hold-requires g c =
    let h = rw c.in-Ok-Realizable.field-0-is at c.in-Ok-Realizable.ensures in
    let play = h.verdict.1 in
    record { fresh = play.fresh; stands = play.stands; plays = play.agrees; rounds = play.rounds }

pub returns-in-Ok-Realizable : goal.returns-in-Ok-Realizable
returns-in-Ok-Realizable g c =
    let h = rw c.in-Ok-Realizable.field-0-is at c.in-Ok-Realizable.ensures in
    run_held _ _ _ _ _ _ _ refl h.verdict.0 c.hold.ensures.holds

pub returns-in-Ok-Unrealizable : goal.returns-in-Ok-Unrealizable
returns-in-Ok-Unrealizable g c =
    let h = rw c.in-Ok-Unrealizable.field-0-is at c.in-Ok-Unrealizable.ensures in
    is_lost _ _ _ _ _ _ _ _ (inr (inl refl)) h.verdict.0 (c.say_unrealizable.ensures _ _ _)

pub returns-in-Err : goal.returns-in-Err
returns-in-Err g c = not_decided _ _ _ _ _ _ _ tt (by_solving Run _ _ (λ filled. filled) _ c.in-Err.ensures.cause) (c.say_no_verdict.ensures _ _ _)
