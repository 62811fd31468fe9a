use Rattle.std.proofs.Common.{inr, refl}
use Rattle.command_words.specs.declared.words.Command.TheVariants.{Many}
use Rattle.spectra_top.proofs.Decided.{many_hosted, is_lost, by_solving, not_decided}
use Rattle.spectra_top.proofs.deciding.serve_many.Goals as goal

pub host-requires : goal.host-requires
host-requires g c =
    let h = rw c.in-Ok-Realizable.field-0-is at c.in-Ok-Realizable.ensures in
    let play = h.verdict.1 in
    record { typed = c.requires.typed; plays = (play.fresh, play.stands); agrees = play.agrees; game = play.game; rounds = play.rounds }

pub returns-in-Ok-Realizable : goal.returns-in-Ok-Realizable
returns-in-Ok-Realizable g c =
    let h = rw c.in-Ok-Realizable.field-0-is at c.in-Ok-Realizable.ensures in
    many_hosted _ _ _ _ _ _ _ refl h.verdict.0 c.host.ensures.holds

pub returns-in-Ok-Unrealizable : goal.returns-in-Ok-Unrealizable
returns-in-Ok-Unrealizable g c =
    let h = rw c.in-Ok-Unrealizable.field-0-is at c.in-Ok-Unrealizable.ensures in
    is_lost _ _ _ _ _ _ _ _ (inr (inr refl)) h.verdict.0 (c.say_unrealizable.ensures _ _ _)

pub returns-in-Err : goal.returns-in-Err
returns-in-Err g c = not_decided _ _ _ _ _ _ _ tt (by_solving Many _ _ (λ filled. filled) _ c.in-Err.ensures.cause) (c.say_no_verdict.ensures _ _ _)
