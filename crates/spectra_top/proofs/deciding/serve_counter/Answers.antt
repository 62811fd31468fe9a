use Rattle.std.proofs.Common.{inr, refl}
use Rattle.command_words.specs.declared.words.Command.TheVariants.{Counter}
use Rattle.spectra_top.proofs.Decided.{is_kept, is_countered, by_solving, not_decided}
use Rattle.spectra_top.proofs.deciding.serve_counter.Goals as goal

pub returns-in-Ok-Realizable : goal.returns-in-Ok-Realizable
returns-in-Ok-Realizable g c =
    let h = rw c.in-Ok-Realizable.field-0-is at c.in-Ok-Realizable.ensures in
    is_kept _ _ _ _ _ _ _ (inr refl) h.opposition (c.say_realizable_instead.ensures _ _ _)

pub counter-requires : goal.counter-requires
counter-requires g c =
    let h = rw c.in-Ok-Unrealizable.field-0-is at c.in-Ok-Unrealizable.ensures in
    let play = h.opposition.1 in
    record { fresh = (play.fresh, play.empty); stands = play.stands; plays = record { agrees = play.agrees; rise = play.rise }; shifts = play.shifts; denials = play.denials }

pub returns-in-Ok-Unrealizable : goal.returns-in-Ok-Unrealizable
returns-in-Ok-Unrealizable g c =
    let h = rw c.in-Ok-Unrealizable.field-0-is at c.in-Ok-Unrealizable.ensures in
    is_countered _ _ _ _ _ _ _ _ refl h.opposition.0 c.counter.ensures.holds

pub returns-in-Err : goal.returns-in-Err
returns-in-Err g c = not_decided _ _ _ _ _ _ _ tt (by_solving Counter _ _ (λ filled. filled) _ c.in-Err.ensures.cause) (c.say_no_verdict.ensures _ _ _)
