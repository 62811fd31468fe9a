use Rattle.std.proofs.Common.{refl}
use Rattle.spec_model.specs.Views.{spec_data}
use Rattle.command_words.specs.declared.words.Command.TheVariants.{Separate}
use Rattle.spectra_top.proofs.Decided.{is_separated, is_not_separated, by_solving, not_decided}
use Rattle.spectra_top.proofs.deciding.serve_separate.Goals as goal

pub returns-in-Ok-Separated : goal.returns-in-Ok-Separated
returns-in-Ok-Separated g c =
    let h = rw c.in-Ok-Separated.field-0-is at c.in-Ok-Separated.ensures in
    λ left reads faults. is_separated _ _ _ _ _ _ _ _ refl h.separation (c.say_separated.ensures left reads faults)

pub returns-in-Ok-Forced : goal.returns-in-Ok-Forced
returns-in-Ok-Forced g c =
    let h = rw c.in-Ok-Forced.field-0-is at c.in-Ok-Forced.ensures in
    λ left reads faults. is_not_separated _ _ _ _ _ _ _ refl h.separation (c.say_not_separated.ensures left reads faults)

pub returns-in-Err : goal.returns-in-Err
returns-in-Err g c = λ left reads faults. not_decided _ _ _ _ _ _ _ tt (by_solving Separate c.args.nodes (spec_data c.args.spec.now) (λ filled. filled) _ c.in-Err.ensures.cause) (c.say_no_verdict.ensures left reads faults)
