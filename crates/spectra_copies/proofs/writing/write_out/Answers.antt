use Rattle.std.proofs.Common.{ap, ◌∙◌}
use Rattle.spectra_resolved.specs.Views.{resolved_data}
use Rattle.spectra_copies.specs.Levels.{within_room}
use Rattle.spectra_copies.specs.Copies.{written}
use Rattle.spectra_copies.proofs.Made.{small, in_room, past_room}
use Rattle.spectra_copies.proofs.writing.write_out.Goals as goal

pub returns-in-Ok-clause-made : goal.returns-in-Ok-clause-made
returns-in-Ok-clause-made c =
    let t = resolved_data c.args.t.now in
    in_room c.args.room (written c.args.numbers.now c.new-bounds.result.items t) c.in-Ok.made c.in-Ok.ensures.made
    ∙ ap (λ q. within_room c.args.room (written c.args.numbers.now q t)) c.new-bounds.ensures.items

pub returns-in-Ok-clause-within : goal.returns-in-Ok-clause-within
returns-in-Ok-clause-within c = small c.args.room (written c.args.numbers.now c.new-bounds.result.items (resolved_data c.args.t.now)) c.in-Ok.made c.in-Ok.ensures.made

pub returns-in-Err-Large-clause-made : goal.returns-in-Err-Large-clause-made
returns-in-Err-Large-clause-made c =
    let t = resolved_data c.args.t.now in
    past_room c.args.room (written c.args.numbers.now c.new-bounds.result.items t) c.in-Err-Large.field-0 c.in-Err-Large.ensures.made c.in-Err-Large.field-0-is
    ∙ ap (λ q. within_room c.args.room (written c.args.numbers.now q t)) c.new-bounds.ensures.items
