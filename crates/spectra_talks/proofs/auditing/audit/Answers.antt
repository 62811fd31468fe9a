use Rattle.std.proofs.Common.{inl, inr}
use Rattle.spec_model.specs.Views.{spec_data}
use Rattle.spectra_talks.proofs.Exchanges.{nothing_done}
use Rattle.spectra_talks.proofs.auditing.audit.Goals as goal

pub read_log-requires-clause-one_specification : goal.read_log-requires-clause-one_specification
read_log-requires-clause-one_specification g c = (spec_data c.args.spec.now, c.in-Ok-room_for.ensures.for_spec, c.in-Ok-room_for.ensures.audit)

pub returns-in-Ok-room_for : goal.returns-in-Ok-room_for
returns-in-Ok-room_for g c = inl (c.read_log.ensures (spec_data c.args.spec.now) c.in-Ok-room_for.ensures.for_spec c.in-Ok-room_for.ensures.audit)

pub returns-in-Err : goal.returns-in-Err
returns-in-Err g c = inr (nothing_done _)

pub returns-in_default : goal.returns-in_default
returns-in_default g c = inr (nothing_done _)
