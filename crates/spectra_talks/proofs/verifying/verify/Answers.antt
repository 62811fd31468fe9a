use Rattle.std.proofs.Common.{ℕ, List, Err, refl, ap, sym, subst}
use Rattle.std.proofs.KnownBytes.{Appends-nil}
use Rattle.sp_outside.specs.declared.fault.InputFault.{InputFault}
use Rattle.sp_outside.specs.Parts.{TakesUpTo}
use Rattle.spec_model.specs.Views.{spec_data}
use Rattle.spectra_talks.specs.Verifying.{most_taken, without_room}
use Rattle.spectra_talks.proofs.Verified.{end_told, fault_told}
use Rattle.spectra_talks.proofs.verifying.verify.Goals as goal

pub returns-in-Ok : goal.returns-in-Ok
returns-in-Ok g c =
    let s = spec_data c.args.spec.now in
    let said = c.verify_bytes in
    let before = g.I.Source.left c.args.input.now in
    let after = g.I.Source.left c.read_input.new.input in
    let taken = subst (λ (bytes : List ℕ). TakesUpTo most_taken before after bytes) (sym c.deref.ensures.value) c.in-Ok.ensures.taken in
    end_told g.O.Sink.written g.O.Sink.faults s c.args.output.now said.new.output said.result before after _ _ (g.I.Source.faults c.args.input.now) (g.I.Source.faults c.read_input.new.input) c.in-Ok.ensures.reads c.deref.result.now taken
    (c.what_is_verified_wins.ensures s c.deref.result.now c.requires.typed) said.ensures

pub returns-in-Err-Input : goal.returns-in-Err-Input
returns-in-Err-Input g c =
    let said = c.say_input_fault in
    fault_told g.O.Sink.written g.O.Sink.faults (spec_data c.args.spec.now) c.args.output.now said.new.output said.result (g.I.Source.left c.args.input.now) (g.I.Source.left c.read_input.new.input) _ _ _ _ c.in-Err-Input.ensures.reads (c.in-Err-Input.ensures.cause (ap (λ (e : InputFault). Err e) c.in-Err-Input.field-0-is)) said.ensures

pub returns-in-Err-Memory : goal.returns-in-Err-Memory
returns-in-Err-Memory g c = without_room c.in-Err-Memory.ensures.reads refl (Appends-nil (g.O.Sink.written c.args.output.now))
