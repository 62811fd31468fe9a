use Rattle.std.proofs.Common.{sym, subst}
use Rattle.std.specs.Result.{OnErr}
use Rattle.sp_outside.specs.Written.{AppendsFront}
use Rattle.counterstrategy.specs.declared.counterstrategy.Note.{Note}
use Rattle.counterstrategy.specs.Objects.{note_data}
use Rattle.session.specs.CounterTalks.{note_line}
use Rattle.session.proofs.counter.write_note.Goals as goal

pub returns-in-Shift-clause-part : goal.returns-in-Shift-clause-part
returns-in-Shift-clause-part g c =
    let w = c.write_line in
    subst (λ (n : Note). OnErr w.result (AppendsFront (g.O.Sink.written c.args.output.now) (g.O.Sink.written w.new.output) (note_line (note_data n)))) (sym c.in-Shift.is) w.ensures.part

pub returns-in-Deny-clause-part : goal.returns-in-Deny-clause-part
returns-in-Deny-clause-part g c =
    let w = c.write_denial in
    subst (λ (n : Note). OnErr w.result (AppendsFront (g.O.Sink.written c.args.output.now) (g.O.Sink.written w.new.output) (note_line (note_data n)))) (sym c.in-Deny.is) w.ensures.part
