use Rattle.std.proofs.Common.{ℕ, List, ◌++◌, subst}
use Rattle.std.specs.Result.{OnErr}
use Rattle.sp_outside.specs.Written.{AppendsFront}
use Rattle.counterstrategy.specs.Objects.{note_data}
use Rattle.session.specs.CounterTalks.{note_line}
use Rattle.session.proofs.Noting.{front_first, front_of_both, on_err, same_shown}
use Rattle.session.proofs.counter.write_answer.Goals as goal

pub returns-in_err-write_note-clause-part : goal.returns-in_err-write_note-clause-part
returns-in_err-write_note-clause-part g c = on_err c.from_residual.result (front_first _ _ (note_line (note_data c.args.note)) _ c.in_err-write_note.ensures.part)

pub returns-clause-part : goal.returns-clause-part
returns-clause-part g c =
    let first = note_line (note_data c.args.note) in
    let w = c.write_shown in
    subst (λ (l : List ℕ). OnErr w.result (AppendsFront (g.O.Sink.written c.args.output.now) (g.O.Sink.written w.new.output) (first ++ l))) (same_shown c.args.lines.now c.write_note.new.lines c.write_note.ensures.keeps c.write_note.ensures.shown)
    (front_of_both _ _ _ first _ w.result c.in_ok-write_note.ensures.whole w.ensures.part)
