use Rattle.std.proofs.Common.{ap}
use Rattle.session_lines.proofs.HandingLemmas.{asked}
use Rattle.session_lines.proofs.HowOften.{pending_within, one_more_read, last_read}
use Rattle.session.proofs.Fitting.{over_after, serves_after}
use Rattle.session.proofs.Turns.{by_line, too_long, at_end, failed}
use Rattle.session.proofs.talking.turn.Goals as goal

pub meet-requires-clause-serves : goal.meet-requires-clause-serves
meet-requires-clause-serves g c = serves_after _ _ c.args.lines.now c.next_line.new.self c.requires.serves c.next_line.ensures.keeps

pub returns-in-Line-clause-goes_on : goal.returns-in-Line-clause-goes_on
returns-in-Line-clause-goes_on g c = λ s first limit left written below suits so.
    let asks = asked _ _ left _ _ so.handed _ _ _ c.next_line.result so.hands c.next_line.ensures.takes (λ e. ((c.next_line.ensures.over e).0, ap g.I.Source.left (c.next_line.ensures.over e).1)) in
    rw (c.meet.ensures.reader.pending, c.meet.ensures.reader.ended)
    (by_line _ first left _ _ written _ _ _ _ _ _ c.args.count limit _ so c.next_line.result asks below _ _ _ _ c.in-Line.is c.meet.result
    (c.meet.ensures.met s so.last (over_after c.args.lines.now c.next_line.new.self _ _ _ suits c.next_line.ensures.keeps) so.stands))

pub returns-in-TooLong-clause-goes_on : goal.returns-in-TooLong-clause-goes_on
returns-in-TooLong-clause-goes_on g c = λ s first limit left written below suits so.
    let asks = asked _ _ left _ _ so.handed _ _ _ c.next_line.result so.hands c.next_line.ensures.takes (λ e. ((c.next_line.ensures.over e).0, ap g.I.Source.left (c.next_line.ensures.over e).1)) in
    too_long _ first left _ _ written _ _ _ _ _ _ c.args.count limit _ so c.next_line.result asks below _ _ c.in-TooLong.is

pub returns-in-Finish-clause-goes_on : goal.returns-in-Finish-clause-goes_on
returns-in-Finish-clause-goes_on g c = λ s first limit left written below suits so.
    let asks = asked _ _ left _ _ so.handed _ _ _ c.next_line.result so.hands c.next_line.ensures.takes (λ e. ((c.next_line.ensures.over e).0, ap g.I.Source.left (c.next_line.ensures.over e).1)) in
    at_end _ first left _ _ written _ _ _ _ _ _ c.args.count limit _ so c.next_line.result asks below _ _ c.in-Finish.is

pub returns-in-Failed-clause-goes_on : goal.returns-in-Failed-clause-goes_on
returns-in-Failed-clause-goes_on g c = λ s first limit left written below suits so.
    let asks = asked _ _ left _ _ so.handed _ _ _ c.next_line.result so.hands c.next_line.ensures.takes (λ e. ((c.next_line.ensures.over e).0, ap g.I.Source.left (c.next_line.ensures.over e).1)) in
    failed _ first left _ _ written _ _ _ _ _ _ c.args.count limit _ so c.next_line.result asks below _ _ c.in-Failed.is (c.next_line.ensures.cause c.in-Failed.is)

pub returns-in-Line-clause-reads : goal.returns-in-Line-clause-reads
returns-in-Line-clause-reads g c = λ left reads so.
    rw (c.meet.ensures.reader.pending, c.meet.ensures.reader.ended)
    (one_more_read _ _ left _ _ reads _ _ c.args.count _ _ _ c.next_line.result (pending_within c.args.lines.now) (pending_within c.next_line.new.self) so c.next_line.ensures.takes
    (λ e. let over = c.next_line.ensures.over e in (over.0, ap g.I.Source.left over.1, ap g.I.Source.reads over.1)) c.in-Line.is c.meet.result)

pub returns-in-TooLong-clause-reads : goal.returns-in-TooLong-clause-reads
returns-in-TooLong-clause-reads g c = λ left reads so.
    last_read _ _ left _ _ reads _ _ c.args.count _ _ _ c.next_line.result (pending_within c.args.lines.now) (pending_within c.next_line.new.self) so c.next_line.ensures.takes
    (λ e. let over = c.next_line.ensures.over e in (over.0, ap g.I.Source.left over.1, ap g.I.Source.reads over.1))

pub returns-in-Finish-clause-reads : goal.returns-in-Finish-clause-reads
returns-in-Finish-clause-reads g c = λ left reads so.
    last_read _ _ left _ _ reads _ _ c.args.count _ _ _ c.next_line.result (pending_within c.args.lines.now) (pending_within c.next_line.new.self) so c.next_line.ensures.takes
    (λ e. let over = c.next_line.ensures.over e in (over.0, ap g.I.Source.left over.1, ap g.I.Source.reads over.1))

pub returns-in-Failed-clause-reads : goal.returns-in-Failed-clause-reads
returns-in-Failed-clause-reads g c = λ left reads so.
    last_read _ _ left _ _ reads _ _ c.args.count _ _ _ c.next_line.result (pending_within c.args.lines.now) (pending_within c.next_line.new.self) so c.next_line.ensures.takes
    (λ e. let over = c.next_line.ensures.over e in (over.0, ap g.I.Source.left over.1, ap g.I.Source.reads over.1))
