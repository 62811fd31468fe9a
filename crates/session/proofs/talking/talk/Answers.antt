use Rattle.std.proofs.Common.{◌∙◌, arith}
use Rattle.sp_outside.proofs.HowOften.{none_read}
use Rattle.session.proofs.Fitting.{over_after}
use Rattle.session.proofs.Turns.{begun, cut_at_once, ended_since}
use Rattle.session.proofs.talking.talk.Goals as goal

pub exchange-requires : goal.exchange-requires
exchange-requires g c =
    let some = c.requires.serves in
    let opened = c.in-Ok.ensures.opens some.spec some.state some.suits some.stands in
    record {
      begun = (
        some.spec,
        some.state,
        _,
        _,
        over_after c.args.lines.now c.open.new.lines _ _ _ some.suits c.open.ensures.keeps,
        begun _ _ some.state _ _ _ _ _ (c.open.ensures.reader.ended ∙ c.requires.unread.not_ended) (c.open.ensures.reader.pending ∙ c.requires.unread.pending) opened.text opened.next opened.opens opened.stands opened.whole,
      );
    }

pub returns-in-Ok-clause-talk : goal.returns-in-Ok-clause-talk
returns-in-Ok-clause-talk g c = λ s first suits stands.
    let opened = c.in-Ok.ensures.opens s first suits stands in
    ended_since _ _ first _ _ _ _ _ _ _ _ _ _ _ c.exchange.result (omega arith) c.open.ensures.cause.later
    (c.exchange.ensures.ended s first _ _ (over_after c.args.lines.now c.open.new.lines _ _ _ suits c.open.ensures.keeps)
    (begun _ _ first _ _ _ _ _ (c.open.ensures.reader.ended ∙ c.requires.unread.not_ended) (c.open.ensures.reader.pending ∙ c.requires.unread.pending) opened.text opened.next opened.opens opened.stands opened.whole))

pub returns-in-Err-clause-talk : goal.returns-in-Err-clause-talk
returns-in-Err-clause-talk g c = λ s first suits stands.
    let opened = c.in-Err.ensures.opens s first suits stands in
    cut_at_once _ _ first _ _ _ _ _ c.requires.unread.not_ended c.requires.unread.pending opened.text opened.next opened.opens opened.stands _ _ _ c.in-Err.ensures.cause.failed opened.part

pub returns-in-Err-clause-reads : goal.returns-in-Err-clause-reads
returns-in-Err-clause-reads g c = none_read _ _ _ _
