use Rattle.std.proofs.KnownBytes.{Appends-nil}
use Rattle.session.proofs.Fitting.{reads_over, over_reads, over_after, fits_after, serves_after}
use Rattle.session.proofs.Turns.{replied}
use Rattle.session.proofs.strategy.ControllerProtocolAlone.answer.Goals as goal

pub reply-requires-clause-serves : goal.reply-requires-clause-serves
reply-requires-clause-serves g c = serves_after _ _ c.args.lines.now c.read.new.self c.requires c.read.ensures.keeps

pub reply-requires-clause-read : goal.reply-requires-clause-read
reply-requires-clause-read g c = fits_after c.args.lines.now c.read.new.self _ c.read.ensures.keeps c.if-not-read.ensures.read

pub returns-then-not-read-clause-replies : goal.returns-then-not-read-clause-replies
returns-then-not-read-clause-replies g c = λ s st suits stands. (λ x reads. c.if-not-read.ensures.refused x (over_reads c.args.lines.now _ _ _ _ _ suits reads), Appends-nil _, stands)

pub returns-clause-replies : goal.returns-clause-replies
returns-clause-replies g c = λ s st suits stands.
    replied _ _ st _ _ _ _ _ (reads_over c.args.lines.now _ _ _ _ _ suits c.if-not-read.ensures.read) c.reply.result
    (c.reply.ensures.replies s st (over_after c.args.lines.now c.read.new.self _ _ _ suits c.read.ensures.keeps) stands)
