use Rattle.std.proofs.Common.{◌∙◌, inr, refl, subst}
use Rattle.spec_model.specs.Rules.{after}
use Rattle.session_lines.specs.Views.{line_of, read_of}
use Rattle.session.specs.Audits.{IsPushed}
use Rattle.session.proofs.Fitting.{fits_after, over_after}
use Rattle.session.proofs.Logging.{position_in, reads_position}
use Rattle.session.proofs.auditing.take.Goals as goal

pub push-requires-clause-read : goal.push-requires-clause-read
push-requires-clause-read c = fits_after c.args.lines.now c.read.new.self _ c.read.ensures.keeps c.if-not-read.ensures.read

pub returns-in-Some-clause-taken : goal.returns-in-Some-clause-taken
returns-in-Some-clause-taken c = λ s log suits of.
    let new = c.read.new.self in
    let z = read_of new in
    let p = position_in s _ z (c.read.ensures.keeps.wanted ∙ suits.wanted) (fits_after c.args.lines.now new _ c.read.ensures.keeps c.if-not-read.ensures.read) in
    let reads = reads_position s _ _ (line_of c.args.lines.now) z suits.names suits.wanted c.if-not-read.ensures.read p in
    let over = over_after c.args.lines.now new _ _ _ suits c.read.ensures.keeps in
    let pushed = c.push.ensures s log over of p.front p.back p.whole p.first p.second in
    inr (p.front, p.back, reads, c.in-Some.finding, subst (IsPushed s c.push.new.audit (after log p.front p.back)) c.in-Some.is pushed, refl)

pub returns-in-None-clause-taken : goal.returns-in-None-clause-taken
returns-in-None-clause-taken c = λ s log suits of.
    let new = c.read.new.self in
    let z = read_of new in
    let p = position_in s _ z (c.read.ensures.keeps.wanted ∙ suits.wanted) (fits_after c.args.lines.now new _ c.read.ensures.keeps c.if-not-read.ensures.read) in
    let reads = reads_position s _ _ (line_of c.args.lines.now) z suits.names suits.wanted c.if-not-read.ensures.read p in
    let over = over_after c.args.lines.now new _ _ _ suits c.read.ensures.keeps in
    let pushed = c.push.ensures s log over of p.front p.back p.whole p.first p.second in
    (p.front, p.back, reads, subst (IsPushed s c.push.new.audit (after log p.front p.back)) c.in-None.is pushed)
