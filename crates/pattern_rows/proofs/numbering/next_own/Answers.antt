use Rattle.std.proofs.Common.{sym, ap, ◌∙◌}
use Rattle.spec_model.specs.Views.{pattern_data}
use Rattle.pattern_rows.specs.Rows.{may_follow}
use Rattle.pattern_rows.proofs.Scans.{stopped, ended}
use Rattle.pattern_rows.proofs.numbering.next_own.Goals as goal

pub returns-then-is_some : goal.returns-then-is_some
returns-then-is_some c =
    stopped (λ c. c.items) (may_follow (pattern_data c.args.pattern.now) c.args.letter.now c.args.own.now) c.args.owns.now c.loop-k.k c.index-owns-k.result c.loop-k.found (sym c.is_some.ensures ∙ c.if-is_some.true) c.loop-k-test.true c.index-owns-k.is
    (ap (may_follow (pattern_data c.args.pattern.now) c.args.letter.now c.args.own.now) (sym c.deref.ensures.value) ∙ (sym c.follows.ensures ∙ c.if-follows.true)) c.loop-k.invariant.same

pub returns : goal.returns
returns c = ended (λ c. c.items) (may_follow (pattern_data c.args.pattern.now) c.args.letter.now c.args.own.now) c.args.owns.now c.loop-k.k c.loop-k.found c.loop-k-test.false c.loop-k.invariant.same
