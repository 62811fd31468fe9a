use Rattle.std.proofs.Common.{sym, ap, ◌∙◌}
use Rattle.spec_model.specs.Views.{pattern_data}
use Rattle.pattern_rows.specs.Rows.{may_begin}
use Rattle.pattern_rows.proofs.Scans.{stopped, ended}
use Rattle.pattern_rows.proofs.numbering.first_own.Goals as goal

pub returns-then-is_some : goal.returns-then-is_some
returns-then-is_some c =
    stopped (λ c. c.items) (may_begin (pattern_data c.args.pattern.now)) c.args.owns.now c.loop-k.k c.index-owns-k.result c.loop-k.found (sym c.is_some.ensures ∙ c.if-is_some.true) c.loop-k-test.true c.index-owns-k.is
    (ap (may_begin (pattern_data c.args.pattern.now)) (sym c.deref.ensures.value) ∙ (sym c.begins.ensures ∙ c.if-begins.true)) c.loop-k.invariant.same

pub returns : goal.returns
returns c = ended (λ c. c.items) (may_begin (pattern_data c.args.pattern.now)) c.args.owns.now c.loop-k.k c.loop-k.found c.loop-k-test.false c.loop-k.invariant.same
