use Rattle.std.proofs.Common.{sym, ◌∙◌, arith}
use Rattle.spectra_judge.proofs.Chained.{past_found, not_past}
use Rattle.spectra_judge.proofs.chains.past_until.Goals as goal

pub returns-then-is_past : goal.returns-then-is_past
returns-then-is_past c =
    past_found c.args.links.now c.loop-last.last (omega arith) c.loop-last.invariant.within c.index-links-last.result c.index-links-last.is c.loop-last.invariant.nothing
    (sym c.is_past.ensures ∙ c.if-is_past.true)

pub loop-last-preserved : goal.loop-last-preserved
loop-last-preserved c =
    record {
      within = omega arith;
      nothing = not_past c.args.links.now c.loop-last.last (omega arith) c.loop-last.invariant.within c.index-links-last.result c.index-links-last.is c.loop-last.invariant.nothing
          (sym c.is_past.ensures ∙ c.if-is_past.false);
    }
