use Rattle.std.proofs.Common.{sym, ◌∙◌, arith}
use Rattle.spectra_judge.proofs.Chained.{bringing_found, not_bringing}
use Rattle.spectra_judge.proofs.chains.bringing_in.Goals as goal

pub returns-then-brings_past : goal.returns-then-brings_past
returns-then-brings_past c =
    bringing_found c.args.links.now c.loop-last.last (omega arith) c.loop-last.invariant.within c.index-links-last.result c.index-links-last.is c.loop-last.invariant.nothing
    (sym c.brings_past.ensures ∙ c.if-brings_past.true)

pub loop-last-preserved : goal.loop-last-preserved
loop-last-preserved c =
    record {
      within = omega arith;
      nothing = not_bringing c.args.links.now c.loop-last.last (omega arith) c.loop-last.invariant.within c.index-links-last.result c.index-links-last.is c.loop-last.invariant.nothing
          (sym c.brings_past.ensures ∙ c.if-brings_past.false);
    }
