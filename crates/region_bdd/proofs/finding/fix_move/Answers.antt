use Rattle.game_values.specs.declared.seen.At.TheVariants.{Now, Next}
use Rattle.bdd_search.proofs.PartLemmas.{agrees_have}
use Rattle.region_bdd.proofs.FindCalls.{state_still, state_have}
use Rattle.region_bdd.proofs.finding.fix_move.Goals as goal

pub returns-then-fix_before-clause-fixes : goal.returns-then-fix_before-clause-fixes
returns-then-fix_before-clause-fixes c = λ yes.
    let ds = c.args.codes.now in
    let mid = c.fix_before.new.fixed in
    let new = c.fix_next.new.fixed in
    let was = c.if-fix_before.true in
    record {
      before = λ s agrees. state_have ds c.args.when c.args.state.now new (state_still ds c.args.when c.args.state.now mid new (c.fix_before.ensures.answer.0 was) (λ vs small fixed. c.fix_next.ensures.keeps yes Now vs (λ e. cc (e)) small fixed) (c.fix_before.ensures.fixes was)) s agrees;
      next = λ s agrees. agrees_have ds Next c.args.from c.args.values.now new (c.fix_next.ensures.fixes yes) s agrees;
      allows = λ s have next. c.fix_next.ensures.allows yes s (c.fix_before.ensures.allows was s have) next;
    }
