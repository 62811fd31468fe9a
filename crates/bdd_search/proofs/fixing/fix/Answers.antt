use Rattle.std.proofs.Common.{◌+◌, ◌<◌, length, ◌∙◌, arith}
use Rattle.bdd_search.specs.Parts.{value_in}
use Rattle.bdd_search.proofs.FixLemmas.{fixes_more, keeps_more, allows_more, others_fixed}
use Rattle.bdd_search.proofs.fixing.fix.Goals as goal

pub loop-k-preserved : goal.loop-k-preserved
loop-k-preserved c =
    let ds = c.args.codes.now in
    let k = c.loop-k.k in
    let count = c.requires.part.0 in
    let known : c.args.from + k < length ds = omega (arith, count, c.requires.known, c.loop-k-test.true) in
    record {
      room = c.fix_value.auto.fixed ∙ c.loop-k.invariant.room;
      fixes = fixes_more ds c.args.at c.args.from c.args.values.now k c.loop-k.fixed c.fix_value.new.fixed known c.loop-k.invariant.fixes c.fix_value.ensures.fixes c.fix_value.ensures.others;
      allows = λ s agrees have. allows_more ds c.args.at (c.args.from + k) (value_in c.args.values.now k) c.loop-k.fixed c.fix_value.new.fixed s c.fix_value.ensures.others (c.fix_value.ensures.allows s) (c.loop-k.invariant.allows s agrees (λ j less. have j (omega (arith, less)))) (have k (omega arith));
      others = keeps_more ds c.args.at (c.args.from + k) c.args.fixed.now c.loop-k.fixed c.fix_value.new.fixed known c.loop-k.invariant.others c.fix_value.ensures.others;
    }

pub returns-clause-fixes : goal.returns-clause-fixes
returns-clause-fixes c = λ k below. let count = c.requires.part.0 in c.loop-k.invariant.fixes k (omega (arith, below, count, c.loop-k-test.false))

pub returns-clause-keeps : goal.returns-clause-keeps
returns-clause-keeps c = λ other vs differ small fixed. others_fixed c.args.codes.now c.args.at other vs c.args.fixed.now c.loop-k.fixed differ small c.loop-k.invariant.others fixed
