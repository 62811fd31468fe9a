use Rattle.std.proofs.Common.{◌&&◌, ap, ◌∙◌, arith}
use Rattle.std.specs.List.{list_all}
use Rattle.spec_model.specs.declared.value.Value.TheVariants as value
use Rattle.spec_model.specs.Meaning.{truths_at}
use Rattle.game_values.specs.Safety.{formulas_in}
use Rattle.game_values.specs.Times.{time_of}
use Rattle.pattern_rows.specs.Wides.{bit}
use Rattle.pattern_rows.specs.Blocks.{reading_at}
use Rattle.pattern_rows.proofs.Bits.{bit-ones, bit-none}
use Rattle.pattern_rows.proofs.Several.{all_more, some_more, all_ended, all_none, some_ended, lighter}
use Rattle.pattern_rows.proofs.block.+block.Goals as goal

pub all_hold-loop-e-init : goal.all_hold-loop-e-init
all_hold-loop-e-init t c =
    record {
      same = λ i below. ap (λ b. b && list_all (λ a. a (time_of c.args.at)) (truths_at (reading_at c.args.b.now i) (formulas_in c.args.es.now))) (bit-ones i (omega (arith, below, c.requires.few)));
      lighter = omega arith;
    }

pub all_hold-loop-e-preserved : goal.all_hold-loop-e-preserved
all_hold-loop-e-preserved t c =
    record {
      same = λ i below.
          all_more (reading_at c.args.b.now i) (time_of c.args.at) c.args.es.now c.loop-e.e-index c.e-item.result (bit c.loop-e.all i) (bit c.in_ok-one.one i) _ c.loop-e-test.true c.e-item.is
          (c.in_ok-one.ensures i below) (c.both-all.ensures i) (c.loop-e.invariant.same i below);
      lighter = lighter c.args.es.now c.loop-e.e-index _ c.loop-e.invariant.lighter;
    }

pub all_hold-returns-then-all-eq0 : goal.all_hold-returns-then-all-eq0
all_hold-returns-then-all-eq0 t c = λ i below.
    ap value.Bool (all_none (reading_at c.args.b.now i) (time_of c.args.at) c.args.es.now c.loop-e.e-index (bit c.loop-e.all i) (ap (λ n. bit n i) c.if-all-eq0.true ∙ bit-none i) (c.loop-e.invariant.same i below))

pub all_hold-returns : goal.all_hold-returns
all_hold-returns t c = λ i below. ap value.Bool (all_ended (reading_at c.args.b.now i) (time_of c.args.at) c.args.es.now c.loop-e.e-index (bit c.loop-e.all i) c.loop-e-test.false (c.loop-e.invariant.same i below))

pub some_hold-loop-e-preserved : goal.some_hold-loop-e-preserved
some_hold-loop-e-preserved t c =
    record {
      same = λ i below.
          some_more (reading_at c.args.b.now i) (time_of c.args.at) c.args.es.now c.loop-e.e-index c.e-item.result (bit c.loop-e.some i) (bit c.in_ok-one.one i) _ c.loop-e-test.true c.e-item.is
          (c.in_ok-one.ensures i below) (c.either-some.ensures i) (c.loop-e.invariant.same i below);
      lighter = lighter c.args.es.now c.loop-e.e-index _ c.loop-e.invariant.lighter;
    }

pub some_hold-returns : goal.some_hold-returns
some_hold-returns t c = λ i below. ap value.Bool (some_ended (reading_at c.args.b.now i) (time_of c.args.at) c.args.es.now c.loop-e.e-index (bit c.loop-e.some i) c.loop-e-test.false (c.loop-e.invariant.same i below))
