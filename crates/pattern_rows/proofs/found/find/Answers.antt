use Rattle.std.proofs.Common.{◌<◌, length, map, sym, ap, ◌∙◌, arith}
use Rattle.std.proofs.lemmas.List.{length-map}
use Rattle.spec_model.specs.Values.{truth_of}
use Rattle.spec_model.specs.Views.{pattern_data}
use Rattle.pattern_rows.specs.Rows.{may_follow}
use Rattle.pattern_rows.specs.Wides.{bit}
use Rattle.pattern_rows.specs.Blocks.{letter_in}
use Rattle.pattern_rows.proofs.Scans.{stopped}
use Rattle.pattern_rows.proofs.Marks.{word_tells, marked_on}
use Rattle.pattern_rows.proofs.found.find.Goals as goal

pub returns-then-not-mark-clause-open : goal.returns-then-not-mark-clause-open
returns-then-not-mark-clause-open c = λ is.
    let letters = map (λ c. c.items) c.args.letters.now in
    let two = c.mark.ensures.twice c.if-not-mark.true in
    let below : two.0 < length c.args.letters.now = omega (arith, two.1, c.loop-k.invariant.sized) in
    let long = length-map c.args.letters.now (λ c. c.items) in
    let here =
    word_tells c.args.pattern.now (letter_in letters two.0) c.args.own.now c.index-owns-k.result.items c.deref.result.now c.deref-in-loop-k.result.now _
    (c.word_of.ensures two.0 (omega (arith, below, long, c.requires.words.few)) ∙ ap truth_of (c.in_ok-allowed.ensures two.0 (omega (arith, below, long)))) c.deref-in-loop-k.ensures.value c.deref.ensures.value in (
      two.0,
      below,
      stopped (λ c. c.items) (may_follow (pattern_data c.args.pattern.now) (letter_in letters two.0) c.args.own.now) c.args.owns.now c.loop-k.k c.index-owns-k.result _ two.3 c.loop-k-test.true c.index-owns-k.is (sym here ∙ two.2) (c.loop-k.invariant.same two.0 below),
    )

pub loop-k-preserved : goal.loop-k-preserved
loop-k-preserved c =
    let letters = map (λ c. c.items) c.args.letters.now in
    let long = length-map c.args.letters.now (λ c. c.items) in
    record {
      sized = c.mark.ensures.lengths ∙ c.loop-k.invariant.sized;
      same = λ i below.
          marked_on (λ c. c.items) (may_follow (pattern_data c.args.pattern.now) (letter_in letters i) c.args.own.now) c.args.owns.now c.loop-k.k c.index-owns-k.result c.loop-k-test.true c.index-owns-k.is
          (bit c.word_of.result i) _ _ _
          (word_tells c.args.pattern.now (letter_in letters i) c.args.own.now c.index-owns-k.result.items c.deref.result.now c.deref-in-loop-k.result.now _
          (c.word_of.ensures i (omega (arith, below, long, c.requires.words.few)) ∙ ap truth_of (c.in_ok-allowed.ensures i (omega (arith, below, long)))) c.deref-in-loop-k.ensures.value c.deref.ensures.value)
          (c.mark.ensures.marked c.if-not-mark.false i (omega (arith, below, c.loop-k.invariant.sized))) (c.loop-k.invariant.same i below);
    }
