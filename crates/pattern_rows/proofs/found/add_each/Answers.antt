use Rattle.std.proofs.Common.{◌==◌, length, map, sym, ap, ◌∙◌}
use Rattle.std.specs.List.{position_or_len}
use Rattle.spec_model.specs.Views.{pattern_data}
use Rattle.pattern_rows.specs.Rows.{may_follow}
use Rattle.pattern_rows.specs.ToldRows.{is_told}
use Rattle.pattern_rows.proofs.Steps.{rest_passes, added_last, rest_tells, one_fails}
use Rattle.pattern_rows.proofs.found.add_each.Goals as goal

pub returns-in-None-clause-open : goal.returns-in-None-clause-open
returns-in-None-clause-open c = λ is.
    one_fails (λ c. c.items) c.args.letters.now c.loop-letter.letter-index c.letter-item.result c.loop-letter-test.true c.letter-item.is
    (λ letter. is_told (may_follow (pattern_data c.args.pattern.now) letter c.args.own.now) (map (λ c. c.items) c.args.owns.now)) _
    (ap (λ letter. is_told (may_follow (pattern_data c.args.pattern.now) letter c.args.own.now) (map (λ c. c.items) c.args.owns.now)) (sym c.deref.ensures.value) ∙ c.in-None.ensures) c.loop-letter.invariant.told

pub loop-letter-preserved : goal.loop-letter-preserved
loop-letter-preserved c =
    record {
      long = (rest_passes (λ c. c.items) c.args.letters.now c.loop-letter.letter-index c.letter-item.result c.loop-letter-test.true c.letter-item.is (λ l. length l == (pattern_data c.args.pattern.now).params) c.loop-letter.invariant.long).1;
      added =
          added_last (λ c. c.items) c.args.letters.now c.loop-letter.letter-index c.letter-item.result c.loop-letter-test.true c.letter-item.is
          (λ letter. position_or_len (may_follow (pattern_data c.args.pattern.now) letter c.args.own.now) (map (λ c. c.items) c.args.owns.now)) c.loop-letter.next.items _ c.in-Some.k _ c.in_ok-push-in-Some.ensures.items
          (c.in-Some.ensures.1 ∙ ap (λ letter. position_or_len (may_follow (pattern_data c.args.pattern.now) letter c.args.own.now) (map (λ c. c.items) c.args.owns.now)) c.deref.ensures.value) c.loop-letter.invariant.added;
      told =
          rest_tells (λ c. c.items) c.args.letters.now c.loop-letter.letter-index c.letter-item.result c.loop-letter-test.true c.letter-item.is
          (λ letter. is_told (may_follow (pattern_data c.args.pattern.now) letter c.args.own.now) (map (λ c. c.items) c.args.owns.now)) _
          (ap (λ letter. is_told (may_follow (pattern_data c.args.pattern.now) letter c.args.own.now) (map (λ c. c.items) c.args.owns.now)) (sym c.deref.ensures.value) ∙ c.in-Some.ensures.0) c.loop-letter.invariant.told;
    }
