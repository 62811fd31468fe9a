use Rattle.std.proofs.Common.{◌≡◌, length, map, refl, sym, ap, ◌∙◌, arith}
use denote.Param.Weighed.{most}
use Rattle.std.specs.Vec.Iter.{into_iter_items}
use Rattle.spectra_resolved.specs.declared.tree.Regex.{size-Regex}
use Rattle.spectra_resolved.specs.declared.tree.Regex.TheVariants as variants
use Rattle.spectra_resolved.specs.Chained.{regexes, repeated}
use Rattle.spectra_resolved.specs.Views.{regex_data}
use Rattle.spectra_copies.specs.Texts.{within, each_in_turn, regex_out}
use Rattle.spectra_resolved.proofs.Trees.{repeat_data}
use Rattle.spectra_copies.proofs.Turns.{first_turn, next_turn, last_turn, regexes_in_turn, repeated_out}
use Rattle.spectra_copies.proofs.texts.Writer.+regexes.Goals as goal

pub regexes-loop-r-init : goal.regexes-loop-r-init
regexes-loop-r-init t c =
    let step = regex_out c.args.self.now.numbers.now in
    let gives = c.into_iter-r-iterator.ensures.into_iter_gives in
    record {
      kept = refl;
      out = first_turn regex_data step c.in_ok-all.all.items c.args.self.now.room (into_iter_items c.into_iter-r-iterator.result) c.in_ok-all.ensures.items
          ∙ ap (λ xs. each_in_turn step c.args.self.now.room (map regex_data xs)) gives.0;
      counted = let long = c.args.rs.ok.0 in let same = ap length gives.0 in omega (arith, gives.1, long, same);
      smaller = let same = ap (most (λ r. size-Regex r)) gives.0 in omega (arith, same);
    }

pub regexes-loop-r-preserved : goal.regexes-loop-r-preserved
regexes-loop-r-preserved t c =
    let at = c.loop-r in
    let steps = c.in-Some.ensures.steps in
    record {
      kept = c.regex.ensures.kept ∙ at.invariant.kept;
      out = next_turn regex_data (regex_out c.args.self.now.numbers.now) at.all.items c.push.new.self.items at.self.room c.regex.new.self.room (into_iter_items at.r-iterator) (into_iter_items c.next.new.self) c.in-Some.r c.in_ok-regex.field-0 steps.0 c.in_ok-push.ensures.items
          (c.in_ok-regex.ensures.out ∙ ap (λ n. regex_out n at.self.room (regex_data c.in-Some.r)) at.invariant.kept)
          ∙ at.invariant.out;
      counted = let was = at.invariant.counted in let gone = steps.1 in let short = ap length steps.0 in omega (arith, was, gone, short);
      smaller = let was = at.invariant.smaller in let left = ap (most (λ r. size-Regex r)) steps.0 in omega (arith, was, left);
    }

pub regexes-returns-clause-out : goal.regexes-returns-clause-out
regexes-returns-clause-out t c =
    let at = c.loop-r in
    let none = c.in-None.ensures.steps in
    let n = c.args.self.now.numbers.now in
    ap (within regexes) (last_turn regex_data (regex_out n) at.all.items at.self.room (into_iter_items at.r-iterator) (sym at.invariant.counted ∙ none.0) ∙ at.invariant.out)
    ∙ regexes_in_turn n c.args.self.now.room (map regex_data c.args.rs.items)

-- ---- a part with repeats behind it

pub regex-returns-in_ok-new-in-Repeat-clause-out : goal.regex-returns-in_ok-new-in-Repeat-clause-out
regex-returns-in_ok-new-in-Repeat-clause-out t c =
    let n = c.args.self.now.numbers.now in let room = c.args.self.now.room in
    let part = c.in-Repeat.part in let times = c.in-Repeat.times in let made = c.in_ok-made-in-Repeat.made in
    let inner = c.into_inner-in-Repeat.ensures in
    let whole : regex_data c.args.r ≡ repeated (regex_data c.into_inner-in-Repeat.result) times.items = ap regex_data c.in-Repeat.is ∙ repeat_data part times ∙ ap (λ r. repeated (regex_data r) times.items) (sym inner) in
    let new : regex_data (variants.Repeat c.in_ok-new-in-Repeat.field-0 times) ≡ repeated (regex_data made) times.items =
    repeat_data c.in_ok-new-in-Repeat.field-0 times ∙ ap (λ r. repeated (regex_data r) times.items) c.in_ok-new-in-Repeat.ensures.ok in
    (λ i. record { made = new i; room = c.regex.new.self.room })
    ∙ ap (within (λ r. repeated r times.items)) c.in_ok-made-in-Repeat.ensures.out
    ∙ sym (repeated_out n room (regex_data c.into_inner-in-Repeat.result) times.items)
    ∙ ap (regex_out n room) (sym whole)
