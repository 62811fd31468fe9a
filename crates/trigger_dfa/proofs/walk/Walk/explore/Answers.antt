use Rattle.std.proofs.Common.{◌<◌, ◌+◌, [], map, bit_and, length, ap, subst, arith, ◌∙◌}
use Rattle.std.proofs.lemmas.List.{get_or_read}
use Rattle.std.proofs.lemmas.Result.{err_from_is_err_and}
use Rattle.trigger_dfa.specs.Words.{with_new}
use Rattle.trigger_dfa.specs.Walks.{followed_by}
use Rattle.trigger_dfa.proofs.MetSets.{met_start, met_turn, words_all, too_many, followed_longer}
use Rattle.trigger_dfa.proofs.walk.Walk.explore.Goals as goal

pub returns-in_err-meet-clause-wide : goal.returns-in_err-meet-clause-wide
returns-in_err-meet-clause-wide c e atoms w walks =
    let p = err_from_is_err_and c.from_residual.result c.from_residual.ensures.1 in
    let walk = c.args.self.now in
    let more = subst (λ l. c.args.limit < length (with_new l (map (bit_and walk.firsts) walk.masks.items))) c.new-words.ensures.items (c.in_err-meet.ensures.wide (cc (e, p.1, p.2))) in
    too_many atoms w walk walks 0 c.args.limit (with_new [] (map (bit_and walk.firsts) walk.masks.items)) (met_start atoms w walk walks) more

pub loop-k-init : goal.loop-k-init
loop-k-init c =
    let walk = c.args.self.now in (
      λ atoms w walks.
          c.in_ok-meet.ensures.met ∙ ap (λ l. with_new l (map (bit_and walk.firsts) walk.masks.items)) c.new-words.ensures.items ∙ met_start atoms w walk walks,
      c.in_ok-meet.ensures.within (omega (arith, c.new-words.ensures.len)),
      omega arith,
    )

pub returns-in_err-go_on-clause-wide : goal.returns-in_err-go_on-clause-wide
returns-in_err-go_on-clause-wide c e atoms w walks =
    let p = err_from_is_err_and c.from_residual-in_err-go_on.result c.from_residual-in_err-go_on.ensures.1 in
    let walk = c.args.self.now in
    let words = c.loop-k.words.items in
    let below : c.loop-k.k < length words = omega (arith, c.loop-k.words.ok.0) in
    let read = get_or_read words c.loop-k.k c.index-set.result.now below c.index-set.ensures 0 in
    too_many atoms w walk walks (c.loop-k.k + 1) c.args.limit (followed_by walk c.index-set.result.now words)
    (met_turn atoms w walk walks c.loop-k.k c.index-set.result.now words (c.loop-k.invariant.0 atoms w walks) below read)
    (c.in_err-go_on.ensures.wide (cc (e, p.1, p.2)))

pub loop-k-preserved : goal.loop-k-preserved
loop-k-preserved c =
    let walk = c.args.self.now in
    let words = c.loop-k.words.items in
    let below : c.loop-k.k < length words = omega (arith, c.loop-k.words.ok.0) in
    let read = get_or_read words c.loop-k.k c.index-set.result.now below c.index-set.ensures 0 in (
      λ atoms w walks.
          c.in_ok-go_on.ensures.met ∙ met_turn atoms w walk walks c.loop-k.k c.index-set.result.now words (c.loop-k.invariant.0 atoms w walks) below read,
      c.in_ok-go_on.ensures.within c.loop-k.invariant.1,
      omega (arith, ap length c.in_ok-go_on.ensures.met, followed_longer walk c.index-set.result.now words, c.go_on.new.words.ok.0, below),
    )

pub returns-clause-sets : goal.returns-clause-sets
returns-clause-sets c atoms w walks =
    words_all atoms w c.args.self.now walks c.loop-k.k c.loop-k.words.items (c.loop-k.invariant.0 atoms w walks) (omega (arith, c.loop-k.words.ok.0, c.loop-k.invariant.2))
