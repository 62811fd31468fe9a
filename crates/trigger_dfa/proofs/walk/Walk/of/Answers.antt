use Rattle.std.proofs.Common.{◌<◌, ◌≤◌, length, refl, arith}
use Rattle.std.proofs.lemmas.Result.{err_from_is_err_and}
use Rattle.spec_model.specs.Views.{regular}
use Rattle.spec_model.specs.TriggerStates.{written, brackets}
use Rattle.trigger_dfa.proofs.PositionCounts.{size-written}
use Rattle.trigger_dfa.proofs.walk.Walk.of.Goals as goal

pub returns-then-size-gt-MAX_POSITIONS-clause-wide : goal.returns-then-size-gt-MAX_POSITIONS-clause-wide
returns-then-size-gt-MAX_POSITIONS-clause-wide c =
    let size = size-written (regular c.args.r.now) in
    let more : 64 < length (brackets (written (regular c.args.r.now))) = grind (arith, size, c.positions_in-size.ensures, c.if-size-gt-MAX_POSITIONS.true) in
    (λ e. more, λ m. refl)

pub laid-requires-clause-positions : goal.laid-requires-clause-positions
laid-requires-clause-positions c =
    let size = size-written (regular c.args.r.now) in
    grind (arith, size, c.positions_in-size.ensures, c.if-size-gt-MAX_POSITIONS.false)

pub returns-in_err-laid-clause-wide : goal.returns-in_err-laid-clause-wide
returns-in_err-laid-clause-wide c =
    let size = size-written (regular c.args.r.now) in
    let few : length (brackets (written (regular c.args.r.now))) ≤ 64 = grind (arith, size, c.positions_in-size.ensures, c.if-size-gt-MAX_POSITIONS.false) in
    let p = err_from_is_err_and c.from_residual.result c.from_residual.ensures.1 in
    (λ e. absurd (cc (e, p.1, p.2)), λ m. absurd (omega arith))

pub returns-clause-wide : goal.returns-clause-wide
returns-clause-wide c =
    let size = size-written (regular c.args.r.now) in
    let few : length (brackets (written (regular c.args.r.now))) ≤ 64 = grind (arith, size, c.positions_in-size.ensures, c.if-size-gt-MAX_POSITIONS.false) in
    (λ e. absurd (cc), λ m. absurd (omega arith))
