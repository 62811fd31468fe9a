use Rattle.std.proofs.Common.{rules, ◌≡◌, ◌+◌, ◌<◌, ◌≤◌, length, subst, sym, ◌∙◌, arith}
use Rattle.std.specs.List.{remove, Contains}
use Rattle.std.proofs.lemmas.Bool.{false≢true}
use Rattle.core_min.specs.Sets.{below, IsSetBelow, IsLosing}
use Rattle.core_min.proofs.Answered.{same_at_first, same_on, answered_on}
use Rattle.core_min.proofs.Few.{few}
use Rattle.core_min.proofs.Guessed.{taken_known}
use Rattle.core_min.proofs.Removed.{all_below}
use Rattle.core_min.proofs.Turns.{IsTrying, begins, asks, drops, keeps, ends, left_is_core}
use Rattle.core_min.proofs.trying.core.Goals as goal

pub take-requires : goal.take-requires
take-requires g c =
    let short = few c.args.n (below c.args.n) (all_below c.args.n) in
    let room = c.in_ok-losing.ensures.room in
    record { room = rw (c.as_slice.ensures.value, c.in_ok-set.ensures) (omega (arith, short, room)) }

pub loop-at-init : goal.loop-at-init
loop-at-init g c =
    let j = g.J.Judge in
    let judge = c.args.judge.now in
    let size = c.requires.size in
    let same = same_at_first j.size j.IsWinning j.MayFail j.faults judge in
    let numbers : IsSetBelow (j.size judge) (below c.args.n) = subst (λ n. IsSetBelow n (below c.args.n)) size (all_below c.args.n) in
    let room = c.in_ok-losing.ensures.room in
    let part_room = c.in_ok-losing.ensures.part_room in
    record {
      same = same;
      trying = subst (λ set. IsTrying (j.IsWinning judge) c.args.n set 0) (sym c.in_ok-set.ensures) (begins (j.IsWinning judge) c.args.n c.requires.lost);
      known = taken_known j.size j.IsWinning j.MayFail j.faults judge judge c.in_ok-losing.losing c.take.new.self (below c.args.n) same numbers c.requires.lost
          (omega (arith, size, room)) (omega (arith, size, part_room)) (c.take.ensures.set ∙ (c.as_slice.ensures.value ∙ c.in_ok-set.ensures)) c.take.ensures.room c.take.ensures.part;
      inside = λ k there. subst (λ xs. Contains xs k) (c.take.ensures.set ∙ c.as_slice.ensures.value) there;
    }

pub shrinks-requires : goal.shrinks-requires
shrinks-requires g c = record { known = c.loop-at.invariant.known }

pub turn-requires-clause-set : goal.turn-requires-clause-set
turn-requires-clause-set g c =
    let j = g.J.Judge in
    let same = same_on j.size j.IsWinning j.MayFail j.faults c.args.judge.now c.loop-at.judge c.shrinks.new.judge c.loop-at.invariant.same c.shrinks.ensures.guesses.same in
    rw (same.same_size, ← c.requires.size) c.loop-at.invariant.trying.numbers

pub turn-requires-clause-known : goal.turn-requires-clause-known
turn-requires-clause-known g c = c.shrinks.ensures.guesses.known

pub turn-requires-clause-inside : goal.turn-requires-clause-inside
turn-requires-clause-inside g c = λ k there. c.loop-at.invariant.inside k (c.shrinks.ensures.guesses.inside k there)

pub loop-at-preserved-in-Ok-true : goal.loop-at-preserved-in-Ok-true
loop-at-preserved-in-Ok-true g c =
    let j = g.J.Judge in
    let w = j.IsWinning c.args.judge.now in
    let same = same_on j.size j.IsWinning j.MayFail j.faults c.args.judge.now c.loop-at.judge c.shrinks.new.judge c.loop-at.invariant.same c.shrinks.ensures.guesses.same in
    let inside : c.loop-at.at < length c.loop-at.set.items = search rules in
    let won : w (remove c.loop-at.set.items c.loop-at.at) = (same.winning (remove c.loop-at.set.items c.loop-at.at)).0 (c.in-Ok-true.ensures.stays.0 c.in-Ok-true.field-0-test) in
    let items : c.turn.new.set.items ≡ c.loop-at.set.items = search rules in
    record {
      same = same_on j.size j.IsWinning j.MayFail j.faults c.args.judge.now c.shrinks.new.judge c.turn.new.judge same c.turn.ensures.keeps;
      trying = subst (λ set. IsTrying w c.args.n set (c.loop-at.at + 1)) (sym items) (keeps w c.args.n c.loop-at.set.items c.loop-at.at c.loop-at.invariant.trying inside won);
      known = c.in-Ok-true.ensures.known;
      inside = c.in-Ok-true.ensures.inside;
    }

pub loop-at-preserved : goal.loop-at-preserved
loop-at-preserved g c =
    let j = g.J.Judge in
    let w = j.IsWinning c.args.judge.now in
    let same = same_on j.size j.IsWinning j.MayFail j.faults c.args.judge.now c.loop-at.judge c.shrinks.new.judge c.loop-at.invariant.same c.shrinks.ensures.guesses.same in
    let inside : c.loop-at.at < length c.loop-at.set.items = search rules in
    let lost : IsLosing w (remove c.loop-at.set.items c.loop-at.at) = λ won. false≢true (sym c.in-Ok-false.field-0-test ∙ c.in-Ok-false.ensures.stays.1 ((same.winning (remove c.loop-at.set.items c.loop-at.at)).1 won)) in
    let items : c.turn.new.set.items ≡ remove c.loop-at.set.items c.loop-at.at = search rules in
    record {
      same = same_on j.size j.IsWinning j.MayFail j.faults c.args.judge.now c.shrinks.new.judge c.turn.new.judge same c.turn.ensures.keeps;
      trying = subst (λ set. IsTrying w c.args.n set c.loop-at.at) (sym items) (drops w c.args.n c.loop-at.set.items c.loop-at.at c.loop-at.invariant.trying inside lost);
      known = c.in-Ok-false.ensures.known;
      inside = c.in-Ok-false.ensures.inside;
    }

pub returns-in-Err-clause-cause : goal.returns-in-Err-clause-cause
returns-in-Err-clause-cause g c =
    let j = g.J.Judge in
    let same = same_on j.size j.IsWinning j.MayFail j.faults c.args.judge.now c.loop-at.judge c.shrinks.new.judge c.loop-at.invariant.same c.shrinks.ensures.guesses.same in
    let inside : c.loop-at.at < length c.loop-at.set.items = search rules in
    record {
      set = remove c.loop-at.set.items c.loop-at.at;
      asked = asks (j.IsWinning c.args.judge.now) c.args.n c.loop-at.set.items c.loop-at.at c.loop-at.invariant.trying inside;
      answered = answered_on j.size j.IsWinning j.MayFail j.faults c.args.judge.now c.shrinks.new.judge c.turn.new.judge same j.last c.in-Err.fault (remove c.loop-at.set.items c.loop-at.at) c.in-Err.ensures.cause;
    }

pub returns-clause-core : goal.returns-clause-core
returns-clause-core g c =
    let w = g.J.Judge.IsWinning c.args.judge.now in
    let over : length c.loop-at.set.items ≤ c.loop-at.at = search rules in
    left_is_core w (g.met.J.Judge.parts c.args.judge.now) c.args.n c.loop-at.set.items c.requires.lost (ends w c.args.n c.loop-at.set.items c.loop-at.at c.loop-at.invariant.trying over)
