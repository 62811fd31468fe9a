use Rattle.std.proofs.Common.{◌≡◌, ◌≤◌, ◌<◌, ◌+◌, ◌-◌, ◌*◌, ◌||◌, ◌==◌, map, get_or, mul-zero, length, sym, subst, ap, ◌∙◌, arith, rules}
use Rattle.spec_model.specs.Views.{formula, regular}
use Rattle.spec_model.specs.TriggerStates.{copies, written, repeated, brackets}
use Rattle.trigger_dfa.specs.Sides.{Lays, tail_of, size_in, copies_in}
use Rattle.trigger_dfa.proofs.PositionCounts.{size-written, length-repeated}
use Rattle.trigger_dfa.proofs.LaidParts.{length-copies, length-optional, skipped_repeated, repeated-tail}
use Rattle.trigger_dfa.proofs.Wrapped.{laid_none, laid_wrapped}
use Rattle.trigger_dfa.proofs.LaidLists.{smaller, turn_room, besides_room, turn_step, besides_step, fewer_copies, copies_step, optional_step}
use Rattle.trigger_dfa.proofs.side.Side.+laying.Goals as goal

pub lay-lay_piece-part-requires : goal.lay-lay_piece-part-requires
lay-lay_piece-part-requires t c =
    let same = ap length c.unwrapped-inner.ensures.wraps.same_brackets in
    let smaller = c.unwrapped-inner.ensures.smaller in
    search rules

pub lay-wrap-requires : goal.lay-wrap-requires
lay-wrap-requires t c = record { positions = c.lay_piece-part.ensures.side.same_positions ∙ c.requires.positions }

pub lay-returns : goal.lay-returns
lay-returns t c =
    let inner = c.unwrapped-inner.result in
    laid_wrapped (map formula c.args.atoms.now) inner.starred inner.optional (written (regular inner.piece.now)) (written (regular c.args.r.now)) c.args.end
    c.args.self.now c.lay_piece-part.new.self c.wrap.new.self c.lay_piece-part.result c.wrap.result
    c.unwrapped-inner.ensures.wraps c.lay_piece-part.ensures c.wrap.ensures.linked c.wrap.ensures.part

pub lay_besides-lay-rest-requires : goal.lay_besides-lay-rest-requires
lay_besides-lay-rest-requires t c =
    let some : 0 < length c.args.rs.now = grind (arith, c.if-is_empty.false, c.if-is_empty.ensures) in
    let last : length c.args.rs.now - 1 ≡ length c.args.rs.now - 1 - 0 = omega arith in
    let here = subst (λ i. c.index-rs-rs.result ≡ get_or c.args.rs.now i c.index-rs-rs.result) last c.index-rs-rs.is in
    let less = smaller c.args.rs.now 0 c.index-rs-rs.result some here in
    let room = besides_room c.args.rs.now 0 c.index-rs-rs.result some here in
    search rules

pub lay_besides-overflow_sub-end : goal.lay_besides-overflow_sub-end
lay_besides-overflow_sub-end t c =
    let room = besides_room c.args.rs.now c.loop-k.k c.index-rs-rs-in-loop-k.result (omega arith) c.index-rs-rs-in-loop-k.is in
    omega (arith, room, c.loop-k.invariant.part.size)

pub lay_besides-lay-first-requires : goal.lay_besides-lay-first-requires
lay_besides-lay-first-requires t c =
    let less = smaller c.args.rs.now c.loop-k.k c.index-rs-rs-in-loop-k.result (omega arith) c.index-rs-rs-in-loop-k.is in
    let room = besides_room c.args.rs.now c.loop-k.k c.index-rs-rs-in-loop-k.result (omega arith) c.index-rs-rs-in-loop-k.is in
    let size = c.loop-k.invariant.part.size in
    let positions = c.loop-k.invariant.side.same_positions in
    search rules

pub lay_besides-either-rest-requires : goal.lay_besides-either-rest-requires
lay_besides-either-rest-requires t c =
    let room = besides_room c.args.rs.now c.loop-k.k c.index-rs-rs-in-loop-k.result (omega arith) c.index-rs-rs-in-loop-k.is in
    omega (arith, room, c.loop-k.invariant.part.size, c.lay-first.ensures.part.size)

pub lay_besides-loop-k-preserved : goal.lay_besides-loop-k-preserved
lay_besides-loop-k-preserved t c =
    besides_step c.args.rs.now c.loop-k.k c.index-rs-rs-in-loop-k.result (omega arith) c.index-rs-rs-in-loop-k.is
    (map formula c.args.atoms.now) c.args.end c.args.self.now c.loop-k.self c.lay-first.new.self c.loop-k.rest c.lay-first.result c.either-rest.result
    c.lay-first.ensures (omega arith) c.requires.room c.loop-k.invariant c.either-rest.ensures

pub lay_copies-loop-k-preserved : goal.lay_copies-loop-k-preserved
lay_copies-loop-k-preserved t c =
    let a = written (regular c.args.a.now) in
    let size = c.loop-k.invariant.1 in
    let fewer = fewer_copies c.loop-k.k c.args.count (length (brackets a)) c.loop-k-test.true in
    let room : length (brackets a) + c.loop-k.rest.size ≤ c.args.end = omega (arith, size, fewer, c.requires.room) in (
      (λ w start lays. copies_step (map formula c.args.atoms.now) a w c.loop-k.k c.args.end start c.loop-k.self c.lay-piece.new.self c.link.new.self c.loop-k.rest c.lay-piece.result c.then-rest.result room
          (c.loop-k.invariant.0 w start lays) c.lay-piece.ensures c.link.ensures c.then-rest.ensures.part),
      omega (arith, size, c.then-rest.ensures.size, c.lay-piece.ensures.part.size),
      c.link.ensures.positions ∙ c.lay-piece.ensures.side.same_positions ∙ c.loop-k.invariant.2,
    )

pub lay_copies-returns : goal.lay_copies-returns
lay_copies-returns t c w start lays =
    let end : c.loop-k.k ≡ c.args.count = omega arith in
    subst (λ n. Lays (map formula c.args.atoms.now) (copies n (written (regular c.args.a.now)) w) c.args.end start c.loop-k.self c.loop-k.rest) end (c.loop-k.invariant.0 w start lays)

pub lay_in_turn-overflow_sub-end : goal.lay_in_turn-overflow_sub-end
lay_in_turn-overflow_sub-end t c =
    let room = turn_room c.args.rs.now c.loop-k.k c.index-rs-rs.result (omega arith) c.index-rs-rs.is in
    omega (arith, room, c.loop-k.invariant.part.size)

pub lay_in_turn-lay-first-requires : goal.lay_in_turn-lay-first-requires
lay_in_turn-lay-first-requires t c =
    let less = smaller c.args.rs.now c.loop-k.k c.index-rs-rs.result (omega arith) c.index-rs-rs.is in
    let room = turn_room c.args.rs.now c.loop-k.k c.index-rs-rs.result (omega arith) c.index-rs-rs.is in
    let size = c.loop-k.invariant.part.size in
    let positions = c.loop-k.invariant.side.same_positions in
    search rules

pub lay_in_turn-then-rest-requires : goal.lay_in_turn-then-rest-requires
lay_in_turn-then-rest-requires t c =
    let room = turn_room c.args.rs.now c.loop-k.k c.index-rs-rs.result (omega arith) c.index-rs-rs.is in
    omega (arith, room, c.loop-k.invariant.part.size, c.lay-first.ensures.part.size)

pub lay_in_turn-loop-k-preserved : goal.lay_in_turn-loop-k-preserved
lay_in_turn-loop-k-preserved t c =
    turn_step c.args.rs.now c.loop-k.k c.index-rs-rs.result (omega arith) c.index-rs-rs.is
    (map formula c.args.atoms.now) c.args.end c.args.self.now c.loop-k.self c.lay-first.new.self c.loop-k.rest c.lay-first.result c.then-rest.result
    c.lay-first.ensures c.requires.room c.loop-k.invariant c.link.new.self c.link.ensures c.then-rest.ensures.part

pub lay_optional-overflow_sub-end : goal.lay_optional-overflow_sub-end
lay_optional-overflow_sub-end t c =
    let a = written (regular c.args.a.now) in
    let size = c.loop-k.invariant.part.size ∙ length-optional c.loop-k.k a in
    let fewer = fewer_copies c.loop-k.k c.args.count (length (brackets a)) c.loop-k-test.true in
    omega (arith, size, fewer, c.requires.room, length-optional c.args.count a)

pub lay_optional-lay-requires : goal.lay_optional-lay-requires
lay_optional-lay-requires t c =
    let a = written (regular c.args.a.now) in
    let size = c.loop-k.invariant.part.size ∙ length-optional c.loop-k.k a in
    let fewer = fewer_copies c.loop-k.k c.args.count (length (brackets a)) c.loop-k-test.true in
    let all = length-optional c.args.count a in
    let room : length (brackets a) + c.loop-k.rest.size ≤ c.args.end = omega (arith, size, fewer, c.requires.room, all) in
    let positions = c.loop-k.invariant.side.same_positions in
    search rules

pub lay_optional-then-rest-requires : goal.lay_optional-then-rest-requires
lay_optional-then-rest-requires t c =
    let a = written (regular c.args.a.now) in
    let size = c.loop-k.invariant.part.size ∙ length-optional c.loop-k.k a in
    let fewer = fewer_copies c.loop-k.k c.args.count (length (brackets a)) c.loop-k-test.true in
    let all = length-optional c.args.count a in
    let piece = ap (λ p. p.size) c.skippable-piece.ensures in
    omega (arith, size, fewer, c.requires.room, all, c.lay.ensures.part.size, piece)

pub lay_optional-loop-k-preserved : goal.lay_optional-loop-k-preserved
lay_optional-loop-k-preserved t c =
    let a = written (regular c.args.a.now) in
    let size = c.loop-k.invariant.part.size ∙ length-optional c.loop-k.k a in
    let fewer = fewer_copies c.loop-k.k c.args.count (length (brackets a)) c.loop-k-test.true in
    let all = length-optional c.args.count a in
    let room : length (brackets a) + c.loop-k.rest.size ≤ c.args.end = omega (arith, size, fewer, c.requires.room, all) in
    optional_step (map formula c.args.atoms.now) a c.loop-k.k c.args.end c.args.self.now c.loop-k.self c.lay.new.self c.link.new.self c.loop-k.rest c.lay.result c.skippable-piece.result c.then-rest.result room
    c.loop-k.invariant c.lay.ensures c.skippable-piece.ensures c.link.ensures c.then-rest.ensures.part

pub lay_repeated-returns-then-positions_in-eq0 : goal.lay_repeated-returns-then-positions_in-eq0
lay_repeated-returns-then-positions_in-eq0 t c =
    let a = written (regular c.args.a.now) in
    let none : size_in (regular c.args.a.now) ≡ 0 = grind (arith, c.positions_in.ensures, c.if-positions_in-eq0.true) in
    let empty : length (brackets a) ≡ 0 = sym (size-written (regular c.args.a.now)) ∙ none in
    let all : length (brackets (repeated a c.args.low c.args.high)) ≡ 0 = length-repeated a c.args.low c.args.high ∙ ap (λ n. copies_in c.args.low c.args.high * n) empty ∙ mul-zero (copies_in c.args.low c.args.high) in
    laid_none (map formula c.args.atoms.now) (repeated a c.args.low c.args.high) c.args.end c.args.self.now (c.can_be_skipped.result || (c.args.low == 0)) all
    (ap (λ b. b || (c.args.low == 0)) c.can_be_skipped.ensures ∙ sym (skipped_repeated a c.args.low c.args.high))

pub lay_repeated-lay_tail-tail-requires : goal.lay_repeated-lay_tail-tail-requires
lay_repeated-lay_tail-tail-requires t c =
    let a = written (regular c.args.a.now) in
    let whole = ap (λ w. length (brackets w)) (repeated-tail a c.args.low c.args.high) ∙ length-copies c.args.low a (tail_of a c.args.low c.args.high) in
    let room : length (brackets (tail_of a c.args.low c.args.high)) ≤ c.args.end = omega (arith, whole, c.requires.room) in
    search rules

pub lay_repeated-lay_copies-requires : goal.lay_repeated-lay_copies-requires
lay_repeated-lay_copies-requires t c =
    let a = written (regular c.args.a.now) in
    let whole = ap (λ w. length (brackets w)) (repeated-tail a c.args.low c.args.high) ∙ length-copies c.args.low a (tail_of a c.args.low c.args.high) in
    let room : c.args.low * length (brackets a) + c.lay_tail-tail.result.size ≤ c.args.end = omega (arith, whole, c.requires.room, c.lay_tail-tail.ensures.part.size) in
    let positions = c.lay_tail-tail.ensures.side.same_positions in
    search rules

pub lay_repeated-returns : goal.lay_repeated-returns
lay_repeated-returns t c =
    let a = written (regular c.args.a.now) in
    subst (λ w. Lays (map formula c.args.atoms.now) w c.args.end c.args.self.now c.lay_copies.new.self c.lay_copies.result) (sym (repeated-tail a c.args.low c.args.high))
    (c.lay_copies.ensures (tail_of a c.args.low c.args.high) c.args.self.now c.lay_tail-tail.ensures)
