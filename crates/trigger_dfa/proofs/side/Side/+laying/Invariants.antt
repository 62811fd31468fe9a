use Rattle.std.proofs.Common.{◌≡◌, ◌+◌, ◌*◌, ◌-◌, map, drop, length, vec_len}
use Rattle.spec_model.specs.Syntax.{regulars}
use Rattle.spec_model.specs.Views.{formula, regular}
use Rattle.spec_model.specs.TriggerStates.{Either, Empty, copies, written, written_in_turn, written_besides, brackets}
use Rattle.trigger_dfa.specs.Sides.{Lays, LaysCopies, size_of, size_of_all}
use Rattle.trigger_dfa.proofs.side.Side.+laying.Given as goal

abbrev pub invariant-lay_in_turn-loop-k : goal.invariant-lay_in_turn-loop-k
invariant-lay_in_turn-loop-k l =
    Lays (map formula l.atoms) (written_in_turn (regulars (map regular (drop (length l.rs - l.k) l.rs)))) l.end l.initial.self l.self l.rest

abbrev pub invariant-lay_besides-loop-k : goal.invariant-lay_besides-loop-k
invariant-lay_besides-loop-k l =
    Lays (map formula l.atoms) (written_besides (regulars (map regular (drop (length l.rs - l.k) l.rs)))) l.end l.fn.self l.self l.rest

abbrev pub invariant-lay_optional-loop-k : goal.invariant-lay_optional-loop-k
invariant-lay_optional-loop-k l =
    Lays (map formula l.atoms) (copies l.k (Either (written (regular l.a)) Empty) Empty) l.end l.initial.self l.self l.rest

abbrev pub invariant-lay_copies-loop-k : goal.invariant-lay_copies-loop-k
invariant-lay_copies-loop-k l =
    LaysCopies (map formula l.atoms) (written (regular l.a)) l.k l.fn.tail l.end l.initial.self l.self l.rest
    × (l.rest.size ≡ l.k * length (brackets (written (regular l.a))) + l.fn.tail.size)
    × (vec_len l.self.follow ≡ vec_len l.initial.self.follow)

abbrev pub decreases-lay : goal.decreases-lay
decreases-lay l = 8 * size_of (regular l.r.now) + 1

abbrev pub decreases-lay_piece : goal.decreases-lay_piece
decreases-lay_piece l = 8 * size_of (regular l.r.now)

abbrev pub decreases-lay_in_turn : goal.decreases-lay_in_turn
decreases-lay_in_turn l = 8 * size_of_all (regulars (map regular l.rs.now)) + 2

abbrev pub decreases-lay_besides : goal.decreases-lay_besides
decreases-lay_besides l = 8 * size_of_all (regulars (map regular l.rs.now)) + 2

abbrev pub decreases-lay_repeated : goal.decreases-lay_repeated
decreases-lay_repeated l = 8 * size_of (regular l.a.now) + 4

abbrev pub decreases-lay_tail : goal.decreases-lay_tail
decreases-lay_tail l = 8 * size_of (regular l.a.now) + 3

abbrev pub decreases-lay_optional : goal.decreases-lay_optional
decreases-lay_optional l = 8 * size_of (regular l.a.now) + 2

abbrev pub decreases-lay_copies : goal.decreases-lay_copies
decreases-lay_copies l = 8 * size_of (regular l.a.now) + 2
