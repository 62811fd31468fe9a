use Rattle.std.proofs.Common.{◌≡◌, ◌≤◌, ◌<◌, ◌+◌, ◌*◌, ◌-◌, ◌^◌, length, map, drop}
use Rattle.std.specs.List.{list_all, list_any}
use Rattle.spec_model.specs.Views.{formula}
use Rattle.spec_model.specs.Meaning.{truths_at, holds_at}
use Rattle.spec_model.specs.Games.{letter_of}
use Rattle.spec_model.specs.FormulaSizes.{nodes_in, nodes_in_each}
use Rattle.game_values.specs.Times.{time_of}
use Rattle.game_values.specs.Safety.{AreSafe, formulas_in}
use Rattle.game_values.proofs.eval.+eval.Given as goal

-- expressions become smaller, or fewer tables are left to be read
abbrev pub decreases-value : goal.decreases-value
decreases-value g l = 8 * (nodes_in (formula l.e.now) + g.S.Seen.unread l.s.now)

abbrev pub decreases-next_value : goal.decreases-next_value
decreases-next_value g l = 8 * (nodes_in (formula l.e.now) + g.S.Seen.unread l.s.now) + 1

abbrev pub decreases-whole : goal.decreases-whole
decreases-whole g l = 8 * (nodes_in (formula l.e.now) + g.S.Seen.unread l.s.now) + 1

abbrev pub decreases-holds : goal.decreases-holds
decreases-holds g l = 8 * (nodes_in (formula l.e.now) + g.S.Seen.unread l.s.now) + 1

abbrev pub decreases-all_hold : goal.decreases-all_hold
decreases-all_hold g l = 8 * (nodes_in_each (formulas_in l.es.now) + g.S.Seen.unread l.s.now) + 2

abbrev pub decreases-some_hold : goal.decreases-some_hold
decreases-some_hold g l = 8 * (nodes_in_each (formulas_in l.es.now) + g.S.Seen.unread l.s.now) + 2

abbrev pub decreases-letter : goal.decreases-letter
decreases-letter g l = 8 * (nodes_in_each (formulas_in l.atoms.now) + g.S.Seen.unread l.s.now) + 2

abbrev pub decreases-cell : goal.decreases-cell
decreases-cell g l = 8 * (nodes_in_each (formulas_in l.h.now.atoms.items) + g.S.Seen.unread l.s.now) + 3

abbrev pub decreases-entry : goal.decreases-entry
decreases-entry g l = 8 * g.S.Seen.unread l.s.now + 4

-- what is left is the answer, and may be asked for
abbrev pub invariant-all_hold-loop-e : goal.invariant-all_hold-loop-e
invariant-all_hold-loop-e g l =
    record {
      safe : AreSafe (g.S.Seen.reading l.s) (formulas_in (drop l.e-index l.es)) (time_of l.at);
      same : list_all (λ a. a (time_of l.at)) (truths_at (g.S.Seen.reading l.s) (formulas_in (drop l.e-index l.es))) ≡ list_all (λ a. a (time_of l.at)) (truths_at (g.S.Seen.reading l.s) (formulas_in l.es));
      lighter : nodes_in_each (formulas_in (drop l.e-index l.es)) ≤ nodes_in_each (formulas_in l.es);
    }

abbrev pub invariant-some_hold-loop-e : goal.invariant-some_hold-loop-e
invariant-some_hold-loop-e g l =
    record {
      safe : AreSafe (g.S.Seen.reading l.s) (formulas_in (drop l.e-index l.es)) (time_of l.at);
      same : list_any (λ a. a (time_of l.at)) (truths_at (g.S.Seen.reading l.s) (formulas_in (drop l.e-index l.es))) ≡ list_any (λ a. a (time_of l.at)) (truths_at (g.S.Seen.reading l.s) (formulas_in l.es));
      lighter : nodes_in_each (formulas_in (drop l.e-index l.es)) ≤ nodes_in_each (formulas_in l.es);
    }

-- the letter of the atoms so far
abbrev pub invariant-letter-loop-k : goal.invariant-letter-loop-k
invariant-letter-loop-k g l =
    record {
      within : l.k ≤ length l.atoms;
      value : l.letter ≡ letter_of (map (λ e. holds_at (g.S.Seen.reading l.s) e 0) (map formula (drop l.k l.atoms)));
      below : l.letter < 2 ^ (length l.atoms - l.k);
    }

abbrev pub decreases-letter-loop-k : goal.decreases-letter-loop-k
decreases-letter-loop-k g l = l.k
