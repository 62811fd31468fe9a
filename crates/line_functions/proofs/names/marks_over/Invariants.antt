use Rattle.std.proofs.Common.{◌≡◌, drop, map, []}
use Rattle.spec_model.specs.GameViews.{game_data, hidden_data}
use Rattle.line_functions.specs.Names.{marks_after}
use Rattle.line_functions.proofs.names.marks_over.Given as goal

-- those so far, and then those of the tables that are left
abbrev pub invariant-loop-h : goal.invariant-loop-h
invariant-loop-h l = marks_after (game_data l.game) l.slot l.marks.items (map hidden_data (drop l.h-index l.hidden)) ≡ marks_after (game_data l.game) l.slot [] (map hidden_data l.hidden)
