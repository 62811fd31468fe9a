use Rattle.std.proofs.Common.{ℕ, ◌+◌, map, drop, string_bytes}
use Rattle.spec_model.specs.Views.{variable_data}
use Rattle.session_lines.specs.Room.{HasRoom}
use Rattle.session_lines.proofs.make.room_for.Given as goal

-- with room for what is left there is room for all
abbrev pub invariant-loop-var : goal.invariant-loop-var
invariant-loop-var l =
    (k : ℕ) → HasRoom (map string_bytes l.names) (map variable_data (drop l.var-index l.vars)) (k + 1) → HasRoom (map string_bytes l.names) (map variable_data l.vars) (l.room + k)
