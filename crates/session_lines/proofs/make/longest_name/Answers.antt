use Rattle.std.proofs.Common.{◌<◌, arith, map, string_bytes}
use Rattle.session_lines.proofs.Rooms.{names_short}
use Rattle.session_lines.proofs.make.longest_name.Goals as goal

pub returns : goal.returns
returns c =
    names_short (map string_bytes c.args.names.now) c.args.domain.now c.loop-n.longest
    (λ k below. let seen : k < c.loop-n.n-index = omega (arith, below, c.loop-n-test.false) in c.loop-n.invariant k seen)
