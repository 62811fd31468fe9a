use Rattle.std.proofs.Common.{arith}
use Rattle.session_lines.proofs.Assigned.{assigned_length}
use Rattle.session_lines.proofs.lines.Lines.show.Goals as goal

pub print_row-requires-clause-places : goal.print_row-requires-clause-places
print_row-requires-clause-places g c =
    omega (arith, assigned_length c.args.self.now.shown.vars.items c.args.values.now c.requires.values, c.deref-2.ensures.len, c.args.self.now.shown.vars.ok.0)
