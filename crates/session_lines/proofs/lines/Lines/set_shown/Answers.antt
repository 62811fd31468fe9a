use Rattle.std.proofs.Common.{arith}
use Rattle.session_lines.proofs.Assigned.{assigned_length}
use Rattle.session_lines.proofs.lines.Lines.set_shown.Goals as goal

pub copy_from_slice-requires : goal.copy_from_slice-requires
copy_from_slice-requires c =
    let lines = c.args.self.now in
    omega (arith, assigned_length lines.shown.vars.items c.args.values.now c.requires, lines.shown.places, lines.shown.vars.ok.0)
