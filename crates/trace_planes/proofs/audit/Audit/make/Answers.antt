use Rattle.std.proofs.Common.{[], refl, arith}
use Rattle.std.proofs.lemmas.List.{length-map}
use Rattle.spec_model.specs.Views.{variable_data}
use Rattle.trace_planes.proofs.audit.Audit.make.Goals as goal

pub returns-clause-begins : goal.returns-clause-begins
returns-clause-begins c =
    let len = c.args.game.vars.ok.0 in
    let long = length-map c.args.game.vars.items variable_data in
    let cells = c.in-Some.ensures in
    record {
      checked = record { checked = []; waiting = []; parts = refl; legal = refl; counted = refl };
      judged = c.in_ok-make.ensures.begins;
      rows = record { whole = tt; listed = c.in_ok-with_capacity.ensures.items; wide = omega (arith, c.len-width.ensures, len, long) };
      counted = refl;
      few = omega arith;
      room =
          record {
            rows = let most = c.in_ok-with_capacity.ensures.capacity in omega (arith, cells.1, most);
            work = c.in_ok-work.ensures;
          };
    }
