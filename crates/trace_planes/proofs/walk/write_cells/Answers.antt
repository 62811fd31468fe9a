use Rattle.std.proofs.Common.{◌≡◌, ◌<◌, ◌+◌, ◌*◌, false, length, get_or, ◌∙◌, arith}
use Rattle.std.proofs.lemmas.List.{length-set}
use Rattle.spec_model.specs.declared.value.Value.TheVariants as value
use Rattle.game_play.specs.Sights.{cell_in}
use Rattle.std.proofs.Common.{ap}
use Rattle.trace_planes.proofs.InColumns.{codes_more, others_more}
use Rattle.trace_planes.proofs.walk.write_cells.Goals as goal

pub loop-k-preserved : goal.loop-k-preserved
loop-k-preserved c =
    let here = c.args.here.now in
    let k = c.loop-k.k in
    let cells = c.loop-k.cells in
    let cell = c.cell_of.result in
    let inside : 4096 * k + c.args.i < length cells = omega (arith, c.loop-k.invariant.sized, c.requires.sized, c.requires.within, c.loop-k-test.true) in
    record {
      sized = length-set cells (4096 * k + c.args.i) cell ∙ c.loop-k.invariant.sized;
      written = codes_more cells c.args.i k cell inside c.requires.within (λ n d. d ≡ cell_in (get_or here n (value.Bool false))) c.loop-k.invariant.written (c.cell_of.ensures ∙ ap cell_in c.value_or.ensures);
      others = others_more cells c.args.i k cell inside c.requires.within c.args.cells.now c.loop-k.invariant.others;
    }
