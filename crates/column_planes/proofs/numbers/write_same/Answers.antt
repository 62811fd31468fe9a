use Rattle.std.proofs.Common.{false, refl, arith}
use Rattle.spec_model.specs.declared.value.Value.TheVariants as value
use Rattle.std.proofs.lemmas.List.{length-set}
use Rattle.std.proofs.Common.{◌∙◌}
use Rattle.column_planes.proofs.Blocks.{one_more_written}
use Rattle.column_planes.proofs.numbers.write_same.Goals as goal

pub loop-i-preserved : goal.loop-i-preserved
loop-i-preserved c =
    record {
      sized = length-set c.loop-i.out c.loop-i.i c.args.value ∙ c.loop-i.invariant.sized;
      written = one_more_written (value.Bool false) (λ i. c.args.value) c.loop-i.out c.loop-i.i c.args.value (omega (arith, c.loop-i-test.true, c.loop-i.invariant.sized)) refl c.loop-i.invariant.written;
    }
