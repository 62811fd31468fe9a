use Rattle.std.proofs.Common.{false, get_or, ap, ◌∙◌, arith}
use Rattle.std.proofs.lemmas.List.{length-set, get_or-set_other}
use Rattle.spec_model.specs.declared.value.Value.TheVariants as value
use Rattle.spec_model.specs.Values.{number_of}
use Rattle.column_planes.specs.Numbers.{computed}
use Rattle.column_planes.proofs.Blocks.{one_more_written}
use Rattle.column_planes.proofs.numbers.write_computed.Goals as goal

pub loop-i-preserved : goal.loop-i-preserved
loop-i-preserved c =
    let a = c.args.out.now in
    let b = c.args.b.now in
    let op = c.args.operation in
    let out = c.loop-i.out in
    let i = c.loop-i.i in
    let v = c.in-Some.value in
    let held = c.loop-i.invariant in
    record {
      sized = length-set out i v ∙ held.sized;
      written = one_more_written (value.Bool false) (λ n. value.Int (computed op (number_of (get_or a n (value.Bool false))) (number_of (get_or b n (value.Bool false))))) out i v (omega (arith, c.loop-i-test.true, held.sized))
          (c.in-Some.ensures
          ∙ (ap (λ x. value.Int (computed op (number_of x) (number_of c.value_or-in-loop-i.result))) (c.value_or.ensures ∙ held.left i (omega arith))
          ∙ ap (λ x. value.Int (computed op (number_of (get_or a i (value.Bool false))) (number_of x))) c.value_or-in-loop-i.ensures))
          held.written;
      left = λ j from. get_or-set_other out i j v (value.Bool false) (λ e. absurd (omega (arith, e, from))) ∙ held.left j (omega (arith, from));
    }
