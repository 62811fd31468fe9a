use Rattle.spec_model.specs.declared.value.Value.{Value}
use Rattle.spec_model.specs.Values.{same_value}
use Rattle.spec_model.specs.Views.{formula}
use Rattle.game_values.specs.Times.{time_of}
use Rattle.column_planes.specs.Columns.{column_data}
use Rattle.column_planes.proofs.Blocks.{equal_bits}
use Rattle.column_planes.proofs.compared.equal_plane.Goals as goal

pub returns-clause-plane : goal.returns-clause-plane
returns-clause-plane c = λ read.
    let cs = column_data c.args.c in
    let v = c.in-Some-constant_of.value in
    let out = c.code_plane.new.out in
    equal_bits cs (time_of c.args.at) c.args.c.bits (formula c.args.a.now) (formula c.args.b.now) v out c.in-Some-constant_of.ensures
    (c.in-Some.ensures cs c.args.c.bits (λ (w : Value). same_value w v) out (c.code_plane.ensures.plane read (λ (w : Value). same_value w v) c.in-Some-only_code_of.ensures))
