use Rattle.std.proofs.Common.{◌≡◌, ◌<◌, ◌+◌, ◌*◌, length, map, take, sym, ap, ◌∙◌, arith}
use Rattle.std.proofs.lemmas.List.{length-map, length-take-le, length-set}
use Rattle.spec_model.specs.declared.value.Var.{Var}
use Rattle.spec_model.specs.Views.{variable_data, domain_data}
use Rattle.spec_model.specs.Rules.{Position}
use Rattle.spec_model.specs.Moves.{value_among}
use Rattle.column_planes.specs.Columns.{value_of_code, domain_in}
use Rattle.column_planes.proofs.Coded.{domain_of-variable}
use Rattle.trace_planes.proofs.InColumns.{parts_count, inputs_from, codes_more, others_more}
use Rattle.trace_planes.proofs.columns.write_codes.Goals as goal

pub value_of-requires-clause-outputs : goal.value_of-requires-clause-outputs
value_of-requires-clause-outputs c =
    let vars = c.args.vars.now in
    let k = c.loop-k.k in
    let parts = parts_count (map variable_data (take k vars)) in
    let long = length-map (take k vars) variable_data in
    let many = length-take-le k vars (omega (arith, c.loop-k-test.true)) in
    omega (arith, parts, long, many, c.loop-k.invariant.inputs)

pub loop-k-preserved : goal.loop-k-preserved
loop-k-preserved c =
    let vars = c.args.vars.now in
    let k = c.loop-k.k in
    let codes = c.loop-k.codes in
    let code = c.in-Some.code in
    let p : Position = record { input = c.args.input.now; output = c.args.output.now } in
    let inside : 4096 * k + c.args.i < length codes = omega (arith, c.loop-k.invariant.sized, c.requires.sized, c.requires.within, c.loop-k-test.true) in
    record {
      sized = length-set codes (4096 * k + c.args.i) code ∙ c.loop-k.invariant.sized;
      inputs =
          let more = inputs_from vars k (k + 1) c.index-vars-k.result (omega (arith, c.loop-k-test.true)) (omega arith) c.index-vars-k.is in
          let one = c.inputs_in-ins.ensures.value in
          let before = c.loop-k.invariant.inputs in
          omega (arith, more, one, before);
      few = omega (arith, c.loop-k.invariant.few, c.inputs_in-ins.ensures.within);
      written = codes_more codes c.args.i k code inside c.requires.within
          (λ n d. value_of_code (domain_in (map variable_data vars) n) d ≡ value_among (map variable_data vars) p n) c.loop-k.invariant.written
          (ap (λ d. value_of_code d code) (domain_of-variable vars k c.index-vars-k.result (omega (arith, c.loop-k-test.true)) ∙ ap (λ (v : Var). domain_data v.domain) (sym c.index-vars-k.is)) ∙ (c.in-Some.ensures.code ∙ c.value_of.ensures));
      others = others_more codes c.args.i k code inside c.requires.within c.args.codes.now c.loop-k.invariant.others;
    }
