use Rattle.std.proofs.Common.{sym, subst, arith, map, string_bytes}
use Rattle.spec_model.specs.declared.value.Var.{Var}
use Rattle.spec_model.specs.Views.{variable_data}
use Rattle.session_lines.specs.Reading.{words, IsGiven}
use Rattle.session_lines.proofs.GivenValues.{given_at, given_more}
use Rattle.session_lines.proofs.read.read_in_any_order.Goals as goal

pub returns-in-None-clause-refused : goal.returns-in-None-clause-refused
returns-in-None-clause-refused c = λ xs reads.
    let names = map string_bytes c.args.names.now in
    let ws = words c.args.line.now in
    let given = given_at names ws c.args.vars.now xs c.loop-i.i c.index-vars-i.result c.loop-i-test.true reads.given in
    c.in-None.ensures.none given.0 (subst (λ (v : Var). IsGiven names ws (variable_data v) given.0) (sym c.index-vars-i.is) given.1)

pub loop-i-preserved : goal.loop-i-preserved
loop-i-preserved c =
    given_more (map string_bytes c.args.names.now) (words c.args.line.now) c.args.vars.now c.loop-i.values c.loop-i.i c.index-vars-i.result c.in-Some.value
    c.loop-i-test.true (omega (arith, c.loop-i-test.true, c.loop-i.auto.values, c.requires)) c.index-vars-i.is c.loop-i.invariant c.in-Some.ensures.some
