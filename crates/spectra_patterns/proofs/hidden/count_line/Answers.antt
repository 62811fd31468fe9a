use Rattle.std.proofs.Common.{◌-◌, ◌<◌, length, map, ap, rules, arith}
use Rattle.std.proofs.lemmas.Grind.{common_steps}
use Rattle.std.proofs.lemmas.List.{length-map}
use Rattle.spec_model.specs.Views.{content_data, line_data as model_line, trigger_data}
use Rattle.past_bits.specs.Entries.{added}
use Rattle.past_bits.specs.Bits.{tree_of}
use Rattle.spectra_patterns.specs.Gathering.{past_in}
use Rattle.spectra_patterns.proofs.Counted.{many_all, counted_more}
use Rattle.spectra_patterns.proofs.hidden.count_line.Goals as goal

pub returns-in_err-gather_body-clause-many : goal.returns-in_err-gather_body-clause-many
returns-in_err-gather_body-clause-many c = λ before count is.
    let ts = map trigger_data c.args.triggers.now in
    let own = c.in_ok-own.own in
    let few : 1_024 - own < length (added (map tree_of c.args.tables.now.ops) (past_in ts (content_data c.args.line.now.body))) = first_of (search rules, grind (arith, common_steps)) in
    many_all ts before (model_line c.args.line.now) c.args.tables.now count own (1_024 - own) c.in_ok-own.ensures.counted (let small = c.in_ok-own.ensures.few in omega (arith, small)) few

pub returns-then-operators-most-clause-many : goal.returns-then-operators-most-clause-many
returns-then-operators-most-clause-many c = λ before count is.
    let ts = map trigger_data c.args.triggers.now in
    let own = c.in_ok-own.own in
    let now = ap length c.in_ok-gather_body.ensures.added in
    let size = length-map c.gather_body.new.ops tree_of in
    let seen = ap length c.operators.ensures in
    let few : 1_024 - own < length (added (map tree_of c.args.tables.now.ops) (past_in ts (content_data c.args.line.now.body))) = omega (arith, now, size, seen) in
    many_all ts before (model_line c.args.line.now) c.args.tables.now count own (1_024 - own) c.in_ok-own.ensures.counted (let small = c.in_ok-own.ensures.few in omega (arith, small)) few

pub returns-clause-counted : goal.returns-clause-counted
returns-clause-counted c = λ before count.
    let ts = map trigger_data c.args.triggers.now in
    let own = c.in_ok-own.own in
    let size = length-map c.gather_body.new.ops tree_of in
    let seen = ap length c.operators.ensures in
    counted_more ts before (model_line c.args.line.now) c.args.tables.now count (record { ops = c.gather_body.new.ops; own = own }) (1_024 - own)
    c.in_ok-gather_body.ensures.added c.in_ok-own.ensures.counted (let small = c.in_ok-own.ensures.few in omega (arith, small)) (omega (arith, size, seen))
