use Rattle.std.proofs.Common.{◌≡◌, length, Some, Option, option_map, sym, ap, ◌∙◌, arith}
use Rattle.std.proofs.lemmas.List.{length-map}
use Rattle.std.proofs.lemmas.Option.{slice_get_past}
use Rattle.spec_model.specs.Syntax.{PatternData}
use Rattle.spec_model.specs.Views.{formula, pattern_data, spec_data}
use Rattle.hidden_game.proofs.Limits.{element, few_goals}
use Rattle.hidden_game.proofs.source.Source.goals_of_pattern.Goals as goal

pub overflow_cast-result : goal.overflow_cast-result
overflow_cast-result c =
    let s = spec_data c.args.self.now.spec.now in
    let there = element pattern_data c.args.self.now.spec.now.patterns.items c.args.p c.index-pattern.result.now (omega (arith, c.if-p-len.false, c.len.ensures)) c.index-pattern.ensures in
    let few = few_goals s c.requires.typed c.args.p (pattern_data c.index-pattern.result.now) there in
    let many = length-map c.index-pattern.result.now.goals.items formula in
    omega (arith, few, many, c.len-count.ensures)

pub returns-then-p-len-clause-count : goal.returns-then-p-len-clause-count
returns-then-p-len-clause-count c =
    let s = spec_data c.args.self.now.spec.now in
    let many = length-map c.args.self.now.spec.now.patterns.items pattern_data in
    sym (ap (λ (o : Option PatternData). option_map (λ (p : PatternData). length p.goals) o) (slice_get_past s.patterns c.args.p (omega (arith, c.if-p-len.true, c.len.ensures, many))))

pub returns-clause-count : goal.returns-clause-count
returns-clause-count c =
    let there = element pattern_data c.args.self.now.spec.now.patterns.items c.args.p c.index-pattern.result.now (omega (arith, c.if-p-len.false, c.len.ensures)) c.index-pattern.ensures in
    let many = length-map c.index-pattern.result.now.goals.items formula in
    let count : c.len-count.result ≡ length (pattern_data c.index-pattern.result.now).goals = omega (arith, many, c.len-count.ensures) in
    ap Some count ∙ sym (ap (λ (o : Option PatternData). option_map (λ (p : PatternData). length p.goals) o) there)

pub returns-clause-few : goal.returns-clause-few
returns-clause-few c =
    let s = spec_data c.args.self.now.spec.now in
    let there = element pattern_data c.args.self.now.spec.now.patterns.items c.args.p c.index-pattern.result.now (omega (arith, c.if-p-len.false, c.len.ensures)) c.index-pattern.ensures in
    let few = few_goals s c.requires.typed c.args.p (pattern_data c.index-pattern.result.now) there in
    let many = length-map c.index-pattern.result.now.goals.items formula in
    omega (arith, few, many, c.len-count.ensures)
