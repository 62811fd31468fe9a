use Rattle.std.proofs.Common.{◌≡◌, ◌∙◌, Bool, true, if◌then◌else◌, [], ◌∷◌, sym, ap}
use Rattle.strategy_tables.specs.Tables.{EnvironmentTable}
use Rattle.strategy_tables.specs.Rules.{rule_6, rule_10, environment_checks_from}
use Rattle.table_check.specs.declared.checking.CheckEnd.TheVariants.{Sound, Flaw}
use Rattle.table_check.specs.Nodes.{game_in, nodes_in, claimed}
use Rattle.table_check.proofs.Ending.{node_fails, last_decides}
use Rattle.table_check.proofs.checker.Checker.environment_end.Goals as goal

pub returns-in-Sound : goal.returns-in-Sound
returns-in-Sound c =
    let self = c.args.self.now in
    let g = game_in self in
    let t : EnvironmentTable = (claimed self c.args.claim.now) in
    let begun : c.begins_environment.result ≡ true = c.if-not-begins_environment.false in
    let passes : rule_6 g t ≡ true = sym c.begins_environment.ensures ∙ begun in
    let none = sym c.in-Sound.is ∙ c.in_ok-found.ensures in
    c.last_end.ensures
    ∙ (ap (λ (b : Bool). if b then Sound else Flaw 10 0) c.in_ok-m_suffices-in-Sound.ensures
    ∙ last_decides 6 (rule_6 g t) passes (environment_checks_from g t 0 (nodes_in self)) none 10 (rule_10 g t))

pub returns : goal.returns
returns c =
    let self = c.args.self.now in
    let g = game_in self in
    let t : EnvironmentTable = (claimed self c.args.claim.now) in
    let begun : c.begins_environment.result ≡ true = c.if-not-begins_environment.false in
    let passes : rule_6 g t ≡ true = sym c.begins_environment.ensures ∙ begun in
    node_fails 6 (rule_6 g t) passes (environment_checks_from g t 0 (nodes_in self)) (record { rule = 10; node = 0; holds = rule_10 g t } ∷ []) c.in_ok-found.found c.in_ok-found.ensures c.in_default.not-Sound
