use Rattle.std.proofs.Common.{◌≡◌, ◌∙◌, Bool, true, if◌then◌else◌, [], ◌∷◌, sym, ap}
use Rattle.strategy_tables.specs.Tables.{SystemTable}
use Rattle.strategy_tables.specs.Rules.{rule_1, rule_5, system_checks_from}
use Rattle.table_check.specs.declared.checking.CheckEnd.TheVariants.{Sound, Flaw}
use Rattle.table_check.specs.Nodes.{game_in, nodes_in}
use Rattle.table_check.proofs.Ending.{node_fails, last_decides}
use Rattle.table_check.proofs.checker.Checker.system_end.Goals as goal

pub returns-in-Sound : goal.returns-in-Sound
returns-in-Sound c =
    let self = c.args.self.now in
    let g = game_in self in
    let t : SystemTable = (record { k = c.args.k; first = c.args.first.now; nodes = nodes_in self }) in
    let begun : c.begins_system.result ≡ true = c.if-not-begins_system.false in
    let passes : rule_1 g t ≡ true = sym c.begins_system.ensures ∙ begun in
    let none = sym c.in-Sound.is ∙ c.in_ok-found.ensures in
    c.last_end.ensures
    ∙ (ap (λ (b : Bool). if b then Sound else Flaw 5 0) c.in_ok-k_suffices-in-Sound.ensures
    ∙ last_decides 1 (rule_1 g t) passes (system_checks_from g (nodes_in self) 0 (nodes_in self)) none 5 (rule_5 g t))

pub returns : goal.returns
returns c =
    let self = c.args.self.now in
    let g = game_in self in
    let t : SystemTable = (record { k = c.args.k; first = c.args.first.now; nodes = nodes_in self }) in
    let begun : c.begins_system.result ≡ true = c.if-not-begins_system.false in
    let passes : rule_1 g t ≡ true = sym c.begins_system.ensures ∙ begun in
    node_fails 1 (rule_1 g t) passes (system_checks_from g (nodes_in self) 0 (nodes_in self)) (record { rule = 5; node = 0; holds = rule_5 g t } ∷ []) c.in_ok-found.found c.in_ok-found.ensures c.in_default.not-Sound
