use Rattle.std.proofs.Common.{◌≡◌, ◌+◌, suc, ◌∙◌, List, ◌∷◌, Some, None, map, drop, get_or, sym, ap, arith}
use Rattle.strategy_tables.specs.declared.tables.Node.{Node}
use Rattle.strategy_tables.specs.Rules.{environment_checks_from, first_flaw}
use Rattle.strategy_tables.specs.Views.{node_data}
use Rattle.table_check.specs.Ends.{end_of}
use Rattle.table_check.specs.Nodes.{game_in, claimed, held_at}
use Rattle.table_check.proofs.Marking.{drop_at, node_there, held_there}
use Rattle.table_check.proofs.Ending.{environment_passes, environment_fails}
use Rattle.table_check.proofs.checker.Checker.environment_nodes.Goals as goal

pub environment_rule-requires-clause-state : goal.environment_rule-requires-clause-state
environment_rule-requires-clause-state c =
    let self = c.args.self.now in
    c.requires.checker.checker.states c.loop-i.i _ (node_there self.nodes.now c.loop-i.i c.index-self-i.result c.loop-i-test.true)

pub environment_rule-requires-clause-reply : goal.environment_rule-requires-clause-reply
environment_rule-requires-clause-reply c =
    let self = c.args.self.now in
    c.requires.checker.replies.1 c.loop-i.i _ (node_there self.nodes.now c.loop-i.i c.index-self-i.result c.loop-i-test.true)

pub environment_rule-requires-clause-held : goal.environment_rule-requires-clause-held
environment_rule-requires-clause-held c =
    let self = c.args.self.now in
    held_there (held_at (game_in self)) self.nodes.now self.held.now c.requires.checker.checker.held c.loop-i.i c.index-self-i.result _ c.loop-i-test.true

pub returns-in-Some : goal.returns-in-Some
returns-in-Some c =
    let self = c.args.self.now in
    let g = game_in self in
    let i = c.loop-i.i in
    let d = c.index-self-i.result in
    let here = drop_at self.nodes.now i d c.loop-i-test.true in
    let fails = sym c.in_ok-rule.ensures.rule ∙ c.in-Some.is in
    sym (environment_fails g (claimed self c.args.claim.now) i (node_data (get_or self.nodes.now i d)) (map node_data (drop (i + 1) self.nodes.now)) c.in-Some.rule fails)
    ∙ (ap (λ (vs : List Node). end_of (first_flaw (environment_checks_from g (claimed self c.args.claim.now) i (map node_data vs)))) (sym here)
    ∙ c.loop-i.invariant.same)

pub loop-i-preserved : goal.loop-i-preserved
loop-i-preserved c =
    let self = c.args.self.now in
    let g = game_in self in
    let i = c.loop-i.i in
    let d = c.index-self-i.result in
    let rest = map node_data (drop (i + 1) self.nodes.now) in
    let here = drop_at self.nodes.now i d c.loop-i-test.true in
    let none : c.in_ok-rule.field-0 ≡ None = c.in_default.is in
    let passes = sym c.in_ok-rule.ensures.rule ∙ none in
    let next : i + 1 ≡ suc i = omega arith in
    record {
      room = c.in_ok-rule.ensures.room;
      same = ap (λ n. end_of (first_flaw (environment_checks_from g (claimed self c.args.claim.now) n rest))) next
          ∙ (ap end_of (sym (environment_passes g (claimed self c.args.claim.now) i (node_data (get_or self.nodes.now i d)) rest passes))
          ∙ (ap (λ (vs : List Node). end_of (first_flaw (environment_checks_from g (claimed self c.args.claim.now) i (map node_data vs)))) (sym here)
          ∙ c.loop-i.invariant.same));
    }
