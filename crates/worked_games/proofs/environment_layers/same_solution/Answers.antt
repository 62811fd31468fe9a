use Rattle.std.proofs.Common.{List, Option, MatchOption, subst, sym, arith}
use Rattle.gr1_sys.specs.Held.{HasEach}
use Rattle.gr1_sys.proofs.Lists.{together_each}
use Rattle.gr1_sys.proofs.Walked.{together_still}
use Rattle.gr1_env.specs.Held.{all_regions}
use Rattle.gr1_env.specs.Solved.{IsLost, WonByEnvironment}
use Rattle.worked_games.proofs.environment_layers.same_solution.Goals as goal

pub agree-same-requires : goal.agree-same-requires
agree-same-requires g c =
    let kept = g.G.Regions.kept in
    let k = kept c.args.g.now in
    let k1 = kept c.solve_env.new.g in
    let won = subst (λ (o : Option _). MatchOption o (IsLost k k1) (λ l. (sets : _) × WonByEnvironment k k1 l.layers.items sets)) c.in-Some.is c.in_ok-layers.ensures.solved in
    subst (λ (ls : List _). HasEach k1 (all_regions ls)) (sym c.deref.ensures.value) (together_each k1 (all_regions c.in-Some.layers.layers.items) (λ w. omega (arith, won.1.held w)))

pub spend_all-requires : goal.spend_all-requires
spend_all-requires g c =
    let kept = g.G.Regions.kept in
    let k = kept c.args.g.now in
    let k1 = kept c.solve_env.new.g in
    let won = subst (λ (o : Option _). MatchOption o (IsLost k k1) (λ l. (sets : _) × WonByEnvironment k k1 l.layers.items sets)) c.in-Some.is c.in_ok-layers.ensures.solved in
    together_still k1 (kept c.agree-same.new.g) (all_regions c.in-Some.layers.layers.items) (g.met.G.Regions.exact _) c.agree-same.ensures.held (λ w. omega (arith, won.1.held w))
