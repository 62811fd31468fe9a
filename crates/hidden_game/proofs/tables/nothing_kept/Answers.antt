use Rattle.std.proofs.Common.{◌≡◌, length, replicate, None, ap, ◌∙◌, arith}
use Rattle.hidden_game.proofs.Making.{nothing_is_kept}
use Rattle.hidden_game.proofs.tables.nothing_kept.Goals as goal

pub returns : goal.returns
returns c =
    let test = c.loop-k-test.false in
    let all : c.loop-k.k ≡ length c.args.patterns.now = omega (arith, test, c.loop-k.auto.k-end) in
    record { kept = nothing_is_kept c.args.patterns.now c.loop-k.kept.items (c.loop-k.invariant ∙ ap (λ n. replicate n None) all) }
