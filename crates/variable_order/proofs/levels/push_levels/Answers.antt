use Rattle.std.proofs.Common.{◌≡◌, ◌+◌, ◌∙◌, ◌++◌, ◌∷◌, [], ℕ, suc, List, ap, sym, arith}
use Rattle.std.specs.List.{range_with_len}
use Rattle.std.proofs.lemmas.List.{append_assoc}
use Rattle.variable_order.proofs.LevelLemmas.{range_more}
use Rattle.variable_order.proofs.levels.push_levels.Goals as goal

pub loop-k-preserved : goal.loop-k-preserved
loop-k-preserved c =
    let first = c.args.first in
    let k = c.loop-k.k in
    let next : k + 1 ≡ suc k = omega arith in
    let more : range_with_len first (k + 1) ≡ range_with_len first k ++ (first + k) ∷ [] = ap (range_with_len first) next ∙ range_more first k in
    c.in_ok-push.ensures.items ∙ (ap (λ (xs : List ℕ). xs ++ (first + k) ∷ []) c.loop-k.invariant ∙ (append_assoc c.args.levels.now.items (range_with_len first k) ((first + k) ∷ []) ∙ ap (λ (xs : List ℕ). c.args.levels.now.items ++ xs) (sym more)))
