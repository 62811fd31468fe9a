use Rattle.std.proofs.Common.{◌≡◌, ◌∷◌, [], ◌++◌, drop, map, flat_map, true, false}
use Rattle.spec_model.specs.declared.value.Value.TheVariants as value
use Rattle.pattern_rows.proofs.choices.with_both.Given as goal

abbrev pub invariant-loop-tail : goal.invariant-loop-tail
invariant-loop-tail l =
    map (λ c. c.items) l.all.items ++ flat_map (λ l. (value.Bool false ∷ l) ∷ (value.Bool true ∷ l) ∷ []) (map (λ c. c.items) (drop l.tail-index l.tails))
    ≡ flat_map (λ l. (value.Bool false ∷ l) ∷ (value.Bool true ∷ l) ∷ []) (map (λ c. c.items) l.tails)
