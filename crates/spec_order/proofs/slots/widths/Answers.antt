use Rattle.std.proofs.Common.{◌*◌, ◌<◌, ◌≤◌, ◌++◌, ◌∷◌, [], ◌∙◌, ℕ, List, map, take, length, ap, sym, arith}
use Rattle.std.proofs.lemmas.List.{map_more, take_all}
use Rattle.spec_model.specs.Values.{DomainData, TruthValues}
use Rattle.bit_compile.specs.Domains.{width_of}
use Rattle.spec_order.proofs.slots.widths.Goals as goal

pub loop-k-preserved : goal.loop-k-preserved
loop-k-preserved c =
    let ds = c.args.codes.now in
    let k = c.loop-k.k in
    let known : k < length ds = omega (arith, c.count-k-end.ensures, c.loop-k-test.true) in
    let front = map (λ (d : DomainData). 2 * width_of d) (take k ds) in
    c.in_ok-push.ensures.items
    ∙ (ap (λ (xs : List ℕ). xs ++ 2 * c.width.result ∷ []) c.loop-k.invariant
    ∙ (ap (λ (w : ℕ). front ++ 2 * w ∷ []) c.width.ensures.width ∙ sym (map_more (λ (d : DomainData). 2 * width_of d) ds k TruthValues known)))

pub returns : goal.returns
returns c =
    let ds = c.args.codes.now in
    let past : length ds ≤ c.loop-k.k = omega (arith, c.count-k-end.ensures, c.loop-k-test.false) in
    c.loop-k.invariant ∙ ap (map (λ (d : DomainData). 2 * width_of d)) (take_all c.loop-k.k ds past)
