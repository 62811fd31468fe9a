use Rattle.std.proofs.Common.{◌≡◌, ◌∷◌, [], ◌+◌, ◌*◌, ◌^◌, ◌<◌, ◌∙◌, ap, map, rules}
use Rattle.std.proofs.lemmas.List.{map-append}
use Rattle.spec_model.specs.Views.{domain_data}
use Rattle.spec_model.specs.Needs.{bits_for}
use Rattle.bit_compile.proofs.SlotLemmas.{laid_out-push}
use Rattle.bit_compile.proofs.codes.Codes.with.Goals as goal

pub invariant_of-result : goal.invariant_of-result
invariant_of-result c =
    let domains = ap (map domain_data) c.in_ok-push.ensures.items ∙ map-append domain_data c.self.inside.domains.items (c.args.domain ∷ []) in
    let is = c.width_for-width.ensures.width ∙ ap bits_for c.size.ensures in
    let more : c.in_ok-levels.levels ≡ c.self.inside.levels + 2 * c.width_for-width.result = search rules in
    let small : c.in_ok-levels.levels < 2 ^ 32 = search rules in
    rw (domains, c.in_ok-push-2.ensures.items) (laid_out-push (map domain_data c.self.inside.domains.items) c.self.inside.slots.items c.self.inside.levels c.in_ok-levels.levels c.width_for-width.result (domain_data c.args.domain) c.self.invariant c.requires is c.width_for-width.ensures.narrow more small)
