use Rattle.std.proofs.Common.{ℕ, ◌^◌, ◌<◌, ◌≡◌, true, false, length, get_or, sym, ◌∙◌, ap, subst}
use Rattle.spec_model.specs.declared.value.Value.TheVariants as value
use Rattle.spec_model.specs.Values.{DomainData, values_of}
use Rattle.spec_model.specs.DiagramReads.{bits_of}
use Rattle.bit_compile.specs.Codes.{has_number, width_at}
use Rattle.bdd_search.proofs.ReadLemmas.{code_below, value_is}
use Rattle.bdd_search.proofs.reading.read_value.Goals as goal

pub returns : goal.returns
returns c = λ v shows.
    let ds = c.args.codes.now in
    let n = c.digits-n.result in
    let s = bits_of c.args.bits.now in
    let small = subst (λ (w : ℕ). n < 2 ^ w) c.width.ensures.width c.digits-n.ensures.small in
    let has = subst (λ (l : ℕ). has_number l (width_at ds c.args.k) n s ≡ true) c.level.ensures.level (subst (λ (w : ℕ). has_number c.level.result w n s ≡ true) c.width.ensures.width c.digits-n.ensures.digits) in
    let below = code_below ds c.args.at c.args.k v s n shows small has in
    let below' = subst (λ (d : DomainData). n < length (values_of d)) (sym c.domain.ensures.domain) below in
    c.value_of.ensures below' ∙ (ap (λ (d : DomainData). get_or (values_of d) n (value.Bool false)) c.domain.ensures.domain ∙ value_is ds c.args.at c.args.k v s n shows small has)
