use Rattle.std.proofs.Common.{ℕ, ◌<◌, ap, ◌∙◌, ◌≤◌, subst, arith, length, get_or, map}
use Rattle.spec_model.specs.Views.{domain_data}
use Rattle.bit_compile.specs.Codes.{width_at}
use Rattle.bit_compile.specs.Laid.{slots_from}
use Rattle.bit_compile.specs.Domains.{level_count}
use Rattle.bit_compile.proofs.SlotLemmas.{length-slots, slot_at, slot_within}
use Rattle.bit_compile.proofs.codes.Codes.slot.Goals as goal

pub index-requires : goal.index-requires
index-requires c =
    let slots = ap length c.self.invariant.slots_are ∙ length-slots (map domain_data c.self.inside.domains.items) 0 in
    let all = ap length c.self.view_is in
    omega (arith, slots, all, c.requires)

pub returns-clause-first : goal.returns-clause-first
returns-clause-first c =
    let is = c.index.ensures ∙ ap (λ s. get_or s c.args.k c.index.result.now) (c.self.invariant.slots_are ∙ ap (slots_from 0) c.self.view_is) in
    let place = (slot_at c.args.self.now 0 c.args.k c.index.result.now c.requires is).0 in
    omega (arith, place)

pub returns-clause-width : goal.returns-clause-width
returns-clause-width c =
    let is = c.index.ensures ∙ ap (λ s. get_or s c.args.k c.index.result.now) (c.self.invariant.slots_are ∙ ap (slots_from 0) c.self.view_is) in
    (slot_at c.args.self.now 0 c.args.k c.index.result.now c.requires is).1

pub returns-clause-within : goal.returns-clause-within
returns-clause-within c =
    let is = c.index.ensures ∙ ap (λ s. get_or s c.args.k c.index.result.now) (c.self.invariant.slots_are ∙ ap (slots_from 0) c.self.view_is) in
    let place = slot_at c.args.self.now 0 c.args.k c.index.result.now c.requires is in
    let within = slot_within c.args.self.now c.args.k c.requires in
    omega (arith, place.0, place.1, within)

pub returns-clause-levels : goal.returns-clause-levels
returns-clause-levels c =
    let is = c.self.invariant.level_number ∙ ap level_count c.self.view_is in
    let small = c.self.invariant.small in
    omega (arith, is, small)

pub returns-clause-narrow : goal.returns-clause-narrow
returns-clause-narrow c =
    let is = c.index.ensures ∙ ap (λ s. get_or s c.args.k c.index.result.now) (c.self.invariant.slots_are ∙ ap (slots_from 0) c.self.view_is) in
    let place = slot_at c.args.self.now 0 c.args.k c.index.result.now c.requires is in
    let narrow = subst (λ ds. (k : ℕ) → k < length ds → width_at ds k ≤ 64) c.self.view_is c.self.invariant.narrow c.args.k c.requires in
    omega (arith, place.1, narrow)
