use Rattle.std.proofs.Common.{◌≡◌, ◌<◌, if◌then◌else◌, None, length, map, get_or, sym, ap, subst, ◌∙◌, arith, rules}
use Rattle.std.specs.Prelude.{slice_get, Some}
use Rattle.std.proofs.lemmas.List.{length-map, map-set}
use Rattle.spectra_uses.specs.Orders.{IsOrderOf}
use Rattle.spectra_resolved.specs.declared.text.Definition.{Definition}
use Rattle.spectra_resolved.specs.Views.{resolved_data}
use Rattle.spectra_resolved.specs.Texts.{ResolvedDefinition}
use Rattle.spectra_resolved.specs.TextViews.{definition_data}
use Rattle.spectra_judge.specs.Kinds.{Anything}
use Rattle.spectra_judge.specs.KindViews.{kind_data}
use Rattle.spectra_uses.specs.Uses.{uses_in, all_uses}
use Rattle.spectra_bounds.specs.Numbers.{no_constant, constant_of, constants}
use Rattle.spectra_bounds.specs.TypeViews.{constant_data, constants_data}
use Rattle.spectra_bounds.proofs.Made.{HasMade, stands, none_made, all_made, ordered_data, marked_at, read_data}
use Rattle.spectra_bounds.proofs.Found.{numbers-length, kinds-length, number_more, kind_more}
use Rattle.spectra_bounds.proofs.constants.constants_of.Goals as goal

pub loop-k-init : goal.loop-k-init
loop-k-init c =
    let xs = c.args.definitions.now in
    let ds = map definition_data xs in
    let order = c.args.order.now.numbers.items in
    let ordered = ordered_data definition_data xs (all_uses ds) order c.requires.order in
    let first : length c.in_ok-vec.field-0.items ≡ length xs = omega (arith, c.in_ok-vec.ensures.len, c.in_ok-vec.field-0.ok.0) in
    let second : length c.in_ok-vec-2.field-0.items ≡ length xs = omega (arith, c.in_ok-vec-2.ensures.len, c.in_ok-vec-2.field-0.ok.0) in
    record {
      numbers = none_made None (constants ds).numbers order c.in_ok-vec.field-0.items (first ∙ sym (numbers-length ds order ordered ∙ length-map xs definition_data));
      kinds = none_made Anything (constants ds).kinds order (map kind_data c.in_ok-vec-2.field-0.items)
          (length-map c.in_ok-vec-2.field-0.items kind_data ∙ second ∙ sym (kinds-length ds order ordered ∙ length-map xs definition_data));
    }

pub index-requires : goal.index-requires
index-requires c =
    let here = ap (λ o. slice_get o c.loop-k.k-index) (sym c.deref-k-items.ensures.value) ∙ stands c.deref-k-items.result.now c.loop-k.k-index c.loop-k-test.true in
    let below = c.requires.order.within c.loop-k.k-index (get_or c.deref-k-items.result.now c.loop-k.k-index 0) here in
    let size = c.requires.on_cycle.size in search (rules, below, size)

pub bounds-definitions-k : goal.bounds-definitions-k
bounds-definitions-k c =
    let here = ap (λ o. slice_get o c.loop-k.k-index) (sym c.deref-k-items.ensures.value) ∙ stands c.deref-k-items.result.now c.loop-k.k-index c.loop-k-test.true in
    c.requires.order.within c.loop-k.k-index (get_or c.deref-k-items.result.now c.loop-k.k-index 0) here

pub offset_bounds-definitions-k : goal.offset_bounds-definitions-k
offset_bounds-definitions-k c =
    let here = ap (λ o. slice_get o c.loop-k.k-index) (sym c.deref-k-items.ensures.value) ∙ stands c.deref-k-items.result.now c.loop-k.k-index c.loop-k-test.true in
    let below = c.requires.order.within c.loop-k.k-index (get_or c.deref-k-items.result.now c.loop-k.k-index 0) here in search (rules, below)

pub index_mut-requires : goal.index_mut-requires
index_mut-requires c =
    let xs = c.args.definitions.now in
    let ds = map definition_data xs in
    let order = c.args.order.now.numbers.items in
    let ordered = ordered_data definition_data xs (all_uses ds) order c.requires.order in
    let here = ap (λ o. slice_get o c.loop-k.k-index) (sym c.deref-k-items.ensures.value) ∙ stands c.deref-k-items.result.now c.loop-k.k-index c.loop-k-test.true in
    let below = c.requires.order.within c.loop-k.k-index (get_or c.deref-k-items.result.now c.loop-k.k-index 0) here in
    let long = c.loop-k.invariant.numbers.long ∙ numbers-length ds order ordered ∙ length-map xs definition_data in search (rules, below, long)

pub index_mut-requires-in-loop-k : goal.index_mut-requires-in-loop-k
index_mut-requires-in-loop-k c =
    let xs = c.args.definitions.now in
    let ds = map definition_data xs in
    let order = c.args.order.now.numbers.items in
    let ordered = ordered_data definition_data xs (all_uses ds) order c.requires.order in
    let here = ap (λ o. slice_get o c.loop-k.k-index) (sym c.deref-k-items.ensures.value) ∙ stands c.deref-k-items.result.now c.loop-k.k-index c.loop-k-test.true in
    let below = c.requires.order.within c.loop-k.k-index (get_or c.deref-k-items.result.now c.loop-k.k-index 0) here in
    let long = sym (length-map c.loop-k.constants.kinds.items kind_data) ∙ c.loop-k.invariant.kinds.long ∙ kinds-length ds order ordered ∙ length-map xs definition_data in search (rules, below, long)

-- the order's next definition has its number and its span
pub loop-k-preserved : goal.loop-k-preserved
loop-k-preserved c =
    let xs = c.args.definitions.now in
    let ds = map definition_data xs in
    let order = c.args.order.now.numbers.items in
    let ordered = ordered_data definition_data xs (all_uses ds) order c.requires.order in
    let place = c.loop-k.k-index in
    let k = get_or c.deref-k-items.result.now place 0 in
    let here : slice_get order place ≡ Some k = ap (λ o. slice_get o place) (sym c.deref-k-items.ensures.value) ∙ stands c.deref-k-items.result.now place c.loop-k-test.true in
    let below : k < length xs = c.requires.order.within place k here in
    let there = read_data definition_data xs k c.index-definitions-k.result below c.index-definitions-k.is in
    let same = sym (length-map ds (λ (d : ResolvedDefinition). uses_in d.body) ∙ length-map xs definition_data) in
    let marked = marked_at (all_uses ds) (length xs) c.args.order.now.on_cycle.items k c.index.result.now same c.requires.on_cycle below c.index.ensures in
    let now = constants_data c.loop-k.constants in
    let d = definition_data c.index-definitions-k.result in
    let made = constant_data c.constant_of-made.result in
    let is = c.constant_of-made.ensures
    ∙ ap (λ (e : Definition). if c.index.result.now then no_constant else constant_of now (resolved_data e.body)) (sym c.index-definitions-k.is) in
    record {
      numbers = number_more ds order ordered place k d now c.loop-k.invariant.numbers c.loop-k.invariant.kinds here there c.index.result.now marked made is;
      kinds = subst (HasMade Anything (constants ds).kinds order _) (sym (map-set kind_data c.loop-k.constants.kinds.items k c.constant_of-made.result.kind))
          (kind_more ds order ordered place k d now c.loop-k.invariant.numbers c.loop-k.invariant.kinds here there c.index.result.now marked made is);
    }

pub returns : goal.returns
returns c =
    let xs = c.args.definitions.now in
    let ds = map definition_data xs in
    let order = c.args.order.now.numbers.items in
    let ordered : IsOrderOf (all_uses ds) (length ds) order = ordered_data definition_data xs (all_uses ds) order c.requires.order in
    let same = ap length c.deref-k-items.ensures.value in
    let end : c.loop-k.k-index ≡ length order = omega arith in
    let numbers_long = numbers-length ds order ordered in
    let kinds_long = kinds-length ds order ordered in
    let numbers = all_made None (constants ds).numbers order (λ k lt. ordered.whole k (omega arith)) c.loop-k.constants.numbers.items
    (subst (λ p. HasMade None (constants ds).numbers order p c.loop-k.constants.numbers.items) end c.loop-k.invariant.numbers) in
    let kinds = all_made Anything (constants ds).kinds order (λ k lt. ordered.whole k (omega arith)) (map kind_data c.loop-k.constants.kinds.items)
    (subst (λ p. HasMade Anything (constants ds).kinds order p (map kind_data c.loop-k.constants.kinds.items)) end c.loop-k.invariant.kinds) in
    λ i. record { numbers = numbers i; kinds = kinds i }
