use Rattle.std.proofs.Common.{◌≡◌, ◌<◌, if◌then◌else◌, true, length, map, get_or, sym, ap, subst, ◌∙◌, arith, rules}
use Rattle.std.specs.Prelude.{slice_get, Some}
use Rattle.std.proofs.lemmas.List.{length-map, map-set}
use Rattle.spectra_uses.specs.Orders.{IsOrderOf}
use Rattle.spectra_resolved.specs.Texts.{ResolvedDefinition}
use Rattle.spectra_resolved.specs.TextViews.{definition_data, text_data}
use Rattle.spectra_judge.specs.Kinds.{Anything}
use Rattle.spectra_judge.specs.KindViews.{kind_data}
use Rattle.spectra_uses.specs.Uses.{uses_in, all_uses}
use Rattle.spectra_bounds.specs.ByUses.{is_on_cycle}
use Rattle.spectra_bounds.proofs.Made.{HasMade, stands, none_made, all_made, ordered_data}
use Rattle.spectra_bounds.proofs.Marks.{marks-are}
use Rattle.spectra_notes.specs.Notes.{no_meaning, note_of, known_inside, noted}
use Rattle.spectra_notes.specs.NoteViews.{note_data}
use Rattle.spectra_notes.proofs.Noting.{defines-length, holes-length, define_more, hole_more}
use Rattle.spectra_notes.proofs.notes.noted_by.Goals as goal

pub loop-k-init : goal.loop-k-init
loop-k-init c =
    let text = text_data c.args.text.now in
    let xs = c.args.text.now.definitions.items in
    let order = c.args.order.numbers.items in
    let ordered = ordered_data definition_data xs (all_uses text.definitions) order c.requires.order in
    let first : length c.in_ok-defines.defines.items ≡ length xs = omega (arith, c.in_ok-defines.ensures.len, c.in_ok-defines.defines.ok.0, c.len-count.ensures, c.args.text.now.definitions.ok.0) in
    let second : length c.in_ok-holes.holes.items ≡ length xs = omega (arith, c.in_ok-holes.ensures.len, c.in_ok-holes.holes.ok.0, c.len-count.ensures, c.args.text.now.definitions.ok.0) in
    record {
      defines = none_made Anything (noted text).defines order (map kind_data c.in_ok-defines.defines.items)
          (length-map c.in_ok-defines.defines.items kind_data ∙ first ∙ sym (defines-length text order ordered ∙ length-map xs definition_data));
      holes = none_made true (noted text).holes order c.in_ok-holes.holes.items (second ∙ sym (holes-length text order ordered ∙ length-map xs definition_data));
    }

pub index_mut-requires : goal.index_mut-requires
index_mut-requires c =
    let text = text_data c.args.text.now in
    let xs = c.args.text.now.definitions.items in
    let order = c.args.order.numbers.items in
    let ordered = ordered_data definition_data xs (all_uses text.definitions) order c.requires.order in
    let here = ap (λ o. slice_get o c.loop-k.k-index) (sym c.deref-k-items.ensures.value) ∙ stands c.deref-k-items.result.now c.loop-k.k-index c.loop-k-test.true in
    let below = c.requires.order.within c.loop-k.k-index (get_or c.deref-k-items.result.now c.loop-k.k-index 0) here in
    let long = sym (length-map c.loop-k.defines.items kind_data) ∙ c.loop-k.invariant.defines.long ∙ defines-length text order ordered ∙ length-map xs definition_data in search (rules, below, long)

pub index_mut-requires-in-loop-k : goal.index_mut-requires-in-loop-k
index_mut-requires-in-loop-k c =
    let text = text_data c.args.text.now in
    let xs = c.args.text.now.definitions.items in
    let order = c.args.order.numbers.items in
    let ordered = ordered_data definition_data xs (all_uses text.definitions) order c.requires.order in
    let here = ap (λ o. slice_get o c.loop-k.k-index) (sym c.deref-k-items.ensures.value) ∙ stands c.deref-k-items.result.now c.loop-k.k-index c.loop-k-test.true in
    let below = c.requires.order.within c.loop-k.k-index (get_or c.deref-k-items.result.now c.loop-k.k-index 0) here in
    let long = c.loop-k.invariant.holes.long ∙ holes-length text order ordered ∙ length-map xs definition_data in search (rules, below, long)

-- the order's next definition has its note
pub loop-k-preserved : goal.loop-k-preserved
loop-k-preserved c =
    let text = text_data c.args.text.now in
    let xs = c.args.text.now.definitions.items in
    let order = c.args.order.numbers.items in
    let ordered = ordered_data definition_data xs (all_uses text.definitions) order c.requires.order in
    let place = c.loop-k.k-index in
    let k = get_or c.deref-k-items.result.now place 0 in
    let here : slice_get order place ≡ Some k = ap (λ o. slice_get o place) (sym c.deref-k-items.ensures.value) ∙ stands c.deref-k-items.result.now place c.loop-k-test.true in
    let short : k < length xs = c.requires.order.within place k here in
    let below : k < length text.definitions = let long = length-map xs definition_data in omega arith in
    let kinds = map kind_data c.loop-k.defines.items in
    let note = note_data c.note_at-note.result in
    let is : (d : ResolvedDefinition) → slice_get text.definitions k ≡ Some d → note ≡ (if is_on_cycle (all_uses text.definitions) k then no_meaning else note_of (known_inside text kinds d) d) =
    λ d there. c.note_at-note.ensures d there
    ∙ (λ i. if is_on_cycle (all_uses text.definitions) k then no_meaning else note_of (known_inside text (map kind_data (c.deref.ensures.value i)) d) d) in
    record {
      defines = subst (HasMade Anything (noted text).defines order _) (sym (map-set kind_data c.loop-k.defines.items k c.note_at-note.result.kind))
          (define_more text order ordered place k kinds c.loop-k.invariant.defines here below note is);
      holes = hole_more text order ordered place k kinds c.loop-k.invariant.defines here below note is c.loop-k.holes.items c.loop-k.invariant.holes;
    }

pub returns-clause-noted : goal.returns-clause-noted
returns-clause-noted c =
    let text = text_data c.args.text.now in
    let xs = c.args.text.now.definitions.items in
    let order = c.args.order.numbers.items in
    let ordered : IsOrderOf (all_uses text.definitions) (length text.definitions) order = ordered_data definition_data xs (all_uses text.definitions) order c.requires.order in
    let same = ap length c.deref-k-items.ensures.value in
    let end : c.loop-k.k-index ≡ length order = omega arith in
    let defines_long = defines-length text order ordered in
    let holes_long = holes-length text order ordered in
    let defines = all_made Anything (noted text).defines order (λ k lt. ordered.whole k (omega arith)) (map kind_data c.loop-k.defines.items)
    (subst (λ p. HasMade Anything (noted text).defines order p (map kind_data c.loop-k.defines.items)) end c.loop-k.invariant.defines) in
    let holes = all_made true (noted text).holes order (λ k lt. ordered.whole k (omega arith)) c.loop-k.holes.items
    (subst (λ p. HasMade true (noted text).holes order p c.loop-k.holes.items) end c.loop-k.invariant.holes) in
    let uses = sym (length-map text.definitions (λ (e : ResolvedDefinition). uses_in e.body) ∙ length-map xs definition_data) in
    let on_cycle = marks-are (all_uses text.definitions) (length xs) c.args.order.on_cycle.items uses c.requires.on_cycle in
    λ i. record { kinds = c.requires.kinds i; defines = defines i; holes = holes i; on_cycle = on_cycle i }

pub note_at-note-requires-clause-within : goal.note_at-note-requires-clause-within
note_at-note-requires-clause-within c =
    let here = ap (λ o. slice_get o c.loop-k.k-index) (sym c.deref-k-items.ensures.value) ∙ stands c.deref-k-items.result.now c.loop-k.k-index c.loop-k-test.true in
    c.requires.order.within c.loop-k.k-index (get_or c.deref-k-items.result.now c.loop-k.k-index 0) here
