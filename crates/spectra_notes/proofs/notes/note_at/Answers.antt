use Rattle.std.proofs.Common.{◌≡◌, if◌then◌else◌, [], map, get_or, length, sym, ap, ◌∙◌, rules}
use Rattle.std.proofs.lemmas.List.{length-map}
use Rattle.std.proofs.lemmas.Option.{same_Some}
use Rattle.spectra_resolved.specs.Texts.{ResolvedDefinition}
use Rattle.spectra_resolved.specs.TextViews.{definition_data, text_data}
use Rattle.spectra_judge.specs.KindViews.{kind_data, known_data}
use Rattle.spectra_uses.specs.Uses.{uses_in, all_uses}
use Rattle.spectra_bounds.proofs.Made.{marked_at, read_data}
use Rattle.spectra_notes.specs.TypeKinds.{TypeKinds, known_by}
use Rattle.spectra_notes.specs.Notes.{no_meaning, note_of, known_inside}
use Rattle.spectra_notes.proofs.Noting.{parameters_at}
use Rattle.spectra_notes.proofs.notes.note_at.Goals as goal

pub index-on_cycle-requires : goal.index-on_cycle-requires
index-on_cycle-requires c =
    let below = c.requires.within in
    let size = c.requires.on_cycle.size in search (rules, below, size)

pub returns : goal.returns
returns c d there =
    let text = text_data c.args.text.now in
    let xs = c.args.text.now.definitions.items in
    let k = c.args.k in
    let defines = map kind_data c.args.defines.now in
    let same = sym (length-map text.definitions (λ (e : ResolvedDefinition). uses_in e.body) ∙ length-map xs definition_data) in
    let marked = marked_at (all_uses text.definitions) (length xs) c.args.order.now.on_cycle.items k c.index-on_cycle.result.now same c.requires.on_cycle c.requires.within c.index-on_cycle.ensures in
    let kinds = c.requires.kinds in
    let parameters = c.parameters_of-parameters.ensures
    ∙ (λ i. get_or (map (λ ks. map kind_data ks.items) (c.deref.ensures.value i)) k [])
    ∙ ap (λ (ks : TypeKinds). get_or ks.predicates k []) kinds
    ∙ parameters_at text k d there in
    let outside = c.known_by-outside.ensures.known ∙ (λ i. known_by (kinds i) defines [] []) in
    let known : known_data c.with_parameters-known.result ≡ known_inside text defines d = c.with_parameters-known.ensures.known ∙ (λ i. record (outside i) { parameters = parameters i }) in
    let is = same_Some (definition_data c.index-definition.result.now) d (sym (read_data definition_data xs k c.index-definition.result.now c.requires.within c.index-definition.ensures) ∙ there) in
    c.note_of.ensures ∙ (λ i. if marked i then no_meaning else note_of (known i) (is i))
