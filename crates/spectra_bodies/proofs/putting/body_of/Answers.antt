use Rattle.std.proofs.Common.{◌≡◌, true, Some, get_or, sym, ap, ◌∙◌}
use Rattle.spectra_resolved.specs.TextViews.{definition_data, text_data}
use Rattle.spectra_judge.specs.KindViews.{known_data}
use Rattle.spectra_holes.specs.Holed.{holed}
use Rattle.spectra_bounds.proofs.Made.{read_data}
use Rattle.spectra_notes.specs.Notes.{Noted, noted, known_inside}
use Rattle.spectra_notes.specs.NoteViews.{notes_data}
use Rattle.spectra_bodies.proofs.Inside.{inside, no_body, some_body}
use Rattle.spectra_bodies.proofs.putting.body_of.Goals as goal

pub returns-then-is_hole : goal.returns-then-is_hole
returns-then-is_hole c =
    let text = text_data c.args.text.now in
    let xs = c.args.text.now.definitions.items in
    let k = c.args.k in
    let d = definition_data c.index-definition.result.now in
    let there = read_data definition_data xs k c.index-definition.result.now c.requires.within c.index-definition.ensures in
    let hole = ap (λ hs. get_or hs k true) (sym (c.deref.ensures.value ∙ ap (λ (n : Noted). n.holes) c.requires.notes)) ∙ sym c.is_hole.ensures ∙ c.if-is_hole.true in
    no_body text k d there hole

pub returns : goal.returns
returns c =
    let text = text_data c.args.text.now in
    let xs = c.args.text.now.definitions.items in
    let k = c.args.k in
    let d = definition_data c.index-definition.result.now in
    let there = read_data definition_data xs k c.index-definition.result.now c.requires.within c.index-definition.ensures in
    let hole = ap (λ hs. get_or hs k true) (sym (c.deref.ensures.value ∙ ap (λ (n : Noted). n.holes) c.requires.notes)) ∙ sym c.is_hole.ensures ∙ c.if-is_hole.false in
    let known : known_data c.known_in_body-known.result ≡ known_inside text (noted text).defines d =
    c.known_in_body-known.ensures.known ∙ inside (notes_data c.args.notes.now) text k d c.requires.notes there in
    ap Some (c.in_ok-body.ensures ∙ (λ i. holed (known i) (c.stand_of-stand.ensures i) d.body)) ∙ some_body text k d there hole
