-- Where types and definitions have no fault, each body is put in as it is written, and in a line everything is put in.
use Rattle.std.proofs.Common.{◌≡◌, ℕ, suc, ◌+◌, true, List, [], ◌∷◌, Some, length, map, flat_map, get_or, option_map, slice_get, refl, sym, ap, subst, ◌∙◌, arith}
use Rattle.std.specs.List.{enumerate_from}
use Rattle.std.proofs.lemmas.List.{length-map}
use Rattle.std.proofs.lemmas.Option.{slice_get-map, slice_get_within}
use Rattle.spectra_resolved.specs.Resolved.{ResolvedTree}
use Rattle.spectra_resolved.specs.Texts.{ResolvedDefinition}
use Rattle.spectra_judge.specs.PutIn.{is_put_in}
use Rattle.spectra_uses.specs.Uses.{uses_in, all_uses}
use Rattle.spectra_uses.specs.Cycles.{reaches}
use Rattle.spectra_uses.specs.Orders.{IsOrderOf}
use Rattle.spectra_holes.specs.Holed.{holed}
use Rattle.spectra_elaboration.specs.Putting.{put_in}
use Rattle.spectra_elaboration.proofs.Chained.{map_twice}
use Rattle.spectra_elaboration.proofs.Meant.{holed_is_as_written}
use Rattle.spectra_elaboration.proofs.Written.{everything_is_put_in}
use Rattle.spectra_bounds.specs.Cycles.{on_cycles, cycle_faults}
use Rattle.spectra_notes.specs.Notes.{stand_of, body_faults, known_inside, noted, known_in_line}
use Rattle.spectra_bodies.specs.PutIn.{body_with, numbered_body, bodies}
use Rattle.spectra_bodies.specs.Laws.{BodiesAreAsWritten, LinesArePutIn}
use Rattle.spectra_bodies.proofs.Meaning.{both_empty, none_of, definitions_right, none_goes_round, each_has_a_meaning}

-- what is made of each element and its number, where the number makes no difference
map_numbered : {X Y : Type 0} (f : ℕ × X → Y) (g : X → Y) (xs : List X) (n : ℕ) → ((k : ℕ) (x : X) → slice_get xs k ≡ Some x → f (n + k, x) ≡ g x) → map f (enumerate_from n xs) ≡ map g xs
map_numbered f g [] n each = refl
map_numbered f g (x ∷ xs) n each =
    let none : n ≡ n + 0 = omega arith in
    let shift : (k : ℕ) → n + 1 + k ≡ n + suc k = λ k. omega arith in
    let head : f (n, x) ≡ g x = ap (λ m. f (m, x)) none ∙ each 0 x refl in
    let rest : map f (enumerate_from (n + 1) xs) ≡ map g xs = map_numbered f g xs (n + 1) (λ k y there. ap (λ m. f (m, y)) (shift k) ∙ each (suc k) y there) in
    (λ i. head i ∷ rest i)

abbrev body_of : ResolvedDefinition → ResolvedTree
body_of d = d.body

pub bodies_are_as_written : BodiesAreAsWritten
bodies_are_as_written text arities good order ordered single meant written e =
    map_numbered (numbered_body text) (λ (d : ResolvedDefinition). Some d.body) text.definitions 0 one
  where
    one : (k : ℕ) (d : ResolvedDefinition) → slice_get text.definitions k ≡ Some d → numbered_body text (0 + k, d) ≡ Some d.body
    one k d there =
        let known = known_inside text (noted text).defines d in
        let uses = all_uses text.definitions in
        let places = map (λ (d : ResolvedDefinition). d.name.at) text.definitions in
        let faults = λ (d : ResolvedDefinition). body_faults (known_inside text (noted text).defines d) d in
        let right = none_of faults text.definitions k d (both_empty (cycle_faults (on_cycles uses) places) (flat_map faults text.definitions) (definitions_right text e)).1 there in
        let here : 0 + k ≡ k = omega arith in
        let hole = ap (λ m. get_or (noted text).holes m true) here ∙ each_has_a_meaning text order ordered single e k (slice_get_within text.definitions k d there) in
        let body = slice_get-map body_of text.definitions k ∙ ap (option_map body_of) there in
        ap (λ h. body_with known h d) hole
        ∙ ap Some (holed_is_as_written arities good (get_or arities k 0) known (stand_of d.word) (record { counts = meant.counts; kinds = meant.kinds }) d.body (written.each k d.body body) right)

pub lines_are_put_in : LinesArePutIn
lines_are_put_in text arities good order numbers ordered single meant written e stand t is none =
    let ds = text.definitions in
    let trees = map body_of ds in
    let known = known_in_line (noted text) in
    let uses : map uses_in trees ≡ all_uses ds = map_twice uses_in body_of ds in
    let count : length trees ≡ length ds = length-map ds body_of in
    let counts : length trees ≡ length (all_uses ds) = count ∙ sym (length-map ds (λ (d : ResolvedDefinition). uses_in d.body)) in
    let all : bodies text ≡ map (λ (body : ResolvedTree). Some body) trees =
    bodies_are_as_written text arities good order ordered single meant written e ∙ sym (map_twice (λ (body : ResolvedTree). Some body) body_of ds) in
    let stays : holed known stand t ≡ t = holed_is_as_written arities good 0 known stand meant t is none in
    let whole = everything_is_put_in arities good trees order numbers written
    (subst (λ us. IsOrderOf us (length trees) order) (sym uses) (subst (λ n. IsOrderOf (all_uses ds) n order) (sym count) ordered))
    (λ k below. (λ i. reaches (uses i) (counts i) k k) ∙ none_goes_round text e k (omega (arith, below, count))) t is in
    (λ i. is_put_in good (put_in (all i) (stays i))) ∙ whole
