-- What is known in the bodies of definitions, and what is put in for them, by their numbers.
use Rattle.std.proofs.Common.{◌≡◌, ℕ, zero, ◌+◌, ◌<◌, true, false, List, [], ◌∷◌, ◌++◌, Some, None, Option, length, take, get_or, sym, ap, ◌∙◌, arith}
use Rattle.std.specs.Prelude.{slice_get, option_map}
use Rattle.std.specs.List.{enumerate_from}
use Rattle.std.proofs.lemmas.Option.{slice_get_within, get_or_from_slice_get}
use Rattle.std.proofs.lemmas.List.{length-map, get_or-map, take_more, take_all, map-append}
use Rattle.std.proofs.lemmas.List.FromFn.{length-enumerate_from, get_or-enumerate_from}
use Rattle.spectra_resolved.specs.declared.tree.Resolved.{Resolved}
use Rattle.spectra_resolved.specs.Views.{resolved_data}
use Rattle.spectra_resolved.specs.Texts.{ResolvedDefinition, ResolvedText}
use Rattle.spectra_holes.specs.Holed.{holed}
use Rattle.spectra_elaboration.specs.PuttingViews.{bodies_data}
use Rattle.spectra_notes.specs.TypeKinds.{type_kinds, known_by}
use Rattle.spectra_notes.specs.Notes.{Noted, stand_of, noted, known_inside}
use Rattle.spectra_notes.specs.Bodies.{known_in_body}
use Rattle.spectra_notes.proofs.Noting.{parameters_at}
use Rattle.spectra_bodies.specs.PutIn.{body_with, numbered_body, bodies}

-- what is known in a body by its number is what is known inside of its definition
pub inside : (n : Noted) (text : ResolvedText) (k : ℕ) (d : ResolvedDefinition) → n ≡ noted text → slice_get text.definitions k ≡ Some d
    → known_in_body n k ≡ known_inside text (noted text).defines d
inside n text k d is there = ap (λ m. known_in_body m k) is ∙ ap (λ ks. known_by (type_kinds text) (noted text).defines ks []) (parameters_at text k d there)

module _ (text : ResolvedText) where
  pub bodies-length : length (bodies text) ≡ length text.definitions
  bodies-length = length-map (enumerate_from 0 text.definitions) (numbered_body text) ∙ length-enumerate_from 0 text.definitions

  module _ (k : ℕ) (d : ResolvedDefinition) (there : slice_get text.definitions k ≡ Some d) where
    body_at : get_or (bodies text) k None ≡ numbered_body text (k, d)
    body_at =
        let lt = slice_get_within text.definitions k d there in
        get_or-map (numbered_body text) (enumerate_from 0 text.definitions) k (0, d) None (let long = length-enumerate_from 0 text.definitions in omega arith)
        ∙ ap (numbered_body text) (get_or-enumerate_from 0 text.definitions k (0, d) lt ∙ (λ i. (zero_more i, get_or_from_slice_get text.definitions k d d there i)))
      where
        zero_more : zero + k ≡ k
        zero_more = omega arith

    -- a definition without a meaning has no body, and any other one its own
    pub no_body : get_or (noted text).holes k true ≡ true → None ≡ get_or (bodies text) k None
    no_body hole = sym (body_at ∙ ap (λ b. body_with (known_inside text (noted text).defines d) b d) hole)

    pub some_body : get_or (noted text).holes k true ≡ false → Some (holed (known_inside text (noted text).defines d) (stand_of d.word) d.body) ≡ get_or (bodies text) k None
    some_body hole = sym (body_at ∙ ap (λ b. body_with (known_inside text (noted text).defines d) b d) hole)

  -- one more body in a loop
  pub one_more_body : (found : List (Option Resolved)) (k : ℕ) (body : Option Resolved) → k < length text.definitions → bodies_data found ≡ take k (bodies text)
      → option_map resolved_data body ≡ get_or (bodies text) k None → bodies_data (found ++ body ∷ []) ≡ take (k + 1) (bodies text)
  one_more_body found k body below so_far is =
      map-append (λ b. option_map resolved_data b) found (body ∷ [])
      ∙ (λ i. so_far i ++ is i ∷ [])
      ∙ sym (take_more (bodies text) k None (let long = bodies-length in omega arith))

  pub all_bodies : (found : List (Option Resolved)) (k : ℕ) → k ≡ length text.definitions → bodies_data found ≡ take k (bodies text) → bodies_data found ≡ bodies text
  all_bodies found k end so_far = so_far ∙ take_all k (bodies text) (let long = bodies-length in omega arith)
