-- Lists of JSON that are written one by one.
use Rattle.std.proofs.Common.{◌≡◌, ℕ, ◌+◌, ◌≤◌, List, [], ◌∷◌, ◌++◌, map, take, length, Some, All, Vec, Global, sym, ap, ap₂, subst, ◌∙◌, take_all}
use Rattle.std.proofs.lemmas.List.{take_more, map-append}
use Rattle.std.proofs.lemmas.List.Elements.{All-push}
use Rattle.std.proofs.lemmas.Option.{slice_get_within, get_or_from_slice_get}
use Rattle.std.specs.Prelude.{slice_get}
use Rattle.serde_json.specs.Data.{Data, array}
use Rattle.serde_json.specs.View.{view, items_of}
use Rattle.serde_json.specs.declared.value.Value.{Value, Array}
use Rattle.serde_json.proofs.Views.{view-Array}

-- the first of a list, with one more
pub take_next : {X : Type 0} (xs : List X) (i : ℕ) (x : X) → slice_get xs i ≡ Some x → take (i + 1) xs ≡ take i xs ++ x ∷ []
take_next xs i x here = take_more xs i x (slice_get_within xs i x here) ∙ ap (λ y. take i xs ++ y ∷ []) (get_or_from_slice_get xs i x x here)

module _ {X : Type 0} (json : X → Data) where
  pub written-more : (vs : List Value) (v : Value) (xs : List X) (i : ℕ) (x : X) → slice_get xs i ≡ Some x → map view vs ≡ map json (take i xs) → view v ≡ json x → map view (vs ++ v ∷ []) ≡ map json (take (i + 1) xs)
  written-more vs v xs i x here so_far one =
      map-append view vs (v ∷ []) ∙ ap₂ (λ ds d. ds ++ d ∷ []) so_far one ∙ sym (ap (map json) (take_next xs i x here) ∙ map-append json (take i xs) (x ∷ []))

  pub written-all : (list : Vec Value Global) (xs : List X) (i : ℕ) → length xs ≤ i → map view list.items ≡ map json (take i xs) → view (Array list) ≡ array (items_of (map json xs))
  written-all list xs i past so_far = view-Array list ∙ ap (λ ds. array (items_of ds)) (so_far ∙ ap (map json) (take_all i xs past))

pub small-more : {X : Type 0} (P : X → Type 0) (xs : List X) (i : ℕ) (x : X) → slice_get xs i ≡ Some x → All P (take i xs) → P x → All P (take (i + 1) xs)
small-more P xs i x here so_far one = subst (All P) (sym (take_next xs i x here)) (All-push P (take i xs) x so_far one)
