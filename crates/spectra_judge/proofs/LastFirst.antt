-- The place of the first token of a chain: the last operator tells it, or the head where there is none.
use Rattle.std.proofs.Common.{◌≡◌, ◌-◌, suc, List, [], ◌∷◌, length, map, slice_get, Some, None, refl, sym, ap, ◌∙◌, arith}
use Rattle.spectra_resolved.specs.declared.spot.Spot.{Spot}
use Rattle.spectra_resolved.specs.declared.tree.Link.{Link}
use Rattle.spectra_resolved.specs.Resolved.{ResolvedTree}
use Rattle.spectra_resolved.specs.Chained.{LinkData, joined, chained}
use Rattle.spectra_judge.specs.Judged.{first_of}
use Rattle.spectra_resolved.specs.Views.{link_data}

abbrev last_first : Spot → List LinkData → Spot
last_first first [] = first
last_first first (l ∷ ls) = last_first l.first ls

first_of_chain : (t : ResolvedTree) (ls : List LinkData) → first_of (chained t ls) ≡ last_first (first_of t) ls
first_of_chain t [] = refl
first_of_chain t (l ∷ ls) = first_of_chain (joined t l) ls

last_is : (d : Spot) (ls : List Link) (l : Link) → Some l ≡ slice_get ls (length ls - 1) → last_first d (map link_data ls) ≡ (link_data l).first
last_is d [] l is = absurd (no_some l is)
  where
    no_some : (l : Link) → Some l ≡ None → ⊥
    no_some l e = cc
last_is d (x ∷ []) l is = ap (λ (y : Link). (link_data y).first) (same x l is)
  where
    same : (x l : Link) → Some l ≡ Some x → x ≡ l
    same x l e = cc
last_is d (x ∷ y ∷ ls) l is =
    let e : length (x ∷ y ∷ ls) - 1 ≡ suc (length (y ∷ ls) - 1) = omega arith in
    last_is (link_data x).first (y ∷ ls) l (is ∙ ap (slice_get (x ∷ y ∷ ls)) e)

-- the last operator's
pub from_last : (t : ResolvedTree) (ls : List Link) (l : Link) → Some l ≡ slice_get ls (length ls - 1) → l.first ≡ first_of (chained t (map link_data ls))
from_last t ls l is = sym (last_is (first_of t) ls l is) ∙ sym (first_of_chain t (map link_data ls))

-- the head's
pub from_head : (t : ResolvedTree) (ls : List Link) → None ≡ slice_get ls (length ls - 1) → first_of t ≡ first_of (chained t (map link_data ls))
from_head t [] is = refl
from_head t (x ∷ ls) is = absurd (there x ls is)
  where
    some_not : (x : Link) → None ≡ Some x → ⊥
    some_not x e = cc

    there : (x : Link) (ls : List Link) → None ≡ slice_get (x ∷ ls) (length (x ∷ ls) - 1) → ⊥
    there x [] is = some_not x is
    there x (y ∷ ls) is = let e : length (x ∷ y ∷ ls) - 1 ≡ suc (length (y ∷ ls) - 1) = omega arith in there y ls (is ∙ ap (slice_get (x ∷ y ∷ ls)) e)
