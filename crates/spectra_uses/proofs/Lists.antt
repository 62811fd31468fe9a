-- What is left of a list in a loop over it.
use Rattle.std.proofs.Common.{◌≡◌, ℕ, suc, ◌+◌, ◌<◌, List, ◌∷◌, length, map, drop, get_or, refl, sym, ap, ◌∙◌, add-one}
use Rattle.std.proofs.Math.Seq.{drop-cons}
use Rattle.spectra_resolved.specs.Resolved.{ResolvedTrees, listed}
use Rattle.spectra_resolved.specs.Chained.{trees}

-- what is left is the first one and all behind it
pub mapped_left : {X Y : Type 0} (f : X → Y) (xs : List X) (k : ℕ) (x : X) → k < length xs → x ≡ get_or xs k x → map f (drop k xs) ≡ f x ∷ map f (drop (k + 1) xs)
mapped_left f xs k x below is =
    ap (map f) (drop-cons xs k x below)
    ∙ ap (λ y. f y ∷ map f (drop (suc k) xs)) (sym is)
    ∙ rw add-one refl

pub trees_listed : (ts : ResolvedTrees) → trees (listed ts) ≡ ts
trees_listed ResolvedTrees.none = refl
trees_listed (ResolvedTrees.one_more t ts) = ap (ResolvedTrees.one_more t) (trees_listed ts)
