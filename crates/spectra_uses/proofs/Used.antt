-- What chains use, and what is left to use in a loop.
use Rattle.std.proofs.Common.{◌≡◌, ℕ, ◌+◌, ◌<◌, List, [], ◌∷◌, ◌++◌, length, map, drop, get_or, sym, ap, ◌∙◌, append_assoc, append-nil}
use Rattle.spectra_resolved.specs.declared.tree.Resolved.{Resolved}
use Rattle.spectra_resolved.specs.declared.tree.Link.{Link}
use Rattle.spectra_resolved.specs.Resolved.{ResolvedTree}
use Rattle.spectra_resolved.specs.Chained.{LinkData, trees, joined, chained}
use Rattle.spectra_resolved.specs.Views.{resolved_data, link_data}
use Rattle.spectra_uses.specs.Uses.{uses_in, each_uses}
use Rattle.spectra_uses.specs.Links.{link_uses}
use Rattle.spectra_uses.proofs.Lists.{mapped_left}

pub chained_uses : (t : ResolvedTree) (ls : List LinkData) → uses_in (chained t ls) ≡ uses_in t ++ link_uses ls
chained_uses t [] = sym (append-nil (uses_in t))
chained_uses t (l ∷ ls) = chained_uses (joined t l) ls ∙ append_assoc (uses_in t) (uses_in l.second) (link_uses ls)

pub each_left : (old : List ℕ) (ts : List Resolved) (k : ℕ) (t : Resolved) → k < length ts → t ≡ get_or ts k t
    → (old ++ uses_in (resolved_data t)) ++ each_uses (trees (map resolved_data (drop (k + 1) ts))) ≡ old ++ each_uses (trees (map resolved_data (drop k ts)))
each_left old ts k t below is =
    append_assoc old (uses_in (resolved_data t)) (each_uses (trees (map resolved_data (drop (k + 1) ts))))
    ∙ sym (ap (λ xs. old ++ each_uses (trees xs)) (mapped_left resolved_data ts k t below is))

pub link_left : (old : List ℕ) (ls : List Link) (k : ℕ) (l : Link) → k < length ls → l ≡ get_or ls k l
    → (old ++ uses_in (resolved_data l.second)) ++ link_uses (map link_data (drop (k + 1) ls)) ≡ old ++ link_uses (map link_data (drop k ls))
link_left old ls k l below is =
    append_assoc old (uses_in (resolved_data l.second)) (link_uses (map link_data (drop (k + 1) ls)))
    ∙ sym (ap (λ xs. old ++ link_uses xs) (mapped_left link_data ls k l below is))
