-- Operators in text order, each of which has all before it as its first operand: their numbers, their nodes, which have a
-- quantifier, and what they are written out.
use Rattle.std.proofs.Common.{◌≡◌, ℕ, ◌+◌, ◌<◌, ℤ, Bool, true, false, ◌||◌, List, [], ◌∷◌, length, map, drop, get_or, Option, refl, sym, ap, ◌∙◌, arith}
use Rattle.spectra_resolved.specs.declared.tree.Link.{Link}
use Rattle.spectra_resolved.specs.Resolved.{ResolvedTree}
use Rattle.spectra_resolved.specs.Chained.{LinkData, joined, chained}
use Rattle.spectra_resolved.specs.Views.{link_data}
use Rattle.spectra_copies.specs.Numbers.{joined_number, number_in}
use Rattle.spectra_copies.specs.ChainNumbers.{chain_number}
use Rattle.spectra_copies.specs.Nodes.{tree_nodes}
use Rattle.spectra_copies.specs.Links.{link_nodes}
use Rattle.spectra_copies.specs.Ranges.{Bound}
use Rattle.spectra_copies.specs.Copies.{has_quantifier, written}
use Rattle.spectra_copies.specs.QuantifiedLinks.{links_quantified, links_out}
use Rattle.spectra_copies.proofs.Made.{left_at}

pub chain_number_is : (numbers : List (Option ℤ)) (t : ResolvedTree) (ls : List LinkData) → chain_number numbers (number_in numbers t) ls ≡ number_in numbers (chained t ls)
chain_number_is numbers t [] = refl
chain_number_is numbers t (l ∷ ls) = chain_number_is numbers (joined t l) ls

pub link_left : (numbers : List (Option ℤ)) (first : Option ℤ) (ls : List Link) (k : ℕ) (l : Link) → k < length ls → l ≡ get_or ls k l
    → chain_number numbers (joined_number (link_data l).word first (number_in numbers (link_data l).second)) (map link_data (drop (k + 1) ls)) ≡ chain_number numbers first (map link_data (drop k ls))
link_left numbers first ls k l below is = sym (ap (λ xs. chain_number numbers first (map link_data xs)) (left_at ls k l below is))

-- each operator is a node
pub tree_nodes-chained : (t : ResolvedTree) (ls : List LinkData) → tree_nodes (chained t ls) ≡ tree_nodes t + link_nodes ls
tree_nodes-chained t [] = omega arith
tree_nodes-chained t (l ∷ ls) = let rest = tree_nodes-chained (joined t l) ls in omega (arith, rest)

or_assoc : (a b c : Bool) → ((a || b) || c) ≡ (a || (b || c))
or_assoc true b c = refl
or_assoc false b c = refl

or_false : (a : Bool) → a ≡ (a || false)
or_false true = refl
or_false false = refl

pub chained_quantified : (t : ResolvedTree) (ls : List LinkData) → has_quantifier (chained t ls) ≡ (has_quantifier t || links_quantified ls)
chained_quantified t [] = or_false (has_quantifier t)
chained_quantified t (l ∷ ls) = chained_quantified (joined t l) ls ∙ or_assoc (has_quantifier t) (has_quantifier l.second) (links_quantified ls)

pub chained_out : (c : List (Option ℤ)) (q : List Bound) (t : ResolvedTree) (ls : List LinkData) → written c q (chained t ls) ≡ chained (written c q t) (links_out c q ls)
chained_out c q t [] = refl
chained_out c q t (l ∷ ls) = chained_out c q (joined t l) ls
