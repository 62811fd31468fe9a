use Rattle.std.proofs.Common.{◌≡◌, ◌+◌, ◌*◌, ◌≤◌, ℤ, [], ◌∷◌, ◌++◌, max, drop, map}
use denote.Param.Weighed.{most}
use Rattle.spectra_resolved.specs.declared.tree.Resolved.{size-Resolved}
use Rattle.spectra_resolved.specs.declared.tree.Shape.{size-Shape}
use Rattle.spectra_resolved.specs.declared.tree.Link.{size-Link}
use Rattle.spectra_resolved.specs.Resolved.{listed}
use Rattle.spectra_resolved.specs.Chained.{trees}
use Rattle.spectra_resolved.specs.Views.{resolved_data, link_data}
use Rattle.spectra_copies.specs.Nodes.{each_nodes}
use Rattle.spectra_copies.specs.Links.{link_nodes}
use Rattle.spectra_copies.specs.Ranges.{numbers_between}
use Rattle.spectra_copies.specs.Copies.{bound_with, each_out, copies_for}
use Rattle.spectra_copies.specs.QuantifiedLinks.{links_out}
use Rattle.spectra_copies.proofs.writing.+writing.Given as goal

abbrev pub decreases-write : goal.decreases-write
decreases-write l = 16 * size-Resolved l.t.now

abbrev pub decreases-write_chain : goal.decreases-write_chain
decreases-write_chain l = 16 * max (size-Resolved l.head.now) (most (λ k. size-Link k) l.links.now) + 3

abbrev pub decreases-write_links : goal.decreases-write_links
decreases-write_links l = 16 * most (λ k. size-Link k) l.links.now + 2

abbrev pub decreases-write_shape : goal.decreases-write_shape
decreases-write_shape l = 16 * size-Shape l.shape.now + 7

abbrev pub decreases-write_one : goal.decreases-write_one
decreases-write_one l = 16 * size-Resolved l.t.now + 1

abbrev pub decreases-write_several : goal.decreases-write_several
decreases-write_several l = 16 * most (λ t. size-Resolved t) l.ts.now + 2

abbrev pub decreases-write_predicate : goal.decreases-write_predicate
decreases-write_predicate l = 16 * most (λ t. size-Resolved t) l.ts.now + 2

abbrev pub decreases-write_misuse : goal.decreases-write_misuse
decreases-write_misuse l = 16 * most (λ t. size-Resolved t) l.ts.now + 2

abbrev pub decreases-write_each : goal.decreases-write_each
decreases-write_each l = 16 * most (λ t. size-Resolved t) l.ts.now + 1

abbrev pub decreases-write_quantified : goal.decreases-write_quantified
decreases-write_quantified l =
    let q = l.quantifier.now in
    16 * max (size-Resolved q.low.now) (max (size-Resolved q.high.now) (most (λ t. size-Resolved t) q.copies.now)) + 5

abbrev pub decreases-write_copies : goal.decreases-write_copies
decreases-write_copies l = 16 * most (λ t. size-Resolved t) l.quantifier.now.copies.now + 4

abbrev pub decreases-write_between : goal.decreases-write_between
decreases-write_between l = 16 * most (λ t. size-Resolved t) l.quantifier.now.copies.now + 3

abbrev pub decreases-write_copy : goal.decreases-write_copy
decreases-write_copy l = 16 * most (λ t. size-Resolved t) l.quantifier.now.copies.now + 2

-- The quantifiers around are those of the first. Those so far and those of what is left are all. What is left of the room is too
-- small for what is left only if the whole room is too small for all.
abbrev pub invariant-write_links-loop-link : goal.invariant-write_links-loop-link
invariant-write_links-loop-link l =
    let c = l.by.numbers.now in
    let q = l.fn.bounds.items in
    record {
      bounds : l.bounds.items ≡ q;
      same : map link_data l.all.items ++ links_out c q (map link_data (drop l.link-index l.links)) ≡ map link_data l.fn.all.items ++ links_out c q (map link_data l.links);
      small : l.left ≤ l.room;
      room : l.left + link_nodes (links_out c q (map link_data l.links)) ≡ l.room + link_nodes (links_out c q (map link_data (drop l.link-index l.links)));
    }

abbrev pub invariant-write_each-loop-t : goal.invariant-write_each-loop-t
invariant-write_each-loop-t l =
    let c = l.by.numbers.now in
    let q = l.fn.bounds.items in
    record {
      bounds : l.bounds.items ≡ q;
      same : map resolved_data l.all.items ++ listed (each_out c q (trees (map resolved_data (drop l.t-index l.ts)))) ≡ map resolved_data l.fn.all.items ++ listed (each_out c q (trees (map resolved_data l.ts)));
      small : l.left ≤ l.room;
      room : l.left + each_nodes (each_out c q (trees (map resolved_data l.ts))) ≡ l.room + each_nodes (each_out c q (trees (map resolved_data (drop l.t-index l.ts))));
    }

-- the same of the copies for the numbers that are left
abbrev pub invariant-write_between-loop-number : goal.invariant-write_between-loop-number
invariant-write_between-loop-number l =
    let q = l.fn.bounds.items in
    let copy = λ (z : ℤ). each_out l.by.numbers.now (q ++ bound_with l.quantifier.variable z ∷ []) (trees (map resolved_data l.quantifier.copies.now)) in
    record {
      bounds : l.bounds.items ≡ q;
      same : map resolved_data l.all.items ++ listed (copies_for copy (numbers_between l.number l.high)) ≡ map resolved_data l.fn.all.items ++ listed (copies_for copy (numbers_between l.low l.high));
      small : l.left ≤ l.room;
      room : l.left + each_nodes (copies_for copy (numbers_between l.low l.high)) ≡ l.room + each_nodes (copies_for copy (numbers_between l.number l.high));
    }
