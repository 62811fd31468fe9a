use Rattle.std.proofs.Common.{rules, ◌≡◌, ◌<◌, List, length, map, filter, vec_len, sym, ◌∙◌, ap, subst}
use Rattle.std.specs.List.{All}
use Rattle.spec_model.specs.declared.spec.Line.{Line}
use Rattle.spec_model.specs.Moves.{is_guarantee}
use Rattle.spec_model.specs.Views.{line_data, spec_data}
use Rattle.spec_model.specs.Cores.{guarantees_of, IsLeft, IsCore}
use Rattle.gr1_law.proofs.CoreTrials.{left_is_core}
use Rattle.solve.specs.Judged.{whole_of}
use Rattle.solve.specs.Places.{at_places, solvable}
use Rattle.solve.specs.Budgets.{MayFail}
use Rattle.solve.proofs.Budgets.{handed, tried_halt}
use Rattle.solve.proofs.LostCores.{lost_first, left_below, left_numbers}
use Rattle.solve.proofs.cores.tried_core.Goals as goal

pub core-requires-clause-size : goal.core-requires-clause-size
core-requires-clause-size c =
    let s = spec_data c.args.spec.now in
    let numbers : c.in_ok-numbers.numbers.items ≡ guarantees_of s = c.in_ok-numbers.ensures ∙ ap (λ (ls : List Line). map (λ l. l.number) (filter (λ l. is_guarantee l.role) (map line_data ls))) c.deref.ensures.value in
    let long : vec_len c.in_ok-numbers.numbers ≡ length c.in_ok-numbers.numbers.items = search rules in
    let count : c.len.result ≡ length (guarantees_of s) = c.len.ensures ∙ (long ∙ ap length numbers) in
    let is : whole_of c.in_ok-parts.parts ≡ s = c.in_ok-parts.ensures.whole in
    subst (λ u. c.len.result ≡ length (guarantees_of u)) (sym is) count

pub core-requires-clause-lost : goal.core-requires-clause-lost
core-requires-clause-lost c =
    let s = spec_data c.args.spec.now in
    let numbers : c.in_ok-numbers.numbers.items ≡ guarantees_of s = c.in_ok-numbers.ensures ∙ ap (λ (ls : List Line). map (λ l. l.number) (filter (λ l. is_guarantee l.role) (map line_data ls))) c.deref.ensures.value in
    let long : vec_len c.in_ok-numbers.numbers ≡ length c.in_ok-numbers.numbers.items = search rules in
    let count : c.len.result ≡ length (guarantees_of s) = c.len.ensures ∙ (long ∙ ap length numbers) in
    let is : whole_of c.in_ok-parts.parts ≡ s = c.in_ok-parts.ensures.whole in
    lost_first s (whole_of c.in_ok-parts.parts) is c.len.result count c.requires.lost

pub numbers_at-requires : goal.numbers_at-requires
numbers_at-requires c =
    let s = spec_data c.args.spec.now in
    let numbers : c.in_ok-numbers.numbers.items ≡ guarantees_of s = c.in_ok-numbers.ensures ∙ ap (λ (ls : List Line). map (λ l. l.number) (filter (λ l. is_guarantee l.role) (map line_data ls))) c.deref.ensures.value in
    let long : vec_len c.in_ok-numbers.numbers ≡ length c.in_ok-numbers.numbers.items = search rules in
    let count : c.len.result ≡ length (guarantees_of s) = c.len.ensures ∙ (long ∙ ap length numbers) in
    let is : whole_of c.in_ok-parts.parts ≡ s = c.in_ok-parts.ensures.whole in
    let below = left_below s (whole_of c.in_ok-parts.parts) is c.len.result count c.in_ok-places.places.items c.in_ok-places.ensures.left in
    let there : c.deref-3.result.now ≡ guarantees_of s = c.deref-3.ensures.value ∙ numbers in
    subst (λ places. All (λ place. place < length c.deref-3.result.now) places) (sym c.deref-4.ensures.value)
    (subst (λ ns. All (λ place. place < length ns) c.in_ok-places.places.items) (sym there) below)

pub returns-clause-left : goal.returns-clause-left
returns-clause-left c =
    let s = spec_data c.args.spec.now in
    let numbers : c.in_ok-numbers.numbers.items ≡ guarantees_of s = c.in_ok-numbers.ensures ∙ ap (λ (ls : List Line). map (λ l. l.number) (filter (λ l. is_guarantee l.role) (map line_data ls))) c.deref.ensures.value in
    let long : vec_len c.in_ok-numbers.numbers ≡ length c.in_ok-numbers.numbers.items = search rules in
    let count : c.len.result ≡ length (guarantees_of s) = c.len.ensures ∙ (long ∙ ap length numbers) in
    let is : whole_of c.in_ok-parts.parts ≡ s = c.in_ok-parts.ensures.whole in
    let there : c.deref-3.result.now ≡ guarantees_of s = c.deref-3.ensures.value ∙ numbers in
    let items : c.in_ok-numbers_at.field-0.items ≡ at_places (guarantees_of s) c.in_ok-places.places.items =
    c.in_ok-numbers_at.ensures ∙ (ap (λ ns. at_places ns c.deref-4.result.now) there ∙ ap (at_places (guarantees_of s)) c.deref-4.ensures.value) in
    subst (IsLeft s) (sym items) (left_numbers s (whole_of c.in_ok-parts.parts) is c.len.result count c.requires.typed c.in_ok-places.places.items c.in_ok-places.ensures.left)

pub returns-clause-core : goal.returns-clause-core
returns-clause-core c =
    let s = spec_data c.args.spec.now in
    let numbers : c.in_ok-numbers.numbers.items ≡ guarantees_of s = c.in_ok-numbers.ensures ∙ ap (λ (ls : List Line). map (λ l. l.number) (filter (λ l. is_guarantee l.role) (map line_data ls))) c.deref.ensures.value in
    let long : vec_len c.in_ok-numbers.numbers ≡ length c.in_ok-numbers.numbers.items = search rules in
    let count : c.len.result ≡ length (guarantees_of s) = c.len.ensures ∙ (long ∙ ap length numbers) in
    let is : whole_of c.in_ok-parts.parts ≡ s = c.in_ok-parts.ensures.whole in
    let there : c.deref-3.result.now ≡ guarantees_of s = c.deref-3.ensures.value ∙ numbers in
    let items : c.in_ok-numbers_at.field-0.items ≡ at_places (guarantees_of s) c.in_ok-places.places.items =
    c.in_ok-numbers_at.ensures ∙ (ap (λ ns. at_places ns c.deref-4.result.now) there ∙ ap (at_places (guarantees_of s)) c.deref-4.ensures.value) in
    let left = left_numbers s (whole_of c.in_ok-parts.parts) is c.len.result count c.requires.typed c.in_ok-places.places.items c.in_ok-places.ensures.left in
    subst (IsCore s) (sym items) (left_is_core s (solvable s c.requires.typed) _ c.requires.lost left)

pub returns-in_err-places-clause-cause : goal.returns-in_err-places-clause-cause
returns-in_err-places-clause-cause c =
    let s = spec_data c.args.spec.now in
    let numbers : c.in_ok-numbers.numbers.items ≡ guarantees_of s = c.in_ok-numbers.ensures ∙ ap (λ (ls : List Line). map (λ l. l.number) (filter (λ l. is_guarantee l.role) (map line_data ls))) c.deref.ensures.value in
    let long : vec_len c.in_ok-numbers.numbers ≡ length c.in_ok-numbers.numbers.items = search rules in
    let count : c.len.result ≡ length (guarantees_of s) = c.len.ensures ∙ (long ∙ ap length numbers) in
    handed (MayFail c.args.budget (spec_data c.args.spec.now)) c.from_residual-in_err-places.result c.in_err-places.field-0.0 c.from_residual-in_err-places.ensures.1
    (tried_halt s c.requires.typed c.args.budget c.in_ok-parts.parts _ c.in_ok-parts.ensures.whole c.in_ok-parts.ensures.budget c.len.result count c.in_err-places.field-0.0 c.in_err-places.ensures.cause)
