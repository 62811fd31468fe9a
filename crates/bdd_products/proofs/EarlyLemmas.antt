-- The early way gives what the plain way does.
use Rattle.std.proofs.Common.{◌≡◌, ℕ, Bool, true, false, ◌&&◌, Result, Ok, Err, List, [], refl, sym, ◌∙◌, ap, subst, arith, slice_index, Option, Some, None}
use Rattle.spec_model.specs.Diagrams.{Function, exists_over, and_exists_over}
use Rattle.bdd_store.specs.State.{IsRoot, SameRoots, AddsRoot}
use Rattle.bdd_ops.specs.Functions.{joined, join_of}
use Rattle.bdd_bits.specs.Contents.{Contents, function_at}
use Rattle.bdd_bits.specs.Calls.{KeepsRoots, SameNodes}
use Rattle.regions.specs.declared.types.Halt.{Halt}
use Rattle.regions.specs.declared.types.Halt.TheVariants as halt
use Rattle.bit_compile.specs.Making.{Makes}
use Rattle.bit_compile.proofs.MakingLemmas.{is_root, root_added, not_budget, given_back}
use Rattle.bdd_sets.specs.declared.moves.Members.{Members}
use Rattle.bdd_sets.specs.declared.moves.NextLevels.{NextLevels}
use Rattle.bdd_sets.specs.Members.{MoveFunctions, AreRoots, AreMembers, all_true, functions_at, move_functions, reply_of, avoiding, lists_at}
use Rattle.bdd_sets.proofs.SpentLemmas.{function_kept, functions_kept}
use Rattle.bdd_sets.proofs.ListLemmas.{times_here}
use Rattle.bdd_products.specs.declared.early.Early.{Early}
use Rattle.bdd_products.specs.declared.product.Product.{Product}
use Rattle.bdd_products.specs.Products.{IsProductOf, IsProduct, MakesProduct, levels_of, AreOfMembers, both_lists}
use Rattle.bdd_products.specs.Early.{FitsEarly, AreLinesOf, AreRootsOfEarly}
use Rattle.bdd_products.proofs.ProductLemmas.{and_assoc}

-- a target joined with the legal outputs and the update at once
pub replies_at_once : (m : MoveFunctions) (reply : List ℕ) (f : Function) → and_exists_over reply f (joined (join_of true) m.outputs m.update) ≡ reply_of m reply f
replies_at_once m reply f = ap (exists_over reply) (λ i s. sym (and_assoc (f s) (m.outputs s) (m.update s)) i)

-- ---- products of kept lines

pub product_stays : (old new : Contents) (whole : Function) (out : List ℕ) (lines : List ℕ) (outs : List (List ℕ)) → KeepsRoots old new → AreRoots old lines → IsProductOf whole out (functions_at old lines) outs → IsProductOf whole out (functions_at new lines) outs
product_stays old new whole out lines outs keeps are is = subst (λ (fs : List Function). IsProductOf whole out fs outs) (sym (functions_kept old new keeps lines are)) is

pub members_kept : (old new : Contents) (m : Members) → KeepsRoots old new → AreMembers old m → move_functions new m ≡ move_functions old m
members_kept old new m keeps are =
    let inputs = functions_kept old new keeps m.inputs.items are.inputs in
    let outputs = functions_kept old new keeps m.outputs.items are.outputs in
    let update = functions_kept old new keeps m.update.items are.update in
    λ i. record { inputs = all_true (inputs i); outputs = all_true (outputs i); update = all_true (update i) }

pub early_stays : (old new : Contents) (m : MoveFunctions) (levels : NextLevels) (e : Option Early) → KeepsRoots old new → AreRootsOfEarly old e → FitsEarly m levels old e → FitsEarly m levels new e
early_stays old new m levels None keeps are fits = tt
early_stays old new m levels (Some e) keeps are fits =
    record {
      replies = product_stays old new (joined (join_of true) m.outputs m.update) levels.reply.items e.replies.lines.items (levels_of e.replies.outs.items) keeps are.replies fits.replies;
      inputs = product_stays old new m.inputs levels.all.items e.inputs.lines.items (levels_of e.inputs.outs.items) keeps are.inputs fits.inputs;
    }

pub roots_added : (old new : Contents) (e : Option Early) → ((n : ℕ) → IsRoot old.state n → IsRoot new.state n) → AreRootsOfEarly old e → AreRootsOfEarly new e
roots_added old new None stays are = tt
roots_added old new (Some e) stays are = record { replies = λ i below. stays _ (are.replies i below); inputs = λ i below. stays _ (are.inputs i below) }

-- ---- the early way refused

-- a root that was made stays one
pub made_still : (base old new : Contents) (a : ℕ) (f : Function) → Makes base old (Ok a) f → SameRoots old.state new.state → KeepsRoots old new → Makes base new (Ok a) f
made_still base old new a f makes roots keeps =
    record {
      meaning = function_kept old new keeps a (is_root base old a f makes) ∙ makes.meaning;
      added = λ n. roots n ∙ makes.added n;
      refused = tt;
      keeps = record {
        levels = keeps.levels ∙ makes.keeps.levels;
        budget = keeps.budget ∙ makes.keeps.budget;
        order = keeps.order ∙ makes.keeps.order;
        meaning = λ n root. keeps.meaning n (root_added base old a f makes n root) ∙ makes.keeps.meaning n root;
      };
      full = λ e. not_budget e;
    }

-- the early way's result in the place of the target
pub early_made : (base old mid new : Contents) (target : ℕ) (f : Function) (m : Members) (levels : NextLevels) (r : Result ℕ Halt) → Makes base old (Ok target) f → AreMembers base m → Makes old mid r (avoiding (move_functions old m) levels.reply.items levels.all.items (function_at old target)) →
    AddsRoot new.state mid.state target → SameNodes mid new → Makes base new r (avoiding (move_functions base m) levels.reply.items levels.all.items f)
early_made base old mid new target f m levels r first are makes back nodes =
    let kept = members_kept base old m first.keeps are in
    let here = subst (λ (k : MoveFunctions). Makes old mid r (avoiding k levels.reply.items levels.all.items (function_at old target))) kept makes in
    let there = subst (λ (k : Function). Makes old mid r (avoiding (move_functions base m) levels.reply.items levels.all.items k)) first.meaning here in
    given_back base old mid new target f (avoiding (move_functions base m) levels.reply.items levels.all.items f) first back nodes r there

-- products fit after a root was made
pub fits_after : (old mid : Contents) (b : ℕ) (g : Function) (m : Members) (levels : NextLevels) (e : Option Early) → Makes old mid (Ok b) g → AreMembers old m → AreRootsOfEarly old e → FitsEarly (move_functions old m) levels old e → FitsEarly (move_functions mid m) levels mid e
fits_after old mid b g m levels e makes are kept fits =
    subst (λ (k : MoveFunctions). FitsEarly k levels mid e) (sym (members_kept old mid m makes.keeps are)) (early_stays old mid (move_functions old m) levels e makes.keeps kept fits)

-- the target is still there where the early way found the store full
pub still_target : (base old mid : Contents) (target : ℕ) (f g : Function) → Makes base old (Ok target) f → Makes old mid (Err halt.Budget) g → Makes base mid (Ok target) f
still_target base old mid target f g first refused = made_still base old mid target f first refused.refused refused.keeps

and_true : (a : Bool) → (a && true) ≡ a
and_true true = refl
and_true false = refl

-- the products of a game's lines, made one after the other
pub early_fits_made : (old mid new : Contents) (m : Members) (levels : NextLevels) (replies inputs : Product) (grouped : Bool) (os us is none reply all : List ℕ) → os ≡ m.outputs.items → us ≡ m.update.items → reply ≡ levels.reply.items → is ≡ m.inputs.items → none ≡ [] → all ≡ levels.all.items → AreMembers old m →
    MakesProduct old mid (Ok replies) (both_lists (functions_at old os) (functions_at old us)) reply →
    MakesProduct mid new (Ok inputs) (both_lists (functions_at mid is) (functions_at mid none)) all →
    FitsEarly (move_functions old m) levels new (Some (record { replies = replies; inputs = inputs; grouped = grouped }))
early_fits_made old mid new m levels replies inputs grouped os us is none reply all os_is us_is reply_is is_is none_is all_is are first second =
    let legal : Function = joined (join_of true) (all_true (functions_at old m.outputs.items)) (all_true (functions_at old m.update.items)) in
    let first' : IsProduct legal levels.reply.items mid replies = (rw (os_is, us_is, reply_is) at first.is_product) in
    let second' : IsProduct (joined (join_of true) (all_true (functions_at mid m.inputs.items)) (all_true (functions_at mid []))) levels.all.items new inputs = (rw (is_is, none_is, all_is) at second.is_product) in
    let lines : AreRoots mid replies.lines.items = (λ i below. (let here = times_here replies.lines.items i below in let added = first.added (slice_index replies.lines.items i) in omega (arith, here, added))) in
    let kept : functions_at mid m.inputs.items ≡ functions_at old m.inputs.items = functions_kept old mid first.keeps m.inputs.items are.inputs in
    let whole : joined (join_of true) (all_true (functions_at mid m.inputs.items)) (all_true (functions_at mid [])) ≡ all_true (functions_at old m.inputs.items) = ((λ i s. and_true (all_true (functions_at mid m.inputs.items) s) i) ∙ ap all_true kept) in
    record {
      replies = product_stays mid new legal levels.reply.items replies.lines.items (levels_of replies.outs.items) second.keeps lines first';
      inputs = subst (λ (k : Function). IsProduct k levels.all.items new inputs) whole second';
    }

pub early_lines_made : (old mid new : Contents) (m : Members) (replies inputs : Product) (grouped : Bool) (os us is none reply all : List ℕ) → os ≡ m.outputs.items → us ≡ m.update.items → is ≡ m.inputs.items → none ≡ [] → AreMembers old m →
    MakesProduct old mid (Ok replies) (both_lists (functions_at old os) (functions_at old us)) reply → AreOfMembers (functions_at old os) (functions_at old us) (functions_at mid replies.lines.items) →
    MakesProduct mid new (Ok inputs) (both_lists (functions_at mid is) (functions_at mid none)) all → AreOfMembers (functions_at mid is) (functions_at mid none) (functions_at new inputs.lines.items) →
    AreLinesOf (lists_at old m) new (Some (record { replies = replies; inputs = inputs; grouped = grouped }))
early_lines_made old mid new m replies inputs grouped os us is none reply all os_is us_is is_is none_is are first of_first second of_second =
    let lines : AreRoots mid replies.lines.items = (λ i below. (let here = times_here replies.lines.items i below in let added = first.added (slice_index replies.lines.items i) in omega (arith, here, added))) in
    let first' : AreOfMembers (functions_at old m.outputs.items) (functions_at old m.update.items) (functions_at mid replies.lines.items) = (rw (os_is, us_is) at of_first) in
    let second' : AreOfMembers (functions_at mid m.inputs.items) [] (functions_at new inputs.lines.items) = (rw (is_is, none_is) at of_second) in (
      subst (λ (fs : List Function). AreOfMembers (functions_at old m.outputs.items) (functions_at old m.update.items) fs) (sym (functions_kept mid new second.keeps replies.lines.items lines)) first',
      subst (λ (fs : List Function). AreOfMembers fs [] (functions_at new inputs.lines.items)) (functions_kept old mid first.keeps m.inputs.items are.inputs) second',
    )
