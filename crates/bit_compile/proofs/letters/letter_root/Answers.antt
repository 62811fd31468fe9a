use Rattle.std.proofs.Common.{◌+◌, ◌&&◌, ◌∙◌, ◌%◌, ◌==◌, List, true, ap, refl, sym, subst, drop, map, rules, inl, ◌≡◌}
use Rattle.std.specs.Bool.{beq}
use Rattle.spec_model.specs.Diagrams.{Bits, Function}
use Rattle.bdd_store.specs.State.{IsRoot}
use Rattle.bdd_ops.specs.Functions.{joined, join_of}
use Rattle.bdd_bits.specs.Contents.{function_at}
use Rattle.bit_compile.specs.declared.cases.CaseRoot.{CaseRoot}
use Rattle.bit_compile.specs.Making.{Makes}
use Rattle.bit_compile.specs.Compiled.{is_letter, is_not}
use Rattle.game_values.proofs.Lists.{map_drop}
use Rattle.bit_compile.proofs.Between.{function_stays, root_after}
use Rattle.bit_compile.proofs.Folding.{letter_step, letter_done, letter_none, finished, own, turn, all_next, past_end, refused_makes, so_far_kept, still_root}
use Rattle.bit_compile.proofs.Causes.{cause_back, cause_handed, cause_never, cause_ok}
use Rattle.bit_compile.proofs.NamedSteps.{halved_more, letter_more, letter_other, mapped_there, mapped_is}
use Rattle.bit_compile.specs.Named.{IsOfLetter}
use Rattle.bit_compile.proofs.letters.letter_root.Goals as goal

pub loop-atom-preserved : goal.loop-atom-preserved
loop-atom-preserved c =
    let first = c.args.diagrams.now in
    let l = c.loop-atom.diagrams in
    let inv = c.loop-atom.invariant in
    let x = c.atom-item.result in
    let xs = c.args.atoms.now in
    let f : CaseRoot → Function = λ z. function_at first z.root in
    let parts = all_next (λ z. IsRoot first.state z.root) xs c.loop-atom.atom-index x c.loop-atom-test.true c.atom-item.is inv.kept in
    let product = function_at l c.loop-atom.product in
    let more : Function = λ s. product s && beq (f x s) (c.loop-atom.left % 2 == 1) in
    let is = ap (λ (g : Function). (λ (s : Bits). product s && beq (g s) (c.loop-atom.left % 2 == 1))) (function_stays first l x.root inv.made.keeps parts.0) in
    let made = turn first l c.and_as-more.new.diagrams c.release.new.self c.loop-atom.product c.and_as-more.result _ more inv.made c.and_as-more.ensures.made is c.release.ensures.released c.release.ensures.nodes in
    let next = subst (λ r. Makes first c.release.new.self r more) c.in_ok-next.was made in
    let left = ap (λ (fs : List Function). joined (join_of true) product (is_letter fs c.loop-atom.left)) (sym (map_drop f xs c.loop-atom.atom-index x c.loop-atom-test.true c.atom-item.is)) ∙ inv.same in
    record {
      made = own first c.release.new.self c.in_ok-next.next more next;
      kept = parts.1;
      left_is = halved_more c.loop-atom.atom-index c.args.letter c.loop-atom.left inv.left_is;
      so_far = letter_more (map f xs) c.loop-atom.atom-index c.args.letter c.loop-atom.left product (function_at c.release.new.self c.in_ok-next.next) (f x) (mapped_there f xs c.loop-atom.atom-index c.loop-atom-test.true) (mapped_is f xs c.loop-atom.atom-index x c.atom-item.is) inv.left_is inv.so_far next.meaning;
      same = letter_step product (function_at c.release.new.self c.in_ok-next.next) (f x) (map f (drop (c.loop-atom.atom-index + 1) xs)) c.loop-atom.left _ left next.meaning;
    }

pub loop-atom-init : goal.loop-atom-init
loop-atom-init c =
    let first = c.args.diagrams.now in
    let fs = map (λ (z : CaseRoot). function_at first z.root) c.args.atoms.now in
    record {
      made = own first c.constant.new.diagrams c.in_ok-product.product (λ (s : Bits). true) c.in_ok-product.ensures.made;
      kept = c.requires;
      left_is = refl;
      so_far = c.in_ok-product.ensures.made.meaning;
      same = ap (λ (g : Function). joined (join_of true) g (is_letter fs c.args.letter)) c.in_ok-product.ensures.made.meaning;
    }

pub returns-then-left-ne0-clause-made : goal.returns-then-left-ne0-clause-made
returns-then-left-ne0-clause-made c =
    let first = c.args.diagrams.now in
    let l = c.loop-atom.diagrams in
    let f : CaseRoot → Function = λ z. function_at first z.root in
    let none = ap (map f) (past_end c.args.atoms.now c.loop-atom.atom-index c.loop-atom-test.false) in
    let is = letter_none (function_at l c.loop-atom.product) (map f (drop c.loop-atom.atom-index c.args.atoms.now)) c.loop-atom.left _ none c.if-left-ne0.true c.loop-atom.invariant.same in
    turn first l c.constant-none.new.diagrams c.release-then-left-ne0.new.self c.loop-atom.product c.constant-none.result _ _ c.loop-atom.invariant.made c.constant-none.ensures.made is c.release-then-left-ne0.ensures.released c.release-then-left-ne0.ensures.nodes

pub returns-clause-made : goal.returns-clause-made
returns-clause-made c =
    let first = c.args.diagrams.now in
    let l = c.loop-atom.diagrams in
    let f : CaseRoot → Function = λ z. function_at first z.root in
    let none = ap (map f) (past_end c.args.atoms.now c.loop-atom.atom-index c.loop-atom-test.false) in
    finished first l c.loop-atom.product _ c.loop-atom.invariant.made (letter_done (function_at l c.loop-atom.product) (map f (drop c.loop-atom.atom-index c.args.atoms.now)) c.loop-atom.left _ none c.if-left-ne0.false c.loop-atom.invariant.same)

pub and_as-more-requires-clause-product_kept : goal.and_as-more-requires-clause-product_kept
and_as-more-requires-clause-product_kept c = so_far_kept c.args.diagrams.now c.loop-atom.diagrams c.loop-atom.product c.loop-atom.invariant.made

pub and_as-more-requires-clause-atom_kept : goal.and_as-more-requires-clause-atom_kept
and_as-more-requires-clause-atom_kept c =
    let parts = all_next (λ z. IsRoot c.args.diagrams.now.state z.root) c.args.atoms.now c.loop-atom.atom-index c.atom-item.result c.loop-atom-test.true c.atom-item.is c.loop-atom.invariant.kept in
    still_root c.args.diagrams.now c.loop-atom.diagrams c.loop-atom.product c.atom-item.result.root c.loop-atom.invariant.made parts.0

pub release-requires : goal.release-requires
release-requires c = root_after c.loop-atom.diagrams c.and_as-more.new.diagrams c.and_as-more.result _ c.and_as-more.ensures.made c.loop-atom.product (so_far_kept c.args.diagrams.now c.loop-atom.diagrams c.loop-atom.product c.loop-atom.invariant.made)

pub returns-in_err-next-clause-made : goal.returns-in_err-next-clause-made
returns-in_err-next-clause-made c =
    let first = c.args.diagrams.now in
    let made = turn first c.loop-atom.diagrams c.and_as-more.new.diagrams c.release.new.self c.loop-atom.product c.and_as-more.result _ _ c.loop-atom.invariant.made c.and_as-more.ensures.made refl c.release.ensures.released c.release.ensures.nodes in
    refused_makes first c.release.new.self c.and_as-more.result c.from_residual-in_err-next.result c.in_err-next.field-0.0 _ _ made c.in_err-next.was (search rules)

pub returns-in_err-product-clause-cause : goal.returns-in_err-product-clause-cause
returns-in_err-product-clause-cause c =
    let first = c.args.diagrams.now in
    let named = IsOfLetter (map (λ (z : CaseRoot). function_at first z.root) c.args.atoms.now) c.args.letter in
    cause_handed first c.constant.new.diagrams c.constant.result c.from_residual.result c.in_err-product.field-0.0 named c.in_err-product.was (search rules)
    (cause_never first c.constant.new.diagrams c.constant.result named c.constant.ensures.never)

pub returns-in_err-next-clause-cause : goal.returns-in_err-next-clause-cause
returns-in_err-next-clause-cause c =
    let first = c.args.diagrams.now in
    let l = c.loop-atom.diagrams in
    let inv = c.loop-atom.invariant in
    let x = c.atom-item.result in
    let xs = c.args.atoms.now in
    let i = c.loop-atom.atom-index in
    let f : CaseRoot → Function = λ z. function_at first z.root in
    let product = function_at l c.loop-atom.product in
    let parts = all_next (λ z. IsRoot first.state z.root) xs i x c.loop-atom-test.true c.atom-item.is inv.kept in
    let named = IsOfLetter (map f xs) c.args.letter in
    let other : Function → Type 0 = λ h. h ≡ is_not (function_at l x.root) in
    let wider : (h : Function) → other h → named h = λ h is. letter_other (map f xs) i c.args.letter (function_at l x.root) (f x) h (mapped_there f xs i c.loop-atom-test.true) (mapped_is f xs i x c.atom-item.is) (function_stays first l x.root inv.made.keeps parts.0) is in
    cause_handed first c.release.new.self c.and_as-more.result c.from_residual-in_err-next.result c.in_err-next.field-0.0 named c.in_err-next.was (search rules)
    (cause_back other named wider first l c.loop-atom.product product inv.made (inl (i, inv.so_far)) c.and_as-more.new.diagrams c.release.new.self c.and_as-more.result c.release.ensures.nodes c.and_as-more.ensures.cause)

pub returns-then-left-ne0-clause-cause : goal.returns-then-left-ne0-clause-cause
returns-then-left-ne0-clause-cause c =
    let first = c.args.diagrams.now in
    cause_never first c.release-then-left-ne0.new.self c.constant-none.result (IsOfLetter (map (λ (z : CaseRoot). function_at first z.root) c.args.atoms.now) c.args.letter) c.constant-none.ensures.never

pub returns-clause-cause : goal.returns-clause-cause
returns-clause-cause c =
    let first = c.args.diagrams.now in
    cause_ok first c.loop-atom.diagrams c.loop-atom.product (IsOfLetter (map (λ (z : CaseRoot). function_at first z.root) c.args.atoms.now) c.args.letter)
