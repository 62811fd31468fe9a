-- What is left where roots are made and given back.
use Rattle.std.proofs.Common.{◌≡◌, ◌⊎◌, inl, inr, ◌++◌, ℕ, zero, suc, take, drop, ◌<◌, Vec, Result, Ok, Err, IsErrAnd, IfOk, IfErr, OnOk, List, [], ◌∷◌, length, refl, sym, ◌∙◌, ap, subst, arith}
use Rattle.std.specs.List.{Contains}
use Rattle.std.proofs.lemmas.List.Elements.{Contains-append_right, Contains-append_cases}
use Rattle.std.specs.declared.alloc.Global.{Global}
use Rattle.spec_model.specs.Diagrams.{Function}
use Rattle.bdd_store.specs.State.{SameRoots}
use Rattle.bdd_bits.specs.Contents.{Contents, function_at}
use Rattle.bdd_bits.specs.Calls.{KeepsRoots}
use Rattle.regions.specs.declared.types.Halt.{Halt}
use Rattle.regions.specs.declared.types.Halt.TheVariants as halt
use Rattle.bit_compile.specs.Making.{Makes}
use Rattle.bit_compile.proofs.MakingLemmas.{keeps_then, fails}
use Rattle.bdd_sets.specs.Members.{AreRoots, all_true, functions_at}
use Rattle.bit_compile.proofs.Filled.{contains_first, contains_later}
use Rattle.bdd_sets.specs.Lists.{MakesList}
use Rattle.bdd_sets.specs.NamedGame.{IsOfConjunction}
use Rattle.bdd_sets.proofs.CauseLemmas.{first_of_all}
use Rattle.bdd_sets.proofs.SpentLemmas.{functions_kept}
use Rattle.bdd_sets.proofs.NamedLemmas.{map_taken}
use Rattle.bdd_products.specs.declared.product.Product.{Product}
use Rattle.bdd_products.specs.Products.{AreOfMembers, MakesLines, MakesProduct, LeavesRoots}

pub keeps_itself : (c : Contents) → KeepsRoots c c
keeps_itself c = record { levels = refl; budget = refl; order = refl; meaning = λ n root. refl }

-- a result that says more
pub on_ok : {V : Type 0} (r : Result V Halt) (P Q : Type 0) → (P → Q) → OnOk r P → OnOk r Q
on_ok (Ok v) P Q more is = more is
on_ok (Err h) P Q more is = tt

abbrev pub halt_or : {V : Type 0} → Halt → Result V Halt → Halt
halt_or a (Ok v) = a
halt_or a (Err h) = h

-- a refusal for want of memory
pub no_memory_left : {V W : Type 0} (old new : Contents) (made : Result V Halt) (h : Halt) (r : Result W Halt) → (made ≡ Err halt.Budget → ⊥) → made ≡ Err h → IsErrAnd r (λ y. y ≡ h) → SameRoots old.state new.state → KeepsRoots old new → LeavesRoots old new r
no_memory_left old new made h (Ok w) never is handed roots keeps = absurd handed
no_memory_left old new made h (Err y) never is handed roots keeps =
    record {
      roots = roots;
      keeps = keeps;
      full = λ e. absurd (never (is ∙ ap (λ (k : Halt). Err k) (sym handed ∙ ap (halt_or h) e)));
    }

-- one leaves what is kept, and then another does
pub leaves_then : {V W : Type 0} (a b c : Contents) (first : Result V Halt) (second : Result W Halt) → LeavesRoots a b first → LeavesRoots b c second → LeavesRoots a c second
leaves_then a b c first second one two =
    record {
      roots = λ n. two.roots n ∙ one.roots n;
      keeps = keeps_then a b c one.keeps one.roots two.keeps;
      full = two.full;
    }

-- ---- lists of lines

some_items : (c : Contents) (roots : List ℕ) (f : Function) (fs : List Function) → functions_at c roots ≡ f ∷ fs → 0 < length roots
some_items c [] f fs e = absurd (let same = ap length e in omega (arith, same))
some_items c (r ∷ roots) f fs e = omega arith

-- a list of lines that are together the whole
pub list_lines : (old new : Contents) (r : Result (Vec ℕ Global) Halt) (gs : List Function) (whole : Function) → MakesList old new r gs → all_true gs ≡ whole → MakesLines old new r whole
list_lines old new (Ok v) gs whole list is = record { conjunction = ap all_true list.meaning ∙ is; added = list.added; refused = tt; keeps = list.keeps; full = list.full }
list_lines old new (Err h) gs whole list is = record { conjunction = tt; added = tt; refused = list.refused; keeps = list.keeps; full = list.full }

pub some_lines : (old new : Contents) (r : Result (Vec ℕ Global) Halt) (f : Function) (fs : List Function) → MakesList old new r (f ∷ fs) → IfOk r (λ roots. 0 < length roots.items)
some_lines old new (Ok v) f fs list = some_items new v.items f fs list.meaning
some_lines old new (Err h) f fs list = tt

pub members_lines : (old new : Contents) (r : Result (Vec ℕ Global) Halt) (first second gs : List Function) → MakesList old new r gs → AreOfMembers first second gs → IfOk r (λ roots. AreOfMembers first second (functions_at new roots.items))
members_lines old new (Ok v) first second gs list are = subst (λ (hs : List Function). AreOfMembers first second hs) (sym list.meaning) are
members_lines old new (Err h) first second gs list are = tt

-- each line of a product of two lists is one of the members, or the front
pub parts_members : (c : Contents) (first second : List ℕ) (n : ℕ) → AreOfMembers (functions_at c first) (functions_at c second) (all_true (functions_at c (take n first)) ∷ functions_at c (drop n first) ++ functions_at c second)
parts_members c first second n = (
  inl (inr (first_of_all c first n _ refl)),
  each (functions_at c (drop n first) ++ functions_at c second) (λ f there. elim (Contains-append_cases (functions_at c (drop n first)) (functions_at c second) f there) [
    | inl later ↦ inl (inl (subst (λ (hs : List Function). Contains hs f) (map_taken (function_at c) first n) (Contains-append_right (functions_at c (take n first)) (functions_at c (drop n first)) f later)))
    | inr other ↦ inr other
  ]),
)
  where
    each : (gs : List Function) → ((f : Function) → Contains gs f → IsOfConjunction (functions_at c first) f ⊎ Contains (functions_at c second) f) → AreOfMembers (functions_at c first) (functions_at c second) gs
    each [] is = tt
    each (g ∷ gs) is = (is g (contains_first g gs), each gs (λ f there. is f (contains_later g f gs there)))

-- refusals that are handed on
pub list_refuses : (old new : Contents) (r : Result (Vec ℕ Global) Halt) (h : Halt) (fs : List Function) (whole : Function) → IsErrAnd r (λ y. y ≡ h) → MakesList old new (Err h) fs → MakesLines old new r whole
list_refuses old new (Ok v) h fs whole handed list = absurd handed
list_refuses old new (Err y) h fs whole handed list =
    let same = subst (λ (k : Halt). MakesList old new (Err k) fs) (sym handed) list in
    record { conjunction = tt; added = tt; refused = same.refused; keeps = same.keeps; full = λ e. same.full (ap (λ (k : Halt). Err k) (ap (halt_or y) e)) }

pub root_refuses : (old new : Contents) (r : Result (Vec ℕ Global) Halt) (h : Halt) (f whole : Function) → IsErrAnd r (λ y. y ≡ h) → Makes old new (Err h) f → MakesLines old new r whole
root_refuses old new (Ok v) h f whole handed makes = absurd handed
root_refuses old new (Err y) h f whole handed makes =
    let same = subst (λ (k : Halt). Makes old new (Err k) f) (sym handed) makes in
    record { conjunction = tt; added = tt; refused = same.refused; keeps = same.keeps; full = λ e. same.full (ap (λ (k : Halt). Err k) (ap (halt_or y) e)) }

pub leaving_refuses : {V : Type 0} (old new : Contents) (r : Result (Vec ℕ Global) Halt) (h : Halt) (whole : Function) → IsErrAnd r (λ y. y ≡ h) → LeavesRoots {V = V} old new (Err h) → MakesLines old new r whole
leaving_refuses old new (Ok v) h whole handed leaves = absurd handed
leaving_refuses old new (Err y) h whole handed leaves =
    record { conjunction = tt; added = tt; refused = leaves.roots; keeps = leaves.keeps; full = λ e. leaves.full (ap (λ (k : Halt). Err k) (sym handed ∙ ap (halt_or y) e)) }

-- lines after what leaves all that is kept
pub lines_after : {V : Type 0} (old mid new : Contents) (left : Result V Halt) (r : Result (Vec ℕ Global) Halt) (whole : Function) → LeavesRoots old mid left → MakesLines mid new r whole → MakesLines old new r whole
lines_after old mid new left (Ok v) whole leaves lines =
    record { conjunction = lines.conjunction; added = λ n. (let one = leaves.roots n in let two = lines.added n in omega (arith, one, two)); refused = tt; keeps = keeps_then old mid new leaves.keeps leaves.roots lines.keeps; full = lines.full }
lines_after old mid new left (Err h) whole leaves lines =
    record { conjunction = tt; added = tt; refused = λ n. lines.refused n ∙ leaves.roots n; keeps = keeps_then old mid new leaves.keeps leaves.roots lines.keeps; full = lines.full }

pub lines_handed : (old new : Contents) (r : Result (Vec ℕ Global) Halt) (h : Halt) (f whole : Function) → IsErrAnd r (λ y. y ≡ h) → MakesLines old new (Err h) f → MakesLines old new r whole
lines_handed old new (Ok v) h f whole handed lines = absurd handed
lines_handed old new (Err y) h f whole handed lines =
    let same = subst (λ (k : Halt). MakesLines old new (Err k) f) (sym handed) lines in
    record { conjunction = tt; added = tt; refused = same.refused; keeps = same.keeps; full = λ e. same.full (ap (λ (k : Halt). Err k) (ap (halt_or y) e)) }

pub lines_refuse : (old new : Contents) (r : Result Product Halt) (h : Halt) (whole : Function) (out : List ℕ) → IsErrAnd r (λ y. y ≡ h) → MakesLines old new (Err h) whole → MakesProduct old new r whole out
lines_refuse old new (Ok p) h whole out handed lines = absurd handed
lines_refuse old new (Err y) h whole out handed lines =
    let same = subst (λ (k : Halt). MakesLines old new (Err k) whole) (sym handed) lines in
    record { is_product = tt; added = tt; refused = same.refused; keeps = same.keeps; full = λ e. same.full (ap (λ (k : Halt). Err k) (ap (halt_or y) e)) }

pub err_list : {V : Type 0} (old new : Contents) (r : Result V Halt) (h : Halt) (fs gs : List Function) → IsErrAnd r (λ y. y ≡ h) → MakesList old new (Err h) fs → IfErr r (λ y. MakesList old new (Err y) gs)
err_list old new (Ok x) h fs gs handed list = absurd handed
err_list old new (Err y) h fs gs handed list =
    let same = subst (λ (k : Halt). MakesList old new (Err k) fs) (sym handed) list in
    record { meaning = tt; added = tt; refused = same.refused; keeps = same.keeps; full = same.full }

pub err_by : {V : Type 0} (base new : Contents) (r : Result V Halt) (halt : Halt) (f g : Function) → IsErrAnd r (λ y. y ≡ halt) → Makes base new (Err halt) f → IfErr r (λ h. Makes base new (Err h) g)
err_by base new (Ok x) halt f g is makes = absurd is
err_by base new (Err y) halt f g is makes = fails base new y f g (subst (λ (h : Halt). Makes base new (Err h) f) (sym is) makes)

-- roots from some place on
pub back_roots : (c : Contents) (ms : List ℕ) (i : ℕ) → AreRoots c ms → AreRoots c (drop i ms)
back_roots c [] zero are = are
back_roots c [] (suc i) are = are
back_roots c (m ∷ ms) zero are = are
back_roots c (m ∷ ms) (suc i) are = back_roots c ms i (λ k below. are (suc k) (omega arith))

-- roots up to some place
front_roots : (c : Contents) (ms : List ℕ) (i : ℕ) → AreRoots c ms → AreRoots c (take i ms)
front_roots c ms zero are = λ k below. absurd (omega (arith, below))
front_roots c [] (suc i) are = λ k below. absurd (omega (arith, below))
front_roots c (m ∷ ms) (suc i) are = at (front_roots c ms i (λ j under. are (suc j) (omega (arith, under))))
  where
    at : AreRoots c (take i ms) → AreRoots c (m ∷ take i ms)
    at later zero below = are zero (omega arith)
    at later (suc k) below = later k (omega (arith, below))

pub front_kept : (old new : Contents) (ms : List ℕ) (i : ℕ) → KeepsRoots old new → AreRoots old ms → functions_at new (take i ms) ≡ functions_at old (take i ms)
front_kept old new ms i keeps are = functions_kept old new keeps (take i ms) (front_roots old ms i are)
