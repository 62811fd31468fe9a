-- What is left where arguments are given back.
use Rattle.std.proofs.Common.{◌≡◌, ℕ, zero, suc, ◌+◌, ◌<◌, ◌==◌, Bool, true, false, Result, Ok, Err, List, [], ◌∷◌, length, map, slice_index, cond, refl, sym, ◌∙◌, ap, subst, arith, ◌&&◌, get_or, take, IsErrAnd}
use Rattle.std.proofs.lemmas.Bool.Decides.{nat_tests}
use borrow.Author.Tests.{eq-eqb}
use Rattle.spec_model.specs.Diagrams.{Function, and_exists_over}
use Rattle.bdd_store.specs.State.{IsRoot, roots_at, AddsRoot}
use Rattle.bdd_bits.specs.Contents.{Contents, function_at}
use Rattle.bdd_ops.specs.Calls.{negated}
use Rattle.bdd_bits.specs.Calls.{KeepsRoots, SameNodes}
use Rattle.bdd_bits.proofs.CallLemmas.{keeps_function}
use Rattle.bdd_ops.specs.Functions.{joined, join_of}
use Rattle.regions.specs.declared.types.Halt.{Halt}
use Rattle.bit_compile.specs.Making.{Makes}
use Rattle.bit_compile.proofs.MakingLemmas.{given_back, root_added, is_root, root_stays, fails}
use Rattle.bdd_sets.specs.Members.{AreRoots, all_true, functions_at, AreMembers, move_functions, reply_of, avoiding}
use Rattle.bdd_sets.specs.declared.moves.Members.{Members}

-- what is kept stays kept, whatever came of it
pub still_root : (old new : Contents) (r : Result ℕ Halt) (f : Function) → Makes old new r f → (n : ℕ) → IsRoot old.state n → IsRoot new.state n
still_root old new (Ok r) f makes n root = root_added old new r f makes n root
still_root old new (Err h) f makes n root = root_stays old.state new.state n makes.refused root

-- a kept diagram's function stays
pub function_kept : (old new : Contents) → KeepsRoots old new → (n : ℕ) → IsRoot old.state n → function_at new n ≡ function_at old n
function_kept old new keeps n root = keeps_function old new n keeps root

pub functions_kept : (old new : Contents) → KeepsRoots old new → (roots : List ℕ) → AreRoots old roots → functions_at new roots ≡ functions_at old roots
functions_kept old new keeps [] are = refl
functions_kept old new keeps (r ∷ roots) are =
    let first = function_kept old new keeps r (are 0 (omega arith)) in
    let rest = functions_kept old new keeps roots (λ i below. are (suc i) (omega arith)) in
    cc

pub roots_stay : (old new : Contents) (r : Result ℕ Halt) (f : Function) → Makes old new r f → (roots : List ℕ) → AreRoots old roots → AreRoots new roots
roots_stay old new r f makes roots are = λ i below. still_root old new r f makes (slice_index roots i) (are i below)

-- one argument is given back, after an operation on it
pub one_spent : (F : Function → Function) (base old mid new : Contents) (a : ℕ) (f : Function) (r : Result ℕ Halt) → Makes base old (Ok a) f → Makes old mid r (F (function_at old a)) → AddsRoot new.state mid.state a → SameNodes mid new → Makes base new r (F f)
one_spent F base old mid new a f r first makes back nodes =
    subst (λ (k : Function). Makes base new r (F k)) first.meaning (given_back base old mid new a f (F (function_at old a)) first back nodes r makes)

-- two are
pub two_spent : (F : Function → Function → Function) (base before old mid mid' new : Contents) (a b : ℕ) (f g : Function) (r : Result ℕ Halt) → Makes base before (Ok a) f → Makes before old (Ok b) g → Makes old mid r (F (function_at old a) (function_at old b)) → AddsRoot mid'.state mid.state b → SameNodes mid mid' → AddsRoot new.state mid'.state a → SameNodes mid' new → Makes base new r (F f g)
two_spent F base before old mid mid' new a b f g r first second makes back_b nodes_b back_a nodes_a =
    let whole = F (function_at old a) (function_at old b) in
    let one = given_back before old mid mid' b g whole second back_b nodes_b r makes in
    let both = given_back base before mid' new a f whole first back_a nodes_a r one in
    let a_is : function_at old a ≡ f = function_kept before old second.keeps a (is_root base before a f first) ∙ first.meaning in
    let with_b = subst (λ (k : Function). Makes base new r (F (function_at old a) k)) second.meaning both in
    subst (λ (k : Function). Makes base new r (F k g)) a_is with_b

-- a root that is given back was counted besides others
pub after_release : (old mid new : Contents) (r : Result ℕ Halt) (f : Function) (a b : ℕ) → Makes old mid r f → IsRoot old.state a → (a ≡ b → 1 < roots_at old.state a) → AddsRoot new.state mid.state b → IsRoot new.state a
after_release old mid new (Ok r) f a b makes root apart back =
    let one = back a in
    let two = makes.added a in
    at (a == b) refl one two
  where
    at : (c : Bool) → (a == b) ≡ c → roots_at mid.state a ≡ roots_at new.state a + cond (a == b) 1 0 → roots_at mid.state a ≡ roots_at old.state a + cond (a == r) 1 0 → IsRoot new.state a
    at true e one two = let more = apart (grind (arith, nat_tests)) in let one' : roots_at mid.state a ≡ roots_at new.state a + 1 = (rw e at one) in omega (arith, more, one', two)
    at false e one two = let one' : roots_at mid.state a ≡ roots_at new.state a + 0 = (rw e at one) in omega (arith, root, one', two)
after_release old mid new (Err h) f a b makes root apart back =
    let one = back a in
    let two = makes.refused a in
    at (a == b) refl one two
  where
    at : (c : Bool) → (a == b) ≡ c → roots_at mid.state a ≡ roots_at new.state a + cond (a == b) 1 0 → roots_at mid.state a ≡ roots_at old.state a → IsRoot new.state a
    at true e one two = let more = apart (grind (arith, nat_tests)) in let one' : roots_at mid.state a ≡ roots_at new.state a + 1 = (rw e at one) in omega (arith, more, one', two)
    at false e one two = let one' : roots_at mid.state a ≡ roots_at new.state a + 0 = (rw e at one) in omega (arith, root, one', two)

one_where_same : (a b : ℕ) → a ≡ b → ◌≡◌ {A = ℕ} (cond (a == b) 1 0) 1
one_where_same a b same = ap (λ c. cond c 1 0) (eq-eqb a b same)

-- a root made after another was kept is counted besides it
pub counted_twice : (old new : Contents) (b : ℕ) (f : Function) (a : ℕ) → Makes old new (Ok b) f → IsRoot old.state a → a ≡ b → 1 < roots_at new.state a
counted_twice old new b f a makes root same = let more = makes.added a in let one = one_where_same a b same in omega (arith, more, one, root)

-- a refusal that is handed on
pub refused_by : (base new : Contents) (r : Result ℕ Halt) (halt : Halt) (f g : Function) → IsErrAnd r (λ y. y ≡ halt) → Makes base new (Err halt) f → Makes base new r g
refused_by base new (Ok x) halt f g is makes = absurd is
refused_by base new (Err y) halt f g is makes = fails base new y f g (subst (λ (h : Halt). Makes base new (Err h) f) (sym is) makes)

-- ---- conjunctions

pub item_is : (ms : List ℕ) (i m : ℕ) → i < length ms → m ≡ get_or ms i m → slice_index ms i ≡ m
item_is [] i m below is = absurd (omega arith)
item_is (x ∷ ms) zero m below is = sym is
item_is (x ∷ ms) (suc i) m below is = item_is ms i m (omega arith) is

-- one diagram more
pub all_true-next : (F : ℕ → Function) (ms : List ℕ) (i m : ℕ) → i < length ms → m ≡ get_or ms i m → joined (join_of true) (all_true (map F (take i ms))) (F m) ≡ all_true (map F (take (i + 1) ms))
all_true-next F [] i m below is = absurd (omega arith)
all_true-next F (x ∷ ms) zero m below is = λ j s. at (F m s) (F x s) (ap (λ k. F k s) is) j
  where
    at : (p q : Bool) → p ≡ q → (true && p) ≡ (q && true)
    at true true e = refl
    at false false e = refl
    at true false e = e
    at false true e = e
all_true-next F (x ∷ ms) (suc i) m below is =
    let next : suc i + 1 ≡ suc (i + 1) = omega arith in
    let rest = all_true-next F ms i m (omega arith) is in
    rw next (λ j s. (grouped (F x s) (all_true (map F (take i ms)) s) (F m s) ∙ ap (λ (k : Function). F x s && k s) rest) j)
  where
    grouped : (p q r : Bool) → ((p && q) && r) ≡ (p && (q && r))
    grouped true q r = refl
    grouped false q r = refl

-- what is held besides what was made after it
pub held_beside : (old new : Contents) (held p q : ℕ) (g : Function) → p ≡ held → Makes old new (Ok q) g → IsRoot old.state held → IsRoot new.state p
held_beside old new held p q g same makes root = subst (λ (n : ℕ). IsRoot new.state n) (sym same) (root_added old new q g makes held root)

pub twice_beside : (old new : Contents) (held p q : ℕ) (g : Function) → p ≡ held → Makes old new (Ok q) g → IsRoot old.state held → p ≡ q → 1 < roots_at new.state p
twice_beside old new held p q g same makes root equal = subst (λ (n : ℕ). 1 < roots_at new.state n) (sym same) (counted_twice old new q g held makes root (sym same ∙ equal))

-- ---- replies

module _ (base old mid : Contents) (m : Members) (reply : List ℕ) (f : Function) (are : AreMembers base m) (keeps_old : KeepsRoots base old) (keeps_mid : KeepsRoots base mid) where
  pub reply_made : and_exists_over reply (joined (join_of true) f (all_true (functions_at old m.outputs.items))) (all_true (functions_at mid m.update.items)) ≡ reply_of (move_functions base m) reply f
  reply_made =
      let outputs = functions_kept base old keeps_old m.outputs.items are.outputs in
      let update = functions_kept base mid keeps_mid m.update.items are.update in
      λ i. and_exists_over reply (joined (join_of true) f (all_true (outputs i))) (all_true (update i))

pub avoiding_made : (base old : Contents) (m : Members) (reply next : List ℕ) (f : Function) → AreMembers base m → KeepsRoots base old →
    and_exists_over next (negated (reply_of (move_functions base m) reply f)) (all_true (functions_at old m.inputs.items)) ≡ avoiding (move_functions base m) reply next f
avoiding_made base old m reply next f are keeps =
    let inputs = functions_kept base old keeps m.inputs.items are.inputs in
    λ i. and_exists_over next (negated (reply_of (move_functions base m) reply f)) (all_true (inputs i))
