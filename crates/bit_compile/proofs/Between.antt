-- Roots that were made on the way and are given back at the end.
use Rattle.std.proofs.Common.{◌≡◌, ℕ, suc, ◌+◌, ◌==◌, ◌<◌, Bool, true, false, Result, Ok, Err, IfOk, List, [], ◌∷◌, ◌++◌, map, refl, sym, ◌∙◌, ap, subst, arith, cond}
use Rattle.std.proofs.lemmas.List.{map-append, nil_from_length}
use Rattle.std.specs.declared.alloc.Global.{Global}
use Rattle.std.proofs.Common.{Vec, vec_len, is_ok}
use Rattle.std.proofs.lemmas.Bool.Decides.{nat_tests}
use Rattle.std.proofs.lemmas.Bool.{eq-eqb, false≢true}
use Rattle.node_table.specs.Table.{diagram_at}
use Rattle.spec_model.specs.Diagrams.{Function}
use Rattle.bdd_store.specs.State.{State, IsRoot, roots_at, AddsRoot, IsFilled}
use Rattle.bdd_bits.specs.Contents.{Contents, function_at}
use Rattle.bdd_bits.specs.Calls.{KeepsRoots, SameNodes}
use Rattle.bdd_bits.proofs.CallLemmas.{keeps_function, same_function}
use Rattle.regions.specs.declared.types.Halt.{Halt}
use Rattle.game_values.proofs.Typed.{count-cons}
use Rattle.bit_compile.specs.declared.cases.CaseRoot.{CaseRoot}
use Rattle.bit_compile.specs.Making.{Makes}
use Rattle.bit_compile.specs.Compiled.{Case}
use Rattle.bit_compile.specs.CaseRoots.{case_at, cases_at, roots_in, AreKept, HasTogether, AddsCases, Leaves}
use Rattle.bit_compile.proofs.MakingLemmas.{not_budget}

-- ---- roots of cases

pub roots_in-cons : (x : CaseRoot) (xs : List CaseRoot) (n : ℕ) → roots_in (x ∷ xs) n ≡ cond (n == x.root) (suc (roots_in xs n)) (roots_in xs n)
roots_in-cons x xs n = count-cons (λ (y : CaseRoot). n == y.root) x xs

pub kept_together : (s : State) (xs : List CaseRoot) → HasTogether s xs → AreKept s xs
kept_together s [] has = tt
kept_together s (x ∷ xs) has = (
  (let one = has x.root in let cons = roots_in-cons x xs x.root in grind (arith, one, cons, nat_tests)),
  kept_together s xs (λ n. (let all = has n in let cons = roots_in-cons x xs n in grind (arith, all, cons, nat_tests))),
)

pub together : (old mid : Contents) (xs : List CaseRoot) (cs : List Case) → AddsCases old mid xs cs → HasTogether mid.state xs
together old mid xs cs adds n = let more = adds.added n in omega (arith, more)

pub cases_kept : (old mid : Contents) (xs : List CaseRoot) (cs : List Case) → AddsCases old mid xs cs → AreKept mid.state xs
cases_kept old mid xs cs adds = kept_together mid.state xs (together old mid xs cs adds)

pub still_kept : (a b : State) (xs : List CaseRoot) → ((n : ℕ) → IsRoot a n → IsRoot b n) → AreKept a xs → AreKept b xs
still_kept a b [] stays kept = tt
still_kept a b (x ∷ xs) stays kept = (stays x.root kept.0, still_kept a b xs stays kept.1)

pub root_before : (old mid : Contents) (xs : List CaseRoot) (cs : List Case) → AddsCases old mid xs cs → (n : ℕ) → IsRoot old.state n → IsRoot mid.state n
root_before old mid xs cs adds n root = let more = adds.added n in omega (arith, more, root)

-- kept roots have the functions that they had
pub function_stays : (old mid : Contents) (n : ℕ) → KeepsRoots old mid → IsRoot old.state n → function_at mid n ≡ function_at old n
function_stays old mid n keeps root = keeps_function old mid n keeps root

pub cases_stay : (old mid : Contents) (xs : List CaseRoot) → KeepsRoots old mid → AreKept old.state xs → cases_at mid xs ≡ cases_at old xs
cases_stay old mid [] keeps kept = refl
cases_stay old mid (x ∷ xs) keeps kept =
    let first = function_stays old mid x.root keeps kept.0 in
    let rest = cases_stay old mid xs keeps kept.1 in
    ap (λ (f : Function). record { value = x.value; holds = f } ∷ cases_at mid xs) first ∙ ap (λ (cs : List Case). case_at old x ∷ cs) rest

pub functions_stay : (old mid : Contents) (xs : List CaseRoot) → KeepsRoots old mid → AreKept old.state xs → map (λ (x : CaseRoot). function_at mid x.root) xs ≡ map (λ (x : CaseRoot). function_at old x.root) xs
functions_stay old mid [] keeps kept = refl
functions_stay old mid (x ∷ xs) keeps kept =
    let first = function_stays old mid x.root keeps kept.0 in
    let rest = functions_stay old mid xs keeps kept.1 in
    ap (λ (f : Function). f ∷ map (λ (y : CaseRoot). function_at mid y.root) xs) first ∙ ap (λ (fs : List Function). function_at old x.root ∷ fs) rest

-- with the same nodes and order cases are what they were
same_cases : (a b : Contents) → SameNodes a b → (xs : List CaseRoot) → cases_at b xs ≡ cases_at a xs
same_cases a b same [] = refl
same_cases a b same (x ∷ xs) =
    ap (λ (f : Function). record { value = x.value; holds = f } ∷ cases_at b xs) (same_function a b x.root same) ∙ ap (λ (cs : List Case). case_at a x ∷ cs) (same_cases a b same xs)

-- ---- what is kept besides, for a while

pub record Between (old mid : Contents) (extra : ℕ → ℕ) : Type 0 where
  pub keeps : KeepsRoots old mid
  pub added : (n : ℕ) → roots_at mid.state n ≡ roots_at old.state n + extra n

pub between_root : (old mid : Contents) (b : ℕ) (g : Function) → Makes old mid (Ok b) g → Between old mid (λ n. cond (n == b) 1 0)
between_root old mid b g makes = record { keeps = makes.keeps; added = makes.added }

pub between_cases : (old mid : Contents) (xs : List CaseRoot) (cs : List Case) → AddsCases old mid xs cs → KeepsRoots old mid → Between old mid (roots_in xs)
between_cases old mid xs cs adds keeps = record { keeps = keeps; added = adds.added }

module _ (old mid whole new : Contents) (extra : ℕ → ℕ) (first : Between old mid extra) (back : (n : ℕ) → roots_at whole.state n ≡ roots_at new.state n + extra n) (nodes : SameNodes whole new) where
  root_stays_between : (n : ℕ) → IsRoot old.state n → IsRoot mid.state n
  root_stays_between n root = let more = first.added n in omega (arith, more, root)

  pub keeps_between : KeepsRoots mid whole → KeepsRoots old new
  keeps_between keeps =
      record {
        levels = ap (λ t. t.levels) nodes.table ∙ (keeps.levels ∙ first.keeps.levels);
        budget = ap (λ t. t.budget) nodes.table ∙ (keeps.budget ∙ first.keeps.budget);
        order = nodes.order ∙ (keeps.order ∙ first.keeps.order);
        meaning = λ n root. ap (λ t. diagram_at t n) nodes.table ∙ (keeps.meaning n (root_stays_between n root) ∙ first.keeps.meaning n root);
      }

  pub makes_between : (r : Result ℕ Halt) (f : Function) → Makes mid whole r f → Makes old new r f
  makes_between (Ok r) f makes =
      record {
        meaning = same_function whole new r nodes ∙ makes.meaning;
        added = λ n. (let one = back n in let two = makes.added n in let three = first.added n in omega (arith, one, two, three));
        refused = tt;
        keeps = keeps_between makes.keeps;
        full = λ e. not_budget e;
      }
  makes_between (Err h) f makes =
      record {
        meaning = tt;
        added = tt;
        refused = λ n. (let one = back n in let two = makes.refused n in let three = first.added n in omega (arith, one, two, three));
        keeps = keeps_between makes.keeps;
        full = λ e. subst IsFilled (sym nodes.table) (makes.full e);
      }

  pub leaves_between : {V : Type 0} (r : Result V Halt) → Leaves mid whole r → Leaves old new r
  leaves_between (Ok v) leaves =
      record {
        refused = tt;
        keeps = keeps_between leaves.keeps;
        full = λ e. subst IsFilled (sym nodes.table) (leaves.full e);
      }
  leaves_between (Err h) leaves =
      record {
        refused = λ n. (let one = back n in let two = leaves.refused n in let three = first.added n in omega (arith, one, two, three));
        keeps = keeps_between leaves.keeps;
        full = λ e. subst IsFilled (sym nodes.table) (leaves.full e);
      }

  pub adds_between : (xs : List CaseRoot) (cs : List Case) → AddsCases mid whole xs cs → AddsCases old new xs cs
  adds_between xs cs adds =
      record {
        are = same_cases whole new nodes xs ∙ adds.are;
        added = λ n. (let one = back n in let two = adds.added n in let three = first.added n in omega (arith, one, two, three));
      }

-- ---- refusals

abbrev pub halt_or : {V : Type 0} → Halt → Result V Halt → Halt
halt_or a (Ok v) = a
halt_or a (Err h) = h

pub leaves_refusal : {V : Type 0} (old new : Contents) (h : Halt) (f : Function) → Makes old new (Err h) f → Leaves {V = V} old new (Err h)
leaves_refusal old new h f makes = record { refused = makes.refused; keeps = makes.keeps; full = λ e. makes.full (ap (λ (k : Halt). Err k) (ap (halt_or h) e)) }

pub makes_refusal : {V : Type 0} (old new : Contents) (h : Halt) (f : Function) → Leaves {V = V} old new (Err h) → Makes old new (Err h) f
makes_refusal old new h f leaves = record { meaning = tt; added = tt; refused = leaves.refused; keeps = leaves.keeps; full = λ e. leaves.full (ap (λ (k : Halt). Err k) (ap (halt_or h) e)) }

-- ---- one case more

pub no_cases : (c : Contents) → AddsCases c c [] []
no_cases c = record { are = refl; added = λ n. (omega arith) }

roots_in-push : (xs : List CaseRoot) (x : CaseRoot) (n : ℕ) → roots_in (xs ++ x ∷ []) n ≡ roots_in xs n + cond (n == x.root) 1 0
roots_in-push [] x n = roots_in-cons x [] n ∙ at (n == x.root)
  where
    at : (b : Bool) → cond b (suc 0) 0 ≡ 0 + cond b 1 0
    at true = omega arith
    at false = omega arith
roots_in-push (y ∷ xs) x n = roots_in-cons y (xs ++ x ∷ []) n ∙ (at (n == y.root) (roots_in-push xs x n) ∙ ap (λ k. k + cond (n == x.root) 1 0) (sym (roots_in-cons y xs n)))
  where
    at : (b : Bool) → roots_in (xs ++ x ∷ []) n ≡ roots_in xs n + cond (n == x.root) 1 0 → cond b (suc (roots_in (xs ++ x ∷ []) n)) (roots_in (xs ++ x ∷ []) n) ≡ cond b (suc (roots_in xs n)) (roots_in xs n) + cond (n == x.root) 1 0
    at true e = omega (arith, e)
    at false e = e

pub one_more : (old mid new : Contents) (xs : List CaseRoot) (cs : List Case) (x : CaseRoot) (f : Function) → AddsCases old mid xs cs → KeepsRoots old mid → Makes mid new (Ok x.root) f → AddsCases old new (xs ++ x ∷ []) (cs ++ record { value = x.value; holds = f } ∷ [])
one_more old mid new xs cs x f adds keeps makes =
    record {
      are = map-append (case_at new) xs (x ∷ []) ∙ (ap (λ (ds : List Case). ds ++ case_at new x ∷ []) (cases_stay mid new xs makes.keeps (cases_kept old mid xs cs adds) ∙ adds.are) ∙ ap (λ (g : Function). cs ++ record { value = x.value; holds = g } ∷ []) makes.meaning);
      added = λ n. (let one = adds.added n in let two = makes.added n in let push = roots_in-push xs x n in omega (arith, one, two, push));
    }

pub keeps_more : (old mid new : Contents) (xs : List CaseRoot) (cs : List Case) → AddsCases old mid xs cs → KeepsRoots old mid → KeepsRoots mid new → KeepsRoots old new
keeps_more old mid new xs cs adds first second =
    record {
      levels = second.levels ∙ first.levels;
      budget = second.budget ∙ first.budget;
      order = second.order ∙ first.order;
      meaning = λ n root. second.meaning n (root_before old mid xs cs adds n root) ∙ first.meaning n root;
    }

pub root_after : (l mid : Contents) (r : Result ℕ Halt) (g : Function) → Makes l mid r g → (n : ℕ) → IsRoot l.state n → IsRoot mid.state n
root_after l mid (Ok r) g makes n root = let more = makes.added n in omega (arith, more, root)
root_after l mid (Err h) g makes n root = let same = makes.refused n in omega (arith, same, root)

-- ---- giving all back

pub together_after : (mid whole : Contents) (xs : List CaseRoot) (r : Result ℕ Halt) (f : Function) → HasTogether mid.state xs → Makes mid whole r f → HasTogether whole.state xs
together_after mid whole xs (Ok n) f has makes k = let more = makes.added k in let all = has k in omega (arith, more, all)
together_after mid whole xs (Err h) f has makes k = let same = makes.refused k in let all = has k in omega (arith, same, all)

pub together_left : {V : Type 0} (items : V → List CaseRoot) (mid whole : Contents) (xs : List CaseRoot) (r : Result V Halt) (cs : List Case) → HasTogether mid.state xs → IfOk r (λ v. AddsCases mid whole (items v) cs) → Leaves mid whole r → HasTogether whole.state xs
together_left items mid whole xs (Ok v) cs has adds leaves k = let more = adds.added k in let all = has k in omega (arith, more, all)
together_left items mid whole xs (Err h) cs has adds leaves k = let same = leaves.refused k in let all = has k in omega (arith, same, all)

-- what cases made on the way lead to, once they are given back
pub through_cases : (old mid whole new : Contents) (xs : List CaseRoot) (cs : List Case) (r : Result ℕ Halt) (f g : Function) → AddsCases old mid xs cs → KeepsRoots old mid → Makes mid whole r g → g ≡ f → ((n : ℕ) → roots_at whole.state n ≡ roots_at new.state n + roots_in xs n) → SameNodes whole new → Makes old new r f
through_cases old mid whole new xs cs r f g adds keeps makes is back nodes =
    makes_between old mid whole new (roots_in xs) (between_cases old mid xs cs adds keeps) back nodes r f (subst (λ (h : Function). Makes mid whole r h) is makes)

pub cases_through : {V : Type 0} (items : V → List CaseRoot) (old mid whole new : Contents) (extra : ℕ → ℕ) (r : Result V Halt) (cs ds : List Case) → Between old mid extra → IfOk r (λ v. AddsCases mid whole (items v) ds) → ds ≡ cs → ((n : ℕ) → roots_at whole.state n ≡ roots_at new.state n + extra n) → SameNodes whole new → IfOk r (λ v. AddsCases old new (items v) cs)
cases_through items old mid whole new extra (Ok v) cs ds between adds is back nodes = adds_between old mid whole new extra between back nodes (items v) cs (subst (λ (es : List Case). AddsCases mid whole (items v) es) is adds)
cases_through items old mid whole new extra (Err h) cs ds between adds is back nodes = tt

-- ---- one root after the other is given back

last_in : (rest : List CaseRoot) (x : CaseRoot) → 0 < roots_in (rest ++ x ∷ []) x.root
last_in rest x = at (x.root == x.root) (eq-eqb x.root x.root refl) (roots_in-push rest x x.root)
  where
    at : (b : Bool) → b ≡ true → roots_in (rest ++ x ∷ []) x.root ≡ roots_in rest x.root + cond b 1 0 → 0 < roots_in (rest ++ x ∷ []) x.root
    at true e push = omega (arith, push)
    at false e push = absurd (false≢true e)

module _ (first l new : State) (all cases rest : List CaseRoot) (x : CaseRoot) (left : (n : ℕ) → roots_at l n + roots_in all n ≡ roots_at first n + roots_in cases n) (popped : cases ≡ rest ++ x ∷ []) where
  pub popped_root : HasTogether first all → IsRoot l x.root
  popped_root has =
      let here = left x.root in
      let together_here = has x.root in
      let some = last_in rest x in
      let same = ap (λ (xs : List CaseRoot). roots_in xs x.root) popped in
      omega (arith, here, together_here, some, same)

  pub popped_left : AddsRoot new l x.root → (n : ℕ) → roots_at new n + roots_in all n ≡ roots_at first n + roots_in rest n
  popped_left back n =
      let here = left n in
      let one = back n in
      let push = roots_in-push rest x n in
      let same = ap (λ (xs : List CaseRoot). roots_in xs n) popped in
      omega (arith, here, one, push, same)

pub all_popped : (first l : State) (all cases : List CaseRoot) → ((n : ℕ) → roots_at l n + roots_in all n ≡ roots_at first n + roots_in cases n) → cases ≡ [] → (n : ℕ) → roots_at first n ≡ roots_at l n + roots_in all n
all_popped first l all cases left none n = let here = left n in let same = ap (λ (xs : List CaseRoot). roots_in xs n) none in omega (arith, here, same)

pub none_left : {X : Type 0} (v : Vec X Global) → vec_len v ≡ 0 → v.items ≡ []
none_left v e = nil_from_length v.items (omega arith)

pub ok_leaves : {V : Type 0} (first l : Contents) (v : V) → KeepsRoots first l → Leaves first l (Ok v)
ok_leaves first l v keeps = record { refused = tt; keeps = keeps; full = λ e. absurd (false≢true (sym (ap is_ok e))) }
