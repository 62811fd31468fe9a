-- Lists of roots, made one after the other.
use Rattle.std.proofs.Common.{◌≡◌, ℕ, zero, suc, ◌+◌, ◌<◌, ◌≤◌, Bool, true, false, cond, Vec, Result, Ok, Err, IsErrAnd, is_ok, List, [], ◌∷◌, ◌++◌, length, slice_index, refl, sym, ◌∙◌, ap, subst, arith}
use Rattle.std.proofs.lemmas.List.{map-append}
use Rattle.std.proofs.lemmas.Bool.{eq-eqb, false≢true}
use Rattle.std.specs.declared.alloc.Global.{Global}
use Rattle.spec_model.specs.Diagrams.{Function}
use Rattle.bdd_store.specs.State.{State, IsRoot, roots_at, AddsRoot}
use Rattle.bdd_bits.specs.Contents.{Contents, function_at}
use Rattle.bdd_bits.specs.Calls.{KeepsRoots, SameNodes}
use Rattle.regions.specs.declared.types.Halt.{Halt}
use Rattle.regions.specs.declared.types.Halt.TheVariants as halt
use Rattle.bit_compile.specs.Making.{Makes}
use Rattle.bit_compile.proofs.MakingLemmas.{given_back}
use Rattle.bit_compile.proofs.Between.{Between, makes_between}
use Rattle.bdd_sets.specs.Members.{AreRoots, functions_at}
use Rattle.bdd_sets.specs.Lists.{one_at, times_in, MakesList}
use Rattle.bdd_sets.proofs.SpentLemmas.{functions_kept}

pub one_itself : (n : ℕ) → one_at n n ≡ 1
one_itself n = ap (λ b. cond b 1 0) (eq-eqb n n refl)

pub times_here : (roots : List ℕ) (i : ℕ) → i < length roots → 0 < times_in (slice_index roots i) roots
times_here [] i below = absurd (omega arith)
times_here (r ∷ roots) zero below = let one = one_itself r in omega (arith, one)
times_here (r ∷ roots) (suc i) below = let more = times_here roots i (omega arith) in omega (arith, more)

pub times-push : (roots : List ℕ) (x n : ℕ) → times_in n (roots ++ x ∷ []) ≡ times_in n roots + one_at n x
times-push [] x n = omega arith
times-push (r ∷ roots) x n = let more = times-push roots x n in omega (arith, more)

-- ---- refusals

abbrev pub is_memory : {V : Type 0} → Result V Halt → Bool
is_memory (Ok v) = false
is_memory (Err halt.Budget) = false
is_memory (Err halt.Memory) = true

-- want of memory leaves all as it was
pub nothing_made : (c : Contents) (f : Function) → Makes c c (Err halt.Memory) f
nothing_made c f =
    record {
      meaning = tt;
      added = tt;
      refused = λ n. refl;
      keeps = record { levels = refl; budget = refl; order = refl; meaning = λ n root. refl };
      full = λ e. absurd (false≢true (sym (ap is_memory e)));
    }

abbrev halt_or : {V : Type 0} → Halt → Result V Halt → Halt
halt_or a (Ok v) = a
halt_or a (Err h) = h

-- where one root is refused, the list is
pub list_fails : (old new : Contents) (h : Halt) (f : Function) (fs : List Function) → Makes old new (Err h) f → MakesList old new (Err h) fs
list_fails old new h f fs makes =
    record {
      meaning = tt;
      added = tt;
      refused = makes.refused;
      keeps = makes.keeps;
      full = λ e. makes.full (ap (λ (k : Halt). Err k) (ap (halt_or h) e));
    }

-- a refusal that is handed on
pub list_refused_by : (old new : Contents) (r : Result (Vec ℕ Global) Halt) (h : Halt) (fs gs : List Function) → IsErrAnd r (λ y. y ≡ h) → MakesList old new (Err h) fs → MakesList old new r gs
list_refused_by old new (Ok x) h fs gs is makes = absurd is
list_refused_by old new (Err y) h fs gs is makes =
    let same = subst (λ (k : Halt). MakesList old new (Err k) fs) (sym is) makes in
    record { meaning = tt; added = tt; refused = same.refused; keeps = same.keeps; full = same.full }

-- ---- one root more

-- no root yet
pub no_list : (c : Contents) (v : Vec ℕ Global) → v.items ≡ [] → MakesList c c (Ok v) []
no_list c v none =
    record {
      meaning = ap (functions_at c) none;
      added = λ n. (let no_times = ap (times_in n) none in omega (arith, no_times));
      refused = tt;
      keeps = record { levels = refl; budget = refl; order = refl; meaning = λ n root. refl };
      full = λ e. absurd (false≢true (sym (ap is_ok e)));
    }

module _ (base mid : Contents) (v : Vec ℕ Global) (fs : List Function) (list : MakesList base mid (Ok v) fs) where
  pub list_counted : (n : ℕ) → times_in n v.items ≤ roots_at mid.state n
  list_counted n = let all = list.added n in omega (arith, all)

  pub list_roots : AreRoots mid v.items
  list_roots i below =
      let here = times_here v.items i below in
      let all = list_counted (slice_index v.items i) in
      omega (arith, here, all)

  pub list_before : (n : ℕ) → IsRoot base.state n → IsRoot mid.state n
  list_before n root = let more = list.added n in omega (arith, more, root)

  pub list_between : Between base mid (λ n. times_in n v.items)
  list_between = record { keeps = list.keeps; added = list.added }

  list_keeps : (new : Contents) → KeepsRoots mid new → KeepsRoots base new
  list_keeps new keeps =
      record {
        levels = keeps.levels ∙ list.keeps.levels;
        budget = keeps.budget ∙ list.keeps.budget;
        order = keeps.order ∙ list.keeps.order;
        meaning = λ n root. keeps.meaning n (list_before n root) ∙ list.keeps.meaning n root;
      }

  pub list_more : (new : Contents) (x : ℕ) (f : Function) (w : Vec ℕ Global) → Makes mid new (Ok x) f → w.items ≡ v.items ++ x ∷ [] → MakesList base new (Ok w) (fs ++ f ∷ [])
  list_more new x f w makes pushed =
      let kept = functions_kept mid new makes.keeps v.items list_roots ∙ list.meaning in
      record {
        meaning = ap (functions_at new) pushed ∙ (map-append (function_at new) v.items (x ∷ []) ∙ (ap (λ (gs : List Function). gs ++ function_at new x ∷ []) kept ∙ ap (λ (g : Function). fs ++ g ∷ []) makes.meaning));
        added = λ n. (let one = list.added n in let two = makes.added n in let push = times-push v.items x n in let same = ap (times_in n) pushed in omega (arith, one, two, push, same));
        refused = tt;
        keeps = list_keeps new makes.keeps;
        full = λ e. absurd (false≢true (sym (ap is_ok e)));
      }

  -- where the next one is refused, all are given back
  pub list_back : (whole new : Contents) (h : Halt) (f : Function) (gs : List Function) → Makes mid whole (Err h) f → ((n : ℕ) → roots_at whole.state n ≡ roots_at new.state n + times_in n v.items) → SameNodes whole new → MakesList base new (Err h) gs
  list_back whole new h f gs makes back nodes =
      list_fails base new h f gs (makes_between base mid whole new (λ n. times_in n v.items) list_between back nodes (Err h) f makes)

  pub counted_after : (whole : Contents) (h : Halt) (f : Function) → Makes mid whole (Err h) f → (n : ℕ) → times_in n v.items ≤ roots_at whole.state n
  counted_after whole h f makes n = let all = list_counted n in let same = makes.refused n in omega (arith, all, same)

  -- the root that finds no room is given back
  pub no_room : (old new : Contents) (x : ℕ) (f : Function) → Makes mid old (Ok x) f → AddsRoot new.state old.state x → SameNodes old new → Makes mid new (Err halt.Memory) f
  no_room old new x f makes back nodes = given_back mid old old new x f f makes back nodes (Err halt.Memory) (nothing_made old f)

-- ---- one root after the other is given back

last_times : (rest : List ℕ) (x : ℕ) → 0 < times_in x (rest ++ x ∷ [])
last_times rest x = let push = times-push rest x x in let one = one_itself x in omega (arith, push, one)

module _ (first l new : State) (all roots rest : List ℕ) (x : ℕ) (left : (n : ℕ) → roots_at l n + times_in n all ≡ roots_at first n + times_in n roots) (popped : roots ≡ rest ++ x ∷ []) where
  pub popped_root : ((n : ℕ) → times_in n all ≤ roots_at first n) → IsRoot l x
  popped_root counted =
      let here = left x in
      let together_here = counted x in
      let some = last_times rest x in
      let same = ap (times_in x) popped in
      omega (arith, here, together_here, some, same)

  pub popped_left : AddsRoot new l x → (n : ℕ) → roots_at new n + times_in n all ≡ roots_at first n + times_in n rest
  popped_left back n =
      let here = left n in
      let one = back n in
      let push = times-push rest x n in
      let same = ap (times_in n) popped in
      omega (arith, here, one, push, same)

pub all_popped : (first l : State) (all roots : List ℕ) → ((n : ℕ) → roots_at l n + times_in n all ≡ roots_at first n + times_in n roots) → roots ≡ [] → (n : ℕ) → roots_at first n ≡ roots_at l n + times_in n all
all_popped first l all roots left none n = let here = left n in let same = ap (times_in n) none in omega (arith, here, same)
