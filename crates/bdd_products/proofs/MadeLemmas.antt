-- Products that are made of lines and levels, and lines that are given back.
use Rattle.std.proofs.Common.{◌≡◌, ℕ, ◌+◌, ◌≤◌, true, Vec, Result, Ok, Err, is_ok, List, [], ◌∷◌, slice_index, refl, sym, ◌∙◌, ap, subst, arith}
use Rattle.std.proofs.lemmas.Bool.{false≢true}
use Rattle.std.specs.declared.alloc.Global.{Global}
use Rattle.spec_model.specs.Diagrams.{Function}
use Rattle.bdd_store.specs.State.{IsRoot, roots_at}
use Rattle.bdd_bits.specs.Contents.{Contents, function_at}
use Rattle.bdd_bits.proofs.CallLemmas.{same_function}
use Rattle.bdd_bits.specs.Calls.{KeepsRoots, SameNodes}
use Rattle.regions.specs.declared.types.Halt.{Halt}
use Rattle.bit_compile.specs.Making.{Makes}
use Rattle.bit_compile.proofs.Between.{keeps_between, makes_between}
use Rattle.bdd_sets.specs.Members.{AreRoots, all_true, functions_at}
use Rattle.bdd_sets.specs.Lists.{times_in}
use Rattle.bdd_sets.proofs.SpentLemmas.{functions_kept}
use Rattle.bdd_sets.proofs.ListLemmas.{times_here}
use Rattle.bdd_products.specs.Products.{IsProductOf, IsSpread, levels_of, MakesLines, MakesProduct, LeavesRoots}
use Rattle.bdd_products.proofs.KeepingLemmas.{halt_or, keeps_itself}
use Rattle.bdd_products.proofs.SpreadLemmas.{spread_product}

-- where nodes stay, so do functions
same_functions : (a b : Contents) (roots : List ℕ) → SameNodes a b → functions_at b roots ≡ functions_at a roots
same_functions a b [] same = refl
same_functions a b (r ∷ roots) same = ap (λ (f : Function). f ∷ functions_at b roots) (same_function a b r same) ∙ ap (λ (fs : List Function). function_at a r ∷ fs) (same_functions a b roots same)

module _ (old mid : Contents) (v : Vec ℕ Global) (whole : Function) (lines : MakesLines old mid (Ok v) whole) where
  pub lines_roots : AreRoots mid v.items
  lines_roots i below = let here = times_here v.items i below in let all = lines.added (slice_index v.items i) in omega (arith, here, all)

  lines_before : (n : ℕ) → IsRoot old.state n → IsRoot mid.state n
  lines_before n root = let more = lines.added n in omega (arith, more, root)

  pub product_made : {V : Type 0} (new : Contents) (outs : Vec (Vec ℕ Global) Global) (out : List ℕ) (r : Result V Halt) → IsSpread out [] (functions_at mid v.items) (levels_of outs.items) → LeavesRoots mid new r → MakesProduct old new (Ok (record { lines = v; outs = outs })) whole out
  product_made new outs out r spread leaves =
      let same = functions_kept mid new leaves.keeps v.items lines_roots in
      record {
        is_product = subst (λ (fs : List Function). IsProductOf whole out fs (levels_of outs.items)) (sym same) (spread_product whole out (functions_at mid v.items) (levels_of outs.items) spread lines.conjunction);
        added = λ n. leaves.roots n ∙ lines.added n;
        refused = tt;
        keeps = record {
          levels = leaves.keeps.levels ∙ lines.keeps.levels;
          budget = leaves.keeps.budget ∙ lines.keeps.budget;
          order = leaves.keeps.order ∙ lines.keeps.order;
          meaning = λ n root. leaves.keeps.meaning n (lines_before n root) ∙ lines.keeps.meaning n root;
        };
        full = λ e. absurd (false≢true (sym (ap is_ok e)));
      }

  pub lines_counted : {V : Type 0} (tried : Contents) (r : Result V Halt) → LeavesRoots mid tried r → (n : ℕ) → times_in n v.items ≤ roots_at tried.state n
  lines_counted tried r leaves n = let same = leaves.roots n in let all = lines.added n in omega (arith, same, all)

  pub lines_back : {V : Type 0} (tried new : Contents) (h : Halt) (r : Result V Halt) (out : List ℕ) → r ≡ Err h → LeavesRoots mid tried r → ((n : ℕ) → roots_at tried.state n ≡ roots_at new.state n + times_in n v.items) → SameNodes tried new → MakesProduct old new (Err h) whole out
  lines_back {V} tried new h r out is leaves back nodes =
      let refused : Makes mid tried (Err h) (λ s. true) = record { meaning = tt; added = tt; refused = leaves.roots; keeps = leaves.keeps; full = λ e. leaves.full (is ∙ ap (λ (k : Halt). Err k) (ap (halt_or h) e)) } in
      let back_there = makes_between old mid tried new (λ n. times_in n v.items) (record { keeps = lines.keeps; added = lines.added }) back nodes (Err h) (λ s. true) refused in
      record { is_product = tt; added = tt; refused = back_there.refused; keeps = back_there.keeps; full = λ e. back_there.full (ap (λ (k : Halt). Err k) (ap (halt_or h) e)) }

  -- other lines that are made beside these, which are given back then
  pub counted_then : (tried : Contents) (f : Function) (r : Result (Vec ℕ Global) Halt) → MakesLines mid tried r f → (n : ℕ) → times_in n v.items ≤ roots_at tried.state n
  counted_then tried f (Ok w) made n = let more = made.added n in let all = lines.added n in omega (arith, more, all)
  counted_then tried f (Err h) made n = let same = made.refused n in let all = lines.added n in omega (arith, same, all)

  pub lines_beside : (tried new : Contents) (f : Function) (r : Result (Vec ℕ Global) Halt) → MakesLines mid tried r f → ((n : ℕ) → roots_at tried.state n ≡ roots_at new.state n + times_in n v.items) → SameNodes tried new → MakesLines old new r f
  lines_beside tried new f (Ok w) made back nodes =
      record {
        conjunction = ap all_true (same_functions tried new w.items nodes) ∙ made.conjunction;
        added = λ n. (let one = back n in let two = made.added n in let three = lines.added n in omega (arith, one, two, three));
        refused = tt;
        keeps = keeps_between old mid tried new (λ n. times_in n v.items) (record { keeps = lines.keeps; added = lines.added }) back nodes made.keeps;
        full = λ e. absurd (false≢true (sym (ap is_ok e)));
      }
  lines_beside tried new f (Err h) made back nodes =
      let refused : Makes mid tried (Err h) (λ s. true) = record { meaning = tt; added = tt; refused = made.refused; keeps = made.keeps; full = λ e. made.full (ap (λ (k : Halt). Err k) (ap (halt_or h) e)) } in
      let there = makes_between old mid tried new (λ n. times_in n v.items) (record { keeps = lines.keeps; added = lines.added }) back nodes (Err h) (λ s. true) refused in
      record { conjunction = tt; added = tt; refused = there.refused; keeps = there.keeps; full = λ e. there.full (ap (λ (k : Halt). Err k) (ap (halt_or h) e)) }

  -- what stays then has stayed from the beginning
  keeps_then_lines : (c : Contents) → KeepsRoots mid c → KeepsRoots old c
  keeps_then_lines c keeps =
      record {
        levels = keeps.levels ∙ lines.keeps.levels;
        budget = keeps.budget ∙ lines.keeps.budget;
        order = keeps.order ∙ lines.keeps.order;
        meaning = λ n root. keeps.meaning n (lines_before n root) ∙ lines.keeps.meaning n root;
      }

  -- these lines, where the others are given back
  pub others_back : (tried new : Contents) (w : Vec ℕ Global) (f : Function) → MakesLines mid tried (Ok w) f → ((n : ℕ) → roots_at tried.state n ≡ roots_at new.state n + times_in n w.items) → SameNodes tried new → MakesLines old new (Ok v) whole
  others_back tried new w f made back nodes =
      let keeps = keeps_between mid tried tried new (λ n. times_in n w.items) (record { keeps = made.keeps; added = made.added }) back nodes (keeps_itself tried) in
      record {
        conjunction = ap all_true (functions_kept mid new keeps v.items lines_roots) ∙ lines.conjunction;
        added = λ n. (let one = back n in let two = made.added n in let three = lines.added n in omega (arith, one, two, three));
        refused = tt;
        keeps = keeps_then_lines new keeps;
        full = λ e. absurd (false≢true (sym (ap is_ok e)));
      }

  -- these lines, where others are refused
  pub others_refused : (tried : Contents) (h : Halt) (f : Function) → MakesLines mid tried (Err h) f → MakesLines old tried (Ok v) whole
  others_refused tried h f made =
      record {
        conjunction = ap all_true (functions_kept mid tried made.keeps v.items lines_roots) ∙ lines.conjunction;
        added = λ n. (let same = made.refused n in let all = lines.added n in omega (arith, same, all));
        refused = tt;
        keeps = keeps_then_lines tried made.keeps;
        full = λ e. absurd (false≢true (sym (ap is_ok e)));
      }
