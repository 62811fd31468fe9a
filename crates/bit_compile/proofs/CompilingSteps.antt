-- What the steps of compiling a formula make and name, from the outcomes of the calls that they make.
use Rattle.std.proofs.Common.{◌≡◌, ℕ, ◌+◌, ◌||◌, ℤ, [], ◌∷◌, List, Vec, map, Result, Ok, Err, Bool, false, refl, sym, ap, ◌∙◌, subst, inl, inr}
use Rattle.std.specs.declared.alloc.Global.{Global}
use Rattle.std.specs.List.{AllByRecursion}
use Rattle.spec_model.specs.declared.expr.Compare.{Compare}
use Rattle.spec_model.specs.declared.expr.Expr.{Expr}
use Rattle.spec_model.specs.Views.{formula}
use Rattle.spec_model.specs.declared.value.Value.{Value}
use Rattle.spec_model.specs.declared.value.Value.TheVariants as value
use Rattle.spec_model.specs.Values.{values_of}
use Rattle.spec_model.specs.Syntax.{Formula, Comparison, Equivalence, Formulas, Implication, Remainder}
use Rattle.spec_model.specs.Diagrams.{Function}
use Rattle.game_values.specs.declared.seen.At.{At}
use Rattle.bdd_store.specs.State.{IsRoot, diagram_of, roots_at, AddsRoot}
use Rattle.bdd_ops.specs.Calls.{IsNegatedPart, negated}
use Rattle.bdd_bits.specs.Calls.{KeepsRoots, SameNodes}
use Rattle.bdd_bits.specs.Contents.{Contents, function_at}
use Rattle.bdd_ops.specs.Functions.{join_of, joined}
use Rattle.bdd_ops.specs.Steps.{IsJoinOfParts}
use Rattle.regions.specs.declared.types.Halt.{Halt}
use Rattle.regions.specs.declared.types.Halt.TheVariants as halt
use Rattle.bit_compile.specs.declared.cases.CaseRoot.{CaseRoot}
use Rattle.bit_compile.specs.declared.folds.Fold.{Fold}
use Rattle.bit_compile.specs.declared.operation.Operation.{Operation}
use Rattle.bit_compile.specs.declared.operation.Operation.TheVariants.{Mod}
use Rattle.bit_compile.specs.declared.pairs.Test.TheVariants as test
use Rattle.bit_compile.specs.declared.scenes.Scene.{Scene}
use Rattle.bit_compile.specs.Making.{Makes, MakesOnce}
use Rattle.bit_compile.specs.Compiled.{Case, both_truths, implied, is_not, only, results, same_truth, some_pair, span_of, truths_in, values_in}
use Rattle.bit_compile.specs.CaseRoots.{AddsCases, AreKept, MakesCases, cases_at, folded, passes, roots_in, true_cases}
use Rattle.bit_compile.specs.Crowding.{MakesNamed}
use Rattle.bit_compile.specs.Known.{operated_cases}
use Rattle.bit_compile.specs.NamedCodes.{NoFunction}
use Rattle.bit_compile.specs.Named.{AreOfFormulas, IsFirstOf, IsOfFormula, IsOfPairs, IsOfRemainders, IsOfResults, IsOfSame, IsTruth}
use Rattle.bit_compile.specs.NamedScenes.{AreNamedIn, IsNamedIn, IsNamedOr, IsOfOperated, IsOfTablesIn}
use Rattle.bit_compile.specs.Scenes.{cases_seen, entries_seen, game_seen, truth_seen}
use Rattle.bit_compile.proofs.MakingLemmas.{is_root, root_added}
use Rattle.bit_compile.proofs.Between.{function_stays}
use Rattle.bit_compile.proofs.Folding.{joined_as}
use Rattle.bit_compile.proofs.CyclesLemmas.{values-cases}
use Rattle.bit_compile.proofs.EntryLemmas.{functions_of}
use Rattle.bit_compile.proofs.Pairing.{seen_are, seen_values}
use Rattle.bit_compile.proofs.Causes.{cause_join, cause_never, cause_not, no_name}
use Rattle.bit_compile.proofs.NamedCases.{named_wider}
use Rattle.bit_compile.proofs.NamedFormulas.{cases_named, either, either_named, members_named, part_named}
use Rattle.bit_compile.proofs.Outcomes.{cases_among, cases_back, made_wider, named_among, named_back, pairs_made, results_made}

-- ---- a formula that is read otherwise

pub two_read : (con : Formula → Formula → Formula) (e : Formula) (a b x y : Expr) → e ≡ con (formula a) (formula b) → a ≡ x → b ≡ y → e ≡ con (formula x) (formula y)
two_read con e a b x y is first second = is ∙ (ap (λ (z : Expr). con (formula z) (formula b)) first ∙ ap (λ (z : Expr). con (formula x) (formula z)) second)

module _ (s : Scene) (at : At) (old new : Contents) where
  pub truth_as : (r : Result ℕ Halt) (e f : Formula) → e ≡ f → MakesNamed old new r (truth_seen s at f) (IsNamedIn s at f) → MakesNamed old new r (truth_seen s at e) (IsNamedIn s at e)
  truth_as r e f is made = subst (λ (x : Formula). MakesNamed old new r (truth_seen s at x) (IsNamedIn s at x)) (sym is) made

  pub cases_as : (r : Result (Vec CaseRoot Global) Halt) (e f : Formula) → e ≡ f → MakesCases old new r (cases_seen s at f) (IsNamedIn s at f) → MakesCases old new r (cases_seen s at e) (IsNamedIn s at e)
  cases_as r e f is made = subst (λ (x : Formula). MakesCases old new r (cases_seen s at x) (IsNamedIn s at x)) (sym is) made

  -- a truth value as cases
  pub both_made : (r : Result (Vec CaseRoot Global) Halt) (e f : Formula) → e ≡ f → cases_seen s at f ≡ both_truths (truth_seen s at f) → MakesCases old new r (both_truths (truth_seen s at e)) (IsNamedIn s at e) → MakesCases old new r (cases_seen s at e) (IsNamedIn s at e)
  both_made r e f is both made =
      let same : both_truths (truth_seen s at e) ≡ cases_seen s at e = ap (λ (d : Formula). both_truths (truth_seen s at d)) is ∙ (sym both ∙ ap (λ (d : Formula). cases_seen s at d) (sym is)) in
      subst (λ (cs : List Case). MakesCases old new r cs (IsNamedIn s at e)) same made

  -- one truth value everywhere
  pub constant_as : (r : Result ℕ Halt) (b : Bool) (e f : Formula) → e ≡ f → (λ bits. b) ≡ truth_seen s at f → Makes old new r (λ bits. b) → (r ≡ Err halt.Budget → ⊥) → MakesNamed old new r (truth_seen s at e) (IsNamedIn s at e)
  constant_as r b e f is same made never = truth_as r e f is (record { made = subst (λ (g : Function). Makes old new r g) same made; cause = cause_never old new r (IsNamedIn s at f) never })

  -- several members together
  pub members_as : (r : Result ℕ Halt) (how : Fold) (es : Formulas) (e : Formula) → ((f : Function) → AreOfFormulas (game_seen s) (entries_seen s) at es f → IsNamedIn s at e f) → ((f : Function) → IsFirstOf how (truths_in (game_seen s) (entries_seen s) at es) f → IsNamedIn s at e f) →
      MakesNamed old new r (folded how (truths_in (game_seen s) (entries_seen s) at es)) (either (AreNamedIn s at es) (IsFirstOf how (truths_in (game_seen s) (entries_seen s) at es))) → MakesNamed old new r (folded how (truths_in (game_seen s) (entries_seen s) at es)) (IsNamedIn s at e)
  members_as r how es e members first made =
      let fs = truths_in (game_seen s) (entries_seen s) at es in
      let all = either_named (AreOfFormulas (game_seen s) (entries_seen s) at es) (IsOfTablesIn s) (IsNamedIn s at e) members (λ f is. inr is) in
      made_wider (either (AreNamedIn s at es) (IsFirstOf how fs)) (IsNamedIn s at e) (either_named (AreNamedIn s at es) (IsFirstOf how fs) (IsNamedIn s at e) all first) old new r (folded how fs) made

module _ (s : Scene) (at : At) (old mid whole new : Contents) (nodes : SameNodes whole new) where
  -- ---- a root was made on the way

  module _ (root : ℕ) (back : AddsRoot new.state whole.state root) where
    pub negated_made : (e : Formula) (r : Result ℕ Halt) → Makes old mid (Ok root) (truth_seen s at e) → MakesOnce mid whole r (negated (function_at mid root)) (IsNegatedPart (diagram_of mid.state root)) → MakesNamed old new r (is_not (truth_seen s at e)) (IsNamedIn s at e)
    negated_made e r first once =
        let truth = truth_seen s at e in
        let named = IsNamedIn s at e in
        let then : MakesNamed mid whole r (is_not truth) NoFunction = record {
          made = subst (λ (g : Function). Makes mid whole r (is_not g)) first.meaning once.makes;
          cause = cause_not mid whole root (is_not (function_at mid root)) NoFunction r (is_root old mid root truth first) once;
        } in
        named_back NoFunction named (no_name named) old mid root truth first (inl (inl (inl refl))) whole new back nodes r (is_not truth) then

    pub implied_made : (a b : Formula) (r : Result ℕ Halt) → Makes old mid (Ok root) (is_not (truth_seen s at a)) → MakesNamed mid whole r (λ bits. function_at mid root bits || truth_seen s at b bits) (IsNamedIn s at b) → MakesNamed old new r (implied (truth_seen s at a) (truth_seen s at b)) (IsNamedIn s at (Implication a b))
    implied_made a b r first then =
        let other = is_not (truth_seen s at a) in
        let named = IsNamedIn s at (Implication a b) in
        let is = subst (λ (g : Function). MakesNamed mid whole r (λ bits. g bits || truth_seen s at b bits) (IsNamedIn s at b)) first.meaning then in
        named_back (IsNamedIn s at b) named (part_named s at b b named (λ f is. inl (inr (inr is))) (λ f is. inr is)) old mid root other first (inl (inr (inl (inl (inr refl)))))
        whole new back nodes r (λ bits. other bits || truth_seen s at b bits) is

    pub or_made : (n : ℕ) (e : Formula) (r : Result ℕ Halt) → IsRoot old.state n → Makes old mid (Ok root) (truth_seen s at e) →
        MakesOnce mid whole r (joined (join_of false) (function_at mid n) (function_at mid root)) (IsJoinOfParts (join_of false) (diagram_of mid.state n) (diagram_of mid.state root)) →
        MakesNamed old new r (λ bits. function_at old n bits || truth_seen s at e bits) (IsNamedIn s at e)
    or_made n e r kept first once =
        let truth = truth_seen s at e in
        let named = IsNamedIn s at e in
        let is = joined_as (join_of false) (function_at old n) (function_at mid n) truth (function_at mid root) (function_stays old mid n first.keeps kept) first.meaning in
        let then : MakesNamed mid whole r (joined (join_of false) (function_at old n) truth) NoFunction = record {
          made = subst (λ (g : Function). Makes mid whole r g) is once.makes;
          cause = cause_join false mid whole n root (joined (join_of false) (function_at mid n) (function_at mid root)) NoFunction r (root_added old mid root truth first n kept) (is_root old mid root truth first) once;
        } in
        named_back NoFunction named (no_name named) old mid root truth first (inl (inl (inl refl))) whole new back nodes r (joined (join_of false) (function_at old n) truth) then

    pub equivalent_made : (a b : Formula) (r : Result ℕ Halt) → Makes old mid (Ok root) (truth_seen s at a) → MakesNamed mid whole r (same_truth (function_at mid root) (truth_seen s at b)) (IsNamedOr s at b (IsOfSame (function_at mid root) (truth_seen s at b))) → MakesNamed old new r (same_truth (truth_seen s at a) (truth_seen s at b)) (IsNamedIn s at (Equivalence a b))
    equivalent_made a b r first then =
        let f = truth_seen s at a in
        let g = truth_seen s at b in
        let named = IsNamedIn s at (Equivalence a b) in
        let right = part_named s at b b named (λ f is. inl (inr (inl (inr is)))) (λ f is. inr is) in
        let is = subst (λ (h : Function). MakesNamed mid whole r (same_truth h g) (IsNamedOr s at b (IsOfSame h g))) first.meaning then in
        named_back (IsNamedOr s at b (IsOfSame f g)) named (either_named (IsNamedIn s at b) (IsOfSame f g) named right (λ f is. inl (inr (inr is)))) old mid root f first (inl (inr (inl (inl (inl (inl refl))))))
        whole new back nodes r (same_truth f g) is

    pub same_made : (n : ℕ) (e : Formula) (r : Result ℕ Halt) → IsRoot old.state n → Makes old mid (Ok root) (truth_seen s at e) → MakesNamed mid whole r (same_truth (function_at mid n) (function_at mid root)) (IsOfSame (function_at mid n) (function_at mid root)) → MakesNamed old new r (same_truth (function_at old n) (truth_seen s at e)) (IsNamedOr s at e (IsOfSame (function_at old n) (truth_seen s at e)))
    same_made n e r kept first then =
        let f = function_at old n in
        let truth = truth_seen s at e in
        let same : Function → Function → Type 0 = λ f g. MakesNamed mid whole r (same_truth f g) (IsOfSame f g) in
        let one = subst (λ (h : Function). same h (function_at mid root)) (function_stays old mid n first.keeps kept) then in
        named_back (IsOfSame f truth) (IsNamedOr s at e (IsOfSame f truth)) (λ f is. inr is) old mid root truth first (inl (inl (inl (inl refl)))) whole new back nodes r (same_truth f truth) (subst (same f) first.meaning one)

    pub both_made_with : (e : Formula) (r : Result (Vec CaseRoot Global) Halt) → Makes old mid (Ok root) (truth_seen s at e) → MakesCases mid whole r (both_truths (function_at mid root)) (IsTruth (function_at mid root)) → MakesCases old new r (both_truths (truth_seen s at e)) (IsNamedIn s at e)
    both_made_with e r first then =
        let truth = truth_seen s at e in
        cases_back (IsTruth truth) (IsNamedIn s at e) (λ f is. inl (inl is)) old mid root truth first (inl (inl (inl refl))) whole new back nodes r (both_truths truth) (subst (λ (f : Function). MakesCases mid whole r (both_truths f) (IsTruth f)) first.meaning then)

  -- ---- cases were made on the way

  module _ (items seen : List CaseRoot) (read : seen ≡ items) (back : (n : ℕ) → roots_at whole.state n ≡ roots_at new.state n + roots_in items n) (keeps : KeepsRoots old mid) where
    pub joined_made : (how : Fold) (es : Formulas) (r : Result ℕ Halt) → AddsCases old mid items (true_cases (truths_in (game_seen s) (entries_seen s) at es)) →
        MakesNamed mid whole r (folded how (map (λ (x : CaseRoot). function_at mid x.root) seen)) (IsFirstOf how (map (λ (x : CaseRoot). function_at mid x.root) seen)) →
        MakesNamed old new r (folded how (truths_in (game_seen s) (entries_seen s) at es)) (either (AreNamedIn s at es) (IsFirstOf how (truths_in (game_seen s) (entries_seen s) at es)))
    joined_made how es r adds then =
        let fs = truths_in (game_seen s) (entries_seen s) at es in
        let cs : List Case = true_cases fs in
        let named = either (AreNamedIn s at es) (IsFirstOf how fs) in
        let is = subst (λ (hs : List Function). MakesNamed mid whole r (folded how hs) (IsFirstOf how hs)) (functions_of mid seen fs (seen_are old mid items seen cs adds keeps read)) then in
        named_among old mid items seen cs adds keeps read (IsFirstOf how fs) named (λ f is. inr is) (named_wider (AreOfFormulas (game_seen s) (entries_seen s) at es) named (λ f is. inl (inl is)) cs (members_named (game_seen s) (entries_seen s) at es))
        whole new back nodes r (folded how fs) is

    module _ (a : Formula) (adds : AddsCases old mid items (cases_seen s at a)) where
      -- the cases of a formula are named wherever its parts are
      held_as : (N : Function → Type 0) → ((f : Function) → IsOfFormula (game_seen s) (entries_seen s) at a f → N f) → AllByRecursion (λ (x : Case). N x.holds) (cases_seen s at a)
      held_as N wider = named_wider (IsOfFormula (game_seen s) (entries_seen s) at a) N wider (cases_seen s at a) (cases_named (game_seen s) (entries_seen s) at a)

      are : cases_at mid seen ≡ cases_seen s at a
      are = seen_are old mid items seen (cases_seen s at a) adds keeps read

      values : map (λ (x : CaseRoot). x.value) seen ≡ values_in (game_seen s) a
      values = seen_values old mid items seen (cases_seen s at a) adds keeps read (values_in (game_seen s) a) (values-cases (game_seen s) (entries_seen s) at a)

      pub compared_made : (c : Compare) (b : Formula) (r : Result ℕ Halt) → MakesNamed mid whole r (some_pair (passes (test.Compared c)) (cases_at mid seen) (cases_seen s at b)) (IsNamedOr s at b (IsOfPairs (passes (test.Compared c)) (cases_at mid seen) (cases_seen s at b))) → MakesNamed old new r (truth_seen s at (Comparison c a b)) (IsNamedIn s at (Comparison c a b))
      compared_made c b r then =
          let xs : List Case = cases_seen s at a in
          let ys : List Case = cases_seen s at b in
          let passing = passes (test.Compared c) in
          let named = IsNamedIn s at (Comparison c a b) in
          let right = part_named s at b b named (λ f is. inl (inr (inl (inr is)))) (λ f is. inr is) in
          let is = subst (λ (cs : List Case). MakesNamed mid whole r (some_pair passing cs ys) (IsNamedOr s at b (IsOfPairs passing cs ys))) are then in
          named_among old mid items seen xs adds keeps read (IsNamedOr s at b (IsOfPairs passing xs ys)) named (either_named (IsNamedIn s at b) (IsOfPairs passing xs ys) named right (λ f is. inl (inr (inr is)))) (held_as named (λ f is. inl (inr (inl (inl is)))))
          whole new back nodes r (some_pair passing xs ys) is

      pub compared_with_made : (c : Compare) (kept : List CaseRoot) (r : Result ℕ Halt) → AreKept old.state kept → MakesNamed mid whole r (some_pair (passes (test.Compared c)) (cases_at mid kept) (cases_at mid seen)) (IsOfPairs (passes (test.Compared c)) (cases_at mid kept) (cases_at mid seen)) →
          MakesNamed old new r (some_pair (passes (test.Compared c)) (cases_at old kept) (cases_seen s at a)) (IsNamedOr s at a (IsOfPairs (passes (test.Compared c)) (cases_at old kept) (cases_seen s at a)))
      compared_with_made c kept r still then =
          let ys : List Case = cases_seen s at a in
          let passing = passes (test.Compared c) in
          let pairs = IsOfPairs passing (cases_at old kept) ys in
          let named = IsNamedOr s at a pairs in
          named_among old mid items seen ys adds keeps read pairs named (λ f is. inr is) (held_as named (λ f is. inl (inl is))) whole new back nodes r (some_pair passing (cases_at old kept) ys)
          (pairs_made old mid items seen ys adds keeps read whole kept still passing r then)

      pub operated_made : (op : Operation) (b : Formula) (r : Result (Vec CaseRoot Global) Halt) →
          MakesCases mid whole r (results op (cases_at mid seen) (cases_seen s at b) (values_of (span_of op (map (λ (x : CaseRoot). x.value) seen) (values_in (game_seen s) b))))
          (IsNamedOr s at b (IsOfResults op (cases_at mid seen) (cases_seen s at b) (values_of (span_of op (map (λ (x : CaseRoot). x.value) seen) (values_in (game_seen s) b))))) →
          MakesCases old new r (operated_cases (game_seen s) (entries_seen s) at op a b) (IsOfOperated s at op a b)
      operated_made op b r then =
          let xs : List Case = cases_seen s at a in
          let ys : List Case = cases_seen s at b in
          let vs : List Value → List Value = λ ws. values_of (span_of op ws (values_in (game_seen s) b)) in
          let step : List Case → List Value → Function → Type 0 = λ cs ws. IsNamedOr s at b (IsOfResults op cs ys (vs ws)) in
          let made : List Case → List Value → Type 0 = λ cs ws. MakesCases mid whole r (results op cs ys (vs ws)) (step cs ws) in
          let is = subst (λ (cs : List Case). made cs (values_in (game_seen s) a)) are (subst (made (cases_at mid seen)) values then) in
          let named = IsOfOperated s at op a b in
          cases_among old mid items seen xs adds keeps read (step xs (values_in (game_seen s) a)) named (λ f is. inr is) (held_as named (λ f is. inl (inl is))) whole new back nodes r (operated_cases (game_seen s) (entries_seen s) at op a b) is

      pub operated_with_made : (op : Operation) (kept : List CaseRoot) (r : Result (Vec CaseRoot Global) Halt) → AreKept old.state kept →
          MakesCases mid whole r (results op (cases_at mid kept) (cases_at mid seen) (values_of (span_of op (map (λ (x : CaseRoot). x.value) kept) (map (λ (x : CaseRoot). x.value) seen))))
          (IsOfResults op (cases_at mid kept) (cases_at mid seen) (values_of (span_of op (map (λ (x : CaseRoot). x.value) kept) (map (λ (x : CaseRoot). x.value) seen)))) →
          MakesCases old new r (results op (cases_at old kept) (cases_seen s at a) (values_of (span_of op (map (λ (x : CaseRoot). x.value) kept) (values_in (game_seen s) a))))
          (IsNamedOr s at a (IsOfResults op (cases_at old kept) (cases_seen s at a) (values_of (span_of op (map (λ (x : CaseRoot). x.value) kept) (values_in (game_seen s) a)))))
      operated_with_made op kept r still then =
          let ys : List Case = cases_seen s at a in
          let vs = values_of (span_of op (map (λ (x : CaseRoot). x.value) kept) (values_in (game_seen s) a)) in
          let step = IsOfResults op (cases_at old kept) ys vs in
          let named = IsNamedOr s at a step in
          cases_among old mid items seen ys adds keeps read step named (λ f is. inr is) (held_as named (λ f is. inl (inl is))) whole new back nodes r (results op (cases_at old kept) ys vs)
          (results_made old mid items seen ys adds keeps read whole kept still op (values_in (game_seen s) a) r (values-cases (game_seen s) (entries_seen s) at a) then)

      pub remainders_made : (n z : ℤ) (r : Result (Vec CaseRoot Global) Halt) → z ≡ n →
          MakesCases mid whole r (results Mod (cases_at mid seen) (only (value.Int z)) (values_of (span_of Mod (map (λ (x : CaseRoot). x.value) seen) (value.Int z ∷ []))))
          (IsOfRemainders (cases_at mid seen) z (values_of (span_of Mod (map (λ (x : CaseRoot). x.value) seen) (value.Int z ∷ [])))) →
          MakesCases old new r (cases_seen s at (Remainder a n)) (IsNamedIn s at (Remainder a n))
      remainders_made n z r fits then =
          let xs : List Case = cases_seen s at a in
          let named = IsNamedIn s at (Remainder a n) in
          let vs : List Value → ℤ → List Value = λ ws k. values_of (span_of Mod ws (value.Int k ∷ [])) in
          let made : List Case → List Value → ℤ → Type 0 = λ cs ws k. MakesCases mid whole r (results Mod cs (only (value.Int k)) (vs ws k)) (IsOfRemainders cs k (vs ws k)) in
          let one = subst (λ (ws : List Value). made (cases_at mid seen) ws n) values (subst (made (cases_at mid seen) (map (λ (x : CaseRoot). x.value) seen)) fits then) in
          let is = subst (λ (cs : List Case). made cs (values_in (game_seen s) a) n) are one in
          cases_among old mid items seen xs adds keeps read (IsOfRemainders xs n (vs (values_in (game_seen s) a) n)) named (λ f is. inl (inr (inr is))) (held_as named (λ f is. inl (inr (inl is)))) whole new back nodes r (cases_seen s at (Remainder a n)) is
