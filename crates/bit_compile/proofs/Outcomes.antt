-- Outcomes of calls, from those of the calls that they make: what is made, what is left, and what is named.
use Rattle.std.proofs.Common.{◌≡◌, ℕ, ◌+◌, Bool, List, Vec, map, Result, Ok, Err, refl, sym, ap, subst}
use Rattle.std.specs.declared.alloc.Global.{Global}
use Rattle.std.specs.List.{AllByRecursion}
use Rattle.spec_model.specs.declared.value.Value.{Value}
use Rattle.spec_model.specs.Values.{values_of}
use Rattle.spec_model.specs.Diagrams.{Function}
use Rattle.bdd_store.specs.State.{roots_at, AddsRoot}
use Rattle.bdd_bits.specs.Contents.{Contents}
use Rattle.bdd_bits.specs.Calls.{KeepsRoots, SameNodes}
use Rattle.regions.specs.declared.types.Halt.{Halt}
use Rattle.bit_compile.specs.declared.cases.CaseRoot.{CaseRoot}
use Rattle.bit_compile.specs.declared.operation.Operation.{Operation}
use Rattle.bit_compile.specs.Making.{Makes}
use Rattle.bit_compile.specs.Crowding.{HasCause, MakesNamed}
use Rattle.bit_compile.specs.Compiled.{Case, results, some_pair, span_of}
use Rattle.bit_compile.specs.CaseRoots.{cases_at, roots_in, AreKept, AddsCases, Leaves, MakesCases}
use Rattle.bit_compile.specs.Named.{IsOfPairs, IsOfResults}
use Rattle.bit_compile.proofs.MakingLemmas.{given_back}
use Rattle.bit_compile.proofs.Between.{between_root, cases_stay, cases_through, halt_or, leaves_between, makes_refusal}
use Rattle.bit_compile.proofs.Pairing.{cases_with, made_leaves, made_through, seen_are, seen_values}
use Rattle.bit_compile.proofs.Causes.{cause_among, cause_back, cause_handed, cause_wider}

-- ---- more is named

module _ (M N : Function → Type 0) (wider : (f : Function) → M f → N f) (old new : Contents) where
  pub made_wider : (r : Result ℕ Halt) (g : Function) → MakesNamed old new r g M → MakesNamed old new r g N
  made_wider r g whole = record { made = whole.made; cause = cause_wider M N wider old new r whole.cause }

  pub cases_wider : (r : Result (Vec CaseRoot Global) Halt) (cs : List Case) → MakesCases old new r cs M → MakesCases old new r cs N
  cases_wider r cs whole = record { made = whole.made; leaves = whole.leaves; cause = cause_wider M N wider old new r whole.cause }

-- ---- a refusal that is handed on, of one call by another

pub makes_leaves : (old new : Contents) (r : Result ℕ Halt) (f : Function) → Makes old new r f → Leaves old new r
makes_leaves old new r f makes = record { refused = makes.refused; keeps = makes.keeps; full = makes.full }

leaves_handed : {V W : Type 0} (old new : Contents) (h : Halt) → Leaves {V = V} old new (Err h) → Leaves {V = W} old new (Err h)
leaves_handed old new h leaves = record { refused = leaves.refused; keeps = leaves.keeps; full = λ e. leaves.full (ap (λ (k : Halt). Err k) (ap (halt_or h) e)) }

module _ {V : Type 0} (old new : Contents) (r : Result V Halt) (h : Halt) (N : Function → Type 0) (is : r ≡ Err h) (leaves : Leaves old new r) (cause : HasCause old new r N) where
  left : Leaves {V = V} old new (Err h)
  left = subst (λ (x : Result V Halt). Leaves old new x) is leaves

  pub cases_handed : (r' : Result (Vec CaseRoot Global) Halt) (cs : List Case) → r' ≡ Err h → MakesCases old new r' cs N
  cases_handed r' cs is' =
      let whole : MakesCases old new (Err h) cs N = record { made = tt; leaves = leaves_handed old new h left; cause = cause_handed old new r (Err h) h N is refl cause } in
      subst (λ (x : Result (Vec CaseRoot Global) Halt). MakesCases old new x cs N) (sym is') whole

  pub named_handed : (r' : Result ℕ Halt) (f : Function) → r' ≡ Err h → MakesNamed old new r' f N
  named_handed r' f is' =
      let whole : MakesNamed old new (Err h) f N = record { made = makes_refusal old new h f left; cause = cause_handed old new r (Err h) h N is refl cause } in
      subst (λ (x : Result ℕ Halt). MakesNamed old new x f N) (sym is') whole

-- ---- a root that was made on the way is given back

module _ (M N : Function → Type 0) (wider : (f : Function) → M f → N f) (old mid : Contents) (b : ℕ) (g : Function) (first : Makes old mid (Ok b) g) (named : N g)
    (whole new : Contents) (back : AddsRoot new.state whole.state b) (nodes : SameNodes whole new) where
  pub named_back : (r : Result ℕ Halt) (f : Function) → MakesNamed mid whole r f M → MakesNamed old new r f N
  named_back r f then =
      record {
        made = given_back old mid whole new b g f first back nodes r then.made;
        cause = cause_back M N wider old mid b g first named whole new r nodes then.cause;
      }

  pub cases_back : (r : Result (Vec CaseRoot Global) Halt) (cs : List Case) → MakesCases mid whole r cs M → MakesCases old new r cs N
  cases_back r cs then =
      let between = between_root old mid b g first in
      record {
        made = cases_through (λ (v : Vec CaseRoot Global). v.items) old mid whole new _ r cs cs between then.made refl back nodes;
        leaves = leaves_between old mid whole new _ between back nodes r then.leaves;
        cause = cause_back M N wider old mid b g first named whole new r nodes then.cause;
      }

-- ---- cases that were made on the way are read as `seen`, and given back

module _ (old mid : Contents) (made seen : List CaseRoot) (cs : List Case) (adds : AddsCases old mid made cs) (keeps : KeepsRoots old mid) (same : seen ≡ made) where
  module _ (M N : Function → Type 0) (wider : (f : Function) → M f → N f) (named : AllByRecursion (λ (x : Case). N x.holds) cs)
      (whole new : Contents) (back : (n : ℕ) → roots_at whole.state n ≡ roots_at new.state n + roots_in made n) (nodes : SameNodes whole new) where
    pub named_among : (r : Result ℕ Halt) (f : Function) → MakesNamed mid whole r f M → MakesNamed old new r f N
    named_among r f then =
        record {
          made = made_through old mid made seen cs adds keeps same whole new back nodes r f f then.made refl;
          cause = cause_among M N wider old mid made cs adds keeps named whole new r nodes then.cause;
        }

    pub cases_among : (r : Result (Vec CaseRoot Global) Halt) (ds : List Case) → MakesCases mid whole r ds M → MakesCases old new r ds N
    cases_among r ds then =
        record {
          made = cases_with old mid made seen cs adds keeps same whole new back nodes (λ (v : Vec CaseRoot Global). v.items) r ds ds then.made refl;
          leaves = made_leaves old mid made seen cs adds keeps same whole new back nodes r then.leaves;
          cause = cause_among M N wider old mid made cs adds keeps named whole new r nodes then.cause;
        }

  module _ (whole : Contents) (kept : List CaseRoot) (still : AreKept old.state kept) where
    are : cases_at mid seen ≡ cs
    are = seen_are old mid made seen cs adds keeps same

    -- pairs of what was kept and of what was made
    pub pairs_made : (t : Value → Value → Bool) (r : Result ℕ Halt) → MakesNamed mid whole r (some_pair t (cases_at mid kept) (cases_at mid seen)) (IsOfPairs t (cases_at mid kept) (cases_at mid seen)) → MakesNamed mid whole r (some_pair t (cases_at old kept) cs) (IsOfPairs t (cases_at old kept) cs)
    pairs_made t r then =
        subst (λ (ds : List Case). MakesNamed mid whole r (some_pair t (cases_at old kept) ds) (IsOfPairs t (cases_at old kept) ds)) are
        (subst (λ (ds : List Case). MakesNamed mid whole r (some_pair t ds (cases_at mid seen)) (IsOfPairs t ds (cases_at mid seen))) (cases_stay old mid kept keeps still) then)

    -- results of both
    pub results_made : (op : Operation) (bs : List Value) (r : Result (Vec CaseRoot Global) Halt) → map (λ (d : Case). d.value) cs ≡ bs →
        MakesCases mid whole r (results op (cases_at mid kept) (cases_at mid seen) (values_of (span_of op (map (λ (x : CaseRoot). x.value) kept) (map (λ (x : CaseRoot). x.value) seen))))
        (IsOfResults op (cases_at mid kept) (cases_at mid seen) (values_of (span_of op (map (λ (x : CaseRoot). x.value) kept) (map (λ (x : CaseRoot). x.value) seen)))) →
        MakesCases mid whole r (results op (cases_at old kept) cs (values_of (span_of op (map (λ (x : CaseRoot). x.value) kept) bs))) (IsOfResults op (cases_at old kept) cs (values_of (span_of op (map (λ (x : CaseRoot). x.value) kept) bs)))
    results_made op bs r is then =
        let vs : List Value = map (λ (x : CaseRoot). x.value) kept in
        let of : List Case → List Case → List Value → Type 0 = λ as' ds ws. MakesCases mid whole r (results op as' ds (values_of (span_of op vs ws))) (IsOfResults op as' ds (values_of (span_of op vs ws))) in
        subst (λ (ds : List Case). of (cases_at old kept) ds bs) are
        (subst (λ (ds : List Case). of ds (cases_at mid seen) bs) (cases_stay old mid kept keeps still)
        (subst (λ (ws : List Value). of (cases_at mid kept) (cases_at mid seen) ws) (seen_values old mid made seen cs adds keeps same bs is) then))
