-- Named sets of formulas: those of a part among those of the whole, and those of hidden tables.
use Rattle.std.proofs.Common.{◌≡◌, ℕ, zero, suc, ◌+◌, ◌<◌, Bool, List, [], ◌∷◌, ◌++◌, append_assoc, map, length, take, drop, get_or, slice_get, Some, refl, sym, ◌∙◌, ap, subst, arith, inl, inr, ◌⊎◌}
use Rattle.std.specs.List.{AllByRecursion, Contains}
use Rattle.std.proofs.lemmas.List.{take-append-drop, take-map}
use Rattle.std.proofs.lemmas.Option.{slice_get-get_or}
use Rattle.spec_model.specs.declared.expr.Expr.{Expr}
use Rattle.spec_model.specs.declared.game.Hidden.{Hidden}
use Rattle.spec_model.specs.declared.value.Value.{Value}
use Rattle.spec_model.specs.declared.value.Value.TheVariants as value
use Rattle.spec_model.specs.Values.{DomainData, values_of, rank_of}
use Rattle.spec_model.specs.Syntax.{Formula, Constant, Variable, NextOf, Negation, Conjunction, Disjunction, Implication, Equivalence, Comparison, Sum, Difference, Product, Remainder, PastOf, Entry, Formulas}
use Rattle.spec_model.specs.Views.{formula}
use Rattle.spec_model.specs.GameViews.{hidden_data}
use Rattle.spec_model.specs.Games.{GameData, HiddenData}
use Rattle.spec_model.specs.Diagrams.{Function}
use Rattle.game_values.specs.Safety.{formulas_in}
use Rattle.game_values.specs.declared.seen.At.{At}
use Rattle.game_values.specs.declared.seen.At.TheVariants.{Now, Next}
use Rattle.bdd_bits.specs.Contents.{Contents, function_at}
use Rattle.bit_compile.specs.declared.cases.CaseRoot.{CaseRoot}
use Rattle.bit_compile.specs.declared.scenes.Scene.{Scene}
use Rattle.bit_compile.specs.declared.operation.Operation.{Operation}
use Rattle.bit_compile.specs.declared.operation.Operation.TheVariants.{Add, Sub, Mul, Mod}
use Rattle.bit_compile.specs.Domains.{state_domains}
use Rattle.bit_compile.specs.Codes.{level_at, width_at}
use Rattle.bit_compile.specs.NamedCodes.{IsOfNumber}
use Rattle.bit_compile.specs.Compiled.{Case, Entries, span_of, both_truths, cases_in, entries_of, gives, is_code, only, place_of, some_pair, truth_in, truths_in, values_in, variable_domain}
use Rattle.bit_compile.specs.CaseRoots.{cases_at, true_cases}
use Rattle.bit_compile.specs.Scenes.{IsScene, codes_seen, entries_seen, game_seen}
use Rattle.bit_compile.specs.Named.{AreOfFormulas, IsOfCoded, IsOfFormula, IsOfHidden, IsOfPairs, IsOfResults, IsOfTable, IsOfTables, IsOfUpdate}
use Rattle.bit_compile.specs.NamedScenes.{AreNamedIn, IsNamedIn, IsOfTablesIn}
use Rattle.bit_compile.proofs.CyclesLemmas.{truth_case}
use Rattle.bit_compile.proofs.Folding.{drop_next}
use Rattle.bit_compile.proofs.EntryLemmas.{functions_of}
use Rattle.bit_compile.proofs.NamedCases.{named_wider}
use Rattle.bit_compile.proofs.NamedSteps.{all_named, mapped_is, mapped_there, truths_named}
use Rattle.bit_compile.proofs.SceneLemmas.{atoms_are, atoms_seen}

module _ (g : GameData) (entries : Entries) where
  truths : (at : At) (e : Formula) → AllByRecursion (λ (x : Case). IsOfFormula g entries at e x.holds) (both_truths (truth_in g entries at e))
  truths at e = truths_named (truth_in g entries at e) (IsOfFormula g entries at e) (λ f is. inl is)

  results : (at : At) (op : Operation) (a b e : Formula) → ((f : Function) → IsOfResults op (cases_in g entries at a) (cases_in g entries at b) (values_in g e) f → IsOfFormula g entries at e f) →
      AllByRecursion (λ (x : Case). IsOfFormula g entries at e x.holds) (map (λ v. record { value = v; holds = some_pair (gives op v) (cases_in g entries at a) (cases_in g entries at b) }) (values_in g e))
  results at op a b e wider =
      let xs : List Case = cases_in g entries at a in
      let ys : List Case = cases_in g entries at b in
      named_wider (IsOfResults op xs ys (values_in g e)) (IsOfFormula g entries at e) wider _ (all_named (values_in g e) (λ v. some_pair (gives op v) xs ys) (λ v. IsOfPairs (gives op v) xs ys))

  -- where a formula has each of its values
  pub cases_named : (at : At) (e : Formula) → AllByRecursion (λ (x : Case). IsOfFormula g entries at e x.holds) (cases_in g entries at e)
  cases_named at (Constant v) = (inr refl, tt)
  cases_named at (Variable k) =
      let ds = state_domains g in
      let p = place_of g k in
      let d = variable_domain g k in
      named_wider (IsOfCoded ds at p d) (IsOfFormula g entries at (Variable k)) (λ f is. inr (inr is)) _
      (all_named (values_of d) (λ v. is_code ds at p (rank_of d v)) (λ v. IsOfNumber (level_at ds at p) (width_at ds p) (rank_of d v)))
  cases_named at (NextOf e) = cases_named Next e
  cases_named at (Negation e) = truths at (Negation e)
  cases_named at (Conjunction es) = truths at (Conjunction es)
  cases_named at (Disjunction es) = truths at (Disjunction es)
  cases_named at (Implication a b) = truths at (Implication a b)
  cases_named at (Equivalence a b) = truths at (Equivalence a b)
  cases_named at (Comparison c a b) = truths at (Comparison c a b)
  cases_named at (Sum a b) = results at Add a b (Sum a b) (λ f is. inr (inr is))
  cases_named at (Difference a b) = results at Sub a b (Difference a b) (λ f is. inr (inr is))
  cases_named at (Product a b) = results at Mul a b (Product a b) (λ f is. inr (inr is))
  cases_named at (Remainder a n) =
      let xs : List Case = cases_in g entries at a in
      let vs : List Value = values_in g (Remainder a n) in
      let ys : List Case = only (value.Int n) in
      named_wider (IsOfResults Mod xs ys vs) (IsOfFormula g entries at (Remainder a n)) (λ f is. inr (inr (inr is))) _ (all_named vs (λ v. some_pair (gives Mod v) xs ys) (λ v. IsOfPairs (gives Mod v) xs ys))
  cases_named at (PastOf op es) = truths at (PastOf op es)
  cases_named at (Entry h n) = truths at (Entry h n)

  -- where each of several formulas is true
  pub members_named : (at : At) (es : Formulas) → AllByRecursion (λ (x : Case). AreOfFormulas g entries at es x.holds) (true_cases (truths_in g entries at es))
  members_named at Formulas.none = tt
  members_named at (Formulas.one_more e es) =
      (inl (inl (inl refl)), named_wider (AreOfFormulas g entries at es) (AreOfFormulas g entries at (Formulas.one_more e es)) (λ f is. inr is) (true_cases (truths_in g entries at es)) (members_named at es))

  pub one_named : (at : At) (es : List Expr) (i : ℕ) (e : Expr) → i < length es → e ≡ get_or es i e → (f : Function) → IsOfFormula g entries at (formula e) f → AreOfFormulas g entries at (formulas_in es) f
  one_named at [] i e less is f named = absurd (omega arith)
  one_named at (x ∷ es) zero e less is f named = inl (subst (λ (y : Expr). IsOfFormula g entries at (formula y) f) is named)
  one_named at (x ∷ es) (suc i) e less is f named = inr (one_named at es i e (omega arith) is f named)

  pub first_named : (at : At) (es : List Expr) (i : ℕ) → AllByRecursion (λ (x : Case). AreOfFormulas g entries at (formulas_in es) x.holds) (map (truth_case g entries at) (take i es))
  first_named at [] zero = tt
  first_named at [] (suc i) = tt
  first_named at (x ∷ es) zero = tt
  first_named at (x ∷ es) (suc i) =
      (inl (inl (inl refl)), named_wider (AreOfFormulas g entries at (formulas_in es)) (AreOfFormulas g entries at (formulas_in (x ∷ es))) (λ f is. inr is) (map (truth_case g entries at) (take i es)) (first_named at es i))

-- ---- parts of a formula

module _ (s : Scene) (at : At) (e whole : Formula) (N : Function → Type 0) (wider : (f : Function) → IsOfFormula (game_seen s) (entries_seen s) at e f → N f) (tables : (f : Function) → IsOfTablesIn s f → N f) where
  pub part_named : (f : Function) → IsNamedIn s at e f → N f
  part_named f (inl is) = wider f is
  part_named f (inr is) = tables f is

-- ---- hidden tables

-- more tables may be read
pub tables_named : (g : GameData) (ts : List HiddenData) (k : ℕ) (f : Function) → IsOfTables g (take k ts) f → IsOfTables g ts f
tables_named g ts k f is =
    let before = is.0 in
    let h = is.1 in
    let after = is.2 in
    let all : ts ≡ before ++ h ∷ (after ++ drop k ts) = sym (take-append-drop k ts) ∙ (ap (λ (hs : List HiddenData). hs ++ drop k ts) is.3 ∙ append_assoc before (h ∷ after) (drop k ts)) in
    (before, h, after ++ drop k ts, all, is.4)

take-long : {X : Type 0} (xs : List X) (k : ℕ) → k < length xs → length (take k xs) ≡ k
take-long [] k h = absurd (omega arith)
take-long (y ∷ xs) zero h = refl
take-long (y ∷ xs) (suc k) h = ap suc (take-long xs k (omega arith))

table_at : (g : GameData) (ts : List HiddenData) (k : ℕ) (h : HiddenData) (f : Function) → k < length ts → h ≡ get_or ts k h → IsOfHidden g (entries_of g (take k ts)) k h f → IsOfTables g ts f
table_at g ts k h f less is named =
    let all : ts ≡ take k ts ++ h ∷ drop (k + 1) ts = sym (take-append-drop k ts) ∙ ap (λ (hs : List HiddenData). take k ts ++ hs) (drop_next ts k h less is) in
    (take k ts, h, drop (k + 1) ts, all, subst (λ (n : ℕ). IsOfHidden g (entries_of g (take k ts)) n h f) (sym (take-long ts k less)) named)

module _ (s b : Scene) (k : ℕ) (x : Hidden) (scene : IsScene s) (less : k < length s.hidden.now) (here : x ≡ get_or s.hidden.now k x) (game : game_seen b ≡ game_seen s) (hidden : b.hidden.now ≡ take k s.hidden.now) where
  abbrev g : GameData
  g = game_seen s

  abbrev ts : List HiddenData
  ts = map hidden_data s.hidden.now

  first_are : map hidden_data (take k s.hidden.now) ≡ take k ts
  first_are = sym (take-map hidden_data k s.hidden.now)

  at_k : (f : Function) → IsOfHidden g (entries_of g (map hidden_data (take k s.hidden.now))) k (hidden_data x) f → IsOfTablesIn s f
  at_k f is =
      table_at g ts k (hidden_data x) f (mapped_there hidden_data s.hidden.now k less) (mapped_is hidden_data s.hidden.now k x here)
      (subst (λ (hs : List HiddenData). IsOfHidden g (entries_of g hs) k (hidden_data x) f) first_are is)

  -- the atoms of a table, and what may be read before it
  pub before_named : (f : Function) → AreNamedIn b Now (formulas_in x.atoms.items) f → IsOfTablesIn s f
  before_named f (inl is) =
      let one = subst (λ (h : GameData). AreOfFormulas h (entries_of h (map hidden_data b.hidden.now)) Now (formulas_in x.atoms.items) f) game is in
      at_k f (inl (subst (λ (hs : List Hidden). AreOfFormulas g (entries_of g (map hidden_data hs)) Now (formulas_in x.atoms.items) f) hidden one))
  before_named f (inr is) =
      let one = subst (λ (h : GameData). IsOfTables h (map hidden_data b.hidden.now) f) game is in
      let two = subst (λ (hs : List Hidden). IsOfTables g (map hidden_data hs) f) hidden one in
      tables_named g ts k f (subst (λ (hs : List HiddenData). IsOfTables g hs f) first_are two)

  -- an entry of the table
  pub table_named : (c : Contents) (xs : List CaseRoot) (t : List Bool) → cases_at c xs ≡ true_cases (atoms_seen s b k x scene less here game hidden) → Contains (hidden_data x).tables t →
      (f : Function) → IsOfTable (codes_seen s) k (hidden_data x) (map (λ (y : CaseRoot). function_at c y.root) xs) t f → IsOfTablesIn s f
  table_named c xs t e there f named =
      let one = subst (λ (ds : List DomainData). IsOfTable ds k (hidden_data x) (map (λ (y : CaseRoot). function_at c y.root) xs) t f) scene.codes named in
      let fs = functions_of c xs _ e ∙ atoms_are s b k x scene less here game hidden in
      at_k f (inr (t, there, subst (λ (hs : List Function). IsOfTable (state_domains g) k (hidden_data x) hs t f) fs one))

  -- the update of the table, where all tables may be read
  pub update_named : (all : s.hidden.now ≡ s.game.now.hidden.items) (c : Contents) (xs : List CaseRoot) → cases_at c xs ≡ true_cases (atoms_seen s b k x scene less here game hidden) →
      (f : Function) → IsOfUpdate (codes_seen s) k (hidden_data x) (map (λ (y : CaseRoot). function_at c y.root) xs) f →
      (h : HiddenData) × (slice_get g.hidden k ≡ Some h) × IsOfUpdate (state_domains g) k h (map (truth_in g (entries_of g (take k g.hidden)) Now) h.atoms) f
  update_named all c xs e f named =
      let h = hidden_data x in
      let one = subst (λ (ds : List DomainData). IsOfUpdate ds k h (map (λ (y : CaseRoot). function_at c y.root) xs) f) scene.codes named in
      let fs = functions_of c xs _ e ∙ atoms_are s b k x scene less here game hidden in
      let two = subst (λ (hs : List Function). IsOfUpdate (state_domains g) k h hs f) fs one in
      let whole = ap (map hidden_data) all in
      let first = first_are ∙ ap (take k) whole in
      let there = slice_get-get_or ts k h (mapped_there hidden_data s.hidden.now k less) ∙ ap (λ (d : HiddenData). Some d) (sym (mapped_is hidden_data s.hidden.now k x here)) in (
        h,
        subst (λ (hs : List HiddenData). slice_get hs k ≡ Some h) whole there,
        subst (λ (hs : List HiddenData). IsOfUpdate (state_domains g) k h (map (truth_in g (entries_of g hs) Now) h.atoms) f) first two,
      )

-- ---- one kind of sets or another

abbrev pub either : (Function → Type 0) → (Function → Type 0) → Function → Type 0
either M N f = M f ⊎ N f

pub either_named : (L M N : Function → Type 0) → ((f : Function) → L f → N f) → ((f : Function) → M f → N f) → (f : Function) → L f ⊎ M f → N f
either_named L M N left right f (inl is) = left f is
either_named L M N left right f (inr is) = right f is

-- ---- operands and results

module _ (s : Scene) (at : At) (op : Operation) (a b whole : Formula) where
  abbrev pub given : Function → Type 0
  given = IsOfResults op (cases_in (game_seen s) (entries_seen s) at a) (cases_in (game_seen s) (entries_seen s) at b) (values_of (span_of op (values_in (game_seen s) a) (values_in (game_seen s) b)))

  pub operated_named : ((f : Function) → IsOfFormula (game_seen s) (entries_seen s) at a f → IsNamedIn s at whole f) → ((f : Function) → IsOfFormula (game_seen s) (entries_seen s) at b f → IsNamedIn s at whole f) → ((f : Function) → given f → IsNamedIn s at whole f) →
      (f : Function) → IsNamedIn s at a f ⊎ (IsNamedIn s at b f ⊎ given f) → IsNamedIn s at whole f
  operated_named left right res f (inl is) = part_named s at a whole (IsNamedIn s at whole) left (λ h t. inr t) f is
  operated_named left right res f (inr (inl is)) = part_named s at b whole (IsNamedIn s at whole) right (λ h t. inr t) f is
  operated_named left right res f (inr (inr is)) = res f is
