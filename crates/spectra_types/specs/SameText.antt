-- That a specification says what a text says: the same variables, patterns and lines, in which formulas have the values of
-- expressions.
use Rattle.std.specs.Prelude.{◌≡◌, ℕ, suc, ℤ, pos, List, [], ◌∷◌, Some, flat_map, option_map, slice_get, take, drop}
use Rattle.spec_model.specs.declared.value.Value.TheVariants as value
use Rattle.spec_model.specs.Values.{DomainData, TruthValues, WholeNumbers, Enumeration}
use Rattle.spec_model.specs.Syntax.{Formula, Regular, Regulars, VariableData, Content, Statement, PatternData, TriggerData, Specification}
use Rattle.spec_model.specs.Meaning.{Reading, value_at}
use Rattle.spectra_resolved.specs.declared.spot.Spot.{Spot}
use Rattle.spectra_resolved.specs.declared.text.PatternUse.TheVariants as uses
use Rattle.spectra_resolved.specs.Resolved.{ResolvedTree, ResolvedRegex, ResolvedRegexes}
use Rattle.spectra_resolved.specs.Texts.{ResolvedType, Booleans, RangeOf, EnumOf, TypeNumber, ResolvedVariable, ResolvedAlias, ResolvedDefinition, ResolvedPatternLine, ResolvedPattern, ResolvedBody, ResolvedLine, ResolvedText}
use Rattle.spectra_cases.specs.Formulas.{numbers_below}
use Rattle.spectra_types.specs.Meanings.{element_name}
use Rattle.spectra_types.specs.Senses.{Senses, sense, AreOf, AreInPattern}
use Rattle.spectra_types.specs.Conditions.{FitsText}

-- ---- expressions

-- the formula has the value of the expression at each position
abbrev pub HasSense : Reading → Senses → ResolvedTree → Formula → Type 0
HasSense r s t e = (p : ℕ) → value_at r e p ≡ sense s t p

-- as many formulas have those of as many expressions
abbrev pub HaveSenses : Reading → Senses → List ResolvedTree → List Formula → Type 0
HaveSenses r s [] [] = Unit {0}
HaveSenses r s (t ∷ ts) (e ∷ es) = HasSense r s t e × HaveSenses r s ts es
HaveSenses r s _ _ = ⊥

-- the same regular expression, in each bracket of which the formula has the value of the expression
abbrev mutual
  pub IsSame : Reading → Senses → ResolvedRegex → Regular → Type 0
  IsSame r s (ResolvedRegex.Atom t) (Regular.Atom e) = HasSense r s t e
  IsSame r s (ResolvedRegex.Sequence xs) (Regular.Sequence ys) = AreSame r s xs ys
  IsSame r s (ResolvedRegex.Choice xs) (Regular.Choice ys) = AreSame r s xs ys
  IsSame r s (ResolvedRegex.Repetition x times) (Regular.Repetition y low high) = IsSame r s x y × (times.least ≡ pos low) × (times.most ≡ option_map pos high)
  IsSame r s _ _ = ⊥

  pub AreSame : Reading → Senses → ResolvedRegexes → Regulars → Type 0
  AreSame r s ResolvedRegexes.none Regulars.none = Unit {0}
  AreSame r s (ResolvedRegexes.one_more x xs) (Regulars.one_more y ys) = IsSame r s x y × AreSame r s xs ys
  AreSame r s _ _ = ⊥

-- ---- types

-- the expression has this number at each position, whatever each variable has
abbrev pub IsNumber : List ResolvedDefinition → ResolvedTree → ℤ → Type 0
IsNumber ds t z = (r : Reading) (s : Senses) → AreOf ds r s → (p : ℕ) → sense s t p ≡ value.Int z

-- the domain of a type, which may be a name of another type
pub data IsDomainOf (text : ResolvedText) : ResolvedType → DomainData → Type 0 where
  truth : IsDomainOf text Booleans TruthValues
  range : (at : Spot) (low high : ResolvedTree) (from to : ℤ) → IsNumber text.definitions low from → IsNumber text.definitions high to → IsDomainOf text (RangeOf at low high) (WholeNumbers from to)
  enum : (names : List ℕ) → IsDomainOf text (EnumOf names) (Enumeration names)
  named : (k : ℕ) (a : ResolvedAlias) (d : DomainData) → slice_get text.types k ≡ Some a → IsDomainOf text a.body d → IsDomainOf text (TypeNumber k) d

abbrev pub AreDomainsOf : ResolvedText → List ResolvedType → List DomainData → Type 0
AreDomainsOf text [] [] = Unit {0}
AreDomainsOf text (t ∷ ts) (d ∷ ds) = IsDomainOf text t d × AreDomainsOf text ts ds
AreDomainsOf text _ _ = ⊥

-- a variable, or the numbered element of an array
pub record IsElementOf (text : ResolvedText) (v : ResolvedVariable) (number : ℕ) (w : VariableData) : Type 0 where
  pub name : w.name ≡ element_name v number
  pub owner : w.owner ≡ v.owner
  pub domain : IsDomainOf text v.domain w.domain

abbrev pub AreElementsOf : ResolvedText → ResolvedVariable → (numbers : List ℕ) → List VariableData → Type 0
AreElementsOf text v [] [] = Unit {0}
AreElementsOf text v (i ∷ is) (w ∷ ws) = IsElementOf text v i w × AreElementsOf text v is ws
AreElementsOf text v _ _ = ⊥

-- each variable, or each element of an array, stands in text order
abbrev pub AreVariablesOf : ResolvedText → List ResolvedVariable → List VariableData → Type 0
AreVariablesOf text [] [] = Unit {0}
AreVariablesOf text [] (w ∷ ws) = ⊥
AreVariablesOf text (v ∷ vs) ws = AreElementsOf text v (numbers_below 0 v.count) (take v.count ws) × AreVariablesOf text vs (drop v.count ws)

-- ---- lines

-- the trigger of the specification with a number
pub record IsTrigger (r : Reading) (s : Senses) (triggers : List TriggerData) (x y : ResolvedRegex) (n : ℕ) : Type 0 where
  pub trigger : TriggerData
  pub there : slice_get triggers n ≡ Some trigger
  pub cause : IsSame r s x trigger.cause
  pub effect : IsSame r s y trigger.effect

-- what a line says, where the specification has these triggers
abbrev pub SaysSame : Reading → Senses → List TriggerData → ResolvedBody → Content → Type 0
SaysSame r s triggers (ResolvedBody.Initial t) (Content.Initial e) = HasSense r s t e
SaysSame r s triggers (ResolvedBody.Safety t) (Content.Safety e) = HasSense r s t e
SaysSame r s triggers (ResolvedBody.Recurring t) (Content.Recurring e) = HasSense r s t e
SaysSame r s triggers (ResolvedBody.Trigger at cause effect) (Content.TriggerUse n) = IsTrigger r s triggers cause effect n
SaysSame r s triggers (ResolvedBody.Pattern at used ts) (Content.PatternUse k es) = (used ≡ uses.Pattern k) × HaveSenses r s ts es
SaysSame r s triggers _ _ = ⊥

-- a line with this number, whatever each variable has at each position, by what is asked of that
pub record IsLineOf (Fits : Reading → Type 0) (ds : List ResolvedDefinition) (triggers : List TriggerData) (n : ℕ) (l : ResolvedLine) (st : Statement) : Type 0 where
  pub number : st.number ≡ n
  pub name : st.name ≡ l.name
  pub role : st.role ≡ l.role
  pub content : (r : Reading) → Fits r → (s : Senses) → AreOf ds r s → SaysSame r s triggers l.body st.content

-- the lines, numbered from here on
abbrev pub AreLinesOf : (Fits : Reading → Type 0) → List ResolvedDefinition → List TriggerData → (number : ℕ) → List ResolvedLine → List Statement → Type 0
AreLinesOf Fits ds triggers n [] [] = Unit {0}
AreLinesOf Fits ds triggers n (l ∷ ls) (st ∷ sts) = IsLineOf Fits ds triggers n l st × AreLinesOf Fits ds triggers (suc n) ls sts
AreLinesOf Fits ds triggers n _ _ = ⊥

-- ---- patterns

-- the expressions of a pattern's lines, by what they begin with
abbrev pub initial_in : ResolvedPatternLine → List ResolvedTree
initial_in (ResolvedPatternLine.Initial at t) = t ∷ []
initial_in _ = []

abbrev pub safety_in : ResolvedPatternLine → List ResolvedTree
safety_in (ResolvedPatternLine.Safety at t) = t ∷ []
safety_in _ = []

abbrev pub recurring_in : ResolvedPatternLine → List ResolvedTree
recurring_in (ResolvedPatternLine.Recurring at t) = t ∷ []
recurring_in _ = []

-- what its lines say, whatever its parameters and its own variables have at each position
pub record SaysPattern (p : ResolvedPattern) (q : PatternData) (r : Reading) (s : Senses) : Type 0 where
  pub first : HaveSenses r s (flat_map initial_in p.lines) q.first
  pub step : HaveSenses r s (flat_map safety_in p.lines) q.step
  pub goals : HaveSenses r s (flat_map recurring_in p.lines) q.goals

pub record IsPatternOf (text : ResolvedText) (p : ResolvedPattern) (q : PatternData) : Type 0 where
  pub params : q.params ≡ p.params
  pub own : AreDomainsOf text p.own q.domains
  pub lines : (r : Reading) (s : Senses) → AreInPattern p.params r s → SaysPattern p q r s

abbrev pub ArePatternsOf : ResolvedText → List ResolvedPattern → List PatternData → Type 0
ArePatternsOf text [] [] = Unit {0}
ArePatternsOf text (p ∷ ps) (q ∷ qs) = IsPatternOf text p q × ArePatternsOf text ps qs
ArePatternsOf text _ _ = ⊥

-- ---- the whole

pub record SaysSameText (text : ResolvedText) (s : Specification) : Type 0 where
  pub names : s.names ≡ text.names
  pub variables : AreVariablesOf text text.variables s.variables
  pub patterns : ArePatternsOf text text.patterns s.patterns
  pub lines : AreLinesOf (FitsText text s.variables) text.definitions s.triggers 1 text.lines s.lines
