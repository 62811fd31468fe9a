-- The step of quantifying: what the two parts give, joined or split.
use Rattle.std.proofs.Common.{◌≡◌, ℕ, ◌<◌, inl, inr, sym, ◌∙◌, subst, refl, arith, List, [], ◌∷◌, Bool, true, false, not, ◌||◌, ◌==◌, MatchBool, IsTrue}
use Rattle.std.proofs.lemmas.Bool.Decides.{eqb_tells}
use Rattle.spec_model.specs.Diagrams.{Diagram, constant, Function, value, IsPartOf}
use Rattle.bdd_store.specs.State.{diagram_of}
use Rattle.bdd_ops.specs.Functions.{split, Join, joined, joined_over, join_of, is_among, IsQuantifier}
use Rattle.bdd_ops.specs.Reading.{Ignores, IgnoresTo}
use Rattle.bdd_ops.specs.Contents.{Contents, function_at}
use Rattle.bdd_ops.specs.Steps.{HasFunction, IsUnfinished, IsQuantifiedPart, JoinsOrSplits, joined_or_split}
use Rattle.bdd_ops.proofs.DiagramLemmas.{part_of_part}
use Rattle.bdd_ops.proofs.FunctionLemmas.{joined_over-split, joined_over-ignored, ignores-joined_over, IgnoresAll, some_is_quantifier, all_is_quantifier}

-- both ways to join are quantifiers
pub quantifier_of : (all : Bool) → IsQuantifier (join_of all)
quantifier_of true = all_is_quantifier
quantifier_of false = some_is_quantifier

-- ---- functions

-- what reads no level up to one still doesn't after levels are quantified
pub over_ignores : (all : Bool) (levels : List ℕ) (level : ℕ) (f : Function) → IgnoresTo level f → IgnoresTo level (joined_over (join_of all) levels f)
over_ignores all levels level f ignores m le = ignores-joined_over (join_of all) levels m f (ignores m le)

-- a split function quantified, from its parts quantified
pub over_whole : (all : Bool) (levels : List ℕ) (level : ℕ) (f f0 f1 low high r : Function) → f ≡ split level f0 f1 → IgnoresTo level f0 → IgnoresTo level f1 → low ≡ joined_over (join_of all) levels f0 → high ≡ joined_over (join_of all) levels f1 →
    r ≡ joined_or_split (join_of all) levels level low high → r ≡ joined_over (join_of all) levels f
over_whole all levels level f f0 f1 low high r is_f f0_ignores f1_ignores is_low is_high is_r =
    rw (is_r, is_low, is_high, is_f) (sym (joined_over-split (join_of all) (quantifier_of all) levels level f0 f1 (f0_ignores level (omega arith)) (f1_ignores level (omega arith))))

decided : (all b : Bool) → join_of all (not all) b ≡ not all
decided true b = refl
decided false b = refl

-- where the low part is the constant that decides, it is the answer
pub over_settled : (all : Bool) (levels : List ℕ) (level : ℕ) (f f0 f1 low : Function) → f ≡ split level f0 f1 → IgnoresTo level f0 → IgnoresTo level f1 → low ≡ joined_over (join_of all) levels f0 → is_among level levels ≡ true → low ≡ value (constant (not all)) →
    low ≡ joined_over (join_of all) levels f
over_settled all levels level f f0 f1 low is_f f0_ignores f1_ignores is_low among settled =
    let high : Function = joined_over (join_of all) levels f1 in
    let join_low : joined (join_of all) (value (constant (not all))) high ≡ value (constant (not all)) = λ i s. decided all (high s) i in
    let joins : low ≡ joined (join_of all) low high = rw settled (sym join_low) in
    let chosen : joined_or_split (join_of all) levels level low high ≡ joined (join_of all) low high = rw among refl in
    over_whole all levels level f f0 f1 low high low is_f f0_ignores f1_ignores is_low refl (joins ∙ sym chosen)

same_or_among : (m first : ℕ) (rest : Bool) → rest ≡ true → ((m == first) || rest) ≡ true
same_or_among m first rest among = elim (eqb_tells m first) [ inl same ↦ rw same.0 refl | inr apart ↦ rw apart.0 among ]

-- what ignores each level of a list ignores them all
pub all_ignored : (levels : List ℕ) (f : Function) → ((m : ℕ) → is_among m levels ≡ true → Ignores m f) → IgnoresAll levels f
all_ignored [] f ignores = tt
all_ignored (level ∷ levels) f ignores =
    let own : ((level == level) || is_among level levels) ≡ true = elim (eqb_tells level level) [ inl same ↦ rw same.0 refl | inr apart ↦ absurd (apart.1 refl) ] in
    (ignores level own, all_ignored levels f (λ m among. ignores m (same_or_among m level (is_among m levels) among)))

-- levels before those that it reads change nothing
pub over_free : (all : Bool) (levels : List ℕ) (f : Function) → ((m : ℕ) → is_among m levels ≡ true → Ignores m f) → joined_over (join_of all) levels f ≡ f
over_free all levels f ignores = joined_over-ignored (join_of all) (quantifier_of all) levels f (all_ignored levels f ignores)

-- ---- states

-- what may be made of a part may be made of the whole
pub unfinished_more : (join : Join) (First Second : Diagram → Type 0) → ((d : Diagram) → First d → Second d) → (d : Diagram) → IsUnfinished join First d → IsUnfinished join Second d
unfinished_more join First Second more d (inl is) = inl (more d is)
unfinished_more join First Second more d (inr made) = inr (record {
  first = made.first;
  second = made.second;
  first_is = more made.first made.first_is;
  second_is = more made.second made.second_is;
  joins = made.joins;
})

pub quantified_more : (join : Join) (levels : List ℕ) (part a d : Diagram) → IsPartOf part a → IsQuantifiedPart join levels part d → IsQuantifiedPart join levels a d
quantified_more join levels part a d within made = record { x = made.x; x_part = part_of_part made.x part a made.x_part within; is_quantified = made.is_quantified }

-- what both parts of a split function gave
pub record HasOver (c : Contents) (all : Bool) (levels : List ℕ) (level : ℕ) (f f0 f1 : Function) (IsResult : Diagram → Type 0) (low high : ℕ) : Type 0 where
  pub is_split : f ≡ split level f0 f1
  pub f0_ignores : IgnoresTo level f0
  pub f1_ignores : IgnoresTo level f1
  pub low_is : HasFunction c (joined_over (join_of all) levels f0) low
  pub high_is : HasFunction c (joined_over (join_of all) levels f1) high
  pub low_result : IsResult (diagram_of c.state low)
  pub high_result : IsResult (diagram_of c.state high)
  pub whole_result : (d : Diagram) → value d ≡ joined_over (join_of all) levels f → IsResult d

pub over_low_ignores : (c : Contents) (all : Bool) (levels : List ℕ) (level : ℕ) (f f0 f1 : Function) (IsResult : Diagram → Type 0) (low high : ℕ) → HasOver c all levels level f f0 f1 IsResult low high → IgnoresTo level (function_at c low)
over_low_ignores c all levels level f f0 f1 IsResult low high has =
    subst (λ (g : Function). IgnoresTo level g) (sym has.low_is.function) (over_ignores all levels level f0 has.f0_ignores)

pub over_high_ignores : (c : Contents) (all : Bool) (levels : List ℕ) (level : ℕ) (f f0 f1 : Function) (IsResult : Diagram → Type 0) (low high : ℕ) → HasOver c all levels level f f0 f1 IsResult low high → IgnoresTo level (function_at c high)
over_high_ignores c all levels level f f0 f1 IsResult low high has =
    subst (λ (g : Function). IgnoresTo level g) (sym has.high_is.function) (over_ignores all levels level f1 has.f1_ignores)

pub over_given : (old new : Contents) (all : Bool) (levels : List ℕ) (level : ℕ) (f f0 f1 : Function) (IsResult : Diagram → Type 0) (low high n : ℕ) → HasOver old all levels level f f0 f1 IsResult low high →
    HasFunction new (joined_or_split (join_of all) levels level (function_at old low) (function_at old high)) n → HasFunction new (joined_over (join_of all) levels f) n
over_given old new all levels level f f0 f1 IsResult low high n has given = record {
  live = given.live;
  function = over_whole all levels level f f0 f1 (function_at old low) (function_at old high) (function_at new n) has.is_split has.f0_ignores has.f1_ignores has.low_is.function has.high_is.function given.function;
}

pub over_made : (old : Contents) (all : Bool) (levels : List ℕ) (level : ℕ) (f f0 f1 : Function) (IsResult : Diagram → Type 0) (low high : ℕ) → HasOver old all levels level f f0 f1 IsResult low high →
    (d : Diagram) → JoinsOrSplits (join_of all) levels level (diagram_of old.state low) (diagram_of old.state high) d → IsUnfinished (join_of all) IsResult d
over_made old all levels level f f0 f1 IsResult low high has d made =
    elim made [
      | inl joins ↦ inr (record { first = diagram_of old.state low; second = diagram_of old.state high; first_is = has.low_result; second_is = has.high_result; joins = joins })
      | inr is ↦ inl (has.whole_result d (over_whole all levels level f f0 f1 (function_at old low) (function_at old high) (value d) has.is_split has.f0_ignores has.f1_ignores has.low_is.function has.high_is.function is))
    ]

-- a constant is free of every list
pub constant_free : (all : Bool) (levels : List ℕ) (d : Diagram) (b : Bool) → d ≡ constant b → joined_over (join_of all) levels (value d) ≡ value d
constant_free all levels d b is = over_free all levels (value d) (λ m among s v. rw is refl)

-- and a node, of one that is past
pub past_free : (levels : List ℕ) (level : ℕ) (f : Function) (past : Bool) (Below : Type 0) → (IsTrue past → (m : ℕ) → is_among m levels ≡ true → m < level) → ((m : ℕ) → m < level → Ignores m f) → Below →
    MatchBool past ((all : Bool) → joined_over (join_of all) levels f ≡ f) Below
past_free levels level f true Below before ignores below = λ all. over_free all levels f (λ m among. ignores m (before refl m among))
past_free levels level f false Below before ignores below = below
