-- One fault explains a list of tokens, and none explains one that has a tree.
use Rattle.std.proofs.Common.{◌≡◌, ℕ, zero, suc, ◌+◌, ◌<◌, List, [], ◌∷◌, ◌++◌, take, inl, inr, refl, sym, ap, subst, ◌∙◌, append_assoc, append-nil, arith}
use Rattle.spectra_exprs.specs.declared.fault.SyntaxFault.{SyntaxFault}
use Rattle.spectra_exprs.specs.declared.fault.SyntaxFault.TheVariants as faults
use Rattle.spectra_trees.specs.Data.{TreeData}
use Rattle.spectra_trees.specs.Lexemes.{Lexeme}
use Rattle.spectra_parser.specs.ItemGrammar.{Text}
use Rattle.spectra_parser.specs.Texts.{HasTree, BeginText, BeginNoText, IsRefused, OpensLevelTooMany, IsBehindPhrase, Explains}
use Rattle.spectra_parser.specs.Wholes.{AreOne}
use Rattle.spectra_parser.proofs.CountingTexts.{tree_shallow}

-- ---- places

data Order (a b : ℕ) : Type 0 where
  before : a < b → Order a b
  here : a ≡ b → Order a b
  after : b < a → Order a b

order : (a b : ℕ) → Order a b
order zero zero = Order.here refl
order zero (suc b) = Order.before (omega arith)
order (suc a) zero = Order.after (omega arith)
order (suc a) (suc b) = by (order a b)
  where
    by : Order a b → Order (suc a) (suc b)
    by (Order.before lt) = Order.before (omega (arith, lt))
    by (Order.here e) = Order.here (ap suc e)
    by (Order.after lt) = Order.after (omega (arith, lt))

-- the tokens behind a front
record Split (front whole : List Lexeme) : Type 0 where
  rest : List Lexeme
  parts : whole ≡ front ++ rest

one_longer : (ts : List Lexeme) (a b : ℕ) → a < b → Split (take (suc a) ts) (take b ts)
one_longer ts a zero lt = absurd (omega (arith, lt))
one_longer [] a (suc b) lt = record { rest = []; parts = refl }
one_longer (t ∷ ts) zero (suc b) lt = record { rest = take b ts; parts = refl }
one_longer (t ∷ ts) (suc a) (suc b) lt = let p = one_longer ts a b (omega (arith, lt)) in record { rest = p.rest; parts = ap (λ (us : List Lexeme). t ∷ us) p.parts }

longer : (ts : List Lexeme) (a b : ℕ) → a < b → Split (take (a + 1) ts) (take b ts)
longer ts a b lt = let same : suc a ≡ a + 1 = omega arith in subst (λ (k : ℕ). Split (take k ts) (take b ts)) same (one_longer ts a b lt)

whole : (k : ℕ) (ts : List Lexeme) → Split (take k ts) ts
whole zero ts = record { rest = ts; parts = refl }
whole (suc k) [] = record { rest = []; parts = refl }
whole (suc k) (t ∷ ts) = let p = whole k ts in record { rest = p.rest; parts = ap (λ (us : List Lexeme). t ∷ us) p.parts }

-- what is refused begins nothing that goes on
no_more : (left : ℕ) (front us : List Lexeme) → BeginNoText left front → Split front us → BeginText left us → ⊥
no_more left front us none p b =
    none (p.rest ++ b.more) b.tree (subst (λ (all : List Lexeme). Text left all b.tree) (ap (λ (vs : List Lexeme). vs ++ b.more) p.parts ∙ append_assoc front p.rest b.more) b.grammar)

no_tree : (k : ℕ) (ts : List Lexeme) (tree : TreeData) → BeginNoText 128 (take k ts) → HasTree ts tree → ⊥
no_tree k ts tree none t = let p = whole k ts in none p.rest tree (subst (λ (all : List Lexeme). HasTree all tree) p.parts t)

-- ---- two faults of one list

module _ (ts : List Lexeme) where
  refused_once : (a b : ℕ) → IsRefused ts a → IsRefused ts b → a ≡ b
  refused_once a b p q = by (order a b)
    where
      by : Order a b → a ≡ b
      by (Order.before lt) = absurd (no_more q.begun.0 (take (a + 1) ts) (take b ts) (p.refused q.begun.0) (longer ts a b lt) q.begun.1)
      by (Order.here e) = e
      by (Order.after lt) = absurd (no_more p.begun.0 (take (b + 1) ts) (take a ts) (q.refused p.begun.0) (longer ts b a lt) p.begun.1)

  deep_once : (a b : ℕ) → OpensLevelTooMany ts a → OpensLevelTooMany ts b → a ≡ b
  deep_once a b p q = by (order a b)
    where
      by : Order a b → a ≡ b
      by (Order.before lt) = let level = p.level in let few = q.shallow (a + 1) (omega (arith, lt)) in absurd (omega (arith, level, few))
      by (Order.here e) = e
      by (Order.after lt) = let level = q.level in let few = p.shallow (b + 1) (omega (arith, lt)) in absurd (omega (arith, level, few))

  never_both : (a b : ℕ) → IsRefused ts a → OpensLevelTooMany ts b → ⊥
  never_both a b p q = by (order a b)
    where
      by : Order a b → ⊥
      by (Order.before lt) = no_more q.begun.0 (take (a + 1) ts) (take b ts) (p.refused q.begun.0) (longer ts a b lt) q.begun.1
      by (Order.here e) = no_more q.deeper.0 (take (a + 1) ts) (take (b + 1) ts) (p.refused q.deeper.0) (record { rest = []; parts = same e }) q.deeper.1
        where
          same : a ≡ b → take (b + 1) ts ≡ take (a + 1) ts ++ []
          same e = rw (e, append-nil (take (b + 1) ts)) refl
      by (Order.after lt) = let level = q.level in let few = p.shallow (b + 1) (omega (arith, lt)) in absurd (omega (arith, level, few))

  refused_whole : (a : ℕ) (tree : TreeData) → IsRefused ts a → HasTree ts tree → ⊥
  refused_whole a tree p t = no_tree (a + 1) ts tree (p.refused 128) t

  deep_whole : (a : ℕ) (tree : TreeData) → OpensLevelTooMany ts a → HasTree ts tree → ⊥
  deep_whole a tree p t = let few = tree_shallow ts tree t (a + 1) (omega (arith, p.within)) in let level = p.level in omega (arith, few, level)

  pub one_fault : (first second : SyntaxFault) → Explains ts first → Explains ts second → AreOne first second
  one_fault (faults.Unexpected a) (faults.Unexpected b) p q = inl (ap (λ (k : ℕ). faults.Unexpected k) (refused_once a b p.0 q.0))
  one_fault (faults.Unexpected a) (faults.TooDeep b) p q = absurd (never_both a b p.0 q.opens)
  one_fault (faults.Unexpected a) (faults.Parentheses b) p q = absurd (p.1 (subst (λ (k : ℕ). IsBehindPhrase ts k) (sym (refused_once a b p.0 q.0)) q.1))
  one_fault (faults.TooDeep a) (faults.Unexpected b) p q = absurd (never_both b a q.0 p.opens)
  one_fault (faults.TooDeep a) (faults.TooDeep b) p q = inl (ap (λ (k : ℕ). faults.TooDeep k) (deep_once a b p.opens q.opens))
  one_fault (faults.TooDeep a) (faults.Parentheses b) p q = absurd (never_both b a q.0 p.opens)
  one_fault (faults.Parentheses a) (faults.Unexpected b) p q = absurd (q.1 (subst (λ (k : ℕ). IsBehindPhrase ts k) (refused_once a b p.0 q.0) p.1))
  one_fault (faults.Parentheses a) (faults.TooDeep b) p q = absurd (never_both a b p.0 q.opens)
  one_fault (faults.Parentheses a) (faults.Parentheses b) p q = inl (ap (λ (k : ℕ). faults.Parentheses k) (refused_once a b p.0 q.0))
  one_fault faults.Memory second p q = inr (inl refl)
  one_fault (faults.Unexpected a) faults.Memory p q = inr (inr refl)
  one_fault (faults.TooDeep a) faults.Memory p q = inr (inr refl)
  one_fault (faults.Parentheses a) faults.Memory p q = inr (inr refl)

  pub no_fault : (tree : TreeData) (f : SyntaxFault) → HasTree ts tree → Explains ts f → f ≡ faults.Memory
  no_fault tree (faults.Unexpected a) t p = absurd (refused_whole a tree p.0 t)
  no_fault tree (faults.TooDeep a) t p = absurd (deep_whole a tree p.opens t)
  no_fault tree (faults.Parentheses a) t p = absurd (refused_whole a tree p.0 t)
  no_fault tree faults.Memory t p = refl

  -- a level too many is told where one is opened
  pub deep_fault : (a : ℕ) (f : SyntaxFault) → OpensLevelTooMany ts a → Explains ts f → AreOne f (faults.TooDeep a)
  deep_fault a (faults.Unexpected b) q p = absurd (never_both b a p.0 q)
  deep_fault a (faults.TooDeep b) q p = inl (ap (λ (k : ℕ). faults.TooDeep k) (deep_once b a p.opens q))
  deep_fault a (faults.Parentheses b) q p = absurd (never_both b a p.0 q)
  deep_fault a faults.Memory q p = inr (inl refl)
