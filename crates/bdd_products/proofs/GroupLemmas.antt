-- Groups of members, one after the other.
use Rattle.std.proofs.Common.{◌≡◌, ℕ, zero, suc, ◌+◌, ◌<◌, true, Ok, Vec, List, [], ◌∷◌, ◌++◌, length, take, drop, refl, sym, ◌∙◌, ap, arith}
use Rattle.std.proofs.lemmas.List.{map-append}
use Rattle.std.specs.declared.alloc.Global.{Global}
use Rattle.spec_model.specs.Diagrams.{Function}
use Rattle.bdd_bits.specs.Contents.{Contents, function_at}
use Rattle.bdd_ops.specs.Functions.{joined, join_of}
use Rattle.bdd_sets.specs.Members.{all_true, functions_at}
use Rattle.bdd_sets.specs.Lists.{MakesList}
use Rattle.bdd_products.specs.Products.{MakesLines}
use Rattle.bdd_products.proofs.KeepingLemmas.{list_lines, some_lines}
use Rattle.bdd_products.proofs.ProductLemmas.{all_true-append, and_true}

-- the first several, and then several more
take_then : {X : Type 0} (a b : ℕ) (xs : List X) → take (a + b) xs ≡ take a xs ++ take b (drop a xs)
take_then zero b [] = let none : zero + b ≡ b = omega arith in rw none refl
take_then zero b (x ∷ xs) = let none : zero + b ≡ b = omega arith in rw none refl
take_then (suc a) zero [] = let none : suc a + zero ≡ suc a = omega arith in rw none refl
take_then (suc a) (suc b) [] = let next : suc a + suc b ≡ suc (a + suc b) = omega arith in rw next refl
take_then (suc a) b (x ∷ xs) =
    let next : suc a + b ≡ suc (a + b) = omega arith in
    rw next (ap (λ ys. x ∷ ys) (take_then a b xs))

-- one function is together with itself alone
pub all_true-one : (f : Function) → all_true (f ∷ []) ≡ f
all_true-one f = λ i s. sym (and_true (f s)) i

-- a list of lines is one of their functions
pub lines_list : (old new : Contents) (v : Vec ℕ Global) (whole : Function) → MakesLines old new (Ok v) whole → MakesList old new (Ok v) (functions_at new v.items)
lines_list old new v whole lines = record { meaning = refl; added = lines.added; refused = tt; keeps = lines.keeps; full = lines.full }

-- groups of the members so far, with a group more
module _ (first l new : Contents) (so_far more : Vec ℕ Global) (ms rest : List ℕ) (from n : ℕ) (lines : MakesLines first l (Ok so_far) (all_true (functions_at first (take from ms)))) (is : rest ≡ drop from ms)
    (list : MakesList first new (Ok more) (functions_at l so_far.items ++ all_true (functions_at first (take n rest)) ∷ [])) where
  together : all_true (functions_at l so_far.items ++ all_true (functions_at first (take n rest)) ∷ []) ≡ all_true (functions_at first (take (from + n) ms))
  together =
      let front : Function = all_true (functions_at first (take from ms)) in
      let group : Function = all_true (functions_at first (take n rest)) in
      all_true-append (functions_at l so_far.items) (group ∷ [])
      ∙ (ap (λ (f : Function). joined (join_of true) f (all_true (group ∷ []))) lines.conjunction
      ∙ (ap (λ (f : Function). joined (join_of true) front f) (all_true-one group)
      ∙ (ap (λ (xs : List ℕ). joined (join_of true) front (all_true (functions_at first (take n xs)))) is
      ∙ (sym (all_true-append (functions_at first (take from ms)) (functions_at first (take n (drop from ms))))
      ∙ ap all_true (sym (map-append (function_at first) (take from ms) (take n (drop from ms))) ∙ ap (functions_at first) (sym (take_then from n ms)))))))

  pub lines_more : MakesLines first new (Ok more) (all_true (functions_at first (take (from + n) ms)))
  lines_more = list_lines first new (Ok more) _ (all_true (functions_at first (take (from + n) ms))) list together

pub some_more : (old new : Contents) (v : Vec ℕ Global) (fs : List Function) (f : Function) → MakesList old new (Ok v) (fs ++ f ∷ []) → 0 < length v.items
some_more old new v [] f list = some_lines old new (Ok v) f [] list
some_more old new v (g ∷ fs) f list = some_lines old new (Ok v) g (fs ++ f ∷ []) list
