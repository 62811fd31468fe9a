-- Rows of edges without those that are true.
use Rattle.std.proofs.Common.{◌≡◌, ◌⊎◌, inl, inr, ℕ, ◌+◌, ◌<◌, ◌≤◌, Bool, true, false, ◌&&◌, List, [], ◌∷◌, ◌++◌, take, get_or, length, length-append, refl, sym, ◌∙◌, ap, subst, arith}
use Rattle.std.proofs.lemmas.List.{take_more, take_all}
use Rattle.std.proofs.lemmas.List.Elements.{All-nil, All-cons, All-append}
use Rattle.std.specs.List.{All}
use Rattle.spec_model.specs.Diagrams.{Bits, constant, value}
use Rattle.bdd_store.specs.declared.edge.Edge.{Edge}
use Rattle.bdd_store.specs.State.{IsEdge, diagram_of}
use Rattle.bdd_ops.specs.Contents.{Contents, function_at}
use Rattle.bdd_ops.specs.Together.{all_in}

-- the edges are live, and are true together exactly where the first so many of the row are
pub record AreLeft (c : Contents) (row left : List Edge) (count : ℕ) : Type 0 where
  pub live : All (λ e. IsEdge c.state e.0) left
  pub no_more : length left ≤ count
  pub same : (s : Bits) → all_in c left s ≡ all_in c (take count row) s

module _ (c : Contents) where
  in-append : (xs ys : List Edge) (s : Bits) → all_in c (xs ++ ys) s ≡ (all_in c xs s && all_in c ys s)
  in-append [] ys s = refl
  in-append (x ∷ xs) ys s = ap (λ b. function_at c x.0 s && b) (in-append xs ys s) ∙ grouped (function_at c x.0 s) (all_in c xs s) (all_in c ys s)
    where
      grouped : (p q r : Bool) → (p && (q && r)) ≡ ((p && q) && r)
      grouped true q r = refl
      grouped false q r = refl

  and_true : (p : Bool) → (p && true) ≡ p
  and_true true = refl
  and_true false = refl

  module _ (row left : List Edge) (i : ℕ) (e : Edge) (inside : i < length row) (is : e ≡ get_or row i e) where
    -- the first edges of the row, with one more
    one_more : (s : Bits) → all_in c (take (i + 1) row) s ≡ (all_in c (take i row) s && function_at c e.0 s)
    one_more s =
        ap (λ (es : List Edge). all_in c es s) (take_more row i e inside)
        ∙ (in-append (take i row) (get_or row i e ∷ []) s
        ∙ (ap (λ b. all_in c (take i row) s && b) (and_true (function_at c (get_or row i e).0 s))
        ∙ ap (λ (f : Edge). all_in c (take i row) s && function_at c f.0 s) (sym is)))

    -- one that is true is left out
    true_left_out : diagram_of c.state e.0 ≡ constant true → AreLeft c row left i → AreLeft c row left (i + 1)
    true_left_out holds are = record {
      live = are.live;
      no_more = let count = are.no_more in omega (arith, count);
      same = λ s. are.same s ∙ (sym (and_true (all_in c (take i row) s)) ∙ (ap (λ b. all_in c (take i row) s && b) (sym (ap (λ g. value g s) holds)) ∙ sym (one_more s)));
    }

    -- and any other is kept
    other_kept : All (λ f. IsEdge c.state f.0) row → AreLeft c row left i → AreLeft c row (left ++ e ∷ []) (i + 1)
    other_kept live are = record {
      live = All-append (λ f. IsEdge c.state f.0) left (e ∷ []) are.live (All-cons (λ f. IsEdge c.state f.0) e [] (subst (λ (f : Edge). IsEdge c.state f.0) (sym is) (live i e inside)) (All-nil (λ f. IsEdge c.state f.0)));
      no_more = let count = are.no_more in let long = length-append left (e ∷ []) in omega (arith, count, long);
      same = λ s. in-append left (e ∷ []) s ∙ (ap (λ b. all_in c left s && b) (and_true (function_at c e.0 s)) ∙ (ap (λ b. b && function_at c e.0 s) (are.same s) ∙ sym (one_more s)));
    }

    pub left_more : (new : List Edge) → All (λ f. IsEdge c.state f.0) row → (new ≡ left ++ e ∷ []) ⊎ ((new ≡ left) × (diagram_of c.state e.0 ≡ constant true)) → AreLeft c row left i → AreLeft c row new (i + 1)
    left_more new live pushed are =
        elim pushed [
          | inl more ↦ subst (λ (es : List Edge). AreLeft c row es (i + 1)) (sym more) (other_kept live are)
          | inr same ↦ subst (λ (es : List Edge). AreLeft c row es (i + 1)) (sym same.0) (true_left_out same.1 are)
        ]

  -- of no edge none is left
  pub none_left : (row : List Edge) → AreLeft c row [] 0
  none_left row = record { live = All-nil (λ e. IsEdge c.state e.0); no_more = omega arith; same = λ s. refl }

  -- after the whole row
  pub all_left : (row left : List Edge) (i : ℕ) → length row ≤ i → AreLeft c row left i → (s : Bits) → all_in c left s ≡ all_in c row s
  all_left row left i past are s = are.same s ∙ ap (λ (es : List Edge). all_in c es s) (take_all i row past)
