-- Levels that go with one line more.
use Rattle.std.proofs.Common.{◌≡◌, ℕ, zero, suc, ◌+◌, ◌<◌, Bool, true, false, ◌||◌, List, [], ◌∷◌, ◌++◌, length, drop, get_or, reverse, Vec, refl, sym, ◌∙◌, ap, subst, arith}
use Rattle.std.proofs.lemmas.List.{reverse-append}
use Rattle.std.specs.declared.alloc.Global.{Global}
use Rattle.spec_model.specs.Diagrams.{Function}
use Rattle.bdd_store.specs.State.{IsRoot}
use Rattle.bdd_ops.specs.Functions.{is_among}
use Rattle.bdd_ops.specs.Reading.{Ignores}
use Rattle.bdd_bits.specs.Contents.{Contents, function_at}
use Rattle.bdd_bits.specs.Calls.{KeepsRoots}
use Rattle.bdd_sets.specs.Members.{AreRoots, all_true, functions_at}
use Rattle.bdd_sets.proofs.SpentLemmas.{item_is, function_kept}
use Rattle.bdd_products.specs.Products.{NoneReads, out_of, levels_of, IsProductOf, IsSpread}
use Rattle.bdd_products.proofs.LevelLemmas.{or_left, or_right, is_among-both}

none_fewer : (us vs : List ℕ) (fs : List Function) → ((m : ℕ) → is_among m us ≡ true → is_among m vs ≡ true) → NoneReads vs fs → NoneReads us fs
none_fewer us vs [] fewer none = tt
none_fewer us vs (f ∷ fs) fewer none = (λ m among. none.0 m (fewer m among), none_fewer us vs fs fewer none.1)

or_turned : (o r n : Bool) → ((o || r) || n) ≡ (r || (o || n))
or_turned true true n = refl
or_turned true false n = refl
or_turned false true n = refl
or_turned false false n = refl

spread_more : (out left own next : List ℕ) (f : Function) (fs : List Function) (outs : List (List ℕ)) → IsSpread out left fs outs → ((m : ℕ) → is_among m next ≡ true → Ignores m f) → ((m : ℕ) → (is_among m own || is_among m next) ≡ is_among m left) → IsSpread out next (f ∷ fs) (own ∷ outs)
spread_more out left own next f fs outs so_far ignored parted =
    record {
      in_order = (none_fewer own left fs (λ m among. sym (parted m) ∙ or_left (is_among m own) (is_among m next) among) so_far.unread, so_far.in_order);
      unread = (ignored, none_fewer next left fs (λ m among. sym (parted m) ∙ or_right (is_among m own) (is_among m next) among) so_far.unread);
      levels = λ m.
          ap (λ b. b || is_among m next) (is_among-both m own (out_of outs))
          ∙ (or_turned (is_among m own) (is_among m (out_of outs)) (is_among m next)
          ∙ (ap (λ b. is_among m (out_of outs) || b) (parted m) ∙ so_far.levels m));
    }

pub spread_none : (out : List ℕ) → IsSpread out out [] []
spread_none out = record { in_order = tt; unread = tt; levels = λ m. refl }

dropped : (xs : List ℕ) (i x : ℕ) → i < length xs → x ≡ get_or xs i x → drop i xs ≡ x ∷ drop (i + 1) xs
dropped [] i x below is = absurd (omega arith)
dropped (y ∷ ys) zero x below is = ap (λ n. n ∷ ys) (sym is)
dropped (y ∷ ys) (suc i) x below is =
    let next : suc i + 1 ≡ suc (i + 1) = omega arith in
    rw next (dropped ys i x (omega arith) is)

-- one line more, from the last on
module _ (first l : Contents) (out left next : List ℕ) (lines : List ℕ) (i place x : ℕ) (outs : List (Vec ℕ Global)) (own : Vec ℕ Global) (keeps : KeepsRoots first l) (are : AreRoots first lines) (below : i < length lines) (after : i + 1 ≡ place) (is : x ≡ get_or lines i x) where
  pub line_kept : IsRoot first.state x
  line_kept = subst (λ (n : ℕ). IsRoot first.state n) (item_is lines i x below is) (are i below)

  pub one_spread : IsSpread out left (functions_at first (drop place lines)) (levels_of (reverse outs)) → ((m : ℕ) → is_among m next ≡ true → Ignores m (function_at l x)) → ((m : ℕ) → (is_among m own.items || is_among m next) ≡ is_among m left) →
      IsSpread out next (functions_at first (drop i lines)) (levels_of (reverse (outs ++ own ∷ [])))
  one_spread so_far ignored parted =
      let same = function_kept first l keeps x line_kept in
      let more = spread_more out left own.items next (function_at first x) (functions_at first (drop place lines)) (levels_of (reverse outs)) so_far (λ m among. subst (λ (g : Function). Ignores m g) same (ignored m among)) parted in
      let at_lines : drop i lines ≡ x ∷ drop place lines = dropped lines i x below is ∙ ap (λ k. x ∷ drop k lines) after in
      let at_outs : reverse (outs ++ own ∷ []) ≡ own ∷ reverse outs = reverse-append outs (own ∷ []) in
      subst (λ (xs : List ℕ). IsSpread out next (functions_at first xs) (levels_of (reverse (outs ++ own ∷ [])))) (sym at_lines)
      (subst (λ (os : List (Vec ℕ Global)). IsSpread out next (functions_at first (x ∷ drop place lines)) (levels_of os)) (sym at_outs) more)

or_false : (a : Bool) → (a || false) ≡ a
or_false true = refl
or_false false = refl

pub spread_product : (whole : Function) (out : List ℕ) (fs : List Function) (outs : List (List ℕ)) → IsSpread out [] fs outs → all_true fs ≡ whole → IsProductOf whole out fs outs
spread_product whole out fs outs is conjunction =
    record {
      conjunction = conjunction;
      in_order = is.in_order;
      levels = λ m. sym (or_false (is_among m (out_of outs))) ∙ is.levels m;
    }
