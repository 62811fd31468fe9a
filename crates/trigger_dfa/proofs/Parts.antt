-- What parts are where they are joined.
use Rattle.std.proofs.Common.{◌≡◌, ℕ, ◌+◌, ◌<◌, ◌==◌, Bool, true, false, cond, ◌&&◌, ◌||◌, bit_or, List, [], length, refl, sym, ◌∙◌, ap, ap₂, arith, length-append}
use Rattle.spec_model.specs.TriggerStates.{Written, Then, Either, brackets, is_skipped, firsts, lasts}
use Rattle.trigger_dfa.specs.declared.side.Part.{Part}
use Rattle.trigger_dfa.specs.Words.{in_word}
use Rattle.trigger_dfa.specs.Sides.{IsPart}
use Rattle.std.proofs.Common.{◌^◌, inl, inr, nat_lt, set, get_or, get_or-set_same, get_or-set_other}
use Rattle.std.proofs.lemmas.Bool.{lt-ltb, le-ltb, cases_lt, cases_eq, eq-eqb, ne_eqb}
use Rattle.trigger_dfa.proofs.WordLemmas.{word_above, or_word, when_word, single_word, has-append, has-cond}

-- an `or` and an `and` of what is equal
pub or_both : {a b c d : Bool} → a ≡ c → b ≡ d → (a || b) ≡ (c || d)
or_both e f = ap₂ (λ (x y : Bool). x || y) e f

pub and_both : {a b c d : Bool} → a ≡ c → b ≡ d → (a && b) ≡ (c && d)
and_both e f = ap₂ (λ (x y : Bool). x && y) e f

module _ (x y : Written) (n : ℕ) (a b : Part) (is_a : IsPart x n a) (is_b : IsPart y (n + length (brackets x)) b) where
  pub is_then : (f l : ℕ) → f ≡ cond a.skipped b.firsts 0 → l ≡ cond b.skipped a.lasts 0 →
      IsPart (Then x y) n (record { size = a.size + b.size; skipped = a.skipped && b.skipped; firsts = bit_or a.firsts f; lasts = bit_or l b.lasts })
  is_then f l is_f is_l =
      record {
        size = omega (arith, is_a.size, is_b.size, length-append (brackets x) (brackets y));
        skipped = and_both is_a.skipped is_b.skipped;
        firsts = λ q.
            or_word a.firsts f q
            ∙ or_both (is_a.firsts q) (ap (λ (m : ℕ). in_word m q) is_f ∙ when_word a.skipped b.firsts q ∙ and_both is_a.skipped (is_b.firsts q) ∙ sym (has-cond (is_skipped x) (firsts (n + length (brackets x)) y) q))
            ∙ sym (has-append (firsts n x) (cond (is_skipped x) (firsts (n + length (brackets x)) y) []) q);
        lasts = λ q.
            or_word l b.lasts q
            ∙ or_both (ap (λ (m : ℕ). in_word m q) is_l ∙ when_word b.skipped a.lasts q ∙ and_both is_b.skipped (is_a.lasts q) ∙ sym (has-cond (is_skipped y) (lasts n x) q)) (is_b.lasts q)
            ∙ sym (has-append (cond (is_skipped y) (lasts n x) []) (lasts (n + length (brackets x)) y) q);
      }

  pub is_either : IsPart (Either x y) n (record { size = a.size + b.size; skipped = a.skipped || b.skipped; firsts = bit_or a.firsts b.firsts; lasts = bit_or a.lasts b.lasts })
  is_either =
      record {
        size = omega (arith, is_a.size, is_b.size, length-append (brackets x) (brackets y));
        skipped = or_both is_a.skipped is_b.skipped;
        firsts = λ q.
            or_word a.firsts b.firsts q ∙ or_both (is_a.firsts q) (is_b.firsts q) ∙ sym (has-append (firsts n x) (firsts (n + length (brackets x)) y) q);
        lasts = λ q.
            or_word a.lasts b.lasts q ∙ or_both (is_a.lasts q) (is_b.lasts q) ∙ sym (has-append (lasts n x) (lasts (n + length (brackets x)) y) q);
      }

-- ---- what the calls on a side leave

pub or_false : (a : Bool) → a ≡ (a || false)
or_false true = refl
or_false false = refl

pub linked : (from to : ℕ) (old new : List ℕ) → from < 2 ^ 64 →
    ((k : ℕ) → get_or new k 0 ≡ cond (nat_lt k 64) (bit_or (get_or old k 0) (cond (in_word from k) to 0)) (get_or old k 0)) →
    (q p : ℕ) → in_word (get_or new q 0) p ≡ (in_word (get_or old q 0) p || (in_word from q && in_word to p))
linked from to old new fits each q p =
    elim (cases_lt q 64) [
      | inl below ↦
          ap (λ (m : ℕ). in_word m p) (each q ∙ ap (λ (b : Bool). cond b (bit_or (get_or old q 0) (cond (in_word from q) to 0)) (get_or old q 0)) (lt-ltb q 64 below))
          ∙ or_word (get_or old q 0) (cond (in_word from q) to 0) p ∙ or_both refl (when_word (in_word from q) to p)
      | inr above ↦
          ap (λ (m : ℕ). in_word m p) (each q ∙ ap (λ (b : Bool). cond b (bit_or (get_or old q 0) (cond (in_word from q) to 0)) (get_or old q 0)) (le-ltb q 64 above))
          ∙ or_false (in_word (get_or old q 0) p) ∙ or_both {a = in_word (get_or old q 0) p} refl (ap (λ (b : Bool). b && in_word to p) (sym (word_above from q fits above)))
    ]

pub meaning : (atom p word : ℕ) (old : List ℕ) → atom < length old → word ≡ bit_or (get_or old atom 0) (2 ^ p) →
    (k q : ℕ) → k < length old → in_word (get_or (set old atom word) k 0) q ≡ (in_word (get_or old k 0) q || (atom == k && p == q))
meaning atom p word old inside is k q below =
    elim (cases_eq atom k) [
      | inl same ↦
          ap (λ (m : ℕ). in_word (get_or (set old atom word) m 0) q) (sym same)
          ∙ ap (λ (m : ℕ). in_word m q) (get_or-set_same old atom word 0 inside ∙ is)
          ∙ or_word (get_or old atom 0) (2 ^ p) q
          ∙ or_both (ap (λ (m : ℕ). in_word (get_or old m 0) q) same) (single_word p q ∙ ap (λ (b : Bool). b && p == q) (sym (eq-eqb atom k same)))
      | inr other ↦
          ap (λ (m : ℕ). in_word m q) (get_or-set_other old atom k word 0 (λ e. other (sym e)))
          ∙ or_false (in_word (get_or old k 0) q) ∙ or_both {a = in_word (get_or old k 0) q} refl (ap (λ (b : Bool). b && p == q) (sym (ne_eqb atom k other)))
    ]
