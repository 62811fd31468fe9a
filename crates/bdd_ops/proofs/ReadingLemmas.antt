-- Levels that functions of the operations ignore.
use Rattle.std.proofs.Common.{◌≡◌, ◌≢◌, ◌==◌, ℕ, ◌⊎◌, inl, inr, sym, ap, subst, refl, true, false, not, ◌||◌, List, [], ◌∷◌, eq-eqb}
use Rattle.std.proofs.lemmas.Bool.{false≢true}
use Rattle.std.proofs.lemmas.Bool.Decides.{eqb_tells}
use Rattle.spec_model.specs.Diagrams.{Function, exists_over}
use Rattle.spec_model.specs.DiagramReads.{forall_over}
use Rattle.bdd_ops.specs.Functions.{Join, joined, joined_at, joined_over, join_of, is_among}
use Rattle.bdd_ops.specs.Reading.{ChoicesReadNoMore, QuantifiersReadLess, Ignores}
use Rattle.bdd_ops.proofs.FunctionLemmas.{with_bit-twice, with_bit-other, ignores-joined_at, ignores-joined_over, exists_over-joined, forall_over-joined}

pub bit_ignores : (level other : ℕ) → other ≢ level → Ignores other (λ s. s level)
bit_ignores level other apart s b = with_bit-other s other level b (λ same. apart (sym same))

pub choices_no_more : (level : ℕ) (f g h : Function) → ChoicesReadNoMore level f g h
choices_no_more level f g h = record {
  choice = λ in_f in_g in_h s b. rw (in_f s b, in_g s b, in_h s b) refl;
  both_or_one = λ all in_f in_g s b. rw (in_f s b, in_g s b) refl;
  negation = λ in_f s b. ap not (in_f s b);
}

-- the level that is quantified is read no more
joined_at-left : (join : Join) (level : ℕ) (f : Function) → Ignores level (joined_at join level f)
joined_at-left join level f s b = rw (with_bit-twice s level b false, with_bit-twice s level b true) refl

left_or_among : (join : Join) (levels : List ℕ) (first level : ℕ) (f : Function) → (is_among level levels ≡ true → Ignores level f) → ((level == first) || is_among level levels) ≡ true →
    ((level == first) ≡ true × (level ≡ first)) ⊎ ((level == first) ≡ false × (level ≢ first)) → Ignores level (joined_at join first f)
left_or_among join levels first level f rest among (inl same) = rw same.1 (joined_at-left join first f)
left_or_among join levels first level f rest among (inr apart) = ignores-joined_at join first level f (rest (rw apart.0 at among))

-- no level of the list is read after it is quantified
pub joined_over-left : (join : Join) (levels : List ℕ) (level : ℕ) (f : Function) → is_among level levels ≡ true → Ignores level (joined_over join levels f)
joined_over-left join [] level f among = absurd (false≢true among)
joined_over-left join (first ∷ levels) level f among =
    left_or_among join levels first level (joined_over join levels f) (λ rest. joined_over-left join levels level f rest) among (eqb_tells level first)

exists_ignores : (levels : List ℕ) (level : ℕ) (f : Function) → Ignores level (joined_over (join_of false) levels f) → Ignores level (exists_over levels f)
exists_ignores levels level f ignores = subst (λ (g : Function). Ignores level g) (sym (exists_over-joined levels f)) ignores

forall_ignores : (levels : List ℕ) (level : ℕ) (f : Function) → Ignores level (joined_over (join_of true) levels f) → Ignores level (forall_over levels f)
forall_ignores levels level f ignores = subst (λ (g : Function). Ignores level g) (sym (forall_over-joined levels f)) ignores

pub quantifiers_less : (level : ℕ) (levels : List ℕ) (f g : Function) → QuantifiersReadLess level levels f g
quantifiers_less level levels f g =
    let both : Function = joined (join_of true) f g in
    record {
      some_left = λ among. exists_ignores levels level f (joined_over-left (join_of false) levels level f among);
      all_left = λ among. forall_ignores levels level f (joined_over-left (join_of true) levels level f among);
      both_left = λ among. exists_ignores levels level both (joined_over-left (join_of false) levels level both among);
      some_no_more = λ in_f. exists_ignores levels level f (ignores-joined_over (join_of false) levels level f in_f);
      all_no_more = λ in_f. forall_ignores levels level f (ignores-joined_over (join_of true) levels level f in_f);
      both_no_more = λ in_f in_g. exists_ignores levels level both (ignores-joined_over (join_of false) levels level both ((choices_no_more level f g f).both_or_one true in_f in_g));
    }

-- the one level that is taken away is ignored
pub some_without : (level : ℕ) (f r : Function) → r ≡ exists_over (level ∷ []) f → Ignores level r
some_without level f r is =
    let among : is_among level (level ∷ []) ≡ true = ap (λ b. b || false) (eq-eqb level level refl) in
    subst (λ (g : Function). Ignores level g) (sym is) ((quantifiers_less level (level ∷ []) f f).some_left among)
