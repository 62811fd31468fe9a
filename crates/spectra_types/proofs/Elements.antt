-- The variables of a specification are the elements of those that its text declares.
use Rattle.std.proofs.Common.{◌≡◌, ℕ, zero, suc, ◌+◌, ◌<◌, Bool, true, false, not, List, [], ◌∷◌, ◌++◌, All, length, map, flat_map, replicate, get_or, refl, sym, ap, ◌∙◌, arith}
use Rattle.std.specs.List.{list_all}
use Rattle.std.proofs.lemmas.Bool.{and_parts, and_from}
use Rattle.std.proofs.lemmas.List.{length-append, length-map, map-append}
use Rattle.std.proofs.lemmas.List.Elements.{All-nil, All-cons}
use Rattle.std.proofs.lemmas.List.Folds.{list_all-append}
use Rattle.std.proofs.lemmas.List.Sums.{sum_by-cons}
use Rattle.spec_model.specs.declared.value.Owner.{Owner}
use Rattle.spec_model.specs.declared.value.Owner.TheVariants as owners
use Rattle.spec_model.specs.Syntax.{VariableData}
use Rattle.spec_model.specs.Moves.{is_env}
use Rattle.spec_model.specs.Steps.{is_output_variable}
use Rattle.spec_model.specs.WellTyped.{is_domain_of}
use Rattle.spectra_resolved.specs.Texts.{ResolvedVariable, ResolvedText}
use Rattle.spectra_judge.specs.Kinds.{Kind}
use Rattle.spectra_judge.specs.PutIn.{domain_kind}
use Rattle.spectra_cases.specs.Formulas.{numbers_below}
use Rattle.spectra_notes.specs.TypeKinds.{is_of_system, kind_in}
use Rattle.spectra_patterns.specs.SoundPatterns.{is_type_kind}
use Rattle.spectra_sound.specs.Sound.{elements_in}
use Rattle.spectra_types.specs.Meanings.{element_of, variables_in}
use Rattle.spectra_types.proofs.Domains.{domain_fits, kind_back}

-- ---- several of one kind

pub count-numbers : (from n : ℕ) → length (numbers_below from n) ≡ n
count-numbers from zero = refl
count-numbers from (suc n) = ap suc (count-numbers (suc from) n)

-- what is the same for each number
pub mapped_numbers : {X : Type 0} (f : ℕ → X) (x : X) → ((i : ℕ) → f i ≡ x) → (from n : ℕ) → map f (numbers_below from n) ≡ replicate n x
mapped_numbers f x each from zero = refl
mapped_numbers f x each from (suc n) = λ k. each from k ∷ mapped_numbers f x each (suc from) n k

pub replicated_pass : {X : Type 0} (p : X → Bool) (n : ℕ) (x : X) → p x ≡ true → list_all p (replicate n x) ≡ true
replicated_pass p zero x is = refl
replicated_pass p (suc n) x is = and_from _ _ is (replicated_pass p n x is)

numbers_pass : {X : Type 0} (p : X → Bool) (f : ℕ → X) (from n : ℕ) → ((i : ℕ) → p (f i) ≡ true) → list_all p (map f (numbers_below from n)) ≡ true
numbers_pass p f from zero each = refl
numbers_pass p f from (suc n) each = and_from _ _ (each from) (numbers_pass p f (suc from) n each)

-- what holds of each number below the end
pub numbers_all : {X : Type 0} (P : X → Type 0) (f : ℕ → X) (end from n : ℕ) → from + n ≡ end → ((i : ℕ) → i < end → P (f i)) → All P (map f (numbers_below from n))
numbers_all P f end from zero is each = All-nil P
numbers_all P f end from (suc n) is each = All-cons P (f from) _ (each from (omega (arith, is))) (numbers_all P f end (suc from) n (omega (arith, is)) each)

-- ---- all together

module _ (text : ResolvedText) where
  -- so many as are declared
  pub variables_count : (vs : List ResolvedVariable) → length (flat_map (variables_in text) vs) ≡ elements_in vs
  variables_count [] = refl
  variables_count (v ∷ vs) =
      let both = length-append (variables_in text v) (flat_map (variables_in text) vs) in
      let here = length-map (numbers_below 0 v.count) (element_of text v) in
      let numbers = count-numbers 0 v.count in
      let rest = variables_count vs in
      let total = sum_by-cons (λ x. x) v.count (map (λ (v : ResolvedVariable). v.count) vs) in omega (arith, both, here, numbers, rest, total)

  -- something of each that is the same for all elements of one
  pub each_replicated : {X : Type 0} (g : VariableData → X) (f : ResolvedVariable → X) (vs : List ResolvedVariable) → ((v : ResolvedVariable) (i : ℕ) → g (element_of text v i) ≡ f v) →
      map g (flat_map (variables_in text) vs) ≡ flat_map (λ (v : ResolvedVariable). replicate v.count (f v)) vs
  each_replicated g f [] each = refl
  each_replicated {X} g f (v ∷ vs) each = map-append g (variables_in text v) (flat_map (variables_in text) vs) ∙ (λ k. here 0 v.count k ++ each_replicated g f vs each k)
    where
      here : (from n : ℕ) → map g (map (element_of text v) (numbers_below from n)) ≡ replicate n (f v)
      here from zero = refl
      here from (suc n) = λ k. each v from k ∷ here (suc from) n k

  abbrev kinds_of : List ResolvedVariable → List Kind
  kinds_of vs = flat_map (λ (v : ResolvedVariable). replicate v.count (kind_in text v.domain)) vs

  pub kinds_are : (names : ℕ) (vs : List ResolvedVariable) → list_all (λ (v : ResolvedVariable). is_type_kind names (kind_in text v.domain)) vs ≡ true →
      kinds_of vs ≡ map domain_kind (map (λ (v : VariableData). v.domain) (flat_map (variables_in text) vs))
  kinds_are names [] all = refl
  kinds_are names (v ∷ vs) all =
      let parts = and_parts (is_type_kind names (kind_in text v.domain)) _ all in
      (λ k. here (kind_back names (kind_in text v.domain) parts.0) 0 v.count k ++ kinds_are names vs parts.1 k)
      ∙ sym (map-append domain_kind (map (λ (v : VariableData). v.domain) (variables_in text v)) (map (λ (v : VariableData). v.domain) (flat_map (variables_in text) vs)))
      ∙ ap (map domain_kind) (sym (map-append (λ (v : VariableData). v.domain) (variables_in text v) (flat_map (variables_in text) vs)))
    where
      here : kind_in text v.domain ≡ domain_kind (element_of text v 0).domain → (from n : ℕ) → replicate n (kind_in text v.domain) ≡ map domain_kind (map (λ (v : VariableData). v.domain) (map (element_of text v) (numbers_below from n)))
      here is from zero = refl
      here is from (suc n) = λ k. is k ∷ here is (suc from) n k

  -- those of the system are the specification's outputs
  owner_is : (o : Owner) → not (is_env o) ≡ is_of_system o
  owner_is owners.Sys = refl
  owner_is owners.Env = refl

  output_at : (xs : List VariableData) (k : ℕ) → get_or (map (λ (v : VariableData). not (is_env v.owner)) xs) k false ≡ is_output_variable xs k
  output_at [] k = refl
  output_at (x ∷ xs) zero = refl
  output_at (x ∷ xs) (suc k) = output_at xs k

  pub outputs_are : (vs : List ResolvedVariable) (k : ℕ) → get_or (flat_map (λ (v : ResolvedVariable). replicate v.count (is_of_system v.owner)) vs) k false ≡ is_output_variable (flat_map (variables_in text) vs) k
  outputs_are vs k =
      sym (ap (λ xs. get_or xs k false) (each_replicated (λ (v : VariableData). not (is_env v.owner)) (λ (v : ResolvedVariable). is_of_system v.owner) vs (λ v i. owner_is v.owner))) ∙ output_at (flat_map (variables_in text) vs) k

  pub all_replicated : (p : Kind → Bool) (vs : List ResolvedVariable) → list_all (λ (v : ResolvedVariable). p (kind_in text v.domain)) vs ≡ true → list_all p (kinds_of vs) ≡ true
  all_replicated p [] all = refl
  all_replicated p (v ∷ vs) all =
      let parts = and_parts (p (kind_in text v.domain)) _ all in
      list_all-append p (replicate v.count (kind_in text v.domain)) (kinds_of vs) ∙ and_from _ _ (replicated_pass p v.count (kind_in text v.domain) parts.0) (all_replicated p vs parts.1)

  pub domains_fit : (vs : List ResolvedVariable) → list_all (λ (v : ResolvedVariable). is_type_kind (length text.names) (kind_in text v.domain)) vs ≡ true →
      list_all (λ (v : VariableData). is_domain_of (length text.names) v.domain) (flat_map (variables_in text) vs) ≡ true
  domains_fit [] all = refl
  domains_fit (v ∷ vs) all =
      let parts = and_parts (is_type_kind (length text.names) (kind_in text v.domain)) _ all in
      list_all-append (λ (v : VariableData). is_domain_of (length text.names) v.domain) (variables_in text v) (flat_map (variables_in text) vs)
      ∙ and_from _ _ (numbers_pass (λ (v : VariableData). is_domain_of (length text.names) v.domain) (element_of text v) 0 v.count (λ i. domain_fits (length text.names) (kind_in text v.domain) parts.0)) (domains_fit vs parts.1)
