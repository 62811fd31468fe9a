-- One step of the loops that make variables: an element of one, and one behind others.
use Rattle.std.proofs.Common.{◌≡◌, ℕ, zero, suc, ◌+◌, ◌<◌, List, [], ◌∷◌, ◌++◌, Some, length, map, flat_map, replicate, get_or, slice_get, append_assoc, append-nil, length-append, refl, sym, ap, ◌∙◌, arith}
use Rattle.std.proofs.lemmas.List.{length-map, length-replicate, map-append}
use Rattle.std.proofs.lemmas.Option.{same_Some, slice_get_within}
use Rattle.spec_model.specs.declared.value.Var.{Var}
use Rattle.spec_model.specs.Syntax.{VariableData}
use Rattle.spec_model.specs.Views.{variable_data as model_variable}
use Rattle.spectra_resolved.specs.Texts.{ResolvedVariable, ResolvedText}
use Rattle.spectra_judge.specs.declared.kind.Kind as code
use Rattle.spectra_judge.specs.Kinds.{Kind}
use Rattle.spectra_judge.specs.KindViews.{kind_data}
use Rattle.spectra_cases.specs.Formulas.{numbers_below}
use Rattle.spectra_notes.specs.TypeKinds.{kind_in}
use Rattle.spectra_patterns.specs.Patterns.{domain_of}
use Rattle.spectra_types.specs.Meanings.{element_name, element_of, variables_in}
use Rattle.spectra_types.proofs.Elements.{count-numbers}

-- ---- one more number

numbers_more : (from n k : ℕ) → k ≡ from + n → numbers_below from (suc n) ≡ numbers_below from n ++ k ∷ []
numbers_more from zero k is = let same : from ≡ k = omega (arith, is) in ap (λ i. i ∷ []) same
numbers_more from (suc n) k is = ap (λ is. from ∷ is) (numbers_more (suc from) n k (omega (arith, is)))

-- an element behind those before it
pub one_more : (text : ResolvedText) (v : ResolvedVariable) (old new after : List Var) (one : Var) (n : ℕ) → map model_variable new ≡ map model_variable old ++ map (element_of text v) (numbers_below 0 n) →
    model_variable one ≡ element_of text v n → after ≡ new ++ one ∷ [] → map model_variable after ≡ map model_variable old ++ map (element_of text v) (numbers_below 0 (n + 1))
one_more text v old new after one n so_far made pushed =
    let f = element_of text v in
    let next : numbers_below 0 (n + 1) ≡ numbers_below 0 n ++ n ∷ [] = (let one : n + 1 ≡ suc n = omega arith in ap (numbers_below 0) one) ∙ numbers_more 0 n n (omega arith) in
    ap (map model_variable) pushed ∙ map-append model_variable new (one ∷ [])
    ∙ (λ i. so_far i ++ made i ∷ [])
    ∙ append_assoc (map model_variable old) (map f (numbers_below 0 n)) (f n ∷ [])
    ∙ ap (λ xs. map model_variable old ++ xs) (sym (map-append f (numbers_below 0 n) (n ∷ [])))
    ∙ ap (λ is. map model_variable old ++ map f is) (sym next)

-- as many as there are by then
pub as_many_more : (text : ResolvedText) (v : ResolvedVariable) (old new : List Var) (n : ℕ) → map model_variable new ≡ map model_variable old ++ map (element_of text v) (numbers_below 0 n) → length new ≡ length old + n
as_many_more text v old new n so_far =
    let both : length (map model_variable new) ≡ length (map model_variable old ++ map (element_of text v) (numbers_below 0 n)) = ap (λ xs. length xs) so_far in
    let a = length-map new model_variable in
    let b = length-map old model_variable in
    let c = length-map (numbers_below 0 n) (element_of text v) in
    let d = count-numbers 0 n in
    let long = length-append (map model_variable old) (map (element_of text v) (numbers_below 0 n)) in omega (arith, both, a, b, c, d, long)

-- ---- the kind of one

-- a variable, or an array's element, whose type stands for this kind
abbrev pub made_by : ResolvedVariable → ℕ → Kind → VariableData
made_by v n k = record { name = element_name v n; owner = v.owner; domain = domain_of k }

pub kind_there : (kinds : List code.Kind) (n : ℕ) (d : code.Kind) (k : Kind) → slice_get (map kind_data kinds) n ≡ Some k → kind_data (get_or kinds n d) ≡ k
kind_there [] n d k there = absurd (none_there there)
  where
    none_there : slice_get {X = Kind} [] n ≡ Some k → ⊥
    none_there e = cc
kind_there (j ∷ kinds) zero d k there = same_Some (kind_data j) k there
kind_there (j ∷ kinds) (suc n) d k there = kind_there kinds n d k there

-- the element's number among all variables is below theirs
pub place_below : (text : ResolvedText) (v : ResolvedVariable) (old new : List Var) (n : ℕ) (kinds : List code.Kind) (place : ℕ) (k : Kind) → map model_variable new ≡ map model_variable old ++ map (element_of text v) (numbers_below 0 n) →
    slice_get (map kind_data kinds) (length old + n) ≡ Some k → place ≡ length new → place < length kinds
place_below text v old new n kinds place k so_far there is =
    let many = as_many_more text v old new n so_far in
    let low = slice_get_within (map kind_data kinds) (length old + n) k there in
    let long = length-map kinds kind_data in omega (arith, many, low, long, is)

pub made_of : (text : ResolvedText) (v : ResolvedVariable) (old new : List Var) (n : ℕ) (kinds : List code.Kind) (place : ℕ) (d : code.Kind) (one : Var) → map model_variable new ≡ map model_variable old ++ map (element_of text v) (numbers_below 0 n) →
    slice_get (map kind_data kinds) (length old + n) ≡ Some (kind_in text v.domain) → place ≡ length new → model_variable one ≡ made_by v n (kind_data (get_or kinds place d)) → model_variable one ≡ element_of text v n
made_of text v old new n kinds place d one so_far there is made =
    let many = as_many_more text v old new n so_far in
    let at : place ≡ length old + n = omega (arith, many, is) in
    made ∙ ap (made_by v n) (ap (λ k. kind_data (get_or kinds k d)) at ∙ kind_there kinds (length old + n) d (kind_in text v.domain) there)

-- ---- the kinds of what is left

module _ (text : ResolvedText) (kinds : List Kind) where
  abbrev kinds_of : List ResolvedVariable → List Kind
  kinds_of vs = flat_map (λ (v : ResolvedVariable). replicate v.count (kind_in text v.domain)) vs

  -- so many variables are made, and these declared ones are left
  pub record Left (made : List VariableData) (rest : List ResolvedVariable) : Type 0 where
    pub all : made ++ flat_map (variables_in text) rest ≡ flat_map (variables_in text) text.variables
    pub front : List Kind
    pub are : kinds ≡ front ++ kinds_of rest
    pub long : length front ≡ length made

  behind : {X : Type 0} (xs ys : List X) (n i : ℕ) → n ≡ length xs + i → slice_get (xs ++ ys) n ≡ slice_get ys i
  behind [] ys n i is = let same : n ≡ i = omega (arith, is) in ap (slice_get ys) same
  behind (x ∷ xs) ys zero i is = absurd (omega (arith, is))
  behind (x ∷ xs) ys (suc n) i is = behind xs ys n i (omega (arith, is))

  among : {X : Type 0} (n i : ℕ) (x : X) (ys : List X) → i < n → slice_get (replicate n x ++ ys) i ≡ Some x
  among zero i x ys below = absurd (omega (arith, below))
  among (suc n) zero x ys below = refl
  among (suc n) (suc i) x ys below = among n i x ys (omega (arith, below))

  -- those of the next one's elements come next
  pub kind_next : (made : List VariableData) (v : ResolvedVariable) (rest : List ResolvedVariable) → Left made (v ∷ rest) → (n i : ℕ) → n ≡ length made + i → i < v.count → slice_get kinds n ≡ Some (kind_in text v.domain)
  kind_next made v rest left n i is below =
      let long = left.long in
      ap (λ ks. slice_get ks n) left.are ∙ behind left.front (kinds_of (v ∷ rest)) n i (omega (arith, is, long)) ∙ among v.count i (kind_in text v.domain) (kinds_of rest) below

  pub next_left : (made after : List VariableData) (v : ResolvedVariable) (rest : List ResolvedVariable) → Left made (v ∷ rest) → after ≡ made ++ variables_in text v → Left after rest
  next_left made after v rest left is =
      record {
        all = ap (λ xs. xs ++ flat_map (variables_in text) rest) is ∙ append_assoc made (variables_in text v) (flat_map (variables_in text) rest) ∙ left.all;
        front = left.front ++ replicate v.count (kind_in text v.domain);
        are = left.are ∙ sym (append_assoc left.front (replicate v.count (kind_in text v.domain)) (kinds_of rest));
        long = (
            let a = length-append left.front (replicate v.count (kind_in text v.domain)) in
            let b = length-replicate v.count (kind_in text v.domain) in
            let c : length after ≡ length (made ++ variables_in text v) = ap (λ xs. length xs) is in
            let d = length-append made (variables_in text v) in
            let e = length-map (numbers_below 0 v.count) (element_of text v) in
            let f = count-numbers 0 v.count in
            let g = left.long in omega (arith, a, b, c, d, e, f, g)
            );
      }

  pub none_left : (made : List VariableData) → Left made [] → made ≡ flat_map (variables_in text) text.variables
  none_left made left = sym (append-nil made) ∙ left.all
