-- What bounds have of a define rests on the defines that it uses alone.
use Rattle.std.proofs.Common.{◌≡◌, ℕ, zero, ℤ, List, map, get_or, Option, None, if◌then◌else◌, refl, sym, ap, ◌∙◌}
use Rattle.std.proofs.Math.ListN as lists
use Rattle.spectra_resolved.specs.declared.tree.Leaf.{Leaf}
use Rattle.spectra_resolved.specs.declared.tree.Leaf.TheVariants as leaf
use Rattle.spectra_resolved.specs.declared.stand.Stand.TheVariants as stand
use Rattle.spectra_resolved.specs.Resolved.{ResolvedTree, tree, Form}
use Rattle.spectra_resolved.specs.Texts.{ResolvedDefinition}
use Rattle.spectra_judge.specs.Kinds.{Anything}
use Rattle.spectra_uses.specs.Uses.{leaf_uses, uses_in, form_uses}
use Rattle.spectra_copies.specs.Numbers.{joined_number, remainder_number, leaf_number, number_in, form_number}
use Rattle.spectra_bounds.specs.Numbers.{Constants, known_constants, is_faulty, Constant, no_constant, each_of, constant_with, constant_of}
use Rattle.spectra_bounds.proofs.Made.{AgreeOn}
use Rattle.spectra_bounds.proofs.Judging.{agree_left, agree_right, kind-same, faults_of-same}

module _ (f g : List (Option ℤ)) where
  leaf_number-same : (l : Leaf) → AgreeOn None f g (leaf_uses l) → leaf_number f l ≡ leaf_number g l
  leaf_number-same (leaf.Truth b) h = refl
  leaf_number-same (leaf.Number z) h = refl
  leaf_number-same (leaf.EnumName n) h = refl
  leaf_number-same (leaf.Variable k) h = refl
  leaf_number-same (leaf.Parameter k) h = refl
  leaf_number-same (leaf.Own k) h = refl
  leaf_number-same (leaf.Define k) h = h zero k refl
  leaf_number-same (leaf.Bound at) h = refl
  leaf_number-same (leaf.Hole hole) h = refl

  mutual
    number-same : (t : ResolvedTree) → AgreeOn None f g (uses_in t) → number_in f t ≡ number_in g t
    number-same (tree first at form) h = form_number-same form h

    form_number-same : (form : Form) → AgreeOn None f g (form_uses form) → form_number f form ≡ form_number g form
    form_number-same (Form.LeafOf l) h = leaf_number-same l h
    form_number-same (Form.PredicateOf k ts) h = refl
    form_number-same (Form.MisuseOf m ts) h = refl
    form_number-same (Form.Next t) h = refl
    form_number-same (Form.Prefix word t) h = refl
    form_number-same (Form.Binary word a b) h =
        let first = number-same a (agree_left None f g (uses_in a) (uses_in b) h) in
        let second = number-same b (agree_right None f g (uses_in a) (uses_in b) h) in
        λ i. joined_number word (first i) (second i)
    form_number-same (Form.Mod t number_at n) h = ap (remainder_number n) (number-same t h)
    form_number-same (Form.And ts operators) h = refl
    form_number-same (Form.Or ts operators) h = refl
    form_number-same (Form.Index first n t) h = refl
    form_number-same (Form.Quantified word variable extent low high ts) h = refl

pub constant-same : (c e : Constants) (body : ResolvedTree) → AgreeOn None c.numbers e.numbers (uses_in body) → AgreeOn Anything c.kinds e.kinds (uses_in body)
    → constant_of c body ≡ constant_of e body
constant-same c e body numbers kinds =
    let faults = faults_of-same (known_constants c.kinds) e.kinds stand.Define body kinds in
    let number = number-same c.numbers e.numbers body numbers in
    let kind = kind-same (known_constants c.kinds) e.kinds body kinds in
    λ i. constant_with (if is_faulty (faults i) then None else number i) (kind i)

-- what lists say of numbers and of kinds, each by itself
pub number_there : (f : List Constant) (k : ℕ) → get_or (map (λ (c : Constant). c.number) f) k None ≡ (get_or f k no_constant).number
number_there f k = lists.get_or-map (λ (c : Constant). c.number) f k no_constant

pub kind_there : (f : List Constant) (k : ℕ) → get_or (map (λ (c : Constant). c.kind) f) k Anything ≡ (get_or f k no_constant).kind
kind_there f k = lists.get_or-map (λ (c : Constant). c.kind) f k no_constant

pub made-same : (f g : List Constant) (d : ResolvedDefinition) → AgreeOn no_constant f g (uses_in d.body) → constant_of (each_of f) d.body ≡ constant_of (each_of g) d.body
made-same f g d h =
    constant-same (each_of f) (each_of g) d.body (λ i u e. number_there f u ∙ ap (λ (c : Constant). c.number) (h i u e) ∙ sym (number_there g u))
    (λ i u e. kind_there f u ∙ ap (λ (c : Constant). c.kind) (h i u e) ∙ sym (kind_there g u))
