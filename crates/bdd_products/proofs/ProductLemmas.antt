-- A target joined with one line after the other is the target joined with all, once all levels are out.
use Rattle.std.proofs.Common.{◌≡◌, ℕ, zero, suc, ◌+◌, ◌<◌, Bool, true, false, ◌&&◌, List, [], ◌∷◌, ◌++◌, length, map, take, drop, get_or, Vec, refl, sym, ◌∙◌, ap, arith}
use Rattle.std.specs.declared.alloc.Global.{Global}
use Rattle.spec_model.specs.Diagrams.{Function, with_bit, exists_over, and_exists_over}
use Rattle.bdd_bits.specs.Contents.{Contents, function_at}
use Rattle.bdd_ops.specs.Functions.{joined, join_of}
use Rattle.bdd_sets.specs.Members.{all_true, functions_at}
use Rattle.bdd_products.specs.declared.product.Product.{Product}
use Rattle.bdd_products.specs.Products.{IgnoresAll, NoneReads, AreInOrder, out_of, levels_of, IsProduct}
use Rattle.bdd_products.proofs.QuantLemmas.{same_levels, exists_over-either, exists_over-and}

-- the target joined with one line after the other
abbrev pub joined_out : (ℕ → Function) → Function → List ℕ → List (Vec ℕ Global) → Function
joined_out F f [] outs = f
joined_out F f (line ∷ lines) [] = f
joined_out F f (line ∷ lines) (out ∷ outs) = joined_out F (and_exists_over out.items f (F line)) lines outs

pub joined_out-next : (F : ℕ → Function) (f : Function) (lines : List ℕ) (outs : List (Vec ℕ Global)) (i line : ℕ) (out : Vec ℕ Global) → i < length lines → i < length outs → line ≡ get_or lines i line → out ≡ get_or outs i out →
    joined_out F f (take (i + 1) lines) (take (i + 1) outs) ≡ and_exists_over out.items (joined_out F f (take i lines) (take i outs)) (F line)
joined_out-next F f [] outs i line out below under is is' = absurd (omega arith)
joined_out-next F f (x ∷ lines) [] i line out below under is is' = absurd (omega arith)
joined_out-next F f (x ∷ lines) (o ∷ outs) zero line out below under is is' =
    ap (λ (p : Vec ℕ Global). and_exists_over p.items f (F x)) (sym is') ∙ ap (λ (n : ℕ). and_exists_over out.items f (F n)) (sym is)
joined_out-next F f (x ∷ lines) (o ∷ outs) (suc i) line out below under is is' =
    let next : suc i + 1 ≡ suc (i + 1) = omega arith in
    rw next (joined_out-next F (and_exists_over o.items f (F x)) lines outs i line out (omega arith) (omega arith) is is')

-- lines of which none reads the levels ignore them together
all_ignore : (levels : List ℕ) (fs : List Function) → NoneReads levels fs → IgnoresAll levels (all_true fs)
all_ignore levels [] none m among s b = refl
all_ignore levels (f ∷ fs) none m among s b =
    ap (λ v. v && all_true fs (with_bit s m b)) (none.0 m among s b)
    ∙ ap (λ v. f s && v) (all_ignore levels fs none.1 m among s b)

pub and_assoc : (a b c : Bool) → ((a && b) && c) ≡ (a && (b && c))
and_assoc true b c = refl
and_assoc false b c = refl

pub and_true : (a : Bool) → a ≡ (a && true)
and_true true = refl
and_true false = refl

joined_out-all : (F : ℕ → Function) (f : Function) (lines : List ℕ) (outs : List (Vec ℕ Global)) → AreInOrder (map F lines) (levels_of outs) → joined_out F f lines outs ≡ and_exists_over (out_of (levels_of outs)) f (all_true (map F lines))
joined_out-all F f [] [] order = λ i s. and_true (f s) i
joined_out-all F f [] (out ∷ outs) order = absurd order
joined_out-all F f (line ∷ lines) [] order = absurd order
joined_out-all F f (line ∷ lines) (out ∷ outs) order =
    let g : Function = F line in
    let h : Function = all_true (map F lines) in
    joined_out-all F (and_exists_over out.items f g) lines outs order.1
    ∙ (ap (exists_over (out_of (levels_of outs))) (exists_over-and out.items (λ s. f s && g s) h (all_ignore out.items (map F lines) order.0))
    ∙ (exists_over-either out.items (out_of (levels_of outs)) (λ s. (f s && g s) && h s)
    ∙ ap (exists_over (out.items ++ out_of (levels_of outs))) (λ i s. and_assoc (f s) (g s) (h s) i)))

pub product-taken : (c : Contents) (f whole : Function) (out : List ℕ) (p : Product) → IsProduct whole out c p → joined_out (function_at c) f p.lines.items p.outs.items ≡ and_exists_over out f whole
product-taken c f whole out p is =
    joined_out-all (function_at c) f p.lines.items p.outs.items is.in_order
    ∙ (ap (λ (g : Function). and_exists_over (out_of (levels_of p.outs.items)) f g) is.conjunction ∙ same_levels (out_of (levels_of p.outs.items)) out (λ s. f s && whole s) is.levels)

-- there are as many lists of levels as lines
long_of : (fs : List Function) (outs : List (List ℕ)) → AreInOrder fs outs → length outs ≡ length fs
long_of [] [] order = refl
long_of [] (out ∷ outs) order = absurd order
long_of (f ∷ fs) [] order = absurd order
long_of (f ∷ fs) (out ∷ outs) order = let more = long_of fs outs order.1 in omega (arith, more)

length_levels : (outs : List (Vec ℕ Global)) → length (levels_of outs) ≡ length outs
length_levels [] = refl
length_levels (out ∷ outs) = let more = length_levels outs in omega (arith, more)

length_functions : (c : Contents) (lines : List ℕ) → length (functions_at c lines) ≡ length lines
length_functions c [] = refl
length_functions c (line ∷ lines) = let more = length_functions c lines in omega (arith, more)

pub as_long : (c : Contents) (whole : Function) (out : List ℕ) (p : Product) → IsProduct whole out c p → length p.outs.items ≡ length p.lines.items
as_long c whole out p is =
    let long = long_of (functions_at c p.lines.items) (levels_of p.outs.items) is.in_order in
    let outs = length_levels p.outs.items in
    let lines = length_functions c p.lines.items in
    omega (arith, long, outs, lines)

-- a conjunction in two parts
pub in_two : (F : ℕ → Function) (ms : List ℕ) (n : ℕ) → joined (join_of true) (all_true (map F (take n ms))) (all_true (map F (drop n ms))) ≡ all_true (map F ms)
in_two F [] zero = refl
in_two F [] (suc n) = refl
in_two F (m ∷ ms) zero = refl
in_two F (m ∷ ms) (suc n) =
    (λ i s. and_assoc (F m s) (all_true (map F (take n ms)) s) (all_true (map F (drop n ms)) s) i) ∙ ap (λ (k : Function). λ s. F m s && k s) (in_two F ms n)

pub all_true-append : (fs gs : List Function) → all_true (fs ++ gs) ≡ joined (join_of true) (all_true fs) (all_true gs)
all_true-append [] gs = refl
all_true-append (f ∷ fs) gs = λ i s. (ap (λ (k : Function). f s && k s) (all_true-append fs gs) ∙ sym (and_assoc (f s) (all_true fs s) (all_true gs s))) i

-- the front of the first list, what comes after it, and the second list
pub three_parts : (F : ℕ → Function) (first second : List ℕ) (n : ℕ) → all_true (all_true (map F (take n first)) ∷ map F (drop n first) ++ map F second) ≡ joined (join_of true) (all_true (map F first)) (all_true (map F second))
three_parts F first second n =
    let front : Function = all_true (map F (take n first)) in
    let back : Function = all_true (map F (drop n first)) in
    let rest : Function = all_true (map F second) in
    ap (λ (k : Function). λ s. front s && k s) (all_true-append (map F (drop n first)) (map F second))
    ∙ ((λ i s. sym (and_assoc (front s) (back s) (rest s)) i) ∙ ap (λ (k : Function). joined (join_of true) k rest) (in_two F first n))
