-- The tables of the operators read one after another at a position.
use Rattle.std.proofs.Common.{◌≡◌, ℕ, suc, ◌+◌, ◌*◌, ◌^◌, Bool, true, false, ◌&&◌, ◌==◌, List, [], ◌∷◌, ◌++◌, length, map, get_or, refl, sym, ap, ◌∙◌, arith, append_assoc, append-nil}
use Rattle.std.specs.List.{list_any}
use Rattle.std.proofs.lemmas.Bool.{and_parts, false≢true}
use Rattle.std.proofs.lemmas.List.{map-append}
use borrow.Author.Tests.{eqb-true}
use Rattle.spec_model.specs.declared.expr.Past.{Past}
use Rattle.spec_model.specs.Syntax.{Formula, PastOf, Formulas, listed, VariableData}
use Rattle.spec_model.specs.Meaning.{Reading, past_of, holds_at, truths_at}
use Rattle.spec_model.specs.Rules.{Position}
use Rattle.spec_model.specs.Moves.{value_among}
use Rattle.spec_model.specs.Sizes.{same_formula, past_trees_of_all}
use Rattle.spec_model.specs.Typing.{count_of, operands_of}
use Rattle.spec_model.specs.Games.{HiddenData, Readout, present_reading, letter_of, cell_of, read_table, read_tables}
use Rattle.spec_model.proofs.Restricted.{same_formula-true}
use Rattle.past_bits.specs.Tables.{entry_of, next_bit, bit_at, number_of_bit}
use Rattle.past_bits.specs.Entries.{place_of, each_with_entries}
use Rattle.past_bits.specs.Bits.{table_of}
use Rattle.past_bits.proofs.Plain.{is_plain, are_plain}
use Rattle.past_bits.proofs.Ordered.{covers, is_in_order}
use Rattle.past_bits.proofs.Agreeing.{each_agrees}
use Rattle.past_bits.proofs.Cells.{cell_is, entry_is_operator}

-- the value of an operator's table at a position, and its entries
abbrev pub value_of : Reading → ℕ → Formula → ℕ
value_of r t (PastOf op es) = number_of_bit (bit_at op (truths_at r es) t)
value_of r t _ = 0

abbrev pub entries_of : Reading → ℕ → Formula → List Bool
entries_of r t e = holds_at r e t ∷ []

past_first : {X : Type 0} (x : X) (xs : List X) (k : ℕ) (d : X) → get_or (x ∷ xs) (1 + k) d ≡ get_or xs k d
past_first x xs k d = let next : 1 + k ≡ suc k = omega arith in rw next refl

-- what stands at the place of a tree that is there
pub at_place : {X : Type 0} (f : Formula → X) (pre post : List Formula) (more : List X) (d : X) (e : Formula) → list_any (same_formula e) pre ≡ true →
    get_or (map f pre ++ more) (place_of (pre ++ post) e) d ≡ f e
at_place f [] post more d e is = absurd (false≢true is)
at_place f (x ∷ pre) post more d e is = at (same_formula e x) refl is (at_place f pre post more d e)
  where
    at : (b : Bool) → same_formula e x ≡ b → list_any (same_formula e) (x ∷ pre) ≡ true →
        (list_any (same_formula e) pre ≡ true → get_or (map f pre ++ more) (place_of (pre ++ post) e) d ≡ f e) →
        get_or (f x ∷ (map f pre ++ more)) (place_of (x ∷ (pre ++ post)) e) d ≡ f e
    at true same there rest = rw same (ap f (sym (same_formula-true e x same)))
    at false same there rest = rw same (past_first (f x) (map f pre ++ more) (place_of (pre ++ post) e) d ∙ rest (rw same at there))

length-listed : (ops : List Formula) (r : Reading) (es : Formulas) → length (listed (each_with_entries ops es)) ≡ length (truths_at r es)
length-listed ops r Formulas.none = refl
length-listed ops r (Formulas.one_more e es) = ap suc (length-listed ops r es)

length-truths : (r : Reading) (es : Formulas) → length (truths_at r es) ≡ count_of es
length-truths r Formulas.none = refl
length-truths r (Formulas.one_more e es) = ap suc (length-truths r es)

read : {es es' : List (List Bool)} {ns ns' : List ℕ} → es ≡ es' → ns ≡ ns' → ◌≡◌ {A = Readout} (record { entries = es; next = ns }) (record { entries = es'; next = ns' })
read p q = λ i. record { entries = p i; next = q i }

module _ (ops : List Formula) (vs : List VariableData) (p : Position) (r : Reading) (t : ℕ) (variables : (k : ℕ) → value_among vs p k ≡ r.variable k t) where
  -- the letters of an operator's operands, where the tables of those within it were read
  letters : (pre post : List Formula) (es : Formulas) (entries : List (List Bool)) → ops ≡ pre ++ post → entries ≡ map (entries_of r t) pre → are_plain false es ≡ true →
      covers pre (past_trees_of_all es) ≡ true →
      map (λ a. holds_at (present_reading vs p entries) a 0) (listed (each_with_entries ops es)) ≡ map (λ (a : ℕ → Bool). a t) (truths_at r es)
  letters pre post es entries split so_far plain inner =
      each_agrees ops pre (present_reading vs p entries) r false (λ u w. w ≡ t)
      (λ k u w is. variables k ∙ ap (λ w. r.variable k w) (sym is))
      (λ op fs u w is there.
      ap (λ xs. get_or (get_or xs (place_of ops (PastOf op fs)) []) 0 false) (so_far ∙ sym (append-nil (map (entries_of r t) pre)))
      ∙ (ap (λ os. get_or (get_or (map (entries_of r t) pre ++ []) (place_of os (PastOf op fs)) []) 0 false) split
      ∙ (ap (λ x. get_or x 0 false) (at_place (entries_of r t) pre post [] [] (PastOf op fs) there) ∙ ap (λ w. past_of op (truths_at r fs) w) (sym is))))
      (λ no. absurd (false≢true no))
      es 0 t refl plain inner

  -- one table more
  read_one : (pre post : List Formula) (op : Past) (es : Formulas) (q : Readout) → ops ≡ pre ++ post → q.entries ≡ map (entries_of r t) pre →
      is_plain false (PastOf op es) ≡ true → covers pre (past_trees_of_all es) ≡ true →
      read_table q (table_of ops (PastOf op es)) (cell_of vs p q.entries (table_of ops (PastOf op es)) (value_of r t (PastOf op es)))
      ≡ record { entries = q.entries ++ entries_of r t (PastOf op es) ∷ []; next = q.next ++ value_of r (suc t) (PastOf op es) ∷ [] }
  read_one pre post op es q split so_far plain inner =
      ap (λ c. read_table q (table_of ops (PastOf op es)) c) cell
      ∙ read
      (ap (λ b. q.entries ++ (b ∷ []) ∷ []) (cell_is (entry_of op) false op (truths_at r es) t (bit_at op (truths_at r es) t) many ∙ entry_is_operator op (truths_at r es) t))
      (ap (λ n. q.next ++ n ∷ []) (cell_is (λ a b value. number_of_bit (next_bit op a b value)) 0 op (truths_at r es) t (bit_at op (truths_at r es) t) many))
    where
      parts : ((count_of es == operands_of op) ≡ true) × (are_plain false es ≡ true)
      parts = and_parts (count_of es == operands_of op) (are_plain false es) plain

      many : length (truths_at r es) ≡ operands_of op
      many = length-truths r es ∙ eqb-true (count_of es) (operands_of op) parts.0

      cell : cell_of vs p q.entries (table_of ops (PastOf op es)) (value_of r t (PastOf op es))
          ≡ number_of_bit (bit_at op (truths_at r es) t) * 2 ^ length (truths_at r es) + letter_of (map (λ (a : ℕ → Bool). a t) (truths_at r es))
      cell = λ i. number_of_bit (bit_at op (truths_at r es) t) * 2 ^ (length-listed ops r es i) + letter_of (letters pre post es q.entries split so_far parts.1 inner i)

  -- all that are left
  pub walk : (pre post : List Formula) (more : List HiddenData) (rest : List ℕ) (q : Readout) → ops ≡ pre ++ post → is_in_order pre post ≡ true → q.entries ≡ map (entries_of r t) pre →
      read_tables vs p q (map (table_of ops) post ++ more) (map (value_of r t) post ++ rest)
      ≡ read_tables vs p (record { entries = q.entries ++ map (entries_of r t) post; next = q.next ++ map (value_of r (suc t)) post }) more rest
  walk pre [] more rest q split order so_far = ap (λ w. read_tables vs p w more rest) (read (sym (append-nil q.entries)) (sym (append-nil q.next)))
  walk pre (PastOf op es ∷ post) more rest q split order so_far =
      let first = and_parts (is_plain false (PastOf op es)) (covers pre (past_trees_of_all es) && is_in_order (pre ++ PastOf op es ∷ []) post) order in
      let second = and_parts (covers pre (past_trees_of_all es)) (is_in_order (pre ++ PastOf op es ∷ []) post) first.1 in
      ap (λ w. read_tables vs p w (map (table_of ops) post ++ more) (map (value_of r t) post ++ rest)) (read_one pre (PastOf op es ∷ post) op es q split so_far first.0 second.0)
      ∙ (walk (pre ++ PastOf op es ∷ []) post more rest (record { entries = q.entries ++ entries_of r t (PastOf op es) ∷ []; next = q.next ++ value_of r (suc t) (PastOf op es) ∷ [] })
      (split ∙ sym (append_assoc pre (PastOf op es ∷ []) post)) second.1
      (ap (λ xs. xs ++ entries_of r t (PastOf op es) ∷ []) so_far ∙ sym (map-append (entries_of r t) pre (PastOf op es ∷ [])))
      ∙ ap (λ w. read_tables vs p w more rest)
      (read (append_assoc q.entries (entries_of r t (PastOf op es) ∷ []) (map (entries_of r t) post)) (append_assoc q.next (value_of r (suc t) (PastOf op es) ∷ []) (map (value_of r (suc t)) post))))
  walk pre (_ ∷ post) more rest q split order so_far = absurd (false≢true order)
