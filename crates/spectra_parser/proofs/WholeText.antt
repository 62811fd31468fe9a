-- Whole texts: what is read is a text, and a text is read.
use Rattle.std.proofs.Common.{◌≡◌, ℕ, zero, suc, Bool, true, false, cond, not, append_assoc, List, [], ◌∷◌, ◌++◌, Ok, Err, refl, sym, ap, ◌∙◌, ◌<◌, length, length-append, arith}
use Rattle.spectra_trees.specs.declared.class.Class.TheVariants as classes
use Rattle.spectra_trees.specs.Classes.{place_of, same_class}
use Rattle.spectra_trees.specs.Data.{NameData, ItemData, TreeData}
use Rattle.spectra_trees.specs.Lexemes.{Lexeme, name_of}
use Rattle.spectra_exprs.specs.Read.{Read, Reader, ◌>>=◌, starts, expect, all_of}
use Rattle.spectra_parser.specs.Items.{item_after, at_end, before_end, import_after, text_of}
use Rattle.spectra_exprs.specs.Forms.{Gives, Token, ◌▸◌, Steps}
use Rattle.spectra_parser.specs.ItemGrammar.{ItemAfter, TextIn, Text}
use Rattle.spectra_parser.proofs.SoundItems.{n}
use Rattle.spectra_exprs.proofs.ClassSets.{going}
use Rattle.spectra_exprs.proofs.Completeness.{Reaches, reaches_then, whole_token, begins_token, begins_then}
use Rattle.spectra_exprs.proofs.ClassSets.{going_apart}
use Rattle.spectra_exprs.specs.Read.{grow}
use Rattle.spectra_parser.specs.Texts.{HasTree}
use Rattle.spectra_parser.proofs.SoundTexts.{sound_item_after, sound_text}
use Rattle.spectra_exprs.proofs.Completeness.{some_tokens}
use Rattle.spectra_parser.proofs.WholeTexts.{b_item, begins_item, c_imports, whole_imports, tail_read}

none_going : (ts : List Lexeme) → going [] ts ≡ false
none_going [] = refl
none_going (t ∷ ts) = refl

-- ---- a text is read

-- the grammar may have more levels than are read
module _ {E : Type 0} (left : ℕ) (deep : n < left → E) (end : Lexeme) (finish : same_class end.class classes.Finish ≡ true) where
  abbrev items_of : List NameData → Lexeme → Reader TreeData
  items_of imports m ts = all_of before_end item_after [] ts >>= λ items rest. Ok (record { header = name_of m; imports = imports; items = items }, rest)

  abbrev name_of_text : List NameData → Lexeme → Reader TreeData
  name_of_text imports h ts = expect classes.Name ts >>= items_of imports

  behind_name : (imports : List NameData) (used : List Lexeme) (tree : TreeData) → (Token classes.Name ▸ λ m. Steps (ItemAfter left) [] ▸ λ items. Gives (record { header = name_of m; imports = imports; items = items })) used tree
      → Reaches E (expect classes.Name (used ++ end ∷ []) >>= items_of imports) (tree, end ∷ [])
  behind_name imports used tree t =
      let read = (whole_token [] classes.Name).reads t.front t.value (t.back ++ end ∷ []) t.before (none_going (t.back ++ end ∷ [])) in
      rw (t.parts, append_assoc t.front t.back (end ∷ []))
      (reaches_then (expect classes.Name (t.front ++ (t.back ++ end ∷ []))) (items_of imports) t.value (t.back ++ end ∷ []) (tree, end ∷ []) read (tail_read left deep end finish imports t.value t.back tree t.after))

  behind_head : (imports : List NameData) (used : List Lexeme) (tree : TreeData) → (Token classes.Head ▸ λ h. Token classes.Name ▸ λ m. Steps (ItemAfter left) [] ▸ λ items. Gives (record { header = name_of m; imports = imports; items = items })) used tree
      → Reaches E (expect classes.Head (used ++ end ∷ []) >>= name_of_text imports) (tree, end ∷ [])
  behind_head imports used tree t =
      let read = (whole_token [] classes.Head).reads t.front t.value (t.back ++ end ∷ []) t.before (none_going (t.back ++ end ∷ [])) in
      rw (t.parts, append_assoc t.front t.back (end ∷ []))
      (reaches_then (expect classes.Head (t.front ++ (t.back ++ end ∷ []))) (name_of_text imports) t.value (t.back ++ end ∷ []) (tree, end ∷ []) read (behind_name imports t.back tree t.after))

  text_used : (used : List Lexeme) (tree : TreeData) → TextIn left used tree → Reaches E (text_of (used ++ end ∷ [])) (tree, end ∷ [])
  unfolding text_of place_of
  text_used used tree t =
      let front : going (classes.Head ∷ []) (t.back ++ end ∷ []) ≡ true = (begins_then (begins_token classes.Head)).first t.back tree (end ∷ []) t.after in
      let quiet : going c_imports (t.back ++ end ∷ []) ≡ false = going_apart (classes.Head ∷ []) c_imports (record { checked = refl }) (t.back ++ end ∷ []) front in
      let read = whole_imports.reads t.front t.value (t.back ++ end ∷ []) t.before quiet in
      rw (t.parts, append_assoc t.front t.back (end ∷ []))
      (reaches_then (all_of (starts classes.Import) import_after [] (t.front ++ (t.back ++ end ∷ []))) (λ imports rest. expect classes.Head rest >>= name_of_text imports) t.value (t.back ++ end ∷ []) (tree, end ∷ []) read (behind_head t.value t.back tree t.after))

-- a text of any number of levels is read, or opens a level too many
pub text_reaches : {E : Type 0} (left : ℕ) → (n < left → E) → (ts : List Lexeme) (tree : TreeData) (t : Text left ts tree) → Reaches E (text_of ts) (tree, t.end ∷ [])
text_reaches left deep ts tree t = rw t.whole (text_used left deep t.end t.finish t.used tree t.derives)

never : n < n → ⊥
never less = absurd (omega arith)

all_read : (r : Read TreeData) (x : TreeData × List Lexeme) → Reaches ⊥ r x → r ≡ Ok x
all_read r x (Reaches.read e) = e
all_read r x (Reaches.opens deep at e) = absurd deep

pub text_read : (ts : List Lexeme) (tree : TreeData) (t : HasTree ts tree) → text_of ts ≡ Ok (tree, t.end ∷ [])
text_read ts tree t = all_read (text_of ts) (tree, t.end ∷ []) (text_reaches n never ts tree t)

value_of : {A : Type 0} (a b : A) (r s : List Lexeme) → ◌≡◌ {A = Read A} (Ok (a, r)) (Ok (b, s)) → (b ≡ a) × (s ≡ r)
value_of {A = A} a b r s e =
    let pair : ◌≡◌ {A = A × List Lexeme} (a, r) (b, s) = cc in
    (sym (ap (λ (x : A × List Lexeme). x.0) pair), sym (ap (λ (x : A × List Lexeme). x.1) pair))

pub one_tree : (ts : List Lexeme) (a b : TreeData) → HasTree ts a → HasTree ts b → a ≡ b
one_tree ts a b p q = let e : ◌≡◌ {A = Read TreeData} (Ok (b, q.end ∷ [])) (Ok (a, p.end ∷ [])) = sym (text_read ts b q) ∙ text_read ts a p in (value_of b a (q.end ∷ []) (p.end ∷ []) e).0

-- ---- what is read is a text

shorter : (ts used rest : List Lexeme) → ts ≡ used ++ rest → 0 < length used → length rest < length ts
shorter ts used rest front some = let size = length-append used rest in let whole : length ts ≡ length (used ++ rest) = ap length front in omega (arith, size, whole, some)

module _ (k : ℕ) (further : (a : List ItemData) (ts : List Lexeme) (b : List ItemData) (rest : List Lexeme) → length ts < k → grow before_end item_after k a ts ≡ Ok (b, rest) → before_end rest ≡ false) where
  one_more : (r : Read (List ItemData)) (a : List ItemData) (ts : List Lexeme) (b : List ItemData) (rest : List Lexeme) → length ts < suc k → item_after a ts ≡ r → (r >>= λ b rest. grow before_end item_after k b rest) ≡ Ok (b, rest) → before_end rest ≡ false
  one_more (Ok x) a ts b rest lt read e =
      let g = (sound_item_after a).got ts x.0 x.1 read in
      let some = some_tokens b_item g.used ((begins_then (begins_item n never)).first g.used x.0 [] g.derives) in
      let less = shorter ts g.used x.1 g.front some in
      further x.0 x.1 b rest (omega arith) e
  one_more (Err f) a ts b rest lt read e = absurd (cc)

  turn : (on : Bool) (a : List ItemData) (ts : List Lexeme) (b : List ItemData) (rest : List Lexeme) → length ts < suc k → before_end ts ≡ on
      → cond on (item_after a ts >>= λ b rest. grow before_end item_after k b rest) (Ok (a, ts)) ≡ Ok (b, rest) → before_end rest ≡ false
  turn true a ts b rest lt is e = one_more (item_after a ts) a ts b rest lt refl e
  turn false a ts b rest lt is e = rw (value_of a b ts rest e).1 is

ended : (k : ℕ) (a : List ItemData) (ts : List Lexeme) (b : List ItemData) (rest : List Lexeme) → length ts < k → grow before_end item_after k a ts ≡ Ok (b, rest) → before_end rest ≡ false
unfolding grow
ended zero a ts b rest lt e = absurd (omega arith)
ended (suc k) a ts b rest lt e = turn k (ended k) (before_end ts) a ts b rest lt refl e

bound_ok : {A B : Type 0} (r : Read A) (f : A → Reader B) (y : B × List Lexeme) → (r >>= f) ≡ Ok y → (x : A × List Lexeme) × (f x.0 x.1 ≡ Ok y)
bound_ok (Ok x) f y e = (x, e)
bound_ok (Err g) f y e = absurd (cc)

bound_same : {A B : Type 0} (r : Read A) (f : A → Reader B) (y : B × List Lexeme) → (r >>= f) ≡ Ok y → (x : A × List Lexeme) × (r ≡ Ok x) × (f x.0 x.1 ≡ Ok y)
bound_same (Ok x) f y e = (x, refl, e)
bound_same (Err g) f y e = absurd (cc)

text_ends : (ts : List Lexeme) (tree : TreeData) (rest : List Lexeme) → text_of ts ≡ Ok (tree, rest) → before_end rest ≡ false
unfolding text_of
text_ends ts tree rest e =
    let i = bound_ok (all_of (starts classes.Import) import_after [] ts) (λ imports rest. expect classes.Head rest >>= λ h rest. expect classes.Name rest >>= λ m rest. all_of before_end item_after [] rest
    >>= λ items rest. Ok (record { header = name_of m; imports = imports; items = items }, rest)) (tree, rest) e in
    let h = bound_ok (expect classes.Head i.0.1) (λ h rest. expect classes.Name rest >>= λ m rest. all_of before_end item_after [] rest >>= λ items rest. Ok (record { header = name_of m; imports = i.0.0; items = items }, rest)) (tree, rest) i.1 in
    let m = bound_ok (expect classes.Name h.0.1) (λ m rest. all_of before_end item_after [] rest >>= λ items rest. Ok (record { header = name_of m; imports = i.0.0; items = items }, rest)) (tree, rest) h.1 in
    let l = bound_same (all_of before_end item_after [] m.0.1) (λ items rest. Ok (record { header = name_of m.0.0; imports = i.0.0; items = items }, rest)) (tree, rest) m.1 in
    let same = (value_of (record { header = name_of m.0.0; imports = i.0.0; items = l.0.0 }) tree l.0.1 rest l.2).1 in
    rw same (ended (suc (length m.0.1)) [] m.0.1 l.0.0 l.0.1 (omega arith) l.1)

end_of : (ts used rest : List Lexeme) (tree : TreeData) → ts ≡ used ++ rest → TextIn n used tree → before_end rest ≡ false → HasTree ts tree
unfolding before_end at_end
end_of ts used [] tree front t off = absurd (cc)
end_of ts used (x ∷ []) tree front t off = record { used = used; end = x; whole = front; finish = flipped (same_class x.class classes.Finish) off; derives = t }
  where
    flipped : (b : Bool) → not b ≡ false → b ≡ true
    flipped true e = refl
    flipped false e = absurd (cc)
end_of ts used (x ∷ y ∷ rest) tree front t off = absurd (cc)

pub text_got : (ts : List Lexeme) (tree : TreeData) (rest : List Lexeme) → text_of ts ≡ Ok (tree, rest) → HasTree ts tree
text_got ts tree rest e = let g = sound_text.got ts tree rest e in end_of ts g.used rest tree g.front g.derives (text_ends ts tree rest e)
