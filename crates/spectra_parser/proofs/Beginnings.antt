-- Where reading a text stops, what stands before begins a text.
use Rattle.std.proofs.Common.{◌≡◌, ℕ, ◌+◌, List, [], ◌∷◌, ◌++◌, length, take, Err, ◌⊎◌, inl, inr, sym, ap, subst, ◌∙◌, append_assoc, arith, length-append}
use Rattle.std.proofs.lemmas.List.{take_at}
use Rattle.spectra_exprs.specs.declared.fault.SyntaxFault.{SyntaxFault}
use Rattle.spectra_exprs.specs.declared.fault.SyntaxFault.TheVariants as faults
use Rattle.spectra_trees.specs.Lexemes.{Lexeme}
use Rattle.spectra_exprs.proofs.Opening.{Begun, IsNext, IsLast, IsOperator, OpensAt, spelled_append}
use Rattle.spectra_exprs.proofs.Examples.{a_Finish}
use Rattle.spectra_parser.specs.Items.{text_of}
use Rattle.spectra_parser.specs.ItemGrammar.{TextIn}
use Rattle.spectra_parser.specs.Texts.{BeginText, IsBehindPhrase}
use Rattle.spectra_parser.specs.Wholes.{IsWholeFrom}
use Rattle.spectra_parser.proofs.OpeningItems.{wide}
use Rattle.spectra_parser.proofs.OpeningTexts.{full_text}
use Rattle.spectra_parser.proofs.Places.{Numbered, whole_numbered, number_at}

-- what begins the grammar's text begins a text with its end
begun_text : (used : List Lexeme) → Begun (TextIn wide) used → BeginText wide used
begun_text used b =
    record {
      more = b.more ++ a_Finish.token ∷ [];
      spelled = spelled_append b.more (a_Finish.token ∷ []) b.spelled (a_Finish.spelled, tt);
      tree = b.value;
      grammar = record { used = used ++ b.more; end = a_Finish.token; whole = sym (append_assoc used b.more (a_Finish.token ∷ [])); finish = a_Finish.is; derives = b.derives };
    }

before_next : (ts used rest : List Lexeme) (at : ℕ) → Numbered 0 ts → ts ≡ used ++ rest → IsNext at rest → Begun (TextIn wide) used → BeginText wide (take at ts)
before_next ts used [] at h front place b = subst (λ (k : ℕ). BeginText wide (take k ts)) (sym place) (begun_text [] full_text.whole)
before_next ts used (t ∷ rest) at h front place b =
    let counted : t.number ≡ 0 + length used = number_at 0 used t rest (subst (λ (us : List Lexeme). Numbered 0 us) front h) in
    let size : length used ≡ at = omega (arith, counted, place) in
    let taken : take at ts ≡ used = ap (take at) front ∙ take_at used (t ∷ rest) at size in
    subst (λ (us : List Lexeme). BeginText wide us) (sym taken) (begun_text used b)

before_operator : (ts used rest : List Lexeme) (at : ℕ) → Numbered 0 ts → ts ≡ used ++ rest → IsOperator at rest → Begun (TextIn wide) used → BeginText wide (take at ts)
before_operator ts used rest at h front p b = before_next ts used (p.token ∷ p.more) at h (front ∙ ap (λ (m : List Lexeme). used ++ m) p.parts) p.number b

up_to_last : (ts used rest : List Lexeme) (at : ℕ) → Numbered 0 ts → ts ≡ used ++ rest → IsLast at used → Begun (TextIn wide) used → BeginText wide (take (at + 1) ts)
up_to_last ts used rest at h front p b =
    let whole : ts ≡ p.front ++ p.token ∷ rest = front ∙ ap (λ (us : List Lexeme). us ++ rest) p.parts ∙ append_assoc p.front (p.token ∷ []) rest in
    let counted : p.token.number ≡ 0 + length p.front = number_at 0 p.front p.token rest (subst (λ (us : List Lexeme). Numbered 0 us) whole h) in
    let number = p.number in
    let size : length used ≡ at + 1 = omega (arith, counted, number, ap length p.parts, length-append p.front (p.token ∷ [])) in
    let taken : take (at + 1) ts ≡ used = ap (take (at + 1)) front ∙ take_at used rest (at + 1) size in
    subst (λ (us : List Lexeme). BeginText wide us) (sym taken) (begun_text used b)

opens : (ts : List Lexeme) (f : SyntaxFault) → OpensAt (TextIn wide) ts f ⊎ ⊥ → OpensAt (TextIn wide) ts f
opens ts f (inl q) = q
opens ts f (inr q) = absurd q

pub unexpected_begun : (ts : List Lexeme) (at : ℕ) → IsWholeFrom 0 ts → text_of ts ≡ Err (faults.Unexpected at) → BeginText wide (take at ts)
unexpected_begun ts at w read = let q = opens ts (faults.Unexpected at) (full_text.opens ts (faults.Unexpected at) read) in before_next ts q.used q.rest at (whole_numbered 0 ts w) q.front q.place q.begun

parentheses_opens : (ts : List Lexeme) (at : ℕ) → text_of ts ≡ Err (faults.Parentheses at) → OpensAt (TextIn wide) ts (faults.Parentheses at)
parentheses_opens ts at read = opens ts (faults.Parentheses at) (full_text.opens ts (faults.Parentheses at) read)

pub parentheses_begun : (ts : List Lexeme) (at : ℕ) → IsWholeFrom 0 ts → text_of ts ≡ Err (faults.Parentheses at) → BeginText wide (take at ts)
parentheses_begun ts at w read = let q = parentheses_opens ts at read in before_operator ts q.used q.rest at (whole_numbered 0 ts w) q.front q.place q.begun

pub behind_phrase : (ts : List Lexeme) (at : ℕ) → text_of ts ≡ Err (faults.Parentheses at) → IsBehindPhrase ts at
behind_phrase ts at read =
    let q = parentheses_opens ts at read in
    let o = q.place in
    let e = q.behind in
    record {
      front = e.front;
      phrase = e.phrase;
      operator = o.token;
      rest = o.more;
      parts = q.front ∙ ap (λ (u : List Lexeme). u ++ q.rest) e.parts ∙ append_assoc e.front e.phrase q.rest ∙ ap (λ (m : List Lexeme). e.front ++ (e.phrase ++ m)) o.parts;
      number = o.number;
      is = o.operator;
      sort = e.sort;
      left = e.left;
      whole = e.whole;
      any = λ other p. (wide, begun_text (e.front ++ other) (e.any other p));
    }

deep_opens : (ts : List Lexeme) (at : ℕ) → text_of ts ≡ Err (faults.TooDeep at) → OpensAt (TextIn wide) ts (faults.TooDeep at)
deep_opens ts at read = opens ts (faults.TooDeep at) (full_text.opens ts (faults.TooDeep at) read)

pub deeper_begun : (ts : List Lexeme) (at : ℕ) → IsWholeFrom 0 ts → text_of ts ≡ Err (faults.TooDeep at) → BeginText wide (take (at + 1) ts)
deeper_begun ts at w read = let q = deep_opens ts at read in up_to_last ts q.used q.rest at (whole_numbered 0 ts w) q.front q.place q.begun

same_last : (front more : List Lexeme) (t u : Lexeme) → front ++ t ∷ [] ≡ more ++ u ∷ [] → t ≡ u
same_last [] [] t u e = cc
same_last [] (v ∷ []) t u e = absurd (cc)
same_last [] (v ∷ w ∷ more) t u e = absurd (cc)
same_last (v ∷ []) [] t u e = absurd (cc)
same_last (v ∷ w ∷ front) [] t u e = absurd (cc)
same_last (v ∷ front) (w ∷ more) t u e = let rest : front ++ t ∷ [] ≡ more ++ u ∷ [] = cc in same_last front more t u rest

pub deep_begun : (ts : List Lexeme) (at : ℕ) → IsWholeFrom 0 ts → text_of ts ≡ Err (faults.TooDeep at) → BeginText wide (take at ts)
deep_begun ts at w read =
    let q = deep_opens ts at read in
    let p = q.place in
    let e = q.behind in
    let last : e.token ≡ p.token = same_last e.front p.front e.token p.token (sym e.parts ∙ p.parts) in
    let parts : ts ≡ e.front ++ e.token ∷ q.rest = q.front ∙ ap (λ (us : List Lexeme). us ++ q.rest) e.parts ∙ append_assoc e.front (e.token ∷ []) q.rest in
    before_next ts e.front (e.token ∷ q.rest) at (whole_numbered 0 ts w) parts (ap (λ (t : Lexeme). t.number) last ∙ p.number) e.begun
