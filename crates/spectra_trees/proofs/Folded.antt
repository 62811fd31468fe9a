-- What the variants of an expression's form stand for.
use Rattle.std.proofs.Common.{◌≡◌, map, string_bytes, sym, ap, ◌∙◌}
use Rattle.spectra_trees.specs.declared.tree.Name.{Name}
use Rattle.spectra_trees.specs.declared.tree.BinaryWord.{BinaryWord}
use Rattle.spectra_trees.specs.declared.tree.ExprForm.{ExprForm-F, fold-roll-ExprForm}
use Rattle.spectra_trees.specs.declared.tree.ExprForm.TheFolds.{fold-ExprTree, fold_out-ExprTree}
use Rattle.spectra_trees.specs.declared.tree.ExprTree.{ExprTree}
use Rattle.spectra_trees.specs.declared.tree.ExprForm.TheVariants as variants
use Rattle.spectra_trees.specs.declared.tree.ExprForm.TheVariants.{rolls-Number, rolls-Read, rolls-Call, rolls-Binary, rolls-And, rolls-Or, rolls-Index, rolls-ForAll, rolls-Exists}
use Rattle.spectra_trees.specs.Data.{Form, Expression, expressions}
use Rattle.spectra_trees.specs.Views.{name_data, form_data, expr_data, form_step, expr_step}

tree-folded : (e : ExprTree) → fold-ExprTree Form Expression form_step expr_step e ≡ expr_data e
tree-folded e = fold_out-ExprTree Form Expression form_step expr_step e

pub number_folded : (negative digits : _) → form_data (variants.Number negative digits) ≡ Form.Number negative (string_bytes digits)
number_folded negative digits = ap form_data (sym (rolls-Number negative digits)) ∙ fold-roll-ExprForm Form Expression form_step expr_step (ExprForm-F.Number negative digits)

pub read_folded : (name : Name) → form_data (variants.Read name) ≡ Form.Read (name_data name)
read_folded name = ap form_data (sym (rolls-Read name)) ∙ fold-roll-ExprForm Form Expression form_step expr_step (ExprForm-F.Read name)

pub call_folded : (name : Name) (es : _) → form_data (variants.Call name es) ≡ Form.Call (name_data name) (expressions (map expr_data es.items))
call_folded name es =
    ap form_data (sym (rolls-Call name es))
    ∙ fold-roll-ExprForm Form Expression form_step expr_step (ExprForm-F.Call name es)
    ∙ (λ i. Form.Call (name_data name) (expressions (map (λ e. tree-folded e i) es.items)))

pub binary_folded : (word : BinaryWord) (a b : _) → form_data (variants.Binary word a b) ≡ Form.Binary word (expr_data a.value) (expr_data b.value)
binary_folded word a b =
    ap form_data (sym (rolls-Binary word a b))
    ∙ fold-roll-ExprForm Form Expression form_step expr_step (ExprForm-F.Binary word a b)
    ∙ (λ i. Form.Binary word (tree-folded a.value i) (tree-folded b.value i))

pub and_folded : (es ops : _) → form_data (variants.And es ops) ≡ Form.And (expressions (map expr_data es.items)) ops.items
and_folded es ops =
    ap form_data (sym (rolls-And es ops))
    ∙ fold-roll-ExprForm Form Expression form_step expr_step (ExprForm-F.And es ops)
    ∙ (λ i. Form.And (expressions (map (λ e. tree-folded e i) es.items)) ops.items)

pub or_folded : (es ops : _) → form_data (variants.Or es ops) ≡ Form.Or (expressions (map expr_data es.items)) ops.items
or_folded es ops =
    ap form_data (sym (rolls-Or es ops))
    ∙ fold-roll-ExprForm Form Expression form_step expr_step (ExprForm-F.Or es ops)
    ∙ (λ i. Form.Or (expressions (map (λ e. tree-folded e i) es.items)) ops.items)

pub index_folded : (name : Name) (e : _) → form_data (variants.Index name e) ≡ Form.Index (name_data name) (expr_data e.value)
index_folded name e =
    ap form_data (sym (rolls-Index name e))
    ∙ fold-roll-ExprForm Form Expression form_step expr_step (ExprForm-F.Index name e)
    ∙ (λ i. Form.Index (name_data name) (tree-folded e.value i))

pub for_all_folded : (name : Name) (low high body : _) → form_data (variants.ForAll name low high body) ≡ Form.ForAll (name_data name) (expr_data low.value) (expr_data high.value) (expr_data body.value)
for_all_folded name low high body =
    ap form_data (sym (rolls-ForAll name low high body))
    ∙ fold-roll-ExprForm Form Expression form_step expr_step (ExprForm-F.ForAll name low high body)
    ∙ (λ i. Form.ForAll (name_data name) (tree-folded low.value i) (tree-folded high.value i) (tree-folded body.value i))

pub exists_folded : (name : Name) (low high body : _) → form_data (variants.Exists name low high body) ≡ Form.Exists (name_data name) (expr_data low.value) (expr_data high.value) (expr_data body.value)
exists_folded name low high body =
    ap form_data (sym (rolls-Exists name low high body))
    ∙ fold-roll-ExprForm Form Expression form_step expr_step (ExprForm-F.Exists name low high body)
    ∙ (λ i. Form.Exists (name_data name) (tree-folded low.value i) (tree-folded high.value i) (tree-folded body.value i))
