use Rattle.std.proofs.Common.{◌≡◌, ℕ, List, [], ◌∷◌, ◌++◌, ◌∙◌, subst}
use Rattle.std.specs.Result.{OnErr}
use Rattle.sp_outside.specs.Written.{AppendsFront}
use Rattle.session_lines.specs.Shown.{show}
use Rattle.session_lines.specs.Views.{names_of, shown_variables, shown_of}
use Rattle.session_lines.proofs.lines.Lines.write_shown.Goals as goal

pub returns-clause-part : goal.returns-clause-part
returns-clause-part g c =
    let old = c.args.self.now in
    let shown = show (names_of old) (shown_variables old) (shown_of old) in
    let names = c.deref.ensures.value in
    let vars = c.deref-2.ensures.value in
    let values = c.deref-3.ensures.value in
    let items = c.print_row.ensures.items in
    let printed : c.print_row.new.printed.items ≡ shown ++ 10 ∷ [] = cc in
    subst (λ (l : List ℕ). OnErr c.write_line.result (AppendsFront (g.O.Sink.written c.args.output.now) (g.O.Sink.written c.write_line.new.output) l)) (c.deref-4.ensures.value ∙ printed) c.write_line.ensures.part
