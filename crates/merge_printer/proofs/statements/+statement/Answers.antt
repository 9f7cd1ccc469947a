use Rattle.std.proofs.Common.{◌≡◌, ◌∙◌, [], ◌++◌, OnOk, ap, subst, codes}
use Rattle.c_lang.specs.Trees.{statement_of}
use Rattle.c_lang.specs.declared.stmt.Stmt.{Stmt}
use Rattle.merge_printer.specs.Statements.{position_text, statement_text}
use Rattle.c_lang.proofs.TreeLemmas.{statement_of-Output, statement_of-Force, statement_of-Pick}
use Rattle.merge_printer.proofs.Else.{else_text_some}
use Rattle.merge_printer.proofs.Appends.{three, behind}
use Rattle.merge_printer.proofs.statements.+statement.Goals as goal

pub put_else-returns : goal.put_else-returns
put_else-returns t c =
    rw (else_text_some c.args.stmts.now _ c.if-is_empty.ensures)
    (three _ _ _ _ _ _ _ _ c.in_ok-put_text.ensures c.in_ok-put_statements.ensures c.put_text-3.ensures)

pub put_statement-returns-in-Output : goal.put_statement-returns-in-Output
put_statement-returns-in-Output t c =
    rw (c.in-Output.is, statement_of-Output c.in-Output.pos c.in-Output.value) c.put_between-in-Output.ensures

pub put_statement-returns-in-Force : goal.put_statement-returns-in-Force
put_statement-returns-in-Force t c = rw (c.in-Force.is, statement_of-Force c.in-Force.pos) c.put_plain-in-Force.ensures

pub put_statement-returns-in_ok-put_after-in-Pick : goal.put_statement-returns-in_ok-put_after-in-Pick
put_statement-returns-in_ok-put_after-in-Pick t c =
    let after = c.in_ok-put_after-in-Pick.ensures ∙ ap (λ (s : Stmt). c.args.out.now.items ++ (position_text c.in-Pick.pos ++ (codes "if (dsu_updated()) {\n" ++ statement_text (statement_of s)))) c.get.ensures in
    let before = subst (λ (s : Stmt). OnOk c.put_before.result (c.put_before.new.out.items ≡ c.put_after.new.out.items ++ (codes "} else {\n" ++ (statement_text (statement_of s) ++ codes "}\n")))) c.get-in-Pick.ensures c.put_before.ensures in
    rw (c.in-Pick.is, statement_of-Pick c.in-Pick.pos c.in-Pick.after c.in-Pick.before)
    (behind _ _ c.args.out.now.items _ [] (position_text c.in-Pick.pos) (codes "if (dsu_updated()) {\n") (statement_text (statement_of c.in-Pick.after)) (codes "} else {\n" ++ (statement_text (statement_of c.in-Pick.before) ++ codes "}\n")) after before)
