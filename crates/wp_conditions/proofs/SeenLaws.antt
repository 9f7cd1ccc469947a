-- Calls among annotated statements.
use Rattle.std.proofs.Common.{◌≡◌, List, map, ap, ◌∙◌}
use Rattle.c_lang.specs.Names.{Bytes}
use Rattle.c_lang.specs.Trees.{expression_of, statement_of}
use Rattle.c_lang.specs.declared.unit.Pos.{Pos}
use Rattle.c_lang.specs.declared.expr.Expr.{Expr}
use Rattle.c_lang.specs.declared.stmt.Dest.{Dest}
use Rattle.c_lang.specs.declared.stmt.Stmt.TheVariants as stmt
use Rattle.c_lang.proofs.TreeLemmas.{statement_of-Call, statement_of-CallBy}
use Rattle.weakest_preconditions.specs.Annotated.{call, call_by}
use Rattle.annotated_bodies.specs.declared.annotated.Annotated as code
use Rattle.annotated_bodies.specs.declared.annotated.Annotated.{out-Annotated}
use Rattle.annotated_bodies.specs.Seen.{annotated_by, seen_annotated, seen_body}
use Rattle.annotated_bodies.proofs.LevelLaws.{level_of}

module _ (a : code.Annotated) (p : Pos) (d : Dest) (x : Bytes) (es : List Expr) where
  pub seen_call : (out-Annotated a).stmt.now ≡ stmt.Call p d x es
      → seen_annotated a ≡ call p d x (map expression_of es) (out-Annotated a).outcome (out-Annotated a).fresh
  seen_call is = level_of a ∙ ap (λ s. annotated_by s (seen_body (out-Annotated a).first) (seen_body (out-Annotated a).second)
      (out-Annotated a).invariants (out-Annotated a).outcome (out-Annotated a).fresh) (ap statement_of is ∙ statement_of-Call p d x es)

  pub seen_call_by : (out-Annotated a).stmt.now ≡ stmt.CallBy p d x es
      → seen_annotated a ≡ call_by p d x (map expression_of es) (out-Annotated a).outcome (out-Annotated a).fresh
  seen_call_by is = level_of a ∙ ap (λ s. annotated_by s (seen_body (out-Annotated a).first) (seen_body (out-Annotated a).second)
      (out-Annotated a).invariants (out-Annotated a).outcome (out-Annotated a).fresh) (ap statement_of is ∙ statement_of-CallBy p d x es)
