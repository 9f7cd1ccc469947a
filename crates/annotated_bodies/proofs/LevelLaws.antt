-- An annotated statement by its outermost level.
use Rattle.std.proofs.Common.{◌≡◌, ap}
use Rattle.c_lang.specs.Trees.{statement_of}
use Rattle.annotated_bodies.specs.declared.annotated.Annotated as code
use Rattle.annotated_bodies.specs.declared.annotated.Annotated.{fold-Annotated, out-Annotated, fold_out-Annotated}
use Rattle.annotated_bodies.specs.Seen.{Noted, noted_step, annotated_in, annotated_by, seen_annotated, seen_body}

pub level_of : (a : code.Annotated) → seen_annotated a
    ≡ annotated_by (statement_of (out-Annotated a).stmt.now) (seen_body (out-Annotated a).first) (seen_body (out-Annotated a).second)
    (out-Annotated a).invariants (out-Annotated a).outcome (out-Annotated a).fresh
level_of a = ap annotated_in (fold_out-Annotated Noted noted_step a)
