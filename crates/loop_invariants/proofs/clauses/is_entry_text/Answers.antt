use Rattle.std.proofs.Common.{codes, None, Some, ap, ◌∙◌}
use Rattle.std.specs.Str.{bytes_eq}
use Rattle.loop_invariants.specs.EntryNames.{entry_text}
use Rattle.std.proofs.lemmas.Slice.Eq.{strip_prefix_is, strip_suffix_is}
use Rattle.loop_invariants.proofs.EntryTexts.{no_end, inside}
use Rattle.loop_invariants.proofs.clauses.is_entry_text.Goals as goal
use Rattle.std.proofs.lemmas.Bool.Decides.{Decides-eqb}

pub returns-in-None-strip_suffix : goal.returns-in-None-strip_suffix
returns-in-None-strip_suffix c = no_end c.args.global.now c.as_bytes-bytes.result.now c.in-Some.rest.now
    (strip_prefix_is Decides-eqb c.as_bytes-bytes.result.now (codes "pre(") (Some c.in-Some.rest) c.in-Some.ensures.cases)
    (strip_suffix_is Decides-eqb c.in-Some.rest.now (codes ")") None c.in-None-strip_suffix.ensures.cases)
    ∙ ap (bytes_eq (entry_text c.args.global.now)) c.as_bytes-bytes.ensures

pub returns-in-Some-strip_suffix : goal.returns-in-Some-strip_suffix
returns-in-Some-strip_suffix c = inside c.args.global.now c.as_bytes-bytes.result.now c.in-Some.rest.now c.in-Some-strip_suffix.inner.now c.eq.result
    (strip_prefix_is Decides-eqb c.as_bytes-bytes.result.now (codes "pre(") (Some c.in-Some.rest) c.in-Some.ensures.cases)
    (strip_suffix_is Decides-eqb c.in-Some.rest.now (codes ")") (Some c.in-Some-strip_suffix.inner) c.in-Some-strip_suffix.ensures.cases)
    (c.eq.ensures ∙ ap (λ g. bytes_eq g c.in-Some-strip_suffix.inner.now) c.as_bytes.ensures)
    ∙ ap (bytes_eq (entry_text c.args.global.now)) c.as_bytes-bytes.ensures
