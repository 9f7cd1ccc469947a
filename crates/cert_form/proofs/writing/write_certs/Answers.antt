use Rattle.std.proofs.Common.{◌∙◌, ap, ◌≤◌, ◌∷◌, [], ◌++◌, List, ℕ}
use Rattle.std.specs.Prelude.{Some}
use Rattle.serde_json.specs.Data.{Data, depth}
use Rattle.serde_json.specs.Read.{max_depth}
use Rattle.serde_json.specs.View.{view}
use Rattle.serde_json.specs.Written.{has_float, compact_text}
use Rattle.cert_form.proofs.WrittenLaws.{certs-whole, certs-depth, text-written}
use Rattle.cert_form.proofs.writing.write_certs.Goals as goal

pub returns-clause-text : goal.returns-clause-text
returns-clause-text c =
    c.in_ok-push.ensures.items
    ∙ ap (λ (t : List ℕ). t ++ 10 ∷ []) (c.in_ok-text.ensures.text (ap has_float c.in_ok-value.ensures ∙ certs-whole c.args.certs.now) ∙ ap compact_text c.in_ok-value.ensures)

pub returns-clause-reads_back : goal.returns-clause-reads_back
returns-clause-reads_back c = λ writable.
    let flat : depth (view c.in_ok-value.value) ≤ max_depth = rw c.in_ok-value.ensures (certs-depth c.args.certs.now) in
    rw c.in_ok-push.ensures.items (text-written c.args.certs.now c.in_ok-text.text.items writable c.in_ok-text.ensures.utf8 (c.in_ok-text.ensures.reads_back flat ∙ ap (λ (d : Data). Some d) c.in_ok-value.ensures))
