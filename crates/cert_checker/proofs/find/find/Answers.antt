use Rattle.std.proofs.Common.{rules, ◌≡◌, ◌∙◌, [], ◌∷◌, ◌++◌, slice_get, reverse, ap, sym}
use Rattle.cert_checker.specs.declared.part.Part.TheVariants as part
use Rattle.cert_checker.specs.Code.Finding.{wanted_left}
use Rattle.cert_checker.proofs.FindLaws.{nothing_left, all_left}
use Rattle.cert_checker.proofs.find.find.Goals as goal

pub loop-next-init : goal.loop-next-init
loop-next-init c =
    let begun : c.push.new.self.items ≡ part.Form c.args.form ∷ [] = c.in_ok-push.ensures.items ∙ ap (λ ps. ps ++ (part.Form c.args.form ∷ [])) c.new-parts.ensures.items in
    ap (λ ps. slice_get (wanted_left c.args.wanted (reverse ps)) c.args.place) begun
    ∙ ap (λ ts. slice_get ts c.args.place) (all_left c.args.wanted c.args.form)

pub returns : goal.returns
returns c =
    let empty : c.loop-next.parts.items ≡ [] = search rules in
    sym (nothing_left c.args.wanted c.loop-next.left) ∙ ap (λ ps. slice_get (wanted_left c.args.wanted (reverse ps)) c.loop-next.left) (sym empty) ∙ c.loop-next.invariant
