use Rattle.std.proofs.Common.{◌≡◌, [], ◌∷◌, ◌++◌, length, sym, ap, ◌∙◌, rules}
use Rattle.std.proofs.lemmas.List.{append_assoc}
use Rattle.expression_conditions.specs.Meanings.{current}
use Rattle.initial_conditions.specs.Code.Elements.{each_is, others_are_zero}
use Rattle.initial_conditions.proofs.ElementLaws.{from_the_start}
use Rattle.initial_conditions.proofs.elements.put_elements.Goals as goal

pub returns : goal.returns
returns c =
    let a = current c.args.base.now in
    let n = length c.args.elements.now in
    let first = c.without_trailing_zeros-first.result.now in
    let pushed : c.push.new.self.items ≡ (c.args.out.now.items ++ each_is a 0 first) ++ (others_are_zero a (length first) n ∷ []) = search rules in
    pushed ∙ append_assoc c.args.out.now.items (each_is a 0 first) _
    ∙ ap (λ fs. c.args.out.now.items ++ fs)
    (ap (λ zs. each_is a 0 zs ++ (others_are_zero a (length zs) n ∷ [])) c.without_trailing_zeros-first.ensures ∙ sym (from_the_start a n c.args.elements.now))
