use Rattle.std.proofs.Common.{rules, ◌≡◌, ◌++◌, ◌∷◌, [], ◌<◌, ◌≤◌, length, OnOk, slice_set, slice_index_or, ap, ap₂, ◌∙◌, subst}
use Rattle.loop_invariants.proofs.AddingLaws.{place, extended, one, set_there, put_behind}
use Rattle.loop_invariants.proofs.adding.put_invariant.Goals as goal

pub returns-in_ok-made-clause-put : goal.returns-in_ok-made-clause-put
returns-in_ok-made-clause-put c =
    let less : place c.args.func.now c.args.number c.args.loops.now < length c.args.loops.now = search rules in
    let entry : c.index-as_slice-at.result ≡ slice_index_or c.args.loops.now (place c.args.func.now c.args.number c.args.loops.now) c.index-as_slice-at.result = search rules in
    let at : c.place_of-at.result ≡ place c.args.func.now c.args.number c.args.loops.now = search rules in
    let made : c.in_ok-made.made ≡ extended c.args.fact c.index-as_slice-at.result = c.in_ok-made.ensures in
    c.set.ensures ∙ ap₂ (λ k v. slice_set c.args.loops.now k v) at (made ∙ ap (extended c.args.fact) entry)
    ∙ set_there c.args.func.now c.args.number c.args.fact c.args.loops.now c.index-as_slice-at.result less

pub returns-in_ok-with_one-clause-put : goal.returns-in_ok-with_one-clause-put
returns-in_ok-with_one-clause-put c =
    let far : length c.args.loops.now ≤ place c.args.func.now c.args.number c.args.loops.now = search rules in
    let made : c.in_ok-with_one.field-0 ≡ one c.args.func.now c.args.number c.args.fact = c.in_ok-with_one.ensures in
    subst (λ xs. OnOk c.push.result (c.push.new.self ≡ xs)) (ap (λ x. c.args.loops.now ++ (x ∷ [])) made ∙ put_behind c.args.func.now c.args.number c.args.fact c.args.loops.now far) c.push.ensures.ok
