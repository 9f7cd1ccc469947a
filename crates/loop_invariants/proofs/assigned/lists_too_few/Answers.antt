use Rattle.std.proofs.Common.{Bool, not, ◌&&◌, Option, List, map, unwrap_or, sym, ap, ◌∙◌}
use Rattle.std.specs.Option.{option_map}
use Rattle.c_lang.specs.Names.{Bytes}
use Rattle.c_lang.specs.Trees.{statements, statement_of}
use Rattle.std.specs.List.{list_any}
use Rattle.loop_invariants.specs.declared.hints.Contract.{Contract}
use Rattle.loop_invariants.specs.Context.{context_of, names_of, listed_or}
use Rattle.loop_invariants.specs.SetNames.{is_among, sets_in}
use Rattle.loop_invariants.proofs.ListingLaws.{none_missing}
use Rattle.loop_invariants.proofs.assigned.lists_too_few.Goals as goal

abbrev lacks : List Bytes → List Bytes → List Bytes → Bool
lacks globals set listed = list_any (λ x. is_among x globals && not (is_among x listed)) set

abbrev listed_by : List Bytes → Option Contract → List Bytes
listed_by globals contract = unwrap_or (option_map (λ (c : Contract). listed_or globals c.assigns) contract) globals

pub returns-in-None : goal.returns-in-None
returns-in-None c values =
    let globals : List Bytes = names_of c.args.names.now.globals in
    let set : List Bytes = sets_in (context_of c.args.names.now c.args.hints.now) (statements (map statement_of c.args.func.now.body)) in
    sym (none_missing globals set) ∙ ap (λ contract. lacks globals set (listed_by globals contract)) c.in-None.ensures

pub returns-in-None-assigns : goal.returns-in-None-assigns
returns-in-None-assigns c values =
    let globals : List Bytes = names_of c.args.names.now.globals in
    let set : List Bytes = sets_in (context_of c.args.names.now c.args.hints.now) (statements (map statement_of c.args.func.now.body)) in
    sym (none_missing globals set) ∙ ap (λ listed. lacks globals set (listed_or globals listed)) (sym c.in-None-assigns.is)
    ∙ ap (λ contract. lacks globals set (listed_by globals contract)) c.in-Some.ensures
