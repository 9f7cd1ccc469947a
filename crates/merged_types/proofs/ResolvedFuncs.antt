-- Functions that are typed and in resolved form: of sources, and of their plain forms.
use Rattle.std.proofs.Common.{◌≡◌, ◌≤◌, Bool, true, false, length, sym, ap, ◌∙◌, subst}
use Rattle.c_lang.specs.Limits.{parameter_limit}
use Rattle.c_lang.specs.Trees.{Statements, stmts_of}
use Rattle.c_lang.specs.declared.program.Func.{Func}
use Rattle.c_types.specs.Bodies.{body_of}
use Rattle.c_types.specs.Names.{Entries}
use Rattle.c_types.specs.Scopes.{Scope}
use Rattle.c_types.specs.Endings.{can_end}
use Rattle.c_types.specs.Statements.{block_in, resolved_list, begun}
use Rattle.c_types.specs.Functions.{kinds_of, scope_of, with_params, is_main, body_scope, resolved_from, resolved_func}
use Rattle.c_types.specs.Typing.{AreTyped}
use Rattle.c_types.specs.Types.{AreNarrow, AreParams, IsTypedFrom, IsTypedFunc}
use Rattle.c_types.specs.Plain.{plain_statements, plain_func, built_func}
use Rattle.c_types.proofs.FunctionLaws.{plain_body as plain_inside}
use Rattle.c_lang.proofs.TreeLemmas.{statements_back}
use Rattle.resolved_types.proofs.Resolution.{list_tree, list_built}
use Rattle.resolved_types.proofs.ResolvedTyping.{AreResolved}
use Rattle.resolved_types.proofs.SameScopes.{same_begun}
use Rattle.resolved_types.proofs.ResolvedSources.{trees_declare, AllPicksDeclareNothing, plain_all_picks, list_resolved}
use Rattle.merged_types.proofs.PlainTyping.{ArePlain, plain_declare, list_plain}
use Rattle.merged_types.proofs.SameFlow.{flow_list_tree, flow_plain_list}

-- of a function that begins in this scope
pub record IsResolvedFrom (start : Scope) (f : Func) : Type 0 where
  pub params : AreParams start f.params
  pub few : length (kinds_of f.params) ≤ parameter_limit
  pub narrow : AreNarrow (kinds_of f.params)
  pub tree : Statements
  pub built : f.body ≡ stmts_of tree
  pub gives : f.gives ≡ true → is_main f.name ≡ false → can_end tree ≡ false
  pub body : AreResolved (block_in (with_params start f.params)) (begun (with_params start f.params) tree) tree

-- a version's or a transformer's function
abbrev pub IsResolvedFunc : Entries → Bool → Func → Type 0
IsResolvedFunc outside xform f = IsResolvedFrom (scope_of outside xform f.gives) f

-- ---- of sources

pub source_resolved : (start : Scope) (f : Func) → AllPicksDeclareNothing (body_of f.body) → IsTypedFrom start f → IsResolvedFrom start (resolved_from start f)
source_resolved start f quiet h =
    let s = with_params start f.params in
    let ts = body_of f.body in
    let whole = list_tree (begun s ts) ts in
    record {
      params = h.params;
      few = h.few;
      narrow = h.narrow;
      tree = whole;
      built = list_built (begun s ts) ts;
      gives = λ g m. (flow_list_tree (begun s ts) ts).ends ∙ h.gives g m;
      body = subst (λ (t : Scope). AreResolved (block_in s) t whole) (sym (same_begun whole ts (trees_declare (begun s ts) ts) s))
          (list_resolved (block_in s) (begun s ts) ts quiet h.body);
    }

pub func_resolved : (outside : Entries) (xform : Bool) (f : Func) → IsTypedFunc outside xform f → IsResolvedFunc outside xform (resolved_func outside xform f)
func_resolved outside xform f h =
    let s = body_scope outside xform f in
    let ts = body_of f.body in
    source_resolved (scope_of outside xform f.gives) f (plain_all_picks (block_in s) (begun s ts) ts (plain_inside outside xform f) h.body) h

-- ---- of plain forms

module _ (outside : Entries) (f : Func) (h : IsResolvedFunc outside false f) where
  plain_body : body_of (built_func (plain_func f)).body ≡ plain_statements h.tree
  plain_body = statements_back (plain_statements (body_of f.body)) ∙ ap plain_statements (ap body_of h.built ∙ statements_back h.tree)

  plain_is : ArePlain (block_in (body_scope outside false f)) (begun (body_scope outside false f) (plain_statements h.tree)) (plain_statements h.tree) h.tree
  plain_is =
      let s = body_scope outside false f in
      subst (λ (t : Scope). ArePlain (block_in s) t (plain_statements h.tree) h.tree)
      (sym (same_begun (plain_statements h.tree) h.tree (plain_declare h.tree) s)) (list_plain (block_in s) (begun s h.tree) h.tree h.body)

  -- the plain form is typed
  pub plain_typed : IsTypedFunc outside false (built_func (plain_func f))
  plain_typed =
      let s = body_scope outside false f in
      record {
        params = h.params;
        few = h.few;
        narrow = h.narrow;
        gives = λ g m. ap can_end plain_body ∙ (flow_plain_list h.tree).ends ∙ h.gives g m;
        body = subst (λ (ts : Statements). AreTyped (block_in s) (begun s ts) ts) (sym plain_body) plain_is.typed;
      }

  -- and the function is its resolved form
  pub plain_back : resolved_func outside false (built_func (plain_func f)) ≡ f
  plain_back =
      let s = body_scope outside false f in
      let same : resolved_list (begun s (body_of (built_func (plain_func f)).body)) (body_of (built_func (plain_func f)).body) ≡ f.body =
      ap (λ (ts : Statements). resolved_list (begun s ts) ts) plain_body
      ∙ list_built (begun s (plain_statements h.tree)) (plain_statements h.tree) ∙ ap stmts_of plain_is.tree ∙ sym h.built in
      (λ i. record { name = f.name; params = f.params; gives = f.gives; body = same i; pos = f.pos })
