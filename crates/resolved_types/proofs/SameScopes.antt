-- Statements that declare the same leave the same scopes behind them.
use Rattle.std.proofs.Common.{◌≡◌, refl, ap, ◌∙◌, None}
use Rattle.c_lang.specs.Trees.{Statement, Statements, if_else, while_loop, none, more, Expression}
use Rattle.c_lang.specs.declared.unit.Pos.{Pos}
use Rattle.c_types.specs.Names.{Entries}
use Rattle.c_types.specs.Scopes.{Scope, with_dest}
use Rattle.c_types.specs.Statements.{dest_of, with_locals, told_by, told_by_all, scope_after, begun, entered, after_block, is_force}
use Rattle.std.specs.Prelude.{if◌then◌else◌, unwrap_or}

pub record DeclaresSame (a b : Statement) : Type 0 where
  pub force : is_force a ≡ is_force b
  pub dest : dest_of a ≡ dest_of b
  pub told : (es : Entries) → told_by es a ≡ told_by es b

pub record DeclareSame (xs ys : Statements) : Type 0 where
  pub locals : (es : Entries) → with_locals es xs ≡ with_locals es ys
  pub told : (es : Entries) → told_by_all es xs ≡ told_by_all es ys

pub declares_itself : (s : Statement) → DeclaresSame s s
declares_itself s = record { force = refl; dest = refl; told = λ es. refl }

pub declare_nothing : DeclareSame none none
declare_nothing = record { locals = λ es. refl; told = λ es. refl }

pub declare_more : (a b : Statement) (xs ys : Statements) → DeclaresSame a b → DeclareSame xs ys → DeclareSame (more a xs) (more b ys)
declare_more a b xs ys h k = record {
  locals = λ es. ap (λ d. with_locals (with_dest es d) xs) h.dest ∙ k.locals (with_dest es (dest_of b));
  told = λ es. ap (λ (e : Entries). told_by_all e xs) (h.told es) ∙ k.told (told_by es b);
}

module _ (xs ys : Statements) (h : DeclareSame xs ys) where
  pub told_block : (es : Entries) → with_locals (told_by_all es xs) xs ≡ with_locals (told_by_all es ys) ys
  told_block es = ap (λ (e : Entries). with_locals e xs) (h.told es) ∙ h.locals (told_by_all es ys)

  pub same_entered : (s : Scope) → entered s xs ≡ entered s ys
  same_entered s = ap (λ (e : Entries). record s { ahead = e; forced = None }) (h.locals s.ahead)

  pub same_begun : (s : Scope) → begun s xs ≡ begun s ys
  same_begun s = ap (λ (e : Entries). record s { ahead = e }) (h.locals s.ahead)

  pub same_after_block : (s : Scope) → after_block s xs ≡ after_block s ys
  same_after_block s = ap (λ (e : Entries). record s { told = e }) (told_block s.told)

pub declares_if : (p q : Pos) (c d : Expression) (xs ys vs ws : Statements) → DeclareSame xs vs → DeclareSame ys ws
    → DeclaresSame (if_else p c xs ys) (if_else q d vs ws)
declares_if p q c d xs ys vs ws h k = record {
  force = refl;
  dest = refl;
  told = λ es. ap (λ (e : Entries). with_locals (told_by_all e ys) ys) (told_block xs vs h es) ∙ told_block ys ws k (with_locals (told_by_all es vs) vs);
}

pub declares_while : (p q : Pos) (c d : Expression) (xs vs : Statements) → DeclareSame xs vs
    → DeclaresSame (while_loop p c xs) (while_loop q d vs)
declares_while p q c d xs vs h = record { force = refl; dest = refl; told = told_block xs vs h }

pub same_after : (a b : Statement) (s : Scope) → DeclaresSame a b → scope_after s a ≡ scope_after s b
same_after a b s h =
    let told = h.told s.told in
    (λ i. record s {
      outside = if h.force i then unwrap_or s.forced s.outside else s.outside;
      forced = if h.force i then None else s.forced;
      locals = with_dest s.locals (h.dest i);
      told = told i;
    })
