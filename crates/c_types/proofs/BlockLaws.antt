-- The locals of a block stand behind those that were there when it began.
use Rattle.std.proofs.Common.{◌≡◌, ◌∙◌, [], ◌++◌, ◌∷◌, take, length, Bool, true, false, is_some, refl, sym, ap, append_assoc, append-nil, ℕ}
use Rattle.std.proofs.Math.Seq.{take-append_seam}
use Rattle.c_lang.specs.Names.{Bytes}
use Rattle.c_lang.specs.Trees.{Statements, none, more}
use Rattle.c_lang.specs.declared.stmt.Dest.{Dest}
use Rattle.c_lang.specs.declared.stmt.Dest.TheVariants.{Nowhere, Into, Fresh}
use Rattle.c_types.specs.Names.{Means, Cell, Entries, found, added}
use Rattle.c_types.specs.Scopes.{with_dest, Scope}
use Rattle.c_types.specs.Statements.{dest_of, with_locals, scope_after_all, begun, after_body}

-- a list and what stands behind it
record Behind (before after : Entries) : Type 0 where
  pub rest : Entries
  pub is : after ≡ before ++ rest

nothing_behind : (es : Entries) → Behind es es
nothing_behind es = record { rest = []; is = sym (append-nil es) }

added_behind : (es : Entries) (x : Bytes) (m : Means) → Behind es (added es x m)
added_behind es x m = by (is_some (found es x)) refl where
  by : (b : Bool) → is_some (found es x) ≡ b → Behind es (added es x m)
  by true h = record { rest = []; is = rw (h, append-nil es) refl }
  by false h = record { rest = (x, m) ∷ []; is = rw h refl }

dest_behind : (es : Entries) (d : Dest) → Behind es (with_dest es d)
dest_behind es Nowhere = nothing_behind es
dest_behind es (Into x) = nothing_behind es
dest_behind es (Fresh k x) = added_behind es x (Cell k)

locals_behind : (es : Entries) (ss : Statements) → Behind es (with_locals es ss)
locals_behind es none = nothing_behind es
locals_behind es (more s ss) =
    let one = dest_behind es (dest_of s) in
    let others = locals_behind (with_dest es (dest_of s)) ss in
    record { rest = one.rest ++ others.rest; is = others.is ∙ ap (λ z. z ++ others.rest) one.is ∙ append_assoc es one.rest others.rest }

pub locals_leave : (es : Entries) (ss : Statements) → take (length es) (with_locals es ss) ≡ es
locals_leave es ss = let b = locals_behind es ss in rw b.is (take-append_seam es b.rest)

-- what is left of the scope once the block's names are gone
pub block_left : (s t : Scope) (ss : Statements) (base mark : ℕ) (locals told ahead : Entries)
    → base ≡ length s.locals → mark ≡ length s.ahead → t ≡ scope_after_all (begun s ss) ss
    → told ≡ with_locals t.told ss → locals ≡ take base t.locals → ahead ≡ take mark t.ahead
    → ◌≡◌ {A = Scope} (record t { locals = locals; told = told; ahead = ahead }) (after_body s ss)
block_left s t ss base mark locals told ahead at_base at_mark after told_more cut cut_ahead =
    rw (cut, cut_ahead, told_more, after, at_base, at_mark, locals_leave s.locals ss, locals_leave s.ahead ss) refl
