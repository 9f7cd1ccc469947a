-- Calls and returns under other names, in scopes that correspond.
use Rattle.std.proofs.Common.{◌≡◌, Bool, true, false, List, Option, Some, None, refl, sym, ap₂, subst}
use Rattle.std.specs.Option.{option_or, option_map}
use Rattle.c_lang.specs.Names.{Bytes}
use Rattle.c_lang.specs.Trees.{Expression}
use Rattle.c_lang.specs.declared.stmt.Dest.{Dest}
use Rattle.c_lang.specs.declared.stmt.Dest.TheVariants.{Nowhere, Into, Fresh}
use Rattle.c_lang.specs.declared.stmt.Kind.{Kind}
use Rattle.c_lang.specs.declared.stmt.Kind.TheVariants.{Int, Fp}
use Rattle.c_types.specs.Names.{Means, Cell, Array, Code, Refused, Entries, meant}
use Rattle.c_types.specs.Scopes.{Scope, Block, in_scope, names_of, with_dest}
use Rattle.c_types.specs.Expressions.{or_int}
use Rattle.c_types.specs.Calls.{place_in, ints, picked}
use Rattle.c_types.specs.Typing.{IsArray, IsCell, IsDest, IsAnswer}
use Rattle.client_specs.specs.declared.region.Region.{Region}
use Rattle.client_specs.specs.Spelled.{spelled_expression}
use Rattle.merged_program.specs.Expressions.{renamed_dest, renamed_option}
use Rattle.merged_types.proofs.Carrying.{IsKeptCode, in_region, expression_here, expressions_here, kind_carried, expression_carried, arguments_carried}
use Rattle.merged_types.proofs.CarriedScopes.{Renaming, IsCarried, codes_carried, names_carried, kind_of_dest_carried, use_carried, dest_carried}
use Rattle.written_laws.proofs.StatementFits.{DeclaresNothing}
use Rattle.resolved_types.proofs.ResolvedTyping.{IsResolved, AreResolvedArguments, IsResolvedCall, IsResolvedCallBy, IsResolvedReturn}

module _ (R : Renaming) (region : Region) (s t : Scope) (c : IsCarried R region s t) where
  abbrev ρ : Bytes → Bytes
  ρ = R.variables

  abbrev here : Expression → Expression
  here = expression_here R.variables R.functions R.parts region

  abbrev all_here : List Expression → List Expression
  all_here = expressions_here R.variables R.functions R.parts region

  abbrev κ : Bytes → Bytes
  κ = in_region R.variables R.functions R.parts region

  arguments : (ks : List Kind) (es : List Expression) → AreResolvedArguments (names_of s) ks es → AreResolvedArguments (names_of t) ks (all_here es)
  arguments = arguments_carried R.variables R.functions R.parts region (names_of s) (names_of t) (names_carried R region s t c)

  pub expression : (k : Kind) (e : Expression) → IsResolved (names_of s) k e → IsResolved (names_of t) k (here e)
  expression = expression_carried R.variables R.functions R.parts region (names_of s) (names_of t) (names_carried R region s t c)

  pub array : (a : Bytes) → IsArray (names_of s a) → IsArray (names_of t (ρ a))
  array a h = subst IsArray (sym ((names_carried R region s t c).array a h)) h

  pub place : (b : Block) (d : Dest) (e : Expression) → IsDest b s d → IsResolved (names_of s) (place_in s d e) e
      → place_in t (renamed_dest ρ d) (here e) ≡ place_in s d e
  place b d e h k =
      ap₂ (λ (x y : Option Kind). or_int (option_or x y)) (kind_of_dest_carried R region s t c b d h)
      (kind_carried R.variables R.functions R.parts region (names_of s) (names_of t) (names_carried R region s t c) (place_in s d e) e k)

  call_by_code : (b : Block) (d : Dest) (es : List Expression) (o o' : Option Means) → IsKeptCode o o' → IsDest b s d → IsResolvedCall s (meant o) d es
      → IsResolvedCall t (meant o') (renamed_dest ρ d) (all_here es)
  call_by_code b d es None o' kept h k = absurd k
  call_by_code b d es (Some (Cell j)) o' kept h k = absurd k
  call_by_code b d es (Some Array) o' kept h k = absurd k
  call_by_code b d es (Some (Code params gives value denied)) o' kept h k =
      subst (λ (q : Option Means). IsResolvedCall t (meant q) (renamed_dest ρ d) (all_here es)) (sym kept.1.0)
      (refl, use_carried R region s t c b gives d h k.1, arguments params es k.2)
  call_by_code b d es (Some (Refused n)) o' kept h k = absurd k

  pub call_carried : (b : Block) (d : Dest) (f : Bytes) (es : List Expression) → IsDest b s d → IsResolvedCall s (names_of s f) d es
      → IsResolvedCall t (names_of t (κ f)) (renamed_dest ρ d) (all_here es)
  call_carried b d f es h k = call_by_code b d es (in_scope s f) (in_scope t (κ f)) (codes_carried R region s t c f) h k

  pointer_cell : (m : Means) (d : Dest) (es : List Expression) → IsResolvedCallBy s m d es → IsCell m
  pointer_cell (Cell k) d es h = tt
  pointer_cell Array d es h = absurd h
  pointer_cell (Code params gives value denied) d es h = absurd h
  pointer_cell (Refused n) d es h = absurd h

  by_pointer : (b : Block) (d : Dest) (es : List Expression) (m : Means) → IsDest b s d → IsResolvedCallBy s m d es
      → IsResolvedCallBy t m (renamed_dest ρ d) (all_here es)
  by_pointer b d es (Cell Int) h k = absurd k
  by_pointer b d es (Cell (Fp n)) h k = (c.code, use_carried R region s t c b true d h k.1, arguments (ints n) es k.2)
  by_pointer b d es Array h k = absurd k
  by_pointer b d es (Code params gives value denied) h k = absurd k
  by_pointer b d es (Refused n) h k = absurd k

  pub call_by_carried : (b : Block) (d : Dest) (x : Bytes) (es : List Expression) → IsDest b s d → IsResolvedCallBy s (names_of s x) d es
      → IsResolvedCallBy t (names_of t (ρ x)) (renamed_dest ρ d) (all_here es)
  call_by_carried b d x es h k =
      subst (λ (m : Means). IsResolvedCallBy t m (renamed_dest ρ d) (all_here es))
      (sym ((names_carried R region s t c).cell x (pointer_cell (names_of s x) d es k))) (by_pointer b d es (names_of s x) h k)

  abbrev option_here : Option Expression → Option Expression
  option_here e = renamed_option R.variables R.functions (option_map (spelled_expression R.parts region) e)

  returned : (gives : Bool) (e : Option Expression) → IsResolvedReturn (names_of s) gives e → IsResolvedReturn (names_of t) gives (option_here e)
  returned true None h = absurd h
  returned false None h = tt
  returned true (Some e) h = expression Int e h
  returned false (Some e) h = absurd h

  pub return_carried : (e : Option Expression) → IsResolvedReturn (names_of s) s.gives e → IsResolvedReturn (names_of t) t.gives (option_here e)
  return_carried e h = subst (λ (g : Bool). IsResolvedReturn (names_of t) g (option_here e)) (sym c.gives) (returned s.gives e h)

  pub answer_carried : (b : Block) (d : Dest) → IsAnswer b s d → IsAnswer b t (renamed_dest ρ d)
  answer_carried b d h = (dest_carried R region s t c b d h.0, c.code, use_carried R region s t c b true d h.0 h.2)

-- ---- the calls of picks

pub from_picked : (s : Scope) (m : Means) (d : Dest) (es : List Expression) → IsResolvedCall s (picked m) d es → IsResolvedCall s m d es
from_picked s (Code params gives value None) d es h = h
from_picked s (Code params gives value (Some n)) d es h = absurd h
from_picked s (Cell Int) d es h = absurd h
from_picked s (Cell (Fp n)) d es h = absurd h
from_picked s Array d es h = absurd h
from_picked s (Refused n) d es h = absurd h

-- what declares nothing stays where it goes to in every block
pub in_each_block : (a b : Block) (s : Scope) (d : Dest) (ρ : Bytes → Bytes) → DeclaresNothing d → IsDest a s (renamed_dest ρ d) → IsDest b s (renamed_dest ρ d)
in_each_block a b s Nowhere ρ quiet h = tt
in_each_block a b s (Into x) ρ quiet h = h
in_each_block a b s (Fresh k x) ρ quiet h = absurd quiet

pub still_ahead : (es : Entries) (d : Dest) (ρ : Bytes → Bytes) → DeclaresNothing d → with_dest es (renamed_dest ρ d) ≡ es
still_ahead es Nowhere ρ quiet = refl
still_ahead es (Into x) ρ quiet = refl
still_ahead es (Fresh k x) ρ quiet = absurd quiet
