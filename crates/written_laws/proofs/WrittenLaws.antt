-- The laws, each from the one walk.
use Rattle.std.specs.Prelude.{All, slice_index_or}
use Rattle.std.proofs.lemmas.List.Elements.{All-weaker}
use Rattle.c_lang.specs.Names.{Bytes}
use Rattle.c_lang.specs.Trees.{Statement, call, call_by, input, choice}
use Rattle.c_lang.specs.declared.stmt.Dest.{Dest}
use Rattle.c_lang.specs.declared.stmt.Dest.TheVariants.{Nowhere, Into, Fresh}
use Rattle.c_lang.specs.declared.unit.Unit.{Unit}
use Rattle.c_lang.specs.declared.stmt.Kind.{Kind}
use Rattle.c_lang.specs.declared.program.GlobalVar.{GlobalVar}
use Rattle.c_lang.specs.declared.program.Func.{Func}
use Rattle.c_lang.specs.declared.program.Program.{Program}
use Rattle.c_grammar.specs.Written.{IsWritten}
use Rattle.written_laws.specs.Walk.{Context, start_of, ThroughoutAll, InBodies}
use Rattle.c_types.specs.Bodies.{body_of}
use Rattle.written_laws.specs.Breaks.{IsNoStrayBreak, BreaksStandInLoops}
use Rattle.written_laws.specs.Destinations.{OfResult, IsLocal, ResultsGoToLocals, IsNoGlobal, ResultsGoToNoGlobals}
use Rattle.written_laws.specs.Literals.{ShapeHasInts, StatementHasInts, LiteralsAreInts}
use Rattle.written_laws.specs.SourceNames.{IsWord, ShapeHasNames, StatementHasNames, NamesAreWords}
use Rattle.written_laws.proofs.Walks.{both_all, weaker_all}
use Rattle.c_types.specs.Programs.{outside_of}
use Rattle.c_types.specs.Types.{Types}
use Rattle.written_laws.proofs.StatementFits.{HasTarget, IsFit}
use Rattle.written_laws.proofs.TypedLocals.{IsNew, Apart, typed_apart, outside_is_global}
use Rattle.written_laws.proofs.ProgramFits.{GlobalFits, FuncFits, written_fits}

-- what the walk says of each statement, for one law
in_bodies : (u : Unit) (Says : Context → Statement → Type 0) → ((at : Context) (s : Statement) → IsFit u at s → Says at s) → (p : Program) → All (FuncFits u) p.funcs → InBodies Says p
in_bodies u Says gives p h =
    All-weaker (FuncFits u) (λ (f : Func). ThroughoutAll Says (start_of f) (body_of f.body)) (λ f k. weaker_all (IsFit u) Says gives (start_of f) (body_of f.body) k.body) p.funcs h

pub breaks : (u : Unit) (p : Program) → IsWritten u p → BreaksStandInLoops p
breaks u p h = in_bodies u IsNoStrayBreak (λ at s k. k.breaks) p (written_fits u p h).funcs

-- the calls of picks declare nothing
pub targets : (u : Unit) (p : Program) → IsWritten u p → InBodies (λ at s. HasTarget s) p
targets u p h = in_bodies u (λ at s. HasTarget s) (λ at s k. k.target) p (written_fits u p h).funcs

pub results : (u : Unit) (p : Program) → IsWritten u p → ResultsGoToLocals p
results u p h = in_bodies u (λ at s. OfResult (IsLocal at) s) (λ at s k. k.results) p (written_fits u p h).funcs

pub ints : (u : Unit) (p : Program) → IsWritten u p → LiteralsAreInts p
ints u p h =
    let fits = written_fits u p h in
    record {
      initial = All-weaker (GlobalFits u) (λ (g : GlobalVar). ShapeHasInts g.shape) (λ g k. k.ints) p.globals fits.globals;
      bodies = in_bodies u StatementHasInts (λ at s k. k.ints) p fits.funcs;
    }

pub words : (u : Unit) (p : Program) → IsWritten u p → NamesAreWords u p
words u p h =
    let fits = written_fits u p h in
    record {
      globals = All-weaker (GlobalFits u) (λ (g : GlobalVar). IsWord u g.name × ShapeHasNames u g.shape) (λ g k. (k.name, k.words)) p.globals fits.globals;
      protos = fits.protos;
      funcs = All-weaker (FuncFits u) (λ (f : Func). IsWord u f.name) (λ f k. k.name) p.funcs fits.funcs;
      params = All-weaker (FuncFits u) (λ (f : Func). All (λ (q : Kind × Bytes). IsWord u q.1) f.params) (λ f k. k.params) p.funcs fits.funcs;
      bodies = in_bodies u (StatementHasNames u) (λ at s k. k.words) p fits.funcs;
    }

-- ---- with typing

both_results : (P Q R : Dest → Type 0) → ((d : Dest) → P d → Q d → R d) → (s : Statement) → OfResult P s → OfResult Q s → OfResult R s
both_results P Q R joins (call p d f es) h k = joins d h k
both_results P Q R joins (call_by p d x es) h k = joins d h k
both_results P Q R joins (input p d) h k = joins d h k
both_results P Q R joins (choice p d n) h k = joins d h k
both_results P Q R joins _ h k = tt

no_global_at : (u : Unit) (p : Program) (at : Context) (s : Statement) → IsFit u at s → Apart (outside_of p.globals p.funcs) at s → OfResult (IsNoGlobal p) s
no_global_at u p at s h k = both_results (IsLocal at) (IsNew (outside_of p.globals p.funcs)) (IsNoGlobal p) joins s h.results k.result
  where
    joins : (d : Dest) → IsLocal at d → IsNew (outside_of p.globals p.funcs) d → IsNoGlobal p d
    joins Nowhere local new = tt
    joins (Into x) local new = outside_is_global p.globals p.funcs x (k.declared x (local k.free))
    joins (Fresh kind x) local new = outside_is_global p.globals p.funcs x new

pub no_globals : (u : Unit) (p : Program) → IsWritten u p → Types u p → ResultsGoToNoGlobals p
no_globals u p h typed =
    let fits = (written_fits u p h).funcs in
    let apart = typed_apart u p typed in
    λ k d lt.
    let f = slice_index_or p.funcs k d in
    both_all (IsFit u) (Apart (outside_of p.globals p.funcs)) (λ at s. OfResult (IsNoGlobal p) s) (no_global_at u p) (start_of f) (body_of f.body) (fits k d lt).body (apart k d lt)
