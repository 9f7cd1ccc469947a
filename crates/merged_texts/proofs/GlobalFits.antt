-- The globals of a merged program can be printed, and are no more cells than a merged program may have.
use Rattle.std.specs.Prelude.{◌≡◌, ◌≤◌, ◌+◌, ◌-◌, ℕ, ℤ, suc, pos, negsuc, Bool, true, false, cond, List, [], ◌∷◌, ◌++◌, map, length, All, Some, None}
use Rattle.std.proofs.Common.{refl, inl, inr, arith}
use Rattle.std.proofs.lemmas.Int.{ints}
use Rattle.std.specs.List.{filter}
use Rattle.std.proofs.lemmas.List.Elements.{All-nil, All-cons, All-head, All-tail, All-append, All-map, All-filter, All-weaker}
use Rattle.c_lang.specs.Limits.{cell_limit}
use Rattle.c_lang.specs.declared.unit.Unit.{Unit}
use Rattle.c_lang.specs.declared.unit.Unit.TheVariants.{Merge}
use Rattle.c_lang.specs.declared.program.Shape.{Shape}
use Rattle.c_lang.specs.declared.program.Shape.TheVariants as shape
use Rattle.c_lang.specs.declared.program.GlobalVar.{GlobalVar}
use Rattle.c_types.specs.Names.{Entries}
use Rattle.c_types.specs.Programs.{with_global, cells_of}
use Rattle.c_types.specs.Types.{IsHeld, AreTypedGlobals}
use Rattle.version_names.specs.Provenance.{Provenance}
use Rattle.version_names.specs.Provenance as origin
use Rattle.update_semantics.specs.UpdatingRun.{World}
use Rattle.merged_program.specs.Programs.{flag, merged_shape, merged_global, is_own_cell, merged_globals}
use Rattle.merge_printer.proofs.GlobalLaw.{SignedFits, AllSigned, cells, ShapeFits}
use Rattle.merge_printer.proofs.ProgramLaw.{GlobalsFit}
use Rattle.merge_printer.proofs.Words.{IsName}
use Rattle.written_laws.specs.Literals.{IsInitial, ShapeHasInts}
use Rattle.written_laws.specs.SourceNames.{ShapeHasNames}
use Rattle.written_laws.proofs.ProgramFits as written
use Rattle.merged_texts.proofs.NameFits.{source_word, now_fits, variable_fits, function_fits}

-- ---- globals of sources

abbrev GoodShape : Shape → Type 0
GoodShape (shape.Int z) = SignedFits z
GoodShape (shape.Arr zs) = (1 ≤ length zs) × (length zs ≤ 65536) × AllSigned zs
GoodShape (shape.Fp n None) = n ≤ 32
GoodShape (shape.Fp n (Some f)) = (n ≤ 32) × IsName f

pub record IsGoodGlobal (g : GlobalVar) : Type 0 where
  pub name : IsName g.name
  pub shape : GoodShape g.shape

signed_fits : (z : ℤ) → IsInitial z → SignedFits z
signed_fits (pos n) h = (n, h, inl refl)
signed_fits (negsuc n) h = (suc n, h, inr (omega (arith, ints)))

all_signed : (zs : List ℤ) → All IsInitial zs → AllSigned zs
all_signed [] h = tt
all_signed (z ∷ zs) h = (signed_fits z (All-head IsInitial z zs h), all_signed zs (All-tail IsInitial z zs h))

good_shape : (u : Unit) (s : Shape) → ShapeHasInts s → ShapeHasNames u s → IsHeld s → GoodShape s
good_shape u (shape.Int z) ints names held = signed_fits z ints
good_shape u (shape.Arr []) ints names held = absurd held
good_shape u (shape.Arr (z ∷ zs)) ints names held = (omega arith, held, all_signed (z ∷ zs) ints)
good_shape u (shape.Fp n None) ints names held = held
good_shape u (shape.Fp n (Some f)) ints names held = (held, source_word u f names)

-- ---- cells

abbrev pub all_cells : List GlobalVar → ℕ
all_cells [] = 0
all_cells (g ∷ gs) = cells g.shape + all_cells gs

same_cells : (s : Shape) → cells_of s ≡ cells s
same_cells (shape.Int z) = refl
same_cells (shape.Arr zs) = refl
same_cells (shape.Fp n f) = refl

pub typed_cells : (outside seen : Entries) (room : ℕ) (gs : List GlobalVar) → AreTypedGlobals outside seen room gs → all_cells gs ≤ room
typed_cells outside seen room [] h = omega arith
typed_cells outside seen room (g ∷ gs) h =
    let rest = typed_cells outside (with_global seen g) (room - cells_of g.shape) gs h.1 in
    let here = h.0.cells in
    omega (arith, here, rest, same_cells g.shape)

pub good_globals : (u : Unit) (outside seen : Entries) (room : ℕ) (gs : List GlobalVar) → All (written.GlobalFits u) gs → AreTypedGlobals outside seen room gs → All IsGoodGlobal gs
good_globals u outside seen room [] h typed = All-nil IsGoodGlobal
good_globals u outside seen room (g ∷ gs) h typed =
    let P = written.GlobalFits u in
    let here = All-head P g gs h in
    All-cons IsGoodGlobal g gs (record { name = source_word u g.name here.name; shape = good_shape u g.shape here.ints here.words typed.0.held })
    (good_globals u outside (with_global seen g) (room - cells_of g.shape) gs (All-tail P g gs h) typed.1)

all_cells-append : (gs hs : List GlobalVar) → all_cells (gs ++ hs) ≡ all_cells gs + all_cells hs
all_cells-append [] hs = omega arith
all_cells-append (g ∷ gs) hs = omega (arith, all_cells-append gs hs)

all_cells-filter : (test : GlobalVar → Bool) (gs : List GlobalVar) → all_cells (filter test gs) ≤ all_cells gs
all_cells-filter test [] = omega arith
all_cells-filter test (g ∷ gs) = by_test (test g) (all_cells-filter test gs)
  where
    by_test : (b : Bool) → all_cells (filter test gs) ≤ all_cells gs → all_cells (cond b (g ∷ filter test gs) (filter test gs)) ≤ cells g.shape + all_cells gs
    by_test true le = omega (arith, le)
    by_test false le = omega (arith, le)

-- ---- where so many cells are left

shape_fits : (room : ℕ) (s : Shape) → GoodShape s → cells s ≤ room → ShapeFits room s
shape_fits room (shape.Int z) h le = h
shape_fits room (shape.Arr zs) h le = (h.0, h.1, le, h.2)
shape_fits room (shape.Fp n None) h le = h
shape_fits room (shape.Fp n (Some f)) h le = h

all_fit : (room : ℕ) (gs : List GlobalVar) → All IsGoodGlobal gs → all_cells gs ≤ room → GlobalsFit room gs
all_fit room [] h le = tt
all_fit room (g ∷ gs) h le =
    let here = All-head IsGoodGlobal g gs h in
    ((here.name, shape_fits room g.shape here.shape (omega (arith, le))), all_fit (room - cells g.shape) gs (All-tail IsGoodGlobal g gs h) (omega (arith, le)))

-- ---- the merged program

-- the globals of both versions are good, and within the limit of sources
pub record HasGoodGlobals (W : World) : Type 0 where
  pub first : All IsGoodGlobal W.first.globals
  pub first_cells : all_cells W.first.globals ≤ 1048576
  pub second : All IsGoodGlobal W.second.globals
  pub second_cells : all_cells W.second.globals ≤ 1048576

flag_good : IsGoodGlobal flag
flag_good = record { name = now_fits; shape = (0, omega arith, inl refl) }

module _ (W : World) where
  merged_good : (o : Provenance) (g : GlobalVar) → IsGoodGlobal g → IsGoodGlobal (merged_global W o g)
  merged_good o g h = record { name = variable_fits W o g.name h.name; shape = renamed_good g.shape h.shape }
    where
      renamed_good : (s : Shape) → GoodShape s → GoodShape (merged_shape W o s)
      renamed_good (shape.Int z) k = k
      renamed_good (shape.Arr zs) k = k
      renamed_good (shape.Fp n None) k = k
      renamed_good (shape.Fp n (Some f)) k = (k.0, function_fits W o f k.1)

  same_size : (o : Provenance) (s : Shape) → cells (merged_shape W o s) ≡ cells s
  same_size o (shape.Int z) = refl
  same_size o (shape.Arr zs) = refl
  same_size o (shape.Fp n None) = refl
  same_size o (shape.Fp n (Some f)) = refl

  same_sizes : (o : Provenance) (gs : List GlobalVar) → all_cells (map (merged_global W o) gs) ≡ all_cells gs
  same_sizes o [] = refl
  same_sizes o (g ∷ gs) = omega (arith, same_size o g.shape, same_sizes o gs)

  all_good : (o : Provenance) (gs : List GlobalVar) → All IsGoodGlobal gs → All IsGoodGlobal (map (merged_global W o) gs)
  all_good o gs h = All-map IsGoodGlobal (merged_global W o) gs (All-weaker IsGoodGlobal (λ g. IsGoodGlobal (merged_global W o g)) (merged_good o) gs h)

  pub globals_fit : HasGoodGlobals W → GlobalsFit (cell_limit Merge) (merged_globals W)
  globals_fit h =
      let own = filter (is_own_cell W) W.second.globals in
      let olds = map (merged_global W origin.Old) W.first.globals in
      let news = map (merged_global W origin.New) own in
      let good = All-cons IsGoodGlobal flag (olds ++ news) flag_good (All-append IsGoodGlobal olds news (all_good origin.Old W.first.globals h.first) (all_good origin.New own (All-filter (is_own_cell W) IsGoodGlobal W.second.globals h.second))) in
      all_fit (cell_limit Merge) (merged_globals W) good
      (omega (arith, h.first_cells, h.second_cells, all_cells-append olds news, same_sizes origin.Old W.first.globals, same_sizes origin.New own, all_cells-filter (is_own_cell W) W.second.globals))
