-- A program that is written in unit Merge, and of which nothing is refused, fits.
use Rattle.std.specs.Prelude.{◌≡◌, ◌≤◌, ℕ, ℤ, zero, suc, pos, ◌-◌, Bool, true, false, cond, ◌||◌, ◌==◌, nat_lt, List, [], ◌∷◌, ◌++◌, map, length, replicate, All, nat_abs}
use Rattle.std.proofs.Common.{refl, sym, ap, ap₂, subst, ◌∙◌, arith, inl, inr}
use Rattle.std.proofs.lemmas.Bool.{ltb-false}
use Rattle.std.proofs.lemmas.Bool.Decides.{nat_tests}
use Rattle.std.proofs.lemmas.List.{length-append, length-replicate}
use Rattle.std.proofs.lemmas.List.Elements.{All-nil, All-push}
use Rattle.c_lang.specs.Names.{Bytes}
use Rattle.c_lang.specs.declared.unit.Pos.{Pos}
use Rattle.c_lang.specs.declared.unit.Unit.TheVariants.{Merge}
use Rattle.c_lang.specs.declared.refusal.Refusal.{Refusal}
use Rattle.c_lang.specs.declared.program.Shape.TheVariants as shape
use Rattle.c_lang.specs.declared.program.GlobalVar.{GlobalVar}
use Rattle.c_lang.specs.declared.program.Program.{Program}
use Rattle.c_grammar.specs.Tokens.{mark, comma, round_close, brace_open, brace_close, semicolon}
use Rattle.c_grammar.specs.Separated.{Separated, last, more, parts_of, separated_tokens, Each}
use Rattle.c_lang.specs.Refusals.{refused_at, wrong_kind, past_limit}
use Rattle.c_grammar.specs.Scopes.{Scope}
use Rattle.c_grammar.specs.Statements.{pointer_tokens, arity, Pieces, ArePieces, pieces_tokens, pieces_stmts, pieces_scope}
use Rattle.c_parser.specs.declared.parts.Parts.{Parts}
use Rattle.c_grammar.specs.Units.{ParamTree, nameless, number, pointer, ParamsTree, nothing, void, several, HeadTree, param_tokens, params_tokens, head_tokens, param_list, param_kind, named_param, param_refusals, all_refusals, IsNamed, AreNamed, SignedTree, plain, negative, signed_tokens, signed_value, NumberInit, number_init_tokens, ArrayInit, array_init_tokens, values_of, start_value, PointerInit, pointer_init_tokens, target_of, External, external_tokens, AreExternals, IsExternal, unit_tokens, add, add_all, no_parts, array_refusals, kept_values, body_start, function_start}
use Rattle.c_lang.specs.Limits.{cell_limit}
use Rattle.c_grammar.specs.Units as unit
use Rattle.c_grammar.specs.Grammar.{program_of}
use Rattle.c_grammar.specs.Written.{IsWritten}
use Rattle.merge_printer.proofs.Words.{IsName}
use Rattle.merge_printer.proofs.Fitting.{KindFits}
use Rattle.merge_printer.proofs.GivenTokens.{TokensFit, fit_append, given_fit}
use Rattle.merge_printer.proofs.HeadLaw.{ParamsFit, KindsFit}
use Rattle.merge_printer.proofs.GlobalLaw.{SignedFits, AllSigned, cells, GlobalFits}
use Rattle.merge_printer.proofs.DeclarationLaw.{ProtoFits, FuncReads, start_scope, params_early}
use Rattle.merge_printer.proofs.ProgramLaw.{GlobalsFit, room_after}
use Rattle.merge_printer.proofs.ReadScopes.{Covers, none_before, few_parameters}
use Rattle.merge_printer.proofs.WrittenStatements.{pieces_before, pieces_read}

none_behind : (xs ys : List Refusal) → xs ++ ys ≡ [] → ys ≡ []
none_behind [] ys h = h
none_behind (x ∷ xs) ys h = absurd cc

-- ---- parameters

kind_fits : (t : ParamTree) (p : Pos) → param_refusals p t ≡ [] → KindFits (param_kind t)
kind_fits (nameless int) p none = tt
kind_fits (number int at x) p none = tt
kind_fits (pointer int q) p none = few_parameters [] p (arity q) none

kinds_fit : (ts : List ParamTree) (p : Pos) → all_refusals p ts ≡ [] → KindsFit (map param_kind ts)
kinds_fit [] p none = tt
kinds_fit (t ∷ ts) p none =
    (kind_fits t p (none_before (param_refusals p t) (all_refusals p ts) none), kinds_fit ts p (none_behind (param_refusals p t) (all_refusals p ts) none))

name_fits : (t : ParamTree) → IsNamed t → TokensFit (param_tokens t) → IsName (named_param t).1
name_fits (nameless int) named h = absurd named
name_fits (number int at x) named h = h.1.0
name_fits (pointer int q) named h = h.1.1.1.0

several_fit : (ts : Separated ParamTree) (p : Pos) → Each IsNamed ts → TokensFit (separated_tokens param_tokens ts) → all_refusals p (parts_of ts) ≡ [] → ParamsFit (map named_param (parts_of ts))
several_fit (last t) p named h none = ((kind_fits t p (none_before (param_refusals p t) [] none), name_fits t named h), tt)
several_fit (more t at ts) p named h none =
    let split = fit_append (param_tokens t) (mark comma at ∷ separated_tokens param_tokens ts) h in (
      (kind_fits t p (none_before (param_refusals p t) (all_refusals p (parts_of ts)) none), name_fits t named.0 split.0),
      several_fit ts p named.1 split.1.1 (none_behind (param_refusals p t) (all_refusals p (parts_of ts)) none),
    )

params_fit : (t : ParamsTree) (p : Pos) → AreNamed t → TokensFit (params_tokens t) → all_refusals p (param_list t) ≡ [] → ParamsFit (map named_param (param_list t))
params_fit nothing p named h none = tt
params_fit (void at) p named h none = tt
params_fit (several ts) p named h none = several_fit ts p named h none

-- ---- initial values

signed_fits : (t : SignedTree) → TokensFit (signed_tokens t) → SignedFits (signed_value t)
signed_fits (plain at n) h = let z = h.0 in (n, subst (λ (m : ℕ). m ≤ 2147483647) (sym (ap nat_abs z.1)) z.2, inl refl)
signed_fits (negative sign at n) h = let z = h.1.0 in (n, subst (λ (m : ℕ). m ≤ 2147483647) (sym (ap nat_abs z.1)) z.2, inr refl)

all_signed : (ts : Separated SignedTree) → TokensFit (separated_tokens signed_tokens ts) → AllSigned (map signed_value (parts_of ts))
all_signed (last t) h = (signed_fits t h, tt)
all_signed (more t at ts) h = let split = fit_append (signed_tokens t) (mark comma at ∷ separated_tokens signed_tokens ts) h in (signed_fits t split.0, all_signed ts split.1.1)

zero_fits : SignedFits (pos 0)
zero_fits = (0, omega arith, inl refl)

start_fits : (i : NumberInit) → TokensFit (number_init_tokens i) → SignedFits (start_value i)
start_fits NumberInit.nothing h = zero_fits
start_fits (NumberInit.given is x) h = signed_fits x h.1

values_fit : (i : ArrayInit) → TokensFit (array_init_tokens i) → AllSigned (values_of i)
values_fit ArrayInit.nothing h = tt
values_fit (ArrayInit.given is o xs c) h = all_signed xs (fit_append (separated_tokens signed_tokens xs) (mark brace_close c ∷ []) h.1.1).0

zeros_fit : (n : ℕ) → AllSigned (replicate n (pos 0))
zeros_fit zero = tt
zeros_fit (suc n) = (zero_fits, zeros_fit n)

both_signed : (xs ys : List ℤ) → AllSigned xs → AllSigned ys → AllSigned (xs ++ ys)
both_signed [] ys a b = b
both_signed (x ∷ xs) ys a b = (a.0, both_signed xs ys a.1 b)

-- an array that is not refused
record IsAccepted (room size count : ℕ) : Type 0 where
  some : 1 ≤ size
  few : size ≤ 65536
  fits : size ≤ room
  short : count ≤ size

no_refusal : (b : Bool) (r : Refusal) → cond b (r ∷ []) [] ≡ [] → b ≡ false
no_refusal true r h = absurd cc
no_refusal false r h = refl

array_accepted : (p : Pos) (room size count : ℕ) → array_refusals p room size count ≡ [] → IsAccepted room size count
array_accepted p room size count none =
    let short = no_refusal (nat_lt size count) (refused_at wrong_kind p) (none_before (cond (nat_lt size count) (refused_at wrong_kind p ∷ []) []) _ none) in
    let length = no_refusal (size == 0 || nat_lt 65536 size || nat_lt room size) (refused_at past_limit p) (none_behind (cond (nat_lt size count) (refused_at wrong_kind p ∷ []) []) _ none) in
    record {
      some = some_of size room length;
      few = few_of size room length;
      fits = fits_of size room length;
      short = ltb-false size count short;
    }
  where
    some_of : (size room : ℕ) → (size == 0 || nat_lt 65536 size || nat_lt room size) ≡ false → 1 ≤ size
    some_of size room h = grind (arith, nat_tests)

    few_of : (size room : ℕ) → (size == 0 || nat_lt 65536 size || nat_lt room size) ≡ false → size ≤ 65536
    few_of size room h = grind (arith, nat_tests)

    fits_of : (size room : ℕ) → (size == 0 || nat_lt 65536 size || nat_lt room size) ≡ false → size ≤ room
    fits_of size room h = grind (arith, nat_tests)

-- ---- what was declared so far

-- nothing is refused
record Accepted (a : Parts) : Type 0 where
  globals : a.early_globals ≡ []
  protos : a.early_protos ≡ []
  funcs : a.early_funcs ≡ []

record PartsFit (a : Parts) : Type 0 where
  globals : GlobalsFit (cell_limit Merge) a.globals
  room : a.room ≡ room_after (cell_limit Merge) a.globals
  protos : All ProtoFits a.protos
  funcs : All FuncReads a.funcs

add_fits : (room : ℕ) (gs : List GlobalVar) (g : GlobalVar) → GlobalsFit room gs → GlobalFits (room_after room gs) g → GlobalsFit room (gs ++ g ∷ [])
add_fits room [] g fits new = (new, tt)
add_fits room (x ∷ gs) g fits new = (fits.0, add_fits (room - cells x.shape) gs g fits.1 new)

add_room : (room : ℕ) (gs : List GlobalVar) (g : GlobalVar) → room_after room (gs ++ g ∷ []) ≡ room_after room gs - cells g.shape
add_room room [] g = refl
add_room room (x ∷ gs) g = add_room (room - cells x.shape) gs g

global_added : (a : Parts) (g : GlobalVar) (n : ℕ) (early : List Refusal) → PartsFit a → n ≡ cells g.shape → GlobalFits a.room g → PartsFit (unit.with_global a g n early)
global_added a g n early fits count new = record {
  globals = add_fits (cell_limit Merge) a.globals g fits.globals (subst (λ (room : ℕ). GlobalFits room g) fits.room new);
  room = ap₂ (λ (room n : ℕ). room - n) fits.room count ∙ sym (add_room (cell_limit Merge) a.globals g);
  protos = fits.protos;
  funcs = fits.funcs;
}

array_added : (a : Parts) (p : Pos) (x : Bytes) (size : ℕ) (values : List ℤ) → PartsFit a → IsName x → AllSigned values → array_refusals p a.room size (length values) ≡ []
    → PartsFit (unit.with_array a p x size values)
array_added a p x size values fits name signed none =
    let ok = array_accepted p a.room size (length values) none in
    let kept = values ++ replicate (size - length values) (pos 0) in
    let count : size ≡ length kept = omega (arith, length-append values (replicate (size - length values) (pos 0)), length-replicate (size - length values) (pos 0), ok.short) in
    let all = both_signed values (replicate (size - length values) (pos 0)) signed (zeros_fit (size - length values)) in
    subst (λ (early : List Refusal). PartsFit (unit.with_global a (record { name = x; shape = shape.Arr (kept_values early size values); pos = p }) size early)) (sym none)
    (global_added a (record { name = x; shape = shape.Arr kept; pos = p }) size [] fits count (name, (omega (arith, count, ok.some), omega (arith, count, ok.few), omega (arith, count, ok.fits), all)))

pointer_added : (a : Parts) (p : Pos) (x : Bytes) (n : ℕ) (f : PointerInit) → PartsFit a → IsName x → n ≤ 32 → TokensFit (pointer_init_tokens f) → PartsFit (unit.with_pointer a p x n (target_of f))
pointer_added a p x n PointerInit.nothing fits name few h = global_added a _ 1 _ fits refl (name, few)
pointer_added a p x n (PointerInit.function is at f) fits name few h = global_added a _ 1 _ fits refl (name, (few, h.1.0))
pointer_added a p x n (PointerInit.null is at) fits name few h = global_added a _ 1 _ fits refl (name, few)

-- ---- heads

record HeadReads (h : HeadTree) : Type 0 where
  name : IsName h.name
  params : TokensFit (params_tokens h.params)

head_reads : (h : HeadTree) → TokensFit (head_tokens h) → HeadReads h
head_reads h fits = record { name = fits.1.0; params = (fit_append (params_tokens h.params) (mark round_close h.closes ∷ []) fits.1.1.1).0 }

proto_fits : (h : HeadTree) → HeadReads h → all_refusals h.at.pos (param_list h.params) ≡ []
    → ProtoFits (record { name = h.name; params = map param_kind (param_list h.params); gives = h.gives; pos = h.at.pos })
proto_fits h reads none = record { name = reads.name; kinds = kinds_fit (param_list h.params) h.at.pos none }

func_reads : (h : HeadTree) (ts : Pieces) → HeadReads h → AreNamed h.params → ArePieces Merge false ts → TokensFit (pieces_tokens ts)
    → (pieces_scope ts (function_start h)).early ≡ []
    → FuncReads (record { name = h.name; params = map named_param (param_list h.params); gives = h.gives; body = pieces_stmts ts (function_start h); pos = h.at.pos })
func_reads h ts reads named valid fits none =
    let params = map named_param (param_list h.params) in
    let start : (function_start h).early ≡ [] = pieces_before ts (function_start h) none in
    let accepted : all_refusals h.at.pos (param_list h.params) ≡ [] = sym (params_early params (record { count = 0; declared = []; early = all_refusals h.at.pos (param_list h.params) })) ∙ start in
    let same : function_start h ≡ start_scope params = ap (body_start params) accepted in
    let body = pieces_read ts false (function_start h) (start_scope params) (subst (λ (sc : Scope). Covers (function_start h) sc) same (λ x declared. declared)) valid fits none in
    record { name = reads.name; params = params_fit h.params h.at.pos named reads.params accepted; body = body.fits; keeps = body.keeps }

-- ---- a declaration

-- what is refused in the end was refused nowhere before
before : (a : Parts) (x : External) → Accepted (add a x) → Accepted a
before a (External.number int at x i end) ok = record { globals = none_before a.early_globals [] ok.globals; protos = ok.protos; funcs = ok.funcs }
before a (External.array int at x o n size c i end) ok = record { globals = none_before a.early_globals _ ok.globals; protos = ok.protos; funcs = ok.funcs }
before a (External.pointer int p i end) ok = record { globals = none_before a.early_globals _ ok.globals; protos = ok.protos; funcs = ok.funcs }
before a (External.prototype h end) ok = record { globals = ok.globals; protos = none_before a.early_protos _ ok.protos; funcs = ok.funcs }
before a (External.function h o ts c) ok = record { globals = ok.globals; protos = ok.protos; funcs = none_before a.early_funcs _ ok.funcs }

all_before : (a : Parts) (xs : List External) → Accepted (add_all a xs) → Accepted a
all_before a [] ok = ok
all_before a (x ∷ xs) ok = before a x (all_before (add a x) xs ok)

one_added : (a : Parts) (x : External) → IsExternal Merge x → TokensFit (external_tokens x) → PartsFit a → Accepted (add a x) → PartsFit (add a x)
one_added a (External.number int at x i end) valid h fits ok =
    let init = fit_append (number_init_tokens i) (mark semicolon end ∷ []) h.1.1 in
    global_added a (record { name = x; shape = shape.Int (start_value i); pos = int.pos }) 1 [] fits refl (h.1.0, start_fits i init.0)
one_added a (External.array int at x o n size c i end) valid h fits ok =
    let init = fit_append (array_init_tokens i) (mark semicolon end ∷ []) h.1.1.1.1.1 in
    array_added a int.pos x size (values_of i) fits h.1.0 (values_fit i init.0) (none_behind a.early_globals _ ok.globals)
one_added a (External.pointer int p i end) valid h fits ok =
    let split = fit_append (pointer_tokens p) (pointer_init_tokens i ++ (mark semicolon end ∷ [])) h.1 in
    let init = fit_append (pointer_init_tokens i) (mark semicolon end ∷ []) split.1 in
    pointer_added a int.pos p.name (arity p) i fits split.0.1.1.0 (few_parameters a.early_globals int.pos (arity p) ok.globals) init.0
one_added a (External.prototype h end) valid fits parts ok =
    let head = head_reads h (fit_append (head_tokens h) (mark semicolon end ∷ []) fits).0 in
    record {
      globals = parts.globals;
      room = parts.room;
      protos = All-push ProtoFits a.protos _ parts.protos (proto_fits h head (none_behind a.early_protos _ ok.protos));
      funcs = parts.funcs;
    }
one_added a (External.function h o ts c) valid fits parts ok =
    let split = fit_append (head_tokens h) (mark brace_open o ∷ pieces_tokens ts ++ (mark brace_close c ∷ [])) fits in
    let body = fit_append (pieces_tokens ts) (mark brace_close c ∷ []) split.1.1 in
    record {
      globals = parts.globals;
      room = parts.room;
      protos = parts.protos;
      funcs = All-push FuncReads a.funcs _ parts.funcs (func_reads h ts (head_reads h split.0) valid.0 valid.1 body.0 (none_behind a.early_funcs _ ok.funcs));
    }

all_added : (a : Parts) (xs : List External) → AreExternals Merge xs → TokensFit (unit_tokens xs) → PartsFit a → Accepted (add_all a xs) → PartsFit (add_all a xs)
all_added a [] valid h fits ok = fits
all_added a (x ∷ xs) valid h fits ok =
    let split = fit_append (external_tokens x) (unit_tokens xs) h in
    all_added (add a x) xs valid.1 split.1 (one_added a x valid.0 split.0 fits (all_before (add a x) xs ok)) ok

-- ---- the program

start_fits_all : PartsFit (no_parts Merge)
start_fits_all = record { globals = tt; room = refl; protos = All-nil ProtoFits; funcs = All-nil FuncReads }

pub record ProgramReads (P : Program) : Type 0 where
  pub globals : GlobalsFit (cell_limit Merge) P.globals
  pub protos : All ProtoFits P.protos
  pub funcs : All FuncReads P.funcs

reads_of : (a : Parts) → PartsFit a → ProgramReads (program_of a)
reads_of a fits = record { globals = fits.globals; protos = fits.protos; funcs = fits.funcs }

accepted_of : (a : Parts) → (program_of a).early ≡ [] → Accepted a
accepted_of a none =
    let behind = none_behind a.early_globals (a.early_protos ++ a.early_funcs) none in
    record { globals = none_before a.early_globals _ none; protos = none_before a.early_protos a.early_funcs behind; funcs = none_behind a.early_protos a.early_funcs behind }

pub written_reads : (P : Program) → IsWritten Merge P → P.early ≡ [] → ProgramReads P
written_reads P written none =
    let xs = written.gram.tree in
    let a = add_all (no_parts Merge) xs in
    let fit : TokensFit (unit_tokens xs) = subst TokensFit (sym written.gram.written) (given_fit written.tokens written.given) in
    let ok = accepted_of a (ap (λ (Q : Program). Q.early) written.gram.program ∙ none) in
    subst ProgramReads written.gram.program (reads_of a (all_added (no_parts Merge) xs written.gram.valid fit start_fits_all ok))
