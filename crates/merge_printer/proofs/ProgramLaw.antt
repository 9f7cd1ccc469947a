-- The text of a program is the tokens of a tree that becomes that program.
use Rattle.std.specs.Prelude.{⊤, ◌≡◌, ℕ, ◌-◌, ◌≤◌, max, true, List, [], ◌∷◌, ◌++◌, All, codes}
use Rattle.std.proofs.Common.{refl, sym, ap, subst, ◌∙◌, append_assoc, arith}
use Rattle.std.proofs.lemmas.List.{append-nil}
use Rattle.std.proofs.lemmas.List.Elements.{All-head, All-tail}
use Rattle.c_lang.specs.Names.{Bytes}
use Rattle.c_lang.specs.Units.{IsPosition}
use Rattle.c_lang.specs.declared.unit.Unit.TheVariants.{Merge}
use Rattle.c_lang.specs.declared.program.GlobalVar.{GlobalVar}
use Rattle.c_lang.specs.declared.program.Proto.{Proto}
use Rattle.c_lang.specs.declared.program.Func.{Func}
use Rattle.c_lang.specs.declared.program.Program.{Program}
use Rattle.c_grammar.specs.Pieces.{include_line, white}
use Rattle.c_grammar.specs.Lexed.{Cuts, goes, ends, after_bytes, Lexed, first_place}
use Rattle.c_grammar.specs.declared.token.Token.{Token}
use Rattle.c_grammar.specs.declared.piece.Piece.TheVariants as piece
use Rattle.c_grammar.specs.declared.piece.Place.{Place}
use Rattle.c_parser.specs.declared.parts.Parts.{Parts}
use Rattle.c_grammar.specs.Units.{External, external_tokens, AreExternals, unit_tokens, unit_height, add, add_all, no_parts, with_global}
use Rattle.c_lang.specs.Limits.{cell_limit}
use Rattle.c_grammar.specs.Grammar.{Gram, program_of}
use Rattle.merge_printer.specs.Heights.{statements_height, funcs_height}
use Rattle.c_lang.specs.Positions.{FuncHasPositions, ProgramHasPositions}
use Rattle.merge_printer.specs.Programs.{proto_text, global_text, func_text, program_text}
use Rattle.merge_printer.proofs.Chains.{Lines, above, as_lines}
use Rattle.merge_printer.proofs.GlobalLaw.{cells, ShapeFits, GlobalFits, prints_global}
use Rattle.merge_printer.proofs.DeclarationLaw.{ProtoFits, FuncFits, IsDeclared, AreDeclared, AllGood, Rooms, steps, heights, body_of, proto_step, prints_proto, func_step, prints_func, prints_all}

-- ---- which programs

-- the globals can be declared where so many cells are left
abbrev pub GlobalsFit : ℕ → List GlobalVar → Type 0
GlobalsFit room [] = ⊤
GlobalsFit room (g ∷ gs) = GlobalFits room g × GlobalsFit (room - cells g.shape) gs

pub record ProgramFits (P : Program) : Type 0 where
  pub early : P.early ≡ []
  pub globals : GlobalsFit (cell_limit Merge) P.globals
  pub protos : All ProtoFits P.protos
  pub funcs : All FuncFits P.funcs

-- ---- globals

abbrev global_step : GlobalVar → Parts → Parts
global_step g a = with_global a g (cells g.shape) []

abbrev Room : GlobalVar → Parts → Type 0
Room g a = ShapeFits a.room g.shape

-- it can be declared somewhere
record GoodGlobal (g : GlobalVar) : Type 0 where
  room : ℕ
  fits : GlobalFits room g
  position : IsPosition g.pos

declares_global : (g : GlobalVar) → GoodGlobal g → (q : Place) (rest : Bytes) → q.fresh ≡ true → Lines external_tokens (IsDeclared (global_step g) (Room g) 0) q (global_text g) rest
declares_global g good q rest fresh =
    as_lines (λ (t : External). t) (λ t. refl) (λ t is. record { valid = is.valid; height_is = is.height_is; added = is.added })
    (prints_global g good.room good.fits good.position q rest fresh)

all_good : (room : ℕ) (gs : List GlobalVar) → GlobalsFit room gs → All (λ g. IsPosition g.pos) gs
    → AllGood global_step Room (λ g. 0) global_text GoodGlobal declares_global gs
all_good room [] fits at = tt
all_good room (g ∷ gs) fits at = (record { room = room; fits = fits.0; position = All-head (λ g. IsPosition g.pos) g gs at }, all_good (room - cells g.shape) gs fits.1 (All-tail (λ g. IsPosition g.pos) g gs at))

has_rooms : (gs : List GlobalVar) (a : Parts) → GlobalsFit a.room gs → Rooms global_step Room (λ g. 0) gs a
has_rooms [] a fits = tt
has_rooms (g ∷ gs) a fits = (fits.0.1, has_rooms gs (global_step g a) fits.1)

-- ---- prototypes and functions

abbrev GoodProto : Proto → Type 0
GoodProto p = ProtoFits p × IsPosition p.pos

abbrev GoodFunc : Func → Type 0
GoodFunc f = FuncFits f × FuncHasPositions f

module _ {T : Type 0} (step : T → Parts → Parts) (height : T → ℕ) (text : T → Bytes) (A B : T → Type 0)
    (each : (x : T) → A x × B x → (q : Place) (rest : Bytes) → q.fresh ≡ true → Lines external_tokens (IsDeclared (step x) (λ a. ⊤) (height x)) q (text x) rest) where
  both_good : (xs : List T) → All A xs → All B xs → AllGood step (λ x a. ⊤) height text (λ x. A x × B x) each xs
  both_good [] a b = tt
  both_good (x ∷ xs) a b = ((All-head A x xs a, All-head B x xs b), both_good xs (All-tail A x xs a) (All-tail B x xs b))

  no_rooms : (xs : List T) (a : Parts) → Rooms step (λ x a. ⊤) height xs a
  no_rooms [] a = tt
  no_rooms (x ∷ xs) a = (tt, no_rooms xs (step x a))

-- ---- what was added

-- parts that nothing is refused of
abbrev accepted : List GlobalVar → List Proto → List Func → ℕ → Parts
accepted gs ps fs room = record { globals = gs; protos = ps; funcs = fs; room = room; early_globals = []; early_protos = []; early_funcs = [] }

abbrev pub room_after : ℕ → List GlobalVar → ℕ
room_after room [] = room
room_after room (g ∷ gs) = room_after (room - cells g.shape) gs

protos_added : (gs : List GlobalVar) (ps : List Proto) (fs : List Func) (room : ℕ) (new : List Proto)
    → steps proto_step (λ p a. ⊤) (λ p. 0) new (accepted gs ps fs room) ≡ accepted gs (ps ++ new) fs room
protos_added gs ps fs room [] = ap (λ ps. accepted gs ps fs room) (sym (append-nil ps))
protos_added gs ps fs room (p ∷ new) = protos_added gs (ps ++ p ∷ []) fs room new ∙ ap (λ ps. accepted gs ps fs room) (append_assoc ps (p ∷ []) new)

globals_added : (gs : List GlobalVar) (ps : List Proto) (fs : List Func) (room : ℕ) (new : List GlobalVar)
    → steps global_step Room (λ g. 0) new (accepted gs ps fs room) ≡ accepted (gs ++ new) ps fs (room_after room new)
globals_added gs ps fs room [] = ap (λ gs. accepted gs ps fs room) (sym (append-nil gs))
globals_added gs ps fs room (g ∷ new) =
    globals_added (gs ++ g ∷ []) ps fs (room - cells g.shape) new ∙ ap (λ gs. accepted gs ps fs (room_after (room - cells g.shape) new)) (append_assoc gs (g ∷ []) new)

funcs_added : (gs : List GlobalVar) (ps : List Proto) (fs : List Func) (room : ℕ) (new : List Func)
    → steps func_step (λ f a. ⊤) (λ f. statements_height (body_of f)) new (accepted gs ps fs room) ≡ accepted gs ps (fs ++ new) room
funcs_added gs ps fs room [] = ap (λ fs. accepted gs ps fs room) (sym (append-nil fs))
funcs_added gs ps fs room (f ∷ new) = funcs_added gs ps (fs ++ f ∷ []) room new ∙ ap (λ fs. accepted gs ps fs room) (append_assoc fs (f ∷ []) new)

zero_heights : {T : Type 0} (step : T → Parts → Parts) (Room : T → Parts → Type 0) (xs : List T) → heights step Room (λ x. 0) xs ≡ 0
zero_heights step Room [] = refl
zero_heights step Room (x ∷ xs) = omega (arith, zero_heights step Room xs)

func_heights : (fs : List Func) → heights func_step (λ f a. ⊤) (λ f. statements_height (body_of f)) fs ≡ funcs_height fs
func_heights [] = refl
func_heights (f ∷ fs) = ap (max (statements_height (body_of f))) (func_heights fs)

-- ---- declarations behind declarations

tokens_append : (xs ys : List External) → unit_tokens (xs ++ ys) ≡ unit_tokens xs ++ unit_tokens ys
tokens_append [] ys = refl
tokens_append (x ∷ xs) ys = ap (λ (ts : List Token). external_tokens x ++ ts) (tokens_append xs ys) ∙ sym (append_assoc (external_tokens x) (unit_tokens xs) (unit_tokens ys))

valid_append : (xs ys : List External) → AreExternals Merge xs → AreExternals Merge ys → AreExternals Merge (xs ++ ys)
valid_append [] ys h k = k
valid_append (x ∷ xs) ys h k = (h.0, valid_append xs ys h.1 k)

height_append : (xs ys : List External) → unit_height (xs ++ ys) ≡ max (unit_height xs) (unit_height ys)
height_append [] ys = omega arith
height_append (x ∷ xs) ys = omega (arith, height_append xs ys)

added_append : (xs ys : List External) (a : Parts) → add_all a (xs ++ ys) ≡ add_all (add_all a xs) ys
added_append [] ys a = refl
added_append (x ∷ xs) ys a = added_append xs ys (add a x)

-- ---- the include line

include : {p : Place} {rest : Bytes} → p.fresh ≡ true → Lines (λ (x : ⊤). []) (λ (x : ⊤). ⊤) p (codes "#include \"dsu.h\"\n") rest
include {p} {rest} fresh = record {
  place = after_bytes (after_bytes p (codes "#include \"dsu.h\"")) (codes "\n");
  fresh = refl;
  moves = record {
    tree = tt;
    is = tt;
    cuts = λ ts c.
        goes p (codes "#include \"dsu.h\"") (codes "\n" ++ rest) piece.Space ts
        (include_line (codes "#include \"dsu.h\"") fresh (record { all = refl; ends = refl }) (record { blanks = []; more = codes " \"dsu.h\""; parts = refl; blank = refl; ends = refl }))
        (goes (after_bytes p (codes "#include \"dsu.h\"")) (codes "\n") rest piece.Space ts (white 10 refl) c);
  };
}

-- ---- the program

record IsUnitOf (P : Program) (ts : List External) : Type 0 where
  valid : AreExternals Merge ts
  height_is : unit_height ts ≡ funcs_height P.funcs
  program : program_of (add_all (no_parts Merge) ts) ≡ P

module _ (P : Program) (fits : ProgramFits P) (at : ProgramHasPositions P) where
  abbrev Protos : List External → Type 0
  Protos = AreDeclared proto_step (λ p a. ⊤) (λ p. 0) P.protos

  abbrev Globals : List External → Type 0
  Globals = AreDeclared global_step Room (λ g. 0) P.globals

  abbrev Funcs : List External → Type 0
  Funcs = AreDeclared func_step (λ f a. ⊤) (λ f. statements_height (body_of f)) P.funcs

  is_unit : (ps gs fs : List External) → Protos ps → Globals gs → Funcs fs → IsUnitOf P (ps ++ (gs ++ fs))
  is_unit ps gs fs is_p is_g is_f = record {
    valid = valid_append ps (gs ++ fs) is_p.valid (valid_append gs fs is_g.valid is_f.valid);
    height_is =
        omega (arith, height_append ps (gs ++ fs), height_append gs fs, is_p.height_is, is_g.height_is, is_f.height_is, zero_heights proto_step (λ p a. ⊤) P.protos, zero_heights global_step Room P.globals, func_heights P.funcs);
    program =
        ap program_of
        (added_append ps (gs ++ fs) (no_parts Merge)
        ∙ ap (λ (a : Parts). add_all a (gs ++ fs)) (is_p.added (no_parts Merge) (no_rooms proto_step (λ p. 0) proto_text ProtoFits (λ p. IsPosition p.pos) prints_proto P.protos (no_parts Merge)) ∙ protos_added [] [] [] (cell_limit Merge) P.protos)
        ∙ added_append gs fs with_protos
        ∙ ap (λ (a : Parts). add_all a fs) (is_g.added with_protos (has_rooms P.globals with_protos fits.globals) ∙ globals_added [] P.protos [] (cell_limit Merge) P.globals)
        ∙ is_f.added with_globals (no_rooms func_step (λ f. statements_height (body_of f)) func_text FuncFits FuncHasPositions prints_func P.funcs with_globals)
        ∙ funcs_added P.globals P.protos [] (room_after (cell_limit Merge) P.globals) P.funcs)
        ∙ ap (λ early. record { globals = P.globals; protos = P.protos; funcs = P.funcs; early = early }) (sym fits.early);
  }
    where
      with_protos : Parts
      with_protos = accepted [] P.protos [] (cell_limit Merge)

      with_globals : Parts
      with_globals = accepted P.globals P.protos [] (room_after (cell_limit Merge) P.globals)

  unit_lines : Lines unit_tokens (IsUnitOf P) (first_place Merge) (program_text P) []
  unit_lines =
      as_lines (λ (y : ⊤ × (List External × (List External × List External))). y.1.0 ++ (y.1.1.0 ++ y.1.1.1))
      (λ y. tokens_append y.1.0 (y.1.1.0 ++ y.1.1.1) ∙ ap (λ (ts : List Token). unit_tokens y.1.0 ++ ts) (tokens_append y.1.1.0 y.1.1.1))
      (λ y is. is_unit y.1.0 y.1.1.0 y.1.1.1 is.1.0 is.1.1.0 is.1.1.1)
      (above (include refl) (λ q fresh. above (prints_all proto_step (λ p a. ⊤) (λ p. 0) proto_text GoodProto prints_proto P.protos (both_good proto_step (λ p. 0) proto_text ProtoFits (λ p. IsPosition p.pos) prints_proto P.protos fits.protos at.protos) q _ fresh)
      (λ q fresh. above (prints_all global_step Room (λ g. 0) global_text GoodGlobal declares_global P.globals (all_good (cell_limit Merge) P.globals fits.globals at.globals) q _ fresh)
      (λ q fresh. prints_all func_step (λ f a. ⊤) (λ f. statements_height (body_of f)) func_text GoodFunc prints_func P.funcs (both_good func_step (λ f. statements_height (body_of f)) func_text FuncFits FuncHasPositions prints_func P.funcs fits.funcs at.funcs) q _ fresh))))

  -- the text has tokens that are the program
  pub record HasTokens (deep : ℕ) : Type 0 where
    pub tokens : List Token
    pub lexed : Lexed Merge (program_text P) tokens
    pub gram : Gram Merge deep tokens P

  pub prints_program : (deep : ℕ) → funcs_height P.funcs ≤ deep → HasTokens deep
  prints_program deep fit =
      let x = unit_lines.moves in
      record {
        tokens = unit_tokens x.tree;
        lexed =
            subst (λ (z : Bytes). Cuts Merge (first_place Merge) z (unit_tokens x.tree)) (append-nil (program_text P))
            (subst (λ (ts : List Token). Cuts Merge (first_place Merge) (program_text P ++ []) ts) (append-nil (unit_tokens x.tree)) (x.cuts [] (ends unit_lines.place)));
        gram = record { tree = x.tree; valid = x.is.valid; height_fits = omega (arith, x.is.height_is, fit); written = refl; program = x.is.program };
      }
