-- The names of a merged program are words that its text can have.
use Rattle.std.specs.Prelude.{⊤, ◌≡◌, ℕ, zero, suc, Bool, true, false, cond, nat_eq, [], ◌∷◌, ◌++◌, length, take, drop, Option, Some, None, is_some, codes}
use Rattle.std.specs.List.{list_all, starts_with}
use Rattle.std.proofs.Common.{refl, sym, ap, subst, ◌∙◌}
use Rattle.std.proofs.lemmas.List.{take-append-drop}
use Rattle.std.proofs.lemmas.Slice.Eq.{bytes_eq-Decides}
use Rattle.c_lang.specs.Names.{Bytes, is_reserved, behind}
use Rattle.c_lang.specs.Programs.{func_named}
use Rattle.c_lang.specs.declared.unit.Unit.{Unit}
use Rattle.c_grammar.specs.Bytes.{is_in_word}
use Rattle.c_grammar.specs.Words.{keyword_number}
use Rattle.c_grammar.specs.Scopes.{temporary}
use Rattle.c_lexer.proofs.Cases.{and_both}
use Rattle.version_names.specs.Home.{Home, Linked, same_home}
use Rattle.version_names.specs.Home as home
use Rattle.version_names.specs.Links.{cell_part, code_part}
use Rattle.version_names.specs.Merged.{merged_name}
use Rattle.version_names.specs.Provenance.{Provenance}
use Rattle.version_names.specs.Provenance as origin
use Rattle.version_names.specs.Version.{Version}
use Rattle.version_names.specs.Version as version
use Rattle.version_names.specs.declared.part.Origin.{Origin}
use Rattle.version_names.specs.declared.part.Origin.TheVariants as prefix
use Rattle.update_semantics.specs.UpdatingRun.{World, old_or_new, linked_by_prefix, client_funcs, cell_meaning, function_meaning}
use Rattle.merged_program.specs.Names.{now_name, choice_name, result_name, parameter_name, is_foreign, kept_name, cell_name, code_name, variable_name, function_name}
use Rattle.merge_printer.proofs.HeadLaw.{number_name_fits}
use Rattle.merge_printer.proofs.Words.{all_in_word, IsName, numbered_word}
use Rattle.written_laws.specs.SourceNames as written

-- ---- words

abbrev pub InWord : Bytes → Type 0
InWord x = list_all is_in_word x ≡ true

drop_in_word : (n : ℕ) (x : Bytes) → InWord x → InWord (drop n x)
drop_in_word zero x h = h
drop_in_word (suc n) [] h = refl
drop_in_word (suc n) (byte ∷ x) h = drop_in_word n x (and_both (is_in_word byte) (list_all is_in_word x) h).1

pub name_in_word : (x : Bytes) → IsName x → InWord x
name_in_word x h = all_in_word x h.0

temporary_name : (n : ℕ) → IsName (temporary n)
unfolding temporary keyword_number
temporary_name n = (numbered_word n, refl)

pub source_name : (u : Unit) (x : Bytes) → written.IsName u x → IsName x
source_name u x (written.word h) = (h.word, h.no_keyword)
source_name u x (written.made n is) = subst IsName (sym is) (temporary_name n)

pub source_word : (u : Unit) (x : Bytes) → written.IsWord u x → IsName x
source_word u x h = (h.word, h.no_keyword)

pub parameter_fits : (n : ℕ) → IsName (parameter_name n)
parameter_fits = number_name_fits

pub now_fits : IsName now_name
unfolding keyword_number
now_fits = (refl, refl)

pub choice_fits : IsName choice_name
unfolding keyword_number
choice_fits = (refl, refl)

pub result_fits : IsName result_name
unfolding keyword_number
result_fits = (refl, refl)

pub main_fits : IsName (codes "main")
unfolding keyword_number
main_fits = (refl, refl)

pub merged_fits : (o : Origin) (x : Bytes) → InWord x → IsName (merged_name o x)
unfolding keyword_number
merged_fits prefix.Both x h = (h, refl)
merged_fits prefix.Any x h = (h, refl)
merged_fits prefix.Old x h = (h, refl)
merged_fits prefix.New x h = (h, refl)
merged_fits prefix.Xform x h = (h, refl)
merged_fits prefix.Client x h = (h, refl)

-- ---- kept names

behind_prefix : (x prefix : Bytes) → starts_with nat_eq x prefix ≡ true → prefix ++ drop (length prefix) x ≡ x
behind_prefix x prefix h =
    ap (λ (p : Bytes). p ++ drop (length prefix) x) ((bytes_eq-Decides prefix (take (length prefix) x)).0 h) ∙ take-append-drop (length prefix) x

-- a reserved name behind `dsu_`
twice_reserved : (x : Bytes) → InWord x → IsName (codes "dsu_dsu_" ++ x)
unfolding keyword_number
twice_reserved x h = (h, refl)

foreign_fits : (x : Bytes) → IsName x → is_reserved x ≡ true → IsName (codes "dsu_" ++ x)
foreign_fits x h reserved =
    let rest = drop 4 x in
    subst (λ (y : Bytes). IsName (codes "dsu_" ++ y)) (behind_prefix x (codes "dsu_") reserved) (twice_reserved rest (drop_in_word 4 x (name_in_word x h)))

kept_fits : (x : Bytes) → IsName x → IsName (kept_name x)
kept_fits x h = by_test (is_foreign x) refl
  where
    by_test : (b : Bool) → is_foreign x ≡ b → IsName (cond b (codes "dsu_" ++ x) x)
    by_test true is = foreign_fits x h (and_both (is_reserved x) _ is).0
    by_test false is = h

-- ---- linked names

abbrev LinkedFits : Linked → Type 0
LinkedFits (home.Both, x) = InWord x
LinkedFits (home.Old, x) = InWord x
LinkedFits (home.New, x) = InWord x
LinkedFits (home.Xform, x) = InWord x
LinkedFits (home.Client, x) = InWord x
LinkedFits (home.Unlinked, x) = IsName x

cell_name_fits : (l : Linked) → LinkedFits l → IsName (cell_name l)
cell_name_fits (home.Both, x) h = merged_fits prefix.Both x h
cell_name_fits (home.Old, x) h = merged_fits prefix.Old x h
cell_name_fits (home.New, x) h = merged_fits prefix.New x h
cell_name_fits (home.Xform, x) h = merged_fits prefix.Xform x h
cell_name_fits (home.Client, x) h = merged_fits prefix.Client x h
cell_name_fits (home.Unlinked, x) h = kept_fits x h

code_name_fits : (l : Linked) → LinkedFits l → IsName (code_name l)
code_name_fits (home.Both, x) h = merged_fits prefix.Any x h
code_name_fits (home.Old, x) h = merged_fits prefix.Old x h
code_name_fits (home.New, x) h = merged_fits prefix.New x h
code_name_fits (home.Xform, x) h = merged_fits prefix.Xform x h
code_name_fits (home.Client, x) h = merged_fits prefix.Client x h
code_name_fits (home.Unlinked, x) h = kept_fits x h

at_home : (h : Home) (x : Bytes) → IsName x → LinkedFits (h, x)
at_home home.Both x is = name_in_word x is
at_home home.Old x is = name_in_word x is
at_home home.New x is = name_in_word x is
at_home home.Xform x is = name_in_word x is
at_home home.Client x is = name_in_word x is
at_home home.Unlinked x is = is

abbrev SomeInWord : Option Bytes → Type 0
SomeInWord None = ⊤
SomeInWord (Some y) = InWord y

behind_in_word : (p x : Bytes) → InWord x → SomeInWord (behind p x)
behind_in_word p x h = by_test (starts_with nat_eq x p)
  where
    by_test : (b : Bool) → SomeInWord (cond b (Some (drop (length p) x)) None)
    by_test true = drop_in_word (length p) x h
    by_test false = tt

module _ (homes : Version → Bytes → Home) where
  alone_fits : (b : Bool) (h : Home) (y x : Bytes) → ((z : Bytes) → InWord z → LinkedFits (h, z)) → InWord y → IsName x → LinkedFits (cond b (h, y) (home.Unlinked, x))
  alone_fits true h y x own is name = own y is
  alone_fits false h y x own is name = name

  old_or_new_fits : (x : Bytes) (old new : Option Bytes) → IsName x → SomeInWord old → SomeInWord new → LinkedFits (old_or_new homes x old new)
  old_or_new_fits x (Some y) new name is other = alone_fits (same_home (homes version.Old y) home.Old) home.Old y x (λ z h. h) is name
  old_or_new_fits x None (Some y) name is other = alone_fits (same_home (homes version.New y) home.New) home.New y x (λ z h. h) other name
  old_or_new_fits x None None name is other = name

  by_prefix_fits : (x : Bytes) → IsName x → LinkedFits (linked_by_prefix homes x)
  by_prefix_fits x h = by_test (same_home (homes version.Old x) home.Both)
    where
      by_test : (b : Bool) → LinkedFits (cond b (home.Both, x) (old_or_new homes x (behind (codes "dsu_old_") x) (behind (codes "dsu_new_") x)))
      by_test true = name_in_word x h
      by_test false = old_or_new_fits x (behind (codes "dsu_old_") x) (behind (codes "dsu_new_") x) h (behind_in_word (codes "dsu_old_") x (name_in_word x h)) (behind_in_word (codes "dsu_new_") x (name_in_word x h))

own_or_linked : (b : Bool) (h : Home) (x : Bytes) (l : Linked) → IsName x → LinkedFits l → LinkedFits (cond b (h, x) l)
own_or_linked true h x l is fits = at_home h x is
own_or_linked false h x l is fits = fits

module _ (W : World) where
  cell_fits : (o : Provenance) (x : Bytes) → IsName x → LinkedFits (cell_meaning W o x)
  cell_fits origin.Old x h = at_home (cell_part W.first W.second version.Old x) x h
  cell_fits origin.New x h = at_home (cell_part W.first W.second version.New x) x h
  cell_fits origin.Xform x h = by_prefix_fits (cell_part W.first W.second) x h
  cell_fits origin.Client x h = h

  code_fits : (o : Provenance) (f : Bytes) → IsName f → LinkedFits (function_meaning W o f)
  code_fits origin.Old f h = at_home (code_part W.first W.second version.Old f) f h
  code_fits origin.New f h = at_home (code_part W.first W.second version.New f) f h
  code_fits origin.Xform f h = own_or_linked (is_some (func_named W.xform.funcs f)) home.Xform f (linked_by_prefix (code_part W.first W.second) f) h (by_prefix_fits (code_part W.first W.second) f h)
  code_fits origin.Client f h = own_or_linked (is_some (func_named (client_funcs W) f)) home.Client f (linked_by_prefix (code_part W.first W.second) f) h (by_prefix_fits (code_part W.first W.second) f h)

  -- a name of a source is a word, whatever it stands for
  pub variable_fits : (o : Provenance) (x : Bytes) → IsName x → IsName (variable_name W o x)
  variable_fits o x h = cell_name_fits (cell_meaning W o x) (cell_fits o x h)

  pub function_fits : (o : Provenance) (f : Bytes) → IsName f → IsName (function_name W o f)
  function_fits o f h = code_name_fits (function_meaning W o f) (code_fits o f h)
