-- What is known of the texts of forms, terms and names.
use Rattle.std.specs.Prelude.{◌≡◌, true}
use Rattle.std.specs.Str.{IsUtf8}
use Rattle.terms.specs.Trees.{FormTree, TermTree}
use Rattle.terms.specs.declared.sym.Sym.{Sym}
use Rattle.formula_texts.specs.Texts.{IsFormText, IsTermText, IsNameText}
use Rattle.formula_texts.specs.Written.{form_text, term_text, name_text, has_form_text, has_term_text, has_name_text}
use Rattle.formula_texts.proofs.AsciiLaws.{ascii_form, ascii_term, ascii_name}
use Rattle.formula_texts.proofs.WrittenLaws.{written_form, written_term, written_name}
pub use Rattle.formula_texts.proofs.WholeLaws.{one_form, one_term, one_name}

pub form-read : (f : FormTree) → has_form_text f ≡ true → IsFormText (form_text f) f
form-read = written_form

pub term-read : (t : TermTree) → has_term_text t ≡ true → IsTermText (term_text t) t
term-read = written_term

pub name-read : (x : Sym) → has_name_text x ≡ true → IsNameText (name_text x) x
name-read = written_name

pub form-utf8 : (f : FormTree) → has_form_text f ≡ true → IsUtf8 (form_text f)
form-utf8 f h = (ascii_form f h).1

pub term-utf8 : (t : TermTree) → has_term_text t ≡ true → IsUtf8 (term_text t)
term-utf8 t h = (ascii_term t h).1

pub name-utf8 : (x : Sym) → has_name_text x ≡ true → IsUtf8 (name_text x)
name-utf8 x h = (ascii_name x h).1
