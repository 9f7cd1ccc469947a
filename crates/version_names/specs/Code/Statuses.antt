-- How the statuses of all names are gathered.
use Rattle.std.specs.Prelude.{if◌then◌else◌, List, [], ◌∷◌, Option, Some, None}
use Rattle.c_lang.specs.Names.{Bytes}
use Rattle.version_names.specs.Code.Declarations.{same_what}
use Rattle.version_names.specs.Code.Tables.{found, added}
use Rattle.version_names.specs.declared.declared.What.{What}
use Rattle.version_names.specs.declared.declared.Declared.{Declared}
use Rattle.version_names.specs.declared.status.Status.{Status}
use Rattle.version_names.specs.declared.status.Status.TheVariants.{Shared, Changed, Removed, Added}

abbrev pub with_whats : List (Bytes × What) → List Declared → List (Bytes × What)
with_whats entries [] = entries
with_whats entries (d ∷ ds) = with_whats (added entries d.name d.what) ds

-- of a name that the new version has
abbrev pub status_of_new : Option What → What → Status
status_of_new None what = Added
status_of_new (Some before) what = if same_what before what then Shared else Changed

abbrev pub with_new : List (Bytes × What) → List (Bytes × Status) → List Declared → List (Bytes × Status)
with_new olds entries [] = entries
with_new olds entries (d ∷ ds) = with_new olds (added entries d.name (status_of_new (found olds d.name) d.what)) ds

abbrev pub with_old : List (Bytes × Status) → List Declared → List (Bytes × Status)
with_old entries [] = entries
with_old entries (d ∷ ds) = with_old (added entries d.name Removed) ds

abbrev pub statuses_of : List Declared → List Declared → List (Bytes × Status)
statuses_of olds news = with_old (with_new (with_whats [] olds) [] news) olds
