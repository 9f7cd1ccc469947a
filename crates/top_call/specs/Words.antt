-- What the words after the program's name ask for.
use Rattle.std.specs.Prelude.{ℕ, ℤ, Bool, not, ◌||◌, if◌then◌else◌, List, [], ◌∷◌, ◌++◌, Option, Some, None, nat_eq, bytes_eq, option_map, codes}
use Rattle.std.specs.List.{list_all, starts_with}
use Rattle.c_lang.specs.Names.{behind}
use Rattle.top_call.specs.Numbers.{answers_of, points_of, default_steps, steps_of}

abbrev pub Text : Type 0
Text = List ℕ

-- the name of a client's file, and that of the function with which a run begins
pub record ClientFile : Type 0 where
  pub file : Text
  pub spec : Text

-- the names of the files of an update
pub record UpdateFiles : Type 0 where
  pub old : Text
  pub new : Text
  pub xform : Text
  pub client : Option ClientFile

-- the files of an update, and the points that may update where they are listed
pub record MergeRequest : Type 0 where
  pub files : UpdateFiles
  pub points : Option (List ℕ)

-- the file of a merged text, the answers that its run gets, and how many steps it makes
pub record RunRequest : Type 0 where
  pub file : Text
  pub answers : List ℤ
  pub steps : ℕ

-- the files of an update, the points that may update where they are listed, the answers that its run gets,
-- and how many steps it makes
pub record ReplayRequest : Type 0 where
  pub files : UpdateFiles
  pub points : Option (List ℕ)
  pub answers : List ℤ
  pub steps : ℕ

pub data Request : Type 0 where
  Merge : MergeRequest → Request
  Run : RunRequest → Request
  Replay : ReplayRequest → Request

-- a word that begins with `-`
abbrev pub is_option : Text → Bool
is_option word = starts_with nat_eq word (codes "-")

-- three files, or four where the name of a client's function is given
abbrev pub update_files : List Text → Option Text → Option UpdateFiles
update_files (old ∷ new ∷ xform ∷ []) None = Some (record { old = old; new = new; xform = xform; client = None })
update_files (old ∷ new ∷ xform ∷ client ∷ []) (Some spec) =
    Some (record { old = old; new = new; xform = xform; client = Some (record { file = client; spec = spec }) })
update_files files spec = None

-- ---- words in any order

abbrev pub with_chosen : Option Text → List Text → List Text
with_chosen None texts = texts
with_chosen (Some text) texts = text ∷ texts

-- what the words give, of those that give something
abbrev pub chosen : (Text → Option Text) → List Text → List Text
chosen gives [] = []
chosen gives (word ∷ words) = with_chosen (gives word) (chosen gives words)

abbrev pub added : List Text → Option Text → List Text
added texts None = texts
added texts (Some text) = texts ++ text ∷ []

-- a word that is no option
abbrev pub file_in : Text → Option Text
file_in word = if is_option word then None else Some word

-- what follows the option's name, where the word begins with it
abbrev pub answers_name : Text
answers_name = codes "--answers="

abbrev pub steps_name : Text
steps_name = codes "--steps="

abbrev pub points_name : Text
points_name = codes "--points="

abbrev pub spec_name : Text
spec_name = codes "--spec="

abbrev pub is_merge_word : Text → Bool
is_merge_word word = not (is_option word) || (starts_with nat_eq word points_name || starts_with nat_eq word spec_name)

abbrev pub is_run_word : Text → Bool
is_run_word word = not (is_option word) || (starts_with nat_eq word answers_name || starts_with nat_eq word steps_name)

abbrev pub is_replay_word : Text → Bool
is_replay_word word = is_run_word word || (starts_with nat_eq word points_name || starts_with nat_eq word spec_name)

-- an option's value, or what stands where it isn't given; none where it is given twice
abbrev pub option_value : {X : Type 0} → (Text → Option X) → X → List Text → Option X
option_value read default [] = Some default
option_value read default (text ∷ []) = read text
option_value read default (text ∷ other ∷ texts) = None

abbrev pub one_file : List Text → Option Text
one_file (file ∷ []) = Some file
one_file files = None

abbrev pub run_with : Option Text → Option (List ℤ) → Option ℕ → Option RunRequest
run_with (Some file) (Some answers) (Some steps) = Some (record { file = file; answers = answers; steps = steps })
run_with file answers steps = None

-- one file, and each option at most once, in any order
abbrev pub run_of : List Text → Option RunRequest
run_of words =
    if list_all is_run_word words
    then
    run_with (one_file (chosen file_in words)) (option_value answers_of [] (chosen (behind answers_name) words))
    (option_value steps_of default_steps (chosen (behind steps_name) words))
    else None

-- the name that a value is
abbrev pub named : Text → Option (Option Text)
named text = Some (Some text)

abbrev pub files_with : List Text → Option (Option Text) → Option UpdateFiles
files_with files None = None
files_with files (Some spec) = update_files files spec

-- the files of an update, with a fourth one exactly where the name of a client's function is given, once
abbrev pub files_of : List Text → Option UpdateFiles
files_of words = files_with (chosen file_in words) (option_value named None (chosen (behind spec_name) words))

-- the points that a value lists
abbrev pub listed : Text → Option (Option (List ℕ))
listed text = option_map Some (points_of text)

abbrev pub merge_with : Option UpdateFiles → Option (Option (List ℕ)) → Option MergeRequest
merge_with (Some files) (Some points) = Some (record { files = files; points = points })
merge_with files points = None

-- the files of an update, and the points at most once, in any order
abbrev pub merge_of : List Text → Option MergeRequest
merge_of words =
    if list_all is_merge_word words
    then merge_with (files_of words) (option_value listed None (chosen (behind points_name) words))
    else None

abbrev pub replay_with : Option UpdateFiles → Option (Option (List ℕ)) → Option (List ℤ) → Option ℕ → Option ReplayRequest
replay_with (Some files) (Some points) (Some answers) (Some steps) =
    Some (record { files = files; points = points; answers = answers; steps = steps })
replay_with files points answers steps = None

-- the files of an update, and each option at most once, in any order
abbrev pub replay_of : List Text → Option ReplayRequest
replay_of words =
    if list_all is_replay_word words
    then
    replay_with (files_of words) (option_value listed None (chosen (behind points_name) words))
    (option_value answers_of [] (chosen (behind answers_name) words)) (option_value steps_of default_steps (chosen (behind steps_name) words))
    else None

-- the command, and its files and options
abbrev pub request_of : List Text → Option Request
request_of [] = None
request_of (command ∷ words) =
    if bytes_eq command (codes "merge") then option_map Merge (merge_of words)
    else if bytes_eq command (codes "run") then option_map Run (run_of words)
    else if bytes_eq command (codes "replay") then option_map Replay (replay_of words)
    else None
