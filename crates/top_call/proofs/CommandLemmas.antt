-- What the words of the commands ask for.
use Rattle.std.proofs.Common.{◌≡◌, refl, ℕ, ℤ, List, [], map, true, false, Option, Some, None, String, string_bytes}
use Rattle.std.specs.List.{list_all}
use Rattle.std.specs.declared.alloc.Global.{Global}
use Rattle.std.proofs.lemmas.List.Folds.{list_all-map}
use Rattle.c_lang.specs.Names.{behind}
use Rattle.top_call.specs.Numbers.{answers_of, steps_of, default_steps}
use Rattle.top_call.specs.Words.{Text, UpdateFiles, chosen, file_in, one_file, files_of, listed, is_merge_word, is_run_word, is_replay_word, merge_of, run_of, replay_of, option_value, answers_name, points_name, steps_name}

module _ (words : List (String Global)) where
  abbrev texts : List Text
  texts = map string_bytes words

  pub unknown-word : list_all (λ word. is_run_word (string_bytes word)) words ≡ false → run_of texts ≡ None
  unknown-word has = rw (list_all-map is_run_word string_bytes words, has) refl

  pub run-is : (file : Text) (answers : List ℤ) (steps : ℕ)
      → list_all (λ word. is_run_word (string_bytes word)) words ≡ true
      → one_file (chosen file_in texts) ≡ Some file
      → option_value answers_of [] (chosen (behind answers_name) texts) ≡ Some answers
      → option_value steps_of default_steps (chosen (behind steps_name) texts) ≡ Some steps
      → run_of texts ≡ Some (record { file = file; answers = answers; steps = steps })
  run-is file answers steps known one list number = rw (list_all-map is_run_word string_bytes words, known, one, list, number) refl

  pub unknown-replay-word : list_all (λ word. is_replay_word (string_bytes word)) words ≡ false → replay_of texts ≡ None
  unknown-replay-word has = rw (list_all-map is_replay_word string_bytes words, has) refl

  pub replay-is : (files : UpdateFiles) (points : Option (List ℕ)) (answers : List ℤ) (steps : ℕ)
      → list_all (λ word. is_replay_word (string_bytes word)) words ≡ true
      → files_of texts ≡ Some files
      → option_value listed None (chosen (behind points_name) texts) ≡ Some points
      → option_value answers_of [] (chosen (behind answers_name) texts) ≡ Some answers
      → option_value steps_of default_steps (chosen (behind steps_name) texts) ≡ Some steps
      → replay_of texts ≡ Some (record { files = files; points = points; answers = answers; steps = steps })
  replay-is files points answers steps known given listing list number = rw (list_all-map is_replay_word string_bytes words, known, given, listing, list, number) refl

  pub unknown-merge-word : list_all (λ word. is_merge_word (string_bytes word)) words ≡ false → merge_of texts ≡ None
  unknown-merge-word has = rw (list_all-map is_merge_word string_bytes words, has) refl

  pub merge-is : (files : UpdateFiles) (points : Option (List ℕ))
      → list_all (λ word. is_merge_word (string_bytes word)) words ≡ true
      → files_of texts ≡ Some files
      → option_value listed None (chosen (behind points_name) texts) ≡ Some points
      → merge_of texts ≡ Some (record { files = files; points = points })
  merge-is files points known given listing = rw (list_all-map is_merge_word string_bytes words, known, given, listing) refl
