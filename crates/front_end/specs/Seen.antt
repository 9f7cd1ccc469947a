-- The texts of an update as plain data.
use Rattle.std.specs.Prelude.{option_map}
use Rattle.front_end.specs.Worlds as plain
use Rattle.front_end.specs.declared.texts.ClientText.{ClientText}
use Rattle.front_end.specs.declared.texts.UpdateTexts.{UpdateTexts}

abbrev pub seen_client : ClientText → plain.ClientText
seen_client client = record { text = client.text.now; spec = client.spec.now }

abbrev pub seen_texts : UpdateTexts → plain.Texts
seen_texts texts = record { old = texts.old.now; new = texts.new.now; xform = texts.xform.now; client = option_map seen_client texts.client }
