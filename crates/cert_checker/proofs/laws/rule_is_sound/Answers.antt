use Rattle.cert_checker.proofs.RuleLaws.{rule-sound}
use Rattle.cert_checker.proofs.laws.rule_is_sound.Goals as goal

pub returns : goal.returns
returns c = rule-sound
