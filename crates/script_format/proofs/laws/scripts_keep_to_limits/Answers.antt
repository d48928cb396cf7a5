use Rattle.script_format.proofs.UniqueScripts.{few_models, few_sessions, few_keys, models_there, texts_small}
use Rattle.script_format.proofs.AskedCommands.{asked_few, all_allowed}
use Rattle.script_format.proofs.laws.scripts_keep_to_limits.Goals as goal

pub returns : goal.returns
returns c = record {
  models = λ bytes s is. few_models bytes s is;
  sessions = λ bytes s is. few_sessions bytes s is;
  keys = λ bytes s is. few_keys bytes s is;
  named = λ bytes s is. models_there bytes s is;
  asked = λ bytes s is. asked_few bytes s is;
  allowed = λ bytes s is. all_allowed bytes s is;
  small = λ bytes s is. texts_small bytes s is;
}
