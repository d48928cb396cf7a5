use Rattle.std.proofs.Common.{◌++◌, ◌∷◌, [], ap, ◌∙◌}
use Rattle.name_tables.specs.InForce.{InForce}
use Rattle.name_tables.proofs.Repeats.Numbers.{where_ok}
use Rattle.name_tables.proofs.repeated_names.words.Words.meet.Goals as goal

pub returns-clause-words : goal.returns-clause-words
returns-clause-words c =
    where_ok c.ok_or.result (ap (λ (n : InForce). n.globals.signatures) c.in_ok-declare_signature.ensures.ok ∙ ap (λ ws. ws ++ c.args.text.now ∷ []) c.self.view_is)
