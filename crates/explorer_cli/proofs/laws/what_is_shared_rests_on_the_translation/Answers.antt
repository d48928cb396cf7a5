use Rattle.explorer_cli.proofs.laws.what_is_shared_rests_on_the_translation.Goals as goal

pub returns : goal.returns
returns c all sessions is number budget models over x s run tells =
    c.a_pool_rests_on_the_translation_alone.ensures.entailed all.problems (all.key_of x.model x.number) all.journal is.legal run.0 tells.published
