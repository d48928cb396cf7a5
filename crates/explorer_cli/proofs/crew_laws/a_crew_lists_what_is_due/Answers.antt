use Rattle.std.proofs.Common.{[]}
use Rattle.explorer_cli.proofs.OneCrew.{block_lists, one_list_of_due, session_told}
use Rattle.explorer_cli.proofs.crew_laws.a_crew_lists_what_is_due.Goals as goal

pub returns : goal.returns
returns c = record {
  block = block_lists;
  text = session_told c.models_are_used_one_way.ensures.problem;
  run = λ p budget commands replies floors run place scenarios at lines words is lists.
      one_list_of_due c.what_is_printed_has_one_text.ensures.reply p scenarios lines words (c.a_list_has_all.ensures p budget commands replies floors run place scenarios [] at)
      (c.none_is_shown_twice.ensures.listed p budget commands replies floors run place scenarios [] at) is lists;
}
