use Rattle.std.proofs.Common.{◌++◌, [], codes, sym, subst}
use Rattle.session_rules.specs.declared.answers.Reply.TheVariants as reply
use Rattle.script_text.specs.Printed.{all_printed}
use Rattle.script_text.specs.Replies.{PrintedSession}
use Rattle.explorer_cli.specs.Classes.{IsClassedSession, HasClasses}
use Rattle.explorer_cli.proofs.ClassedReplies.{lines_at, tells_classes, has_classes}
use Rattle.explorer_cli.proofs.laws.one_of_each_class_is_told.Goals as goal

pub returns : goal.returns
returns c budget models over x text (s, run, is) place scenarios at =
    let t = run.0 in
    let p = t.problem in
    let own = run.3 in
    let told : IsClassedSession p x.name own.floors (all_printed t own.floors own.replies) text =
    subst (λ (r : PrintedSession). IsClassedSession r.problem r.name own.floors r.replies text) own.is is in
    let found = lines_at p t own.floors own.replies told.0 told.1 place (reply.All scenarios) [] at in
    let due = c.a_list_has_all.ensures p budget x.commands own.replies own.floors (own.exchanges, own.transcript) place scenarios [] at in
    let law = c.classes_are_of_all_minimal.ensures in
    let tells = tells_classes c.due_are_minimal_up_to_renaming.ensures law.exactly law.apart c.renamings_are_a_class.ensures.onward p scenarios found.1 run.2.2.problem own.made.symmetric due found.3 in
    subst (λ (r : PrintedSession). HasClasses r.problem text) (sym own.is)
    (codes "== " ++ x.name ++ codes "\n" ++ found.0, found.1, found.2, tells, has_classes p x.name found.0 found.1 found.2 told.0 text told.2 found.4)
