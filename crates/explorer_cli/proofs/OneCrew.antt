-- Texts of crews without `spent` and `full` are one.
use Rattle.std.proofs.Common.{◌≡◌, ◌↔◌, ◌+◌, ◌<◌, inl, inr, ℕ, zero, suc, List, [], ◌∷◌, ◌++◌, codes, decimal, AllPairs, Contains, Some, refl, sym, ap, ◌∙◌, subst, append_assoc, arith}
use Rattle.std.specs.Prelude.{slice_get}
use Rattle.std.proofs.lemmas.List.{append-nil}
use Rattle.rel_formula.specs.Bounds.{Bounded}
use Rattle.rel_formula.proofs.OpenCells.{cons_cases}
use Rattle.swap_symmetry.specs.Due.{IsDue}
use Rattle.swap_symmetry.specs.Order.{IsEarlier}
use Rattle.swap_symmetry.proofs.ScenarioOrders.{only_one}
use Rattle.translation_rules.specs.Translation.{Translated}
use Rattle.command_words.specs.declared.reading.Command.TheVariants.{Crew}
use Rattle.script_format.specs.declared.entries.Script.{Script}
use Rattle.script_format.specs.declared.entries.ModelEntry.{ModelEntry}
use Rattle.script_format.specs.declared.entries.SessionEntry.{SessionEntry}
use Rattle.script_format.specs.Script.{IsScript}
use Rattle.script_format.proofs.UniqueScripts.{one_script}
use Rattle.script_text.specs.Printed.{Printed, listed}
use Rattle.script_text.specs.Replies.{IsReplyText}
use Rattle.named_model.specs.Model.{NamedTree}
use Rattle.served_models.specs.declared.purposes.Purpose.TheVariants.{Lists}
use Rattle.served_models.specs.Served.{IsAsked, IsProblemOf}
use Rattle.decision_reports.specs.Texts.{AreTexts}
use Rattle.crew_run.specs.declared.answer.CrewAnswer.{CrewAnswer}
use Rattle.crew_run.specs.declared.answer.CrewAnswer.TheVariants.{Ended, Spent, Full}
use Rattle.crew_run.specs.Crew.{IsCrewAnswer}
use Rattle.explorer_cli.specs.CrewTexts.{heading, spent_line, full_line, IsAnswerText, IsBlock, IsBlockOn, AreBlocksOn, AreTextsFrom, AreCrewTexts, HasLine, TellsEnds, ListsAllDue, TellsAllDue}
use Rattle.explorer_cli.specs.Runs.{IsProblemAt}
use Rattle.outside_io.specs.declared.status.Status.TheVariants.{Done, InputRefused, ModelRefused}
use Rattle.explorer_cli.specs.Outcome.{IsAnswerTo, IsAnswerToScript, WritesCrews}
use Rattle.explorer_cli.proofs.OneOrder.{one_order}
use Rattle.explorer_cli.proofs.Problems.{OneProblem}
use Rattle.explorer_cli.proofs.Statuses.{OneList}

-- ---- lines of a part are lines of the whole

line_left : (first rest line : List ℕ) → HasLine first line → HasLine (first ++ rest) line
line_left first rest line (before, behind, is) =
    (before, behind ++ rest, ap (λ (t : List ℕ). t ++ rest) is ∙ append_assoc (before ++ codes "\n" ++ line) behind rest)

regroup : (o b n l a : List ℕ) → o ++ (b ++ n ++ l ++ a) ≡ (o ++ b) ++ n ++ l ++ a
regroup o b n l a = simp append_assoc

line_right : (first rest line : List ℕ) → HasLine rest line → HasLine (first ++ rest) line
line_right first rest line (before, behind, is) = (first ++ before, behind, ap (λ (t : List ℕ). first ++ t) is ∙ regroup first before (codes "\n") line behind)

ends_left : (budget : ℕ) (first rest text : List ℕ) → text ≡ first ++ rest → TellsEnds budget text → TellsEnds budget first
ends_left budget first rest text same ends =
    let whole = subst (TellsEnds budget) same ends in
    (λ has. whole.0 (line_left first rest (spent_line budget) has), λ has. whole.1 (line_left first rest full_line has))

ends_right : (budget : ℕ) (first rest text : List ℕ) → text ≡ first ++ rest → TellsEnds budget text → TellsEnds budget rest
ends_right budget first rest text same ends =
    let whole = subst (TellsEnds budget) same ends in
    (λ has. whole.0 (line_right first rest (spent_line budget) has), λ has. whole.1 (line_right first rest full_line has))

-- ---- a block without them lists what is due

-- the line below the heading
line_below : (name : List ℕ) (number : ℕ) (line lines text : List ℕ) → text ≡ heading name number ++ lines → lines ≡ line → HasLine text line
line_below name number line lines text at is =
    (codes "== " ++ name ++ codes " " ++ decimal number, [], at ∙ ap (λ (l : List ℕ). heading name number ++ l) is ∙ sym (append-nil (heading name number ++ line)))

answer_lists : (t : Translated) (p : Bounded) → t.problem ≡ p → (workers budget number : ℕ) (name : List ℕ) (answer : CrewAnswer) (lines text : List ℕ) → IsCrewAnswer t workers budget 1000000 answer
    → IsAnswerText p budget answer lines → text ≡ heading name number ++ lines → TellsEnds budget text → ListsAllDue p lines
answer_lists t p e workers budget number name (Ended scenarios proof) lines text is told at ends = record {
  scenarios = scenarios.items;
  exactly = λ x. subst (λ (q : Bounded). Contains scenarios.items x ↔ IsDue q [] x) e (is.due x);
  sorted = is.sorted;
  lines_are = told;
}
answer_lists t p e workers budget number name (Spent journal) lines text is told at ends = absurd (ends.0 (line_below name number (spent_line budget) lines text at told))
answer_lists t p e workers budget number name (Full journal) lines text is told at ends = absurd (ends.1 (line_below name number full_line lines text at told))

pub block_lists : (workers budget number : ℕ) (name : List ℕ) (p : Bounded) (text : List ℕ) → IsBlock workers budget name number p text → TellsEnds budget text
    → (lines : List ℕ) × ListsAllDue p lines × (text ≡ heading name number ++ lines)
block_lists workers budget number name p text block ends =
    (block.lines, answer_lists block.translation p block.problem workers budget number name block.answer block.lines text block.answered block.told block.text_is ends, block.text_is)

-- what the law of texts says, as it is used here
abbrev pub OneText : Type 0
OneText = (p : Bounded) (r : Printed) (text words : List ℕ) → IsReplyText p r text → IsReplyText p r words → text ≡ words

-- what is due has one list of lines
pub one_list_of_due : OneText → (p : Bounded) (scenarios : List (List ℕ)) (lines words : List ℕ) → ((x : List ℕ) → Contains scenarios x ↔ IsDue p [] x) → AllPairs IsEarlier scenarios
    → IsReplyText p (listed scenarios) lines → ListsAllDue p words → lines ≡ words
one_list_of_due one_text p scenarios lines words due sorted is lists =
    let same = one_order IsEarlier only_one scenarios lists.scenarios sorted lists.sorted (λ z in'. (lists.exactly z).1 ((due z).0 in')) (λ z in'. (due z).1 ((lists.exactly z).0 in')) in
    one_text p (listed lists.scenarios) lines words (subst (λ (ss : List (List ℕ)). IsReplyText p (listed ss) lines) same is) lists.lines_are

joined : (a b c d : List ℕ) → a ≡ b → c ≡ d → a ++ c ≡ b ++ d
joined a b c d e f = ap (λ (x : List ℕ). x ++ c) e ∙ ap (λ (y : List ℕ). b ++ y) f

never_both : (m n : ℕ) → m < n → n < m → ⊥
never_both m n a b = absurd (omega (arith, a, b))

-- ---- two texts

module _ (one_text : OneText) (one_problem : OneProblem) (workers others budget other : ℕ) where
  one_block : (name : List ℕ) (m : NamedTree) (number : ℕ) (text words : List ℕ) → IsBlockOn workers budget name m number text → IsBlockOn others other name m number words
      → TellsEnds budget text → TellsEnds other words → text ≡ words
  one_block name m number text words (p, is_of, block) (q, too, more) ends stops =
      let moved = subst (λ (r : Bounded). IsBlock others other name number r words) (one_problem m number q p too is_of) more in
      let (lines, lists, is) = block_lists workers budget number name p text block ends in
      let (found, all, at) = block_lists others other number name p words moved stops in
      is ∙ ap (λ (l : List ℕ). heading name number ++ l) (one_list_of_due one_text p lists.scenarios lines found lists.exactly lists.sorted lists.lines_are all) ∙ sym at

  one_of_blocks : (name : List ℕ) (m : NamedTree) (numbers text words : List ℕ) → AreTexts (IsBlockOn workers budget name m) numbers text → AreTexts (IsBlockOn others other name m) numbers words
      → TellsEnds budget text → TellsEnds other words → text ≡ words
  one_of_blocks name m [] text words are too ends stops = are ∙ sym too
  one_of_blocks name m (n ∷ ns) text words (first, rest, is, others_are, same) (one, more, was, those, made) ends stops =
      let here = one_block name m n first one is was (ends_left budget first rest text same ends) (ends_left other one more words made stops) in
      let behind = one_of_blocks name m ns rest more others_are those (ends_right budget first rest text same ends) (ends_right other one more words made stops) in
      same ∙ joined first one rest more here behind ∙ sym made

  one_of_model : (sessions : List SessionEntry) (place : ℕ) (entry : ModelEntry) (m : NamedTree) (text words : List ℕ) → AreBlocksOn workers budget sessions place entry m text → AreBlocksOn others other sessions place entry m words
      → TellsEnds budget text → TellsEnds other words → text ≡ words
  one_of_model sessions place entry m text words a b ends stops =
      let same = one_order (λ (i j : ℕ). i < j) never_both a.numbers b.numbers a.rising b.rising (λ n in'. (b.asked n).1 ((a.asked n).0 in')) (λ n in'. (a.asked n).1 ((b.asked n).0 in')) in
      let moved = subst (λ (ns : List ℕ). AreTexts (IsBlockOn workers budget entry.name m) ns text) same a.blocks in
      one_of_blocks entry.name m b.numbers text words moved b.blocks ends stops

  one_of_models : (sessions : List SessionEntry) (place : ℕ) (entries : List ModelEntry) (models : List NamedTree) (text words : List ℕ) → AreTextsFrom (AreBlocksOn workers budget sessions) place entries models text
      → AreTextsFrom (AreBlocksOn others other sessions) place entries models words → TellsEnds budget text → TellsEnds other words → text ≡ words
  one_of_models sessions place [] [] text words are too ends stops = are ∙ sym too
  one_of_models sessions place [] (m ∷ ms) text words are too ends stops = absurd are
  one_of_models sessions place (e ∷ es) [] text words are too ends stops = absurd are
  one_of_models sessions place (e ∷ es) (m ∷ ms) text words (first, rest, is, others_are, same) (one, more, was, those, made) ends stops =
      let here = one_of_model sessions place e m first one is was (ends_left budget first rest text same ends) (ends_left other one more words made stops) in
      let behind = one_of_models sessions (place + 1) es ms rest more others_are those (ends_right budget first rest text same ends) (ends_right other one more words made stops) in
      same ∙ joined first one rest more here behind ∙ sym made

-- ---- the block of a session's command

tells_left : (p : Bounded) (line first rest text : List ℕ) → text ≡ first ++ rest → TellsAllDue p line first → TellsAllDue p line text
tells_left p line first rest text same (before, lines, behind, lists, is) =
    (before, lines, behind ++ rest, lists, same ∙ ap (λ (t : List ℕ). t ++ rest) is ∙ append_assoc (before ++ line ++ lines) behind rest)

tells_right : (p : Bounded) (line first rest text : List ℕ) → text ≡ first ++ rest → TellsAllDue p line rest → TellsAllDue p line text
tells_right p line first rest text same (before, lines, behind, lists, is) =
    (first ++ before, lines, behind, lists, same ∙ ap (λ (t : List ℕ). first ++ t) is ∙ regroup first before line lines behind)

same_entry : (x y : ModelEntry) → Some x ≡ Some y → x ≡ y
same_entry x y e = cc

same_tree : (x y : NamedTree) → Some x ≡ Some y → x ≡ y
same_tree x y e = cc

module _ (one_problem : OneProblem) (workers budget number : ℕ) (p : Bounded) where
  in_block : (name : List ℕ) (m : NamedTree) (text : List ℕ) → IsProblemOf m number p → IsBlockOn workers budget name m number text → TellsEnds budget text → TellsAllDue p (heading name number) text
  in_block name m text is (q, too, block) ends =
      let moved = subst (λ (r : Bounded). IsBlock workers budget name number r text) (one_problem m number q p too is) block in
      let (lines, lists, at) = block_lists workers budget number name p text moved ends in
      ([], lines, [], lists, at ∙ sym (append-nil (heading name number ++ lines)))

  in_blocks : (name : List ℕ) (m : NamedTree) (numbers text : List ℕ) → IsProblemOf m number p → Contains numbers number → AreTexts (IsBlockOn workers budget name m) numbers text → TellsEnds budget text
      → TellsAllDue p (heading name number) text
  in_blocks name m [] text is in' are ends = absurd (let l = in'.1 in omega arith)
  in_blocks name m (n ∷ ns) text is in' (first, rest, here, others, same) ends = elim (cons_cases n ns number in') [
    | inl e ↦
        let block = subst (λ (k : ℕ). IsBlockOn workers budget name m k first) e here in
        tells_left p (heading name number) first rest text same (in_block name m first is block (ends_left budget first rest text same ends))
    | inr later ↦ tells_right p (heading name number) first rest text same (in_blocks name m ns rest is later others (ends_right budget first rest text same ends))
  ]

  in_models : (sessions : List SessionEntry) (place k : ℕ) (entries : List ModelEntry) (models : List NamedTree) (entry : ModelEntry) (m : NamedTree) (text : List ℕ) → slice_get entries k ≡ Some entry
      → slice_get models k ≡ Some m → IsProblemOf m number p → IsAsked sessions (place + k) number → AreTextsFrom (AreBlocksOn workers budget sessions) place entries models text → TellsEnds budget text
      → TellsAllDue p (heading entry.name number) text
  in_models sessions place k [] models entry m text e f is asked are ends = absurd (cc)
  in_models sessions place k (x ∷ entries) [] entry m text e f is asked are ends = absurd are
  in_models sessions place zero (x ∷ entries) (y ∷ models) entry m text e f is asked (first, rest, here, others, same) ends =
      let at : place + 0 ≡ place = omega arith in
      let own = subst (λ (z : ModelEntry). AreBlocksOn workers budget sessions place z m first) (same_entry x entry e) (subst (λ (z : NamedTree). AreBlocksOn workers budget sessions place x z first) (same_tree y m f) here) in
      let among = (own.asked number).1 (subst (λ (n : ℕ). IsAsked sessions n number) at asked) in
      tells_left p (heading entry.name number) first rest text same (in_blocks entry.name m own.numbers first is among own.blocks (ends_left budget first rest text same ends))
  in_models sessions place (suc k) (x ∷ entries) (y ∷ models) entry m text e f is asked (first, rest, here, others, same) ends =
      let at : place + suc k ≡ place + 1 + k = omega arith in
      tells_right p (heading entry.name number) first rest text same
      (in_models sessions (place + 1) k entries models entry m rest e f is (subst (λ (n : ℕ). IsAsked sessions n number) at asked) others (ends_right budget first rest text same ends))

-- of each command on which a session is, what is due is listed
pub session_told : OneProblem → (workers budget : ℕ) (sessions : List SessionEntry) (entries : List ModelEntry) (models : List NamedTree) (text : List ℕ) → AreCrewTexts workers budget sessions entries models text → TellsEnds budget text
    → (x : SessionEntry) (entry : ModelEntry) (p : Bounded) → Contains sessions x → slice_get entries x.model ≡ Some entry → IsProblemAt models x p → TellsAllDue p (heading entry.name x.number) text
session_told one_problem workers budget sessions entries models text told ends x entry p in' at (m, there, is) =
    let same : x.model ≡ 0 + x.model = omega arith in
    in_models one_problem workers budget x.number p sessions 0 x.model entries models entry m text at there is (x, in', same, refl) told.0 ends

-- ---- two answers

-- what is answered where all is done is what crews find
found_in : (workers budget : ℕ) (s : Script) (text : List ℕ) → IsAnswerToScript (Crew workers budget) s Done text → WritesCrews workers budget s text
found_in workers budget s text (inl model) = absurd (let e : Done ≡ ModelRefused = model.0 in cc)
found_in workers budget s text (inr told) = told.1

found_by : (workers budget : ℕ) (bytes text : List ℕ) → IsAnswerTo (Crew workers budget) bytes Done text → (s : Script) × IsScript bytes s × WritesCrews workers budget s text
found_by workers budget bytes text (inl fault) = absurd (let e : Done ≡ InputRefused = fault.2 in cc)
found_by workers budget bytes text (inr script) = (script.0, script.1, found_in workers budget script.0 text script.2)

pub one_crew_text : OneText → OneProblem → OneList → (workers others budget other : ℕ) (bytes text words : List ℕ) → IsAnswerTo (Crew workers budget) bytes Done text → IsAnswerTo (Crew others other) bytes Done words
    → TellsEnds budget text → TellsEnds other words → text ≡ words
one_crew_text one_text one_problem one_list workers others budget other bytes text words first second ends stops =
    let a = found_by workers budget bytes text first in
    let b = found_by others other bytes words second in
    let s = a.0 in
    let own = a.2 in
    let too = subst (λ (r : Script). WritesCrews others other r words) (one_script bytes b.0 s b.1 a.1) b.2 in
    let told = subst (λ (ms : List NamedTree). AreCrewTexts others other s.sessions s.models ms words) (one_list Lists s.sessions s.models too.0 own.0 too.1 own.1) too.2 in
    one_of_models one_text one_problem workers others budget other s.sessions 0 s.models own.0 text words own.2.0 told.0 ends stops
