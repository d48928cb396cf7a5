use Rattle.std.proofs.Common.{◌≡◌, [], ◌∷◌, List, ℕ, length, refl, sym, ap, subst, arith}
use Rattle.std.proofs.lemmas.Result.{IfOk-weaker}
use Rattle.refutation_check.specs.Part.{Parted}
use Rattle.refutation_check.specs.Chain.{IsAccepted}
use Rattle.refutation_check.proofs.Novelty.{novel_but_last}
use Rattle.translation_rules.specs.Parts.{given_to}
use Rattle.session_rules.specs.ProofOfEnd.{ProofOfEnd}
use Rattle.session_rules.specs.Proofs.{Proves}
use Rattle.session_rules.specs.declared.end_proof.ProofKind.TheVariants.{End}
use Rattle.session_state.specs.declared.search_rounds.round.RoundEnd.{RoundEnd}
use Rattle.session_state.specs.Rounds.Rounds.{parts_in, IsRoundAt, IsRightRound}
use Rattle.session_state.proofs.Rounds.SearchedRounds.{novel_more, novel_none}
use Rattle.crew_run.specs.declared.event.CrewEvent.{CrewEvent}
use Rattle.crew_run.specs.declared.event.CrewEvent.TheVariants.{Ended}
use Rattle.crew_run.specs.Searching.{IsEventOf}
use Rattle.crew_run.proofs.Events.{end_of_refuted}
use Rattle.crew_run.proofs.round.event_of.Goals as goal

pub ended-requires : goal.ended-requires
ended-requires c =
    let t = c.args.translation.now in
    let told : List (List ℕ) = c.args.reading.now.told.items in
    let part : Parted = c.in-Refuted.part in
    let round : IsRoundAt t [] [] told c.args.budget (part ∷ []) = subst (λ (e : RoundEnd). IsRoundAt t [] [] told c.args.budget (parts_in e)) c.in-Refuted.is c.requires.parts in
    let log = round.searched 0 part (omega arith) in
    let long = novel_but_last (given_to t [] part) part.log log.novel in
    let one = novel_more t [] part [] in
    let none = novel_none t [] in
    let fits = round.few in
    let few = c.requires.few in
    let same : length c.as_slice.result.now ≡ length told = ap length c.as_slice.ensures.value in
    omega arith

pub returns-in-Refuted : goal.returns-in-Refuted
returns-in-Refuted c =
    let t = c.args.translation.now in
    let budget = c.args.budget in
    let reading = c.args.reading.now in
    let told : List (List ℕ) = reading.told.items in
    let part : Parted = c.in-Refuted.part in
    let round : IsRoundAt t [] [] told budget (part ∷ []) = subst (λ (e : RoundEnd). IsRoundAt t [] [] told budget (parts_in e)) c.in-Refuted.is c.requires.parts in
    let right = subst (IsRightRound t [] [] reading.found.items told budget) c.in-Refuted.is c.requires.right in
    let none : IsAccepted t.cnf.clauses [] = λ i d lt. absurd (omega arith) in
    let proves = end_of_refuted t budget told part (λ part blocked log empty. c.a_refuting_part_makes_a_proof.ensures t [] part blocked none log empty) round right.0 right.1 in
    let value : c.as_slice.result.now ≡ told = c.as_slice.ensures.value in
    let proof : ProofOfEnd = record { imported = 0; blocked = c.as_slice.result.now; pool = []; log = part.log } in
    let proved : Proves t [] End proof = subst (λ (bs : List (List ℕ)). Proves t [] End (record { imported = 0; blocked = bs; pool = []; log = part.log })) (sym value) proves in
    IfOk-weaker c.ended.result (λ (event : CrewEvent). event ≡ Ended proof) (IsEventOf t budget reading) (λ event is. subst (IsEventOf t budget reading) (sym is) (refl, value, proved)) c.ended.ensures
