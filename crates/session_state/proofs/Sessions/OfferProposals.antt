-- What the search for offers comes to makes a proposal.
use Rattle.std.proofs.Common.{◌≡◌, ◌≤◌, inl, inr, ℕ, List, [], refl, sym, arith}
use Rattle.std.proofs.lemmas.List.Elements.{All-nil}
use Rattle.refutation_check.specs.declared.log.Step.{Step as LogStep}
use Rattle.refutation_check.specs.Part.{Parted}
use Rattle.translation_rules.specs.Translation.{Translated}
use Rattle.translation_rules.specs.Offers.{AreOffers}
use Rattle.translation_rules.specs.Parts.{LastGoesOn, novel_in}
use Rattle.session_words.specs.declared.steps.Step.TheVariants.{Offers}
use Rattle.session_rules.specs.States.{State, top_floor, shown_here, IsCurrent}
use Rattle.session_rules.specs.Proofs.{IsCopy}
use Rattle.session_rules.specs.Work.{IsWork, units_in}
use Rattle.session_rules.specs.declared.answers.Refusal.TheVariants.{Spent}
use Rattle.session_rules.specs.declared.answers.Reply.TheVariants.{Offers as OffersAre, Refused}
use Rattle.augmenter.specs.Offering.{AreTrials}
use Rattle.session_state.specs.Sessions.Proposed.{IsProposal}

module _ (t : Translated) (pool : List LogStep) (s : State) (current : List ℕ) (budget : ℕ) (parts : List Parted) (is_current : IsCurrent s current) (most : s.budget ≡ budget) (trials : AreTrials t pool current budget parts) where
  work : IsWork t pool s Offers parts []
  work = record { searched = trials.searched; work = (inr (current, is_current, trials.tried), refl) }

  units : units_in t pool parts [] ≤ s.budget
  units = let few = trials.few in omega arith

  pub offered : (cells : List ℕ) → AreOffers t.problem current cells → IsProposal t pool s Offers (record { reply = OffersAre cells; parts = parts; copies = [] })
  offered cells offers = record {
    may = record { current = current; is_current = is_current; offers = offers };
    told = λ e. cc;
    evidence = λ needs. absurd needs;
    rests = λ needs. absurd needs;
    work = work;
    units = units;
    copies = All-nil (IsCopy t.problem (top_floor s) (shown_here s));
  }

  pub spent_on_offers : novel_in t pool parts ≡ budget → LastGoesOn t pool parts → IsProposal t pool s Offers (record { reply = Refused (Spent (record { budget = budget; parts = parts; copies = [] })); parts = parts; copies = [] })
  spent_on_offers all on = record {
    may = (sym most, (current, is_current));
    told = λ e. cc;
    evidence = λ needs. record { work = work; units = omega arith; stopped = inl on };
    rests = λ needs. (refl, refl);
    work = work;
    units = units;
    copies = All-nil (IsCopy t.problem (top_floor s) (shown_here s));
  }
