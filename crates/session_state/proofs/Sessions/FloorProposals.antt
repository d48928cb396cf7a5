-- What the search for a floor comes to makes a proposal.
use Rattle.std.proofs.Common.{◌≡◌, ◌≤◌, ◌<◌, ◌+◌, inl, inr, ℕ, Bool, List, [], ◌∷◌, ◌++◌, length, refl, sym, subst, ap, arith}
use Rattle.std.proofs.lemmas.List.Elements.{All-nil, All-cons, All-contains}
use Rattle.std.proofs.lemmas.List.Sums.{sum_by-cons}
use Rattle.cnf_core.specs.declared.literal.Lit.{Lit}
use Rattle.refutation_check.specs.declared.log.Step.{Step as LogStep}
use Rattle.refutation_check.specs.Part.{Parted}
use Rattle.refutation_check.specs.SearchLog.{IsSearchLog, IsAllNovel, novel_steps}
use Rattle.refutation_check.proofs.Novelty.{novel_at_most, novel_all}
use Rattle.rel_formula.specs.Bounds.{Bounded, cells_of}
use Rattle.rel_formula.specs.Instance.{AreCells, with_cell}
use Rattle.rel_formula.proofs.WithCell.{with_cell_has, all_of}
use Rattle.translation_rules.specs.Translation.{Translated}
use Rattle.translation_rules.specs.Locals.{units_of}
use Rattle.translation_rules.specs.Offers.{IsPossible}
use Rattle.translation_rules.specs.Parts.{AreSearched, GoesOn, given_to, novel_in}
use Rattle.session_words.specs.declared.atom_names.AtomName.{AtomName}
use Rattle.session_words.specs.declared.steps.Step.TheVariants.{Augment}
use Rattle.session_rules.specs.ProofOfEnd.{ProofOfEnd}
use Rattle.session_rules.specs.States.{State, top_floor, shown_here}
use Rattle.session_rules.specs.Steps.{AsksFor}
use Rattle.session_rules.specs.Proofs.{IsCopy, RefutesWith}
use Rattle.session_rules.specs.Work.{IsWork, TriesFloor, units_in}
use Rattle.session_rules.specs.declared.answers.Refusal.TheVariants.{NoInstance, Spent}
use Rattle.session_rules.specs.declared.answers.Reply.TheVariants.{Augmented, Refused}
use Rattle.augmenter.specs.Search.{IsSearchFor, GivesInstance}
use Rattle.session_state.specs.Sessions.Proposed.{IsProposal}

-- the numbers of cells with that of one cell more are those of cells
pub cells_with : (p : Bounded) (cell : ℕ) (current : List ℕ) → AreCells p current → cell < length (cells_of p) → AreCells p (with_cell cell current)
cells_with p cell current cells below =
    all_of (λ n. n < length (cells_of p)) (with_cell cell current) (λ n c. elim ((with_cell_has cell current n).0 c) [
      | inl old ↦ All-contains (λ n. n < length (cells_of p)) current n cells old
      | inr same ↦ subst (λ n. n < length (cells_of p)) (sym same) below
    ])

module _ (t : Translated) (pool : List LogStep) (s : State) (name : List ℕ) (names : List AtomName) (floor : List ℕ) (budget : ℕ) (part : Parted)
    (asked : AsksFor t.problem s name names floor) (most : s.budget ≡ budget) (search : IsSearchFor t pool floor budget part) where
  searched : AreSearched t pool (part ∷ [])
  searched = All-cons (λ (x : Parted). IsSearchLog (given_to t pool x) x.log) part [] search.searched (All-nil (λ (x : Parted). IsSearchLog (given_to t pool x) x.log))

  work : IsWork t pool s (Augment name names) (part ∷ []) []
  work = record {
    searched = searched;
    work = (
      record {
        few = omega arith;
        each = All-cons (TriesFloor t.problem s name names) part [] (record { floor = floor; asked = asked; local = search.local }) (All-nil (TriesFloor t.problem s name names));
      },
      refl,
    );
  }

  counted : novel_in t pool (part ∷ []) ≡ novel_steps (given_to t pool part) part.log
  counted =
      let more : novel_in t pool (part ∷ []) ≡ novel_steps (given_to t pool part) part.log + novel_in t pool [] = sum_by-cons (λ (x : Parted). novel_steps (given_to t pool x) x.log) part [] in
      let none : novel_in t pool [] ≡ 0 = refl in
      omega arith

  units : units_in t pool (part ∷ []) [] ≤ s.budget
  units =
      let one = counted in
      let most_steps : novel_steps (given_to t pool part) part.log ≤ length part.log = novel_at_most (given_to t pool part) part.log in
      let few = search.few in
      omega arith

  pub goes_up : (valuation : List Bool) → length s.above < 64 → GivesInstance t.problem floor valuation → IsProposal t pool s (Augment name names) (record { reply = Augmented floor; parts = part ∷ []; copies = [] })
  goes_up valuation room gives = record {
    may = record { asked = asked; room = room; possible = record { instance = gives.instance; instance_of = gives.instance_of; has = gives.has } };
    told = λ e. cc;
    evidence = λ needs. absurd needs;
    rests = λ needs. absurd needs;
    work = work;
    units = units;
    copies = All-nil (IsCopy t.problem (top_floor s) (shown_here s));
  }

  -- the search ends with the empty clause
  pub goes_nowhere : (proof : ProofOfEnd) → length s.above < 64 → ¬ IsPossible t.problem floor → RefutesWith t part.local (record { imported = length pool; blocked = []; pool = pool; log = part.log }) →
      proof ≡ record { imported = length pool; blocked = []; pool = pool; log = part.log } →
      IsProposal t pool s (Augment name names) (record { reply = Refused (NoInstance proof); parts = part ∷ []; copies = [] })
  goes_nowhere proof room impossible refutes is =
      let made : ProofOfEnd = record { imported = length pool; blocked = []; pool = pool; log = part.log } in
      let proves : RefutesWith t (units_of floor) made = subst (λ (local : List (List Lit)). RefutesWith t local made) search.local refutes in
      let last : Parted = record { local = units_of floor; log = part.log } in
      let part_is : part ≡ last = subst (λ (local : List (List Lit)). part ≡ record { local = local; log = part.log }) search.local refl in
      let parts_are : part ∷ [] ≡ [] ++ last ∷ [] = ap (λ (x : Parted). x ∷ []) part_is in
      subst (λ (proof : ProofOfEnd). IsProposal t pool s (Augment name names) (record { reply = Refused (NoInstance proof); parts = part ∷ []; copies = [] })) (sym is) (record {
        may = record { floor = floor; asked = asked; room = room; impossible = impossible };
        told = λ e. cc;
        evidence = λ needs. (floor, asked, record { imports = refl; proves = proves; none_blocked = refl });
        rests = λ needs. (floor, asked, record { before = []; parts_are = parts_are });
        work = work;
        units = units;
        copies = All-nil (IsCopy t.problem (top_floor s) (shown_here s));
      })

  pub spent_on_floor : length s.above < 64 → length part.log ≡ budget → IsAllNovel (given_to t pool part) part.log → GoesOn t pool part →
      IsProposal t pool s (Augment name names) (record { reply = Refused (Spent (record { budget = budget; parts = part ∷ []; copies = [] })); parts = part ∷ []; copies = [] })
  spent_on_floor room all novel on = record {
    may = (sym most, (floor, asked, room));
    told = λ e. cc;
    evidence = λ needs. record {
      work = work;
      units = let one = counted in let each : novel_steps (given_to t pool part) part.log ≡ length part.log = novel_all (given_to t pool part) part.log novel in omega arith;
      stopped = inl (record { before = []; last = part; in_order = refl; goes_on = on });
    };
    rests = λ needs. (refl, refl);
    work = work;
    units = units;
    copies = All-nil (IsCopy t.problem (top_floor s) (shown_here s));
  }
