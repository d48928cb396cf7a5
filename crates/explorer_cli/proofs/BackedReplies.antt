-- Replies with what stands behind them: the state in which each was given, over the session's translation.
use Rattle.std.proofs.Common.{◌≡◌, ◌≤◌, ◌∙◌, ◌++◌, ℕ, zero, suc, Bool, true, false, if◌then◌else◌, List, [], ◌∷◌, length, Some, slice_get, All, IsTrue, refl, sym, subst, arith}
use Rattle.std.specs.List.{AllZip}
use Rattle.std.proofs.lemmas.List.Elements.{All-nil, All-cons, All-append, All-contains}
use Rattle.cnf_core.specs.declared.literal.Lit.{Lit}
use Rattle.cnf_core.specs.Valuation.{Satisfies}
use Rattle.refutation_check.specs.declared.log.Step.{Step as LogStep}
use Rattle.refutation_check.specs.Chain.{IsRefutation}
use Rattle.refutation_check.specs.WrittenProof.{proof_text}
use Rattle.translation_rules.specs.Translation.{Translated}
use Rattle.session_words.specs.declared.steps.Step.{Step}
use Rattle.session_words.specs.declared.steps.Step.TheVariants as step
use Rattle.session_words.specs.declared.commands.Command.{Command}
use Rattle.session_words.specs.declared.commands.Command.TheVariants as command
use Rattle.session_rules.specs.ProofOfEnd.{ProofOfEnd}
use Rattle.session_rules.specs.States.{State, EndedAt, top_floor, has_ended, HasEndedWith, after}
use Rattle.session_rules.specs.Steps.{MayAnswer, Exchange, MachineRun, state_after}
use Rattle.session_rules.specs.Transcripts.{showings, Serves, IsTranscript}
use Rattle.session_rules.specs.Proofs.{Proves, locals_for}
use Rattle.session_rules.specs.Evidence.{NeedsEvidence, HasEvidence, IsSpentOn}
use Rattle.hub_state.specs.Journal.Journal.{IsPool}
use Rattle.hub_turns.specs.Backed.{AreBacked}
use Rattle.session_rules.specs.declared.end_proof.ProofKind.TheVariants.{End}
use Rattle.session_rules.specs.declared.answers.WorkDone.{WorkDone}
use Rattle.session_rules.specs.declared.answers.Refusal.TheVariants.{Spent}
use Rattle.session_rules.specs.declared.answers.Reply.{Reply}
use Rattle.session_rules.specs.declared.answers.Reply.TheVariants as reply
use Rattle.script_text.specs.Printed.{Printed, proved, printed, all_printed}
use Rattle.script_text.specs.Proofs.Printed.{clauses_of_proof, log_of_proof, IsAcceptedText, IsCheckable}
use Rattle.script_text.specs.Replies.{PrintsCheckableProof}
use Rattle.explorer_cli.specs.Shown.{IsReplyAt}
use Rattle.explorer_cli.proofs.ShowingReplies.{top_showings}

same_reply : (x y : Reply) → Some x ≡ Some y → x ≡ y
same_reply x y e = cc

same_floor : (x y : List ℕ) → Some x ≡ Some y → x ≡ y
same_floor x y e = cc

same_printed : (x y : Printed) → Some x ≡ Some y → x ≡ y
same_printed x y e = cc

not_false : (b : Bool) → b ≡ false → IsTrue b → ⊥
not_false b e is = grind arith

module _ (t : Translated) where
  -- the proof of a floor that has ended is over the translation
  abbrev pub IsProved : EndedAt → Type 0
  IsProved x = Proves t x.floor End x.proof

  -- one run after the other
  pub backed_apart : (s : State) (xs ys : List Exchange) → AreBacked t s (xs ++ ys) → AreBacked t s xs × AreBacked t (state_after s xs) ys
  backed_apart s [] ys backed = (tt, backed)
  backed_apart s (x ∷ xs) ys backed = let rest = backed_apart (after s x.reply) xs ys backed.1 in ((backed.0, rest.0), rest.1)

  abbrev ended_by : State → ProofOfEnd → State
  ended_by s proof = record s { ended = s.ended ++ record { floor = top_floor s; proof = proof } ∷ [] }

  -- an end makes a proof where the floor had not ended
  new_proof : (pool : List LogStep) (s : State) (x : Step) (number : ℕ) (proof : ProofOfEnd) → MayAnswer t.problem s x (reply.End number proof) → HasEvidence t pool s x (reply.End number proof) → Proves t (top_floor s) End proof
  new_proof pool s step.Next number proof may e = e.proves
  new_proof pool s step.Offers number proof may e = absurd may
  new_proof pool s (step.Augment name names) number proof may e = absurd may
  new_proof pool s step.Back number proof may e = absurd may
  new_proof pool s (step.Budget budget) number proof may e = absurd may
  new_proof pool s step.Proof number proof may e = absurd may

  proofs_after : (s : State) (x : Step) (r : Reply) → MayAnswer t.problem s x r → (NeedsEvidence s r → (pool : List LogStep) × IsPool t pool × HasEvidence t pool s x r) → All IsProved s.ended → All IsProved (after s r).ended
  proofs_after s x (reply.End number proof) may evidence all =
      let at : EndedAt = record { floor = top_floor s; proof = proof } in
      let go : (b : Bool) → has_ended (top_floor s) s ≡ b → All IsProved (if b then s else ended_by s proof).ended =
      λ b. elim b as (λ b. has_ended (top_floor s) s ≡ b → All IsProved (if b then s else ended_by s proof).ended) [
        | true ↦ λ e. all
        | false ↦ λ e.
            let own = evidence (λ is. not_false (has_ended (top_floor s) s) e is) in
            let new = new_proof own.0 s x number proof may own.2 in
            All-append IsProved s.ended (at ∷ []) all (All-cons IsProved at [] new (All-nil IsProved))
      ] in
      go (has_ended (top_floor s) s) refl
  proofs_after s x (reply.Shown number scenario) may evidence all = all
  proofs_after s x (reply.Offers cells) may evidence all = all
  proofs_after s x (reply.Augmented floor) may evidence all = all
  proofs_after s x reply.Back may evidence all = all
  proofs_after s x (reply.BudgetSet budget) may evidence all = all
  proofs_after s x (reply.All scenarios) may evidence all = all
  proofs_after s x (reply.Partly first scenarios) may evidence all = all
  proofs_after s x (reply.Proof proof) may evidence all = all
  proofs_after s x (reply.Refused refusal) may evidence all = all
  proofs_after s x reply.Memory may evidence all = all

  proofs_run : (s : State) (xs : List Exchange) → MachineRun t.problem s xs → AreBacked t s xs → All IsProved s.ended → All IsProved (state_after s xs).ended
  proofs_run s [] run backed all = all
  proofs_run s (x ∷ xs) run backed all = proofs_run (after s x.reply) xs run.1 backed.1 (proofs_after s x.step x.reply run.0 backed.0 all)

  -- the reply was given in a state whose proofs are over the translation, and has its evidence there
  pub record IsBackedIn (r : Reply) (f : List ℕ) : Type 0 where
    pub state : State
    pub floor_is : top_floor state ≡ f
    pub command : Command
    pub exchanges : List Exchange
    pub serves : Serves t.problem state command r exchanges
    pub backed : AreBacked t state exchanges
    pub proofs : All IsProved state.ended

  pub backed_at : (old : State) (cs : List Command) (rs : List Reply) (fs : List (List ℕ)) (xs : List Exchange) → IsTranscript t.problem old cs rs fs xs → AreBacked t old xs → All IsProved old.ended
      → (place : ℕ) (r : Reply) (f : List ℕ) → IsReplyAt rs fs place r f → IsBackedIn r f
  backed_at old [] [] [] xs h backed all place r f at = absurd (let e = at.0 in cc)
  backed_at old [] [] (g ∷ fs) xs h backed all place r f at = absurd h
  backed_at old [] (y ∷ rs) fs xs h backed all place r f at = absurd h
  backed_at old (c ∷ cs) [] fs xs h backed all place r f at = absurd h
  backed_at old (c ∷ cs) (y ∷ rs) [] xs h backed all place r f at = absurd h
  backed_at old (c ∷ cs) (y ∷ rs) (g ∷ fs) xs (here, later, joined, floor, serves, rest) backed all zero r f at =
      let both = backed_apart old here later (subst (AreBacked t old) joined backed) in
      record {
        state = old;
        floor_is = sym floor ∙ same_floor g f at.1;
        command = c;
        exchanges = here;
        serves = subst (λ (z : Reply). Serves t.problem old c z here) (same_reply y r at.0) serves;
        backed = both.0;
        proofs = all;
      }
  backed_at old (c ∷ cs) (y ∷ rs) (g ∷ fs) xs (here, later, joined, floor, serves, rest) backed all (suc n) r f at =
      let both = backed_apart old here later (subst (AreBacked t old) joined backed) in
      backed_at (state_after old here) cs rs fs later rest both.1 (proofs_run old here serves.run both.0 all) n r f at

  -- ---- proofs that are asked for

  asked_proof : (s : State) (x : Step) (proof : ProofOfEnd) → MayAnswer t.problem s x (reply.Proof proof) → HasEndedWith s proof
  asked_proof s step.Next proof may = absurd may
  asked_proof s step.Offers proof may = absurd may
  asked_proof s (step.Augment name names) proof may = absurd may
  asked_proof s step.Back proof may = absurd may
  asked_proof s (step.Budget budget) proof may = absurd may
  asked_proof s step.Proof proof may = may

  right_in : (s : State) (c : Command) (proof : ProofOfEnd) (xs : List Exchange) → Serves t.problem s c (reply.Proof proof) xs → All IsProved s.ended → Proves t (top_floor s) End proof
  right_in s (command.Step x) proof xs h all =
      let run = subst (MachineRun t.problem s) h.read h.run in
      All-contains IsProved s.ended (record { floor = top_floor s; proof = proof }) all (asked_proof s x proof run.0)
  right_in s (command.All n) proof xs h all = absurd h.read

  pub right_proof : (proof : ProofOfEnd) (f : List ℕ) → IsBackedIn (reply.Proof proof) f → Proves t f End proof
  right_proof proof f b = subst (λ (g : List ℕ). Proves t g End proof) b.floor_is (right_in b.state b.command proof b.exchanges b.serves b.proofs)

  -- ---- budgets that are spent

  -- the work of a step at this floor, over steps that rest on the translation alone
  abbrev pub WasSpent : WorkDone → List ℕ → Type 0
  WasSpent done f = (old : State) × (x : Step) × (pool : List LogStep) × (top_floor old ≡ f) × IsPool t pool × IsSpentOn t pool old x done

  spent_in : (s : State) (c : Command) (done : WorkDone) (xs : List Exchange) → Serves t.problem s c (reply.Refused (Spent done)) xs → AreBacked t s xs → WasSpent done (top_floor s)
  spent_in s (command.Step x) done xs h backed = let one = subst (AreBacked t s) h.read backed in let own = one.0 tt in (s, x, own.0, refl, own.1, own.2)
  spent_in s (command.All n) done xs h backed =
      let last : Exchange = record { step = step.Next; reply = reply.Refused (Spent done) } in
      let before = showings h.read.first h.read.scenarios in
      let both = backed_apart s before (last ∷ []) (subst (AreBacked t s) h.read.exchanges backed) in
      let own = both.1.0 tt in
      (state_after s before, step.Next, own.0, top_showings s h.read.first h.read.scenarios, own.1, own.2)

  pub spent_at : (done : WorkDone) (f : List ℕ) → IsBackedIn (reply.Refused (Spent done)) f → WasSpent done f
  spent_at done f b = subst (WasSpent done) b.floor_is (spent_in b.state b.command done b.exchanges b.serves b.backed)

  -- ---- what is printed at a place

  pub record IsPrintedAt (rs : List Reply) (fs : List (List ℕ)) (place : ℕ) (q : Printed) : Type 0 where
    pub reply : Reply
    pub floor : List ℕ
    pub at : IsReplyAt rs fs place reply floor
    pub is : printed t floor reply ≡ q

  pub printed_at : (fs : List (List ℕ)) (rs : List Reply) (place : ℕ) (q : Printed) → slice_get (all_printed t fs rs) place ≡ Some q → IsPrintedAt rs fs place q
  printed_at fs [] place q e = absurd (cc)
  printed_at [] (r ∷ rs) place q e = absurd (cc)
  printed_at (f ∷ fs) (r ∷ rs) zero q e = record { reply = r; floor = f; at = (refl, refl); is = same_printed (printed t f r) q e }
  printed_at (f ∷ fs) (r ∷ rs) (suc n) q e = let h = printed_at fs rs n q e in record { reply = h.reply; floor = h.floor; at = h.at; is = h.is }

  same_clauses : (cs ds : List (List Lit)) (ss ts : List LogStep) → proved cs ss ≡ proved ds ts → cs ≡ ds
  same_clauses cs ds ss ts e = cc

  same_steps : (cs ds : List (List Lit)) (ss ts : List LogStep) → proved cs ss ≡ proved ds ts → ss ≡ ts
  same_steps cs ds ss ts e = cc

  -- a proof that is printed
  pub record IsPrintedProof (f : List ℕ) (r : Reply) (clauses : List (List Lit)) (log : List LogStep) : Type 0 where
    pub proof : ProofOfEnd
    pub reply_is : r ≡ reply.Proof proof
    pub clauses_are : clauses_of_proof t f End proof ≡ clauses
    pub log_is : log_of_proof t f End proof ≡ log

  pub printed_proof : (f : List ℕ) (r : Reply) (clauses : List (List Lit)) (log : List LogStep) → printed t f r ≡ proved clauses log → IsPrintedProof f r clauses log
  printed_proof f (reply.Proof proof) clauses log e = record {
    proof = proof;
    reply_is = refl;
    clauses_are = same_clauses (clauses_of_proof t f End proof) clauses (log_of_proof t f End proof) log e;
    log_is = same_steps (clauses_of_proof t f End proof) clauses (log_of_proof t f End proof) log e;
  }
  printed_proof f (reply.Shown number scenario) clauses log e = absurd (cc)
  printed_proof f (reply.End number proof) clauses log e = absurd (cc)
  printed_proof f (reply.Offers cells) clauses log e = absurd (cc)
  printed_proof f (reply.Augmented above) clauses log e = absurd (cc)
  printed_proof f reply.Back clauses log e = absurd (cc)
  printed_proof f (reply.BudgetSet budget) clauses log e = absurd (cc)
  printed_proof f (reply.All scenarios) clauses log e = absurd (cc)
  printed_proof f (reply.Partly first scenarios) clauses log e = absurd (cc)
  printed_proof f (reply.Refused refusal) clauses log e = absurd (cc)
  printed_proof f reply.Memory clauses log e = absurd (cc)

  checkable_at : (fs : List (List ℕ)) (rs : List Reply) (place : ℕ) (r : Reply) (f : List ℕ) → AllZip (PrintsCheckableProof t) fs rs → IsReplyAt rs fs place r f → PrintsCheckableProof t f r
  checkable_at [] rs place r f zip at = absurd (let e = at.1 in cc)
  checkable_at (g ∷ fs) [] place r f zip at = absurd zip
  checkable_at (g ∷ fs) (y ∷ rs) zero r f zip at = subst (λ (h : List ℕ). PrintsCheckableProof t h r) (same_floor g f at.1) (subst (PrintsCheckableProof t g) (same_reply y r at.0) zip.0)
  checkable_at (g ∷ fs) (y ∷ rs) (suc n) r f zip at = checkable_at fs rs n r f zip.1 at

  -- what a printed proof shows
  abbrev pub IsRightProof : List (List Lit) → List LogStep → Type 0
  IsRightProof clauses log =
      IsRefutation clauses log × ((v : ℕ → Bool) → ¬ Satisfies v clauses) × ((local : List (List Lit)) × (clauses ≡ t.cnf.clauses ++ local))
      × (length (proof_text clauses log) ≤ 268435456 → IsAcceptedText (proof_text clauses log))

  right_text : ((clauses : List (List Lit)) (steps : List LogStep) → IsRefutation clauses steps → (v : ℕ → Bool) → ¬ Satisfies v clauses) → (f : List ℕ) (proof : ProofOfEnd) → Proves t f End proof → IsCheckable t f End proof
      → IsRightProof (clauses_of_proof t f End proof) (log_of_proof t f End proof)
  right_text refuted f proof proves checkable =
      (proves.refutation, refuted (clauses_of_proof t f End proof) (log_of_proof t f End proof) proves.refutation, (locals_for t f End proof.blocked, refl), checkable.accepted)

  pub right_print : ((clauses : List (List Lit)) (steps : List LogStep) → IsRefutation clauses steps → (v : ℕ → Bool) → ¬ Satisfies v clauses) → (old : State) (cs : List Command) (rs : List Reply) (fs : List (List ℕ)) (xs : List Exchange)
      → IsTranscript t.problem old cs rs fs xs → AreBacked t old xs → All IsProved old.ended → AllZip (PrintsCheckableProof t) fs rs
      → (place : ℕ) (clauses : List (List Lit)) (log : List LogStep) → IsPrintedAt rs fs place (proved clauses log) → IsRightProof clauses log
  right_print refuted old cs rs fs xs run backed all checkable place clauses log h =
      let is = printed_proof h.floor h.reply clauses log h.is in
      let at : IsReplyAt rs fs place (reply.Proof is.proof) h.floor = subst (λ (r : Reply). IsReplyAt rs fs place r h.floor) is.reply_is h.at in
      let proves = right_proof is.proof h.floor (backed_at old cs rs fs xs run backed all place (reply.Proof is.proof) h.floor at) in
      let right = right_text refuted h.floor is.proof proves (checkable_at fs rs place (reply.Proof is.proof) h.floor checkable at) in
      subst (λ (ss : List LogStep). IsRightProof clauses ss) is.log_is (subst (λ (ks : List (List Lit)). IsRightProof ks (log_of_proof t h.floor End is.proof)) is.clauses_are right)
