-- Loops over formulas, arguments, operands, steps, domains and values, as far as they have come.
use Rattle.std.proofs.Common.{◌≡◌, ℕ, Bool, List, [], ◌∷◌, ◌++◌, map, Result, Ok, Err, refl, sym, ap, subst, ◌∙◌, inl, inr}
use Rattle.alloy_lex.specs.declared.token.Place.{Place}
use Rattle.named_model.specs.Answers.{◌>>=◌}
use Rattle.named_model.specs.Phrase.{PhraseTree, PhraseTrees, no_phrases, more_phrases, phrases_of, LinkTree, LinkTrees, no_links, links_of, StepTree, StepTrees, no_steps, step_first, steps_of, DomainTree, DomainTrees, more_domains}
use Rattle.model_types.specs.declared.fault.TypeFault.{TypeFault}
use Rattle.model_types.specs.Bounding.{Lists, operator_type}
use Rattle.model_types.specs.Sorts.{Kind, first_place}
use Rattle.model_types.specs.Typing.{Local, Declared, Arguments, types_in, type_in, onto, formula_from, settled, formulas_settled, arguments_settled, links_settled, steps_settled, domains_settled, values_settled}
use Rattle.overload_resolution.specs.Names.Shared.{shared_among, shared_in_domains}
use Rattle.overload_resolution.specs.Names.Asking.{asks_in_links, asks_in_steps}
use Rattle.overload_resolution.specs.Settling.Inside.{AreSameWhere, AreAlikeWhere, AreAlikeBehind}
use Rattle.overload_resolution.specs.Settling.Same.{AreSameTypes, Asks}
use Rattle.overload_resolution.specs.Settling.Single.{link_first, Linked, link_settled, links_after, Stepped, step_settled, steps_after, type_behind, relation_settled, domain_settled, with_argument, entered}
use Rattle.overload_resolution.specs.Settling.Told.{IsTold}
use Rattle.overload_resolution.proofs.Settling.SharedDeclarations.{alike_then}
use Rattle.overload_resolution.proofs.Settling.SettledAlike.{behind_map, domains_alike, values_alike}
use Rattle.overload_resolution.proofs.Settling.Asking.{operands_alike, members_alike}
use Rattle.overload_resolution.proofs.Settling.OperandTurns.{link_turn, step_turn, argument_turn, value_turn, domain_turn}
use Rattle.overload_resolution.proofs.Settling.Reaching.{before_all, Reached, reached_more, reached_fault, reached_all, told_then, domain_first, phrases_are}

module _ (d : Declared) (ls : List Local) where
  -- ---- formulas

  abbrev pub FormulasLeft : PhraseTrees → PhraseTrees → List PhraseTree → Type 0
  FormulasLeft whole rest found = Reached more_phrases found (formulas_settled d ls rest) (formulas_settled d ls whole)

  pub formulas_more : (whole rest : PhraseTrees) (x y : PhraseTree) (found : List PhraseTree) → formula_from x (settled d ls [] x) ≡ Ok y → FormulasLeft whole (more_phrases x rest) found → FormulasLeft whole rest (found ++ y ∷ [])
  formulas_more whole rest x y found e before =
      reached_more more_phrases found y (formulas_settled d ls (more_phrases x rest)) (formulas_settled d ls rest) (formulas_settled d ls whole)
      (ap (λ r. r >>= λ z. formulas_settled d ls rest >>= λ zs. Ok (more_phrases z zs)) e) before

  pub formulas_fault : (whole rest : PhraseTrees) (x : PhraseTree) (found : List PhraseTree) (e : TypeFault) → IsTold e (formula_from x (settled d ls [] x)) → FormulasLeft whole (more_phrases x rest) found → IsTold e (formulas_settled d ls whole)
  formulas_fault whole rest x found e told before =
      reached_fault more_phrases found e (formulas_settled d ls (more_phrases x rest)) (formulas_settled d ls whole)
      (told_then e (formula_from x (settled d ls [] x)) (λ z. formulas_settled d ls rest >>= λ zs. Ok (more_phrases z zs)) (formulas_settled d ls (more_phrases x rest)) refl told) before

  pub formulas_all : (whole : PhraseTrees) (found : List PhraseTree) → FormulasLeft whole no_phrases found → formulas_settled d ls whole ≡ Ok (phrases_of found)
  formulas_all whole found before = reached_all more_phrases found no_phrases (Ok no_phrases) (formulas_settled d ls whole) refl before ∙ ap Ok (phrases_are found)

  -- ---- operands

  abbrev pub before_links : LinkTree → LinkTrees × Kind → LinkTrees × Kind
  before_links l zs = (link_first l zs.0, zs.1)

  abbrev pub OperandsLeft : Place → Result (LinkTrees × Kind) TypeFault → Kind → Lists → LinkTrees → List LinkTree → Type 0
  OperandsLeft left whole k a rest found = Reached before_links found (links_settled d ls left k a rest) whole

  pub operands_more : (asked : Bool) (left : Place) (whole : Result (LinkTrees × Kind) TypeFault) (k : Kind) (a b : Lists) (l : LinkTree) (rest : LinkTrees) (r : Linked) (found : List LinkTree)
      → link_settled d ls left k a l ≡ Ok r → AreSameWhere asked (operator_type r.link.operator a (type_in d ls r.link.operand)) b → Asks (asks_in_links rest) asked
      → OperandsLeft left whole k a (link_first l rest) found → OperandsLeft left whole r.kind b rest (found ++ r.link ∷ [])
  operands_more asked left whole k a b l rest r found e w q before =
      reached_more before_links found r.link (links_settled d ls left k a (link_first l rest)) (links_settled d ls left r.kind b rest) whole
      (link_turn d ls left k a l.operator l.place l.operand rest ∙ ap (λ c. c >>= links_after d ls left a rest) e
      ∙ ap (λ c. c >>= λ zs. Ok (link_first r.link zs.0, zs.1)) (operands_alike asked d ls left r.kind (operator_type r.link.operator a (type_in d ls r.link.operand)) b rest q w)) before

  pub operands_fault : (left : Place) (whole : Result (LinkTrees × Kind) TypeFault) (k : Kind) (a : Lists) (l : LinkTree) (rest : LinkTrees) (found : List LinkTree) (e : TypeFault)
      → IsTold e (link_settled d ls left k a l) → OperandsLeft left whole k a (link_first l rest) found → IsTold e whole
  operands_fault left whole k a l rest found e told before =
      reached_fault before_links found e (links_settled d ls left k a (link_first l rest)) whole
      (told_then e (link_settled d ls left k a l) (links_after d ls left a rest) (links_settled d ls left k a (link_first l rest)) (link_turn d ls left k a l.operator l.place l.operand rest) told) before

  links_are : (found : List LinkTree) (k : Kind) → before_all before_links found (no_links, k) ≡ (links_of found, k)
  links_are [] k = refl
  links_are (l ∷ found) k = ap (before_links l) (links_are found k)

  pub operands_all : (left : Place) (whole : Result (LinkTrees × Kind) TypeFault) (k : Kind) (a : Lists) (found : List LinkTree) → OperandsLeft left whole k a no_links found → whole ≡ Ok (links_of found, k)
  operands_all left whole k a found before = reached_all before_links found (no_links, k) (Ok (no_links, k)) whole refl before ∙ ap Ok (links_are found k)

  -- ---- steps

  abbrev pub before_steps : (StepTrees → StepTrees) → StepTrees × Kind → StepTrees × Kind
  before_steps f zs = (f zs.0, zs.1)

  abbrev pub StepsLeft : Place → Result (StepTrees × Kind) TypeFault → Kind → Lists → StepTrees → List (StepTrees → StepTrees) → Type 0
  StepsLeft left whole k a rest found = Reached before_steps found (steps_settled d ls left k a rest) whole

  pub steps_more : (asked : Bool) (left : Place) (whole : Result (StepTrees × Kind) TypeFault) (k : Kind) (a b : Lists) (s : StepTree) (rest : StepTrees) (r : Stepped) (found : List (StepTrees → StepTrees))
      → step_settled d ls left k a s ≡ Ok r → AreSameWhere asked (type_behind d ls a (r.before no_steps)) b → Asks (asks_in_steps rest) asked
      → StepsLeft left whole k a (step_first s rest) found → StepsLeft left whole r.kind b rest (found ++ r.before ∷ [])
  steps_more asked left whole k a b s rest r found e w q before =
      reached_more before_steps found r.before (steps_settled d ls left k a (step_first s rest)) (steps_settled d ls left r.kind b rest) whole
      (step_turn d ls left k a s rest ∙ ap (λ c. c >>= steps_after d ls left a rest) e
      ∙ ap (λ c. c >>= λ zs. Ok (r.before zs.0, zs.1)) (members_alike asked d ls left r.kind (type_behind d ls a (r.before no_steps)) b rest q w)) before

  pub steps_fault : (left : Place) (whole : Result (StepTrees × Kind) TypeFault) (k : Kind) (a : Lists) (s : StepTree) (rest : StepTrees) (found : List (StepTrees → StepTrees)) (e : TypeFault)
      → IsTold e (step_settled d ls left k a s) → StepsLeft left whole k a (step_first s rest) found → IsTold e whole
  steps_fault left whole k a s rest found e told before =
      reached_fault before_steps found e (steps_settled d ls left k a (step_first s rest)) whole
      (told_then e (step_settled d ls left k a s) (steps_after d ls left a rest) (steps_settled d ls left k a (step_first s rest)) (step_turn d ls left k a s rest) told) before

  steps_are : (found : List StepTree) (k : Kind) → before_all before_steps (map step_first found) (no_steps, k) ≡ (steps_of found, k)
  steps_are [] k = refl
  steps_are (s ∷ found) k = ap (before_steps (step_first s)) (steps_are found k)

  pub steps_all : (left : Place) (whole : Result (StepTrees × Kind) TypeFault) (k : Kind) (a : Lists) (found : List StepTree) → StepsLeft left whole k a no_steps (map step_first found) → whole ≡ Ok (steps_of found, k)
  steps_all left whole k a found before = reached_all before_steps (map step_first found) (no_steps, k) (Ok (no_steps, k)) whole refl before ∙ ap Ok (steps_are found k)

  -- ---- arguments

  abbrev pub before_arguments : (PhraseTree × ℕ) × Place → Arguments → Arguments
  before_arguments q ys = with_argument q.0 q.1 ys

  abbrev pub ArgumentsLeft : PhraseTrees → PhraseTrees → List ((PhraseTree × ℕ) × Place) → Type 0
  ArgumentsLeft whole rest found = Reached before_arguments found (arguments_settled d ls rest) (arguments_settled d ls whole)

  pub arguments_more : (whole rest : PhraseTrees) (x : PhraseTree) (r : PhraseTree × ℕ) (found : List ((PhraseTree × ℕ) × Place)) → relation_settled d ls x ≡ Ok r → ArgumentsLeft whole (more_phrases x rest) found → ArgumentsLeft whole rest (found ++ (r, first_place x) ∷ [])
  arguments_more whole rest x r found e before =
      reached_more before_arguments found (r, first_place x) (arguments_settled d ls (more_phrases x rest)) (arguments_settled d ls rest) (arguments_settled d ls whole)
      (argument_turn d ls x rest ∙ ap (λ c. c >>= λ q. arguments_settled d ls rest >>= λ ys. Ok (with_argument q (first_place x) ys)) e) before

  pub arguments_fault : (whole rest : PhraseTrees) (x : PhraseTree) (found : List ((PhraseTree × ℕ) × Place)) (e : TypeFault) → IsTold e (relation_settled d ls x) → ArgumentsLeft whole (more_phrases x rest) found → IsTold e (arguments_settled d ls whole)
  arguments_fault whole rest x found e told before =
      reached_fault before_arguments found e (arguments_settled d ls (more_phrases x rest)) (arguments_settled d ls whole)
      (told_then e (relation_settled d ls x) (λ q. arguments_settled d ls rest >>= λ ys. Ok (with_argument q (first_place x) ys)) (arguments_settled d ls (more_phrases x rest)) (argument_turn d ls x rest) told) before

  arguments_are : (found : List ((PhraseTree × ℕ) × Place)) → before_all before_arguments found (record { trees = no_phrases; arities = [] }) ≡ record { trees = phrases_of (map (λ q. q.0.0) found); arities = map (λ q. (q.0.1, q.1)) found }
  arguments_are [] = refl
  arguments_are (q ∷ found) = ap (before_arguments q) (arguments_are found)

  pub arguments_all : (whole : PhraseTrees) (found : List ((PhraseTree × ℕ) × Place)) → ArgumentsLeft whole no_phrases found
      → arguments_settled d ls whole ≡ Ok (record { trees = phrases_of (map (λ q. q.0.0) found); arities = map (λ q. (q.0.1, q.1)) found })
  arguments_all whole found before = reached_all before_arguments found (record { trees = no_phrases; arities = [] }) (Ok (record { trees = no_phrases; arities = [] })) (arguments_settled d ls whole) refl before ∙ ap Ok (arguments_are found)

-- ---- what enters local names

behind_trans : {T : Type 0} (asked : Bool) (r q w : Result (T × List Local) TypeFault) → AreAlikeBehind asked r q → AreAlikeBehind asked q w → AreAlikeBehind asked r w
behind_trans asked (Ok x) (Ok y) (Ok z) h k = (h.0 ∙ k.0, alike_then asked x.1 y.1 z.1 h.1 k.1)
behind_trans asked (Ok x) (Ok y) (Err f) h k = absurd k
behind_trans asked (Ok x) (Err e) w h k = absurd h
behind_trans asked (Err e) (Ok y) w h k = absurd h
behind_trans asked (Err e) (Err f) (Ok z) h k = absurd k
behind_trans asked (Err e) (Err f) (Err g) h k = h ∙ k

-- what is found in front of parts that enter local names, and what is left of the whole
abbrev pub ReachedBehind : {Y T : Type 0} → Bool → (Y → T → T) → List Y → Result (T × List Local) TypeFault → Result (T × List Local) TypeFault → Type 0
ReachedBehind asked cons found now whole = AreAlikeBehind asked (now >>= λ zs. Ok (before_all cons found zs.0, zs.1)) whole

abbrev in_front : {T : Type 0} → (T → T) → T × List Local → Result (T × List Local) TypeFault
in_front f zs = Ok (f zs.0, zs.1)

module _ {Y T : Type 0} (asked : Bool) (cons : Y → T → T) where
  before_last : (found : List Y) (y : Y) (t : T) → before_all cons (found ++ y ∷ []) t ≡ before_all cons found (cons y t)
  before_last [] y t = refl
  before_last (x ∷ found) y t = ap (cons x) (before_last found y t)

  -- one more, behind which local names are alike
  pub behind_more : (found : List Y) (y : Y) (now exact next whole : Result (T × List Local) TypeFault) → now ≡ (exact >>= in_front (cons y)) → AreAlikeBehind asked next exact
      → ReachedBehind asked cons found now whole → ReachedBehind asked cons (found ++ y ∷ []) next whole
  behind_more found y now exact next whole apart alike before =
      subst (λ r. AreAlikeBehind asked r whole) (sym (go next))
      (behind_trans asked (next >>= in_front (λ t. before_all cons found (cons y t))) (exact >>= in_front (λ t. before_all cons found (cons y t))) whole
      (behind_map asked next exact (λ t. before_all cons found (cons y t)) alike)
      (subst (λ r. AreAlikeBehind asked r whole) (ap (λ r. r >>= in_front (before_all cons found)) apart ∙ two exact) before))
    where
      go : (r : Result (T × List Local) TypeFault) → (r >>= in_front (before_all cons (found ++ y ∷ []))) ≡ (r >>= in_front (λ t. before_all cons found (cons y t)))
      go (Ok zs) = ap (λ t. Ok (t, zs.1)) (before_last found y zs.0)
      go (Err e) = refl

      two : (r : Result (T × List Local) TypeFault) → ((r >>= in_front (cons y)) >>= in_front (before_all cons found)) ≡ (r >>= in_front (λ t. before_all cons found (cons y t)))
      two (Ok zs) = refl
      two (Err e) = refl

  -- what is told of the rest is told of the whole
  pub behind_fault : (found : List Y) (e : TypeFault) (now whole : Result (T × List Local) TypeFault) → IsTold e now → ReachedBehind asked cons found now whole → IsTold e whole
  behind_fault found e now whole (inl memory) before = inl memory
  behind_fault found e now whole (inr fault) before =
      inr (go whole (subst (λ r. AreAlikeBehind asked (r >>= in_front (before_all cons found)) whole) fault before))
    where
      go : (w : Result (T × List Local) TypeFault) → AreAlikeBehind asked (Err e) w → w ≡ Err e
      go (Ok z) h = absurd h
      go (Err f) h = ap Err (sym h)

  -- the trees of the whole, and its local names
  pub behind_all : (found : List Y) (t : T) (new : List Local) (whole : Result (T × List Local) TypeFault) → ReachedBehind asked cons found (Ok (t, new)) whole
      → (behind : List Local) × (whole ≡ Ok (before_all cons found t, behind)) × AreAlikeWhere asked new behind
  behind_all found t new (Ok z) before = (z.1, ap (λ u. Ok (u, z.1)) (sym before.0), before.1)
  behind_all found t new (Err e) before = absurd before

module _ (asked : Bool) (d : Declared) (s : AreSameTypes (types_in d) (types_in d)) where
  abbrev pub DomainsLeft : Bool → Result (DomainTrees × List Local) TypeFault → List Local → DomainTrees → List DomainTree → Type 0
  DomainsLeft single whole now rest found = ReachedBehind asked domain_first found (domains_settled single d now rest) whole

  pub domains_more : (single : Bool) (whole : Result (DomainTrees × List Local) TypeFault) (now new : List Local) (x : DomainTree) (rest : DomainTrees) (r : PhraseTree × ℕ) (found : List DomainTree)
      → domain_settled single d now x.domain ≡ Ok r → AreAlikeWhere asked new (onto x.count (entered d now r) now) → Asks (shared_in_domains rest) asked
      → DomainsLeft single whole now (domain_first x rest) found → DomainsLeft single whole new rest (found ++ record { disjoint = x.disjoint; count = x.count; mark = x.mark; domain = r.0 } ∷ [])
  domains_more single whole now new x rest r found e w a before =
      behind_more asked domain_first found (record { disjoint = x.disjoint; count = x.count; mark = x.mark; domain = r.0 }) (domains_settled single d now (domain_first x rest)) (domains_settled single d (onto x.count (entered d now r) now) rest) (domains_settled single d new rest) whole
      (domain_turn d now single x.disjoint x.count x.mark x.domain rest ∙ ap (λ c. c >>= λ q. domains_settled single d (onto x.count (entered d now q) now) rest >>= λ zs. Ok (more_domains x.disjoint x.count x.mark q.0 zs.0, zs.1)) e)
      (domains_alike asked d s single new (onto x.count (entered d now r) now) w rest a) before

  pub domains_fault : (single : Bool) (whole : Result (DomainTrees × List Local) TypeFault) (now : List Local) (x : DomainTree) (rest : DomainTrees) (found : List DomainTree) (e : TypeFault)
      → IsTold e (domain_settled single d now x.domain) → DomainsLeft single whole now (domain_first x rest) found → IsTold e whole
  domains_fault single whole now x rest found e told before =
      behind_fault asked domain_first found e (domains_settled single d now (domain_first x rest)) whole
      (told_then e (domain_settled single d now x.domain) (λ q. domains_settled single d (onto x.count (entered d now q) now) rest >>= λ zs. Ok (more_domains x.disjoint x.count x.mark q.0 zs.0, zs.1)) (domains_settled single d now (domain_first x rest)) (domain_turn d now single x.disjoint x.count x.mark x.domain rest) told) before

  abbrev pub ValuesLeft : Result (PhraseTrees × List Local) TypeFault → List Local → PhraseTrees → List PhraseTree → Type 0
  ValuesLeft whole now rest found = ReachedBehind asked more_phrases found (values_settled d now rest) whole

  pub values_more : (whole : Result (PhraseTrees × List Local) TypeFault) (now new : List Local) (x : PhraseTree) (rest : PhraseTrees) (r : PhraseTree × ℕ) (found : List PhraseTree)
      → relation_settled d now x ≡ Ok r → AreAlikeWhere asked new (entered d now r ∷ now) → Asks (shared_among rest) asked
      → ValuesLeft whole now (more_phrases x rest) found → ValuesLeft whole new rest (found ++ r.0 ∷ [])
  values_more whole now new x rest r found e w a before =
      behind_more asked more_phrases found r.0 (values_settled d now (more_phrases x rest)) (values_settled d (entered d now r ∷ now) rest) (values_settled d new rest) whole
      (value_turn d now x rest ∙ ap (λ c. c >>= λ q. values_settled d (entered d now q ∷ now) rest >>= λ zs. Ok (more_phrases q.0 zs.0, zs.1)) e)
      (values_alike asked d s new (entered d now r ∷ now) w rest a) before

  pub values_fault : (whole : Result (PhraseTrees × List Local) TypeFault) (now : List Local) (x : PhraseTree) (rest : PhraseTrees) (found : List PhraseTree) (e : TypeFault)
      → IsTold e (relation_settled d now x) → ValuesLeft whole now (more_phrases x rest) found → IsTold e whole
  values_fault whole now x rest found e told before =
      behind_fault asked more_phrases found e (values_settled d now (more_phrases x rest)) whole
      (told_then e (relation_settled d now x) (λ q. values_settled d (entered d now q ∷ now) rest >>= λ zs. Ok (more_phrases q.0 zs.0, zs.1)) (values_settled d now (more_phrases x rest)) (value_turn d now x rest) told) before
