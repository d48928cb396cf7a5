-- What is told of the commands that are served is what is told of those on which sessions are.
use Rattle.std.proofs.Common.{◌≡◌, ◌+◌, ◌<◌, ◌++◌, ℕ, List, [], ◌∷◌, All, Contains, map, length, take, get_or, inl, inr, refl, sym, ap, subst, ◌∙◌, append_assoc, arith}
use Rattle.std.specs.Global.{Vec}
use Rattle.std.proofs.lemmas.List.{append-nil, take_more, length-take-le}
use Rattle.std.proofs.lemmas.List.Elements.{All-nil, All-cons, All-head, All-tail, All-contains}
use Rattle.rel_formula.proofs.Lists.{pairs_map}
use Rattle.rel_formula.proofs.OpenCells.{cons_cases, cons_first, cons_later, has_map}
use Rattle.named_model.specs.Model.{NamedTree}
use Rattle.script_format.specs.declared.entries.Script.{Script}
use Rattle.script_format.specs.declared.entries.ModelEntry.{ModelEntry}
use Rattle.script_format.specs.declared.entries.SessionEntry.{SessionEntry}
use Rattle.served_models.specs.declared.purposes.Purpose.TheVariants.{Lists}
use Rattle.served_models.specs.declared.commands.ServedCommand.{ServedCommand}
use Rattle.served_models.specs.Served.{IsAsked, IsProblemOf, AreMade, AreAllMade, AreUsed}
use Rattle.decision_reports.specs.Texts.{AreTexts}
use Rattle.explorer_cli.specs.CrewTexts.{IsBlockOn, AreBlocksOn, AreTextsFrom}
use Rattle.explorer_cli.specs.ServedCrews.{IsServedBlock, AreServable, AreServedBlocks, AreServedTexts}
use Rattle.explorer_cli.specs.Outcome.{WritesCrews}
use Rattle.explorer_cli.proofs.KeyedProblems.{AreSymmetric, made_servable}
use Rattle.explorer_cli.proofs.Usables.{usable_length}

-- ---- texts of models, one more

module _ {X : Type 0} (IsText : ℕ → ModelEntry → X → List ℕ → Type 0) where
  texts_push : (place here : ℕ) (entries : List ModelEntry) (models : List X) (entry : ModelEntry) (x : X) (text last : List ℕ) → here ≡ place + length entries
      → AreTextsFrom IsText place entries models text → IsText here entry x last → AreTextsFrom IsText place (entries ++ entry ∷ []) (models ++ x ∷ []) (text ++ last)
  texts_push place here [] [] entry x text last at are is =
      let same : here ≡ place = omega (arith, at) in
      (last, [], subst (λ (n : ℕ). IsText n entry x last) same is, refl, ap (λ (t : List ℕ). t ++ last) are ∙ sym (append-nil last))
  texts_push place here [] (y ∷ models) entry x text last at are is = absurd are
  texts_push place here (e ∷ entries) [] entry x text last at are is = absurd are
  texts_push place here (e ∷ entries) (y ∷ models) entry x text last at (first, rest, one, others, same) is =
      let next : here ≡ place + 1 + length entries = omega (arith, at) in
      (first, rest ++ last, one, texts_push (place + 1) here entries models entry x rest last next others is, ap (λ (t : List ℕ). t ++ last) same ∙ append_assoc first rest last)

  -- the turn of a loop over models
  pub texts_more : (entries : List ModelEntry) (models : List X) (i : ℕ) (entry : ModelEntry) (x : X) (old new last : List ℕ) → i < length entries → length models ≡ length entries
      → entry ≡ get_or entries i entry → x ≡ get_or models i x → new ≡ old ++ last
      → AreTextsFrom IsText 0 (take i entries) (take i models) old → IsText i entry x last → AreTextsFrom IsText 0 (take (i + 1) entries) (take (i + 1) models) new
  texts_more entries models i entry x old new last l count item there added are is =
      let inside : i < length models = omega (arith, l, count) in
      let more : take (i + 1) entries ≡ take i entries ++ entry ∷ [] = take_more entries i entry l ∙ ap (λ (e : ModelEntry). take i entries ++ e ∷ []) (sym item) in
      let others : take (i + 1) models ≡ take i models ++ x ∷ [] = take_more models i x inside ∙ ap (λ (y : X). take i models ++ y ∷ []) (sym there) in
      let long : i ≡ 0 + length (take i entries) = let e = length-take-le i entries (omega (arith, l)) in omega (arith, e) in
      let pushed = texts_push 0 i (take i entries) (take i models) entry x old last long are is in
      subst (λ (es : List ModelEntry). AreTextsFrom IsText 0 es (take (i + 1) models) new) (sym more)
      (subst (λ (xs : List X). AreTextsFrom IsText 0 (take i entries ++ entry ∷ []) xs new) (sym others)
      (subst (AreTextsFrom IsText 0 (take i entries ++ entry ∷ []) (take i models ++ x ∷ [])) (sym added) pushed))

-- ---- the commands of a model

abbrev number_of : ServedCommand → ℕ
number_of c = c.number

-- something in a list of images is the image of something
of_map : {X Y : Type 0} (f : X → Y) (xs : List X) (y : Y) → Contains (map f xs) y → (x : X) × Contains xs x × (f x ≡ y)
of_map f [] y in' = absurd (let l = in'.1 in omega arith)
of_map f (x ∷ xs) y in' = elim (cons_cases (f x) (map f xs) y in') [
  | inl same ↦ (x, cons_first x xs, same)
  | inr later ↦ let found = of_map f xs y later in (found.0, cons_later x xs found.0 found.1, found.2)
]

module _ (workers budget : ℕ) (sessions : List SessionEntry) where
  on_numbers : (name : List ℕ) (m : NamedTree) (made : List ServedCommand) (text : List ℕ) → All (λ (c : ServedCommand). IsProblemOf m c.number c.problem) made
      → AreTexts (IsServedBlock workers budget name) made text → AreTexts (IsBlockOn workers budget name m) (map number_of made) text
  on_numbers name m [] text are texts = texts
  on_numbers name m (c ∷ made) text are (first, rest, here, others, same) =
      let Is : ServedCommand → Type 0 = λ d. IsProblemOf m d.number d.problem in
      (first, rest, (c.problem, All-head Is c made are, here), on_numbers name m made rest (All-tail Is c made are) others, same)

  model_blocks : (place : ℕ) (entry : ModelEntry) (m : NamedTree) (made : Vec ServedCommand) (text : List ℕ) → AreMade Lists sessions place m made.items
      → AreServedBlocks workers budget place entry made text → AreBlocksOn workers budget sessions place entry m text
  model_blocks place entry m made text are texts = record {
    numbers = map number_of made.items;
    asked = λ n. (
      λ in'.
          let found = of_map number_of made.items n in' in
          let Asked : ServedCommand → Type 0 = λ c. IsAsked sessions place c.number in
          subst (IsAsked sessions place) found.2 (All-contains Asked made.items found.0 are.asked found.1),
      λ asked.
          let has = are.all n asked in
          subst (Contains (map number_of made.items)) has.2 (has_map number_of made.items has.0 has.1),
    );
    rising = pairs_map (λ (a b : ℕ). a < b) number_of made.items are.rising;
    blocks = on_numbers entry.name m made.items text are.each texts;
  }

  blocks_from : (place : ℕ) (entries : List ModelEntry) (ms : List NamedTree) (models : List (Vec ServedCommand)) (text : List ℕ) → AreAllMade Lists sessions place ms models
      → AreTextsFrom (AreServedBlocks workers budget) place entries models text → AreTextsFrom (AreBlocksOn workers budget sessions) place entries ms text
  blocks_from place [] [] [] text are texts = texts
  blocks_from place [] [] (x ∷ xs) text are texts = absurd are
  blocks_from place [] (m ∷ ms) [] text are texts = absurd are
  blocks_from place [] (m ∷ ms) (x ∷ xs) text are texts = absurd texts
  blocks_from place (e ∷ es) [] [] text are texts = absurd texts
  blocks_from place (e ∷ es) [] (x ∷ xs) text are texts = absurd are
  blocks_from place (e ∷ es) (m ∷ ms) [] text are texts = absurd are
  blocks_from place (e ∷ es) (m ∷ ms) (x ∷ xs) text are (first, rest, here, others, same) =
      (first, rest, model_blocks place e m x first are.0 here, blocks_from (place + 1) es ms xs rest are.1 others, same)

-- ---- what was found of a script's models

-- each command has a problem that can be translated
all_made_servable : AreSymmetric → (sessions : List SessionEntry) (place : ℕ) (ms : List NamedTree) (models : List (Vec ServedCommand)) → AreAllMade Lists sessions place ms models → All AreServable models
all_made_servable symmetric sessions place [] [] are = All-nil AreServable
all_made_servable symmetric sessions place [] (x ∷ xs) are = absurd are
all_made_servable symmetric sessions place (m ∷ ms) [] are = absurd are
all_made_servable symmetric sessions place (m ∷ ms) (x ∷ xs) are =
    All-cons AreServable x xs (made_servable Lists sessions symmetric place m x.items are.0) (all_made_servable symmetric sessions (place + 1) ms xs are.1)

made_length : (sessions : List SessionEntry) (place : ℕ) (ms : List NamedTree) (models : List (Vec ServedCommand)) → AreAllMade Lists sessions place ms models → length models ≡ length ms
made_length sessions place [] [] are = refl
made_length sessions place [] (x ∷ xs) are = absurd are
made_length sessions place (m ∷ ms) [] are = absurd are
made_length sessions place (m ∷ ms) (x ∷ xs) are = let e = made_length sessions (place + 1) ms xs are.1 in omega (arith, e)

module _ (sessions : List SessionEntry) (entries : List ModelEntry) (models : List (Vec ServedCommand)) (used : AreUsed Lists sessions entries models) where
  pub each_servable : AreSymmetric → All AreServable models
  each_servable symmetric = all_made_servable symmetric sessions 0 used.0 models used.2

  pub as_many_models : length models ≡ length entries
  as_many_models = made_length sessions 0 used.0 models used.2 ∙ usable_length Lists sessions 0 entries used.0 used.1

  pub crews_of : (workers budget : ℕ) (s : Script) (text : List ℕ) → sessions ≡ s.sessions → entries ≡ s.models → AreServedTexts workers budget entries models text → WritesCrews workers budget s text
  crews_of workers budget s text e f told =
      let is = subst (λ (xs : List SessionEntry). AreUsed Lists xs entries models) e used in
      let whole = subst (λ (es : List ModelEntry). AreUsed Lists s.sessions es models) f is in
      let texts = subst (λ (es : List ModelEntry). AreTextsFrom (AreServedBlocks workers budget) 0 es models text) f told.0 in
      (whole.0, whole.1, (blocks_from workers budget s.sessions 0 s.models whole.0 models text whole.2 texts, told.1))
