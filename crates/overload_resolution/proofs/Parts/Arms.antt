-- Arms of functions: calls, heads behind an argument, the argument that a head asks for, and joins.
use Rattle.std.proofs.Common.{◌≡◌, ℕ, Bool, true, false, List, Option, Some, None, Result, Ok, Err, refl, sym, ap, ◌∙◌, if◌then◌else◌}
use Rattle.std.specs.List.{slice_get}
use Rattle.std.specs.Option.{option_map}
use Rattle.alloy_lex.specs.declared.token.Place.{Place}
use Rattle.named_model.specs.Answers.{◌>>=◌}
use Rattle.named_model.specs.declared.phrase.Phrase.{Phrase}
use Rattle.named_model.specs.Phrase.{PhraseTree, called, PhraseTrees, StepTrees, join_first, brackets_first}
use Rattle.named_model.specs.View.{phrase_view}
use Rattle.model_types.specs.declared.fault.TypeFault.{TypeFault}
use Rattle.model_types.specs.Bounding.{Lists}
use Rattle.model_types.specs.Sorts as sorts
use Rattle.model_types.specs.Typing.{Declared, Local, Arguments, type_in, is_shared, ends_of, call_kind, settled, arguments_settled}
use Rattle.model_types.specs.declared.part_sorts.kinds.Kind.{Kind}
use Rattle.model_types.specs.Bounds.Same.{AreSame}
use Rattle.overload_resolution.specs.Fields.Alike.{AreAlike}
use Rattle.overload_resolution.specs.declared.shared_names.headers.Header.{Header}
use Rattle.overload_resolution.specs.Names.Headers.{with_type}
use Rattle.overload_resolution.specs.Settling.Single.{argument_first, argument_before, argument_asked, tops_of}
use Rattle.overload_resolution.specs.declared.typed_scopes.setting.Setting.{Setting}
use Rattle.overload_resolution.specs.Scopes.Declaring.{types_by, declared_by}
use Rattle.overload_resolution.specs.Scopes.Given.{settled_view}
use Rattle.overload_resolution.proofs.Parts.PathHeads.{settled_by}

-- ---- calls

module _ (s : Setting) (ls : List Local) (tops : List ℕ) (p : Place) (n : ℕ) (xs : PhraseTrees) (ys : Arguments) (are : arguments_settled (declared_by s) ls xs ≡ Ok ys) where
  called_apart : settled (declared_by s) ls tops (called p n xs) ≡ (call_kind p ((declared_by s).callee n) ys.arities >>= λ m. Ok (record { tree = called p n ys.trees; kind = m }))
  called_apart = ap (λ r. r >>= λ (zs : Arguments). call_kind p ((declared_by s).callee n) zs.arities >>= λ m. Ok (record { tree = called p n zs.trees; kind = m })) are

  -- whatever type the call has
  module _ (header : Option Header) (there : header ≡ slice_get s.headers.items n) (answer : Result sorts.Kind TypeFault)
      (is : (type : List Lists → Lists) → answer ≡ call_kind p (option_map (with_type type) header) ys.arities) where
    kind_is : answer ≡ call_kind p ((declared_by s).callee n) ys.arities
    kind_is = is ((types_by s).calls n) ∙ ap (λ (h : Option Header). call_kind p (option_map (with_type ((types_by s).calls n)) h) ys.arities) there

    pub called_fault : (e : TypeFault) → answer ≡ Err e → settled (declared_by s) ls tops (called p n xs) ≡ Err e
    called_fault e fault = called_apart ∙ ap (λ r. r >>= λ m. Ok (record { tree = called p n ys.trees; kind = m })) (sym kind_is ∙ fault)

    pub called_is : (k : sorts.Kind) → answer ≡ Ok k → settled (declared_by s) ls tops (called p n xs) ≡ Ok (record { tree = called p n ys.trees; kind = k })
    called_is k one = called_apart ∙ ap (λ r. r >>= λ m. Ok (record { tree = called p n ys.trees; kind = m })) (sym kind_is ∙ one)

module _ (d : Declared) (ls : List Local) where
  -- ---- heads

  pub head_by : (now : List Local) (given : Option (Phrase × Kind)) (g : Phrase × Kind) (of : Lists) (tops : List ℕ) (x : PhraseTree) → now ≡ ls → given ≡ Some g → AreSame of (type_in d ls (phrase_view g.0))
      → ((a : Lists) → AreSame of a → AreAlike tops (ends_of a)) → settled d now tops x ≡ settled d ls (tops_of d ls (option_map settled_view given)) x
  head_by now given g of tops x same is type alike =
      settled_by d now ls tops (ends_of (type_in d ls (phrase_view g.0))) x same (alike (type_in d ls (phrase_view g.0)) type)
      ∙ ap (λ (o : Option (Phrase × Kind)). settled d ls (tops_of d ls (option_map settled_view o)) x) (sym is)

  pub asked_brackets : (x : PhraseTree) (steps : StepTrees) (p : Place) (xs : PhraseTrees) (rest : StepTrees) → is_shared x ≡ true → steps ≡ brackets_first p xs rest → argument_asked d ls x steps ≡ argument_first d ls xs
  asked_brackets x steps p xs rest shared is =
      ap (λ (b : Bool). if b then argument_before d ls steps else Ok None) shared ∙ ap (argument_before d ls) is

  pub asked_join : (x : PhraseTree) (steps : StepTrees) (p : Place) (y : PhraseTree) (rest : StepTrees) → steps ≡ join_first p y rest → argument_asked d ls x steps ≡ Ok None
  asked_join x steps p y rest is = ap (λ (ss : StepTrees). argument_asked d ls x ss) is ∙ go (is_shared x)
    where
      go : (b : Bool) → (if b then argument_before d ls (join_first p y rest) else Ok None) ≡ Ok None
      go true = refl
      go false = refl
