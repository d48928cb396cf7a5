-- What is found of a model is found of what says it.
use Rattle.std.proofs.Common.{◌≡◌, ℕ, List, [], Result, Ok, Err, MatchResult, refl, ap, ◌∙◌, subst}
use Rattle.alloy_lex.specs.declared.token.Token.{Token}
use Rattle.alloy_lex.specs.Tokens.{tokens_of}
use Rattle.alloy_syntax.specs.Tree.{ModelTree}
use Rattle.alloy_syntax.specs.ParserTokens.{seen_all}
use Rattle.alloy_syntax.specs.Paragraphs.{model_of}
use Rattle.named_model.specs.Model.{NamedTree}
use Rattle.named_model.specs.Declarations.{named_of}
use Rattle.named_model.specs.Faults.{faults_in}
use Rattle.named_model.specs.Answers.{◌>>=◌}
use Rattle.model_types.specs.declared.fault.TypeFault.{TypeFault}
use Rattle.model_types.specs.Sorts.{Checked}
use Rattle.model_types.specs.Models.{settled_in, types_checked}
use Rattle.alloy_types.specs.Typed.{typed}
use Rattle.rel_lower.specs.Lowered.{IsTyped}
use Rattle.bench_models.specs.declared.found.Found.{Found}
use Rattle.bench_models.specs.declared.found.Found.TheVariants as shown
use Rattle.bench_models.specs.Readings.{IsFound, IsFoundIn, IsFoundNamed, IsFoundOf, IsSaid}

-- ---- a model with types

behind_ok : (r : Checked) (m y : NamedTree) → (r >>= λ done. Ok m) ≡ Ok y → (r ≡ Ok tt) × (y ≡ m)
behind_ok (Ok one) m y e = (refl, subst (λ (r : Result NamedTree TypeFault). MatchResult r (λ x. x ≡ m) (λ _. ⊥)) e refl)
behind_ok (Err f) m y e = absurd (let k : Err f ≡ Ok y = e in cc)

pub are_typed : (m y : NamedTree) → typed m ≡ Ok y → (types_checked m ≡ Ok tt) × (y ≡ settled_in m)
are_typed m y e = behind_ok (types_checked m) (settled_in m) y e

pub is_typed : (m y : NamedTree) → IsSaid m → typed m ≡ Ok y → IsTyped y
is_typed m y said e =
    let is = are_typed m y e in
    record {
      tree = said.tree;
      names = said.names;
      types = subst (λ (n : NamedTree). types_checked n ≡ Ok tt) said.is is.0;
      settled = is.1 ∙ ap settled_in said.is;
    }

-- ---- what is found above

pub of_typed : (m y : NamedTree) (x : Found) → typed m ≡ Ok y → IsFoundOf y x → IsFoundNamed m x
of_typed m y (shown.Types c) e h = let is = are_typed m y e in record { types = is.0; found = subst (λ (n : NamedTree). IsFoundOf n (shown.Types c)) is.1 h }
of_typed m y (shown.Problem r c) e h = let is = are_typed m y e in record { types = is.0; found = subst (λ (n : NamedTree). IsFoundOf n (shown.Problem r c)) is.1 h }
of_typed m y (shown.Terms k) e h = let is = are_typed m y e in record { types = is.0; found = subst (λ (n : NamedTree). IsFoundOf n (shown.Terms k)) is.1 h }
of_typed m y (shown.NoProblem f) e h = let is = are_typed m y e in record { types = is.0; found = subst (λ (n : NamedTree). IsFoundOf n (shown.NoProblem f)) is.1 h }
of_typed m y shown.Text e h = absurd h
of_typed m y (shown.Tree n) e h = absurd h
of_typed m y (shown.Names c) e h = absurd h
of_typed m y (shown.NoTokens f) e h = absurd h
of_typed m y (shown.NoTree f) e h = absurd h
of_typed m y (shown.BadName f) e h = absurd h
of_typed m y (shown.BadType f) e h = absurd h

pub of_named : (tree : ModelTree) (m : NamedTree) (x : Found) → faults_in tree ≡ [] → m ≡ named_of tree → IsFoundNamed m x → IsFoundIn tree x
of_named tree m (shown.Names c) none is h = record { names = none; found = subst (λ (n : NamedTree). IsFoundNamed n (shown.Names c)) is h }
of_named tree m (shown.BadType f) none is h = record { names = none; found = subst (λ (n : NamedTree). IsFoundNamed n (shown.BadType f)) is h }
of_named tree m (shown.Types c) none is h = record { names = none; found = subst (λ (n : NamedTree). IsFoundNamed n (shown.Types c)) is h }
of_named tree m (shown.Problem r c) none is h = record { names = none; found = subst (λ (n : NamedTree). IsFoundNamed n (shown.Problem r c)) is h }
of_named tree m (shown.Terms k) none is h = record { names = none; found = subst (λ (n : NamedTree). IsFoundNamed n (shown.Terms k)) is h }
of_named tree m (shown.NoProblem f) none is h = record { names = none; found = subst (λ (n : NamedTree). IsFoundNamed n (shown.NoProblem f)) is h }
of_named tree m shown.Text none is h = absurd h.found
of_named tree m (shown.Tree n) none is h = absurd h.found
of_named tree m (shown.NoTokens f) none is h = absurd h.found
of_named tree m (shown.NoTree f) none is h = absurd h.found
of_named tree m (shown.BadName f) none is h = absurd h.found

pub of_tree : (text : List ℕ) (tokens : List Token) (tree : ModelTree) (x : Found) → tokens_of text ≡ Ok tokens → model_of (seen_all tokens) ≡ Ok tree → IsFoundIn tree x → IsFound text x
of_tree text ts tree (shown.Tree n) e d h = record { tokens = ts; tree = tree; lexed = e; parsed = d; found = h }
of_tree text ts tree (shown.BadName f) e d h = record { tokens = ts; tree = tree; lexed = e; parsed = d; found = h }
of_tree text ts tree (shown.Names c) e d h = record { tokens = ts; tree = tree; lexed = e; parsed = d; found = h }
of_tree text ts tree (shown.BadType f) e d h = record { tokens = ts; tree = tree; lexed = e; parsed = d; found = h }
of_tree text ts tree (shown.Types c) e d h = record { tokens = ts; tree = tree; lexed = e; parsed = d; found = h }
of_tree text ts tree (shown.Problem r c) e d h = record { tokens = ts; tree = tree; lexed = e; parsed = d; found = h }
of_tree text ts tree (shown.Terms k) e d h = record { tokens = ts; tree = tree; lexed = e; parsed = d; found = h }
of_tree text ts tree (shown.NoProblem f) e d h = record { tokens = ts; tree = tree; lexed = e; parsed = d; found = h }
of_tree text ts tree shown.Text e d h = tt
of_tree text ts tree (shown.NoTokens f) e d h = absurd h.found.found
of_tree text ts tree (shown.NoTree f) e d h = absurd h.found.found
