-- Each part, as `part` walks it: what is settled first, and what is left then.
use Rattle.std.proofs.Common.{◌≡◌, ℕ, zero, suc, ◌<◌, ◌≤◌, Bool, true, false, ◌||◌, List, [], ◌∷◌, map, length, get_or, arith, Option, Some, None, Result, Ok, Err, OnOk, OnErr, refl, sym, ap, subst, ◌∙◌, true≢false, Box, Vec, Global}
use Rattle.std.specs.List.{slice_get, HoldsAt}
use Rattle.std.specs.Option.{option_map, IfSome, MatchOption}
use Rattle.std.proofs.lemmas.Option.{slice_get-get_or}
use Rattle.alloy_lex.specs.declared.token.Place.{Place}
use Rattle.alloy_syntax.specs.declared.tree.Comparing.{Comparing}
use Rattle.alloy_syntax.specs.declared.tree.Constant.{Constant}
use Rattle.alloy_syntax.specs.declared.tree.Prefix.{Prefix}
use Rattle.alloy_syntax.specs.declared.tree.Quantifier.{Quantifier}
use Rattle.named_model.specs.declared.phrase.Phrase.{Phrase}
use Rattle.named_model.specs.declared.phrase.Phrase.TheVariants as variant
use Rattle.named_model.specs.declared.phrase.Referent.{Referent}
use Rattle.named_model.specs.declared.phrase.Link.{Link}
use Rattle.named_model.specs.declared.phrase.Step.{Step}
use Rattle.named_model.specs.declared.phrase.Domain.{Domain}
use Rattle.named_model.specs.Phrase.{PhraseTree, called, constant, bracketed, block, prefixed, chain, path, compared, implies, implies_else, quantified, bound_by_let, links_of, steps_of, domains_of}
use Rattle.named_model.specs.View.{phrase_view, phrases_view, link_view, step_view, domain_view}
use Rattle.model_types.specs.declared.fault.TypeFault.{TypeFault}
use Rattle.model_types.specs.Bounding.{Lists}
use Rattle.model_types.specs.Sorts as sorts
use Rattle.model_types.specs.Sorts.{constant_arity}
use Rattle.model_types.specs.Typing.{Declared, Local, Settled, call_kind, referent_settled, settled, arguments_settled}
use Rattle.model_types.specs.declared.part_sorts.kinds.Kind.{Kind}
use Rattle.model_types.specs.Parts.Kinds.{kind_view}
use Rattle.overload_resolution.specs.declared.shared_names.headers.Header.{Header}
use Rattle.overload_resolution.specs.Names.Headers.{with_type}
use Rattle.overload_resolution.proofs.Expressions.SeenPhrases.{refers_seen, called_seen, constant_seen, bracketed_seen, block_seen, prefixed_seen, chain_seen, path_seen, compared_seen, implies_seen, else_seen, quantified_seen, bound_seen}
use Rattle.overload_resolution.specs.Settling.Inside.{AreAlikeWhere}
use Rattle.overload_resolution.specs.Settling.Same.{Asks}
use Rattle.overload_resolution.specs.Settling.Told.{Gives}
use Rattle.overload_resolution.specs.declared.typed_scopes.setting.Setting.{Setting}
use Rattle.overload_resolution.specs.Scopes.Declaring.{declared_by}
use Rattle.overload_resolution.specs.Scopes.Given.{settled_view}
use Rattle.overload_resolution.specs.Scopes.Zipped.{IsInside}
use Rattle.overload_resolution.specs.Parts.Given.{GivesBehind}
use Rattle.overload_resolution.specs.declared.settled_parts.building.Arguments.{Arguments}
use Rattle.overload_resolution.specs.Parts.Views.{arguments_view}
use Rattle.overload_resolution.proofs.Parts.Arms.{called_fault, called_is}

-- ---- what asks

pub asks_either : (test other asked : Bool) → asked ≡ (test || other) → Asks (test || other) asked
asks_either test other asked is e = is ∙ e

pub asks_first : (test other asked : Bool) → asked ≡ (test || other) → Asks test asked
asks_first true other asked is e = is
asks_first false other asked is e = absurd (true≢false (sym e))

-- ---- what is found in a list

none_past : {X : Type 0} (xs : List X) (n : ℕ) → length xs ≤ n → slice_get xs n ≡ None
none_past [] n l = refl
none_past (x ∷ xs) zero l = absurd (omega arith)
none_past (x ∷ xs) (suc n) l = none_past xs n (omega arith)

pub entry_read : {A X : Type 0} (see : A → X) (xs : List X) (n : ℕ) (r : Option A) → IfSome r (λ a. see a ≡ get_or xs n (see a))
    → MatchOption r (length xs ≤ n) (λ a. (n < length xs) × HoldsAt (λ y. see a ≡ y) xs n) → option_map see r ≡ slice_get xs n
entry_read see xs n None is l = sym (none_past xs n l)
entry_read see xs n (Some a) is l = sym (slice_get-get_or xs n (see a) l.0 ∙ ap Some (sym is))

-- ---- calls

module _ (s : Setting) (ls : List Local) (p : Place) (n : ℕ) (xs : List Phrase) (a : Arguments) (are : arguments_settled (declared_by s) ls (phrases_view xs) ≡ Ok (arguments_view a))
    (headers : List Header) (known : headers ≡ s.headers.items) (header : Option Header) (there : header ≡ slice_get headers n)
    (arities : List (ℕ × Place)) (those : arities ≡ a.arities.items) (answer : Result sorts.Kind TypeFault)
    (kind : (type : List Lists → Lists) → answer ≡ call_kind p (option_map (with_type type) header) arities) where
  its_kind : (type : List Lists → Lists) → answer ≡ call_kind p (option_map (with_type type) header) (arguments_view a).arities
  its_kind type = kind type ∙ ap (call_kind p (option_map (with_type type) header)) those

  its_header : header ≡ slice_get s.headers.items n
  its_header = there ∙ ap (λ (hs : List Header). slice_get hs n) known

  pub call_fault : (e : TypeFault) → answer ≡ Err e → settled (declared_by s) ls [] (called p n (phrases_view xs)) ≡ Err e
  call_fault e fault = called_fault s ls [] p n (phrases_view xs) (arguments_view a) are header its_header answer its_kind e fault

  pub call_is : (k : Kind) → answer ≡ Ok (kind_view k) → settled (declared_by s) ls [] (called p n (phrases_view xs)) ≡ Ok (settled_view (variant.Called p n a.phrases, k))
  call_is k one =
      called_is s ls [] p n (phrases_view xs) (arguments_view a) are header its_header answer its_kind (kind_view k) one
      ∙ ap (λ (t : PhraseTree). Ok (record { tree = t; kind = kind_view k })) (sym (called_seen p n a.phrases))

-- ---- local names that were entered, unless there was a fault

module _ {X Y : Type 0} (asked : Bool) (see : X → Y) (new middle : List Local) (whole : Result (Y × List Local) TypeFault) where
  entered_at : (r : Result X TypeFault) → OnOk r (new ≡ middle) → GivesBehind asked see r middle whole → GivesBehind asked see r new whole
  entered_at (Ok x) at given = (given.0, given.1, subst (λ (ms : List Local). AreAlikeWhere asked ms given.0) (sym at) given.2)
  entered_at (Err e) at given = given

  pub entered_unless : (result made : Result X TypeFault) → result ≡ made → OnOk result (new ≡ middle) → GivesBehind asked see made middle whole → GivesBehind asked see result new whole
  entered_unless result made is same gives = entered_at result same (subst (λ (r : Result X TypeFault). GivesBehind asked see r middle whole) (sym is) gives)

module _ {X : Type 0} where
  pub left_unless : (result : Result X TypeFault) (depth : ℕ) (new middle outer : List Local) → OnErr result ((ls : List Local) → IsInside middle ls → length ls ≡ depth → new ≡ ls)
      → IsInside middle outer → length outer ≡ depth → OnErr result (new ≡ outer)
  left_unless (Ok x) depth new middle outer left is few = left
  left_unless (Err e) depth new middle outer left is few = left outer is few

  pub inside_unless : (result : Result X TypeFault) (depth : ℕ) (new middle outer : List Local) → OnOk result (new ≡ middle) → OnErr result ((ls : List Local) → IsInside middle ls → length ls ≡ depth → new ≡ ls)
      → IsInside middle outer → length outer ≡ depth → IsInside new outer
  inside_unless (Ok x) depth new middle outer same left is few = (is.0, same ∙ is.1)
  inside_unless (Err e) depth new middle outer same left is few = ([], left outer is few)

-- ---- the parts

module _ (d : Declared) (ls : List Local) (tops : List ℕ) (phrase : Phrase) (result : Result (Phrase × Kind) TypeFault) where
  gives_by : (t : PhraseTree) (whole : Result Settled TypeFault) → phrase_view phrase ≡ t → whole ≡ settled d ls tops t → Gives settled_view result whole → Gives settled_view result (settled d ls tops (phrase_view phrase))
  gives_by t whole seen is gives = subst (λ (r : Result Settled TypeFault). Gives settled_view result r) (is ∙ ap (settled d ls tops) (sym seen)) gives

  pub refers_given : (p : Place) (r : Referent) → phrase ≡ variant.Refers p r → Gives settled_view result (referent_settled d ls tops p r) → Gives settled_view result (settled d ls tops (phrase_view phrase))
  refers_given p r is gives = gives_by _ _ (ap phrase_view is ∙ refers_seen p r) refl gives

  pub call_given : (p : Place) (n : ℕ) (xs : Vec Phrase Global) (ys : List Phrase) → phrase ≡ variant.Called p n xs → ys ≡ xs.items
      → Gives settled_view result (settled d ls [] (called p n (phrases_view ys))) → Gives settled_view result (settled d ls tops (phrase_view phrase))
  call_given p n xs ys is same gives =
      gives_by (called p n (phrases_view xs.items)) (settled d ls [] (called p n (phrases_view ys))) (ap phrase_view is ∙ called_seen p n xs) (λ j. settled d ls tops (called p n (phrases_view (same j)))) gives

  pub brackets_given : (p : Place) (x : Box Phrase Global) (y : Phrase) → phrase ≡ variant.Bracketed p x → y ≡ x.value
      → Gives settled_view result (settled d ls tops (bracketed p (phrase_view y))) → Gives settled_view result (settled d ls tops (phrase_view phrase))
  brackets_given p x y is same gives =
      gives_by (bracketed p (phrase_view x.value)) (settled d ls tops (bracketed p (phrase_view y))) (ap phrase_view is ∙ bracketed_seen p x) (λ j. settled d ls tops (bracketed p (phrase_view (same j)))) gives

  pub block_given : (p : Place) (xs : Vec Phrase Global) (ys : List Phrase) → phrase ≡ variant.Block p xs → ys ≡ xs.items
      → Gives settled_view result (settled d ls [] (block p (phrases_view ys))) → Gives settled_view result (settled d ls tops (phrase_view phrase))
  block_given p xs ys is same gives =
      gives_by (block p (phrases_view xs.items)) (settled d ls [] (block p (phrases_view ys))) (ap phrase_view is ∙ block_seen p xs) (λ j. settled d ls tops (block p (phrases_view (same j)))) gives

  pub prefixed_given : (f : Prefix) (p : Place) (x : Box Phrase Global) (y : Phrase) → phrase ≡ variant.Prefixed f p x → y ≡ x.value
      → Gives settled_view result (settled d ls [] (prefixed f p (phrase_view y))) → Gives settled_view result (settled d ls tops (phrase_view phrase))
  prefixed_given f p x y is same gives =
      gives_by (prefixed f p (phrase_view x.value)) (settled d ls [] (prefixed f p (phrase_view y))) (ap phrase_view is ∙ prefixed_seen f p x) (λ j. settled d ls tops (prefixed f p (phrase_view (same j)))) gives

  pub constant_given : (c : Constant) (p : Place) (y : Phrase × Kind) → phrase ≡ variant.Constant c p → settled_view y ≡ record { tree = constant c p; kind = sorts.relation (constant_arity c) }
      → settled d ls tops (phrase_view phrase) ≡ Ok (settled_view y)
  constant_given c p y is same = ap (settled d ls tops) (ap phrase_view is ∙ constant_seen c p) ∙ ap (λ (z : Settled). Ok z) (sym same)

  -- where several parts stand inside, `h`, `i` and `g` are they

  pub chain_given : (x : Box Phrase Global) (links : Vec Link Global) (h : Phrase) (those : List Link) → phrase ≡ variant.Chain x links → h ≡ x.value → those ≡ links.items
      → Gives settled_view result (settled d ls [] (chain (phrase_view h) (links_of (map link_view those)))) → Gives settled_view result (settled d ls tops (phrase_view phrase))
  chain_given x links h those is first behind gives =
      gives_by (chain (phrase_view x.value) (links_of (map link_view links.items))) (settled d ls [] (chain (phrase_view h) (links_of (map link_view those)))) (ap phrase_view is ∙ chain_seen x links)
      (λ j. settled d ls tops (chain (phrase_view (first j)) (links_of (map link_view (behind j))))) gives

  pub path_given : (x : Box Phrase Global) (steps : Vec Step Global) (h : Phrase) (those : List Step) → phrase ≡ variant.Path x steps → h ≡ x.value → those ≡ steps.items
      → Gives settled_view result (settled d ls [] (path (phrase_view h) (steps_of (map step_view those)))) → Gives settled_view result (settled d ls tops (phrase_view phrase))
  path_given x steps h those is first behind gives =
      gives_by (path (phrase_view x.value) (steps_of (map step_view steps.items))) (settled d ls [] (path (phrase_view h) (steps_of (map step_view those)))) (ap phrase_view is ∙ path_seen x steps)
      (λ j. settled d ls tops (path (phrase_view (first j)) (steps_of (map step_view (behind j))))) gives

  pub compared_given : (x z : Box Phrase Global) (c : Comparing) (h i : Phrase) → phrase ≡ variant.Compared x c z → h ≡ x.value → i ≡ z.value
      → Gives settled_view result (settled d ls [] (compared (phrase_view h) c (phrase_view i))) → Gives settled_view result (settled d ls tops (phrase_view phrase))
  compared_given x z c h i is first second gives =
      gives_by (compared (phrase_view x.value) c (phrase_view z.value)) (settled d ls [] (compared (phrase_view h) c (phrase_view i))) (ap phrase_view is ∙ compared_seen x c z)
      (λ j. settled d ls tops (compared (phrase_view (first j)) c (phrase_view (second j)))) gives

  pub implied_given : (x z : Box Phrase Global) (p : Place) (h i : Phrase) → phrase ≡ variant.Implies x p z → h ≡ x.value → i ≡ z.value
      → Gives settled_view result (settled d ls [] (implies (phrase_view h) p (phrase_view i))) → Gives settled_view result (settled d ls tops (phrase_view phrase))
  implied_given x z p h i is first second gives =
      gives_by (implies (phrase_view x.value) p (phrase_view z.value)) (settled d ls [] (implies (phrase_view h) p (phrase_view i))) (ap phrase_view is ∙ implies_seen x p z)
      (λ j. settled d ls tops (implies (phrase_view (first j)) p (phrase_view (second j)))) gives

  pub else_given : (x z w : Box Phrase Global) (p : Place) (h i g : Phrase) → phrase ≡ variant.ImpliesElse x p z w → h ≡ x.value → i ≡ z.value → g ≡ w.value
      → Gives settled_view result (settled d ls [] (implies_else (phrase_view h) p (phrase_view i) (phrase_view g))) → Gives settled_view result (settled d ls tops (phrase_view phrase))
  else_given x z w p h i g is first second third gives =
      gives_by (implies_else (phrase_view x.value) p (phrase_view z.value) (phrase_view w.value)) (settled d ls [] (implies_else (phrase_view h) p (phrase_view i) (phrase_view g))) (ap phrase_view is ∙ else_seen x p z w)
      (λ j. settled d ls tops (implies_else (phrase_view (first j)) p (phrase_view (second j)) (phrase_view (third j)))) gives

  pub quantified_given : (q : Quantifier) (p : Place) (ds : Vec Domain Global) (x : Box Phrase Global) (those : List Domain) (h : Phrase) → phrase ≡ variant.Quantified q p ds x → those ≡ ds.items → h ≡ x.value
      → Gives settled_view result (settled d ls [] (quantified q p (domains_of (map domain_view those)) (phrase_view h))) → Gives settled_view result (settled d ls tops (phrase_view phrase))
  quantified_given q p ds x those h is same inner gives =
      gives_by (quantified q p (domains_of (map domain_view ds.items)) (phrase_view x.value)) (settled d ls [] (quantified q p (domains_of (map domain_view those)) (phrase_view h))) (ap phrase_view is ∙ quantified_seen q p ds x)
      (λ j. settled d ls tops (quantified q p (domains_of (map domain_view (same j))) (phrase_view (inner j)))) gives

  pub let_given : (p : Place) (xs : Vec Phrase Global) (x : Box Phrase Global) (those : List Phrase) (h : Phrase) → phrase ≡ variant.Let p xs x → those ≡ xs.items → h ≡ x.value
      → Gives settled_view result (settled d ls [] (bound_by_let p (phrases_view those) (phrase_view h))) → Gives settled_view result (settled d ls tops (phrase_view phrase))
  let_given p xs x those h is same inner gives =
      gives_by (bound_by_let p (phrases_view xs.items) (phrase_view x.value)) (settled d ls [] (bound_by_let p (phrases_view those) (phrase_view h))) (ap phrase_view is ∙ bound_seen p xs x)
      (λ j. settled d ls tops (bound_by_let p (phrases_view (same j)) (phrase_view (inner j)))) gives
