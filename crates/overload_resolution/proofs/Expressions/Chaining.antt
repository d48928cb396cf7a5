-- Types as far as a loop has come.
use Rattle.std.proofs.Common.{◌≡◌, ℕ, ◌+◌, ◌<◌, ◌≤◌, List, [], ◌∷◌, ◌++◌, length, map, drop, reverse, get_or, refl, sym, ap, ◌∙◌, subst, append_assoc, append-nil}
use Rattle.std.proofs.lemmas.List.{drop_more, drop_all}
use Rattle.named_model.specs.declared.phrase.Phrase.{Phrase}
use Rattle.named_model.specs.declared.phrase.Link.{Link}
use Rattle.named_model.specs.declared.phrase.Step.{Step}
use Rattle.named_model.specs.Phrase.{StepTree, StepTrees, joined, in_brackets, step_first, links_of, steps_of}
use Rattle.named_model.specs.View.{phrase_view, phrases_view, link_view, step_view}
use Rattle.model_types.specs.Bounding.{Lists, Types, type_of, types_of, links_type, steps_type, joins, brackets_type}
use Rattle.model_types.specs.Bounds.Same.{AreSame}
use Rattle.overload_resolution.specs.declared.expression_types.known.Known.{Known}
use Rattle.overload_resolution.specs.Expressions.Types.{AreEachSame, StandFor}
use Rattle.overload_resolution.specs.Expressions.Chains.{link_type, step_type}
use Rattle.overload_resolution.proofs.Expressions.Each.{each_append, each_first, each_none}

-- ---- joins with what stands in brackets

abbrev pub Bracketed : Lists → List Lists → ℕ → Lists → Type 0
Bracketed head arguments i all = (x : Lists) (ys : List Lists) → AreSame head x → AreEachSame arguments ys
    → (y : Lists) × (zs : List Lists) × AreSame all y × AreEachSame (drop i arguments) zs × (brackets_type y zs ≡ brackets_type x ys)

pub bracketed_turn : (head : Lists) (arguments : List Lists) (i : ℕ) (all argument new : Lists) → i < length arguments → argument ≡ get_or arguments i argument
    → ((x y : Lists) → AreSame argument x → AreSame all y → AreSame new (joins x y)) → Bracketed head arguments i all → Bracketed head arguments (i + 1) new
bracketed_turn head arguments i all argument new l is made before = λ x ys h k.
    let w = before x ys h k in
    let f = each_first arguments w.1 i argument l is w.3 in
    (joins f.0 w.0, f.1, made f.0 w.0 f.3 w.2, f.4, sym (ap (brackets_type w.0) f.2) ∙ w.4)

pub bracketed_end : (head : Lists) (arguments : List Lists) (i : ℕ) (all : Lists) → length arguments ≤ i → Bracketed head arguments i all
    → (x : Lists) (ys : List Lists) → AreSame head x → AreEachSame arguments ys → AreSame all (brackets_type x ys)
bracketed_end head arguments i all l before = λ x ys h k.
    let w = before x ys h k in
    let is : w.0 ≡ brackets_type x ys = sym (ap (brackets_type w.0) (each_none arguments w.1 i l w.3)) ∙ w.4 in
    subst (λ (z : Lists). AreSame all z) is w.2

module _ (known : Known) (calls : ℕ) (locals : List Lists) where
  -- ---- parts in order

  abbrev pub Typed : List Phrase → ℕ → List Lists → Type 0
  Typed phrases i types = (t : Types) (ls : List Lists) → StandFor known calls t → AreEachSame (reverse locals) ls
      → (ys : List Lists) × AreEachSame types ys × (ys ++ types_of t ls (phrases_view (drop i phrases)) ≡ types_of t ls (phrases_view phrases))

  pub typed_turn : (phrases : List Phrase) (i : ℕ) (types new : List Lists) (x : Phrase) (found : Lists) → i < length phrases → x ≡ get_or phrases i x
      → ((t : Types) (ls : List Lists) → StandFor known calls t → AreEachSame (reverse locals) ls → AreSame found (type_of t ls (phrase_view x)))
      → new ≡ types ++ found ∷ [] → Typed phrases i types → Typed phrases (i + 1) new
  typed_turn phrases i types new x found l is made e before = λ t ls s h.
      let w = before t ls s h in
      let more : List Lists = w.0 ++ type_of t ls (phrase_view x) ∷ [] in (
        more,
        subst (λ (ys : List Lists). AreEachSame ys more) (sym e) (each_append types (found ∷ []) w.0 (type_of t ls (phrase_view x) ∷ []) w.1 (made t ls s h, tt)),
        append_assoc w.0 (type_of t ls (phrase_view x) ∷ []) (types_of t ls (phrases_view (drop (i + 1) phrases)))
            ∙ ap (λ (ys : List Phrase). w.0 ++ types_of t ls (phrases_view ys)) (sym (drop_more phrases i x l ∙ ap (λ (y : Phrase). y ∷ drop (i + 1) phrases) (sym is)))
            ∙ w.2,
      )

  pub typed_end : (phrases : List Phrase) (i : ℕ) (types : List Lists) → length phrases ≤ i → Typed phrases i types
      → (t : Types) (ls : List Lists) → StandFor known calls t → AreEachSame (reverse locals) ls → AreEachSame types (types_of t ls (phrases_view phrases))
  typed_end phrases i types l before = λ t ls s h.
      let w = before t ls s h in
      let is : w.0 ≡ types_of t ls (phrases_view phrases) =
      sym (append-nil w.0) ∙ ap (λ (ys : List Phrase). w.0 ++ types_of t ls (phrases_view ys)) (sym (drop_all i phrases l)) ∙ w.2 in
      subst (λ (ys : List Lists). AreEachSame types ys) is w.1

  -- ---- links

  abbrev pub Linked : Lists → List Link → ℕ → Lists → Type 0
  Linked first links i all = (t : Types) (ls : List Lists) (x : Lists) → StandFor known calls t → AreEachSame (reverse locals) ls → AreSame first x
      → (y : Lists) × AreSame all y × (links_type t ls y (links_of (map link_view (drop i links))) ≡ links_type t ls x (links_of (map link_view links)))

  pub linked_turn : (first : Lists) (links : List Link) (i : ℕ) (all new : Lists) (l : Link) → i < length links → l ≡ get_or links i l
      → ((t : Types) (ls : List Lists) (x : Lists) → StandFor known calls t → AreEachSame (reverse locals) ls → AreSame all x → AreSame new (link_type t ls x (link_view l)))
      → Linked first links i all → Linked first links (i + 1) new
  linked_turn first links i all new l below is made before = λ t ls x s h k.
      let w = before t ls x s h k in (
        link_type t ls w.0 (link_view l),
        made t ls w.0 s h w.1,
        ap (λ (ks : List Link). links_type t ls w.0 (links_of (map link_view ks))) (sym (drop_more links i l below ∙ ap (λ (k : Link). k ∷ drop (i + 1) links) (sym is))) ∙ w.2,
      )

  pub linked_end : (first : Lists) (links : List Link) (i : ℕ) (all : Lists) → length links ≤ i → Linked first links i all
      → (t : Types) (ls : List Lists) (x : Lists) → StandFor known calls t → AreEachSame (reverse locals) ls → AreSame first x → AreSame all (links_type t ls x (links_of (map link_view links)))
  linked_end first links i all l before = λ t ls x s h k.
      let w = before t ls x s h k in
      let is : w.0 ≡ links_type t ls x (links_of (map link_view links)) =
      ap (λ (ks : List Link). links_type t ls w.0 (links_of (map link_view ks))) (sym (drop_all i links l)) ∙ w.2 in
      subst (λ (z : Lists). AreSame all z) is w.1

  -- ---- steps

  step_more : (t : Types) (ls : List Lists) (y : Lists) (s : StepTree) (rest : StepTrees) → steps_type t ls (step_type t ls y s) rest ≡ steps_type t ls y (step_first s rest)
  step_more t ls y (joined p x) rest = refl
  step_more t ls y (in_brackets p xs) rest = refl

  abbrev pub Stepped : Lists → List Step → ℕ → Lists → Type 0
  Stepped head steps i all = (t : Types) (ls : List Lists) (x : Lists) → StandFor known calls t → AreEachSame (reverse locals) ls → AreSame head x
      → (y : Lists) × AreSame all y × (steps_type t ls y (steps_of (map step_view (drop i steps))) ≡ steps_type t ls x (steps_of (map step_view steps)))

  pub stepped_turn : (head : Lists) (steps : List Step) (i : ℕ) (all new : Lists) (l : Step) → i < length steps → l ≡ get_or steps i l
      → ((t : Types) (ls : List Lists) (x : Lists) → StandFor known calls t → AreEachSame (reverse locals) ls → AreSame all x → AreSame new (step_type t ls x (step_view l)))
      → Stepped head steps i all → Stepped head steps (i + 1) new
  stepped_turn head steps i all new l below is made before = λ t ls x s h k.
      let w = before t ls x s h k in (
        step_type t ls w.0 (step_view l),
        made t ls w.0 s h w.1,
        step_more t ls w.0 (step_view l) (steps_of (map step_view (drop (i + 1) steps)))
            ∙ ap (λ (ks : List Step). steps_type t ls w.0 (steps_of (map step_view ks))) (sym (drop_more steps i l below ∙ ap (λ (k : Step). k ∷ drop (i + 1) steps) (sym is))) ∙ w.2,
      )

  pub stepped_end : (head : Lists) (steps : List Step) (i : ℕ) (all : Lists) → length steps ≤ i → Stepped head steps i all
      → (t : Types) (ls : List Lists) (x : Lists) → StandFor known calls t → AreEachSame (reverse locals) ls → AreSame head x → AreSame all (steps_type t ls x (steps_of (map step_view steps)))
  stepped_end head steps i all l before = λ t ls x s h k.
      let w = before t ls x s h k in
      let is : w.0 ≡ steps_type t ls x (steps_of (map step_view steps)) =
      ap (λ (ks : List Step). steps_type t ls w.0 (steps_of (map step_view ks))) (sym (drop_all i steps l)) ∙ w.2 in
      subst (λ (z : Lists). AreSame all z) is w.1
